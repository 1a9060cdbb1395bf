-- Bytes that were written up to some place.
use Rattle.std.proofs.Common.{◌≡◌, ◌≤◌, ℕ, List, [], ◌∷◌, ◌++◌, take, drop, length, Option, Some, None, sym, ap, ◌∙◌, arith, subst, append_assoc, append-nil, length-append, take-append-drop}
use Rattle.std.proofs.Math.Seq.{take-append_seam}
use Rattle.std.proofs.lemmas.List.{take_all}
use Rattle.std.specs.Prelude.{Result, Ok, Err, OnOk, OnErr}
use Rattle.std.specs.Io.KnownBytes.{Appends, Keeps}
use Rattle.fpl_base.specs.Causes.{AppendsFront}

-- a front of the bytes was written, and the rest is still to come
abbrev pub HasWritten : Option (List ℕ) → Option (List ℕ) → List ℕ → List ℕ → Type 0
HasWritten old new bytes rest = (front : List ℕ) × (bytes ≡ front ++ rest) × Appends old new front

appends_more : (old mid new : Option (List ℕ)) (xs ys : List ℕ) → Appends old mid xs → Appends mid new ys → Appends old new (xs ++ ys)
appends_more None mid new xs ys p q = tt
appends_more (Some a) None new xs ys p q = absurd p
appends_more (Some a) (Some b) None xs ys p q = absurd q
appends_more (Some a) (Some b) (Some c) xs ys p q = q ∙ (ap (λ r. r ++ ys) p ∙ append_assoc a xs ys)

pub appends_kept : (old mid new : Option (List ℕ)) (xs : List ℕ) → Appends old mid xs → Keeps mid new → Appends old new xs
appends_kept None mid new xs p q = tt
appends_kept (Some a) None new xs p q = absurd p
appends_kept (Some a) (Some b) None xs p q = absurd q
appends_kept (Some a) (Some b) (Some c) xs p q = q ∙ p

pub written_more : (old mid new : Option (List ℕ)) (bytes rest : List ℕ) (n : ℕ) → HasWritten old mid bytes rest → Appends mid new (take n rest) → HasWritten old new bytes (drop n rest)
written_more old mid new bytes rest n (front, is, p) q =
    (front ++ take n rest, is ∙ (ap (λ r. front ++ r) (sym (take-append-drop n rest)) ∙ sym (append_assoc front (take n rest) (drop n rest))), appends_more old mid new front (take n rest) p q)

pub written_kept : (old mid new : Option (List ℕ)) (bytes rest : List ℕ) → HasWritten old mid bytes rest → Keeps mid new → HasWritten old new bytes rest
written_kept old mid new bytes rest (front, is, p) q = (front, is, appends_kept old mid new front p q)

pub written_front : (old new : Option (List ℕ)) (bytes rest : List ℕ) → HasWritten old new bytes rest → AppendsFront old new bytes
written_front old new bytes rest (front, is, p) =
    let long : length front ≤ length bytes = omega (arith, ap length is, length-append front rest) in
    let same : take (length front) bytes ≡ front = ap (take (length front)) is ∙ take-append_seam front rest in
    (length front, long, subst (Appends old new) (sym same) p)

pub written_whole : (old new : Option (List ℕ)) (bytes rest : List ℕ) → HasWritten old new bytes rest → length rest ≡ 0 → Appends old new bytes
written_whole old new bytes [] (front, is, p) e = subst (Appends old new) (sym (is ∙ append-nil front)) p
written_whole old new bytes (x ∷ xs) (front, is, p) e = absurd (omega (arith, e))

pub written_slice : (old mid new : Option (List ℕ)) (bytes rest : List ℕ) (n m : ℕ) → HasWritten old mid bytes rest → Appends mid new (take n rest) → length (drop n rest) ≤ m → HasWritten old new bytes (take m (drop n rest))
written_slice old mid new bytes rest n m p q long = subst (HasWritten old new bytes) (sym (take_all m (drop n rest) long)) (written_more old mid new bytes rest n p q)

pub on_ok : {T E : Type 0} {P : Type 0} (r : Result T E) → P → OnOk r P
on_ok (Ok x) p = p
on_ok (Err e) p = tt

pub on_err : {T E : Type 0} {P : Type 0} (r : Result T E) → P → OnErr r P
on_err (Ok x) p = tt
on_err (Err e) p = p
