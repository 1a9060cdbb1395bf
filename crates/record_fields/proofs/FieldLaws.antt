-- What was written is read, and what is read was written, for each kind of field.
use Rattle.std.proofs.Common.{◌≡◌, ℕ, zero, suc, ◌+◌, ◌^◌, ◌<◌, ◌≤◌, Bool, true, false, cond, ◌==◌, ltb, List, [], ◌∷◌, ◌++◌, length, get_or, take, drop, flat_map, Option, Some, None, refl, sym, ap, subst, ◌∙◌, append_assoc, append-nil, arith, inl, inr}
use Rattle.std.specs.List.{AllByRecursion}
use Rattle.std.specs.Prelude.{find}
use Rattle.std.specs.Int.{Width, w16, w32, w64, byte_len, from_be_bytes, to_be_bytes}
use Rattle.std.proofs.lemmas.Bool.{cases_lt, eqb-true, ltb-false, le-ltb}
use Rattle.std.proofs.lemmas.Bool.Decides.{nat_tests}
use Rattle.std.proofs.lemmas.List.{take_at, drop_at, take-append-drop, length-append, length-take, get_or-drop, get_or-take, get_or_past, nil_from_length}
use Rattle.std.proofs.lemmas.Nat.{be_bytes_2, be_bytes_4, be_bytes_8, from_be_bytes-to_be_bytes_2, from_be_bytes-to_be_bytes_4, from_be_bytes-to_be_bytes_8}
use Rattle.std.proofs.lemmas.Option.{same_Some, none-some, cond_some}
use Rattle.record_fields.specs.Fields.{byte, number, or_zero}
use Rattle.record_fields.specs.Ranges.{is_between, is_place}
use Rattle.record_fields.specs.Reading.{Reader, ◌>>=◌, byte_at, number_at, front_at, nothing_at, meant, both_at, many_at, counted, kept, within, text_at, numbered, gameweek_of, whole_of}

abbrev pub IsBytes : List ℕ → Type 0
IsBytes bytes = (i : ℕ) → get_or bytes i 0 < 256

IsBytes-drop : (n : ℕ) (bytes : List ℕ) → IsBytes bytes → IsBytes (drop n bytes)
IsBytes-drop n bytes h i = rw get_or-drop (h (n + i))

IsBytes-take : (n : ℕ) (bytes : List ℕ) → IsBytes bytes → IsBytes (take n bytes)
IsBytes-take n bytes h i =
    elim (cases_lt i n) [
      | inl lt ↦ rw (get_or-take n bytes i 0 lt) (h i)
      | inr le ↦ rw (get_or_past (take n bytes) i 0 (omega (arith, length-take n bytes))) (omega arith)
    ]

IsBytes-rest : (b : ℕ) (bytes : List ℕ) → IsBytes (b ∷ bytes) → IsBytes bytes
IsBytes-rest b bytes h i = h (suc i)

-- what bytes begin with, the bytes behind it, and what is so of the value
pub record Taken (bytes text rest : List ℕ) (fact : Type 0) : Type 0 where
  pub parts : bytes ≡ text ++ rest
  pub bytes_behind : IsBytes rest
  pub fits : fact

-- what is read was written, and fits
abbrev pub Takes : {A : Type 0} → (A → List ℕ) → (A → Type 0) → Reader A → Type 0
Takes {A} write Fits read = (bytes : List ℕ) (x : A × List ℕ) → IsBytes bytes → read bytes ≡ Some x → Taken bytes (write x.0) x.1 (Fits x.0)

-- a way to write the values that fit, and to read them
pub record Reads {A : Type 0} (write : A → List ℕ) (Fits : A → Type 0) (read : Reader A) : Type 0 where
  pub again : (a : A) (rest : List ℕ) → Fits a → read (write a ++ rest) ≡ Some (a, rest)
  pub takes : Takes write Fits read

-- the same of values that stand last: they need not tell where they end
pub record ReadsLast {A : Type 0} (write : A → List ℕ) (Fits : A → Type 0) (read : Reader A) : Type 0 where
  pub again : (a : A) → Fits a → read (write a) ≡ Some (a, [])
  pub takes : Takes write Fits read

pub at_last : {A : Type 0} {w : A → List ℕ} {F : A → Type 0} {r : Reader A} → Reads w F r → ReadsLast w F r
at_last {A} {w} {F} {r} reads = record {
  again = λ a fits. ap r (sym (append-nil (w a))) ∙ reads.again a [] fits;
  takes = reads.takes;
}

-- the value of a step that did not fail
pub got : {A B : Type 0} (o : Option A) (f : A → Option B) (y : B) → (o >>= f) ≡ Some y → (x : A) × (o ≡ Some x) × (f x ≡ Some y)
got None f y e = absurd (none-some y e)
got (Some x) f y e = (x, refl, e)

unless_some : {A : Type 0} (b : Bool) (x y : A) → cond b None (Some x) ≡ Some y → (b ≡ false) × (x ≡ y)
unless_some true x y e = absurd (none-some y e)
unless_some false x y e = (refl, same_Some x y e)

-- Numbers.

pub byte_reads : Reads byte (λ n. n < 256) byte_at
byte_reads = record {
  again = λ n rest fits. refl;
  takes = byte_takes;
}
  where
    byte_takes : (bytes : List ℕ) (x : ℕ × List ℕ) → IsBytes bytes → byte_at bytes ≡ Some x → Taken bytes (byte x.0) x.1 (x.0 < 256)
    byte_takes [] x fits e = absurd (none-some x e)
    byte_takes (b ∷ rest) x fits e =
        subst (λ (y : ℕ × List ℕ). Taken (b ∷ rest) (byte y.0) y.1 (y.0 < 256)) (same_Some {A = ℕ × List ℕ} (b, rest) x e)
        (record { parts = refl; bytes_behind = IsBytes-rest b rest fits; fits = fits 0 })

record IsWide (w : Width) (limit : ℕ) : Type 0 where
  pub len : (n : ℕ) → length (to_be_bytes w n) ≡ byte_len w
  pub back : (bytes : List ℕ) → length bytes ≡ byte_len w → IsBytes bytes → to_be_bytes w (from_be_bytes w bytes) ≡ bytes
  pub again : (n : ℕ) → n < limit → from_be_bytes w (to_be_bytes w n) ≡ n
  pub below : (bytes : List ℕ) → IsBytes bytes → from_be_bytes w bytes < limit

wide16 : IsWide w16 (2 ^ 16)
wide16 = record {
  len = λ n. refl;
  back = λ bytes len fits. be_bytes_2 bytes _ len fits refl;
  again = λ n lt. from_be_bytes-to_be_bytes_2 n lt;
  below = λ bytes fits. omega (arith, fits 0, fits 1);
}

wide32 : IsWide w32 (2 ^ 32)
wide32 = record {
  len = λ n. refl;
  back = λ bytes len fits. be_bytes_4 bytes _ len fits refl;
  again = λ n lt. from_be_bytes-to_be_bytes_4 n lt;
  below = λ bytes fits. omega (arith, fits 0, fits 1, fits 2, fits 3);
}

wide64 : IsWide w64 (2 ^ 64)
wide64 = record {
  len = λ n. refl;
  back = λ bytes len fits. be_bytes_8 bytes _ len fits refl;
  again = λ n lt. from_be_bytes-to_be_bytes_8 n lt;
  below = λ bytes fits. omega (arith, fits 0, fits 1, fits 2, fits 3, fits 4, fits 5, fits 6, fits 7);
}

number_takes : (w : Width) (limit : ℕ) → IsWide w limit → (bytes : List ℕ) (x : ℕ × List ℕ) → IsBytes bytes → number_at w bytes ≡ Some x → Taken bytes (number w x.0) x.1 (x.0 < limit)
unfolding number_at number
number_takes w limit wide bytes x fits e =
    let n : ℕ = from_be_bytes w (take (byte_len w) bytes) in
    let g = unless_some (ltb (length bytes) (byte_len w)) (n, drop (byte_len w) bytes) x e in
    let long : byte_len w ≤ length bytes = ltb-false _ _ g.0 in
    let front : to_be_bytes w n ≡ take (byte_len w) bytes = wide.back (take (byte_len w) bytes) (omega (arith, length-take (byte_len w) bytes)) (IsBytes-take (byte_len w) bytes fits) in
    subst (λ (y : ℕ × List ℕ). Taken bytes (to_be_bytes w y.0) y.1 (y.0 < limit)) g.1
    (record {
      parts = sym (ap (λ (t : List ℕ). t ++ drop (byte_len w) bytes) front ∙ take-append-drop (byte_len w) bytes);
      bytes_behind = IsBytes-drop (byte_len w) bytes fits;
      fits = wide.below (take (byte_len w) bytes) (IsBytes-take (byte_len w) bytes fits);
    })

number_again : (w : Width) (limit : ℕ) → IsWide w limit → (n : ℕ) (rest : List ℕ) → n < limit → number_at w (number w n ++ rest) ≡ Some (n, rest)
unfolding number_at number
number_again w limit wide n rest lt =
    let len = wide.len n in
    let long : ltb (length (to_be_bytes w n ++ rest)) (byte_len w) ≡ false = le-ltb _ _ (omega (arith, length-append (to_be_bytes w n) rest)) in
    rw (long, take_at (to_be_bytes w n) rest (byte_len w) len, drop_at (to_be_bytes w n) rest (byte_len w) len, wide.again n lt) refl

number_reads : (w : Width) (limit : ℕ) → IsWide w limit → Reads (number w) (λ n. n < limit) (number_at w)
number_reads w limit wide = record { again = number_again w limit wide; takes = number_takes w limit wide }

pub u16_reads : Reads (number w16) (λ n. n < 2 ^ 16) (number_at w16)
u16_reads = number_reads w16 (2 ^ 16) wide16

pub u32_reads : Reads (number w32) (λ n. n < 2 ^ 32) (number_at w32)
u32_reads = number_reads w32 (2 ^ 32) wide32

pub u64_reads : Reads (number w64) (λ n. n < 2 ^ 64) (number_at w64)
u64_reads = number_reads w64 (2 ^ 64) wide64

pub nothing_reads : Reads (λ (u : Unit {0}). []) (λ u. Unit {0}) nothing_at
nothing_reads = record {
  again = λ u rest fits. refl;
  takes = λ bytes x fits e.
      subst (λ (y : Unit {0} × List ℕ). Taken bytes [] y.1 (Unit {0})) (same_Some {A = Unit {0} × List ℕ} (tt, bytes) x e)
      (record { parts = refl; bytes_behind = fits; fits = tt });
}

-- Joining.

both_takes : {A B : Type 0} {w : A → List ℕ} {F : A → Type 0} {r : Reader A} {v : A → B → List ℕ} {G : A → B → Type 0} {s : A → Reader B}
    → Reads w F r → ((a : A) → ReadsLast (v a) (G a) (s a)) → Takes (λ (p : A × B). w p.0 ++ v p.0 p.1) (λ p. F p.0 × G p.0 p.1) (both_at r s)
both_takes {A} {B} {w} {F} {r} {v} {G} {s} first second bytes x fits e =
    let a = got (r bytes) (λ a. s a.0 a.1 >>= λ b. Some ((a.0, b.0), b.1)) x e in
    let b = got (s a.0.0 a.0.1) (λ b. Some ((a.0.0, b.0), b.1)) x a.2 in
    let t0 = first.takes bytes a.0 fits a.1 in
    let t1 = (second a.0.0).takes a.0.1 b.0 t0.bytes_behind b.1 in
    subst (λ (y : (A × B) × List ℕ). Taken bytes (w y.0.0 ++ v y.0.0 y.0.1) y.1 (F y.0.0 × G y.0.0 y.0.1))
    (same_Some {A = (A × B) × List ℕ} ((a.0.0, b.0.0), b.0.1) x b.2)
    (record {
      parts = t0.parts ∙ ap (λ (t : List ℕ). w a.0.0 ++ t) t1.parts ∙ sym (append_assoc (w a.0.0) (v a.0.0 b.0.0) b.0.1);
      bytes_behind = t1.bytes_behind;
      fits = (t0.fits, t1.fits);
    })

-- where the second is read behind the first, both are
both_again : {A B : Type 0} {w : A → List ℕ} {F : A → Type 0} {r : Reader A} (s : A → Reader B)
    → Reads w F r → (p : A × B) (behind rest : List ℕ) → F p.0 → s p.0 behind ≡ Some (p.1, rest)
    → both_at r s (w p.0 ++ behind) ≡ Some (p, rest)
both_again {A} {B} {w} {F} {r} s first p behind rest fits second =
    ap (λ (o : Option (A × List ℕ)). o >>= λ a. s a.0 a.1 >>= λ b. Some ((a.0, b.0), b.1)) (first.again p.0 behind fits)
    ∙ ap (λ (o : Option (B × List ℕ)). o >>= λ b. Some ((p.0, b.0), b.1)) second

pub both_reads : {A B : Type 0} {w : A → List ℕ} {F : A → Type 0} {r : Reader A} {v : A → B → List ℕ} {G : A → B → Type 0} {s : A → Reader B}
    → Reads w F r → ((a : A) → Reads (v a) (G a) (s a)) → Reads (λ (p : A × B). w p.0 ++ v p.0 p.1) (λ p. F p.0 × G p.0 p.1) (both_at r s)
both_reads {A} {B} {w} {F} {r} {v} {G} {s} first second = record {
  again = λ p rest fits.
      ap (both_at r s) (append_assoc (w p.0) (v p.0 p.1) rest)
      ∙ both_again s first p (v p.0 p.1 ++ rest) rest fits.0 ((second p.0).again p.1 rest fits.1);
  takes = both_takes first (λ a. at_last (second a));
}

pub both_last : {A B : Type 0} {w : A → List ℕ} {F : A → Type 0} {r : Reader A} {v : A → B → List ℕ} {G : A → B → Type 0} {s : A → Reader B}
    → Reads w F r → ((a : A) → ReadsLast (v a) (G a) (s a))
    → ReadsLast (λ (p : A × B). w p.0 ++ v p.0 p.1) (λ p. F p.0 × G p.0 p.1) (both_at r s)
both_last {A} {B} {w} {F} {r} {v} {G} {s} first second = record {
  again = λ p fits. both_again s first p (v p.0 p.1) [] fits.0 ((second p.0).again p.1 fits.1);
  takes = both_takes first second;
}

pub meant_reads : {A B : Type 0} {w : A → List ℕ} {F : A → Type 0} {r : Reader A} (f : A → Option B) (back : B → A) (H : B → Type 0)
    → ((b : B) → H b → (f (back b) ≡ Some b) × F (back b)) → ((a : A) (b : B) → F a → f a ≡ Some b → (a ≡ back b) × H b)
    → Reads w F r → Reads (λ b. w (back b)) H (meant f r)
meant_reads {A} {B} {w} {F} {r} f back H there here reads = record { again = again; takes = takes }
  where
    again : (b : B) (rest : List ℕ) → H b → meant f r (w (back b) ++ rest) ≡ Some (b, rest)
    again b rest fits =
        ap (λ (o : Option (A × List ℕ)). o >>= λ a. f a.0 >>= λ c. Some (c, a.1)) (reads.again (back b) rest (there b fits).1)
        ∙ ap (λ (o : Option B). o >>= λ c. Some (c, rest)) (there b fits).0

    takes : (bytes : List ℕ) (x : B × List ℕ) → IsBytes bytes → meant f r bytes ≡ Some x → Taken bytes (w (back x.0)) x.1 (H x.0)
    takes bytes x fits e =
        let a = got (r bytes) (λ a. f a.0 >>= λ c. Some (c, a.1)) x e in
        let b = got (f a.0.0) (λ c. Some (c, a.0.1)) x a.2 in
        let t = reads.takes bytes a.0 fits a.1 in
        let h = here a.0.0 b.0 t.fits b.1 in
        subst (λ (y : B × List ℕ). Taken bytes (w (back y.0)) y.1 (H y.0)) (same_Some {A = B × List ℕ} (b.0, a.0.1) x b.2)
        (record { parts = t.parts ∙ ap (λ (c : A). w c ++ a.0.1) h.0; bytes_behind = t.bytes_behind; fits = h.1 })

-- what passes a test
pub kept_reads : {A : Type 0} {w : A → List ℕ} {F : A → Type 0} {r : Reader A} (test : A → Bool)
    → Reads w F r → Reads w (λ a. F a × (test a ≡ true)) (meant (kept test) r)
kept_reads {A} {w} {F} {r} test reads =
    meant_reads (kept test) (λ a. a) (λ a. F a × (test a ≡ true)) (λ a h. (ap (λ b. cond b (Some a) None) h.1, h.0))
    (λ a b fits e. let both = cond_some (test a) a b e in (both.1, subst (λ (x : A). F x × (test x ≡ true)) both.1 (fits, both.0))) reads

-- another word for what fits
pub refit : {A : Type 0} {w : A → List ℕ} {F G : A → Type 0} {r : Reader A}
    → ((a : A) → G a → F a) → ((a : A) → F a → G a) → Reads w F r → Reads w G r
refit there here reads = record {
  again = λ a rest fits. reads.again a rest (there a fits);
  takes = λ bytes x fits e. let t = reads.takes bytes x fits e in record { parts = t.parts; bytes_behind = t.bytes_behind; fits = here x.0 t.fits };
}

-- one of a few that have numbers
found : {B : Type 0} (number : B → ℕ) (all : List B) (n : ℕ) (b : B) → find (λ c. number c == n) all ≡ Some b → n ≡ number b
found number [] n b e = absurd (none-some b e)
found {B} number (c ∷ all) n b e = at (found number all n b) (number c == n) refl e
  where
    at : (find (λ d. number d == n) all ≡ Some b → n ≡ number b) → (t : Bool) → (number c == n) ≡ t
        → cond t (Some c) (find (λ d. number d == n) all) ≡ Some b → n ≡ number b
    at more true is e = sym (eqb-true _ _ is) ∙ ap number (same_Some c b e)
    at more false is e = more e

pub numbered_reads : {B : Type 0} {w : ℕ → List ℕ} {F : ℕ → Type 0} {r : Reader ℕ} (number : B → ℕ) (all : List B)
    → ((b : B) → (numbered number all (number b) ≡ Some b) × F (number b)) → Reads w F r → Reads (λ b. w (number b)) (λ b. Unit {0}) (meant (numbered number all) r)
numbered_reads number all there reads =
    meant_reads (numbered number all) number (λ b. Unit {0}) (λ b h. there b) (λ n b fits e. (found number all n b e, tt)) reads

-- a number in a range
limited : (least most limit n : ℕ) → most < limit → is_between least most n ≡ true → n < limit
limited least most limit n fits is = grind (arith, nat_tests, is)

pub within_reads : {w : ℕ → List ℕ} {r : Reader ℕ} (limit least most : ℕ) → most < limit
    → Reads w (λ n. n < limit) r → Reads w (λ n. is_between least most n ≡ true) (within least most r)
within_reads limit least most fits reads =
    meant_reads (kept (is_between least most)) (λ n. n) (λ n. is_between least most n ≡ true)
    (λ n is. (ap (λ b. cond b (Some n) None) is, limited least most limit n fits is))
    (λ n m small e. let both = cond_some (is_between least most n) n m e in (both.1, subst (λ x. is_between least most x ≡ true) both.1 both.0)) reads

-- a gameweek, or none
not_zero : (g : ℕ) → is_between 1 38 g ≡ true → (g == 0) ≡ false
not_zero g is = grind (arith, nat_tests, is)

pub gameweek_reads : {w : ℕ → List ℕ} {r : Reader ℕ} (limit : ℕ) → 38 < limit
    → Reads w (λ n. n < limit) r → Reads (λ g. w (or_zero g)) (λ g. is_place g ≡ true) (meant gameweek_of r)
gameweek_reads limit fits reads = meant_reads gameweek_of or_zero (λ g. is_place g ≡ true) there here reads
  where
    there : (g : Option ℕ) → is_place g ≡ true → (gameweek_of (or_zero g) ≡ Some g) × (or_zero g < limit)
    there None is = (refl, omega arith)
    there (Some g) is =
        (ap (λ b. cond b (Some None) (cond (is_between 1 38 g) (Some (Some g)) None)) (not_zero g is) ∙ ap (λ b. cond b (Some (Some g)) None) is, limited 1 38 limit g fits is)

    placed : (n : ℕ) (t : Bool) → is_between 1 38 n ≡ t → (g : Option ℕ) → cond t (Some (Some n)) None ≡ Some g → (n ≡ or_zero g) × (is_place g ≡ true)
    placed n true is g e = subst (λ x. (n ≡ or_zero x) × (is_place x ≡ true)) (same_Some {A = Option ℕ} (Some n) g e) (refl, is)
    placed n false is g e = absurd (none-some g e)

    at : (n : ℕ) (t : Bool) → (n == 0) ≡ t → (g : Option ℕ) → cond t (Some None) (cond (is_between 1 38 n) (Some (Some n)) None) ≡ Some g → (n ≡ or_zero g) × (is_place g ≡ true)
    at n true is g e = subst (λ x. (n ≡ or_zero x) × (is_place x ≡ true)) (same_Some {A = Option ℕ} None g e) (eqb-true _ _ is, refl)
    at n false is g e = placed n (is_between 1 38 n) refl g e

    here : (n : ℕ) (g : Option ℕ) → n < limit → gameweek_of n ≡ Some g → (n ≡ or_zero g) × (is_place g ≡ true)
    here n g small e = at n (n == 0) refl g e

-- Bytes and lists.

front_takes : (n : ℕ) (bytes : List ℕ) (x : List ℕ × List ℕ) → IsBytes bytes → front_at n bytes ≡ Some x → Taken bytes x.0 x.1 (length x.0 ≡ n)
unfolding front_at
front_takes n bytes x fits e =
    let g = unless_some (ltb (length bytes) n) (take n bytes, drop n bytes) x e in
    let long : n ≤ length bytes = ltb-false _ _ g.0 in
    subst (λ (y : List ℕ × List ℕ). Taken bytes y.0 y.1 (length y.0 ≡ n)) g.1
    (record { parts = sym (take-append-drop n bytes); bytes_behind = IsBytes-drop n bytes fits; fits = omega (arith, length-take n bytes) })

front_again : (n : ℕ) (text rest : List ℕ) → length text ≡ n → front_at n (text ++ rest) ≡ Some (text, rest)
unfolding front_at
front_again n text rest len =
    let long : ltb (length (text ++ rest)) n ≡ false = le-ltb _ _ (omega (arith, length-append text rest)) in
    rw (long, take_at text rest n len, drop_at text rest n len) refl

pub front_reads : (n : ℕ) → Reads (λ (t : List ℕ). t) (λ t. length t ≡ n) (front_at n)
front_reads n = record { again = front_again n; takes = front_takes n }

many_again : {A : Type 0} {w : A → List ℕ} {F : A → Type 0} {r : Reader A} → Reads w F r
    → (n : ℕ) (xs : List A) (rest : List ℕ) → (length xs ≡ n) × AllByRecursion F xs → many_at r n (flat_map w xs ++ rest) ≡ Some (xs, rest)
unfolding many_at
many_again reads zero [] rest fits = refl
many_again reads zero (x ∷ xs) rest fits = absurd (omega (arith, fits.0))
many_again reads (suc n) [] rest fits = absurd (omega (arith, fits.0))
many_again {A} {w} {F} {r} reads (suc n) (x ∷ xs) rest fits =
    ap (many_at r (suc n)) (append_assoc (w x) (flat_map w xs) rest)
    ∙ ap (λ (o : Option (A × List ℕ)). o >>= λ first. many_at r n first.1 >>= λ others. Some (first.0 ∷ others.0, others.1)) (reads.again x (flat_map w xs ++ rest) fits.1.0)
    ∙ ap (λ (o : Option (List A × List ℕ)). o >>= λ others. Some (x ∷ others.0, others.1)) (many_again reads n xs rest (omega (arith, fits.0), fits.1.1))

many_takes : {A : Type 0} {w : A → List ℕ} {F : A → Type 0} {r : Reader A} → Reads w F r
    → (n : ℕ) (bytes : List ℕ) (x : List A × List ℕ) → IsBytes bytes → many_at r n bytes ≡ Some x → Taken bytes (flat_map w x.0) x.1 ((length x.0 ≡ n) × AllByRecursion F x.0)
unfolding many_at
many_takes {A} {w} {F} {r} reads zero bytes x fits e =
    subst (λ (y : List A × List ℕ). Taken bytes (flat_map w y.0) y.1 ((length y.0 ≡ 0) × AllByRecursion F y.0)) (same_Some {A = List A × List ℕ} ([], bytes) x e)
    (record { parts = refl; bytes_behind = fits; fits = (refl, tt) })
many_takes {A} {w} {F} {r} reads (suc n) bytes x fits e =
    let a = got (r bytes) (λ first. many_at r n first.1 >>= λ others. Some (first.0 ∷ others.0, others.1)) x e in
    let b = got (many_at r n a.0.1) (λ others. Some (a.0.0 ∷ others.0, others.1)) x a.2 in
    let t0 = reads.takes bytes a.0 fits a.1 in
    let t1 = many_takes reads n a.0.1 b.0 t0.bytes_behind b.1 in
    subst (λ (y : List A × List ℕ). Taken bytes (flat_map w y.0) y.1 ((length y.0 ≡ suc n) × AllByRecursion F y.0))
    (same_Some {A = List A × List ℕ} (a.0.0 ∷ b.0.0, b.0.1) x b.2)
    (record {
      parts = t0.parts ∙ ap (λ (t : List ℕ). w a.0.0 ++ t) t1.parts ∙ sym (append_assoc (w a.0.0) (flat_map w b.0.0) b.0.1);
      bytes_behind = t1.bytes_behind;
      fits = (ap suc t1.fits.0, (t0.fits, t1.fits.1));
    })

pub many_reads : {A : Type 0} {w : A → List ℕ} {F : A → Type 0} {r : Reader A} → Reads w F r
    → (n : ℕ) → Reads (flat_map w) (λ xs. (length xs ≡ n) × AllByRecursion F xs) (many_at r n)
many_reads reads n = record { again = many_again reads n; takes = many_takes reads n }

-- what stands behind its size
led_reads : {B : Type 0} {c : ℕ → List ℕ} {C : ℕ → Type 0} {count : Reader ℕ} {v : B → List ℕ} {G : B → Type 0} {s : ℕ → Reader B} (size : B → ℕ)
    → Reads c C count → ((n : ℕ) → Reads v (λ b. (size b ≡ n) × G b) (s n))
    → Reads (λ b. c (size b) ++ v b) (λ b. C (size b) × G b) (λ bytes. count bytes >>= λ n. s n.0 n.1)
led_reads {B} {c} {C} {count} {v} {G} {s} size first second = record { again = again; takes = takes }
  where
    again : (b : B) (rest : List ℕ) → C (size b) × G b → (count ((c (size b) ++ v b) ++ rest) >>= λ n. s n.0 n.1) ≡ Some (b, rest)
    again b rest fits =
        ap (λ (t : List ℕ). count t >>= λ n. s n.0 n.1) (append_assoc (c (size b)) (v b) rest)
        ∙ ap (λ (o : Option (ℕ × List ℕ)). o >>= λ n. s n.0 n.1) (first.again (size b) (v b ++ rest) fits.0)
        ∙ (second (size b)).again b rest (refl, fits.1)

    takes : (bytes : List ℕ) (x : B × List ℕ) → IsBytes bytes → (count bytes >>= λ n. s n.0 n.1) ≡ Some x → Taken bytes (c (size x.0) ++ v x.0) x.1 (C (size x.0) × G x.0)
    takes bytes x fits e =
        let a = got (count bytes) (λ n. s n.0 n.1) x e in
        let t0 = first.takes bytes a.0 fits a.1 in
        let t1 = (second a.0.0).takes a.0.1 x t0.bytes_behind a.2 in
        record {
          parts = t0.parts ∙ ap (λ n. c n ++ a.0.1) (sym t1.fits.0) ∙ ap (λ (t : List ℕ). c (size x.0) ++ t) t1.parts ∙ sym (append_assoc (c (size x.0)) (v x.0) x.1);
          bytes_behind = t1.bytes_behind;
          fits = (subst C (sym t1.fits.0) t0.fits, t1.fits.1);
        }

pub counted_reads : {A : Type 0} {c : ℕ → List ℕ} {C : ℕ → Type 0} {count : Reader ℕ} {w : A → List ℕ} {F : A → Type 0} {r : Reader A}
    → Reads c C count → Reads w F r → Reads (λ xs. c (length xs) ++ flat_map w xs) (λ xs. C (length xs) × AllByRecursion F xs) (counted count r)
counted_reads first reads = led_reads length first (many_reads reads)

pub text_reads : {c : ℕ → List ℕ} {C : ℕ → Type 0} {count : Reader ℕ} (test : List ℕ → Bool)
    → Reads c C count → Reads (λ (t : List ℕ). c (length t) ++ t) (λ t. C (length t) × (test t ≡ true)) (text_at count test)
text_reads test first = led_reads length first (λ n. kept_reads test (front_reads n))

-- All of the bytes.

pub whole_again : {A : Type 0} {w : A → List ℕ} {F : A → Type 0} {r : Reader A} → ReadsLast w F r → (a : A) → F a → whole_of r (w a) ≡ Some a
whole_again {A} {w} {F} {r} reads a fits =
    ap (λ (o : Option (A × List ℕ)). o >>= λ x. cond (length x.1 == 0) (Some x.0) None) (reads.again a fits)

pub whole_takes : {A : Type 0} {w : A → List ℕ} {F : A → Type 0} {r : Reader A} → ReadsLast w F r
    → (bytes : List ℕ) (a : A) → IsBytes bytes → whole_of r bytes ≡ Some a → (bytes ≡ w a) × F a
whole_takes {A} {w} {F} {r} reads bytes a fits e =
    let x = got (r bytes) (λ x. cond (length x.1 == 0) (Some x.0) None) a e in
    let g = cond_some (length x.0.1 == 0) x.0.0 a x.2 in
    let t = reads.takes bytes x.0 fits x.1 in
    let nothing : x.0.1 ≡ [] = nil_from_length x.0.1 (eqb-true _ _ g.0) in
    subst (λ (y : A). (bytes ≡ w y) × F y) g.1 (t.parts ∙ ap (λ (rest : List ℕ). w x.0.0 ++ rest) nothing ∙ append-nil (w x.0.0), t.fits)
