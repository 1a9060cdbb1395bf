-- what a decoder holds, after bytes are added or a message is found
use Rattle.std.proofs.Common.{◌≡◌, ◌∙◌, ap, sym, subst, refl, ℕ, List, ◌++◌, ◌<◌, ◌≤◌, length, take, drop, true, false, arith}
use Rattle.std.specs.Prelude.{Option, Some, None, option_map, is_some}
use Rattle.std.specs.Option.{ForSome}
use Rattle.fpl_http.specs.declared.head.Parts.{Parts}
use Rattle.fpl_http.specs.declared.head.Known.{Known}
use Rattle.fpl_http.specs.Lines.{strip}
use Rattle.fpl_http.specs.Parts.{IsHeaded, Knows, PartsWithin, request_at}
use Rattle.fpl_http.specs.Stream.{Request, Front, Refusal, Wanting, Whole, IsFront}
use Rattle.std.proofs.lemmas.List.{length-drop}
use Rattle.fpl_http.proofs.LinesLemmas.{strip_idem, strip_le}
use Rattle.fpl_http.proofs.PartsLemmas.{knows_more, headed_whole, headed_some}
use Rattle.fpl_http.proofs.StreamLemmas.{front_refused, front_same, front_unique}

-- what is known of the bytes that waited is known of them and more
pub fed_knows : (old mid new x : List ℕ) (j k : Known) → mid ≡ old → new ≡ mid ++ x → j ≡ k → Knows old k → Knows new j
fed_knows old mid new x j k same fed is known =
    let all : new ≡ old ++ x = fed ∙ ap (λ (l : List ℕ). l ++ x) same in
    subst (λ (i : Known). Knows new i) (sym is) (subst (λ (l : List ℕ). Knows l k) (sym all) (knows_more old x k known))

pub fed_refused : (old mid new x : List ℕ) (k : ℕ) → mid ≡ old → new ≡ mid ++ x → IsFront old (Refusal k) → IsFront new (Refusal k)
fed_refused old mid new x k same fed front =
    let all : new ≡ old ++ x = fed ∙ ap (λ (l : List ℕ). l ++ x) same in
    subst (λ (l : List ℕ). IsFront l (Refusal k)) (sym all) (front_refused old x k front)

-- the message that was found stays where it is
pub fed_found : (old new : List ℕ) (o q : Option Parts) → new ≡ old → o ≡ q → ForSome q (PartsWithin (length old)) → ForSome o (PartsWithin (length new))
fed_found old new o q same is within =
    subst (λ (i : Option Parts). ForSome i (PartsWithin (length new))) (sym is) (subst (λ (l : List ℕ). ForSome q (PartsWithin (length l))) (sym same) within)

pub none_within : (n : ℕ) (o q : Option Parts) → o ≡ q → is_some q ≡ false → ForSome o (PartsWithin n)
none_within n o q is none = λ p e. let bad : true ≡ false = sym (ap is_some (sym is ∙ e)) ∙ none in absurd (cc)

pub not_found : {A B : Type 0} (f : A → B) (o : Option A) → option_map f o ≡ None → is_some o ≡ false
not_found f None e = cc
not_found f (Some x) e = absurd (cc)

pub nothing_found : {A B : Type 0} (f : A → B) (o : Option A) → option_map f o ≡ None → o ≡ None
nothing_found f None e = refl
nothing_found f (Some x) e = absurd (cc)

-- one thing alone stands at the front
pub wants_no_refusal : (s : List ℕ) (k : ℕ) → IsFront s Wanting → IsFront s (Refusal k) → ⊥
wants_no_refusal s k w p = let e = front_unique s Wanting (Refusal k) w p in cc

pub whole_no_refusal : (s r : List ℕ) (m : Request) (k : ℕ) → IsFront s (Whole m r) → IsFront s (Refusal k) → ⊥
whole_no_refusal s r m k w p = let e = front_unique s (Whole m r) (Refusal k) w p in cc

pub one_refusal : (s : List ℕ) (j k : ℕ) → IsFront s (Refusal j) → IsFront s (Refusal k) → j ≡ k
one_refusal s j k x y = let e = front_unique s (Refusal j) (Refusal k) x y in cc

-- what stands at the front of what waits stands at the front of what waited with empty lines
pub front_before : (old waits : List ℕ) (f : Front) → waits ≡ strip old → IsFront waits f → IsFront old f
front_before old waits f here front = front_same waits old f (ap strip here ∙ strip_idem old) front

-- the next message, once its body has come
pub gives_message : (old waits kept left : List ℕ) (p : Parts) → waits ≡ strip old → IsHeaded waits p → p.body.end ≤ length waits
    → kept ≡ take p.body.end waits → left ≡ drop p.body.end waits
    → (m : Request) × IsFront old (Whole m left) × (Some (request_at kept p) ≡ Some m) × (length left < length old)
gives_message old waits kept left p here known fits ek el =
    let front = front_before old waits (Whole (request_at (take p.body.end waits) p) (drop p.body.end waits)) here (headed_whole waits p known fits) in (
      request_at (take p.body.end waits) p,
      subst (λ (l : List ℕ). IsFront old (Whole (request_at (take p.body.end waits) p) l)) (sym el) front,
      ap (λ (l : List ℕ). Some (request_at l p)) ek,
      omega (arith, ap length el, length-drop p.body.end waits, headed_some waits p known, fits, ap length here, strip_le old),
    )
