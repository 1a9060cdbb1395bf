-- What a test of each element says, and what no broken rule says.
use Rattle.std.proofs.Common.{◌≡◌, ℕ, Bool, true, false, not, ◌||◌, ◌==◌, List, [], ◌∷◌, Option, Some, None, refl, sym, ap, ◌∙◌, arith}
use Rattle.std.specs.List.{list_all, list_any}
use Rattle.std.proofs.lemmas.Bool.{and_from, and_parts, or_from}
use Rattle.std.proofs.lemmas.Bool.Decides.{nat_tests}
use Rattle.std.proofs.lemmas.Option.{none-some}
use Rattle.fpl_base.specs.declared.rule.Rule.{Rule}
use Rattle.rule_book.specs.Refusals.{first_broken, unless}

-- Tests.

module _ {X : Type 0} (p q : X → Bool) (shows : (x : X) → p x ≡ true → q x ≡ true) where
  pub all_also : (xs : List X) → list_all p xs ≡ true → list_all q xs ≡ true
  all_also [] all = refl
  all_also (x ∷ xs) all =
      let both = and_parts (p x) (list_all p xs) all in
      and_from (q x) (list_all q xs) (shows x both.0) (all_also xs both.1)

  pub none_fails : (xs : List X) → list_all p xs ≡ true → list_any (λ x. not (q x)) xs ≡ false
  none_fails [] all = refl
  none_fails (x ∷ xs) all =
      let both = and_parts (p x) (list_all p xs) all in
      or_from (not (q x)) (list_any (λ x. not (q x)) xs) (ap not (shows x both.0)) (none_fails xs both.1)

pub all_among : (p : ℕ → Bool) (es : List ℕ) → ((e : ℕ) → list_any (λ m. m == e) es ≡ true → p e ≡ true) → list_all p es ≡ true
all_among p [] each = refl
all_among p (m ∷ es) each =
    and_from (p m) (list_all p es) (each m (here m es)) (all_among p es (λ e among. each e (behind m es e among)))
  where
    here : (m : ℕ) (es : List ℕ) → list_any (λ n. n == m) (m ∷ es) ≡ true
    here m es = grind (arith, nat_tests)

    behind : (m : ℕ) (es : List ℕ) (e : ℕ) → list_any (λ n. n == e) es ≡ true → list_any (λ n. n == e) (m ∷ es) ≡ true
    behind m es e among = grind (arith, nat_tests, among)

-- Rules.

pub passed : (test : Bool) (rule : Rule) (more : List (Option Rule)) → first_broken (unless test rule ∷ more) ≡ None → (test ≡ true) × (first_broken more ≡ None)
passed true rule more unbroken = (refl, unbroken)
passed false rule more unbroken = absurd (none-some rule (sym unbroken))

pub unbroken_first : (broken : Option Rule) (more : List (Option Rule)) → first_broken (broken ∷ more) ≡ None → (broken ≡ None) × (first_broken more ≡ None)
unbroken_first None more unbroken = (refl, unbroken)
unbroken_first (Some rule) more unbroken = absurd (none-some rule (sym unbroken))

pub lone : (broken : Option Rule) → first_broken (broken ∷ []) ≡ None → broken ≡ None
lone broken unbroken = (unbroken_first broken [] unbroken).0
