-- The cups have brackets.
use Rattle.std.proofs.Common.{◌≡◌, ◌≢◌, ℕ, ◌+◌, ◌-◌, ◌≤◌, ◌==◌, Bool, true, false, List, Some, None, cond, length, refl, sym, ◌∙◌, subst, arith}
use Rattle.std.specs.List.{slice_get}
use Rattle.std.proofs.lemmas.Bool.Decides.{nat_tests}
use Rattle.std.proofs.lemmas.Option.{slice_get_within}
use Rattle.rule_book.specs.Entries.{entry_in}
use Rattle.rule_book.specs.declared.cup.Bracket.{Bracket}
use Rattle.leagues_and_cups.specs.Shapes.{HasShape}
use Rattle.season_nodes.specs.Brackets.{AreBrackets}

same_test : (n m : ℕ) → n ≡ m → (n == m) ≡ true
same_test n m e = grind (arith, nat_tests)

same_id : (n m : ℕ) → (n == m) ≡ true → n ≡ m
same_id n m e = grind (arith, nat_tests)

-- the cups up to one number more
abbrev pub AreBracketsUpTo : List Bracket → ℕ → Type 0
AreBracketsUpTo cups n = (c : ℕ) (bracket : Bracket) → c ≤ n → entry_in cups c ≡ Some bracket → HasShape bracket

none_numbered : (cups : List Bracket) (bracket : Bracket) → entry_in cups 0 ≡ Some bracket → ⊥
none_numbered cups bracket at = cc

pub none_up_to : (cups : List Bracket) → AreBracketsUpTo cups 0
none_up_to cups c bracket low at =
    let first : c ≡ 0 = omega (arith, low) in
    absurd (none_numbered cups bracket (subst (λ k. entry_in cups k ≡ Some bracket) first at))

pub one_up_to : (cups : List Bracket) (n k : ℕ) → AreBracketsUpTo cups n → k ≡ n + 1 → ((bracket : Bracket) → entry_in cups k ≡ Some bracket → HasShape bracket) → AreBracketsUpTo cups (n + 1)
one_up_to cups n k so_far next one c bracket low at = by_case (c == k) refl
  where
    lower : c ≢ k → c ≤ n
    lower other = omega (arith, other, low, next)

    apart : (c == k) ≡ false → c ≢ k
    apart is same = clash (sym is ∙ same_test c k same)
      where
        clash : false ≡ true → ⊥
        clash x = cc

    by_case : (t : Bool) → (c == k) ≡ t → HasShape bracket
    by_case true is = one bracket (subst (λ j. entry_in cups j ≡ Some bracket) (same_id c k is) at)
    by_case false is = so_far c bracket (lower (apart is)) at

number_case : (cups : List Bracket) (c : ℕ) (bracket : Bracket) (t : Bool) → (c == 0) ≡ t → cond t None (slice_get cups (c - 1)) ≡ Some bracket → c ≤ length cups
number_case cups c bracket true is at = absurd (cc)
number_case cups c bracket false is at = let low = slice_get_within cups (c - 1) bracket at in omega (arith, low)

pub all_up_to : (cups : List Bracket) (n : ℕ) → AreBracketsUpTo cups n → length cups ≤ n → AreBrackets cups
all_up_to cups n so_far past c bracket at = let low = number_case cups c bracket (c == 0) refl at in so_far c bracket (omega (arith, low, past)) at
