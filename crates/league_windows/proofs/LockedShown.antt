-- A gameweek that is locked, and one that is open.
use Rattle.std.proofs.Common.{◌≡◌, ◌∙◌, ◌≤◌, ◌&&◌, ℕ, Bool, true, false, Option, Some, None, nat_le, if◌then◌else◌, arith, refl, sym, ap}
use Rattle.std.proofs.lemmas.Bool.{le-leb}
use Rattle.std.proofs.lemmas.Bool.Decides.{nat_tests}
use Rattle.std.proofs.lemmas.Option.{cond_some, none-some}

none_of : {X : Type 0} (b : Bool) (x : X) → None ≡ (if b then Some x else None) → b ≡ false
none_of true x is = absurd (none-some x is)
none_of false x is = refl

-- no gameweek is found where it is open
pub open_is : (g n locked : ℕ) → n ≡ g → 1 ≤ g → None ≡ (if nat_le 1 n && nat_le n locked then Some n else None) → nat_le g locked ≡ false
open_is g n locked same one is =
    let first : nat_le 1 g ≡ true = le-leb 1 g one in
    ap (λ b. b && nat_le g locked) (sym first)
    ∙ ap (λ m. nat_le 1 m && nat_le m locked) (sym same)
    ∙ none_of (nat_le 1 n && nat_le n locked) n is

-- the one that is found is locked
pub locked_is : (g n locked found : ℕ) → n ≡ g → 1 ≤ g → Some found ≡ (if nat_le 1 n && nat_le n locked then Some n else None) → (nat_le g locked ≡ true) × (found ≡ g)
locked_is g n locked found same one is =
    let both = cond_some (nat_le 1 n && nat_le n locked) n found (sym is) in
    let first : nat_le 1 g ≡ true = le-leb 1 g one in (
      ap (λ b. b && nat_le g locked) (sym first) ∙ ap (λ m. nat_le 1 m && nat_le m locked) (sym same) ∙ both.0,
      sym both.1 ∙ same,
    )

pub by_test : (g locked : ℕ) → nat_le g locked ≡ true → g ≤ locked
by_test g locked is = grind (arith, nat_tests, is)

-- what is chosen where the test holds, and where it does not
pub passed : {X : Type 0} (b : Bool) (x y : X) → b ≡ true → x ≡ (if b then x else y)
passed b x y is = ap (λ t. if t then x else y) (sym is)

pub missed : {X : Type 0} (b : Bool) (x y : X) → b ≡ false → y ≡ (if b then x else y)
missed b x y is = ap (λ t. if t then x else y) (sym is)

pub neither : {X : Type 0} (b : Bool) (o : Option X) → o ≡ None → o ≡ (if b then None else None)
neither true o is = is
neither false o is = is
