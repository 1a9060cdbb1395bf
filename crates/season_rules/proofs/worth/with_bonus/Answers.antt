use Rattle.std.proofs.Common.{rules, ◌≡◌, ◌+◌, ℕ, ℤ, Bool, List, arith, true, false, filter, map, nat_le, [], ◌∷◌, ◌++◌, append-nil, cond, take, ap, sym, ◌∙◌, w32, FitsSigned}
use Rattle.std.proofs.lemmas.Bool.Decides.{nat_tests}
use Rattle.std.proofs.lemmas.Int.{to_z-of_z}
use Rattle.std.proofs.lemmas.List.Elements.{filter-append}
use Rattle.rule_book.specs.Bonus.{bonus_of}
use Rattle.season_nodes.proofs.Lists.{mapped_more}
use Rattle.season_rules.proofs.worth.with_bonus.Goals.{then-bonus-ge1+in_ok-push, else-bonus-ge1}
use Rattle.season_rules.proofs.worth.with_bonus.Goals as goal

abbrev alone : ℕ → ℕ → List (ℕ × ℕ)
alone p n = (p, n) ∷ []

one_kept : (p n m : ℕ) → n ≡ m → nat_le 1 n ≡ true → alone p n ≡ cond (nat_le 1 m) (alone p m) []
one_kept p n m same some = ap (alone p) same ∙ ap (λ t. cond t (alone p m) []) (sym some ∙ ap (nat_le 1) same)

none_kept : (p n m : ℕ) → n ≡ m → nat_le 1 n ≡ false → [] ≡ cond (nat_le 1 m) (alone p m) []
none_kept p n m same none = ap (λ t. cond t (alone p m) []) (sym none ∙ ap (nat_le 1) same)

-- The number is passed on by value, so it is seen through its bits and back.
pub loop-row-preserved : goal.loop-row-preserved
loop-row-preserved c =
    let table = c.args.table.now in
    let i = c.loop-row.row-index in
    let row = c.row-item.result in
    let kept : ℕ × ℕ → Bool = λ r. nat_le 1 r.1 in
    let shown : ℕ × ℤ → ℕ × ℕ = λ r. (r.0, bonus_of table r.1) in
    let fits : FitsSigned w32 row.1 = search rules in
    let won = (rw (to_z-of_z w32 row.1 fits) at c.bonus-bonus.ensures) ∙ c.of-levels.ensures row.1 in
    let before = map shown (take i table) in
    let more : before ++ shown row ∷ [] ≡ map shown (take (i + 1) table) = ap (λ r. before ++ shown r ∷ []) c.row-item.is ∙ mapped_more shown table i row c.loop-row-test.true in
    let all : filter kept before ++ filter kept (shown row ∷ []) ≡ filter kept (map shown (take (i + 1) table)) = sym (filter-append kept before (shown row ∷ [])) ∙ ap (filter kept) more in
    elim c.if-bonus-ge1.branch [
      | then-bonus-ge1+in_ok-push w ↦
          w.rows-is ∙ w.in_ok-push.ensures.ok ∙ ap (λ xs. xs ++ (row.0, c.bonus-bonus.result) ∷ []) c.loop-row.invariant
          ∙ ap (λ xs. filter kept before ++ xs) (one_kept row.0 c.bonus-bonus.result (bonus_of table row.1) won (grind (arith, nat_tests, w.if-bonus-ge1.true))) ∙ all
      | else-bonus-ge1 w ↦
          w.rows-is ∙ c.loop-row.invariant ∙ sym (append-nil (filter kept before))
          ∙ ap (λ xs. filter kept before ++ xs) (none_kept row.0 c.bonus-bonus.result (bonus_of table row.1) won (grind (arith, nat_tests, w.if-bonus-ge1.false))) ∙ all
    ]
