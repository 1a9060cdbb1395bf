use Rattle.std.proofs.Common.{ℕ, arith, map, subst, rules, IsPermutation, List}
use Rattle.std.specs.Cmp.{unsigned_Decides}
use Rattle.std.proofs.lemmas.List.Sorted.{answers_always}
use Rattle.std.proofs.lemmas.Map.Made.{IsDistinct-from_AllPairs}
use Rattle.rule_book.specs.declared.season.Fixture.{Fixture}
use Rattle.rule_book.proofs.OrderFacts.{only_order}
use Rattle.fixture_windows.proofs.ListFacts.{differ_mapped}
use Rattle.fixture_windows.proofs.order.by_kickoff.Goals as goal

abbrev place : Fixture → ℕ × ℕ
place x = (x.kickoff, x.id)

pub returns : goal.returns
returns c =
    let rows = c.args.fixtures.now in
    let sorted = c.sort_unstable_by_key.new.self.items in
    let moved : IsPermutation rows sorted = subst (λ (l : List Fixture). IsPermutation l sorted) c.in_ok-sorted.ensures.items c.sort_unstable_by_key.ensures.permutation in
    only_order place rows sorted
    (IsDistinct-from_AllPairs unsigned_Decides (map (λ (x : Fixture). x.id) rows) (differ_mapped (λ (x : Fixture). x.id) rows (λ i j d less lt e. omega (arith, c.requires i j d less lt, e))))
    moved (c.sort_unstable_by_key.ensures.sorted place (answers_always _ _ _ (λ f a r g h. search rules)))
