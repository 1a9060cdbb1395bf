use Rattle.std.proofs.Common.{rules}
use Rattle.std.proofs.lemmas.List.Sorted.{answers_always}
use Rattle.player_market.proofs.RowLemmas.{searched}
use Rattle.player_market.proofs.players.Players.search.Goals as goal

-- the closure gives a row's id, and the slice is the rows
pub returns : goal.returns
returns c =
    let facts = c.binary_search_by_key.ensures in
    let by_id = facts.position (λ row. row.value.id) (answers_always _ _ _ (λ f a r g called. search rules)) in
    let found = searched (λ row. row.value) _ c.args.player _ (rw c.deref.ensures.value c.self.invariant.ascending) facts.bound by_id in
    rw (← c.self.view_is, ← c.deref.ensures.value) (record { found = found.0; absent = found.1 })
