use Rattle.std.proofs.Common.{ℕ, Bool, [], ◌∷◌, ◌++◌, sym, ap, ◌∙◌}
use Rattle.season_nodes.specs.BookFacts.{facts_of}
use Rattle.season_nodes.specs.Dependents.{is_average}
use Rattle.season_nodes.specs.Season.{opponent_in}
use Rattle.season_nodes.specs.declared.nodes.Node.TheVariants as node
use Rattle.season_rules.proofs.Lists.{passing_next, passing_same}
use Rattle.season_rules.proofs.rounds.average_dependents.Goals.{then-meets_average+in_ok-push, else-meets_average}
use Rattle.season_rules.proofs.rounds.average_dependents.Goals as goal

pub loop-place-preserved : goal.loop-place-preserved
loop-place-preserved c =
    let test : ℕ → Bool = λ i. is_average (opponent_in (facts_of c.args.books.now) c.args.league c.args.gameweek i) in
    let named = node.Match c.args.league c.args.gameweek in
    let place = c.loop-place.place in
    elim c.if-meets_average.branch [
      | then-meets_average+in_ok-push w ↦ ap (λ v. v.items) w.found-is ∙ w.in_ok-push.ensures.items ∙ ap (λ ns. ns ++ named place ∷ []) c.loop-place.invariant
          ∙ passing_next named test place (sym c.meets_average.ensures ∙ w.if-meets_average.true)
      | else-meets_average w ↦ ap (λ v. v.items) w.found-is ∙ c.loop-place.invariant ∙ passing_same named test place (sym c.meets_average.ensures ∙ w.if-meets_average.false)
    ]
