use Rattle.std.proofs.Common.{◌∙◌, ◌+◌, ap, length, sym}
use Rattle.rule_book.specs.MatchFacts.{lines_of}
use Rattle.json_members.proofs.ListLemmas.{length-zip}
use Rattle.season_views.specs.Seen.{SeenSeason}
use Rattle.season_views.proofs.seen.Seen.rows.Goals as goal

pub returns-clause-counted : goal.returns-clause-counted
returns-clause-counted g c =
    let long = sym (length-zip c.rows.result.0.now c.rows.result.1.now c.rows.ensures.paired) in
    let lines = ap length c.rows.ensures.rows in
    let seen = ap (λ (s : SeenSeason). length (lines_of s.facts.matches c.args.fixture)) c.self.view_is in
    c.rows.ensures.counted ∙ ap (λ n. c.args.steps.now + n) (long ∙ lines ∙ seen)
