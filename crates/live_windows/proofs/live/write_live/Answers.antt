use Rattle.std.proofs.Common.{◌∙◌, sym, length, nat_le}
use Rattle.std.proofs.lemmas.Bool.{and_parts, leb-true}
use Rattle.season_book.specs.DreamTeamWindow.{has_gameweek}
use Rattle.season_book.specs.LiveWindow.{live_data}
use Rattle.live_windows.proofs.ShownOnce.{not_there, shown_as}
use Rattle.live_windows.proofs.live.write_live.Goals as goal

pub returns-then-not-has_gameweek-clause-value : goal.returns-then-not-has_gameweek-clause-value
returns-then-not-has_gameweek-clause-value g c = λ entries are.
    let facts = c.args.seen.now.facts in
    not_there (has_gameweek facts.calendar c.args.gameweek) (live_data facts c.args.gameweek) c.args.out.now c.args.out.now
    (sym c.has_gameweek.ensures ∙ c.if-not-has_gameweek.true)

pub write_there-requires-clause-from_1 : goal.write_there-requires-clause-from_1
write_there-requires-clause-from_1 g c =
    let calendar = c.args.seen.now.facts.calendar in
    leb-true 1 c.args.gameweek (and_parts (nat_le 1 c.args.gameweek) (nat_le c.args.gameweek (length calendar.deadlines)) (sym c.has_gameweek.ensures ∙ c.if-not-has_gameweek.false)).0

pub returns-clause-value : goal.returns-clause-value
returns-clause-value g c = λ entries are.
    let facts = c.args.seen.now.facts in
    shown_as (has_gameweek facts.calendar c.args.gameweek) (live_data facts c.args.gameweek) c.args.out.now c.write_there.new.out c.write_there.result
    (sym c.has_gameweek.ensures ∙ c.if-not-has_gameweek.false) c.write_there.ensures.value
