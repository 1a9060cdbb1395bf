use Rattle.std.proofs.Common.{◌≡◌, ◌≤◌, ◌+◌, ◌∙◌, ap, length, subst, sym}
use Rattle.rule_book.specs.MatchFacts.{lines_of}
use Rattle.season_views.specs.Reads.{window_reads}
use Rattle.season_views.proofs.Found.{fixture_has_id}
use Rattle.season_windows.proofs.windows.write_window.Goals as goal

pub returns-in-Some-clause-cost : goal.returns-in-Some-clause-cost
returns-in-Some-clause-cost g c = λ entries are.
    let seen = c.args.seen.now in
    let there = fixture_has_id seen.facts.calendar c.in-Sheet.fixture c.in-Some.there (sym c.fixture.ensures ∙ c.in-Some.is) in
    let spoken : length (lines_of seen.facts.matches c.in-Some.there.id) ≡ window_reads seen.facts entries seen.leagues seen.cups c.args.window =
    ap (λ f. length (lines_of seen.facts.matches f)) there ∙ sym (ap (window_reads seen.facts entries seen.leagues seen.cups) c.in-Sheet.is) in
    subst (λ n. c.write_sheet.new.steps ≤ c.args.steps.now + n) spoken c.write_sheet.ensures.cost

pub returns-in-Bootstrap-clause-value : goal.returns-in-Bootstrap-clause-value
returns-in-Bootstrap-clause-value g c = rw c.in-Bootstrap.is c.write_bootstrap.ensures.value

pub returns-in-Bootstrap-clause-cost : goal.returns-in-Bootstrap-clause-cost
returns-in-Bootstrap-clause-cost g c = rw c.in-Bootstrap.is c.write_bootstrap.ensures.cost

pub returns-in-Fixtures-clause-value : goal.returns-in-Fixtures-clause-value
returns-in-Fixtures-clause-value g c = rw c.in-Fixtures.is c.write_fixtures.ensures.value

pub returns-in-Fixtures-clause-cost : goal.returns-in-Fixtures-clause-cost
returns-in-Fixtures-clause-cost g c = rw c.in-Fixtures.is (λ entries are. c.write_fixtures.ensures.cost)

pub returns-in-Element-clause-value : goal.returns-in-Element-clause-value
returns-in-Element-clause-value g c = rw c.in-Element.is c.write_element_summary.ensures.value

pub returns-in-Element-clause-cost : goal.returns-in-Element-clause-cost
returns-in-Element-clause-cost g c = rw c.in-Element.is (λ entries are. c.write_element_summary.ensures.cost)

pub returns-in-DreamTeam-clause-value : goal.returns-in-DreamTeam-clause-value
returns-in-DreamTeam-clause-value g c = rw c.in-DreamTeam.is c.write_dream_team.ensures.value

pub returns-in-DreamTeam-clause-cost : goal.returns-in-DreamTeam-clause-cost
returns-in-DreamTeam-clause-cost g c = rw c.in-DreamTeam.is (λ entries are. c.write_dream_team.ensures.cost)

pub returns-in-Picks-clause-value : goal.returns-in-Picks-clause-value
returns-in-Picks-clause-value g c = rw c.in-Picks.is c.write_picks.ensures.value

pub returns-in-Picks-clause-cost : goal.returns-in-Picks-clause-cost
returns-in-Picks-clause-cost g c = rw c.in-Picks.is c.write_picks.ensures.cost

pub returns-in-Transfers-clause-value : goal.returns-in-Transfers-clause-value
returns-in-Transfers-clause-value g c = rw c.in-Transfers.is c.write_transfers.ensures.value

pub returns-in-Transfers-clause-cost : goal.returns-in-Transfers-clause-cost
returns-in-Transfers-clause-cost g c = rw c.in-Transfers.is c.write_transfers.ensures.cost

pub returns-in-ClassicStandings-clause-value : goal.returns-in-ClassicStandings-clause-value
returns-in-ClassicStandings-clause-value g c = rw c.in-ClassicStandings.is c.write_classic_standings.ensures.value

pub returns-in-ClassicStandings-clause-cost : goal.returns-in-ClassicStandings-clause-cost
returns-in-ClassicStandings-clause-cost g c = rw c.in-ClassicStandings.is (λ entries are. c.write_classic_standings.ensures.cost)

pub returns-in-HeadStandings-clause-value : goal.returns-in-HeadStandings-clause-value
returns-in-HeadStandings-clause-value g c = rw c.in-HeadStandings.is c.write_head_standings.ensures.value

pub returns-in-HeadStandings-clause-cost : goal.returns-in-HeadStandings-clause-cost
returns-in-HeadStandings-clause-cost g c = rw c.in-HeadStandings.is (λ entries are. c.write_head_standings.ensures.cost)

pub returns-in-HeadMatches-clause-value : goal.returns-in-HeadMatches-clause-value
returns-in-HeadMatches-clause-value g c = rw c.in-HeadMatches.is c.write_head_matches.ensures.value

pub returns-in-HeadMatches-clause-cost : goal.returns-in-HeadMatches-clause-cost
returns-in-HeadMatches-clause-cost g c = rw c.in-HeadMatches.is (λ entries are. c.write_head_matches.ensures.cost)

pub returns-in-Cup-clause-value : goal.returns-in-Cup-clause-value
returns-in-Cup-clause-value g c = rw c.in-Cup.is c.write_cup_window.ensures.value

pub returns-in-Cup-clause-cost : goal.returns-in-Cup-clause-cost
returns-in-Cup-clause-cost g c = rw c.in-Cup.is c.write_cup_window.ensures.cost

pub returns-in-Entry-clause-value : goal.returns-in-Entry-clause-value
returns-in-Entry-clause-value g c = rw c.in-Entry.is c.write_entry.ensures.value

pub returns-in-Entry-clause-cost : goal.returns-in-Entry-clause-cost
returns-in-Entry-clause-cost g c = rw c.in-Entry.is c.write_entry.ensures.cost

pub returns-in-History-clause-value : goal.returns-in-History-clause-value
returns-in-History-clause-value g c = rw c.in-History.is c.write_history.ensures.value

pub returns-in-History-clause-cost : goal.returns-in-History-clause-cost
returns-in-History-clause-cost g c = rw c.in-History.is c.write_history.ensures.cost

pub returns-in-Live-clause-value : goal.returns-in-Live-clause-value
returns-in-Live-clause-value g c = rw c.in-Live.is c.write_live.ensures.value

pub returns-in-Live-clause-cost : goal.returns-in-Live-clause-cost
returns-in-Live-clause-cost g c = rw c.in-Live.is (λ entries are. c.write_live.ensures.cost)
