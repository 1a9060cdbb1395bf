use Rattle.std.proofs.Common.{◌≤◌, ◌+◌, None, Some, ap, if◌then◌else◌, subst}
use Rattle.std.specs.Option.{option_and_then}
use Rattle.rule_book.specs.LeagueCalls.{is_head}
use Rattle.rule_book.specs.Leagues.{LeagueFacts}
use Rattle.season_views.specs.Seen.{ShowsEach}
use Rattle.season_book.specs.HeadMatches.{head_matches_window, matches_data}
use Rattle.season_views.specs.HeadMatchesReads.{head_matches_reads}
use Rattle.league_windows.proofs.NoNumber.{no_number}
use Rattle.league_windows.proofs.WindowShown.{hidden}
use Rattle.league_windows.proofs.head_matches.write_head_matches.Goals as goal

pub returns-in-Some-clause-value : goal.returns-in-Some-clause-value
returns-in-Some-clause-value g c =
    let seen = c.args.seen.now in
    subst (λ k. ShowsEach seen (λ entries. head_matches_window seen.facts entries seen.leagues k) c.write_if_there.result c.args.out.now c.write_if_there.new.out) c.in-Some.ensures.value
    c.write_if_there.ensures.value

pub returns-in-Some-clause-cost : goal.returns-in-Some-clause-cost
returns-in-Some-clause-cost g c =
    let seen = c.args.seen.now in
    subst (λ k. c.write_if_there.new.steps ≤ c.args.steps.now + head_matches_reads seen.facts seen.leagues k) c.in-Some.ensures.value c.write_if_there.ensures.cost

pub returns-in-None-clause-value : goal.returns-in-None-clause-value
returns-in-None-clause-value g c = λ entries are.
    let seen = c.args.seen.now in
    let n = c.args.number in
    hidden (head_matches_window seen.facts entries seen.leagues n) c.args.out.now
    (ap (option_and_then (λ (those : LeagueFacts). if is_head those.kind then Some (matches_data seen.facts entries n those) else None)) (no_number seen.leagues n c.new.result c.new.ensures.there c.in-None.is))
