use Rattle.std.proofs.Common.{◌≡◌, ◌∙◌, None, Option, Some, ap, arith, count_by, if◌then◌else◌, length, sym}
use Rattle.std.specs.Option.{option_and_then, option_map_or}
use Rattle.rule_book.specs.Calendar.{is_locked}
use Rattle.rule_book.specs.Entries.{entry_in}
use Rattle.rule_book.specs.LeagueCalls.{is_head}
use Rattle.rule_book.specs.Leagues.{LeagueFacts}
use Rattle.rule_book.specs.declared.league.LeagueKind.TheVariants as kind
use Rattle.season_book.specs.HeadMatches.{head_matches_window, matches_data, matches_to}
use Rattle.season_views.specs.HeadMatchesReads.{head_matches_reads}
use Rattle.league_windows.proofs.WindowShown.{hidden, shown_if}
use Rattle.league_windows.proofs.head_matches.write_if_there.Goals as goal

pub write_page-requires : goal.write_page-requires
write_page-requires g c = record {
  kept = c.requires.kept;
  there = sym (c.in-Some.ensures ∙ ap (λ leagues. entry_in leagues c.args.id) c.leagues.ensures);
}

pub returns-in-Head-clause-value : goal.returns-in-Head-clause-value
returns-in-Head-clause-value g c = λ entries are.
    let seen = c.args.seen.now in
    let l = c.args.id in
    let league = c.in-Some.league.now in
    let at : entry_in seen.leagues l ≡ Some league = sym (c.in-Some.ensures ∙ ap (λ leagues. entry_in leagues l) c.leagues.ensures) in
    let head : league.kind ≡ kind.Head = sym c.kind.ensures ∙ c.in-Head.is in
    shown_if (head_matches_window seen.facts entries seen.leagues l) (matches_data seen.facts entries l league) c.write_page.result c.is_shown.result c.args.out.now c.write_page.new.out c.is_shown.ensures
    (ap (option_and_then (λ (those : LeagueFacts). if is_head those.kind then Some (matches_data seen.facts entries l those) else None)) at
    ∙ ap (λ k. if is_head k then Some (matches_data seen.facts entries l league) else None) head)
    (c.write_page.ensures.value entries are)

pub returns-in-Head-clause-cost : goal.returns-in-Head-clause-cost
returns-in-Head-clause-cost g c =
    let seen = c.args.seen.now in
    let l = c.args.id in
    let league = c.in-Some.league.now in
    let at : entry_in seen.leagues l ≡ Some league = sym (c.in-Some.ensures ∙ ap (λ leagues. entry_in leagues l) c.leagues.ensures) in
    let n = length seen.facts.calendar.deadlines in
    let reads : head_matches_reads seen.facts seen.leagues l ≡ count_by (λ row. is_locked seen.facts.calendar row.0) (matches_to league n) =
    ap (λ (o : Option LeagueFacts). option_map_or (λ (those : LeagueFacts). count_by (λ row. is_locked seen.facts.calendar row.0) (matches_to those n)) o 0) at in
    let read = c.write_page.ensures.cost in
    omega (arith, reads, read)

pub returns-in-Classic-clause-value : goal.returns-in-Classic-clause-value
returns-in-Classic-clause-value g c = λ entries are.
    let seen = c.args.seen.now in
    let l = c.args.id in
    let league = c.in-Some.league.now in
    let at : entry_in seen.leagues l ≡ Some league = sym (c.in-Some.ensures ∙ ap (λ leagues. entry_in leagues l) c.leagues.ensures) in
    let classic : league.kind ≡ kind.Classic = sym c.kind.ensures ∙ c.in-Classic.is in
    hidden (head_matches_window seen.facts entries seen.leagues l) c.args.out.now
    (ap (option_and_then (λ (those : LeagueFacts). if is_head those.kind then Some (matches_data seen.facts entries l those) else None)) at
    ∙ ap (λ k. if is_head k then Some (matches_data seen.facts entries l league) else None) classic)

pub returns-in-None-clause-value : goal.returns-in-None-clause-value
returns-in-None-clause-value g c = λ entries are.
    let seen = c.args.seen.now in
    let l = c.args.id in
    let none : entry_in seen.leagues l ≡ None = sym (c.in-None.ensures ∙ ap (λ leagues. entry_in leagues l) c.leagues.ensures) in
    hidden (head_matches_window seen.facts entries seen.leagues l) c.args.out.now
    (ap (option_and_then (λ (those : LeagueFacts). if is_head those.kind then Some (matches_data seen.facts entries l those) else None)) none)
