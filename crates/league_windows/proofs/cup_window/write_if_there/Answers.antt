use Rattle.std.proofs.Common.{◌≡◌, ◌∙◌, ◌*◌, None, Option, Some, ap, arith, sym}
use Rattle.std.specs.Option.{option_map, option_map_or}
use Rattle.rule_book.specs.declared.cup.Bracket.{Bracket}
use Rattle.rule_book.specs.Entries.{entry_in}
use Rattle.season_book.specs.LeagueViews.{cup_shown}
use Rattle.season_views.specs.Reads.{ties_of}
use Rattle.season_book.specs.CupWindow.{cup_data, cup_window}
use Rattle.season_views.specs.CupWindowReads.{cup_window_reads}
use Rattle.league_windows.proofs.WindowShown.{failed, hidden, shown_if}
use Rattle.league_windows.proofs.cup_window.write_if_there.Goals as goal

pub cup-requires : goal.cup-requires
cup-requires g c =
    let seen = c.args.seen.now in
    let id = c.args.id in
    record {
      profile = c.requires.kept.profile;
      kept = (seen.leagues, seen.cups, sym (c.in-Some.ensures.there ∙ ap (λ cups. entry_in cups id) c.cups.ensures), c.requires.kept.kept);
      shape = c.in-Some.ensures.shape;
    }

pub write_cup-requires : goal.write_cup-requires
write_cup-requires g c = record {
  kept = c.requires.kept;
  shape = c.in-Some.ensures.shape;
  shown = λ entries are. c.as_slice-through.ensures ∙ ap (λ s. s.rounds) (c.in-Ok.ensures.value entries are);
}

pub returns-in-Ok-clause-value : goal.returns-in-Ok-clause-value
returns-in-Ok-clause-value g c = λ entries are.
    let seen = c.args.seen.now in
    let id = c.args.id in
    let b = c.in-Some.bracket.now in
    let at : entry_in seen.cups id ≡ Some b = sym (c.in-Some.ensures.there ∙ ap (λ cups. entry_in cups id) c.cups.ensures) in
    shown_if (cup_window seen.facts entries seen.cups id) (cup_data seen.facts entries b id) c.write_cup.result c.is_shown.result c.args.out.now c.write_cup.new.out c.is_shown.ensures
    (ap (option_map (λ (bracket : Bracket). cup_data seen.facts entries bracket id)) at) (c.write_cup.ensures.value entries are)

pub returns-in-Ok-clause-cost : goal.returns-in-Ok-clause-cost
returns-in-Ok-clause-cost g c = λ entries are.
    let seen = c.args.seen.now in
    let id = c.args.id in
    let b = c.in-Some.bracket.now in
    let at : entry_in seen.cups id ≡ Some b = sym (c.in-Some.ensures.there ∙ ap (λ cups. entry_in cups id) c.cups.ensures) in
    let reads : cup_window_reads seen.facts entries seen.cups id ≡ 3 * ties_of (cup_shown seen.facts entries b).rounds =
    ap (λ (o : Option Bracket). option_map_or (λ (bracket : Bracket). 3 * ties_of (cup_shown seen.facts entries bracket).rounds) o 0) at in
    let first = c.cup.ensures.cost entries are in
    let rest = c.write_cup.ensures.cost entries are in
    omega (arith, reads, first, rest)

pub returns-in-Err-clause-value : goal.returns-in-Err-clause-value
returns-in-Err-clause-value g c = λ entries are.
    let seen = c.args.seen.now in
    let id = c.args.id in
    let b = c.in-Some.bracket.now in
    let at : entry_in seen.cups id ≡ Some b = sym (c.in-Some.ensures.there ∙ ap (λ cups. entry_in cups id) c.cups.ensures) in
    failed (cup_window seen.facts entries seen.cups id) (cup_data seen.facts entries b id) c.in-Err.memory c.args.out.now c.args.out.now
    (ap (option_map (λ (bracket : Bracket). cup_data seen.facts entries bracket id)) at)

pub returns-in-Err-clause-cost : goal.returns-in-Err-clause-cost
returns-in-Err-clause-cost g c = λ entries are.
    let seen = c.args.seen.now in
    let id = c.args.id in
    let b = c.in-Some.bracket.now in
    let at : entry_in seen.cups id ≡ Some b = sym (c.in-Some.ensures.there ∙ ap (λ cups. entry_in cups id) c.cups.ensures) in
    let reads : cup_window_reads seen.facts entries seen.cups id ≡ 3 * ties_of (cup_shown seen.facts entries b).rounds =
    ap (λ (o : Option Bracket). option_map_or (λ (bracket : Bracket). 3 * ties_of (cup_shown seen.facts entries bracket).rounds) o 0) at in
    let first = c.cup.ensures.cost entries are in
    omega (arith, reads, first)

pub returns-in-None-clause-value : goal.returns-in-None-clause-value
returns-in-None-clause-value g c = λ entries are.
    let seen = c.args.seen.now in
    let id = c.args.id in
    let none : entry_in seen.cups id ≡ None = sym (c.in-None.ensures.there ∙ ap (λ cups. entry_in cups id) c.cups.ensures) in
    hidden (cup_window seen.facts entries seen.cups id) c.args.out.now (ap (option_map (λ (bracket : Bracket). cup_data seen.facts entries bracket id)) none)

pub returns-in-None-clause-cost : goal.returns-in-None-clause-cost
returns-in-None-clause-cost g c = λ entries are. omega arith
