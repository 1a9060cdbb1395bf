use Rattle.std.proofs.Common.{◌≡◌, ◌∙◌, Option, ap, sym}
use Rattle.std.specs.Option.{option_map}
use Rattle.season_book.specs.EntryViews.{entry_shown}
use Rattle.season_book.specs.Verdict.{shown_or_unknown}
use Rattle.season_book.specs.declared.shown.Shown.TheVariants as shown
use Rattle.season_book.specs.declared.shown.ShownEntryGameweek.{ShownEntryGameweek}
use Rattle.season_running.proofs.SeenFacts.{of_book}
use Rattle.season_running.proofs.running.RunningSeason.entry_gameweek.Goals as goal

pub entry_gameweek-requires : goal.entry_gameweek-requires
entry_gameweek-requires g c =
    let s = c.seen-seen.result.0 in
    record { profile = c.seen-seen.ensures.kept.profile; kept = (s.leagues, s.cups, c.seen-seen.ensures.kept.kept) }

pub returns-in-Some-clause-seen : goal.returns-in-Some-clause-seen
returns-in-Some-clause-seen g c = λ caller book plays.
    let value = of_book c.args.self.now book c.seen-seen.result.0 c.seen-seen.ensures.seen plays (λ s entries. c.entry_gameweek.result ≡ entry_shown s.facts entries c.args.entry c.args.gameweek) c.entry_gameweek.ensures.value in
    ap (λ (o : Option ShownEntryGameweek). shown_or_unknown (option_map shown.EntryGameweek o)) (sym c.in-Some.is ∙ value)

pub returns-in-None-clause-seen : goal.returns-in-None-clause-seen
returns-in-None-clause-seen g c = λ caller book plays.
    let value = of_book c.args.self.now book c.seen-seen.result.0 c.seen-seen.ensures.seen plays (λ s entries. c.entry_gameweek.result ≡ entry_shown s.facts entries c.args.entry c.args.gameweek) c.entry_gameweek.ensures.value in
    ap (λ (o : Option ShownEntryGameweek). shown_or_unknown (option_map shown.EntryGameweek o)) (sym c.in-None.is ∙ value)
