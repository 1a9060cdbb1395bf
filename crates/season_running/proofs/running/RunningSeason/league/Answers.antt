use Rattle.std.proofs.Common.{◌≡◌, ◌≤◌, ◌+◌, ◌∙◌, Some, ap, subst, sym}
use Rattle.std.specs.Prelude.{option_copied}
use Rattle.std.specs.Option.{option_map}
use Rattle.std.proofs.lemmas.Result.{IfOk-weaker}
use Rattle.rule_book.specs.Leagues.{LeagueFacts}
use Rattle.rule_book.specs.Entries.{entry_in}
use Rattle.season_book.specs.Doing.{IsShown}
use Rattle.season_book.specs.Verdict.{shown_or_unknown}
use Rattle.season_book.specs.LeagueViews.{league_shown}
use Rattle.season_views.specs.Reads.{reads_allowed, reads_of}
use Rattle.season_views.specs.Seen.{SeenSeason}
use Rattle.season_running.proofs.SeenFacts.{of_book}
use Rattle.season_running.proofs.running.RunningSeason.league.Goals as goal

pub league-requires : goal.league-requires
league-requires g c =
    let s = c.seen-seen.result.0 in
    let at : entry_in s.leagues c.in-Some.id ≡ Some c.in-Some-get.there.now = ap (λ l. entry_in l c.in-Some.id) (sym c.leagues.ensures) ∙ sym c.get.ensures ∙ ap option_copied c.in-Some-get.is in
    record { profile = c.seen-seen.ensures.kept.profile; kept = (s.leagues, s.cups, at, c.seen-seen.ensures.kept.kept); issued = c.seen-seen.ensures.issued c.in-Some.id c.in-Some-get.there.now at }

pub returns-in-Some-get-clause-seen : goal.returns-in-Some-get-clause-seen
returns-in-Some-get-clause-seen g c = λ caller book plays.
    let running = c.args.self.now in
    let s = c.seen-seen.result.0 in
    let there : LeagueFacts = c.in-Some-get.there.now in
    let at_id : entry_in s.leagues c.in-Some.id ≡ Some there = ap (λ l. entry_in l c.in-Some.id) (sym c.leagues.ensures) ∙ sym c.get.ensures ∙ ap option_copied c.in-Some-get.is in
    let at : entry_in book.leagues c.args.number ≡ Some there =
    ap (λ l. entry_in l c.args.number) plays.leagues ∙ ap (λ (s : SeenSeason). entry_in s.leagues c.args.number) (sym c.seen-seen.ensures.seen) ∙ subst (λ n. entry_in s.leagues n ≡ Some there) c.in-Some.ensures.value at_id in
    let told = IfOk-weaker c.league.result _ (λ shown. shown ≡ league_shown running.facts book.entries there)
    (λ shown each. of_book running book s c.seen-seen.ensures.seen plays (λ s entries. shown ≡ league_shown s.facts entries there) each) c.league.ensures.value in
    subst (λ o. IsShown (shown_or_unknown (option_map (λ b. league_shown running.facts book.entries b) o)) c.answer_of.result) (sym at) (c.answer_of.ensures.shown (league_shown running.facts book.entries there) told)

pub returns-in-Some-get-clause-cost : goal.returns-in-Some-get-clause-cost
returns-in-Some-get-clause-cost g c = λ caller book plays.
    let running = c.args.self.now in
    let s = c.seen-seen.result.0 in
    let there : LeagueFacts = c.in-Some-get.there.now in
    let at_id : entry_in s.leagues c.in-Some.id ≡ Some there = ap (λ l. entry_in l c.in-Some.id) (sym c.leagues.ensures) ∙ sym c.get.ensures ∙ ap option_copied c.in-Some-get.is in
    let at : entry_in book.leagues c.args.number ≡ Some there =
    ap (λ l. entry_in l c.args.number) plays.leagues ∙ ap (λ (s : SeenSeason). entry_in s.leagues c.args.number) (sym c.seen-seen.ensures.seen) ∙ subst (λ n. entry_in s.leagues n ≡ Some there) c.in-Some.ensures.value at_id in
    let cost = of_book running book s c.seen-seen.ensures.seen plays (λ s entries. c.league.new.steps ≤ c.args.steps.now + reads_of (league_shown s.facts entries there)) c.league.ensures.cost in
    subst (λ o. c.league.new.steps ≤ c.args.steps.now + reads_allowed (shown_or_unknown (option_map (λ b. league_shown running.facts book.entries b) o))) (sym at) cost
