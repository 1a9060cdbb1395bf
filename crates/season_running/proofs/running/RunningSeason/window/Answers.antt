use Rattle.std.proofs.Common.{◌≡◌, ◌≤◌, ◌+◌, Option, subst, sym}
use Rattle.std.specs.Prelude.{IsSome, OnErr}
use Rattle.std.specs.Option.{option_map}
use Rattle.std.proofs.lemmas.Result.{IfOk-weaker}
use Rattle.serde_json.specs.Data.{Data}
use Rattle.serde_json.specs.Written.{compact_text}
use Rattle.season_book.specs.Book.{last_number}
use Rattle.season_book.specs.Doing.{IsShown}
use Rattle.season_book.specs.Verdict.{page_of, shown_or_unknown}
use Rattle.season_book.specs.AllWindows.{window_data}
use Rattle.season_views.specs.Reads.{window_reads}
use Rattle.season_running.proofs.SeenFacts.{of_book}
use Rattle.season_running.proofs.running.RunningSeason.window.Goals as goal

pub returns-clause-seen : goal.returns-clause-seen
returns-clause-seen g c = λ book plays is_last.
    let running = c.args.self.now in
    let s = c.seen-seen.result.0 in
    let caller = c.args.caller.now in
    let due : Option Data = window_data running.facts book.entries running.leagues running.cups caller c.args.last c.args.asked in
    let told = IfOk-weaker c.window.result _ (λ page. page ≡ option_map compact_text due)
    (λ page each. of_book running book s c.seen-seen.ensures.seen plays (λ s entries. page ≡ option_map compact_text (window_data s.facts entries s.leagues s.cups caller c.args.last c.args.asked)) each) c.window.ensures.value in
    let out = of_book running book s c.seen-seen.ensures.seen plays (λ s entries. OnErr c.window.result (IsSome (window_data s.facts entries s.leagues s.cups caller c.args.last c.args.asked))) c.window.ensures.out in
    let leagues = sym plays.leagues in
    let cups = sym plays.cups in
    let same : due ≡ window_data running.facts book.entries book.leagues book.cups caller (last_number book caller) c.args.asked =
    λ i. window_data running.facts book.entries (leagues i) (cups i) caller (is_last i) c.args.asked in
    subst (λ d. IsShown (shown_or_unknown (option_map page_of d)) c.page_answer.result) same (c.page_answer.ensures.shown due told out)

pub returns-clause-cost : goal.returns-clause-cost
returns-clause-cost g c = λ book plays.
    let running = c.args.self.now in
    let cost = of_book running book c.seen-seen.result.0 c.seen-seen.ensures.seen plays (λ s entries. c.window.new.steps ≤ c.args.steps.now + window_reads s.facts entries s.leagues s.cups c.args.asked) c.window.ensures.cost in
    let leagues = sym plays.leagues in
    let cups = sym plays.cups in
    let same : window_reads running.facts book.entries running.leagues running.cups c.args.asked ≡ window_reads running.facts book.entries book.leagues book.cups c.args.asked =
    λ i. window_reads running.facts book.entries (leagues i) (cups i) c.args.asked in
    subst (λ n. c.window.new.steps ≤ c.args.steps.now + n) same cost

pub window-requires : goal.window-requires
window-requires g c = c.seen-seen.ensures.kept
