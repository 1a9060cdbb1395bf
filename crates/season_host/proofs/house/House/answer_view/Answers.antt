use Rattle.std.proofs.Common.{arith, subst, sym}
use Rattle.season_book.specs.declared.request.View.TheVariants as view
use Rattle.season_book.specs.Verdict.{view_answer}
use Rattle.season_views.proofs.Counted.{eight}
use Rattle.season_running.specs.Kept.{AreKeptBy}
use Rattle.season_running.proofs.HostFacts.{gameweek_shown, seen_answered, stood_for}
use Rattle.season_host.proofs.Followed.{kept_of}
use Rattle.season_host.proofs.ViewReads.{last_is, seen_reads, window_few}
use Rattle.season_host.proofs.house.House.answer_view.Goals as goal

pub returns-in-EntryGameweek-clause-shown : goal.returns-in-EntryGameweek-clause-shown
returns-in-EntryGameweek-clause-shown g c =
    rw c.in-EntryGameweek.is (λ book stands.
    let running = c.in-Some.running in
    let plays = stood_for c.args.self.now c.self.inside.operator c.self.inside.running c.self.inside.lasts running book c.self.view_is c.in-Some.is stands in
    gameweek_shown book c.args.caller.now c.in-EntryGameweek.entry c.in-EntryGameweek.gameweek running.facts c.entry_gameweek.result plays.facts
    (c.entry_gameweek.ensures.seen c.args.caller.now book plays))

pub returns-in-League-clause-shown : goal.returns-in-League-clause-shown
returns-in-League-clause-shown g c =
    rw c.in-League.is (λ book stands.
    let running = c.in-Some.running in
    let plays = stood_for c.args.self.now c.self.inside.operator c.self.inside.running c.self.inside.lasts running book c.self.view_is c.in-Some.is stands in
    seen_answered book c.args.caller.now (view.League c.in-League.league) running.facts c.league.result plays.facts (c.league.ensures.seen c.args.caller.now book plays))

pub returns-in-Cup-clause-shown : goal.returns-in-Cup-clause-shown
returns-in-Cup-clause-shown g c =
    rw c.in-Cup.is (λ book stands.
    let running = c.in-Some.running in
    let plays = stood_for c.args.self.now c.self.inside.operator c.self.inside.running c.self.inside.lasts running book c.self.view_is c.in-Some.is stands in
    seen_answered book c.args.caller.now (view.Cup c.in-Cup.cup) running.facts c.cup.result plays.facts (c.cup.ensures.seen c.args.caller.now book plays))

pub show-requires : goal.show-requires
show-requires g c =
    let running = c.in-Some.running in
    subst (λ cells. AreKeptBy running cells) (sym c.cells-cells.ensures)
    (kept_of c.self.inside.operator c.self.inside.lasts c.args.self.now c.self.inside.running running c.args.cells.now c.in-Some-cells.kept
    c.self.view_is c.in-Some.is c.in-Some-cells.is c.requires)

pub window-requires : goal.window-requires
window-requires g c =
    let running = c.in-Some.running in
    subst (λ cells. AreKeptBy running cells) (sym c.cells-cells.ensures)
    (kept_of c.self.inside.operator c.self.inside.lasts c.args.self.now c.self.inside.running running c.args.cells.now c.in-Some-cells.kept
    c.self.view_is c.in-Some.is c.in-Some-cells.is c.requires)

pub returns-in-Me-clause-cost : goal.returns-in-Me-clause-cost
returns-in-Me-clause-cost g c = λ book stands.
    let most = eight (view_answer book c.args.caller.now c.args.view) in
    let few = c.my_entry.ensures.cost in
    omega (arith, most, few)

pub returns-in-EntryGameweek-clause-cost : goal.returns-in-EntryGameweek-clause-cost
returns-in-EntryGameweek-clause-cost g c = λ book stands.
    let most = eight (view_answer book c.args.caller.now c.args.view) in
    let few = c.entry_gameweek.ensures.cost in
    omega (arith, most, few)

pub returns-in-League-clause-cost : goal.returns-in-League-clause-cost
returns-in-League-clause-cost g c =
    rw c.in-League.is (λ book stands.
    let running = c.in-Some.running in
    let plays = stood_for c.args.self.now c.self.inside.operator c.self.inside.running c.self.inside.lasts running book c.self.view_is c.in-Some.is stands in
    seen_reads book c.args.caller.now (view.League c.in-League.league) running.facts c.args.steps.now c.league.new.steps plays.facts (c.league.ensures.cost c.args.caller.now book plays))

pub returns-in-Cup-clause-cost : goal.returns-in-Cup-clause-cost
returns-in-Cup-clause-cost g c =
    rw c.in-Cup.is (λ book stands.
    let running = c.in-Some.running in
    let plays = stood_for c.args.self.now c.self.inside.operator c.self.inside.running c.self.inside.lasts running book c.self.view_is c.in-Some.is stands in
    seen_reads book c.args.caller.now (view.Cup c.in-Cup.cup) running.facts c.args.steps.now c.cup.new.steps plays.facts (c.cup.ensures.cost c.args.caller.now book plays))

pub returns-in-Window-clause-shown : goal.returns-in-Window-clause-shown
returns-in-Window-clause-shown g c =
    rw c.in-Window.is (λ book stands.
    let running = c.in-Some.running in
    let plays = stood_for c.args.self.now c.self.inside.operator c.self.inside.running c.self.inside.lasts running book c.self.view_is c.in-Some.is stands in
    seen_answered book c.args.caller.now (view.Window c.in-Window.window) running.facts c.window.result plays.facts
    (c.window.ensures.seen book plays (last_is c.self.inside.operator c.self.inside.running c.self.inside.lasts c.args.self.now book c.args.caller.now c.number-in-Window.result c.self.view_is c.number-in-Window.ensures stands)))

pub returns-in-Window-clause-cost : goal.returns-in-Window-clause-cost
returns-in-Window-clause-cost g c =
    rw c.in-Window.is (λ book stands.
    let running = c.in-Some.running in
    let plays = stood_for c.args.self.now c.self.inside.operator c.self.inside.running c.self.inside.lasts running book c.self.view_is c.in-Some.is stands in
    window_few book c.args.caller.now c.in-Window.window running.facts c.args.steps.now c.window.new.steps plays.facts (c.window.ensures.cost book plays))
