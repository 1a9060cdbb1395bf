use Rattle.std.proofs.Common.{rules, subst}
use Rattle.rule_book.specs.Calendar.{IsCalendar}
use Rattle.season_book.specs.Book.{Facts}
use Rattle.season_cells.specs.Correcting.{IsCheap, IsCorrected}
use Rattle.season_cells.specs.Kept.{AreCellsOf}
use Rattle.season_nodes.specs.Season.{SeasonFacts}
use Rattle.season_running.proofs.RuledFacts.{on_ok}
use Rattle.season_host.specs.Cells.{running_seen}
use Rattle.season_host.proofs.Followed.{locked_season, seen_is}
use Rattle.season_host.proofs.following.follow_locks_in.Goals as goal

pub follow_locks-requires : goal.follow_locks-requires
follow_locks-requires g c κs within =
    let running = c.args.running.now in
    let same = seen_is running c.season-2.result.now c.managers.result.now c.leagues.result.now c.cups.result.now c.season-2.ensures c.managers.ensures.managers c.managers.ensures.profile c.leagues.ensures c.cups.ensures in
    let calendar = subst (λ (f : Facts). IsCalendar f.calendar) c.season.ensures c.keeps_facts.ensures.calendar in
    let made = locked_season c.calendar_changes.ensures.passed g.before running c.args.first _ same c.requires.1.1 c.requires.1.0.season calendar in
    (search rules, (c.requires.1.0, made))

pub returns : goal.returns
returns g c =
    let running = c.args.running.now in
    let same = seen_is running c.season-2.result.now c.managers.result.now c.leagues.result.now c.cups.result.now c.season-2.ensures c.managers.ensures.managers c.managers.ensures.profile c.leagues.ensures c.cups.ensures in
    record {
      cells = on_ok c.follow_locks.result c.follow_locks.ensures.cells (λ are. subst (λ (f : SeasonFacts). AreCellsOf f c.follow_locks.new.self) same are);
      corrected = on_ok c.follow_locks.result c.follow_locks.ensures.corrected (λ is. subst (λ (f : SeasonFacts). IsCorrected (running_seen g.before) f c.args.cells.now.cells c.follow_locks.new.self.cells) same is);
      cheap = on_ok c.follow_locks.result c.follow_locks.ensures.cost (λ is. subst (λ (f : SeasonFacts). IsCheap (running_seen g.before) f c.args.steps.now c.follow_locks.new.steps) same is);
    }
