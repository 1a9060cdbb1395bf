use Rattle.std.proofs.Common.{Bool, Ok, subst, ◌∙◌}
use Rattle.season_book.specs.AllWindows.{window_data}
use Rattle.season_views.specs.Seen.{WritesShown}
use Rattle.season_windows.proofs.Shown.{page_is}
use Rattle.season_windows.proofs.windows.window.Goals as goal

pub returns-then-branch-clause-value : goal.returns-then-branch-clause-value
returns-then-branch-clause-value g c = λ entries are.
    let seen = c.args.seen.now in
    let due = window_data seen.facts entries seen.leagues seen.cups c.args.caller.now c.args.last c.args.window in
    let wrote = subst (λ (b : Bool). WritesShown due (Ok b) c.new-out.result c.write_window.new.out) c.if-branch.true (c.in_ok-write_window.ensures.value entries are) in
    page_is due c.new-out.result c.write_window.new.out c.of.result wrote c.new-out.ensures.tokens (c.new-out.ensures.before ∙ c.new.ensures.items) (c.of.ensures ∙ c.into_inner.ensures.items)
