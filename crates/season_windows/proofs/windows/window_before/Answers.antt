use Rattle.std.proofs.Common.{◌∙◌, [], ap}
use Rattle.json_members.specs.Tokens.{tokens_of}
use Rattle.json_members.proofs.AppendLemmas.{text_of}
use Rattle.season_book.specs.Book.{caller_number}
use Rattle.season_book.specs.Windows.{me_window}
use Rattle.season_views.proofs.Written.{me_nobody, nobody_at, retold}
use Rattle.season_windows.proofs.windows.window_before.Goals as goal

pub returns : goal.returns
returns c =
    let caller = c.args.caller.now in
    let wrote = retold (ap tokens_of (me_nobody [] caller c.args.last (nobody_at (caller_number caller)))) c.in_ok-write_me.ensures in
    rw (c.new-out.ensures.before, c.in_ok-with_capacity.ensures.items) at
    (c.of.ensures ∙ c.into_inner.ensures.items ∙ text_of (me_window [] caller c.args.last) c.new-out.ensures.tokens wrote)
