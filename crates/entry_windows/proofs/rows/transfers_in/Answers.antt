use Rattle.std.proofs.Common.{◌∙◌, sym, ap, if◌then◌else◌}
use Rattle.rule_book.specs.HistoryTransfers.{swaps_in}
use Rattle.rule_book.specs.PlayerFigures.{position_in}
use Rattle.entry_windows.proofs.rows.transfers_in.Goals as goal

pub returns-then-is_past-clause-value : goal.returns-then-is_past-clause-value
returns-then-is_past-clause-value g c = λ h stands.
    c.made.ensures.history (position_in c.args.seen.now.facts.players) h stands
    ∙ sym (ap (λ b. if b then swaps_in h c.args.gameweek else 0) (sym (c.is_past.ensures h stands) ∙ c.if-is_past.true))

pub returns-else-is_past-clause-value : goal.returns-else-is_past-clause-value
returns-else-is_past-clause-value g c = λ h stands.
    sym (ap (λ b. if b then swaps_in h c.args.gameweek else 0) (sym (c.is_past.ensures h stands) ∙ c.if-is_past.false))
