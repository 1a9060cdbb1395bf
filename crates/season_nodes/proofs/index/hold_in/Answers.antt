use Rattle.std.proofs.Common.{None, Some, refl, sym, ap, is_some, ◌∙◌, ◌++◌, ◌∷◌, []}
use Rattle.season_nodes.proofs.IndexLemmas.{held_more}
use Rattle.season_nodes.proofs.index.hold_in.Goals as goal

pub returns-in-Some : goal.returns-in-Some
returns-in-Some c =
    held_more c.args.rows.now.entries c.args.rows.now.entries (c.get_mut.follows.lender c.push.new.self).entries c.args.player c.args.gameweek c.args.entry c.push.new.self (Some c.in-Some.row.now)
    refl c.in-Some.ensures.value c.in_ok-push.ensures ((c.get_mut.follows.holds c.push.new.self).3 (sym (ap is_some c.in-Some.ensures.value))).0

pub returns : goal.returns
returns c = held_more c.args.rows.now.entries c.get_mut.follows.lender-at-none.entries c.insert.new.self.entries c.args.player c.args.gameweek c.args.entry c.push-2.new.self None (ap (λ m. m.entries) c.get_mut.follows.holds-at-none) c.in_default.ensures.value
    (c.in_ok-push-2.ensures ∙ ap (λ xs. xs ++ c.args.entry ∷ []) c.new.ensures.items) c.in_ok-insert.ensures.updates.0
