use Rattle.std.proofs.Common.{ap, sym, ◌∙◌}
use Rattle.rule_book.specs.LeagueCalls.{is_head}
use Rattle.season_views.proofs.Counted.{classic_read, head_read}
use Rattle.season_views.proofs.leagues.league.Goals as goal

pub classic-requires-clause-kind : goal.classic-requires-clause-kind
classic-requires-clause-kind g c = ap is_head (sym c.kind.ensures ∙ c.in-Classic.is)

pub classic-requires-clause-kept : goal.classic-requires-clause-kept
classic-requires-clause-kept g c = (c.args.id, c.requires.kept)

pub returns-in_ok-classic-in-Classic-clause-cost : goal.returns-in_ok-classic-in-Classic-clause-cost
returns-in_ok-classic-in-Classic-clause-cost g c entries are =
    classic_read c.args.seen.now.facts entries c.args.league.now _ _ (sym c.kind.ensures ∙ c.in-Classic.is) c.classic.ensures.cost

pub returns-in_err-classic-in-Classic-clause-cost : goal.returns-in_err-classic-in-Classic-clause-cost
returns-in_err-classic-in-Classic-clause-cost g c entries are =
    classic_read c.args.seen.now.facts entries c.args.league.now _ _ (sym c.kind.ensures ∙ c.in-Classic.is) c.classic.ensures.cost

pub returns-in_ok-head-in-Head-clause-cost : goal.returns-in_ok-head-in-Head-clause-cost
returns-in_ok-head-in-Head-clause-cost g c entries are =
    head_read c.args.seen.now.facts entries c.args.league.now _ _ (sym c.kind.ensures ∙ c.in-Head.is) c.head.ensures.cost

pub returns-in_err-head-in-Head-clause-cost : goal.returns-in_err-head-in-Head-clause-cost
returns-in_err-head-in-Head-clause-cost g c entries are =
    head_read c.args.seen.now.facts entries c.args.league.now _ _ (sym c.kind.ensures ∙ c.in-Head.is) c.head.ensures.cost
