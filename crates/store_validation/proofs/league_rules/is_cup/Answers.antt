use Rattle.std.proofs.Common.{◌≡◌, ◌∙◌, ◌+◌, ◌≤◌, ap, arith, min, subst}
use Rattle.rule_book.specs.declared.cup.Bracket.{Bracket}
use Rattle.rule_book.specs.Cups.{is_cup}
use Rattle.store_validation.proofs.Judged.{capped, judged_ok, unstarted}
use Rattle.store_validation.proofs.league_rules.is_cup.Goals.{then-gameweeks-most, else-gameweeks-most}
use Rattle.store_validation.proofs.league_rules.is_cup.Goals as goal

pub returns : goal.returns
returns c =
    let b : Bracket = record { start = c.args.start; slots = c.args.slots.now; coins = c.args.coins.now } in
    let later : 1 ≤ c.args.start = subst (λ g. 1 ≤ g) c.get.ensures.value c.get.ensures.range.0 in
    let least : c.if-gameweeks-most.gameweeks ≡ min c.args.gameweeks (c.args.start + 10) = elim c.if-gameweeks-most.branch [
      | then-gameweeks-most w ↦ w.gameweeks-is ∙ omega (arith, w.if-gameweeks-most.true, c.get.ensures.value)
      | else-gameweeks-most w ↦ w.gameweeks-is ∙ omega (arith, w.if-gameweeks-most.false, c.get.ensures.value)
    ] in
    c.is_ok.ensures.value
    ∙ (judged_ok _ c.check_draw.result c.check_draw.ensures.judged
    ∙ (unstarted b c.if-gameweeks-most.gameweeks later
    ∙ (ap (is_cup b) least ∙ capped b c.args.gameweeks)))
