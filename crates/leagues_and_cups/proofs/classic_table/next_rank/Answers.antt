use Rattle.std.proofs.Common.{◌≡◌, ◌∙◌, sym, ap, ◌-◌, ◌+◌, arith, get_or}
use Rattle.leagues_and_cups.specs.ClassicStanding.{rank_placed}
use Rattle.leagues_and_cups.specs.declared.classic_table.Placed.{Placed}
use Rattle.leagues_and_cups.proofs.RunningRanks.{first, apart, tied, as_read}
use Rattle.leagues_and_cups.proofs.classic_table.next_rank.Goals as goal

pub returns-then-place-eq0 : goal.returns-then-place-eq0
returns-then-place-eq0 c =
    let rows = c.args.rows.now in
    let start : c.args.place ≡ 0 = omega arith in
    λ d. sym (ap (λ n. rank_placed rows (get_or rows n d)) start ∙ first rows c.requires.in_order d (omega arith))

pub returns-then-is_better : goal.returns-then-is_better
returns-then-is_better c =
    let rows = c.args.rows.now in
    let i = c.args.place - 1 in
    let next : c.args.place ≡ i + 1 = omega arith in
    let leads = λ (d : Placed). as_read rows c.requires.in_order i c.args.place c.index-rows-place.result c.index-rows-place-else-place-eq0.result d (omega arith) c.requires.among c.index-rows-place.is c.index-rows-place-else-place-eq0.is ∙ sym c.is_better.ensures ∙ c.if-is_better.true in
    λ d. sym (apart rows c.requires.in_order i c.args.place d next c.requires.among (leads d))

pub returns-else-is_better : goal.returns-else-is_better
returns-else-is_better c =
    let rows = c.args.rows.now in
    let i = c.args.place - 1 in
    let next : c.args.place ≡ i + 1 = omega arith in
    let leads = λ (d : Placed). as_read rows c.requires.in_order i c.args.place c.index-rows-place.result c.index-rows-place-else-place-eq0.result d (omega arith) c.requires.among c.index-rows-place.is c.index-rows-place-else-place-eq0.is ∙ sym c.is_better.ensures ∙ c.if-is_better.false in
    let last = c.requires.last in
    λ d. last d (omega arith) ∙ sym (tied rows c.requires.in_order i c.args.place d next c.requires.among (leads d))
