use Rattle.std.proofs.Common.{◌≡◌, ◌∙◌, ◌+◌, ◌-◌, ℕ, Bool, ap, arith, cond, sym}
use Rattle.std.specs.List.{count_by, range_with_len}
use Rattle.std.proofs.lemmas.List.Sums.{count_by-le-length}
use Rattle.std.proofs.lemmas.List.FromFn.{length-range_with_len}
use Rattle.fpl_base.specs.Keeping.{map_of}
use Rattle.season_records.specs.declared.slot.Slot.TheVariants as slot
use Rattle.stored_records.specs.Stored.{is_there}
use Rattle.stored_records.proofs.Loops.{count_up}
use Rattle.store_validation.proofs.league_rules.leagues_before.Goals.{then-has, else-has}
use Rattle.store_validation.proofs.league_rules.leagues_before.Goals as goal

pub overflow_add-count : goal.overflow_add-count
overflow_add-count c =
    let few = count_by-le-length (λ n. is_there (map_of c.args.stored.now) (slot.Member n c.args.entry)) (range_with_len 1 (c.loop-l.l - 1)) in
    omega (arith, few, c.loop-l.invariant, length-range_with_len 1 (c.loop-l.l - 1), c.loop-l-test.true, c.get-l-end.type_inv)

pub loop-l-preserved : goal.loop-l-preserved
loop-l-preserved c =
    let test : ℕ → Bool = λ n. is_there (map_of c.args.stored.now) (slot.Member n c.args.entry) in
    let here : c.has.result ≡ test c.loop-l.l = c.has.ensures ∙ ap (λ e. is_there (map_of c.args.stored.now) (slot.Member c.loop-l.l e)) c.get.ensures.value in
    let next : 1 + (c.loop-l.l - 1) ≡ c.loop-l.l = omega (arith, c.loop-l.auto.l) in
    let more : c.loop-l.l + 1 - 1 ≡ c.loop-l.l - 1 + 1 = omega (arith, c.loop-l.auto.l) in
    let counted : c.if-has.count ≡ c.loop-l.count + cond c.has.result 1 0 = elim c.if-has.branch [
      | then-has w ↦ w.count-is ∙ ap (λ b. c.loop-l.count + cond b 1 0) (sym w.if-has.true)
      | else-has w ↦ w.count-is ∙ (omega arith ∙ ap (λ b. c.loop-l.count + cond b 1 0) (sym w.if-has.false))
    ] in
    counted
    ∙ ((λ i. c.loop-l.invariant i + cond (here i) 1 0)
    ∙ (ap (λ n. count_by test (range_with_len 1 (c.loop-l.l - 1)) + cond (test n) 1 0) (sym next)
    ∙ (sym (count_up test 1 (c.loop-l.l - 1)) ∙ ap (λ n. count_by test (range_with_len 1 n)) (sym more))))
