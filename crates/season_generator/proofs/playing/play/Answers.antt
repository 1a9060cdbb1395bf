use Rattle.std.proofs.Common.{◌≡◌, ◌∙◌, ◌-◌, ◌+◌, ℕ, suc, ap, arith, refl, rules, subst, sym}
use Rattle.std.specs.Prelude.{Ok, Err, Result}
use Rattle.request_handler.specs.Kept.{Kept, Leads}
use Rattle.season_generator.specs.Generating.{PlaysOn}
use Rattle.season_generator.proofs.CourseLemmas.{played_as, rose_behind, rose_from, underway_end, underway_more, underway_start, underway_stop}
use Rattle.season_generator.proofs.playing.play.Goals as goal

pub loop-number-init : goal.loop-number-init
loop-number-init g c = record {
  underway = λ moments.
      let first : Kept _ = record { host = c.args.host.now; moments = moments; failed = g.K.Keeper.faults c.args.keeper.now; keeper = c.args.keeper.now } in
      underway_start _ g.K.Keeper.tells g.K.Keeper.serves g.K.Keeper.holds g.K.Keeper.passes c.args.season.now c.args.from (c.args.to - c.args.from) (g.W.Sink.taken c.args.output.now) first;
  fresh = c.requires.fresh;
  season = refl;
  output = refl;
  later = omega arith;
}

pub loop-number-preserved : goal.loop-number-preserved
loop-number-preserved g c =
    let inv = c.loop-number.invariant in
    let one = c.play_one.new in
    let more : c.args.to - c.loop-number.number ≡ suc (c.args.to - (c.loop-number.number + 1)) = omega (arith, c.loop-number-test.true) in
    record {
      underway = λ moments.
          let first : Kept _ = record { host = c.args.host.now; moments = moments; failed = g.K.Keeper.faults c.args.keeper.now; keeper = c.args.keeper.now } in
          let mid : Kept _ = record { host = c.loop-number.host; moments = moments; failed = g.K.Keeper.faults c.loop-number.keeper; keeper = c.loop-number.keeper } in
          let last : Kept _ = record { host = one.host; moments = moments; failed = g.K.Keeper.faults one.keeper; keeper = one.keeper } in
          underway_more _ g.K.Keeper.tells g.K.Keeper.serves g.K.Keeper.holds g.K.Keeper.passes c.args.season.now c.args.from (c.args.to - c.args.from) c.loop-number.number
          (c.args.to - c.loop-number.number) (c.args.to - (c.loop-number.number + 1)) (g.W.Sink.taken c.args.output.now) first mid last more (inv.underway moments)
          (played_as _ g.K.Keeper.tells g.K.Keeper.serves g.K.Keeper.holds g.K.Keeper.passes c.args.season.now c.loop-number.season c.loop-number.number
          (g.W.Sink.taken c.args.output.now) (g.W.Sink.taken c.loop-number.output) (g.W.Sink.taken c.args.output.now) (g.W.Sink.taken one.output) (Ok tt) mid last
          inv.season (ap g.W.Sink.taken inv.output) (ap g.W.Sink.taken (c.in_ok-play_one.ensures.output ∙ inv.output)) (c.in_ok-play_one.ensures.played moments));
      fresh = c.in_ok-play_one.ensures.fresh;
      season = c.in_ok-play_one.ensures.same ∙ inv.season;
      output = c.in_ok-play_one.ensures.output ∙ inv.output;
      later = omega (arith, inv.later, c.in_ok-play_one.ensures.later);
    }

pub returns-in_err-play_one-clause-played : goal.returns-in_err-play_one-clause-played
returns-in_err-play_one-clause-played g c moments =
    let inv = c.loop-number.invariant in
    let one = c.play_one.new in
    let more : c.args.to - c.loop-number.number ≡ suc (c.args.to - (c.loop-number.number + 1)) = omega (arith, c.loop-number-test.true) in
    let first : Kept _ = record { host = c.args.host.now; moments = moments; failed = g.K.Keeper.faults c.args.keeper.now; keeper = c.args.keeper.now } in
    let mid : Kept _ = record { host = c.loop-number.host; moments = moments; failed = g.K.Keeper.faults c.loop-number.keeper; keeper = c.loop-number.keeper } in
    let last : Kept _ = record { host = one.host; moments = moments; failed = g.K.Keeper.faults one.keeper; keeper = one.keeper } in
    let is : c.from_residual.result ≡ Err c.in_err-play_one.field-0.0 = search rules in
    subst (λ (r : Result (Unit {0}) ℕ). Leads g.K.Keeper.tells g.K.Keeper.serves g.K.Keeper.holds g.K.Keeper.passes first last
    (PlaysOn c.args.season.now c.args.from (c.args.to - c.args.from) (g.W.Sink.taken c.args.output.now) (g.W.Sink.taken one.output) r)) (sym is)
    (underway_stop _ g.K.Keeper.tells g.K.Keeper.serves g.K.Keeper.holds g.K.Keeper.passes c.args.season.now c.args.from (c.args.to - c.args.from) c.loop-number.number
    (c.args.to - c.loop-number.number) (c.args.to - (c.loop-number.number + 1)) (g.W.Sink.taken c.args.output.now) (g.W.Sink.taken one.output) c.in_err-play_one.field-0.0 first mid last more (inv.underway moments)
    (played_as _ g.K.Keeper.tells g.K.Keeper.serves g.K.Keeper.holds g.K.Keeper.passes c.args.season.now c.loop-number.season c.loop-number.number
    (g.W.Sink.taken c.args.output.now) (g.W.Sink.taken c.loop-number.output) (g.W.Sink.taken one.output) (g.W.Sink.taken one.output) (Err c.in_err-play_one.field-0.0) mid last
    inv.season (ap g.W.Sink.taken inv.output) refl (c.in_err-play_one.ensures.played moments)))

pub returns-in_err-play_one-clause-keeper : goal.returns-in_err-play_one-clause-keeper
returns-in_err-play_one-clause-keeper g c failed =
    let is : c.from_residual.result ≡ Err c.in_err-play_one.field-0.0 = search rules in
    rose_behind _ _ _ c.loop-number.invariant.later (c.in_err-play_one.ensures.keeper (sym is ∙ failed))

pub returns-in_err-play_one-clause-write : goal.returns-in_err-play_one-clause-write
returns-in_err-play_one-clause-write g c failed =
    let is : c.from_residual.result ≡ Err c.in_err-play_one.field-0.0 = search rules in
    rose_from g.W.Sink.faults _ _ _ c.loop-number.invariant.output (c.in_err-play_one.ensures.write (sym is ∙ failed))

pub returns-clause-played : goal.returns-clause-played
returns-clause-played g c moments =
    let inv = c.loop-number.invariant in
    let none : c.args.to - c.loop-number.number ≡ 0 = omega (arith, c.loop-number-test.false) in
    let first : Kept _ = record { host = c.args.host.now; moments = moments; failed = g.K.Keeper.faults c.args.keeper.now; keeper = c.args.keeper.now } in
    let last : Kept _ = record { host = c.loop-number.host; moments = moments; failed = g.K.Keeper.faults c.loop-number.keeper; keeper = c.loop-number.keeper } in
    underway_end _ g.K.Keeper.tells g.K.Keeper.serves g.K.Keeper.holds g.K.Keeper.passes c.args.season.now c.args.from (c.args.to - c.args.from) c.loop-number.number (c.args.to - c.loop-number.number)
    (g.W.Sink.taken c.args.output.now) (g.W.Sink.taken c.loop-number.output) first last (ap g.W.Sink.taken inv.output) none (inv.underway moments)
