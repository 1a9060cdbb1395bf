use Rattle.std.proofs.Common.{◌≡◌, ◌+◌, ◌+ℤ◌, arith, to_z, of_z, w32}
use Rattle.std.proofs.lemmas.Int.{ints}
use Rattle.bootstrap_window.proofs.totals.with_line.Goals as goal

pub returns-clause-told : goal.returns-clause-told
returns-clause-told c =
    let t = c.args.t.now in
    let small = c.requires.small in
    let bps_fits : to_z w32 (of_z w32 (to_z w32 (of_z w32 t.bps) +ℤ to_z w32 (of_z w32 c.args.bps))) ≡ t.bps +ℤ c.args.bps = omega (arith, ints, small.bps, c.requires.bps, c.requires.few) in
    let points_fit : to_z w32 (of_z w32 (to_z w32 (of_z w32 t.points) +ℤ to_z w32 (of_z w32 c.args.points))) ≡ t.points +ℤ c.args.points = omega (arith, ints, small.points, c.requires.points, c.requires.few) in
    λ i. record {
      lines = t.lines + 1;
      played = t.played + c.plays.ensures.value i;
      assists = t.assists + c.figure_of.ensures.value i;
      bonus = t.bonus + c.from.ensures i;
      bps = bps_fits i;
      clean_sheets = t.clean_sheets + c.clean_sheets_of.ensures.value i;
      conceded = t.conceded + c.figure_of-2.ensures.value i;
      goals = t.goals + c.figure_of-3.ensures.value i;
      minutes = t.minutes + c.figure_of-4.ensures.value i;
      own_goals = t.own_goals + c.figure_of-5.ensures.value i;
      penalties_missed = t.penalties_missed + c.figure_of-6.ensures.value i;
      penalties_saved = t.penalties_saved + c.figure_of-7.ensures.value i;
      points = points_fit i;
      red_cards = t.red_cards + c.figure_of-8.ensures.value i;
      saves = t.saves + c.figure_of-9.ensures.value i;
      yellow_cards = t.yellow_cards + c.yellow_cards_of.ensures.value i;
    }

pub returns-clause-small : goal.returns-clause-small
returns-clause-small c =
    let t = c.args.t.now in
    let small = c.requires.small in
    record {
      played = omega (arith, small.played, c.plays.ensures.bound);
      assists = omega (arith, small.assists, c.figure_of.ensures.bound);
      bonus = omega (arith, small.bonus, c.from.ensures, c.ranges.bonus);
      bps = (omega (arith, ints), omega (arith, ints));
      clean_sheets = omega (arith, small.clean_sheets, c.clean_sheets_of.ensures.bound);
      conceded = omega (arith, small.conceded, c.figure_of-2.ensures.bound);
      goals = omega (arith, small.goals, c.figure_of-3.ensures.bound);
      minutes = omega (arith, small.minutes, c.figure_of-4.ensures.bound);
      own_goals = omega (arith, small.own_goals, c.figure_of-5.ensures.bound);
      penalties_missed = omega (arith, small.penalties_missed, c.figure_of-6.ensures.bound);
      penalties_saved = omega (arith, small.penalties_saved, c.figure_of-7.ensures.bound);
      points = (omega (arith, ints), omega (arith, ints));
      red_cards = omega (arith, small.red_cards, c.figure_of-8.ensures.bound);
      saves = omega (arith, small.saves, c.figure_of-9.ensures.bound);
      yellow_cards = omega (arith, small.yellow_cards, c.yellow_cards_of.ensures.bound);
    }
