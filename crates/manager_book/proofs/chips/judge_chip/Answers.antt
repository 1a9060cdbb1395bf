use Rattle.std.proofs.Common.{◌≡◌, true, refl, rules}
use Rattle.rule_book.specs.History.{is_free_hit}
use Rattle.season_ledger.specs.Rows.{is_past}
use Rattle.manager_book.proofs.Entries.{can_play}
use Rattle.manager_book.proofs.chips.judge_chip.Goals as goal

pub returns-clause-worked : goal.returns-clause-worked
returns-clause-worked c players =
    let early : is_free_hit c.args.chip ≡ true → is_past c.args.season.now c.args.g ≡ true = search rules in
    record {
      gameweek = refl;
      fits = record { later = c.requires.later; free = can_play c.args.season.now c.args.g (c.first.ensures.begun c.args.g) c.requires.later (search rules) (search rules); early = early };
      placed = λ position h have st. tt;
      adds = λ h st. refl;
    }
