use Rattle.std.proofs.Common.{◌≡◌, take}
use Rattle.season_book.specs.Commands.{by_id}
use Rattle.rule_book.specs.ById.{AreSorted}
use Rattle.season_facts.proofs.begin.clubs_by_id.Given as goal

abbrev pub invariant-clubs : goal.invariant-clubs
invariant-clubs l = record {
  entries : l.by_id.entries ≡ by_id (take l.club-index l.clubs);
  sorted : AreSorted l.by_id.entries;
}
