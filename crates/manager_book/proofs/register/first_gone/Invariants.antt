use Rattle.std.proofs.Common.{◌≡◌, drop}
use Rattle.std.specs.Prelude.{find}
use Rattle.rule_book.specs.Batch.{is_gone}
use Rattle.manager_book.proofs.register.first_gone.Given as goal

abbrev pub invariant-squad : goal.invariant-squad
invariant-squad l = find (is_gone l.players) (drop l.id-index l.squad) ≡ find (is_gone l.players) l.squad
