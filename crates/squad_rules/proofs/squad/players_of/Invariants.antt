use Rattle.rule_book.specs.declared.team.Pick.{Pick}
use Rattle.squad_rules.proofs.Copies.{Copied}
use Rattle.squad_rules.proofs.squad.players_of.Given as goal

abbrev pub invariant-loop-place : goal.invariant-loop-place
invariant-loop-place l = Copied (λ (pick : Pick). pick.player) l.picks l.place l.players
