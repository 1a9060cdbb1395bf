use Rattle.std.proofs.Common.{◌≡◌, drop, eqb, map}
use Rattle.std.specs.List.{list_any}
use Rattle.store_validation.proofs.team_rules.is_among.Given as goal

abbrev pub invariant-picks : goal.invariant-picks
invariant-picks l =
    list_any (λ other. eqb other l.player) (map (λ pick. pick.0) (drop l.pick-index l.picks)) ≡ list_any (λ other. eqb other l.player) (map (λ pick. pick.0) l.picks)
