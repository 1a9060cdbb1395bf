use Rattle.std.proofs.Common.{◌≡◌, ◌+◌, map, rules, take}
use Rattle.squad_rules.specs.declared.pools.Candidate.{Candidate}
use Rattle.squad_rules.specs.Pools.{placed_at}
use Rattle.squad_rules.proofs.Lined.{lined_up}
use Rattle.squad_rules.proofs.dream.players_of.Goals as goal

pub returns : goal.returns
returns c =
    let pools = c.args.pools.now in
    let d = c.args.best.now.defenders in
    let m = c.args.best.now.midfielders in
    let f = c.args.best.now.forwards in
    let one : c.placed-in_goal.result ≡ placed_at c.eleven_times-blank.result 0 (map (λ (candidate : Candidate). candidate.player) (take 1 pools.keepers.items)) = search rules in
    let two : c.placed-behind.result ≡ placed_at c.placed-in_goal.result 1 (map (λ (candidate : Candidate). candidate.player) (take d pools.defenders.items)) = search rules in
    let three : c.placed-middle.result ≡ placed_at c.placed-behind.result (1 + d) (map (λ (candidate : Candidate). candidate.player) (take m pools.midfielders.items)) = search rules in
    let four : c.placed.result ≡ placed_at c.placed-middle.result ((1 + d) + m) (map (λ (candidate : Candidate). candidate.player) (take f pools.forwards.items)) = search rules in
    lined_up pools d m f c.requires.formation c.requires.enough c.eleven_times-blank.result c.placed-in_goal.result c.placed-behind.result c.placed-middle.result c.placed.result
    c.eleven_times-blank.ensures one two three four
