use Rattle.season_facts.proofs.season.Season.judge.Goals as goal

pub returns-in-Player-clause-weighed : goal.returns-in-Player-clause-weighed
returns-in-Player-clause-weighed g c = rw c.in-Player.is (c.judge_player.ensures c.in-Player.name c.in-Player.position)
