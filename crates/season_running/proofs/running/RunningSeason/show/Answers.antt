use Rattle.season_running.proofs.running.RunningSeason.show.Goals as goal

pub show-requires : goal.show-requires
show-requires g c =
    let s = c.seen-seen.result.0 in
    (s.managers, s.leagues, s.cups, c.seen-seen.ensures.kept.kept)
