use Rattle.season_keeping.proofs.host.Host.lock.Given as goal

abbrev pub ghost-pass : goal.ghost-pass
ghost-pass g a = a.house.now
