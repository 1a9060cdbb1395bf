use Rattle.season_host.proofs.following.answer_command.Given as goal

abbrev pub ghost-follow : goal.ghost-follow
ghost-follow g a = g.before
