use Rattle.season_keeping.proofs.host.Host.answer_command.Given as goal

abbrev pub ghost-answer_command : goal.ghost-answer_command
ghost-answer_command g a = a.house.now
