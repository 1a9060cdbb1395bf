use Rattle.request_handler.proofs.handler.opened.Given as goal

abbrev pub ghosts-opened_apart : goal.ghosts-opened_apart
ghosts-opened_apart a b = record { name = b.blank.name; parts = b.blank.parts }
