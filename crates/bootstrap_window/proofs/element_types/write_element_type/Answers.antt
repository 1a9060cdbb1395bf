use Rattle.bootstrap_window.proofs.element_types.write_element_type.Goals as goal

pub returns : goal.returns
returns c = rw c.players_at.ensures at c.write_position.ensures
