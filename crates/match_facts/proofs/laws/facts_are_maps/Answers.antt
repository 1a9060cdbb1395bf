use Rattle.match_facts.proofs.Maps.{sheets_are_a_map, lines_are_a_map, lines_go}
use Rattle.match_facts.proofs.HandedIn.{sheets_have_their_lines}
use Rattle.match_facts.proofs.laws.facts_are_maps.Goals as goal

pub returns-clause-sheets : goal.returns-clause-sheets
returns-clause-sheets c = sheets_are_a_map

pub returns-clause-lines : goal.returns-clause-lines
returns-clause-lines c = lines_are_a_map

pub returns-clause-gone : goal.returns-clause-gone
returns-clause-gone c = lines_go

pub returns-clause-sheet : goal.returns-clause-sheet
returns-clause-sheet c = sheets_have_their_lines
