use Rattle.season_cells.proofs.Leading as leading
use Rattle.season_cells.proofs.laws.plans_lead.Goals as goal

pub returns : goal.returns
returns c = leading.plans_lead (record {
  put = c.matches_change.ensures.put;
  dropped = c.matches_change.ensures.dropped;
  marked = c.matches_change.ensures.marked;
  sheet = c.matches_change.ensures.sheet;
  moves = c.calendar_changes.ensures.moved;
  comes = c.calendar_changes.ensures.added;
  deadline = c.calendar_changes.ensures.deadline;
  opponents = c.calendar_changes.ensures.opponents;
  player = c.players_change.ensures.added;
  price = c.players_change.ensures.price;
  club = c.players_change.ensures.club;
  gone = c.players_change.ensures.gone;
  position = c.players_change.ensures.position;
  managers = c.managers_change.ensures;
  made = c.leagues_change.ensures.made;
  joined = c.leagues_change.ensures.joined;
  drawn = c.leagues_change.ensures.drawn;
  cup = c.cups_change.ensures;
  shape = c.unbroken_cups_have_shape.ensures;
  alike = c.same_is_alike.ensures;
  tell = c.earlier_rows_tell.ensures;
  sheets = c.facts_are_maps.ensures.sheets;
  lines = c.facts_are_maps.ensures.lines;
  lines_go = c.facts_are_maps.ensures.gone;
  theirs = c.facts_are_maps.ensures.sheet;
})
