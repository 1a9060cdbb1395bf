use Rattle.std.proofs.Common.{◌∙◌, Some, ap, sym}
use Rattle.json_members.specs.Tokens.{tokens_of}
use Rattle.json_members.proofs.AppendLemmas.{one}
use Rattle.season_views.proofs.Written.{retold}
use Rattle.season_book.specs.DreamTeamWindow.{top_data}
use Rattle.season_book.specs.TeamOfTheWeek.{top_of}
use Rattle.live_windows.proofs.Tops.{no_rows}
use Rattle.live_windows.proofs.team.write_top.Goals as goal

pub returns-then-is_empty : goal.returns-then-is_empty
returns-then-is_empty c = retold (ap (λ rows. tokens_of (top_data (top_of rows))) (sym (no_rows c.args.rows.now c.if-is_empty.ensures))) (one c.null.ensures)

pub returns : goal.returns
returns c = retold (ap (λ o. tokens_of (top_data o)) (ap Some c.index-rows-best.is ∙ sym (c.best_place-best.ensures.best c.index-rows-best.result))) c.write_top_row.ensures
