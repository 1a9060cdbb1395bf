use Rattle.std.proofs.Common.{◌≡◌, ◌++◌, drop}
use Rattle.json_members.specs.Tokens.{tokens_of}
use Rattle.json_members.proofs.ListLemmas.{rest_of}
use Rattle.season_book.specs.Windows.{listed, numbered}
use Rattle.season_book.specs.DreamTeamWindow.{dream_row}
use Rattle.season_book.specs.TeamOfTheWeek.{team_of_the_week}
use Rattle.live_windows.proofs.team.write_team.Given as goal

-- the tokens so far, and then those of what is left, are those of all
abbrev pub invariant-loop-place : goal.invariant-loop-place
invariant-loop-place l = record {
  tokens : l.out.tokens ++ rest_of dream_row (drop l.place (numbered (team_of_the_week l.rows))) ≡ l.fn.out.tokens ++ tokens_of (listed dream_row (numbered (team_of_the_week l.rows)));
  before : l.out.before ≡ l.fn.out.before;
}
