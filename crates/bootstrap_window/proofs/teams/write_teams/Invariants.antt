use Rattle.std.proofs.Common.{◌≡◌, ◌++◌, drop}
use Rattle.json_members.specs.Tokens.{tokens_of}
use Rattle.json_members.proofs.ListLemmas.{rest_of}
use Rattle.season_book.specs.Teams.{team_row, teams_window}
use Rattle.bootstrap_window.proofs.teams.write_teams.Given as goal

-- the tokens so far, and then those of what is left, are those of all
abbrev pub invariant-loop-club : goal.invariant-loop-club
invariant-loop-club l = record {
  tokens : l.out.tokens ++ rest_of team_row (drop l.club-index l.clubs) ≡ l.fn.out.tokens ++ tokens_of (teams_window l.clubs);
  before : l.out.before ≡ l.fn.out.before;
}
