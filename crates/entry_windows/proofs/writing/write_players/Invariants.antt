use Rattle.std.proofs.Common.{◌≡◌, ◌++◌, drop}
use Rattle.json_members.specs.Tokens.{tokens_of}
use Rattle.json_members.proofs.ListLemmas.{rest_of}
use Rattle.season_book.specs.Windows.{listed, numbered}
use Rattle.season_book.specs.PicksWindow.{pick_row}
use Rattle.entry_windows.proofs.writing.write_players.Given as goal

-- the tokens so far, and then those of the slots that are left, are those of all
abbrev pub invariant-loop-place : goal.invariant-loop-place
invariant-loop-place l = record {
  tokens : l.out.tokens ++ rest_of (pick_row l.played.team l.played.score) (drop l.place (numbered l.picks))
      ≡ l.fn.out.tokens ++ tokens_of (listed (pick_row l.played.team l.played.score) (numbered l.picks));
  before : l.out.before ≡ l.fn.out.before;
}
