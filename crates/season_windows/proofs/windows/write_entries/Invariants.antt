use Rattle.std.proofs.Common.{◌≡◌, ◌++◌, drop}
use Rattle.json_members.specs.Tokens.{tokens_of}
use Rattle.json_members.proofs.ListLemmas.{rest_of}
use Rattle.season_book.specs.Windows.{entries_window, entry_row, numbered}
use Rattle.season_views.specs.Seen.{OfEachSeen}
use Rattle.season_windows.proofs.windows.write_entries.Given as goal

-- the tokens so far, and then those of what is left, are those of all
abbrev pub invariant-loop-place : goal.invariant-loop-place
invariant-loop-place g l = record {
  tokens : OfEachSeen l.seen (λ entries. l.out.tokens ++ rest_of entry_row (drop l.place (numbered entries)) ≡ l.fn.out.tokens ++ tokens_of (entries_window entries));
  before : l.out.before ≡ l.fn.out.before;
}
