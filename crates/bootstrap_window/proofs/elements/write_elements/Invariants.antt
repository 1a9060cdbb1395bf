use Rattle.std.proofs.Common.{◌≡◌, ◌≤◌, ◌+◌, ◌++◌, drop, length}
use Rattle.json_members.specs.Tokens.{tokens_of}
use Rattle.json_members.proofs.ListLemmas.{rest_of}
use Rattle.season_views.specs.Seen.{OfEachSeen}
use Rattle.season_views.specs.BootstrapReads.{lines_reads}
use Rattle.season_book.specs.Elements.{element_row, elements_window}
use Rattle.bootstrap_window.proofs.elements.write_elements.Given as goal

-- the tokens so far, and then those of what is left, are those of all; and what was read
abbrev pub invariant-loop-place : goal.invariant-loop-place
invariant-loop-place g l = record {
  tokens : OfEachSeen l.seen (λ entries. l.out.tokens ++ rest_of (element_row l.seen.facts entries) (drop l.place l.seen.facts.players) ≡ l.fn.out.tokens ++ tokens_of (elements_window l.seen.facts entries));
  before : l.out.before ≡ l.fn.out.before;
  cost : l.steps ≤ l.fn.steps + (lines_reads l.seen.facts + (length l.seen.managers.managers + l.place));
}
