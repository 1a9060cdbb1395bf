-- Who is not marked has no line, whatever lines come and go.
use Rattle.std.proofs.Common.{ℕ, ◌≡◌, ◌%◌, ◌<◌, Bool, true, false, List, Some, None, Result, Ok, Err, length, slice_index_or, slice_set, OnOk, OnErr, arith, sym, ap, ◌∙◌, inl, inr}
use Rattle.std.proofs.Math.Nat.{mod-lt}
use Rattle.std.proofs.lemmas.Bool.{cases_eq, false≢true}
use Rattle.std.proofs.lemmas.List.{get_or-set_same, get_or-set_other}
use Rattle.rule_book.specs.declared.line.Line.{Line}
use Rattle.rule_book.specs.MatchFacts.{Lines, line_in, with_line, without_line}
use Rattle.match_facts.specs.Marks.{AreMarked}
use Rattle.rule_book.proofs.AtId.{chosen_other, chosen_same}
use Rattle.match_facts.proofs.Maps.{lines_are_a_map, lines_go}

-- a mark's place
pub within : (marks : List Bool) (player : ℕ) → length marks ≡ 256 → player % 256 < length marks
within marks player room = rw room (mod-lt player (omega arith))

module _ (marks : List Bool) (room : length marks ≡ 256) (player : ℕ) where
  abbrev pub marked : List Bool
  marked = slice_set marks (player % 256) true

  -- who is not marked is another, and was not marked before
  another : (other : ℕ) → slice_index_or marked (other % 256) false ≡ false → other ≡ player → ⊥
  another other none same = false≢true (sym none ∙ ap (λ k. slice_index_or marked (k % 256) false) same ∙ get_or-set_same marks (player % 256) true false (within marks player room))

  before : (other : ℕ) → slice_index_or marked (other % 256) false ≡ false → slice_index_or marks (other % 256) false ≡ false
  before other none = sym (get_or-set_other marks (player % 256) (other % 256) true false
      (λ same. false≢true (sym none ∙ ap (λ k. slice_index_or marked k false) same ∙ get_or-set_same marks (player % 256) true false (within marks player room)))) ∙ none

  -- a mark more
  pub marked_more : (lines : Lines) → AreMarked marks lines → AreMarked marked lines
  marked_more lines all other none = all other (before other none)

  -- a line more
  pub marked_with : (lines : Lines) (line : Line) → AreMarked marks lines → AreMarked marked (with_line lines player line)
  marked_with lines line all other none =
      lines_are_a_map lines player line other
      ∙ chosen_other player other (Some line) (line_in lines other) (another other none)
      ∙ all other (before other none)

  -- a line more, or want of memory
  pub marked_put : (lines : Lines) (line : Line) → AreMarked marks lines → {X Y : Type 0} (after : Lines) (result : Result X Y)
      → OnOk result (after ≡ with_line lines player line) → OnErr result (after ≡ lines) → AreMarked marked after
  marked_put lines line all after (Ok _) ok err = rw ok (marked_with lines line all)
  marked_put lines line all after (Err _) ok err = rw err (marked_more lines all)

-- a line less
pub marked_without : (marks : List Bool) (player : ℕ) (lines : Lines) → AreMarked marks lines → AreMarked marks (without_line lines player)
marked_without marks player lines all other none = elim (cases_eq other player) [
  | inl same ↦ lines_go lines player other ∙ chosen_same player other None (line_in lines other) same
  | inr apart ↦ lines_go lines player other ∙ chosen_other player other None (line_in lines other) apart ∙ all other none
]
