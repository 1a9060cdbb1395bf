-- The points of the slots that do not count, added up slot by slot.
use Rattle.std.proofs.Common.{◌≡◌, ◌+◌, ◌-◌, ◌++◌, ℕ, zero, suc, ℤ, pos, ◌+ℤ◌, Bool, true, false, List, [], ◌∷◌, Some, cond, map, append-nil, arith, ap, ◌∙◌, if◌then◌else◌}
use Rattle.std.specs.List.{filter, range_with_len, slice_get}
use Rattle.std.specs.Option.{option_map_or}
use Rattle.std.proofs.lemmas.Int.{ints}
use Rattle.std.proofs.lemmas.List.Elements.{filter-append}
use Rattle.std.proofs.lemmas.List.Sums.{fold-append}
use Rattle.std.proofs.lemmas.Option.{none-some, same_Some}
use Rattle.rule_book.specs.declared.team.Pick.{Pick}
use Rattle.rule_book.specs.declared.team.Team.{Team}
use Rattle.rule_book.specs.declared.team_score.Figures.{Figures}
use Rattle.rule_book.specs.EntryScores.{figures_of_team}
use Rattle.rule_book.specs.PlayerFigures.{figures_in}
use Rattle.rule_book.specs.TeamScores.{points_at, points_in, points_of_slots}
use Rattle.season_book.specs.Book.{Facts}

range_end : (a n : ℕ) → range_with_len a (n + 1) ≡ range_with_len a n ++ (a + n) ∷ []
range_end a zero = let same : a ≡ a + 0 = omega arith in ap (λ k. k ∷ []) same
range_end a (suc n) =
    let longer : suc n + 1 ≡ suc (n + 1) = omega arith in
    let at : a + 1 + n ≡ a + suc n = omega arith in
    ap (range_with_len a) longer
    ∙ ap (λ r. a ∷ r) (range_end (a + 1) n)
    ∙ ap (λ k. a ∷ (range_with_len (a + 1) n ++ k ∷ [])) at

nothing_more : (z : ℤ) → z ≡ z +ℤ pos 0
nothing_more z = omega (arith, ints)

module _ (figures : List Figures) (p : ℕ → Bool) where
  -- the points of those of the first slots that pass
  abbrev pub points_until : ℕ → ℤ
  points_until place = points_of_slots figures (filter p (range_with_len 1 place))

  by_test : (slots : List ℕ) (slot : ℕ) (t : Bool)
      → points_of_slots figures (slots ++ cond t (slot ∷ []) []) ≡ points_of_slots figures slots +ℤ (if t then points_at figures slot else pos 0)
  by_test slots slot true = fold-append (λ (total : ℤ) (s : ℕ). total +ℤ points_at figures s) (pos 0) slots (slot ∷ [])
  by_test slots slot false = ap (points_of_slots figures) (append-nil slots) ∙ nothing_more (points_of_slots figures slots)

  -- those of one slot more
  pub points_more : (place : ℕ) → points_until (place + 1) ≡ points_until place +ℤ (if p (place + 1) then points_at figures (place + 1) else pos 0)
  points_more place =
      let next : 1 + place ≡ place + 1 = omega arith in
      ap (λ r. points_of_slots figures (filter p r)) (range_end 1 place)
      ∙ ap (points_of_slots figures) (filter-append p (range_with_len 1 place) ((1 + place) ∷ []))
      ∙ ap (λ k. points_of_slots figures (filter p (range_with_len 1 place) ++ filter p (k ∷ []))) next
      ∙ by_test (filter p (range_with_len 1 place)) (place + 1) (p (place + 1))

mapped_at : {X Y : Type 0} (f : X → Y) (xs : List X) (i : ℕ) (x : X) → slice_get xs i ≡ Some x → slice_get (map f xs) i ≡ Some (f x)
mapped_at f [] zero x at = absurd (none-some x at)
mapped_at f [] (suc i) x at = absurd (none-some x at)
mapped_at f (y ∷ xs) zero x at = ap (λ z. Some (f z)) (same_Some y x at)
mapped_at f (y ∷ xs) (suc i) x at = mapped_at f xs i x at

-- the points of the player of a slot
pub slot_at : (facts : Facts) (team : Team) (g slot : ℕ) (pick : Pick) → slice_get team.picks (slot - 1) ≡ Some pick
    → points_at (figures_of_team facts.profile facts.calendar facts.players facts.matches team g) slot ≡ (figures_in facts.profile facts.calendar facts.players facts.matches pick.player g).points
slot_at facts team g slot pick at =
    ap (λ o. option_map_or points_in o (pos 0))
    (mapped_at (λ (k : Pick). figures_in facts.profile facts.calendar facts.players facts.matches k.player g) team.picks (slot - 1) pick at)
