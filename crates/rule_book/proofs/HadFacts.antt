-- What a history says of a player whom none of its deeds names.
use Rattle.std.proofs.Common.{◌≡◌, ◌+◌, ◌==◌, ◌∷◌, [], ◌++◌, ℕ, Bool, true, false, ◌||◌, cond, List, length, filter, refl, sym, ap, ◌∙◌}
use Rattle.std.specs.List.{flat_map, list_any}
use Rattle.std.proofs.lemmas.Bool.{false≢true}
use Rattle.rule_book.specs.History.{Deed, Event, Holding, counts_in, kept}
use Rattle.rule_book.specs.History.Deed.{First, Swap, Lineup, Play, Cancel}
use Rattle.rule_book.specs.HistorySquad.{brought_by, in_squad, outs, prices_among, taken_by}
use Rattle.rule_book.specs.Uses.{has_had, names_player}

-- Two tests of which neither holds.
pub neither : (a b : Bool) → (a || b) ≡ false → (a ≡ false) × (b ≡ false)
neither false b none = (refl, none)
neither true b none = absurd (false≢true (sym none))

pub nor : (a b : Bool) → a ≡ false → b ≡ false → (a || b) ≡ false
nor a b left right = ap (λ t. t || b) left ∙ right

module _ (p : ℕ) where
  not_priced : (squad : List Holding) → list_any (λ k. k.player == p) squad ≡ false → prices_among p squad ≡ []
  not_priced [] none = refl
  not_priced (k ∷ squad) none =
      let parts = neither (k.player == p) (list_any (λ k. k.player == p) squad) none in
      rw parts.0 (not_priced squad parts.1)

  not_brought : (d : Deed) → names_player p d ≡ false → brought_by p d ≡ []
  not_brought (First squad captain vice) none = not_priced squad none
  not_brought (Swap sale) none = let parts = neither (sale.out == p) (sale.into == p) none in rw parts.1 refl
  not_brought (Lineup players captain vice) none = refl
  not_brought (Play chip) none = refl
  not_brought Cancel none = refl

  not_taken : (d : Deed) → names_player p d ≡ false → taken_by p d ≡ []
  not_taken (First squad captain vice) none = refl
  not_taken (Swap sale) none = let parts = neither (sale.out == p) (sale.into == p) none in rw parts.0 refl
  not_taken (Lineup players captain vice) none = refl
  not_taken (Play chip) none = refl
  not_taken Cancel none = refl

  pub none_brought : (es : List Event) → has_had es p ≡ false → flat_map (λ e. brought_by p e.deed) es ≡ []
  none_brought [] none = refl
  none_brought (e ∷ es) none =
      let parts = neither (names_player p e.deed) (has_had es p) none in
      ap (λ l. l ++ flat_map (λ e. brought_by p e.deed) es) (not_brought e.deed parts.0) ∙ none_brought es parts.1

  pub none_taken : (es : List Event) → has_had es p ≡ false → flat_map (λ e. taken_by p e.deed) es ≡ []
  none_taken [] none = refl
  none_taken (e ∷ es) none =
      let parts = neither (names_player p e.deed) (has_had es p) none in
      ap (λ l. l ++ flat_map (λ e. taken_by p e.deed) es) (not_taken e.deed parts.0) ∙ none_taken es parts.1

  -- of some of the events too
  pub none_kept : (counts : Event → Bool) (es : List Event) → has_had es p ≡ false → has_had (filter counts es) p ≡ false
  none_kept counts [] none = refl
  none_kept counts (e ∷ es) none =
      let parts = neither (names_player p e.deed) (has_had es p) none in
      elim (counts e) as (λ b. has_had (cond b (e ∷ filter counts es) (filter counts es)) p ≡ false) [
        | true ↦ nor (names_player p e.deed) (has_had (filter counts es) p) parts.0 (none_kept counts es parts.1)
        | false ↦ none_kept counts es parts.1
      ]

  pub not_in_squad : (h : List Event) (g : ℕ) → has_had h p ≡ false → in_squad (kept h g) p ≡ false
  not_in_squad h g none =
      let none_here = none_kept (λ e. counts_in h g e.gw) h none in
      ap (λ l. length l == (outs p (kept h g) + 1)) (none_brought (kept h g) none_here) ∙ ap (λ l. 0 == (length l + 1)) (none_taken (kept h g) none_here)
