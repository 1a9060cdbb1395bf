-- How many transfers an entry made, and the slots of more.
use Rattle.std.proofs.Common.{◌≡◌, ◌≤◌, ◌<◌, ◌+◌, ◌-◌, ◌++◌, ◌==◌, ◌&&◌, ℕ, zero, suc, Bool, true, false, cond, List, [], ◌∷◌, length, map, Some, None, append_assoc, arith, refl, sym, ap, subst, ◌∙◌}
use Rattle.std.specs.List.{range_with_len, slice_get}
use Rattle.std.specs.Option.{option_map_or}
use Rattle.std.proofs.lemmas.List.{map-append}
use Rattle.std.proofs.lemmas.Option.{get_or_from_slice_get}
use Rattle.fpl_base.specs.declared.kinds.Position.{Position}
use Rattle.rule_book.specs.declared.player.Player.{Player}
use Rattle.rule_book.specs.EntryRecords.{sold_by, sold_in}
use Rattle.rule_book.specs.History.{Deed, Event}
use Rattle.rule_book.specs.History.Deed.{First, Swap, Lineup, Play, Cancel}
use Rattle.rule_book.specs.HistoryTransfers.{is_swap, swaps_in}
use Rattle.rule_book.specs.PlayerFigures.{position_in}
use Rattle.rule_book.specs.Players.{ArePlayers}
use Rattle.season_ledger.specs.Stands.{StandsFor}
use Rattle.manager_book.specs.declared.manager.Manager.{Manager}
use Rattle.manager_book.specs.Managers.{manager_in, nobody}
use Rattle.season_book.specs.Book.{EntryFacts}
use Rattle.season_book.specs.LeagueViews.{history_of}
use Rattle.season_entries.specs.Entries.{AreEntries, IsEntry}
use Rattle.season_entries.specs.EntryLaws.{EntriesAreIssued}
use Rattle.season_entries.proofs.Placing.{have_positions}
use Rattle.season_records.specs.declared.slot.Slot.{Slot}
use Rattle.record_changes.proofs.Found.{none_within, there_within}

one_sold : (b : Bool) (d : Deed) (n : ℕ) (more : List Rattle.rule_book.specs.declared.transfers.Sale.Sale) → n ≡ length more
    → cond (b && is_swap d) (suc n) n ≡ length (cond b (sold_by d ++ more) more)
one_sold false d n more same = same
one_sold true (First squad captain vice) n more same = same
one_sold true (Swap sale) n more same = ap suc same
one_sold true (Lineup players captain vice) n more same = same
one_sold true (Play chip) n more same = same
one_sold true Cancel n more same = same

-- the swaps of a gameweek are its transfers
swaps_sold : (h : List Event) (g : ℕ) → swaps_in h g ≡ length (sold_in h g)
swaps_sold [] g = refl
swaps_sold (e ∷ h) g = one_sold (e.gw == g) e.deed (swaps_in h g) (sold_in h g) (swaps_sold h g)

-- so as many as the rows of the entry's manager tell
pub made_there : EntriesAreIssued → (players : List Player) (managers : List Manager) (entries : List EntryFacts) (e g made : ℕ) (manager : Manager)
    → 1 ≤ e → slice_get managers (e - 1) ≡ Some manager → ((position : ℕ → Position) (h : List Event) → StandsFor position manager.season h → made ≡ swaps_in h g)
    → ArePlayers players → AreEntries players managers entries → made ≡ length (sold_in (history_of entries e) g)
made_there issued players managers entries e g made manager one there told lawful are =
    let within : e - 1 < length managers = there_within managers (e - 1) manager there in
    let entry = (issued players managers entries e are).there one (omega (arith, one, within)) in
    let is : manager_in managers e ≡ manager = get_or_from_slice_get managers (e - 1) manager nobody there in
    let stands : IsEntry players manager entry.0 = subst (λ (m : Manager). IsEntry players m entry.0) is entry.2 in
    told (position_in players) entry.0.history (stands.history (position_in players) (have_positions players lawful))
    ∙ swaps_sold entry.0.history g
    ∙ sym (ap (λ o. length (sold_in (option_map_or (λ (x : EntryFacts). x.history) o []) g)) entry.1)

pub made_nowhere : EntriesAreIssued → (players : List Player) (managers : List Manager) (entries : List EntryFacts) (e g : ℕ)
    → 1 ≤ e → slice_get managers (e - 1) ≡ None → AreEntries players managers entries → 0 ≡ length (sold_in (history_of entries e) g)
made_nowhere issued players managers entries e g one none are =
    let past : length managers < e - 1 + 1 = none_within managers (e - 1) none in
    sym (ap (λ o. length (sold_in (option_map_or (λ (x : EntryFacts). x.history) o []) g)) ((issued players managers entries e are).none (omega (arith, one, past))))

longer : (a n : ℕ) → range_with_len a (n + 1) ≡ range_with_len a n ++ (a + n) ∷ []
longer a zero = let same : a ≡ a + 0 = omega arith in ap (λ m. m ∷ []) same
longer a (suc n) =
    let last : (a + 1) + n ≡ a + suc n = omega arith in
    let more : suc n + 1 ≡ suc (n + 1) = omega arith in
    ap (range_with_len a) more ∙ ap (λ (l : List ℕ). a ∷ l) (longer (a + 1) n ∙ ap (λ m. range_with_len (a + 1) n ++ m ∷ []) last)

-- a slot more
pub added : (of : ℕ → Slot) (old now after : List Slot) (first number : ℕ) → first ≤ number → now ≡ old ++ map of (range_with_len first (number - first))
    → after ≡ now ++ of number ∷ [] → after ≡ old ++ map of (range_with_len first (number + 1 - first))
added of old now after first number le so_far next =
    let more : number + 1 - first ≡ (number - first) + 1 = omega (arith, le) in
    let last : first + (number - first) ≡ number = omega (arith, le) in
    let behind : List Slot = map of (range_with_len first (number - first)) in
    next ∙ ap (λ (l : List Slot). l ++ of number ∷ []) so_far ∙ append_assoc old behind (of number ∷ [])
    ∙ ap (λ (l : List Slot). old ++ l)
    (ap (λ m. behind ++ of m ∷ []) (sym last) ∙ sym (map-append of (range_with_len first (number - first)) ((first + (number - first)) ∷ []))
    ∙ ap (map of) (sym (longer first (number - first)) ∙ ap (range_with_len first) (sym more)))
