-- What deeds of a gameweek leave of the teams and transfers that a history tells.
use Rattle.std.proofs.Common.{◌≡◌, ◌<◌, ◌≤◌, ◌+◌, ◌==◌, ℕ, true, false, cond, List, [], ◌∷◌, ◌++◌, Some, None, append_assoc, append-nil, arith, refl, sym, ap, ◌∙◌, inl, inr, length, if◌then◌else◌}
use Rattle.std.specs.List.{flat_map}
use Rattle.std.specs.Option.{option_map}
use Rattle.std.proofs.lemmas.Bool.{cases_order}
use Rattle.std.proofs.lemmas.Bool.Decides.{nat_tests}
use Rattle.rule_book.specs.Entries.{entry_in}
use Rattle.rule_book.specs.EntryRecords.{sold_by, sold_in}
use Rattle.rule_book.specs.History.{Deed, Event, in_gameweek, is_touched}
use Rattle.rule_book.specs.HistoryRules.{NoneAfter}
use Rattle.rule_book.specs.TeamOfHistory.{team_of}
use Rattle.rule_book.specs.UpToLaws.{TellTheSame}
use Rattle.rule_book.proofs.UpToFacts.{open_deeds_agree, tell_the_same}
use Rattle.season_records.specs.Records.{no_position, team_item, team_told, transfer_item, transfer_told}
use Rattle.season_records.proofs.Finds.{numbered_beside}

-- where nothing was done later, nothing was done in a later gameweek
pub untouched : (g w : ℕ) (h : List Event) → NoneAfter g h → g < w → is_touched h w ≡ false
untouched g w [] early later = refl
untouched g w (e ∷ h) early later = grind (arith, nat_tests, early.0, later, untouched g w h early.1 later)

none_in : (g : ℕ) (ds : List Deed) → NoneAfter g (in_gameweek g ds)
none_in g [] = tt
none_in g (d ∷ ds) = (omega arith, none_in g ds)

pub none_more : (g : ℕ) (h more : List Event) → NoneAfter g h → NoneAfter g more → NoneAfter g (h ++ more)
none_more g [] more early late = late
none_more g (e ∷ h) more early late = (early.0, none_more g h more early.1 late)

pub none_done : (g : ℕ) (h : List Event) (ds : List Deed) → NoneAfter g h → NoneAfter g (h ++ in_gameweek g ds)
none_done g h ds early = none_more g h (in_gameweek g ds) early (none_in g ds)

-- teams of other gameweeks
module _ (e g w : ℕ) (h : List Event) (ds : List Deed) where
  abbrev after : List Event
  after = h ++ in_gameweek g ds

  earlier : w < g → team_told e w h ≡ team_told e w after
  earlier before =
      let same : TellTheSame h after w = tell_the_same w h after (open_deeds_agree w g h ds before) w (omega arith) in
      λ i. if same.touched i then Some (team_item e w (same.team no_position i)) else None

  later : NoneAfter g h → g < w → team_told e w h ≡ team_told e w after
  later early behind =
      ap (λ b. if b then Some (team_item e w (team_of no_position h w)) else None) (untouched g w h early behind)
      ∙ sym (ap (λ b. if b then Some (team_item e w (team_of no_position after w)) else None) (untouched g w after (none_done g h ds early) behind))

  pub team_stays : NoneAfter g h → (w ≡ g → ⊥) → team_told e w h ≡ team_told e w after
  team_stays early other = elim (cases_order w g) [
    | inl same ↦ absurd (other same)
    | inr (inl before) ↦ earlier before
    | inr (inr behind) ↦ later early behind
  ]

-- transfers
sold-append : (h k : List Event) (w : ℕ) → sold_in (h ++ k) w ≡ sold_in h w ++ sold_in k w
sold-append [] k w = refl
sold-append (e ∷ h) k w = elim (e.gw == w) as (λ b. cond b (sold_by e.deed ++ sold_in (h ++ k) w) (sold_in (h ++ k) w) ≡ cond b (sold_by e.deed ++ sold_in h w) (sold_in h w) ++ sold_in k w) [
  | true ↦ ap (λ more. sold_by e.deed ++ more) (sold-append h k w) ∙ sym (append_assoc (sold_by e.deed) (sold_in h w) (sold_in k w))
  | false ↦ sold-append h k w
]

none_sold : (g w : ℕ) (ds : List Deed) → (w ≡ g → ⊥) → sold_in (in_gameweek g ds) w ≡ []
none_sold g w [] other = refl
none_sold g w (d ∷ ds) other = grind (arith, nat_tests, other, none_sold g w ds other)

sold_here : (g : ℕ) (ds : List Deed) → sold_in (in_gameweek g ds) g ≡ flat_map sold_by ds
sold_here g [] = refl
sold_here g (d ∷ ds) = grind (arith, nat_tests, sold_here g ds)

module _ (e g : ℕ) (h : List Event) (ds : List Deed) where
  pub transfers_stay : (w n : ℕ) → (w ≡ g → ⊥) → transfer_told e w n h ≡ transfer_told e w n (h ++ in_gameweek g ds)
  transfers_stay w n other =
      ap (λ sales. option_map (transfer_item e w n) (entry_in sales n))
      (sym (sold-append h (in_gameweek g ds) w ∙ ap (λ more. sold_in h w ++ more) (none_sold g w ds other) ∙ append-nil (sold_in h w)))

  pub transfers_grow : (n : ℕ) → (length (sold_in h g) < n → n ≤ length (sold_in h g) + length (flat_map sold_by ds) → ⊥)
      → transfer_told e g n h ≡ transfer_told e g n (h ++ in_gameweek g ds)
  transfers_grow n old =
      ap (option_map (transfer_item e g n)) (numbered_beside (sold_in h g) (flat_map sold_by ds) n old)
      ∙ ap (λ sales. option_map (transfer_item e g n) (entry_in sales n)) (sym (sold-append h (in_gameweek g ds) g ∙ ap (λ more. sold_in h g ++ more) (sold_here g ds)))
