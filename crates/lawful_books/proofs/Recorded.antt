-- Records that tell a lawful history break no rule on first teams, time and chips.
use Rattle.std.proofs.Common.{◌≡◌, ◌≤◌, ◌+◌, ℕ, Bool, true, false, not, ◌&&◌, ◌||◌, ◌==◌, nat_lt, List, [], ◌∷◌, Option, Some, None, length, min, arith, refl, sym, ap, subst, ◌∙◌, inl, inr, if◌then◌else◌}
use Rattle.std.specs.Prelude.{is_some}
use Rattle.std.specs.List.{AllByRecursion as Each, flat_map}
use Rattle.std.specs.Option.{option_and_then, option_map, option_map_or}
use Rattle.std.proofs.lemmas.Bool.{and_from, false≢true, le-leb, not_from_false, or_cases, eqb-true}
use Rattle.std.proofs.lemmas.Bool.Decides.{nat_tests}
use Rattle.fpl_base.specs.Keeping.{Map}
use Rattle.fpl_base.specs.declared.kinds.Chip.TheVariants.{None as NoChip}
use Rattle.rule_book.specs.EntryCalls.{starts_in}
use Rattle.rule_book.specs.History.{Event, chip_at, chip_said_in, is_touched, last_of}
use Rattle.rule_book.specs.HistoryRules.{first_gw}
use Rattle.rule_book.specs.HistoryTransfers.{is_same_chip, makes_free, used_before}
use Rattle.rule_book.specs.Players.{player_of}
use Rattle.rule_book.specs.TeamOfHistory.{team_of}
use Rattle.rule_book.specs.UpTo.{start_of}
use Rattle.season_ledger.proofs.Legality.{headed, none_each}
use Rattle.season_book.specs.Book.{Book, EntryFacts, Facts}
use Rattle.season_book.specs.Commands.{has_player}
use Rattle.season_book.specs.EntryViews.{gameweek_seen}
use Rattle.season_records.specs.declared.slot.Slot.TheVariants as slot
use Rattle.season_records.specs.Records.{entry_item, no_position, player_item, season_item, team_item, told_in, transfer_told}
use Rattle.season_records.specs.Records as records
use Rattle.season_records.specs.Touched.{gameweek_of}
use Rattle.stored_records.specs.EntryTold.{chip_in, chip_told, first_in, first_told, is_between_ends, is_first_of, is_in_time, team_in, team_told}
use Rattle.stored_records.specs.Stored.{deadlines_in, is_there, locked_in, split_in, split_told, told}
use Rattle.store_validation.specs.EntryRules.{entry_breaks}
use Rattle.store_validation.specs.TeamRules.{is_playable, is_played_again, is_too_early}
use Rattle.lawful_books.specs.Recorded.{FirstTeamsAreTold, IsRecorded, TeamsAreInSeason}

-- what is so of each event's gameweek is so of each one in which something was done
pub at_touched : (P : ℕ → Type 0) (g : ℕ) (h : List Event) → Each (λ (e : Event). P e.gw) h → is_touched h g ≡ true → P g
at_touched P g [] all here = absurd (false≢true here)
at_touched P g (e ∷ h) all here = elim (or_cases (e.gw == g) (is_touched h g) here) [
  | inl same ↦ subst P (eqb-true e.gw g same) all.0
  | inr later ↦ at_touched P g h all.1 later
]

-- where nothing was done there is no chip
pub untouched_chip : (h : List Event) (g : ℕ) → is_touched h g ≡ false → chip_at h g ≡ NoChip
untouched_chip h g bare = ap (last_of NoChip) (none_said h bare)
  where
    none_said : (h : List Event) → is_touched h g ≡ false → flat_map (chip_said_in g) h ≡ []
    none_said [] bare = refl
    none_said (e ∷ h) bare = grind (arith, nat_tests, bare, none_said h)

there_of : {A B : Type 0} (f : A → Option B) (o : Option A) → is_some (option_and_then f o) ≡ true → is_some o ≡ true
there_of f None is = absurd (false≢true is)
there_of f (Some x) is = refl

some_mapped : {A B : Type 0} (f : A → B) (o : Option A) → is_some (option_map f o) ≡ is_some o
some_mapped f None = refl
some_mapped f (Some x) = refl

module _ (m : Map) (book : Book) (facts : Facts) (e : ℕ) (entry : EntryFacts) (r : IsRecorded m book facts e entry) where
  abbrev h : List Event
  h = entry.history

  season_row : told m slot.Season ≡ Some (season_item facts)
  season_row = r.told slot.Season ∙ ap (option_and_then (λ facts. told_in facts slot.Season)) r.season

  player_row : (p : ℕ) → told m (slot.Player p) ≡ option_map (player_item p) (player_of facts.players p)
  player_row p = r.told (slot.Player p) ∙ ap (option_and_then (λ facts. told_in facts (slot.Player p))) r.season

  entry_row : told m (slot.Entry e) ≡ Some (entry_item e entry)
  entry_row = r.told (slot.Entry e) ∙ ap (option_map (entry_item e)) r.there

  team_row : (g : ℕ) → told m (slot.Team e g) ≡ records.team_told e g h
  team_row g = r.told (slot.Team e g) ∙ ap (option_and_then (λ (entry : EntryFacts). records.team_told e g entry.history)) r.there

  pub sale_row : (g n : ℕ) → told m (slot.Transfer e g n) ≡ transfer_told e g n h
  sale_row g n = r.told (slot.Transfer e g n) ∙ ap (option_and_then (λ (entry : EntryFacts). transfer_told e g n entry.history)) r.there

  first : first_told m e ≡ start_of h
  first = ap first_in entry_row

  pub first_of : (g : ℕ) → is_first_of m e g ≡ starts_in h g
  first_of g = ap (λ o. option_map_or (λ s. s == g) o false) first

  -- a player who is there has a record
  pub player_there : (p : ℕ) → has_player facts p ≡ true → is_there m (slot.Player p) ≡ true
  player_there p there = there_of _ _ (ap is_some (player_row p) ∙ some_mapped (player_item p) (player_of facts.players p) ∙ there)

  -- a gameweek in which something was done has a team
  pub team_there : (g : ℕ) → is_touched h g ≡ true → is_some (team_told m e g) ≡ true
  team_there g here = ap (λ o. is_some (team_in o)) (team_row g) ∙ ap (λ b. is_some (team_in (if b then Some (team_item e g (team_of no_position h g)) else None))) here

  pub chips : (g : ℕ) → chip_told m e g ≡ chip_at h g
  chips g = ap (λ o. chip_in (team_in o)) (team_row g) ∙ by (is_touched h g) refl
    where
      by : (b : Bool) → is_touched h g ≡ b → chip_in (team_in (if b then Some (team_item e g (team_of no_position h g)) else None)) ≡ chip_at h g
      by true here = refl
      by false bare = sym (untouched_chip h g bare)

  -- time
  abbrev is_between : ℕ → ℕ → Bool
  is_between first g =
      is_between_ends (record { deadlines = facts.calendar.deadlines; split = facts.calendar.split; locked = facts.calendar.locked }) first g

  time_told : (g : ℕ) → is_in_time m e g ≡ option_map_or (λ first. is_between first g) (start_of h) false
  time_told g = λ i. option_map_or (λ first. is_between_ends (record { deadlines = deadlines_in (season_row i); split = split_in (season_row i); locked = locked_in (season_row i) }) first g) (first i) false

  seen : (g : ℕ) → is_touched h g ≡ true → g ≤ gameweek_seen facts.calendar
  seen g here =
      subst (λ (some : Option Facts). g ≤ option_map_or (λ (facts : Facts). gameweek_seen facts.calendar) some 0) r.season
      (at_touched (λ w. w ≤ gameweek_of book) g h (none_each (gameweek_of book) h r.early) here)

  pub in_time : (g : ℕ) → is_touched h g ≡ true → is_in_time m e g ≡ true
  in_time g here = time_told g ∙ by h refl
    where
      open_still : (locked gameweeks : ℕ) → g ≤ min (locked + 1) gameweeks → g ≤ (if nat_lt locked gameweeks then locked + 1 else gameweeks)
      open_still locked gameweeks le = grind (arith, nat_tests, le)

      by : (k : List Event) → h ≡ k → option_map_or (λ first. is_between first g) (start_of k) false ≡ true
      by [] is = absurd (false≢true (sym (ap (λ k. is_touched k g) is) ∙ here))
      by (v ∷ k) is =
          let one : 1 ≤ g = at_touched (λ w. 1 ≤ w) g h r.lawful.gameweeks here in
          let low : first_gw h ≤ g = (headed h r.history).least g here in
          let from : v.gw ≤ g = subst (λ k. first_gw k ≤ g) is low in
          let high : g ≤ gameweek_seen facts.calendar = seen g here in
          and_from _ _ (and_from _ _ (and_from _ _ (le-leb 1 g one) (le-leb g (length facts.calendar.deadlines) (omega arith))) (le-leb v.gw g from))
          (le-leb g _ (open_still facts.calendar.locked (length facts.calendar.deadlines) high))

  -- chips
  early_not : (g : ℕ) → is_too_early m e g (chip_at h g) ≡ false
  early_not g = ap (λ b. b && makes_free (chip_at h g)) (first_of g) ∙ by (starts_in h g) (makes_free (chip_at h g)) (r.lawful.late g)
    where
      by : (a b : Bool) → (a ≡ true → b ≡ false) → (a && b) ≡ false
      by true b late = late refl
      by false b late = refl

  split_same : split_told m ≡ facts.calendar.split
  split_same = ap split_in season_row

  again_not : (g : ℕ) → is_played_again m e g (chip_at h g) ≡ false
  again_not g =
      (λ i. not (is_same_chip (chip_at h g) NoChip) && is_some (used_before (split_same i) (λ w. chips w i) (chip_at h g) g))
      ∙ by (is_same_chip (chip_at h g) NoChip) refl
    where
      by : (b : Bool) → is_same_chip (chip_at h g) NoChip ≡ b → (not b && is_some (used_before facts.calendar.split (chip_at h) (chip_at h g) g)) ≡ false
      by true is = refl
      by false is = ap is_some (r.lawful.once g is)

  pub playable : (g : ℕ) → is_playable m e g (chip_at h g) ≡ true
  playable g = and_from _ _ (not_from_false _ (early_not g)) (not_from_false _ (again_not g))

  -- the first team
  pub first_team : entry_breaks m e (first_told m e) ≡ false
  first_team = ap (entry_breaks m e) first ∙ by h refl
    where
      by : (k : List Event) → h ≡ k → entry_breaks m e (start_of k) ≡ false
      by [] is = refl
      by (v ∷ k) is = ap not (team_there v.gw (ap (λ k. is_touched k v.gw) is ∙ here v.gw (is_touched k v.gw)))
        where
          here : (g : ℕ) (b : Bool) → ((g == g) || b) ≡ true
          here g b = grind (arith, nat_tests)

pub first_teams_are_told : FirstTeamsAreTold
first_teams_are_told = first_team

pub teams_are_in_season : TeamsAreInSeason
teams_are_in_season m book facts e entry g r here = record { in_time = in_time m book facts e entry r g here; playable = playable m book facts e entry r g }
