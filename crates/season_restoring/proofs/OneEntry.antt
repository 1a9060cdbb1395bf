-- One entry of lawful records: its teams and transfers are records that a book takes, and what a book makes of them has
-- what the records tell.
use Rattle.std.proofs.Common.{◌≡◌, ◌≤◌, ℕ, zero, suc, Bool, true, false, cond, ◌&&◌, eqb, List, [], ◌∷◌, map, length, Option, Some, None, find, refl, sym, ap, ◌∙◌, subst, inl, inr, arith}
use Rattle.std.specs.List.{All, AllByRecursion as Each, list_all}
use Rattle.std.specs.Option.{option_map, option_map_or}
use Rattle.std.specs.Prelude.{nat_le}
use Rattle.std.proofs.lemmas.Bool.{and_parts, cases_Bool, cases_eq, eq-eqb, ne_eqb, eqb-true, leb-true, not-false, true≢false}
use Rattle.std.proofs.lemmas.Bool.Decides.{nat_tests}
use Rattle.std.proofs.lemmas.List.Elements.{All-head, All-tail}
use Rattle.fpl_base.specs.Keeping.{map_of}
use Rattle.fpl_base.specs.declared.kinds.Chip.{Chip}
use Rattle.fpl_base.specs.declared.kinds.Position.{Position}
use Rattle.fpl_base.specs.declared.kinds.Position.TheVariants.{Keeper}
use Rattle.record_fields.specs.Ranges.{is_gameweek}
use Rattle.season_records.specs.declared.item.Item.{Item}
use Rattle.season_records.specs.declared.item.Item.TheVariants as item
use Rattle.season_records.specs.declared.slot.Slot.TheVariants as slot
use Rattle.rule_book.specs.declared.player.Player.{Player}
use Rattle.rule_book.specs.declared.team.Team.{Team}
use Rattle.rule_book.specs.declared.transfers.Sale.{Sale}
use Rattle.rule_book.specs.Batch.{HavePositions}
use Rattle.rule_book.specs.Entries.{entry_in}
use Rattle.rule_book.specs.EntryRecords.{AreEntryRecords, first_of, sales_in, team_recorded}
use Rattle.rule_book.specs.PlayerFigures.{position_in}
use Rattle.rule_book.specs.Players.{player_of}
use Rattle.season_ledger.specs.Rows.{AllUpTo, IsFit, first_in, row_at, rows_of_records}
use Rattle.season_ledger.specs.Stands.{IsPlaced}
use Rattle.season_ledger.specs.declared.row.Standing.{Standing}
use Rattle.season_ledger.proofs.Restored.{kept_rows}
use Rattle.manager_book.specs.declared.manager.Manager.{Manager}
use Rattle.stored_records.specs.EntryTold.{first_in as first_of_item, first_told, is_between_ends, is_in_time, last_open, sale_told, team_in, team_told}
use Rattle.stored_records.specs.SeasonRules.{terms_told}
use Rattle.stored_records.specs.Sequels.{sales_told}
use Rattle.stored_records.specs.Stored.{Rows, is_there, told}
use Rattle.store_validation.specs.EntryLaws.{AreItsSales, AreItsTeams, sale_numbered, team_of_record}
use Rattle.store_validation.specs.Lawful.{judged}
use Rattle.store_validation.specs.TeamRules.{has_players, is_distinct, is_lined_up, is_priced, positions_told}
use Rattle.store_validation.proofs.EntriesJudged.{judged_lawful, judged_restored, nothing_broken, team_has}
use Rattle.store_validation.proofs.Lawful.{gapless}
use Rattle.season_records.specs.Records.{player_item, team_item, transfer_item}
use Rattle.record_changes.specs.Ordered.{IsManagerInOrder, IsRowInOrder}
use Rattle.record_changes.specs.RowsTold.{manager_item, team_by, transfer_by}
use Rattle.season_restoring.specs.Restoring.{ArePlayersTold, HasBank, HaveBanks, IsRestored, IsTold, entry_sales_told, pick_placed, placed, team_of, team_placed, teams_told}
use Rattle.season_restoring.proofs.Numbers.{found_of, no_number_before, number_found, numbered_sales, numbers_rise, without_numbers}
use Rattle.season_restoring.proofs.Through.{each_team, no_sales_before, none_before, sales_found, team_found, teams_rise}
use Rattle.season_restoring.proofs.EntriesTold.{no_sale_there, no_sales_there, no_team_there, placed_as, spelled_there, told_sale, told_team}

-- Which gameweeks there are.

not_last : (g : ℕ) → 39 ≤ g → is_gameweek g ≡ false
not_last g late = grind (arith, nat_tests, late)

up_to_last : (g : ℕ) → is_gameweek g ≡ true → g ≤ 38
up_to_last g is = leb-true g 38 (and_parts (nat_le 1 g) (nat_le g 38) is).1

mapped_none : {A B : Type 0} (f : A → B) (o : Option A) → o ≡ None → option_map f o ≡ None
mapped_none f o none = ap (option_map f) none

mapped_from : {A B : Type 0} (f : A → B) (o : Option A) (y : B) → option_map f o ≡ Some y → (x : A) × (o ≡ Some x) × (f x ≡ y)
mapped_from f None y e = absurd (cc)
mapped_from f (Some x) y e = (x, refl, cc)

-- Rows made of records.

first_row : (teams : List (ℕ × Team)) (sales : List (ℕ × Sale)) → first_in (rows_of_records teams sales) ≡ first_of teams
first_row [] sales = refl
first_row (t ∷ teams) sales = refl

row_team : (e g : ℕ) (teams : List (ℕ × Team)) (sales : List (ℕ × Sale))
    → option_map (λ (s : Standing). team_item e g s.team) (row_at (rows_of_records teams sales) g) ≡ option_map (team_item e g) (team_recorded teams g)
row_team e g [] sales = refl
row_team e g (t ∷ teams) sales = by (eqb t.0 g) (row_team e g teams sales)
  where
    by : (b : Bool)
        → option_map (λ (s : Standing). team_item e g s.team) (row_at (rows_of_records teams sales) g) ≡ option_map (team_item e g) (team_recorded teams g)
        → option_map (λ (s : Standing). team_item e g s.team) (cond b (Some (record { made = length (sales_in sales t.0); team = t.1 })) (row_at (rows_of_records teams sales) g))
        ≡ option_map (team_item e g) (cond b (Some t.1) (team_recorded teams g))
    by true rest = refl
    by false rest = rest

up_to_rows : (w : ℕ) (teams : List (ℕ × Team)) (sales : List (ℕ × Sale)) → Each (λ t. t.0 ≤ w) teams → AllUpTo w (rows_of_records teams sales)
up_to_rows w [] sales each = tt
up_to_rows w (t ∷ teams) sales each = (each.0, up_to_rows w teams sales each.1)

abbrev ArePlaced : List Player → Team → Type 0
ArePlaced players t = (position : ℕ → Position) → HavePositions position players → IsPlaced position t.picks

rows_ordered : (players : List Player) (manager : Manager) (teams : List (ℕ × Team)) → Each (λ t. ArePlaced players t.1) teams
    → Each (IsRowInOrder players manager) (rows_of_records teams manager.sales)
rows_ordered players manager [] each = tt
rows_ordered players manager (t ∷ teams) each = (record { made = refl; placed = each.0 }, rows_ordered players manager teams each.1)

fit_at : (teams : List (ℕ × Team)) (sales : List (ℕ × Sale)) (g : ℕ) (t : Team) → Each (λ r. IsFit r.gw r.standing) (rows_of_records teams sales)
    → team_recorded teams g ≡ Some t → IsFit g (record { made = length (sales_in sales g); team = t })
fit_at [] sales g t each found = absurd (cc)
fit_at (x ∷ teams) sales g t each found =
    elim (cases_eq x.0 g) [
      | inl here ↦ (
          let same : x.1 ≡ t = some_is x.1 t (sym (ap (λ b. cond b (Some x.1) (team_recorded teams g)) (eq-eqb x.0 g here)) ∙ found) in
          subst (λ u. IsFit g (record { made = length (sales_in sales g); team = u })) same
          (subst (λ w. IsFit w (record { made = length (sales_in sales w); team = x.1 })) here each.0))
      | inr apart ↦ fit_at teams sales g t each.1 (sym (ap (λ b. cond b (Some x.1) (team_recorded teams g)) (ne_eqb x.0 g apart)) ∙ found)
    ]
  where
    some_is : (a b : Team) → Some a ≡ Some b → a ≡ b
    some_is a b e = cc

-- Players who are there have their positions.

found_in : (P : Player → Type 0) (test : Player → Bool) (players : List Player) (x : Player) → All P players → find test players ≡ Some x → P x × (test x ≡ true)
found_in P test [] x all found = absurd (cc)
found_in P test (y ∷ players) x all found = by (test y) refl (λ more. found_in P test players x (All-tail P y players all) more)
  where
    some_is : (a b : Player) → Some a ≡ Some b → a ≡ b
    some_is a b e = cc

    by : (b : Bool) → test y ≡ b → (find test players ≡ Some x → P x × (test x ≡ true)) → P x × (test x ≡ true)
    by true is rest =
        let same : y ≡ x = some_is y x (sym (ap (λ b. cond b (Some y) (find test players)) is) ∙ found) in
        subst (λ z. P z × (test z ≡ true)) same (All-head P y players all, is)
    by false is rest = rest (sym (ap (λ b. cond b (Some y) (find test players)) is) ∙ found)

has_position : (players : List Player) (position : ℕ → Position) → HavePositions position players → (p : ℕ) (x : Player) → player_of players p ≡ Some x
    → position_in players p ≡ position p
has_position players position have p x found =
    let own = found_in (λ q. q.position ≡ position q.id) (λ q. eqb q.id p) players x have found in
    ap (λ o. option_map_or (λ (q : Player). q.position) o Keeper) found ∙ own.0 ∙ ap position (eqb-true x.id p own.1)

module _ (rows : Rows) (lawful : judged rows ≡ None) (players : List Player) (are : ArePlayersTold players (map_of rows)) (e : ℕ) where
  -- What the rules say of a team that is told.

  abbrev TellsTeam : ℕ → List (ℕ × ℕ) → ℕ → ℕ → ℕ → Chip → Type 0
  TellsTeam g picks captain vice bank chip = told (map_of rows) (slot.Team e g) ≡ Some (item.Team e g picks captain vice bank chip)

  early_team : (g : ℕ) (picks : List (ℕ × ℕ)) (captain vice bank : ℕ) (chip : Chip) → TellsTeam g picks captain vice bank chip → g ≤ last_open (terms_told (map_of rows))
  early_team g picks captain vice bank chip tells =
      let all = and_parts _ _ (not-false _ (nothing_broken rows lawful (slot.Team e g) (item.Team e g picks captain vice bank chip) tells)) in
      let three = and_parts _ _ all.0 in
      let two = and_parts (is_in_time (map_of rows) e g) _ three.0 in
      by (first_told (map_of rows) e) two.0
    where
      by : (first : Option ℕ) → option_map_or (λ s. is_between_ends (terms_told (map_of rows)) s g) first false ≡ true → g ≤ last_open (terms_told (map_of rows))
      by None holds = absurd (true≢false (sym holds))
      by (Some s) holds =
          leb-true g (last_open (terms_told (map_of rows)))
          (and_parts (nat_le 1 g && nat_le g (length (terms_told (map_of rows)).deadlines) && nat_le s g) (nat_le g (last_open (terms_told (map_of rows)))) holds).1

  its_players : (g : ℕ) (picks : List (ℕ × ℕ)) (captain vice bank : ℕ) (chip : Chip) → TellsTeam g picks captain vice bank chip → has_players (map_of rows) picks ≡ true
  its_players g picks captain vice bank chip tells =
      let all = and_parts _ _ (not-false _ (nothing_broken rows lawful (slot.Team e g) (item.Team e g picks captain vice bank chip) tells)) in
      let three = and_parts _ _ all.0 in
      let fit = and_parts (is_in_time (map_of rows) e g) _ three.0 in
      let lined = and_parts (has_players (map_of rows) picks && is_priced picks && is_distinct picks) (is_lined_up (positions_told (map_of rows) picks) captain vice) fit.1 in
      let two = and_parts (has_players (map_of rows) picks && is_priced picks) (is_distinct picks) lined.0 in
      (and_parts (has_players (map_of rows) picks) (is_priced picks) two.0).0

  are_placed : (position : ℕ → Position) → HavePositions position players → (picks : List (ℕ × ℕ)) → has_players (map_of rows) picks ≡ true
      → IsPlaced position (map (pick_placed (position_in players)) picks)
  are_placed position have [] there = tt
  are_placed position have (pick ∷ picks) there =
      let parts = and_parts (is_there (map_of rows) (slot.Player pick.0)) (list_all (λ p. is_there (map_of rows) (slot.Player p.0)) picks) there in
      let spelled = spelled_there rows lawful (slot.Player pick.0) parts.0 in
      let player = mapped_from (player_item pick.0) (player_of players pick.0) spelled.0 (are pick.0 ∙ spelled.1) in
      (has_position players position have pick.0 player.0 player.1, are_placed position have picks parts.1)

  -- Its teams and transfers.

  pub its_teams : AreItsTeams (map_of rows) e (teams_told (position_in players) (map_of rows) e)
  its_teams = record { rise = teams_rise (placed (position_in players) (map_of rows) e) 38 1; told = found }
    where
      found : (g : ℕ) → team_recorded (teams_told (position_in players) (map_of rows) e) g ≡ option_map (team_of_record (map_of rows)) (team_told (map_of rows) e g)
      found zero =
          none_before (placed (position_in players) (map_of rows) e) 0 38 1 (omega arith)
          ∙ sym (mapped_none (team_of_record (map_of rows)) (team_told (map_of rows) e 0) (ap team_in (no_team_there (map_of rows) e 0 refl)))
      found (suc g) =
          team_found (placed (position_in players) (map_of rows) e) 38 1 (suc g) (omega arith)
          (λ late. ap (team_placed (position_in players)) (no_team_there (map_of rows) e (suc g) (not_last (suc g) (omega (arith, late)))))
          ∙ placed_as players (map_of rows) are e (suc g)

  sale_at : (g n : ℕ) → entry_in (sales_told (map_of rows) e g) n ≡ sale_told (map_of rows) e g n
  sale_at g n = found_of (sale_told (map_of rows) e g) (gapless (map_of rows) e (judged_lawful rows lawful e) g) n

  its_sales : AreItsSales (map_of rows) e (numbered_sales (sales_told (map_of rows) e) 38 1)
  its_sales = record { rise = numbers_rise (sales_told (map_of rows) e) 38 1; told = found }
    where
      found : (g n : ℕ) → sale_numbered (numbered_sales (sales_told (map_of rows) e) 38 1) g n ≡ sale_told (map_of rows) e g n
      found zero n = no_number_before (sales_told (map_of rows) e) 0 n 38 1 (omega arith) ∙ sym (no_sale_there (map_of rows) e 0 n refl)
      found (suc g) n =
          number_found (sales_told (map_of rows) e) 38 1 (suc g) n (omega arith) (λ late. no_sales_there (map_of rows) e (suc g) (not_last (suc g) (omega (arith, late))))
          ∙ sale_at (suc g) n

  pub sales_as : (g : ℕ) → sales_in (entry_sales_told (map_of rows) e) g ≡ sales_told (map_of rows) e g
  sales_as zero = no_sales_before (sales_told (map_of rows) e) 0 38 1 (omega arith) ∙ sym (no_sales_there (map_of rows) e 0 refl)
  sales_as (suc g) =
      sales_found (sales_told (map_of rows) e) 38 1 (suc g) (omega arith) (λ late. no_sales_there (map_of rows) e (suc g) (not_last (suc g) (omega (arith, late))))

  pub its_records : AreEntryRecords (first_told (map_of rows) e) (teams_told (position_in players) (map_of rows) e) (entry_sales_told (map_of rows) e)
  its_records =
      subst (AreEntryRecords (first_told (map_of rows) e) (teams_told (position_in players) (map_of rows) e)) (without_numbers (sales_told (map_of rows) e) 38 1)
      (judged_restored rows e (teams_told (position_in players) (map_of rows) e) (numbered_sales (sales_told (map_of rows) e) 38 1) lawful its_teams its_sales)

  in_season : (g : ℕ) (i : Item) → told (map_of rows) (slot.Team e g) ≡ Some i → g ≤ 38
  in_season g i found =
      elim (cases_Bool (is_gameweek g)) [
        | inl is ↦ up_to_last g is
        | inr out ↦ absurd (never (told (map_of rows) (slot.Team e g)) found (no_team_there (map_of rows) e g out))
      ]
    where
      never : (o : Option Item) → o ≡ Some i → o ≡ None → ⊥
      never o some none = absurd (cc)

  pub have_banks : HaveBanks (map_of rows) e
  have_banks g = by (told (map_of rows) (slot.Team e g)) refl
    where
      by : (o : Option Item) → told (map_of rows) (slot.Team e g) ≡ o → HasBank o
      by None is = tt
      by (Some i) is =
          let has = team_has (map_of rows) e g i is in
          let kept = kept_rows (teams_told (position_in players) (map_of rows) e) (entry_sales_told (map_of rows) e) (first_told (map_of rows) e, its_records) in
          let found = its_teams.told g ∙ ap (λ o. option_map (team_of_record (map_of rows)) (team_in o)) (is ∙ sym (ap Some has.is)) in
          let fit = fit_at (teams_told (position_in players) (map_of rows) e) (entry_sales_told (map_of rows) e) g (team_of_record (map_of rows) has.team) kept.fit found in
          let last = in_season g i is in
          subst (λ j. HasBank (Some j)) has.is (omega (arith, fit.bank, fit.few, last))

  -- What is restored of them.

  abbrev pub restored_manager : List ℕ → List ℕ → Manager
  restored_manager key name = record {
    key = key;
    name = name;
    season = rows_of_records (teams_told (position_in players) (map_of rows) e) (entry_sales_told (map_of rows) e);
    sales = entry_sales_told (map_of rows) e;
  }

  pub first_is : (first : Option ℕ) (key name : List ℕ) → IsTold (map_of rows) e first key name → first_told (map_of rows) e ≡ first
  first_is first key name is = ap first_of_item is

  same_entry : (first : Option ℕ) (key name : List ℕ) → IsTold (map_of rows) e first key name
      → Some (manager_item e (restored_manager key name)) ≡ told (map_of rows) (slot.Entry e)
  same_entry first key name is =
      ap (λ f. Some (item.Entry e f key name))
      (first_row (teams_told (position_in players) (map_of rows) e) (entry_sales_told (map_of rows) e) ∙ its_records.starts ∙ first_is first key name is)
      ∙ sym is

  same_teams : (key name : List ℕ) (g : ℕ) → team_by e g (restored_manager key name) ≡ told (map_of rows) (slot.Team e g)
  same_teams key name g =
      row_team e g (teams_told (position_in players) (map_of rows) e) (entry_sales_told (map_of rows) e)
      ∙ ap (option_map (team_item e g)) (its_teams.told g ∙ sym (placed_as players (map_of rows) are e g))
      ∙ told_team (position_in players) (map_of rows) e g

  same_transfers : (key name : List ℕ) (g n : ℕ) → transfer_by e g n (restored_manager key name) ≡ told (map_of rows) (slot.Transfer e g n)
  same_transfers key name g n =
      ap (λ l. option_map (transfer_item e g n) (entry_in l n)) (sales_as g)
      ∙ ap (option_map (transfer_item e g n)) (sale_at g n)
      ∙ told_sale (map_of rows) e g n

  -- what holds of each team that is told holds of each that is placed
  of_placed : (P : Team → Type 0) (g : ℕ)
      → ((picks : List (ℕ × ℕ)) (captain vice bank : ℕ) (chip : Chip) → TellsTeam g picks captain vice bank chip → P (team_of (position_in players) picks captain vice bank chip))
      → (t : Team) → placed (position_in players) (map_of rows) e g ≡ Some t → P t
  of_placed P g holds t = by (told (map_of rows) (slot.Team e g)) refl
    where
      some_is : (a b : Team) → Some a ≡ Some b → a ≡ b
      some_is a b e = cc

      by : (o : Option Item) → told (map_of rows) (slot.Team e g) ≡ o → team_placed (position_in players) o ≡ Some t → P t
      by None is found = absurd (cc)
      by (Some i) is found =
          let has = team_has (map_of rows) e g i is in
          let own = team_of (position_in players) has.team.picks has.team.captain has.team.vice has.team.bank has.team.chip in
          let same : own ≡ t = some_is own t (ap (λ j. team_placed (position_in players) (Some j)) has.is ∙ found) in
          subst P same (holds has.team.picks has.team.captain has.team.vice has.team.bank has.team.chip (is ∙ sym (ap Some has.is)))

  in_order : (key name : List ℕ) → IsManagerInOrder players (restored_manager key name)
  in_order key name = record {
    rise = (kept_rows (teams_told (position_in players) (map_of rows) e) (entry_sales_told (map_of rows) e) (first_told (map_of rows) e, its_records)).rise;
    rows = rows_ordered players (restored_manager key name) (teams_told (position_in players) (map_of rows) e)
        (each_team (λ g t. ArePlaced players t) (placed (position_in players) (map_of rows) e)
        (λ g. of_placed (ArePlaced players) g (λ picks captain vice bank chip tells position have. are_placed position have picks (its_players g picks captain vice bank chip tells))) 38 1);
  }

  not_late : AllUpTo (last_open (terms_told (map_of rows))) (rows_of_records (teams_told (position_in players) (map_of rows) e) (entry_sales_told (map_of rows) e))
  not_late =
      up_to_rows (last_open (terms_told (map_of rows))) (teams_told (position_in players) (map_of rows) e) (entry_sales_told (map_of rows) e)
      (each_team (λ g t. g ≤ last_open (terms_told (map_of rows))) (placed (position_in players) (map_of rows) e)
      (λ g. of_placed (λ t. g ≤ last_open (terms_told (map_of rows))) g (λ picks captain vice bank chip tells. early_team g picks captain vice bank chip tells)) 38 1)

  pub is_restored : (first : Option ℕ) (key name : List ℕ) → IsTold (map_of rows) e first key name → IsRestored (map_of rows) players e (restored_manager key name)
  is_restored first key name is = record {
    entry = same_entry first key name is;
    teams = same_teams key name;
    transfers = same_transfers key name;
    ordered = in_order key name;
    early = not_late;
  }
