-- A manager in order whose rows tell what an entry's history tells stands for that entry.
use Rattle.std.proofs.Common.{◌≡◌, ◌+◌, ◌-◌, ◌==◌, ℕ, Bool, true, false, cond, List, [], ◌∷◌, Option, Some, None, map, length, arith, refl, sym, ap, ◌∙◌, subst, if◌then◌else◌}
use Rattle.std.specs.List.{AllByRecursion as Each}
use Rattle.std.specs.Option.{option_map}
use Rattle.std.proofs.lemmas.Bool.{false≢true}
use Rattle.std.proofs.lemmas.Bool.Decides.{nat_tests}
use Rattle.std.proofs.lemmas.Option.{none-some, same_Some}
use Rattle.fpl_base.specs.declared.kinds.Chip.{Chip}
use Rattle.fpl_base.specs.declared.kinds.Chip.TheVariants.{None as NoChip}
use Rattle.fpl_base.specs.declared.kinds.Position.{Position}
use Rattle.rule_book.specs.declared.player.Player.{Player}
use Rattle.rule_book.specs.declared.team.Pick.{Pick}
use Rattle.rule_book.specs.declared.team.Team.{Team}
use Rattle.rule_book.specs.declared.transfers.Sale.{Sale}
use Rattle.rule_book.specs.Batch.{HavePositions}
use Rattle.rule_book.specs.Entries.{entry_in}
use Rattle.rule_book.specs.EntryRecords.{sales_in, sold_in}
use Rattle.rule_book.specs.History.{Deed, Event, is_touched, kept}
use Rattle.rule_book.specs.HistorySquad.{bought_at, earned, order_of, picks_of, spent}
use Rattle.rule_book.specs.HistoryTeam.{IsTeam}
use Rattle.rule_book.specs.TeamOfHistory.{CanPay, team_of}
use Rattle.rule_book.proofs.TeamFacts.{team_is_the_one}
use Rattle.season_ledger.specs.Rows.{row_at}
use Rattle.season_ledger.specs.Stands.{IsPlaced, StandsFor, Tells}
use Rattle.season_ledger.specs.declared.row.Row.{Row}
use Rattle.season_ledger.specs.declared.row.Standing.{Standing}
use Rattle.manager_book.specs.declared.manager.Manager.{Manager}
use Rattle.season_book.specs.Book.{EntryFacts}
use Rattle.season_entries.specs.Entries.{AreSold, IsEntry}
use Rattle.season_records.specs.declared.item.Item.{Item}
use Rattle.season_records.specs.declared.item.Item.TheVariants as item
use Rattle.season_records.specs.Records.{entry_item, no_position, pick_told, team_item, team_told, transfer_item, transfer_told}
use Rattle.season_records.proofs.Determined.{numbers_determined}
use Rattle.season_records.proofs.FactsTold.{unmapped}
use Rattle.record_changes.specs.Ordered.{IsManagerInOrder, IsRowInOrder}
use Rattle.record_changes.specs.RowsTold.{manager_item, team_by, transfer_by}
use Rattle.season_ledger.proofs.Restored.{sold_count}

-- What is read back.

abbrev key_read : Item → List ℕ × List ℕ
key_read (item.Entry e first key name) = (key, name)
key_read i = ([], [])

record Squad : Type 0 where
  pub picks : List (ℕ × ℕ)
  pub captain : ℕ
  pub vice : ℕ
  pub bank : ℕ
  pub chip : Chip

abbrev squad_read : Item → Squad
squad_read (item.Team e g picks captain vice bank chip) = record { picks = picks; captain = captain; vice = vice; bank = bank; chip = chip }
squad_read i = record { picks = []; captain = 0; vice = 0; bank = 0; chip = NoChip }

abbrev sale_read : Item → Option Sale
sale_read (item.Transfer e g n out into sold bought) = Some (record { out = out; into = into; sold = sold; bought = bought })
sale_read i = None

told_nowhere : (b : Bool) (i : Item) → None ≡ (if b then Some i else None) → b ≡ false
told_nowhere true i is = absurd (none-some i is)
told_nowhere false i is = refl

told_there : (b : Bool) (i told : Item) → Some told ≡ (if b then Some i else None) → (b ≡ true) × (told ≡ i)
told_there true i told is = (refl, same_Some told i is)
told_there false i told is = absurd (none-some told (sym is))

-- Picks with the positions of their players.

abbrev placed : (ℕ → Position) → ℕ × ℕ → Pick
placed position pick = record { player = pick.0; position = position pick.0; bought = pick.1 }

placed_back : (position : ℕ → Position) (picks : List Pick) → IsPlaced position picks → picks ≡ map (placed position) (map pick_told picks)
placed_back position [] is = refl
placed_back position (k ∷ picks) is =
    let more = placed_back position picks is.1 in
    λ i. record { player = k.player; position = is.0 i; bought = k.bought } ∷ more i

picks_again : (position : ℕ → Position) (es : List Event) → picks_of position es ≡ map (placed position) (map pick_told (picks_of no_position es))
picks_again position es = each (order_of es)
  where
    each : (ps : List ℕ) → map (λ p. record { player = p; position = position p; bought = bought_at es p }) ps
        ≡ map (placed position) (map pick_told (map (λ p. record { player = p; position = no_position p; bought = bought_at es p }) ps))
    each [] = refl
    each (p ∷ ps) = ap (λ more. record { player = p; position = position p; bought = bought_at es p } ∷ more) (each ps)

-- a placed team of which a history's gameweek is told is its team, where the history can pay
is_team : (position : ℕ → Position) (e g : ℕ) (h : List Event) (t : Team) → CanPay h g → IsPlaced position t.picks
    → team_item e g t ≡ team_item e g (team_of no_position h g) → IsTeam position h g t
is_team position e g h t pays is same =
    let read : squad_read (team_item e g t) ≡ squad_read (team_item e g (team_of no_position h g)) = ap squad_read same in
    let bank : t.bank ≡ (1000 + earned (kept h g)) - spent (kept h g) = ap (λ (r : Squad). r.bank) read in
    record {
      picks = placed_back position t.picks is ∙ ap (λ (r : Squad). map (placed position) r.picks) read ∙ sym (picks_again position (kept h g));
      captain = ap (λ (r : Squad). r.captain) read;
      vice = ap (λ (r : Squad). r.vice) read;
      bank = omega (arith, bank, pays);
      chip = ap (λ (r : Squad). r.chip) read;
    }

-- a history can pay in a gameweek in which something was done
pays_there : (position : ℕ → Position) (h : List Event) (g : ℕ) (o : Option Standing) → Tells position h g o → is_touched h g ≡ true → CanPay h g
pays_there position h g None bare here = absurd (false≢true (sym bare ∙ here))
pays_there position h g (Some s) tells here = ((team_is_the_one position h g s.team).0 tells.1).0

-- what holds of each row holds of the one that is found
same_number : (a b : ℕ) → (a == b) ≡ true → a ≡ b
same_number a b is = grind (arith, nat_tests, is)

abbrev row_of : ℕ → Standing → Row
row_of g s = record { gw = g; standing = s }

row_found : (P : Row → Type 0) (rows : List Row) (g : ℕ) (s : Standing) → Each P rows → row_at rows g ≡ Some s → P (row_of g s)
row_found P [] g s each at = absurd (none-some s at)
row_found P (r ∷ rows) g s each at =
    elim (r.gw == g) as (λ b. (r.gw == g) ≡ b → cond b (Some r.standing) (row_at rows g) ≡ Some s → P (row_of g s)) [
      | true ↦ λ is at. subst P (λ i. row_of (same_number r.gw g is i) (same_Some r.standing s at i)) each.0
      | false ↦ λ is at. row_found P rows g s each.1 at
    ] refl at

-- The entry.

module _ (players : List Player) (old manager : Manager) (entry : EntryFacts) (e : ℕ) (stood : IsEntry players old entry)
    (order : IsManagerInOrder players manager) (named : manager_item e manager ≡ entry_item e entry)
    (teams : (g : ℕ) → team_by e g manager ≡ team_told e g entry.history)
    (transfers : (g n : ℕ) → transfer_by e g n manager ≡ transfer_told e g n entry.history) where
  abbrev h : List Event
  h = entry.history

  are_sold : AreSold manager.sales h
  are_sold g =
      numbers_determined (sales_in manager.sales g) (sold_in h g)
      (λ n. unmapped (transfer_item e g n) (transfer_item e g n) sale_read (entry_in (sales_in manager.sales g) n) (entry_in (sold_in h g) n)
      (λ z at. refl) (λ z at. refl) (transfers g n))

  module _ (position : ℕ → Position) (have : HavePositions position players) where
    stand_before : StandsFor position old.season h
    stand_before = stood.history position have

    tells : (g : ℕ) (o : Option Standing) → row_at manager.season g ≡ o
        → option_map (λ (s : Standing). team_item e g s.team) o ≡ team_told e g h → Tells position h g o
    tells g None at told = told_nowhere (is_touched h g) (team_item e g (team_of no_position h g)) told
    tells g (Some s) at told =
        let there = told_there (is_touched h g) (team_item e g (team_of no_position h g)) (team_item e g s.team) told in
        let row : IsRowInOrder players manager (row_of g s) = row_found (IsRowInOrder players manager) manager.season g s order.rows at in
        let pays : CanPay h g = pays_there position h g (row_at old.season g) (stand_before.told g) there.0 in
        (there.0, is_team position e g h s.team pays (row.placed position have) there.1, row.made ∙ ap length (are_sold g) ∙ sold_count h g)

    stand_now : StandsFor position manager.season h
    stand_now = record {
      rise = order.rise;
      history = stand_before.history;
      told = λ g. tells g (row_at manager.season g) refl (teams g);
    }

  pub made_stands : IsEntry players manager entry
  made_stands =
      let read : key_read (manager_item e manager) ≡ key_read (entry_item e entry) = ap key_read named in
      record {
        key = sym (ap (λ (r : List ℕ × List ℕ). r.0) read);
        name = sym (ap (λ (r : List ℕ × List ℕ). r.1) read);
        history = stand_now;
        sales = are_sold;
      }
