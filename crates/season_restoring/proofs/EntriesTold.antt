-- What records tell of teams and transfers, as items; and of what is told nothing.
use Rattle.std.proofs.Common.{◌≡◌, ℕ, true, false, cond, not, List, [], ◌∷◌, map, Option, Some, None, find, refl, sym, ap, ◌∙◌, subst}
use Rattle.std.specs.Option.{is_some, option_and_then, option_map, option_map_or, option_or}
use Rattle.std.proofs.lemmas.Bool.{and_right, not-false, true≢false}
use Rattle.fpl_base.specs.Keeping.{Map, map_of}
use Rattle.fpl_base.specs.declared.kinds.Position.{Position}
use Rattle.fpl_base.specs.declared.kinds.Position.TheVariants.{Keeper}
use Rattle.fpl_base.specs.declared.records.RecordKey.{RecordKey as Key}
use Rattle.record_fields.specs.Ranges.{is_gameweek, is_id}
use Rattle.season_records.specs.ItemReading.{item_of, team_in as team_read, transfer_in}
use Rattle.season_records.specs.Keys.{key_of}
use Rattle.season_records.specs.declared.item.Item.{Item}
use Rattle.season_records.specs.declared.item.Item.TheVariants as item
use Rattle.season_records.specs.declared.slot.Slot.{Slot}
use Rattle.season_records.specs.declared.slot.Slot.TheVariants as slot
use Rattle.rule_book.specs.declared.player.Player.{Player}
use Rattle.rule_book.specs.declared.transfers.Sale.{Sale}
use Rattle.rule_book.specs.PlayerFigures.{position_in}
use Rattle.rule_book.specs.Players.{player_of}
use Rattle.stored_records.specs.EntryTold.{sale_in, sale_told, team_in, team_told}
use Rattle.stored_records.specs.Sequels.{sales_told}
use Rattle.stored_records.specs.Stored.{Rows, is_there, told}
use Rattle.store_validation.specs.EntryLaws.{team_of_record}
use Rattle.store_validation.specs.Lawful.{first_not_spelled, first_wrong, is_in_range, is_spelled, judged}
use Rattle.store_validation.specs.TeamRules.{position_in as position_of_item, position_told}
use Rattle.store_validation.proofs.EntriesJudged.{entry_has, none_mapped, none_passes, sale_has, team_has}
use Rattle.store_validation.proofs.Numbered.{nothing_told}
use Rattle.season_records.specs.Records.{pick_told, player_item, team_item}
use Rattle.season_restoring.specs.Restoring.{ArePlayersTold, IsTold, parts_of, pick_placed, placed, team_placed}
use Rattle.season_restoring.specs.declared.managers.Parts.{Parts}

-- Items.

abbrev pub item_of_sale : ℕ → ℕ → ℕ → Sale → Item
item_of_sale e g n s = item.Transfer e g n s.out s.into s.sold s.bought

pub told_team : (position : ℕ → Position) (m : Map) (e g : ℕ) → option_map (team_item e g) (placed position m e g) ≡ told m (slot.Team e g)
told_team position m e g = by (told m (slot.Team e g)) refl
  where
    back : (picks : List (ℕ × ℕ)) → map pick_told (map (pick_placed position) picks) ≡ picks
    back [] = refl
    back (pick ∷ picks) = ap (λ l. pick ∷ l) (back picks)

    by : (o : Option Item) → told m (slot.Team e g) ≡ o → option_map (team_item e g) (team_placed position o) ≡ o
    by None is = refl
    by (Some i) is =
        let has = team_has m e g i is in
        subst (λ j. option_map (team_item e g) (team_placed position (Some j)) ≡ Some j) has.is
        (ap (λ picks. Some (item.Team e g picks has.team.captain has.team.vice has.team.bank has.team.chip)) (back has.team.picks))

pub told_sale : (m : Map) (e g n : ℕ) → option_map (item_of_sale e g n) (sale_told m e g n) ≡ told m (slot.Transfer e g n)
told_sale m e g n = by (told m (slot.Transfer e g n)) refl
  where
    by : (o : Option Item) → told m (slot.Transfer e g n) ≡ o → option_map (item_of_sale e g n) (sale_in o) ≡ o
    by None is = refl
    by (Some i) is = let has = sale_has m e g n i is in subst (λ j. option_map (item_of_sale e g n) (sale_in (Some j)) ≡ Some j) has.is refl

-- Nothing is told of what has no key.

pub no_team_there : (m : Map) (e g : ℕ) → is_gameweek g ≡ false → told m (slot.Team e g) ≡ None
no_team_there m e g out = by (m (key_of (slot.Team e g)))
  where
    by : (o : Option (List ℕ)) → option_and_then (item_of (key_of (slot.Team e g))) o ≡ None
    by None = refl
    by (Some body) = ap (λ b. cond b (team_read e g body) None) (and_right (is_id e) (is_gameweek g) out)

pub no_sale_there : (m : Map) (e g n : ℕ) → is_gameweek g ≡ false → sale_told m e g n ≡ None
no_sale_there m e g n out = ap sale_in (by (m (key_of (slot.Transfer e g n))))
  where
    by : (o : Option (List ℕ)) → option_and_then (item_of (key_of (slot.Transfer e g n))) o ≡ None
    by None = refl
    by (Some body) = ap (λ b. cond b (transfer_in e g n body) None) (and_right (is_id e) (is_gameweek g) out)

pub no_sales_there : (m : Map) (e g : ℕ) → is_gameweek g ≡ false → sales_told m e g ≡ []
no_sales_there m e g out = nothing_told (sale_told m e g) (no_sale_there m e g 1 out)

pub no_entry_zero : (m : Map) → told m (slot.Entry 0) ≡ None
no_entry_zero m = by (m (key_of (slot.Entry 0)))
  where
    by : (o : Option (List ℕ)) → option_and_then (item_of (key_of (slot.Entry 0))) o ≡ None
    by None = refl
    by (Some body) = refl

-- What is there in lawful records is spelled.

none_first : (o p : Option Key) → option_or o p ≡ None → o ≡ None
none_first None p e = refl
none_first (Some k) p e = absurd (cc)

item_from : (o : Option Item) → option_map_or is_in_range o false ≡ true → (i : Item) × (o ≡ Some i)
item_from None e = absurd (true≢false (sym e))
item_from (Some i) e = (i, refl)

pub spelled_there : (rows : Rows) → judged rows ≡ None → (s : Slot) → is_there (map_of rows) s ≡ true → (i : Item) × (told (map_of rows) s ≡ Some i)
spelled_there rows lawful s there = by (map_of rows (key_of s)) refl
  where
    all : find (λ row. not (is_spelled row)) rows ≡ None
    all = none_mapped (λ (row : Key × List ℕ). row.0) (find (λ row. not (is_spelled row)) rows) (none_first (first_not_spelled rows) (first_wrong rows) lawful)

    by : (o : Option (List ℕ)) → map_of rows (key_of s) ≡ o → (i : Item) × (told (map_of rows) s ≡ Some i)
    by None is = absurd (true≢false (sym there ∙ ap is_some is))
    by (Some body) is =
        let right = none_passes (λ row. not (is_spelled row)) rows all (key_of s) body is in
        let read = item_from (item_of (key_of s) body) (not-false (is_spelled (key_of s, body)) right) in
        (read.0, ap (option_and_then (item_of (key_of s))) is ∙ read.1)

-- Positions.

pub same_position : (players : List Player) (m : Map) → ArePlayersTold players m → (p : ℕ) → position_told m p ≡ position_in players p
same_position players m are p = ap position_of_item (sym (are p)) ∙ by (player_of players p)
  where
    by : (o : Option Player) → position_of_item (option_map (player_item p) o) ≡ option_map_or (λ (x : Player). x.position) o Keeper
    by None = refl
    by (Some x) = refl

pub placed_as : (players : List Player) (m : Map) → ArePlayersTold players m → (e g : ℕ) → placed (position_in players) m e g ≡ option_map (team_of_record m) (team_told m e g)
placed_as players m are e g = (λ i. placed (λ p. sym (same_position players m are p) i) m e g) ∙ by (told m (slot.Team e g)) refl
  where
    by : (o : Option Item) → told m (slot.Team e g) ≡ o → team_placed (position_told m) o ≡ option_map (team_of_record m) (team_in o)
    by None is = refl
    by (Some i) is = let has = team_has m e g i is in subst (λ j. team_placed (position_told m) (Some j) ≡ option_map (team_of_record m) (team_in (Some j))) has.is refl

-- Entries.

pub told_parts : (m : Map) (e : ℕ) (parts : Parts) → parts_of (told m (slot.Entry e)) ≡ Some parts → IsTold m e parts.first parts.key parts.name
told_parts m e parts = by (told m (slot.Entry e)) refl
  where
    some_is : (a b : Parts) → Some a ≡ Some b → a ≡ b
    some_is a b e = cc

    by : (o : Option Item) → told m (slot.Entry e) ≡ o → parts_of o ≡ Some parts → told m (slot.Entry e) ≡ Some (item.Entry e parts.first parts.key parts.name)
    by None is found = absurd (cc)
    by (Some i) is found =
        let has = entry_has m e i is in
        let own : Parts = record { first = has.first; key = has.key; name = has.name } in
        let same : own ≡ parts = some_is own parts (ap (λ j. parts_of (Some j)) has.is ∙ found) in
        is ∙ sym (ap Some has.is) ∙ ap (λ (p : Parts). Some (item.Entry e p.first p.key p.name)) same

pub no_parts : (m : Map) (e : ℕ) → parts_of (told m (slot.Entry e)) ≡ None → told m (slot.Entry e) ≡ None
no_parts m e = by (told m (slot.Entry e)) refl
  where
    never : (p : Parts) (o : Option Parts) → o ≡ Some p → o ≡ None → ⊥
    never p o some none = absurd (cc)

    by : (o : Option Item) → told m (slot.Entry e) ≡ o → parts_of o ≡ None → told m (slot.Entry e) ≡ None
    by None is none = is
    by (Some i) is none =
        let has = entry_has m e i is in
        absurd (never (record { first = has.first; key = has.key; name = has.name }) (parts_of (Some i)) (sym (ap (λ j. parts_of (Some j)) has.is)) none)
