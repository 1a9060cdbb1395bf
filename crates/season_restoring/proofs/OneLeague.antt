-- One league of lawful records: it can be restored, and is what they tell.
use Rattle.std.proofs.Common.{◌≡◌, ◌<◌, ◌≤◌, ◌+◌, ◌-◌, ◌∙◌, ℕ, Bool, true, false, not, ◌&&◌, ◌==◌, List, [], length, get_or, nat_eq, nat_le, IsSomeAnd, Option, Some, None, refl, sym, ap, subst, arith}
use Rattle.std.specs.Cmp.{unsigned_Decides}
use Rattle.std.specs.List.{list_all, list_any}
use Rattle.std.specs.Option.{option_and_then}
use Rattle.std.proofs.lemmas.Bool.{and_parts, eqb-true, leb-true, not-false, or_parts}
use Rattle.std.proofs.lemmas.Bool.Decides.{nat_tests}
use Rattle.std.proofs.lemmas.List.{get_or_default, length-map}
use Rattle.std.proofs.lemmas.List.Sums.{AllPass-from_list_all}
use Rattle.std.proofs.lemmas.Map.Made.{is_member-Decides}
use Rattle.fpl_base.specs.Keeping.{KeysRise, Map, map_of, precedes}
use Rattle.fpl_base.specs.declared.records.RecordKey.{RecordKey as Key}
use Rattle.leagues_and_cups.specs.Books.{IsLeague, league_of}
use Rattle.leagues_and_cups.proofs.DrawLemmas.{order_of_all}
use Rattle.record_fields.specs.FieldReading.{byte_in, kind_at, long_in, short_text_at}
use Rattle.record_fields.specs.Ranges.{is_id}
use Rattle.record_fields.specs.Reading.{◌then◌, byte_at, counted, whole_of}
use Rattle.season_records.specs.ItemReading.{item_of, league_in}
use Rattle.fpl_base.specs.Texts.{is_code, is_name}
use Rattle.season_records.specs.Keys.{key_of}
use Rattle.season_records.specs.declared.item.Item.{Item}
use Rattle.season_records.specs.declared.item.Item.TheVariants as item
use Rattle.season_records.specs.declared.slot.Slot.{Slot}
use Rattle.season_records.specs.declared.slot.Slot.TheVariants as slot
use Rattle.rule_book.specs.HeadToHead.{IsDraw, is_draw}
use Rattle.rule_book.specs.LeagueCalls.{is_head, most_leagues, most_members}
use Rattle.rule_book.specs.Leagues.{LeagueFacts}
use Rattle.rule_book.specs.Ranks.{AllDiffer}
use Rattle.rule_book.specs.declared.league.LeagueKind.{LeagueKind}
use Rattle.stored_records.specs.SeasonRules.{is_full, misses}
use Rattle.stored_records.specs.Stored.{Rows, between, is_there, is_within, told}
use Rattle.store_validation.proofs.EntriesJudged.{and_then_some, nothing_broken}
use Rattle.store_validation.specs.Lawful.{judged}
use Rattle.store_validation.specs.LeagueRules.{has_gap, is_drawn_wrong, is_league_full, kind_in, kind_told, league_breaks, members_of}
use Rattle.season_restoring.specs.LeagueRestoring.{IsLeagueRestored, IsMadeOf}
use Rattle.season_restoring.proofs.LawfulRows.{if_true, lawful_row, of_reader, some_there}
use Rattle.season_restoring.proofs.Gapless.{stand_before}
use Rattle.season_restoring.proofs.MemberRows.{members_rise, of_league, of_place, part, some_members}

-- The record of a league.

-- what the record of a league tells
pub record Parts : Type 0 where
  pub kind : LeagueKind
  pub start : ℕ
  pub creator : ℕ
  pub order : List ℕ
  pub code : List ℕ
  pub name : List ℕ

record HasLeague (l : ℕ) (i : Item) : Type 0 where
  parts : Parts
  is : item.League l parts.kind parts.start parts.creator parts.order parts.code parts.name ≡ i

league_of_body : (l : ℕ) (body : List ℕ) (i : Item) → league_in l body ≡ Some i → HasLeague l i
unfolding league_in
league_of_body l body i is =
    let fields = kind_at then byte_in 1 38 then long_in 1 4294967295 then counted byte_at (long_in 1 4294967295) then short_text_at is_code then short_text_at is_name in
    let made = of_reader {A = LeagueKind × (ℕ × (ℕ × (List ℕ × (List ℕ × List ℕ))))} (λ x. item.League l x.0 x.1.0 x.1.1.0 x.1.1.1.0 x.1.1.1.1.0 x.1.1.1.1.1) (whole_of fields body) i is in
    record {
      parts = record { kind = made.0.0; start = made.0.1.0; creator = made.0.1.1.0; order = made.0.1.1.1.0; code = made.0.1.1.1.1.0; name = made.0.1.1.1.1.1 };
      is = made.1;
    }

has_league : (m : Map) (l : ℕ) (i : Item) → told m (slot.League l) ≡ Some i → HasLeague l i
has_league m l i is =
    let there = and_then_some (item_of (key_of (slot.League l))) (m (key_of (slot.League l))) i is in
    league_of_body l there.0 i (if_true (is_id l) (league_in l there.0) i there.2).1

-- a record tells this of a league
abbrev pub IsLeagueTold : Map → ℕ → Parts → Type 0
IsLeagueTold m l parts = told m (slot.League l) ≡ Some (item.League l parts.kind parts.start parts.creator parts.order parts.code parts.name)

-- the league of an item
abbrev number_in : Item → ℕ
number_in (item.League league kind start creator order code name) = league
number_in other = 0

-- the record of a league tells its own number
pub told_own : (m : Map) (l x : ℕ) (kind : LeagueKind) (start creator : ℕ) (order code name : List ℕ) → told m (slot.League l) ≡ Some (item.League x kind start creator order code name)
    → told m (slot.League l) ≡ Some (item.League l kind start creator order code name)
told_own m l x kind start creator order code name is =
    let has = has_league m l (item.League x kind start creator order code name) is in
    subst (λ n. told m (slot.League l) ≡ Some (item.League n kind start creator order code name)) (sym (ap number_in has.is)) is

-- what is there in lawful records is spelled
pub spelled : (rows : Rows) → judged rows ≡ None → (s : Slot) → is_there (map_of rows) s ≡ true → (i : Item) × (told (map_of rows) s ≡ Some i)
spelled rows lawful s there =
    let body = some_there (map_of rows (key_of s)) there in
    let row = lawful_row rows lawful (key_of s) body.0 body.1 in
    (row.tells, ap (option_and_then (item_of (key_of s))) body.1 ∙ row.is)

-- the parts of a league that is there
pub parts_there : (rows : Rows) → judged rows ≡ None → (l : ℕ) → is_there (map_of rows) (slot.League l) ≡ true → (parts : Parts) × IsLeagueTold (map_of rows) l parts
parts_there rows lawful l there =
    let tells = spelled rows lawful (slot.League l) there in
    let has = has_league (map_of rows) l tells.0 tells.1 in
    (has.parts, tells.1 ∙ sym (ap Some has.is))

-- of the item of a league that is there it is made
pub made_there : (rows : Rows) → judged rows ≡ None → (l : ℕ) → is_there (map_of rows) (slot.League l) ≡ true → (o : Option Item) (made : Option LeagueFacts)
    → o ≡ told (map_of rows) (slot.League l) → IsMadeOf rows l o made → IsSomeAnd made (IsLeagueRestored rows l)
made_there rows lawful l there o made is holds =
    let own = parts_there rows lawful l there in
    subst (λ x. IsMadeOf rows l x made) (is ∙ own.1) holds

-- A draw.

both_in : (a b : Bool) → a ≡ true → (a && not b) ≡ false → b ≡ true
both_in a b is away = not-false b (sym (ap (λ x. x && not b) is) ∙ away)

draw_of : (order members : List ℕ) → AllDiffer members → is_draw order members ≡ true → IsDraw order members
draw_of order members differ is =
    let two = and_parts (nat_le 2 (length members)) ((length order == length members) && list_all (λ m. list_any (nat_eq m) order) members) is in
    let placed = and_parts (length order == length members) (list_all (λ m. list_any (nat_eq m) order) members) two.1 in
    (leb-true 2 (length members) two.0, order_of_all members order differ (eqb-true (length order) (length members) placed.0) (λ k d lt. (is_member-Decides unsigned_Decides order (get_or members k d)).0 (AllPass-from_list_all (λ m. list_any (nat_eq m) order) members placed.1 k d lt)))

-- The keys of members.

own_member : (l e : ℕ) (k : Key) → is_within (key_of (slot.Member l 0)) (key_of (slot.Member l e)) k ≡ true → of_league l k ≡ true
own_member l e k is = grind (arith, nat_tests, is)

from_first : (l : ℕ) (k : Key) → of_league l k ≡ true → precedes k (key_of (slot.Member l 0)) ≡ false
from_first l k is = grind (arith, nat_tests, is)

-- What the rules say of a league that is told.

module _ (rows : Rows) (rise : KeysRise rows) (lawful : judged rows ≡ None) (l : ℕ) (parts : Parts) (is : IsLeagueTold (map_of rows) l parts) where
  right : league_breaks rows l parts.kind parts.start parts.creator parts.order ≡ false
  right = nothing_broken rows lawful (slot.League l) (item.League l parts.kind parts.start parts.creator parts.order parts.code parts.name) is

  pub few_leagues : is_full rows most_leagues (slot.League 0) (slot.League l) ≡ false
  few_leagues = (or_parts _ _ right).1

  pub no_gap : has_gap (map_of rows) l (slot.League (l - 1)) ≡ false
  no_gap = (or_parts _ _ (or_parts _ _ right).0).1

  drawn_right : is_drawn_wrong parts.kind parts.order (members_of rows l) ≡ false
  drawn_right = (or_parts _ _ (or_parts _ _ (or_parts _ _ (or_parts _ _ right).0).0).0).1

  creator_misses : misses (map_of rows) (slot.Member l parts.creator) ≡ false
  creator_misses = (or_parts _ _ (or_parts _ _ (or_parts _ _ (or_parts _ _ (or_parts _ _ (or_parts _ _ right).0).0).0).0).0).1

  creator_in : is_there (map_of rows) (slot.Member l parts.creator) ≡ true
  creator_in = not-false (is_there (map_of rows) (slot.Member l parts.creator)) creator_misses

  abbrev any_row : Key × List ℕ
  any_row = (key_of slot.Season, [])

  few_members : length (members_of rows l) ≤ most_members parts.kind
  few_members =
      let long = length-map (part rows rise lawful l) (λ row. row.0.b) in
      let some = some_members rows rise lawful l parts.creator creator_in in
      let i : ℕ = length (part rows rise lawful l) - 1 in
      let lt : i < length (part rows rise lawful l) = omega (arith, long, some) in
      let row : Key × List ℕ = get_or (part rows rise lawful l) i any_row in
      let own = of_place rows rise lawful l i any_row lt in
      let kind : kind_told (map_of rows) l ≡ Some parts.kind = ap kind_in is in
      let as_long : length (members_of rows l) ≡ i + 1 = omega (arith, long, some) in
      let full : is_league_full rows l row.0.b (kind_told (map_of rows) l) ≡ false = (or_parts _ _ own.right).1 in
      let few : nat_le (most_members parts.kind) (between rows (key_of (slot.Member l 0)) (key_of (slot.Member l row.0.b))) ≡ false = sym (ap (is_league_full rows l row.0.b) kind) ∙ full in
      let before : between rows (key_of (slot.Member l 0)) row.0 ≡ i
      = stand_before (of_league l) (part rows rise lawful l) rows (key_of (slot.Member l 0)) i row rise refl lt (get_or_default (part rows rise lawful l) i any_row row lt)
      (λ k inside. own_member l row.0.b k (sym (ap (λ x. is_within (key_of (slot.Member l 0)) x k) own.key_is) ∙ inside)) (from_first l) in
      less (most_members parts.kind) (between rows (key_of (slot.Member l 0)) (key_of (slot.Member l row.0.b))) i few (sym (ap (between rows (key_of (slot.Member l 0))) own.key_is) ∙ before) as_long
    where
      less : (most n i : ℕ) → nat_le most n ≡ false → n ≡ i → length (members_of rows l) ≡ i + 1 → length (members_of rows l) ≤ most
      less most n i few same long = grind (arith, nat_tests, few, same, long)

  differ : AllDiffer (members_of rows l)
  differ i j d lt within = λ same. let up = members_rise rows rise lawful l i j d lt within in absurd (omega (arith, up, same))

  -- the parts and the members are those of a league
  pub is_league : IsLeague (league_of parts.kind parts.name parts.code parts.start parts.creator (members_of rows l) parts.order)
  is_league = record {
    rise = members_rise rows rise lawful l;
    some = some_members rows rise lawful l parts.creator creator_in;
    few = few_members;
    drawn = λ drawn.
        let both = and_parts (is_head parts.kind) (is_draw parts.order (members_of rows l)) (both_in (not (length parts.order == 0)) (is_head parts.kind && is_draw parts.order (members_of rows l)) drawn drawn_right) in
        record { head = both.0; draw = draw_of parts.order (members_of rows l) differ both.1 };
  }

  -- the same by parts that are equal
  pub is_league_of : (name code members order : List ℕ) → name ≡ parts.name → code ≡ parts.code → members ≡ members_of rows l → order ≡ parts.order
      → IsLeague (league_of parts.kind name code parts.start parts.creator members order)
  is_league_of name code members order n c m o =
      subst IsLeague (λ i. league_of parts.kind (sym n i) (sym c i) parts.start parts.creator (sym m i) (sym o i)) is_league
