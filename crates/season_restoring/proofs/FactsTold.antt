-- The facts of lawful records tell what these tell.
use Rattle.std.proofs.Common.{◌≡◌, ◌<◌, ◌≤◌, ◌||◌, ℕ, Bool, true, false, [], ◌∷◌, length, take, Option, Some, None, slice_get, nat_le, nat_lt, refl, sym, ap, subst, ◌∙◌, get_or}
use Rattle.std.specs.Prelude.{IfSome, IsSome}
use Rattle.std.specs.List.{AllByRecursion as Each}
use Rattle.std.specs.Option.{is_some, option_and_then, option_map, option_or}
use Rattle.std.proofs.lemmas.Bool.{and_parts, leb-true, ltb-false, not-false, or_parts}
use Rattle.std.proofs.lemmas.Option.{none-some, same_Some}
use Rattle.fpl_base.specs.Keeping.{KeysRise, map_of}
use Rattle.fpl_base.specs.declared.rule.Rule.TheVariants as rule
use Rattle.rule_book.specs.Calendar.{deadlines_order, first_out_of_order, fixture_of}
use Rattle.rule_book.specs.Figures.{line_range}
use Rattle.rule_book.specs.Players.{player_of}
use Rattle.season_book.specs.Commands.{has_fixture, has_player}
use Rattle.record_fields.specs.Ranges.{is_between}
use Rattle.season_records.specs.ItemReading.{item_of}
use Rattle.season_records.specs.Items.{key_of_item, slot_of_item}
use Rattle.season_records.specs.Keys.{key_of}
use Rattle.season_records.specs.declared.item.Item.{Item}
use Rattle.season_records.specs.declared.item.Item.TheVariants as item
use Rattle.season_records.specs.declared.slot.Slot.{Slot}
use Rattle.season_records.specs.declared.slot.Slot.TheVariants as slot
use Rattle.stored_records.specs.SeasonRules.{misses_place}
use Rattle.stored_records.specs.Stored.{Rows, deadlines_in, deadlines_told, has_gameweek, is_there, locked_in, told}
use Rattle.store_validation.specs.Lawful.{is_in_range, judged, rules_broken}
use Rattle.season_facts.specs.Kept.{AreFacts}
use Rattle.season_facts.proofs.KeptFacts.{ranged_line}
use Rattle.season_records.specs.Records.{told_in}
use Rattle.season_records.specs.Told.{AreInOrder}
use Rattle.season_restoring.specs.Restored.{AreTerms, Fits, FitsSpelled, RowsFit, TellsFacts, begun, season_told, terms_in, with_locked, with_rows}
use Rattle.season_restoring.specs.declared.restoring.Terms.{Terms}
use Rattle.season_restoring.proofs.Fitting.{each_taken, fixture_fits, line_fits, none_is, none_of, player_fits}
use Rattle.season_restoring.proofs.Rows.{IsSpelled, Row, rise_of, season_after, told_after}
use Rattle.season_restoring.proofs.Slots.{HasIds, own_key}
use Rattle.season_restoring.proofs.Sound.{IsSound, all_spelled, first_is_season, season_of, sound_at, sounds, told_there}
use Rattle.season_restoring.proofs.Steps.{is_of_facts}
use Rattle.season_restoring.proofs.FactsWhole.{AreWhole, DoesSuit, Suits, facts_whole, order_whole, whole_begun, whole_rows}

-- What the season's record says.

-- the first record is of the season
pub first_slot : (rows : Rows) → KeysRise rows → judged rows ≡ None → (first : Row) → slice_get rows 0 ≡ Some first
    → (i : Item) × (item_of first.0 first.1 ≡ Some i) × (slot_of_item i ≡ slot.Season) × (told (map_of rows) (slot_of_item i) ≡ Some i) × (is_in_range i ≡ true) × (rules_broken rows i ≡ false)
first_slot [] up lawful first at = absurd (none-some first at)
first_slot (row ∷ rows) up lawful first at =
    let s = (sounds (row ∷ rows) up lawful).0 in
    let same : row ≡ first = same_Some row first at in
    (s.item, subst (λ (r : Row). item_of r.0 r.1 ≡ Some s.item) same s.is, first_is_season row rows (rise_of (row ∷ rows) up) s, s.there, s.in_range, s.right)

pub first_terms : (rows : Rows) → KeysRise rows → judged rows ≡ None → (first : Row) → slice_get rows 0 ≡ Some first → IsSome (terms_in (item_of first.0 first.1))
first_terms rows up lawful first at =
    let s = first_slot rows up lawful first at in
    let has = season_of s.0 s.2 in
    subst (λ o. IsSome (terms_in o)) (sym (s.1 ∙ ap Some has.is)) refl

pub are_terms : (rows : Rows) → KeysRise rows → judged rows ≡ None → (first : Row) → slice_get rows 0 ≡ Some first
    → (t : Terms) → item_of first.0 first.1 ≡ Some (season_told t) → AreTerms rows t
are_terms rows up lawful first at t is =
    let s = first_slot rows up lawful first at in
    let same : s.0 ≡ season_told t = same_Some _ _ (sym s.1 ∙ is) in
    record {
      there = subst (λ i. told (map_of rows) (slot_of_item i) ≡ Some i) same s.3;
      in_range = subst (λ i. is_in_range i ≡ true) same s.4;
      right = subst (λ i. rules_broken rows i ≡ false) same s.5;
    }

-- The facts that come of these terms and of all records.

module _ (rows : Rows) (t : Terms) (terms : AreTerms rows t) where
  sizes : (1 ≤ length t.deadlines) × (length t.deadlines ≤ 38) × (t.split ≤ length t.deadlines)
  sizes =
      let both = and_parts (is_between 1 38 (length t.deadlines)) (nat_le t.split (length t.deadlines)) terms.in_range in
      let ends = and_parts (nat_le 1 (length t.deadlines)) (nat_le (length t.deadlines) 38) both.0 in
      (leb-true _ _ ends.0, leb-true _ _ ends.1, leb-true _ _ both.1)

  pub has_gameweeks : 1 ≤ length t.deadlines
  has_gameweeks = sizes.0

  pub at_most_38 : length t.deadlines ≤ 38
  at_most_38 = sizes.1

  pub split_within : t.split ≤ length t.deadlines
  split_within = sizes.2

  pub in_order : deadlines_order t.deadlines ≡ None
  in_order =
      let first = or_parts (is_some (first_out_of_order t.deadlines) || nat_lt (length t.deadlines) t.split) (nat_lt (length t.deadlines) t.locked) terms.right in
      let none = none_of (first_out_of_order t.deadlines) (or_parts (is_some (first_out_of_order t.deadlines)) (nat_lt (length t.deadlines) t.split) first.0).0 in
      ap (option_map rule.DeadlineOrder) none

  locked_within_these : t.locked ≤ length t.deadlines
  locked_within_these = ltb-false _ _ (or_parts (is_some (first_out_of_order t.deadlines) || nat_lt (length t.deadlines) t.split) (nat_lt (length t.deadlines) t.locked) terms.right).1

  -- Whatever was taken, the season's own record stays.
  kept_season : (some : Rows) → Each IsSpelled some → told_in (with_rows (begun t) some) slot.Season ≡ Some (item.Season t.profile t.split 0 t.deadlines)
  kept_season some each = season_after some (begun t) each

  kept_deadlines : (some : Rows) → Each IsSpelled some → (with_rows (begun t) some).calendar.deadlines ≡ t.deadlines
  kept_deadlines some each = ap deadlines_in (kept_season some each)

  module _ (up : KeysRise rows) (lawful : judged rows ≡ None) where
    each_sound : Each (IsSound rows) rows
    each_sound = sounds rows up lawful

    spelled : Each IsSpelled rows
    spelled = all_spelled rows rows each_sound

    pub none_locked : (with_rows (begun t) rows).calendar.locked ≡ 0
    none_locked = ap locked_in (kept_season rows spelled)

    pub locked_within : t.locked ≤ length (with_rows (begun t) rows).calendar.deadlines
    locked_within = subst (λ ds. t.locked ≤ length ds) (sym (kept_deadlines rows spelled)) locked_within_these

    -- Each fixture's gameweek is there.
    place_fits : (g : Option ℕ) → misses_place (map_of rows) g ≡ false → IfSome g (λ g. g ≤ length t.deadlines)
    place_fits None right = tt
    place_fits (Some g) right =
        let within : nat_le g (length (deadlines_told (map_of rows))) ≡ true
        = (and_parts (nat_le 1 g) (nat_le g (length (deadlines_told (map_of rows)))) (not-false (has_gameweek (map_of rows) g) right)).1 in
        leb-true g (length t.deadlines) (sym (ap (λ o. nat_le g (length (deadlines_in o))) terms.there) ∙ within)

    module _ (n : ℕ) (row : Row) (lt : n < length rows) (is : row ≡ get_or rows n row) where
      item_fits : (i : Item) → row.0 ≡ key_of_item i → is_in_range i ≡ true → rules_broken rows i ≡ false → Fits (with_rows (begun t) (take n rows)) i
      item_fits (item.Player p position club price gone name) own in_range right =
          player_fits rows up (rise_of rows up) spelled (begun t) n row lt is p position club price gone name own refl refl right
      item_fits (item.Fixture f home away g kickoff finished) own in_range right =
          let six = or_parts _ _ right in
          let five = or_parts _ _ six.0 in
          let four = or_parts _ _ five.0 in
          let three = or_parts _ _ four.0 in
          let same = kept_deadlines (take n rows) (each_taken IsSpelled rows n spelled) in (
            subst (λ ds. IfSome g (λ g. g ≤ length ds)) (sym same) (place_fits g (or_parts _ _ three.0).1),
            fixture_fits rows up (rise_of rows up) spelled (begun t) n row lt is f home away g kickoff finished own refl (λ g. refl) refl
                (same ∙ sym (ap deadlines_in terms.there)) right,
          )
      item_fits (item.Line f p line) own in_range right =
          line_fits rows up (rise_of rows up) spelled (begun t) n row lt is f p line own refl in_range right
      item_fits i own in_range right = tt

    pub fits : RowsFit (begun t) rows
    fits n row lt is =
        let s = sound_at rows rows n row each_sound lt is in
        subst (FitsSpelled (with_rows (begun t) (take n rows))) (sym s.is) (item_fits n row lt is s.item (own_key row.0 row.1 s.item s.is) s.in_range s.right)

    -- The facts are whole.

    abbrev pub has : Slot → Bool
    has s = is_there (map_of rows) s

    some_from : {A B : Type 0} (f : A → Option B) (o : Option A) (y : B) → option_and_then f o ≡ Some y → is_some o ≡ true
    some_from f None y e = absurd (none-some y e)
    some_from f (Some x) y e = refl

    suits : (i : Item) → told (map_of rows) (slot_of_item i) ≡ Some i → is_in_range i ≡ true → rules_broken rows i ≡ false → HasIds (slot_of_item i) → Suits has i
    suits (item.Player p position club price gone name) at in_range right ids = ids
    suits (item.Fixture f home away g kickoff finished) at in_range right ids = (ids, some_from (item_of (key_of (slot.Fixture f))) (map_of rows (key_of (slot.Fixture f))) _ at)
    suits (item.Line f p line) at in_range right ids =
        let three = or_parts _ _ right in
        let two = or_parts _ _ three.0 in
        let named = or_parts _ _ two.0 in
        (ranged_line line (none_is (line_range line) in_range), not-false (has (slot.Fixture f)) named.0, not-false (has (slot.Player p)) named.1)
    suits i at in_range right ids = tt

    each_suits : (some : Rows) → Each (IsSound rows) some → Each (DoesSuit has) some
    each_suits [] each = tt
    each_suits (row ∷ some) each =
        let s = each.0 in
        (record { item = s.item; is = s.is; suits = suits s.item s.there s.in_range s.right s.ids }, each_suits some each.1)

    whole : AreWhole has (with_rows (begun t) rows)
    whole = whole_rows has rows (begun t) (whole_begun has t.profile t.deadlines t.split) (each_suits rows each_sound)

    -- They tell what the records tell.

    or_nothing : (o : Option Item) → option_or o None ≡ o
    or_nothing None = refl
    or_nothing (Some i) = refl

    tells : (s : Slot) → is_of_facts s ≡ true → told_in (begun t) s ≡ None → told_in (with_rows (begun t) rows) s ≡ told (map_of rows) s
    tells s of none = told_after s of rows (begun t) (rise_of rows up) spelled ∙ (ap (option_or (told (map_of rows) s)) none ∙ or_nothing (told (map_of rows) s))

    abbrev relocked : Option Item → Option Item
    relocked (Some (item.Season profile split old deadlines)) = Some (item.Season profile split t.locked deadlines)
    relocked o = o

    pub tells_facts : TellsFacts (map_of rows) (with_locked (with_rows (begun t) rows) t.locked)
    tells_facts = record {
      season = ap relocked (kept_season rows spelled) ∙ sym terms.there;
      clubs = λ c. tells (slot.Club c) refl refl;
      players = λ p. tells (slot.Player p) refl refl;
      fixtures = λ f. tells (slot.Fixture f) refl refl;
      lines = λ f p. tells (slot.Line f p) refl refl;
    }

    mapped : {X : Type 0} (f : X → Item) (o : Option X) → is_some (option_map f o) ≡ true → is_some o ≡ true
    mapped f None e = e
    mapped f (Some x) e = refl

    players_there : (p : ℕ) → has (slot.Player p) ≡ true → has_player (with_rows (begun t) rows) p ≡ true
    players_there p there =
        mapped _ (player_of (with_rows (begun t) rows).players p) (ap is_some (tells (slot.Player p) refl refl) ∙ told_there rows (slot.Player p) spelled there)

    pub kept_facts : AreFacts (with_locked (with_rows (begun t) rows) t.locked)
    kept_facts = facts_whole has (with_rows (begun t) rows) t.locked whole players_there

    fixtures_there : (f : ℕ) → has (slot.Fixture f) ≡ true → has_fixture (with_rows (begun t) rows) f ≡ true
    fixtures_there f there =
        mapped _ (fixture_of (with_rows (begun t) rows).calendar f) (ap is_some (tells (slot.Fixture f) refl refl) ∙ told_there rows (slot.Fixture f) spelled there)

    pub in_order_facts : AreInOrder (with_locked (with_rows (begun t) rows) t.locked)
    in_order_facts = order_whole has (with_rows (begun t) rows) t.locked whole fixtures_there
