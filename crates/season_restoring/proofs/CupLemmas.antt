-- The records of cups, one by one.
use Rattle.std.proofs.Common.{◌≡◌, ◌≤◌, ◌<◌, ◌+◌, ◌-◌, ◌∙◌, ◌⊎◌, ℕ, Bool, true, false, not, ◌&&◌, ◌==◌, cond, List, [], ◌∷◌, ◌++◌, length, get_or, nat_le, take, Option, Some, None, refl, sym, ap, subst, inl, inr, arith}
use Rattle.std.specs.Int.{w16, w32}
use Rattle.std.specs.Prelude.{slice_get}
use Rattle.std.specs.Option.{is_some, option_and_then, option_map}
use Rattle.std.proofs.lemmas.Bool.{cases_eq, eqb-true, leb-false, not-false, or_parts}
use Rattle.std.proofs.lemmas.Bool.Decides.{nat_tests}
use Rattle.std.proofs.lemmas.List.{get_or_default}
use Rattle.leagues_and_cups.specs.Shapes.{HasShape}
use Rattle.leagues_and_cups.proofs.CupTests.{is_cup-Decides}
use Rattle.leagues_and_cups.proofs.RoundFacts.{shape_of_cup}
use Rattle.fpl_base.specs.Keeping.{KeysRise, Map, applied_one, is_same_key, map_of, precedes}
use Rattle.fpl_base.specs.declared.records.Op.TheVariants.{Put}
use Rattle.fpl_base.specs.declared.records.RecordKey.{RecordKey as Key}
use Rattle.record_fields.specs.FieldReading.{byte_in}
use Rattle.record_fields.specs.Ranges.{is_id}
use Rattle.record_fields.specs.Reading.{◌then◌, both_at, byte_at, counted, many_at, number_at, whole_of}
use Rattle.season_records.specs.ItemReading.{cup_in, item_in, item_of}
use Rattle.season_records.specs.Keys.{key, key_of}
use Rattle.season_records.specs.declared.item.Item.{Item}
use Rattle.season_records.specs.declared.item.Item.TheVariants as item
use Rattle.season_records.specs.declared.slot.Slot.{Slot}
use Rattle.season_records.specs.declared.slot.Slot.TheVariants as slot
use Rattle.rule_book.specs.CupCalls.{most_cups}
use Rattle.rule_book.specs.Cups.{is_cup}
use Rattle.rule_book.specs.Entries.{entry_in}
use Rattle.rule_book.specs.declared.cup.Bracket.{Bracket}
use Rattle.stored_records.specs.SeasonRules.{is_full}
use Rattle.stored_records.specs.Stored.{Rows, between, deadlines_told, is_within, told}
use Rattle.store_validation.specs.Lawful.{judged, rules_broken}
use Rattle.store_validation.specs.LeagueRules.{cup_breaks, has_gap}
use Rattle.season_records.specs.Records.{cup_item}
use Rattle.season_restoring.specs.CupRows.{IsCupRow, TellsCups}
use Rattle.season_restoring.specs.Kinds.{is_of_kind}
use Rattle.season_restoring.proofs.Gapless.{AreGapless, numbered, stand_before}
use Rattle.season_restoring.proofs.KeptRows.{kept_by, map_kept, map_more, rise_kept, row_found, row_kept}
use Rattle.season_restoring.proofs.LawfulRows.{from_one, if_true, lawful_row, of_reader}
use Rattle.season_restoring.proofs.Numbering.{after_gap, entry_more, entry_other}

of_kind_11 : (s : Slot) → (key_of s).kind ≡ 11 → (c : ℕ) × (s ≡ slot.Cup c)
of_kind_11 slot.Season e = absurd (omega (arith, e))
of_kind_11 (slot.Club c) e = absurd (omega (arith, e))
of_kind_11 (slot.Player p) e = absurd (omega (arith, e))
of_kind_11 (slot.Fixture f) e = absurd (omega (arith, e))
of_kind_11 (slot.Line f p) e = absurd (omega (arith, e))
of_kind_11 (slot.Entry n) e = absurd (omega (arith, e))
of_kind_11 (slot.Team n g) e = absurd (omega (arith, e))
of_kind_11 (slot.Transfer n g m) e = absurd (omega (arith, e))
of_kind_11 (slot.League l) e = absurd (omega (arith, e))
of_kind_11 (slot.Member l n) e = absurd (omega (arith, e))
of_kind_11 (slot.Cup c) e = (c, refl)
of_kind_11 (slot.Last c) e = absurd (omega (arith, e))

record HasCup (c : ℕ) (i : Item) : Type 0 where
  cup : Bracket
  is : cup_item c cup ≡ i

cup_of_body : (c : ℕ) (body : List ℕ) (i : Item) → cup_in c body ≡ Some i → HasCup c i
unfolding cup_in
cup_of_body c body i is =
    let made = of_reader {A = ℕ × (List ℕ × List ℕ)} (λ x. item.Cup c x.0 x.1.0 x.1.1) (whole_of (byte_in 1 38 then both_at (counted (number_at w16) (number_at w32)) (λ slots. many_at byte_at (length slots - 1))) body) i is in
    record { cup = record { start = made.0.0; slots = made.0.1.0; coins = made.0.1.1 }; is = made.1 }

-- a lawful record of a cup
record IsLawfulCup (rows : Rows) (k : Key) (body : List ℕ) : Type 0 where
  number : ℕ
  one_up : 1 ≤ number
  row : IsCupRow number k body
  behind : has_gap (map_of rows) number (slot.Cup (number - 1)) ≡ false
  few : is_full rows most_cups (slot.Cup 0) (slot.Cup number) ≡ false

lawful_cup : (rows : Rows) → judged rows ≡ None → (k : Key) (body : List ℕ) → map_of rows k ≡ Some body → k.kind ≡ 11 → IsLawfulCup rows k body
lawful_cup rows lawful k body there kind =
    let row = lawful_row rows lawful k body there in
    let own = of_kind_11 row.of_slot (sym (ap (λ (x : Key). x.kind) row.named) ∙ kind) in
    let read = if_true (is_id own.0) (cup_in own.0 body) row.tells (sym (ap (λ s. item_in s body) own.1) ∙ row.read) in
    let has = cup_of_body own.0 body row.tells read.1 in
    let right : cup_breaks rows own.0 has.cup.start has.cup.slots has.cup.coins ≡ false = ap (rules_broken rows) has.is ∙ row.unbroken in
    let six = or_parts _ _ right in
    let five = six.0 in
    let gap = (or_parts _ _ five).1 in
    let four = (or_parts _ _ five).0 in
    let three = (or_parts _ _ four).0 in
    let played : is_cup has.cup (length (deadlines_told (map_of rows))) ≡ true = not-false _ (or_parts _ _ three).1 in
    record {
      number = own.0;
      one_up = from_one own.0 read.0;
      row = record {
        cup = has.cup;
        key_is = row.named ∙ ap key_of own.1;
        is = row.is ∙ ap Some (sym has.is);
        shape = shape_of_cup has.cup (length (deadlines_told (map_of rows))) ((is_cup-Decides has.cup (length (deadlines_told (map_of rows)))).0 played);
      };
      behind = gap;
      few = six.1;
    }

inside_cups : (n : ℕ) (x : Key) → is_within (key_of (slot.Cup 0)) (key_of (slot.Cup n)) x ≡ true → is_of_kind 11 (x, []) ≡ true
inside_cups n x within = grind (arith, nat_tests, within)

first_cup : (x : Key) → is_of_kind 11 (x, []) ≡ true → precedes x (key_of (slot.Cup 0)) ≡ false
first_cup x kind = grind (arith, nat_tests, kind)

module _ (rows part : Rows) (lawful : judged rows ≡ None) (rise : KeysRise rows) (is : part ≡ kept_by (λ k. is_of_kind 11 (k, [])) rows) where
  at_place : (i : ℕ) (row : Key × List ℕ) → i < length part → row ≡ get_or part i row → IsLawfulCup rows row.0 row.1
  at_place i row lt at =
      let kind = row_kept (λ k. is_of_kind 11 (k, [])) part i row rows is lt at in
      lawful_cup rows lawful row.0 row.1 (row_found (λ k. is_of_kind 11 (k, [])) part i row rows rise is lt at) (eqb-true row.0.kind 11 kind)

  same_map : (c : ℕ) → map_of part (key_of (slot.Cup c)) ≡ map_of rows (key_of (slot.Cup c))
  same_map c = ap (λ l. map_of l (key_of (slot.Cup c))) is ∙ map_kept (λ k. is_of_kind 11 (k, [])) rows (key_of (slot.Cup c)) refl

  gapless : AreGapless 11 part
  gapless = record {
    rise = subst KeysRise (sym is) (rise_kept (λ k. is_of_kind 11 (k, [])) rows rise);
    plain = λ i d lt. let row = of_place i d lt in row.row.key_is ∙ ap (λ n. key 11 n 0 0) (sym (ap (λ (k : Key). k.a) row.row.key_is));
    from_one = λ i d lt. let row = of_place i d lt in subst (λ n. 1 ≤ n) (sym (ap (λ (k : Key). k.a) row.row.key_is)) row.one_up;
    behind = λ i d lt. let row = of_place i d lt in
        subst (λ n. (n ≡ 1) ⊎ (is_some (map_of part (key 11 (n - 1) 0 0)) ≡ true)) (sym (ap (λ (k : Key). k.a) row.row.key_is))
        (after_gap row.number (is_some (map_of part (key 11 (row.number - 1) 0 0))) (ap (λ o. not (row.number == 1) && not (is_some o)) (same_map (row.number - 1)) ∙ row.behind));
  }
    where
      of_place : (i : ℕ) (d : Key × List ℕ) (lt : i < length part) → IsLawfulCup rows (get_or part i d).0 (get_or part i d).1
      of_place i d lt = at_place i (get_or part i d) lt (get_or_default part i d (get_or part i d) lt)

  -- the record at a place tells of the cup that is numbered so
  pub cup_at : (i : ℕ) (row : Key × List ℕ) → i < length part → row ≡ get_or part i row → IsCupRow (i + 1) row.0 row.1
  cup_at i row lt at =
      let own = at_place i row lt at in
      let number : own.number ≡ i + 1 = sym (ap (λ (k : Key). k.a) own.row.key_is) ∙ (ap (λ (x : Key × List ℕ). x.0.a) at ∙ numbered 11 part gapless row i lt) in
      subst (λ n. IsCupRow n row.0 row.1) number own.row

  -- fewer stand before it than there can be
  pub room_at : (i : ℕ) (row : Key × List ℕ) → i < length part → row ≡ get_or part i row → i < most_cups
  room_at i row lt at =
      let own = at_place i row lt at in
      let here : between rows (key_of (slot.Cup 0)) row.0 ≡ i
      = stand_before (λ k. is_of_kind 11 (k, [])) part rows (key_of (slot.Cup 0)) i row rise is lt at
      (λ x within. inside_cups own.number x (sym (ap (λ (k : Key). is_within (key_of (slot.Cup 0)) k x) own.row.key_is) ∙ within)) first_cup in
      leb-false most_cups i (sym (ap (nat_le most_cups) (sym (ap (between rows (key_of (slot.Cup 0))) own.row.key_is) ∙ here)) ∙ own.few)

  pub cups_told : (cups : List Bracket) → TellsCups (map_of part) cups → TellsCups (map_of rows) cups
  cups_told cups tell c = tell c ∙ ap (option_and_then (item_of (key_of (slot.Cup c)))) (same_map c)

-- One cup more.

same_cup : (c q : ℕ) → q ≡ c → is_same_key (key_of (slot.Cup c)) (key_of (slot.Cup q)) ≡ true
same_cup c q same = grind (arith, nat_tests, same)

other_cup : (c q : ℕ) → (q ≡ c → ⊥) → is_same_key (key_of (slot.Cup c)) (key_of (slot.Cup q)) ≡ false
other_cup c q apart = grind (arith, nat_tests, apart)

pub cup_more : (m : Map) (cups : List Bracket) (cup : Bracket) (body : List ℕ) → item_of (key_of (slot.Cup (length cups + 1))) body ≡ Some (cup_item (length cups + 1) cup) → TellsCups m cups
    → TellsCups (applied_one m (Put (key_of (slot.Cup (length cups + 1))) body)) (cups ++ cup ∷ [])
cup_more m cups cup body is tell q = elim (cases_eq q c) [
  | inl same ↦
      let own : told after (slot.Cup c) ≡ Some (cup_item c cup) = ap (λ (b : Bool). option_and_then (item_of (key_of (slot.Cup c))) (cond b (Some body) (m (key_of (slot.Cup c))))) (same_cup c c refl) ∙ is in
      subst (λ n. option_map (cup_item n) (entry_in new n) ≡ told after (slot.Cup n)) (sym same) (ap (option_map (cup_item c)) (entry_more cups cup) ∙ sym own)
  | inr apart ↦
      let as_before : told after (slot.Cup q) ≡ told m (slot.Cup q) = ap (λ (b : Bool). option_and_then (item_of (key_of (slot.Cup q))) (cond b (Some body) (m (key_of (slot.Cup q))))) (other_cup c q apart) in
      ap (option_map (cup_item q)) (entry_other cups cup q apart) ∙ (tell q ∙ sym as_before)
]
  where
    c : ℕ
    c = length cups + 1

    after : Map
    after = applied_one m (Put (key_of (slot.Cup c)) body)

    new : List Bracket
    new = cups ++ cup ∷ []

-- What is added is what the record tells.

module _ (c start c2 start2 : ℕ) (slots coins slots2 coins2 : List ℕ) (e : Some (item.Cup c start slots coins) ≡ Some (item.Cup c2 start2 slots2 coins2)) where
  start_same : start ≡ start2
  start_same = cc

  slots_same : slots ≡ slots2
  slots_same = cc

  coins_same : coins ≡ coins2
  coins_same = cc

module _ (number : ℕ) (k : Key) (body : List ℕ) (row : IsCupRow number k body) (read : Option Item) (is : read ≡ item_of k body) (c start : ℕ) (slots coins : List ℕ) (at : read ≡ Some (item.Cup c start slots coins)) (b : Bracket) (b_start : b.start ≡ start) (b_slots : b.slots ≡ slots) (b_coins : b.coins ≡ coins) where
  both : Some (item.Cup c start slots coins) ≡ Some (item.Cup number row.cup.start row.cup.slots row.cup.coins)
  both = sym at ∙ (is ∙ row.is)

  of_parts : (x y : Bracket) → x.start ≡ y.start → x.slots ≡ y.slots → x.coins ≡ y.coins → x ≡ y
  of_parts x y p q r = λ i. record { start = p i; slots = q i; coins = r i }

  cup_is : b ≡ row.cup
  cup_is =
      of_parts b row.cup
      (b_start ∙ start_same c start number row.cup.start slots coins row.cup.slots row.cup.coins both)
      (b_slots ∙ slots_same c start number row.cup.start slots coins row.cup.slots row.cup.coins both)
      (b_coins ∙ coins_same c start number row.cup.start slots coins row.cup.slots row.cup.coins both)

  pub shape_so : HasShape b
  shape_so = subst HasShape (sym cup_is) row.shape

  pub cup_put : (m : Map) (cups new : List Bracket) → number ≡ length cups + 1 → new ≡ cups ++ b ∷ [] → TellsCups m cups → TellsCups (applied_one m (Put k body)) new
  cup_put m cups new next put tell =
      let reads : item_of (key_of (slot.Cup number)) body ≡ Some (cup_item number b) = ap (λ x. item_of x body) (sym row.key_is) ∙ (row.is ∙ ap (λ x. Some (cup_item number x)) (sym cup_is)) in
      let more : TellsCups (applied_one m (Put (key_of (slot.Cup (length cups + 1))) body)) (cups ++ b ∷ []) = cup_more m cups b body (subst (λ n. item_of (key_of (slot.Cup n)) body ≡ Some (cup_item n b)) next reads) tell in
      subst (λ l. TellsCups (applied_one m (Put k body)) l) (sym put)
      (subst (λ x. TellsCups (applied_one m (Put x body)) (cups ++ b ∷ [])) (ap (λ n. key_of (slot.Cup n)) (sym next) ∙ sym row.key_is) more)

-- The first cups, and all.

pub no_cups : (cups : List Bracket) → cups ≡ [] → TellsCups (map_of []) cups
no_cups cups none = subst (TellsCups (map_of [])) (sym none) (λ c. ap (option_map (cup_item c)) (none_in c))
  where
    none_in : (c : ℕ) → entry_in {X = Bracket} [] c ≡ None
    none_in c = elim (c == 0) as (λ b. cond b None (slice_get {X = Bracket} [] (c - 1)) ≡ None) [
      | true ↦ refl
      | false ↦ refl
    ]

module _ (rows part : Rows) (rise : KeysRise rows) (is : part ≡ kept_by (λ k. is_of_kind 11 (k, [])) rows) where
  pub one_more : (i : ℕ) (row : Key × List ℕ) (cups : List Bracket) → i < length part → row ≡ get_or part i row → TellsCups (applied_one (map_of (take i part)) (Put row.0 row.1)) cups → TellsCups (map_of (take (i + 1) part)) cups
  one_more i row cups lt at tell =
      let up : KeysRise part = subst KeysRise (sym is) (rise_kept (λ k. is_of_kind 11 (k, [])) rows rise) in
      subst (λ m. TellsCups m cups) (sym (map_more part i row up lt at)) tell
