-- The records of last commands, one by one.
use Rattle.std.proofs.Common.{◌≡◌, ◌∙◌, ℕ, Bool, true, false, ◌==◌, cond, List, [], ◌∷◌, Some, None, refl, sym, ap, subst, inl, inr, arith}
use Rattle.std.specs.Int.{w16, w32, w64}
use Rattle.std.specs.Option.{option_and_then, option_map}
use Rattle.std.proofs.lemmas.Bool.{and_parts, cases_eq, eqb-true, not-false, or_parts}
use Rattle.std.proofs.lemmas.Bool.Decides.{nat_tests}
use Rattle.fpl_base.specs.Keeping.{Map, applied_one, is_same_key, map_of}
use Rattle.fpl_base.specs.declared.records.Op.TheVariants.{Put}
use Rattle.fpl_base.specs.declared.records.RecordKey.{RecordKey as Key}
use Rattle.record_fields.specs.Reading.{◌then◌, number_at, whole_of}
use Rattle.season_records.specs.CommandReading.{command_at}
use Rattle.season_records.specs.ItemReading.{item_in, item_of, last_in}
use Rattle.season_records.specs.Items.{is_item}
use Rattle.season_records.specs.Keys.{key_of}
use Rattle.season_records.specs.declared.item.Item.{Item}
use Rattle.season_records.specs.declared.item.Item.TheVariants as item
use Rattle.season_records.specs.declared.slot.Slot.{Slot}
use Rattle.season_records.specs.declared.slot.Slot.TheVariants as slot
use Rattle.rule_book.proofs.AtId.{one_other, one_same, placed_other, placed_same}
use Rattle.rule_book.specs.ById.{at_id, placed_at}
use Rattle.season_book.specs.Book.{Last}
use Rattle.season_book.specs.declared.command.Command.{Command}
use Rattle.season_book.specs.declared.command.Command.TheVariants as command
use Rattle.stored_records.specs.Stored.{Rows, is_there, told}
use Rattle.store_validation.specs.Lawful.{judged, rules_broken}
use Rattle.store_validation.specs.LeagueRules.{is_answer, last_breaks}
use Rattle.season_records.proofs.Orders.{put_sorted}
use Rattle.season_records.specs.Records.{last_item, made_id, status_of}
use Rattle.season_records.specs.Told.{made_by}
use Rattle.season_restoring.specs.LastCommands.{AreLasts, CanMake, IsLast, IsLastRow}
use Rattle.season_restoring.proofs.CommandsRead.{can_be_read}
use Rattle.season_restoring.proofs.LawfulRows.{cup_from_one, entry_from_one, lawful_row, league_from_one, of_reader}

-- What a lawful record of a last command tells.

of_kind_12 : (s : Slot) → (key_of s).kind ≡ 12 → (c : ℕ) × (s ≡ slot.Last c)
of_kind_12 slot.Season e = absurd (omega (arith, e))
of_kind_12 (slot.Club c) e = absurd (omega (arith, e))
of_kind_12 (slot.Player p) e = absurd (omega (arith, e))
of_kind_12 (slot.Fixture f) e = absurd (omega (arith, e))
of_kind_12 (slot.Line f p) e = absurd (omega (arith, e))
of_kind_12 (slot.Entry n) e = absurd (omega (arith, e))
of_kind_12 (slot.Team n g) e = absurd (omega (arith, e))
of_kind_12 (slot.Transfer n g m) e = absurd (omega (arith, e))
of_kind_12 (slot.League l) e = absurd (omega (arith, e))
of_kind_12 (slot.Member l n) e = absurd (omega (arith, e))
of_kind_12 (slot.Cup c) e = absurd (omega (arith, e))
of_kind_12 (slot.Last c) e = (c, refl)

record HasLast (c : ℕ) (i : Item) : Type 0 where
  number : ℕ
  status : ℕ
  made : ℕ
  command : Command
  is : item.Last c number status made command ≡ i
  can : is_item i ≡ true

last_of_body : (c : ℕ) (body : List ℕ) (i : Item) → last_in c body ≡ Some i → HasLast c i
unfolding last_in
last_of_body c body i is =
    let made = of_reader {A = ℕ × (ℕ × (ℕ × Command))} (λ x. item.Last c x.0 x.1.0 x.1.1.0 x.1.1.1) (whole_of (number_at w64 then number_at w16 then number_at w32 then command_at) body) i is in
    record { number = made.0.0; status = made.0.1.0; made = made.0.1.1.0; command = made.0.1.1.1; is = made.1; can = made.2 }

answered : (rows : Rows) → judged rows ≡ None → (status made : ℕ) (c : Command) → is_answer (map_of rows) status made c ≡ true
    → CanMake c made × (status_of (made_by c made) ≡ status) × (made_id (made_by c made) ≡ made)
answered rows lawful status made (command.Key key name) e =
    let parts = and_parts (status == 201) (is_there (map_of rows) (slot.Entry made)) e in
    (entry_from_one rows lawful made parts.1, sym (eqb-true status 201 parts.0), refl)
answered rows lawful status made (command.League kind name code start) e =
    let parts = and_parts (status == 201) (is_there (map_of rows) (slot.League made)) e in
    (league_from_one rows lawful made parts.1, sym (eqb-true status 201 parts.0), refl)
answered rows lawful status made (command.Cup start slots coins) e =
    let parts = and_parts (status == 201) (is_there (map_of rows) (slot.Cup made)) e in
    (cup_from_one rows lawful made parts.1, sym (eqb-true status 201 parts.0), refl)
answered rows lawful status made other e =
    let parts = and_parts (status == 200) (made == 0) e in
    (tt, sym (eqb-true status 200 parts.0), sym (eqb-true made 0 parts.1))

pub last_row : (rows : Rows) → judged rows ≡ None → (k : Key) (body : List ℕ) → map_of rows k ≡ Some body → k.kind ≡ 12 → IsLastRow k body
last_row rows lawful k body there kind =
    let row = lawful_row rows lawful k body there in
    let own = of_kind_12 row.of_slot (sym (ap (λ (x : Key). x.kind) row.named) ∙ kind) in
    let has = last_of_body own.0 body row.tells (sym (ap (λ s. item_in s body) own.1) ∙ row.read) in
    let right : last_breaks (map_of rows) own.0 has.number has.status has.made has.command ≡ false = ap (rules_broken rows) has.is ∙ row.unbroken in
    let answer : is_answer (map_of rows) has.status has.made has.command ≡ true = not-false _ (or_parts _ _ right).1 in
    let made = answered rows lawful has.status has.made has.command answer in
    record {
      caller = own.0;
      number = has.number;
      status = has.status;
      made = has.made;
      command = has.command;
      key_is = row.named ∙ ap key_of own.1;
      is = row.is ∙ ap Some (sym has.is);
      can = made.0;
      status_is = made.1;
      made_is = made.2;
      read = can_be_read has.command (ap is_item has.is ∙ has.can);
    }

-- One last command more.

same_caller : (c q : ℕ) → q ≡ c → is_same_key (key_of (slot.Last c)) (key_of (slot.Last q)) ≡ true
same_caller c q same = grind (arith, nat_tests, same)

other_caller : (c q : ℕ) → (q ≡ c → ⊥) → is_same_key (key_of (slot.Last c)) (key_of (slot.Last q)) ≡ false
other_caller c q apart = grind (arith, nat_tests, apart)

module _ (m : Map) (lasts : List (ℕ × Last)) (c : ℕ) (last : Last) (body : List ℕ) (are : AreLasts m lasts) where
  abbrev pub after : Map
  after = applied_one m (Put (key_of (slot.Last c)) body)

  abbrev pub new : List (ℕ × Last)
  new = placed_at lasts c ((c, last) ∷ [])

  here : at_id new c ≡ Some last
  here = placed_same lasts ((c, last) ∷ []) c ∙ one_same c last

  there : (q : ℕ) → (q ≡ c → ⊥) → at_id new q ≡ at_id lasts q
  there q apart = placed_other lasts ((c, last) ∷ []) c q apart (one_other c q last apart)

  told_now : item_of (key_of (slot.Last c)) body ≡ Some (last_item c last) → (q : ℕ) → option_map (last_item q) (at_id new q) ≡ told after (slot.Last q)
  told_now is q = elim (cases_eq q c) [
    | inl same ↦
        let own : told after (slot.Last c) ≡ Some (last_item c last) = ap (λ (b : Bool). option_and_then (item_of (key_of (slot.Last c))) (cond b (Some body) (m (key_of (slot.Last c))))) (same_caller c c refl) ∙ is in
        subst (λ n. option_map (last_item n) (at_id new n) ≡ told after (slot.Last n)) (sym same) (ap (option_map (last_item c)) here ∙ sym own)
    | inr apart ↦
        let as_before : told after (slot.Last q) ≡ told m (slot.Last q) = ap (λ (b : Bool). option_and_then (item_of (key_of (slot.Last q))) (cond b (Some body) (m (key_of (slot.Last q))))) (other_caller c q apart) in
        ap (option_map (last_item q)) (there q apart) ∙ (are.told q ∙ sym as_before)
  ]

  each_now : IsLast last → (q : ℕ) (x : Last) → at_id new q ≡ Some x → IsLast x
  each_now is q x found = elim (cases_eq q c) [
    | inl same ↦
        let one : Some last ≡ Some x = sym here ∙ (ap (at_id new) (sym same) ∙ found) in
        subst IsLast (some_same last x one) is
    | inr apart ↦ are.each q x (sym (there q apart) ∙ found)
  ]
    where
      some_same : (x y : Last) → Some x ≡ Some y → x ≡ y
      some_same x y e = cc

  pub last_more : item_of (key_of (slot.Last c)) body ≡ Some (last_item c last) → IsLast last → AreLasts after new
  last_more is lawful = record { sorted = put_sorted lasts c last are.sorted; told = told_now is; each = each_now lawful }

-- what two maps tell of last commands is the same where they have the same under their keys
pub lasts_alike : (m n : Map) (lasts : List (ℕ × Last)) → ((c : ℕ) → m (key_of (slot.Last c)) ≡ n (key_of (slot.Last c))) → AreLasts m lasts → AreLasts n lasts
lasts_alike m n lasts same are = record {
  sorted = are.sorted;
  told = λ c. are.told c ∙ ap (option_and_then (item_of (key_of (slot.Last c)))) (same c);
  each = are.each;
}
