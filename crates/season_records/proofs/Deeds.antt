-- The commands of an entry's manager change nothing of what is told but what they touch.
use Rattle.std.proofs.Common.{◌≡◌, ◌<◌, ◌≤◌, ◌+◌, ℕ, zero, suc, Bool, true, false, List, [], ◌∷◌, ◌++◌, Option, Some, None, length, map, nat_lt, arith, refl, sym, ap, subst, ◌∙◌, inl, inr, if◌then◌else◌}
use Rattle.std.specs.Prelude.{Err}
use Rattle.std.specs.List.{flat_map, range_with_len}
use Rattle.std.specs.Option.{option_map, option_and_then, option_map_or}
use Rattle.std.proofs.lemmas.Bool.{cases_eq}
use Rattle.std.proofs.lemmas.Bool.Decides.{nat_tests}
use Rattle.std.proofs.lemmas.List.{length-map}
use Rattle.std.proofs.lemmas.Option.{cond_some, none-some, same_Some}
use Rattle.fpl_base.specs.declared.kinds.Caller.{Caller}
use Rattle.fpl_base.specs.declared.rule.Rule.{Rule}
use Rattle.fpl_base.specs.declared.rule.Rule.TheVariants as rule
use Rattle.rule_book.specs.declared.transfers.Sale.{Sale}
use Rattle.rule_book.specs.Batch.{sale_of, sales_of}
use Rattle.rule_book.specs.Calendar.{CalendarFacts, next_gameweek}
use Rattle.rule_book.specs.Entries.{changed_in, entry_in}
use Rattle.rule_book.specs.EntryCalls.{in_next}
use Rattle.rule_book.specs.EntryRecords.{sold_by, sold_in}
use Rattle.rule_book.specs.History.{Deed, Event, in_gameweek}
use Rattle.rule_book.specs.History.Deed.{Swap as Swapped}
use Rattle.rule_book.specs.HistoryRules.{NoneAfter, is_started}
use Rattle.rule_book.specs.PlayerFigures.{position_in}
use Rattle.rule_book.specs.Refusals.{first_broken, unless}
use Rattle.rule_book.specs.TeamOfHistory.{team_of}
use Rattle.rule_book.specs.UpTo.{start_of}
use Rattle.rule_book.proofs.UpToFacts.{start_stays}
use Rattle.season_book.specs.Book.{Book, EntryFacts, Facts, caller_number, histories_with}
use Rattle.season_book.specs.Commands.{part_of}
use Rattle.season_book.specs.EntryCommands.{deed_refusal, deeds_in, history_after, names_players, refused_in}
use Rattle.season_book.specs.EntryViews.{gameweek_seen}
use Rattle.season_book.specs.LeagueViews.{history_of}
use Rattle.season_book.specs.Verdict.{in_season, ruled_for, ruled_of, unless_broken, with_history}
use Rattle.season_book.specs.declared.answer.Answer.TheVariants as answer
use Rattle.season_book.specs.declared.command.Command.{Command}
use Rattle.season_book.specs.declared.command.Command.TheVariants as command
use Rattle.season_book.specs.declared.made.Made.TheVariants as made
use Rattle.season_book.specs.declared.part.Part.TheVariants as part
use Rattle.season_records.specs.Keys.{key_of}
use Rattle.season_records.specs.declared.item.Item.TheVariants as item
use Rattle.season_records.specs.declared.slot.Slot.{Slot}
use Rattle.season_records.specs.declared.slot.Slot.TheVariants as slot
use Rattle.season_records.specs.Keeping.{IsEarly}
use Rattle.season_records.specs.Records.{entry_item, team_told, transfer_told}
use Rattle.season_records.specs.Touched.{gameweek_of, touched_by}
use Rattle.season_records.proofs.BookFacts.{Keeps, Leaves}
use Rattle.season_records.proofs.Finds.{numbered_changed, numbered_here}
use Rattle.season_records.proofs.Histories.{team_stays, transfers_grow, transfers_stay}
use Rattle.season_records.proofs.Puts.{touches}

-- the entry of a number, with another history
abbrev pub with : List Event → EntryFacts → EntryFacts
with h entry = record entry { history = h }

one_changed : (entries : List EntryFacts) (e : ℕ) (h : List Event) → histories_with entries e h ≡ changed_in (with h) entries e
one_changed [] e h = refl
one_changed (entry ∷ entries) zero h = refl
one_changed (entry ∷ entries) (suc zero) h = refl
one_changed (entry ∷ entries) (suc (suc e)) h = ap (λ more. entry ∷ more) (one_changed entries (suc e) h)

pub one_here : (entries : List EntryFacts) (e : ℕ) (h : List Event) (entry : EntryFacts) → entry_in entries e ≡ Some entry
    → entry_in (histories_with entries e h) e ≡ Some (with h entry)
one_here entries e h entry at = ap (λ entries. entry_in entries e) (one_changed entries e h) ∙ numbered_here (with h) entries e entry at

-- what is told of an entry stays where it is told of its new history
pub entry_kept : {Y : Type 0} (look : Option EntryFacts → Y) (entries : List EntryFacts) (e q : ℕ) (h : List Event) (entry : EntryFacts) → entry_in entries e ≡ Some entry
    → (q ≡ e → look (Some entry) ≡ look (Some (with h entry))) → look (entry_in entries q) ≡ look (entry_in (histories_with entries e h) q)
entry_kept look entries e q h entry at same =
    numbered_changed look (with h) entries e q (λ is x found.
    subst (λ y. look (Some y) ≡ look (Some (with h y))) (same_Some entry x (sym at ∙ found)) (same is))
    ∙ ap (λ entries. look (entry_in entries q)) (sym (one_changed entries e h))

-- what a history and a longer one tell alike, but for these slots of entry e
pub record TellAlike (slots : List Slot) (e : ℕ) (h after : List Event) : Type 0 where
  pub start : (q : ℕ) → q ≡ e → touches slots (key_of (slot.Entry q)) ≡ false → start_of h ≡ start_of after
  pub team : (q w : ℕ) → q ≡ e → touches slots (key_of (slot.Team q w)) ≡ false → team_told q w h ≡ team_told q w after
  pub transfer : (q w n : ℕ) → q ≡ e → touches slots (key_of (slot.Transfer q w n)) ≡ false → transfer_told q w n h ≡ transfer_told q w n after

history_keeps : (slots : List Slot) (book : Book) (e : ℕ) (entry : EntryFacts) (after : List Event) → entry_in book.entries e ≡ Some entry
    → TellAlike slots e entry.history after → Keeps slots book (with_history book e after)
history_keeps slots book e entry after at alike (slot.Entry q) apart =
    entry_kept (option_map (entry_item q)) book.entries e q after entry at (λ is. ap (λ start. Some (item.Entry q start entry.key entry.name)) (alike.start q is apart))
history_keeps slots book e entry after at alike (slot.Team q w) apart =
    entry_kept (option_and_then (λ entry. team_told q w entry.history)) book.entries e q after entry at (λ is. alike.team q w is apart)
history_keeps slots book e entry after at alike (slot.Transfer q w n) apart =
    entry_kept (option_and_then (λ entry. transfer_told q w n entry.history)) book.entries e q after entry at (λ is. alike.transfer q w n is apart)
history_keeps slots book e entry after at alike s apart = refl

-- The deeds of each command.

module _ (e g : ℕ) (h : List Event) (early : NoneAfter g h) (ds : List Deed) where
  abbrev after : List Event
  after = h ++ in_gameweek g ds

  team_alike : (more : List Slot) (q w : ℕ) → q ≡ e → touches (slot.Team e g ∷ more) (key_of (slot.Team q w)) ≡ false → team_told q w h ≡ team_told q w after
  team_alike more q w is apart = team_stays q g w h ds early (λ same. grind (arith, nat_tests, apart, is, same))

  no_transfers : length (flat_map sold_by ds) ≡ 0 → (q w n : ℕ) → transfer_told q w n h ≡ transfer_told q w n after
  no_transfers none q w n = elim (cases_eq w g) [
    | inl here ↦ subst (λ w. transfer_told q w n h ≡ transfer_told q w n after) (sym here) (transfers_grow q g h ds n (λ lt le. omega (arith, none, lt, le)))
    | inr other ↦ transfers_stay q g h ds w n other
  ]

  -- a first squad
  squad_alike : length (flat_map sold_by ds) ≡ 0 → TellAlike (slot.Entry e ∷ slot.Team e g ∷ []) e h after
  squad_alike none = record {
    start = λ q is apart. absurd (grind (arith, nat_tests, apart, is));
    team = λ q w is apart. team_alike [] q w is apart;
    transfer = λ q w n is apart. no_transfers none q w n;
  }

  -- deeds of a registered entry that make no transfer
  pub order_alike : is_started h ≡ true → length (flat_map sold_by ds) ≡ 0 → TellAlike (slot.Team e g ∷ []) e h after
  order_alike started none = record {
    start = λ q is apart. start_stays h (in_gameweek g ds) started;
    team = λ q w is apart. team_alike [] q w is apart;
    transfer = λ q w n is apart. no_transfers none q w n;
  }

  -- transfers
  new_ones : (a count q n : ℕ) → q ≡ e → a ≤ n → n < a + count → touches (map (slot.Transfer e g) (range_with_len a count)) (key_of (slot.Transfer q g n)) ≡ true
  new_ones a zero q n is ge lt = absurd (omega (arith, ge, lt))
  new_ones a (suc count) q n is ge lt = elim (cases_eq n a) [
    | inl first ↦ grind (arith, nat_tests, is, first)
    | inr other ↦ let more = new_ones (a + 1) count q n is (omega (arith, ge, other)) (omega (arith, lt)) in grind (arith, nat_tests, more)
  ]

  transfers_alike : (count : ℕ) → is_started h ≡ true → length (flat_map sold_by ds) ≡ count
      → TellAlike (slot.Team e g ∷ map (slot.Transfer e g) (range_with_len (length (sold_in h g) + 1) count)) e h after
  transfers_alike count started many = record {
    start = λ q is apart. start_stays h (in_gameweek g ds) started;
    team = λ q w is apart. team_alike (map (slot.Transfer e g) (range_with_len (length (sold_in h g) + 1) count)) q w is apart;
    transfer = λ q w n is apart. elim (cases_eq w g) [
      | inl here ↦ new_stay q w n is here apart
      | inr other ↦ transfers_stay q g h ds w n other
    ];
  }
    where
      new_stay : (q w n : ℕ) → q ≡ e → w ≡ g
          → touches (map (slot.Transfer e g) (range_with_len (length (sold_in h g) + 1) count)) (key_of (slot.Transfer q w n)) ≡ false
          → transfer_told q w n h ≡ transfer_told q w n after
      new_stay q w n is here apart =
          subst (λ w. touches (map (slot.Transfer e g) (range_with_len (length (sold_in h g) + 1) count)) (key_of (slot.Transfer q w n)) ≡ false → transfer_told q w n h ≡ transfer_told q w n after)
          (sym here)
          (λ apart. transfers_grow q g h ds n (λ lt le. let new = new_ones (length (sold_in h g) + 1) count q n is (omega (arith, lt)) (omega (arith, le, many)) in grind (arith, nat_tests, new, apart)))
          apart

-- What refuses nothing.

holds : (test : Bool) (rule : Rule) (more : List (Option Rule)) → first_broken (unless test rule ∷ more) ≡ None → test ≡ true
holds true rule more unbroken = refl
holds false rule more unbroken = absurd (none-some rule (sym unbroken))

many_sold : (sales : List Sale) → length (flat_map sold_by (map Swapped sales)) ≡ length sales
many_sold [] = refl
many_sold (sale ∷ sales) = ap suc (many_sold sales)

module _ (book : Book) (e : ℕ) (facts : Facts) (early : IsEarly book e) where
  abbrev g : ℕ
  g = gameweek_of book

  abbrev h : List Event
  h = history_of book.entries e

  abbrev Alike : Command → Type 0
  Alike command = TellAlike (touched_by book e command) e h (h ++ in_gameweek g (deeds_in facts h command g))

  deeds_alike : (command : Command) → part_of command ≡ part.Deeds → refused_in facts h command g ≡ None → Alike command
  deeds_alike (command.Squad players captain vice) is unbroken = squad_alike e g h early (deeds_in facts h (command.Squad players captain vice) g) refl
  deeds_alike (command.Transfers swaps) is unbroken =
      transfers_alike e g h early (deeds_in facts h (command.Transfers swaps) g) (length swaps) (holds (is_started h) rule.NotRegistered _ unbroken)
      (many_sold (sales_of facts.players (team_of (position_in facts.players) h g).picks swaps) ∙ length-map swaps (sale_of facts.players (team_of (position_in facts.players) h g).picks))
  deeds_alike (command.Lineup players captain vice) is unbroken =
      order_alike e g h early (deeds_in facts h (command.Lineup players captain vice) g) (holds (is_started h) rule.NotRegistered _ unbroken) refl
  deeds_alike (command.Chip chip) is unbroken =
      order_alike e g h early (deeds_in facts h (command.Chip chip) g) (holds (is_started h) rule.NotRegistered _ unbroken) refl
  deeds_alike command.CancelChip is unbroken =
      order_alike e g h early (deeds_in facts h command.CancelChip g) (holds (is_started h) rule.NotRegistered _ unbroken) refl
  deeds_alike (command.Season a b c d) is unbroken = cc
  deeds_alike (command.Deadline a b) is unbroken = cc
  deeds_alike (command.Player a b c d e) is unbroken = cc
  deeds_alike (command.Price a b) is unbroken = cc
  deeds_alike (command.AmendPlayer a b c) is unbroken = cc
  deeds_alike (command.Club a b) is unbroken = cc
  deeds_alike (command.Gone a b) is unbroken = cc
  deeds_alike (command.Fixture a b c d e) is unbroken = cc
  deeds_alike (command.Move a b c) is unbroken = cc
  deeds_alike (command.AmendFixture a b c) is unbroken = cc
  deeds_alike (command.Sheet a b c) is unbroken = cc
  deeds_alike (command.Line a b c) is unbroken = cc
  deeds_alike (command.Drop a b) is unbroken = cc
  deeds_alike (command.Finished a b) is unbroken = cc
  deeds_alike (command.Key a b) is unbroken = cc
  deeds_alike (command.Rekey a b c) is unbroken = cc
  deeds_alike (command.League a b c d) is unbroken = cc
  deeds_alike (command.Join a b) is unbroken = cc
  deeds_alike (command.Draw a b) is unbroken = cc
  deeds_alike (command.Cup a b c) is unbroken = cc

-- What a manager's command leads to.

pub next_seen : (calendar : CalendarFacts) (g : ℕ) → next_gameweek calendar ≡ Some g → g ≡ gameweek_seen calendar
next_seen calendar g next =
    let both = cond_some (nat_lt calendar.locked (length calendar.deadlines)) (calendar.locked + 1) g next in
    grind (arith, nat_tests, both.0, both.1)

module _ (book : Book) (e : ℕ) (command : Command) (deed : part_of command ≡ part.Deeds) (early : IsEarly book e) where
  abbrev slots : List Slot
  slots = touched_by book e command

  -- in the next gameweek, where nothing refuses it
  in_gameweek_keeps : (facts : Facts) (entry : EntryFacts) → book.facts ≡ Some facts → entry_in book.entries e ≡ Some entry
      → (next : Option ℕ) → next_gameweek facts.calendar ≡ next → in_next next (refused_in facts entry.history command) ≡ None
      → Keeps slots book (with_history book e (entry.history ++ option_map_or (λ g. in_gameweek g (deeds_in facts entry.history command g)) next []))
  in_gameweek_keeps facts entry there at None is unbroken = absurd (none-some rule.SeasonOver (sym unbroken))
  in_gameweek_keeps facts entry there at (Some g) is unbroken =
      let seen : gameweek_of book ≡ g = ap (λ some. option_map_or (λ (facts : Facts). gameweek_seen facts.calendar) some 0) there ∙ sym (next_seen facts.calendar g is) in
      let own : history_of book.entries e ≡ entry.history = ap (λ o. option_map_or (λ (entry : EntryFacts). entry.history) o []) at in
      let alike : (h : List Event) (g : ℕ) → history_of book.entries e ≡ h → gameweek_of book ≡ g → refused_in facts h command g ≡ None
      → TellAlike slots e h (h ++ in_gameweek g (deeds_in facts h command g)) =
      λ h g own seen. subst (λ h. refused_in facts h command g ≡ None → TellAlike slots e h (h ++ in_gameweek g (deeds_in facts h command g))) own
      (subst (λ g. refused_in facts (history_of book.entries e) command g ≡ None → TellAlike slots e (history_of book.entries e) (history_of book.entries e ++ in_gameweek g (deeds_in facts (history_of book.entries e) command g))) seen
      (deeds_alike book e facts early command deed)) in
      history_keeps slots book e entry (entry.history ++ in_gameweek g (deeds_in facts entry.history command g)) at (alike entry.history g own seen unbroken)

  named_leaves : (facts : Facts) (entry : EntryFacts) (named : Bool) (broken : Option Rule) → book.facts ≡ Some facts → entry_in book.entries e ≡ Some entry
      → deed_refusal facts entry.history command ≡ broken
      → Leaves slots book (if named then unless_broken broken (record { made = made.Nothing; book = with_history book e (history_after facts entry.history command) }) else Err answer.Unknown)
  named_leaves facts entry false broken there at is = tt
  named_leaves facts entry true (Some rule) there at is = tt
  named_leaves facts entry true None there at is = in_gameweek_keeps facts entry there at (next_gameweek facts.calendar) refl is

  of_entry : (facts : Facts) (entry : Option EntryFacts) → book.facts ≡ Some facts → entry_in book.entries e ≡ entry → Leaves slots book (ruled_of book facts e command entry)
  of_entry facts None there at = tt
  of_entry facts (Some entry) there at = named_leaves facts entry (names_players facts command) (deed_refusal facts entry.history command) there at refl

  in_facts : (some : Option Facts) → book.facts ≡ some → Leaves slots book (in_season some (λ facts. ruled_of book facts e command (entry_in book.entries e)))
  in_facts None there = tt
  in_facts (Some facts) there = of_entry facts (entry_in book.entries e) there refl

pub deeds_leave : (book : Book) (caller : Caller) (command : Command) → part_of command ≡ part.Deeds → IsEarly book (caller_number caller)
    → Leaves (touched_by book (caller_number caller) command) book (ruled_for book caller command)
deeds_leave book caller command deed early = in_facts book (caller_number caller) command deed early book.facts refl
