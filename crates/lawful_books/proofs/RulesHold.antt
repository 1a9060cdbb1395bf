-- What the records of a lawful book tell of entries, leagues, members, cups and last commands breaks no rule.
use Rattle.std.proofs.Common.{◌≡◌, ◌<◌, ◌≤◌, ◌+◌, ◌-◌, ◌==◌, ◌&&◌, ℕ, Bool, true, false, not, cond, List, [], ◌∷◌, Option, Some, None, length, nat_le, get_or, slice_get, arith, refl, sym, ap, subst, ◌∙◌, ◌⊎◌, inl, inr, if◌then◌else◌}
use Rattle.std.specs.Prelude.{is_some}
use Rattle.std.specs.List.{count_by, list_all, list_any, range_with_len}
use Rattle.std.specs.Option.{option_and_then, option_map, option_map_or}
use Rattle.std.proofs.lemmas.Bool.{and_from, and_left, and_parts, and_right, false_from_ne_true, le-leb, not-false, or_from, true≢false}
use Rattle.std.proofs.lemmas.Bool.Decides.{nat_tests}
use Rattle.std.proofs.lemmas.List.Folds.{list_any_none}
use Rattle.std.proofs.lemmas.Option.{none-some, same_Some}
use Rattle.fpl_base.specs.declared.records.RecordKey.{RecordKey as Key}
use Rattle.fpl_base.specs.Keeping.{KeysRise, Map, map_of}
use Rattle.rule_book.specs.declared.cup.Bracket.{Bracket}
use Rattle.rule_book.specs.ById.{at_id}
use Rattle.rule_book.specs.CupCalls.{entrants, most_cups}
use Rattle.rule_book.specs.Cups.{is_cup}
use Rattle.rule_book.specs.Entries.{entry_in, most_entries}
use Rattle.rule_book.specs.HeadToHead.{is_draw}
use Rattle.rule_book.specs.LeagueCalls.{is_drawn, is_head, is_member, most_leagues, most_leagues_of_one, most_members}
use Rattle.rule_book.specs.Leagues.{LeagueFacts}
use Rattle.season_book.specs.Book.{Book, EntryFacts, Facts, Last}
use Rattle.season_book.specs.LeagueCommands.{is_issued, is_registered}
use Rattle.season_book.specs.declared.command.Command.{Command}
use Rattle.season_book.specs.declared.command.Command.TheVariants as command
use Rattle.season_book.specs.declared.made.Made.{Made}
use Rattle.season_records.specs.ItemReading.{item_of}
use Rattle.season_records.specs.Keys.{key_of}
use Rattle.season_records.specs.declared.item.Item.{Item}
use Rattle.season_records.specs.declared.item.Item.TheVariants as item
use Rattle.season_records.specs.declared.slot.Slot.{Slot}
use Rattle.season_records.specs.declared.slot.Slot.TheVariants as slot
use Rattle.season_records.specs.Records.{cup_item, entry_item, last_item, league_item, made_id, member_told, records, status_of, told}
use Rattle.season_records.specs.Told.{IsInOrder, TellsItems, made_by}
use Rattle.season_records.proofs.Finds.{at_number}
use Rattle.stored_records.specs.SeasonRules.{misses}
use Rattle.stored_records.specs.Stored.{Rows, deadlines_told, has_gameweek, is_there, is_within}
use Rattle.stored_records.proofs.Found.{found_at}
use Rattle.stored_records.proofs.Loops.{count_up}
use Rattle.store_validation.specs.LeagueRules.{has_key, is_answer, is_drawn_wrong, is_league_full, is_registered as is_told_registered, plays_from as plays_told, kind_in, kind_told, leagues_before, members_of}
use Rattle.lawful_books.proofs.Families.{cups_family, entries_family, leagues_family, members_family, none_is_full}
use Rattle.lawful_books.proofs.Telling.{of_record}
use Rattle.lawful_books.specs.Leagues.{AreLawful, IsLawfulCup, IsLawfulLast, IsLawfulLeague, IsMade, gameweeks_of, plays_from}
use Rattle.lawful_books.specs.LeaguesRules.{CupsBreakNone, EntriesAreIssuedRightly, IsIssuedRightly, IsLawfulItem, IssuesBreakNone, LastsBreakNone, LeaguesBreakNone, MembersBreakNone}
use Rattle.lawful_books.proofs.Asked as asked
use Rattle.lawful_books.proofs.Grown.{issued_registered}
use Rattle.lawful_books.proofs.Memberships.{leagues_count}
use Rattle.lawful_books.proofs.MembersTold.{count_numbers, members_same}
use Rattle.lawful_books.proofs.Numbers.{found_from_one, some_mapped}
use Rattle.lawful_books.proofs.Tests.{all_among, none_fails}

-- what is told where something is found
mapped : {X : Type 0} (P : Item → Type 0) (f : X → Item) (o : Option X) (i : Item) → ((x : X) → o ≡ Some x → P (f x)) → option_map f o ≡ Some i → P i
mapped P f None i each told = absurd (none-some i told)
mapped P f (Some x) i each told = subst P (same_Some (f x) i told) (each x refl)

few_enough : (n : ℕ) → n < most_leagues_of_one → nat_le most_leagues_of_one n ≡ false
few_enough n lt = grind (arith, nat_tests, lt)

module _ (book : Book) (facts : Facts) (rows : Rows) (lawful : AreLawful book) (order : IsInOrder book) (items : TellsItems book) (season : book.facts ≡ Some facts)
    (rise : KeysRise rows) (same : map_of rows ≡ records book) where
  abbrev m : Map
  m = map_of rows

  weeks : gameweeks_of book ≡ length facts.calendar.deadlines
  weeks = ap (λ some. option_map_or (λ (facts : Facts). length facts.calendar.deadlines) some 0) season

  season_there : misses m slot.Season ≡ false
  season_there = asked.season_there book facts rows items season rise same

  not_missed : (s : Slot) → is_some (told book s) ≡ true → misses m s ≡ false
  not_missed = asked.not_missed book facts rows items season rise same

  issued_there : (e : ℕ) → is_issued book.entries e ≡ true → misses m (slot.Entry e) ≡ false
  issued_there = asked.issued_there book facts rows items season rise same

  issued_all : (start : ℕ) (es : List ℕ) → list_all (plays_from book.entries start) es ≡ true → list_any (λ e. misses m (slot.Entry e)) es ≡ false
  issued_all = asked.players_issued book facts rows items season rise same

  play_all : (start : ℕ) (es : List ℕ) → list_all (plays_from book.entries start) es ≡ true → list_any (λ e. not (plays_told m start e)) es ≡ false
  play_all = asked.players_play book facts rows items season rise same

  started : (g : ℕ) → 1 ≤ g → g ≤ gameweeks_of book → not (has_gameweek m g) ≡ false
  started g ge le = asked.gameweek_there book facts rows items season rise same g ge (omega (arith, le, weeks))

  -- Leagues.

  module _ (l : ℕ) (league : LeagueFacts) (at : entry_in book.leagues l ≡ Some league) where
    own : IsLawfulLeague book.entries (gameweeks_of book) league
    own = lawful.leagues l league at

    members : members_of rows l ≡ league.members
    members = members_same book rows rise same l league at (order.members l league at)

    member_issued : (e : ℕ) → is_member league e ≡ true → is_issued book.entries e ≡ true
    member_issued e is = issued_registered book.entries e (own.registered e is)

    member_there : (e : ℕ) → is_member league e ≡ true → misses m (slot.Member l e) ≡ false
    member_there e is = not_missed (slot.Member l e) (ap (λ o. is_some (option_and_then (member_told l e) o)) at ∙ by (is_member league e) is)
      where
        by : (b : Bool) → b ≡ true → is_some (if b then Some (item.Member l e) else None) ≡ true
        by true is = refl
        by false is = is

    registered : list_any (λ e. not (is_told_registered m e)) (members_of rows l) ≡ false
    registered =
        ap (list_any (λ e. not (is_told_registered m e))) members
        ∙ none_fails (is_registered book.entries) (is_told_registered m) (λ e is. asked.registered_same book facts rows items season rise same e ∙ is) league.members
        (all_among (is_registered book.entries) league.members own.registered)

    draw_right : is_drawn_wrong league.kind league.order (members_of rows l) ≡ false
    draw_right = ap (is_drawn_wrong league.kind league.order) members ∙ by (is_drawn league) refl
      where
        by : (b : Bool) → is_drawn league ≡ b → is_drawn_wrong league.kind league.order league.members ≡ false
        by true is =
            and_right (is_drawn league) (not (is_head league.kind && is_draw league.order league.members))
            (ap not (and_from (is_head league.kind) (is_draw league.order league.members) (own.drawn is).head (own.drawn is).draw))
        by false is = and_left (is_drawn league) (not (is_head league.kind && is_draw league.order league.members)) is

    play : list_all (plays_from book.entries league.start) league.order ≡ true
    play = by (is_drawn league) refl
      where
        none : (places : List ℕ) → not (length places == 0) ≡ false → list_all (plays_from book.entries league.start) places ≡ true
        none [] is = refl
        none (e ∷ places) is = absurd (let some : (length (e ∷ places) == 0) ≡ false = grind (arith, nat_tests) in true≢false (sym (ap not some) ∙ is))

        by : (b : Bool) → is_drawn league ≡ b → list_all (plays_from book.entries league.start) league.order ≡ true
        by true is = (own.drawn is).play
        by false is = none league.order is

    league_lawful : IsLawfulItem rows (league_item l league)
    league_lawful = record {
      range = le-leb (length league.order) 64 own.places;
      rules =
          or_from _ _ season_there
          (or_from _ _ (or_from _ _ (or_from _ _ (or_from _ _ (or_from _ _ (or_from _ _ (or_from _ _ (or_from _ _
          (started league.start own.from_one own.in_season)
          (issued_there league.creator (member_issued league.creator own.own)))
          (issued_all league.start league.order play))
          (member_there league.creator own.own))
          registered)
          draw_right)
          (play_all league.start league.order play))
          (asked.no_gap book facts rows items season rise same slot.League league_item book.leagues (λ n. refl) l league at))
          (asked.has_room book facts rows items season rise same slot.League league_item book.leagues (λ n. refl) most_leagues leagues_family lawful.few_leagues l league at));
    }

    -- Members.

    module _ (e : ℕ) (is : is_member league e ≡ true) where
      in_few : leagues_before m l e < most_leagues_of_one
      in_few =
          let f : ℕ → Bool = λ n. is_there m (slot.Member n e) in
          let p : LeagueFacts → Bool = λ league. is_member league e in
          let ge : 1 ≤ l = found_from_one book.leagues l league at in
          let back : 1 + (l - 1) ≡ l = omega arith in
          let last : f (1 + (l - 1)) ≡ true = ap f back ∙ not-false (f l) (member_there e is) in
          let all : count_by f (range_with_len 1 l) ≤ count_by p book.leagues = count_numbers p book.leagues f 1 l told_at in
          let step : count_by f (range_with_len 1 (l - 1 + 1)) ≡ count_by f (range_with_len 1 (l - 1)) + cond (f (1 + (l - 1))) 1 0 = count_up f 1 (l - 1) in
          let whole : count_by f (range_with_len 1 (l - 1 + 1)) ≡ count_by f (range_with_len 1 l) = let again : l - 1 + 1 ≡ l = omega arith in ap (λ n. count_by f (range_with_len 1 n)) again in
          let one : cond (f (1 + (l - 1))) 1 0 ≡ 1 = ap (λ b. cond {A = ℕ} b 1 0) last in
          omega (arith, all, step, whole, one, leagues_count 1 book.leagues e, lawful.memberships e)
        where
          told_at : (n : ℕ) → is_there m (slot.Member (1 + n) e) ≡ option_map_or (λ league. is_member league e) (slice_get book.leagues n) false
          told_at n =
              asked.there book facts rows items season rise same (slot.Member (1 + n) e)
              ∙ of_league (1 + n) (entry_in book.leagues (1 + n))
              ∙ ap (λ o. option_map_or (λ league. is_member league e) o false) (ap (entry_in book.leagues) (omega arith) ∙ at_number book.leagues n)
            where
              of_member : (k : ℕ) (b : Bool) → is_some (if b then Some (item.Member k e) else None) ≡ b
              of_member k true = refl
              of_member k false = refl

              of_league : (k : ℕ) (o : Option LeagueFacts) → is_some (option_and_then (member_told k e) o) ≡ option_map_or (λ league. is_member league e) o false
              of_league k None = refl
              of_league k (Some league) = of_member k (is_member league e)

      room_for_member : is_league_full rows l e (kind_told m l) ≡ false
      room_for_member =
          ap (is_league_full rows l e) (ap kind_in (asked.told_same book facts rows items season rise same (slot.League l) ∙ ap (option_map (league_item l)) at))
          ∙ none_is_full book rows (most_members league.kind) (slot.Member l) league.members e (members_family l) rise same
          (λ n i told. among n (sym (ap (λ o. option_and_then (member_told l n) o) at) ∙ told)) is own.few
        where
          among : (n : ℕ) {i : Item} → (if is_member league n then Some (item.Member l n) else None) ≡ Some i → is_member league n ≡ true
          among n {i} told = by (is_member league n) told
            where
              by : (b : Bool) → (if b then Some (item.Member l n) else None) ≡ Some i → b ≡ true
              by true told = refl
              by false told = absurd (none-some i told)

      member_lawful : IsLawfulItem rows (item.Member l e)
      member_lawful = record {
        range = refl;
        rules =
            or_from _ _ season_there
            (or_from _ _ (or_from _ _ (or_from _ _
            (not_missed (slot.League l) (ap (λ o. is_some (option_map (league_item l) o)) at))
            (issued_there e (member_issued e is)))
            (few_enough (leagues_before m l e) in_few))
            room_for_member);
      }

  leagues_lawful : (l : ℕ) (i : Item) → told book (slot.League l) ≡ Some i → IsLawfulItem rows i
  leagues_lawful l i is = mapped (IsLawfulItem rows) (league_item l) (entry_in book.leagues l) i (λ league at. league_lawful l league at) is

  members_lawful : (l e : ℕ) (i : Item) → told book (slot.Member l e) ≡ Some i → IsLawfulItem rows i
  members_lawful l e i is = by (entry_in book.leagues l) refl is
    where
      of_member : (league : LeagueFacts) → entry_in book.leagues l ≡ Some league → (b : Bool) → is_member league e ≡ b → (if b then Some (item.Member l e) else None) ≡ Some i → IsLawfulItem rows i
      of_member league at true is told = subst (IsLawfulItem rows) (same_Some (item.Member l e) i told) (member_lawful l league at e is)
      of_member league at false is told = absurd (none-some i told)

      by : (o : Option LeagueFacts) → entry_in book.leagues l ≡ o → option_and_then (member_told l e) o ≡ Some i → IsLawfulItem rows i
      by None at told = absurd (none-some i told)
      by (Some league) at told = of_member league at (is_member league e) refl told

  -- Cups.

  cup_lawful : (c : ℕ) (cup : Bracket) → entry_in book.cups c ≡ Some cup → IsLawfulItem rows (cup_item c cup)
  cup_lawful c cup at =
      let own : IsLawfulCup book.entries (gameweeks_of book) cup = lawful.cups c cup at in
      let playable : is_cup cup (length (deadlines_told m)) ≡ true =
      ap (λ (ds : List ℕ). is_cup cup (length ds)) (asked.deadlines_same book facts rows items season rise same) ∙ ap (is_cup cup) (sym weeks) ∙ own.playable in
      record {
        range = and_from (nat_le (length cup.slots) 1024) (list_all (λ coin. nat_le coin 1) cup.coins) (le-leb (length cup.slots) 1024 own.few) own.coins;
        rules =
            or_from _ _ season_there
            (or_from _ _ (or_from _ _ (or_from _ _ (or_from _ _ (or_from _ _
            (started cup.start own.from_one own.in_season)
            (issued_all cup.start (entrants cup.slots) own.play))
            (ap not playable))
            (play_all cup.start (entrants cup.slots) own.play))
            (asked.no_gap book facts rows items season rise same slot.Cup cup_item book.cups (λ n. refl) c cup at))
            (asked.has_room book facts rows items season rise same slot.Cup cup_item book.cups (λ n. refl) most_cups cups_family lawful.few_cups c cup at));
      }

  -- Last commands.

  made_there : (made : Made) → IsMade book.entries book.leagues book.cups made → (command : Command) → made ≡ made_by command (made_id made) → is_answer m (status_of made) (made_id made) command ≡ true
  made_there made there (command.Key key name) is =
      and_from (status_of made == 201) (is_there m (slot.Entry (made_id made))) (ap (λ made. status_of made == 201) is)
      (not-false (is_there m (slot.Entry (made_id made))) (issued_there (made_id made) (subst (IsMade book.entries book.leagues book.cups) is there)))
  made_there made there (command.League kind name code start) is =
      and_from (status_of made == 201) (is_there m (slot.League (made_id made))) (ap (λ made. status_of made == 201) is)
      (asked.there book facts rows items season rise same (slot.League (made_id made))
      ∙ some_mapped (league_item (made_id made)) (entry_in book.leagues (made_id made)) (subst (IsMade book.entries book.leagues book.cups) is there))
  made_there made there (command.Cup start slots coins) is =
      and_from (status_of made == 201) (is_there m (slot.Cup (made_id made))) (ap (λ made. status_of made == 201) is)
      (asked.there book facts rows items season rise same (slot.Cup (made_id made))
      ∙ some_mapped (cup_item (made_id made)) (entry_in book.cups (made_id made)) (subst (IsMade book.entries book.leagues book.cups) is there))
  made_there made there command is =
      and_from (status_of made == 200) (made_id made == 0) (ap (λ made. status_of made == 200) is) (ap (λ made. made_id made == 0) is)

  last_lawful : (c : ℕ) (last : Last) → at_id book.lasts c ≡ Some last → IsLawfulItem rows (last_item c last)
  last_lawful c last at =
      let own : IsLawfulLast book.entries book.leagues book.cups c last = lawful.lasts c last at in
      let number : (last.number == 0) ≡ false = grind (arith, nat_tests, own.from_one) in
      record {
        range = le-leb last.number 9223372036854775807 own.most;
        rules =
            or_from _ _ season_there
            (or_from _ _ (or_from _ _ (called own.issued) number)
            (ap not (made_there last.made own.there last.command (order.makes c last at))));
      }
    where
      called : (c ≡ 0) ⊎ (is_issued book.entries c ≡ true) → (not (c == 0) && misses m (slot.Entry c)) ≡ false
      called (inl operator) = and_left (not (c == 0)) (misses m (slot.Entry c)) (let is : (c == 0) ≡ true = grind (arith, nat_tests, operator) in ap not is)
      called (inr issued) = and_right (not (c == 0)) (misses m (slot.Entry c)) (issued_there c issued)

  -- Entries.

  entry_issued : (e : ℕ) (entry : EntryFacts) → entry_in book.entries e ≡ Some entry → IsIssuedRightly rows e entry.key
  entry_issued e entry at = record {
    gap = asked.no_gap book facts rows items season rise same slot.Entry entry_item book.entries (λ n. refl) e entry at;
    own = list_any_none (λ row. is_within (key_of (slot.Entry 0)) (key_of (slot.Entry e)) row.0 && has_key entry.key (item_of row.0 row.1)) rows other;
    room = asked.has_room book facts rows items season rise same slot.Entry entry_item book.entries (λ n. refl) most_entries entries_family lawful.few_entries e entry at;
  }
    where
      less : (n : ℕ) → is_within (key_of (slot.Entry 0)) (key_of (slot.Entry e)) (key_of (slot.Entry n)) ≡ true → n < e
      less n within = grind (arith, nat_tests, within)

      -- another's record
      smaller : (s : Slot) (body : List ℕ) → m (key_of s) ≡ Some body → is_within (key_of (slot.Entry 0)) (key_of (slot.Entry e)) (key_of s) ≡ true
          → has_key entry.key (item_of (key_of s) body) ≡ false
      smaller s body there within =
          let one = entries_family e s within in
          let read : item_of (key_of s) body ≡ told book s = sym (ap (option_and_then (item_of (key_of s))) there) ∙ asked.told_same book facts rows items season rise same s in
          ap (has_key entry.key) (read ∙ ap (told book) one.1)
          ∙ by one.0 (less one.0 (sym (ap (λ s. is_within (key_of (slot.Entry 0)) (key_of (slot.Entry e)) (key_of s)) one.1) ∙ within)) (entry_in book.entries one.0) refl
        where
          by : (n : ℕ) → n < e → (o : Option EntryFacts) → entry_in book.entries n ≡ o → has_key entry.key (option_map (entry_item n) o) ≡ false
          by n lt None is = refl
          by n lt (Some x) is = lawful.keys n e x entry is at lt

      other : (k : ℕ) (d : Key × List ℕ) → k < length rows
          → (is_within (key_of (slot.Entry 0)) (key_of (slot.Entry e)) (get_or rows k d).0 && has_key entry.key (item_of (get_or rows k d).0 (get_or rows k d).1)) ≡ false
      other k d lt =
          let row : Key × List ℕ = get_or rows k d in
          let found : m row.0 ≡ Some row.1 = found_at rows k d rise lt in
          let of = of_record book row.0 row.1 (sym (ap (λ (m : Map). m row.0) same) ∙ found) in
          false_from_ne_true (is_within (key_of (slot.Entry 0)) (key_of (slot.Entry e)) row.0 && has_key entry.key (item_of row.0 row.1)) (λ both.
          let parts = and_parts (is_within (key_of (slot.Entry 0)) (key_of (slot.Entry e)) row.0) (has_key entry.key (item_of row.0 row.1)) both in
          let none : has_key entry.key (item_of row.0 row.1) ≡ false = subst (λ k. has_key entry.key (item_of k row.1) ≡ false) (sym of.1)
          (smaller of.0 row.1 (sym (ap m of.1) ∙ found) (sym (ap (is_within (key_of (slot.Entry 0)) (key_of (slot.Entry e))) of.1) ∙ parts.0)) in
          true≢false (sym parts.1 ∙ none))

-- The laws.

pub leagues_break_none : LeaguesBreakNone
leagues_break_none book facts rows lawful order items season rise same = leagues_lawful book facts rows lawful order items season rise same

pub members_break_none : MembersBreakNone
members_break_none book facts rows lawful order items season rise same = members_lawful book facts rows lawful order items season rise same

pub cups_break_none : CupsBreakNone
cups_break_none book facts rows lawful order items season rise same c i =
    mapped (IsLawfulItem rows) (cup_item c) (entry_in book.cups c) i (λ cup at. cup_lawful book facts rows lawful order items season rise same c cup at)

pub lasts_break_none : LastsBreakNone
lasts_break_none book facts rows lawful order items season rise same c i =
    mapped (IsLawfulItem rows) (last_item c) (at_id book.lasts c) i (λ last at. last_lawful book facts rows lawful order items season rise same c last at)

pub entries_are_issued_rightly : EntriesAreIssuedRightly
entries_are_issued_rightly book facts rows lawful order items season rise same = entry_issued book facts rows lawful order items season rise same

pub issues_break_none : IssuesBreakNone
issues_break_none rows e first key issued breaks = or_from _ _ (or_from _ _ (or_from _ _ issued.gap issued.own) breaks) issued.room
