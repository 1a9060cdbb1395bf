-- Books with the same records are the same, but for the histories, which tell the same teams.
use Rattle.std.proofs.Common.{◌≡◌, ℕ, Bool, true, false, List, [], Option, Some, None, refl, sym, ap, ◌∙◌, if◌then◌else◌}
use Rattle.std.specs.Prelude.{is_some}
use Rattle.std.specs.Option.{option_map, option_and_then}
use Rattle.std.proofs.lemmas.Option.{none-some}
use Rattle.rule_book.specs.declared.cup.Bracket.{Bracket}
use Rattle.rule_book.specs.declared.league.LeagueKind.TheVariants as kind
use Rattle.rule_book.specs.ById.{at_id}
use Rattle.rule_book.specs.Entries.{entry_in}
use Rattle.rule_book.specs.LeagueCalls.{is_member}
use Rattle.rule_book.specs.Leagues.{LeagueFacts}
use Rattle.season_book.specs.Book.{Book, EntryFacts, Facts, Last}
use Rattle.season_records.specs.declared.item.Item.{Item}
use Rattle.season_records.specs.declared.item.Item.TheVariants as item
use Rattle.season_records.specs.declared.slot.Slot.TheVariants as slot
use Rattle.season_records.specs.Records.{cup_item, entry_item, last_item, league_item, made_id, member_told, team_told, told, transfer_told}
use Rattle.season_records.specs.Told.{BothAre, IsInOrder, RecordsTellBooks, RecordsTellFacts, SameBook, SameEntry, SameFacts, TellTheSame, made_by}
use Rattle.season_records.proofs.Determined.{members_determined, numbers_determined, rows_determined}
use Rattle.season_records.proofs.FactsTold.{facts_told, in_order_same, unmapped}
use Rattle.season_records.proofs.Slots.{records_tell_slots}
use Rattle.season_records.proofs.TeamsTold.{same_teams}

pub records_tell_facts : RecordsTellFacts
records_tell_facts book other items others same = facts_told book other (λ s. records_tell_slots book other s (items s) (others s) same)

-- What is read back.

-- an entry's first gameweek, key and name
abbrev EntryIn : Type 0
EntryIn = Option ℕ × (List ℕ × List ℕ)

abbrev entry_read : Option Item → EntryIn
entry_read (Some (item.Entry e first key name)) = (first, (key, name))
entry_read i = (None, ([], []))

-- a league but its members
abbrev league_read : Option Item → LeagueFacts
league_read (Some (item.League l kind start creator order code name)) =
    record { kind = kind; name = name; code = code; start = start; creator = creator; members = []; order = order }
league_read i = record { kind = kind.Classic; name = []; code = []; start = 0; creator = 0; members = []; order = [] }

abbrev cup_read : Item → Option Bracket
cup_read (item.Cup c start slots coins) = Some (record { start = start; slots = slots; coins = coins })
cup_read i = None

abbrev last_read : Item → Option Last
last_read (item.Last c number status made command) = Some (record { number = number; command = command; made = made_by command made })
last_read i = None

member_some : (l e : ℕ) (league : LeagueFacts) → is_some (member_told l e league) ≡ is_member league e
member_some l e league = by (is_member league e)
  where
    by : (b : Bool) → is_some (if b then Some (item.Member l e) else None) ≡ b
    by true = refl
    by false = refl

module _ (book other : Book) (same : TellTheSame book other) where
  -- entries
  entries_by : (e : ℕ) (x y : Option EntryFacts) → option_map (entry_item e) x ≡ option_map (entry_item e) y
      → ((g : ℕ) → option_and_then (λ (entry : EntryFacts). team_told e g entry.history) x ≡ option_and_then (λ (entry : EntryFacts). team_told e g entry.history) y)
      → ((g n : ℕ) → option_and_then (λ (entry : EntryFacts). transfer_told e g n entry.history) x ≡ option_and_then (λ (entry : EntryFacts). transfer_told e g n entry.history) y)
      → BothAre SameEntry x y
  entries_by e None None is teams sales = tt
  entries_by e None (Some y) is teams sales = absurd (none-some (entry_item e y) is)
  entries_by e (Some x) None is teams sales = absurd (none-some (entry_item e x) (sym is))
  entries_by e (Some x) (Some y) is teams sales =
      let read = ap entry_read is in
      record {
        key = ap (λ (r : EntryIn). r.1.0) read;
        name = ap (λ (r : EntryIn). r.1.1) read;
        teams = same_teams x.history y.history e (ap (λ (r : EntryIn). r.0) read) teams sales;
      }

  entries_same : (e : ℕ) → BothAre SameEntry (entry_in book.entries e) (entry_in other.entries e)
  entries_same e =
      entries_by e (entry_in book.entries e) (entry_in other.entries e) (same (slot.Entry e)) (λ g. same (slot.Team e g)) (λ g n. same (slot.Transfer e g n))

  -- cups
  cups_same : book.cups ≡ other.cups
  cups_same =
      numbers_determined book.cups other.cups
      (λ c. unmapped (cup_item c) (cup_item c) cup_read (entry_in book.cups c) (entry_in other.cups c) (λ z at. refl) (λ z at. refl) (same (slot.Cup c)))

  module _ (order : IsInOrder book) (also : IsInOrder other) where
    -- facts
    facts_by : (x y : Option Facts) → book.facts ≡ x → other.facts ≡ y → BothAre SameFacts x y → x ≡ y
    facts_by None None is are both = refl
    facts_by None (Some y) is are both = absurd both
    facts_by (Some x) None is are both = absurd both
    facts_by (Some x) (Some y) is are both = ap Some (in_order_same x y both (order.facts x is) (also.facts y are))

    -- leagues
    leagues_by : (l : ℕ) (x y : Option LeagueFacts) → entry_in book.leagues l ≡ x → entry_in other.leagues l ≡ y
        → option_map (league_item l) x ≡ option_map (league_item l) y
        → ((e : ℕ) → option_and_then (member_told l e) x ≡ option_and_then (member_told l e) y) → x ≡ y
    leagues_by l None None is are told members = refl
    leagues_by l None (Some y) is are told members = absurd (none-some (league_item l y) told)
    leagues_by l (Some x) None is are told members = absurd (none-some (league_item l x) (sym told))
    leagues_by l (Some x) (Some y) is are told members =
        let read = ap league_read told in
        let among = members_determined x.members y.members (order.members l x is) (also.members l y are)
        (λ e. sym (member_some l e x) ∙ ap is_some (members e) ∙ member_some l e y) in
        λ i. Some (record {
          kind = (read i).kind;
          name = (read i).name;
          code = (read i).code;
          start = (read i).start;
          creator = (read i).creator;
          members = among i;
          order = (read i).order;
        })

    leagues_same : book.leagues ≡ other.leagues
    leagues_same =
        numbers_determined book.leagues other.leagues
        (λ l. leagues_by l (entry_in book.leagues l) (entry_in other.leagues l) refl refl (same (slot.League l)) (λ e. same (slot.Member l e)))

    -- last commands
    last_back : (c : ℕ) (last : Last) → last.made ≡ made_by last.command (made_id last.made) → last_read (last_item c last) ≡ Some last
    last_back c last makes = λ i. Some (record last { made = sym makes i })

    lasts_same : book.lasts ≡ other.lasts
    lasts_same =
        rows_determined book.lasts other.lasts order.lasts also.lasts
        (λ c. unmapped (last_item c) (last_item c) last_read (at_id book.lasts c) (at_id other.lasts c)
        (λ z at. last_back c z (order.makes c z at)) (λ z at. last_back c z (also.makes c z at)) (same (slot.Last c)))

    pub same_book : SameBook book other
    same_book = record {
      facts = facts_by book.facts other.facts refl refl (facts_told book other same);
      entries = entries_same;
      leagues = leagues_same;
      cups = cups_same;
      lasts = lasts_same;
    }

pub records_tell_books : RecordsTellBooks
records_tell_books book other items others order also same = same_book book other (λ s. records_tell_slots book other s (items s) (others s) same) order also
