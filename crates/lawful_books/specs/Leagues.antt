-- What holds of the entries' keys, the leagues, the cups and the last commands of every book of a run.
use Rattle.std.specs.Prelude.{◌≡◌, ◌≤◌, ◌<◌, ◌⊎◌, ℕ, ⊤, Bool, true, false, List, [], Some, None, is_some, nat_le, length}
use Rattle.std.specs.List.{list_all}
use Rattle.std.specs.Option.{option_map_or}
use Rattle.std.specs.Str.{bytes_eq}
use Rattle.rule_book.specs.declared.cup.Bracket.{Bracket}
use Rattle.rule_book.specs.ById.{at_id}
use Rattle.rule_book.specs.CupCalls.{entrants, most_cups}
use Rattle.rule_book.specs.Cups.{is_cup}
use Rattle.rule_book.specs.Entries.{entry_in, most_entries}
use Rattle.rule_book.specs.HeadToHead.{is_draw}
use Rattle.rule_book.specs.LeagueCalls.{is_drawn, is_head, is_member, leagues_of, most_leagues, most_leagues_of_one, most_members}
use Rattle.rule_book.specs.Leagues.{LeagueFacts}
use Rattle.season_book.specs.Book.{Book, EntryFacts, Last}
use Rattle.season_book.specs.LeagueCommands.{is_issued, is_registered}
use Rattle.season_book.specs.LeagueViews.{first_of}
use Rattle.season_book.specs.declared.made.Made.{Made}
use Rattle.season_book.specs.declared.made.Made.TheVariants as made

-- how many gameweeks the season of a book has; before the season none
abbrev pub gameweeks_of : Book → ℕ
gameweeks_of book = option_map_or (λ facts. length facts.calendar.deadlines) book.facts 0

-- Entries.

-- no two entries have the same key
abbrev pub KeysDiffer : List EntryFacts → Type 0
KeysDiffer entries =
    (d e : ℕ) (x y : EntryFacts) → entry_in entries d ≡ Some x → entry_in entries e ≡ Some y → d < e → bytes_eq x.key y.key ≡ false

-- an entry is registered, with a first gameweek that is not after the start
abbrev pub plays_from : List EntryFacts → ℕ → ℕ → Bool
plays_from entries start e = option_map_or (λ first. nat_le first start) (first_of entries e) false

-- Leagues.

-- a league that was drawn is a head-to-head one; the order is one of its members, and each of it plays from its start
pub record IsDrawnRightly (entries : List EntryFacts) (league : LeagueFacts) : Type 0 where
  pub head : is_head league.kind ≡ true
  pub draw : is_draw league.order league.members ≡ true
  pub play : list_all (plays_from entries league.start) league.order ≡ true

-- a league starts in a gameweek of the season; who created it is a member, its members are registered, and they are no
-- more than its kind allows; an order has at most 64 places
pub record IsLawfulLeague (entries : List EntryFacts) (gameweeks : ℕ) (league : LeagueFacts) : Type 0 where
  pub from_one : 1 ≤ league.start
  pub in_season : league.start ≤ gameweeks
  pub own : is_member league league.creator ≡ true
  pub registered : (e : ℕ) → is_member league e ≡ true → is_registered entries e ≡ true
  pub few : length league.members ≤ most_members league.kind
  pub places : length league.order ≤ 64
  pub drawn : is_drawn league ≡ true → IsDrawnRightly entries league

-- Cups.

-- a cup starts in a gameweek of the season, in which it can be played; each of its entries plays from its start; it has
-- at most 1,024 slots, and coins that are 0 or 1
pub record IsLawfulCup (entries : List EntryFacts) (gameweeks : ℕ) (cup : Bracket) : Type 0 where
  pub from_one : 1 ≤ cup.start
  pub in_season : cup.start ≤ gameweeks
  pub playable : is_cup cup gameweeks ≡ true
  pub play : list_all (plays_from entries cup.start) (entrants cup.slots) ≡ true
  pub few : length cup.slots ≤ 1024
  pub coins : list_all (λ coin. nat_le coin 1) cup.coins ≡ true

-- Last commands.

-- what a command made is there
abbrev pub IsMade : List EntryFacts → List LeagueFacts → List Bracket → Made → Type 0
IsMade entries leagues cups made.Nothing = ⊤
IsMade entries leagues cups (made.Entry e) = is_issued entries e ≡ true
IsMade entries leagues cups (made.League l) = is_some (entry_in leagues l) ≡ true
IsMade entries leagues cups (made.Cup c) = is_some (entry_in cups c) ≡ true

-- the last command of a caller, who is the operator or an entry: its number is one that a command can have, and what it
-- made is there
pub record IsLawfulLast (entries : List EntryFacts) (leagues : List LeagueFacts) (cups : List Bracket) (caller : ℕ) (last : Last) : Type 0 where
  pub issued : (caller ≡ 0) ⊎ (is_issued entries caller ≡ true)
  pub from_one : 1 ≤ last.number
  pub most : last.number ≤ 9223372036854775807
  pub there : IsMade entries leagues cups last.made

-- The whole book.

-- nothing but the operator's key is there
pub record IsBlank (book : Book) : Type 0 where
  pub entries : book.entries ≡ []
  pub leagues : book.leagues ≡ []
  pub cups : book.cups ≡ []
  pub lasts : book.lasts ≡ []

-- before the season nothing is there; entries, leagues and cups are no more than there can be, and each is lawful; no
-- entry is in more leagues than it can be in; last commands are lawful
pub record AreLawful (book : Book) : Type 0 where
  pub blank : book.facts ≡ None → IsBlank book
  pub few_entries : length book.entries ≤ most_entries
  pub keys : KeysDiffer book.entries
  pub few_leagues : length book.leagues ≤ most_leagues
  pub leagues : (l : ℕ) (league : LeagueFacts) → entry_in book.leagues l ≡ Some league → IsLawfulLeague book.entries (gameweeks_of book) league
  pub memberships : (e : ℕ) → length (leagues_of book.leagues e) ≤ most_leagues_of_one
  pub few_cups : length book.cups ≤ most_cups
  pub cups : (c : ℕ) (cup : Bracket) → entry_in book.cups c ≡ Some cup → IsLawfulCup book.entries (gameweeks_of book) cup
  pub lasts : (c : ℕ) (last : Last) → at_id book.lasts c ≡ Some last → IsLawfulLast book.entries book.leagues book.cups c last
