-- What refuses the calls on leagues, and what each changes. Entries and leagues are numbered from 1.
use Rattle.std.specs.Prelude.{◌+◌, ◌++◌, ℕ, Bool, true, false, not, ◌&&◌, ◌==◌, List, [], ◌∷◌, length, filter, Option, nat_lt, if◌then◌else◌}
use Rattle.std.specs.List.{list_any}
use Rattle.std.specs.Str.{bytes_eq}
use Rattle.fpl_base.specs.declared.rule.Rule.{Rule}
use Rattle.fpl_base.specs.declared.rule.Rule.TheVariants as rule
use Rattle.rule_book.specs.declared.league.LeagueKind.{LeagueKind}
use Rattle.rule_book.specs.declared.league.LeagueKind.TheVariants as kind
use Rattle.rule_book.specs.Entries.{most_entries}
use Rattle.rule_book.specs.HeadToHead.{wrong_draw}
use Rattle.rule_book.specs.Leagues.{LeagueFacts}
use Rattle.rule_book.specs.Refusals.{first_broken, unless}

-- so many leagues are in a season at most, and an entry is in so many of them
abbrev pub most_leagues : ℕ
most_leagues = 512

abbrev pub most_leagues_of_one : ℕ
most_leagues_of_one = 20

-- so many members has a league of this kind at most; a classic one has room for all entries
abbrev pub most_members : LeagueKind → ℕ
most_members kind.Classic = most_entries
most_members kind.Head = 64

abbrev pub is_head : LeagueKind → Bool
is_head kind.Classic = false
is_head kind.Head = true

-- an entry is a member of a league
abbrev pub is_member : LeagueFacts → ℕ → Bool
is_member league e = list_any (λ member. member == e) league.members

-- a league was drawn
abbrev pub is_drawn : LeagueFacts → Bool
is_drawn league = not (length league.order == 0)

-- the numbers of the leagues that an entry is in, where the first league has this number
abbrev pub leagues_from : ℕ → List LeagueFacts → ℕ → List ℕ
leagues_from n [] e = []
leagues_from n (league ∷ leagues) e = if is_member league e then n ∷ leagues_from (n + 1) leagues e else leagues_from (n + 1) leagues e

-- the leagues that an entry is in
abbrev pub leagues_of : List LeagueFacts → ℕ → List ℕ
leagues_of leagues e = leagues_from 1 leagues e

-- an entry can be in one league more
abbrev pub has_room_for_league : List LeagueFacts → ℕ → Bool
has_room_for_league leagues e = nat_lt (length (leagues_of leagues e)) most_leagues_of_one

-- What refuses a call.

-- why a league is not created, where so many gameweeks are locked: its start has passed; or there are as many leagues as
-- there can be, or the entry is in as many
abbrev pub create_refusal : List LeagueFacts → ℕ → ℕ → ℕ → Option Rule
create_refusal leagues e start locked =
    first_broken (
    unless (nat_lt locked start) (rule.StartPassed start)
    ∷ unless (nat_lt (length leagues) most_leagues && has_room_for_league leagues e) rule.LeaguesFull
    ∷ [])

-- why an entry does not join a league with a code: it was drawn; it has another code; the entry is a member already; it is
-- in as many leagues as it can be; the league has as many members as it can have
abbrev pub join_refusal : List LeagueFacts → ℕ → LeagueFacts → List ℕ → Option Rule
join_refusal leagues e league code =
    first_broken (
    unless (not (is_drawn league)) rule.LeagueClosed
    ∷ unless (bytes_eq code league.code) rule.Code
    ∷ unless (not (is_member league e)) rule.Member
    ∷ unless (has_room_for_league leagues e) rule.LeaguesFull
    ∷ unless (nat_lt (length league.members) (most_members league.kind)) rule.MembersFull
    ∷ [])

-- why a league is not drawn in an order, where so many gameweeks are locked: it was drawn; its start has passed; it is a
-- classic one, or the order is none of its members
abbrev pub draw_refusal : LeagueFacts → List ℕ → ℕ → Option Rule
draw_refusal league order locked =
    first_broken (
    unless (not (is_drawn league)) rule.LeagueClosed
    ∷ unless (nat_lt locked league.start) (rule.StartPassed league.start)
    ∷ unless (is_head league.kind) rule.DrawWrong
    ∷ wrong_draw order league.members
    ∷ [])

-- What a call changes.

-- a new league, whose creator is its first member
abbrev pub new_league : LeagueKind → List ℕ → List ℕ → ℕ → ℕ → LeagueFacts
new_league kind name code start e = record {
  kind = kind;
  name = name;
  code = code;
  start = start;
  creator = e;
  members = e ∷ [];
  order = [];
}

-- a league with one member more, by ascending number
abbrev pub with_member : ℕ → LeagueFacts → LeagueFacts
with_member e league = record league {
  members = filter (λ member. nat_lt member e) league.members ++ e ∷ filter (λ member. nat_lt e member) league.members;
}

-- a league that was drawn in this order
abbrev pub with_order : List ℕ → LeagueFacts → LeagueFacts
with_order order league = record league { order = order }
