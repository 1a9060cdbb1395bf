-- What cells hold of an entry's totals is what is shown of its histories.
use Rattle.std.proofs.Common.{◌≡◌, ◌<◌, ◌≤◌, ◌+◌, ◌-◌, ◌==◌, ◌&&◌, ◌||◌, ℕ, zero, suc, ℤ, pos, Bool, true, false, inl, inr, List, [], ◌∷◌, length, get_or, Option, Some, None, map, max, nat_le, arith, refl, sym, ap, subst, ◌∙◌, if◌then◌else◌}
use Rattle.std.specs.List.{list_any, range_with_len}
use Rattle.std.specs.Option.{option_and_then, option_map_or}
use Rattle.std.proofs.Math.Bool.{and-true}
use Rattle.std.proofs.lemmas.Bool.{le-leb}
use Rattle.std.proofs.lemmas.Bool.Decides.{nat_tests}
use Rattle.rule_book.specs.declared.cup.Bracket.{Bracket}
use Rattle.rule_book.specs.Entries.{entry_in}
use Rattle.rule_book.specs.HeadToHead.{total_of}
use Rattle.rule_book.specs.History.{Event}
use Rattle.rule_book.specs.HistoryRules.{FirstTold}
use Rattle.rule_book.specs.HistoryTeam.{is_begun}
use Rattle.rule_book.specs.LeagueCalls.{is_head, is_member, leagues_of}
use Rattle.rule_book.specs.Leagues.{LeagueFacts}
use Rattle.rule_book.specs.PlayerFigures.{position_in}
use Rattle.rule_book.specs.Totals.{total_from}
use Rattle.rule_book.specs.UpTo.{start_of}
use Rattle.rule_book.proofs.TeamFacts.{first_is_the_start}
use Rattle.rescore_graph.specs.Graph.{Among}
use Rattle.season_ledger.specs.Rows.{first_in}
use Rattle.season_ledger.specs.Stands.{Tell}
use Rattle.manager_book.specs.Managers.{Managers, season_of}
use Rattle.season_graph.specs.Told.{gameweek_score, total_since as total_told}
use Rattle.season_nodes.specs.Held.{SeasonRows}
use Rattle.season_nodes.specs.Reading.{to_any, to_flat}
use Rattle.season_nodes.specs.Season.{classic_start, classic_starts, has_start, is_live, start_of_classic, starts_of}
use Rattle.season_nodes.specs.declared.nodes.Node.TheVariants as node
use Rattle.season_graph.proofs.LeagueFacts.{from_entry}
use Rattle.season_book.specs.Book.{Facts}
use Rattle.season_views.specs.Cells.{AreKeptFrom, AreKeptWith, books_seen}
use Rattle.season_views.specs.Entries.{net_by, total_since}
use Rattle.season_views.proofs.CupRounds.{not_by}
use Rattle.season_views.proofs.Scores.{begun_is, begun_told, scored}
use Rattle.season_views.proofs.Told.{begun_by, net_begun}
use Rattle.season_nodes.specs.Places.{listed}

-- nothing counts where all that would is open
none_count : (net : ℕ → ℤ) (from locked first : ℕ) → locked < max from first → total_from net from (Some first) locked ≡ pos 0
none_count net from locked first late =
    let none : (locked + 1) - max from first ≡ 0 = omega (arith, late) in
    ap (λ n. total_of (map net (range_with_len (max from first) n))) none

late_by : (first from locked : ℕ) (begun : Bool) → nat_le first locked ≡ begun → (begun && nat_le from locked) ≡ false → locked < max from first
late_by first from locked true is not = let late = not_by from locked not in omega (arith, late)
late_by first from locked false is not = let late = not_by first locked is in omega (arith, late)

module _ (facts : Facts) (managers : Managers) (leagues : List LeagueFacts) (cups : List Bracket) (e s : ℕ) (h : List Event) (issued : 1 ≤ e) (one : 1 ≤ s) (start : has_start (books_seen facts managers leagues cups) e s ≡ true)
    (tell : Tell (position_in facts.players) (season_of managers e) h) (profile : managers.profile ≡ facts.profile) where
  -- an entry has a total where its history has begun, and the start is locked
  live_is : is_live (books_seen facts managers leagues cups) (node.Total e s) ≡ (is_begun h facts.calendar.locked && nat_le s facts.calendar.locked)
  live_is =
      let begun : Bool = is_begun h facts.calendar.locked in
      let late : Bool = nat_le s facts.calendar.locked in
      let from : Bool = has_start (books_seen facts managers leagues cups) e s in
      ap (λ b. (b && from) && (nat_le 1 s && late)) (begun_is facts managers leagues cups e h issued tell facts.calendar.locked)
      ∙ ap (λ b. (begun && b) && (nat_le 1 s && late)) start
      ∙ ap (λ b. (begun && true) && (b && late)) (le-leb 1 s one)
      ∙ ap (λ b. b && late) (and-true begun)

  nets_are : (first from count : ℕ) → start_of h ≡ Some first → first ≤ from
      → map (λ g. (gameweek_score (books_seen facts managers leagues cups) e g).net) (range_with_len from count) ≡ map (net_by facts h) (range_with_len from count)
  nets_are first from zero at le = refl
  nets_are first from (suc n) at le =
      let net : ℕ → ℤ = λ g. (gameweek_score (books_seen facts managers leagues cups) e g).net in
      let begun = begun_by h first from at le in
      ap (λ z. z ∷ map net (range_with_len (from + 1) n)) (ap (λ score. score.net) (scored facts managers leagues cups e h issued tell profile from begun) ∙ sym (net_begun facts h from begun))
      ∙ ap (λ rest. net_by facts h from ∷ rest) (nets_are first (from + 1) n at (omega (arith, le)))

  same_total : (o : Option ℕ) → start_of h ≡ o
      → total_from (λ g. (gameweek_score (books_seen facts managers leagues cups) e g).net) s o facts.calendar.locked ≡ total_from (net_by facts h) s o facts.calendar.locked
  same_total None at = refl
  same_total (Some first) at = ap total_of (nets_are first (max s first) ((facts.calendar.locked + 1) - max s first) at (omega arith))

  no_total : (o : Option ℕ) → start_of h ≡ o → (is_begun h facts.calendar.locked && nat_le s facts.calendar.locked) ≡ false → pos 0 ≡ total_from (net_by facts h) s o facts.calendar.locked
  no_total None at dead = refl
  no_total (Some first) at dead =
      let told : FirstTold h (Some first) = (first_is_the_start h (Some first)).1 (sym at) in
      sym (none_count (net_by facts h) s facts.calendar.locked first
      (late_by first s facts.calendar.locked (is_begun h facts.calendar.locked) (begun_told h (Some first) facts.calendar.locked told) dead))

  live_case : (live : Bool) → (is_begun h facts.calendar.locked && nat_le s facts.calendar.locked) ≡ live
      → (if live then total_told (books_seen facts managers leagues cups) e s else pos 0) ≡ total_since facts h s
  live_case true is =
      ap (λ o. total_from (λ g. (gameweek_score (books_seen facts managers leagues cups) e g).net) s o facts.calendar.locked) ((first_is_the_start h (first_in (season_of managers e))).0 tell.first)
      ∙ same_total (start_of h) refl
  live_case false is = no_total (start_of h) refl is

  -- what its cell holds is the total of its history
  pub total_is : (if is_live (books_seen facts managers leagues cups) (node.Total e s) then total_told (books_seen facts managers leagues cups) e s else pos 0) ≡ total_since facts h s
  total_is =
      ap (λ b. if b then total_told (books_seen facts managers leagues cups) e s else pos 0) live_is
      ∙ live_case (is_begun h facts.calendar.locked && nat_le s facts.calendar.locked) refl

-- The gameweeks from which an entry has a total.

or_true : (b : Bool) → (b || true) ≡ true
or_true true = refl
or_true false = refl

same_member : (m e : ℕ) → e ≡ m → (m == e) ≡ true
same_member m e is = grind (arith, nat_tests, is)

-- who stands among the members of a league is one
member_at : (members : List ℕ) (i e : ℕ) → i < length members → e ≡ get_or members i e → list_any (λ member. member == e) members ≡ true
member_at [] i e within is = absurd (omega (arith, within))
member_at (m ∷ members) zero e within is = ap (λ b. b || list_any (λ member. member == e) members) (same_member m e is)
member_at (m ∷ members) (suc i) e within is = ap (λ b. (m == e) || b) (member_at members i e (omega (arith, within)) is) ∙ or_true (m == e)

starts_with : (league : LeagueFacts) → is_head league.kind ≡ false → start_of_classic league ≡ Some league.start
starts_with league classic = ap (λ b. if b then None else Some league.start) classic

-- a member of a classic league has a total from its start on
league_start : (facts : Facts) (managers : Managers) (leagues : List LeagueFacts) (cups : List Bracket) (l : ℕ) (league : LeagueFacts) (e : ℕ) → entry_in leagues l ≡ Some league → is_head league.kind ≡ false → is_member league e ≡ true
    → has_start (books_seen facts managers leagues cups) e league.start ≡ true
league_start facts managers leagues cups l league e at classic is =
    let b = books_seen facts managers leagues cups in
    let there = from_entry leagues l league (l == 0) refl at in
    let place : 1 + (l - 1) ≡ l = omega (arith, there.0) in
    let mine : Among (leagues_of leagues e) l = subst (Among (leagues_of leagues e)) place (listed 1 leagues e (l - 1) league there.1 is) in
    let from : classic_start leagues l ≡ Some league.start = ap (option_and_then start_of_classic) at ∙ starts_with league classic in
    to_any league.start (starts_of b e)
    (inr (to_flat (classic_starts leagues) (leagues_of leagues e) l league.start mine (subst (λ o. Among (option_map_or (λ n. n ∷ []) o []) league.start) (sym from) (inl refl))))

-- and each entry from the first gameweek on
pub first_start : (facts : Facts) (managers : Managers) (leagues : List LeagueFacts) (cups : List Bracket) (e : ℕ) → has_start (books_seen facts managers leagues cups) e 1 ≡ true
first_start facts managers leagues cups e = to_any 1 (starts_of (books_seen facts managers leagues cups) e) (inl refl)

-- so cells that are kept of a classic league hold the totals of its members
pub kept_from : (facts : Facts) (managers : Managers) (league : LeagueFacts) (cells : SeasonRows) (i e : ℕ) → is_head league.kind ≡ false → i < length league.members → e ≡ get_or league.members i e
    → AreKeptWith facts managers league cells → AreKeptFrom facts managers e league.start cells
kept_from facts managers league cells i e classic within is (l, (leagues, cups, at, kept)) =
    (leagues, cups, league_start facts managers leagues cups l league e at classic (member_at league.members i e within is), kept)
