-- The window of a head-to-head league's matches shows the same of books that are the same to a caller.
use Rattle.std.specs.Prelude.{codes}
use Rattle.std.proofs.Common.{◌≡◌, ◌∙◌, ◌≤◌, ◌-◌, ℕ, Bool, true, false, List, Option, Some, None, length, nat_le, slice_index, if◌then◌else◌, arith, refl, ap, subst}
use Rattle.std.specs.Option.{option_and_then, option_map_or}
use Rattle.std.proofs.lemmas.Bool.Decides.{nat_tests}
use Rattle.serde_json.specs.Data.{boolean, member, no_members, object}
use Rattle.json_members.specs.Members.{count}
use Rattle.fpl_base.specs.declared.kinds.Caller.{Caller}
use Rattle.rule_book.specs.Entries.{entry_in}
use Rattle.rule_book.specs.LeagueCalls.{is_head}
use Rattle.rule_book.specs.LeagueRows.{match_in}
use Rattle.rule_book.specs.Leagues.{LeagueFacts}
use Rattle.rule_book.specs.Opponents.{opponent_of}
use Rattle.season_book.specs.Book.{Book, EntryFacts, Facts}
use Rattle.season_book.specs.LeagueViews.{net_in}
use Rattle.season_book.specs.Windows.{listed}
use Rattle.season_book.specs.Agree.{Alike, EntriesAlike}
use Rattle.season_book.specs.HeadMatches.{first_members, head_matches_window, match_members, match_row, matches_data, matches_to, name_at, opponent_place, scores_shown, second_members, seen_by_other, standing_at}
use Rattle.season_book.proofs.AgainstSame.{against}
use Rattle.season_book.proofs.SidesAlike.{name_alike, net_alike}

is_by : (a b : ℕ) → nat_le a b ≡ true → a ≤ b
is_by a b is = grind (arith, nat_tests, is)

module _ (facts : Facts) (entries others : List EntryFacts) (a : EntriesAlike (Some facts) entries others) (l : ℕ) (league : LeagueFacts) where
  scores_by : (g place : ℕ) (t : Bool) → nat_le g facts.calendar.locked ≡ t
      → (if t then Some (match_in (net_in facts entries) league (slice_index league.order place) place g) else None)
      ≡ (if t then Some (match_in (net_in facts others) league (slice_index league.order place) place g) else None)
  scores_by g place false is = refl
  scores_by g place true is =
      let same : (e : ℕ) → net_in facts entries e g ≡ net_in facts others e g = λ e. net_alike facts entries others a e g (is_by g facts.calendar.locked is) in
      let own = same (slice_index league.order place) in
      let theirs = against (net_in facts entries) (net_in facts others) league.order g same (opponent_of (length league.order) (g - league.start) place) in
      λ i. Some (own i, theirs i)

  scores_alike : (g place : ℕ) → scores_shown facts entries league g place ≡ scores_shown facts others league g place
  scores_alike g place = scores_by g place (nat_le g facts.calendar.locked) refl

  names_alike : (place : ℕ) → name_at entries league place ≡ name_at others league place
  names_alike place = let name = name_alike facts entries others a in λ i. option_map_or (λ e. name e i) (standing_at league place) (codes "AVERAGE")

  match_alike : (row : ℕ × ℕ) → match_row facts entries l league row ≡ match_row facts others l league row
  match_alike row =
      let other : ℕ = opponent_place (length league.order) (opponent_of (length league.order) (row.0 - league.start) row.1) in
      let played = scores_alike row.0 row.1 in
      let name = names_alike row.1 in
      let other_name = names_alike other in
      λ i. object
      (first_members (standing_at league row.1) (name i) (played i)
      (second_members (standing_at league other) (other_name i) (seen_by_other (played i))
      (match_members l row.0 row.1)))

  shown_alike : matches_data facts entries l league ≡ matches_data facts others l league
  shown_alike = λ i. object
      (member (codes "has_next") (boolean false)
      (member (codes "page") (count 1)
      (member (codes "results") (listed (λ row. match_alike row i) (matches_to league (length facts.calendar.deadlines)))
      no_members)))

pub head_matches_alike : (caller : Caller) (book other : Book) → Alike caller book other → (facts : Facts) → book.facts ≡ Some facts → (l : ℕ)
    → head_matches_window facts book.entries book.leagues l ≡ head_matches_window facts other.entries other.leagues l
head_matches_alike caller book other a facts there l =
    of_league (entry_in book.leagues l) ∙ ap (λ leagues. head_matches_window facts other.entries leagues l) a.leagues
  where
    alike : EntriesAlike (Some facts) book.entries other.entries
    alike = subst (λ f. EntriesAlike f book.entries other.entries) there a.entries

    of_league : (o : Option LeagueFacts)
        → option_and_then (λ (league : LeagueFacts). if is_head league.kind then Some (matches_data facts book.entries l league) else None) o
        ≡ option_and_then (λ (league : LeagueFacts). if is_head league.kind then Some (matches_data facts other.entries l league) else None) o
    of_league None = refl
    of_league (Some league) = ap (λ d. if is_head league.kind then Some d else None) (shown_alike facts book.entries other.entries alike l league)
