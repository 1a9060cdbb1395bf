-- What an entry's rows tell is what is shown of its histories.
use Rattle.std.proofs.Common.{◌≡◌, ◌+◌, ◌-◌, ◌≤◌, ℕ, zero, suc, ℤ, Bool, true, false, true≢false, List, [], ◌∷◌, Option, Some, None, map, max, arith, refl, sym, ap, ◌∙◌, if◌then◌else◌}
use Rattle.std.specs.List.{range_with_len}
use Rattle.std.proofs.lemmas.Bool.{le-leb}
use Rattle.std.proofs.lemmas.Option.{same_Some, none-some}
use Rattle.rule_book.specs.declared.team.Team.{Team}
use Rattle.rule_book.specs.declared.team_score.TeamScore.{TeamScore}
use Rattle.rule_book.specs.HeadToHead.{total_of}
use Rattle.rule_book.specs.History.{Event}
use Rattle.rule_book.specs.HistoryRules.{FirstTold, is_started}
use Rattle.rule_book.specs.HistoryTeam.{TeamTold, is_begun}
use Rattle.rule_book.specs.HistoryTransfers.{FreeTold, cost_at}
use Rattle.rule_book.specs.PlayerFigures.{position_in}
use Rattle.rule_book.specs.TeamOfHistory.{told_free}
use Rattle.rule_book.specs.Totals.{total_from}
use Rattle.rule_book.specs.UpTo.{start_of}
use Rattle.rule_book.proofs.TeamFacts.{first_is_the_start, free_is_told, team_is_the_one}
use Rattle.season_ledger.specs.declared.row.Row.{Row}
use Rattle.season_ledger.specs.Rows.{AllUpTo, first_in}
use Rattle.season_book.specs.Book.{Facts}
use Rattle.season_book.specs.declared.shown.ShownEntryGameweek.{ShownEntryGameweek}
use Rattle.season_book.specs.declared.shown.ShownMe.{ShownMe}
use Rattle.season_book.specs.EntryViews.{entry_gameweek_shown, gameweek_seen, me_shown, score_by, team_by, total_by}
use Rattle.season_book.specs.LeagueViews.{no_side, side_of}
use Rattle.season_views.specs.Entries.{me_with, net_by, score_with, total_since}

-- a choice whose test holds, and one whose test does not
pub chosen : {X : Type 0} (b : Bool) (x y : X) → b ≡ true → x ≡ (if b then x else y)
chosen b x y is = ap (λ c. if c then x else y) (sym is)

pub passed_over : {X : Type 0} (b : Bool) (x y : X) → b ≡ false → y ≡ (if b then x else y)
passed_over b x y is = ap (λ c. if c then x else y) (sym is)

pub not_both : {X : Type 0} (b : Bool) → b ≡ false → b ≡ true → X
not_both b off on = absurd (true≢false (sym on ∙ off))

-- the first gameweek of rows none of which is later than g is not later than g
pub first_up_to : (g first : ℕ) (rows : List Row) → Some first ≡ first_in rows → AllUpTo g rows → first ≤ g
first_up_to g first [] is up = absurd (none-some first (sym is))
first_up_to g first (r ∷ rows) is up = let e : r.gw ≡ first = same_Some r.gw first (sym is) in omega (arith, e, up.0)

-- a history has begun in each gameweek from its first on
pub begun_from : (h : List Event) (first g : ℕ) → FirstTold h (Some first) → first ≤ g → is_begun h g ≡ true
begun_from [] first g told le = not_both false refl told.0
begun_from (e ∷ h) first g told le = le-leb e.gw g (let at : first ≡ e.gw = told.1 in omega (arith, at))

pub begun_by : (h : List Event) (first g : ℕ) → start_of h ≡ Some first → first ≤ g → is_begun h g ≡ true
begun_by h first g start le = begun_from h first g ((first_is_the_start h (Some first)).1 (sym start)) le

module _ (facts : Facts) (h : List Event) (g : ℕ) (team : Team) (told : TeamTold (position_in facts.players) h g (Some team)) where
  is_team : team ≡ team_by facts h g
  is_team = ((team_is_the_one (position_in facts.players) h g team).0 told.1).1

  -- the score of the team that rows tell
  pub score_told : (cost : ℕ) (score : TeamScore) → cost ≡ cost_at facts.profile h g → score ≡ score_with facts team cost g → score ≡ score_by facts h g
  score_told cost score costs is =
      is ∙ ap (λ t. score_with facts t cost g) is_team ∙ ap (λ n. score_with facts (team_by facts h g) n g) costs

  -- and what is shown of it
  pub gameweek_told : (shown : ShownEntryGameweek) (score : TeamScore) → score ≡ score_by facts h g
      → shown ≡ record { players = map (λ pick. pick.player) team.picks; chip = team.chip; score = score }
      → Some shown ≡ (if is_begun h g then Some (entry_gameweek_shown facts h g) else None)
  gameweek_told shown score is made =
      let with : Team → TeamScore → ShownEntryGameweek = λ t s. record { players = map (λ pick. pick.player) t.picks; chip = t.chip; score = s } in
      ap Some (made ∙ ap (λ t. with t score) is_team ∙ ap (with (team_by facts h g)) is)
      ∙ chosen (is_begun h g) (Some (entry_gameweek_shown facts h g)) None told.0

  pub me_told : (e last cost : ℕ) (free : Option ℕ) (total : ℤ) (me : ShownMe) → g ≡ gameweek_seen facts.calendar → is_started h ≡ true
      → FreeTold facts.profile h g free → cost ≡ cost_at facts.profile h g → total ≡ total_by facts h → me ≡ me_with facts e last team free cost total
      → Some me ≡ (if is_started h then Some (me_shown facts h e last) else None)
  me_told e last cost free total me seen started frees costs totals is =
      let at : ℕ → ShownMe = λ w. me_with facts e last (team_by facts h w) (told_free facts.profile h w) (cost_at facts.profile h w) (total_by facts h) in
      ap Some (
      is
      ∙ ap (λ t. me_with facts e last t free cost total) is_team
      ∙ ap (λ o. me_with facts e last (team_by facts h g) o cost total) ((free_is_told facts.profile h g free).0 frees)
      ∙ ap (λ n. me_with facts e last (team_by facts h g) (told_free facts.profile h g) n total) costs
      ∙ ap (λ z. me_with facts e last (team_by facts h g) (told_free facts.profile h g) (cost_at facts.profile h g) z) totals
      ∙ ap at seen)
      ∙ chosen (is_started h) (Some (me_shown facts h e last)) None started

-- the points of a gameweek in which a history has begun are those of its score
pub net_begun : (facts : Facts) (h : List Event) (g : ℕ) → is_begun h g ≡ true → net_by facts h g ≡ (score_by facts h g).net
net_begun facts h g begun = ap (λ (b : Bool). (if b then side_of (score_by facts h g) else no_side).net) begun

nets_begun : (facts : Facts) (h : List Event) (first from count : ℕ) → start_of h ≡ Some first → first ≤ from
    → map (net_by facts h) (range_with_len from count) ≡ map (λ g. (score_by facts h g).net) (range_with_len from count)
nets_begun facts h first from zero start le = refl
nets_begun facts h first from (suc n) start le =
    let nets : List ℤ = map (net_by facts h) (range_with_len (from + 1) n) in
    ap (λ z. z ∷ nets) (net_begun facts h from (begun_by h first from start le))
    ∙ ap (λ rest. (score_by facts h from).net ∷ rest) (nets_begun facts h first (from + 1) n start (omega (arith, le)))

-- from the first gameweek of a season on it is that over all
pub total_whole : (facts : Facts) (h : List Event) (first : ℕ) (total : ℤ) → start_of h ≡ Some first → total ≡ total_since facts h 1 → total ≡ total_by facts h
total_whole facts h first total start is =
    let net : ℕ → ℤ = λ g. (score_by facts h g).net in
    let locked : ℕ = facts.calendar.locked in
    is ∙ ap (λ o. total_from (net_by facts h) 1 o locked) start
    ∙ ap total_of (nets_begun facts h first (max 1 first) ((locked + 1) - max 1 first) start (omega arith))
    ∙ ap (λ o. total_from net 1 o locked) (sym start)
