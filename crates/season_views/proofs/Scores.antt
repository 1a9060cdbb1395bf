-- What cells hold of an entry's gameweek is what is shown of its histories.
use Rattle.std.proofs.Common.{◌≡◌, ◌≤◌, ◌-◌, ◌&&◌, ℕ, zero, suc, Bool, true, false, true≢false, List, [], ◌∷◌, length, Option, Some, None, nat_le, pos, slice_index_or, arith, refl, sym, ap, ◌∙◌, if◌then◌else◌}
use Rattle.std.specs.Option.{option_map_or, unwrap_or}
use Rattle.std.proofs.Math.Bool.{and-true}
use Rattle.std.proofs.lemmas.Bool.{le-leb}
use Rattle.std.proofs.lemmas.Bool.Decides.{nat_tests}
use Rattle.rule_book.specs.declared.cup.Bracket.{Bracket}
use Rattle.rule_book.specs.declared.team.Team.{Team}
use Rattle.rule_book.specs.History.{Event}
use Rattle.rule_book.specs.HistoryRules.{FirstTold}
use Rattle.rule_book.specs.HistoryTeam.{TeamTold, is_begun}
use Rattle.rule_book.specs.HistoryTransfers.{cost_at}
use Rattle.rule_book.specs.Leagues.{LeagueFacts}
use Rattle.rule_book.specs.PlayerFigures.{position_in}
use Rattle.season_ledger.specs.Rows.{cost_by, first_in}
use Rattle.season_ledger.specs.Stands.{Tell}
use Rattle.manager_book.specs.declared.manager.Manager.{Manager}
use Rattle.manager_book.specs.Calls.{team_at}
use Rattle.manager_book.specs.Managers.{Managers, nobody, season_of}
use Rattle.season_graph.specs.Told.{gameweek_score, net_told, side_told}
use Rattle.season_nodes.specs.BookFacts.{no_team}
use Rattle.season_nodes.specs.Season.{has_begun, is_live}
use Rattle.season_nodes.specs.declared.nodes.Node.TheVariants as node
use Rattle.season_book.specs.Book.{Facts}
use Rattle.season_book.specs.EntryViews.{score_by}
use Rattle.season_book.specs.LeagueViews.{no_side, side_by, side_of}
use Rattle.season_views.specs.Cells.{books_seen}
use Rattle.season_views.specs.Entries.{net_by, score_with}
use Rattle.season_views.proofs.Told.{not_both, score_told}

-- a history has begun from the first gameweek on that is told of it
pub begun_told : (h : List Event) (first : Option ℕ) (g : ℕ) → FirstTold h first → option_map_or (λ f. nat_le f g) first false ≡ is_begun h g
begun_told [] None g told = refl
begun_told [] (Some f) g told = absurd (true≢false (sym told.0))
begun_told (e ∷ h) None g told = absurd (true≢false told)
begun_told (e ∷ h) (Some f) g told = ap (λ n. nat_le n g) told.1

-- nobody stands behind the managers
past : (managers : List Manager) (k : ℕ) → length managers ≤ k → slice_index_or managers k nobody ≡ nobody
past [] zero le = refl
past [] (suc k) le = refl
past (m ∷ managers) zero le = absurd (omega (arith, le))
past (m ∷ managers) (suc k) le = past managers k (omega (arith, le))

behind : (n e : ℕ) → 1 ≤ e → nat_le e n ≡ false → n ≤ e - 1
behind n e one not = grind (arith, nat_tests, one, not)

unissued : (managers : Managers) (e : ℕ) → 1 ≤ e → nat_le e (length managers.managers) ≡ false → first_in (season_of managers e) ≡ None
unissued managers e one not = ap (λ (m : Manager). first_in m.season) (past managers.managers (e - 1) (behind (length managers.managers) e one not))

issued_case : (issued : Bool) (first : Option ℕ) (g : ℕ) → (issued ≡ false → first ≡ None)
    → (issued && option_map_or (λ f. nat_le f g) first false) ≡ option_map_or (λ f. nat_le f g) first false
issued_case true first g none = refl
issued_case false first g none = sym (ap (λ o. option_map_or (λ f. nat_le f g) o false) (none refl))

module _ (facts : Facts) (managers : Managers) (leagues : List LeagueFacts) (cups : List Bracket) (e : ℕ) (h : List Event) (issued : 1 ≤ e) (tell : Tell (position_in facts.players) (season_of managers e) h) where
  -- an entry has begun where its history has
  pub begun_is : (g : ℕ) → has_begun (books_seen facts managers leagues cups) e g ≡ is_begun h g
  begun_is g =
      let there : Bool = nat_le e (length managers.managers) in
      let first : Option ℕ = first_in (season_of managers e) in
      ap (λ b. (b && there) && option_map_or (λ f. nat_le f g) first false) (le-leb 1 e issued)
      ∙ issued_case there first g (unissued managers e issued)
      ∙ begun_told h first g tell.first

  -- and its gameweek is live there
  live_is : (g : ℕ) → 1 ≤ g → g ≤ facts.calendar.locked → is_live (books_seen facts managers leagues cups) (node.TeamGw e g) ≡ is_begun h g
  live_is g one locked =
      ap (λ b. b && (nat_le 1 g && nat_le g facts.calendar.locked)) (begun_is g)
      ∙ ap (λ b. is_begun h g && (b && nat_le g facts.calendar.locked)) (le-leb 1 g one)
      ∙ ap (λ b. is_begun h g && b) (le-leb g facts.calendar.locked locked)
      ∙ and-true (is_begun h g)

  module _ (profile : managers.profile ≡ facts.profile) where
    by_team : (g : ℕ) (team : Option Team) → team_at (season_of managers e) g ≡ team → TeamTold (position_in facts.players) h g team → is_begun h g ≡ true
        → gameweek_score (books_seen facts managers leagues cups) e g ≡ score_by facts h g
    by_team g None at told begun = not_both (is_begun h g) told begun
    by_team g (Some team) at told begun =
        let cost : ℕ = cost_by managers.profile (season_of managers e) g in
        score_told facts h g team told cost (gameweek_score (books_seen facts managers leagues cups) e g)
        (tell.cost managers.profile g ∙ ap (λ p. cost_at p h g) profile)
        (ap (λ o. score_with facts (unwrap_or o no_team) cost g) at)

    -- what is told of it is the score of its history
    pub scored : (g : ℕ) → is_begun h g ≡ true → gameweek_score (books_seen facts managers leagues cups) e g ≡ score_by facts h g
    scored g begun = by_team g (team_at (season_of managers e) g) refl (tell.team g) begun

    begun_case : (g : ℕ) (begun : Bool) → is_begun h g ≡ begun
        → (if begun then Some (gameweek_score (books_seen facts managers leagues cups) e g) else None) ≡ (if begun then Some (score_by facts h g) else None)
    begun_case g true is = ap Some (scored g is)
    begun_case g false is = refl

    -- and so what its cell holds
    pub score_is : (g : ℕ) → 1 ≤ g → g ≤ facts.calendar.locked
        → (if is_live (books_seen facts managers leagues cups) (node.TeamGw e g) then Some (gameweek_score (books_seen facts managers leagues cups) e g) else None)
        ≡ (if is_begun h g then Some (score_by facts h g) else None)
    score_is g one locked =
        ap (λ b. if b then Some (gameweek_score (books_seen facts managers leagues cups) e g) else None) (live_is g one locked)
        ∙ begun_case g (is_begun h g) refl

    side_case : (g : ℕ) (begun : Bool) → is_begun h g ≡ begun
        → (if begun then side_of (gameweek_score (books_seen facts managers leagues cups) e g) else no_side) ≡ (if begun then side_of (score_by facts h g) else no_side)
    side_case g true is = ap side_of (scored g is)
    side_case g false is = refl

    -- what it gives to a tie
    pub side_is : (g : ℕ) → 1 ≤ g → g ≤ facts.calendar.locked → side_told (books_seen facts managers leagues cups) e g ≡ side_by facts h g
    side_is g one locked =
        ap (λ b. if b then side_of (gameweek_score (books_seen facts managers leagues cups) e g) else no_side) (live_is g one locked)
        ∙ side_case g (is_begun h g) refl

    net_case : (g : ℕ) (begun : Bool) → is_begun h g ≡ begun
        → (if begun then (gameweek_score (books_seen facts managers leagues cups) e g).net else pos 0) ≡ (if begun then side_of (score_by facts h g) else no_side).net
    net_case g true is = ap (λ score. score.net) (scored g is)
    net_case g false is = refl

    -- and its points
    pub net_is : (g : ℕ) → 1 ≤ g → g ≤ facts.calendar.locked → net_told (books_seen facts managers leagues cups) e g ≡ net_by facts h g
    net_is g one locked =
        ap (λ b. if b then (gameweek_score (books_seen facts managers leagues cups) e g).net else pos 0) (live_is g one locked)
        ∙ net_case g (is_begun h g) refl

-- a choice that gives nothing, or something
pub none_of : {X : Type 0} (b : Bool) (x : X) → None ≡ (if b then Some x else None) → b ≡ false
none_of true x is = cc
none_of false x is = refl
