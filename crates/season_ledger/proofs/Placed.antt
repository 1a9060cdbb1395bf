-- Positions: rows whose picks have the positions of their players, and the team of a history with positions.
use Rattle.std.proofs.Common.{◌≡◌, ◌∷◌, [], ℕ, Bool, true, false, cond, List, Option, Some, None, map, refl, sym, ap, ◌∙◌, subst, nat_eq}
use Rattle.fpl_base.specs.declared.kinds.Position.{Position}
use Rattle.fpl_base.specs.declared.kinds.Chip.TheVariants.{None as NoChip}
use Rattle.rule_book.specs.declared.team.Pick.{Pick}
use Rattle.rule_book.specs.History.{Holding, Event, kept}
use Rattle.rule_book.specs.HistorySquad.{order_of, bought_at, holdings_of, picks_of}
use Rattle.rule_book.specs.HistoryTransfers.{swaps_in}
use Rattle.rule_book.specs.HistoryTeam.{IsTeam, TeamTold, holding_of, holdings}
use Rattle.season_ledger.specs.declared.row.Standing.{Standing}
use Rattle.season_ledger.specs.declared.row.Row.{Row}
use Rattle.season_ledger.specs.Rows.{row_at, base_at, or_else, put_row, carried, standing_at, team_in, Rise}
use Rattle.season_ledger.specs.Stands.{IsPlaced, Tells, StandsFor}
use Rattle.season_ledger.proofs.Held.{IsHeld, Holds, Stands, StandingHeld}
use Rattle.season_ledger.proofs.Carry.{base_some}
use Rattle.season_ledger.proofs.Steps.{row_at-put}

-- holdings with positions put on
placed : (ℕ → Position) → List Holding → List Pick
placed position ks = map (λ k. record { player = k.player; position = position k.player; bought = k.bought }) ks

abbrev made_pick : ℕ → Position → ℕ → Pick
made_pick p x b = record { player = p; position = x; bought = b }

placed_back : (position : ℕ → Position) (ks : List Pick) → IsPlaced position ks → ks ≡ placed position (holdings ks)
unfolding placed
placed_back position [] h = refl
placed_back position (k ∷ ks) h = ap (λ x. made_pick k.player x k.bought ∷ ks) h.0 ∙ ap (λ l. made_pick k.player (position k.player) k.bought ∷ l) (placed_back position ks h.1)

placed_holdings : (position : ℕ → Position) (es : List Event) → placed position (holdings_of es) ≡ picks_of position es
unfolding placed
placed_holdings position es = walk (order_of es)
  where
    walk : (ps : List ℕ) → map (λ k. made_pick k.player (position k.player) k.bought) (map {B = Holding} (λ p. record { player = p; bought = bought_at es p }) ps) ≡ map (λ p. made_pick p (position p) (bought_at es p)) ps
    walk [] = refl
    walk (p ∷ ps) = ap (λ l. made_pick p (position p) (bought_at es p) ∷ l) (walk ps)

holdings_back : (position : ℕ → Position) (es : List Event) → holdings (picks_of position es) ≡ holdings_of es
holdings_back position es = walk (order_of es)
  where
    walk : (ps : List ℕ) → map holding_of (map (λ p. made_pick p (position p) (bought_at es p)) ps) ≡ map {B = Holding} (λ p. record { player = p; bought = bought_at es p }) ps
    walk [] = refl
    walk (p ∷ ps) = ap {B = List Holding} (λ l. record { player = p; bought = bought_at es p } ∷ l) (walk ps)

picks_placed : (position : ℕ → Position) (es : List Event) → IsPlaced position (picks_of position es)
picks_placed position es = walk (order_of es)
  where
    walk : (ps : List ℕ) → IsPlaced position (map (λ p. made_pick p (position p) (bought_at es p)) ps)
    walk [] = tt
    walk (p ∷ ps) = (refl, walk ps)

pub up : (position : ℕ → Position) (h : List Event) (g : ℕ) (s : Standing) → IsHeld h g s → IsPlaced position s.team.picks → IsTeam position h g s.team
up position h g s i p = record {
  picks = placed_back position s.team.picks p ∙ ap (placed position) i.squad ∙ placed_holdings position (kept h g);
  captain = i.captain;
  vice = i.vice;
  bank = i.bank;
  chip = i.chip;
}

down : (position : ℕ → Position) (h : List Event) (g : ℕ) (s : Standing) → IsTeam position h g s.team → s.made ≡ swaps_in h g → IsHeld h g s
down position h g s i n = record {
  squad = ap holdings i.picks ∙ holdings_back position (kept h g);
  captain = i.captain;
  vice = i.vice;
  bank = i.bank;
  chip = i.chip;
  made = n;
}

-- rows whose picks have the positions of their players
pub record RowsPlaced (position : ℕ → Position) (rows : List Row) : Type 0 where
  pub at : (g : ℕ) (s : Standing) → row_at rows g ≡ Some s → IsPlaced position s.team.picks

pub stands : (position : ℕ → Position) (rows : List Row) (h : List Event) → StandsFor position rows h → Stands rows h
stands position rows h st = record { history = st.history; held = record { told = λ g. one g (row_at rows g) (st.told g) } }
  where
    one : (g : ℕ) (o : Option Standing) → Tells position h g o → Holds h g o
    one g None t = t
    one g (Some s) t = (t.0, down position h g s t.1 t.2)

pub rows_placed : (position : ℕ → Position) (rows : List Row) (h : List Event) → StandsFor position rows h → RowsPlaced position rows
rows_placed position rows h st = record { at = λ g s e. (let t : Tells position h g (Some s) = subst (Tells position h g) e (st.told g) in subst (IsPlaced position) (sym t.1.picks) (picks_placed position (kept h g))) }

pub stands_for : (position : ℕ → Position) (rows : List Row) (h : List Event) → Rise rows → Stands rows h → RowsPlaced position rows → StandsFor position rows h
stands_for position rows h rise st p = record { rise = rise; history = st.history; told = λ g. one g (row_at rows g) refl (st.held.told g) }
  where
    one : (g : ℕ) (o : Option Standing) → row_at rows g ≡ o → Holds h g o → Tells position h g o
    one g None e t = t
    one g (Some s) e t = (t.0, up position h g s t.1 (p.at g s e), t.1.made)

-- a row written
pub placed_put : (position : ℕ → Position) (rows : List Row) (g : ℕ) (u : Standing) → RowsPlaced position rows → IsPlaced position u.team.picks → RowsPlaced position (put_row rows g u)
placed_put position rows g u p q = record { at = λ w s e. here w s (nat_eq g w) (sym (row_at-put rows g w u) ∙ e) }
  where
    here : (w : ℕ) (s : Standing) (b : Bool) → cond b (Some u) (row_at rows w) ≡ Some s → IsPlaced position s.team.picks
    here w s true e = let x : u ≡ s = cc in subst (λ (v : Standing). IsPlaced position v.team.picks) x q
    here w s false e = p.at w s e

-- what stands is placed
pub standing_placed : (position : ℕ → Position) (rows : List Row) (g : ℕ) (s : Standing) → Rise rows → RowsPlaced position rows → standing_at rows g ≡ Some s → IsPlaced position s.team.picks
standing_placed position rows g s rise p e = by_row (row_at rows g) (base_at rows g) refl refl e
  where
    by_row : (o : Option Standing) (k : Option Row) → row_at rows g ≡ o → base_at rows g ≡ k → or_else o (carried k) ≡ Some s → IsPlaced position s.team.picks
    by_row (Some t) k a b e = let x : t ≡ s = cc in subst (λ (v : Standing). IsPlaced position v.team.picks) x (p.at g t a)
    by_row None None a b e = cc
    by_row None (Some r) a b e = let i = base_some rows g r rise b in let x : record { made = 0; team = record r.standing.team { chip = NoChip } } ≡ s = cc in subst (λ (v : Standing). IsPlaced position v.team.picks) x (p.at r.gw r.standing i.there)

pub told_up : (position : ℕ → Position) (rows : List Row) (h : List Event) (g : ℕ) → StandsFor position rows h → StandingHeld h g (standing_at rows g) → TeamTold position h g (team_in (standing_at rows g))
told_up position rows h g st t = one (standing_at rows g) refl t
  where
    one : (o : Option Standing) → standing_at rows g ≡ o → StandingHeld h g o → TeamTold position h g (team_in o)
    one None e t = t
    one (Some s) e t = (t.0, up position h g s t.1 (standing_placed position rows g s st.rise (rows_placed position rows h st) e))
