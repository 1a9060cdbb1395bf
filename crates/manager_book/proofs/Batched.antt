-- A batch that was done to the team that stands.
use Rattle.std.proofs.Common.{◌≡◌, ◌≤◌, ◌+◌, ◌∷◌, [], ℕ, zero, suc, Bool, true, false, cond, ◌||◌, List, Option, Some, Result, Ok, Err, IfOk, length, map, arith, refl, sym, ap, ◌∙◌, subst, nat_eq}
use Rattle.std.specs.List.{AllByRecursion as Each}
use Rattle.std.specs.Prelude.{All}
use Rattle.std.proofs.lemmas.List.{length-map}
use Rattle.std.proofs.lemmas.List.Sums.{sum_by-cons}
use Rattle.fpl_base.specs.declared.kinds.Position.{Position}
use Rattle.fpl_base.specs.declared.rule.Rule.{Rule}
use Rattle.rule_book.specs.declared.player.Player.{Player}
use Rattle.rule_book.specs.declared.team.Pick.{Pick}
use Rattle.rule_book.specs.declared.team.Team.{Team}
use Rattle.rule_book.specs.declared.transfers.Sale.{Sale}
use Rattle.rule_book.specs.declared.transfers.Swap.{Swap}
use Rattle.rule_book.specs.Batch.{is_held, place_taken, place_given, GoOneByOne, AreDifferent, ArePlaced, HavePositions, IsTeamAfter, sale_of, sales_of, paid_by, earned_by}
use Rattle.rule_book.specs.EntryRecords.{swapped, after_sales, paid_for, earned_for}
use Rattle.rule_book.specs.History.{Event}
use Rattle.rule_book.specs.HistoryTeam.{TeamTold, holding_of, holdings, is_held as is_holding}
use Rattle.player_market.specs.Bounds.{IsCheap}
use Rattle.season_ledger.specs.declared.row.Row.{Row}
use Rattle.season_ledger.specs.declared.row.Standing.{Standing}
use Rattle.season_ledger.specs.Rows.{FitsIn, IsFitTeam, standing_at, team_in, used_by}
use Rattle.season_ledger.specs.Batches.{GoHeld, ComeFresh, BatchOn}
use Rattle.season_ledger.specs.Stands.{IsPlaced, StandsFor}
use Rattle.manager_book.specs.Calls.{IsBatchOf}
use Rattle.manager_book.proofs.Entries.{all_each}
use Rattle.manager_book.proofs.Lined.{placed_of}

held_same : (picks : List Pick) (p : ℕ) → is_holding p (holdings picks) ≡ is_held picks p
held_same [] p = refl
held_same (k ∷ picks) p = ap (λ b. nat_eq k.player p || b) (held_same picks p)

given_same : (s : Sale) (picks : List Pick) → holdings (map (place_given s) picks) ≡ map (swapped s) (holdings picks)
given_same s [] = refl
given_same s (k ∷ picks) = let i : holdings (map (place_given s) picks) ≡ map (swapped s) (holdings picks) = given_same s picks in
    ap (λ x. x ∷ holdings (map (place_given s) picks)) (one (nat_eq k.player s.out)) ∙ ap (λ l. swapped s (holding_of k) ∷ l) i
  where
    one : (b : Bool) → holding_of (cond b (place_taken k s) k) ≡ cond b (record { player = s.into; bought = s.bought }) (holding_of k)
    one true = refl
    one false = refl

one_by_one : (sales : List Sale) (old new : List Pick) → GoOneByOne sales old new → GoHeld sales (holdings old) × (ComeFresh sales (holdings old) × (holdings new ≡ after_sales sales (holdings old)))
one_by_one [] old new g = (tt, (tt, ap holdings g))
one_by_one (s ∷ sales) old new g =
    let r = one_by_one sales (map (place_given s) old) new g.2 in
    let e : holdings (map (place_given s) old) ≡ map (swapped s) (holdings old) = given_same s old in
    ((held_same old s.out ∙ g.0, subst (GoHeld sales) e r.0), ((held_same old s.into ∙ g.1, subst (ComeFresh sales) e r.1.0), r.1.1 ∙ ap (after_sales sales) e))

paid_same : (sales : List Sale) → paid_by sales ≡ paid_for sales
paid_same [] = refl
paid_same (s ∷ sales) = sum_by-cons (λ (x : Sale). x.bought) s sales ∙ ap (λ n. s.bought + n) (paid_same sales)

earned_same : (sales : List Sale) → earned_by sales ≡ earned_for sales
earned_same [] = refl
earned_same (s ∷ sales) = sum_by-cons (λ (x : Sale). x.sold) s sales ∙ ap (λ n. s.sold + n) (earned_same sales)

pub batch_on : (o : Option Standing) (s : Standing) (u : Team) (sales : List Sale) → o ≡ Some s → IsTeamAfter sales s.team u → GoOneByOne sales s.team.picks u.picks → BatchOn sales o u
batch_on o s u sales e a g = subst (λ x. BatchOn sales x u) (sym e) (let r = one_by_one sales s.team.picks u.picks g in record {
  go = r.0;
  come = r.1.0;
  squad = r.1.1;
  captain = a.captain;
  vice = a.vice;
  bank = (let x : u.bank + paid_by sales ≡ s.team.bank + earned_by sales = a.bank in let y : paid_by sales ≡ paid_for sales = paid_same sales in let z : earned_by sales ≡ earned_for sales = earned_same sales in omega arith);
  chip = a.chip;
})

-- the sales are cheap
pub sold_cheap : (sales : List Sale) → All IsCheap sales → Each (λ s. s.sold ≤ 200) sales
sold_cheap sales a = walk sales (all_each IsCheap sales a)
  where
    walk : (l : List Sale) → Each IsCheap l → Each (λ s. s.sold ≤ 200) l
    walk [] h = tt
    walk (s ∷ l) h = (h.0.0, walk l h.1)

given_cheap : (s : Sale) (picks : List Pick) → s.bought ≤ 200 → Each (λ k. k.bought ≤ 200) picks → Each (λ k. k.bought ≤ 200) (map (place_given s) picks)
given_cheap s [] b h = tt
given_cheap s (k ∷ picks) b h = (one (nat_eq k.player s.out), given_cheap s picks b h.1)
  where
    one : (c : Bool) → (let j : Pick = cond c (place_taken k s) k in j.bought) ≤ 200
    one true = b
    one false = h.0

all_cheap : (sales : List Sale) (old new : List Pick) → GoOneByOne sales old new → Each IsCheap sales → Each (λ k. k.bought ≤ 200) old → Each (λ k. k.bought ≤ 200) new
all_cheap [] old new g c h = subst (Each (λ k. k.bought ≤ 200)) (sym g) h
all_cheap (s ∷ sales) old new g c h = all_cheap sales (map (place_given s) old) new g.2 c.1 (given_cheap s old c.0.1 h)

pub fit_batch : (sales : List Sale) (t u : Team) → IsFitTeam t → GoOneByOne sales t.picks u.picks → (AreDifferent t.picks → AreDifferent u.picks) → All IsCheap sales → IsFitTeam u
fit_batch sales t u f g d c = record { different = d f.different; priced = all_cheap sales t.picks u.picks g (all_each IsCheap sales c) f.priced }

-- placed picks, in both words
pub placed_all : (position : ℕ → Position) (picks : List Pick) → IsPlaced position picks → ArePlaced position picks
placed_all position [] h i d l = absurd (omega arith)
placed_all position (k ∷ picks) h zero d l = h.0
placed_all position (k ∷ picks) h (suc i) d l = placed_all position picks h.1 i d (omega arith)

pub all_placed : (position : ℕ → Position) (picks : List Pick) → ArePlaced position picks → IsPlaced position picks
all_placed position picks a = walk picks (all_each (λ k. k.position ≡ position k.player) picks a)
  where
    walk : (l : List Pick) → Each (λ k. k.position ≡ position k.player) l → IsPlaced position l
    walk [] h = tt
    walk (k ∷ l) h = (h.0, walk l h.1)

-- what a batch comes to
pub batch_of : (g : ℕ) (players : List Player) (swaps : List Swap) (rows : List Row) (s : Standing) (r : Result (Team × List Sale) Rule)
    → standing_at rows g ≡ Some s → FitsIn g (Some s) → ((position : ℕ → Position) (h : List Event) → StandsFor position rows h → TeamTold position h g (Some s.team))
    → used_by rows g + length swaps ≤ 1000
    → IfOk r (λ done. done.1 ≡ sales_of players s.team.picks swaps) → IfOk r (λ done. IsTeamAfter done.1 s.team done.0) → IfOk r (λ done. GoOneByOne done.1 s.team.picks done.0.picks)
    → IfOk r (λ done. AreDifferent s.team.picks → AreDifferent done.0.picks)
    → IfOk r (λ done. (position : ℕ → Position) → HavePositions position players → ArePlaced position s.team.picks → ArePlaced position done.0.picks)
    → IfOk r (λ done. All IsCheap done.1)
    → IfOk r (λ done. IsBatchOf g players swaps rows done.1 done.0)
batch_of g players swaps rows s (Err e) at fit told few sold after one different placed cheap = tt
batch_of g players swaps rows s (Ok done) at fit told few sold after one different placed cheap = record {
  before = s.team;
  stood = ap team_in at;
  sold = sold;
  team = after;
  few = (let n : length done.1 ≡ length swaps = ap length sold ∙ length-map swaps (sale_of players s.team.picks) in omega arith);
  on = batch_on (standing_at rows g) s done.0 done.1 at after one;
  cheap = sold_cheap done.1 cheap;
  fit = fit_batch done.1 s.team done.0 fit.team one different cheap;
  placed = λ position h have st. all_placed position done.0.picks (placed position have (placed_all position s.team.picks (placed_of position h g (Some s) s refl (told position h st))));
}
