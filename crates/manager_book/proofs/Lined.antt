-- The fifteen in another order.
use Rattle.std.proofs.Common.{◌≡◌, ◌≢◌, ◌<◌, ◌≤◌, ◌+◌, ◌∷◌, [], ◌++◌, ℕ, zero, suc, Bool, true, false, cond, not, ◌||◌, List, Option, Some, None, Result, Ok, Err, IfOk, length, map, take, drop, set, get_or, arith, refl, sym, ap, ◌∙◌, subst, ⊎_elim, nat_eq}
use Rattle.std.specs.List.{AllByRecursion as Each, flat_map}
use Rattle.std.specs.Prelude.{find, All, AllPairs}
use Rattle.std.specs.Option.{option_to_list}
use Rattle.std.proofs.lemmas.Bool.Decides.{nat_tests}
use Rattle.std.proofs.lemmas.Bool.{cases_eq}
use Rattle.std.proofs.lemmas.List.{take_more, take_more_set, drop_more}
use Rattle.std.proofs.lemmas.List.Elements.{All-head, All-tail}
use Rattle.std.proofs.lemmas.List.{append-nil}
use Rattle.std.proofs.lemmas.List.Concat.{flat_map-append}
use Rattle.fpl_base.specs.declared.kinds.Position.{Position}
use Rattle.fpl_base.specs.declared.rule.Rule.{Rule}
use Rattle.rule_book.specs.declared.team.Pick.{Pick}
use Rattle.rule_book.specs.declared.team.Team.{Team}
use Rattle.rule_book.specs.Batch.{is_held, pick_of, AreDifferent}
use Rattle.rule_book.specs.EntryRecords.{price_among}
use Rattle.rule_book.specs.History.{Holding, Event, kept}
use Rattle.rule_book.specs.HistoryRules.{times}
use Rattle.rule_book.specs.HistorySquad.{order_of, bought_at}
use Rattle.rule_book.specs.HistoryTeam.{holdings, is_held as is_holding, IsTeam, TeamTold}
use Rattle.squad_rules.proofs.Legal.{apart_when}
use Rattle.season_ledger.specs.declared.row.Row.{Row}
use Rattle.season_ledger.specs.declared.row.Standing.{Standing}
use Rattle.season_ledger.specs.Rows.{IsFitTeam, FitsIn, standing_at, team_in}
use Rattle.season_ledger.specs.Batches.{rearranged, AfterLineup, LineupOn}
use Rattle.season_ledger.specs.Stands.{IsPlaced, StandsFor}
use Rattle.season_ledger.proofs.Pigeons.{pigeons}
use Rattle.rule_book.specs.EntryCalls.{first_stranger, lined_picks}
use Rattle.manager_book.specs.Calls.{IsLined, IsLineupOf}

-- one more of the order
abbrev found_of : (ℕ → Option Pick) → List ℕ → List Pick
found_of f order = flat_map (λ p. option_to_list (f p)) order

pub found_more : (f : ℕ → Option Pick) (lined : List Pick) (order : List ℕ) (i : ℕ) (k : Pick) → i < length lined → i < length order → take i lined ≡ found_of f (take i order) → f (get_or order i 0) ≡ Some k
    → take (i + 1) (set lined i k) ≡ found_of f (take (i + 1) order)
found_more f lined order i k lk lo h e = take_more_set lined i k lk ∙ ap (λ l. l ++ k ∷ []) h
    ∙ ap (λ o. found_of f (take i order) ++ option_to_list o) (sym e)
    ∙ ap (λ l. found_of f (take i order) ++ l) (sym (append-nil (option_to_list (f (get_or order i 0)))))
    ∙ sym (flat_map-append (λ p. option_to_list (f p)) (take i order) (get_or order i 0 ∷ []))
    ∙ ap (found_of f) (sym (take_more order i 0 lo))

pub lined_more : (picks lined : List Pick) (order : List ℕ) (i : ℕ) (k : Pick) → i < length lined → i < length order → take i lined ≡ lined_picks picks (take i order) → pick_of picks (get_or order i 0) ≡ Some k
    → take (i + 1) (set lined i k) ≡ lined_picks picks (take (i + 1) order)
lined_more picks lined order i k lk lo h e = found_more (pick_of picks) lined order i k lk lo h e

-- who is found is held
pub found_held : (picks : List Pick) (p : ℕ) (k : Pick) → pick_of picks p ≡ Some k → is_held picks p ≡ true
found_held [] p k e = cc
found_held (x ∷ picks) p k e = step (nat_eq x.player p) (λ f. found_held picks p k f) e
  where
    step : (b : Bool) → (pick_of picks p ≡ Some k → is_held picks p ≡ true) → cond b (Some x) (pick_of picks p) ≡ Some k → (b || is_held picks p) ≡ true
    step true ih e = refl
    step false ih e = ih e

pub lost_held : (picks : List Pick) (p : ℕ) → pick_of picks p ≡ None → is_held picks p ≡ false
lost_held [] p e = refl
lost_held (x ∷ picks) p e = step (nat_eq x.player p) (λ f. lost_held picks p f) e
  where
    step : (b : Bool) → (pick_of picks p ≡ None → is_held picks p ≡ false) → cond b (Some x) (pick_of picks p) ≡ None → (b || is_held picks p) ≡ false
    step true ih e = cc
    step false ih e = ih e

-- the first who is not held, from a place on
pub not_held_here : (picks : List Pick) (order : List ℕ) (i : ℕ) → i < length order → pick_of picks (get_or order i 0) ≡ None → first_stranger picks (drop i order) ≡ Some (get_or order i 0)
not_held_here picks order i lt e = let h : is_held picks (get_or order i 0) ≡ false = lost_held picks (get_or order i 0) e in ap (first_stranger picks) (drop_more order i 0 lt) ∙ (rw h refl)

pub not_held_more : (picks : List Pick) (order : List ℕ) (i : ℕ) (k : Pick) → i < length order → pick_of picks (get_or order i 0) ≡ Some k → first_stranger picks (drop (i + 1) order) ≡ first_stranger picks (drop i order)
not_held_more picks order i k lt e = let h : is_held picks (get_or order i 0) ≡ true = found_held picks (get_or order i 0) k e in sym (ap (first_stranger picks) (drop_more order i 0 lt) ∙ (rw h refl))

-- all are held where none is not
all_held : (picks : List Pick) (order : List ℕ) → first_stranger picks order ≡ None → Each (λ p. is_held picks p ≡ true) order
all_held picks [] e = tt
all_held picks (p ∷ order) e = (here (is_held picks p) e, all_held picks order (rest (is_held picks p) e))
  where
    here : (b : Bool) → cond (not b) (Some p) (first_stranger picks order) ≡ None → b ≡ true
    here true e = refl
    here false e = cc

    rest : (b : Bool) → cond (not b) (Some p) (first_stranger picks order) ≡ None → first_stranger picks order ≡ None
    rest true e = e
    rest false e = cc

-- a held player's pick
record IsPickOf (picks : List Pick) (p : ℕ) (k : Pick) : Type 0 where
  found : pick_of picks p ≡ Some k
  player : k.player ≡ p
  price : k.bought ≡ price_among p (holdings picks)

pick_there : (picks : List Pick) (p : ℕ) → is_held picks p ≡ true → (k : Pick) × IsPickOf picks p k
pick_there [] p h = cc
pick_there (x ∷ picks) p h = ⊎_elim
    (λ (e : x.player ≡ p). let t : nat_eq x.player p ≡ true = grind (arith, nat_tests) in (x, record { found = (rw t refl); player = e; price = (rw t refl) }))
    (λ (n : x.player ≢ p). let t : nat_eq x.player p ≡ false = grind (arith, nat_tests) in let i = pick_there picks p (rw t at h) in (i.0, record { found = (rw t i.1.found); player = i.1.player; price = (rw t i.1.price) }))
    (cases_eq x.player p)

-- what each has, a found one has
pub find_has : {A : Type 0} (P : A → Type 0) (test : A → Bool) (xs : List A) (x : A) → Each P xs → find test xs ≡ Some x → P x
find_has P test [] x h e = cc
find_has P test (y ∷ ys) x h e = step (test y) (λ f. find_has P test ys x h.1 f) e
  where
    step : (b : Bool) → (find test ys ≡ Some x → P x) → cond b (Some y) (find test ys) ≡ Some x → P x
    step true ih e = let s : y ≡ x = cc in subst P s h.0
    step false ih e = ih e

lined_has : (P : Pick → Type 0) (picks : List Pick) (order : List ℕ) → Each P picks → Each P (lined_picks picks order)
lined_has P picks [] h = tt
lined_has P picks (p ∷ order) h = step (pick_of picks p) refl (lined_has P picks order h)
  where
    step : (o : Option Pick) → pick_of picks p ≡ o → Each P (lined_picks picks order) → Each P (option_to_list o ++ lined_picks picks order)
    step None e i = i
    step (Some k) e i = (find_has P (λ j. nat_eq j.player p) picks k h e, i)

lined_players : (picks : List Pick) (order : List ℕ) → Each (λ p. is_held picks p ≡ true) order → map (λ k. k.player) (lined_picks picks order) ≡ order
lined_players picks [] h = refl
lined_players picks (p ∷ order) h = let t = pick_there picks p h.0 in let f : pick_of picks p ≡ Some t.0 = t.1.found in let i : map (λ k. k.player) (lined_picks picks order) ≡ order = lined_players picks order h.1 in
    rw f (ap (λ x. x ∷ map (λ k. k.player) (lined_picks picks order)) t.1.player ∙ ap (λ l. p ∷ l) i)

abbrev held_at : ℕ → ℕ → Holding
held_at p b = record { player = p; bought = b }

lined_holdings : (picks : List Pick) (order : List ℕ) → Each (λ p. is_held picks p ≡ true) order → holdings (lined_picks picks order) ≡ rearranged order (holdings picks)
lined_holdings picks [] h = refl
lined_holdings picks (p ∷ order) h = let t = pick_there picks p h.0 in let f : pick_of picks p ≡ Some t.0 = t.1.found in let i : holdings (lined_picks picks order) ≡ rearranged order (holdings picks) = lined_holdings picks order h.1 in
    rw f (ap (λ x. held_at x t.0.bought ∷ holdings (lined_picks picks order)) t.1.player ∙ ap (λ x. held_at p x ∷ holdings (lined_picks picks order)) t.1.price ∙ ap (λ l. held_at p (price_among p (holdings picks)) ∷ l) i)

-- no player twice
none_of : (x : ℕ) (xs : List ℕ) → All (λ y. x ≢ y) xs → times x xs ≡ 0
none_of x [] a = refl
none_of x (y ∷ ys) a = let n : x ≢ y = All-head (λ z. x ≢ z) y ys a in let f : nat_eq y x ≡ false = grind (arith, nat_tests) in let i : times x ys ≡ 0 = none_of x ys (All-tail (λ z. x ≢ z) y ys a) in rw (f, i) refl

pub apart_times : (xs : List ℕ) → AllPairs (λ one other. one ≢ other) xs → (p : ℕ) → times p xs ≤ 1
apart_times [] a p = omega arith
apart_times (x ∷ xs) a p = ⊎_elim
    (λ (e : x ≡ p). let z : times x xs ≡ 0 = none_of x xs (λ k d l. a 0 (suc k) d (omega arith) (omega arith)) in let y : times p xs ≡ 0 = subst (λ q. times q xs ≡ 0) e z in let t : nat_eq x p ≡ true = grind (arith, nat_tests) in rw t (omega arith))
    (λ (n : x ≢ p). let t : nat_eq x p ≡ false = grind (arith, nat_tests) in let i : times p xs ≤ 1 = apart_times xs (λ i j d l m. a (suc i) (suc j) d (omega arith) (omega arith)) p in rw t (omega arith))
    (cases_eq x p)

players_length : (picks : List Pick) → length (map (λ (x : Pick). x.player) picks) ≡ length picks
players_length [] = refl
players_length (k ∷ picks) = ap suc (players_length picks)

get_map : (picks : List Pick) (i : ℕ) (d : Pick) (e : ℕ) → i < length picks → get_or (map (λ k. k.player) picks) i e ≡ (get_or picks i d).player
get_map [] i d e l = absurd (omega arith)
get_map (k ∷ picks) zero d e l = refl
get_map (k ∷ picks) (suc i) d e l = get_map picks i d e (omega arith)

pub players_apart : (picks : List Pick) → AreDifferent picks → AllPairs (λ one other. one ≢ other) (map (λ k. k.player) picks)
players_apart [] a i j e l m = absurd (omega arith)
players_apart (k ∷ picks) a i j e l m =
    let n : length (map (λ (x : Pick). x.player) (k ∷ picks)) ≡ length (k ∷ picks) = players_length (k ∷ picks) in
    let mj : j < length (k ∷ picks) = omega (arith, n, m) in let mi : i < length (k ∷ picks) = omega (arith, mj, l) in
    rw (get_map (k ∷ picks) i k e mi, get_map (k ∷ picks) j k e mj) (a i j k l mj)

pub apart_players : (picks : List Pick) → AllPairs (λ one other. one ≢ other) (map (λ k. k.player) picks) → AreDifferent picks
apart_players picks a i j d l m =
    let n : length (map (λ (x : Pick). x.player) picks) ≡ length picks = players_length picks in
    let mi : i < length picks = omega (arith, l, m) in
    rw (← get_map picks i d 0 mi, ← get_map picks j d 0 m) (a i j 0 l (omega (arith, n, m)))

-- held as many times as there
held_times : (p : ℕ) (picks : List Pick) → times p (map (λ k. k.player) picks) ≤ 1 → times p (map (λ k. k.player) picks) ≡ cond (is_holding p (holdings picks)) 1 0
held_times p [] a = refl
held_times p (k ∷ picks) a = ⊎_elim
    (λ (e : k.player ≡ p). let t : nat_eq k.player p ≡ true = grind (arith, nat_tests) in let b : 1 + times p (map (λ j. j.player) picks) ≤ 1 = rw t at a in let z : times p (map (λ j. j.player) picks) ≡ 0 = omega arith in rw (t, z) refl)
    (λ (n : k.player ≢ p). let t : nat_eq k.player p ≡ false = grind (arith, nat_tests) in let b : 0 + times p (map (λ j. j.player) picks) ≤ 1 = rw t at a in let i : times p (map (λ j. j.player) picks) ≡ cond (is_holding p (holdings picks)) 1 0 = held_times p picks (omega arith) in rw t (omega arith))
    (cases_eq k.player p)

held_some : (p : ℕ) (picks : List Pick) → is_held picks p ≡ true → 0 < times p (map (λ k. k.player) picks)
held_some p [] h = cc
held_some p (k ∷ picks) h = ⊎_elim
    (λ (e : k.player ≡ p). let t : nat_eq k.player p ≡ true = grind (arith, nat_tests) in rw t (omega arith))
    (λ (n : k.player ≢ p). let t : nat_eq k.player p ≡ false = grind (arith, nat_tests) in let i : 0 < times p (map (λ j. j.player) picks) = held_some p picks (rw t at h) in omega arith)
    (cases_eq k.player p)

some_held : (picks : List Pick) (order : List ℕ) (p : ℕ) → Each (λ q. is_held picks q ≡ true) order → 0 < times p order → is_held picks p ≡ true
some_held picks [] p h l = absurd (omega arith)
some_held picks (q ∷ order) p h l = ⊎_elim
    (λ (e : q ≡ p). subst (λ r. is_held picks r ≡ true) e h.0)
    (λ (n : q ≢ p). let t : nat_eq q p ≡ false = grind (arith, nat_tests) in let k : 0 < 0 + times p order = rw t at l in some_held picks order p h.1 (omega arith))
    (cases_eq q p)

-- a team in another order is the fifteen again
pub after_lined : (order : List ℕ) (c v : ℕ) (t u : Team) → length order ≡ 15 → length t.picks ≡ 15 → IsFitTeam t → IsLined order c v t u → AfterLineup (map (λ k. k.player) u.picks) u.captain u.vice t u
after_lined order c v t u lo lk f l =
    let held : Each (λ p. is_held t.picks p ≡ true) order = all_held t.picks order l.held in
    let ps : map (λ k. k.player) u.picks ≡ order = ap (map (λ (k : Pick). k.player)) l.picks ∙ lined_players t.picks order held in
    let one : (p : ℕ) → times p (map (λ k. k.player) t.picks) ≤ 1 = apart_times (map (λ k. k.player) t.picks) (players_apart t.picks f.different) in
    let same : (p : ℕ) → times p order ≡ cond (is_holding p (holdings t.picks)) 1 0 = λ p. (pigeons order (map (λ k. k.player) t.picks) (apart_times order (apart_when order l.once)) (λ q x. held_some q t.picks (some_held t.picks order q held x)) (lo ∙ sym (players_length t.picks ∙ lk)) p ∙ held_times p t.picks (one p)) in
    record {
      same = λ p. (rw ps (same p));
      squad = ap holdings l.picks ∙ lined_holdings t.picks order held ∙ ap (λ r. rearranged r (holdings t.picks)) (sym ps);
      captain = refl;
      vice = refl;
      bank = l.bank;
      chip = l.chip;
    }

pub lined_order : (order : List ℕ) (c v : ℕ) (t u : Team) → IsLined order c v t u → map (λ k. k.player) u.picks ≡ order
lined_order order c v t u l = ap (map (λ (k : Pick). k.player)) l.picks ∙ lined_players t.picks order (all_held t.picks order l.held)

pub fit_lined : (order : List ℕ) (c v : ℕ) (t u : Team) → IsFitTeam t → IsLined order c v t u → IsFitTeam u
fit_lined order c v t u f l = record {
  different = apart_players u.picks (subst (AllPairs (λ one other. one ≢ other)) (sym (lined_order order c v t u l)) (apart_when order l.once));
  priced = subst (Each (λ k. k.bought ≤ 200)) (sym l.picks) (lined_has (λ k. k.bought ≤ 200) t.picks order f.priced);
}

pub placed_each : (position : ℕ → Position) (ks : List Pick) → IsPlaced position ks → Each (λ k. k.position ≡ position k.player) ks
placed_each position [] h = tt
placed_each position (k ∷ ks) h = (h.0, placed_each position ks h.1)

pub each_placed : (position : ℕ → Position) (ks : List Pick) → Each (λ k. k.position ≡ position k.player) ks → IsPlaced position ks
each_placed position [] h = tt
each_placed position (k ∷ ks) h = (h.0, each_placed position ks h.1)

pub placed_lined : (position : ℕ → Position) (order : List ℕ) (c v : ℕ) (t u : Team) → IsPlaced position t.picks → IsLined order c v t u → IsPlaced position u.picks
placed_lined position order c v t u p l = subst (IsPlaced position) (sym l.picks) (each_placed position (lined_picks t.picks order) (lined_has (λ k. k.position ≡ position k.player) t.picks order (placed_each position t.picks p)))

-- the picks of a history's team are placed
pub team_placed : (position : ℕ → Position) (h : List Event) (g : ℕ) (t : Team) → IsTeam position h g t → IsPlaced position t.picks
team_placed position h g t i = subst (IsPlaced position) (sym i.picks) (walk (kept h g) (order_of (kept h g)))
  where
    walk : (es : List Event) (ps : List ℕ) → IsPlaced position (map {B = Pick} (λ p. record { player = p; position = position p; bought = bought_at es p }) ps)
    walk es [] = tt
    walk es (p ∷ ps) = (refl, walk es ps)

-- the team that stands, lined up
pub lineup_on : (o : Option Standing) (order : List ℕ) (c v : ℕ) (s : Standing) (u : Team) → o ≡ Some s → length order ≡ 15 → length s.team.picks ≡ 15 → IsFitTeam s.team → IsLined order c v s.team u → LineupOn o u
lineup_on o order c v s u e lo lk f l = subst (λ x. LineupOn x u) (sym e) (after_lined order c v s.team u lo lk f l)

-- what a history says of the team that stands
pub placed_of : (position : ℕ → Position) (h : List Event) (g : ℕ) (o : Option Standing) (s : Standing) → o ≡ Some s → TeamTold position h g (team_in o) → IsPlaced position s.team.picks
placed_of position h g o s e t = let i : TeamTold position h g (Some s.team) = subst (λ x. TeamTold position h g (team_in x)) e t in team_placed position h g s.team i.1

-- what an order of the team that stands comes to
pub lineup_of : (g : ℕ) (order : List ℕ) (c v : ℕ) (rows : List Row) (s : Standing) (r : Result Team Rule)
    → standing_at rows g ≡ Some s → FitsIn g (Some s) → ((position : ℕ → Position) (h : List Event) → StandsFor position rows h → TeamTold position h g (Some s.team))
    → length order ≡ 15 → length s.team.picks ≡ 15 → IfOk r (IsLined order c v s.team) → IfOk r (IsLineupOf g order c v rows)
lineup_of g order c v rows s (Err e) at fit told lo lk l = tt
lineup_of g order c v rows s (Ok u) at fit told lo lk l = record {
  before = s.team;
  stood = ap team_in at;
  lined = l;
  named = lined_order order c v s.team u l;
  on = lineup_on (standing_at rows g) order c v s u at lo lk fit.team l;
  fit = fit_lined order c v s.team u fit.team l;
  placed = λ position h st. placed_lined position order c v s.team u (placed_of position h g (Some s) s refl (told position h st)) l;
}
