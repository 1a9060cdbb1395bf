-- What counts in a gameweek, as events come.
use Rattle.std.proofs.Common.{◌≡◌, ◌<◌, ◌≤◌, ◌≢◌, ◌∷◌, [], ◌++◌, ℕ, Bool, true, false, ◌||◌, List, arith, refl, ap, ◌∙◌, ⊎_elim, nat_eq, nat_lt}
use Rattle.std.specs.Prelude.{filter}
use Rattle.std.specs.List.{flat_map, AllByRecursion as Each}
use Rattle.std.proofs.lemmas.List.{append-nil}
use Rattle.std.proofs.lemmas.List.Concat.{flat_map-append}
use Rattle.std.proofs.lemmas.List.Elements.{filter-append, filter_agree}
use Rattle.std.proofs.lemmas.Bool.Decides.{nat_tests}
use Rattle.std.proofs.lemmas.Bool.{cases_lt}
use Rattle.rule_book.specs.History.{Deed, Event, last_of, chip_said, chip_said_in, chip_at, counts_in, kept, is_touched, in_gameweek}
use Rattle.fpl_base.specs.declared.kinds.Chip.TheVariants.{None as NoChip}
use Rattle.season_ledger.proofs.Lists.{filter_all, filter_none, last_of-append}

-- deeds of another gameweek say nothing of this one's chip
none_said : (g w : ℕ) (ds : List Deed) → w ≢ g → flat_map (chip_said_in w) (in_gameweek g ds) ≡ []
none_said g w [] ne = refl
none_said g w (d ∷ ds) ne = let e : flat_map (chip_said_in w) (in_gameweek g ds) ≡ [] = none_said g w ds ne in
    let f : nat_eq g w ≡ false = grind (arith, nat_tests) in rw (f, e)

pub chip_other : (h : List Event) (g w : ℕ) (ds : List Deed) → w ≢ g → chip_at (h ++ in_gameweek g ds) w ≡ chip_at h w
chip_other h g w ds ne = ap (last_of NoChip) (flat_map-append (chip_said_in w) h (in_gameweek g ds) ∙ ap (λ r. flat_map (chip_said_in w) h ++ r) (none_said g w ds ne) ∙ append-nil _)

said_here : (g : ℕ) (ds : List Deed) → flat_map (chip_said_in g) (in_gameweek g ds) ≡ flat_map chip_said ds
said_here g [] = refl
said_here g (d ∷ ds) = let e : flat_map (chip_said_in g) (in_gameweek g ds) ≡ flat_map chip_said ds = said_here g ds in
    let f : nat_eq g g ≡ true = grind (arith, nat_tests) in rw (f, e)

-- the chip after deeds of the gameweek
pub chip_here : (h : List Event) (g : ℕ) (ds : List Deed) → chip_at (h ++ in_gameweek g ds) g ≡ last_of (chip_at h g) (flat_map chip_said ds)
chip_here h g ds = ap (last_of NoChip) (flat_map-append (chip_said_in g) h (in_gameweek g ds) ∙ ap (λ r. flat_map (chip_said_in g) h ++ r) (said_here g ds)) ∙ last_of-append NoChip (flat_map (chip_said_in g) h) (flat_map chip_said ds)

-- up to the deeds' gameweek the same gameweeks count as before them
pub counts_before : (h : List Event) (g v w : ℕ) (ds : List Deed) → v ≤ g → counts_in (h ++ in_gameweek g ds) v w ≡ counts_in h v w
counts_before h g v w ds le = ⊎_elim
    (λ (lt : w < v). let ne : w ≢ g = omega arith in rw (chip_other h g w ds ne))
    (λ (ge : v ≤ w). let f : nat_lt w v ≡ false = grind (arith, nat_tests) in rw f)
    (cases_lt w v)

same_here : (g : ℕ) (ds : List Deed) (h : List Event) → Each (λ e. counts_in (h ++ in_gameweek g ds) g e.gw ≡ true) (in_gameweek g ds)
same_here g ds h = all_here ds
  where
    all_here : (es : List Deed) → Each (λ e. counts_in (h ++ in_gameweek g ds) g e.gw ≡ true) (in_gameweek g es)
    all_here [] = tt
    all_here (e ∷ es) = ((let f : nat_eq g g ≡ true = grind (arith, nat_tests) in rw f), all_here es)

-- the kept events of the gameweek grow by its deeds
pub kept_more : (h : List Event) (g : ℕ) (ds : List Deed) → kept (h ++ in_gameweek g ds) g ≡ kept h g ++ in_gameweek g ds
kept_more h g ds = filter-append (λ e. counts_in (h ++ in_gameweek g ds) g e.gw) h (in_gameweek g ds)
    ∙ ap (λ r. r ++ filter (λ e. counts_in (h ++ in_gameweek g ds) g e.gw) (in_gameweek g ds)) (filter_agree (λ e. counts_in (h ++ in_gameweek g ds) g e.gw) (λ e. counts_in h g e.gw) (λ e. counts_before h g g e.gw ds (omega arith)) h)
    ∙ ap (λ r. kept h g ++ r) (filter_all (λ e. counts_in (h ++ in_gameweek g ds) g e.gw) (in_gameweek g ds) (same_here g ds h))

none_before : (h : List Event) (g v : ℕ) (ds es : List Deed) → v < g → Each (λ e. counts_in (h ++ in_gameweek g ds) v e.gw ≡ false) (in_gameweek g es)
none_before h g v ds [] lt = tt
none_before h g v ds (e ∷ es) lt = ((let f : nat_eq g v ≡ false = grind (arith, nat_tests) in let k : nat_lt g v ≡ false = grind (arith, nat_tests) in rw (f, k)), none_before h g v ds es lt)

-- those of earlier gameweeks stay
pub kept_before : (h : List Event) (g v : ℕ) (ds : List Deed) → v < g → kept (h ++ in_gameweek g ds) v ≡ kept h v
kept_before h g v ds lt = filter-append (λ e. counts_in (h ++ in_gameweek g ds) v e.gw) h (in_gameweek g ds)
    ∙ ap (λ r. r ++ filter (λ e. counts_in (h ++ in_gameweek g ds) v e.gw) (in_gameweek g ds)) (filter_agree (λ e. counts_in (h ++ in_gameweek g ds) v e.gw) (λ e. counts_in h v e.gw) (λ e. counts_before h g v e.gw ds (omega arith)) h)
    ∙ ap (λ r. kept h v ++ r) (filter_none (λ e. counts_in (h ++ in_gameweek g ds) v e.gw) (in_gameweek g ds) (none_before h g v ds ds lt))
    ∙ append-nil _

pub touched-append : (h k : List Event) (g : ℕ) → is_touched (h ++ k) g ≡ (is_touched h g || is_touched k g)
touched-append [] k g = refl
touched-append (e ∷ h) k g = let ih : is_touched (h ++ k) g ≡ (is_touched h g || is_touched k g) = touched-append h k g in or_step (nat_eq e.gw g) (is_touched (h ++ k) g) (is_touched h g) (is_touched k g) ih
  where
    or_step : (a b c d : Bool) → b ≡ (c || d) → (a || b) ≡ ((a || c) || d)
    or_step true b c d e = refl
    or_step false b c d e = e

touched_elsewhere : (g w : ℕ) (ds : List Deed) → w ≢ g → is_touched (in_gameweek g ds) w ≡ false
touched_elsewhere g w [] ne = refl
touched_elsewhere g w (d ∷ ds) ne = let f : nat_eq g w ≡ false = grind (arith, nat_tests) in rw f (touched_elsewhere g w ds ne)

pub touched_other : (h : List Event) (g w : ℕ) (ds : List Deed) → w ≢ g → is_touched (h ++ in_gameweek g ds) w ≡ is_touched h w
touched_other h g w ds ne = touched-append h (in_gameweek g ds) w ∙ or_false (is_touched h w) (is_touched (in_gameweek g ds) w) (touched_elsewhere g w ds ne)
  where
    or_false : (a b : Bool) → b ≡ false → (a || b) ≡ a
    or_false true b e = refl
    or_false false b e = e

pub touched_here : (h : List Event) (g : ℕ) (d : Deed) (ds : List Deed) → is_touched (h ++ in_gameweek g (d ∷ ds)) g ≡ true
touched_here h g d ds = touched-append h (in_gameweek g (d ∷ ds)) g ∙ (let f : nat_eq g g ≡ true = grind (arith, nat_tests) in rw f (or_true (is_touched h g)))
  where
    or_true : (a : Bool) → (a || true) ≡ true
    or_true true = refl
    or_true false = refl
