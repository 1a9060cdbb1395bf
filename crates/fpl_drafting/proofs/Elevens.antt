-- A squad of fifteen has a legal eleven.
use Rattle.std.proofs.Common.{◌≡◌, ◌≢◌, ◌∙◌, ◌≤◌, ◌+◌, ℕ, Bool, true, false, cond, eqb, ◌&&◌, not, List, [], ◌∷◌, length, map, ap, arith, sym, subst, refl}
use Rattle.std.specs.Prelude.{AllPairs}
use Rattle.std.specs.List.{All}
use Rattle.std.proofs.lemmas.Bool.{eq-eqb, ne_eqb}
use Rattle.std.proofs.lemmas.List.{get_or-map, length-map}
use Rattle.std.proofs.lemmas.List.Elements.{All-head, All-tail}
use Rattle.std.proofs.lemmas.List.Kept.{AllPairs-filter}
use Rattle.std.proofs.lemmas.List.Sums.{sum_by-cons}
use Rattle.fpl_base.proofs.Around.{AllPairs-head, AllPairs-tail}
use Rattle.fpl_base.specs.declared.kinds.Position.{Position}
use Rattle.fpl_base.specs.declared.kinds.Position.TheVariants.{Keeper, Defender, Midfielder, Forward}
use Rattle.rule_book.specs.Ranks.{AllDiffer}
use Rattle.squad_rules.specs.Dreams.{HasNoEleven}
use Rattle.squad_rules.specs.Elevens.{IsLegalEleven, Row, chosen, count_in}
use Rattle.squad_rules.specs.Pools.{is_at}

-- ---- counts

abbrev one_if : Bool → ℕ
one_if b = cond b 1 0

count_cons : (q : Position) (row : Row) (rows : List Row) → count_in (is_at q) (row ∷ rows) ≡ one_if (is_at q row.1) + count_in (is_at q) rows
count_cons q row rows = sum_by-cons (λ (r : Row). one_if (is_at q r.1)) row rows

same_at : (p x : Position) → is_at p x ≡ true → x ≡ p
same_at Keeper Keeper is = refl
same_at Keeper Defender is = cc
same_at Keeper Midfielder is = cc
same_at Keeper Forward is = cc
same_at Defender Keeper is = cc
same_at Defender Defender is = refl
same_at Defender Midfielder is = cc
same_at Defender Forward is = cc
same_at Midfielder Keeper is = cc
same_at Midfielder Defender is = cc
same_at Midfielder Midfielder is = refl
same_at Midfielder Forward is = cc
same_at Forward Keeper is = cc
same_at Forward Defender is = cc
same_at Forward Midfielder is = cc
same_at Forward Forward is = refl

-- each row has one position
by_position : (rows : List Row) → length rows ≡ count_in (is_at Keeper) rows + count_in (is_at Defender) rows + count_in (is_at Midfielder) rows + count_in (is_at Forward) rows
by_position [] = refl
by_position (row ∷ rows) =
    let k = count_cons Keeper row rows in
    let d = count_cons Defender row rows in
    let m = count_cons Midfielder row rows in
    let f = count_cons Forward row rows in
    omega (arith, k, d, m, f, one_of row.1, by_position rows)
  where
    one_of : (x : Position) → one_if (is_at Keeper x) + one_if (is_at Defender x) + one_if (is_at Midfielder x) + one_if (is_at Forward x) ≡ 1
    one_of Keeper = refl
    one_of Defender = refl
    one_of Midfielder = refl
    one_of Forward = refl

-- ---- one player less

-- everybody but this player
abbrev others : ℕ → ℕ → Bool
others player x = not (eqb x player)

abbrev Apart : List Row → Type 0
Apart rows = AllPairs (λ (a b : Row). a.0 ≢ b.0) rows

taken : (player : ℕ) (row : Row) (rows : List Row) (b : Bool) → eqb row.0 player ≡ b → chosen (others player) (row ∷ rows) ≡ cond (not b) (row ∷ chosen (others player) rows) (chosen (others player) rows)
taken player row rows b is = ap (λ (x : Bool). cond (not x) (row ∷ chosen (others player) rows) (chosen (others player) rows)) is

all_others : (player : ℕ) (rows : List Row) → All (λ (row : Row). player ≢ row.0) rows → chosen (others player) rows ≡ rows
all_others player [] all = refl
all_others player (row ∷ rows) all =
    taken player row rows false (ne_eqb row.0 player (λ same. All-head (λ (r : Row). player ≢ r.0) row rows all (sym same)))
    ∙ ap (λ more. row ∷ more) (all_others player rows (All-tail (λ (r : Row). player ≢ r.0) row rows all))

-- a player of a position, without whom there is one fewer of it, and as many of the others
record Drops (p : Position) (rows : List Row) : Type 0 where
  player : ℕ
  named : (other : ℕ) → All (λ (row : Row). other ≢ row.0) rows → other ≢ player
  counts : (q : Position) → count_in (is_at q) rows ≡ one_if (is_at q p) + count_in (is_at q) (chosen (others player) rows)

drop_first : (p : Position) (row : Row) (rows : List Row) → Apart (row ∷ rows) → is_at p row.1 ≡ true → Drops p (row ∷ rows)
drop_first p row rows apart is = record {
  player = row.0;
  named = λ other all. All-head (λ (r : Row). other ≢ r.0) row rows all;
  counts = λ q.
      let kept : chosen (others row.0) (row ∷ rows) ≡ rows =
      taken row.0 row rows true (eq-eqb row.0 row.0 refl) ∙ all_others row.0 rows (AllPairs-head (λ (a b : Row). a.0 ≢ b.0) row rows apart) in
      count_cons q row rows ∙ ap (λ x. one_if (is_at q x) + count_in (is_at q) rows) (same_at p row.1 is) ∙ ap (λ kept. one_if (is_at q p) + count_in (is_at q) kept) (sym kept);
}

drop_later : (p : Position) (row : Row) (rows : List Row) → Apart (row ∷ rows) → Drops p rows → Drops p (row ∷ rows)
drop_later p row rows apart one = record {
  player = one.player;
  named = λ other all. one.named other (All-tail (λ (r : Row). other ≢ r.0) row rows all);
  counts = λ q.
      let kept : chosen (others one.player) (row ∷ rows) ≡ row ∷ chosen (others one.player) rows =
      taken one.player row rows false (ne_eqb row.0 one.player (one.named row.0 (AllPairs-head (λ (a b : Row). a.0 ≢ b.0) row rows apart))) in
      omega (arith, count_cons q row rows, count_cons q row (chosen (others one.player) rows), one.counts q, ap (count_in (is_at q)) kept);
}

drop_one : (p : Position) (rows : List Row) → Apart rows → 1 ≤ count_in (is_at p) rows → Drops p rows
drop_one p [] apart some = absurd (omega (arith, some))
drop_one p (row ∷ rows) apart some =
    go (λ more. drop_one p rows (AllPairs-tail (λ (a b : Row). a.0 ≢ b.0) row rows apart) more) (is_at p row.1) refl
  where
    go : (1 ≤ count_in (is_at p) rows → Drops p rows) → (b : Bool) → is_at p row.1 ≡ b → Drops p (row ∷ rows)
    go later true is = drop_first p row rows apart is
    go later false is = drop_later p row rows apart (later (omega (arith, some, count_cons p row rows, ap one_if is)))

still_apart : (player : ℕ) (rows : List Row) → Apart rows → Apart (chosen (others player) rows)
still_apart player rows apart = AllPairs-filter (λ (a b : Row). a.0 ≢ b.0) (λ (row : Row). others player row.0) rows apart

-- ---- the eleven

chosen_twice : (one two : ℕ → Bool) (rows : List Row) → chosen two (chosen one rows) ≡ chosen (λ x. one x && two x) rows
chosen_twice one two [] = refl
chosen_twice one two (row ∷ rows) = go (chosen_twice one two rows) (one row.0) (two row.0) refl refl
  where
    go : chosen two (chosen one rows) ≡ chosen (λ x. one x && two x) rows → (a b : Bool) → one row.0 ≡ a → two row.0 ≡ b
        → chosen two (chosen one (row ∷ rows)) ≡ chosen (λ x. one x && two x) (row ∷ rows)
    go more true true is also = rw (is, also) (ap (λ rs. row ∷ rs) more)
    go more true false is also = rw (is, also) more
    go more false b is also = rw is more

-- fifteen of a squad without one player of each position make 4-4-2
module _ (rows : List Row) (apart : Apart rows)
    (keepers : count_in (is_at Keeper) rows ≡ 2) (defenders : count_in (is_at Defender) rows ≡ 5) (midfielders : count_in (is_at Midfielder) rows ≡ 5) (forwards : count_in (is_at Forward) rows ≡ 3) where
  k : Drops Keeper rows
  k = drop_one Keeper rows apart (omega (arith, keepers))

  abbrev first : List Row
  first = chosen (others k.player) rows

  d : Drops Defender first
  d = drop_one Defender first (still_apart k.player rows apart) (omega (arith, defenders, k.counts Defender))

  abbrev second : List Row
  second = chosen (others d.player) first

  m : Drops Midfielder second
  m = drop_one Midfielder second (still_apart d.player first (still_apart k.player rows apart)) (omega (arith, midfielders, k.counts Midfielder, d.counts Midfielder))

  abbrev third : List Row
  third = chosen (others m.player) second

  f : Drops Forward third
  f = drop_one Forward third (still_apart m.player second (still_apart d.player first (still_apart k.player rows apart))) (omega (arith, forwards, k.counts Forward, d.counts Forward, m.counts Forward))

  abbrev fourth : List Row
  fourth = chosen (others f.player) third

  one_keeper : count_in (is_at Keeper) fourth ≡ 1
  one_keeper = omega (arith, keepers, k.counts Keeper, d.counts Keeper, m.counts Keeper, f.counts Keeper)

  four_defenders : count_in (is_at Defender) fourth ≡ 4
  four_defenders = omega (arith, defenders, k.counts Defender, d.counts Defender, m.counts Defender, f.counts Defender)

  four_midfielders : count_in (is_at Midfielder) fourth ≡ 4
  four_midfielders = omega (arith, midfielders, k.counts Midfielder, d.counts Midfielder, m.counts Midfielder, f.counts Midfielder)

  two_forwards : count_in (is_at Forward) fourth ≡ 2
  two_forwards = omega (arith, forwards, k.counts Forward, d.counts Forward, m.counts Forward, f.counts Forward)

  legal : IsLegalEleven fourth
  legal = record {
    all = omega (arith, by_position fourth, one_keeper, four_defenders, four_midfielders, two_forwards);
    keeper = one_keeper;
    formation = rw (four_defenders, four_midfielders, two_forwards) refl;
  }

  once : fourth ≡ chosen (λ x. ((others k.player x && others d.player x) && others m.player x) && others f.player x) rows
  once =
      ap (λ rs. chosen (others f.player) (chosen (others m.player) rs)) (chosen_twice (others k.player) (others d.player) rows)
      ∙ ap (λ rs. chosen (others f.player) rs) (chosen_twice (λ x. others k.player x && others d.player x) (others m.player) rows)
      ∙ chosen_twice (λ x. (others k.player x && others d.player x) && others m.player x) (others f.player) rows

  pub has_eleven : HasNoEleven rows → ⊥
  has_eleven none = none (λ x. ((others k.player x && others d.player x) && others m.player x) && others f.player x) (subst (λ eleven. IsLegalEleven eleven) once legal)

-- rows whose players differ
pub rows_apart : (rows : List Row) → AllDiffer (map (λ (row : Row). row.0) rows) → Apart rows
rows_apart rows differ k l e lt below same =
    let count = length-map rows (λ (row : Row). row.0) in
    differ k l 0 lt (omega (arith, count, below))
    (get_or-map (λ (row : Row). row.0) rows k e 0 (omega (arith, lt, below)) ∙ same ∙ sym (get_or-map (λ (row : Row). row.0) rows l e 0 below))
