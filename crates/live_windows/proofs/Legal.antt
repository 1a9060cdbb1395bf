-- The best players of a formation for which there are enough are a legal eleven, and a choice of their rows.
use Rattle.std.proofs.Common.{◌≡◌, ◌∙◌, sym, refl, ap, subst, ℕ, ◌+◌, Bool, true, false, ◌&&◌, ◌==◌, List, [], ◌∷◌, length, map, filter, get_or, nat_lt, inl, inr, ◌⊎◌, arith, All, Contains}
use Rattle.std.specs.List.{list_any}
use Rattle.std.proofs.lemmas.Bool.{and_parts, and_from, false_from_ne_true, eqb-true, eq-eqb, cases_Bool}
use Rattle.std.proofs.lemmas.Bool.Decides.{nat_tests}
use Rattle.std.proofs.lemmas.List.Elements.{Contains-get_or}
use Rattle.std.proofs.lemmas.List.Folds.{Any-from_list_any, list_any_at}
use Rattle.std.proofs.lemmas.List.Sums.{AllPass-from_list_all}
use Rattle.fpl_base.specs.declared.kinds.Position.{Position}
use Rattle.fpl_base.specs.declared.kinds.Position.TheVariants.{Keeper, Defender, Midfielder, Forward}
use Rattle.rule_book.specs.Lineups.{is_formation}
use Rattle.rule_book.specs.Positions.{is_keeper, is_defender, is_midfielder, is_forward}
use Rattle.rule_book.specs.Ranks.{AllDiffer}
use Rattle.squad_rules.specs.Elevens.{Row, IsLegalEleven, chosen, count_in}
use Rattle.season_book.specs.TeamOfTheWeek.{Formation, best_in, fills, formations, has_enough, number_better, wanted}
use Rattle.live_windows.proofs.Better.{same_row}
use Rattle.live_windows.proofs.BestOf.{IsShaped}
use Rattle.live_windows.proofs.Counts.{count_more, kept_alike}

-- the players whose rows pass a test
abbrev pub who_pass : List Row → (Row → Bool) → ℕ → Bool
who_pass rows test id = list_any (λ (row : Row). row.0 == id && test row) rows

pub who_passes : (rows : List Row) (test : Row → Bool) → AllDiffer (map (λ row. row.0) rows) → All (λ row. who_pass rows test row.0 ≡ test row) rows
who_passes rows test differ k d lt = go (cases_Bool (test (get_or rows k d)))
  where
    here : Contains rows (get_or rows k d)
    here = Contains-get_or rows k d lt

    only : test (get_or rows k d) ≡ false → who_pass rows test (get_or rows k d).0 ≡ true → ⊥
    only e f =
        let (j, x, below, at, passes) = Any-from_list_any (λ (row : Row). row.0 == (get_or rows k d).0 && test row) rows f in
        let parts = and_parts (x.0 == (get_or rows k d).0) (test x) passes in
        let same = same_row rows x (get_or rows k d) differ (j, below, at) here (eqb-true x.0 (get_or rows k d).0 parts.0) in
        absurd (cc (ap test same, parts.1, e))

    go : (test (get_or rows k d) ≡ true) ⊎ (test (get_or rows k d) ≡ false) → who_pass rows test (get_or rows k d).0 ≡ test (get_or rows k d)
    go (inl e) =
        list_any_at (λ (row : Row). row.0 == (get_or rows k d).0 && test row) rows k d lt
        (and_from ((get_or rows k d).0 == (get_or rows k d).0) (test (get_or rows k d)) (eq-eqb (get_or rows k d).0 (get_or rows k d).0 refl) e)
        ∙ sym e
    go (inr e) = false_from_ne_true (who_pass rows test (get_or rows k d).0) (only e) ∙ sym e

-- who passes a test is chosen by his id
pub chosen_pass : (rows : List Row) (test : Row → Bool) → AllDiffer (map (λ row. row.0) rows) → chosen (who_pass rows test) rows ≡ filter test rows
chosen_pass rows test differ = kept_alike (λ (row : Row). who_pass rows test row.0) test rows (who_passes rows test differ)

-- rows are those of the four positions
pub four_counts : (xs : List Row) → length xs ≡ count_in is_keeper xs + (count_in is_defender xs + (count_in is_midfielder xs + count_in is_forward xs))
four_counts [] = refl
four_counts (x ∷ xs) = go x.1 refl (four_counts xs)
  where
    go : (p : Position) → x.1 ≡ p → length xs ≡ count_in is_keeper xs + (count_in is_defender xs + (count_in is_midfielder xs + count_in is_forward xs))
        → length (x ∷ xs) ≡ count_in is_keeper (x ∷ xs) + (count_in is_defender (x ∷ xs) + (count_in is_midfielder (x ∷ xs) + count_in is_forward (x ∷ xs)))
    go Keeper e rest =
        let k = count_more (λ (r : Row). is_keeper r.1) x xs true (ap is_keeper e) in
        let d = count_more (λ (r : Row). is_defender r.1) x xs false (ap is_defender e) in
        let m = count_more (λ (r : Row). is_midfielder r.1) x xs false (ap is_midfielder e) in
        let f = count_more (λ (r : Row). is_forward r.1) x xs false (ap is_forward e) in
        omega (arith, rest, k, d, m, f)
    go Defender e rest =
        let k = count_more (λ (r : Row). is_keeper r.1) x xs false (ap is_keeper e) in
        let d = count_more (λ (r : Row). is_defender r.1) x xs true (ap is_defender e) in
        let m = count_more (λ (r : Row). is_midfielder r.1) x xs false (ap is_midfielder e) in
        let f = count_more (λ (r : Row). is_forward r.1) x xs false (ap is_forward e) in
        omega (arith, rest, k, d, m, f)
    go Midfielder e rest =
        let k = count_more (λ (r : Row). is_keeper r.1) x xs false (ap is_keeper e) in
        let d = count_more (λ (r : Row). is_defender r.1) x xs false (ap is_defender e) in
        let m = count_more (λ (r : Row). is_midfielder r.1) x xs true (ap is_midfielder e) in
        let f = count_more (λ (r : Row). is_forward r.1) x xs false (ap is_forward e) in
        omega (arith, rest, k, d, m, f)
    go Forward e rest =
        let k = count_more (λ (r : Row). is_keeper r.1) x xs false (ap is_keeper e) in
        let d = count_more (λ (r : Row). is_defender r.1) x xs false (ap is_defender e) in
        let m = count_more (λ (r : Row). is_midfielder r.1) x xs false (ap is_midfielder e) in
        let f = count_more (λ (r : Row). is_forward r.1) x xs true (ap is_forward e) in
        omega (arith, rest, k, d, m, f)

-- so many of each as a formation has are of its shape, and the other way round
pub shaped : (shape : Formation) (xs : List Row) → fills shape xs ≡ true → IsShaped shape xs
shaped shape xs e =
    let k = and_parts (count_in is_keeper xs == 1) (count_in is_defender xs == shape.defenders && (count_in is_midfielder xs == shape.midfielders && count_in is_forward xs == shape.forwards)) e in
    let d = and_parts (count_in is_defender xs == shape.defenders) (count_in is_midfielder xs == shape.midfielders && count_in is_forward xs == shape.forwards) k.1 in
    let m = and_parts (count_in is_midfielder xs == shape.midfielders) (count_in is_forward xs == shape.forwards) d.1 in
    record {
      keeper = eqb-true (count_in is_keeper xs) 1 k.0;
      defenders = eqb-true (count_in is_defender xs) shape.defenders d.0;
      midfielders = eqb-true (count_in is_midfielder xs) shape.midfielders m.0;
      forwards = eqb-true (count_in is_forward xs) shape.forwards m.1;
    }

pub filled : (shape : Formation) (xs : List Row) → IsShaped shape xs → fills shape xs ≡ true
filled shape xs is =
    and_from (count_in is_keeper xs == 1) (count_in is_defender xs == shape.defenders && (count_in is_midfielder xs == shape.midfielders && count_in is_forward xs == shape.forwards))
    (eq-eqb (count_in is_keeper xs) 1 is.keeper)
    (and_from (count_in is_defender xs == shape.defenders) (count_in is_midfielder xs == shape.midfielders && count_in is_forward xs == shape.forwards)
    (eq-eqb (count_in is_defender xs) shape.defenders is.defenders)
    (and_from (count_in is_midfielder xs == shape.midfielders) (count_in is_forward xs == shape.forwards)
    (eq-eqb (count_in is_midfielder xs) shape.midfielders is.midfielders)
    (eq-eqb (count_in is_forward xs) shape.forwards is.forwards)))

-- ten may stand in each of the formations
abbrev stands_so : Formation → Bool
stands_so shape = is_formation shape.defenders shape.midfielders shape.forwards

all_stand : All (λ shape. stands_so shape ≡ true) formations
all_stand = AllPass-from_list_all stands_so formations refl

pub stand_so : (shape : Formation) → Contains formations shape → is_formation shape.defenders shape.midfielders shape.forwards ≡ true
stand_so shape (k, lt, is) = ap stands_so (sym is) ∙ all_stand k shape lt

ten_of : (d m f : ℕ) → is_formation d m f ≡ true → (d + m) + f ≡ 10
ten_of d m f e = grind (arith, nat_tests)

pub legal_by : (shape : Formation) (xs : List Row) → Contains formations shape → IsShaped shape xs → IsLegalEleven xs
legal_by shape xs there is =
    let stands = stand_so shape there in
    let ten = ten_of shape.defenders shape.midfielders shape.forwards stands in
    let four = four_counts xs in
    let k = is.keeper in
    let d = is.defenders in
    let m = is.midfielders in
    let f = is.forwards in
    record {
      all = omega (arith, four, ten, k, d, m, f);
      keeper = is.keeper;
      formation = (λ i. is_formation (is.defenders i) (is.midfielders i) (is.forwards i)) ∙ stands;
    }

-- the best players of a formation, as a choice
abbrev pub in_shape : List Row → Formation → ℕ → Bool
in_shape rows shape id = who_pass rows (λ (row : Row). nat_lt (number_better rows row) (wanted shape row.1)) id

pub in_shape_is : (rows : List Row) (shape : Formation) → AllDiffer (map (λ row. row.0) rows) → chosen (in_shape rows shape) rows ≡ best_in rows shape
in_shape_is rows shape differ = chosen_pass rows (λ (row : Row). nat_lt (number_better rows row) (wanted shape row.1)) differ

pub in_shape_legal : (rows : List Row) (shape : Formation) → AllDiffer (map (λ row. row.0) rows) → Contains formations shape → has_enough rows shape ≡ true → IsLegalEleven (chosen (in_shape rows shape) rows)
in_shape_legal rows shape differ there enough =
    subst IsLegalEleven (sym (in_shape_is rows shape differ)) (legal_by shape (best_in rows shape) there (shaped shape (best_in rows shape) enough))
