-- The first fixture of a gameweek that kicks off too early, looked for among those of the gameweek alone.
use Rattle.std.proofs.Common.{◌≡◌, ◌∙◌, sym, ap, refl, ℕ, ◌+◌, ◌<◌, Bool, true, false, cond, eqb, ◌&&◌, List, [], ◌∷◌, length, get_or, take, drop, map, filter, find, Some, arith, inl, inr}
use Rattle.std.specs.List.{All, AllPairs}
use Rattle.std.specs.Option.{option_map}
use Rattle.std.proofs.lemmas.List.Elements.{All-cons, All-head, All-tail, All-filter}
use Rattle.std.proofs.lemmas.Bool.{cases_Bool, eq-eqb, ne_eqb}
use Rattle.rule_book.specs.declared.season.Fixture.{Fixture}
use Rattle.rule_book.specs.Calendar.{standing_among, is_gameweek, is_early}
use Rattle.season_calendar.specs.Kept.{is_there_early}
use Rattle.fpl_base.proofs.Around.{All-take_from, AllPairs-head, AllPairs-tail, parts_at}
use Rattle.season_calendar.proofs.Around.{find_behind}

-- the first of a list of numbers that passes
pub first_passes : (p : ℕ → Bool) (ns : List ℕ) (k d : ℕ) → k < length ns → ((j e : ℕ) → j < k → p (get_or ns j e) ≡ false) → p (get_or ns k d) ≡ true → find p ns ≡ Some (get_or ns k d)
first_passes p ns k d lt before here =
    ap (find p) (parts_at ns k d lt) ∙ find_behind p (take k ns) (drop (k + 1) ns) (get_or ns k d) (All-take_from (λ n. p n ≡ false) ns k (omega arith) before) here

-- what two tests pass is what the second passes of those that the first keeps
find_filter : (p q : Fixture → Bool) (xs : List Fixture) → find (λ x. p x && q x) xs ≡ find q (filter p xs)
find_filter p q [] = refl
find_filter p q (x ∷ xs) = elim (cases_Bool (p x)) [
  | inl e ↦ rw e (ap (λ r. cond (q x) (Some x) r) (find_filter p q xs))
  | inr e ↦ rw e (find_filter p q xs)
]

-- each fixture is found by its id
each_found : (xs : List Fixture) → AllPairs (λ x y. x.id < y.id) xs → All (λ y. find (λ (x : Fixture). eqb x.id y.id) xs ≡ Some y) xs
each_found [] rise = λ k d lt. absurd (omega arith)
each_found (x ∷ xs) rise =
    All-cons (λ y. find (λ (z : Fixture). eqb z.id y.id) (x ∷ xs) ≡ Some y) x xs (rw (eq-eqb x.id x.id refl) refl)
    (λ k d lt.
    let later : x.id < (get_or xs k d).id = AllPairs-head (λ y z. y.id < z.id) x xs rise k d lt in
    rw (ne_eqb x.id (get_or xs k d).id (λ e. omega arith)) (each_found xs (AllPairs-tail (λ y z. y.id < z.id) x xs rise) k d lt))

-- of fixtures that are each found, the first early one by the ids is the first early one
by_ids : (xs ys : List Fixture) (t : ℕ) → All (λ y. find (λ (x : Fixture). eqb x.id y.id) xs ≡ Some y) ys → find (λ f. is_there_early t (find (λ (x : Fixture). eqb x.id f) xs)) (map (λ (y : Fixture). y.id) ys) ≡ option_map (λ (x : Fixture). x.id) (find (λ x. is_early t x.kickoff) ys)
by_ids xs [] t found = refl
by_ids xs (y ∷ ys) t found =
    let more = by_ids xs ys t (All-tail (λ z. find (λ (x : Fixture). eqb x.id z.id) xs ≡ Some z) y ys found) in
    let here = All-head (λ z. find (λ (x : Fixture). eqb x.id z.id) xs ≡ Some z) y ys found in
    rw here (elim (cases_Bool (is_early t y.kickoff)) [
      | inl e ↦ rw e refl
      | inr e ↦ rw e more
    ])

-- the first early fixture of a gameweek by its ids is the one of the least id
pub first_of_gameweek : (xs : List Fixture) (g t : ℕ) → AllPairs (λ x y. x.id < y.id) xs → find (λ f. is_there_early t (find (λ (x : Fixture). eqb x.id f) xs)) (standing_among xs g) ≡ option_map (λ (x : Fixture). x.id) (find (λ (x : Fixture). is_gameweek g x.gw && is_early t x.kickoff) xs)
first_of_gameweek xs g t rise =
    let p : Fixture → Bool = λ x. is_gameweek g x.gw in
    by_ids xs (filter p xs) t (All-filter p (λ y. find (λ (x : Fixture). eqb x.id y.id) xs ≡ Some y) xs (each_found xs rise)) ∙ ap (option_map (λ (x : Fixture). x.id)) (sym (find_filter p (λ x. is_early t x.kickoff) xs))
