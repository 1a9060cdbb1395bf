-- The first kick-offs of gameweeks, one fixture more at a time.
use Rattle.std.proofs.Common.{◌≡◌, ◌≢◌, ◌<◌, ◌≤◌, ◌+◌, ◌==◌, ◌++◌, ◌∷◌, [], ℕ, List, Bool, true, false, cond, length, get_or, take, map, filter, min, replicate, zero, suc, Some, None, Option, arith, refl, sym, ap, ◌∙◌, append-nil, inl, inr}
use Rattle.std.specs.List.{reduce}
use Rattle.std.specs.Option.{option_map, unwrap_or, IfSome}
use Rattle.std.proofs.Math.ListN.{set}
use Rattle.std.proofs.lemmas.List.{map-append, get_or-set_same, get_or-set_other}
use Rattle.std.proofs.lemmas.List.Elements.{filter_more}
use Rattle.std.proofs.lemmas.List.Sums.{fold-append}
use Rattle.std.proofs.lemmas.Bool.{eq-eqb, ne_eqb}
use Rattle.std.proofs.lemmas.Bool.Decides.{eqb_tells}
use Rattle.fpl_reports.specs.declared.files.FixtureRow.{FixtureRow}
use Rattle.fpl_reports.specs.Folder.{first_kickoff}

-- the lesser of what there is and one more
abbrev pub lesser : Option ℕ → ℕ → ℕ
lesser first t = unwrap_or (option_map (λ s. min s t) first) t

reduce_one_more : (xs : List ℕ) (x : ℕ) → reduce min (xs ++ x ∷ []) ≡ Some (lesser (reduce min xs) x)
reduce_one_more [] x = refl
reduce_one_more (y ∷ ys) x = ap Some (fold-append min y ys (x ∷ []))

-- the fixtures of a gameweek among the first i + 1
those_more : (rows : List FixtureRow) (i : ℕ) (row : FixtureRow) (g : ℕ) (b : Bool) → i < length rows → row ≡ get_or rows i row → (row.gameweek == g) ≡ b
    → filter (λ (r : FixtureRow). r.gameweek == g) (take (i + 1) rows) ≡ filter (λ (r : FixtureRow). r.gameweek == g) (take i rows) ++ cond b (row ∷ []) []
those_more rows i row g b h e test =
    let p : FixtureRow → Bool = λ r. r.gameweek == g in
    filter_more p rows i row h
    ∙ ap (λ (r : FixtureRow). filter p (take i rows) ++ cond (p r) (r ∷ []) []) (sym e)
    ∙ ap (λ (c : Bool). filter p (take i rows) ++ cond c (row ∷ []) []) test

pub kickoff_same : (rows : List FixtureRow) (i : ℕ) (row : FixtureRow) (g : ℕ) → i < length rows → row ≡ get_or rows i row → row.gameweek ≡ g
    → first_kickoff (take (i + 1) rows) g ≡ Some (lesser (first_kickoff (take i rows) g) row.kickoff)
kickoff_same rows i row g h e same =
    let kick : FixtureRow → ℕ = λ r. r.kickoff in
    let p : FixtureRow → Bool = λ r. r.gameweek == g in
    ap (λ (rs : List FixtureRow). reduce min (map kick rs)) (those_more rows i row g true h e (eq-eqb row.gameweek g same))
    ∙ ap (reduce min) (map-append kick (filter p (take i rows)) (row ∷ []))
    ∙ reduce_one_more (map kick (filter p (take i rows))) row.kickoff

pub kickoff_other : (rows : List FixtureRow) (i : ℕ) (row : FixtureRow) (g : ℕ) → i < length rows → row ≡ get_or rows i row → row.gameweek ≢ g
    → first_kickoff (take (i + 1) rows) g ≡ first_kickoff (take i rows) g
kickoff_other rows i row g h e other =
    let kick : FixtureRow → ℕ = λ r. r.kickoff in
    let p : FixtureRow → Bool = λ r. r.gameweek == g in
    ap (λ (rs : List FixtureRow). reduce min (map kick rs)) (those_more rows i row g false h e (ne_eqb row.gameweek g other) ∙ append-nil (filter p (take i rows)))

-- the first kick-offs of these fixtures, gameweek by gameweek
abbrev pub AreFirst : List (Option ℕ) → List FixtureRow → Type 0
AreFirst first rows = (k : ℕ) → k < 38 → get_or first k None ≡ first_kickoff rows (k + 1)

abbrev pub AreLate : List (Option ℕ) → Type 0
AreLate first = (k : ℕ) → k < 38 → IfSome (get_or first k None) (λ t. (5400 ≤ t) × (t ≤ 253402300799))

pub first_more : (first : List (Option ℕ)) (rows : List FixtureRow) (i place t : ℕ) (row : FixtureRow) → i < length rows → row ≡ get_or rows i row → length first ≡ 38 → place < 38 → place + 1 ≡ row.gameweek
    → t ≡ lesser (get_or first place None) row.kickoff → AreFirst first (take i rows) → AreFirst (set first place (Some t)) (take (i + 1) rows)
first_more first rows i place t row h e size low at is are = λ k below. elim (eqb_tells k place) [
  | inl (_, same) ↦
      let here : row.gameweek ≡ k + 1 = omega arith in
      let value : t ≡ lesser (first_kickoff (take i rows) (k + 1)) row.kickoff = is ∙ ap (λ n. lesser (get_or first n None) row.kickoff) (sym same) ∙ ap (λ f. lesser f row.kickoff) (are k below) in
      ap (λ n. get_or (set first place (Some t)) n None) same ∙ get_or-set_same first place (Some t) None (omega arith) ∙ ap Some value ∙ sym (kickoff_same rows i row (k + 1) h e here)
  | inr (_, other) ↦
      get_or-set_other first place k (Some t) None other ∙ are k below ∙ sym (kickoff_other rows i row (k + 1) h e (λ same. other (omega arith)))
]

lesser_late : (first : Option ℕ) (t : ℕ) → IfSome first (λ s. (5400 ≤ s) × (s ≤ 253402300799)) → 5400 ≤ t → t ≤ 253402300799 → (5400 ≤ lesser first t) × (lesser first t ≤ 253402300799)
lesser_late None t h a b = (a, b)
lesser_late (Some s) t h a b = (omega (arith, h.0, h.1), omega (arith, h.0, h.1))

pub late_more : (first : List (Option ℕ)) (place t kickoff : ℕ) → length first ≡ 38 → place < 38 → t ≡ lesser (get_or first place None) kickoff → 5400 ≤ kickoff → kickoff ≤ 253402300799
    → AreLate first → AreLate (set first place (Some t))
late_more first place t kickoff size low is a b late = λ k below. elim (eqb_tells k place) [
  | inl (_, same) ↦ rw (same, get_or-set_same first place (Some t) None (omega arith), is) (lesser_late (get_or first place None) kickoff (late place low) a b)
  | inr (_, other) ↦ rw (get_or-set_other first place k (Some t) None other) (late k below)
]

-- of no fixtures there is no first kick-off
abbrev pub none_of : ℕ → List (Option ℕ)
none_of n = replicate n None

pub nowhere : (n k : ℕ) → get_or (none_of n) k None ≡ first_kickoff [] (k + 1)
nowhere zero k = refl
nowhere (suc n) zero = refl
nowhere (suc n) (suc k) = nowhere n k

pub nowhere_late : (n k : ℕ) → IfSome (get_or (none_of n) k None) (λ t. (5400 ≤ t) × (t ≤ 253402300799))
nowhere_late n k = rw (nowhere n k) tt
