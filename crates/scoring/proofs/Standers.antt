-- Who stands in a final eleven: each starter himself, or one of the bench who could.
use Rattle.std.proofs.Common.{◌≡◌, ◌≢◌, ◌⊎◌, inl, inr, ℕ, zero, suc, ◌-◌, ◌+◌, ◌≤◌, ◌<◌, Bool, true, false, cond, not, ◌&&◌, eqb, Option, Some, None, List, ◌∷◌, ◌++◌, take, drop, length, get_or, find, unwrap_or, refl, sym, ◌∙◌, ap, subst, arith, length-take, get_or-take}
use Rattle.std.specs.List.{AllPairs}
use Rattle.std.proofs.lemmas.Bool.{false≢true, and_parts, not-true}
use Rattle.std.proofs.lemmas.Bool.Decides.{nat_tests}
use Rattle.std.proofs.lemmas.List.{get_or_default}
use Rattle.std.proofs.lemmas.List.Folds.{list_any_at}
use Rattle.rule_book.specs.declared.team.Team.{Team}
use Rattle.rule_book.specs.declared.team_score.Figures.{Figures}
use Rattle.rule_book.specs.Teams.{did_play, bench, starters}
use Rattle.rule_book.specs.Elevens.{slot_of, is_used, is_legal_eleven, can_stand, Settles, IsSubstituted, IsKeeperSlot}

-- slot x stands for starter n: his own, or one of the bench that can
abbrev pub Stands : Team → List Figures → List ℕ → ℕ → ℕ → Type 0
Stands team figures before n x = (x ≡ n) ⊎ ((13 ≤ x) × (x ≤ 15) × (can_stand team figures before n x ≡ true))

found_by : (p : ℕ → Bool) (s : ℕ) (a b c : Bool) → p 13 ≡ a → p 14 ≡ b → p 15 ≡ c → cond a (Some 13) (cond b (Some 14) (cond c (Some 15) None)) ≡ Some s → (13 ≤ s) × (s ≤ 15) × (p s ≡ true)
found_by p s true b c ea eb ec e =
    let same : 13 ≡ s = cc in (omega arith, omega arith, sym (ap p same) ∙ ea)
found_by p s false true c ea eb ec e =
    let same : 14 ≡ s = cc in (omega arith, omega arith, sym (ap p same) ∙ eb)
found_by p s false false true ea eb ec e =
    let same : 15 ≡ s = cc in (omega arith, omega arith, sym (ap p same) ∙ ec)
found_by p s false false false ea eb ec e = absurd (cc)

stands_by : (team : Team) (figures : List Figures) (before : List ℕ) (n x : ℕ) (o : Option ℕ) → find (can_stand team figures before n) bench ≡ o → x ≡ unwrap_or o n → Stands team figures before n x
stands_by team figures before n x None e at = inl at
stands_by team figures before n x (Some s) e at =
    let p = can_stand team figures before n in
    let found = found_by p s (p 13) (p 14) (p 15) refl refl refl e in
    inr (omega (arith, found.0), omega (arith, found.1), ap p at ∙ found.2)

stands_when : (team : Team) (figures : List Figures) (eleven : List ℕ) (n : ℕ) (b : Bool) → did_play figures n ≡ b → Settles team figures eleven n → Stands team figures (take (n - 1) eleven) n (slot_of eleven n)
stands_when team figures eleven n true e s = inl (s.present e)
stands_when team figures eleven n false e s =
    stands_by team figures (take (n - 1) eleven) n (slot_of eleven n) (find (can_stand team figures (take (n - 1) eleven) n) bench) refl (s.absent e)

-- who stands for an outfield starter
pub stands : (team : Team) (figures : List Figures) (eleven : List ℕ) → IsSubstituted team figures eleven → (j : ℕ) → 1 ≤ j → j < 11 → Stands team figures (take j eleven) (j + 1) (get_or eleven j 0)
stands team figures eleven s j low high =
    let e : j + 1 - 1 ≡ j = omega arith in
    rw e at (stands_when team figures eleven (j + 1) (did_play figures (j + 1)) refl (s.outfield (j + 1) (omega arith) (omega arith)))

keeper_by : (a b : Bool) → IsKeeperSlot (cond (not a && b) 12 1)
keeper_by true b = inl refl
keeper_by false true = inr refl
keeper_by false false = inl refl

-- who stands for the goalkeeper
pub keeper_stands : (team : Team) (figures : List Figures) (eleven : List ℕ) → IsSubstituted team figures eleven → IsKeeperSlot (slot_of eleven 1)
keeper_stands team figures eleven s = subst IsKeeperSlot (sym s.keeper) (keeper_by (did_play figures 1) (did_play figures 12))

keeper_when : (a b : Bool) → a ≡ true → cond {A = ℕ} (not a && b) 12 1 ≡ 1
keeper_when true b e = refl
keeper_when false b e = absurd (cc)

-- who played stands for himself
pub played_stand : (team : Team) (figures : List Figures) (eleven : List ℕ) → IsSubstituted team figures eleven → (n : ℕ) → 1 ≤ n → n ≤ 11 → did_play figures n ≡ true → slot_of eleven n ≡ n
played_stand team figures eleven s zero low high e = absurd (omega arith)
played_stand team figures eleven s (suc zero) low high e = s.keeper ∙ keeper_when (did_play figures 1) (did_play figures 12) e
played_stand team figures eleven s (suc (suc k)) low high e = (s.outfield (suc (suc k)) (omega arith) high).present e

-- one of the bench who can stand is not used, and keeps the formation legal
pub stander : (team : Team) (figures : List Figures) (before : List ℕ) (n x : ℕ) → can_stand team figures before n x ≡ true → (is_used before x ≡ false) × (is_legal_eleven team (before ++ x ∷ drop n starters) ≡ true)
stander team figures before n x e =
    let legal = and_parts (did_play figures x && not (is_used before x)) (is_legal_eleven team (before ++ x ∷ drop n starters)) e in
    let free = and_parts (did_play figures x) (not (is_used before x)) legal.0 in
    (not-true (is_used before x) free.1, legal.1)

-- an earlier starter's slot is not that of a later starter
not_later : (team : Team) (figures : List Figures) (eleven : List ℕ) → IsSubstituted team figures eleven → (i j : ℕ) → i < j → j < 11 → get_or eleven i 0 ≢ j + 1
not_later team figures eleven s zero j before inside same =
    elim (keeper_stands team figures eleven s) [ inl e ↦ absurd (omega (arith, e, same)) | inr e ↦ absurd (omega (arith, e, same)) ]
not_later team figures eleven s (suc i) j before inside same =
    elim (stands team figures eleven s (suc i) (omega arith) (omega arith)) [ inl e ↦ absurd (omega (arith, e, same)) | inr f ↦ absurd (omega (arith, f.0, same)) ]

-- a slot that is not used is none of the earlier ones
not_used : (eleven : List ℕ) (i j x : ℕ) → i < j → i < length eleven → is_used (take j eleven) x ≡ false → get_or eleven i 0 ≢ x
not_used eleven i j x before inside e same =
    let shorter : i < length (take j eleven) = omega (arith, length-take j eleven) in
    let at_i : get_or (take j eleven) i 0 ≡ get_or eleven i 0 = get_or-take j eleven i 0 before in
    let here : get_or (take j eleven) i 0 ≡ x = at_i ∙ same in
    let test : eqb (get_or (take j eleven) i 0) x ≡ true = grind (arith, nat_tests) in
    false≢true (sym e ∙ list_any_at (λ other. eqb other x) (take j eleven) i 0 shorter test)

differ : (team : Team) (figures : List Figures) (eleven : List ℕ) → IsSubstituted team figures eleven → (i j : ℕ) → i < j → j < 11 → get_or eleven i 0 ≢ get_or eleven j 0
differ team figures eleven s i j before inside same =
    let all : length eleven ≡ 11 = s.all in
    elim (stands team figures eleven s j (omega arith) inside) [
      | inl e ↦ not_later team figures eleven s i j before inside (same ∙ e)
      | inr f ↦ not_used eleven i j (get_or eleven j 0) before (omega arith) (stander team figures (take j eleven) (j + 1) (get_or eleven j 0) f.2).0 same
    ]

-- nobody stands twice
pub stand_once : (team : Team) (figures : List Figures) (eleven : List ℕ) → IsSubstituted team figures eleven → AllPairs (λ one other. one ≢ other) eleven
stand_once team figures eleven s i j d before inside same =
    let all : length eleven ≡ 11 = s.all in
    let one : get_or eleven i d ≡ get_or eleven i 0 = get_or_default eleven i d 0 (omega arith) in
    let other : get_or eleven j d ≡ get_or eleven j 0 = get_or_default eleven j d 0 inside in
    differ team figures eleven s i j before (omega arith) (sym one ∙ same ∙ other)
