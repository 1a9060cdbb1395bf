-- The final eleven of a team with a legal lineup is a legal formation.
use Rattle.std.proofs.Common.{◌≡◌, inl, inr, ℕ, zero, suc, ◌-◌, ◌+◌, ◌<◌, Bool, true, false, cond, List, [], ◌∷◌, ◌++◌, take, drop, length, get_or, refl, sym, ◌∙◌, ap, arith, append_assoc}
use Rattle.std.specs.List.{count_by, slice_get}
use Rattle.std.specs.Option.{option_map_or}
use Rattle.std.proofs.lemmas.Bool.{and_parts}
use Rattle.std.proofs.lemmas.List.{append-nil, length-map, take_more, take_all}
use Rattle.std.proofs.lemmas.List.Sums.{sum_by-cons}
use Rattle.fpl_base.specs.declared.kinds.Position.{Position}
use Rattle.fpl_base.specs.declared.kinds.Position.TheVariants.{Keeper, Defender, Midfielder, Forward}
use Rattle.rule_book.specs.declared.team.Pick.{Pick}
use Rattle.rule_book.specs.declared.team.Team.{Team}
use Rattle.rule_book.specs.declared.team_score.Figures.{Figures}
use Rattle.rule_book.specs.Positions.{is_keeper, is_defender, is_midfielder, is_forward}
use Rattle.rule_book.specs.Squads.{positions_of}
use Rattle.rule_book.specs.Lineups.{EnoughIsAlwaysFormation, has_keeper_in, has_keepers_in_place, is_formation, outfield}
use Rattle.rule_book.specs.Teams.{has_position, midfielder_at, forward_at, starters, is_still}
use Rattle.rule_book.specs.Elevens.{slot_of, is_legal_eleven, HasLegalLineup, IsKeeperSlot, IsSubstituted, IsFinal, ElevensAreLegal}
use Rattle.scoring.proofs.Counted.{starters_at}
use Rattle.scoring.proofs.Standers.{Stands, stands, keeper_stands, stander}

-- the counts over the slots 2 to 11 are those of the outfield's positions
outfield_counted : (test : Position → Bool) (picks : List Pick) → length picks ≡ 15 → count_by (λ slot. option_map_or (has_position test) (slice_get picks (slot - 1)) false) (2 ∷ 3 ∷ 4 ∷ 5 ∷ 6 ∷ 7 ∷ 8 ∷ 9 ∷ 10 ∷ 11 ∷ []) ≡ count_by test (outfield (positions_of picks))
outfield_counted test (p1 ∷ p2 ∷ p3 ∷ p4 ∷ p5 ∷ p6 ∷ p7 ∷ p8 ∷ p9 ∷ p10 ∷ p11 ∷ others) e = refl
outfield_counted test picks e = absurd (omega arith)

keeper_not : (test : Position → Bool) → ((p : Position) → is_keeper p ≡ true → test p ≡ false) → (picks : List Pick) (place : ℕ) → option_map_or is_keeper (slice_get (positions_of picks) place) false ≡ true → option_map_or (has_position test) (slice_get picks place) false ≡ false
keeper_not test other [] place e = refl
keeper_not test other (pick ∷ picks) zero e = other pick.position e
keeper_not test other (pick ∷ picks) (suc place) e = keeper_not test other picks place e

pub not_defender : (p : Position) → is_keeper p ≡ true → is_defender p ≡ false
not_defender Keeper e = refl
not_defender Defender e = absurd (cc)
not_defender Midfielder e = refl
not_defender Forward e = refl

pub not_midfielder : (p : Position) → is_keeper p ≡ true → is_midfielder p ≡ false
not_midfielder Keeper e = refl
not_midfielder Defender e = refl
not_midfielder Midfielder e = absurd (cc)
not_midfielder Forward e = refl

pub not_forward : (p : Position) → is_keeper p ≡ true → is_forward p ≡ false
not_forward Keeper e = refl
not_forward Defender e = refl
not_forward Midfielder e = refl
not_forward Forward e = absurd (cc)

-- a goalkeeper in front adds nothing to a count
keeper_adds : (test : ℕ → Bool) (slot : ℕ) (slots : List ℕ) → test slot ≡ false → count_by test (slot ∷ slots) ≡ count_by test slots
keeper_adds test slot slots e =
    let none : cond {A = ℕ} (test slot) 1 0 ≡ 0 = ap (λ b. cond {A = ℕ} b 1 0) e in
    omega (arith, sum_by-cons (λ x. cond (test x) 1 0) slot slots, none)

-- neither goalkeeper is anything else
pub keeper_is_no_other : (test : Position → Bool) → ((p : Position) → is_keeper p ≡ true → test p ≡ false) → (picks : List Pick) → has_keepers_in_place (positions_of picks) ≡ true → (slot : ℕ) → IsKeeperSlot slot → option_map_or (has_position test) (slice_get picks (slot - 1)) false ≡ false
keeper_is_no_other test other picks placed slot (inl e) =
    let two = and_parts (has_keeper_in (positions_of picks) 1) (has_keeper_in (positions_of picks) 12) placed in
    ap (λ s. option_map_or (has_position test) (slice_get picks (s - 1)) false) e ∙ keeper_not test other picks 0 two.0
keeper_is_no_other test other picks placed slot (inr e) =
    let two = and_parts (has_keeper_in (positions_of picks) 1) (has_keeper_in (positions_of picks) 12) placed in
    ap (λ s. option_map_or (has_position test) (slice_get picks (s - 1)) false) e ∙ keeper_not test other picks 11 two.1

counted_with_keeper : (test : Position → Bool) → ((p : Position) → is_keeper p ≡ true → test p ≡ false) → (picks : List Pick) → length picks ≡ 15 → has_keepers_in_place (positions_of picks) ≡ true → (slot : ℕ) → IsKeeperSlot slot → count_by (λ s. option_map_or (has_position test) (slice_get picks (s - 1)) false) (slot ∷ drop 1 starters) ≡ count_by test (outfield (positions_of picks))
counted_with_keeper test other picks all placed slot known =
    keeper_adds (λ s. option_map_or (has_position test) (slice_get picks (s - 1)) false) slot (drop 1 starters) (keeper_is_no_other test other picks placed slot known) ∙ outfield_counted test picks all

-- the starters with either goalkeeper are a legal formation
legal_at_first : EnoughIsAlwaysFormation → (team : Team) → length team.picks ≡ 15 → HasLegalLineup team → (slot : ℕ) → IsKeeperSlot slot → is_legal_eleven team (slot ∷ drop 1 starters) ≡ true
legal_at_first law team all legal slot known =
    let positions = positions_of team.picks in
    let placed = legal.lineup.keepers in
    let d = counted_with_keeper is_defender not_defender team.picks all placed slot known in
    let m = counted_with_keeper is_midfielder not_midfielder team.picks all placed slot known in
    let f = counted_with_keeper is_forward not_forward team.picks all placed slot known in
    let fifteen : length positions ≡ 15 = length-map team.picks (λ (pick : Pick). pick.position) ∙ all in
    ap (λ n. is_formation n (count_by (midfielder_at team) (slot ∷ drop 1 starters)) (count_by (forward_at team) (slot ∷ drop 1 starters))) d
    ∙ ap (λ n. is_formation (count_by is_defender (outfield positions)) n (count_by (forward_at team) (slot ∷ drop 1 starters))) m
    ∙ ap (λ n. is_formation (count_by is_defender (outfield positions)) (count_by is_midfielder (outfield positions)) n) f
    ∙ sym (law positions fifteen legal.shape placed).formation ∙ legal.lineup.formation

-- the eleven with one more starter settled is legal
legal_more : (team : Team) (figures : List Figures) (before : List ℕ) (j x : ℕ) → j < 11 → Stands team figures before (j + 1) x → is_legal_eleven team (before ++ drop j starters) ≡ true → is_legal_eleven team (before ++ x ∷ drop (j + 1) starters) ≡ true
legal_more team figures before j x inside (inl e) legal =
    let back : j + 1 - 1 ≡ j = omega arith in
    let behind : drop j starters ≡ (j + 1) ∷ drop (j + 1) starters = rw back at (starters_at (j + 1) (omega arith) (omega arith)) in
    ap (λ s. is_legal_eleven team (before ++ s ∷ drop (j + 1) starters)) e ∙ sym (ap (λ xs. is_legal_eleven team (before ++ xs)) behind) ∙ legal
legal_more team figures before j x inside (inr f) legal = (stander team figures before (j + 1) x f.2).1

-- the first starters as they are settled, and the others for themselves
legal_so_far : EnoughIsAlwaysFormation → (team : Team) (figures : List Figures) (eleven : List ℕ) → length team.picks ≡ 15 → HasLegalLineup team → IsSubstituted team figures eleven → (j : ℕ) → j < 11 → is_legal_eleven team (take (j + 1) eleven ++ drop (j + 1) starters) ≡ true
legal_so_far law team figures eleven all legal s zero inside =
    let long : length eleven ≡ 11 = s.all in
    ap (λ xs. is_legal_eleven team (xs ++ drop 1 starters)) (take_more eleven 0 0 (omega arith))
    ∙ legal_at_first law team all legal (slot_of eleven 1) (keeper_stands team figures eleven s)
legal_so_far law team figures eleven all legal s (suc j) inside =
    let long : length eleven ≡ 11 = s.all in
    let one : j + 1 ≡ suc j = omega arith in
    let slot = get_or eleven (suc j) 0 in
    let before = take (suc j) eleven in
    let so_far = sym (ap (λ n. is_legal_eleven team (take n eleven ++ drop n starters)) one) ∙ legal_so_far law team figures eleven all legal s j (omega arith) in
    ap (λ xs. is_legal_eleven team (xs ++ drop (suc j + 1) starters)) (take_more eleven (suc j) 0 (omega arith))
    ∙ ap (is_legal_eleven team) (append_assoc before (slot ∷ []) (drop (suc j + 1) starters))
    ∙ legal_more team figures before (suc j) slot inside (stands team figures eleven s (suc j) (omega arith) inside) so_far

legal_substituted : EnoughIsAlwaysFormation → (team : Team) (figures : List Figures) (eleven : List ℕ) → length team.picks ≡ 15 → HasLegalLineup team → IsSubstituted team figures eleven → is_legal_eleven team eleven ≡ true
legal_substituted law team figures eleven all legal s =
    ap (is_legal_eleven team) (sym (append-nil eleven) ∙ ap (λ xs. xs ++ []) (sym (take_all 11 eleven (omega (arith, s.all))))) ∙ legal_so_far law team figures eleven all legal s 10 (omega arith)

legal_by : EnoughIsAlwaysFormation → (team : Team) (figures : List Figures) (ended : Bool) (eleven : List ℕ) (b : Bool) → is_still ended team ≡ b → length team.picks ≡ 15 → HasLegalLineup team → IsFinal team figures ended eleven → is_legal_eleven team eleven ≡ true
legal_by law team figures ended eleven true e all legal f =
    ap (is_legal_eleven team) (f.kept e) ∙ legal_at_first law team all legal 1 (inl refl)
legal_by law team figures ended eleven false e all legal f =
    legal_substituted law team figures eleven all legal (f.substituted e)

pub always_legal : EnoughIsAlwaysFormation → ElevensAreLegal
always_legal law team figures ended eleven = legal_by law team figures ended eleven (is_still ended team) refl
