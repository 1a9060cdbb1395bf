-- With whoever of the bench may come in, an eleven may stand exactly where it has one goalkeeper, three defenders and a
-- forward.
use Rattle.std.proofs.Common.{◌≡◌, ◌⊎◌, inl, inr, ℕ, zero, suc, ◌-◌, ◌+◌, ◌≤◌, ◌<◌, Bool, true, false, ◌&&◌, eqb, leb, List, [], ◌∷◌, ◌++◌, take, drop, length, get_or, refl, sym, ◌∙◌, ap, subst, arith, append_assoc, length-append, length-take, length-drop}
use Rattle.std.specs.List.{count_by, slice_get, All}
use Rattle.std.specs.Option.{option_map_or}
use Rattle.std.proofs.lemmas.Bool.{and_parts, cases_eq}
use Rattle.std.proofs.lemmas.Bool.Decides.{nat_tests}
use Rattle.std.proofs.lemmas.List.{take_more}
use Rattle.std.proofs.lemmas.List.Elements.{All-cons, All-head, All-tail, All-append, All-take, All-drop, All-from_get_or}
use Rattle.std.proofs.lemmas.List.Sums.{sum_by-append, sum_by-cons}
use Rattle.fpl_base.specs.declared.kinds.Position.{Position}
use Rattle.fpl_base.specs.declared.kinds.Position.TheVariants.{Keeper, Defender, Midfielder, Forward}
use Rattle.rule_book.specs.declared.team.Pick.{Pick}
use Rattle.rule_book.specs.declared.team.Team.{Team}
use Rattle.rule_book.specs.declared.team_score.Figures.{Figures}
use Rattle.rule_book.specs.Positions.{is_keeper, is_defender, is_midfielder, is_forward, keepers, defenders, midfielders, forwards}
use Rattle.rule_book.specs.Squads.{positions_of}
use Rattle.rule_book.specs.Lineups.{is_formation, has_keeper_in}
use Rattle.rule_book.specs.Teams.{InTeam, has_position, keeper_at, defender_at, midfielder_at, forward_at, starters, all_slots}
use Rattle.rule_book.specs.Elevens.{is_used, is_legal_eleven, has_enough_in, HasLegalLineup, IsKeeperSlot, IsSubstituted, EnoughForElevens}
use Rattle.scoring.specs.Ones.{one_if}
use Rattle.scoring.proofs.Counted.{starters_at, starter_from, swapped}
use Rattle.scoring.proofs.Standers.{Stands, stands, keeper_stands, stander}
use Rattle.scoring.proofs.Steps.{used_no, used_yes, not_same}
use Rattle.scoring.proofs.Legal.{keeper_is_no_other, not_defender, not_midfielder, not_forward}

abbrev used_by : (ℕ → Bool) → Bool → Bool → Bool → ℕ
used_by test a b c = one_if (a && test 13) + one_if (b && test 14) + one_if (c && test 15)

-- how many of the bench that are used pass a test, and how many of the bench do
abbrev used_of : (ℕ → Bool) → List ℕ → ℕ
used_of test before = used_by test (is_used before 13) (is_used before 14) (is_used before 15)

abbrev bench_of : (ℕ → Bool) → ℕ
bench_of test = one_if (test 13) + one_if (test 14) + one_if (test 15)

at_most_one : (a b : Bool) → one_if (a && b) ≤ one_if b
at_most_one true b = omega arith
at_most_one false b = omega arith

used_within : (test : ℕ → Bool) (before : List ℕ) → used_of test before ≤ bench_of test
used_within test before =
    omega (arith, at_most_one (is_used before 13) (test 13), at_most_one (is_used before 14) (test 14), at_most_one (is_used before 15) (test 15))

used_same : (test : ℕ → Bool) (before : List ℕ) (x : ℕ) → x ≤ 12 → used_of test (before ++ x ∷ []) ≡ used_of test before
used_same test before x low =
    ap (λ a. used_by test a (is_used (before ++ x ∷ []) 14) (is_used (before ++ x ∷ []) 15)) (used_no before x 13 (not_same x 13 (omega arith)))
    ∙ ap (λ b. used_by test (is_used before 13) b (is_used (before ++ x ∷ []) 15)) (used_no before x 14 (not_same x 14 (omega arith)))
    ∙ ap (λ c. used_by test (is_used before 13) (is_used before 14) c) (used_no before x 15 (not_same x 15 (omega arith)))

one_of_three : (x : ℕ) → 13 ≤ x → x ≤ 15 → (x ≡ 13) ⊎ ((x ≡ 14) ⊎ (x ≡ 15))
one_of_three x from to = elim (cases_eq x 13) [
  | inl e ↦ inl e
  | inr above ↦ inr (elim (cases_eq x 14) [ inl e ↦ inl e | inr other ↦ inr (omega arith) ])
]

mark_13 : (test : ℕ → Bool) (a b c : Bool) → a ≡ false → used_by test true b c ≡ used_by test a b c + one_if (test 13)
mark_13 test true b c e = absurd (cc)
mark_13 test false b c e = omega arith

mark_14 : (test : ℕ → Bool) (a b c : Bool) → b ≡ false → used_by test a true c ≡ used_by test a b c + one_if (test 14)
mark_14 test a true c e = absurd (cc)
mark_14 test a false c e = omega arith

mark_15 : (test : ℕ → Bool) (a b c : Bool) → c ≡ false → used_by test a b true ≡ used_by test a b c + one_if (test 15)
mark_15 test a b true e = absurd (cc)
mark_15 test a b false e = omega arith

used_13 : (test : ℕ → Bool) (before : List ℕ) → is_used before 13 ≡ false → used_of test (before ++ 13 ∷ []) ≡ used_of test before + one_if (test 13)
used_13 test before free =
    ap (λ a. used_by test a (is_used (before ++ 13 ∷ []) 14) (is_used (before ++ 13 ∷ []) 15)) (used_yes before 13 13 refl)
    ∙ ap (λ b. used_by test true b (is_used (before ++ 13 ∷ []) 15)) (used_no before 13 14 refl)
    ∙ ap (λ c. used_by test true (is_used before 14) c) (used_no before 13 15 refl)
    ∙ mark_13 test (is_used before 13) (is_used before 14) (is_used before 15) free

used_14 : (test : ℕ → Bool) (before : List ℕ) → is_used before 14 ≡ false → used_of test (before ++ 14 ∷ []) ≡ used_of test before + one_if (test 14)
used_14 test before free =
    ap (λ a. used_by test a (is_used (before ++ 14 ∷ []) 14) (is_used (before ++ 14 ∷ []) 15)) (used_no before 14 13 refl)
    ∙ ap (λ b. used_by test (is_used before 13) b (is_used (before ++ 14 ∷ []) 15)) (used_yes before 14 14 refl)
    ∙ ap (λ c. used_by test (is_used before 13) true c) (used_no before 14 15 refl)
    ∙ mark_14 test (is_used before 13) (is_used before 14) (is_used before 15) free

used_15 : (test : ℕ → Bool) (before : List ℕ) → is_used before 15 ≡ false → used_of test (before ++ 15 ∷ []) ≡ used_of test before + one_if (test 15)
used_15 test before free =
    ap (λ a. used_by test a (is_used (before ++ 15 ∷ []) 14) (is_used (before ++ 15 ∷ []) 15)) (used_no before 15 13 refl)
    ∙ ap (λ b. used_by test (is_used before 13) b (is_used (before ++ 15 ∷ []) 15)) (used_no before 15 14 refl)
    ∙ ap (λ c. used_by test (is_used before 13) (is_used before 14) c) (used_yes before 15 15 refl)
    ∙ mark_15 test (is_used before 13) (is_used before 14) (is_used before 15) free

-- one more of the bench is used
used_more : (test : ℕ → Bool) (before : List ℕ) (x : ℕ) → 13 ≤ x → x ≤ 15 → is_used before x ≡ false → used_of test (before ++ x ∷ []) ≡ used_of test before + one_if (test x)
used_more test before x from to =
    let P : ℕ → Type 0 = λ y. is_used before y ≡ false → used_of test (before ++ y ∷ []) ≡ used_of test before + one_if (test y) in
    elim (one_of_three x from to) [
      | inl e ↦ subst P (sym e) (used_13 test before)
      | inr other ↦ elim other [ inl e ↦ subst P (sym e) (used_14 test before) | inr e ↦ subst P (sym e) (used_15 test before) ]
    ]

-- the starters from j + 1 on
behind : (j : ℕ) → j < 11 → drop j starters ≡ (j + 1) ∷ drop (j + 1) starters
behind j inside = let back : j + 1 - 1 ≡ j = omega arith in rw back at (starters_at (j + 1) (omega arith) (omega arith))

-- A count of the eleven so far is at most that of the starters and of those who came in: here for a free slot of the
-- bench, in the place of starter j + 1
bounded_with : (test : ℕ → Bool) (before : List ℕ) (j x : ℕ) → j < 11 → 13 ≤ x → x ≤ 15 → is_used before x ≡ false → count_by test (before ++ drop j starters) ≤ count_by test starters + used_of test before → count_by test (before ++ x ∷ drop (j + 1) starters) ≤ count_by test starters + used_of test (before ++ x ∷ [])
bounded_with test before j x inside from to free bound =
    let own = ap (λ xs. count_by test (before ++ xs)) (behind j inside) in
    omega (arith, bound, own, swapped test before (drop (j + 1) starters) (j + 1) x, used_more test before x from to free)

bounded_more : (team : Team) (figures : List Figures) (test : ℕ → Bool) (before : List ℕ) (j x : ℕ) → j < 11 → Stands team figures before (j + 1) x → count_by test (before ++ drop j starters) ≤ count_by test starters + used_of test before → count_by test (before ++ x ∷ drop (j + 1) starters) ≤ count_by test starters + used_of test (before ++ x ∷ [])
bounded_more team figures test before j x inside (inl e) bound =
    let own = ap (λ xs. count_by test (before ++ xs)) (behind j inside) in
    let here = ap (λ s. count_by test (before ++ s ∷ drop (j + 1) starters)) e in
    let low : x ≤ 12 = omega (arith, e) in
    omega (arith, bound, own, here, used_same test before x low)
bounded_more team figures test before j x inside (inr f) bound =
    bounded_with test before j x inside f.0 f.1 (stander team figures before (j + 1) x f.2).0 bound

-- the count of a goalkeeper's slot is that of the other's
counted_first : (test : ℕ → Bool) (slot : ℕ) → IsKeeperSlot slot → test 1 ≡ test 12 → count_by test (slot ∷ drop 1 starters) ≡ count_by test starters
counted_first test slot (inl e) same = ap (λ s. count_by test (s ∷ drop 1 starters)) e
counted_first test slot (inr e) same =
    let first : one_if (test 1) ≡ one_if (test 12) = ap one_if same in
    let here = ap (λ s. count_by test (s ∷ drop 1 starters)) e in
    omega (arith, first, here, sum_by-cons (λ s. one_if (test s)) 12 (drop 1 starters), sum_by-cons (λ s. one_if (test s)) 1 (drop 1 starters))

bounded : (team : Team) (figures : List Figures) (eleven : List ℕ) → IsSubstituted team figures eleven → (test : ℕ → Bool) → test 1 ≡ test 12 → (j : ℕ) → j < 11 → count_by test (take (j + 1) eleven ++ drop (j + 1) starters) ≤ count_by test starters + used_of test (take (j + 1) eleven)
bounded team figures eleven s test same zero inside =
    let long : length eleven ≡ 11 = s.all in
    let front : take 1 eleven ≡ get_or eleven 0 0 ∷ [] = take_more eleven 0 0 (omega arith) in
    let here = ap (λ xs. count_by test (xs ++ drop 1 starters)) front in
    omega (arith, here, counted_first test (get_or eleven 0 0) (keeper_stands team figures eleven s) same)
bounded team figures eleven s test same (suc j) inside =
    let long : length eleven ≡ 11 = s.all in
    let one : j + 1 ≡ suc j = omega arith in
    let slot = get_or eleven (suc j) 0 in
    let before = take (suc j) eleven in
    let P : ℕ → Type 0 = λ n. count_by test (take n eleven ++ drop n starters) ≤ count_by test starters + used_of test (take n eleven) in
    let so_far = subst P one (bounded team figures eleven s test same j (omega arith)) in
    let more = bounded_more team figures test before (suc j) slot inside (stands team figures eleven s (suc j) (omega arith) inside) so_far in
    let front : take (suc j + 1) eleven ≡ before ++ slot ∷ [] = take_more eleven (suc j) 0 (omega arith) in
    let count = ap (λ xs. count_by test (xs ++ drop (suc j + 1) starters)) front ∙ ap (count_by test) (append_assoc before (slot ∷ []) (drop (suc j + 1) starters)) in
    let used = ap (used_of test) front in
    omega (arith, more, count, used)

-- with a free slot of the bench a count is at most that of all fifteen but for the bench's goalkeeper
bounded_candidate : (team : Team) (figures : List Figures) (eleven : List ℕ) → IsSubstituted team figures eleven → (test : ℕ → Bool) → test 1 ≡ test 12 → (j x : ℕ) → 1 ≤ j → j < 11 → 13 ≤ x → x ≤ 15 → is_used (take j eleven) x ≡ false → count_by test (take j eleven ++ x ∷ drop (j + 1) starters) ≤ count_by test starters + bench_of test
bounded_candidate team figures eleven s test same zero x low inside from to free = absurd (omega arith)
bounded_candidate team figures eleven s test same (suc j) x low inside from to free =
    let one : j + 1 ≡ suc j = omega arith in
    let P : ℕ → Type 0 = λ n. count_by test (take n eleven ++ drop n starters) ≤ count_by test starters + used_of test (take n eleven) in
    let so_far = subst P one (bounded team figures eleven s test same j (omega arith)) in
    let with_x = bounded_with test (take (suc j) eleven) (suc j) x inside from to free so_far in
    omega (arith, with_x, used_within test (take (suc j) eleven ++ x ∷ []))

-- all fifteen, by their slots and by their positions
all_counted : (test : Position → Bool) (picks : List Pick) → length picks ≡ 15 → count_by (λ slot. option_map_or (has_position test) (slice_get picks (slot - 1)) false) all_slots ≡ count_by test (positions_of picks)
all_counted test (p1 ∷ p2 ∷ p3 ∷ p4 ∷ p5 ∷ p6 ∷ p7 ∷ p8 ∷ p9 ∷ p10 ∷ p11 ∷ p12 ∷ p13 ∷ p14 ∷ p15 ∷ []) e = refl
all_counted test picks e = absurd (omega arith)

-- the starters, the goalkeeper of the bench and the others of the bench are all
all_parts : (test : ℕ → Bool) → count_by test all_slots ≡ count_by test starters + one_if (test 12) + bench_of test
all_parts test = omega arith

one_of_four : (p : Position) → one_if (is_keeper p) + one_if (is_defender p) + one_if (is_midfielder p) + one_if (is_forward p) ≡ 1
one_of_four Keeper = refl
one_of_four Defender = refl
one_of_four Midfielder = refl
one_of_four Forward = refl

one_way : (picks : List Pick) (place : ℕ) → place < length picks → one_if (option_map_or (has_position is_keeper) (slice_get picks place) false) + one_if (option_map_or (has_position is_defender) (slice_get picks place) false) + one_if (option_map_or (has_position is_midfielder) (slice_get picks place) false) + one_if (option_map_or (has_position is_forward) (slice_get picks place) false) ≡ 1
one_way [] place inside = absurd (omega arith)
one_way (pick ∷ picks) zero inside = one_of_four pick.position
one_way (pick ∷ picks) (suc place) inside = one_way picks place (omega arith)

-- each slot has one of the four positions
all_ways : (team : Team) → length team.picks ≡ 15 → (slots : List ℕ) → All InTeam slots → count_by (keeper_at team) slots + count_by (defender_at team) slots + count_by (midfielder_at team) slots + count_by (forward_at team) slots ≡ length slots
all_ways team all [] known = refl
all_ways team all (slot ∷ slots) known =
    let here : InTeam slot = All-head InTeam slot slots known in
    let one = one_way team.picks (slot - 1) (omega (arith, here.0, here.1)) in
    let rest = all_ways team all slots (All-tail InTeam slot slots known) in
    omega (arith, one, rest, sum_by-cons (λ s. one_if (keeper_at team s)) slot slots, sum_by-cons (λ s. one_if (defender_at team s)) slot slots, sum_by-cons (λ s. one_if (midfielder_at team s)) slot slots, sum_by-cons (λ s. one_if (forward_at team s)) slot slots)

starters_known : All InTeam starters
starters_known = All-from_get_or InTeam starters 0 (λ i inside. (omega (arith, starter_from i inside), omega (arith, starter_from i inside)))

slot_known : (team : Team) (figures : List Figures) (eleven : List ℕ) → IsSubstituted team figures eleven → (i : ℕ) → i < 11 → InTeam (get_or eleven i 0)
slot_known team figures eleven s zero inside =
    elim (keeper_stands team figures eleven s) [ inl e ↦ (omega (arith, e), omega (arith, e)) | inr e ↦ (omega (arith, e), omega (arith, e)) ]
slot_known team figures eleven s (suc i) inside =
    elim (stands team figures eleven s (suc i) (omega arith) inside) [ inl e ↦ (omega (arith, e), omega (arith, e)) | inr f ↦ (omega (arith, f.0), f.1) ]

eleven_known : (team : Team) (figures : List Figures) (eleven : List ℕ) → IsSubstituted team figures eleven → All InTeam eleven
eleven_known team figures eleven s =
    All-from_get_or InTeam eleven 0 (λ i inside. slot_known team figures eleven s i (omega (arith, s.all)))

keeper_counted : (test : ℕ → Bool) (eleven : List ℕ) (j : ℕ) → length eleven ≡ 11 → test (get_or eleven 0 0) ≡ true → 1 ≤ count_by test (take (suc j) eleven)
keeper_counted test [] j all e = absurd (omega arith)
keeper_counted test (slot ∷ eleven) j all e =
    let one : one_if (test slot) ≡ 1 = ap one_if e in
    omega (arith, one, sum_by-cons (λ s. one_if (test s)) slot (take j eleven))

alike : (k d m f : ℕ) → k ≡ 1 → d + m + f ≡ 10 → d ≤ 5 → m ≤ 5 → f ≤ 3 → is_formation d m f ≡ (eqb k 1 && leb 3 d && leb 1 f)
alike k d m f one ten few_d few_m few_f = grind (arith, nat_tests)

shape_counts : (a b c d : ℕ) → (eqb a 2 && eqb b 5 && eqb c 5 && eqb d 3) ≡ true → (a ≡ 2) × (b ≡ 5) × (c ≡ 5) × (d ≡ 3)
shape_counts a b c d e = (grind (arith, nat_tests), grind (arith, nat_tests), grind (arith, nat_tests), grind (arith, nat_tests))

same_at : (test : Position → Bool) (picks : List Pick) (place : ℕ) → option_map_or test (slice_get (positions_of picks) place) false ≡ option_map_or (has_position test) (slice_get picks place) false
same_at test [] place = refl
same_at test (pick ∷ picks) zero = refl
same_at test (pick ∷ picks) (suc place) = same_at test picks place

abbrev at_slot : (Position → Bool) → Team → ℕ → Bool
at_slot test team slot = option_map_or (has_position test) (slice_get team.picks (slot - 1)) false

-- with a free slot of the bench there are at most as many of a position as in the squad
few_of : (team : Team) (figures : List Figures) (eleven : List ℕ) → length team.picks ≡ 15 → IsSubstituted team figures eleven → (test : Position → Bool) → at_slot test team 1 ≡ at_slot test team 12 → (j x : ℕ) → 1 ≤ j → j < 11 → 13 ≤ x → x ≤ 15 → is_used (take j eleven) x ≡ false → count_by (at_slot test team) (take j eleven ++ x ∷ drop (j + 1) starters) + one_if (at_slot test team 12) ≤ count_by test (positions_of team.picks)
few_of team figures eleven all s test same j x low inside from to free =
    omega (arith, bounded_candidate team figures eleven s (at_slot test team) same j x low inside from to free, all_counted test team.picks all, all_parts (at_slot test team))

alike_at : (team : Team) (figures : List Figures) (eleven : List ℕ) → length team.picks ≡ 15 → HasLegalLineup team → IsSubstituted team figures eleven → (j x : ℕ) → suc j < 11 → 13 ≤ x → x ≤ 15 → is_used (take (suc j) eleven) x ≡ false → is_legal_eleven team (take (suc j) eleven ++ x ∷ drop (suc j + 1) starters) ≡ has_enough_in team (take (suc j) eleven ++ x ∷ drop (suc j + 1) starters)
alike_at team figures eleven all legal s j x inside from to free =
    let positions = positions_of team.picks in
    let slots = take (suc j) eleven ++ x ∷ drop (suc j + 1) starters in
    let placed = legal.lineup.keepers in
    let shape = shape_counts (keepers positions) (defenders positions) (midfielders positions) (forwards positions) legal.shape in
    let two = and_parts (has_keeper_in positions 1) (has_keeper_in positions 12) placed in
    let first : keeper_at team 1 ≡ true = sym (same_at is_keeper team.picks 0) ∙ two.0 in
    let second : keeper_at team 12 ≡ true = sym (same_at is_keeper team.picks 11) ∙ two.1 in
    let low : 1 ≤ suc j = omega arith in
    let no_other : (test : Position → Bool) → ((p : Position) → is_keeper p ≡ true → test p ≡ false) → at_slot test team 1 ≡ at_slot test team 12 = λ test other. keeper_is_no_other test other team.picks placed 1 (inl refl) ∙ sym (keeper_is_no_other test other team.picks placed 12 (inr refl)) in
    let few_k = few_of team figures eleven all s is_keeper (first ∙ sym second) (suc j) x low inside from to free in
    let few_d = few_of team figures eleven all s is_defender (no_other is_defender not_defender) (suc j) x low inside from to free in
    let few_m = few_of team figures eleven all s is_midfielder (no_other is_midfielder not_midfielder) (suc j) x low inside from to free in
    let few_f = few_of team figures eleven all s is_forward (no_other is_forward not_forward) (suc j) x low inside from to free in
    let counted : one_if (keeper_at team 12) ≡ 1 = ap one_if second in
    let front : keeper_at team (get_or eleven 0 0) ≡ true = elim (keeper_stands team figures eleven s) [ inl e ↦ ap (keeper_at team) e ∙ first | inr e ↦ ap (keeper_at team) e ∙ second ] in
    let some_k = keeper_counted (keeper_at team) eleven j s.all front in
    let parts = sum_by-append (λ slot. one_if (keeper_at team slot)) (take (suc j) eleven) (x ∷ drop (suc j + 1) starters) in
    let one : count_by (keeper_at team) slots ≡ 1 = omega (arith, few_k, counted, some_k, parts, shape.0) in
    let known : All InTeam slots = All-append InTeam (take (suc j) eleven) (x ∷ drop (suc j + 1) starters) (All-take InTeam (suc j) eleven (eleven_known team figures eleven s)) (All-cons InTeam x (drop (suc j + 1) starters) (omega arith, to) (All-drop InTeam (suc j + 1) starters starters_known)) in
    let long : length slots ≡ 11 = omega (arith, length-append (take (suc j) eleven) (x ∷ drop (suc j + 1) starters), length-take (suc j) eleven, length-drop (suc j + 1) starters, s.all) in
    let ways = all_ways team all slots known in
    alike (count_by (keeper_at team) slots) (count_by (defender_at team) slots) (count_by (midfielder_at team) slots) (count_by (forward_at team) slots) one (omega (arith, ways, one, long)) (omega (arith, few_d, shape.1)) (omega (arith, few_m, shape.2)) (omega (arith, few_f, shape.3))

pub enough_alike : EnoughForElevens
enough_alike team figures eleven all legal s zero x low high from to free = absurd (omega arith)
enough_alike team figures eleven all legal s (suc zero) x low high from to free = absurd (omega arith)
enough_alike team figures eleven all legal s (suc (suc j)) x low high from to free =
    let front : suc (suc j) - 1 ≡ suc j = omega arith in
    let back : suc j + 1 ≡ suc (suc j) = omega arith in
    let P : ℕ → Type 0 = λ m. is_legal_eleven team (take (suc j) eleven ++ x ∷ drop m starters) ≡ has_enough_in team (take (suc j) eleven ++ x ∷ drop m starters) in
    let free_at : is_used (take (suc j) eleven) x ≡ false = sym (ap (λ m. is_used (take m eleven) x) front) ∙ free in
    let Q : ℕ → Type 0 = λ m. is_legal_eleven team (take m eleven ++ x ∷ drop (suc (suc j)) starters) ≡ has_enough_in team (take m eleven ++ x ∷ drop (suc (suc j)) starters) in
    subst Q (sym front) (subst P back (alike_at team figures eleven all legal s j x (omega arith) from to free_at))
