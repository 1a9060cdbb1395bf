-- A squad that nothing refuses is legal, and the other way round.
use Rattle.std.proofs.Common.{◌≡◌, ◌≢◌, ℕ, zero, suc, ◌+◌, ◌<◌, ◌≤◌, Bool, true, false, cond, ◌||◌, eqb, min, List, [], ◌∷◌, Option, Some, None, find, length, get_or, take, refl, sym, ap, ◌∙◌, arith, length-take, get_or-take, zero-add}
use Rattle.std.specs.List.{list_any, range_with_len, reduce, filter, count_by, AllPairs, slice_index}
use Rattle.std.specs.Option.{option_map}
use Rattle.std.proofs.lemmas.Bool.{false≢true, or_parts}
use Rattle.std.proofs.lemmas.Bool.Decides.{nat_tests}
use Rattle.std.proofs.lemmas.List.{get_or_default}
use Rattle.std.proofs.lemmas.List.Folds.{list_any_none, list_any_at, Any-from_list_any}
use Rattle.std.proofs.lemmas.List.Sums.{sum_by-cons}
use Rattle.fpl_base.specs.declared.rule.Rule.{Rule}
use Rattle.fpl_base.specs.declared.rule.Rule.TheVariants as rule
use Rattle.rule_book.specs.declared.team.Pick.{Pick}
use Rattle.rule_book.specs.Repeats.{is_repeat, first_repeat}
use Rattle.rule_book.specs.Squads.{IsSquad, players_of, positions_of, has_squad_shape, count_of_club, is_crowded, least_crowded, squad_refusal}
use Rattle.rule_book.specs.Refusals.{first_broken, unless}
use Rattle.squad_rules.proofs.Repeats.{find_in_no_range}

none_here : (b : Bool) (k : ℕ) (o : Option ℕ) → cond b (Some k) o ≡ None → (b ≡ false) × (o ≡ None)
none_here true k o e = absurd (cc)
none_here false k o e = (refl, e)

by_order : (p : ℕ → Bool) (a k : ℕ) (b : Bool) → eqb a k ≡ b → a ≤ k → p a ≡ false → (a + 1 ≤ k → p k ≡ false) → p k ≡ false
by_order p a k true e from here rest = let same : a ≡ k = grind (arith, nat_tests) in sym (ap p same) ∙ here
by_order p a k false e from here rest = let less : a < k = grind (arith, nat_tests) in rest (omega arith)

-- where none of a range is found, none passes
none_in_range : (p : ℕ → Bool) (a n : ℕ) → find p (range_with_len a n) ≡ None → (k : ℕ) → a ≤ k → k < a + n → p k ≡ false
none_in_range p a zero e k from to = absurd (omega arith)
none_in_range p a (suc n) e k from to =
    let split = none_here (p a) a (find p (range_with_len (a + 1) n)) e in
    by_order p a k (eqb a k) refl from split.0 (λ l. none_in_range p (a + 1) n split.1 k l (omega arith))

none_mapped : (f : ℕ → ℕ) (o : Option ℕ) → option_map f o ≡ None → o ≡ None
none_mapped f None e = refl
none_mapped f (Some x) e = absurd (cc)

-- where no player is the first to stand twice, no two are the same
pub apart_when : (players : List ℕ) → first_repeat players ≡ None → AllPairs (λ one other. one ≢ other) players
apart_when players e i j d before inside same =
    let none = none_in_range (is_repeat players) 0 (length players) (none_mapped (slice_index players) _ e) j (omega arith) (omega arith) in
    let at_i : get_or (take j players) i 0 ≡ get_or players i 0 = get_or-take j players i 0 before in
    let shorter : i < length (take j players) = omega (arith, length-take j players) in
    let one : get_or players i d ≡ get_or players i 0 = get_or_default players i d 0 (omega arith) in
    let other : get_or players j d ≡ get_or players j 0 = get_or_default players j d 0 inside in
    let equal : get_or (take j players) i 0 ≡ get_or players j 0 = cc in
    let test : eqb (get_or (take j players) i 0) (get_or players j 0) ≡ true = grind (arith, nat_tests) in
    let found = list_any_at (λ player. eqb player (get_or players j 0)) (take j players) i 0 shorter test in
    false≢true (sym none ∙ found)

-- where no two are the same, no player is the first to stand twice
pub apart_then : (players : List ℕ) → AllPairs (λ one other. one ≢ other) players → first_repeat players ≡ None
apart_then players apart =
    ap (option_map (slice_index players))
    (find_in_no_range (is_repeat players) 0 (length players)
    (λ j from inside.
    list_any_none (λ player. eqb player (get_or players j 0)) (take j players)
    (λ i d within.
    let before : i < j = omega (arith, length-take j players) in
    let at_i : get_or (take j players) i d ≡ get_or players i d = get_or-take j players i d before in
    let one : get_or players i d ≡ get_or players i 0 = get_or_default players i d 0 (omega arith) in
    let differ : get_or players i 0 ≢ get_or players j 0 = apart i j 0 before (omega arith) in
    let test : eqb (get_or (take j players) i d) (get_or players j 0) ≡ false = grind (arith, nat_tests) in
    test)))

head_filtered : (b : Bool) (x : ℕ) (ys : List ℕ) (r : Bool) → (ys ≡ [] → r ≡ false) → cond b (x ∷ ys) ys ≡ [] → (b || r) ≡ false
head_filtered true x ys r rest e = absurd (cc)
head_filtered false x ys r rest e = rest e

any_filtered : (p : ℕ → Bool) (xs : List ℕ) → filter p xs ≡ [] → list_any p xs ≡ false
any_filtered p [] e = refl
any_filtered p (x ∷ xs) e = head_filtered (p x) x (filter p xs) (list_any p xs) (any_filtered p xs) e

none_filtered : (p : ℕ → Bool) (xs : List ℕ) → list_any p xs ≡ false → filter p xs ≡ []
none_filtered p [] e = refl
none_filtered p (x ∷ xs) e =
    let split = or_parts (p x) (list_any p xs) e in
    ap (λ b. cond b (x ∷ filter p xs) (filter p xs)) split.0 ∙ none_filtered p xs split.1

none_reduced : (xs : List ℕ) → reduce min xs ≡ None → xs ≡ []
none_reduced [] e = refl
none_reduced (x ∷ xs) e = absurd (cc)

none_counted : (p : ℕ → Bool) (xs : List ℕ) → list_any p xs ≡ false → count_by p xs ≡ 0
none_counted p [] e = refl
none_counted p (x ∷ xs) e =
    let split = or_parts (p x) (list_any p xs) e in
    sum_by-cons (λ y. cond (p y) 1 0) x xs ∙ ap (λ b. cond b 1 0 + count_by p xs) split.0 ∙ zero-add (count_by p xs) ∙ none_counted p xs split.1

-- a club with players has one in the list
crowd_found : (clubs : List ℕ) (club : ℕ) (b : Bool) → list_any (λ other. eqb other club) clubs ≡ b → 3 < count_of_club clubs club → list_any (is_crowded clubs) clubs ≡ true
crowd_found clubs club false e many = absurd (omega (arith, none_counted (λ other. eqb other club) clubs e))
crowd_found clubs club true e many =
    let there = Any-from_list_any (λ other. eqb other club) clubs e in
    let same : there.1 ≡ club = let test = there.4 in grind (arith, nat_tests) in
    let here : get_or clubs there.0 there.1 ≡ club = there.3 ∙ same in
    let crowded : is_crowded clubs club ≡ true = grind (arith, nat_tests) in
    list_any_at (is_crowded clubs) clubs there.0 there.1 there.2 (ap (is_crowded clubs) here ∙ crowded)

within_three : (clubs : List ℕ) (club : ℕ) (b : Bool) → is_crowded clubs club ≡ b → list_any (is_crowded clubs) clubs ≡ false → count_of_club clubs club ≤ 3
within_three clubs club true e none =
    let many : 3 < count_of_club clubs club = grind (arith, nat_tests) in
    absurd (false≢true (sym none ∙ crowd_found clubs club (list_any (λ other. eqb other club) clubs) refl many))
within_three clubs club false e none = grind (arith, nat_tests)

-- where no club is the least with too many, none has too many
pub spread_when : (clubs : List ℕ) → least_crowded clubs ≡ None → (club : ℕ) → count_of_club clubs club ≤ 3
spread_when clubs e club =
    within_three clubs club (is_crowded clubs club) refl (any_filtered (is_crowded clubs) clubs (none_reduced _ e))

pub spread_then : (clubs : List ℕ) → ((club : ℕ) → count_of_club clubs club ≤ 3) → least_crowded clubs ≡ None
spread_then clubs few =
    ap (reduce min)
    (none_filtered (is_crowded clubs) clubs
    (list_any_none (is_crowded clubs) clubs
    (λ k d inside. let at_most : count_of_club clubs (get_or clubs k d) ≤ 3 = few (get_or clubs k d) in grind (arith, nat_tests))))

no_first : (o : Option Rule) (more : List (Option Rule)) → first_broken (o ∷ more) ≡ None → (o ≡ None) × (first_broken more ≡ None)
no_first None more e = (refl, e)
no_first (Some r) more e = absurd (cc)

none_made : (f : ℕ → Rule) (o : Option ℕ) → option_map f o ≡ None → o ≡ None
none_made f None e = refl
none_made f (Some x) e = absurd (cc)

unless_none : (b : Bool) (r : Rule) → unless b r ≡ None → b ≡ true
unless_none true r e = refl
unless_none false r e = absurd (cc)

-- a squad that nothing refuses is legal
pub legal_when : (picks : List Pick) (clubs : List ℕ) → squad_refusal picks clubs ≡ None → IsSquad picks clubs
legal_when picks clubs e =
    let twice = no_first (option_map rule.Twice (first_repeat (players_of picks))) _ e in
    let shape = no_first (unless (has_squad_shape (positions_of picks)) rule.SquadShape) _ twice.1 in
    let club = no_first (option_map rule.ClubLimit (least_crowded clubs)) [] shape.1 in
    record {
      distinct = apart_when (players_of picks) (none_made rule.Twice _ twice.0);
      shape = unless_none (has_squad_shape (positions_of picks)) rule.SquadShape shape.0;
      spread = spread_when clubs (none_made rule.ClubLimit _ club.0);
    }

-- nothing refuses a legal squad
legal_then : (picks : List Pick) (clubs : List ℕ) → IsSquad picks clubs → squad_refusal picks clubs ≡ None
legal_then picks clubs s =
    let shape = unless (has_squad_shape (positions_of picks)) rule.SquadShape in
    let club = option_map rule.ClubLimit (least_crowded clubs) in
    ap (λ o. first_broken (option_map rule.Twice o ∷ shape ∷ club ∷ [])) (apart_then (players_of picks) s.distinct)
    ∙ ap (λ b. first_broken (unless b rule.SquadShape ∷ club ∷ [])) s.shape
    ∙ ap (λ o. first_broken (option_map rule.ClubLimit o ∷ [])) (spread_then clubs s.spread)

some_none : (r : Rule) (o : Option Rule) → o ≡ Some r → o ≡ None → false ≡ true
some_none r o e f = cc

-- a squad that is refused is not legal
pub refused : (picks : List Pick) (clubs : List ℕ) (r : Rule) → squad_refusal picks clubs ≡ Some r → (false ≡ true → IsSquad picks clubs) × (IsSquad picks clubs → false ≡ true)
refused picks clubs r e =
    (λ f. absurd (false≢true f), λ s. some_none r (squad_refusal picks clubs) e (legal_then picks clubs s))
