-- One more starter is settled.
use Rattle.std.proofs.Common.{◌≡◌, ℕ, ◌-◌, ◌≤◌, ◌<◌, ◌+◌, Bool, true, false, not, Some, None, List, [], ◌∷◌, ◌++◌, ◌&&◌, take, drop, set, length, get_or, find, unwrap_or, refl, sym, ◌∙◌, ap, subst, arith, eqb, get_or-set_same, get_or-set_other, length-set, ◌≢◌}
use Rattle.std.specs.List.{count_by, All}
use Rattle.std.proofs.lemmas.List.{drop_more, drop-set, take_more, take-set, take-set-le, drop-set-lt, get_or-drop, take_more_set, take-append-drop}
use Rattle.std.proofs.lemmas.List.Folds.{list_any-append}
use Rattle.std.proofs.lemmas.List.Elements.{All-set}
use Rattle.std.proofs.lemmas.Bool.{false≢true}
use Rattle.std.proofs.lemmas.Bool.Decides.{nat_tests}
use Rattle.std.proofs.lemmas.Grind.{common_steps}
use Rattle.rule_book.specs.declared.team.Team.{Team}
use Rattle.rule_book.specs.declared.team_score.Figures.{Figures}
use Rattle.scoring.specs.declared.substitutions.Progress.{Progress}
use Rattle.rule_book.specs.Teams.{midfielder_at, defender_at, forward_at, starters, did_play, bench, InTeam}
use Rattle.scoring.specs.Ones.{one_if}
use Rattle.rule_book.specs.Elevens.{is_legal_eleven, is_used, slot_of, can_stand, Settles}
use Rattle.rule_book.specs.Lineups.{is_formation}
use Rattle.scoring.specs.declared.counts.Counts.{Counts}
use Rattle.scoring.specs.Counts.{AreCounts, AreCountsAfter, HasCounted}
use Rattle.scoring.specs.Standing.{Standing}
use Rattle.std.proofs.lemmas.List.Sums.{count_by-le-length}
use Rattle.scoring.proofs.Counted.{starters_at, count_after, counted_with}

-- the eleven so far: those before n, n, and those behind him
pub split_at : (team : Team) (figures : List Figures) (n : ℕ) (p : Progress) → 2 ≤ n → n ≤ 11 → Standing team figures n p → p.slots ≡ take (n - 1) p.slots ++ n ∷ drop n starters
split_at team figures n p low high s =
    sym (take-append-drop (n - 1) p.slots) ∙ ap (λ xs. take (n - 1) p.slots ++ xs) (s.rest ∙ starters_at n (omega arith) high)

-- the counts after x came for n are those of the eleven with x
after_one : (team : Team) (figures : List Figures) (n : ℕ) (p : Progress) (x : ℕ) (k : Counts) → 2 ≤ n → n ≤ 11 → Standing team figures n p → AreCountsAfter team n x p.counts k → AreCounts team (take (n - 1) p.slots ++ x ∷ drop n starters) k
after_one team figures n p x k low high s after =
    let e = split_at team figures n p low high s in
    let before = take (n - 1) p.slots in
    let behind = drop n starters in
    record {
      defenders = count_after (defender_at team) before behind n x p.counts.defenders k.defenders (s.counts.defenders ∙ ap (count_by (defender_at team)) e) after.defenders;
      midfielders = count_after (midfielder_at team) before behind n x p.counts.midfielders k.midfielders (s.counts.midfielders ∙ ap (count_by (midfielder_at team)) e) after.midfielders;
      forwards = count_after (forward_at team) before behind n x p.counts.forwards k.forwards (s.counts.forwards ∙ ap (count_by (forward_at team)) e) after.forwards;
    }

-- the counts after x came for n tell whether the formation is legal
pub legal_when : (team : Team) (figures : List Figures) (n : ℕ) (p : Progress) (x : ℕ) (k : Counts) → 2 ≤ n → n ≤ 11 → Standing team figures n p → AreCountsAfter team n x p.counts k → is_formation k.defenders k.midfielders k.forwards ≡ is_legal_eleven team (take (n - 1) p.slots ++ x ∷ drop n starters)
legal_when team figures n p x k low high s after =
    let own = after_one team figures n p x k low high s after in
    ap (λ d. is_formation d k.midfielders k.forwards) own.defenders
    ∙ ap (λ m. is_formation (count_by (defender_at team) (take (n - 1) p.slots ++ x ∷ drop n starters)) m k.forwards) own.midfielders
    ∙ ap (λ f. is_formation (count_by (defender_at team) (take (n - 1) p.slots ++ x ∷ drop n starters)) (count_by (midfielder_at team) (take (n - 1) p.slots ++ x ∷ drop n starters)) f) own.forwards

pub stand_when : (team : Team) (figures : List Figures) (n : ℕ) (p : Progress) (x : ℕ) → 13 ≤ x → x ≤ 15 → Standing team figures n p → did_play figures x ≡ true → get_or p.used (x - 13) false ≡ false → is_legal_eleven team (take (n - 1) p.slots ++ x ∷ drop n starters) ≡ can_stand team figures (take (n - 1) p.slots) n x
stand_when team figures n p x from to s played free =
    let unused : is_used (take (n - 1) p.slots) x ≡ false = sym (s.used x from to) ∙ free in
    sym (ap (λ b. true && not b && is_legal_eleven team (take (n - 1) p.slots ++ x ∷ drop n starters)) unused)
    ∙ sym (ap (λ b. b && not (is_used (take (n - 1) p.slots) x) && is_legal_eleven team (take (n - 1) p.slots ++ x ∷ drop n starters)) played)

counts_one : (team : Team) (figures : List Figures) (n : ℕ) (p : Progress) (test : ℕ → Bool) (count : ℕ) → 2 ≤ n → n ≤ 11 → Standing team figures n p → count ≡ count_by test p.slots → (one_if (test n) ≤ count) × (count ≤ 11)
counts_one team figures n p test count low high s e =
    let split = ap (count_by test) (split_at team figures n p low high s) ∙ counted_with test (take (n - 1) p.slots) (drop n starters) n in
    (omega (arith, split, e), omega (arith, e, s.all, count_by-le-length test p.slots))

-- the counts hold the starter who goes
pub counts_own : (team : Team) (figures : List Figures) (n : ℕ) (p : Progress) → 2 ≤ n → n ≤ 11 → Standing team figures n p → HasCounted team n p.counts
counts_own team figures n p low high s = record {
  defenders = counts_one team figures n p (defender_at team) p.counts.defenders low high s s.counts.defenders;
  midfielders = counts_one team figures n p (midfielder_at team) p.counts.midfielders low high s s.counts.midfielders;
  forwards = counts_one team figures n p (forward_at team) p.counts.forwards low high s s.counts.forwards;
}

-- who stands for m depends on the slots up to m alone
settles_along : (team : Team) (figures : List Figures) (h k : List ℕ) (m : ℕ) → take (m - 1) h ≡ take (m - 1) k → slot_of h m ≡ slot_of k m → Settles team figures h m → Settles team figures k m
settles_along team figures h k m before at s = record {
  present = λ e. sym at ∙ s.present e;
  absent = λ e. sym at ∙ s.absent e ∙ ap (λ b. unwrap_or (find (can_stand team figures b m) bench) m) before;
}

-- a starter who is not settled yet stands for himself
pub own_slot : (team : Team) (figures : List Figures) (n : ℕ) (p : Progress) → 2 ≤ n → n ≤ 11 → Standing team figures n p → slot_of p.slots n ≡ n
own_slot team figures n p low high s =
    let zero_more : n - 1 + 0 ≡ n - 1 = omega arith in
    sym (ap (λ m. get_or p.slots m 0) zero_more) ∙ sym (get_or-drop (n - 1) p.slots 0 0) ∙ ap (λ xs. get_or xs 0 0) (s.rest ∙ starters_at n (omega arith) high)

-- what is settled so far, and one more
settled_more : (team : Team) (figures : List Figures) (h : List ℕ) (n : ℕ) → ((m : ℕ) → 2 ≤ m → m < n → Settles team figures h m) → Settles team figures h n → (m : ℕ) (b : Bool) → eqb m n ≡ b → 2 ≤ m → m < n + 1 → Settles team figures h m
settled_more team figures h n before here m true e low high =
    let P : ℕ → Type 0 = λ k. Settles team figures h k in
    let same : n ≡ m = grind (arith, nat_tests) in subst P same here
settled_more team figures h n before here m false e low high =
    let under : m < n = grind (arith, nat_tests) in before m low under

drop_along : (h : List ℕ) (i x : ℕ) (xs : List ℕ) → i < length h → drop i h ≡ x ∷ xs → drop (i + 1) h ≡ xs
drop_along h i x xs l e = let m = drop_more h i 0 l in cc

pub used_no : (before : List ℕ) (m x : ℕ) → eqb m x ≡ false → is_used (before ++ m ∷ []) x ≡ is_used before x
used_no before m x e = grind (arith, common_steps, list_any-append (λ k. eqb k x) before (m ∷ []))

pub used_yes : (before : List ℕ) (m x : ℕ) → eqb m x ≡ true → is_used (before ++ m ∷ []) x ≡ true
used_yes before m x e = grind (arith, common_steps, list_any-append (λ k. eqb k x) before (m ∷ []))

pub not_same : (m x : ℕ) → m < x → eqb m x ≡ false
not_same m x l = grind (arith, nat_tests)

-- the starter stays
pub stays_on : (team : Team) (figures : List Figures) (n : ℕ) (p : Progress) → 2 ≤ n → n ≤ 11 → Standing team figures n p → Settles team figures p.slots n → Standing team figures (n + 1) p
stays_on team figures n p low high s here =
    let e : n + 1 - 1 ≡ n = omega arith in
    let back : n - 1 + 1 ≡ n = omega arith in
    let all : length p.slots ≡ 11 = s.all in
    let own = own_slot team figures n p low high s in
    let more : take n p.slots ≡ take (n - 1) p.slots ++ n ∷ [] =
    ap (λ m. take m p.slots) (sym back) ∙ take_more p.slots (n - 1) 0 (omega arith) ∙ ap (λ x. take (n - 1) p.slots ++ x ∷ []) own in
    record {
      all = s.all;
      known = s.known;
      marks = s.marks;
      keeper = s.keeper;
      settled = λ m l u. settled_more team figures p.slots n s.settled here m (eqb m n) refl l u;
      rest = rw e (ap (λ m. drop m p.slots) (sym back) ∙ drop_along p.slots (n - 1) n (drop n starters) (omega arith) (s.rest ∙ starters_at n (omega arith) high));
      counts = s.counts;
      used = λ x from to. rw e (s.used x from to ∙ sym (ap (λ xs. is_used xs x) more ∙ used_no (take (n - 1) p.slots) n x (not_same n x (omega arith))));
    }

-- a present starter is settled as he stands
pub present_settles : (team : Team) (figures : List Figures) (n : ℕ) (p : Progress) → 2 ≤ n → n ≤ 11 → Standing team figures n p → did_play figures n ≡ true → Settles team figures p.slots n
present_settles team figures n p low high s played = record {
  present = λ e. own_slot team figures n p low high s;
  absent = λ e. absurd (false≢true (sym e ∙ played));
}

-- an absent starter for whom nobody can stand is settled as he stands
pub alone_settles : (team : Team) (figures : List Figures) (n : ℕ) (p : Progress) → 2 ≤ n → n ≤ 11 → Standing team figures n p → did_play figures n ≡ false → None ≡ find (can_stand team figures (take (n - 1) p.slots) n) bench → Settles team figures p.slots n
alone_settles team figures n p low high s away nobody = record {
  present = λ e. absurd (false≢true (sym away ∙ e));
  absent = λ e. own_slot team figures n p low high s ∙ ap (λ o. unwrap_or o n) nobody;
}

-- a slot before the one that is written
slot_before : (h : List ℕ) (n x m : ℕ) → 1 ≤ m → m < n → slot_of h m ≡ slot_of (set h (n - 1) x) m
slot_before h n x m low l = let ne : m - 1 ≢ n - 1 = λ e. omega arith in sym (get_or-set_other h (n - 1) (m - 1) x 0 ne)

-- the marks after one more
marks_more : (used : List Bool) (before : List ℕ) (x y : ℕ) (b : Bool) → length used ≡ 3 → 13 ≤ x → x ≤ 15 → 13 ≤ y → eqb x y ≡ b → get_or used (y - 13) false ≡ is_used before y → get_or (set used (x - 13) true) (y - 13) false ≡ is_used (before ++ x ∷ []) y
marks_more used before x y true l from to low e was =
    let same : y - 13 ≡ x - 13 = grind (arith, nat_tests) in
    let inside : x - 13 < length used = omega arith in
    ap (λ k. get_or (set used (x - 13) true) k false) same ∙ get_or-set_same used (x - 13) true false inside ∙ sym (used_yes before x y e)
marks_more used before x y false l from to low e was =
    let ne : y - 13 ≢ x - 13 = grind (arith, nat_tests) in
    get_or-set_other used (x - 13) (y - 13) true false ne ∙ was ∙ sym (used_no before x y e)

-- slot x stands for the starter
pub replaced_on : (team : Team) (figures : List Figures) (n x : ℕ) (p q : Progress) → 2 ≤ n → n ≤ 11 → 13 ≤ x → x ≤ 15 → Standing team figures n p → did_play figures n ≡ false → Some x ≡ find (can_stand team figures (take (n - 1) p.slots) n) bench
    → q.slots ≡ set p.slots (n - 1) x → q.used ≡ set p.used (x - 13) true
    → AreCountsAfter team n x p.counts q.counts
    → Standing team figures (n + 1) q
replaced_on team figures n x p q low high from to s away first slots used after =
    let e : n + 1 - 1 ≡ n = omega arith in
    let back : n - 1 + 1 ≡ n = omega arith in
    let all : length p.slots ≡ 11 = s.all in
    let inside : n - 1 < length p.slots = omega arith in
    let split = split_at team figures n p low high s in
    let behind : drop n p.slots ≡ drop n starters =
    ap (λ m. drop m p.slots) (sym back) ∙ drop_along p.slots (n - 1) n (drop n starters) inside (s.rest ∙ starters_at n (omega arith) high) in
    let first_kept : take (n - 1) q.slots ≡ take (n - 1) p.slots = ap (take (n - 1)) slots ∙ take-set p.slots (n - 1) x in
    let at : slot_of q.slots n ≡ x = ap (λ h. slot_of h n) slots ∙ get_or-set_same p.slots (n - 1) x 0 inside in
    let whole : q.slots ≡ take (n - 1) p.slots ++ x ∷ drop n starters =
    slots ∙ sym (take-append-drop (n - 1) (set p.slots (n - 1) x)) ∙ ap (λ xs. xs ++ drop (n - 1) (set p.slots (n - 1) x)) (take-set p.slots (n - 1) x)
    ∙ ap (λ xs. take (n - 1) p.slots ++ xs) (drop-set p.slots (n - 1) x inside ∙ ap (λ m. x ∷ drop m p.slots) back ∙ ap (λ xs. x ∷ xs) behind) in
    let more : take n q.slots ≡ take (n - 1) p.slots ++ x ∷ [] =
    ap (λ h. take n h) slots ∙ ap (λ m. take m (set p.slots (n - 1) x)) (sym back) ∙ take_more_set p.slots (n - 1) x inside in
    let here : Settles team figures q.slots n = record {
      present = λ g. absurd (false≢true (sym away ∙ g));
      absent = λ g. at ∙ ap (λ o. unwrap_or o n) first ∙ sym (ap (λ b. unwrap_or (find (can_stand team figures b n) bench) n) first_kept);
    } in
    let earlier : (m : ℕ) → 2 ≤ m → m < n → Settles team figures q.slots m = λ m l u.
    settles_along team figures p.slots q.slots m
    (sym (ap (take (m - 1)) slots ∙ take-set-le (m - 1) p.slots (n - 1) x (omega arith)))
    (slot_before p.slots n x m (omega arith) u ∙ sym (ap (λ h. slot_of h m) slots))
    (s.settled m l u) in
    record {
      all = ap length slots ∙ length-set p.slots (n - 1) x ∙ all;
      known = subst (All InTeam) (sym slots) (All-set InTeam p.slots (n - 1) x (omega arith, to) s.known);
      marks = ap length used ∙ length-set p.used (x - 13) true ∙ s.marks;
      keeper = ap (λ h. slot_of h 1) slots ∙ sym (slot_before p.slots n x 1 (omega arith) (omega arith)) ∙ s.keeper;
      settled = λ m l u. settled_more team figures q.slots n earlier here m (eqb m n) refl l u;
      rest = rw e (ap (λ m. drop m q.slots) (sym back) ∙ ap (drop (n - 1 + 1)) slots ∙ drop-set-lt (n - 1 + 1) p.slots (n - 1) x (omega arith) ∙ ap (λ m. drop m p.slots) back ∙ behind);
      counts = subst (λ slots_now. AreCounts team slots_now q.counts) (sym whole) (after_one team figures n p x q.counts low high s after);
      used = λ y low_y high_y. rw e (ap (λ us. get_or us (y - 13) false) used ∙ marks_more p.used (take (n - 1) p.slots) x y (eqb x y) s.marks from to low_y refl (s.used y low_y high_y) ∙ sym (ap (λ xs. is_used xs y) more));
    }
