-- What a change of a league touches.
use Rattle.std.proofs.Common.{◌≡◌, ◌≢◌, ℕ, zero, suc, ◌+◌, ◌-◌, ◌<◌, ◌≤◌, ◌==◌, nat_le, Bool, true, false, ◌&&◌, ◌||◌, cond, if◌then◌else◌, ◌⊎◌, inl, inr, ⊎_elim, List, [], ◌∷◌, ◌++◌, Option, Some, None, is_some, IsSomeAnd, map, refl, sym, ◌∙◌, ap, subst, arith}
use Rattle.std.specs.List.{filter, flat_map, list_any, slice_get}
use Rattle.std.specs.Option.{option_and_then, option_map_or}
use Rattle.std.proofs.lemmas.Bool.Decides.{leb_tells, nat_tests}
use Rattle.std.proofs.lemmas.Option.{same_Some}
use Rattle.rule_book.specs.Calendar.{has_ended, standing}
use Rattle.rule_book.specs.Entries.{entry_in}
use Rattle.rule_book.specs.LeagueCalls.{is_head, is_member, leagues_from, leagues_of}
use Rattle.rule_book.specs.Leagues.{LeagueFacts}
use Rattle.rule_book.specs.MatchFacts.{is_finished, line_of}
use Rattle.rule_book.specs.PlayerFigures.{position_in}
use Rattle.rule_book.specs.Players.{player_of}
use Rattle.rule_book.specs.Totals.{gameweeks}
use Rattle.rescore_graph.specs.Graph.{Among}
use Rattle.rescore_graph.specs.States.{State}
use Rattle.season_graph.specs.Changes.{DifferInLeague, Follows, GoesOn, IsKept, IsTouched, MarksTouched}
use Rattle.season_nodes.specs.Brackets.{bracket_in}
use Rattle.season_nodes.specs.declared.nodes.Node.{Node}
use Rattle.season_nodes.specs.declared.nodes.Node.TheVariants as node
use Rattle.season_nodes.specs.declared.nodes.Value.{Value}
use Rattle.season_nodes.specs.Places.{listed}
use Rattle.season_nodes.specs.Reading.{among_left, among_right, from_any, from_filter, from_flat, to_any, to_filter, to_flat, to_map}
use Rattle.season_graph.specs.Refreshed.{Refreshed}
use Rattle.season_nodes.specs.Rounds.{order_in, start_in}
use Rattle.season_nodes.specs.Season.{SeasonFacts, IsSeason, classic_start, classic_starts, has_begun, has_start, is_live, players_of, start_of_classic, starts_of}
use Rattle.season_nodes.specs.SeasonLaws.{second_true, total_alive, total_lives}
use Rattle.season_graph.specs.Touched.{head_nodes, is_other, league_nodes, member_nodes, members_in}
use Rattle.season_graph.proofs.ChangedFacts.{bool_case, change_exact, change_sound, iff_same, other_same, same_or_not}
use Rattle.season_graph.proofs.RoundFacts.{average_dead, average_head, average_kept, match_dead, match_head, match_kept, row_dead, row_head, row_kept}
use Rattle.season_graph.proofs.CupFacts.{tie_stays}
use Rattle.season_graph.proofs.TeamFacts.{begun_same, counted_same, team_kept}

clash : true ≡ false → ⊥
clash e = cc

within : (h n : ℕ) → h ≤ n → nat_le h n ≡ true
within h n e = ⊎_elim (λ a. a.0) (λ a. let x : n < h = a.1 in absurd (omega arith)) (leb_tells h n)

same_number : (m n : ℕ) → (m == n) ≡ true → m ≡ n
same_number m n e = grind (arith, nat_tests)

pub above_0 : (k : ℕ) → 1 ≤ k → (k == 0) ≡ false
above_0 k low = grind (arith, nat_tests, low)

some_and : {X : Type 0} (o : Option X) (P : X → Type 0) → IsSomeAnd o P → (x : X) × ((o ≡ Some x) × P x)
some_and None P y = absurd y
some_and (Some x) P y = (x, (refl, y))

then_some : (o : Option LeagueFacts) (s : ℕ) → option_and_then start_of_classic o ≡ Some s → (league : LeagueFacts) × ((o ≡ Some league) × (start_of_classic league ≡ Some s))
then_some None s e = absurd (cc)
then_some (Some league) s e = (league, (refl, e))

one_start : (o : Option ℕ) (s : ℕ) → Among (option_map_or (λ k. k ∷ []) o []) s → o ≡ Some s
one_start None s a = absurd a
one_start (Some k) s (inl e) = ap Some e
one_start (Some k) s (inr a) = absurd a

-- the league of a number of which an entry is a member, where the first has this number
abbrev IsOf : ℕ → List LeagueFacts → ℕ → ℕ → LeagueFacts → Type 0
IsOf n leagues e k league = (n ≤ k) × (slice_get leagues (k - n) ≡ Some league) × (is_member league e ≡ true)

one_behind : (n : ℕ) (x : LeagueFacts) (xs : List LeagueFacts) (e k : ℕ) (league : LeagueFacts) → IsOf (n + 1) xs e k league → IsOf n (x ∷ xs) e k league
one_behind n x xs e k league is =
    let low = is.0 in
    let place : k - n ≡ suc (k - (n + 1)) = omega (arith, low) in
    (omega (arith, low), ap (slice_get (x ∷ xs)) place ∙ is.1, is.2)

-- the leagues of an entry are those of which it is a member
from_leagues : (n : ℕ) (leagues : List LeagueFacts) (e k : ℕ) → Among (leagues_from n leagues e) k → (league : LeagueFacts) × IsOf n leagues e k league
from_leagues n [] e k a = absurd a
from_leagues n (x ∷ xs) e k a = by_case (is_member x e) refl (from_leagues (n + 1) xs e k) a
  where
    behind : (league : LeagueFacts) × IsOf (n + 1) xs e k league → (league : LeagueFacts) × IsOf n (x ∷ xs) e k league
    behind r = (r.0, one_behind n x xs e k r.0 r.1)

    by_case : (t : Bool) → is_member x e ≡ t → (Among (leagues_from (n + 1) xs e) k → (league : LeagueFacts) × IsOf (n + 1) xs e k league)
        → Among (cond t (n ∷ leagues_from (n + 1) xs e) (leagues_from (n + 1) xs e)) k → (league : LeagueFacts) × IsOf n (x ∷ xs) e k league
    by_case true is rest (inl i) =
        let low : n ≤ k = omega arith in
        let place : k - n ≡ 0 = omega arith in
        (x, (low, ap (slice_get (x ∷ xs)) place, is))
    by_case true is rest (inr y) = behind (rest y)
    by_case false is rest y = behind (rest y)

-- a classic league of an entry that starts with a gameweek
abbrev pub IsFrom : List LeagueFacts → ℕ → ℕ → ℕ → LeagueFacts → Type 0
IsFrom leagues e s k league = (entry_in leagues k ≡ Some league) × (is_member league e ≡ true) × (start_of_classic league ≡ Some s)

pub from_entry : (leagues : List LeagueFacts) (k : ℕ) (league : LeagueFacts) (t : Bool) → (k == 0) ≡ t → (if t then None else slice_get leagues (k - 1)) ≡ Some league → (1 ≤ k) × (slice_get leagues (k - 1) ≡ Some league)
from_entry leagues k league true e at = absurd (cc)
from_entry leagues zero league false e at = absurd (clash e)
from_entry leagues (suc k) league false e at = (omega arith, at)

module _ (b : SeasonFacts) where
  from_start : (e s : ℕ) → has_start b e s ≡ true → (s ≡ 1) ⊎ ((k : ℕ) × (league : LeagueFacts) × IsFrom b.leagues e s k league)
  from_start e s y = ⊎_elim (λ i. inl (sym i)) (λ a. inr (found a)) (from_any s (starts_of b e) y)
    where
      found : Among (flat_map (classic_starts b.leagues) (leagues_of b.leagues e)) s → (k : ℕ) × (league : LeagueFacts) × IsFrom b.leagues e s k league
      found a =
          let r = from_flat (classic_starts b.leagues) (leagues_of b.leagues e) s a in
          let at = one_start (classic_start b.leagues r.0) s r.1.1 in
          let one = then_some (entry_in b.leagues r.0) s at in
          let mine = from_leagues 1 b.leagues e r.0 r.1.0 in
          let there : entry_in b.leagues r.0 ≡ Some mine.0 = ap (λ t. if t then None else slice_get b.leagues (r.0 - 1)) (above_0 r.0 mine.1.0) ∙ mine.1.1 in
          (r.0, mine.0, (there, mine.1.2, subst (λ l. start_of_classic l ≡ Some s) (same_Some one.0 mine.0 (sym one.1.0 ∙ there)) one.1.1))

  to_start : (e s k : ℕ) (league : LeagueFacts) → IsFrom b.leagues e s k league → has_start b e s ≡ true
  to_start e s k league is =
      let there = from_entry b.leagues k league (k == 0) refl is.0 in
      let place : 1 + (k - 1) ≡ k = omega (arith, there.0) in
      let mine : Among (leagues_of b.leagues e) k = subst (Among (leagues_of b.leagues e)) place (listed 1 b.leagues e (k - 1) league there.1 is.1) in
      let at : classic_start b.leagues k ≡ Some s = ap (option_and_then start_of_classic) is.0 ∙ is.2 in
      to_any s (starts_of b e) (inr (to_flat (classic_starts b.leagues) (leagues_of b.leagues e) k s mine (subst (λ o. Among (option_map_or (λ n. n ∷ []) o []) s) (sym at) (inl refl))))

  first_start : (e s : ℕ) → s ≡ 1 → has_start b e s ≡ true
  first_start e s i = to_any s (starts_of b e) (inl (sym i))

or_case : (x y : Bool) → (x || y) ≡ true → (x ≡ true) ⊎ (y ≡ true)
or_case true y e = inl refl
or_case false y e = inr e

-- who is tested to be a member is listed
member_among : (members : List ℕ) (e : ℕ) → list_any (λ member. member == e) members ≡ true → Among members e
member_among [] e y = absurd (cc)
member_among (m ∷ ms) e y = ⊎_elim (λ t. inl (same_number m e t)) (λ r. inr (member_among ms e r)) (or_case (m == e) (list_any (λ member. member == e) ms) y)

-- the total of a member is listed
listed_member : (d : SeasonFacts) (e s l : ℕ) (league : LeagueFacts) → IsFrom d.leagues e s l league → s ≤ d.calendar.locked → Among (member_nodes d l) (node.Total e s)
listed_member d e s l league is low =
    let start : classic_start d.leagues l ≡ Some s = ap (option_and_then start_of_classic) is.0 ∙ is.2 in
    let all : members_in d.leagues l ≡ league.members = ap (λ o. option_map_or (λ (x : LeagueFacts). x.members) o []) is.0 in
    subst (λ o. Among (option_map_or (λ k. if nat_le k d.calendar.locked then map (λ m. node.Total m k) (members_in d.leagues l) else []) o []) (node.Total e s)) (sym start)
    (subst (λ t. Among (if t then map (λ m. node.Total m s) (members_in d.leagues l) else []) (node.Total e s)) (sym (within s d.calendar.locked low))
    (to_map (λ m. node.Total m s) (members_in d.leagues l) e (subst (λ ms. Among ms e) (sym all) (member_among league.members e is.1))))

module _ (b d : SeasonFacts) (is_b : IsSeason b) (is_d : IsSeason d) (l : ℕ) (c : DifferInLeague b d l) where
  -- a league of before is one of now
  goes_on : (e s k : ℕ) (league : LeagueFacts) → IsFrom b.leagues e s k league → has_start d e s ≡ true
  goes_on e s k league is = ⊎_elim
      (λ i.
      let r = some_and (entry_in d.leagues l) (GoesOn league) (c.goes_on league (subst (λ n. entry_in b.leagues n ≡ Some league) i is.0)) in
      let on = r.1.1 in
      to_start d e s l r.0 (r.1.0, on.members e is.1, sym (λ j. if is_head (on.kind j) then None else Some (on.start j)) ∙ is.2))
      (λ n. to_start d e s k league (sym (c.others k n) ∙ is.0, is.1, is.2))
      (same_or_not k l)

  starts_stay : (e s : ℕ) → has_start b e s ≡ true → has_start d e s ≡ true
  starts_stay e s y = ⊎_elim (λ i. first_start d e s i) (λ r. goes_on e s r.0 r.1 r.2) (from_start b e s y)

  -- a start of now is one of before, or that of the league
  start_told : (e s : ℕ) → has_start d e s ≡ true → (has_start b e s ≡ true) ⊎ ((league : LeagueFacts) × IsFrom d.leagues e s l league)
  start_told e s y = ⊎_elim
      (λ i. inl (first_start b e s i))
      (λ r. ⊎_elim
      (λ i. inr (r.1, subst (λ n. IsFrom d.leagues e s n r.1) i r.2))
      (λ n. inl (to_start b e s r.0 r.1 (c.others r.0 n ∙ r.2.0, r.2.1, r.2.2)))
      (same_or_not r.0 l))
      (from_start d e s y)

  locked : b.calendar.locked ≡ d.calendar.locked
  locked = ap (λ x. x.locked) c.calendar

  -- a total that was live is live
  lives_on : (e s : ℕ) → is_live b (node.Total e s) ≡ true → is_live d (node.Total e s) ≡ true
  lives_on e s live =
      let alive = total_alive b e s live in
      let w = second_true (has_begun b e b.calendar.locked && has_start b e s) (nat_le 1 s && nat_le s b.calendar.locked) live in
      total_lives d e s (sym (begun_same b d c.entries locked e s w) ∙ alive.0) (starts_stay e s alive.1) alive.2 (subst (λ n. s ≤ n) locked alive.3)

  lived : (e s : ℕ) → is_live d (node.Total e s) ≡ true → has_start b e s ≡ true → is_live b (node.Total e s) ≡ true
  lived e s live starts =
      let alive = total_alive d e s live in
      let w = second_true (has_begun d e d.calendar.locked && has_start d e s) (nat_le 1 s && nat_le s d.calendar.locked) live in
      let before : (nat_le 1 s && nat_le s b.calendar.locked) ≡ true = ap (λ n. nat_le 1 s && nat_le s n) locked ∙ w in
      total_lives b e s (begun_same b d c.entries locked e s before ∙ alive.0) starts alive.2 (subst (λ n. s ≤ n) (sym locked) alive.3)

  -- one that was not is that of a member of the league
  comes : (e s : ℕ) → is_live b (node.Total e s) ≡ false → is_live d (node.Total e s) ≡ true → Among (member_nodes d l) (node.Total e s)
  comes e s dead live =
      let alive = total_alive d e s live in
      ⊎_elim (λ y. absurd (clash (sym (lived e s live y) ∙ dead))) (λ r. listed_member d e s l r.0 r.1 alive.3) (start_told e s alive.1)

  -- the order of the league is the same, or nobody stood in one
  league_case : (o : Option LeagueFacts) → entry_in b.leagues l ≡ o
      → (order_in b.leagues l ≡ []) ⊎ ((order_in b.leagues l ≡ order_in d.leagues l) × (start_in b.leagues l ≡ start_in d.leagues l))
  league_case None at = inl (ap (λ o. option_map_or (λ (league : LeagueFacts). league.order) o []) at)
  league_case (Some old) at =
      let r = some_and (entry_in d.leagues l) (GoesOn old) (c.goes_on old at) in
      let on = r.1.1 in
      let before : order_in b.leagues l ≡ old.order = ap (λ o. option_map_or (λ (league : LeagueFacts). league.order) o []) at in
      let behind : order_in d.leagues l ≡ (r.0).order = ap (λ o. option_map_or (λ (league : LeagueFacts). league.order) o []) r.1.0 in
      let start : start_in b.leagues l ≡ start_in d.leagues l =
      ap (λ o. option_map_or (λ (league : LeagueFacts). league.start) o 0) at ∙ on.start ∙ sym (ap (λ o. option_map_or (λ (league : LeagueFacts). league.start) o 0) r.1.0) in
      ⊎_elim (λ none. inl (before ∙ none)) (λ same. inr (before ∙ same ∙ sym behind, start)) on.order

  goes_same : (order_in b.leagues l ≡ []) ⊎ ((order_in b.leagues l ≡ order_in d.leagues l) × (start_in b.leagues l ≡ start_in d.leagues l))
  goes_same = league_case (entry_in b.leagues l) refl

  other_order : (k : ℕ) → k ≢ l → order_in b.leagues k ≡ order_in d.leagues k
  other_order k n = ap (λ o. option_map_or (λ (league : LeagueFacts). league.order) o []) (c.others k n)

  other_start : (k : ℕ) → k ≢ l → start_in b.leagues k ≡ start_in d.leagues k
  other_start k n = ap (λ o. option_map_or (λ (league : LeagueFacts). league.start) o 0) (c.others k n)

  average_same : (k g : ℕ) → order_in b.leagues k ≡ order_in d.leagues k → start_in b.leagues k ≡ start_in d.leagues k → IsKept b d (node.Average k g)
  average_same k g order start = average_kept b d k order c.entries start g (ap (nat_le g) locked)

  match_same : (k g i : ℕ) → order_in b.leagues k ≡ order_in d.leagues k → start_in b.leagues k ≡ start_in d.leagues k → IsKept b d (node.Match k g i)
  match_same k g i order start = match_kept b d k order c.entries start g i (ap (nat_le g) locked)

  row_same : (k e : ℕ) → order_in b.leagues k ≡ order_in d.leagues k → start_in b.leagues k ≡ start_in d.leagues k → IsKept b d (node.HeadRow k e)
  row_same k e order start = row_kept b d k order c.entries start e (λ x. gameweeks (start x) (locked x))

  module _ (was : Node → Bool) (had : (n : Node) → was n ≡ is_live b n) where
    -- what was not live of the league is kept, or listed
    by_live : (n : Node) (t : Bool) → is_live d n ≡ t → is_live b n ≡ false → (is_live d n ≡ true → Among (head_nodes d l) n) → IsKept b d n ⊎ Among (league_nodes d was l) n
    by_live n false now dead listed = inl (dead ∙ sym now, λ live. absurd (clash (sym live ∙ now)))
    by_live n true now dead listed = inr (to_filter (λ m. is_other (was m) (is_live d m)) (member_nodes d l ++ head_nodes d l) n
        (among_right (member_nodes d l) (head_nodes d l) n (listed now))
        (ap (λ t. is_other t (is_live d n)) (had n ∙ dead) ∙ now))

    average_here : (g : ℕ) → IsKept b d (node.Average l g) ⊎ Among (league_nodes d was l) (node.Average l g)
    average_here g = ⊎_elim
        (λ none. by_live (node.Average l g) (is_live d (node.Average l g)) refl (average_dead b l none g) (average_head d l g))
        (λ same. inl (average_same l g same.0 same.1))
        goes_same

    match_here : (g i : ℕ) → IsKept b d (node.Match l g i) ⊎ Among (league_nodes d was l) (node.Match l g i)
    match_here g i = ⊎_elim
        (λ none. by_live (node.Match l g i) (is_live d (node.Match l g i)) refl (match_dead b l none g i) (match_head d l g i))
        (λ same. inl (match_same l g i same.0 same.1))
        goes_same

    row_here : (e : ℕ) → IsKept b d (node.HeadRow l e) ⊎ Among (league_nodes d was l) (node.HeadRow l e)
    row_here e = ⊎_elim
        (λ none. by_live (node.HeadRow l e) (is_live d (node.HeadRow l e)) refl (row_dead b l none e) (row_head d l e))
        (λ same. inl (row_same l e same.0 same.1))
        goes_same

    total_listed : (e s : ℕ) → IsKept b d (node.Total e s) ⊎ Among (league_nodes d was l) (node.Total e s)
    total_listed e s = ⊎_elim
        (λ same. inl (same, λ live. counted_same b d c.entries locked e s (total_alive d e s live).2))
        (λ other. inr (to_filter (λ n. is_other (was n) (is_live d n)) (member_nodes d l ++ head_nodes d l) (node.Total e s)
        (among_left (member_nodes d l) (head_nodes d l) (node.Total e s) (by_case (is_live b (node.Total e s)) (is_live d (node.Total e s)) refl refl other))
        (ap (λ t. is_other t (is_live d (node.Total e s))) (had (node.Total e s)) ∙ other)))
        (bool_case (is_live b (node.Total e s)) (is_live d (node.Total e s)))
      where
        by_case : (x y : Bool) → is_live b (node.Total e s) ≡ x → is_live d (node.Total e s) ≡ y → is_other (is_live b (node.Total e s)) (is_live d (node.Total e s)) ≡ true → Among (member_nodes d l) (node.Total e s)
        by_case true y before now other = absurd (other_same (is_live b (node.Total e s)) (is_live d (node.Total e s)) (before ∙ sym (lives_on e s before)) other)
        by_case false true before now other = comes e s before now
        by_case false false before now other = absurd (other_same (is_live b (node.Total e s)) (is_live d (node.Total e s)) (before ∙ sym now) other)

    pub league_listed : (n : Node) → IsKept b d n ⊎ Among (league_nodes d was l) n
    league_listed (node.Line f q) = inl (ap (λ m. is_some (line_of m f q)) c.matches, λ live. (ap (λ m. line_of m f q) c.matches, c.profile, ap (λ ps. position_in ps q) c.players))
    league_listed (node.Bonus f) = inl (ap (λ m. is_live (record b { matches = m }) (node.Bonus f)) c.matches, λ live. (ap (λ m. players_of (record b { matches = m }) f) c.matches, ap (λ m. is_finished m f) c.matches))
    league_listed (node.PlayerGw q g) = inl (
      (λ i. is_some (player_of (c.players i) q) && (nat_le 1 g && nat_le g (c.calendar i).locked)),
      λ live. λ i. filter (λ f. is_some (line_of (c.matches i) f q)) (standing (c.calendar i) g),
    )
    league_listed (node.TeamGw e g) = inl (team_kept b d c.entries e g (λ i. nat_le g (c.calendar i).locked) (λ i. has_ended (c.calendar i) (is_finished (c.matches i)) g) (λ q a i. is_some (player_of (c.players i) q)))
    league_listed (node.Total e s) = total_listed e s
    league_listed (node.Average k g) = ⊎_elim
        (λ i. subst (λ m. IsKept b d (node.Average m g) ⊎ Among (league_nodes d was l) (node.Average m g)) (sym i) (average_here g))
        (λ n. inl (average_same k g (other_order k n) (other_start k n)))
        (same_or_not k l)
    league_listed (node.Match k g i) = ⊎_elim
        (λ e. subst (λ m. IsKept b d (node.Match m g i) ⊎ Among (league_nodes d was l) (node.Match m g i)) (sym e) (match_here g i))
        (λ n. inl (match_same k g i (other_order k n) (other_start k n)))
        (same_or_not k l)
    league_listed (node.HeadRow k e) = ⊎_elim
        (λ i. subst (λ m. IsKept b d (node.HeadRow m e) ⊎ Among (league_nodes d was l) (node.HeadRow m e)) (sym i) (row_here e))
        (λ n. inl (row_same k e (other_order k n) (other_start k n)))
        (same_or_not k l)
    league_listed (node.Tie k r i) = inl (tie_stays b d c.entries locked k (λ x. bracket_in (c.cups x) k) r i)

    pub league_touched : (n : Node) → Among (league_nodes d was l) n → is_live d n ≡ true → IsTouched b d n
    league_touched n a live = (live, λ k. other_same (was n) (is_live d n) (had n ∙ k.0) (from_filter (λ m. is_other (was m) (is_live d m)) (member_nodes d l ++ head_nodes d l) n a).1)

  -- the cells follow
  module _ (s t : State Node Value) (r : Refreshed (is_live d) (Among (league_nodes d (λ n. is_some (s n)) l)) s t) where
    pub league_follows : Follows b d s t
    league_follows sound = change_sound b d is_b is_d (league_nodes d (λ n. is_some (s n)) l)
        (league_listed (λ n. is_some (s n)) (λ n. iff_same (is_some (s n)) (is_live b n) (sound.cells n).0 (sound.cells n).1)) s t sound r

    pub league_marks : MarksTouched b d s t
    league_marks sound =
        let had : (n : Node) → is_some (s n) ≡ is_live b n = λ n. iff_same (is_some (s n)) (is_live b n) (sound.cells n).0 (sound.cells n).1 in
        change_exact b d is_b is_d (league_nodes d (λ n. is_some (s n)) l) (league_listed (λ n. is_some (s n)) had) s t sound r (league_touched (λ n. is_some (s n)) had)
