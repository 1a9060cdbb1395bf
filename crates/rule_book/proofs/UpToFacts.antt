-- What a history tells of a gameweek is told by its events up to that one.
use Rattle.std.proofs.Common.{◌≡◌, ◌<◌, ◌≤◌, ◌+◌, ◌-◌, ◌∷◌, [], ◌++◌, ℕ, zero, suc, true, false, cond, ◌&&◌, ◌||◌, List, Option, Some, None, arith, refl, sym, ap, ◌∙◌, subst, ⊎_elim, nat_eq, nat_lt, nat_le}
use Rattle.std.specs.Prelude.{filter}
use Rattle.std.specs.List.{flat_map, AllByRecursion as Each}
use Rattle.std.specs.Option.{option_map_or}
use Rattle.std.proofs.lemmas.List.{append-nil}
use Rattle.std.proofs.lemmas.List.Elements.{filter-append, filter_agree}
use Rattle.std.proofs.lemmas.Bool.Decides.{nat_tests}
use Rattle.std.proofs.lemmas.Bool.{cases_lt}
use Rattle.fpl_base.specs.declared.kinds.Chip.{Chip}
use Rattle.fpl_base.specs.declared.kinds.Chip.TheVariants.{None as NoChip}
use Rattle.fpl_base.specs.declared.kinds.Position.{Position}
use Rattle.fpl_base.specs.declared.kinds.Profile.{Profile}
use Rattle.rule_book.specs.declared.team.Team.{Team}
use Rattle.rule_book.specs.History.{Deed, Event, last_of, chip_said_in, chip_at, counts_in, kept, is_touched, in_gameweek}
use Rattle.rule_book.specs.HistoryRules.{first_gw, is_started, GoesOn}
use Rattle.rule_book.specs.HistorySquad.{picks_of, armbands_of, spent, earned}
use Rattle.rule_book.specs.HistoryTeam.{IsTeam, TeamTold, is_begun}
use Rattle.rule_book.specs.HistoryTransfers.{is_swap, swaps_in, free_from, free_at, cost_at, counted_from, counted_through, is_past_first, FreeTold}
use Rattle.rule_book.specs.TeamOfHistory.{team_of}
use Rattle.rule_book.specs.UpTo.{up_to, AgreeUpTo, start_of, AllAfter}
use Rattle.rule_book.specs.UpToLaws.{TellTheSame, CountTheSame, UpToTellsAll, UpToTellsTheFirst, LaterEventsAgree, OpenDeedsAgree}

-- one event: it is among those up to k, or of a gameweek after k
by_place : {A : Type 0} (k : ℕ) (e : Event) → (nat_le e.gw k ≡ true → A) → (nat_le e.gw k ≡ false → k < e.gw → A) → A
by_place k e within after = ⊎_elim
    (λ (lt : k < e.gw). after (grind (arith, nat_tests)) lt)
    (λ (ge : e.gw ≤ k). within (grind (arith, nat_tests)))
    (cases_lt k e.gw)

other_gw : (g k w : ℕ) → g ≤ k → k < w → nat_eq w g ≡ false
other_gw g k w le lt = grind (arith, nat_tests)

said_up_to : (k g : ℕ) (h : List Event) → g ≤ k → flat_map (chip_said_in g) h ≡ flat_map (chip_said_in g) (up_to k h)
said_up_to k g [] le = refl
said_up_to k g (e ∷ h) le = let i : flat_map (chip_said_in g) h ≡ flat_map (chip_said_in g) (up_to k h) = said_up_to k g h le in
    by_place k e
    (λ within. rw within (ap (λ r. chip_said_in g e ++ r) i))
    (λ after lt. let f : nat_eq e.gw g ≡ false = other_gw g k e.gw le lt in rw (after, f) i)

chip_up_to : (k g : ℕ) (h : List Event) → g ≤ k → chip_at h g ≡ chip_at (up_to k h) g
chip_up_to k g h le = ap (last_of NoChip) (said_up_to k g h le)

swaps_up_to : (k g : ℕ) (h : List Event) → g ≤ k → swaps_in h g ≡ swaps_in (up_to k h) g
swaps_up_to k g [] le = refl
swaps_up_to k g (e ∷ h) le = let i : swaps_in h g ≡ swaps_in (up_to k h) g = swaps_up_to k g h le in
    by_place k e
    (λ within. rw within (ap (λ n. cond (nat_eq e.gw g && is_swap e.deed) (suc n) n) i))
    (λ after lt. let f : nat_eq e.gw g ≡ false = other_gw g k e.gw le lt in rw (after, f) i)

touched_up_to : (k g : ℕ) (h : List Event) → g ≤ k → is_touched h g ≡ is_touched (up_to k h) g
touched_up_to k g [] le = refl
touched_up_to k g (e ∷ h) le = let i : is_touched h g ≡ is_touched (up_to k h) g = touched_up_to k g h le in
    by_place k e
    (λ within. rw within (ap (λ b. nat_eq e.gw g || b) i))
    (λ after lt. let f : nat_eq e.gw g ≡ false = other_gw g k e.gw le lt in rw (after, f) i)

-- where chips up to g are the same, the same gameweeks count in g
same_counts : (h h2 : List Event) (g w : ℕ) → ((v : ℕ) → v ≤ g → chip_at h v ≡ chip_at h2 v) → counts_in h g w ≡ counts_in h2 g w
same_counts h h2 g w chips = ⊎_elim
    (λ (lt : w < g). rw (chips w (omega arith)) refl)
    (λ (ge : g ≤ w). let f : nat_lt w g ≡ false = grind (arith, nat_tests) in rw f refl)
    (cases_lt w g)

-- no gameweek after g counts in g
late : (h : List Event) (g k w : ℕ) → g ≤ k → k < w → counts_in h g w ≡ false
late h g k w le lt = let f : nat_eq w g ≡ false = other_gw g k w le lt in let l : nat_lt w g ≡ false = grind (arith, nat_tests) in rw (f, l) refl

-- which events of a list count is told by those up to k
counting_up_to : (k g : ℕ) (h all : List Event) → g ≤ k → filter (λ e. counts_in all g e.gw) h ≡ filter (λ e. counts_in all g e.gw) (up_to k h)
counting_up_to k g [] all le = refl
counting_up_to k g (e ∷ h) all le = let i : filter (λ e. counts_in all g e.gw) h ≡ filter (λ e. counts_in all g e.gw) (up_to k h) = counting_up_to k g h all le in
    by_place k e
    (λ within. rw within (ap (λ r. cond (counts_in all g e.gw) (e ∷ r) r) i))
    (λ after lt. let f : counts_in all g e.gw ≡ false = late all g k e.gw le lt in rw (after, f) i)

chips_agree : (k : ℕ) (h h2 : List Event) → AgreeUpTo k h h2 → (g : ℕ) → g ≤ k → chip_at h g ≡ chip_at h2 g
chips_agree k h h2 a g le = chip_up_to k g h le ∙ ap (λ l. chip_at l g) a ∙ sym (chip_up_to k g h2 le)

swaps_agree : (k : ℕ) (h h2 : List Event) → AgreeUpTo k h h2 → (g : ℕ) → g ≤ k → swaps_in h g ≡ swaps_in h2 g
swaps_agree k h h2 a g le = swaps_up_to k g h le ∙ ap (λ l. swaps_in l g) a ∙ sym (swaps_up_to k g h2 le)

touched_agree : (k : ℕ) (h h2 : List Event) → AgreeUpTo k h h2 → (g : ℕ) → g ≤ k → is_touched h g ≡ is_touched h2 g
touched_agree k h h2 a g le = touched_up_to k g h le ∙ ap (λ l. is_touched l g) a ∙ sym (touched_up_to k g h2 le)

kept_agree : (k : ℕ) (h h2 : List Event) → AgreeUpTo k h h2 → (g : ℕ) → g ≤ k → kept h g ≡ kept h2 g
kept_agree k h h2 a g le = counting_up_to k g h h le
    ∙ ap (λ l. filter (λ e. counts_in h g e.gw) l) a
    ∙ filter_agree (λ e. counts_in h g e.gw) (λ e. counts_in h2 g e.gw) (λ e. same_counts h h2 g e.gw (λ v lv. chips_agree k h h2 a v (omega arith))) (up_to k h2)
    ∙ sym (counting_up_to k g h2 h2 le)

-- a team hangs on the kept events and the chip
pub team_agrees : (h h2 : List Event) (g : ℕ) (position : ℕ → Position) (t : Team) → kept h g ≡ kept h2 g → chip_at h g ≡ chip_at h2 g → IsTeam position h g t → IsTeam position h2 g t
team_agrees h h2 g position t e c i = record {
  picks = i.picks ∙ ap (picks_of position) e;
  captain = i.captain ∙ ap (λ l. (armbands_of l).0) e;
  vice = i.vice ∙ ap (λ l. (armbands_of l).1) e;
  bank = subst (λ (l : List Event). t.bank + spent l ≡ 1000 + earned l) e i.bank;
  chip = i.chip ∙ c;
}

team_same : (position : ℕ → Position) (h h2 : List Event) (g : ℕ) → kept h g ≡ kept h2 g → chip_at h g ≡ chip_at h2 g → team_of position h g ≡ team_of position h2 g
team_same position h h2 g e c = rw (e, c) refl

pub tell_the_same : (k : ℕ) (h h2 : List Event) → AgreeUpTo k h h2 → (g : ℕ) → g ≤ k → TellTheSame h h2 g
tell_the_same k h h2 a g le = record {
  chip = chips_agree k h h2 a g le;
  swaps = swaps_agree k h h2 a g le;
  touched = touched_agree k h h2 a g le;
  kept_events = kept_agree k h h2 a g le;
  team = λ position. team_same position h h2 g (kept_agree k h h2 a g le) (chips_agree k h h2 a g le);
  is_team = λ position t i. team_agrees h h2 g position t (kept_agree k h h2 a g le) (chips_agree k h h2 a g le) i;
}

-- what hangs on the start alone
begun_by_start : (h : List Event) (g : ℕ) → is_begun h g ≡ option_map_or (λ s. nat_le s g) (start_of h) false
begun_by_start [] g = refl
begun_by_start (e ∷ h) g = refl

past_by_start : (h : List Event) (g : ℕ) → is_past_first h g ≡ option_map_or (λ s. nat_lt s g) (start_of h) false
past_by_start [] g = refl
past_by_start (e ∷ h) g = refl

first_by_start : (h : List Event) → first_gw h ≡ option_map_or (λ s. s) (start_of h) 0
first_by_start [] = refl
first_by_start (e ∷ h) = refl

begun_agrees : (h h2 : List Event) (g : ℕ) → start_of h ≡ start_of h2 → is_begun h g ≡ is_begun h2 g
begun_agrees h h2 g s = begun_by_start h g ∙ ap (λ o. option_map_or (λ s. nat_le s g) o false) s ∙ sym (begun_by_start h2 g)

past_agrees : (h h2 : List Event) (g : ℕ) → start_of h ≡ start_of h2 → is_past_first h g ≡ is_past_first h2 g
past_agrees h h2 g s = past_by_start h g ∙ ap (λ o. option_map_or (λ s. nat_lt s g) o false) s ∙ sym (past_by_start h2 g)

pub first_agrees : (h h2 : List Event) → start_of h ≡ start_of h2 → first_gw h ≡ first_gw h2
first_agrees h h2 s = first_by_start h ∙ ap (λ o. option_map_or (λ s. s) o 0) s ∙ sym (first_by_start h2)

-- free transfers after n gameweeks hang on those gameweeks
free_agree : (p : Profile) (u v : ℕ → ℕ) (c d : ℕ → Chip) (s n k : ℕ) → ((g : ℕ) → g ≤ k → u g ≡ v g) → ((g : ℕ) → g ≤ k → c g ≡ d g) → s + n ≤ k → free_from p u c s n ≡ free_from p v d s n
free_agree p u v c d s zero k e f le = refl
free_agree p u v c d s (suc n) k e f le = let i : free_from p u c s n ≡ free_from p v d s n = free_agree p u v c d s n k e f (omega arith) in
    rw (i, e ((s + 1) + n) (omega arith), f ((s + 1) + n) (omega arith)) refl

counted_agree : (u v : ℕ → ℕ) (c d : ℕ → Chip) (s n k : ℕ) → ((g : ℕ) → g ≤ k → u g ≡ v g) → ((g : ℕ) → g ≤ k → c g ≡ d g) → n ≤ k → counted_from u c s n ≡ counted_from v d s n
counted_agree u v c d s zero k e f le = refl
counted_agree u v c d s (suc n) k e f le = let i : counted_from u c s n ≡ counted_from v d s n = counted_agree u v c d s n k e f (omega arith) in
    rw (i, e (suc n) le, f (suc n) le) refl

frees_agree : (p : Profile) (k : ℕ) (h h2 : List Event) → AgreeUpTo k h h2 → first_gw h ≡ first_gw h2 → (g : ℕ) → g ≤ k → free_at p h g ≡ free_at p h2 g
frees_agree p k h h2 a s g le = ap (λ n. free_from p (swaps_in h) (chip_at h) n (g - (n + 1))) s ∙ ⊎_elim
    (λ (lt : first_gw h2 < g). free_agree p (swaps_in h) (swaps_in h2) (chip_at h) (chip_at h2) (first_gw h2) (g - (first_gw h2 + 1)) k (swaps_agree k h h2 a) (chips_agree k h h2 a) (omega arith))
    (λ (ge : g ≤ first_gw h2). let z : g - (first_gw h2 + 1) ≡ 0 = omega arith in rw z refl)
    (cases_lt (first_gw h2) g)

costs_agree : (p : Profile) (k : ℕ) (h h2 : List Event) → AgreeUpTo k h h2 → start_of h ≡ start_of h2 → (g : ℕ) → g ≤ k → cost_at p h g ≡ cost_at p h2 g
costs_agree p k h h2 a s g le = rw (past_agrees h h2 g s, frees_agree p k h h2 a (first_agrees h h2 s) g le, swaps_agree k h h2 a g le, chips_agree k h h2 a g le) refl

counts_agree : (k : ℕ) (h h2 : List Event) → AgreeUpTo k h h2 → first_gw h ≡ first_gw h2 → (g : ℕ) → g ≤ k → counted_through h g ≡ counted_through h2 g
counts_agree k h h2 a s g le = ap (λ n. counted_from (swaps_in h) (chip_at h) n g) s
    ∙ counted_agree (swaps_in h) (swaps_in h2) (chip_at h) (chip_at h2) (first_gw h2) g k (swaps_agree k h h2 a) (chips_agree k h h2 a) le

team_told_agrees : (h h2 : List Event) (g : ℕ) (position : ℕ → Position) (o : Option Team) → is_begun h g ≡ is_begun h2 g → ((t : Team) → IsTeam position h g t → IsTeam position h2 g t) → TeamTold position h g o → TeamTold position h2 g o
team_told_agrees h h2 g position None b f i = sym b ∙ i
team_told_agrees h h2 g position (Some t) b f i = (sym b ∙ i.0, f t i.1)

free_told_agrees : (p : Profile) (h h2 : List Event) (g : ℕ) (o : Option ℕ) → is_past_first h g ≡ is_past_first h2 g → free_at p h g ≡ free_at p h2 g → FreeTold p h g o → FreeTold p h2 g o
free_told_agrees p h h2 g None b f i = sym b ∙ i
free_told_agrees p h h2 g (Some n) b f i = (sym b ∙ i.0, i.1 ∙ f)

pub count_the_same : (k : ℕ) (h h2 : List Event) → AgreeUpTo k h h2 → start_of h ≡ start_of h2 → (g : ℕ) → g ≤ k → CountTheSame h h2 g
count_the_same k h h2 a s g le = record {
  begun = begun_agrees h h2 g s;
  team_told = λ position o i. team_told_agrees h h2 g position o (begun_agrees h h2 g s) (λ t j. team_agrees h h2 g position t (kept_agree k h h2 a g le) (chips_agree k h h2 a g le) j) i;
  free = λ p. frees_agree p k h h2 a (first_agrees h h2 s) g le;
  free_told = λ p o i. free_told_agrees p h h2 g o (past_agrees h h2 g s) (frees_agree p k h h2 a (first_agrees h h2 s) g le) i;
  cost = λ p. costs_agree p k h h2 a s g le;
  counted = counts_agree k h h2 a (first_agrees h h2 s) g le;
}

pub up_to_tells_all : (k : ℕ) (h h2 : List Event) → AgreeUpTo k h h2 → UpToTellsAll k h h2
up_to_tells_all k h h2 a = record { told = tell_the_same k h h2 a; counted = count_the_same k h h2 a }

-- later events are not among those up to k
up_to_later : (k : ℕ) (more : List Event) → AllAfter k more → up_to k more ≡ []
up_to_later k [] l = refl
up_to_later k (e ∷ more) l = let i : up_to k more ≡ [] = up_to_later k more l.1 in let lt : k < e.gw = l.0 in let f : nat_le e.gw k ≡ false = grind (arith, nat_tests) in rw f i

later_agree : (k : ℕ) (h more : List Event) → AllAfter k more → AgreeUpTo k h (h ++ more)
later_agree k h more l = sym (filter-append (λ e. nat_le e.gw k) h more ∙ ap (λ r. up_to k h ++ r) (up_to_later k more l) ∙ append-nil _)

pub start_stays : (h more : List Event) → is_started h ≡ true → start_of h ≡ start_of (h ++ more)
start_stays [] more s = cc
start_stays (e ∷ h) more s = refl

pub later_events_agree : (k : ℕ) (h more : List Event) → LaterEventsAgree k h more
later_events_agree k h more = record { agree = later_agree k h more; start = start_stays h more }

in_gameweek_after : (k g : ℕ) (ds : List Deed) → k < g → AllAfter k (in_gameweek g ds)
in_gameweek_after k g [] lt = tt
in_gameweek_after k g (d ∷ ds) lt = (lt, in_gameweek_after k g ds lt)

pub open_deeds_agree : OpenDeedsAgree
open_deeds_agree k g h ds lt = later_agree k h (in_gameweek g ds) (in_gameweek_after k g ds lt)

-- in a history no event is before the first
none_before : (w : ℕ) (e : Event) (h es : List Event) → GoesOn (e ∷ h) es → Each (λ x. e.gw ≤ x.gw) es
none_before w e h [] g = tt
none_before w e h (x ∷ es) g = (g.0.0.0, none_before w e (h ++ x ∷ []) es g.1)

all_after : (k : ℕ) (e : Event) (es : List Event) → k < e.gw → Each (λ x. e.gw ≤ x.gw) es → AllAfter k es
all_after k e [] lt r = tt
all_after k e (x ∷ es) lt r = let le : e.gw ≤ x.gw = r.0 in (omega arith, all_after k e es lt r.1)

head_is : (e x : Event) (l m : List Event) → (e ∷ l) ≡ (x ∷ m) → Some e.gw ≡ Some x.gw
head_is e x l m q = cc

no_head : {A : Type 0} (e : Event) (l : List Event) → (e ∷ l) ≡ [] → A
no_head e l q = cc

pub up_to_tells_the_first : UpToTellsTheFirst
up_to_tells_the_first k [] h2 i j a b = cc
up_to_tells_the_first k (e ∷ h) [] i j a b = let q : up_to k (e ∷ h) ≡ [] = a in no_head e (up_to k h) (rw b at q)
up_to_tells_the_first k (e ∷ h) (x ∷ m) i j a b = by_place k x
    (λ within. let q : up_to k (e ∷ h) ≡ up_to k (x ∷ m) = a in head_is e x (up_to k h) (up_to k m) (rw (b, within) at q))
    (λ after lt. let q : up_to k (e ∷ h) ≡ up_to k (x ∷ m) = a in
    let n : up_to k (x ∷ m) ≡ [] = up_to_later k (x ∷ m) (lt, all_after k x m lt (none_before 0 x [] m j.1)) in
    no_head e (up_to k h) (rw b at (q ∙ n)))
