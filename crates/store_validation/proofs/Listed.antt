-- Teams listed by gameweek, and the same found by gameweek.
use Rattle.std.proofs.Common.{◌≡◌, ℕ, zero, suc, ◌+◌, ◌<◌, ◌≤◌, Bool, true, false, cond, not, ◌&&◌, eqb, List, [], ◌∷◌, Option, Some, None, arith, refl, sym, ap, ap₂, ◌∙◌, inl, inr}
use Rattle.std.specs.Prelude.{nat_lt}
use Rattle.std.specs.Option.{option_or, option_map}
use Rattle.std.proofs.lemmas.Bool.{eq-eqb, ne_eqb, lt-ltb, le-ltb, cases_order}
use Rattle.rule_book.specs.declared.team.Team.{Team}
use Rattle.rule_book.specs.EntryRecords.{AllLater, TeamsRise, first_of, later_of, team_before, team_recorded}
use Rattle.rule_book.specs.History.{is_free_hit}
use Rattle.stored_records.specs.declared.entry_told.RecordedTeam.{RecordedTeam}
use Rattle.stored_records.specs.Sequels.{lasting, last_before}

-- none of the later teams is of this gameweek or one before
pub none_later : (teams : List (ℕ × Team)) (a g : ℕ) → AllLater a teams → g ≤ a → team_recorded teams g ≡ None
none_later [] a g later up = refl
none_later (t ∷ teams) a g later up =
    let apart : eqb t.0 g ≡ false = ne_eqb t.0 g (λ same. omega (arith, later.0)) in
    ap (λ b. cond b (Some t.1) (team_recorded teams g)) apart ∙ none_later teams a g later.1 up

some_not_none : {A : Type 0} (x : A) (o : Option A) → o ≡ Some x → o ≡ None → ⊥
some_not_none x o some none = absurd (cc)

found_later : (teams : List (ℕ × Team)) (a g : ℕ) (x : Team) → AllLater a teams → team_recorded teams g ≡ Some x → a < g
found_later teams a g x later found =
    elim (cases_order a g) [
      | inl same ↦ absurd (some_not_none x _ found (none_later teams a g later (omega arith)))
      | inr (inl less) ↦ less
      | inr (inr more) ↦ absurd (some_not_none x _ found (none_later teams a g later (omega arith)))
    ]

-- what is found behind the first team is found in the whole list
found_behind : (t : ℕ × Team) (teams : List (ℕ × Team)) (g : ℕ) (x : Team) → AllLater t.0 teams → team_recorded teams g ≡ Some x → team_recorded (t ∷ teams) g ≡ Some x
found_behind t teams g x later found =
    let less : t.0 < g = found_later teams t.0 g x later found in
    let apart : eqb t.0 g ≡ false = ne_eqb t.0 g (λ same. omega arith) in
    ap (λ b. cond b (Some t.1) (team_recorded teams g)) apart ∙ found

pub found_first : (t : ℕ × Team) (teams : List (ℕ × Team)) → team_recorded (t ∷ teams) t.0 ≡ Some t.1
found_first t teams = ap (λ b. cond b (Some t.1) (team_recorded teams t.0)) (eq-eqb t.0 t.0 refl)

-- where each team that is found is of gameweek 1 or later, so is each of the list
pub all_from_one : (teams : List (ℕ × Team)) → TeamsRise teams → ((g : ℕ) (x : Team) → team_recorded teams g ≡ Some x → 1 ≤ g) → AllLater 0 teams
all_from_one [] rise each = tt
all_from_one (t ∷ teams) rise each = (
  omega (arith, each t.0 t.1 (found_first t teams)),
  all_from_one teams rise.1 (λ g x found. each g x (found_behind t teams g x rise.0 found)),
)

-- the first team of the list is that of the gameweek before which none is found
pub first_is : (teams : List (ℕ × Team)) (s : ℕ) (x : Team) → TeamsRise teams → team_recorded teams s ≡ Some x
    → ((g : ℕ) (y : Team) → team_recorded teams g ≡ Some y → s ≤ g) → first_of teams ≡ Some s
first_is [] s x rise found least = absurd (cc)
first_is (t ∷ teams) s x rise found least =
    elim (cases_order t.0 s) [
      | inl same ↦ ap Some same
      | inr (inl less) ↦ absurd (let low = least t.0 t.1 (found_first t teams) in omega arith)
      | inr (inr more) ↦ absurd (
          let apart : eqb t.0 s ≡ false = ne_eqb t.0 s (λ same. omega arith) in
          let behind : team_recorded teams s ≡ Some x = sym (ap (λ b. cond b (Some t.1) (team_recorded teams s)) apart) ∙ found in
          let less = found_later teams t.0 s x rise.0 behind in
          omega arith)
    ]

-- where none is found the list is empty
pub none_is : (teams : List (ℕ × Team)) → ((g : ℕ) → team_recorded teams g ≡ None) → first_of teams ≡ None
none_is [] none = refl
none_is (t ∷ teams) none = absurd (some_not_none t.1 _ (found_first t teams) (none t.0))

-- a team without a free hit
abbrev pub kept_team : Option Team → Option Team
kept_team None = None
kept_team (Some t) = cond (is_free_hit t.chip) None (Some t)

none_before : (teams : List (ℕ × Team)) (a g : ℕ) → AllLater a teams → g ≤ a + 1 → team_before teams g ≡ None
none_before [] a g later up = refl
none_before (t ∷ teams) a g later up =
    let not_before : nat_lt t.0 g ≡ false = le-ltb t.0 g (omega (arith, later.0)) in
    ap₂ later_of (none_before teams a g later.1 up) (ap (λ b. cond (b && not (is_free_hit t.1.chip)) (Some t.1) None) not_before)

later_joined : (x y z : Option Team) → later_of (option_or x y) z ≡ option_or x (later_of y z)
later_joined None y z = refl
later_joined (Some x) y z = refl

not_chosen : (b : Bool) (t : Team) → cond (not b) (Some t) None ≡ option_or (cond b None (Some t)) None
not_chosen true t = refl
not_chosen false t = refl

apart_next : (t : ℕ × Team) (teams : List (ℕ × Team)) (g : ℕ) → eqb t.0 g ≡ false → nat_lt t.0 (suc g) ≡ nat_lt t.0 g
    → team_before teams (suc g) ≡ option_or (kept_team (team_recorded teams g)) (team_before teams g)
    → team_before (t ∷ teams) (suc g) ≡ option_or (kept_team (team_recorded (t ∷ teams) g)) (team_before (t ∷ teams) g)
apart_next t teams g apart same rest =
    let own : ℕ → Option Team = λ h. cond (nat_lt t.0 h && not (is_free_hit t.1.chip)) (Some t.1) None in
    let one : own (suc g) ≡ own g = ap (λ b. cond (b && not (is_free_hit t.1.chip)) (Some t.1) None) same in
    let found : team_recorded (t ∷ teams) g ≡ team_recorded teams g = ap (λ b. cond b (Some t.1) (team_recorded teams g)) apart in
    ap₂ later_of rest one ∙ later_joined (kept_team (team_recorded teams g)) (team_before teams g) (own g)
    ∙ ap (λ o. option_or (kept_team o) (later_of (team_before teams g) (own g))) (sym found)

same_next : (t : ℕ × Team) (teams : List (ℕ × Team)) (g : ℕ) → AllLater t.0 teams → t.0 ≡ g
    → team_before (t ∷ teams) (suc g) ≡ option_or (kept_team (team_recorded (t ∷ teams) g)) (team_before (t ∷ teams) g)
same_next t teams g later same =
    let rest : team_before teams (suc g) ≡ None = none_before teams t.0 (suc g) later (omega arith) in
    let none : team_before teams g ≡ None = none_before teams t.0 g later (omega arith) in
    let now : nat_lt t.0 (suc g) ≡ true = lt-ltb t.0 (suc g) (omega arith) in
    let not_yet : nat_lt t.0 g ≡ false = le-ltb t.0 g (omega arith) in
    let found : team_recorded (t ∷ teams) g ≡ Some t.1 = ap (λ b. cond b (Some t.1) (team_recorded teams g)) (eq-eqb t.0 g same) in
    let left : team_before (t ∷ teams) (suc g) ≡ cond (not (is_free_hit t.1.chip)) (Some t.1) None
    = ap₂ later_of rest (ap (λ b. cond (b && not (is_free_hit t.1.chip)) (Some t.1) None) now) in
    let right : team_before (t ∷ teams) g ≡ None
    = ap₂ later_of none (ap (λ b. cond (b && not (is_free_hit t.1.chip)) (Some t.1) None) not_yet) in
    left ∙ not_chosen (is_free_hit t.1.chip) t.1 ∙ sym (ap₂ (λ o p. option_or (kept_team o) p) found right)

-- the last team before the next gameweek is that of this one, or the last before it
before_next : (teams : List (ℕ × Team)) (g : ℕ) → TeamsRise teams → team_before teams (suc g) ≡ option_or (kept_team (team_recorded teams g)) (team_before teams g)
before_next [] g rise = refl
before_next (t ∷ teams) g rise =
    elim (cases_order t.0 g) [
      | inl same ↦ same_next t teams g rise.0 same
      | inr (inl less) ↦ apart_next t teams g (ne_eqb t.0 g (λ same. omega arith)) (lt-ltb t.0 (suc g) (omega arith) ∙ sym (lt-ltb t.0 g less)) (before_next teams g rise.1)
      | inr (inr more) ↦ apart_next t teams g (ne_eqb t.0 g (λ same. omega arith)) (le-ltb t.0 (suc g) (omega arith) ∙ sym (le-ltb t.0 g (omega arith))) (before_next teams g rise.1)
    ]

before_zero : (teams : List (ℕ × Team)) → team_before teams zero ≡ None
before_zero [] = refl
before_zero (t ∷ teams) =
    ap₂ later_of (before_zero teams) (ap (λ b. cond (b && not (is_free_hit t.1.chip)) (Some t.1) None) (le-ltb t.0 zero (omega arith)))

-- a kept team is the record's, where the teams are those of records
kept_as : (f : RecordedTeam → Team) → ((t : RecordedTeam) → (f t).chip ≡ t.chip) → (o : Option RecordedTeam) → kept_team (option_map f o) ≡ option_map f (lasting o)
kept_as f chips None = refl
kept_as f chips (Some t) = chosen_as (is_free_hit t.chip) t (ap is_free_hit (chips t))
  where
    chosen_as : (b : Bool) (t : RecordedTeam) → is_free_hit (f t).chip ≡ b → cond (is_free_hit (f t).chip) None (Some (f t)) ≡ option_map f (cond b None (Some t))
    chosen_as true t e = ap (λ b. cond b None (Some (f t))) e
    chosen_as false t e = ap (λ b. cond b None (Some (f t))) e

or_mapped : {A B : Type 0} (f : A → B) (x y : Option A) → option_or (option_map f x) (option_map f y) ≡ option_map f (option_or x y)
or_mapped f None y = refl
or_mapped f (Some x) y = refl

-- the last team before a gameweek is the record's
pub before_as : (f : RecordedTeam → Team) → ((t : RecordedTeam) → (f t).chip ≡ t.chip) → (told : ℕ → Option RecordedTeam) (teams : List (ℕ × Team))
    → TeamsRise teams → ((g : ℕ) → team_recorded teams g ≡ option_map f (told g)) → (g : ℕ) → team_before teams g ≡ option_map f (last_before told g)
before_as f chips told teams rise same zero = before_zero teams
before_as f chips told teams rise same (suc g) =
    before_next teams g rise
    ∙ ap₂ option_or (ap kept_team (same g) ∙ kept_as f chips (told g)) (before_as f chips told teams rise same g)
    ∙ or_mapped f (lasting (told g)) (last_before told g)

-- without a team before a gameweek there is none to go on from
pub none_before_first : (told : ℕ → Option RecordedTeam) (g : ℕ) → ((w : ℕ) → w < g → told w ≡ None) → last_before told g ≡ None
none_before_first told zero none = refl
none_before_first told (suc g) none =
    ap₂ option_or (ap lasting (none g (omega arith))) (none_before_first told g (λ w less. none w (omega arith)))
