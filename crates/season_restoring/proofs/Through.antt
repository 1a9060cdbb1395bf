-- What numbers give one after another: the teams of gameweeks, and their transfers.
use Rattle.std.proofs.Common.{◌≡◌, ◌<◌, ◌≤◌, ◌+◌, ◌-◌, ℕ, zero, suc, false, cond, eqb, List, [], ◌∷◌, ◌++◌, Option, Some, None, refl, sym, ap, ◌∙◌, subst, inl, inr, arith, append_assoc}
use Rattle.std.specs.List.{AllByRecursion as Each}
use Rattle.std.proofs.lemmas.Bool.{cases_eq, eq-eqb, ne_eqb}
use Rattle.std.proofs.lemmas.List.{append-nil}
use Rattle.rule_book.specs.declared.team.Team.{Team}
use Rattle.rule_book.specs.declared.transfers.Sale.{Sale}
use Rattle.rule_book.specs.EntryRecords.{AllLater, TeamsRise, sales_in, team_recorded}
use Rattle.manager_book.specs.Calls.{with_gameweek}
use Rattle.season_restoring.specs.Restoring.{beside, through}

pub through_none : {A : Type 0} (f : ℕ → List A) (g : ℕ) → through f zero g ≡ []
unfolding through
through_none f g = refl

pub through_next : {A : Type 0} (f : ℕ → List A) (k g : ℕ) → through f (suc k) g ≡ f g ++ through f k (g + 1)
unfolding through
through_next f k g = refl

-- In a loop over the gameweeks.

abbrev pub IsOnTheWay : {A : Type 0} → (ℕ → List A) → ℕ → List A → Type 0
IsOnTheWay f n made = made ++ through f (39 - n) n ≡ through f 38 1

pub on_from : {A : Type 0} (f : ℕ → List A) (n : ℕ) (old new : List A) → n < 39 → new ≡ old ++ f n → IsOnTheWay f n old → IsOnTheWay f (n + 1) new
on_from f n old new less added way =
    let k : 39 - n ≡ suc (39 - (n + 1)) = omega (arith, less) in
    let left : through f (39 - n) n ≡ f n ++ through f (39 - (n + 1)) (n + 1) = ap (λ j. through f j n) k ∙ through_next f (39 - (n + 1)) n in
    ap (λ l. l ++ through f (39 - (n + 1)) (n + 1)) added
    ∙ append_assoc old (f n) (through f (39 - (n + 1)) (n + 1))
    ∙ sym (ap (λ l. old ++ l) left)
    ∙ way

pub at_end : {A : Type 0} (f : ℕ → List A) (n : ℕ) (made : List A) → 39 ≤ n → IsOnTheWay f n made → made ≡ through f 38 1
at_end f n made end way =
    let k : 39 - n ≡ zero = omega (arith, end) in
    let left : through f (39 - n) n ≡ [] = ap (λ j. through f j n) k ∙ through_none f n in
    sym (append-nil made) ∙ sym (ap (λ l. made ++ l) left) ∙ way

-- Teams.

abbrev pub teams_in : (ℕ → Option Team) → ℕ → ℕ → List (ℕ × Team)
teams_in told k g = through (λ w. beside w (told w)) k g

teams_next : (told : ℕ → Option Team) (k g : ℕ) → teams_in told (suc k) g ≡ beside g (told g) ++ teams_in told k (g + 1)
teams_next told k g = through_next (λ w. beside w (told w)) k g

teams_none : (told : ℕ → Option Team) (g : ℕ) → teams_in told zero g ≡ []
teams_none told g = through_none (λ w. beside w (told w)) g

later : (told : ℕ → Option Team) (x k g : ℕ) → x < g → AllLater x (teams_in told k g)
later told x zero g less = subst (AllLater x) (sym (teams_none told g)) tt
later told x (suc k) g less = subst (AllLater x) (sym (teams_next told k g)) (first (told g) (later told x k (g + 1) (omega (arith, less))))
  where
    first : (o : Option Team) → AllLater x (teams_in told k (g + 1)) → AllLater x (beside g o ++ teams_in told k (g + 1))
    first None rest = rest
    first (Some t) rest = (less, rest)

not_later : (x : ℕ) (teams : List (ℕ × Team)) → AllLater x teams → team_recorded teams x ≡ None
not_later x [] all = refl
not_later x (t ∷ teams) all =
    let apart : eqb t.0 x ≡ false = ne_eqb t.0 x (λ e. omega (arith, e, all.0)) in
    ap (λ b. cond b (Some t.1) (team_recorded teams x)) apart ∙ not_later x teams all.1

pub none_before : (told : ℕ → Option Team) (x k g : ℕ) → x < g → team_recorded (teams_in told k g) x ≡ None
none_before told x k g less = not_later x (teams_in told k g) (later told x k g less)

pub teams_rise : (told : ℕ → Option Team) (k g : ℕ) → TeamsRise (teams_in told k g)
teams_rise told zero g = subst TeamsRise (sym (teams_none told g)) tt
teams_rise told (suc k) g = subst TeamsRise (sym (teams_next told k g)) (first (told g) (teams_rise told k (g + 1)))
  where
    first : (o : Option Team) → TeamsRise (teams_in told k (g + 1)) → TeamsRise (beside g o ++ teams_in told k (g + 1))
    first None rest = rest
    first (Some t) rest = (later told g k (g + 1) (omega arith), rest)

team_here : (g : ℕ) (o : Option Team) (teams : List (ℕ × Team)) → AllLater g teams → team_recorded (beside g o ++ teams) g ≡ o
team_here g None teams all = not_later g teams all
team_here g (Some t) teams all = ap (λ b. cond b (Some t) (team_recorded teams g)) (eq-eqb g g refl)

team_apart : (g x : ℕ) (o : Option Team) (teams : List (ℕ × Team)) → (g ≡ x → ⊥) → team_recorded (beside g o ++ teams) x ≡ team_recorded teams x
team_apart g x None teams apart = refl
team_apart g x (Some t) teams apart = ap (λ b. cond b (Some t) (team_recorded teams x)) (ne_eqb g x apart)

-- from a gameweek on, what is told is what is found, where nothing is told behind the last
pub team_found : (told : ℕ → Option Team) (k g x : ℕ) → g ≤ x → (g + k ≤ x → told x ≡ None) → team_recorded (teams_in told k g) x ≡ told x
team_found told zero g x low none = ap (λ l. team_recorded l x) (teams_none told g) ∙ sym (none (omega (arith, low)))
team_found told (suc k) g x low none =
    ap (λ l. team_recorded l x) (teams_next told k g)
    ∙ elim (cases_eq g x) [
      | inl here ↦ subst (λ w. team_recorded (beside g (told g) ++ teams_in told k (g + 1)) w ≡ told w) here
          (team_here g (told g) (teams_in told k (g + 1)) (later told g k (g + 1) (omega arith)))
      | inr apart ↦ team_apart g x (told g) (teams_in told k (g + 1)) apart
          ∙ team_found told k (g + 1) x (omega (arith, low, apart)) (λ le. none (omega (arith, le)))
    ]

-- what holds of each team that is told holds of each of the list
pub each_team : (P : ℕ → Team → Type 0) (told : ℕ → Option Team) → ((x : ℕ) (t : Team) → told x ≡ Some t → P x t) → (k g : ℕ) → Each (λ t. P t.0 t.1) (teams_in told k g)
each_team P told holds zero g = subst (Each (λ t. P t.0 t.1)) (sym (teams_none told g)) tt
each_team P told holds (suc k) g = subst (Each (λ t. P t.0 t.1)) (sym (teams_next told k g)) (first (told g) refl (each_team P told holds k (g + 1)))
  where
    first : (o : Option Team) → told g ≡ o → Each (λ t. P t.0 t.1) (teams_in told k (g + 1)) → Each (λ t. P t.0 t.1) (beside g o ++ teams_in told k (g + 1))
    first None is rest = rest
    first (Some t) is rest = (holds g t is, rest)

-- Transfers.

abbrev pub sales_of_gameweeks : (ℕ → List Sale) → ℕ → ℕ → List (ℕ × Sale)
sales_of_gameweeks sales k g = through (λ w. with_gameweek w (sales w)) k g

pub sales_next : (sales : ℕ → List Sale) (k g : ℕ) → sales_of_gameweeks sales (suc k) g ≡ with_gameweek g (sales g) ++ sales_of_gameweeks sales k (g + 1)
sales_next sales k g = through_next (λ w. with_gameweek w (sales w)) k g

pub sales_none : (sales : ℕ → List Sale) (g : ℕ) → sales_of_gameweeks sales zero g ≡ []
sales_none sales g = through_none (λ w. with_gameweek w (sales w)) g

sales_apart : (g x : ℕ) (own : List Sale) (sales : List (ℕ × Sale)) → (g ≡ x → ⊥) → sales_in (with_gameweek g own ++ sales) x ≡ sales_in sales x
sales_apart g x [] sales apart = refl
sales_apart g x (s ∷ own) sales apart =
    ap (λ b. cond b (s ∷ sales_in (with_gameweek g own ++ sales) x) (sales_in (with_gameweek g own ++ sales) x)) (ne_eqb g x apart)
    ∙ sales_apart g x own sales apart

sales_here : (g : ℕ) (own : List Sale) (sales : List (ℕ × Sale)) → sales_in (with_gameweek g own ++ sales) g ≡ own ++ sales_in sales g
sales_here g [] sales = refl
sales_here g (s ∷ own) sales =
    ap (λ b. cond b (s ∷ sales_in (with_gameweek g own ++ sales) g) (sales_in (with_gameweek g own ++ sales) g)) (eq-eqb g g refl)
    ∙ ap (λ l. s ∷ l) (sales_here g own sales)

pub no_sales_before : (sales : ℕ → List Sale) (x k g : ℕ) → x < g → sales_in (sales_of_gameweeks sales k g) x ≡ []
no_sales_before sales x zero g less = ap (λ l. sales_in l x) (sales_none sales g)
no_sales_before sales x (suc k) g less =
    ap (λ l. sales_in l x) (sales_next sales k g)
    ∙ sales_apart g x (sales g) (sales_of_gameweeks sales k (g + 1)) (λ e. omega (arith, e, less))
    ∙ no_sales_before sales x k (g + 1) (omega (arith, less))

pub sales_found : (sales : ℕ → List Sale) (k g x : ℕ) → g ≤ x → (g + k ≤ x → sales x ≡ []) → sales_in (sales_of_gameweeks sales k g) x ≡ sales x
sales_found sales zero g x low none = ap (λ l. sales_in l x) (sales_none sales g) ∙ sym (none (omega (arith, low)))
sales_found sales (suc k) g x low none =
    ap (λ l. sales_in l x) (sales_next sales k g)
    ∙ elim (cases_eq g x) [
      | inl here ↦ subst (λ w. sales_in (with_gameweek g (sales g) ++ sales_of_gameweeks sales k (g + 1)) w ≡ sales w) here
          (sales_here g (sales g) (sales_of_gameweeks sales k (g + 1))
          ∙ ap (λ l. sales g ++ l) (no_sales_before sales g k (g + 1) (omega arith))
          ∙ append-nil (sales g))
      | inr apart ↦ sales_apart g x (sales g) (sales_of_gameweeks sales k (g + 1)) apart
          ∙ sales_found sales k (g + 1) x (omega (arith, low, apart)) (λ le. none (omega (arith, le)))
    ]
