-- Fields of a record, and the numbers that they spell.
use Rattle.std.proofs.Common.{◌≡◌, ◌<◌, ◌≤◌, ◌^◌, ℕ, zero, suc, List, [], ◌∷◌, length, Some, None, arith, sym, ap, ◌∙◌}
use Rattle.std.specs.Fmt.{decimal}
use Rattle.std.proofs.lemmas.Fmt.{decimal_injective}
use Rattle.csv.specs.Records.{field_at}
use Rattle.season_calendar.specs.Instants.{IsInstant}
use Rattle.fpl_reports.specs.Rows.{Spells}
use Rattle.fpl_reports.specs.Files.{ArePair, SpellsFixture}
use Rattle.fpl_reports.specs.declared.files.FixtureRow.{FixtureRow}

-- a place below the number of fields has one
pub field_there : (fs : List (List ℕ)) (i : ℕ) → i < length fs → field_at fs i ≡ None → ⊥
unfolding field_at
field_there [] i h e = omega arith
field_there (f ∷ fs) zero h e = cc
field_there (f ∷ fs) (suc i) h e = field_there fs i (omega arith) e

pub some_same : {A : Type 0} {a b : A} → Some a ≡ Some b → a ≡ b
some_same e = cc

-- a record of two fields is those at 0 and 1
pub two_are : (fs : List (List ℕ)) (a b : List ℕ) → length fs ≡ 2 → field_at fs 0 ≡ Some a → field_at fs 1 ≡ Some b → fs ≡ a ∷ b ∷ []
unfolding field_at
two_are [] a b n p q = absurd (omega arith)
two_are (x ∷ []) a b n p q = absurd (omega arith)
two_are (x ∷ y ∷ []) a b n p q = ap (λ z. z ∷ y ∷ []) (some_same p) ∙ ap (λ z. a ∷ z ∷ []) (some_same q)
two_are (x ∷ y ∷ z ∷ r) a b n p q = absurd (omega arith)

-- a record of five fields is those at 0 to 4
pub five_are : (fs : List (List ℕ)) (a b c d e : List ℕ) → length fs ≡ 5 → field_at fs 0 ≡ Some a → field_at fs 1 ≡ Some b → field_at fs 2 ≡ Some c → field_at fs 3 ≡ Some d
    → field_at fs 4 ≡ Some e → fs ≡ a ∷ b ∷ c ∷ d ∷ e ∷ []
unfolding field_at
five_are [] a b c d e n p q r s t = absurd (omega arith)
five_are (u ∷ []) a b c d e n p q r s t = absurd (omega arith)
five_are (u ∷ v ∷ []) a b c d e n p q r s t = absurd (omega arith)
five_are (u ∷ v ∷ w ∷ []) a b c d e n p q r s t = absurd (omega arith)
five_are (u ∷ v ∷ w ∷ x ∷ []) a b c d e n p q r s t = absurd (omega arith)
five_are (u ∷ v ∷ w ∷ x ∷ y ∷ []) a b c d e n p q r s t =
    ap (λ z. z ∷ v ∷ w ∷ x ∷ y ∷ []) (some_same p) ∙ ap (λ z. a ∷ z ∷ w ∷ x ∷ y ∷ []) (some_same q) ∙ ap (λ z. a ∷ b ∷ z ∷ x ∷ y ∷ []) (some_same r)
    ∙ ap (λ z. a ∷ b ∷ c ∷ z ∷ y ∷ []) (some_same s) ∙ ap (λ z. a ∷ b ∷ c ∷ d ∷ z ∷ []) (some_same t)
five_are (u ∷ v ∷ w ∷ x ∷ y ∷ z ∷ more) a b c d e n p q r s t = absurd (omega arith)

-- bytes spell one number
pub spelled_once : (bs : List ℕ) (m n : ℕ) → m < 2 ^ 64 → n < 2 ^ 64 → bs ≡ decimal m → bs ≡ decimal n → m ≡ n
spelled_once bs m n h k p q = decimal_injective m n (omega arith) (omega arith) (sym p ∙ q)

-- no bytes spell 0 and a number from 1
pub not_zero : (bs : List ℕ) (greatest m n : ℕ) → greatest < 2 ^ 64 → m ≡ 0 → bs ≡ decimal m → Spells 1 greatest bs n → ⊥
not_zero bs greatest m n h z e s = omega (arith, spelled_once bs m n (omega arith) (omega (arith, s.1)) e s.2, s.0)

-- two records of the same fields have the same first one
pub same_first : (fs gs hs : List (List ℕ)) (a b : List ℕ) → fs ≡ a ∷ gs → fs ≡ b ∷ hs → a ≡ b
same_first fs gs hs a b p q = cc

pub none_some : {A : Type 0} {a : A} → None ≡ Some a → ⊥
none_some e = cc

-- numbers that are spelled by the same fields, and differ elsewhere
pub same_numbers : (greatest : ℕ) (bs cs : List ℕ) (h a k b : ℕ) → greatest < 2 ^ 64 → Spells 1 greatest bs h → Spells 1 greatest cs a → Spells 1 greatest bs k → Spells 1 greatest cs b → h ≡ a → k ≡ b
same_numbers greatest bs cs h a k b small p q r s e =
    let first : h ≡ k = spelled_once bs h k (omega (arith, p.1)) (omega (arith, r.1)) p.2 r.2 in
    let second : a ≡ b = spelled_once cs a b (omega (arith, q.1)) (omega (arith, s.1)) q.2 s.2 in
    sym first ∙ e ∙ second

last_same : {a b c d e f g h i j : List ℕ} → a ∷ b ∷ c ∷ d ∷ e ∷ [] ≡ f ∷ g ∷ h ∷ i ∷ j ∷ [] → e ≡ j
last_same e = cc

-- a fixture is none where its last field is no instant at which it can begin
pub no_kickoff : (fields : List (List ℕ)) (row : FixtureRow) (a b c d e : List ℕ) → fields ≡ a ∷ b ∷ c ∷ d ∷ e ∷ [] → ((t : ℕ) → (IsInstant e t × (5400 ≤ t)) → ⊥) → SpellsFixture fields row → ⊥
no_kickoff fields row a b c d e p none s =
    let same : s.instant ≡ e = last_same (sym s.fields_are ∙ p) in
    none row.kickoff (rw same at s.kickoff, s.late)

second_same : {a b f g : List ℕ} {xs ys : List (List ℕ)} → a ∷ b ∷ xs ≡ f ∷ g ∷ ys → b ≡ g
second_same e = cc

third_same : {a b c f g h : List ℕ} {xs ys : List (List ℕ)} → a ∷ b ∷ c ∷ xs ≡ f ∷ g ∷ h ∷ ys → c ≡ h
third_same e = cc

-- nor where its second and third are no two clubs
pub no_pair : (fields : List (List ℕ)) (row : FixtureRow) (a b c d e : List ℕ) → fields ≡ a ∷ b ∷ c ∷ d ∷ e ∷ [] → ((clubs : ℕ × ℕ) → ArePair b c clubs → ⊥) → SpellsFixture fields row → ⊥
no_pair fields row a b c d e p none s =
    let same = sym p ∙ s.fields_are in
    none (row.home, row.away) ((s.home.0, s.home.1, second_same same), (s.away.0, s.away.1, third_same same), s.two_clubs)
