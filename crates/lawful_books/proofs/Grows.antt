-- A lawful history goes on by deeds of the next gameweek, where they are lawful by themselves, and the gameweek's
-- transfers and chip may stand together.
use Rattle.std.proofs.Common.{◌≡◌, ◌<◌, ◌≤◌, ◌+◌, ◌-◌, ℕ, zero, suc, Bool, true, false, List, [], ◌∷◌, ◌++◌, None, arith, refl, sym, ap, subst, ◌∙◌, inl, inr}
use Rattle.std.specs.List.{AllByRecursion as Each}
use Rattle.std.proofs.lemmas.Bool.{cases_eq, cases_order, false≢true, true≢false}
use Rattle.std.proofs.lemmas.Bool.Decides.{nat_tests}
use Rattle.fpl_base.specs.declared.kinds.Chip.{Chip}
use Rattle.fpl_base.specs.declared.kinds.Chip.TheVariants.{None as NoChip}
use Rattle.rule_book.specs.EntryCalls.{starts_in, transfer_limit}
use Rattle.rule_book.specs.History.{Deed, Event, chip_at, in_gameweek}
use Rattle.rule_book.specs.HistoryRules.{NoneAfter, is_started}
use Rattle.rule_book.specs.HistoryTransfers.{chip_among, half_of, is_same_chip, makes_free, swaps_in, used_before}
use Rattle.season_book.specs.Book.{Facts}
use Rattle.season_ledger.proofs.Counts.{swaps_other}
use Rattle.season_ledger.proofs.Kept.{chip_other}
use Rattle.season_records.proofs.Histories.{untouched}
use Rattle.lawful_books.specs.Histories.{IsLawfulDeed, IsLawfulHistory}
use Rattle.lawful_books.proofs.Recorded.{untouched_chip}

-- chips that are the same in earlier gameweeks were played in the same of them
among_agree : (c d : ℕ → Chip) (chip : Chip) (from k : ℕ) → ((j : ℕ) → j < k → c (from + j) ≡ d (from + j)) → chip_among c chip from k ≡ chip_among d chip from k
among_agree c d chip from zero same = refl
among_agree c d chip from (suc k) same =
    let before : chip_among c chip from k ≡ chip_among d chip from k = among_agree c d chip from k (λ j less. same j (omega (arith, less))) in
    let here : c (from + k) ≡ d (from + k) = same k (omega arith) in
    rw (before, here) refl

used_agree : (split : ℕ) (c d : ℕ → Chip) (chip : Chip) (g : ℕ) → ((w : ℕ) → w < g → c w ≡ d w) → used_before split c chip g ≡ used_before split d chip g
used_agree split c d chip g same =
    let from = half_of split chip g in
    among_agree c d chip from (g - from) (λ j less. same (from + j) (omega (arith, less)))

-- what these deeds in the next gameweek ask of it, by what was done before
pub record MayGoOn (facts : Facts) (h : List Event) (g : ℕ) (ds : List Deed) : Type 0 where
  pub deeds : Each (IsLawfulDeed facts) ds
  pub limit : swaps_in (h ++ in_gameweek g ds) g ≤ transfer_limit (starts_in (h ++ in_gameweek g ds) g) (chip_at (h ++ in_gameweek g ds) g)
  pub late : starts_in (h ++ in_gameweek g ds) g ≡ true → makes_free (chip_at (h ++ in_gameweek g ds) g) ≡ false
  pub once : is_same_chip (chip_at (h ++ in_gameweek g ds) g) NoChip ≡ false
      → used_before facts.calendar.split (chip_at h) (chip_at (h ++ in_gameweek g ds) g) g ≡ None

-- the same, where the gameweek's chip, transfers and whether it is the first are told
pub may_go_on : (facts : Facts) (h : List Event) (g : ℕ) (ds : List Deed) (chip : Chip) (first : Bool) (n : ℕ) → Each (IsLawfulDeed facts) ds
    → chip_at (h ++ in_gameweek g ds) g ≡ chip → starts_in (h ++ in_gameweek g ds) g ≡ first → swaps_in (h ++ in_gameweek g ds) g ≡ n
    → n ≤ transfer_limit first chip → (first ≡ true → makes_free chip ≡ false)
    → (is_same_chip chip NoChip ≡ false → used_before facts.calendar.split (chip_at h) chip g ≡ None) → MayGoOn facts h g ds
may_go_on facts h g ds chip first n deeds chip_is first_is swaps_are few late once =
    let after : List Event = h ++ in_gameweek g ds in
    record {
      deeds = deeds;
      limit = subst (λ chip. swaps_in after g ≤ transfer_limit (starts_in after g) chip) (sym chip_is)
          (subst (λ first. swaps_in after g ≤ transfer_limit first chip) (sym first_is) (subst (λ n. n ≤ transfer_limit first chip) (sym swaps_are) few));
      late = λ starts. ap makes_free chip_is ∙ late (sym first_is ∙ starts);
      once = subst (λ chip. is_same_chip chip NoChip ≡ false → used_before facts.calendar.split (chip_at h) chip g ≡ None) (sym chip_is) once;
    }

-- what began before begins no later
pub starts_same : (h : List Event) (g w : ℕ) (ds : List Deed) → is_started h ≡ true → starts_in (h ++ in_gameweek g ds) w ≡ starts_in h w
starts_same [] g w ds on = absurd (false≢true on)
starts_same (e ∷ h) g w ds on = refl

all_in : (P : Event → Type 0) (h : List Event) (g : ℕ) (ds : List Deed) → Each P h → Each (λ d. P (record { gw = g; deed = d })) ds → Each P (h ++ in_gameweek g ds)
all_in P [] g [] all more = tt
all_in P [] g (d ∷ ds) all more = (more.0, all_in P [] g ds tt more.1)
all_in P (e ∷ h) g ds all more = (all.0, all_in P h g ds all.1 more)

each_so : {A : Type 0} (P : Type 0) (xs : List A) → P → Each (λ x. P) xs
each_so P [] so = tt
each_so P (x ∷ xs) so = (so, each_so P xs so)

starts_other : (h : List Event) (g w : ℕ) (ds : List Deed) → (w ≡ g → ⊥) → starts_in (h ++ in_gameweek g ds) w ≡ starts_in h w
starts_other (e ∷ h) g w ds other = refl
starts_other [] g w [] other = refl
starts_other [] g w (d ∷ ds) other = grind (arith, nat_tests, other)

module _ (facts : Facts) (h : List Event) (g : ℕ) (ds : List Deed) (early : NoneAfter g h) (lawful : IsLawfulHistory facts h) (next : MayGoOn facts h g ds) where
  abbrev after : List Event
  after = h ++ in_gameweek g ds

  limits : (w : ℕ) → swaps_in after w ≤ transfer_limit (starts_in after w) (chip_at after w)
  limits w = elim (cases_eq w g) [
    | inl here ↦ subst (λ w. swaps_in after w ≤ transfer_limit (starts_in after w) (chip_at after w)) (sym here) next.limit
    | inr other ↦ rw (swaps_other h g w ds other, starts_other h g w ds other, chip_other h g w ds other) (lawful.limits w)
  ]

  late : (w : ℕ) → starts_in after w ≡ true → makes_free (chip_at after w) ≡ false
  late w starts = elim (cases_eq w g) [
    | inl here ↦ subst (λ w. starts_in after w ≡ true → makes_free (chip_at after w) ≡ false) (sym here) next.late starts
    | inr other ↦ ap makes_free (chip_other h g w ds other) ∙ lawful.late w (sym (starts_other h g w ds other) ∙ starts)
  ]

  used_same : (chip : Chip) (w : ℕ) → w ≤ g → used_before facts.calendar.split (chip_at after) chip w ≡ used_before facts.calendar.split (chip_at h) chip w
  used_same chip w le = used_agree facts.calendar.split (chip_at after) (chip_at h) chip w (λ v less. chip_other h g v ds (λ same. omega (arith, le, less, same)))

  once : (w : ℕ) → is_same_chip (chip_at after w) NoChip ≡ false → used_before facts.calendar.split (chip_at after) (chip_at after w) w ≡ None
  once w some = elim (cases_order w g) [
    | inl here ↦
        subst (λ w. is_same_chip (chip_at after w) NoChip ≡ false → used_before facts.calendar.split (chip_at after) (chip_at after w) w ≡ None) (sym here)
        (λ some. used_same (chip_at after g) g (omega arith) ∙ next.once some) some
    | inr (inl before) ↦ (
        let same : chip_at after w ≡ chip_at h w = chip_other h g w ds (λ is. omega (arith, before, is)) in
        used_same (chip_at after w) w (omega (arith, before)) ∙ ap (λ chip. used_before facts.calendar.split (chip_at h) chip w) same
        ∙ lawful.once w (sym (ap (λ chip. is_same_chip chip NoChip) same) ∙ some))
    | inr (inr behind) ↦ (
        let none : chip_at after w ≡ NoChip = chip_other h g w ds (λ is. omega (arith, behind, is)) ∙ untouched_chip h w (untouched g w h early behind) in
        absurd (true≢false (sym (ap (λ chip. is_same_chip chip NoChip) none) ∙ some)))
  ]

  pub goes_on : 1 ≤ g → IsLawfulHistory facts (h ++ in_gameweek g ds)
  goes_on one = record {
    deeds = all_in (λ e. IsLawfulDeed facts e.deed) h g ds lawful.deeds next.deeds;
    gameweeks = all_in (λ e. 1 ≤ e.gw) h g ds lawful.gameweeks (each_so (1 ≤ g) ds one);
    limits = limits;
    late = late;
    once = once;
  }
