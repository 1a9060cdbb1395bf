-- A lawful history goes on by a chip that is played or taken back.
use Rattle.std.proofs.Common.{◌≡◌, ◌≢◌, ◌≤◌, ℕ, Bool, true, false, cond, not, ◌&&◌, ◌||◌, List, [], ◌∷◌, None, arith, refl}
use Rattle.std.proofs.lemmas.Bool.{false≢true, not-true, true≢false}
use Rattle.fpl_base.specs.declared.kinds.Chip.{Chip}
use Rattle.fpl_base.specs.declared.kinds.Chip.TheVariants.{None as NoChip, Wildcard, FreeHit, BenchBoost, TripleCaptain}
use Rattle.fpl_base.specs.declared.rule.Rule.TheVariants as rule
use Rattle.rule_book.specs.EntryCalls.{cancel_refused, chip_refused, starts_in, transfer_limit}
use Rattle.rule_book.specs.History.{Event, chip_at}
use Rattle.rule_book.specs.History.Deed.{Play, Cancel}
use Rattle.rule_book.specs.HistoryRules.{can_cancel, is_started}
use Rattle.rule_book.specs.HistoryTransfers.{is_same_chip, makes_free, swaps_in, used_before}
use Rattle.rule_book.specs.Refusals.{unless}
use Rattle.season_book.specs.Book.{Facts}
use Rattle.season_ledger.proofs.Counts.{swaps_deed}
use Rattle.season_ledger.proofs.Kept.{chip_here}
use Rattle.store_validation.proofs.EntriesJudged.{none_mapped}
use Rattle.lawful_books.specs.Histories.{IsLawfulHistory}
use Rattle.lawful_books.proofs.Grows.{MayGoOn, may_go_on, starts_same}
use Rattle.lawful_books.proofs.Unbroken.{holds, none_first}

-- what no chip allows is allowed under any
under_any : (n : ℕ) (first : Bool) (standing chip : Chip) → is_same_chip standing NoChip ≡ true → n ≤ transfer_limit first standing → n ≤ transfer_limit first chip
under_any n first NoChip chip none few = by first (makes_free chip) few
  where
    by : (first free : Bool) → n ≤ cond (first || false) 1000 20 → n ≤ cond (first || free) 1000 20
    by true free few = few
    by false true few = omega (arith, few)
    by false false few = few
under_any n first Wildcard chip none few = absurd (false≢true none)
under_any n first FreeHit chip none few = absurd (false≢true none)
under_any n first BenchBoost chip none few = absurd (false≢true none)
under_any n first TripleCaptain chip none few = absurd (false≢true none)

-- and so is what a chip allows that can be taken back, when it was
under_none : (n : ℕ) (first : Bool) (standing : Chip) → can_cancel standing ≡ true → n ≤ transfer_limit first standing → n ≤ transfer_limit first NoChip
under_none n first NoChip can few = few
under_none n first Wildcard can few = absurd (false≢true can)
under_none n first FreeHit can few = absurd (false≢true can)
under_none n first BenchBoost can few = few
under_none n first TripleCaptain can few = few

late_one : (first free : Bool) → (first && free) ≡ false → first ≡ true → free ≡ false
late_one true free is first = is
late_one false free is first = absurd (false≢true first)

module _ (facts : Facts) (h : List Event) (g : ℕ) (lawful : IsLawfulHistory facts h) where
  pub played : (chip : Chip) → chip ≢ NoChip → chip_refused h facts.calendar.split chip g ≡ None → MayGoOn facts h g (Play chip ∷ [])
  played chip some granted =
      let on = none_first _ _ granted in
      let late = none_first _ _ on.1 in
      let free = none_first _ _ late.1 in
      let unused = none_first _ _ free.1 in
      may_go_on facts h g (Play chip ∷ []) chip (starts_in h g) (swaps_in h g) (some, tt)
      (chip_here h g (Play chip ∷ []))
      (starts_same h g g (Play chip ∷ []) (holds (is_started h) rule.NotRegistered on.0))
      (swaps_deed h g (Play chip) refl)
      (under_any (swaps_in h g) (starts_in h g) (chip_at h g) chip (holds (is_same_chip (chip_at h g) NoChip) rule.ChipPlayed free.0) (lawful.limits g))
      (late_one (starts_in h g) (makes_free chip) (not-true _ (holds (not (starts_in h g && makes_free chip)) rule.ChipEarly late.0)))
      (λ other. none_mapped rule.ChipUsed (used_before facts.calendar.split (chip_at h) chip g) unused.0)

  pub taken_back : cancel_refused h g ≡ None → MayGoOn facts h g (Cancel ∷ [])
  taken_back granted =
      let on = none_first _ _ granted in
      let some = none_first (unless (not (is_same_chip (chip_at h g) NoChip)) rule.NoChip) _ on.1 in
      let can = none_first (unless (can_cancel (chip_at h g)) rule.ChipFixed) [] some.1 in
      may_go_on facts h g (Cancel ∷ []) NoChip (starts_in h g) (swaps_in h g) (tt, tt)
      (chip_here h g (Cancel ∷ []))
      (starts_same h g g (Cancel ∷ []) (holds (is_started h) rule.NotRegistered on.0))
      (swaps_deed h g Cancel refl)
      (under_none (swaps_in h g) (starts_in h g) (chip_at h g) (holds (can_cancel (chip_at h g)) rule.ChipFixed can.0) (lawful.limits g))
      (λ first. refl)
      (λ other. absurd (true≢false other))
