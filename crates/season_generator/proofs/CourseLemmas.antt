-- Parts of a season, one after another.
use Rattle.std.proofs.Common.{◌≡◌, ◌∙◌, ◌≤◌, ◌+◌, ℕ, zero, suc, true, false, List, Option, Some, None, inl, inr, refl, sym, subst, arith}
use Rattle.std.specs.Prelude.{Ok, Err, Result}
use Rattle.fpl_base.specs.Causes.{Rose}
use Rattle.fpl_base.specs.Keeping.{Map}
use Rattle.fpl_base.specs.declared.kinds.Caller.TheVariants as caller
use Rattle.season_book.specs.declared.answer.Answer.{Answer}
use Rattle.season_book.specs.declared.request.Request.TheVariants as request
use Rattle.season_book.specs.declared.request.View.TheVariants as view
use Rattle.season_generator.specs.Made.{step_of}
use Rattle.season_generator.specs.declared.made.Step.{Step}
use Rattle.local_requests.specs.Asking.{IsHeardAt}
use Rattle.local_requests.specs.Printing.{EndsBy, PrintsOne}
use Rattle.request_handler.specs.Kept.{Kept, Leads}
use Rattle.request_handler.specs.Replying.{Served}
use Rattle.request_handler.proofs.KeptLemmas.{leads_on, leads_same}
use Rattle.local_requests.proofs.AskingLemmas.{leads_then}
use Rattle.season_generator.specs.Generating.{IsCorrected, IsGenerated, IsPlayed, IsTabled, PlaysOn, TabledBehind, is_done}
use Rattle.season_generator.specs.Summaries.{summary_text, table_of}
use Rattle.season_generator.specs.declared.table.Table.{Table}

-- a count that rose from a later one rose
pub rose_behind : (first mid last : ℕ) → first ≤ mid → Rose mid last → Rose first last
rose_behind first mid last later rose = omega (arith, rose, later)

-- a count rose from what is the same
pub rose_from : {X : Type 0} (faults : X → ℕ) (here there : X) (now : ℕ) → here ≡ there → Rose (faults here) now → Rose (faults there) now
rose_from {X = X} faults here there now same rose = subst (λ (x : X). Rose (faults x) now) same rose

-- ---- steps that are left

-- no step is left
none_left : (seed from count : ℕ) (before : Option (List ℕ)) (s : Served) → count ≡ 0 → PlaysOn seed from count before before (Ok tt) s s
unfolding PlaysOn
none_left seed from zero before s is = (refl, refl, refl)
none_left seed from (suc count) before s is = absurd (omega (arith, is))

-- the first of them was played
one_played : (seed from left count : ℕ) (before after : Option (List ℕ)) (gave : Result (Unit {0}) ℕ) (s m b : Served) → left ≡ suc count
    → IsPlayed seed from before before (Ok tt) s m → PlaysOn seed (from + 1) count before after gave m b → PlaysOn seed from left before after gave s b
unfolding PlaysOn
one_played seed from zero count before after gave s m b is played rest = absurd (omega (arith, is))
one_played seed from (suc left) count before after gave s m b is played rest =
    let same : count ≡ left = omega (arith, is) in
    inr (m, played, subst (λ n. PlaysOn seed (from + 1) n before after gave m b) same rest)

-- the first of them ended the season
one_ended : (seed from left count : ℕ) (before after : Option (List ℕ)) (status : ℕ) (s b : Served) → left ≡ suc count
    → IsPlayed seed from before after (Err status) s b → PlaysOn seed from left before after (Err status) s b
unfolding PlaysOn
one_ended seed from zero count before after status s b is played = absurd (omega (arith, is))
one_ended seed from (suc left) count before after status s b is played = inl (status, refl, played)

-- some steps were played, and so many are left, from this one on: whatever becomes of these is the end of all
abbrev pub IsUnderway : ℕ → ℕ → ℕ → ℕ → ℕ → Option (List ℕ) → Served → Served → Type 0
IsUnderway seed start whole from left before old mid =
    (after : Option (List ℕ)) (gave : Result (Unit {0}) ℕ) (new : Served) → PlaysOn seed from left before after gave mid new → PlaysOn seed start whole before after gave old new

-- ---- by each of the three views

module _ (K : Type 0) (tells serves : K → Type 0) (holds passes : K → Map → Type 0) where
  -- ---- one step

  pub step_done : (seed number : ℕ) (step : Step) (told : Answer) (before : Option (List ℕ)) (first last : Kept K) → Some step ≡ step_of seed number → is_done told ≡ true
      → Leads tells serves holds passes first last (λ served behind. IsHeardAt step.moment served step.caller (request.Command step.number step.command) told behind)
      → Leads tells serves holds passes first last (IsPlayed seed number before before (Ok tt))
  step_done seed number step told before first last is done =
      leads_on K tells serves holds passes first last
      (λ served behind. IsHeardAt step.moment served step.caller (request.Command step.number step.command) told behind) (IsPlayed seed number before before (Ok tt))
      (λ s b heard. inr (step, told, sym is, heard, inl (done, refl, refl)))

  pub step_ends : (seed number : ℕ) (step : Step) (told : Answer) (before after : Option (List ℕ)) (status : ℕ) (first last : Kept K) → Some step ≡ step_of seed number → is_done told ≡ false
      → EndsBy told status before after
      → Leads tells serves holds passes first last (λ served behind. IsHeardAt step.moment served step.caller (request.Command step.number step.command) told behind)
      → Leads tells serves holds passes first last (IsPlayed seed number before after (Err status))
  step_ends seed number step told before after status first last is refused ends =
      leads_on K tells serves holds passes first last
      (λ served behind. IsHeardAt step.moment served step.caller (request.Command step.number step.command) told behind) (IsPlayed seed number before after (Err status))
      (λ s b heard. inr (step, told, sym is, heard, inr (refused, (status, refl, ends))))

  -- the same step of the same season, with the same written before and behind
  pub played_as : (seed now number : ℕ) (before here after there : Option (List ℕ)) (gave : Result (Unit {0}) ℕ) (first last : Kept K) → now ≡ seed → here ≡ before → there ≡ after
      → Leads tells serves holds passes first last (IsPlayed now number here there gave)
      → Leads tells serves holds passes first last (IsPlayed seed number before after gave)
  played_as seed now number before here after there gave first last is is_before is_after =
      leads_on K tells serves holds passes first last (IsPlayed now number here there gave) (IsPlayed seed number before after gave)
      (λ s b played. subst (λ n. IsPlayed n number before after gave s b) is
      (subst (λ x. IsPlayed now number x after gave s b) is_before (subst (λ x. IsPlayed now number here x gave s b) is_after played)))

  -- ---- the table

  pub table_told : (now : ℕ) (told : Answer) (table : Table) (before : Option (List ℕ)) (first last : Kept K) → now ≡ 1691790000 → table_of told ≡ Some table
      → Leads tells serves holds passes first last (λ served behind. IsHeardAt now served caller.Operator (request.View (view.League 1)) told behind)
      → Leads tells serves holds passes first last (IsTabled before before (Ok table))
  table_told now told table before first last at is =
      leads_on K tells serves holds passes first last
      (λ served behind. IsHeardAt now served caller.Operator (request.View (view.League 1)) told behind) (IsTabled before before (Ok table))
      (λ s b heard. (told, subst (λ t. IsHeardAt t s caller.Operator (request.View (view.League 1)) told b) at heard, inl (table, is, refl, refl)))

  pub table_ends : (now : ℕ) (told : Answer) (before after : Option (List ℕ)) (status : ℕ) (first last : Kept K) → now ≡ 1691790000 → table_of told ≡ None → EndsBy told status before after
      → Leads tells serves holds passes first last (λ served behind. IsHeardAt now served caller.Operator (request.View (view.League 1)) told behind)
      → Leads tells serves holds passes first last (IsTabled before after (Err status))
  table_ends now told before after status first last at none ends =
      leads_on K tells serves holds passes first last
      (λ served behind. IsHeardAt now served caller.Operator (request.View (view.League 1)) told behind) (IsTabled before after (Err status))
      (λ s b heard. (told, subst (λ t. IsHeardAt t s caller.Operator (request.View (view.League 1)) told b) at heard, inr (none, (status, refl, ends))))

  -- ---- steps one after another

  pub underway_start : (seed start whole : ℕ) (before : Option (List ℕ)) (kept : Kept K)
      → Leads tells serves holds passes kept kept (IsUnderway seed start whole start whole before)
  underway_start seed start whole before kept = leads_same K tells serves holds passes kept (IsUnderway seed start whole start whole before) (λ served after gave new on. on)

  pub underway_more : (seed start whole from left count : ℕ) (before : Option (List ℕ)) (first mid last : Kept K) → left ≡ suc count
      → Leads tells serves holds passes first mid (IsUnderway seed start whole from left before)
      → Leads tells serves holds passes mid last (IsPlayed seed from before before (Ok tt))
      → Leads tells serves holds passes first last (IsUnderway seed start whole (from + 1) count before)
  underway_more seed start whole from left count before first mid last is =
      leads_then K tells serves holds passes first mid last
      (IsUnderway seed start whole from left before) (IsPlayed seed from before before (Ok tt)) (IsUnderway seed start whole (from + 1) count before)
      (λ s m b on played after gave new rest. on after gave new (one_played seed from left count before after gave m b new is played rest))

  pub underway_stop : (seed start whole from left count : ℕ) (before after : Option (List ℕ)) (status : ℕ) (first mid last : Kept K) → left ≡ suc count
      → Leads tells serves holds passes first mid (IsUnderway seed start whole from left before)
      → Leads tells serves holds passes mid last (IsPlayed seed from before after (Err status))
      → Leads tells serves holds passes first last (PlaysOn seed start whole before after (Err status))
  underway_stop seed start whole from left count before after status first mid last is =
      leads_then K tells serves holds passes first mid last
      (IsUnderway seed start whole from left before) (IsPlayed seed from before after (Err status)) (PlaysOn seed start whole before after (Err status))
      (λ s m b on played. on after (Err status) b (one_ended seed from left count before after status m b is played))

  pub underway_end : (seed start whole from left : ℕ) (before after : Option (List ℕ)) (first last : Kept K) → after ≡ before → left ≡ 0
      → Leads tells serves holds passes first last (IsUnderway seed start whole from left before)
      → Leads tells serves holds passes first last (PlaysOn seed start whole before after (Ok tt))
  underway_end seed start whole from left before after first last same is =
      leads_on K tells serves holds passes first last
      (IsUnderway seed start whole from left before) (PlaysOn seed start whole before after (Ok tt))
      (λ s b on. subst (λ x. PlaysOn seed start whole before x (Ok tt) s b) (sym same) (on before (Ok tt) b (none_left seed from left before b is)))

  -- ---- a table behind steps

  pub table_stop : (seed from count : ℕ) (before after : Option (List ℕ)) (status : ℕ) (first last : Kept K)
      → Leads tells serves holds passes first last (PlaysOn seed from count before after (Err status))
      → Leads tells serves holds passes first last (TabledBehind seed from count before after (Err status))
  table_stop seed from count before after status first last =
      leads_on K tells serves holds passes first last (PlaysOn seed from count before after (Err status)) (TabledBehind seed from count before after (Err status))
      (λ s b on. inl (status, refl, on))

  pub table_behind : (seed from count : ℕ) (before between after : Option (List ℕ)) (gave : Result Table ℕ) (first mid last : Kept K) → between ≡ before
      → Leads tells serves holds passes first mid (PlaysOn seed from count before between (Ok tt))
      → Leads tells serves holds passes mid last (IsTabled between after gave)
      → Leads tells serves holds passes first last (TabledBehind seed from count before after gave)
  table_behind seed from count before between after gave first mid last same =
      leads_then K tells serves holds passes first mid last
      (PlaysOn seed from count before between (Ok tt)) (IsTabled between after gave) (TabledBehind seed from count before after gave)
      (λ s m b on tabled. inr (m, subst (λ x. PlaysOn seed from count before x (Ok tt) s m) same on, subst (λ x. IsTabled x after gave m b) same tabled))

  -- ---- the whole season

  pub corrected_stop : (seed : ℕ) (one : Table) (before after : Option (List ℕ)) (status : ℕ) (first last : Kept K)
      → Leads tells serves holds passes first last (TabledBehind seed 2121 1 before after (Err status))
      → Leads tells serves holds passes first last (IsCorrected seed one before after status)
  corrected_stop seed one before after status first last =
      leads_on K tells serves holds passes first last (TabledBehind seed 2121 1 before after (Err status)) (IsCorrected seed one before after status) (λ s b behind. inl behind)

  pub corrected_end : (seed : ℕ) (one two : Table) (before between after : Option (List ℕ)) (status : ℕ) (first last : Kept K) → between ≡ before
      → PrintsOne (λ text. text ≡ summary_text one.sum two.sum two.entry two.total) 0 status between after
      → Leads tells serves holds passes first last (TabledBehind seed 2121 1 before between (Ok two))
      → Leads tells serves holds passes first last (IsCorrected seed one before after status)
  corrected_end seed one two before between after status first last same prints =
      leads_on K tells serves holds passes first last (TabledBehind seed 2121 1 before between (Ok two)) (IsCorrected seed one before after status)
      (λ s b behind. inr (
        two,
        subst (λ x. TabledBehind seed 2121 1 before x (Ok two) s b) same behind,
        subst (λ x. PrintsOne (λ text. text ≡ summary_text one.sum two.sum two.entry two.total) 0 status x after) same prints,
      ))

  pub season_stop : (seed now : ℕ) (before after : Option (List ℕ)) (status : ℕ) (first last : Kept K) → now ≡ seed
      → Leads tells serves holds passes first last (TabledBehind now 0 2121 before after (Err status))
      → Leads tells serves holds passes first last (IsGenerated seed before after status)
  season_stop seed now before after status first last is =
      leads_on K tells serves holds passes first last (TabledBehind now 0 2121 before after (Err status)) (IsGenerated seed before after status)
      (λ s b behind. inl (subst (λ n. TabledBehind n 0 2121 before after (Err status) s b) is behind))

  pub season_end : (seed now later : ℕ) (table : Table) (before between after : Option (List ℕ)) (status : ℕ) (first mid last : Kept K) → now ≡ seed → later ≡ now → between ≡ before
      → Leads tells serves holds passes first mid (TabledBehind now 0 2121 before between (Ok table))
      → Leads tells serves holds passes mid last (IsCorrected later table between after status)
      → Leads tells serves holds passes first last (IsGenerated seed before after status)
  season_end seed now later table before between after status first mid last is stays same =
      leads_then K tells serves holds passes first mid last
      (TabledBehind now 0 2121 before between (Ok table)) (IsCorrected later table between after status) (IsGenerated seed before after status)
      (λ s m b behind rest. inr (
        table,
        m,
        subst (λ n. TabledBehind n 0 2121 before before (Ok table) s m) is (subst (λ x. TabledBehind now 0 2121 before x (Ok table) s m) same behind),
        subst (λ n. IsCorrected n table before after status m b) (stays ∙ is) (subst (λ x. IsCorrected later table x after status m b) same rest),
      ))
