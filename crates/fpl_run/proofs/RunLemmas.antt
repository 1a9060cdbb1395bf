-- How a run ends, from how its one write ended; and that what is due is one thing.
use Rattle.std.proofs.Common.{◌≡◌, ◌∙◌, ℕ, List, Option, Some, None, Result, IfSome, ap, subst, sym, arith, inl, inr, ◌⊎◌, refl}
use Rattle.local_requests.specs.Printing.{Prints}
use Rattle.fpl_base.specs.declared.kinds.Profile.{Profile}
use Rattle.score_sheet.specs.Laws.{OneText, TextOrWrongRow, OneWrongRow}
use Rattle.std.specs.Io.KnownBytes.{Keeps}
use Rattle.fpl_base.specs.Keeping.{Map}
use Rattle.fpl_base.specs.declared.outside.ShelfFault.{ShelfFault}
use Rattle.command_line.specs.declared.words.Words.{Words}
use Rattle.command_line.specs.declared.words.Words.TheVariants as order
use Rattle.season_opening.specs.declared.loading.OpenFault.TheVariants as fault
use Rattle.fpl_loading.specs.declared.files.LoadFault.TheVariants as load_fault
use Rattle.fpl_run.proofs.PipeLemmas.{holds_still}
use Rattle.fpl_run.proofs.Taken.{none_taken}
use Rattle.fpl_run.specs.Run.{Ends, IsNotReadDue, IsScoreDue, IsUnread, LeavesHost, LeavesInput, Outside, RunsAs, not_read_text}
use Rattle.local_requests.specs.RowFaults.{row_text}

-- one write of the text for words that are no command
pub not_read_ends : (status : ℕ) (before after : Option (List ℕ)) (text : List ℕ) → text ≡ not_read_text → Prints text 2 status before after → Ends IsNotReadDue status before after
not_read_ends status before after text is (inl whole) = inl (text, (whole.0, is), whole.1)
not_read_ends status before after text is (inr front) = inr (inl (front.0, (2, text, (refl, is), front.1)))

pub unread_statuses : (status : ℕ) → (status ≡ 2) ⊎ (status ≡ 3) → (status ≡ 2) ⊎ (status ≡ 3) ⊎ (status ≡ 6)
unread_statuses status (inl unread) = inl unread
unread_statuses status (inr failed) = inr (inl failed)

-- two things are due at most once
pub one_due : (texts : OneText) (apart : TextOrWrongRow) (rows : OneWrongRow) (profile : Profile) (bytes : List ℕ) (s t : ℕ) (x y : List ℕ)
    → IsScoreDue profile bytes s x → IsScoreDue profile bytes t y → (s ≡ t) × (x ≡ y)
one_due texts apart rows profile bytes s t x y (inl p) (inl q) = (p.0 ∙ sym q.0, texts profile bytes x y p.2 q.2)
one_due texts apart rows profile bytes s t x y (inl p) (inr (inl q)) = absurd (apart profile bytes x q.2.0 p.2 q.2.1)
one_due texts apart rows profile bytes s t x y (inl p) (inr (inr q)) = absurd (omega (arith, p.1, q.1))
one_due texts apart rows profile bytes s t x y (inr (inl p)) (inl q) = absurd (apart profile bytes y p.2.0 q.2 p.2.1)
one_due texts apart rows profile bytes s t x y (inr (inl p)) (inr (inl q)) = (p.0 ∙ sym q.0, p.2.2 ∙ ap row_text (rows bytes p.2.0 q.2.0 p.2.1 q.2.1) ∙ sym q.2.2)
one_due texts apart rows profile bytes s t x y (inr (inl p)) (inr (inr q)) = absurd (omega (arith, p.1, q.1))
one_due texts apart rows profile bytes s t x y (inr (inr p)) (inl q) = absurd (omega (arith, p.1, q.1))
one_due texts apart rows profile bytes s t x y (inr (inr p)) (inr (inl q)) = absurd (omega (arith, p.1, q.1))
one_due texts apart rows profile bytes s t x y (inr (inr p)) (inr (inr q)) = (p.0 ∙ sym q.0, p.2 ∙ sym q.2)

-- the words order this, and it was done
pub runs_as : (K F : Type 0) (tells serves : K → Type 0) (holds passes : K → Map → Type 0) (faults : K → ℕ) (once : F → List ℕ → Result (List ℕ) ShelfFault → F → Type 0) (said : Option Words) (one : Words) (old new : Outside K F) (status : ℕ)
    → said ≡ Some one → RunsAs tells serves holds passes faults once (Some one) old new status → RunsAs tells serves holds passes faults once said old new status
runs_as K F tells serves holds passes faults once said one old new status is runs =
    subst (λ (o : Option Words). RunsAs tells serves holds passes faults once o old new status) (sym is) runs

pub runs_none : (K F : Type 0) (tells serves : K → Type 0) (holds passes : K → Map → Type 0) (faults : K → ℕ) (once : F → List ℕ → Result (List ℕ) ShelfFault → F → Type 0) (said : Option Words) (old new : Outside K F) (status : ℕ)
    → said ≡ None → IsUnread old.taken new.taken status × LeavesInput old new × LeavesHost old new → RunsAs tells serves holds passes faults once said old new status
runs_none K F tells serves holds passes faults once said old new status is runs =
    subst (λ (o : Option Words). RunsAs tells serves holds passes faults once o old new status) (sym is) runs

kept_none : (taken : Option (List ℕ)) → Keeps taken taken
kept_none None = tt
kept_none (Some bytes) = refl

out_of_memory : (Due : ℕ → List ℕ → Type 0) (taken : Option (List ℕ)) → Ends Due 6 taken taken
out_of_memory due taken = inr (inr (inr refl, kept_none taken))

score_out : (profile : Profile) (left taken : Option (List ℕ)) → IfSome left (λ bytes. Ends (IsScoreDue profile bytes) 6 taken taken)
score_out profile None taken = tt
score_out profile (Some bytes) taken = out_of_memory (IsScoreDue profile bytes) taken

-- there was no memory to read the words, and nothing was done
pub no_memory : (K F : Type 0) (tells serves : K → Type 0) (holds passes : K → Map → Type 0) (faults : K → ℕ) (once : F → List ℕ → Result (List ℕ) ShelfFault → F → Type 0) (said : Option Words) (old : Outside K F)
    → RunsAs tells serves holds passes faults once said old old 6
no_memory K F tells serves holds passes faults once None old = ((out_of_memory IsNotReadDue old.taken, inr (inr refl)), refl, (refl, refl, refl, refl, refl))
no_memory K F tells serves holds passes faults once (Some (order.Score profile)) old = (
  record {
    due = score_out profile old.left old.taken;
    end = λ is. absurd (omega (arith, is));
    taken = none_taken 65537 old.left;
    statuses = inr (inr (inr (inl refl)));
    memory = λ _. kept_none old.taken;
  },
  (refl, refl, refl, refl, refl),
)
no_memory K F tells serves holds passes faults once (Some (order.Pipe key store)) old = (inr (refl, refl, (fault.Memory, refl, holds_still K tells serves holds passes old.keeper, (refl, refl))), inr refl, refl, refl)
no_memory K F tells serves holds passes faults once (Some (order.Serve key port clients count pages store)) old = (inr (refl, refl, (fault.Memory, refl, holds_still K tells serves holds passes old.keeper, (refl, refl))), inr refl, refl, refl)
no_memory K F tells serves holds passes faults once (Some (order.Load key store folder split profile more)) old = ((None, inl (load_fault.Memory, tt, (1, inl refl), (refl, refl), refl, refl, refl), refl), refl, refl)
no_memory K F tells serves holds passes faults once (Some (order.Report key store shown)) old = (inr (refl, (fault.Memory, refl, holds_still K tells serves holds passes old.keeper, (refl, refl))), refl, refl, refl)
no_memory K F tells serves holds passes faults once (Some (order.Generate seed store)) old = (inr (refl, (fault.Memory, refl, holds_still K tells serves holds passes old.keeper, (refl, refl))), refl, refl, refl, refl)
no_memory K F tells serves holds passes faults once (Some (order.Dream key store gameweek)) old = (inr (refl, (fault.Memory, refl, holds_still K tells serves holds passes old.keeper, (refl, refl))), refl, refl, refl)
no_memory K F tells serves holds passes faults once (Some (order.Events key store fixture minutes)) old = (inr (inr (inr refl), refl, refl, refl), refl, refl)
no_memory K F tells serves holds passes faults once (Some (order.Draft key store members)) old = (inr (inr (inr refl), refl, refl, refl), refl, refl)
