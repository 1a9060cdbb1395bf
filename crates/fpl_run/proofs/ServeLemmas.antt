-- Connections that are served one after another.
use Rattle.std.proofs.Common.{◌≡◌, ◌≢◌, ◌∙◌, ◌<◌, ◌≤◌, ℕ, zero, suc, List, length, Option, Some, None, IfSome, MatchOption, inl, inr, refl, sym, subst, arith, length-drop}
use Rattle.std.specs.Prelude.{Ok, Err}
use Rattle.fpl_base.specs.Causes.{Rose}
use Rattle.fpl_base.specs.Doors.{GivesBack, Opens}
use Rattle.fpl_base.specs.Keeping.{Map}
use Rattle.fpl_http.specs.Stream.{Request}
use Rattle.fpl_http.specs.Sessions.{EndsAs}
use Rattle.fpl_http.specs.declared.ending.Ending.{Ending}
use Rattle.fpl_http.specs.declared.ending.Ending.TheVariants as ends
use Rattle.request_handler.specs.Kept.{Kept, LeadsAll}
use Rattle.request_handler.specs.Replying.{IsReplyUntil, Served}
use Rattle.request_handler.specs.Whole.{IsKeptReply}
use Rattle.fpl_run.specs.Pipe.{IsSession}
use Rattle.fpl_run.specs.Serve.{DoorState, IsAskedOnce, IsVisit, OneFewer, ServesOn}
use Rattle.fpl_run.proofs.CourseLemmas.{leads_all_on, leads_all_then}

-- ---- one connection

rose_some : (before after : ℕ) → before ≡ 0 → Rose before after → 0 < after
rose_some before after is rose = omega (arith, is, rose)

-- ---- those that are still to come

-- one fewer is left, and doors that tell none never do
pub remain_more : {Law : Type 0} (before after : Option (List (List ℕ))) (left count : ℕ) → left ≡ suc count → (Law → after ≡ None) → OneFewer before after
    → MatchOption before Law (λ all. left ≤ length all) → MatchOption after Law (λ all. count ≤ length all)
remain_more {Law = Law} None after left count is law fewer remain = subst (λ more. MatchOption more Law (λ all. count ≤ length all)) (sym (law remain)) remain
remain_more {Law = Law} (Some all) after left count is law fewer remain =
    subst (λ more. MatchOption more Law (λ all. count ≤ length all)) (sym fewer) (omega (arith, is, remain, length-drop 1 all))

-- ---- by each of the three

module _ (K : Type 0) (tells serves : K → Type 0) (holds passes : K → Map → Type 0) where
  -- a session with what a door opened, which was given back
  pub one_visit : (first last : Kept K) (before middle after : DoorState) (left now fresh taken : Option (List ℕ)) (reads writes read written : ℕ) (ending : Ending)
      → Opens before.coming middle.coming left fresh → middle.given_back ≡ before.given_back → middle.faults ≡ before.faults
      → after.coming ≡ middle.coming → GivesBack middle.given_back after.given_back (record { left = now; taken = taken; read_faults = read; write_faults = written })
      → after.faults ≡ middle.faults → reads ≡ 0 → writes ≡ 0
      → LeadsAll tells serves holds passes first last (IsSession IsReplyUntil left now fresh taken ending) (IsSession IsKeptReply left now fresh taken ending)
      → IfSome left (λ all. EndsAs all ending) → (ending ≡ ends.Read → Rose reads read) → (ending ≡ ends.Write → Rose writes written)
      → LeadsAll tells serves holds passes first last (IsAskedOnce IsReplyUntil before after (Ok ending)) (IsAskedOnce IsKeptReply before after (Ok ending))
  one_visit first last before middle after left now fresh taken reads writes read written ending opens back faults coming gives same no_reads no_writes leads exact reading writing =
      leads_all_on K tells serves holds passes first last _ _ _ _ (λ s b session. visit (Option Served) IsReplyUntil s b session) (λ s b session. visit Served IsKeptReply s b session) leads
    where
      visit : (S : Type 0) (answers : S → Request → ℕ × List ℕ → S → Type 0) (s b : S) → IsSession answers left now fresh taken ending s b → IsVisit answers before after s b ending
      visit S answers s b session = record {
        left = left;
        fresh = fresh;
        back = record { left = now; taken = taken; read_faults = read; write_faults = written };
        opens = subst (λ more. Opens before.coming more left fresh) (sym coming) opens;
        gives = subst (λ all. GivesBack all after.given_back (record { left = now; taken = taken; read_faults = read; write_faults = written })) back gives;
        faults = same ∙ faults;
        session = session;
        exact = exact;
        read = λ is. rose_some reads read no_reads (reading is);
        write = λ is. rose_some writes written no_writes (writing is);
      }

  -- some of the connections were served, and so many are left: whatever becomes of these is the end of all
  abbrev On : (S : Type 0) → (S → Request → ℕ × List ℕ → S → Type 0) → ℕ → ℕ → DoorState → DoorState → S → S → Type 0
  On S answers count whole before between old mid =
      (after : DoorState) (new : S) (status : ℕ) → ServesOn answers count between after status mid new → ServesOn answers whole before after status old new

  pub record Underway (count whole : ℕ) (first last : Kept K) (before between : DoorState) : Type 0 where
    pub on : LeadsAll tells serves holds passes first last (On (Option Served) IsReplyUntil count whole before between) (On Served IsKeptReply count whole before between)
    pub faults : between.faults ≡ before.faults

  step_on : (count whole : ℕ) (first mid last : Kept K) (before between after : DoorState) (ending : Ending)
      → Underway (suc count) whole first mid before between → ending ≢ ends.Memory
      → LeadsAll tells serves holds passes mid last (IsAskedOnce IsReplyUntil between after (Ok ending)) (IsAskedOnce IsKeptReply between after (Ok ending))
      → after.faults ≡ between.faults → Underway count whole first last before after
  step_on count whole first mid last before between after ending underway fits leads same = record {
    on = leads_all_then K tells serves holds passes first mid last _ _ _ _ _ _
        (λ s m b on visit final new status rest. on final new status (inr (inr (ending, after, b, fits, visit, rest))))
        (λ s m b on visit final new status rest. on final new status (inr (inr (ending, after, b, fits, visit, rest))))
        underway.on leads;
    faults = same ∙ underway.faults;
  }

  -- what is left goes down by one
  pub underway_more : (left count whole : ℕ) (first mid last : Kept K) (before between after : DoorState) (ending : Ending)
      → left ≡ suc count → Underway left whole first mid before between → ending ≢ ends.Memory
      → LeadsAll tells serves holds passes mid last (IsAskedOnce IsReplyUntil between after (Ok ending)) (IsAskedOnce IsKeptReply between after (Ok ending))
      → after.faults ≡ between.faults → Underway count whole first last before after
  underway_more left count whole first mid last before between after ending is underway =
      step_on count whole first mid last before between after ending (subst (λ n. Underway n whole first mid before between) is underway)

  -- all were served
  pub underway_end : (count whole : ℕ) (first last : Kept K) (before after : DoorState) → Underway count whole first last before after → count ≡ 0
      → LeadsAll tells serves holds passes first last (ServesOn IsReplyUntil whole before after 0) (ServesOn IsKeptReply whole before after 0)
  underway_end zero whole first last before after underway none =
      leads_all_on K tells serves holds passes first last _ _ _ _ (λ s b on. on after b 0 (refl, refl, refl)) (λ s b on. on after b 0 (refl, refl, refl)) underway.on
  underway_end (suc count) whole first last before after underway none = absurd (omega (arith, none))

  -- there was no memory for a session
  pub underway_stop : (left count whole : ℕ) (first mid last : Kept K) (before between after : DoorState) → left ≡ suc count → Underway left whole first mid before between
      → LeadsAll tells serves holds passes mid last (IsAskedOnce IsReplyUntil between after (Ok ends.Memory)) (IsAskedOnce IsKeptReply between after (Ok ends.Memory))
      → LeadsAll tells serves holds passes first last (ServesOn IsReplyUntil whole before after 6) (ServesOn IsKeptReply whole before after 6)
  underway_stop left count whole first mid last before between after is underway leads =
      let here = subst (λ n. Underway n whole first mid before between) is underway in
      leads_all_then K tells serves holds passes first mid last _ _ _ _ _ _
      (λ s m b on visit. on after b 6 (inr (inl (refl, visit)))) (λ s m b on visit. on after b 6 (inr (inl (refl, visit)))) here.on leads

  -- the doors failed
  pub underway_fail : (left count whole : ℕ) (first mid last : Kept K) (before between after : DoorState) → left ≡ suc count → Underway left whole first mid before between
      → LeadsAll tells serves holds passes mid last (IsAskedOnce IsReplyUntil between after (Err (record {}))) (IsAskedOnce IsKeptReply between after (Err (record {})))
      → LeadsAll tells serves holds passes first last (ServesOn IsReplyUntil whole before after 8) (ServesOn IsKeptReply whole before after 8)
  underway_fail left count whole first mid last before between after is underway leads =
      let here = subst (λ n. Underway n whole first mid before between) is underway in
      leads_all_then K tells serves holds passes first mid last _ _ _ _ _ _
      (λ s m b on asked. on after b 8 (inl (refl, asked.0, asked.1))) (λ s m b on asked. on after b 8 (inl (refl, asked.0, asked.1))) here.on leads
