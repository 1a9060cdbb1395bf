-- Commands that are asked of a host, one after another.
use Rattle.std.proofs.Common.{◌≡◌, ◌+◌, ◌≤◌, ◌⊎◌, ◌∙◌, Bool, true, false, ℕ, List, [], ◌∷◌, length, Option, Some, None, MatchOption, inl, inr, ap, arith, refl, sym, subst}
use Rattle.fpl_base.specs.Causes.{Rose}
use Rattle.fpl_base.specs.Keeping.{Map}
use Rattle.fpl_base.specs.declared.kinds.Caller.TheVariants as caller
use Rattle.season_book.specs.Book.{Book, Last, last_number}
use Rattle.season_book.specs.declared.answer.Answer.{Answer}
use Rattle.season_book.specs.declared.answer.Answer.TheVariants as answer
use Rattle.season_book.specs.declared.command.Command.{Command}
use Rattle.season_book.specs.declared.request.Request.TheVariants as request
use Rattle.season_running.specs.Standing.{HostRows, StandsIn, number_at}
use Rattle.request_handler.specs.Replying.{Served}
use Rattle.request_handler.specs.Kept.{Kept, Leads}
use Rattle.request_handler.proofs.KeptLemmas.{leads_same}
use Rattle.local_requests.proofs.AskingLemmas.{leads_then}
use Rattle.local_requests.specs.Asking.{IsHeard}
use Rattle.local_requests.specs.Printing.{EndsBy, PrintsOne}
use Rattle.fpl_loading.specs.Loading.{IsLoad, LoadsOn, counts_of, loaded_text}
use Rattle.fpl_loading.specs.Notes.{cause_of, no_place, note_passed, place_behind}
use Rattle.fpl_loading.specs.declared.notes.Note.{Note}
use Rattle.fpl_loading.specs.declared.notes.Place.{Place}

-- a count that rose later rose since
pub rose_since : (before between now : ℕ) → before ≤ between → Rose between now → Rose before now
rose_since before between now later rose = omega (arith, later, rose)

none_some : {X : Type 0} (x : X) → None ≡ Some x → ⊥
none_some x is = cc

-- an answer that counts leaves the host as fresh as it was
counts_none : (last number : ℕ) (told : Answer) (counts : ℕ × ℕ) → counts_of last number told ≡ Some counts → (told ≡ answer.Memory) ⊎ (told ≡ answer.Keeper) → ⊥
counts_none last number told counts is (inl memory) = none_some counts (sym (ap (counts_of last number) memory) ∙ is)
counts_none last number told counts is (inr keeper) = none_some counts (sym (ap (counts_of last number) keeper) ∙ is)

pub fresh_behind : (stale : Bool) (last number : ℕ) (told : Answer) (counts : ℕ × ℕ)
    → (stale ≡ true → (told ≡ answer.Memory) ⊎ (told ≡ answer.Keeper)) → counts_of last number told ≡ Some counts → stale ≡ false
fresh_behind false last number told counts out is = refl
fresh_behind true last number told counts out is = absurd (counts_none last number told counts is (out refl))

-- nothing is left of a list of no length
pub nothing_left : {X : Type 0} (xs : List X) → length xs ≡ 0 → xs ≡ []
nothing_left [] h = refl
nothing_left (x ∷ xs) h = absurd (omega arith)

-- the operator's last number is the same by the rows and by the book
pub last_stood : (host : HostRows) (book : Book) (last : ℕ) → last ≡ number_at host.lasts caller.Operator → StandsIn host book → last ≡ last_number book caller.Operator
last_stood host book last is stands = is ∙ sym (ap (λ (lasts : List (ℕ × Last)). number_at lasts caller.Operator) stands.lasts)

-- so many of the commands were asked, the last of them at this place, and these are left: whatever becomes of these is the end
-- of all
abbrev pub On : ℕ → List Command → List Command → ℕ → Place → ℕ → ℕ → Served → Served → Type 0
On last all rest asked place loaded there old mid =
    (before after : Option (List ℕ)) (status : ℕ) (noted : Option Note) (new : Served)
    → LoadsOn last asked place rest loaded there before after status noted mid new → LoadsOn last 0 no_place all 0 0 before after status noted old new

goes_on : (last asked : ℕ) (place : Place) (command : Command) (rest : List Command) (loaded there : ℕ) (before after : Option (List ℕ)) (status : ℕ) (noted : Option Note) (told : Answer) (old mid new : Served) (counts : ℕ × ℕ)
    → IsHeard old caller.Operator (request.Command (asked + 1) command) told mid → counts_of last (asked + 1) told ≡ Some counts
    → LoadsOn last (asked + 1) (place_behind place command) rest (loaded + counts.0) (there + counts.1) before after status noted mid new
    → LoadsOn last asked place (command ∷ rest) loaded there before after status noted old new
goes_on last asked place command rest loaded there before after status noted told old mid new counts heard is more =
    (told, mid, heard, subst (λ (counted : Option (ℕ × ℕ)). MatchOption counted ((new ≡ mid) × (noted ≡ cause_of (place_behind place command) told) × EndsBy told status before after) (λ c. LoadsOn last (asked + 1) (place_behind place command) rest (loaded + c.0) (there + c.1) before after status noted mid new)) (sym is) more)

stops : (last asked : ℕ) (place : Place) (command : Command) (rest : List Command) (loaded there : ℕ) (before after : Option (List ℕ)) (status : ℕ) (told : Answer) (old mid : Served)
    → IsHeard old caller.Operator (request.Command (asked + 1) command) told mid → counts_of last (asked + 1) told ≡ None → EndsBy told status before after
    → LoadsOn last asked place (command ∷ rest) loaded there before after status (cause_of (place_behind place command) told) old mid
stops last asked place command rest loaded there before after status told old mid heard is ends = (
  told,
  mid,
  heard,
  subst (λ (counted : Option (ℕ × ℕ)). MatchOption counted ((mid ≡ mid) × (cause_of (place_behind place command) told ≡ cause_of (place_behind place command) told) × EndsBy told status before after)
      (λ c. LoadsOn last (asked + 1) (place_behind place command) rest (loaded + c.0) (there + c.1) before after status (cause_of (place_behind place command) told) mid mid)) (sym is) (refl, refl, ends),
)

-- what is noted of an answer is noted of an equal one
pub note_is : (noted : Option Note) (here : Place) (other told : Answer) (place : Place) (command : Command)
    → noted ≡ cause_of here other → here ≡ place_behind place command → other ≡ told → noted ≡ cause_of (place_behind place command) told
note_is noted here other told place command is placed same = is ∙ ap (λ (p : Place). cause_of p other) placed ∙ ap (cause_of (place_behind place command)) same

module _ (K : Type 0) (tells serves : K → Type 0) (holds passes : K → Map → Type 0) where
  -- none was asked yet
  pub load_starts : (last : ℕ) (all : List Command) (kept : Kept K) → Leads tells serves holds passes kept kept (On last all all 0 no_place 0 0)
  load_starts last all kept = leads_same K tells serves holds passes kept (On last all all 0 no_place 0 0) (λ served before after status noted new on. on)

  -- one more was asked, and it counts
  pub load_goes : (last : ℕ) (all left rest : List Command) (asked : ℕ) (place : Place) (stands : Place) (command : Command) (loaded there : ℕ) (told : Answer) (counts : ℕ × ℕ) (first mid next : Kept K)
      → left ≡ command ∷ rest → stands ≡ place_behind place command
      → Leads tells serves holds passes first mid (On last all left asked place loaded there)
      → Leads tells serves holds passes mid next (λ served behind. IsHeard served caller.Operator (request.Command (asked + 1) command) told behind)
      → counts_of last (asked + 1) told ≡ Some counts
      → Leads tells serves holds passes first next (On last all rest (asked + 1) stands (loaded + counts.0) (there + counts.1))
  load_goes last all left rest asked place stands command loaded there told counts first mid next is placed here heard counted =
      subst (λ (p : Place). Leads tells serves holds passes first next (On last all rest (asked + 1) p (loaded + counts.0) (there + counts.1))) (sym placed) (leads_then K tells serves holds passes first mid next (On last all (command ∷ rest) asked place loaded there)
      (λ served behind. IsHeard served caller.Operator (request.Command (asked + 1) command) told behind)
      (On last all rest (asked + 1) (place_behind place command) (loaded + counts.0) (there + counts.1))
      (λ s m b on one before after status noted new more. on before after status noted new
      (goes_on last asked place command rest loaded there before after status noted told m b new counts one counted more))
      (subst (λ (xs : List Command). Leads tells serves holds passes first mid (On last all xs asked place loaded there)) is here) heard)

  -- one more was asked, and it ends the load
  pub load_stops : (last : ℕ) (all left rest : List Command) (asked : ℕ) (place : Place) (command : Command) (loaded there : ℕ) (told : Answer) (first mid next : Kept K)
      (before after : Option (List ℕ)) (status : ℕ) (noted : Option Note)
      → left ≡ command ∷ rest → noted ≡ cause_of (place_behind place command) told
      → Leads tells serves holds passes first mid (On last all left asked place loaded there)
      → Leads tells serves holds passes mid next (λ served behind. IsHeard served caller.Operator (request.Command (asked + 1) command) told behind)
      → counts_of last (asked + 1) told ≡ None → EndsBy told status before after
      → Leads tells serves holds passes first next (LoadsOn last 0 no_place all 0 0 before after status noted)
  load_stops last all left rest asked place command loaded there told first mid next before after status noted is cause here heard counted ends =
      subst (λ (n : Option Note). Leads tells serves holds passes first next (LoadsOn last 0 no_place all 0 0 before after status n)) (sym cause) (leads_then K tells serves holds passes first mid next (On last all (command ∷ rest) asked place loaded there)
      (λ served behind. IsHeard served caller.Operator (request.Command (asked + 1) command) told behind)
      (LoadsOn last 0 no_place all 0 0 before after status (cause_of (place_behind place command) told))
      (λ s m b on one. on before after status (cause_of (place_behind place command) told) b
      (stops last asked place command rest loaded there before after status told m b one counted ends))
      (subst (λ (xs : List Command). Leads tells serves holds passes first mid (On last all xs asked place loaded there)) is here) heard)

  -- all were
  pub load_ends : (last : ℕ) (all left : List Command) (asked : ℕ) (place : Place) (loaded there : ℕ) (first mid : Kept K) (before after : Option (List ℕ)) (status : ℕ) (noted : Option Note)
      → left ≡ [] → noted ≡ note_passed last asked
      → Leads tells serves holds passes first mid (On last all left asked place loaded there)
      → PrintsOne (λ text. text ≡ loaded_text loaded there) 0 status before after
      → Leads tells serves holds passes first mid (LoadsOn last 0 no_place all 0 0 before after status noted)
  load_ends last all left asked place loaded there first mid before after status noted is passed here printed =
      leads_then K tells serves holds passes first mid mid (On last all [] asked place loaded there) (λ s b. b ≡ s) (LoadsOn last 0 no_place all 0 0 before after status noted)
      (λ s m b on same. on before after status noted b (same, passed, printed))
      (subst (λ (xs : List Command). Leads tells serves holds passes first mid (On last all xs asked place loaded there)) is here)
      (leads_same K tells serves holds passes mid (λ s b. b ≡ s) (λ served. refl))

  -- nothing was written before, and the last number is that of each book for which the host stood
  pub load_is : (last : ℕ) (all commands : List Command) (first mid : Kept K) (start before after : Option (List ℕ)) (status : ℕ) (noted : Option Note)
      → last ≡ number_at first.host.rows.lasts caller.Operator → first.host.stale ≡ false → all ≡ commands → before ≡ start
      → Leads tells serves holds passes first mid (LoadsOn last 0 no_place all 0 0 before after status noted)
      → Leads tells serves holds passes first mid (IsLoad commands start after status noted)
  load_is last all commands first mid start before after status noted is fresh same unwritten leads = record {
    by_rows = λ served stands. let a = leads.by_rows served stands in (a.0, a.1, by_book served a.0 (stands.rows fresh) a.2);
    by_stops = λ tell served stands. let a = leads.by_stops tell served stands in (a.0, a.1, by_book served a.0 (stands.by_rows.rows fresh) a.2);
    by_records = λ tell serve served stands. let a = leads.by_records tell serve served stands in (a.0, a.1, by_book served a.0 (stands.backs.stands fresh) a.2);
    reread = leads.reread;
    told = leads.told;
    served = leads.served;
  }
    where
      by_book : (served behind : Served) → StandsIn first.host.rows served.host.book → LoadsOn last 0 no_place all 0 0 before after status noted served behind → IsLoad commands start after status noted served behind
      by_book served behind stands load =
          subst (λ (n : ℕ). LoadsOn n 0 no_place commands 0 0 start after status noted served behind) (last_stood first.host.rows served.host.book last is stands)
          (subst (λ (taken : Option (List ℕ)). LoadsOn last 0 no_place commands 0 0 taken after status noted served behind) unwritten
          (subst (λ (xs : List Command). LoadsOn last 0 no_place xs 0 0 before after status noted served behind) same load))
