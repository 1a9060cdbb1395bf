-- Rows that are done one after another.
use Rattle.std.proofs.Common.{◌≡◌, ◌+◌, ◌<◌, ◌≤◌, ◌⊎◌, ◌∙◌, Bool, true, false, ℕ, List, [], ◌∷◌, length, drop, get_or, Option, Some, None, MatchOption, inl, inr, ap, arith, refl, sym, subst}
use Rattle.std.specs.Prelude.{Ok, Err, OnOk, Result}
use Rattle.std.proofs.lemmas.List.{drop_more}
use Rattle.fpl_base.specs.Causes.{Rose}
use Rattle.fpl_base.specs.Keeping.{Map}
use Rattle.fpl_base.specs.declared.kinds.Caller.TheVariants as caller
use Rattle.fpl_base.specs.declared.kinds.Position.{Position}
use Rattle.season_book.specs.declared.answer.Answer.{Answer}
use Rattle.season_book.specs.declared.answer.Answer.TheVariants as answer
use Rattle.season_book.specs.declared.request.Request.{Request}
use Rattle.season_book.specs.declared.request.Request.TheVariants as request
use Rattle.season_book.specs.declared.request.View.TheVariants as view
use Rattle.request_handler.specs.Replying.{Served}
use Rattle.request_handler.specs.Kept.{Kept, Leads}
use Rattle.request_handler.proofs.KeptLemmas.{leads_on, leads_same}
use Rattle.local_requests.proofs.AskingLemmas.{leads_then}
use Rattle.local_requests.specs.Asking.{IsHeard}
use Rattle.local_requests.specs.Printing.{EndsBy}
use Rattle.draft_league.specs.Leagues.{League}
use Rattle.draft_league.specs.Rules.{IsJudged}
use Rattle.draft_league.specs.declared.rule.DraftRefused.{DraftRefused}
use Rattle.draft_league.specs.declared.rule.DraftRefused.TheVariants as refused
use Rattle.fpl_drafting.specs.declared.row.DraftRow.{DraftRow}
use Rattle.fpl_drafting.specs.Steps.{DoesAs, IsDone, IsStep, StepsOn, StopsBy, asked_of, position_in, refusal_of}

-- a count that rose later rose since
pub rose_since : (before between now : ℕ) → before ≤ between → Rose between now → Rose before now
rose_since before between now later rose = omega (arith, later, rose)

-- a count rose from what is the same
pub rose_from : {X : Type 0} (faults : X → ℕ) (here there : X) (now : ℕ) → here ≡ there → Rose (faults here) now → Rose (faults there) now
rose_from {X = X} faults here there now same rose = subst (λ (x : X). Rose (faults x) now) same rose

-- what stands at a place, and what stands behind it
pub next_of : {X : Type 0} (xs : List X) (i : ℕ) (x : X) → i < length xs → x ≡ get_or xs i x → drop i xs ≡ x ∷ drop (i + 1) xs
next_of xs i x here is = drop_more xs i x here ∙ ap (λ y. y ∷ drop (i + 1) xs) (sym is)

-- what holds anyway holds where something went well
pub then_ok : {X E P : Type 0} (gave : Result X E) → P → OnOk gave P
then_ok (Ok x) holds = holds
then_ok (Err e) holds = tt

none_some : {X : Type 0} (x : X) → None ≡ Some x → ⊥
none_some x is = cc

-- behind an answer that shows something the host is as fresh as it was
pub fresh_shown : {X : Type 0} (read : Answer → Option X) (stale : Bool) (told : Answer) (x : X) → read answer.Memory ≡ None → read answer.Keeper ≡ None
    → (stale ≡ true → (told ≡ answer.Memory) ⊎ (told ≡ answer.Keeper)) → read told ≡ Some x → stale ≡ false
fresh_shown read false told x memory keeper out is = refl
fresh_shown read true told x memory keeper out is = absurd (go (out refl))
  where
    go : (told ≡ answer.Memory) ⊎ (told ≡ answer.Keeper) → ⊥
    go (inl e) = none_some x (sym memory ∙ sym (ap read e) ∙ is)
    go (inr e) = none_some x (sym keeper ∙ sym (ap read e) ∙ is)

abbrev ended : ℕ → Result League ℕ
ended status = Err status

-- a row that is refused ends the command
abbrev judged_as : DraftRefused → Result (Unit {0}) DraftRefused
judged_as why = Err why

pub refused_as : (number : ℕ) (row : DraftRow) (position : Position) (league : League) (why : DraftRefused) (status : ℕ) (before after : Option (List ℕ))
    → IsJudged (refusal_of row position league) (judged_as why) → StopsBy number why status before after → IsDone number row position league before after (Err status)
refused_as number row position league (refused.Rule rule) status before after judged stops = inr (inl (rule, status, judged, refl, stops))
refused_as number row position league refused.Memory status before after judged stops = inr (inr (ap ended stops.0, stops.1))

-- some rows were done, and these are left, the first of them with this number: whatever becomes of these is the end of all
abbrev pub IsUnderway : List DraftRow → League → Option (List ℕ) → ℕ → List DraftRow → League → Served → Served → Type 0
IsUnderway rows start before number left league old mid =
    (after : Option (List ℕ)) (gave : Result League ℕ) (new : Served) → StepsOn number left league before after gave mid new → StepsOn 1 rows start before after gave old new

-- a row, by whom it asks
abbrev Steps : ℕ → DraftRow → League → Option (List ℕ) → Option (List ℕ) → Result League ℕ → Served → Served → Option ℕ → Type 0
Steps number row league before after gave old new o =
    MatchOption o ((position : Position) × IsDone number row position league before after gave × (new ≡ old))
    (λ player. (told : Answer) × IsHeard old caller.Operator (request.View (view.Player player)) told new × DoesAs told number row league before after gave)

asks_none : (number : ℕ) (row : DraftRow) (position : Position) (league : League) (before after : Option (List ℕ)) (gave : Result League ℕ) (served : Served)
    → asked_of row ≡ None → IsDone number row position league before after gave → IsStep number row league before after gave served served
asks_none number row position league before after gave served none done =
    subst (λ (o : Option ℕ). Steps number row league before after gave served served o) (sym none) (position, done, refl)

asks_one : (number : ℕ) (row : DraftRow) (player : ℕ) (told : Answer) (league : League) (before after : Option (List ℕ)) (gave : Result League ℕ) (old new : Served)
    → asked_of row ≡ Some player → IsHeard old caller.Operator (request.View (view.Player player)) told new → DoesAs told number row league before after gave
    → IsStep number row league before after gave old new
asks_one number row player told league before after gave old new one heard does =
    subst (λ (o : Option ℕ). Steps number row league before after gave old new o) (sym one) (told, heard, does)

-- what becomes of a row, by the position that is told
abbrev Does : Answer → ℕ → DraftRow → League → Option (List ℕ) → Option (List ℕ) → Result League ℕ → Option Position → Type 0
Does told number row league before after gave o =
    MatchOption o ((status : ℕ) × (gave ≡ Err status) × EndsBy told status before after) (λ position. IsDone number row position league before after gave)

pub does_by : (told : Answer) (position : Position) (number : ℕ) (row : DraftRow) (league : League) (before after : Option (List ℕ)) (gave : Result League ℕ)
    → position_in told ≡ Some position → IsDone number row position league before after gave → DoesAs told number row league before after gave
does_by told position number row league before after gave shows done = subst (λ (o : Option Position). Does told number row league before after gave o) (sym shows) done

pub ends_by : (told : Answer) (number : ℕ) (row : DraftRow) (league : League) (before after : Option (List ℕ)) (status : ℕ)
    → position_in told ≡ None → EndsBy told status before after → DoesAs told number row league before after (Err status)
ends_by told number row league before after status none ends = subst (λ (o : Option Position). Does told number row league before after (ended status) o) (sym none) (status, refl, ends)

module _ (K : Type 0) (tells serves : K → Type 0) (holds passes : K → Map → Type 0) where
  -- a row that asks nobody
  pub step_alone : (number : ℕ) (row : DraftRow) (position : Position) (league : League) (before after : Option (List ℕ)) (gave : Result League ℕ) (kept : Kept K)
      → asked_of row ≡ None → IsDone number row position league before after gave
      → Leads tells serves holds passes kept kept (IsStep number row league before after gave)
  step_alone number row position league before after gave kept none done =
      leads_same K tells serves holds passes kept (IsStep number row league before after gave) (λ served. asks_none number row position league before after gave served none done)

  -- a row that asks for a player
  pub step_heard : (number : ℕ) (row : DraftRow) (player : ℕ) (asked : Request) (told : Answer) (league : League) (before after : Option (List ℕ)) (gave : Result League ℕ) (first last : Kept K)
      → asked ≡ request.View (view.Player player) → asked_of row ≡ Some player
      → Leads tells serves holds passes first last (λ served behind. IsHeard served caller.Operator asked told behind)
      → DoesAs told number row league before after gave
      → Leads tells serves holds passes first last (IsStep number row league before after gave)
  step_heard number row player asked told league before after gave first last is one heard does =
      leads_on K tells serves holds passes first last
      (λ served behind. IsHeard served caller.Operator asked told behind) (IsStep number row league before after gave)
      (λ s b hears. asks_one number row player told league before after gave s b one (subst (λ (r : Request). IsHeard s caller.Operator r told b) is hears) does) heard

  -- none was done yet
  pub underway_start : (rows left : List DraftRow) (league : League) (before : Option (List ℕ)) (kept : Kept K) → left ≡ rows
      → Leads tells serves holds passes kept kept (IsUnderway rows league before 1 left league)
  underway_start rows left league before kept is =
      leads_same K tells serves holds passes kept (IsUnderway rows league before 1 left league)
      (λ served after gave new on. subst (λ (xs : List DraftRow). StepsOn 1 xs league before after gave served new) is on)

  -- one more was
  pub underway_more : (rows left rest : List DraftRow) (start league next : League) (number : ℕ) (row : DraftRow) (before here there : Option (List ℕ)) (first mid last : Kept K)
      → left ≡ row ∷ rest → here ≡ before → there ≡ before
      → Leads tells serves holds passes first mid (IsUnderway rows start before number left league)
      → Leads tells serves holds passes mid last (IsStep number row league here there (Ok next))
      → Leads tells serves holds passes first last (IsUnderway rows start before (number + 1) rest next)
  underway_more rows left rest start league next number row before here there first mid last is same still =
      leads_then K tells serves holds passes first mid last
      (IsUnderway rows start before number left league) (IsStep number row league here there (Ok next)) (IsUnderway rows start before (number + 1) rest next)
      (λ s m b on done after gave new more. on after gave new
      (subst (λ (xs : List DraftRow). StepsOn number xs league before after gave m new) (sym is)
      (inr (
        next,
        b,
        subst (λ (x : Option (List ℕ)). IsStep number row league x before (Ok next) m b) same
            (subst (λ (x : Option (List ℕ)). IsStep number row league here x (Ok next) m b) still done),
        more,
      ))))

  -- one more was, which ends the command
  pub underway_stop : (rows left rest : List DraftRow) (start league : League) (number status : ℕ) (row : DraftRow) (before here after : Option (List ℕ)) (first mid last : Kept K)
      → left ≡ row ∷ rest → here ≡ before
      → Leads tells serves holds passes first mid (IsUnderway rows start before number left league)
      → Leads tells serves holds passes mid last (IsStep number row league here after (Err status))
      → Leads tells serves holds passes first last (StepsOn 1 rows start before after (Err status))
  underway_stop rows left rest start league number status row before here after first mid last is same =
      leads_then K tells serves holds passes first mid last
      (IsUnderway rows start before number left league) (IsStep number row league here after (Err status)) (StepsOn 1 rows start before after (Err status))
      (λ s m b on done. on after (Err status) b
      (subst (λ (xs : List DraftRow). StepsOn number xs league before after (ended status) m b) (sym is)
      (inl (status, refl, subst (λ (x : Option (List ℕ)). IsStep number row league x after (ended status) m b) same done))))

  -- all were
  pub underway_end : (rows left : List DraftRow) (start league : League) (number : ℕ) (before here : Option (List ℕ)) (first last : Kept K)
      → left ≡ [] → here ≡ before
      → Leads tells serves holds passes first last (IsUnderway rows start before number left league)
      → Leads tells serves holds passes first last (StepsOn 1 rows start before here (Ok league))
  underway_end rows left start league number before here first last is same =
      leads_on K tells serves holds passes first last
      (IsUnderway rows start before number left league) (StepsOn 1 rows start before here (Ok league))
      (λ s b on. on here (Ok league) b (subst (λ (xs : List DraftRow). StepsOn number xs league before here (Ok league) b b) (sym is) (refl, same, refl)))
