-- From a command that was done and kept to what may be answered.
use Rattle.std.proofs.Common.{◌≡◌, ℕ, Bool, true, false, if◌then◌else◌, ◌&&◌, nat_le, length, List, Option, Some, None, sym, ap, subst, ◌∙◌, inl, inr}
use Rattle.std.specs.Prelude.{Result, Ok, Err, IfErr, IsOk, is_some}
use Rattle.std.proofs.lemmas.Bool.{false≢true}
use Rattle.std.proofs.lemmas.Option.{none-some, same_Some}
use Rattle.std.specs.Option.{option_map, option_map_or}
use Rattle.fpl_base.specs.declared.kinds.Caller.{Caller}
use Rattle.fpl_base.specs.declared.kinds.Position.{Position}
use Rattle.fpl_base.specs.declared.rule.Rule.{Rule}
use Rattle.fpl_base.specs.declared.rule.Rule.TheVariants as rule
use Rattle.rule_book.specs.declared.cup.Bracket.{Bracket}
use Rattle.rule_book.specs.Leagues.{LeagueFacts}
use Rattle.manager_book.specs.declared.manager.Manager.{Manager}
use Rattle.manager_book.specs.Managers.{managers_had}
use Rattle.season_book.specs.Book.{Book, Facts, last_number}
use Rattle.season_book.specs.declared.command.Command.{Command}
use Rattle.season_book.specs.declared.made.Made.{Made}
use Rattle.season_book.specs.Commands.{are_there, changed_by, has_player, refusal_of}
use Rattle.season_book.specs.Doing.{IsGrant, IsGranted, IsGrantedIn, IsOutLate, IsRefused, IsStoreless, MayAnswerIn}
use Rattle.season_book.specs.EntryCommands.{names_players}
use Rattle.season_book.specs.KeyCommands.{rekey_refusal}
use Rattle.season_book.specs.LeagueCommands.{cup_broken, cup_drawn, cup_there, league_refusal, leagues_there}
use Rattle.season_book.specs.PlayerCommands.{use_refusal}
use Rattle.season_book.specs.Verdict.{IsRepeat, IsVerdictIn, Outcome, Verdict, accepted, fresh_verdict, judged, number_refusal, ruled, settled, unless_misnumbered, unless_refused}
use Rattle.season_book.specs.declared.answer.Answer.{Answer}
use Rattle.season_book.specs.declared.answer.Answer.TheVariants as answer
use Rattle.season_book.specs.declared.request.Request.{Request}
use Rattle.season_book.specs.declared.request.Request.TheVariants as request
use Rattle.season_book.specs.declared.shown.Shown.{Shown}
use Rattle.season_competitions.specs.Cups.{cup_answer_by, draw_answer}
use Rattle.season_competitions.specs.Leagues.{league_answer_by}
use Rattle.season_entries.specs.Amended.{amend_broken}
use Rattle.season_entries.specs.Deeds.{IsAnswered, deed_answer}
use Rattle.season_entries.specs.Keys.{keys_of, rekey_broken}
use Rattle.season_entries.specs.Known.{is_issued_by, is_registered_by}
use Rattle.season_running.specs.Accepting.{IsRefusal}

-- a command is refused by a rule or an id that is not there

pub storeless_refusal : (reply : Answer) → IsRefusal reply → IsStoreless reply
storeless_refusal (answer.Done number made) rules = absurd rules
storeless_refusal (answer.Shown shown) rules = absurd rules
storeless_refusal (answer.Rule rule) rules = tt
storeless_refusal answer.Unknown rules = tt
storeless_refusal answer.Keeper rules = absurd rules
storeless_refusal (answer.Damaged key) rules = absurd rules
storeless_refusal answer.Memory rules = absurd rules

-- nor of memory
pub refused_as : {T : Type 0} (verdict : Result T Answer) (reply : Answer) → IsRefusal reply → verdict ≡ Err reply → IsRefused verdict reply
refused_as verdict (answer.Done number made) rules is = is
refused_as verdict (answer.Shown shown) rules is = is
refused_as verdict (answer.Rule rule) rules is = is
refused_as verdict answer.Unknown rules is = is
refused_as verdict answer.Keeper rules is = is
refused_as verdict (answer.Damaged key) rules is = is
refused_as verdict answer.Memory rules is = absurd rules

pub deed_refusal_is : {T : Type 0} (facts : Facts) (broken : Option Rule) (command : Command) (result : Result T Answer)
    → IsAnswered (deed_answer facts broken command) result → IfErr result IsRefusal
deed_refusal_is facts broken command (Ok value) a = tt
deed_refusal_is facts broken command (Err reply) a = by_names (names_players facts command) broken a
  where
    by_names : (names : Bool) (broken : Option Rule) → (if names then option_map answer.Rule broken else Some answer.Unknown) ≡ Some reply → IsRefusal reply
    by_names true None e = absurd (none-some reply e)
    by_names true (Some rule) e = subst IsRefusal (same_Some (answer.Rule rule) reply e) tt
    by_names false broken e = subst IsRefusal (same_Some answer.Unknown reply e) tt

-- so is a command on leagues, and the draw of a cup
refusal_of_answer : (there : Bool) (broken : Option Rule) (reply : Answer) → (if there then option_map answer.Rule broken else Some answer.Unknown) ≡ Some reply → IsRefusal reply
refusal_of_answer true None reply e = absurd (none-some reply e)
refusal_of_answer true (Some rule) reply e = subst IsRefusal (same_Some (answer.Rule rule) reply e) tt
refusal_of_answer false broken reply e = subst IsRefusal (same_Some answer.Unknown reply e) tt

-- so is another key of an entry
pub rekey_refusal_is : {T : Type 0} (operator : List ℕ) (managers : List Manager) (e : ℕ) (key : List ℕ) (result : Result T Answer)
    → IsAnswered (rekey_broken operator managers e key) result → IfErr result IsRefusal
rekey_refusal_is operator managers e key (Ok value) a = tt
rekey_refusal_is operator managers e key (Err reply) a = refusal_of_answer (nat_le 1 e && nat_le e (length managers)) (rekey_refusal operator (keys_of managers) e key) reply a

-- so are another name and another position of a player
pub amend_refusal_is : {T : Type 0} (facts : Facts) (managers : List Manager) (p : ℕ) (position : Position) (result : Result T Answer)
    → IsAnswered (amend_broken facts managers p position) result → IfErr result IsRefusal
amend_refusal_is facts managers p position (Ok value) a = tt
amend_refusal_is facts managers p position (Err reply) a = refusal_of_answer (has_player facts p) (use_refusal facts (managers_had managers p) p position) reply a

pub league_refusal_is : {T : Type 0} (facts : Facts) (managers : List Manager) (leagues : List LeagueFacts) (e : ℕ) (command : Command) (result : Result T Answer)
    → IsAnswered (league_answer_by facts managers leagues e command) result → IfErr result IsRefusal
league_refusal_is facts managers leagues e command (Ok value) a = tt
league_refusal_is facts managers leagues e command (Err reply) a =
    refusal_of_answer (leagues_there facts (is_issued_by managers) leagues command) (league_refusal facts (is_registered_by managers e) leagues e command) reply a

pub cup_refusal_is : {T : Type 0} (facts : Facts) (managers : List Manager) (count : ℕ) (command : Command) (result : Result T Answer)
    → IsAnswered (cup_answer_by facts managers count command) result → IfErr result IsRefusal
cup_refusal_is facts managers count command (Ok value) a = tt
cup_refusal_is facts managers count command (Err reply) a = by_drawn (cup_drawn command) a
  where
    by_drawn : (drawn : Option Bracket) → option_map_or (draw_answer facts (is_issued_by managers) (is_registered_by managers) count) drawn (Some answer.Unknown) ≡ Some reply → IsRefusal reply
    by_drawn None e = subst IsRefusal (same_Some answer.Unknown reply e) tt
    by_drawn (Some b) e = refusal_of_answer (cup_there facts (is_issued_by managers) b) (cup_broken facts (is_registered_by managers) count b) reply e

-- a command that nothing refuses leads to the facts that it changes
pub granted_is : (facts : Facts) (now : ℕ) (command : Command) → IsGranted facts now command → judged (Some facts) now command ≡ Ok (changed_by facts command)
granted_is facts now command granted =
    ap (λ (o : Option Facts). if is_some o then Err (answer.Rule rule.SeasonThere)
    else if are_there facts command then unless_refused (refusal_of facts now command) (changed_by facts command) else Err answer.Unknown) granted.begins_none
    ∙ ap (λ b. if b then unless_refused (refusal_of facts now command) (changed_by facts command) else Err answer.Unknown) granted.there
    ∙ ap (λ o. unless_refused o (changed_by facts command)) granted.unbroken

-- the verdict on a command that is no repeat

module _ (operator : List ℕ) (book : Book) (caller : Caller) (now number : ℕ) (command : Command)
    (fresh : (made : Made) → IsRepeat book caller number command made → ⊥) where
  abbrev due : Result Outcome Answer
  due = ruled operator book caller now command

  numbered : number_refusal (last_number book caller) number ≡ None → settled book caller number command due ≡ fresh_verdict operator book caller now number command
  numbered none = ap (λ broken. unless_misnumbered broken book (settled book caller number command due)) (sym none)

  pub done_answer : (outcome : Outcome) (what : Made) → number_refusal (last_number book caller) number ≡ None → due ≡ Ok outcome → outcome.made ≡ what
      → MayAnswerIn operator book caller now (request.Command number command) (answer.Done number what) (accepted caller number command outcome)
  done_answer outcome what none is makes =
      let done : Made → Verdict = λ m. record { answer = answer.Done number m; book = accepted caller number command outcome } in
      inl (inr (fresh, sym (ap done makes) ∙ sym (ap (settled book caller number command) is) ∙ numbered none))

  -- memory runs out only where the command is judged well

  granted_by : (verdict : Result Outcome Answer) → IsOk verdict → IsGrant (settled book caller number command verdict).answer
  granted_by (Ok outcome) ok = tt
  granted_by (Err refused) ok = absurd (false≢true ok)

  granted_in : number_refusal (last_number book caller) number ≡ None → IsOk due → IsGrantedIn operator book caller now (request.Command number command)
  granted_in none ok = (fresh, by)
    where
      by : (verdict : Verdict) → IsVerdictIn operator book caller now (request.Command number command) verdict → IsGrant verdict.answer
      by verdict (inl (made, again, same)) = absurd (fresh made again)
      by verdict (inr (new, same)) = subst (λ (v : Verdict). IsGrant v.answer) (numbered none ∙ sym same) (granted_by due ok)

  pub late_refused : number_refusal (last_number book caller) number ≡ None → (reply : Answer) → IsRefused due reply → IsOutLate operator book caller now (request.Command number command) reply
  late_refused none (answer.Done number made) refused = tt
  late_refused none (answer.Shown shown) refused = tt
  late_refused none (answer.Rule rule) refused = tt
  late_refused none answer.Unknown refused = tt
  late_refused none answer.Keeper refused = tt
  late_refused none (answer.Damaged key) refused = tt
  late_refused none answer.Memory refused = granted_in none refused
