-- What a house answers to a command that is no repeat and has the next number.
use Rattle.std.proofs.Common.{◌≡◌, ◌∙◌, ℕ, [], None, Ok, Err, Result, IfOk, inl, inr, refl, subst, sym}
use Rattle.fpl_base.specs.declared.kinds.Caller.{Caller}
use Rattle.season_book.specs.Book.{Book, last_number}
use Rattle.season_book.specs.Doing.{IsOutLate}
use Rattle.season_book.specs.Verdict.{IsRepeat, accepted, number_refusal}
use Rattle.season_book.specs.declared.answer.Answer.{Answer}
use Rattle.season_book.specs.declared.command.Command.{Command}
use Rattle.season_book.specs.declared.made.Made.{Made}
use Rattle.season_book.specs.declared.request.Request.TheVariants as request
use Rattle.season_records.specs.Touched.{touched}
use Rattle.season_running.specs.Accepting.{IsAccepted}
use Rattle.season_running.specs.Standing.{HostRows, StandsIn}
use Rattle.season_running.proofs.AnswerFacts.{done_answer, late_refused}
use Rattle.season_host.proofs.Refused.{refused_answer}
use Rattle.season_host.specs.Accepted.{MayEndIn, answer_from, change_from, made_in, slots_from}
use Rattle.season_host.specs.declared.change.Change.TheVariants as change
use Rattle.season_host.specs.declared.accepting.Done.{Done}

module _ (old new : HostRows) (caller : Caller) (now number : ℕ) (command : Command) (book : Book) (stands : StandsIn old book)
    (fresh : (made : Made) → IsRepeat book caller number command made → ⊥) (none : number_refusal (last_number book caller) number ≡ None) where
  pub answered_by : (done : Result Done Answer) → IsAccepted old new caller now number command (made_in done)
      → IfOk done (λ d. (b : Book) → StandsIn old b → d.slots.items ≡ touched b caller command)
      → (after : Book) × StandsIn new after
      × MayEndIn old.operator book caller now number command (answer_from number done) (slots_from done) after
  answered_by (Ok done) is touches =
      let led = is book stands in (
        accepted caller number command led.0,
        led.3,
        (
          done_answer old.operator book caller now number command fresh led.0 done.made none led.1 led.2,
          inr (led.0, none, led.1, refl, touches book stands),
        ),
      )
  answered_by (Err reply) is touches = (
    book,
    subst (λ (rows : HostRows). StandsIn rows book) (sym is.0) stands,
    (refused_answer old.operator book caller now number command fresh none reply (is.1 book stands), inl (refl, refl)),
  )

  pub late_by : (done : Result Done Answer) → IsAccepted old new caller now number command (made_in done)
      → IsOutLate old.operator book caller now (request.Command number command) (answer_from number done)
  late_by (Ok done) is = tt
  late_by (Err reply) is = late_refused old.operator book caller now number command fresh none reply (is.1 book stands)

-- where no slot was touched, nothing was done
pub rests_by : (old : HostRows) (caller : Caller) (command : Command) (book : Book) → StandsIn old book → (done : Result Done Answer)
    → IfOk done (λ d. (b : Book) → StandsIn old b → d.slots.items ≡ touched b caller command)
    → slots_from done ≡ [] → change_from done ≡ change.Nothing
rests_by old caller command book stands (Ok done) touches none = absurd (some_slot (sym (touches book stands) ∙ none))
  where
    some_slot : touched book caller command ≡ [] → ⊥
    some_slot e = cc
rests_by old caller command book stands (Err reply) touches none = refl
