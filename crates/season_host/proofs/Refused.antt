-- The answer to a command that is no repeat, has the next number, and was refused, or for which memory ran out.
use Rattle.std.proofs.Common.{◌≡◌, ◌∙◌, ℕ, List, None, Err, Result, ap, inl, inr, refl, sym}
use Rattle.fpl_base.specs.declared.kinds.Caller.{Caller}
use Rattle.season_book.specs.Book.{Book, last_number}
use Rattle.season_book.specs.Doing.{IsRefused, MayAnswerIn}
use Rattle.season_book.specs.Verdict.{IsRepeat, Outcome, fresh_verdict, number_refusal, ruled, settled, unless_misnumbered}
use Rattle.season_book.specs.declared.answer.Answer.{Answer}
use Rattle.season_book.specs.declared.answer.Answer.TheVariants as answer
use Rattle.season_book.specs.declared.command.Command.{Command}
use Rattle.season_book.specs.declared.made.Made.{Made}
use Rattle.season_book.specs.declared.request.Request.TheVariants as request

module _ (operator : List ℕ) (book : Book) (caller : Caller) (now number : ℕ) (command : Command)
    (fresh : (made : Made) → IsRepeat book caller number command made → ⊥)
    (none : number_refusal (last_number book caller) number ≡ None) where
  abbrev due : Result Outcome Answer
  due = ruled operator book caller now command

  numbered : settled book caller number command due ≡ fresh_verdict operator book caller now number command
  numbered = ap (λ broken. unless_misnumbered broken book (settled book caller number command due)) (sym none)

  refused_as : (reply : Answer) → due ≡ Err reply → MayAnswerIn operator book caller now (request.Command number command) reply book
  refused_as reply is = inl (inr (fresh, ap (settled book caller number command) (sym is) ∙ numbered))

  pub refused_answer : (reply : Answer) → IsRefused due reply → MayAnswerIn operator book caller now (request.Command number command) reply book
  refused_answer (answer.Done n made) is = refused_as (answer.Done n made) is
  refused_answer (answer.Shown shown) is = refused_as (answer.Shown shown) is
  refused_answer (answer.Rule rule) is = refused_as (answer.Rule rule) is
  refused_answer answer.Unknown is = refused_as answer.Unknown is
  refused_answer answer.Keeper is = refused_as answer.Keeper is
  refused_answer (answer.Damaged key) is = refused_as (answer.Damaged key) is
  refused_answer answer.Memory ok = inr (refl, refl)
