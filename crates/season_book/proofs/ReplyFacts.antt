-- What a caller is told of books that are the same to him.
use Rattle.std.proofs.Common.{◌≡◌, ℕ, List, Option, Some, None, refl, sym, ap, ◌∙◌, subst, inl, inr}
use Rattle.std.specs.Prelude.{Result, Ok, Err}
use Rattle.fpl_base.specs.declared.kinds.Caller.{Caller}
use Rattle.fpl_base.specs.declared.rule.Rule.{Rule}
use Rattle.season_book.specs.Book.{Book, last_number}
use Rattle.season_book.specs.declared.command.Command.{Command}
use Rattle.season_book.specs.Verdict.{IsVerdict, IsVerdictIn, Outcome, Verdict, fresh_verdict, number_refusal, pass, ruled, settled, unless_misnumbered, view_answer}
use Rattle.season_book.specs.declared.answer.Answer.{Answer}
use Rattle.season_book.specs.declared.answer.Answer.TheVariants as answer
use Rattle.season_book.specs.declared.request.Request.{Request}
use Rattle.season_book.specs.declared.request.Request.TheVariants as request
use Rattle.season_book.specs.Agree.{Agree, Alike}
use Rattle.season_book.specs.Isolation.{AnswersAreIsolated, IsToldAlike, RepliesAreIsolated, RuledAlike, SameUse, SameUseOf}
use Rattle.season_book.proofs.CommandFacts.{commands_are_isolated}
use Rattle.season_book.proofs.LockFacts.{locks_again}
use Rattle.season_book.proofs.ViewFacts.{views_are_isolated}
use Rattle.season_book.proofs.WindowFacts.{number_alike}

pub passed_again : (now : ℕ) (book : Book) → pass (pass book now) now ≡ pass book now
passed_again now book = ap (λ f. record book { facts = f }) (locks_again now book.facts)

module _ (operator : List ℕ) (caller : Caller) (now : ℕ) (book other : Book) (a : Agree caller now book other) where
  abbrev one : Book
  one = pass book now

  abbrev two : Book
  two = pass other now

  -- the same answer, and books that are the same to the caller
  abbrev AreAlike : Verdict → Verdict → Type 0
  AreAlike verdict told = (verdict.answer ≡ told.answer) × Agree caller now verdict.book told.book

  -- the moment told again
  agree_again : Agree caller now one two
  agree_again =
      subst (λ b. Alike caller b (pass two now)) (sym (passed_again now book))
      (subst (λ b. Alike caller one b) (sym (passed_again now other)) a)

  settled_alike : (number : ℕ) (command : Command) (due also : Result Outcome Answer) → RuledAlike caller now number command due also
      → AreAlike (settled one caller number command due) (settled two caller number command also)
  settled_alike number command (Err refused) (Err again) same = (same, agree_again)
  settled_alike number command (Err refused) (Ok outcome) same = absurd same
  settled_alike number command (Ok outcome) (Err refused) same = absurd same
  settled_alike number command (Ok outcome) (Ok again) (made, agree) = (ap (λ m. answer.Done number m) made, agree)

  numbered_alike : (broken : Option Rule) (verdict told : Verdict) → AreAlike verdict told → AreAlike (unless_misnumbered broken one verdict) (unless_misnumbered broken two told)
  numbered_alike (Some broken) verdict told same = (refl, agree_again)
  numbered_alike None verdict told same = same

  fresh_alike : (number : ℕ) (command : Command) → SameUse command book other → AreAlike (fresh_verdict operator one caller now number command) (fresh_verdict operator two caller now number command)
  fresh_alike number command use_same =
      let due = ruled operator one caller now command in
      let also = ruled operator two caller now command in
      let verdict = settled one caller number command due in
      let told = settled two caller number command also in
      subst (λ n. AreAlike (unless_misnumbered (number_refusal (last_number one caller) number) one verdict) (unless_misnumbered (number_refusal n number) two told)) (number_alike caller one two a)
      (numbered_alike (number_refusal (last_number one caller) number) verdict told
      (settled_alike number command due also (commands_are_isolated operator caller now number command book other a use_same)))

  -- a verdict that is this one is told alike
  told_alike : (asked : Request) (verdict due told : Verdict) → verdict ≡ due → AreAlike due told → IsVerdictIn operator two caller now asked told
      → (also : Verdict) × IsToldAlike operator caller now asked other verdict also
  told_alike asked verdict due told is same also = (
    told,
    record {
      is_verdict = also;
      answer = ap (λ (v : Verdict). v.answer) is ∙ same.0;
      agree = subst (λ b. Agree caller now b told.book) (sym (ap (λ (v : Verdict). v.book) is)) same.1;
    },
  )

  pub verdict_alike : (asked : Request) (verdict : Verdict) → SameUseOf asked book other → IsVerdictIn operator one caller now asked verdict
      → (told : Verdict) × IsToldAlike operator caller now asked other verdict told
  verdict_alike (request.View view) verdict use_same is =
      told_alike (request.View view) verdict (record { answer = view_answer one caller view; book = one }) (record { answer = view_answer two caller view; book = two })
      is (views_are_isolated caller now book other view a, agree_again) refl
  verdict_alike (request.Command number command) verdict use_same (inl (made, again, is)) =
      told_alike (request.Command number command) verdict (record { answer = answer.Done number made; book = one }) (record { answer = answer.Done number made; book = two })
      is (refl, agree_again) (inl (made, sym a.last ∙ again, refl))
  verdict_alike (request.Command number command) verdict use_same (inr (fresh, is)) =
      told_alike (request.Command number command) verdict (fresh_verdict operator one caller now number command) (fresh_verdict operator two caller now number command)
      is (fresh_alike number command use_same) (inr (λ made again. fresh made (a.last ∙ again), refl))

pub replies_are_isolated : RepliesAreIsolated
replies_are_isolated operator caller now asked book other verdict a use_same is = verdict_alike operator caller now book other a asked verdict use_same is

-- with the answer of a verdict, another verdict is one with it
with_answer : (operator : List ℕ) (caller : Caller) (now : ℕ) (asked : Request) (other : Book) (reply : Answer) (after : Book)
    → (told : Verdict) × IsToldAlike operator caller now asked other (record { answer = reply; book = after }) told
    → (left : Book) × IsVerdict operator other caller now asked (record { answer = reply; book = left })
with_answer operator caller now asked other reply after (told, alike) = (
  told.book,
  subst (λ r. IsVerdict operator other caller now asked (record { answer = r; book = told.book })) (sym alike.answer) alike.is_verdict,
)

pub answers_are_isolated : AnswersAreIsolated
answers_are_isolated operator failures book caller now asked reply after (inl is) memory keeper =
    λ other a use_same. with_answer operator caller now asked other reply after (replies_are_isolated operator caller now asked book other (record { answer = reply; book = after }) a use_same is)
answers_are_isolated operator failures book caller now asked reply after (inr (inl is, left)) memory keeper = absurd (memory is)
answers_are_isolated operator failures book caller now asked reply after (inr (inr (is, rose), left)) memory keeper = absurd (keeper is)
