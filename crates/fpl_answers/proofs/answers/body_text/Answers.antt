use Rattle.std.proofs.Common.{◌≡◌, ◌∙◌, ◌++◌, Ok, ap, refl}
use Rattle.serde_json.specs.Written.{compact_text}
use Rattle.fpl_answers.specs.Answers.{answer_data, body_of}
use Rattle.json_members.specs.Tokens.{Appends, tokens_of}
use Rattle.json_members.proofs.AppendLemmas.{text_of}
use Rattle.fpl_answers.proofs.answers.body_text.Goals as goal
use Rattle.fpl_answers.proofs.answers.body_text.Goals.{in-Done+in_ok-write_done-in-Done, in-Rule+in_ok-write_rule-in-Rule, in-Unknown+in_ok-write_error-in-Unknown, in-Keeper+in_ok-write_error-in-Keeper, in-Damaged+in_ok-write_damaged-in-Damaged, in-Memory+in_ok-write_error-in-Memory}

pub returns : goal.returns
returns c =
    let wrote : Appends (Ok tt) c.args.out c.match-answer.out (tokens_of (answer_data c.args.answer.now)) × (compact_text (answer_data c.args.answer.now) ≡ body_of c.args.answer.now) = elim c.match-answer.branch [
      | in-Done+in_ok-write_done-in-Done w ↦ rw (w.in-Done.is, w.out-is) (w.in_ok-write_done-in-Done.ensures, refl)
      | in-Rule+in_ok-write_rule-in-Rule w ↦ rw (w.in-Rule.is, w.out-is) (w.in_ok-write_rule-in-Rule.ensures, refl)
      | in-Unknown+in_ok-write_error-in-Unknown w ↦ rw (w.in-Unknown.is, w.out-is) (w.in_ok-write_error-in-Unknown.ensures, refl)
      | in-Keeper+in_ok-write_error-in-Keeper w ↦ rw (w.in-Keeper.is, w.out-is) (w.in_ok-write_error-in-Keeper.ensures, refl)
      | in-Damaged+in_ok-write_damaged-in-Damaged w ↦ rw (w.in-Damaged.is, w.out-is) (w.in_ok-write_damaged-in-Damaged.ensures, refl)
      | in-Memory+in_ok-write_error-in-Memory w ↦ rw (w.in-Memory.is, w.out-is) (w.in_ok-write_error-in-Memory.ensures, refl)
    ] in
    c.into_inner.ensures.items ∙ text_of (answer_data c.args.answer.now) c.requires wrote.0 ∙ ap (λ text. c.args.out.before ++ text) wrote.1
