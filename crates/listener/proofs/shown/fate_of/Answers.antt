use Rattle.std.proofs.Common.{List, subst, sym, ℕ}
use Rattle.listener.specs.Fates.{AsksForNone, AsksForPage}
use Rattle.listener.proofs.shown.fate_of.Goals as goal

pub returns-in-Ok-Some-clause-other : goal.returns-in-Ok-Some-clause-other
returns-in-Ok-Some-clause-other c = λ none.
    let same = c.in-Ok-Some.ensures.other (subst (λ (b : List ℕ). AsksForNone c.args.shown.now.pages b) (sym c.bytes.ensures) none) in
    absurd (cc same)

pub returns-in-Err-clause-page : goal.returns-in-Err-clause-page
returns-in-Err-clause-page c =
    subst (λ (b : List ℕ). (text : List ℕ) × AsksForPage c.args.shown.now.pages b text) c.bytes.ensures c.in-Err.ensures.out

pub returns-in-Err-clause-other : goal.returns-in-Err-clause-other
returns-in-Err-clause-other c = λ none.
    let same = c.in-Err.ensures.other (subst (λ (b : List ℕ). AsksForNone c.args.shown.now.pages b) (sym c.bytes.ensures) none) in
    absurd (cc same)
