-- Whose line differs between two lists of events.
use Rattle.std.proofs.Common.{ℕ, ◌≡◌, ◌∙◌, ◌==◌, Bool, true, false, List, Option, Some, None, if◌then◌else◌, arith, refl, sym, ap, subst}
use Rattle.std.proofs.lemmas.Bool.{false≢true}
use Rattle.std.proofs.lemmas.Bool.Decides.{nat_tests}
use Rattle.rule_book.specs.declared.line.Line.{Line}
use Rattle.match_events.specs.Events.{brings_on, comer_of, is_player}
use Rattle.match_events.specs.Lines.{figures_of, has_come_on, line_of}
use Rattle.match_events.specs.Sheets.{is_listed}
use Rattle.match_events.specs.declared.event.Event.{Event}

-- an event brings on the one whom it names
pub one_comer : (event : Event) (player p : ℕ) → Some player ≡ comer_of event → brings_on p event ≡ true → player ≡ p
one_comer event player p is comes =
    let same : (player == p) ≡ true = ap (λ (o : Option ℕ). is_player o p) is ∙ comes in
    grind (arith, nat_tests, same)

-- who did not come on has no line
no_line : (minutes : ℕ) (events : List Event) (p : ℕ) → has_come_on events p ≡ false → line_of minutes events p ≡ None
no_line minutes events p none =
    let line : Option Line = Some (record { figures = figures_of minutes events p }) in
    ap (λ (b : Bool). if b then line else None) none

-- who comes on by neither list, or is not listed behind both, has the same line by both
pub same_else : (minutes : ℕ) (told events : List Event) (mid last : List ℕ) (p : ℕ)
    → (has_come_on told p ≡ true → is_listed mid p ≡ false → line_of minutes events p ≡ line_of minutes told p)
    → (is_listed mid p ≡ true → is_listed last p ≡ true)
    → (has_come_on events p ≡ true → is_listed last p ≡ false → line_of minutes events p ≡ line_of minutes told p)
    → is_listed last p ≡ false → line_of minutes events p ≡ line_of minutes told p
same_else minutes told events mid last p by_told kept by_events none = either (has_come_on told p) (has_come_on events p) (is_listed mid p) refl refl refl
  where
    either : (a b m : Bool) → has_come_on told p ≡ a → has_come_on events p ≡ b → is_listed mid p ≡ m → line_of minutes events p ≡ line_of minutes told p
    either true b true a_is b_is m_is = absurd (false≢true (sym none ∙ kept m_is))
    either true b false a_is b_is m_is = by_told a_is m_is
    either false true m a_is b_is m_is = by_events b_is none
    either false false m a_is b_is m_is = no_line minutes events p b_is ∙ sym (no_line minutes told p a_is)
