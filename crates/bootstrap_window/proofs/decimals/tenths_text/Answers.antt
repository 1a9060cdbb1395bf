use Rattle.std.proofs.Common.{◌∙◌, ◌≡◌, ◌++◌}
use Rattle.std.specs.Prelude.{codes}
use Rattle.std.specs.String.{string_bytes}
use Rattle.std.proofs.lemmas.Result.{IfOk-weaker}
use Rattle.season_book.specs.Decimals.{signed_tenths_text, tenths_text}
use Rattle.bootstrap_window.proofs.Quotients.{below_zero, not_below}
use Rattle.bootstrap_window.proofs.decimals.tenths_text.Goals as goal

pub returns-then-tenths-gt0 : goal.returns-then-tenths-gt0
returns-then-tenths-gt0 c =
    IfOk-weaker c.below_text.result (λ text. string_bytes text ≡ codes "-" ++ tenths_text c.args.tenths) (λ text. string_bytes text ≡ signed_tenths_text c.args.is_below c.args.tenths)
    (λ text is. is ∙ below_zero c.args.is_below c.args.tenths c.if-is_below.true c.if-tenths-gt0.true) c.below_text.ensures

pub returns-else-is_below : goal.returns-else-is_below
returns-else-is_below c =
    IfOk-weaker c.above_text.result (λ text. string_bytes text ≡ tenths_text c.args.tenths) (λ text. string_bytes text ≡ signed_tenths_text c.args.is_below c.args.tenths)
    (λ text is. is ∙ not_below c.args.is_below c.args.tenths c.else-is_below.either) c.above_text.ensures
