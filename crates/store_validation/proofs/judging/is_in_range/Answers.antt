use Rattle.std.proofs.Common.{◌∙◌, ap, sym}
use Rattle.store_validation.specs.Lawful.{is_in_range}
use Rattle.store_validation.proofs.Judged.{judged_ok}
use Rattle.store_validation.proofs.judging.is_in_range.Goals as goal

pub returns-in-Line : goal.returns-in-Line
returns-in-Line c = c.is_ok.ensures.value ∙ (judged_ok _ c.line_ok.result c.line_ok.ensures.judged ∙ sym (ap is_in_range c.in-Line.is))
