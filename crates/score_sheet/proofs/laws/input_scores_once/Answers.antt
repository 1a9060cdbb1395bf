use Rattle.score_sheet.proofs.Once.{one_text, text_or_wrong, one_wrong}
use Rattle.score_sheet.proofs.laws.input_scores_once.Goals as goal

pub returns-clause-text : goal.returns-clause-text
returns-clause-text c = one_text

pub returns-clause-apart : goal.returns-clause-apart
returns-clause-apart c = text_or_wrong

pub returns-clause-wrong : goal.returns-clause-wrong
returns-clause-wrong c = one_wrong
