use Rattle.rule_book.proofs.AgreeFacts.{rows_agree, totals_agree}
use Rattle.rule_book.proofs.laws.totals_and_rows_agree.Goals as goal

pub returns-clause-totals : goal.returns-clause-totals
returns-clause-totals c = totals_agree

pub returns-clause-rows : goal.returns-clause-rows
returns-clause-rows c = rows_agree
