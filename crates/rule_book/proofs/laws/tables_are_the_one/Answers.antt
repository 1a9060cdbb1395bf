use Rattle.rule_book.proofs.TableOrder.{classic_table_is_the_one, head_table_is_the_one}
use Rattle.rule_book.proofs.laws.tables_are_the_one.Goals as goal

pub returns-clause-classic : goal.returns-clause-classic
returns-clause-classic c = classic_table_is_the_one

pub returns-clause-head : goal.returns-clause-head
returns-clause-head c = head_table_is_the_one
