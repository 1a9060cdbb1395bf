use Rattle.lawful_books.proofs.Counting.{few_stand, fewer_stand}
use Rattle.lawful_books.proofs.Families.{are_families, none_is_full}
use Rattle.lawful_books.proofs.facts.few_records_stand.Goals as goal

pub returns-clause-few : goal.returns-clause-few
returns-clause-few c = few_stand

pub returns-clause-fewer : goal.returns-clause-fewer
returns-clause-fewer c = fewer_stand

pub returns-clause-families : goal.returns-clause-families
returns-clause-families c = are_families

pub returns-clause-full : goal.returns-clause-full
returns-clause-full c = none_is_full
