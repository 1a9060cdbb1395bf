-- The tests hold of the tables.
use Rattle.std.proofs.Common.{◌≡◌, true, refl}
use Rattle.matchit.proofs.OnLiterals.{matchit_on_literals}
use Rattle.fpl_requests.specs.declared.route.Method.{Method}
use Rattle.fpl_requests.specs.declared.route.Method.TheVariants.{Get, Post}
use Rattle.fpl_requests.specs.Tables.{table, all_added}
use Rattle.fpl_requests.specs.Targets.{rows_at, served, shapes}
use Rattle.fpl_requests.proofs.PatternTests.{all_whole, all_differ}
use Rattle.fpl_requests.proofs.ShapeLemmas.{IsWithin, values}

pub table_whole : (method : Method) → all_whole (table method) ≡ true
unfolding table all_added matchit_on_literals
table_whole Get = refl
table_whole Post = refl

pub shapes_differ : (method : Method) → all_differ (shapes (rows_at method served)) ≡ true
shapes_differ Get = refl
shapes_differ Post = refl

-- a table has each shape of its method, and no other
pub in_shapes : (method : Method) → IsWithin (values (table method)) (shapes (rows_at method served))
unfolding table all_added matchit_on_literals
in_shapes Get = refl
in_shapes Post = refl

pub in_table : (method : Method) → IsWithin (shapes (rows_at method served)) (values (table method))
unfolding table all_added matchit_on_literals
in_table Get = refl
in_table Post = refl
