use Rattle.std.proofs.Common.{map}
use Rattle.std.specs.Char.{to_ascii_lowercase}
use Rattle.fpl_http.proofs.FieldsLemmas.{test_is}
use Rattle.fpl_http.proofs.fields.is_named.Goals as goal

pub returns : goal.returns
returns c = test_is _ (map to_ascii_lowercase c.args.name.now) (map to_ascii_lowercase c.args.wanted.now) c.eq_ignore_ascii_case.ensures.test
