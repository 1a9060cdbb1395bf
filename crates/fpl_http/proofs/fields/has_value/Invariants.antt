use Rattle.std.proofs.Common.{◌≡◌, drop, map}
use Rattle.std.specs.List.{list_any}
use Rattle.httparse.specs.Spans.{header_bytes}
use Rattle.fpl_http.specs.Fields.{values_of, same_name}
use Rattle.fpl_http.proofs.fields.has_value.Given as goal

abbrev pub invariant-loop-header : goal.invariant-loop-header
invariant-loop-header l = list_any (λ v. same_name v l.text) (values_of l.name (map (header_bytes l.buf) (drop l.header-index l.headers))) ≡ list_any (λ v. same_name v l.text) (values_of l.name (map (header_bytes l.buf) l.headers))
