use Rattle.std.proofs.Common.{◌≡◌, ◌++◌, drop, map, length, List, ℕ}
use Rattle.httparse.specs.Spans.{header_bytes}
use Rattle.fpl_http.specs.Fields.{values_of, Shows, SoughtWithin}
use Rattle.fpl_http.proofs.fields.seek_field.Given as goal

abbrev pub invariant-loop-header : goal.invariant-loop-header
invariant-loop-header l = record {
  shows : (front : List (List ℕ)) × Shows l.buf l.seen front × (front ++ values_of l.name (map (header_bytes l.buf) (drop l.header-index l.headers)) ≡ values_of l.name (map (header_bytes l.buf) l.headers));
  within : SoughtWithin (length l.buf) l.seen;
}
