use Rattle.std.proofs.lemmas.Str.{IsUtf8-from_ascii}
use Rattle.json_members.proofs.ListLemmas.{code_is_ascii}
use Rattle.json_members.proofs.members.code_text.Goals as goal

pub unreachable-requires : goal.unreachable-requires
unreachable-requires c =
    c.in-Err.ensures.cases.0 (IsUtf8-from_ascii _ (rw c.bytes.ensures.bytes (code_is_ascii _ c.bytes.ensures.code)))
