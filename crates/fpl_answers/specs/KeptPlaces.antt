-- The members of a refusal, by where the kept one stands.
use Rattle.std.specs.Prelude.{ℕ, codes}
use Rattle.serde_json.specs.Data.{string, Members, member, no_members}
use Rattle.fpl_answers.specs.declared.rules.Kept.{Kept}
use Rattle.fpl_answers.specs.declared.rules.Kept.TheVariants as kept
use Rattle.json_members.specs.Members.{count}

-- `error` and `rule`, and the kept member in its place
abbrev pub members_with : Kept → ℕ → Members
members_with kept.Nothing n = member (codes "error") (string (codes "rule")) (member (codes "rule") (count n) no_members)
members_with (kept.BeforeError name value) n = member name.now (count value) (member (codes "error") (string (codes "rule")) (member (codes "rule") (count n) no_members))
members_with (kept.BeforeRule name value) n = member (codes "error") (string (codes "rule")) (member name.now (count value) (member (codes "rule") (count n) no_members))
members_with (kept.AfterRule name value) n = member (codes "error") (string (codes "rule")) (member (codes "rule") (count n) (member name.now (count value) no_members))
