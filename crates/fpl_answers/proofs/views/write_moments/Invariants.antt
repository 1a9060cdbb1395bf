use Rattle.std.proofs.Common.{◌≡◌, ◌++◌, drop, map}
use Rattle.json.specs.Tree.{items_tokens}
use Rattle.serde_json.specs.Data.{array}
use Rattle.serde_json.specs.View.{items_of}
use Rattle.serde_json.specs.Written.{items_outline}
use Rattle.json_members.specs.Members.{count}
use Rattle.json_members.specs.Tokens.{tokens_of}
use Rattle.fpl_answers.proofs.views.write_moments.Given as goal

-- the tokens so far, and then those of what is left, are those of all
abbrev pub invariant-loop-moment : goal.invariant-loop-moment
invariant-loop-moment l = record {
  tokens : l.out.tokens ++ items_tokens (items_outline (items_of (map count (drop l.moment-index l.moments)))) ≡ l.fn.out.tokens ++ tokens_of (array (items_of (map count l.moments)));
  before : l.out.before ≡ l.fn.out.before;
}
