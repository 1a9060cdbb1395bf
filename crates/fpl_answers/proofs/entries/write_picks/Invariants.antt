use Rattle.std.proofs.Common.{◌≡◌, ◌++◌, drop, map}
use Rattle.json.specs.Tree.{items_tokens}
use Rattle.serde_json.specs.Data.{array}
use Rattle.serde_json.specs.View.{items_of}
use Rattle.serde_json.specs.Written.{items_outline}
use Rattle.fpl_answers.specs.ShownData.{pick_data}
use Rattle.json_members.specs.Tokens.{tokens_of}
use Rattle.fpl_answers.proofs.entries.write_picks.Given as goal

-- the tokens so far, and then those of what is left, are those of all
abbrev pub invariant-loop-pick : goal.invariant-loop-pick
invariant-loop-pick l = record {
  tokens : l.out.tokens ++ items_tokens (items_outline (items_of (map pick_data (drop l.pick-index l.picks)))) ≡ l.fn.out.tokens ++ tokens_of (array (items_of (map pick_data l.picks)));
  before : l.out.before ≡ l.fn.out.before;
}
