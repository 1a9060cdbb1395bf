use Rattle.std.proofs.Common.{◌≡◌, ◌++◌, drop, map}
use Rattle.json.specs.Tree.{items_tokens}
use Rattle.serde_json.specs.Data.{array}
use Rattle.serde_json.specs.View.{items_of}
use Rattle.serde_json.specs.Written.{items_outline}
use Rattle.json_members.specs.Members.{count}
use Rattle.json_members.specs.Tokens.{tokens_of}
use Rattle.season_windows.proofs.windows.write_figures.Given as goal

-- the tokens so far, and then those of what is left, are those of all
abbrev pub invariant-loop-figure : goal.invariant-loop-figure
invariant-loop-figure l = record {
  tokens : l.out.tokens ++ items_tokens (items_outline (items_of (map count (drop l.figure-index l.figures)))) ≡ l.fn.out.tokens ++ tokens_of (array (items_of (map count l.figures)));
  before : l.out.before ≡ l.fn.out.before;
}
