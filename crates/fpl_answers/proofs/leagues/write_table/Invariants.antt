use Rattle.std.proofs.Common.{◌≡◌, ◌++◌, drop, map}
use Rattle.json.specs.Tree.{items_tokens}
use Rattle.serde_json.specs.Data.{array}
use Rattle.serde_json.specs.View.{items_of}
use Rattle.serde_json.specs.Written.{items_outline}
use Rattle.fpl_answers.specs.LeagueData.{ranked_data}
use Rattle.json_members.specs.Tokens.{tokens_of}
use Rattle.fpl_answers.proofs.leagues.write_table.Given as goal

-- the tokens so far, and then those of what is left, are those of all
abbrev pub invariant-loop-ranked : goal.invariant-loop-ranked
invariant-loop-ranked l = record {
  tokens : l.out.tokens ++ items_tokens (items_outline (items_of (map ranked_data (drop l.ranked-index l.rows)))) ≡ l.fn.out.tokens ++ tokens_of (array (items_of (map ranked_data l.rows)));
  before : l.out.before ≡ l.fn.out.before;
}
