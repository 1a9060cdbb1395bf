use Rattle.std.proofs.Common.{◌≡◌, ◌++◌, drop, map}
use Rattle.json.specs.Tree.{items_tokens}
use Rattle.serde_json.specs.Data.{array}
use Rattle.serde_json.specs.View.{items_of}
use Rattle.serde_json.specs.Written.{items_outline}
use Rattle.fpl_answers.specs.LeagueData.{round_data}
use Rattle.json_members.specs.Tokens.{tokens_of}
use Rattle.fpl_answers.proofs.leagues.write_rounds.Given as goal

-- the tokens so far, and then those of what is left, are those of all
abbrev pub invariant-loop-round : goal.invariant-loop-round
invariant-loop-round l = record {
  tokens : l.out.tokens ++ items_tokens (items_outline (items_of (map round_data (drop l.round-index l.rounds)))) ≡ l.fn.out.tokens ++ tokens_of (array (items_of (map round_data l.rounds)));
  before : l.out.before ≡ l.fn.out.before;
}
