use Rattle.std.proofs.Common.{subst}
use Rattle.std.specs.List.{All}
use Rattle.rule_book.specs.Players.{player_refusal, with_player}
use Rattle.season_facts.specs.Kept.{IsId}
use Rattle.season_facts.proofs.KeptFacts.{AllThere, ids_with_player, kept_or_out, there_added}
use Rattle.season_facts.proofs.season.Season.add_player.Goals as goal

pub invariant_of-self : goal.invariant_of-self
invariant_of-self c =
    let players = c.self.inside.players in
    let matches = c.self.inside.matches in
    let there = c.self.invariant.lines_there in
    let ids = ids_with_player players c.args.player (subst IsId c.get.ensures.value c.get.ensures.range) c.self.invariant.player_ids in
    record {
      player_ids = kept_or_out (All (λ p. IsId p.id)) (player_refusal players c.args.player) players c.add.new.self (with_player players c.args.player)
          c.self.invariant.player_ids (λ _. ids) c.add.result c.add.ensures.judged c.add.ensures.ok c.add.ensures.err;
      fixture_ids = c.self.invariant.fixture_ids;
      lines_in_range = c.self.invariant.lines_in_range;
      lines_there = kept_or_out (λ new. AllThere new matches) (player_refusal players c.args.player) players c.add.new.self (with_player players c.args.player)
          there (λ _. there_added players c.args.player matches there) c.add.result c.add.ensures.judged c.add.ensures.ok c.add.ensures.err;
    }
