use Rattle.std.proofs.Common.{◌≡◌, None, ap, subst}
use Rattle.std.specs.List.{find}
use Rattle.std.specs.Option.{is_some}
use Rattle.std.specs.Bool.{◌==◌}
use Rattle.std.proofs.lemmas.Bool.{false≢true}
use Rattle.season_facts.specs.Kept.{AreFacts}
use Rattle.season_facts.proofs.Absent.{no_such_id}
use Rattle.season_facts.proofs.season.Season.player_there.Goals as goal

pub returns-in-None : goal.returns-in-None
returns-in-None c =
    let facts : AreFacts c.args.self.now = subst AreFacts c.self.view_is c.self.invariant in
    let none : find (λ x. x.id == c.args.number) c.args.self.now.players ≡ None =
    no_such_id (λ x. x.id) c.args.self.now.players c.args.number facts.player_ids (λ is_id. false≢true (c.in-None.ensures.there.1 is_id)) in
    ap is_some none
