use Rattle.std.proofs.Common.{◌∙◌, not, sym}
use Rattle.fpl_base.specs.Keeping.{map_of}
use Rattle.stored_records.proofs.Loops.{any_mapped}
use Rattle.store_validation.specs.LeagueRules.{is_registered}
use Rattle.store_validation.proofs.league_rules.has_stranger.Goals as goal

pub returns : goal.returns
returns c = c.has_lost_member.ensures ∙ sym (any_mapped (λ e. not (is_registered (map_of c.args.stored.now) e)) (λ row. row.0.b) c.args.members.now)
