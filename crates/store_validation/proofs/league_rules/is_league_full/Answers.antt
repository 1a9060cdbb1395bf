use Rattle.std.proofs.Common.{◌∙◌, ap, sym}
use Rattle.season_records.specs.declared.slot.Slot.TheVariants as slot
use Rattle.stored_records.specs.SeasonRules.{is_full}
use Rattle.store_validation.specs.LeagueRules.{is_league_full}
use Rattle.store_validation.proofs.league_rules.is_league_full.Goals as goal

pub returns-in-Some : goal.returns-in-Some
returns-in-Some c =
    c.is_full.ensures
    ∙ ((λ i. is_full c.args.stored.now (c.most_members.ensures i) (slot.Member (c.get.ensures.value i) 0) (slot.Member (c.get-in-Some.ensures.value i) (c.get-in-Some-2.ensures.value i)))
    ∙ sym (ap (is_league_full c.args.stored.now c.args.league c.args.entry) c.in-Some.is))
