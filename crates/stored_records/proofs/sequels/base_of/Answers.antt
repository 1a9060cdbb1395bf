use Rattle.std.proofs.Common.{◌≡◌, ◌-◌, ◌+◌, Some, None, arith, ap, sym, ◌∙◌}
use Rattle.std.specs.Option.{option_or}
use Rattle.fpl_base.specs.Keeping.{map_of}
use Rattle.stored_records.specs.EntryTold.{team_told}
use Rattle.stored_records.specs.Sequels.{lasting, last_before}
use Rattle.stored_records.proofs.Bases.{one_before}
use Rattle.stored_records.proofs.sequels.base_of.Goals as goal

pub loop-back-preserved : goal.loop-back-preserved
loop-back-preserved c =
    let teams = team_told (map_of c.args.stored.now) c.args.entry in
    let g = c.get-g.result in
    let back = c.loop-back.back in
    let step = one_before teams g back (omega arith) in
    let none : lasting (teams (g - 1 - back)) ≡ None = sym c.lasting_of.ensures ∙ c.in-None.is in
    sym (step ∙ ap (λ o. option_or o (last_before teams (g - (back + 1)))) none) ∙ c.loop-back.invariant

pub returns-in-Some : goal.returns-in-Some
returns-in-Some c =
    let teams = team_told (map_of c.args.stored.now) c.args.entry in
    let g = c.get-g.result in
    let back = c.loop-back.back in
    let step = one_before teams g back (omega arith) in
    let found : lasting (teams (g - 1 - back)) ≡ Some c.in-Some.team = sym c.lasting_of.ensures ∙ c.in-Some.is in
    sym (step ∙ ap (λ o. option_or o (last_before teams (g - (back + 1)))) found) ∙ c.loop-back.invariant
    ∙ ap (last_before teams) c.get-g.ensures.value
