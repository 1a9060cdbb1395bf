use Rattle.std.proofs.Common.{◌≡◌, ◌∙◌, ap, sym}
use Rattle.std.specs.Option.{option_copied}
use Rattle.std.proofs.lemmas.Bool.{false≢true}
use Rattle.std.proofs.lemmas.Option.{none-some, same_Some}
use Rattle.std.proofs.lemmas.Slice.Eq.{bytes_eq-Decides}
use Rattle.season_running.proofs.RuledFacts.{has_key}
use Rattle.season_running.proofs.running.RunningSeason.owner_of.Goals as goal

pub returns-else-eq : goal.returns-else-eq
returns-else-eq c =
    let here = has_key c.self.inside.managers.managers c.args.bytes.now c.in_ok-entry.entry _ (sym c.owner_of.ensures.owner ∙ c.in_ok-entry.was) c.key.ensures in
    let key_is : c.in-Some.key.now ≡ c.args.bytes.now = same_Some _ _ (sym (ap option_copied c.in-Some.is) ∙ here) in
    absurd (false≢true (sym c.if-eq.false ∙ c.eq.ensures ∙ (bytes_eq-Decides c.bytes.result.now c.args.bytes.now).1 (c.bytes.ensures.bytes ∙ key_is)))

pub returns-in-None : goal.returns-in-None
returns-in-None c =
    let here = has_key c.self.inside.managers.managers c.args.bytes.now c.in_ok-entry.entry _ (sym c.owner_of.ensures.owner ∙ c.in_ok-entry.was) c.key.ensures in
    absurd (none-some c.args.bytes.now (sym (ap option_copied c.in-None.is) ∙ here))
