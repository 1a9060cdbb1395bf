use Rattle.std.proofs.Common.{◌≡◌, ◌∙◌, ap, ℕ, List, arith}
use Rattle.fpl_base.specs.declared.records.Op.TheVariants.{Put}
use Rattle.fpl_base.specs.declared.records.RecordKey.{RecordKey}
use Rattle.season_records.specs.Items.{last_body}
use Rattle.season_records.specs.Records.{status_of}
use Rattle.record_changes.proofs.Ordered.{has_bytes}
use Rattle.record_changes.proofs.competitions.put_last.Goals as goal

same_put : (key other_key : RecordKey) (body other_body : List ℕ) → key ≡ other_key → body ≡ other_body → Put key body ≡ Put other_key other_body
same_put key other_key body other_body key_is body_is = ap (λ k. Put k body) key_is ∙ ap (Put other_key) body_is

pub encode_last-requires : goal.encode_last-requires
encode_last-requires c = has_bytes c.args.command.now c.requires

pub returns : goal.returns
returns c =
    let made = c.args.made.now in
    let body =
    c.in_ok-key.ensures.body
    ∙ ap (λ status. last_body c.args.number status c.made_id-made.result c.args.command.now) c.status_of-status.ensures
    ∙ ap (λ id. last_body c.args.number (status_of made) id c.args.command.now) c.made_id-made.ensures in (
      same_put c.in_ok-key.key _ c.in_ok-key.body _ c.in_ok-key.ensures.key body,
      (
        (
          c.ranges.number.fits,
          omega (arith, c.status_of-status.type_inv, c.status_of-status.ensures),
          omega (arith, c.made_id-made.type_inv, c.made_id-made.ensures),
          c.in_ok-key.ensures.fits.0.3,
        ),
        has_bytes c.args.command.now c.requires,
      ),
    )
