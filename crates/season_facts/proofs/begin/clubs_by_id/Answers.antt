use Rattle.std.proofs.Common.{◌∷◌, [], ◌∙◌, ap, rules}
use Rattle.rule_book.specs.ById.{placed_at}
use Rattle.rule_book.proofs.Placed.{placed-insert_entry}
use Rattle.season_facts.proofs.ClubFacts.{by_id_more}
use Rattle.season_facts.proofs.begin.clubs_by_id.Goals as goal

pub clubs-preserved : goal.clubs-preserved
clubs-preserved c =
    let row = c.clubs-item.result in
    record {
      entries = c.in_ok-insert.ensures.entries
          ∙ placed-insert_entry c.clubs.by_id.entries row.0 c.in_ok-copy.field-0 c.clubs.invariant.sorted
          ∙ ap (λ name. placed_at c.clubs.by_id.entries row.0 ((row.0, name) ∷ [])) c.in_ok-copy.ensures
          ∙ ap (λ rows. placed_at rows row.0 ((row.0, row.1) ∷ [])) c.clubs.invariant.entries
          ∙ by_id_more c.args.clubs.now c.clubs.club-index row c.clubs-test.true c.clubs-item.is;
      sorted = search rules;
    }
