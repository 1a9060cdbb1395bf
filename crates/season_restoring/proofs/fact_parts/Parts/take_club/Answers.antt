use Rattle.std.proofs.Common.{◌∙◌, ◌∷◌, [], ap}
use Rattle.rule_book.specs.ById.{placed_at}
use Rattle.rule_book.proofs.Placed.{placed-insert_entry}
use Rattle.season_book.specs.Book.{Facts}
use Rattle.season_restoring.proofs.fact_parts.Parts.take_club.Goals as goal

pub returns : goal.returns
returns c =
    let inside = c.self.inside in
    let put = c.in_ok-insert.ensures.entries ∙ placed-insert_entry inside.clubs.entries c.args.club c.args.name c.self.invariant in
    (λ i. record { profile = inside.profile; calendar = inside.calendar; clubs = put i; players = inside.players; matches = inside.matches })
    ∙ ap (λ (v : Facts). record v { clubs = placed_at v.clubs c.args.club ((c.args.club, c.args.name) ∷ []) }) c.self.view_is
