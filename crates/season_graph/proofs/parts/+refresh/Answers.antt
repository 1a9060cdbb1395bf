use Rattle.std.proofs.Common.{◌+◌, ◌∙◌, ap, subst, sym, take, arith}
use Rattle.std.specs.List.{flat_map}
use Rattle.std.proofs.lemmas.List.{take_all}
use Rattle.season_nodes.specs.BookFacts.{facts_of}
use Rattle.season_nodes.specs.Held.{held}
use Rattle.season_nodes.specs.Season.{is_live}
use Rattle.season_graph.specs.Followed.{ChosenRefreshed}
use Rattle.season_graph.specs.Parts.{nodes_of, parts_of}
use Rattle.season_graph.proofs.PartFacts.{deeper, got_among, many, no_part, one_part, whole}
use Rattle.season_graph.proofs.parts.+refresh.Goals.{in-Some+in_ok-refresh, in_default-part_at}
use Rattle.season_graph.proofs.parts.+refresh.Goals as goal

pub refresh-requires : goal.refresh-requires
refresh-requires t c =
    let d = facts_of c.args.books.now in
    let less = deeper d c.args.part.now c.in-Some.smaller (got_among (parts_of d c.args.part.now) c.loop-place.place c.in-Some.smaller (sym c.part_at.ensures ∙ c.in-Some.is)) in
    (omega (arith, less, c.decreases), tt)

pub loop-place-preserved : goal.loop-place-preserved
loop-place-preserved t c =
    let d = facts_of c.args.books.now in
    let ps = parts_of d c.args.part.now in
    let i = c.loop-place.place in
    elim c.match-part_at.branch [
      | in-Some+in_ok-refresh w ↦
          subst (λ cells. ChosenRefreshed c.args.books.now c.args.all (flat_map (nodes_of d) (take (i + 1) ps)) c.args.cells.now cells) (sym w.cells-is)
          (one_part d c.args.all ps i w.in-Some.smaller (held c.args.cells.now) (held c.loop-place.cells) (held w.refresh.new.cells) (sym c.part_at.ensures ∙ w.in-Some.is)
          c.loop-place.invariant w.in_ok-refresh.ensures)
      | in_default-part_at w ↦
          subst (λ cells. ChosenRefreshed c.args.books.now c.args.all (flat_map (nodes_of d) (take (i + 1) ps)) c.args.cells.now cells) (sym w.cells-is)
          (no_part d c.args.all ps i (held c.args.cells.now) (held c.loop-place.cells) (λ x e. w.in_default-part_at.not-Some x (c.part_at.ensures ∙ e)) c.loop-place.invariant)
    ]

pub returns : goal.returns
returns t c =
    let d = facts_of c.args.books.now in
    let whole_part = c.args.part.now in
    subst (λ ns. ChosenRefreshed c.args.books.now c.args.all ns c.args.cells.now c.loop-place.cells)
    (ap (flat_map (nodes_of d)) (take_all c.loop-place.place (parts_of d whole_part) (omega (arith, c.count-place-end.ensures, c.loop-place-test.false))) ∙ sym (whole d whole_part (many whole_part c.in_default.not-One)))
    c.loop-place.invariant
