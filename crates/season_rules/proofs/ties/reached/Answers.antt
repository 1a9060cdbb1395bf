use Rattle.std.proofs.Common.{◌≡◌, ◌<◌, ◌+◌, ◌*◌, ◌/◌, ◌^◌, ◌++◌, ◌∙◌, nat_le, true, false, append-nil, arith, drop, get_or, map, ap, refl, sym}
use Rattle.std.proofs.lemmas.Bool.Decides.{nat_tests}
use Rattle.std.proofs.lemmas.List.{drop_all}
use Rattle.season_nodes.specs.BookFacts.{facts_of}
use Rattle.season_nodes.specs.declared.nodes.Node.TheVariants as node
use Rattle.season_rules.proofs.TieFacts.{one_new, one_again, reached_ties, ties_from}
use Rattle.season_rules.proofs.ties.reached.Goals.{then-place-next+in_ok-push, else-place-next}
use Rattle.season_rules.proofs.ties.reached.Goals as goal

pub loop-slot-preserved : goal.loop-slot-preserved
loop-slot-preserved c =
    let rows = c.places-slot-items.result.now in
    let i = c.loop-slot.slot-index in
    let w = 2 ^ (c.args.round + 1) in
    let x = get_or rows i (0, 0) in
    let named = node.Tie c.args.cup c.args.round in
    let found = c.loop-slot.found.items in
    let all = map named (ties_from w 0 rows) in
    elim c.if-place-next.branch [
      | then-place-next+in_ok-push t ↦
          let first : nat_le c.loop-slot.next (x.1 / w) ≡ true = grind (arith, nat_tests, t.if-place-next.true) in
          ap (λ n. c.if-place-next.found.items ++ map named (ties_from w n (drop (i + 1) rows))) t.next-is
          ∙ one_new c.args.cup c.args.round w c.loop-slot.next rows i x (0, 0) c.loop-slot-test.true refl found all (x.1 / w) c.if-place-next.found.items refl first (ap (λ v. v.items) t.found-is ∙ t.in_ok-push.ensures.items) c.loop-slot.invariant
      | else-place-next t ↦
          let came : nat_le c.loop-slot.next (x.1 / w) ≡ false = grind (arith, nat_tests, t.if-place-next.false) in
          ap (λ n. c.if-place-next.found.items ++ map named (ties_from w n (drop (i + 1) rows))) t.next-is
          ∙ ap (λ v. v.items ++ map named (ties_from w c.loop-slot.next (drop (i + 1) rows))) t.found-is
          ∙ one_again c.args.cup c.args.round w c.loop-slot.next rows i x (0, 0) c.loop-slot-test.true refl found all (x.1 / w) refl came c.loop-slot.invariant
    ]

pub returns : goal.returns
returns c =
    let some : 0 < c.ties.result = omega (arith, c.if-ties-eq0.false) in
    let rows = c.places-slot-items.result.now in
    let w = 2 ^ (c.args.round + 1) in
    let named = node.Tie c.args.cup c.args.round in
    let found = c.loop-slot.found.items in
    sym (append-nil found)
    ∙ ap (λ l. found ++ map named (ties_from w c.loop-slot.next l)) (sym (drop_all c.loop-slot.slot-index rows (omega (arith, c.loop-slot-test.false))))
    ∙ c.loop-slot.invariant
    ∙ ap (λ l. map named (ties_from w 0 l)) c.places-slot-items.ensures
    ∙ reached_ties (facts_of c.args.books.now) c.args.entry c.args.cup c.args.round (c.ties.ensures.whole some ∙ ap (λ n. w * n) c.ties.ensures.value)
