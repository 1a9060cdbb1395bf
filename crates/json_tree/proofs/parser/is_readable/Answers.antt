use Rattle.std.proofs.Common.{◌≡◌, ◌∙◌, ◌+◌, ◌-◌, ◌==◌, ◌∷◌, ap, arith, cond, drop, false, get_or, is_some, map, sym, true}
use Rattle.std.proofs.lemmas.Bool.Decides.{nat_tests}
use Rattle.std.proofs.lemmas.List.{drop_all, length-map}
use Rattle.json.specs.Tape.{node_token}
use Rattle.json.specs.declared.tape.Node.TheVariants.{Object}
use Rattle.serde_json.specs.Read.{number_of}
use Rattle.json_tree.proofs.NodeLemmas.{here}
use Rattle.json_tree.proofs.WalkLemmas.{passes, passes-closing, passes-opening, passes-other, passes_readable}
use Rattle.json_tree.proofs.parser.is_readable.Goals as goal
use Rattle.json_tree.proofs.parser.is_readable.Goals.{in-Number+else-not-fits, in-Key, in-Key-2, in-Key-3, in-Key-4, in-EndObject, in-Object+else-open-eq-MAX_DEPTH}

pub returns-then-not-fits : goal.returns-then-not-fits
returns-then-not-fits c j spelled =
    let ns = c.args.nodes.now in
    let i = c.loop-node.node-index in
    let rest = drop (i + 1) (map node_token ns) in
    let level = c.loop-node.open in
    let first = here ns i (Object 0) c.loop-node-test.true ∙ ap (λ n. node_token n ∷ rest) c.in-Number.is in
    let none : is_some (number_of c.in-Number.text.now) ≡ false = grind arith in
    let stops = ap (λ b. cond b (passes level rest) false) none in
    sym (sym (passes_readable j) ∙ ap (passes 0) (sym spelled) ∙ sym c.loop-node.invariant.0 ∙ ap (passes level) first ∙ stops)

pub returns-then-open-eq-MAX_DEPTH : goal.returns-then-open-eq-MAX_DEPTH
returns-then-open-eq-MAX_DEPTH c j spelled =
    let ns = c.args.nodes.now in
    let i = c.loop-node.node-index in
    let n = get_or ns i (Object 0) in
    let rest = drop (i + 1) (map node_token ns) in
    let level = c.loop-node.open in
    let stops = passes-opening level n rest c.in-Object.is ∙ ap (λ k. cond (k == 127) false (passes (k + 1) rest)) c.if-open-eq-MAX_DEPTH.true in
    sym (sym (passes_readable j) ∙ ap (passes 0) (sym spelled) ∙ sym c.loop-node.invariant.0 ∙ ap (passes level) (here ns i (Object 0) c.loop-node-test.true) ∙ stops)

pub loop-node-preserved : goal.loop-node-preserved
loop-node-preserved c =
    let ns = c.args.nodes.now in
    let i = c.loop-node.node-index in
    let n = get_or ns i (Object 0) in
    let all = map node_token ns in
    let rest = drop (i + 1) all in
    let level = c.loop-node.open in
    let so_far : passes level (node_token n ∷ rest) ≡ passes 0 all = sym (ap (passes level) (here ns i (Object 0) c.loop-node-test.true)) ∙ c.loop-node.invariant.0 in
    elim c.match-node.branch [
      | in-Number+else-not-fits w ↦
          let fits : is_some (number_of w.in-Number.text.now) ≡ true = grind arith in
          let kept = sym (ap (λ m. passes level (node_token m ∷ rest)) w.in-Number.is ∙ ap (λ b. cond b (passes level rest) false) fits) ∙ so_far in
          (ap (λ k. passes k rest) w.open-is ∙ kept, omega arith)
      | in-Key w ↦ (ap (λ k. passes k rest) w.open-is ∙ sym (passes-other level n rest w.in-Key.is) ∙ so_far, omega arith)
      | in-Key-2 w ↦ (ap (λ k. passes k rest) w.open-is ∙ sym (passes-other level n rest w.in-Key.is) ∙ so_far, omega arith)
      | in-Key-3 w ↦ (ap (λ k. passes k rest) w.open-is ∙ sym (passes-other level n rest w.in-Key.is) ∙ so_far, omega arith)
      | in-Key-4 w ↦ (ap (λ k. passes k rest) w.open-is ∙ sym (passes-other level n rest w.in-Key.is) ∙ so_far, omega arith)
      | in-EndObject w ↦
          let less : c.match-node.open ≡ level - 1 = omega arith in
          (ap (λ k. passes k rest) less ∙ sym (passes-closing level n rest w.in-EndObject.is) ∙ so_far, omega arith)
      | in-Object+else-open-eq-MAX_DEPTH w ↦
          let below : (level == 127) ≡ false = grind (arith, nat_tests) in
          let opens = passes-opening level n rest w.in-Object.is ∙ ap (λ b. cond b false (passes (level + 1) rest)) below in
          (ap (λ k. passes k rest) w.open-is ∙ sym opens ∙ so_far, omega arith)
    ]

pub returns : goal.returns
returns c j spelled =
    let ns = c.args.nodes.now in
    let all = map node_token ns in
    let done = drop_all c.loop-node.node-index all (omega (arith, length-map ns node_token)) in
    sym (sym (passes_readable j) ∙ ap (passes 0) (sym spelled) ∙ sym c.loop-node.invariant.0 ∙ ap (passes c.loop-node.open) done)
