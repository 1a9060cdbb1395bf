use Rattle.std.proofs.Common.{◌≡◌, ◌+◌, ◌∷◌, inl, inr, ⊎_elim, [], drop, sym, ◌∙◌, ap, subst}
use Rattle.std.specs.Map.{keys_of}
use Rattle.std.proofs.lemmas.List.{drop_all, drop_more}
use Rattle.rule_book.specs.MatchFacts.{lines_of, players_in}
use Rattle.rescore_graph.specs.Graph.{Among}
use Rattle.season_nodes.specs.Season.{Rising}
use Rattle.season_cells.proofs.Rises.{all_rise, rises}
use Rattle.season_cells.proofs.kept.rising.Goals as goal

pub loop-fixture-preserved : goal.loop-fixture-preserved
loop-fixture-preserved c = λ f a.
    let m = c.args.matches.now in
    let fs = c.fixtures-fixture-items.result.now in
    let i = c.loop-fixture.fixture-index in
    let x = c.fixture-item.result in
    let split : drop i (keys_of m) ≡ x ∷ drop (i + 1) (keys_of m) =
    ap (drop i) (sym c.fixtures-fixture-items.ensures) ∙ drop_more fs i x c.loop-fixture-test.true ∙ ap (λ y. y ∷ drop (i + 1) fs) (sym c.fixture-item.is)
    ∙ ap (λ ks. x ∷ drop (i + 1) ks) c.fixtures-fixture-items.ensures in
    let here : Rising (players_in (lines_of m x)) = subst Rising c.players_of-players.ensures.players (rises c.players_of-players.result.now c.players_of-players.ensures.ascending) in
    ⊎_elim
    (λ left. ⊎_elim (λ e. inr (subst (λ k. Rising (players_in (lines_of m k))) e here)) (λ rest. inl rest) (subst (λ ks. Among ks f) split left))
    (λ r. inr r)
    (c.loop-fixture.invariant f a)

pub returns : goal.returns
returns c =
    let m = c.args.matches.now in
    let i = c.loop-fixture.fixture-index in
    let none : drop i (keys_of m) ≡ [] =
    ap (drop i) (sym c.fixtures-fixture-items.ensures) ∙ drop_all i c.fixtures-fixture-items.result.now c.loop-fixture-test.false in
    all_rise m (λ f a. ⊎_elim (λ left. absurd (subst (λ ks. Among ks f) none left)) (λ r. r) (c.loop-fixture.invariant f a))
