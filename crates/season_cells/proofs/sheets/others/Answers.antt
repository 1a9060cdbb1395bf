use Rattle.std.proofs.Common.{◌≡◌, ◌+◌, ◌∷◌, ℕ, IsTrue, true, false, List, [], drop, is_some, arith, refl, sym, ◌∙◌, subst, ap}
use Rattle.std.proofs.lemmas.List.{drop_all, drop_more}
use Rattle.rule_book.specs.MatchFacts.{line_of, lines_of, players_in}
use Rattle.season_cells.proofs.Others.{AreSeen, all_seen, gets_again, gets_found, had_found, had_same, none_seen}
use Rattle.season_cells.proofs.sheets.others.Goals as goal
use Rattle.season_cells.proofs.sheets.others.Goals.{then-not-has_line+in_ok-push, else-not-has_line, then-not-has_line-2+in_ok-push-2, else-not-has_line-2}

is_true : IsTrue true
is_true = cc

untrue : IsTrue false → ⊥
untrue t = cc

pub loop-player-preserved : goal.loop-player-preserved
loop-player-preserved g c =
    let old = lines_of c.args.season.now.matches c.args.fixture in
    let new = c.args.lines.now in
    let ps = c.players_of-player-items.result.now in
    let i = c.loop-player.player-index in
    let p = c.player-item.result in
    let are : ps ≡ players_in old = c.players_of-player-items.ensures.players ∙ ap (λ m. players_in (lines_of m c.args.fixture)) c.matches.ensures in
    let rest : List ℕ = drop (i + 1) (players_in old) in
    let split : drop i (players_in old) ≡ p ∷ rest =
    ap (drop i) (sym are) ∙ drop_more ps i p c.loop-player-test.true ∙ ap (λ q. q ∷ drop (i + 1) ps) (sym c.player-item.is) ∙ ap (λ qs. p ∷ drop (i + 1) qs) are in
    let seen : AreSeen old new c.loop-player.found.items (p ∷ rest) (players_in new) = subst (λ had. AreSeen old new c.loop-player.found.items had (players_in new)) split c.loop-player.invariant.seen in
    record {
      seen = elim c.if-not-has_line.branch [
        | then-not-has_line+in_ok-push w ↦
            subst (λ found. AreSeen old new found rest (players_in new)) (sym (ap (λ v. v.items) w.found-is ∙ w.in_ok-push.ensures.items))
            (had_found old new c.loop-player.found.items rest (players_in new) p (λ e. untrue (w.if-not-has_line.ensures.same.1 (e ∙ sym c.line_among.ensures))) seen)
        | else-not-has_line w ↦
            subst (λ found. AreSeen old new found rest (players_in new)) (sym (ap (λ v. v.items) w.found-is))
            (had_same old new c.loop-player.found.items rest (players_in new) p (w.if-not-has_line.ensures.same.0 is_true ∙ c.line_among.ensures) seen)
      ];
      cost = elim c.if-not-has_line.branch [
        | then-not-has_line+in_ok-push w ↦ omega (arith, c.loop-player.invariant.cost, w.if-not-has_line.ensures.counted)
        | else-not-has_line w ↦ omega (arith, c.loop-player.invariant.cost, w.if-not-has_line.ensures.counted)
      ];
    }

pub loop-row-preserved : goal.loop-row-preserved
loop-row-preserved g c =
    let old = lines_of c.args.season.now.matches c.args.fixture in
    let new = c.args.lines.now in
    let i = c.loop-row.row-index in
    let row = c.row-item.result in
    let rest : List ℕ = players_in (drop (i + 1) new) in
    let split : players_in (drop i new) ≡ row.0 ∷ rest = ap players_in (drop_more new i row c.loop-row-test.true ∙ ap (λ q. q ∷ drop (i + 1) new) (sym c.row-item.is)) in
    let seen : AreSeen old new c.loop-row.found.items [] (row.0 ∷ rest) = subst (λ get. AreSeen old new c.loop-row.found.items [] get) split c.loop-row.invariant in
    elim c.if-not-has_line-2.branch [
      | then-not-has_line-2+in_ok-push-2 w ↦
          subst (λ found. AreSeen old new found [] rest) (sym (ap (λ v. v.items) w.found-is ∙ w.in_ok-push-2.ensures.items))
          (gets_found old new c.loop-row.found.items [] rest row.0 (ap (λ m. is_some (line_of m c.args.fixture row.0)) (sym c.matches-in-loop-row.ensures) ∙ sym w.if-not-has_line-2.ensures) seen)
      | else-not-has_line-2 w ↦
          subst (λ found. AreSeen old new found [] rest) (sym (ap (λ v. v.items) w.found-is))
          (gets_again old new c.loop-row.found.items [] rest row.0 (ap (λ m. is_some (line_of m c.args.fixture row.0)) (sym c.matches-in-loop-row.ensures) ∙ sym w.if-not-has_line-2.ensures) seen)
    ]

pub returns-clause-others : goal.returns-clause-others
returns-clause-others g c =
    let old = lines_of c.args.season.now.matches c.args.fixture in
    let new = c.args.lines.now in
    let none : players_in (drop c.loop-row.row-index new) ≡ [] = ap players_in (drop_all c.loop-row.row-index new c.loop-row-test.false) in
    all_seen old new c.loop-row.found.items (subst (λ get. AreSeen old new c.loop-row.found.items [] get) none c.loop-row.invariant)

pub loop-player-init : goal.loop-player-init
loop-player-init g c =
    let old = lines_of c.args.season.now.matches c.args.fixture in
    let new = c.args.lines.now in
    record {
      seen = subst (λ found. AreSeen old new found (players_in old) (players_in new)) (sym c.new-found.ensures.items) (none_seen old new (players_in old) (players_in new) refl refl);
      cost = omega arith;
    }
