use Rattle.std.proofs.Common.{◌≡◌, ◌<◌, ◌∙◌, ℕ, [], ◌∷◌, List, Option, Some, None, ap, append-nil, arith, get_or, length, refl, slice_get, subst, sum_by, sym, zip}
use Rattle.std.specs.Prelude.{IfSome}
use Rattle.std.specs.Option.{option_and_then, option_map_or}
use Rattle.std.proofs.lemmas.List.Sums.{sum_by-cons}
use Rattle.rule_book.specs.declared.line.Line.{Line}
use Rattle.rule_book.specs.declared.season.Fixture.{Fixture}
use Rattle.rule_book.specs.ById.{at_id}
use Rattle.rule_book.specs.MatchFacts.{Lines, lines_of, players_in}
use Rattle.season_views.proofs.Written.{retold}
use Rattle.season_book.specs.ElementSummary.{history_row}
use Rattle.season_views.specs.FixturesReads.{match_reads}
use Rattle.fixture_windows.specs.RowParts.{row_tokens}
use Rattle.fixture_windows.proofs.HistoryFacts.{as_long, only_lines, row_at, sides_are}
use Rattle.fixture_windows.proofs.RowFacts.{players_are}
use Rattle.fixture_windows.proofs.WrittenRows.{ending}
use Rattle.fixture_windows.proofs.element_summary.write_if_played.Goals as goal

-- what is found of a player's place is his line
line_found : (rows : Lines) (players : List ℕ) (p : ℕ) (o : Option ℕ) → players ≡ players_in rows → ((lines : List Line) → length lines ≡ length players → option_and_then (λ place. slice_get lines place) o ≡ at_id (zip players lines) p)
    → option_and_then (λ place. slice_get (only_lines rows) place) o ≡ at_id rows p
line_found rows players p o are found =
    found (only_lines rows) (as_long rows ∙ sym (ap length are))
    ∙ ap (λ (ps : List ℕ). at_id (zip ps (only_lines rows)) p) are ∙ ap (λ (l : Lines). at_id l p) (sides_are rows)

-- so is his row
row_found : (rows : Lines) (players : List ℕ) (p place : ℕ) (o : Option ℕ) → players ≡ players_in rows → ((lines : List Line) → length lines ≡ length players → option_and_then (λ k. slice_get lines k) o ≡ at_id (zip players lines) p)
    → IfSome o (λ k. (k < length players) × ((d : ℕ) → get_or players k d ≡ p)) → o ≡ Some place → (line : Line) × (slice_get rows place ≡ Some (p, line)) × (at_id rows p ≡ Some line)
row_found rows players p place o are found there is =
    let here = subst (λ (q : Option ℕ). IfSome q (λ k. (k < length players) × ((d : ℕ) → get_or players k d ≡ p))) is there in
    let at : slice_get (only_lines rows) place ≡ at_id rows p =
    ap (λ (q : Option ℕ). option_and_then (λ k. slice_get (only_lines rows) k) q) (sym is) ∙ line_found rows players p o are found in
    row_at rows place p (at_id rows p) (subst (λ (ps : List ℕ). place < length ps) are here.0) (λ d. ap (λ (ps : List ℕ). get_or ps place d) (sym are) ∙ here.1 d) at

pub write_at-requires-clause-place : goal.write_at-requires-clause-place
write_at-requires-clause-place g c =
    let facts = c.args.seen.now.facts in
    let f = c.args.fixture.now.id in
    let rows = c.read_match-rows.result in
    let players = c.players_of.result.now in
    let here = subst (λ (o : Option ℕ). IfSome o (λ k. (k < length players) × ((d : ℕ) → get_or players k d ≡ c.args.player))) c.in-Some.is c.place_of.ensures.there in
    let same : players ≡ rows.players.now = c.players_of.ensures ∙ sym (players_are facts f rows.players.now rows.lines.now rows.bonuses.now c.read_match-rows.ensures.rows) in
    subst (λ (ps : List ℕ). c.in-Some.place < length ps) same here.0

pub returns-in-Some-clause-value : goal.returns-in-Some-clause-value
returns-in-Some-clause-value g c =
    let facts = c.args.seen.now.facts in
    let fixture = c.args.fixture.now in
    let p = c.args.player in
    let here = row_found (lines_of facts.matches fixture.id) c.players_of.result.now p c.in-Some.place c.place_of.result c.players_of.ensures c.place_of.ensures.found c.place_of.ensures.there c.in-Some.is in
    retold (ap (λ (o : Option Line). row_tokens (history_row facts p) (option_map_or (λ line. (fixture, line) ∷ []) o [])) (sym here.2)) (ending (c.write_at.ensures (p, here.0) here.1))

pub returns-in-Some-clause-cost : goal.returns-in-Some-clause-cost
returns-in-Some-clause-cost g c =
    let facts = c.args.seen.now.facts in
    let fixture = c.args.fixture.now in
    let p = c.args.player in
    let here = row_found (lines_of facts.matches fixture.id) c.players_of.result.now p c.in-Some.place c.place_of.result c.players_of.ensures c.place_of.ensures.found c.place_of.ensures.there c.in-Some.is in
    let reads : Fixture × Line → ℕ = λ row. match_reads facts row.0.id in
    let one = ap (λ (o : Option Line). sum_by reads (option_map_or (λ line. (fixture, line) ∷ []) o [])) here.2 ∙ sum_by-cons reads (fixture, here.0) [] in
    omega (arith, one, c.read_match-rows.ensures.cost)

pub returns-in-None-clause-value : goal.returns-in-None-clause-value
returns-in-None-clause-value g c =
    let facts = c.args.seen.now.facts in
    let fixture = c.args.fixture.now in
    let p = c.args.player in
    let rows = lines_of facts.matches fixture.id in
    let none : None ≡ at_id rows p =
    ap (λ (o : Option ℕ). option_and_then (λ k. slice_get (only_lines rows) k) o) (sym c.in-None.is) ∙ line_found rows c.players_of.result.now p c.place_of.result c.players_of.ensures c.place_of.ensures.found in
    retold (ap (λ (o : Option Line). row_tokens (history_row facts p) (option_map_or (λ line. (fixture, line) ∷ []) o [])) none) (record { tokens = sym (append-nil c.args.out.now.tokens); before = refl })
