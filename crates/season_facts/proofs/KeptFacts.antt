-- What holds of the facts of a season holds of the changed ones.
use Rattle.std.proofs.Common.{◌≡◌, ◌-◌, ℕ, Bool, true, false, cond, List, [], ◌∷◌, Option, Some, None, ◌==◌, if◌then◌else◌, nat_lt, filter, map, arith, refl, sym, subst, ◌∙◌}
use Rattle.std.specs.List.{All, list_all}
use Rattle.std.specs.Prelude.{Result, Ok, Err, OnOk, OnErr, is_some}
use Rattle.std.proofs.lemmas.Bool.{and_parts, false≢true}
use Rattle.std.proofs.lemmas.Bool.Decides.{nat_tests}
use Rattle.std.proofs.lemmas.List.Elements.{All-append, All-cons, All-filter, All-map, All-weaker}
use Rattle.std.proofs.lemmas.Option.{same_Some, none-some}
use Rattle.fpl_base.specs.declared.memory.Refused.{Refused}
use Rattle.fpl_base.specs.declared.rule.Rule.{Rule}
use Rattle.rule_book.specs.declared.line.Line.{Line}
use Rattle.rule_book.specs.declared.player.Player.{Player}
use Rattle.rule_book.specs.declared.season.Fixture.{Fixture}
use Rattle.rule_book.specs.Calendar.{CalendarFacts, between, moved_to, with_fixture, with_move, with_opponents}
use Rattle.rule_book.specs.Figures.{IsLine, greatest_figures, line_range}
use Rattle.rule_book.specs.MatchCalls.{line_refusal, lines_full, lines_range, line_twice, not_locked, sheet_refusal}
use Rattle.rule_book.specs.MatchFacts.{Lines, MatchFacts, Sheet, by_player, line_in, line_of, lines_of, players_in, sheet_of, with_line, with_sheet, without_line}
use Rattle.rule_book.specs.Players.{player_of, with_change, with_player}
use Rattle.rule_book.specs.Refusals.{IsJudged, IsJudgedOrOut, first_broken}
use Rattle.rule_book.specs.Repeats.{first_repeat}
use Rattle.match_facts.specs.Laws.{LinesAreAMap, LinesGo, SheetsAreAMap, SheetsHaveTheirLines}
use Rattle.match_facts.proofs.FirstAbove.{is_above, none_above}
use Rattle.season_facts.specs.Kept.{IsId}
use Rattle.season_facts.proofs.StillThere.{still_with_change, still_with_player}

-- the players' ids

abbrev HasId : Player → Type 0
HasId player = IsId player.id

pub ids_with_player : (players : List Player) (new : Player) → IsId new.id → All HasId players → All HasId (with_player players new)
ids_with_player players new own ids =
    let before = All-filter (λ p. nat_lt p.id new.id) HasId players ids in
    let behind = All-filter (λ p. nat_lt new.id p.id) HasId players ids in
    All-append HasId (filter (λ p. nat_lt p.id new.id) players) (new ∷ filter (λ p. nat_lt new.id p.id) players) before
    (All-cons HasId new (filter (λ p. nat_lt new.id p.id) players) own behind)

pub ids_with_change : (change : Player → Player) (players : List Player) (id : ℕ) → ((p : Player) → (change p).id ≡ p.id) → All HasId players → All HasId (with_change change players id)
ids_with_change change players id same ids =
    All-map HasId (λ p. if p.id == id then change p else p) players
    (All-weaker HasId (λ p. HasId (if p.id == id then change p else p))
    (λ p own. elim (p.id == id) as (λ b. HasId (if b then change p else p)) [ true ↦ subst IsId (sym (same p)) own | false ↦ own ]) players ids)

-- the fixtures' ids

abbrev HasFixtureId : Fixture → Type 0
HasFixtureId fixture = IsId fixture.id

pub ids_with_fixture : (calendar : CalendarFacts) (new : Fixture) → IsId new.id → All HasFixtureId calendar.fixtures → All HasFixtureId (with_fixture calendar new).fixtures
ids_with_fixture calendar new own ids =
    let before = All-filter (λ x. nat_lt x.id new.id) HasFixtureId calendar.fixtures ids in
    let behind = All-filter (λ x. nat_lt new.id x.id) HasFixtureId calendar.fixtures ids in
    All-append HasFixtureId (filter (λ x. nat_lt x.id new.id) calendar.fixtures) (new ∷ filter (λ x. nat_lt new.id x.id) calendar.fixtures) before
    (All-cons HasFixtureId new (filter (λ x. nat_lt new.id x.id) calendar.fixtures) own behind)

pub ids_with_move : (calendar : CalendarFacts) (f : ℕ) (to : Option ℕ) (kickoff : ℕ) → All HasFixtureId calendar.fixtures → All HasFixtureId (with_move calendar f to kickoff).fixtures
ids_with_move calendar f to kickoff ids =
    All-map HasFixtureId (moved_to f to kickoff) calendar.fixtures
    (All-weaker HasFixtureId (λ x. HasFixtureId (moved_to f to kickoff x))
    (λ x own. elim (x.id == f) as (λ b. HasFixtureId (if b then record x { gw = to; kickoff = kickoff } else x)) [ true ↦ own | false ↦ own ]) calendar.fixtures ids)

pub ids_with_opponents : (calendar : CalendarFacts) (f home away : ℕ) → All HasFixtureId calendar.fixtures → All HasFixtureId (with_opponents calendar f home away).fixtures
ids_with_opponents calendar f home away ids =
    All-map HasFixtureId (between f home away) calendar.fixtures
    (All-weaker HasFixtureId (λ x. HasFixtureId (between f home away x))
    (λ x own. elim (x.id == f) as (λ b. HasFixtureId (if b then record x { home = home; away = away } else x)) [ true ↦ own | false ↦ own ]) calendar.fixtures ids)

-- the lines

-- what holds of each player with the line that he has in a fixture, or with none
module _ (Q : ℕ → Option Line → Type 0) where
  abbrev pub OfLines : Lines → Type 0
  OfLines lines = (p : ℕ) → Q p (line_in lines p)

  abbrev pub OfMatches : MatchFacts → Type 0
  OfMatches matches = (f p : ℕ) → Q p (line_of matches f p)

  module _ (maps : SheetsAreAMap) (matches : MatchFacts) (f : ℕ) (sheet : Sheet) (old : OfMatches matches) (new : OfLines sheet.lines) where
    chosen : (g : ℕ) (b : Bool) → OfLines (if b then sheet else sheet_of matches g).lines
    chosen g true = new
    chosen g false = old g

    pub of_sheet : OfMatches (with_sheet matches f sheet)
    of_sheet g p = subst (λ (s : Sheet). Q p (line_in s.lines p)) (sym (maps matches f sheet g)) (chosen g (g == f) p)

  -- one row more, in front
  pub of_row : (row : ℕ × Line) (lines : Lines) → Q row.0 (Some row.1) → OfLines lines → OfLines (row ∷ lines)
  of_row row lines own others p = either (row.0 == p) refl
    where
      either : (b : Bool) → (row.0 == p) ≡ b → Q p (cond b (Some row.1) (line_in lines p))
      either true same = let his : row.0 ≡ p = grind (arith, nat_tests, same) in subst (λ q. Q q (Some row.1)) his own
      either false apart = others p

  -- a line that is put in
  pub of_line : LinesAreAMap → (lines : Lines) (p : ℕ) (line : Line) → Q p (Some line) → OfLines lines → OfLines (with_line lines p line)
  of_line maps lines p line own others q = subst (Q q) (sym (maps lines p line q)) (either (q == p) refl)
    where
      either : (b : Bool) → (q == p) ≡ b → Q q (if b then Some line else line_in lines q)
      either true same = let his : p ≡ q = grind (arith, nat_tests, same) in subst (λ r. Q r (Some line)) his own
      either false apart = others q

  -- a line that is taken away
  pub of_no_line : LinesGo → (lines : Lines) (p : ℕ) → ((q : ℕ) → Q q None) → OfLines lines → OfLines (without_line lines p)
  of_no_line go lines p none others q = subst (Q q) (sym (go lines p q)) (either (q == p))
    where
      either : (b : Bool) → Q q (if b then None else line_in lines q)
      either true = none q
      either false = others q

  -- lines that are handed in, none of them of a player who has another
  pub of_sheet_lines : SheetsHaveTheirLines → (lines : Lines) → first_repeat (players_in lines) ≡ None → OfLines lines → OfLines (by_player lines)
  of_sheet_lines theirs lines once each p = subst (Q p) (sym (theirs lines p once)) (each p)

-- what no rule refuses

none_first : (broken : Option Rule) (more : List (Option Rule)) → first_broken (broken ∷ more) ≡ None → (broken ≡ None) × (first_broken more ≡ None)
none_first None more none = (refl, none)
none_first (Some rule) more none = absurd (none-some rule (sym none))

none_mapped : (o : Option ℕ) (f : ℕ → Rule) → Rattle.std.specs.Option.option_map f o ≡ None → o ≡ None
none_mapped None f none = refl
none_mapped (Some x) f none = absurd (none-some (f x) (sym none))

-- a sheet that no rule refuses: no player has two lines, and each line is in its ranges
pub sheet_parts : (f : ℕ) (locked : Bool) (lines : Lines) → sheet_refusal f locked lines ≡ None → (first_repeat (players_in lines) ≡ None) × (lines_range lines ≡ None)
sheet_parts f locked lines none =
    let first = none_first (not_locked f locked) (lines_full lines ∷ line_twice lines ∷ lines_range lines ∷ []) none in
    let second = none_first (lines_full lines) (line_twice lines ∷ lines_range lines ∷ []) first.1 in
    let third = none_first (line_twice lines) (lines_range lines ∷ []) second.1 in
    let fourth = none_first (lines_range lines) [] third.1 in
    (none_mapped _ _ third.0, fourth.0)

-- the ranges of the lines

-- a player's line is in its ranges
abbrev pub IsRanged : ℕ → Option Line → Type 0
IsRanged p found = (line : Line) → found ≡ Some line → IsLine line

abbrev pub AreRanged : Lines → Type 0
AreRanged lines = OfLines IsRanged lines

abbrev pub AllRanged : MatchFacts → Type 0
AllRanged matches = OfMatches IsRanged matches

pub ranged_none : (p : ℕ) → IsRanged p None
ranged_none p line at = absurd (none-some line at)

pub ranged_some : (p : ℕ) (line : Line) → IsLine line → IsRanged p (Some line)
ranged_some p line own other at = subst IsLine (same_Some line other at) own

-- a line that no rule refuses is in its ranges
pub ranged_line : (line : Line) → line_range line ≡ None → IsLine line
ranged_line line none =
    let above : Rattle.std.specs.Prelude.position is_above (Rattle.std.specs.List.zip line.figures (greatest_figures line)) ≡ None = none_mapped _ _ none in
    λ field first last. none_above line.figures (greatest_figures line) (field - 1) above (omega arith)

-- lines of which no rule refuses one
pub ranged_lines : (lines : Lines) → lines_range lines ≡ None → AreRanged lines
ranged_lines [] none = ranged_none
ranged_lines (row ∷ lines) none =
    let parts = none_first (line_range row.1) (map (λ other. line_range other.1) lines) none in
    of_row IsRanged row lines (ranged_some row.0 row.1 (ranged_line row.1 parts.0)) (ranged_lines lines parts.1)

-- a line that no rule refuses, among those of a fixture
pub line_in_range : (matches : MatchFacts) (f : ℕ) (locked : Bool) (p : ℕ) (line : Line) → line_refusal matches f locked p line ≡ None → IsLine line
line_in_range matches f locked p line none =
    let full = lines_full (with_line (lines_of matches f) p line) in
    let first = none_first (not_locked f locked) (full ∷ line_range line ∷ []) none in
    let second = none_first full (line_range line ∷ []) first.1 in
    let third = none_first (line_range line) [] second.1 in
    ranged_line line third.0

-- the players of the lines

-- a player who has a line is one of some
abbrev pub IsAmong : (ℕ → Bool) → ℕ → Option Line → Type 0
IsAmong has p found = is_some found ≡ true → has p ≡ true

pub among_none : (has : ℕ → Bool) (p : ℕ) → IsAmong has p None
among_none has p some = absurd (false≢true some)

-- lines that are handed in, each of one of them
pub among_lines : (has : ℕ → Bool) (lines : Lines) → list_all (λ row. has row.0) lines ≡ true → OfLines (IsAmong has) lines
among_lines has [] all = among_none has
among_lines has (row ∷ lines) all =
    let both = and_parts (has row.0) (list_all (λ row. has row.0) lines) all in
    of_row (IsAmong has) row lines (λ some. both.0) (among_lines has lines both.1)

-- a player of these
abbrev pub is_one_of : List Player → ℕ → Bool
is_one_of players p = is_some (player_of players p)

abbrev pub AllThere : List Player → MatchFacts → Type 0
AllThere players matches = OfMatches (IsAmong (is_one_of players)) matches

-- one player more
pub there_added : (players : List Player) (new : Player) (matches : MatchFacts) → AllThere players matches → AllThere (with_player players new) matches
there_added players new matches there f p some = still_with_player players new p (there f p some)

-- one player changed, but for his id
pub there_changed : (change : Player → Player) (players : List Player) (id : ℕ) (matches : MatchFacts) → ((p : Player) → (change p).id ≡ p.id) → AllThere players matches
    → AllThere (with_change change players id) matches
there_changed change players id matches same there f p some = still_with_change change same players id p ∙ there f p some

-- what is left by a call that was refused, or else did what it promises
module _ {X T : Type 0} (P : X → Type 0) (broken : Option Rule) (old new next : X) (before : P old) (behind : broken ≡ None → P next) where
  pub kept_or_out : (result : Result T Refused) → IsJudgedOrOut broken result → OnOk result (new ≡ next) → OnErr result (new ≡ old) → P new
  kept_or_out (Ok value) judged ok err = subst P (sym ok) (behind judged)
  kept_or_out (Err refused) judged ok err = subst P (sym err) before

  pub kept_or : (result : Result T Rule) → IsJudged broken result → OnOk result (new ≡ next) → OnErr result (new ≡ old) → P new
  kept_or (Ok value) judged ok err = subst P (sym ok) (behind judged)
  kept_or (Err rule) judged ok err = subst P (sym err) before
