-- What the plan of a command says is so.
use Rattle.std.proofs.Common.{◌≡◌, ◌≢◌, ⊎_elim, ◌<◌, ◌++◌, ◌∷◌, [], ℕ, ◌==◌, nat_le, nat_lt, length, if◌then◌else◌, arith, Bool, true, false, cond, List, Option, Some, None, is_some, IsSomeAnd, refl, sym, ◌∙◌, ap, subst}
use Rattle.std.specs.Option.{option_map_or}
use Rattle.std.proofs.lemmas.Bool.{and_parts, false≢true}
use Rattle.std.proofs.lemmas.Bool.Decides.{nat_tests}
use Rattle.std.proofs.lemmas.Option.{none-some}
use Rattle.fpl_base.specs.declared.kinds.Caller.{Caller}
use Rattle.fpl_base.specs.declared.kinds.Position.{Position}
use Rattle.fpl_base.specs.declared.rule.Rule.{Rule}
use Rattle.fpl_base.specs.declared.rule.Rule.TheVariants as rule
use Rattle.rule_book.specs.declared.cup.Bracket.{Bracket}
use Rattle.rule_book.specs.declared.line.Line.{Line}
use Rattle.rule_book.specs.declared.player.Player.{Player}
use Rattle.rule_book.specs.declared.season.Fixture.{Fixture}
use Rattle.rule_book.specs.Calendar.{IsCalendar, next_gameweek, stands_in}
use Rattle.rule_book.specs.CupCalls.{cup_refusal, most_cups}
use Rattle.rule_book.specs.Cups.{is_cup, wrong_cup}
use Rattle.rule_book.specs.Entries.{entry_in}
use Rattle.rule_book.specs.LeagueCalls.{new_league}
use Rattle.rule_book.specs.Leagues.{LeagueFacts}
use Rattle.rule_book.specs.MatchCalls.{drop_line, put_line, put_sheet, set_finished}
use Rattle.rule_book.specs.MatchFacts.{Lines, MatchFacts, Sheet, by_player, is_finished, line_in, line_of, lines_of, sheet_of, with_line, with_sheet, without_line}
use Rattle.rule_book.specs.Refusals.{first_broken, unless}
use Rattle.rule_book.specs.Repeats.{first_repeat}
use Rattle.rule_book.specs.Batch.{is_same_position}
use Rattle.rule_book.specs.PlayerFigures.{position_in}
use Rattle.rule_book.specs.Players.{player_of}
use Rattle.rule_book.specs.Uses.{has_lines}
use Rattle.leagues_and_cups.specs.Books.{Rise}
use Rattle.leagues_and_cups.specs.Shapes.{HasShape}
use Rattle.match_facts.specs.Laws.{LinesAreAMap, LinesGo, SheetsAreAMap, SheetsHaveTheirLines}
use Rattle.manager_book.specs.declared.manager.Manager.{Manager}
use Rattle.manager_book.specs.Managers.{AreRisen, manager_in, managers_had}
use Rattle.rule_book.specs.EntryCalls.{in_next}
use Rattle.season_book.specs.Book.{Facts, caller_number}
use Rattle.season_book.specs.Commands.{changed_by, has_fixture, has_player, is_in_locked, part_of}
use Rattle.season_book.specs.Doing.{IsGranted}
use Rattle.season_book.specs.LeagueCommands.{league_refusal, leagues_after, leagues_there}
use Rattle.season_book.specs.declared.command.Command.{Command}
use Rattle.season_book.specs.declared.command.Command.TheVariants as command
use Rattle.season_book.specs.declared.part.Part.{Part}
use Rattle.season_book.specs.declared.part.Part.TheVariants as part
use Rattle.season_competitions.specs.Cups.{IsCupGranted, cups_after}
use Rattle.season_entries.specs.Amended.{CanAmend}
use Rattle.season_entries.specs.Deeds.{rows_refused_in}
use Rattle.season_entries.proofs.Amended.{no_line, no_use, one_position}
use Rattle.rule_book.proofs.HadFacts.{neither}
use Rattle.season_entries.specs.Earlier.{EarlierRowsTell}
use Rattle.season_facts.proofs.KeptFacts.{among_lines, line_in_range, ranged_lines, sheet_parts}
use Rattle.season_graph.specs.BookChanges.{AreOthers, AreSheetLines, ClubChanges, CupIsDrawn, DeadlineMoves, OpponentsChange, FixtureComes, FixtureMoves, GoneChanges, LeagueIsDrawn, LeagueIsJoined, LeagueIsMade, LineIsDropped, LineIsPut, ManagersChange, MarkIsSet, PlayerComes, PositionChanges, PriceChanges, SheetIsPut}
use Rattle.season_graph.specs.Changes.{AreAlike, EntriesStay, DifferInLeague, DifferInLine, DifferInMark, DifferInPlace, DifferInSheet, SameIsAlike}
use Rattle.season_graph.specs.Touched.{is_other}
use Rattle.season_nodes.specs.Season.{IsSeason, SeasonFacts}
use Rattle.season_running.specs.Accepting.{IsAmendable, IsGrantedIn}
use Rattle.season_running.specs.Changed.{IsChangedIn, facts_with, managers_rekeyed, managers_with}
use Rattle.season_running.specs.Standing.{Running}
use Rattle.season_cells.specs.Kept.{season_seen}
use Rattle.season_cells.specs.Leading.{LeadsTo, PlansLead}
use Rattle.season_cells.specs.Plans.{IsLeagued, IsLined, IsMarked, IsPlaced, IsPlanOf, IsSheet}
use Rattle.season_cells.specs.declared.plan.Plan.{Plan}
use Rattle.season_cells.specs.declared.plan.Plan.TheVariants as plan
use Rattle.season_cells.proofs.Drawn.{can_be_drawn}
use Rattle.season_cells.proofs.Places.{comes_from_nowhere, comes_there, moves_there}
use Rattle.season_cells.proofs.Stays.{deed_stays, key_stays, rekey_stays}

-- the laws of which it is made
pub record AreLaws : Type 0 where
  pub put : LineIsPut
  pub dropped : LineIsDropped
  pub marked : MarkIsSet
  pub sheet : SheetIsPut
  pub moves : FixtureMoves
  pub comes : FixtureComes
  pub deadline : DeadlineMoves
  pub opponents : OpponentsChange
  pub player : PlayerComes
  pub price : PriceChanges
  pub club : ClubChanges
  pub gone : GoneChanges
  pub position : PositionChanges
  pub managers : ManagersChange
  pub made : LeagueIsMade
  pub joined : LeagueIsJoined
  pub drawn : LeagueIsDrawn
  pub cup : CupIsDrawn
  pub shape : (b : Bracket) (gameweeks locked : ℕ) → wrong_cup b gameweeks locked ≡ None → HasShape b
  pub alike : SameIsAlike
  pub tell : EarlierRowsTell
  pub sheets : SheetsAreAMap
  pub lines : LinesAreAMap
  pub lines_go : LinesGo
  pub theirs : SheetsHaveTheirLines

first_test : (t : Bool) (rule : Rule) (more : Option Rule) → cond t (Some rule) more ≡ None → t ≡ false
first_test true rule more e = cc
first_test false rule more e = refl

-- a draw that nothing refuses breaks no rule of cups
second_none : (t : Bool) (broken : Rule) (wrong : Option Rule) (more : List (Option Rule)) → first_broken (unless t broken ∷ wrong ∷ more) ≡ None → wrong ≡ None
second_none true broken None more e = refl
second_none true broken (Some other) more e = e
second_none false broken wrong more e = absurd (none-some broken (sym e))

not_wrong : (count : ℕ) (b : Bracket) (gameweeks locked : ℕ) → cup_refusal (λ number. true) count b gameweeks locked ≡ None → wrong_cup b gameweeks locked ≡ None
not_wrong count b gameweeks locked e = second_none (nat_lt count most_cups) rule.CupsFull (wrong_cup b gameweeks locked) _ e

-- and its start is open
open_case : (t : Bool) (broken : Rule) (more : Option Rule) → (if t then Some broken else more) ≡ None → t ≡ false
open_case true broken more e = cc
open_case false broken more e = refl

not_by : (m n : ℕ) → nat_le m n ≡ false → n < m
not_by m n e = grind (arith, nat_tests, e)

is_open : (b : Bracket) (gameweeks locked : ℕ) → wrong_cup b gameweeks locked ≡ None → locked < b.start
is_open b gameweeks locked e = not_by b.start locked (open_case (nat_le b.start locked) (rule.StartPassed b.start) (if is_cup b gameweeks then None else Some rule.DrawWrong) e)

is_not_other : (x y : Bool) → is_other x y ≡ false → x ≡ y
is_not_other true true e = refl
is_not_other true false e = cc
is_not_other false true e = cc
is_not_other false false e = refl

is_other_apart : (x y : Bool) → is_other x y ≡ true → x ≢ y
is_other_apart true true e i = false≢true e
is_other_apart true false e i = false≢true (sym i)
is_other_apart false true e i = false≢true i
is_other_apart false false e i = false≢true e

same_id : (n : ℕ) → (n == n) ≡ true
same_id n = grind (arith, nat_tests)

module _ (laws : AreLaws) where
  -- the sheet that was put in is there
  sheet_put : (m : MatchFacts) (k : ℕ) (sheet : Sheet) → sheet_of (with_sheet m k sheet) k ≡ sheet
  sheet_put m k sheet = laws.sheets m k sheet k ∙ ap (λ t. if t then sheet else sheet_of m k) (same_id k)

  line_put : (m : MatchFacts) (k p : ℕ) (line : Line) → line_of (put_line m k p line) k p ≡ Some line
  line_put m k p line =
      ap (λ (s : Sheet). line_in s.lines p) (sheet_put m k (record { lines = with_line (lines_of m k) p line; finished = is_finished m k }))
      ∙ laws.lines (lines_of m k) p line p ∙ ap (λ t. if t then Some line else line_in (lines_of m k) p) (same_id p)

  line_gone : (m : MatchFacts) (k p : ℕ) → line_of (drop_line m k p) k p ≡ None
  line_gone m k p =
      ap (λ (s : Sheet). line_in s.lines p) (sheet_put m k (record { lines = without_line (lines_of m k) p; finished = is_finished m k }))
      ∙ laws.lines_go (lines_of m k) p p ∙ ap (λ t. if t then None else line_in (lines_of m k) p) (same_id p)

  mark_put : (m : MatchFacts) (k : ℕ) (finished : Bool) → is_finished (set_finished m k finished) k ≡ finished
  mark_put m k finished = ap (λ (s : Sheet). s.finished) (sheet_put m k (record { lines = lines_of m k; finished = finished }))

  lines_put : (m : MatchFacts) (k : ℕ) (lines : Lines) (finished : Bool) (p : ℕ) → first_repeat (Rattle.rule_book.specs.MatchFacts.players_in lines) ≡ None → line_of (put_sheet m k lines finished) k p ≡ line_in lines p
  lines_put m k lines finished p once =
      ap (λ (s : Sheet). line_in s.lines p) (sheet_put m k (record { lines = by_player lines; finished = finished })) ∙ laws.theirs lines p once

  sheet_mark : (m : MatchFacts) (k : ℕ) (lines : Lines) (finished : Bool) → is_finished (put_sheet m k lines finished) k ≡ finished
  sheet_mark m k lines finished = ap (λ (s : Sheet). s.finished) (sheet_put m k (record { lines = by_player lines; finished = finished }))

  -- where a fixture stands, that is named with where it stood
  place_leads : (b d : SeasonFacts) (f : ℕ) (from to : Option ℕ) (made : Plan) → IsSeason b → IsSeason d → DifferInPlace b d f
      → stands_in b.calendar f ≡ from → stands_in d.calendar f ≡ to → IsPlaced f from to made → LeadsTo b d made
  place_leads b d f from to plan.Nothing is_b is_d differ stood stands e = record { season = is_d; differ = laws.alike.place b d f is_b is_d differ (stood ∙ e ∙ sym stands) }
  place_leads b d f from to (plan.Place k was is) is_b is_d differ stood stands h = record {
    season = is_d;
    differ = (
      subst (λ n. DifferInPlace b d n) (sym h.0) differ,
      h.1 ∙ sym stood ∙ ap (stands_in b.calendar) (sym h.0),
      h.2 ∙ sym stands ∙ ap (stands_in d.calendar) (sym h.0),
      λ same. h.3 (sym h.1 ∙ same ∙ h.2),
    );
  }
  place_leads b d f from to (plan.Player p) is_b is_d differ stood stands h = absurd h
  place_leads b d f from to (plan.Line k p) is_b is_d differ stood stands h = absurd h
  place_leads b d f from to (plan.Mark k) is_b is_d differ stood stands h = absurd h
  place_leads b d f from to (plan.Sheet k ps marked) is_b is_d differ stood stands h = absurd h
  place_leads b d f from to (plan.League l) is_b is_d differ stood stands h = absurd h

  -- a line
  line_leads : (b d : SeasonFacts) (f p : ℕ) (old new : Option Line) (made : Plan) → IsSeason d → DifferInLine b d f p
      → line_of b.matches f p ≡ old → line_of d.matches f p ≡ new → IsLined f p old new made → LeadsTo b d made
  line_leads b d f p old new plan.Nothing is_d differ was is e = record { season = is_d; differ = laws.alike.line b d f p differ (was ∙ e ∙ sym is) }
  line_leads b d f p old new (plan.Line k q) is_d differ was is h = record {
    season = is_d;
    differ = (
      subst (λ n. DifferInLine b d n q) (sym h.0) (subst (λ n. DifferInLine b d f n) (sym h.1) differ),
      λ same. h.2 (sym was ∙ ap (line_of b.matches f) (sym h.1) ∙ ap (λ n. line_of b.matches n q) (sym h.0) ∙ same ∙ ap (λ n. line_of d.matches n q) h.0 ∙ ap (line_of d.matches f) h.1 ∙ is),
    );
  }
  line_leads b d f p old new (plan.Player q) is_d differ was is h = absurd h
  line_leads b d f p old new (plan.Place k from to) is_d differ was is h = absurd h
  line_leads b d f p old new (plan.Mark k) is_d differ was is h = absurd h
  line_leads b d f p old new (plan.Sheet k ps marked) is_d differ was is h = absurd h
  line_leads b d f p old new (plan.League l) is_d differ was is h = absurd h

  -- a mark
  mark_leads : (b d : SeasonFacts) (f : ℕ) (old new : Bool) (made : Plan) → IsSeason d → DifferInMark b d f
      → is_finished b.matches f ≡ old → is_finished d.matches f ≡ new → IsMarked f old new made → LeadsTo b d made
  mark_leads b d f old new plan.Nothing is_d differ was is e = record { season = is_d; differ = laws.alike.mark b d f differ (was ∙ e ∙ sym is) }
  mark_leads b d f old new (plan.Mark k) is_d differ was is h = record {
    season = is_d;
    differ = (
      subst (λ n. DifferInMark b d n) (sym h.0) differ,
      λ same. h.1 (sym was ∙ ap (is_finished b.matches) (sym h.0) ∙ same ∙ ap (is_finished d.matches) h.0 ∙ is),
    );
  }
  mark_leads b d f old new (plan.Player q) is_d differ was is h = absurd h
  mark_leads b d f old new (plan.Place k from to) is_d differ was is h = absurd h
  mark_leads b d f old new (plan.Line k q) is_d differ was is h = absurd h
  mark_leads b d f old new (plan.Sheet k ps marked) is_d differ was is h = absurd h
  mark_leads b d f old new (plan.League l) is_d differ was is h = absurd h

  -- a league that is there
  league_leads : (b d : SeasonFacts) (leagues : List LeagueFacts) (l : ℕ) (made : Plan) → IsSeason d × DifferInLeague b d l → is_some (entry_in leagues l) ≡ true
      → IsLeagued leagues l made → LeadsTo b d made
  league_leads b d leagues l plan.Nothing left there h = absurd (false≢true (sym (ap is_some h) ∙ there))
  league_leads b d leagues l (plan.League k) left there h = record { season = left.0; differ = subst (λ n. DifferInLeague b d n) (sym h.0) left.1 }
  league_leads b d leagues l (plan.Player q) left there h = absurd h
  league_leads b d leagues l (plan.Place k from to) left there h = absurd h
  league_leads b d leagues l (plan.Line k q) left there h = absurd h
  league_leads b d leagues l (plan.Mark k) left there h = absurd h
  league_leads b d leagues l (plan.Sheet k ps marked) left there h = absurd h

  nothing_leads : (b d : SeasonFacts) (made : Plan) → made ≡ plan.Nothing → IsSeason d × AreAlike b d → LeadsTo b d made
  nothing_leads b d made e h = subst (λ x. LeadsTo b d x) (sym e) (record { season = h.0; differ = h.1 })

  -- a command on the facts
  module _ (f : Facts) (managers : List Manager) (leagues : List LeagueFacts) (cups : List Bracket) (now : ℕ) where
    abbrev b : SeasonFacts
    b = season_seen f managers leagues cups

    abbrev behind : Command → SeasonFacts
    behind command = season_seen (changed_by f command) managers leagues cups

    sheet_leads : (k : ℕ) (lines : Lines) (finished : Bool) (made : Plan) → IsSeason b → IsGranted f now (command.Sheet k lines finished)
        → IsSheet k (lines_of f.matches k) (is_finished f.matches k) lines finished made → LeadsTo b (behind (command.Sheet k lines finished)) made
    sheet_leads k lines finished plan.Nothing is granted h = absurd h
    sheet_leads k lines finished (plan.Player q) is granted h = absurd h
    sheet_leads k lines finished (plan.Place j from to) is granted h = absurd h
    sheet_leads k lines finished (plan.Line j q) is granted h = absurd h
    sheet_leads k lines finished (plan.Mark j) is granted h = absurd h
    sheet_leads k lines finished (plan.League l) is granted h = absurd h
    sheet_leads k lines finished (plan.Sheet j ps marked) is granted h =
        let d = behind (command.Sheet k lines finished) in
        let parts = sheet_parts k (is_in_locked f k) lines granted.unbroken in
        let there = (and_parts (has_fixture f k) _ granted.there).1 in
        let are : AreSheetLines f.players lines = record {
          once = parts.0;
          ranges = λ p line at. ranged_lines lines parts.1 p line at;
          there = λ p at. among_lines (has_player f) lines there p at;
        } in
        let others : AreOthers b k lines finished ps.items marked = record {
          lines_stay = λ q n. ⊎_elim (λ a. absurd (n a)) (λ e. e) (h.1.all q);
          mark_stays = λ e. is_not_other (is_finished f.matches k) finished (sym h.2 ∙ e);
        } in
        let left = laws.sheet b k lines finished ps.items marked is are others in record {
          season = left.0;
          differ = (
            subst (λ n. DifferInSheet b d n ps.items marked) (sym h.0) left.1,
            (λ p a same. h.1.within p a (ap (λ n. line_of f.matches n p) (sym h.0) ∙ same ∙ ap (λ n. line_of d.matches n p) h.0 ∙ lines_put f.matches k lines finished p parts.0)),
            (λ e same. is_other_apart (is_finished f.matches k) finished (sym h.2 ∙ e) (ap (is_finished f.matches) (sym h.0) ∙ same ∙ ap (is_finished d.matches) h.0 ∙ sheet_mark f.matches k lines finished)),
          );
        }

    pub facts_lead : (command : Command) (made : Plan) → part_of command ≡ part.Facts → IsSeason b → IsGranted f now command → IsPlanOf f leagues command made
        → IsCalendar (changed_by f command).calendar → LeadsTo b (behind command) made
    facts_lead (command.Season profile deadlines split clubs) made e is granted h lawful = absurd (none-some _ (sym granted.begins_none))
    facts_lead (command.Deadline g t) made e is granted h lawful = nothing_leads b (behind (command.Deadline g t)) made h (laws.deadline b g t is lawful)
    facts_lead (command.Player id name position club price) made e is granted h lawful =
        let x : Player = record { id = id; name = name; position = position; club = club; price = price; gone = false } in
        let left = laws.player b x is (first_test (is_some (player_of f.players id)) _ _ granted.unbroken) in
        subst (λ p. LeadsTo b (behind (command.Player id name position club price)) p) (sym h) (record { season = left.0; differ = left.1 })
    facts_lead (command.Price p price) made e is granted h lawful = nothing_leads b (behind (command.Price p price)) made h (laws.price b p price is)
    facts_lead (command.Club p club) made e is granted h lawful = nothing_leads b (behind (command.Club p club)) made h (laws.club b p club is)
    facts_lead (command.Gone p gone) made e is granted h lawful = nothing_leads b (behind (command.Gone p gone)) made h (laws.gone b p gone is)
    facts_lead (command.Fixture id home away g kickoff) made e is granted h lawful =
        let x : Fixture = record { id = id; home = home; away = away; gw = g; kickoff = kickoff } in
        let left = laws.comes b x is lawful in
        place_leads b (behind (command.Fixture id home away g kickoff)) id None g made is left.0 left.1 (comes_from_nowhere f.calendar x granted.unbroken) (comes_there f.calendar x) h
    facts_lead (command.Move k g kickoff) made e is granted h lawful =
        let left = laws.moves b k g kickoff is lawful in
        place_leads b (behind (command.Move k g kickoff)) k (stands_in f.calendar k) g made is left.0 left.1 refl (moves_there f.calendar k g kickoff (and_parts (has_fixture f k) _ granted.there).0) h
    facts_lead (command.AmendFixture k home away) made e is granted h lawful = nothing_leads b (behind (command.AmendFixture k home away)) made h (laws.opponents b k home away is lawful)
    facts_lead (command.AmendPlayer p name position) made e is granted h lawful = absurd cc
    facts_lead (command.Sheet k lines finished) made e is granted h lawful = sheet_leads k lines finished made is granted h
    facts_lead (command.Line k p line) made e is granted h lawful =
        let left = laws.put b k p line is (line_in_range f.matches k (is_in_locked f k) p line granted.unbroken) (and_parts (has_fixture f k) _ granted.there).1 in
        line_leads b (behind (command.Line k p line)) k p (line_of f.matches k p) (Some line) made left.0 left.1 refl (line_put f.matches k p line) h
    facts_lead (command.Drop k p) made e is granted h lawful =
        let left = laws.dropped b k p is in
        line_leads b (behind (command.Drop k p)) k p (line_of f.matches k p) None made left.0 left.1 refl (line_gone f.matches k p) h
    facts_lead (command.Finished k finished) made e is granted h lawful =
        let left = laws.marked b k finished is in
        mark_leads b (behind (command.Finished k finished)) k (is_finished f.matches k) finished made left.0 left.1 refl (mark_put f.matches k finished) h
    facts_lead (command.Key key name) made e is granted h lawful = absurd cc
    facts_lead (command.Rekey entry key name) made e is granted h lawful = absurd cc
    facts_lead (command.Squad players captain vice) made e is granted h lawful = absurd cc
    facts_lead (command.Transfers swaps) made e is granted h lawful = absurd cc
    facts_lead (command.Lineup players captain vice) made e is granted h lawful = absurd cc
    facts_lead (command.Chip chip) made e is granted h lawful = absurd cc
    facts_lead command.CancelChip made e is granted h lawful = absurd cc
    facts_lead (command.League kind name code start) made e is granted h lawful = absurd cc
    facts_lead (command.Join league code) made e is granted h lawful = absurd cc
    facts_lead (command.Draw league order) made e is granted h lawful = absurd cc
    facts_lead (command.Cup start slots coins) made e is granted h lawful = absurd cc

  -- a command on the leagues
  module _ (f : Facts) (managers : List Manager) (leagues : List LeagueFacts) (cups : List Bracket) (e : ℕ) where
    abbrev among : SeasonFacts
    among = season_seen f managers leagues cups

    abbrev after : Command → SeasonFacts
    after command = season_seen f managers (leagues_after leagues e command) cups

    -- the members of a league that is planned ascend
    planned_rise : (l : ℕ) (made : Plan) → is_some (entry_in leagues l) ≡ true → IsLeagued leagues l made → (league : LeagueFacts) → entry_in leagues l ≡ Some league → Rise league.members
    planned_rise l plan.Nothing there h league at = absurd (none-some league (sym h ∙ at))
    planned_rise l (plan.League k) there h league at = subst (λ o. IsSomeAnd o (λ (x : LeagueFacts). Rise x.members)) at h.1
    planned_rise l (plan.Player q) there h league at = absurd h
    planned_rise l (plan.Place k from to) there h league at = absurd h
    planned_rise l (plan.Line k q) there h league at = absurd h
    planned_rise l (plan.Mark k) there h league at = absurd h
    planned_rise l (plan.Sheet k ps marked) there h league at = absurd h

    leagues_lead : (command : Command) (made : Plan) → part_of command ≡ part.Leagues → IsSeason among → leagues_there f (λ number. true) leagues command ≡ true
        → league_refusal f true leagues e command ≡ None → IsPlanOf f leagues command made → LeadsTo among (after command) made
    leagues_lead (command.Season profile deadlines split clubs) made i is there unbroken h = absurd cc
    leagues_lead (command.Deadline g t) made i is there unbroken h = absurd cc
    leagues_lead (command.Player id name position club price) made i is there unbroken h = absurd cc
    leagues_lead (command.Price p price) made i is there unbroken h = absurd cc
    leagues_lead (command.Club p club) made i is there unbroken h = absurd cc
    leagues_lead (command.Gone p gone) made i is there unbroken h = absurd cc
    leagues_lead (command.Fixture id home away g kickoff) made i is there unbroken h = absurd cc
    leagues_lead (command.Move k g kickoff) made i is there unbroken h = absurd cc
    leagues_lead (command.AmendFixture k home away) made i is there unbroken h = absurd cc
    leagues_lead (command.AmendPlayer p name position) made i is there unbroken h = absurd cc
    leagues_lead (command.Sheet k lines finished) made i is there unbroken h = absurd cc
    leagues_lead (command.Line k p line) made i is there unbroken h = absurd cc
    leagues_lead (command.Drop k p) made i is there unbroken h = absurd cc
    leagues_lead (command.Finished k finished) made i is there unbroken h = absurd cc
    leagues_lead (command.Key key name) made i is there unbroken h = absurd cc
    leagues_lead (command.Rekey entry key name) made i is there unbroken h = absurd cc
    leagues_lead (command.Squad players captain vice) made i is there unbroken h = absurd cc
    leagues_lead (command.Transfers swaps) made i is there unbroken h = absurd cc
    leagues_lead (command.Lineup players captain vice) made i is there unbroken h = absurd cc
    leagues_lead (command.Chip chip) made i is there unbroken h = absurd cc
    leagues_lead command.CancelChip made i is there unbroken h = absurd cc
    leagues_lead (command.League kind name code start) made i is there unbroken h =
        let left = laws.made among (new_league kind name code start e) is refl in
        subst (λ p. LeadsTo among (after (command.League kind name code start)) p) (sym h) (record { season = left.0; differ = left.1 })
    leagues_lead (command.Join l code) made i is there unbroken h = league_leads among (after (command.Join l code)) leagues l made (laws.joined among l e is) there h
    leagues_lead (command.Draw l order) made i is there unbroken h =
        let known = (and_parts (is_some (entry_in leagues l)) _ there).0 in
        league_leads among (after (command.Draw l order)) leagues l made
        (laws.drawn among l order is (λ league at. can_be_drawn leagues l order f.calendar.locked league at (planned_rise l made known h league at) unbroken)) known h
    leagues_lead (command.Cup start slots coins) made i is there unbroken h = absurd cc

  -- a manager's command, and a key
  managers_lead : (f : Facts) (leagues : List LeagueFacts) (cups : List Bracket) (olds news : List Manager) (made : Plan) → made ≡ plan.Nothing → IsSeason (season_seen f olds leagues cups)
      → EntriesStay (season_seen f olds leagues cups) (season_seen f news leagues cups) → LeadsTo (season_seen f olds leagues cups) (season_seen f news leagues cups) made
  managers_lead f leagues cups olds news made e is stay =
      nothing_leads (season_seen f olds leagues cups) (season_seen f news leagues cups) made e (laws.managers (season_seen f olds leagues cups) (record { profile = f.profile; managers = news }) is stay)

  same_stays : (f : Facts) (managers : List Manager) (leagues : List LeagueFacts) (cups : List Bracket) → EntriesStay (season_seen f managers leagues cups) (season_seen f managers leagues cups)
  same_stays f managers leagues cups = record { begun = λ e g w. refl; team = λ e g l. refl; cost = λ e g l. refl }

  -- a cup that is drawn, which has not started
  cups_lead : (f : Facts) (managers : List Manager) (leagues : List LeagueFacts) (cups : List Bracket) (command : Command) (made : Plan) → made ≡ plan.Nothing → IsSeason (season_seen f managers leagues cups)
      → IsCupGranted f cups command → LeadsTo (season_seen f managers leagues cups) (season_seen f managers leagues (cups_after cups command)) made
  cups_lead f managers leagues cups command made e is granted =
      let bracket : Bracket = granted.0 in
      let wrong = not_wrong (length cups) bracket (length f.calendar.deadlines) f.calendar.locked granted.2 in
      let behind : cups_after cups command ≡ cups ++ bracket ∷ [] = ap (λ o. option_map_or (λ b. cups ++ b ∷ []) o cups) granted.1 in
      subst (λ cs. LeadsTo (season_seen f managers leagues cups) (season_seen f managers leagues cs) made) (sym behind)
      (nothing_leads (season_seen f managers leagues cups) (season_seen f managers leagues (cups ++ bracket ∷ [])) made e
      (laws.cup (season_seen f managers leagues cups) bracket is (laws.shape bracket (length f.calendar.deadlines) f.calendar.locked wrong)
      (is_open bracket (length f.calendar.deadlines) f.calendar.locked wrong)))

  -- a command on no facts and no leagues changes nothing that cells hang on
  nothing_of : (f : Facts) (leagues : List LeagueFacts) (command : Command) (made : Plan) → (part_of command ≡ part.Facts → ⊥) → (part_of command ≡ part.Leagues → ⊥)
      → IsPlanOf f leagues command made → made ≡ plan.Nothing
  nothing_of f leagues (command.Season profile deadlines split clubs) made other another h = absurd (other refl)
  nothing_of f leagues (command.Deadline g t) made other another h = absurd (other refl)
  nothing_of f leagues (command.Player id name position club price) made other another h = absurd (other refl)
  nothing_of f leagues (command.Price p price) made other another h = absurd (other refl)
  nothing_of f leagues (command.Club p club) made other another h = absurd (other refl)
  nothing_of f leagues (command.Gone p gone) made other another h = absurd (other refl)
  nothing_of f leagues (command.Fixture id home away g kickoff) made other another h = absurd (other refl)
  nothing_of f leagues (command.Move k g kickoff) made other another h = absurd (other refl)
  nothing_of f leagues (command.AmendFixture k home away) made other another h = absurd (other refl)
  nothing_of f leagues (command.AmendPlayer p name position) made other another h = h
  nothing_of f leagues (command.Sheet k lines finished) made other another h = absurd (other refl)
  nothing_of f leagues (command.Line k p line) made other another h = absurd (other refl)
  nothing_of f leagues (command.Drop k p) made other another h = absurd (other refl)
  nothing_of f leagues (command.Finished k finished) made other another h = absurd (other refl)
  nothing_of f leagues (command.Key key name) made other another h = h
  nothing_of f leagues (command.Rekey entry key name) made other another h = h
  nothing_of f leagues (command.Squad players captain vice) made other another h = h
  nothing_of f leagues (command.Transfers swaps) made other another h = h
  nothing_of f leagues (command.Lineup players captain vice) made other another h = h
  nothing_of f leagues (command.Chip chip) made other another h = h
  nothing_of f leagues command.CancelChip made other another h = h
  nothing_of f leagues (command.League kind name code start) made other another h = absurd (another refl)
  nothing_of f leagues (command.Join l code) made other another h = absurd (another refl)
  nothing_of f leagues (command.Draw l order) made other another h = absurd (another refl)
  nothing_of f leagues (command.Cup start slots coins) made other another h = h

  -- a key adds a manager who did nothing, and no other command adds one
  with_stays : (f : Facts) (managers : List Manager) (leagues : List LeagueFacts) (cups : List Bracket) (command : Command) → EntriesStay (season_seen f managers leagues cups) (season_seen f (managers_with managers command) leagues cups)
  with_stays f managers leagues cups (command.Season profile deadlines split clubs) = same_stays f managers leagues cups
  with_stays f managers leagues cups (command.Deadline g t) = same_stays f managers leagues cups
  with_stays f managers leagues cups (command.Player id name position club price) = same_stays f managers leagues cups
  with_stays f managers leagues cups (command.Price p price) = same_stays f managers leagues cups
  with_stays f managers leagues cups (command.Club p club) = same_stays f managers leagues cups
  with_stays f managers leagues cups (command.Gone p gone) = same_stays f managers leagues cups
  with_stays f managers leagues cups (command.Fixture id home away g kickoff) = same_stays f managers leagues cups
  with_stays f managers leagues cups (command.Move k g kickoff) = same_stays f managers leagues cups
  with_stays f managers leagues cups (command.AmendFixture k home away) = same_stays f managers leagues cups
  with_stays f managers leagues cups (command.AmendPlayer p name position) = same_stays f managers leagues cups
  with_stays f managers leagues cups (command.Sheet k lines finished) = same_stays f managers leagues cups
  with_stays f managers leagues cups (command.Line k p line) = same_stays f managers leagues cups
  with_stays f managers leagues cups (command.Drop k p) = same_stays f managers leagues cups
  with_stays f managers leagues cups (command.Finished k finished) = same_stays f managers leagues cups
  with_stays f managers leagues cups (command.Key key name) = key_stays f leagues cups managers key name
  with_stays f managers leagues cups (command.Rekey entry key name) = same_stays f managers leagues cups
  with_stays f managers leagues cups (command.Squad players captain vice) = same_stays f managers leagues cups
  with_stays f managers leagues cups (command.Transfers swaps) = same_stays f managers leagues cups
  with_stays f managers leagues cups (command.Lineup players captain vice) = same_stays f managers leagues cups
  with_stays f managers leagues cups (command.Chip chip) = same_stays f managers leagues cups
  with_stays f managers leagues cups command.CancelChip = same_stays f managers leagues cups
  with_stays f managers leagues cups (command.League kind name code start) = same_stays f managers leagues cups
  with_stays f managers leagues cups (command.Join league code) = same_stays f managers leagues cups
  with_stays f managers leagues cups (command.Draw league order) = same_stays f managers leagues cups
  with_stays f managers leagues cups (command.Cup start slots coins) = same_stays f managers leagues cups

  -- another key leaves what each manager did
  rekeyed_stays : (f : Facts) (managers : List Manager) (leagues : List LeagueFacts) (cups : List Bracket) (command : Command)
      → EntriesStay (season_seen f managers leagues cups) (season_seen f (managers_rekeyed managers command) leagues cups)
  rekeyed_stays f managers leagues cups (command.Rekey entry key name) = rekey_stays key name f leagues cups managers entry
  rekeyed_stays f managers leagues cups command = same_stays f managers leagues cups

  -- another position is that of a player who has no line, or it is the same
  lines_fit : (f : Facts) (managers : List Manager) (p : ℕ) (position : Position) → CanAmend f managers p position
      → (k : ℕ) → is_some (line_of f.matches k p) ≡ true → position_in f.players p ≡ position
  lines_fit f managers p position can k has = by_position (is_same_position (position_in f.players p) position) refl
    where
      by_position : (b : Bool) → is_same_position (position_in f.players p) position ≡ b → position_in f.players p ≡ position
      by_position true same = one_position (position_in f.players p) position same
      by_position false other =
          let unused = no_use f p position (managers_had managers p) other can.unbroken in
          absurd (false≢true (sym (no_line f.matches k p (neither (managers_had managers p) (has_lines f.matches p) unused).1) ∙ has))

  players_lead : (f : Facts) (managers : List Manager) (leagues : List LeagueFacts) (cups : List Bracket) (command : Command) (made : Plan) → made ≡ plan.Nothing
      → IsSeason (season_seen f managers leagues cups) → IsAmendable f managers command
      → LeadsTo (season_seen f managers leagues cups) (season_seen (facts_with f command) managers leagues cups) made
  players_lead f managers leagues cups (command.AmendPlayer p name position) made e is can =
      let b = season_seen f managers leagues cups in
      nothing_leads b (season_seen (facts_with f (command.AmendPlayer p name position)) managers leagues cups) made e (laws.position b p name position is (lines_fit f managers p position can))
  players_lead f managers leagues cups command made e is can =
      let b = season_seen f managers leagues cups in
      nothing_leads b b made e (laws.managers b (record { profile = f.profile; managers = managers }) is (same_stays f managers leagues cups))

  next_there : (o : Option ℕ) (judged : ℕ → Option Rule) → in_next o judged ≡ None → (n : ℕ) × (o ≡ Some n)
  next_there None judged e = absurd (none-some _ (sym e))
  next_there (Some n) judged e = (n, refl)

  -- a command of each part
  module _ (caller : Caller) (now : ℕ) (command : Command) (old new : Running) (made : Plan) (is : IsSeason (season_seen old.facts old.managers old.leagues old.cups)) (planned : IsPlanOf old.facts old.leagues command made)
      (lawful : IsCalendar new.facts.calendar) (up_old : AreRisen old.managers) (up_new : AreRisen new.managers) where
    abbrev Goal : Type 0
    Goal = LeadsTo (season_seen old.facts old.managers old.leagues old.cups) (season_seen new.facts new.managers new.leagues new.cups) made

    in_part : (p : Part) → part_of command ≡ p → IsGrantedIn p old (caller_number caller) now command → IsChangedIn p (caller_number caller) command old new → Goal
    in_part part.Facts e granted changed =
        subst (λ (r : Running). LeadsTo (season_seen old.facts old.managers old.leagues old.cups) (season_seen r.facts r.managers r.leagues r.cups) made) (sym changed)
        (facts_lead old.facts old.managers old.leagues old.cups now command made e is granted planned (subst (λ (r : Running). IsCalendar r.facts.calendar) changed lawful))
    in_part part.Players e granted changed =
        subst (λ (r : Running). LeadsTo (season_seen old.facts old.managers old.leagues old.cups) (season_seen r.facts r.managers r.leagues r.cups) made) (sym changed)
        (players_lead old.facts old.managers old.leagues old.cups command made
        (nothing_of old.facts old.leagues command made (λ i. players_apart (sym e ∙ i)) (λ i. leagues_apart (sym e ∙ i)) planned) is granted)
      where
        players_apart : part.Players ≡ part.Facts → ⊥
        players_apart i = cc

        leagues_apart : part.Players ≡ part.Leagues → ⊥
        leagues_apart i = cc
    in_part part.Entries e granted changed =
        subst (λ (r : Running). LeadsTo (season_seen old.facts old.managers old.leagues old.cups) (season_seen r.facts r.managers r.leagues r.cups) made) (sym changed)
        (managers_lead old.facts old.leagues old.cups old.managers (managers_with old.managers command) made
        (nothing_of old.facts old.leagues command made (λ i. entries_apart (sym e ∙ i)) (λ i. leagues_apart (sym e ∙ i)) planned) is (with_stays old.facts old.managers old.leagues old.cups command))
      where
        entries_apart : part.Entries ≡ part.Facts → ⊥
        entries_apart i = cc

        leagues_apart : part.Entries ≡ part.Leagues → ⊥
        leagues_apart i = cc
    in_part part.Keys e granted changed =
        subst (λ (r : Running). LeadsTo (season_seen old.facts old.managers old.leagues old.cups) (season_seen r.facts r.managers r.leagues r.cups) made) (sym changed)
        (managers_lead old.facts old.leagues old.cups old.managers (managers_rekeyed old.managers command) made
        (nothing_of old.facts old.leagues command made (λ i. keys_apart (sym e ∙ i)) (λ i. leagues_apart (sym e ∙ i)) planned) is (rekeyed_stays old.facts old.managers old.leagues old.cups command))
      where
        keys_apart : part.Keys ≡ part.Facts → ⊥
        keys_apart i = cc

        leagues_apart : part.Keys ≡ part.Leagues → ⊥
        leagues_apart i = cc
    in_part part.Deeds e granted changed =
        let next = next_there (next_gameweek old.facts.calendar) (rows_refused_in old.facts (manager_in old.managers (caller_number caller)).season command) granted.2.unbroken in
        let stay = deed_stays laws.tell old.facts old.leagues old.cups next.0 (caller_number caller) old.managers new.managers next.1 (changed.others old.facts.profile) (changed.earlier old.facts.profile) up_old up_new in
        subst (λ f. LeadsTo (season_seen old.facts old.managers old.leagues old.cups) (season_seen f new.managers new.leagues new.cups) made) (sym changed.facts)
        (subst (λ ls. LeadsTo (season_seen old.facts old.managers old.leagues old.cups) (season_seen old.facts new.managers ls new.cups) made) (sym changed.leagues)
        (subst (λ cs. LeadsTo (season_seen old.facts old.managers old.leagues old.cups) (season_seen old.facts new.managers old.leagues cs) made) (sym changed.cups)
        (managers_lead old.facts old.leagues old.cups old.managers new.managers made
        (nothing_of old.facts old.leagues command made (λ i. deeds_apart (sym e ∙ i)) (λ i. leagues_apart (sym e ∙ i)) planned) is stay)))
      where
        deeds_apart : part.Deeds ≡ part.Facts → ⊥
        deeds_apart i = cc

        leagues_apart : part.Deeds ≡ part.Leagues → ⊥
        leagues_apart i = cc
    in_part part.Leagues e granted changed =
        subst (λ (r : Running). LeadsTo (season_seen old.facts old.managers old.leagues old.cups) (season_seen r.facts r.managers r.leagues r.cups) made) (sym changed)
        (leagues_lead old.facts old.managers old.leagues old.cups (caller_number caller) command made e is granted.there granted.unbroken planned)
    in_part part.Cups e granted changed =
        subst (λ (r : Running). LeadsTo (season_seen old.facts old.managers old.leagues old.cups) (season_seen r.facts r.managers r.leagues r.cups) made) (sym changed)
        (cups_lead old.facts old.managers old.leagues old.cups command made
        (nothing_of old.facts old.leagues command made (λ i. cups_apart (sym e ∙ i)) (λ i. leagues_apart (sym e ∙ i)) planned) is granted)
      where
        cups_apart : part.Cups ≡ part.Facts → ⊥
        cups_apart i = cc

        leagues_apart : part.Cups ≡ part.Leagues → ⊥
        leagues_apart i = cc

  pub plans_lead : PlansLead
  plans_lead caller now command old new made is granted planned changed lawful up_old up_new =
      in_part caller now command old new made is planned lawful up_old up_new (part_of command) refl granted changed
