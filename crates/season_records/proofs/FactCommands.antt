-- The commands on the facts of a season change nothing of what is told but what they touch.
use Rattle.std.proofs.Common.{◌≡◌, ◌==◌, ◌||◌, ℕ, Bool, true, false, List, [], ◌∷◌, ◌++◌, Option, None, fold, inl, inr, arith, refl, sym, ap, ◌∙◌, map, true≢false}
use Rattle.std.specs.List.{list_any}
use Rattle.std.specs.Option.{option_map}
use Rattle.std.proofs.lemmas.Bool.{cases_eq}
use Rattle.std.proofs.lemmas.Bool.Decides.{nat_tests}
use Rattle.std.proofs.lemmas.List.Folds.{list_any-append}
use Rattle.fpl_base.specs.declared.kinds.Position.{Position}
use Rattle.fpl_base.specs.declared.kinds.Profile.{Profile}
use Rattle.rule_book.specs.declared.line.Line.{Line}
use Rattle.rule_book.specs.declared.player.Player.{Player}
use Rattle.rule_book.specs.declared.season.Fixture.{Fixture}
use Rattle.rule_book.specs.ById.{at_id, placed_at}
use Rattle.rule_book.specs.Calendar.{fixture_of}
use Rattle.rule_book.specs.MatchFacts.{Lines, Sheet, by_player, is_finished, line_in, lines_of, players_in, with_sheet}
use Rattle.rule_book.specs.Players.{with_details}
use Rattle.rule_book.proofs.AtId.{one_other, placed_other}
use Rattle.season_book.specs.Book.{Facts}
use Rattle.season_book.specs.Commands.{changed_by, club_ids, new_season}
use Rattle.season_book.specs.declared.command.Command.TheVariants as command
use Rattle.season_records.specs.Keys.{key_of}
use Rattle.season_records.specs.declared.item.Item.{Item}
use Rattle.season_records.specs.declared.item.Item.TheVariants as item
use Rattle.season_records.specs.declared.slot.Slot.{Slot}
use Rattle.season_records.specs.declared.slot.Slot.TheVariants as slot
use Rattle.season_records.specs.Records.{fixture_item, player_item, told_in}
use Rattle.season_records.specs.Touched.{players_left}
use Rattle.season_records.proofs.Finds.{found_beside, found_unchanged}
use Rattle.season_records.proofs.Puts.{touches}
use Rattle.season_records.proofs.Sheets.{line_beside, line_besides, no_line, no_line_by_player, sheet_kept}

-- what the facts tell of other slots stays
abbrev pub FactsKeep : List Slot → Facts → Facts → Type 0
FactsKeep slots facts behind = (s : Slot) → touches slots (key_of s) ≡ false → told_in facts s ≡ told_in behind s

-- The season and its clubs.

pub deadline_keeps : (facts : Facts) (g t : ℕ) → FactsKeep (slot.Season ∷ []) facts (changed_by facts (command.Deadline g t))
deadline_keeps facts g t slot.Season apart = absurd (true≢false apart)
deadline_keeps facts g t s apart = refl

-- Players.

pub player_keeps : (facts : Facts) (id : ℕ) (name : List ℕ) (position : Position) (club price : ℕ)
    → FactsKeep (slot.Player id ∷ []) facts (changed_by facts (command.Player id name position club price))
player_keeps facts id name position club price (slot.Player q) apart =
    let new : Player = record { id = id; name = name; position = position; club = club; price = price; gone = false } in
    ap (option_map (player_item q)) (sym (found_beside (λ x. x.id) facts.players new q (grind (arith, nat_tests, apart))))
player_keeps facts id name position club price s apart = refl

pub details_keep : (facts : Facts) (p : ℕ) (name : List ℕ) (position : Position) → FactsKeep (slot.Player p ∷ []) facts (record facts { players = with_details facts.players p name position })
details_keep facts p name position (slot.Player q) apart =
    ap (option_map (player_item q)) (sym (found_unchanged (λ x. x.id) (λ x. record x { name = name; position = position }) (λ x. refl) p q (grind (arith, nat_tests, apart)) facts.players))
details_keep facts p name position s apart = refl

pub price_keeps : (facts : Facts) (p t : ℕ) → FactsKeep (slot.Player p ∷ []) facts (changed_by facts (command.Price p t))
price_keeps facts p t (slot.Player q) apart =
    ap (option_map (player_item q)) (sym (found_unchanged (λ x. x.id) (λ x. record x { price = t }) (λ x. refl) p q (grind (arith, nat_tests, apart)) facts.players))
price_keeps facts p t s apart = refl

pub club_keeps : (facts : Facts) (p c : ℕ) → FactsKeep (slot.Player p ∷ []) facts (changed_by facts (command.Club p c))
club_keeps facts p c (slot.Player q) apart =
    ap (option_map (player_item q)) (sym (found_unchanged (λ x. x.id) (λ x. record x { club = c }) (λ x. refl) p q (grind (arith, nat_tests, apart)) facts.players))
club_keeps facts p c s apart = refl

pub gone_keeps : (facts : Facts) (p : ℕ) (mark : Bool) → FactsKeep (slot.Player p ∷ []) facts (changed_by facts (command.Gone p mark))
gone_keeps facts p mark (slot.Player q) apart =
    ap (option_map (player_item q)) (sym (found_unchanged (λ x. x.id) (λ x. record x { gone = mark }) (λ x. refl) p q (grind (arith, nat_tests, apart)) facts.players))
gone_keeps facts p mark s apart = refl

-- Fixtures.

pub fixture_keeps : (facts : Facts) (id home away : ℕ) (g : Option ℕ) (kickoff : ℕ)
    → FactsKeep (slot.Fixture id ∷ []) facts (changed_by facts (command.Fixture id home away g kickoff))
fixture_keeps facts id home away g kickoff (slot.Fixture q) apart =
    let new : Fixture = record { id = id; home = home; away = away; gw = g; kickoff = kickoff } in
    ap (option_map (fixture_item q facts)) (sym (found_beside (λ x. x.id) facts.calendar.fixtures new q (grind (arith, nat_tests, apart))))
fixture_keeps facts id home away g kickoff s apart = refl

pub move_keeps : (facts : Facts) (f : ℕ) (g : Option ℕ) (kickoff : ℕ) → FactsKeep (slot.Fixture f ∷ []) facts (changed_by facts (command.Move f g kickoff))
move_keeps facts f g kickoff (slot.Fixture q) apart =
    ap (option_map (fixture_item q facts))
    (sym (found_unchanged (λ x. x.id) (λ x. record x { gw = g; kickoff = kickoff }) (λ x. refl) f q (grind (arith, nat_tests, apart)) facts.calendar.fixtures))
move_keeps facts f g kickoff s apart = refl

pub amend_fixture_keeps : (facts : Facts) (f home away : ℕ) → FactsKeep (slot.Fixture f ∷ []) facts (changed_by facts (command.AmendFixture f home away))
amend_fixture_keeps facts f home away (slot.Fixture q) apart =
    ap (option_map (fixture_item q facts))
    (sym (found_unchanged (λ x. x.id) (λ x. record x { home = home; away = away }) (λ x. refl) f q (grind (arith, nat_tests, apart)) facts.calendar.fixtures))
amend_fixture_keeps facts f home away s apart = refl

-- Sheets.

-- a fixture's record stays where its mark does
fixture_kept : (facts : Facts) (f : ℕ) (sheet : Sheet) (g : ℕ) → (g ≡ f → is_finished facts.matches g ≡ sheet.finished)
    → told_in facts (slot.Fixture g) ≡ told_in (record facts { matches = with_sheet facts.matches f sheet }) (slot.Fixture g)
fixture_kept facts f sheet g same =
    let told : Bool → Option Item = λ finished. option_map (λ x. item.Fixture g x.home x.away x.gw x.kickoff finished) (fixture_of facts.calendar g) in
    sheet_kept (λ s. told s.finished) facts.matches f sheet g (λ here. ap told (same here))

-- and a line's where it is found again
line_kept : (facts : Facts) (f : ℕ) (sheet : Sheet) (g q : ℕ) → (g ≡ f → line_in (lines_of facts.matches g) q ≡ line_in sheet.lines q)
    → told_in facts (slot.Line g q) ≡ told_in (record facts { matches = with_sheet facts.matches f sheet }) (slot.Line g q)
line_kept facts f sheet g q same =
    sheet_kept (λ s. option_map (item.Line g q) (line_in s.lines q)) facts.matches f sheet g (λ here. ap (option_map (item.Line g q)) (same here))

another_line : (f p g q : ℕ) → touches (slot.Line f p ∷ []) (key_of (slot.Line g q)) ≡ false → g ≡ f → q ≡ p → ⊥
another_line f p g q apart here same = grind (arith, nat_tests, apart, here, same)

another_fixture : (f g : ℕ) (more : List Slot) → touches (slot.Fixture f ∷ more) (key_of (slot.Fixture g)) ≡ false → g ≡ f → ⊥
another_fixture f g more apart here = grind (arith, nat_tests, apart, here)

pub line_keeps : (facts : Facts) (f p : ℕ) (line : Line) → FactsKeep (slot.Line f p ∷ []) facts (changed_by facts (command.Line f p line))
line_keeps facts f p line (slot.Fixture g) apart = fixture_kept facts f _ g (λ here. ap (is_finished facts.matches) here)
line_keeps facts f p line (slot.Line g q) apart =
    line_kept facts f _ g q (λ here. ap (λ f. line_in (lines_of facts.matches f) q) here ∙ line_beside (lines_of facts.matches f) p line q (another_line f p g q apart here))
line_keeps facts f p line s apart = refl

pub drop_keeps : (facts : Facts) (f p : ℕ) → FactsKeep (slot.Line f p ∷ []) facts (changed_by facts (command.Drop f p))
drop_keeps facts f p (slot.Fixture g) apart = fixture_kept facts f _ g (λ here. ap (is_finished facts.matches) here)
drop_keeps facts f p (slot.Line g q) apart =
    line_kept facts f _ g q (λ here. ap (λ f. line_in (lines_of facts.matches f) q) here ∙ line_besides (lines_of facts.matches f) p q (another_line f p g q apart here))
drop_keeps facts f p s apart = refl

pub finished_keeps : (facts : Facts) (f : ℕ) (mark : Bool) → FactsKeep (slot.Fixture f ∷ []) facts (changed_by facts (command.Finished f mark))
finished_keeps facts f mark (slot.Fixture g) apart =
    fixture_kept facts f (record { lines = lines_of facts.matches f; finished = mark }) g (λ here. absurd (another_fixture f g [] apart here))
finished_keeps facts f mark (slot.Line g q) apart = line_kept facts f _ g q (λ here. ap (λ f. line_in (lines_of facts.matches f) q) here)
finished_keeps facts f mark s apart = refl

line_slots : (f g q : ℕ) (ps : List ℕ) → g ≡ f → touches (map (slot.Line f) ps) (key_of (slot.Line g q)) ≡ list_any (λ p. p == q) ps
line_slots f g q [] here = refl
line_slots f g q (p ∷ ps) here = grind (arith, nat_tests, here, line_slots f g q ps here)

none_in_both : (t : ℕ → Bool) (xs ys : List ℕ) → list_any t (xs ++ ys) ≡ false → (list_any t xs ≡ false) × (list_any t ys ≡ false)
none_in_both t xs ys none = both (list_any t xs) (list_any t ys) (sym (list_any-append t xs ys) ∙ none)
  where
    both : (a b : Bool) → (a || b) ≡ false → (a ≡ false) × (b ≡ false)
    both false b none = (refl, none)
    both true b none = absurd (true≢false none)

-- who is neither left nor among those who have a line now had none
none_left : (q : ℕ) (had have : List ℕ) → list_any (λ p. p == q) (players_left had have) ≡ false → list_any (λ p. p == q) have ≡ false → list_any (λ p. p == q) had ≡ false
none_left q [] have left now = refl
none_left q (p ∷ had) have left now = elim (cases_eq p q) [
  | inl same ↦ absurd (true≢false (sym (grind (arith, nat_tests, same, now)) ∙ left))
  | inr apart ↦ grind (arith, nat_tests, apart, left, none_left q had have)
]

pub sheet_keeps : (facts : Facts) (f : ℕ) (lines : Lines) (mark : Bool)
    → FactsKeep (slot.Fixture f ∷ map (slot.Line f) (players_left (players_in (lines_of facts.matches f)) (players_in lines) ++ players_in lines)) facts (changed_by facts (command.Sheet f lines mark))
sheet_keeps facts f lines mark (slot.Fixture g) apart =
    let more : List Slot = map (slot.Line f) (players_left (players_in (lines_of facts.matches f)) (players_in lines) ++ players_in lines) in
    fixture_kept facts f (record { lines = by_player lines; finished = mark }) g (λ here. absurd (another_fixture f g more apart here))
sheet_keeps facts f lines mark (slot.Line g q) apart =
    let old : Lines = lines_of facts.matches f in
    line_kept facts f (record { lines = by_player lines; finished = mark }) g q (λ here.
    let left : List ℕ = players_left (players_in old) (players_in lines) in
    let none = none_in_both (λ p. p == q) left (players_in lines) (sym (line_slots f g q (left ++ players_in lines) here) ∙ apart) in
    ap (λ f. line_in (lines_of facts.matches f) q) here ∙ no_line q old (none_left q (players_in old) (players_in lines) none.0 none.1) ∙ sym (no_line_by_player q lines none.1))
sheet_keeps facts f lines mark s apart = refl

-- The season's beginning.

club_slots : (c : ℕ) (ids : List ℕ) → touches (map slot.Club ids) (key_of (slot.Club c)) ≡ list_any (λ id. id == c) ids
club_slots c [] = refl
club_slots c (id ∷ ids) = grind (arith, nat_tests, club_slots c ids)

no_club : (c : ℕ) (clubs so_far : List (ℕ × List ℕ)) → at_id so_far c ≡ None → list_any (λ id. id == c) (club_ids clubs) ≡ false
    → at_id (fold (λ so_far club. placed_at so_far club.0 (club ∷ [])) so_far clubs) c ≡ None
no_club c [] so_far none apart = none
no_club c (club ∷ clubs) so_far none apart =
    let other : c ≡ club.0 → ⊥ = λ same. grind (arith, nat_tests, apart, same) in
    no_club c clubs (placed_at so_far club.0 (club ∷ []))
    (placed_other so_far (club ∷ []) club.0 c other (one_other club.0 c club.1 other) ∙ none)
    (grind (arith, nat_tests, apart))

-- nothing but the season and its clubs is told of a new season
pub season_begins : (profile : Profile) (deadlines : List ℕ) (split : ℕ) (clubs : List (ℕ × List ℕ)) (s : Slot)
    → touches (slot.Season ∷ map slot.Club (club_ids clubs)) (key_of s) ≡ false → None ≡ told_in (new_season profile deadlines split clubs) s
season_begins profile deadlines split clubs slot.Season apart = absurd (true≢false apart)
season_begins profile deadlines split clubs (slot.Club c) apart = ap (option_map (item.Club c)) (sym (no_club c clubs [] refl (sym (club_slots c (club_ids clubs)) ∙ apart)))
season_begins profile deadlines split clubs s apart = refl
