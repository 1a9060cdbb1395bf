-- What a record tells is told of the facts with it, and what they tell of other slots stays.
use Rattle.std.proofs.Common.{◌≡◌, ◌==◌, ◌||◌, ℕ, Bool, true, false, List, [], ◌∷◌, ◌++◌, Some, filter, find, nat_lt, arith, refl, sym, ap, ◌∙◌}
use Rattle.std.specs.Option.{option_map}
use Rattle.std.proofs.lemmas.Bool.{true≢false}
use Rattle.std.proofs.lemmas.Bool.Decides.{nat_tests}
use Rattle.fpl_base.specs.Keeping.{is_same_key}
use Rattle.rule_book.specs.declared.player.Player.{Player}
use Rattle.rule_book.specs.declared.season.Fixture.{Fixture}
use Rattle.rule_book.specs.MatchFacts.{Sheet, is_finished, line_in, lines_of, sheet_of, with_line, with_sheet}
use Rattle.rule_book.proofs.AtId.{chosen_same, one_other, one_same, placed_other, placed_same}
use Rattle.match_facts.proofs.Maps.{sheets_are_a_map}
use Rattle.season_book.specs.Book.{Facts}
use Rattle.season_book.specs.Commands.{changed_by}
use Rattle.season_book.specs.declared.command.Command.TheVariants as command
use Rattle.season_records.specs.Items.{key_of_item, slot_of_item}
use Rattle.season_records.specs.Keys.{key_of}
use Rattle.season_records.specs.declared.item.Item.{Item}
use Rattle.season_records.specs.declared.item.Item.TheVariants as item
use Rattle.season_records.specs.declared.slot.Slot.{Slot}
use Rattle.season_records.specs.declared.slot.Slot.TheVariants as slot
use Rattle.season_records.specs.Records.{fixture_item, player_item, told_in}
use Rattle.season_records.proofs.FactCommands.{finished_keeps, fixture_keeps, line_keeps}
use Rattle.season_records.proofs.Finds.{found_beside}
use Rattle.season_records.proofs.Puts.{touches}
use Rattle.season_restoring.specs.Restored.{fixture_told, player_told, with_item}

-- the slots of a season's clubs, players, fixtures and lines
abbrev pub is_of_facts : Slot → Bool
is_of_facts (slot.Club c) = true
is_of_facts (slot.Player p) = true
is_of_facts (slot.Fixture f) = true
is_of_facts (slot.Line f p) = true
is_of_facts s = false

-- one put in, at its place, is found
found_put : {X : Type 0} (id : X → ℕ) (new : X) (back xs : List X) → find (λ x. id x == id new) (filter (λ x. nat_lt (id x) (id new)) xs ++ new ∷ back) ≡ Some new
found_put id new back [] = grind (arith, nat_tests)
found_put id new back (x ∷ xs) = grind (arith, nat_tests, found_put id new back xs)

-- the sheet that was put in
put_sheet : (facts : Facts) (f : ℕ) (sheet : Sheet) → sheet_of (with_sheet facts.matches f sheet) f ≡ sheet
put_sheet facts f sheet = sheets_are_a_map facts.matches f sheet f ∙ chosen_same f f sheet (sheet_of facts.matches f) refl

pub tells_own : (facts : Facts) (i : Item) → is_of_facts (slot_of_item i) ≡ true → told_in (with_item facts i) (slot_of_item i) ≡ Some i
tells_own facts (item.Club c name) of = ap (option_map (item.Club c)) (placed_same facts.clubs ((c, name) ∷ []) c ∙ one_same c name)
tells_own facts (item.Player p position club price gone name) of =
    let new : Player = player_told p position club price gone name in
    ap (option_map (player_item p)) (found_put (λ x. x.id) new (filter (λ x. nat_lt p x.id) facts.players) facts.players)
tells_own facts (item.Fixture f home away g kickoff finished) of =
    let new : Fixture = fixture_told f home away g kickoff in
    let behind : Facts = with_item facts (item.Fixture f home away g kickoff finished) in
    let mark : is_finished behind.matches f ≡ finished = ap (λ s. s.finished) (put_sheet facts f (record { lines = lines_of facts.matches f; finished = finished })) in
    ap (option_map (fixture_item f behind)) (found_put (λ x. x.id) new (filter (λ x. nat_lt f x.id) facts.calendar.fixtures) facts.calendar.fixtures)
    ∙ ap (λ b. Some (item.Fixture f home away g kickoff b)) mark
tells_own facts (item.Line f p line) of =
    let lines = with_line (lines_of facts.matches f) p line in
    ap (option_map (item.Line f p))
    (ap (λ s. line_in s.lines p) (put_sheet facts f (record { lines = lines; finished = is_finished facts.matches f }))
    ∙ (placed_same (lines_of facts.matches f) ((p, line) ∷ []) p ∙ one_same p line))
tells_own facts (item.Season profile split locked deadlines) of = absurd (true≢false (sym of))
tells_own facts (item.Entry e first key name) of = absurd (true≢false (sym of))
tells_own facts (item.Team e g picks captain vice bank chip) of = absurd (true≢false (sym of))
tells_own facts (item.Transfer e g n out into sold bought) of = absurd (true≢false (sym of))
tells_own facts (item.League l kind start creator order code name) of = absurd (true≢false (sym of))
tells_own facts (item.Member l e) of = absurd (true≢false (sym of))
tells_own facts (item.Cup c start slots coins) of = absurd (true≢false (sym of))
tells_own facts (item.Last c n status made last) of = absurd (true≢false (sym of))

untouched : (s t : Slot) → is_same_key (key_of s) (key_of t) ≡ false → touches (s ∷ []) (key_of t) ≡ false
untouched s t apart = ap (λ b. b || false) apart

pub keeps_others : (facts : Facts) (i : Item) (s : Slot) → is_same_key (key_of_item i) (key_of s) ≡ false → told_in facts s ≡ told_in (with_item facts i) s
keeps_others facts (item.Club c name) (slot.Club q) apart =
    let other : q ≡ c → ⊥ = λ same. grind (arith, nat_tests, apart, same) in
    ap (option_map (item.Club q)) (sym (placed_other facts.clubs ((c, name) ∷ []) c q other (one_other c q name other)))
keeps_others facts (item.Club c name) s apart = refl
keeps_others facts (item.Player p position club price gone name) (slot.Player q) apart =
    let new : Player = player_told p position club price gone name in
    ap (option_map (player_item q)) (sym (found_beside (λ x. x.id) facts.players new q (grind (arith, nat_tests, apart))))
keeps_others facts (item.Player p position club price gone name) s apart = refl
keeps_others facts (item.Fixture f home away g kickoff finished) s apart =
    let far = untouched (slot.Fixture f) s apart in
    fixture_keeps facts f home away g kickoff s far ∙ finished_keeps (changed_by facts (command.Fixture f home away g kickoff)) f finished s far
keeps_others facts (item.Line f p line) s apart = line_keeps facts f p line s (untouched (slot.Line f p) s apart)
keeps_others facts i s apart = refl

-- the season's own record stays
pub keeps_season : (facts : Facts) (i : Item) → told_in (with_item facts i) slot.Season ≡ told_in facts slot.Season
keeps_season facts (item.Club c name) = refl
keeps_season facts (item.Player p position club price gone name) = refl
keeps_season facts (item.Fixture f home away g kickoff finished) = refl
keeps_season facts (item.Line f p line) = refl
keeps_season facts i = refl
