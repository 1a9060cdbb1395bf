-- What a command on the facts leaves of the whole book, and what the caller's last command does.
use Rattle.std.proofs.Common.{◌≡◌, ℕ, Bool, true, false, List, [], ◌∷◌, ◌++◌, Option, Some, None, arith, refl, sym, ap, subst, ◌∙◌, map}
use Rattle.std.specs.Prelude.{Result, Ok, Err, is_some, if◌then◌else◌}
use Rattle.std.specs.Option.{option_map, option_and_then, option_map_or}
use Rattle.std.proofs.lemmas.Bool.Decides.{nat_tests}
use Rattle.fpl_base.specs.declared.kinds.Caller.{Caller}
use Rattle.fpl_base.specs.declared.rule.Rule.{Rule}
use Rattle.fpl_base.specs.declared.rule.Rule.TheVariants as rule
use Rattle.rule_book.specs.Calendar.{deadlines_order}
use Rattle.rule_book.specs.MatchFacts.{lines_of, players_in}
use Rattle.rule_book.proofs.AtId.{one_other, placed_other}
use Rattle.season_book.specs.Book.{Book, Facts, Last, caller_number}
use Rattle.season_book.specs.Commands.{are_there, begun_by, changed_by, refusal_of}
use Rattle.season_book.specs.declared.command.Command.{Command}
use Rattle.season_book.specs.declared.command.Command.TheVariants as command
use Rattle.season_book.specs.Verdict.{Outcome, accepted, begun, judged, ruled_by, unless_refused}
use Rattle.season_book.specs.declared.answer.Answer.{Answer}
use Rattle.season_book.specs.declared.answer.Answer.TheVariants as answer
use Rattle.season_records.specs.Keys.{key_of}
use Rattle.season_records.specs.declared.slot.Slot.{Slot}
use Rattle.season_records.specs.declared.slot.Slot.TheVariants as slot
use Rattle.season_records.specs.Records.{last_item, told, told_in}
use Rattle.season_records.specs.Touched.{players_left, touched_by}
use Rattle.season_records.proofs.FactCommands.{FactsKeep, amend_fixture_keeps, club_keeps, deadline_keeps, drop_keeps, finished_keeps, fixture_keeps, gone_keeps, line_keeps, move_keeps, player_keeps, price_keeps, season_begins, sheet_keeps}
use Rattle.season_records.proofs.Puts.{touches}

-- what a book tells of other slots stays
abbrev pub Keeps : List Slot → Book → Book → Type 0
Keeps slots book behind = (s : Slot) → touches slots (key_of s) ≡ false → told book s ≡ told behind s

-- The caller's last command.

another_caller : (n c : ℕ) (more : List Slot) → touches (slot.Last n ∷ more) (key_of (slot.Last c)) ≡ false → c ≡ n → ⊥
another_caller n c more apart same = grind (arith, nat_tests, apart, same)

no_other : (n c : ℕ) (more : List Slot) → touches (slot.Last n ∷ more) (key_of (slot.Last c)) ≡ false → touches more (key_of (slot.Last c)) ≡ false
no_other n c more apart = grind (arith, nat_tests, apart)

pub with_last_keeps : (book : Book) (caller : Caller) (number : ℕ) (command : Command) (outcome : Outcome) (slots : List Slot)
    → Keeps slots book outcome.book → Keeps (slot.Last (caller_number caller) ∷ slots) book (accepted caller number command outcome)
with_last_keeps book caller number command outcome slots keeps (slot.Last c) apart =
    let n : ℕ = caller_number caller in
    let last : Last = record { number = number; command = command; made = outcome.made } in
    let other : c ≡ n → ⊥ = another_caller n c slots apart in
    keeps (slot.Last c) (no_other n c slots apart)
    ∙ ap (option_map (last_item c)) (sym (placed_other outcome.book.lasts ((n, last) ∷ []) n c other (one_other n c last other)))
with_last_keeps book caller number command outcome slots keeps slot.Season apart = keeps slot.Season apart
with_last_keeps book caller number command outcome slots keeps (slot.Club c) apart = keeps (slot.Club c) apart
with_last_keeps book caller number command outcome slots keeps (slot.Player p) apart = keeps (slot.Player p) apart
with_last_keeps book caller number command outcome slots keeps (slot.Fixture f) apart = keeps (slot.Fixture f) apart
with_last_keeps book caller number command outcome slots keeps (slot.Line f p) apart = keeps (slot.Line f p) apart
with_last_keeps book caller number command outcome slots keeps (slot.Entry e) apart = keeps (slot.Entry e) apart
with_last_keeps book caller number command outcome slots keeps (slot.Team e g) apart = keeps (slot.Team e g) apart
with_last_keeps book caller number command outcome slots keeps (slot.Transfer e g n) apart = keeps (slot.Transfer e g n) apart
with_last_keeps book caller number command outcome slots keeps (slot.League l) apart = keeps (slot.League l) apart
with_last_keeps book caller number command outcome slots keeps (slot.Member l e) apart = keeps (slot.Member l e) apart
with_last_keeps book caller number command outcome slots keeps (slot.Cup c) apart = keeps (slot.Cup c) apart

-- Other facts.

-- what is told of the facts, of two books whose facts these are
pub facts_kept : (book behind : Book) (s : Slot) → option_and_then (λ facts. told_in facts s) book.facts ≡ option_and_then (λ facts. told_in facts s) behind.facts
    → book.entries ≡ behind.entries → book.leagues ≡ behind.leagues → book.cups ≡ behind.cups → book.lasts ≡ behind.lasts → told book s ≡ told behind s
facts_kept book behind slot.Season same entries leagues cups lasts = same
facts_kept book behind (slot.Club c) same entries leagues cups lasts = same
facts_kept book behind (slot.Player p) same entries leagues cups lasts = same
facts_kept book behind (slot.Fixture f) same entries leagues cups lasts = same
facts_kept book behind (slot.Line f p) same entries leagues cups lasts = same
facts_kept book behind (slot.Entry e) same entries leagues cups lasts = λ i. told (record book { entries = entries i }) (slot.Entry e)
facts_kept book behind (slot.Team e g) same entries leagues cups lasts = λ i. told (record book { entries = entries i }) (slot.Team e g)
facts_kept book behind (slot.Transfer e g n) same entries leagues cups lasts = λ i. told (record book { entries = entries i }) (slot.Transfer e g n)
facts_kept book behind (slot.League l) same entries leagues cups lasts = λ i. told (record book { leagues = leagues i }) (slot.League l)
facts_kept book behind (slot.Member l e) same entries leagues cups lasts = λ i. told (record book { leagues = leagues i }) (slot.Member l e)
facts_kept book behind (slot.Cup c) same entries leagues cups lasts = λ i. told (record book { cups = cups i }) (slot.Cup c)
facts_kept book behind (slot.Last c) same entries leagues cups lasts = λ i. told (record book { lasts = lasts i }) (slot.Last c)

pub with_facts_keeps : (book : Book) (facts behind : Facts) (slots : List Slot) → book.facts ≡ Some facts → FactsKeep slots facts behind
    → Keeps slots book (record book { facts = Some behind })
with_facts_keeps book facts behind slots there keeps s apart =
    facts_kept book (record book { facts = Some behind }) s (ap (option_and_then (λ facts. told_in facts s)) there ∙ keeps s apart) refl refl refl refl

pub begun_keeps : (book : Book) (behind : Facts) (slots : List Slot) → book.facts ≡ None → ((s : Slot) → touches slots (key_of s) ≡ false → None ≡ told_in behind s)
    → Keeps slots book (record book { facts = Some behind })
begun_keeps book behind slots there keeps s apart =
    facts_kept book (record book { facts = Some behind }) s (ap (option_and_then (λ facts. told_in facts s)) there ∙ keeps s apart) refl refl refl refl

-- What a command on the facts leads to.

-- each command in a season
changes_keep : (book : Book) (facts : Facts) (e : ℕ) (command : Command) → book.facts ≡ Some facts → FactsKeep (touched_by book e command) facts (changed_by facts command)
changes_keep book facts e (command.Deadline g t) there = deadline_keeps facts g t
changes_keep book facts e (command.Player id name position c t) there = player_keeps facts id name position c t
changes_keep book facts e (command.Price p t) there = price_keeps facts p t
changes_keep book facts e (command.Club p c) there = club_keeps facts p c
changes_keep book facts e (command.Gone p mark) there = gone_keeps facts p mark
changes_keep book facts e (command.Fixture id home away g kickoff) there = fixture_keeps facts id home away g kickoff
changes_keep book facts e (command.Move f g kickoff) there = move_keeps facts f g kickoff
changes_keep book facts e (command.AmendFixture f home away) there = amend_fixture_keeps facts f home away
changes_keep book facts e (command.Sheet f lines mark) there =
    let before : ℕ → Option Facts → List ℕ = λ f some. option_map_or (λ (facts : Facts). players_in (lines_of facts.matches f)) some [] in
    subst (λ old. FactsKeep (slot.Fixture f ∷ map (slot.Line f) (players_left old (players_in lines) ++ players_in lines)) facts (changed_by facts (command.Sheet f lines mark)))
    (sym (ap (before f) there)) (sheet_keeps facts f lines mark)
changes_keep book facts e (command.Line f p l) there = line_keeps facts f p l
changes_keep book facts e (command.Drop f p) there = drop_keeps facts f p
changes_keep book facts e (command.Finished f mark) there = finished_keeps facts f mark
changes_keep book facts e command there = λ s apart. refl

-- the first command of a season
abbrev Begins : Book → ℕ → Command → Option Facts → Type 0
Begins book e command None = Unit {0}
Begins book e command (Some facts) = (s : Slot) → touches (touched_by book e command) (key_of s) ≡ false → None ≡ told_in facts s

begins : (book : Book) (e : ℕ) (command : Command) → Begins book e command (begun_by command)
begins book e (command.Season profile deadlines split clubs) = season_begins profile deadlines split clubs
begins book e command = tt

-- an accepted command leaves what is told of other slots; of a refused one nothing is said
abbrev pub Leaves : List Slot → Book → Result Outcome Answer → Type 0
Leaves slots book (Err refused) = Unit {0}
Leaves slots book (Ok outcome) = Keeps slots book outcome.book

module _ (book : Book) (e now : ℕ) (command : Command) where
  abbrev slots : List Slot
  slots = touched_by book e command

  unless : (facts : Facts) (broken : Option Rule) → Keeps slots book (record book { facts = Some facts }) → Leaves slots book (ruled_by book (unless_refused broken facts))
  unless facts None keeps = keeps
  unless facts (Some rule) keeps = tt

  changed : (facts : Facts) (begins_one there : Bool) → book.facts ≡ Some facts
      → Leaves slots book (ruled_by book (if begins_one then Err (answer.Rule rule.SeasonThere) else if there then unless_refused (refusal_of facts now command) (changed_by facts command) else Err answer.Unknown))
  changed facts true there is = tt
  changed facts false false is = tt
  changed facts false true is =
      unless (changed_by facts command) (refusal_of facts now command)
      (with_facts_keeps book facts (changed_by facts command) slots is (changes_keep book facts e command is))

  begun_one : (some : Option Facts) → book.facts ≡ None → Begins book e command some → Leaves slots book (ruled_by book (begun some))
  begun_one None is begins = tt
  begun_one (Some facts) is begins = unless facts (deadlines_order facts.calendar.deadlines) (begun_keeps book facts slots is begins)

  judged_leaves : (some : Option Facts) → book.facts ≡ some → Leaves slots book (ruled_by book (judged some now command))
  judged_leaves None is = begun_one (begun_by command) is (begins book e command)
  judged_leaves (Some facts) is = changed facts (is_some (begun_by command)) (are_there facts command) is

  pub facts_leave : Leaves slots book (ruled_by book (judged book.facts now command))
  facts_leave = judged_leaves book.facts refl
