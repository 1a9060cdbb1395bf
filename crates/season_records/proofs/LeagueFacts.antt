-- The commands that make entries, leagues and cups, or change a key or a league, change nothing of what is told but what they touch.
use Rattle.std.proofs.Common.{◌≡◌, ◌+◌, ◌==◌, ℕ, Bool, true, false, List, [], ◌∷◌, ◌++◌, Option, Some, None, length, arith, refl, ap, if◌then◌else◌}
use Rattle.std.specs.Prelude.{Result, Err}
use Rattle.std.specs.Option.{option_map, option_and_then}
use Rattle.std.proofs.lemmas.Bool.Decides.{nat_tests}
use Rattle.fpl_base.specs.declared.kinds.Position.{Position}
use Rattle.fpl_base.specs.declared.rule.Rule.{Rule}
use Rattle.rule_book.specs.declared.cup.Bracket.{Bracket}
use Rattle.rule_book.specs.declared.league.LeagueKind.{LeagueKind}
use Rattle.rule_book.specs.Entries.{changed_in}
use Rattle.rule_book.specs.LeagueCalls.{new_league, with_member, with_order}
use Rattle.season_book.specs.Book.{Book, Facts}
use Rattle.season_book.specs.Commands.{has_player}
use Rattle.season_book.specs.Hosts.{keys_of}
use Rattle.season_book.specs.KeyCommands.{NewKey, entries_rekeyed, rekey_refusal, with_key}
use Rattle.season_book.specs.LeagueCommands.{cup_broken, cup_made, cup_there, is_issued, is_registered, league_made, league_refusal, leagues_after, leagues_there}
use Rattle.season_book.specs.PlayerCommands.{Amendment, facts_amended, have_had, position_refusal}
use Rattle.season_book.specs.Verdict.{Outcome, amends_ruled, cups_ruled, in_season, key_refusal, keyed, keys_ruled, leagues_ruled, unless_broken, with_entry}
use Rattle.season_book.specs.declared.answer.Answer.{Answer}
use Rattle.season_book.specs.declared.answer.Answer.TheVariants as answer
use Rattle.season_book.specs.declared.command.Command.{Command}
use Rattle.season_book.specs.declared.command.Command.TheVariants as command
use Rattle.season_book.specs.declared.made.Made.TheVariants as made
use Rattle.season_records.specs.declared.item.Item.TheVariants as item
use Rattle.season_records.specs.declared.slot.Slot.{Slot}
use Rattle.season_records.specs.declared.slot.Slot.TheVariants as slot
use Rattle.season_records.specs.Records.{cup_item, entry_item, league_item, member_told, team_told, transfer_item, transfer_told}
use Rattle.season_records.specs.Touched.{touched_by}
use Rattle.season_records.proofs.BookFacts.{Keeps, Leaves, with_facts_keeps}
use Rattle.season_records.proofs.FactCommands.{details_keep}
use Rattle.season_records.proofs.Finds.{member_beside, numbered_changed, numbered_more}

-- A new entry.

entry_keeps : (book : Book) (key name : List ℕ) → Keeps (slot.Entry (length book.entries + 1) ∷ []) book (with_entry book key name).book
entry_keeps book key name (slot.Entry q) apart =
    numbered_more (option_map (entry_item q)) book.entries (record { key = key; name = name; history = [] }) q (λ is. absurd (grind (arith, nat_tests, apart, is)))
entry_keeps book key name (slot.Team q w) apart =
    numbered_more (option_and_then (λ entry. team_told q w entry.history)) book.entries (record { key = key; name = name; history = [] }) q (λ is. refl)
entry_keeps book key name (slot.Transfer q w n) apart =
    numbered_more (option_and_then (λ entry. transfer_told q w n entry.history)) book.entries (record { key = key; name = name; history = [] }) q (λ is. none_told q w n)
  where
    none_told : (q w n : ℕ) → None ≡ transfer_told q w n []
    none_told q w n = if_none (n == 0)
      where
        if_none : (b : Bool) → None ≡ option_map (transfer_item q w n) (if b then None else None)
        if_none true = refl
        if_none false = refl
entry_keeps book key name s apart = refl

-- Another key of an entry.

rekey_keeps : (book : Book) (given : NewKey) → Keeps (slot.Entry given.entry ∷ []) book (record book { entries = entries_rekeyed book.entries given })
rekey_keeps book given (slot.Entry q) apart =
    numbered_changed (option_map (entry_item q)) (with_key given) book.entries given.entry q (λ is entry at. absurd (grind (arith, nat_tests, apart, is)))
rekey_keeps book given (slot.Team q w) apart =
    numbered_changed (option_and_then (λ entry. team_told q w entry.history)) (with_key given) book.entries given.entry q (λ is entry at. refl)
rekey_keeps book given (slot.Transfer q w n) apart =
    numbered_changed (option_and_then (λ entry. transfer_told q w n entry.history)) (with_key given) book.entries given.entry q (λ is entry at. refl)
rekey_keeps book given s apart = refl

-- A new league, a new member, a draw.

league_keeps : (book : Book) (kind : LeagueKind) (name code : List ℕ) (start e : ℕ)
    → Keeps (slot.League (length book.leagues + 1) ∷ slot.Member (length book.leagues + 1) e ∷ []) book
    (record book { leagues = book.leagues ++ new_league kind name code start e ∷ [] })
league_keeps book kind name code start e (slot.League q) apart =
    numbered_more (option_map (league_item q)) book.leagues (new_league kind name code start e) q (λ is. absurd (grind (arith, nat_tests, apart, is)))
league_keeps book kind name code start e (slot.Member q x) apart =
    numbered_more (option_and_then (member_told q x)) book.leagues (new_league kind name code start e) q (λ is.
    let other : (e == x) ≡ false = grind (arith, nat_tests, apart, is) in
    rw other refl)
league_keeps book kind name code start e s apart = refl

join_keeps : (book : Book) (l e : ℕ) → Keeps (slot.Member l e ∷ []) book (record book { leagues = changed_in (with_member e) book.leagues l })
join_keeps book l e (slot.League q) apart = numbered_changed (option_map (league_item q)) (with_member e) book.leagues l q (λ is league at. refl)
join_keeps book l e (slot.Member q x) apart =
    numbered_changed (option_and_then (member_told q x)) (with_member e) book.leagues l q (λ is league at.
    ap (λ b. if b then Some (item.Member q x) else None) (member_beside league.members e x (λ same. grind (arith, nat_tests, apart, is, same))))
join_keeps book l e s apart = refl

draw_keeps : (book : Book) (l : ℕ) (order : List ℕ) → Keeps (slot.League l ∷ []) book (record book { leagues = changed_in (with_order order) book.leagues l })
draw_keeps book l order (slot.League q) apart =
    numbered_changed (option_map (league_item q)) (with_order order) book.leagues l q (λ is league at. absurd (grind (arith, nat_tests, apart, is)))
draw_keeps book l order (slot.Member q x) apart = numbered_changed (option_and_then (member_told q x)) (with_order order) book.leagues l q (λ is league at. refl)
draw_keeps book l order s apart = refl

-- A new cup.

cup_keeps : (book : Book) (b : Bracket) → Keeps (slot.Cup (length book.cups + 1) ∷ []) book (record book { cups = book.cups ++ b ∷ [] })
cup_keeps book b (slot.Cup q) apart = numbered_more (option_map (cup_item q)) book.cups b q (λ is. absurd (grind (arith, nat_tests, apart, is)))
cup_keeps book b s apart = refl

-- What each command leads to.

module _ (slots : List Slot) (book : Book) (outcome : Outcome) (keeps : Keeps slots book outcome.book) where
  unless_leaves : (broken : Option Rule) → Leaves slots book (unless_broken broken outcome)
  unless_leaves None = keeps
  unless_leaves (Some rule) = tt

  there_leaves : (there : Bool) (broken : Option Rule) → Leaves slots book (if there then unless_broken broken outcome else Err answer.Unknown)
  there_leaves true broken = unless_leaves broken
  there_leaves false broken = tt

in_season_leaves : (slots : List Slot) (book : Book) (ruled : Facts → Result Outcome Answer) → ((facts : Facts) → Leaves slots book (ruled facts))
    → (some : Option Facts) → Leaves slots book (in_season some ruled)
in_season_leaves slots book ruled leaves None = tt
in_season_leaves slots book ruled leaves (Some facts) = leaves facts

pub key_leaves : (operator : List ℕ) (book : Book) (e : ℕ) (key name : List ℕ)
    → Leaves (touched_by book e (command.Key key name)) book (in_season book.facts (λ facts. keyed operator book (command.Key key name)))
key_leaves operator book e key name =
    let slots = touched_by book e (command.Key key name) in
    in_season_leaves slots book (λ facts. keyed operator book (command.Key key name)) (λ facts.
    unless_leaves slots book (with_entry book key name) (entry_keeps book key name) (key_refusal operator book.entries key)) book.facts

pub rekey_leaves : (operator : List ℕ) (book : Book) (e entry : ℕ) (key name : List ℕ)
    → Leaves (touched_by book e (command.Rekey entry key name)) book (in_season book.facts (λ facts. keys_ruled operator book (command.Rekey entry key name)))
rekey_leaves operator book e entry key name =
    let slots = touched_by book e (command.Rekey entry key name) in
    let given : NewKey = record { entry = entry; key = key; name = name } in
    in_season_leaves slots book (λ facts. keys_ruled operator book (command.Rekey entry key name)) (λ facts.
    there_leaves slots book (record { made = made.Nothing; book = record book { entries = entries_rekeyed book.entries given } }) (rekey_keeps book given)
    (is_issued book.entries entry) (rekey_refusal operator (keys_of book.entries) given.entry given.key)) book.facts

-- Another name and position of a player.

pub amend_leaves : (book : Book) (e p : ℕ) (name : List ℕ) (position : Position)
    → Leaves (touched_by book e (command.AmendPlayer p name position)) book (in_season book.facts (λ facts. amends_ruled book facts (command.AmendPlayer p name position)))
amend_leaves book e p name position = of_facts book.facts refl
  where
    given : Amendment
    given = record { player = p; name = name; position = position }

    of_facts : (some : Option Facts) → book.facts ≡ some
        → Leaves (slot.Player p ∷ []) book (in_season some (λ facts. amends_ruled book facts (command.AmendPlayer p name position)))
    of_facts None there = tt
    of_facts (Some facts) there =
        there_leaves (slot.Player p ∷ []) book (record { made = made.Nothing; book = record book { facts = Some (facts_amended facts given) } })
        (with_facts_keeps book facts (facts_amended facts given) (slot.Player p ∷ []) there (details_keep facts p name position))
        (has_player facts p) (position_refusal facts (have_had book.entries p) given)

pub league_leaves : (book : Book) (e : ℕ) (command : Command) → Keeps (touched_by book e command) book (record book { leagues = leagues_after book.leagues e command })
    → Leaves (touched_by book e command) book (in_season book.facts (λ facts. leagues_ruled book facts e command))
league_leaves book e command keeps =
    in_season_leaves (touched_by book e command) book (λ facts. leagues_ruled book facts e command) (λ facts.
    there_leaves (touched_by book e command) book
    (record { made = league_made book.leagues command; book = record book { leagues = leagues_after book.leagues e command } }) keeps
    (leagues_there facts (is_issued book.entries) book.leagues command)
    (league_refusal facts (is_registered book.entries e) book.leagues e command)) book.facts

pub create_leaves : (book : Book) (e : ℕ) (kind : LeagueKind) (name code : List ℕ) (start : ℕ)
    → Leaves (touched_by book e (command.League kind name code start)) book (in_season book.facts (λ facts. leagues_ruled book facts e (command.League kind name code start)))
create_leaves book e kind name code start = league_leaves book e (command.League kind name code start) (league_keeps book kind name code start e)

pub join_leaves : (book : Book) (e l : ℕ) (code : List ℕ)
    → Leaves (touched_by book e (command.Join l code)) book (in_season book.facts (λ facts. leagues_ruled book facts e (command.Join l code)))
join_leaves book e l code = league_leaves book e (command.Join l code) (join_keeps book l e)

pub draw_leaves : (book : Book) (e l : ℕ) (order : List ℕ)
    → Leaves (touched_by book e (command.Draw l order)) book (in_season book.facts (λ facts. leagues_ruled book facts e (command.Draw l order)))
draw_leaves book e l order = league_leaves book e (command.Draw l order) (draw_keeps book l order)

pub cup_leaves : (book : Book) (e start : ℕ) (slots coins : List ℕ)
    → Leaves (touched_by book e (command.Cup start slots coins)) book (in_season book.facts (λ facts. cups_ruled book facts (command.Cup start slots coins)))
cup_leaves book e start slots coins =
    let touched : List Slot = slot.Cup (length book.cups + 1) ∷ [] in
    let b : Bracket = record { start = start; slots = slots; coins = coins } in
    in_season_leaves touched book (λ facts. cups_ruled book facts (command.Cup start slots coins)) (λ facts.
    there_leaves touched book (record { made = cup_made book.cups; book = record book { cups = book.cups ++ b ∷ [] } }) (cup_keeps book b)
    (cup_there facts (is_issued book.entries) b)
    (cup_broken facts (is_registered book.entries) (length book.cups) b)) book.facts
