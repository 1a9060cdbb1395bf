-- The entries that managers' rows stand for, by their numbers.
use Rattle.std.proofs.Common.{◌≡◌, ◌<◌, ◌≤◌, ◌-◌, ◌==◌, ◌||◌, ℕ, Bool, true, false, List, length, Option, Some, None, arith, nat_lt, nat_le, ◌&&◌, true≢false, refl, sym, ap, subst, ◌∙◌, if◌then◌else◌}
use Rattle.std.specs.List.{slice_get}
use Rattle.std.specs.Option.{option_and_then}
use Rattle.std.proofs.lemmas.Bool.Decides.{nat_tests}
use Rattle.std.proofs.lemmas.Option.{cond_some, none-some, same_Some}
use Rattle.fpl_base.specs.declared.kinds.Position.{Position}
use Rattle.rule_book.specs.declared.player.Player.{Player}
use Rattle.rule_book.specs.Calendar.{is_locked}
use Rattle.rule_book.specs.HistoryTeam.{is_begun}
use Rattle.rule_book.specs.PlayerFigures.{position_in}
use Rattle.rule_book.specs.Players.{ArePlayers}
use Rattle.season_ledger.specs.Stands.{StandsFor}
use Rattle.manager_book.specs.declared.manager.Manager.{Manager}
use Rattle.manager_book.specs.Managers.{Managers, season_of}
use Rattle.season_book.specs.Book.{EntryFacts, Facts}
use Rattle.season_book.specs.declared.shown.ShownEntryGameweek.{ShownEntryGameweek}
use Rattle.season_book.specs.EntryViews.{entry_gameweek_shown, entry_shown, has_scored}
use Rattle.season_entries.specs.Entries.{AreEntries}
use Rattle.season_entries.proofs.Issued.{entry_at, none_at}
use Rattle.season_entries.proofs.Placing.{have_positions}
use Rattle.season_views.specs.Entries.{OfEachHistory}

-- what is shown of an entry's gameweek
abbrev shown_by : Facts → ℕ → EntryFacts → Option ShownEntryGameweek
shown_by facts g entry = if has_scored facts entry.history g then Some (entry_gameweek_shown facts entry.history g) else None

past_all : (n e : ℕ) → (e == 0) ≡ false → nat_lt n e ≡ true → n ≤ e - 1
past_all n e some past = grind (arith, nat_tests, some, past)

among_all : (n e : ℕ) → (e == 0) ≡ false → nat_lt n e ≡ false → e - 1 < n
among_all n e some past = grind (arith, nat_tests, some, past)

none_case : (players : List Player) (managers : List Manager) (entries : List EntryFacts) (e : ℕ) (none past : Bool) → AreEntries players managers entries
    → (e == 0) ≡ none → nat_lt (length managers) e ≡ past → None ≡ (if none || past then None else Some e) → (if none then None else slice_get entries (e - 1)) ≡ None
none_case players managers entries e true past are is_none is_past at = refl
none_case players managers entries e false true are is_none is_past at = none_at players managers entries (e - 1) are (past_all (length managers) e is_none is_past)
none_case players managers entries e false false are is_none is_past at = absurd (none-some e at)

-- an entry that was not issued is not shown
pub not_issued : (facts : Facts) (managers : List Manager) (entries : List EntryFacts) (e g : ℕ) → AreEntries facts.players managers entries
    → None ≡ (if e == 0 || nat_lt (length managers) e then None else Some e) → None ≡ entry_shown facts entries e g
not_issued facts managers entries e g are at =
    ap (option_and_then (shown_by facts g)) (sym (none_case facts.players managers entries e (e == 0) (nat_lt (length managers) e) are refl refl at))

-- the number of an entry that was issued, and its place
pub record Issued (managers : List Manager) (e there : ℕ) : Type 0 where
  pub same : there ≡ e
  pub some : (e == 0) ≡ false
  pub within : e - 1 < length managers

issued_case : (managers : List Manager) (e there : ℕ) (none past : Bool) → (e == 0) ≡ none → nat_lt (length managers) e ≡ past
    → Some there ≡ (if none || past then None else Some e) → Issued managers e there
issued_case managers e there true past is_none is_past at = absurd (none-some there (sym at))
issued_case managers e there false true is_none is_past at = absurd (none-some there (sym at))
issued_case managers e there false false is_none is_past at =
    record { same = same_Some there e at; some = is_none; within = among_all (length managers) e is_none is_past }

begun_alone : (there locked begun : Bool) → (there && locked) ≡ true → (there && (locked && begun)) ≡ begun
begun_alone true true begun is = refl
begun_alone true false begun is = absurd (true≢false (sym is))
begun_alone false locked begun is = absurd (true≢false (sym is))

-- what is shown of an entry that was issued, in a locked gameweek
pub issued_shown : (facts : Facts) (managers : Managers) (entries : List EntryFacts) (e there g locked : ℕ) (shown : Option ShownEntryGameweek)
    → ArePlayers facts.players → AreEntries facts.players managers.managers entries
    → Some there ≡ (if e == 0 || nat_lt (length managers.managers) e then None else Some e)
    → Some locked ≡ (if nat_le 1 g && is_locked facts.calendar g then Some g else None)
    → OfEachHistory facts managers there (λ h. shown ≡ (if is_begun h locked then Some (entry_gameweek_shown facts h locked) else None))
    → shown ≡ entry_shown facts entries e g
issued_shown facts managers entries e there g locked shown players are is_there is_locked_there of_each =
    let i = issued_case managers.managers e there (e == 0) (nat_lt (length managers.managers) e) refl refl is_there in
    let l = cond_some (nat_le 1 g && is_locked facts.calendar g) g locked (sym is_locked_there) in
    let at = entry_at facts.players managers.managers entries (e - 1) are i.within in
    let h = at.entry.history in
    let position : ℕ → Position = position_in facts.players in
    let stands : StandsFor position (season_of managers there) h =
    subst (λ n. StandsFor position (season_of managers n) h) (sym i.same) (at.stands.history position (have_positions facts.players players)) in
    of_each h stands
    ∙ ap (λ n. if is_begun h n then Some (entry_gameweek_shown facts h n) else None) (sym l.1)
    ∙ ap (λ b. if b then Some (entry_gameweek_shown facts h g) else None) (sym (begun_alone (nat_le 1 g) (is_locked facts.calendar g) (is_begun h g) l.0))
    ∙ ap (option_and_then (shown_by facts g)) (sym at.there)
    ∙ ap (λ b. option_and_then (shown_by facts g) (if b then None else slice_get entries (e - 1))) (sym i.some)
