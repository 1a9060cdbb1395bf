-- Cells that follow what a host became.
use Rattle.std.proofs.Common.{◌≡◌, ◌∙◌, ℕ, List, [], Option, None, Some, ap, subst, sym}
use Rattle.std.specs.Option.{option_map, option_map_or, unwrap_or}
use Rattle.std.proofs.lemmas.Option.{same_Some}
use Rattle.manager_book.specs.declared.manager.Manager.{Manager}
use Rattle.manager_book.specs.Managers.{Managers}
use Rattle.rule_book.specs.declared.cup.Bracket.{Bracket}
use Rattle.rule_book.specs.Leagues.{LeagueFacts}
use Rattle.rule_book.specs.Calendar.{IsCalendar}
use Rattle.season_book.specs.Book.{Facts, Last}
use Rattle.season_book.specs.Verdict.{locked_at}
use Rattle.season_cells.specs.Kept.{AreCellsOf, CellRows, season_seen}
use Rattle.season_views.specs.Cells.{books_seen}
use Rattle.season_graph.specs.BookChanges.{MomentPasses}
use Rattle.season_graph.specs.Changes.{DifferInLocks}
use Rattle.season_nodes.specs.BookFacts.{facts_with}
use Rattle.season_nodes.specs.Season.{IsSeason, SeasonFacts}
use Rattle.season_nodes.specs.declared.nodes.Node.TheVariants as node
use Rattle.season_running.specs.Kept.{AreKeptBy}
use Rattle.season_running.specs.Standing.{HostRows, Running, host_rows, passed}
use Rattle.season_host.specs.Cells.{AreCellsOfHost, Locks, LocksNow, running_in, running_seen}

-- a season and its managers are seen as the season that runs
pub seen_is : (r : Running) (f : Facts) (m : Managers) (l : List LeagueFacts) (c : List Bracket) → f ≡ r.facts → m.managers ≡ r.managers → m.profile ≡ r.facts.profile → l ≡ r.leagues → c ≡ r.cups
    → books_seen f m l c ≡ running_seen r
seen_is r f m l c same rows profile leagues cups =
    λ i. facts_with (same i).profile (same i).calendar (same i).players (same i).matches (record { profile = profile i; managers = rows i }) (leagues i) (cups i)

-- the facts of the season that ran, or of this one where none did
abbrev pub seen_or : Option Running → Running → SeasonFacts
seen_or before running = option_map_or running_seen before (running_seen running)

-- What is corrected.

-- Moments.

-- the season before a moment, or this one where none ran
abbrev pub season_then : Option Running → Running → Running
season_then before running = unwrap_or before running

-- the season of a moment differs in its locks from the one before
pub locked_season : MomentPasses → (before running : Running) (first : ℕ) (books : SeasonFacts) → books ≡ running_seen running → Locks before running first
    → IsSeason (running_seen before) → IsCalendar running.facts.calendar → IsSeason books × DifferInLocks (running_seen before) books first
locked_season passes before running first books same locks season calendar =
    let after : SeasonFacts = season_seen (locked_at locks.now before.facts) before.managers before.leagues before.cups in
    let made = passes (running_seen before) locks.now season (subst (λ (f : Facts). IsCalendar f.calendar) locks.facts calendar) in
    let is : after ≡ books = sym (same ∙ (λ i. season_seen (locks.facts i) (locks.managers i) (locks.leagues i) (locks.cups i))) in (
      subst IsSeason is made.0,
      subst (λ (f : SeasonFacts). DifferInLocks (running_seen before) f first) is
          (subst (λ n. DifferInLocks (running_seen before) after n) (sym locks.before) made.1),
    )

locks_case : (facts : Option Facts) (managers : List Manager) (leagues : List LeagueFacts) (cups : List Bracket) (running : Option Running) (now first : ℕ)
    → option_map (λ r. r.facts) running ≡ option_map (locked_at now) facts → option_map_or (λ r. r.managers) running [] ≡ managers → option_map_or (λ r. r.leagues) running [] ≡ leagues → option_map_or (λ r. r.cups) running [] ≡ cups
    → first ≡ option_map_or (λ f. f.calendar.locked) facts 0
    → LocksNow (option_map (λ f. record { facts = f; managers = managers; leagues = leagues; cups = cups }) facts) running first
locks_case None managers leagues cups None now first facts_are managers_are leagues_are cups_are is = tt
locks_case None managers leagues cups (Some r) now first facts_are managers_are leagues_are cups_are is = cc
locks_case (Some f) managers leagues cups None now first facts_are managers_are leagues_are cups_are is = cc
locks_case (Some f) managers leagues cups (Some r) now first facts_are managers_are leagues_are cups_are is =
    record { now = now; facts = same_Some r.facts (locked_at now f) facts_are; managers = managers_are; leagues = leagues_are; cups = cups_are; before = is }

-- a host on which a moment passed
pub locks_host : (before old after : HostRows) (running : Option Running) (now first : ℕ) → old ≡ before → after ≡ host_rows after.operator running after.lasts
    → after ≡ passed now old → first ≡ option_map_or (λ f. f.calendar.locked) old.facts 0 → LocksNow (running_in before) running first
locks_host before old after running now first same runs passes is =
    subst (λ (h : HostRows). LocksNow (running_in h) running first) same
    (locks_case old.facts old.managers old.leagues old.cups running now first
    (sym (ap (λ (h : HostRows). h.facts) runs) ∙ ap (λ (h : HostRows). h.facts) passes)
    (sym (ap (λ (h : HostRows). h.managers) runs) ∙ ap (λ (h : HostRows). h.managers) passes)
    (sym (ap (λ (h : HostRows). h.leagues) runs) ∙ ap (λ (h : HostRows). h.leagues) passes)
    (sym (ap (λ (h : HostRows). h.cups) runs) ∙ ap (λ (h : HostRows). h.cups) passes) is)

-- the cells of a host are kept of the season that runs in it
kept_case : (running : Running) (cells : CellRows) → AreCellsOf (running_seen running) cells → AreKeptBy running cells.cells
kept_case running cells are = record { season = are.season; evaluated = are.evaluated }

pub kept_of : (operator : List ℕ) (lasts : List (ℕ × Last)) (host : HostRows) (here : Option Running) (running : Running) (all : Option CellRows) (cells : CellRows)
    → host_rows operator here lasts ≡ host → here ≡ Some running → all ≡ Some cells → AreCellsOfHost host all → AreKeptBy running cells.cells
kept_of operator lasts host here running all cells view runs kept are =
    kept_case running cells
    (subst (λ (o : Option Running). AreCellsOfHost (host_rows operator o lasts) (Some cells)) runs
    (subst (λ (o : Option CellRows). AreCellsOfHost (host_rows operator here lasts) o) kept
    (subst (λ (h : HostRows). AreCellsOfHost h all) (sym view) are)))
