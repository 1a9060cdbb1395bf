-- The reads that a host counts beside what it evaluates.
use Rattle.std.proofs.Common.{◌≡◌, ◌≢◌, ℕ, List, Option, Some, Result, Ok, Err, IfOk, refl, subst, sym}
use Rattle.std.specs.Prelude.{IfErr}
use Rattle.season_book.specs.Book.{Last}
use Rattle.season_book.specs.declared.answer.Answer.{Answer}
use Rattle.season_book.specs.declared.answer.Answer.TheVariants as answer
use Rattle.season_book.specs.declared.command.Command.{Command}
use Rattle.season_cells.specs.Plans.{lines_named}
use Rattle.season_running.specs.Standing.{HostRows, Running, host_rows}
use Rattle.season_host.specs.Accepted.{answer_from, change_from}
use Rattle.season_host.specs.Cells.{IsChangeOf, lines_in, running_in}
use Rattle.season_host.specs.declared.accepting.Done.{Done}
use Rattle.season_host.specs.declared.change.Change.{Change}
use Rattle.season_host.specs.declared.change.Change.TheVariants as change

-- the lines of a host are those of the season that runs in it
pub lines_here : (operator : List ℕ) (lasts : List (ℕ × Last)) (host : HostRows) (here : Option Running) (running : Running) (command : Command)
    → host_rows operator here lasts ≡ host → here ≡ Some running → lines_in (running_in host) command ≡ lines_named running.facts command
lines_here operator lasts host here running command view runs =
    subst (λ (h : HostRows). lines_in (running_in h) command ≡ lines_named running.facts command) view
    (subst (λ (o : Option Running). lines_in (running_in (host_rows operator o lasts)) command ≡ lines_named running.facts command) (sym runs) refl)

-- what was done to a season that runs has a plan
pub acts_of : (old new : Running) (done : Result Done Answer) → IfOk done (λ d. IsChangeOf old new d.change) → IfOk done (λ d. d.change ≢ change.Nothing)
acts_of old new (Ok d) is = λ none. subst (λ (c : Change). IsChangeOf old new c) none is
acts_of old new (Err reply) is = tt

-- where nothing was changed, a command was refused
pub refused_done : {X : Type 0} (number : ℕ) (done : Result Done Answer) → IfOk done (λ d. d.change ≢ change.Nothing) → IfErr done (λ reply. reply ≢ answer.Memory → X)
    → change_from done ≡ change.Nothing → answer_from number done ≢ answer.Memory → X
refused_done number (Ok d) acts refused none some = absurd (acts none)
refused_done number (Err reply) acts refused none some = refused some
