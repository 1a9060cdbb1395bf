-- The reads that the answer of a book allows.
use Rattle.std.proofs.Common.{◌≡◌, ◌≤◌, ◌+◌, ◌∙◌, ℕ, List, Option, Some, ap, arith, subst, sym}
use Rattle.std.specs.Option.{option_map_or}
use Rattle.fpl_base.specs.declared.kinds.Caller.{Caller}
use Rattle.rule_book.specs.ById.{at_id}
use Rattle.season_book.specs.Book.{Book, Facts, Last, caller_number, last_number}
use Rattle.season_book.specs.Hosts.{number_in}
use Rattle.season_book.specs.Verdict.{seen_in, unseen, view_answer}
use Rattle.season_book.specs.declared.request.View.{View}
use Rattle.season_book.specs.declared.request.View.TheVariants as view
use Rattle.season_book.specs.declared.request.Window.{Window}
use Rattle.season_running.specs.Standing.{HostRows, Running, StandsIn, host_rows, number_at}
use Rattle.season_views.specs.Reads.{reads_allowed, spoken_of, view_reads, window_reads}

-- what is allowed by what is seen in the season is allowed by the answer of the book
pub seen_reads : (book : Book) (caller : Caller) (view : View) (facts : Facts) (old new : ℕ) → book.facts ≡ Some facts
    → new ≤ old + reads_allowed (seen_in book caller view facts) → new ≤ old + view_reads book caller view
seen_reads book caller view facts old new is few =
    let answered : new ≤ old + reads_allowed (view_answer book caller view) =
    subst (λ o. new ≤ old + reads_allowed (option_map_or (seen_in book caller view) o (unseen book caller view))) (sym is) few in
    omega (arith, answered)

-- what a window speaks of is allowed
pub window_few : (book : Book) (caller : Caller) (w : Window) (facts : Facts) (old new : ℕ) → book.facts ≡ Some facts
    → new ≤ old + window_reads facts book.entries book.leagues book.cups w → new ≤ old + view_reads book caller (view.Window w)
window_few book caller w facts old new is few =
    let spoken : new ≤ old + spoken_of book (view.Window w) =
    subst (λ o. new ≤ old + option_map_or (λ facts. window_reads facts book.entries book.leagues book.cups w) o 0) (sym is) few in
    omega (arith, spoken)

-- the number of a caller's last command is that of each book that a host stands for
pub last_is : (operator : List ℕ) (o : Option Running) (lasts : List (ℕ × Last)) (host : HostRows) (book : Book) (caller : Caller) (n : ℕ)
    → host_rows operator o lasts ≡ host → n ≡ number_at lasts caller → StandsIn host book → n ≡ last_number book caller
last_is operator o lasts host book caller n view_is is stands =
    is ∙ ap (λ l. number_in (at_id l (caller_number caller))) (ap (λ (h : HostRows). h.lasts) view_is ∙ sym stands.lasts)
