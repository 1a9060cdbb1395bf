-- What windows show of books that are the same to a caller.
use Rattle.std.proofs.Common.{◌≡◌, ◌+◌, ℕ, List, [], ◌∷◌, Option, Some, None, map, refl, ap}
use Rattle.std.specs.List.{enumerate_from}
use Rattle.std.specs.Option.{option_and_then, option_map, option_map_or}
use Rattle.serde_json.specs.Data.{Data, array}
use Rattle.serde_json.specs.View.{items_of}
use Rattle.fpl_base.specs.declared.kinds.Caller.{Caller}
use Rattle.rule_book.specs.UpTo.{start_of}
use Rattle.season_book.specs.Book.{Book, EntryFacts, Facts, Last, caller_number, last_number}
use Rattle.season_book.specs.AllWindows.{window_data}
use Rattle.season_book.specs.Windows.{cups_window, entry_data, entry_row, leagues_window, me_data, me_window, my_leagues_window, own_number}
use Rattle.season_book.specs.declared.request.Window.{Window}
use Rattle.season_book.specs.declared.request.Window.TheVariants as window
use Rattle.season_book.specs.Agree.{Alike, EntriesAlike}
use Rattle.season_book.proofs.BootstrapAlike.{bootstrap_window_alike}
use Rattle.season_book.proofs.CupWindowAlike.{cup_window_alike}
use Rattle.season_book.proofs.EntryWindowAlike.{entry_alike}
use Rattle.season_book.proofs.EntryWindowsAlike.{history_alike, picks_alike}
use Rattle.season_book.proofs.HeadMatchesAlike.{head_matches_alike}
use Rattle.season_book.proofs.StandingsAlike.{classic_standings_alike, head_standings_alike}
use Rattle.season_book.proofs.TransfersWindowAlike.{transfers_window_alike}

-- the number of a last command that is the same
pub number_alike : (caller : Caller) (book other : Book) → Alike caller book other → last_number book caller ≡ last_number other caller
number_alike caller book other a = ap (λ (o : Option Last). option_map_or (λ last. last.number) o 0) a.last

pub me_alike : (caller : Caller) (book other : Book) → Alike caller book other
    → me_window book.entries caller (last_number book caller) ≡ me_window other.entries caller (last_number other caller)
me_alike caller book other a =
    let last = number_alike caller book other a in
    let own = a.own in
    λ i. me_data (own_number caller) (last i) (option_map (λ entry. entry.name) (own i)) (option_and_then (λ entry. start_of entry.history) (own i))

rows_alike : (facts : Option Facts) (entries others : List EntryFacts) → EntriesAlike facts entries others → (n : ℕ)
    → map entry_row (enumerate_from n entries) ≡ map entry_row (enumerate_from n others)
rows_alike facts [] [] a n = refl
rows_alike facts [] (other ∷ others) a n = absurd a
rows_alike facts (entry ∷ entries) [] a n = absurd a
rows_alike facts (entry ∷ entries) (other ∷ others) (one, more) n =
    let rest = rows_alike facts entries others more (n + 1) in
    λ i. entry_data n (one.name i) (one.start i) ∷ rest i

pub window_alike : (caller : Caller) (book other : Book) → Alike caller book other → (facts : Facts) → book.facts ≡ Some facts → (w : Window)
    → window_data facts book.entries book.leagues book.cups caller (last_number book caller) w
    ≡ window_data facts other.entries other.leagues other.cups caller (last_number other caller) w
window_alike caller book other a facts there window.Me = ap Some (me_alike caller book other a)
window_alike caller book other a facts there window.Entries =
    ap (λ rows. Some (array (items_of rows))) (rows_alike book.facts book.entries other.entries a.entries 1)
window_alike caller book other a facts there window.Leagues = ap (λ leagues. Some (leagues_window leagues)) a.leagues
window_alike caller book other a facts there window.MyLeagues = ap (λ leagues. Some (my_leagues_window leagues (caller_number caller))) a.leagues
window_alike caller book other a facts there window.Cups = ap (λ cups. Some (cups_window cups)) a.cups
window_alike caller book other a facts there (window.Sheet f) = refl
window_alike caller book other a facts there window.Bootstrap = ap Some (bootstrap_window_alike caller book other a facts there)
window_alike caller book other a facts there window.Fixtures = refl
window_alike caller book other a facts there (window.Element p) = refl
window_alike caller book other a facts there (window.DreamTeam g) = refl
window_alike caller book other a facts there (window.Entry e) = entry_alike caller book other a facts there e
window_alike caller book other a facts there (window.Picks e g) = picks_alike caller book other a facts there e g
window_alike caller book other a facts there (window.Transfers e) = transfers_window_alike caller book other a facts there e
window_alike caller book other a facts there (window.ClassicStandings l) = classic_standings_alike caller book other a facts there l
window_alike caller book other a facts there (window.HeadStandings l) = head_standings_alike caller book other a facts there l
window_alike caller book other a facts there (window.HeadMatches l) = head_matches_alike caller book other a facts there l
window_alike caller book other a facts there (window.Cup c) = cup_window_alike caller book other a facts there c
window_alike caller book other a facts there (window.History e) = history_alike caller book other a facts there e
window_alike caller book other a facts there (window.Live g) = refl
