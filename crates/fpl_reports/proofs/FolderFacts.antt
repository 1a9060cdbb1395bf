-- What rows have in common, and that the commands of a season can be asked.
use Rattle.std.proofs.Common.{◌≡◌, ◌≢◌, ◌≤◌, ◌==◌, ◌++◌, ◌∷◌, [], ℕ, suc, List, Bool, true, false, length, length-append, map, fold, max, arith, refl}
use Rattle.std.specs.List.{All, list_any}
use Rattle.std.proofs.lemmas.Bool.Decides.{nat_tests}
use Rattle.std.proofs.lemmas.List.{map-append}
use Rattle.std.proofs.lemmas.List.Elements.{All-append, All-cons, All-map, All-nil}
use Rattle.std.proofs.lemmas.List.Quantifiers.{all_pairs_push}
use Rattle.std.specs.Prelude.{◌||◌}
use Rattle.rule_book.specs.Ranks.{AllDiffer}
use Rattle.season_book.specs.Commands.{IsCommand, club_ids}
use Rattle.season_book.specs.declared.command.Command.TheVariants as command
use Rattle.fpl_base.specs.declared.kinds.Profile.{Profile}
use Rattle.fpl_reports.specs.Rows.{AddAll, HasRows}
use Rattle.fpl_reports.specs.Files.{AddsClub, AddsFixture}
use Rattle.fpl_reports.specs.Folder.{AreDeadlines, gameweeks_of, order_of_player, order_of_fixture}
use Rattle.fpl_reports.specs.declared.files.PlayerRow.{PlayerRow}
use Rattle.fpl_reports.specs.declared.files.FixtureRow.{FixtureRow}
use Rattle.fpl_reports.proofs.RowLists.{each_row}

-- each fixture of a file begins late enough, between two clubs, in a gameweek that a season can have
pub all_late : (bytes : List ℕ) (rows : List FixtureRow) → HasRows AddsFixture bytes rows → All (λ (row : FixtureRow). 5400 ≤ row.kickoff) rows
all_late bytes rows has = each_row AddsFixture (λ row. 5400 ≤ row.kickoff) (λ before fields row adds. adds.late) [] has.records rows (All-nil (λ (row : FixtureRow). 5400 ≤ row.kickoff)) has.rows_are

all_apart : (bytes : List ℕ) (rows : List FixtureRow) → HasRows AddsFixture bytes rows → All (λ (row : FixtureRow). row.home ≢ row.away) rows
all_apart bytes rows has = each_row AddsFixture (λ row. row.home ≢ row.away) (λ before fields row adds. adds.two_clubs) [] has.records rows (All-nil (λ (row : FixtureRow). row.home ≢ row.away)) has.rows_are

all_within : (bytes : List ℕ) (rows : List FixtureRow) → HasRows AddsFixture bytes rows → All (λ (row : FixtureRow). row.gameweek ≤ 38) rows
all_within bytes rows has = each_row AddsFixture (λ row. row.gameweek ≤ 38) (λ before fields row adds. adds.gameweek.1) [] has.records rows (All-nil (λ (row : FixtureRow). row.gameweek ≤ 38)) has.rows_are

greatest_within : (rows : List FixtureRow) (n : ℕ) → n ≤ 38 → All (λ (row : FixtureRow). row.gameweek ≤ 38) rows → fold (λ m (row : FixtureRow). max m row.gameweek) n rows ≤ 38
greatest_within [] n h all = h
greatest_within (row ∷ rows) n h all =
    let first : row.gameweek ≤ 38 = all 0 row (omega arith) in
    greatest_within rows (max n row.gameweek) (omega arith) (λ k d below. all (suc k) d (omega arith))

-- clubs of which none has an earlier one's number are at most 20, and differ
either : (a b : Bool) → (a || b) ≡ false → (a ≡ false) × (b ≡ false)
either true b h = absurd (cc h)
either false b h = (refl, h)

none_is : (id : ℕ) (clubs : List (ℕ × List ℕ)) → list_any (λ earlier. earlier.0 == id) clubs ≡ false → All (λ n. n ≢ id) (club_ids clubs)
none_is id [] h = All-nil (λ n. n ≢ id)
none_is id (club ∷ clubs) h =
    let (other, rest) = either (club.0 == id) (list_any (λ earlier. earlier.0 == id) clubs) h in
    let apart : club.0 ≢ id = grind (arith, nat_tests, other) in
    All-cons (λ n. n ≢ id) club.0 (club_ids clubs) apart (none_is id clubs rest)

one_more_differs : (clubs : List (ℕ × List ℕ)) (club : ℕ × List ℕ) → AllDiffer (club_ids clubs) → list_any (λ earlier. earlier.0 == club.0) clubs ≡ false → AllDiffer (club_ids (clubs ++ club ∷ []))
one_more_differs clubs club differ new =
    rw (map-append (λ (c : ℕ × List ℕ). c.0) clubs (club ∷ [])) (all_pairs_push (λ a b. a ≢ b) (club_ids clubs) club.0 differ (none_is club.0 clubs new))

few_clubs : (before : List (ℕ × List ℕ)) (records : List (List (List ℕ))) (clubs : List (ℕ × List ℕ)) → AddAll AddsClub before records clubs → length before ≤ 20 → AllDiffer (club_ids before)
    → (length clubs ≤ 20) × AllDiffer (club_ids clubs)
unfolding AddAll
few_clubs before [] clubs add few differ = rw add (few, differ)
few_clubs before (f ∷ fs) clubs add few differ =
    few_clubs (before ++ add.0 ∷ []) fs clubs add.2 (simp length-append (omega (arith, add.1.few))) (one_more_differs before add.0 differ add.1.new_id)

no_clubs : AllDiffer (club_ids [])
no_clubs i j d below within same = omega arith

some_there : {X : Type 0} (xs : List X) → xs ≢ [] → 1 ≤ length xs
some_there [] h = absurd (h refl)
some_there (x ∷ xs) h = omega arith

-- the season of right files can be asked, and so can their players and fixtures
pub season_lawful : (clubs fixtures : List ℕ) (club_rows : List (ℕ × List ℕ)) (rows : List FixtureRow) (split : ℕ) (profile : Profile) (deadlines : List ℕ)
    → HasRows AddsClub clubs club_rows → club_rows ≢ [] → HasRows AddsFixture fixtures rows → AreDeadlines split rows deadlines → IsCommand (command.Season profile deadlines split club_rows)
season_lawful clubs fixtures club_rows rows split profile deadlines has some fixed are =
    let (few, differ) = few_clubs [] has.records club_rows has.rows_are (omega arith) no_clubs in
    let within : gameweeks_of rows ≤ 38 = greatest_within rows 0 (omega arith) (all_within fixtures rows fixed) in
    (are.some_gameweek, omega (arith, are.count), are.split_within, some_there club_rows some, few, differ)

pub orders_lawful : (players : List PlayerRow) (bytes : List ℕ) (rows : List FixtureRow) → HasRows AddsFixture bytes rows → All IsCommand (map order_of_player players ++ map order_of_fixture rows)
orders_lawful players bytes rows fixed =
    All-append IsCommand (map order_of_player players) (map order_of_fixture rows)
    (All-map IsCommand order_of_player players (λ k d below. tt))
    (All-map IsCommand order_of_fixture rows (all_apart bytes rows fixed))
