-- Three files describe one season, or have one first wrong row.
use Rattle.std.proofs.Common.{◌≡◌, ◌≤◌, ◌+◌, ◌-◌, ◌/◌, ◌%◌, ◌++◌, [], ◌∷◌, ℕ, List, length, get_or, map, Option, Some, None, arith, refl, sym, ap, subst, ◌∙◌, inl, inr}
use Rattle.std.specs.Fmt.{decimal}
use Rattle.std.proofs.lemmas.Fmt.{decimal_injective}
use Rattle.std.proofs.lemmas.Grind.{same_number_lists}
use Rattle.fpl_base.proofs.OneLetter.{same_letter}
use Rattle.fpl_base.specs.declared.kinds.Position.{Position}
use Rattle.fpl_base.specs.declared.kinds.Profile.{Profile}
use Rattle.season_book.specs.declared.command.Command.{Command}
use Rattle.season_book.specs.declared.command.Command.TheVariants as command
use Rattle.season_calendar.specs.Instants.{IsInstant, text_of}
use Rattle.fpl_reports.specs.Rows.{HasRows, HasWrongRow}
use Rattle.fpl_reports.specs.Files.{AddsClub, AddsPlayer, AddsFixture}
use Rattle.fpl_reports.specs.Folder.{AreDeadlines, AreOrders, EndsEarly, first_kickoff, gameweeks_of, order_of_player, order_of_fixture}
use Rattle.fpl_reports.specs.Faults.{AreClubs, ArePlayers, IsFirstWrong, WrongOfClubs, WrongOfFixtures}
use Rattle.fpl_reports.specs.declared.files.PlayerRow.{PlayerRow}
use Rattle.fpl_reports.specs.declared.files.FixtureRow.{FixtureRow}
use Rattle.fpl_reports.proofs.ReadOnce.{Once, rows_once, rows_not_wrong, wrong_once}

same_number : (m n : ℕ) → m ≤ 999999 → n ≤ 999999 → decimal m ≡ decimal n → m ≡ n
same_number m n h k e = decimal_injective m n (omega arith) (omega arith) e

-- Lists of fields, element by element.

head_same : {A : Type 0} {x y : A} {xs ys : List A} → x ∷ xs ≡ y ∷ ys → x ≡ y
head_same e = cc

tail_same : {A : Type 0} {x y : A} {xs ys : List A} → x ∷ xs ≡ y ∷ ys → xs ≡ ys
tail_same e = cc

pub one_club : Once AddsClub
one_club before fields a b p q =
    let e = sym p.spelled.fields_are ∙ q.spelled.fields_are in
    let ids : a.0 ≡ b.0 = same_number a.0 b.0 (omega (arith, p.spelled.id.1)) (omega (arith, q.spelled.id.1)) (head_same e) in
    let names : a.1 ≡ b.1 = head_same (tail_same e) in
    let make : ℕ → List ℕ → ℕ × List ℕ = λ id name. (id, name) in
    ap (λ n. make n a.1) ids ∙ ap (λ n. make b.0 n) names

make_player : ℕ → List ℕ → Position → ℕ → ℕ → PlayerRow
make_player id name position club price = record { id = id; name = name; position = position; club = club; price = price }

pub one_player : Once AddsPlayer
unfolding make_player
one_player before fields a b p q =
    let e1 = sym p.fields_are ∙ q.fields_are in
    let e2 = tail_same e1 in
    let e3 = tail_same e2 in
    let e4 = tail_same e3 in
    let e5 = tail_same e4 in
    let ids : a.id ≡ b.id = same_number a.id b.id p.id.1 q.id.1 (head_same e1) in
    let names : a.name ≡ b.name = head_same e2 in
    let positions : a.position ≡ b.position = same_letter a.position b.position (head_same e3) in
    let clubs : a.club ≡ b.club = same_number a.club b.club (omega (arith, p.club.1)) (omega (arith, q.club.1)) (head_same e4) in
    let prices : a.price ≡ b.price = same_number a.price b.price (omega (arith, p.price)) (omega (arith, q.price)) (head_same e5) in
    ap (λ x. make_player x a.name a.position a.club a.price) ids
    ∙ ap (λ x. make_player b.id x a.position a.club a.price) names
    ∙ ap (λ x. make_player b.id b.name x a.club a.price) positions
    ∙ ap (λ x. make_player b.id b.name b.position x a.price) clubs
    ∙ ap (λ x. make_player b.id b.name b.position b.club x) prices

-- Instants: the digits of a text tell its parts, and the parts tell the moment.

same_digits : (m n : ℕ) (a b : List ℕ) (k : ℕ) → a ≡ b → get_or a k 0 ≡ 48 + m / 10 → get_or b k 0 ≡ 48 + n / 10 → get_or a (k + 1) 0 ≡ 48 + m % 10 → get_or b (k + 1) 0 ≡ 48 + n % 10 → m ≡ n
same_digits m n a b k e p q r s = omega (arith, ap (λ l. get_or l k 0) e, ap (λ l. get_or l (k + 1) 0) e)

one_instant : (text : List ℕ) (t u : ℕ) → IsInstant text t → IsInstant text u → t ≡ u
one_instant text t u p q =
    let a = p.parts in
    let b = q.parts in
    let e : text_of a ≡ text_of b = sym p.text_is ∙ q.text_is in
    let century : a.year / 100 ≡ b.year / 100 = same_digits (a.year / 100) (b.year / 100) (text_of a) (text_of b) 0 e refl refl refl refl in
    let years : a.year % 100 ≡ b.year % 100 = same_digits (a.year % 100) (b.year % 100) (text_of a) (text_of b) 2 e refl refl refl refl in
    let year : a.year ≡ b.year = omega arith in
    let month : a.month ≡ b.month = same_digits a.month b.month (text_of a) (text_of b) 5 e refl refl refl refl in
    let day : a.day ≡ b.day = same_digits a.day b.day (text_of a) (text_of b) 8 e refl refl refl refl in
    let hour : a.hour ≡ b.hour = same_digits a.hour b.hour (text_of a) (text_of b) 11 e refl refl refl refl in
    let minute : a.minute ≡ b.minute = same_digits a.minute b.minute (text_of a) (text_of b) 14 e refl refl refl refl in
    let second : a.second ≡ b.second = same_digits a.second b.second (text_of a) (text_of b) 17 e refl refl refl refl in
    let number : p.moment.day ≡ q.moment.day = cc (year, month, day, p.moment.day_is, q.moment.day_is) in
    omega (arith, p.moment.moment_is, q.moment.moment_is)

make_fixture : ℕ → ℕ → ℕ → ℕ → ℕ → FixtureRow
make_fixture id home away gameweek kickoff = record { id = id; home = home; away = away; gameweek = gameweek; kickoff = kickoff }

pub one_fixture : Once AddsFixture
unfolding make_fixture
one_fixture before fields a b p q =
    let e1 = sym p.fields_are ∙ q.fields_are in
    let e2 = tail_same e1 in
    let e3 = tail_same e2 in
    let e4 = tail_same e3 in
    let e5 = tail_same e4 in
    let ids : a.id ≡ b.id = same_number a.id b.id p.id.1 q.id.1 (head_same e1) in
    let homes : a.home ≡ b.home = same_number a.home b.home (omega (arith, p.home.1)) (omega (arith, q.home.1)) (head_same e2) in
    let aways : a.away ≡ b.away = same_number a.away b.away (omega (arith, p.away.1)) (omega (arith, q.away.1)) (head_same e3) in
    let gameweeks : a.gameweek ≡ b.gameweek = same_number a.gameweek b.gameweek (omega (arith, p.gameweek.1)) (omega (arith, q.gameweek.1)) (head_same e4) in
    let I : List ℕ → Type 0 = λ text. IsInstant text b.kickoff in
    let kickoffs : a.kickoff ≡ b.kickoff = one_instant p.instant a.kickoff b.kickoff p.kickoff (subst I (sym (head_same e5)) q.kickoff) in
    ap (λ x. make_fixture x a.home a.away a.gameweek a.kickoff) ids
    ∙ ap (λ x. make_fixture b.id x a.away a.gameweek a.kickoff) homes
    ∙ ap (λ x. make_fixture b.id b.home x a.gameweek a.kickoff) aways
    ∙ ap (λ x. make_fixture b.id b.home b.away x a.kickoff) gameweeks
    ∙ ap (λ x. make_fixture b.id b.home b.away b.gameweek x) kickoffs

-- Deadlines.

some_inside : {A : Type 0} {a b : A} (o : Option A) → o ≡ Some a → o ≡ Some b → a ≡ b
some_inside o p q = cc

one_deadlines : (split : ℕ) (rows : List FixtureRow) (a b : List ℕ) → AreDeadlines split rows a → AreDeadlines split rows b → a ≡ b
one_deadlines split rows a b p q =
    let size : length a ≡ length b = p.count ∙ sym q.count in
    same_number_lists a b size
    (λ k h.
    let same : get_or a k 0 + 5400 ≡ get_or b k 0 + 5400 = some_inside (first_kickoff rows (k + 1)) (p.each k h) (q.each k (omega (arith, size))) in
    omega arith)

none_inside : {A : Type 0} {a : A} (o : Option A) → o ≡ None → o ≡ Some a → ⊥
none_inside o p q = cc

deadlines_not_early : (split : ℕ) (rows : List FixtureRow) (deadlines : List ℕ) → AreDeadlines split rows deadlines → EndsEarly split rows → ⊥
deadlines_not_early split rows deadlines are early = elim early [
  | inl empty ↦ omega (arith, are.some_gameweek, are.count, ap gameweeks_of empty)
  | inr (inl short) ↦ omega (arith, are.split_within, are.count, short)
  | inr (inr lacks) ↦
      let place : (lacks.gameweek - 1) + 1 ≡ lacks.gameweek = omega (arith, lacks.from_1) in
      let there = are.each (lacks.gameweek - 1) (omega (arith, lacks.from_1, lacks.within, are.count)) in
      none_inside (first_kickoff rows lacks.gameweek) lacks.missing (ap (first_kickoff rows) (sym place) ∙ there)
]

-- The three files.

pub one_season : (clubs players fixtures : List ℕ) (split : ℕ) (profile : Profile) (a b : List Command)
    → AreOrders clubs players fixtures split profile a → AreOrders clubs players fixtures split profile b → a ≡ b
one_season clubs players fixtures split profile a b p q =
    let same_clubs : p.club_rows ≡ q.club_rows = rows_once AddsClub one_club clubs p.club_rows q.club_rows p.clubs_are q.clubs_are in
    let same_players : p.player_rows ≡ q.player_rows = rows_once AddsPlayer one_player players p.player_rows q.player_rows p.players_are q.players_are in
    let same_fixtures : p.fixture_rows ≡ q.fixture_rows = rows_once AddsFixture one_fixture fixtures p.fixture_rows q.fixture_rows p.fixtures_are q.fixtures_are in
    let D : List FixtureRow → Type 0 = λ rows. AreDeadlines split rows q.deadlines in
    let deadlines : p.deadlines ≡ q.deadlines = one_deadlines split p.fixture_rows p.deadlines q.deadlines p.deadlines_are (subst D (sym same_fixtures) q.deadlines_are) in
    let make : List ℕ → List (ℕ × List ℕ) → List PlayerRow → List FixtureRow → List Command =
    λ ds cs ps fs. command.Season profile ds split cs ∷ (map order_of_player ps ++ map order_of_fixture fs) in
    p.commands_are
    ∙ ap (λ x. make x p.club_rows p.player_rows p.fixture_rows) deadlines
    ∙ ap (λ x. make q.deadlines x p.player_rows p.fixture_rows) same_clubs
    ∙ ap (λ x. make q.deadlines q.club_rows x p.fixture_rows) same_players
    ∙ ap (λ x. make q.deadlines q.club_rows q.player_rows x) same_fixtures
    ∙ sym q.commands_are

clubs_or_wrong : (bytes : List ℕ) (n : ℕ) → AreClubs bytes → WrongOfClubs bytes n → ⊥
clubs_or_wrong bytes n are wrong = elim wrong [
  | inl at ↦ rows_not_wrong AddsClub one_club bytes are.0 n are.1 at
  | inr empty ↦ are.2 (rows_once AddsClub one_club bytes are.0 [] are.1 empty.1)
]

players_or_wrong : (bytes : List ℕ) (n : ℕ) → ArePlayers bytes → HasWrongRow AddsPlayer bytes n → ⊥
players_or_wrong bytes n are wrong = rows_not_wrong AddsPlayer one_player bytes are.0 n are.1 wrong

fixtures_or_wrong : (split : ℕ) (bytes : List ℕ) (n : ℕ) (rows : List FixtureRow) (deadlines : List ℕ) → HasRows AddsFixture bytes rows → AreDeadlines split rows deadlines → WrongOfFixtures split bytes n → ⊥
fixtures_or_wrong split bytes n rows deadlines has are wrong = elim wrong [
  | inl at ↦ rows_not_wrong AddsFixture one_fixture bytes rows n has at
  | inr early ↦
      let same : early.0 ≡ rows = rows_once AddsFixture one_fixture bytes early.0 rows early.1 has in
      deadlines_not_early split rows deadlines are (rw same at early.2)
]

pub season_or_wrong : (clubs players fixtures : List ℕ) (split : ℕ) (profile : Profile) (a : List Command) (file n : ℕ)
    → AreOrders clubs players fixtures split profile a → IsFirstWrong clubs players fixtures split file n → ⊥
season_or_wrong clubs players fixtures split profile a file n p wrong = elim wrong [
  | inl first ↦ clubs_or_wrong clubs n (p.club_rows, p.clubs_are, p.some_club) first.1
  | inr (inl second) ↦ players_or_wrong players n (p.player_rows, p.players_are) second.2
  | inr (inr third) ↦ fixtures_or_wrong split fixtures n p.fixture_rows p.deadlines p.fixtures_are p.deadlines_are third.3
]

one_wrong_club : (bytes : List ℕ) (n m : ℕ) → WrongOfClubs bytes n → WrongOfClubs bytes m → n ≡ m
one_wrong_club bytes n m (inl p) (inl q) = wrong_once AddsClub one_club bytes n m p q
one_wrong_club bytes n m (inl p) (inr q) = absurd (rows_not_wrong AddsClub one_club bytes [] n q.1 p)
one_wrong_club bytes n m (inr p) (inl q) = absurd (rows_not_wrong AddsClub one_club bytes [] m p.1 q)
one_wrong_club bytes n m (inr p) (inr q) = p.0 ∙ sym q.0

one_wrong_fixture : (split : ℕ) (bytes : List ℕ) (n m : ℕ) → WrongOfFixtures split bytes n → WrongOfFixtures split bytes m → n ≡ m
one_wrong_fixture split bytes n m (inl p) (inl q) = wrong_once AddsFixture one_fixture bytes n m p q
one_wrong_fixture split bytes n m (inl p) (inr q) = absurd (rows_not_wrong AddsFixture one_fixture bytes q.0 n q.1 p)
one_wrong_fixture split bytes n m (inr p) (inl q) = absurd (rows_not_wrong AddsFixture one_fixture bytes p.0 m p.1 q)
one_wrong_fixture split bytes n m (inr p) (inr q) =
    let same : p.0 ≡ q.0 = rows_once AddsFixture one_fixture bytes p.0 q.0 p.1 q.1 in
    p.3 ∙ ap (λ rows. length rows + 1) same ∙ sym q.3

pub one_wrong_row : (clubs players fixtures : List ℕ) (split file n other m : ℕ)
    → IsFirstWrong clubs players fixtures split file n → IsFirstWrong clubs players fixtures split other m → (file ≡ other) × (n ≡ m)
one_wrong_row clubs players fixtures split file n other m (inl p) (inl q) = (p.0 ∙ sym q.0, one_wrong_club clubs n m p.1 q.1)
one_wrong_row clubs players fixtures split file n other m (inl p) (inr (inl q)) = absurd (clubs_or_wrong clubs n q.1 p.1)
one_wrong_row clubs players fixtures split file n other m (inl p) (inr (inr q)) = absurd (clubs_or_wrong clubs n q.1 p.1)
one_wrong_row clubs players fixtures split file n other m (inr (inl p)) (inl q) = absurd (clubs_or_wrong clubs m p.1 q.1)
one_wrong_row clubs players fixtures split file n other m (inr (inl p)) (inr (inl q)) = (p.0 ∙ sym q.0, wrong_once AddsPlayer one_player players n m p.2 q.2)
one_wrong_row clubs players fixtures split file n other m (inr (inl p)) (inr (inr q)) = absurd (players_or_wrong players n q.2 p.2)
one_wrong_row clubs players fixtures split file n other m (inr (inr p)) (inl q) = absurd (clubs_or_wrong clubs m p.1 q.1)
one_wrong_row clubs players fixtures split file n other m (inr (inr p)) (inr (inl q)) = absurd (players_or_wrong players m p.2 q.2)
one_wrong_row clubs players fixtures split file n other m (inr (inr p)) (inr (inr q)) = (p.0 ∙ sym q.0, one_wrong_fixture split fixtures n m p.3 q.3)
