-- What can be ordered can be kept.
use Rattle.std.proofs.Common.{◌≡◌, ◌≢◌, ◌≤◌, ◌<◌, ◌==◌, ◌&&◌, ℕ, suc, Bool, true, false, not, List, [], ◌∷◌, length, nat_le, All, get_or, ◌||◌, arith, refl, sym, ap, ◌∙◌}
use Rattle.std.specs.List.{list_all, list_any}
use Rattle.std.proofs.lemmas.Bool.Decides.{nat_tests}
use Rattle.fpl_base.specs.declared.kinds.Chip.{Chip}
use Rattle.fpl_base.specs.declared.kinds.Chip.TheVariants as chip
use Rattle.rule_book.specs.Ranks.{AllDiffer}
use Rattle.season_book.specs.Commands.{IsCommand}
use Rattle.season_book.specs.declared.command.Command.{Command}
use Rattle.season_book.specs.declared.command.Command.TheVariants as command
use Rattle.record_fields.specs.Fields.{chip_number}
use Rattle.record_fields.specs.Ranges.{is_between}
use Rattle.season_records.specs.Commands.{club_ids, differ, is_command}

at_most : (n most : ℕ) → n ≤ most → nat_le n most ≡ true
at_most n most le = grind (arith, nat_tests, le)

other_number : (m n : ℕ) → m ≢ n → (m == n) ≡ false
other_number m n other = grind (arith, nat_tests, other)

both : (b c : Bool) → b ≡ true → c ≡ true → (b && c) ≡ true
both b c is as_well = ap (λ x. x && c) is ∙ as_well

between : (least most n : ℕ) → least ≤ n → n ≤ most → is_between least most n ≡ true
between least most n ge le = both (nat_le least n) (nat_le n most) (at_most least n ge) (at_most n most le)

none_is : (x : ℕ) (xs : List ℕ) → ((i d : ℕ) → i < length xs → x ≢ get_or xs i d) → list_any (λ y. y == x) xs ≡ false
none_is x [] others = refl
none_is x (y ∷ xs) others =
    let here : (y == x) ≡ false = other_number y x (λ same. others 0 0 (omega arith) (sym same)) in
    ap (λ b. b || list_any (λ z. z == x) xs) here ∙ none_is x xs (λ i d within. others (suc i) d (omega (arith, within)))

all_differ : (ids : List ℕ) → AllDiffer ids → differ ids ≡ true
all_differ [] differs = refl
all_differ (x ∷ xs) differs =
    both (not (list_any (λ y. y == x) xs)) (differ xs) (ap not (none_is x xs (λ i d within. differs 0 (suc i) d (omega arith) (omega (arith, within)))))
    (all_differ xs (λ i j d less within. differs (suc i) (suc j) d (omega (arith, less)) (omega (arith, within))))

all_at_most : (most : ℕ) (xs : List ℕ) → All (λ x. x ≤ most) xs → list_all (λ x. nat_le x most) xs ≡ true
all_at_most most [] all = refl
all_at_most most (x ∷ xs) all =
    both (nat_le x most) (list_all (λ y. nat_le y most) xs) (at_most x most (all 0 0 (omega arith))) (all_at_most most xs (λ i d within. all (suc i) d (omega (arith, within))))

a_chip : (played : Chip) → played ≢ chip.None → not (chip_number played == 0) ≡ true
a_chip chip.None some = absurd (some refl)
a_chip chip.Wildcard some = refl
a_chip chip.FreeHit some = refl
a_chip chip.BenchBoost some = refl
a_chip chip.TripleCaptain some = refl

-- a command that can be ordered has its bytes
pub has_bytes : (c : Command) → IsCommand c → is_command c ≡ true
has_bytes (command.Season profile deadlines split clubs) is =
    both (is_between 1 38 (length deadlines) && nat_le split (length deadlines) && is_between 1 20 (length clubs)) (differ (club_ids clubs))
    (both (is_between 1 38 (length deadlines) && nat_le split (length deadlines)) (is_between 1 20 (length clubs))
    (both (is_between 1 38 (length deadlines)) (nat_le split (length deadlines)) (between 1 38 (length deadlines) is.0 is.1) (at_most split (length deadlines) is.2))
    (between 1 20 (length clubs) is.3 is.4))
    (all_differ (club_ids clubs) is.5)
has_bytes (command.Fixture id home away gameweek kickoff) is = ap not (other_number home away is)
has_bytes (command.AmendFixture fixture home away) is = ap not (other_number home away is)
has_bytes (command.Sheet fixture lines finished) is = at_most (length lines) 100 is
has_bytes (command.Transfers swaps) is = between 1 15 (length swaps) is.0 is.1
has_bytes (command.Chip played) is = a_chip played is
has_bytes (command.Draw league order) is = at_most (length order) 64 is
has_bytes (command.Cup start slots coins) is =
    both (nat_le (length slots) 1024 && nat_le (length coins) 1024) (list_all (λ coin. nat_le coin 1) coins)
    (both (nat_le (length slots) 1024) (nat_le (length coins) 1024) (at_most (length slots) 1024 is.0) (at_most (length coins) 1024 is.1))
    (all_at_most 1 coins is.2)
has_bytes (command.Deadline gameweek deadline) is = refl
has_bytes (command.Player id name position club price) is = refl
has_bytes (command.Price player price) is = refl
has_bytes (command.Club player club) is = refl
has_bytes (command.Gone player gone) is = refl
has_bytes (command.Move fixture gameweek kickoff) is = refl
has_bytes (command.Line fixture player line) is = refl
has_bytes (command.Drop fixture player) is = refl
has_bytes (command.Finished fixture finished) is = refl
has_bytes (command.Key key name) is = refl
has_bytes (command.Rekey e key name) is = refl
has_bytes (command.AmendPlayer p name position) is = refl
has_bytes (command.Squad players captain vice) is = refl
has_bytes (command.Lineup players captain vice) is = refl
has_bytes command.CancelChip is = refl
has_bytes (command.League kind name code start) is = refl
has_bytes (command.Join league code) is = refl
