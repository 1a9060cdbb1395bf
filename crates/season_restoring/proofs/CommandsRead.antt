-- What is read as a command can be ordered.
use Rattle.std.proofs.Common.{◌≡◌, ◌≢◌, ◌≤◌, ℕ, true, false, not, ◌&&◌, ◌==◌, List, [], ◌∷◌, length, nat_le, ap, arith}
use Rattle.std.specs.List.{All, list_all, list_any}
use Rattle.std.proofs.lemmas.Bool.{and_parts, leb-true, not-true}
use Rattle.std.proofs.lemmas.Bool.Decides.{nat_tests}
use Rattle.std.proofs.lemmas.List.Elements.{All-cons}
use Rattle.std.proofs.lemmas.List.Kept.{AllPairs-cons}
use Rattle.record_fields.specs.Fields.{chip_number}
use Rattle.record_fields.specs.Ranges.{is_between}
use Rattle.season_records.specs.Commands.{club_ids, differ, is_command}
use Rattle.rule_book.specs.Ranks.{AllDiffer}
use Rattle.season_book.specs.Commands.{IsCommand}
use Rattle.season_book.specs.declared.command.Command.{Command}
use Rattle.season_book.specs.declared.command.Command.TheVariants as command

others : (x : ℕ) (ys : List ℕ) → list_any (λ y. y == x) ys ≡ false → All (λ y. x ≢ y) ys
others x [] none = λ k d lt. absurd (omega arith)
others x (y ∷ ys) none = All-cons (λ y. x ≢ y) y ys (grind (arith, nat_tests, none)) (others x ys (grind (arith, nat_tests, none)))

all_differ : (ns : List ℕ) → differ ns ≡ true → AllDiffer ns
all_differ [] e = λ i j d lt within. absurd (omega arith)
all_differ (n ∷ ns) e =
    let parts = and_parts (not (list_any (λ y. y == n) ns)) (differ ns) e in
    AllPairs-cons (λ a b. a ≢ b) n ns (others n ns (not-true _ parts.0)) (all_differ ns parts.1)

all_small : (coins : List ℕ) → list_all (λ coin. nat_le coin 1) coins ≡ true → All (λ coin. coin ≤ 1) coins
all_small [] e = λ k d lt. absurd (omega arith)
all_small (coin ∷ coins) e =
    let parts = and_parts (nat_le coin 1) (list_all (λ coin. nat_le coin 1) coins) e in
    All-cons (λ coin. coin ≤ 1) coin coins (leb-true coin 1 parts.0) (all_small coins parts.1)

between : (a b n : ℕ) → is_between a b n ≡ true → (a ≤ n) × (n ≤ b)
between a b n e = let parts = and_parts (nat_le a n) (nat_le n b) e in (leb-true a n parts.0, leb-true n b parts.1)

pub can_be_read : (c : Command) → is_command c ≡ true → IsCommand c
can_be_read (command.Season profile deadlines split clubs) e =
    let three = and_parts (is_between 1 38 (length deadlines) && nat_le split (length deadlines) && is_between 1 20 (length clubs)) (differ (club_ids clubs)) e in
    let two = and_parts (is_between 1 38 (length deadlines) && nat_le split (length deadlines)) (is_between 1 20 (length clubs)) three.0 in
    let one = and_parts (is_between 1 38 (length deadlines)) (nat_le split (length deadlines)) two.0 in
    let gameweeks = between 1 38 (length deadlines) one.0 in
    let few = between 1 20 (length clubs) two.1 in
    (gameweeks.0, gameweeks.1, leb-true split (length deadlines) one.1, few.0, few.1, all_differ (club_ids clubs) three.1)
can_be_read (command.Fixture id home away g kickoff) e = λ same. absurd (grind (arith, nat_tests, e, same))
can_be_read (command.AmendFixture f home away) e = λ same. absurd (grind (arith, nat_tests, e, same))
can_be_read (command.Sheet f lines finished) e = leb-true (length lines) 100 e
can_be_read (command.Transfers swaps) e = between 1 15 (length swaps) e
can_be_read (command.Chip chip) e = λ same. absurd (grind (arith, nat_tests, e, ap chip_number same))
can_be_read (command.Draw league order) e = leb-true (length order) 64 e
can_be_read (command.Cup start slots coins) e =
    let two = and_parts (nat_le (length slots) 1024 && nat_le (length coins) 1024) (list_all (λ coin. nat_le coin 1) coins) e in
    let one = and_parts (nat_le (length slots) 1024) (nat_le (length coins) 1024) two.0 in
    (leb-true (length slots) 1024 one.0, leb-true (length coins) 1024 one.1, all_small coins two.1)
can_be_read other e = tt
