-- The members of leagues are entries that were issued.
use Rattle.std.proofs.Common.{◌≡◌, ◌<◌, ◌≤◌, ◌-◌, ◌++◌, ◌==◌, ℕ, zero, suc, Bool, true, false, not, ◌&&◌, nat_lt, List, [], ◌∷◌, Some, None, if◌then◌else◌, is_some, length, filter, get_or, slice_get, arith, refl, subst}
use Rattle.std.specs.Prelude.{All}
use Rattle.std.proofs.lemmas.Bool.{false≢true}
use Rattle.std.proofs.lemmas.Option.{none-some, same_Some}
use Rattle.rule_book.specs.Entries.{changed_in, entry_in}
use Rattle.rule_book.specs.LeagueCalls.{with_member, with_order}
use Rattle.rule_book.specs.Leagues.{LeagueFacts}
use Rattle.season_ledger.specs.Rows.{first_in}
use Rattle.manager_book.specs.declared.manager.Manager.{Manager}
use Rattle.manager_book.specs.Managers.{nobody}
use Rattle.season_book.specs.LeagueCommands.{leagues_after}
use Rattle.season_book.specs.declared.command.Command.{Command}
use Rattle.season_book.specs.declared.command.Command.TheVariants as command
use Rattle.season_entries.specs.Known.{is_registered_by}
use Rattle.season_competitions.specs.Leagues.{AreMembers, IsLeagueGranted, MembersAlwaysStay}

-- what holds of all, element by element

all_nil : {X : Type 0} (P : X → Type 0) → All P []
all_nil P i d l = absurd (omega arith)

all_cons : {X : Type 0} (P : X → Type 0) (x : X) (xs : List X) → P x → All P xs → All P (x ∷ xs)
all_cons P x xs p ps zero d l = p
all_cons P x xs p ps (suc i) d l = ps i d (omega (arith, l))

all_head : {X : Type 0} (P : X → Type 0) (x : X) (xs : List X) → All P (x ∷ xs) → P x
all_head P x xs ps = ps 0 x (omega arith)

all_tail : {X : Type 0} (P : X → Type 0) (x : X) (xs : List X) → All P (x ∷ xs) → All P xs
all_tail P x xs ps i d l = ps (suc i) d (omega (arith, l))

all_append : {X : Type 0} (P : X → Type 0) (xs ys : List X) → All P xs → All P ys → All P (xs ++ ys)
all_append P [] ys ps qs = qs
all_append P (x ∷ xs) ys ps qs = all_cons P x (xs ++ ys) (all_head P x xs ps) (all_append P xs ys (all_tail P x xs ps) qs)

all_filter : {X : Type 0} (P : X → Type 0) (test : X → Bool) (xs : List X) → All P xs → All P (filter test xs)
all_filter P test [] ps = all_nil P
all_filter P test (x ∷ xs) ps = by_test (test x) (all_filter P test xs (all_tail P x xs ps))
  where
    by_test : (b : Bool) → All P (filter test xs) → All P (if b then x ∷ filter test xs else filter test xs)
    by_test true rest = all_cons P x (filter test xs) (all_head P x xs ps) rest
    by_test false rest = rest

all_changed : {X : Type 0} (P : X → Type 0) (change : X → X) (xs : List X) (n : ℕ) → ((x : X) → P x → P (change x)) → All P xs → All P (changed_in change xs n)
all_changed P change [] n kept ps = all_nil P
all_changed P change (x ∷ xs) zero kept ps = ps
all_changed P change (x ∷ xs) (suc zero) kept ps = all_cons P (change x) xs (kept x (all_head P x xs ps)) (all_tail P x xs ps)
all_changed P change (x ∷ xs) (suc (suc n)) kept ps =
    all_cons P x (changed_in change xs (suc n)) (all_head P x xs ps) (all_changed P change xs (suc n) kept (all_tail P x xs ps))

all_at : {X : Type 0} (P : X → Type 0) (xs : List X) (place : ℕ) (x : X) → slice_get xs place ≡ Some x → All P xs → P x
all_at P [] place x at ps = absurd (none-some x at)
all_at P (y ∷ xs) zero x at ps = subst P (same_Some y x at) (all_head P y xs ps)
all_at P (y ∷ xs) (suc place) x at ps = all_at P xs place x at (all_tail P y xs ps)

all_entry : {X : Type 0} (P : X → Type 0) (xs : List X) (n : ℕ) (x : X) → entry_in xs n ≡ Some x → All P xs → P x
all_entry P xs n x at ps = by_zero (n == 0) at
  where
    by_zero : (b : Bool) → (if b then None else slice_get xs (n - 1)) ≡ Some x → P x
    by_zero true at = absurd (none-some x at)
    by_zero false at = all_at P xs (n - 1) x at ps

-- who has a first row is among the managers

is_among : (managers : List Manager) (place : ℕ) → is_some (first_in (get_or managers place nobody).season) ≡ true → place < length managers
is_among [] place is = absurd (false≢true is)
is_among (m ∷ managers) zero is = omega arith
is_among (m ∷ managers) (suc place) is = let before = is_among managers place is in omega (arith, before)

registered_among : (managers : List Manager) (e : ℕ) → is_registered_by managers e ≡ true → e ≤ length managers
registered_among managers e is = by_zero (e == 0) refl is
  where
    by_zero : (zero : Bool) → (e == 0) ≡ zero → (not zero && is_some (first_in (get_or managers (e - 1) nobody).season)) ≡ true → e ≤ length managers
    by_zero true none holds = absurd (false≢true holds)
    by_zero false some holds = let among = is_among managers (e - 1) holds in omega (arith, among)

-- command by command

module _ (count : ℕ) where
  abbrev IsOne : ℕ → Type 0
  IsOne e = e ≤ count

  abbrev AreOnes : LeagueFacts → Type 0
  AreOnes league = All IsOne league.members

  one_more : (e : ℕ) (league : LeagueFacts) → IsOne e → AreOnes league → AreOnes (with_member e league)
  one_more e league one ones =
      all_append IsOne (filter (λ member. nat_lt member e) league.members) (e ∷ filter (λ member. nat_lt e member) league.members)
      (all_filter IsOne (λ member. nat_lt member e) league.members ones)
      (all_cons IsOne e (filter (λ member. nat_lt e member) league.members) one (all_filter IsOne (λ member. nat_lt e member) league.members ones))

more_entries : (count more : ℕ) → count ≤ more → (leagues : List LeagueFacts) → AreMembers count leagues → AreMembers more leagues
more_entries count more le leagues are i d l j e m = let one = are i d l j e m in omega (arith, one, le)

pub members_stay : MembersAlwaysStay
members_stay facts managers leagues = record {
  commands = λ e cmd granted are. stays e cmd granted are;
  entries = λ count le are. more_entries (length managers) count le leagues are;
  there = λ l league at are. all_entry (AreOnes (length managers)) leagues l league at are;
}
  where
    stays : (e : ℕ) (cmd : Command) → IsLeagueGranted facts managers leagues e cmd → AreMembers (length managers) leagues → AreMembers (length managers) (leagues_after leagues e cmd)
    stays e (command.League kind name code start) granted are =
        let own : LeagueFacts = record { kind = kind; name = name; code = code; start = start; creator = e; members = e ∷ []; order = [] } in
        all_append (AreOnes (length managers)) leagues (own ∷ []) are
        (all_cons (AreOnes (length managers)) own [] (all_cons (IsOne (length managers)) e [] (registered_among managers e granted.by_entry) (all_nil (IsOne (length managers)))) (all_nil (AreOnes (length managers))))
    stays e (command.Join l code) granted are =
        all_changed (AreOnes (length managers)) (with_member e) leagues l (λ league ones. one_more (length managers) e league (registered_among managers e granted.by_entry) ones) are
    stays e (command.Draw l order) granted are = all_changed (AreOnes (length managers)) (with_order order) leagues l (λ league ones. ones) are
    stays e (command.Season a b c d) granted are = are
    stays e (command.Deadline a b) granted are = are
    stays e (command.Player a b c d f) granted are = are
    stays e (command.Price a b) granted are = are
    stays e (command.Club a b) granted are = are
    stays e (command.Gone a b) granted are = are
    stays e (command.Fixture a b c d f) granted are = are
    stays e (command.Move a b c) granted are = are
    stays e (command.AmendFixture a b c) granted are = are
    stays e (command.AmendPlayer a b c) granted are = are
    stays e (command.Sheet a b c) granted are = are
    stays e (command.Line a b c) granted are = are
    stays e (command.Drop a b) granted are = are
    stays e (command.Finished a b) granted are = are
    stays e (command.Key a b) granted are = are
    stays e (command.Rekey a b c) granted are = are
    stays e (command.Squad a b c) granted are = are
    stays e (command.Transfers a) granted are = are
    stays e (command.Lineup a b c) granted are = are
    stays e (command.Chip a) granted are = are
    stays e command.CancelChip granted are = are
    stays e (command.Cup a b c) granted are = are
