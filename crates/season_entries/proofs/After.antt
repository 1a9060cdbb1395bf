-- The books for which managers stand behind a command.
use Rattle.std.proofs.Common.{◌≡◌, ◌≢◌, ◌≤◌, ◌+◌, ◌-◌, ℕ, zero, suc, List, [], ◌∷◌, Option, Some, Result, Ok, Err, OnOk, OnErr, map, get_or, slice_get, arith, sym, ap, ◌∙◌, subst, ⊎_elim}
use Rattle.std.proofs.lemmas.Bool.{cases_eq}
use Rattle.rule_book.specs.declared.player.Player.{Player}
use Rattle.rule_book.specs.declared.transfers.Sale.{Sale}
use Rattle.rule_book.specs.History.{Event}
use Rattle.season_ledger.specs.declared.row.Row.{Row}
use Rattle.manager_book.specs.declared.manager.Manager.{Manager}
use Rattle.manager_book.specs.Managers.{IsSameBut, Managers, nobody, season_of}
use Rattle.season_book.specs.Book.{EntryFacts, Facts, histories_with}
use Rattle.season_book.specs.EntryCommands.{history_after}
use Rattle.season_book.specs.declared.command.Command.{Command}
use Rattle.season_entries.specs.Deeds.{AreInTime, IsDeedDone, IsInTime, StandForBooksAfter, StandWherever}
use Rattle.season_entries.specs.Entries.{AreEntries, AreSold, IsEntry}
use Rattle.season_entries.proofs.Books.{entry_of, slice_there}
use Rattle.season_entries.proofs.Times.{in_time_of}

-- a manager's key and name
abbrev named : Manager → List ℕ × List ℕ
named m = (m.key, m.name)

abbrev names : List Manager → List (List ℕ × List ℕ)
names ms = map {B = List ℕ × List ℕ} (λ m. (m.key, m.name)) ms

head_named : (m n : Manager) (ms ns : List Manager) → names (n ∷ ns) ≡ names (m ∷ ms) → named n ≡ named m
head_named m n ms ns e = cc

tail_named : (m n : Manager) (ms ns : List Manager) → names (n ∷ ns) ≡ names (m ∷ ms) → names ns ≡ names ms
tail_named m n ms ns e = cc

-- a manager with the same key and name stands for the entry with what his rows and sales stand for
with_history : (players : List Player) (m n : Manager) (x : EntryFacts) (h : List Event) → named n ≡ named m → StandWherever players n.season h → AreSold n.sales h → IsEntry players m x → IsEntry players n (record x { history = h })
with_history players m n x h e st sold i = record { key = i.key ∙ ap (λ (p : List ℕ × List ℕ). p.0) (sym e); name = i.name ∙ ap (λ (p : List ℕ × List ℕ). p.1) (sym e); history = st; sales = sold }

-- the same rows and the same sales
record SameDeeds (m n : Manager) : Type 0 where
  rows : n.season ≡ m.season
  sales : n.sales ≡ m.sales

with_deeds : (players : List Player) (m n : Manager) (x : EntryFacts) → named n ≡ named m → SameDeeds m n → IsEntry players m x → IsEntry players n x
with_deeds players m n x e s i = with_history players m n x x.history e
    (subst (λ (rows : List Row). StandWherever players rows x.history) (sym s.rows) i.history)
    (subst (λ (sales : List (ℕ × Sale)). AreSold sales x.history) (sym s.sales) i.sales) i

-- the others stay
stay : (players : List Player) (ms ns : List Manager) (entries : List EntryFacts) → names ns ≡ names ms → ((i : ℕ) → SameDeeds (get_or ms i nobody) (get_or ns i nobody)) → AreEntries players ms entries → AreEntries players ns entries
stay players [] [] entries e s a = a
stay players [] (n ∷ ns) entries e s a = cc
stay players (m ∷ ms) [] entries e s a = cc
stay players (m ∷ ms) (n ∷ ns) [] e s a = absurd a
stay players (m ∷ ms) (n ∷ ns) (x ∷ entries) e s a = (with_deeds players m n x (head_named m n ms ns e) (s 0) a.0, stay players ms ns entries (tail_named m n ms ns e) (λ i. s (suc i)) a.1)

-- one goes on
go_on : (players : List Player) (ms ns : List Manager) (entries : List EntryFacts) (j : ℕ) (entry : EntryFacts) (h : List Event) → names ns ≡ names ms
    → ((i : ℕ) → i ≢ j → SameDeeds (get_or ms i nobody) (get_or ns i nobody)) → AreEntries players ms entries → slice_get entries j ≡ Some entry
    → StandWherever players (get_or ns j nobody).season h → AreSold (get_or ns j nobody).sales h → AreEntries players ns (histories_with entries (suc j) h)
go_on players ms ns [] j entry h e s a at st sold = cc
go_on players [] ns (x ∷ entries) j entry h e s a at st sold = absurd a
go_on players (m ∷ ms) [] (x ∷ entries) j entry h e s a at st sold = cc
go_on players (m ∷ ms) (n ∷ ns) (x ∷ entries) zero entry h e s a at st sold =
    (with_history players m n x h (head_named m n ms ns e) st sold a.0, stay players ms ns entries (tail_named m n ms ns e) (λ i. s (suc i) (λ z. (let bad : suc i ≡ 0 = z in cc))) a.1)
go_on players (m ∷ ms) (n ∷ ns) (x ∷ entries) (suc j) entry h e s a at st sold = (
  with_deeds players m n x (head_named m n ms ns e) (s 0 (λ z. (let bad : 0 ≡ suc j = z in cc))) a.0,
  go_on players ms ns entries j entry h (tail_named m n ms ns e) (λ i d. s (suc i) (λ z. d (omega (arith, z)))) a.1 at st sold,
)

-- places of other entries
others_at : (e : ℕ) (old new : Managers) → 1 ≤ e → IsSameBut e old new → (i : ℕ) → i ≢ e - 1 → SameDeeds (get_or old.managers i nobody) (get_or new.managers i nobody)
others_at e old new le same i d =
    let at : (i + 1) - 1 ≡ i = omega arith in
    let apart : i + 1 ≢ e = λ z. d (omega (arith, z, le)) in
    let o : SameDeeds (get_or old.managers ((i + 1) - 1) nobody) (get_or new.managers ((i + 1) - 1) nobody) = record { rows = same.others (i + 1) (omega arith) apart; sales = same.sales (i + 1) (omega arith) apart } in
    subst (λ (k : ℕ). SameDeeds (get_or old.managers k nobody) (get_or new.managers k nobody)) at o

pub books_after : (facts : Facts) (e : ℕ) (command : Command) (old new : Managers) → 1 ≤ e → IsDeedDone facts e command old new → StandForBooksAfter facts e command old.managers new.managers
books_after facts e command old new le done entries entry stand there =
    let i : IsEntry facts.players (get_or old.managers (e - 1) nobody) entry = entry_of facts.players old entries e entry stand there in
    let at : suc (e - 1) ≡ e = omega (arith, le) in
    subst (λ (k : ℕ). AreEntries facts.players new.managers (histories_with entries k (history_after facts entry.history command))) at
    (go_on facts.players old.managers new.managers entries (e - 1) entry (history_after facts entry.history command) done.same.keys (others_at e old new le done.same) stand (slice_there entries e entry there) (done.goes_on entry.history i.history) (done.sold entry.history i.history i.sales))

-- all stay in time
by_place : (next : Option ℕ) (ms : List Manager) → ((i : ℕ) → IsInTime next (get_or ms i nobody).season) → AreInTime next ms
by_place next [] each = tt
by_place next (m ∷ ms) each = (each 0, by_place next ms (λ i. each (suc i)))

pub in_time_after : (next : Option ℕ) (e : ℕ) (old new : Managers) → 1 ≤ e → IsSameBut e old new → (IsInTime next (season_of old e) → IsInTime next (season_of new e)) → AreInTime next old.managers → AreInTime next new.managers
in_time_after next e old new le same own a = by_place next new.managers (λ i. ⊎_elim
    (λ (q : i ≡ e - 1). subst (λ (k : ℕ). IsInTime next (get_or new.managers k nobody).season) (sym q) (own (in_time_of next old.managers (e - 1) a)))
    (λ (d : i ≢ e - 1). subst (λ (rows : List Row). IsInTime next rows) (sym (others_at e old new le same i d).rows) (in_time_of next old.managers i a))
    (cases_eq i (e - 1)))

-- done, or as before
pub either : {T E P Q R : Type 0} (r : Result T E) → OnOk r P → OnErr r Q → (P → R) → (Q → R) → R
either (Ok value) p q f g = f p
either (Err fault) p q f g = g q

pub where_done : {T E P R : Type 0} (r : Result T E) → (P → R) → OnOk r P → OnOk r R
where_done (Ok value) f p = f p
where_done (Err fault) f p = p
