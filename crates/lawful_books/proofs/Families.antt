-- No limit is reached before a slot of a family of which there are not more.
use Rattle.std.proofs.Common.{◌≡◌, ◌<◌, ◌==◌, ◌&&◌, ◌||◌, ℕ, Bool, true, false, not, List, [], ◌∷◌, Some, length, map, nat_le, arith, refl, sym, ap, subst, ◌∙◌}
use Rattle.std.specs.List.{list_any}
use Rattle.std.proofs.lemmas.Bool.{false≢true}
use Rattle.std.proofs.lemmas.Bool.Decides.{nat_tests}
use Rattle.std.proofs.lemmas.List.{length-map}
use Rattle.fpl_base.specs.Keeping.{Map, is_same_key, map_of, precedes}
use Rattle.fpl_base.proofs.KeyLemmas.{precedes_self, same_key_self}
use Rattle.season_book.specs.Book.{Book}
use Rattle.season_records.specs.Keys.{key_of}
use Rattle.season_records.specs.declared.item.Item.{Item}
use Rattle.season_records.specs.declared.slot.Slot.{Slot}
use Rattle.season_records.specs.declared.slot.Slot.TheVariants as slot
use Rattle.season_records.specs.Records.{records, told}
use Rattle.stored_records.specs.Stored.{Rows, between, is_within}
use Rattle.lawful_books.specs.Telling.{AreFamilies, HaveKeys, IsFamily, NoneIsFull}
use Rattle.lawful_books.proofs.Counting.{fewer_stand}
use Rattle.lawful_books.proofs.Telling.{of_record}

-- The families.

pub clubs_family : IsFamily slot.Club
clubs_family this (slot.Club n) h = (n, refl)
clubs_family this s h = absurd (false≢true h)

pub players_family : IsFamily slot.Player
players_family this (slot.Player n) h = (n, refl)
players_family this s h = absurd (false≢true h)

pub fixtures_family : IsFamily slot.Fixture
fixtures_family this (slot.Fixture n) h = (n, refl)
fixtures_family this s h = absurd (false≢true h)

pub entries_family : IsFamily slot.Entry
entries_family this (slot.Entry n) h = (n, refl)
entries_family this s h = absurd (false≢true h)

pub leagues_family : IsFamily slot.League
leagues_family this (slot.League n) h = (n, refl)
leagues_family this s h = absurd (false≢true h)

pub cups_family : IsFamily slot.Cup
cups_family this (slot.Cup n) h = (n, refl)
cups_family this s h = absurd (false≢true h)

-- keys of one kind and one first number
same_first : (kind a b n m : ℕ)
    → is_within (record { kind = kind; a = a; b = 0; c = 0 }) (record { kind = kind; a = a; b = n; c = 0 }) (record { kind = kind; a = b; b = m; c = 0 }) ≡ true
    → b ≡ a
same_first kind a b n m h = grind (arith, nat_tests, h)

pub lines_family : (f : ℕ) → IsFamily (slot.Line f)
lines_family f this (slot.Line g p) h = (p, ap (λ x. slot.Line x p) (same_first 5 f g this p h))
lines_family f this s h = absurd (false≢true h)

pub members_family : (l : ℕ) → IsFamily (slot.Member l)
members_family l this (slot.Member k e) h = (e, ap (λ x. slot.Member x e) (same_first 10 l k this e h))
members_family l this s h = absurd (false≢true h)

pub are_families : AreFamilies
are_families = (clubs_family, players_family, fixtures_family, lines_family, entries_family, leagues_family, members_family, cups_family)

-- The keys of a family.

module _ (family : ℕ → Slot) where
  pub has_key : (ids : List ℕ) (n : ℕ) → list_any (λ id. id == n) ids ≡ true → list_any (λ k. is_same_key k (key_of (family n))) (map (λ id. key_of (family id)) ids) ≡ true
  has_key [] n has = absurd (false≢true has)
  has_key (id ∷ ids) n has =
      elim (id == n) as (λ b. (id == n) ≡ b → (b || list_any (λ id. id == n) ids) ≡ true
      → (is_same_key (key_of (family id)) (key_of (family n)) || list_any (λ k. is_same_key k (key_of (family n))) (map (λ id. key_of (family id)) ids)) ≡ true) [
        | true ↦ λ is has. (
            let same : id ≡ n = grind (arith, nat_tests, is) in
            ap (λ b. b || list_any (λ k. is_same_key k (key_of (family n))) (map (λ id. key_of (family id)) ids))
            (ap (λ m. is_same_key (key_of (family m)) (key_of (family n))) same ∙ same_key_self (key_of (family n))))
        | false ↦ λ is has. or_more (is_same_key (key_of (family id)) (key_of (family n))) (has_key ids n has)
      ] refl has
    where
      or_more : (b : Bool) {c : Bool} → c ≡ true → (b || c) ≡ true
      or_more true h = refl
      or_more false h = h

  pub have_keys : (book : Book) (rows : Rows) (ids : List ℕ) (this : ℕ) → IsFamily family → map_of rows ≡ records book
      → ((n : ℕ) (i : Item) → told book (family n) ≡ Some i → list_any (λ id. id == n) ids ≡ true)
      → HaveKeys rows (λ row. is_within (key_of (family 0)) (key_of (family this)) row.0) (map (λ id. key_of (family id)) ids)
  have_keys book rows ids this is same has key body at within =
      let of = of_record book key body (sym (ap (λ (m : Map). m key) same) ∙ at) in
      let one = is this of.0 (sym (ap (is_within (key_of (family 0)) (key_of (family this))) of.1) ∙ within) in
      let slot : told book (family one.0) ≡ Some of.2.0 = ap (told book) (sym one.1) ∙ of.2.1 in
      subst (λ k. list_any (λ j. is_same_key j k) (map (λ id. key_of (family id)) ids) ≡ true) (sym (of.1 ∙ ap key_of one.1))
      (has_key ids one.0 (has one.0 of.2.0 slot))

pub none_is_full : NoneIsFull
none_is_full book rows most family ids this is rise same has among few =
    let less : between rows (key_of (family 0)) (key_of (family this)) < length (map (λ id. key_of (family id)) ids)
    = fewer_stand rows (λ row. is_within (key_of (family 0)) (key_of (family this)) row.0) (map (λ id. key_of (family id)) ids) (key_of (family this)) rise
    (have_keys family book rows ids this is same has) (has_key family ids this among)
    (λ body. ap (λ b. not (precedes (key_of (family this)) (key_of (family 0))) && b) (precedes_self (key_of (family this))) ∙ never (not (precedes (key_of (family this)) (key_of (family 0))))) in
    low most (between rows (key_of (family 0)) (key_of (family this))) (omega (arith, less, length-map ids (λ id. key_of (family id)), few))
  where
    never : (b : Bool) → (b && false) ≡ false
    never true = refl
    never false = refl

    low : (most n : ℕ) → n < most → nat_le most n ≡ false
    low most n less = grind (arith, nat_tests, less)
