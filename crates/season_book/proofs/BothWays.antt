-- To be the same to a caller is an equivalence of books.
use Rattle.std.proofs.Common.{ℕ, List, [], ◌∷◌, Option, Some, None, refl, sym, ◌∙◌, subst}
use Rattle.fpl_base.specs.declared.kinds.Caller.{Caller}
use Rattle.rule_book.specs.History.{Event}
use Rattle.season_book.specs.Book.{Book, EntryFacts, Facts}
use Rattle.season_book.specs.Verdict.{pass}
use Rattle.season_book.specs.Agree.{AgreesBothWays, Alike, EntriesAlike, EntryAlike, SameWhereLocked}
use Rattle.season_book.proofs.EntriesFacts.{itself_alike}

turned_where_locked : (facts : Option Facts) (h h2 : List Event) → SameWhereLocked facts h h2 → SameWhereLocked facts h2 h
turned_where_locked None h h2 same = sym same
turned_where_locked (Some facts) h h2 same = sym same

chained_where_locked : (facts : Option Facts) (h h2 h3 : List Event) → SameWhereLocked facts h h2 → SameWhereLocked facts h2 h3 → SameWhereLocked facts h h3
chained_where_locked None h h2 h3 one two = one ∙ two
chained_where_locked (Some facts) h h2 h3 one two = one ∙ two

module _ (facts : Option Facts) where
  pub all_alike : (entries : List EntryFacts) → EntriesAlike facts entries entries
  all_alike [] = tt
  all_alike (entry ∷ entries) = (itself_alike facts entry, all_alike entries)

  entry_turned : (x y : EntryFacts) → EntryAlike facts x y → EntryAlike facts y x
  entry_turned x y a = record { key = sym a.key; name = sym a.name; start = sym a.start; locked = turned_where_locked facts x.history y.history a.locked }

  entry_chained : (x y z : EntryFacts) → EntryAlike facts x y → EntryAlike facts y z → EntryAlike facts x z
  entry_chained x y z a b = record { key = a.key ∙ b.key; name = a.name ∙ b.name; start = a.start ∙ b.start; locked = chained_where_locked facts x.history y.history z.history a.locked b.locked }

  entries_turned : (xs ys : List EntryFacts) → EntriesAlike facts xs ys → EntriesAlike facts ys xs
  entries_turned [] [] a = tt
  entries_turned [] (y ∷ ys) a = absurd a
  entries_turned (x ∷ xs) [] a = absurd a
  entries_turned (x ∷ xs) (y ∷ ys) (one, more) = (entry_turned x y one, entries_turned xs ys more)

  entries_chained : (xs ys zs : List EntryFacts) → EntriesAlike facts xs ys → EntriesAlike facts ys zs → EntriesAlike facts xs zs
  entries_chained [] [] zs a b = b
  entries_chained [] (y ∷ ys) zs a b = absurd a
  entries_chained (x ∷ xs) [] zs a b = absurd a
  entries_chained (x ∷ xs) (y ∷ ys) [] a b = absurd b
  entries_chained (x ∷ xs) (y ∷ ys) (z ∷ zs) (one, more) (two, rest) = (entry_chained x y z one two, entries_chained xs ys zs more rest)

pub itself : (caller : Caller) (a : Book) → Alike caller a a
itself caller a = record { facts = refl; leagues = refl; cups = refl; entries = all_alike a.facts a.entries; own = refl; last = refl }

turned : (caller : Caller) (a b : Book) → Alike caller a b → Alike caller b a
turned caller a b p = record {
  facts = sym p.facts;
  leagues = sym p.leagues;
  cups = sym p.cups;
  entries = subst (λ f. EntriesAlike f b.entries a.entries) p.facts (entries_turned a.facts a.entries b.entries p.entries);
  own = sym p.own;
  last = sym p.last;
}

chained : (caller : Caller) (a b c : Book) → Alike caller a b → Alike caller b c → Alike caller a c
chained caller a b c p q = record {
  facts = p.facts ∙ q.facts;
  leagues = p.leagues ∙ q.leagues;
  cups = p.cups ∙ q.cups;
  entries = entries_chained a.facts a.entries b.entries c.entries p.entries (subst (λ f. EntriesAlike f b.entries c.entries) (sym p.facts) q.entries);
  own = p.own ∙ q.own;
  last = p.last ∙ q.last;
}

pub agrees_both_ways : (caller : Caller) (now : ℕ) → AgreesBothWays caller now
agrees_both_ways caller now = record {
  same = λ a. itself caller (pass a now);
  turned = λ a b p. turned caller (pass a now) (pass b now) p;
  chained = λ a b c p q. chained caller (pass a now) (pass b now) (pass c now) p q;
}
