-- The team that stands: whom it holds, at which position, and at which price he was bought.
use Rattle.std.proofs.Common.{◌≡◌, ◌<◌, ◌≤◌, ◌+◌, ◌==◌, ◌||◌, ℕ, Bool, true, false, cond, List, [], ◌∷◌, ◌++◌, Some, find, filter, length, map, arith, refl, ap, if◌then◌else◌}
use Rattle.std.specs.List.{AllByRecursion as Each, flat_map, list_any}
use Rattle.std.proofs.lemmas.Bool.{eqb-true, false≢true, le-leb}
use Rattle.fpl_base.specs.declared.kinds.Position.{Position}
use Rattle.rule_book.specs.declared.team.Pick.{Pick}
use Rattle.rule_book.specs.Batch.{is_held, pick_of}
use Rattle.rule_book.specs.EntryRecords.{IsPriced}
use Rattle.rule_book.specs.History.{Deed, Event, Holding, counts_in, kept, last_of}
use Rattle.rule_book.specs.History.Deed.{First, Swap, Lineup, Play, Cancel}
use Rattle.rule_book.specs.HistoryRules.{IsHistory, NoneAfter, is_started, times}
use Rattle.rule_book.specs.HistorySquad.{bought_at, brought_by, ins, order_of, outs, picks_of, prices_among}
use Rattle.rule_book.specs.HistoryTeam.{is_begun}
use Rattle.season_book.specs.Book.{Facts}
use Rattle.season_ledger.proofs.Counted.{Sound}
use Rattle.season_ledger.proofs.Legality.{sound_at}
use Rattle.lawful_books.specs.Histories.{IsLawfulDeed, IsLawfulHistory}

-- what has begun stands in the next gameweek
pub begun : (h : List Event) (g : ℕ) → NoneAfter g h → is_started h ≡ true → is_begun h g ≡ true
begun [] g early on = on
begun (e ∷ h) g early on = le-leb e.gw g early.0

-- a price that can be
abbrev pub InRange : ℕ → Type 0
InRange n = (30 ≤ n) × (n ≤ 200)

each_append : {A : Type 0} (P : A → Type 0) (xs ys : List A) → Each P xs → Each P ys → Each P (xs ++ ys)
each_append P [] ys all more = more
each_append P (x ∷ xs) ys all more = (all.0, each_append P xs ys all.1 more)

each_kept : {A : Type 0} (P : A → Type 0) (p : A → Bool) (xs : List A) → Each P xs → Each P (filter p xs)
each_kept P p [] all = tt
each_kept P p (x ∷ xs) all =
    let more = each_kept P p xs all.1 in
    elim (p x) as (λ b. Each P (cond b (x ∷ filter p xs) (filter p xs))) [ true ↦ (all.0, more) | false ↦ more ]

-- the last of some is one of them
last_in : (P : ℕ → Type 0) (d : ℕ) (xs : List ℕ) → P d → Each P xs → P (last_of d xs)
last_in P d [] first all = first
last_in P d (x ∷ xs) first all = last_in P x xs all.0 all.1

last_among : (P : ℕ → Type 0) (d : ℕ) (xs : List ℕ) → 0 < length xs → Each P xs → P (last_of d xs)
last_among P d [] some all = absurd (omega (arith, some))
last_among P d (x ∷ xs) some all = last_in P x xs all.0 all.1

-- the prices at which lawful deeds bring a player in
among_priced : (p : ℕ) (squad : List Holding) → Each IsPriced squad → Each InRange (prices_among p squad)
among_priced p [] all = tt
among_priced p (k ∷ squad) all = each_append InRange (if k.player == p then k.bought ∷ [] else []) (prices_among p squad) (by (k.player == p)) (among_priced p squad all.1)
  where
    by : (b : Bool) → Each InRange (cond b (k.bought ∷ []) [])
    by true = (all.0, tt)
    by false = tt

brought_priced : (facts : Facts) (p : ℕ) (d : Deed) → IsLawfulDeed facts d → Each InRange (brought_by p d)
brought_priced facts p (First squad captain vice) lawful = among_priced p squad lawful.priced
brought_priced facts p (Swap sale) lawful = by (sale.into == p)
  where
    by : (b : Bool) → Each InRange (cond b (sale.bought ∷ []) [])
    by true = ((lawful.priced.2, lawful.priced.3), tt)
    by false = tt
brought_priced facts p (Lineup players captain vice) lawful = tt
brought_priced facts p (Play chip) lawful = tt
brought_priced facts p Cancel lawful = tt

all_priced : (facts : Facts) (p : ℕ) (es : List Event) → Each (λ (e : Event). IsLawfulDeed facts e.deed) es → Each InRange (flat_map (λ e. brought_by p e.deed) es)
all_priced facts p [] all = tt
all_priced facts p (e ∷ es) all = each_append InRange (brought_by p e.deed) (flat_map (λ e. brought_by p e.deed) es) (brought_priced facts p e.deed all.0) (all_priced facts p es all.1)

-- a player of the order was brought in at such a price
pub bought_priced : (facts : Facts) (h : List Event) (g p : ℕ) → IsHistory h → IsLawfulHistory facts h → 0 < times p (order_of (kept h g)) → InRange (bought_at (kept h g) p)
bought_priced facts h g p history lawful stands =
    let sound : Sound (kept h g) = sound_at h g history in
    let counted : ins p (kept h g) ≡ outs p (kept h g) + times p (order_of (kept h g)) = sound.counted p in
    last_among InRange 0 (flat_map (λ e. brought_by p e.deed) (kept h g)) (omega (arith, stands, counted))
    (all_priced facts p (kept h g) (each_kept (λ (e : Event). IsLawfulDeed facts e.deed) (λ e. counts_in h g e.gw) h lawful.deeds))

-- the pick of a player whom a team of these events has
module _ (position : ℕ → Position) (es : List Event) where
  abbrev pub pick : ℕ → Pick
  pick p = record { player = p; position = position p; bought = bought_at es p }

  abbrev pub IsPicked : ℕ → List ℕ → Type 0
  IsPicked p ps = (find (λ (k : Pick). k.player == p) (map pick ps) ≡ Some (pick p)) × (0 < times p ps)

  picked : (p : ℕ) (ps : List ℕ) → list_any (λ (k : Pick). k.player == p) (map pick ps) ≡ true → IsPicked p ps
  picked p [] held = absurd (false≢true held)
  picked p (q ∷ ps) held = by (q == p) refl held (picked p ps)
    where
      by : (b : Bool) → (q == p) ≡ b → (b || list_any (λ (k : Pick). k.player == p) (map pick ps)) ≡ true
          → (list_any (λ (k : Pick). k.player == p) (map pick ps) ≡ true → IsPicked p ps)
          → (cond b (Some (pick q)) (find (λ (k : Pick). k.player == p) (map pick ps)) ≡ Some (pick p)) × (0 < cond b 1 0 + times p ps)
      by true is held more = (ap (λ q. Some (pick q)) (eqb-true q p is), omega arith)
      by false is held more = let rest = more held in (rest.0, omega (arith, rest.1))

  pub pick_is : (p : ℕ) → is_held (picks_of position es) p ≡ true → (pick_of (picks_of position es) p ≡ Some (pick p)) × (0 < times p (order_of es))
  pick_is p held = picked p (order_of es) held
