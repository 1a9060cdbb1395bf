-- The rows of those who played in a gameweek.
use Rattle.std.proofs.Common.{◌≡◌, ◌∙◌, sym, refl, ap, subst, zero, suc, ℕ, ◌+◌, ◌<◌, ◌≤◌, ◌&&◌, ◌==◌, Bool, true, false, cond, List, [], ◌∷◌, ◌++◌, append-nil, length, map, filter, take, nat_le, arith, All, AllPairs, Option, Some, None, count_by, if◌then◌else◌}
use Rattle.std.specs.Prelude.{IfSome, is_some}
use Rattle.std.specs.List.{slice_get}
use Rattle.std.specs.Option.{option_map_or}
use Rattle.std.proofs.lemmas.Bool.{and_parts, eq-eqb, le-leb}
use Rattle.std.proofs.lemmas.List.{get_or-map, length-map, map-append}
use Rattle.std.proofs.lemmas.List.Elements.{All-push, filter_more}
use Rattle.std.proofs.lemmas.List.Kept.{AllPairs-filter}
use Rattle.std.proofs.lemmas.List.Sums.{count_by-le-length, length-filter}
use Rattle.std.proofs.lemmas.Simd.{map-map}
use Rattle.std.proofs.lemmas.Option.{cond_some, get_or_from_slice_get, none-some, slice_get_within}
use Rattle.rule_book.specs.declared.player.Player.{Player}
use Rattle.rule_book.specs.Calendar.{is_locked}
use Rattle.rule_book.specs.Players.{ArePlayers, player_of}
use Rattle.rule_book.specs.Ranks.{AllDiffer}
use Rattle.squad_rules.specs.Elevens.{Row}
use Rattle.season_book.specs.Book.{Facts}
use Rattle.season_nodes.specs.Season.{SeasonFacts, is_live}
use Rattle.season_nodes.specs.declared.nodes.Node.TheVariants as node
use Rattle.season_book.specs.DreamTeamWindow.{figures_of, rows_of_gameweek, who_played}
use Rattle.live_windows.specs.Kept.{with_row}

-- one that passes is kept, and one that does not is passed over
pub kept_more : {X : Type 0} (f : X → Row) (test : X → Bool) (xs : List X) (i : ℕ) (x : X) (row : Option Row) (old new : List Row) → slice_get xs i ≡ Some x
    → row ≡ (if test x then Some (f x) else None) → old ≡ map f (filter test (take i xs)) → new ≡ with_row old row → new ≡ map f (filter test (take (i + 1) xs))
kept_more {X} f test xs i x row old new there at so more = go (test x) refl
  where
    next : (b : Bool) → test x ≡ b → filter test (take (i + 1) xs) ≡ filter test (take i xs) ++ cond b (x ∷ []) []
    next b e =
        filter_more test xs i x (slice_get_within xs i x there)
        ∙ ap (λ y. filter test (take i xs) ++ cond (test y) (y ∷ []) []) (get_or_from_slice_get xs i x x there)
        ∙ ap (λ t. filter test (take i xs) ++ cond t (x ∷ []) []) e

    go : (b : Bool) → test x ≡ b → new ≡ map f (filter test (take (i + 1) xs))
    go true e =
        more ∙ ap (with_row old) (at ∙ ap (λ t. if t then Some (f x) else None) e) ∙ ap (λ l. l ++ f x ∷ []) so
        ∙ sym (ap (map f) (next true e) ∙ map-append f (filter test (take i xs)) (x ∷ []))
    go false e =
        more ∙ ap (with_row old) (at ∙ ap (λ t. if t then Some (f x) else None) e) ∙ so
        ∙ sym (ap (map f) (next false e ∙ append-nil (filter test (take i xs))))

-- what holds of each row holds with one more
pub all_kept : (P : Row → Type 0) (old new : List Row) (row : Option Row) → All P old → IfSome row P → new ≡ with_row old row → All P new
all_kept P old new None all one more = subst (All P) (sym more) all
all_kept P old new (Some row) all one more = subst (All P) (sym more) (All-push P old row all one)

is_found : (players : List Player) (player : Player) (i : ℕ) → slice_get players i ≡ Some player → is_some (player_of players player.id) ≡ true
is_found [] player zero at = absurd (cc at)
is_found [] player (suc i) at = absurd (cc at)
is_found (p ∷ players) player zero at =
    let e : (p.id == player.id) ≡ true = eq-eqb p.id player.id (ap (λ (o : Option Player). option_map_or (λ (q : Player). q.id) o 0) at) in
    ap (λ t. is_some (cond t (Some p) (player_of players player.id))) e
is_found (p ∷ players) player (suc i) at = go (p.id == player.id) (is_found players player i at)
  where
    go : (b : Bool) → is_some (player_of players player.id) ≡ true → is_some (cond b (Some p) (player_of players player.id)) ≡ true
    go true rest = refl
    go false rest = rest

-- a player of the season has a live node in each locked gameweek
pub played_is_live : (b : SeasonFacts) (player : Player) (i g : ℕ) → slice_get b.players i ≡ Some player → 1 ≤ g → g ≤ b.calendar.locked → is_live b (node.PlayerGw player.id g) ≡ true
played_is_live b player i g at low high =
    ap (λ t. t && (nat_le 1 g && nat_le g b.calendar.locked)) (is_found b.players player i at)
    ∙ (λ j. le-leb 1 g low j && le-leb g b.calendar.locked high j)

rising_differ : (players : List Player) → AllPairs (λ a b. a.id < b.id) players → AllDiffer (map (λ player. player.id) players)
rising_differ [] rising i j d less lt same = absurd (omega (arith, lt))
rising_differ (p ∷ ps) rising i j d less lt same =
    let below : j < length (p ∷ ps) = omega (arith, lt, length-map (p ∷ ps) (λ (player : Player). player.id)) in
    let one = get_or-map (λ (player : Player). player.id) (p ∷ ps) i p d (omega (arith, below, less)) in
    let other = get_or-map (λ (player : Player). player.id) (p ∷ ps) j p d below in
    let rises = rising i j p less below in
    omega (arith, one, other, same, rises)

module _ (facts : Facts) (g : ℕ) (are : ArePlayers facts.players) where
  abbrev row_in : Player → Row
  row_in player = (player.id, player.position, (figures_of facts player.id g).points)

  pub rows_few : length (rows_of_gameweek facts g) ≤ 1200
  rows_few =
      let all = are.few in
      let some : length (rows_of_gameweek facts g) ≡ count_by (λ (player : Player). (figures_of facts player.id g).played) facts.players =
      length-map (filter (λ (player : Player). (figures_of facts player.id g).played) facts.players) row_in ∙ length-filter (λ (player : Player). (figures_of facts player.id g).played) facts.players in
      let few = count_by-le-length (λ (player : Player). (figures_of facts player.id g).played) facts.players in
      omega (arith, all, some, few)

  pub rows_differ : AllDiffer (map (λ row. row.0) (rows_of_gameweek facts g))
  rows_differ =
      let kept : List Player = filter (λ (player : Player). (figures_of facts player.id g).played) facts.players in
      subst AllDiffer (sym (map-map (λ (row : Row). row.0) row_in kept))
      (rising_differ kept (AllPairs-filter (λ (a b : Player). a.id < b.id) (λ (player : Player). (figures_of facts player.id g).played) facts.players are.ascending))

-- who played in a locked gameweek, and in an open one
pub who_locked : (facts : Facts) (number g : ℕ) → (if nat_le 1 number && is_locked facts.calendar number then Some number else None) ≡ Some g → rows_of_gameweek facts g ≡ who_played facts number
who_locked facts number g e =
    let is = cond_some (nat_le 1 number && is_locked facts.calendar number) number g e in
    ap (rows_of_gameweek facts) (sym is.1)
    ∙ sym (ap (λ (b : Bool). if b then rows_of_gameweek facts number else []) (and_parts (nat_le 1 number) (is_locked facts.calendar number) is.0).1)

pub nobody_while_open : (facts : Facts) (number : ℕ) → 1 ≤ number → (if nat_le 1 number && is_locked facts.calendar number then Some number else None) ≡ None → who_played facts number ≡ []
nobody_while_open facts number from e = go (is_locked facts.calendar number) refl
  where
    go : (b : Bool) → is_locked facts.calendar number ≡ b → who_played facts number ≡ []
    go true f =
        absurd (none-some number (sym (sym (λ i. if le-leb 1 number from i && f i then Some number else None) ∙ e)))
    go false f = ap (λ (t : Bool). if t then rows_of_gameweek facts number else []) f
