-- Parts: what is at a place of one, which nodes its smaller parts have together, and that these are less deep.
use Rattle.std.proofs.Common.{◌≡◌, ◌≢◌, ℕ, zero, suc, ◌+◌, ◌-◌, ◌<◌, ◌≤◌, max, nat_le, nat_lt, Bool, true, false, if◌then◌else◌, ◌⊎◌, inl, inr, ⊎_elim, ◌↔◌, List, [], ◌∷◌, ◌++◌, Option, Some, None, IsSome, get_or, length, map, take, refl, sym, ◌∙◌, ap, subst, arith}
use Rattle.std.specs.Prelude.{IfSome, slice_get, ⊤}
use Rattle.std.specs.List.{flat_map, range_with_len}
use Rattle.std.specs.Option.{option_map, option_map_or}
use Rattle.std.proofs.lemmas.Bool.Decides.{leb_tells, nat_tests}
use Rattle.std.proofs.lemmas.List.{append_assoc, append-nil, map-append, take_all}
use Rattle.std.proofs.lemmas.List.FromFn.{map-range_with_len_more}
use Rattle.std.proofs.lemmas.Option.{slice_get-get_or, slice_get-map}
use Rattle.std.specs.Map.{keys_of}
use Rattle.rule_book.specs.LeagueCalls.{leagues_of}
use Rattle.rule_book.specs.Totals.{gameweeks}
use Rattle.rescore_graph.specs.Graph.{Among}
use Rattle.rescore_graph.specs.States.{State}
use Rattle.season_nodes.specs.declared.nodes.Node.{Node}
use Rattle.season_nodes.specs.declared.nodes.Node.TheVariants as node
use Rattle.season_nodes.specs.declared.nodes.Value.{Value}
use Rattle.season_nodes.proofs.Lists.{flat_more}
use Rattle.season_nodes.specs.Reading.{from_map}
use Rattle.season_nodes.specs.Rounds.{has_average, order_in, start_in}
use Rattle.season_nodes.specs.Brackets.{ties_after}
use Rattle.season_nodes.specs.Season.{SeasonFacts, bracket_of, classic_start, classic_starts, is_live, players_of}
use Rattle.season_graph.specs.Parts.{all_parts, depth, league_behind, locked_parts, nodes_of, parts_of}
use Rattle.season_graph.specs.Refreshed.{Refreshed}
use Rattle.season_graph.proofs.OtherFacts.{chosen_append, chosen_in}
use Rattle.season_graph.specs.Touched.{all_nodes, cup_round, cups_since, entry_nodes, fixture_nodes, fixtures_nodes, gameweek_nodes, head_nodes, head_since, heads_nodes, league_start, locked_cups, locked_entries, locked_leagues, locked_nodes, locked_players, locked_rounds, locked_totals, member_nodes, members_in, members_since, numbered_nodes, player_nodes, round_nodes, rounds_since, row_nodes, tie_nodes, ties_since, total_nodes}
use Rattle.season_graph.specs.declared.parts.Part.{Part}
use Rattle.season_graph.specs.declared.parts.Part.TheVariants as part

-- What is at a place.

pub past_range : (a n i : ℕ) → n ≤ i → None ≡ slice_get (range_with_len a n) i
past_range a zero i e = refl
past_range a (suc n) zero e = absurd (omega arith)
past_range a (suc n) (suc i) e = past_range (a + 1) n i (omega arith)

pub in_range : (a n i : ℕ) → i < n → Some (a + i) ≡ slice_get (range_with_len a n) i
in_range a zero i e = absurd (omega arith)
in_range a (suc n) zero e = let k : a + 0 ≡ a = omega arith in ap Some k
in_range a (suc n) (suc i) e = let k : a + suc i ≡ (a + 1) + i = omega arith in ap Some k ∙ in_range (a + 1) n i (omega arith)

pub past_mapped : {X : Type 0} (F : ℕ → X) (n i : ℕ) → n ≤ i → None ≡ slice_get (map F (range_with_len 0 n)) i
past_mapped F n i e = ap (option_map F) (past_range 0 n i e) ∙ sym (slice_get-map F (range_with_len 0 n) i)

pub in_mapped : {X : Type 0} (F : ℕ → X) (n i : ℕ) → i < n → Some (F i) ≡ slice_get (map F (range_with_len 0 n)) i
in_mapped F n i e =
    let k : i ≡ 0 + i = omega arith in
    ap (λ x. Some (F x)) k ∙ ap (option_map F) (in_range 0 n i e) ∙ sym (slice_get-map F (range_with_len 0 n) i)

-- an id is made where its number is one
pub made_id : (o : Option ℕ) (k : ℕ) → IsSome o → IfSome o (λ e. e ≡ k) → o ≡ Some k
made_id None k there value = absurd (cc)
made_id (Some x) k there value = ap Some value

pub id_at : (o : Option ℕ) (n i : ℕ) → IsSome o ↔ (1 ≤ i + 1) → IfSome o (λ e. e ≡ i + 1) → i < n → o ≡ slice_get (range_with_len 1 n) i
id_at o n i there value low =
    let k : i + 1 ≡ 1 + i = omega arith in
    made_id o (i + 1) (there.1 (omega arith)) value ∙ ap Some k ∙ in_range 1 n i low

-- what stands behind the first
pub behind_first : {X : Type 0} (x : X) (xs : List X) (i : ℕ) → i ≢ 0 → slice_get xs (i - 1) ≡ slice_get (x ∷ xs) i
behind_first x xs zero some = absurd (some refl)
behind_first x xs (suc i) some = let k : suc i - 1 ≡ i = omega arith in ap (slice_get xs) k

pub not_within : (h n : ℕ) → n < h → nat_le h n ≡ false
not_within h n e = grind (arith, nat_tests)

pub length_mapped : {X : Type 0} (F : ℕ → X) (a n : ℕ) → length (map F (range_with_len a n)) ≡ n
length_mapped F a zero = refl
length_mapped F a (suc n) = ap suc (length_mapped F (a + 1) n)

pub length_if : {X : Type 0} (t : Bool) (xs : List X) (n : ℕ) → length xs ≤ n → length (if t then xs else []) ≤ n
length_if true xs n e = e
length_if false xs n e = omega arith

-- Which nodes smaller parts have together.

flat_next : {X : Type 0} (each : ℕ → List X) (a n : ℕ) → flat_map each (range_with_len a n) ++ each (a + n) ≡ flat_map each (range_with_len a (suc n))
flat_next each a zero = let k : a + 0 ≡ a = omega arith in ap each k ∙ sym (append-nil (each a))
flat_next each a (suc n) =
    let k : a + suc n ≡ (a + 1) + n = omega arith in
    append_assoc (each a) (flat_map each (range_with_len (a + 1) n)) (each (a + suc n))
    ∙ ap (λ x. each a ++ (flat_map each (range_with_len (a + 1) n) ++ each x)) k
    ∙ ap (λ xs. each a ++ xs) (flat_next each (a + 1) n)

-- of each number
pub numbered_flat : (each : ℕ → List Node) (n : ℕ) → numbered_nodes each n ≡ flat_map each (range_with_len 1 n)
numbered_flat each zero = refl
numbered_flat each (suc n) =
    let k : n + 1 ≡ 1 + n = omega arith in
    ap (λ xs. xs ++ each (n + 1)) (numbered_flat each n)
    ∙ ap (λ x. flat_map each (range_with_len 1 n) ++ each x) k ∙ flat_next each 1 n

-- of each gameweek
pub gameweeks_mapped : (at : ℕ → Node) (first n : ℕ) → gameweek_nodes at first n ≡ map at (range_with_len (first + 1) n)
gameweeks_mapped at first zero = refl
gameweeks_mapped at first (suc n) =
    let k : suc n ≡ n + 1 = omega arith in
    ap (λ xs. xs ++ at (first + n + 1) ∷ []) (gameweeks_mapped at first n)
    ∙ sym (map-range_with_len_more at (first + 1) n (first + n + 1) (omega arith))
    ∙ ap (λ m. map at (range_with_len (first + 1) m)) (sym k)

pub gameweeks_since : (at : ℕ → Node) (first last : ℕ) → gameweek_nodes at first (last - first) ≡ map at (gameweeks (first + 1) last)
gameweeks_since at first last =
    let k : last - first ≡ (last + 1) - (first + 1) = omega arith in
    gameweeks_mapped at first (last - first) ∙ ap (λ n. map at (range_with_len (first + 1) n)) k

-- of a list of lists
map_flat : {X Y Z : Type 0} (g : Y → Z) (f : X → List Y) (xs : List X) → map g (flat_map f xs) ≡ flat_map (λ x. map g (f x)) xs
map_flat g f [] = refl
map_flat g f (x ∷ xs) = map-append g (f x) (flat_map f xs) ∙ ap (λ ys. map g (f x) ++ ys) (map_flat g f xs)

five : {X : Type 0} (p q r s t : List X) → (((p ++ q) ++ r) ++ s) ++ t ≡ p ++ (q ++ (r ++ (s ++ (t ++ []))))
five p q r s t =
    append_assoc ((p ++ q) ++ r) s t ∙ append_assoc (p ++ q) r (s ++ t) ∙ append_assoc p q (r ++ (s ++ t))
    ∙ ap (λ x. p ++ (q ++ (r ++ (s ++ x)))) (sym (append-nil t))

six : {X : Type 0} (o p q r s t : List X) → ((o ++ ((p ++ q) ++ r)) ++ s) ++ t ≡ o ++ (p ++ (q ++ (r ++ (s ++ (t ++ [])))))
six o p q r s t =
    append_assoc (o ++ ((p ++ q) ++ r)) s t ∙ append_assoc o ((p ++ q) ++ r) (s ++ t)
    ∙ ap (λ x. o ++ x) (append_assoc (p ++ q) r (s ++ t) ∙ append_assoc p q (r ++ (s ++ t)))
    ∙ ap (λ x. o ++ (p ++ (q ++ (r ++ (s ++ x))))) (sym (append-nil t))

pub is_within : (h n : ℕ) → h ≤ n → nat_le h n ≡ true
is_within h n e = grind (arith, nat_tests)

is_below : (h n : ℕ) → nat_lt h n ≡ true → h < n
is_below h n e = grind (arith, nat_tests)

max_within : (s first n : ℕ) → s ≤ n → first < n → max s (first + 1) ≤ n
max_within s first n a e = omega arith

max_beyond : (s first n : ℕ) → n < s → n < max s (first + 1)
max_beyond s first n a = omega arith

-- more than one node
abbrev pub IsMany : Part → Type 0
IsMany (part.One n) = ⊥
IsMany other = ⊤

module _ (b : SeasonFacts) where
  -- parts that are one node each
  ones : {X : Type 0} (g : X → Node) (xs : List X) → map g xs ≡ flat_map (nodes_of b) (map (λ x. part.One (g x)) xs)
  ones g [] = refl
  ones g (x ∷ xs) = ap (λ ns. g x ∷ ns) (ones g xs)

  -- parts that have the nodes that a list tells of each
  each : {X : Type 0} (f : X → List Node) (F : X → Part) → ((x : X) → f x ≡ nodes_of b (F x)) → (xs : List X) → flat_map f xs ≡ flat_map (nodes_of b) (map F xs)
  each f F same [] = refl
  each f F same (x ∷ xs) = ap (λ ns. ns ++ flat_map f xs) (same x) ∙ ap (λ ns. nodes_of b (F x) ++ ns) (each f F same xs)

  numbers : (f : ℕ → List Node) (F : ℕ → Part) → ((x : ℕ) → f x ≡ nodes_of b (F x)) → (n : ℕ) → numbered_nodes f n ≡ flat_map (nodes_of b) (map F (range_with_len 1 n))
  numbers f F same n = numbered_flat f n ∙ each f F same (range_with_len 1 n)

  when : (t : Bool) (ns : List Node) (ps : List Part) → (t ≡ true → ns ≡ flat_map (nodes_of b) ps) → (if t then ns else []) ≡ flat_map (nodes_of b) (if t then ps else [])
  when true ns ps e = e refl
  when false ns ps e = refl

  -- the totals of an entry
  totals : (e : ℕ) (f : ℕ → List ℕ) (ls : List ℕ) (F : ℕ → Part) → ((l : ℕ) → map (node.Total e) (f l) ≡ nodes_of b (F l))
      → map (node.Total e) (flat_map f ls) ≡ flat_map (nodes_of b) (map F ls)
  totals e f ls F same = map_flat (node.Total e) f ls ∙ each (λ l. map (node.Total e) (f l)) F same ls

  -- of an option
  maybe : {X : Type 0} (f : X → List Node) (F : X → List Part) → ((x : X) → f x ≡ flat_map (nodes_of b) (F x)) → (o : Option X)
      → option_map_or f o [] ≡ flat_map (nodes_of b) (option_map_or F o [])
  maybe f F same None = refl
  maybe f F same (Some x) = same x

  -- two parts, one behind the other
  two : (xs ys : List Node) (p q : Part) → xs ≡ nodes_of b p → ys ≡ nodes_of b q → xs ++ ys ≡ flat_map (nodes_of b) (p ∷ q ∷ [])
  two xs ys p q e f = ap (λ ns. ns ++ ys) e ∙ ap (λ ns. nodes_of b p ++ ns) (f ∙ sym (append-nil (nodes_of b q)))

  no_rounds : (l from : ℕ) → b.calendar.locked < from → rounds_since b l from ≡ []
  no_rounds l from late = let k : (b.calendar.locked + 1) - from ≡ 0 = omega arith in ap (λ n. flat_map (round_nodes b l) (range_with_len from n)) k

  -- what a league has behind the first gameweeks, where it counts from the later of its start and the first of these
  behind : (l first : ℕ) → first < b.calendar.locked → locked_rounds b first l ≡ league_behind b l first
  behind l first some = behind_case (leb_tells (start_in b.leagues l) b.calendar.locked)
    where
      from : ℕ
      from = max (start_in b.leagues l) (first + 1)

      behind_case : ((nat_le (start_in b.leagues l) b.calendar.locked ≡ true) × (start_in b.leagues l ≤ b.calendar.locked)) ⊎ ((nat_le (start_in b.leagues l) b.calendar.locked ≡ false) × (b.calendar.locked < start_in b.leagues l))
          → locked_rounds b first l ≡ league_behind b l first
      behind_case (inl a) =
          ap (λ t. rounds_since b l from ++ (if t then row_nodes b l else [])) a.0
          ∙ ap (λ t. if t then rounds_since b l from ++ row_nodes b l else []) (sym (is_within from b.calendar.locked (max_within (start_in b.leagues l) first b.calendar.locked a.1 some)))
      behind_case (inr a) =
          ap (λ t. rounds_since b l from ++ (if t then row_nodes b l else [])) a.0
          ∙ ap (λ ns. ns ++ []) (no_rounds l from (max_beyond (start_in b.leagues l) first b.calendar.locked a.1))
          ∙ ap (λ t. if t then rounds_since b l from ++ row_nodes b l else []) (sym (not_within from b.calendar.locked (max_beyond (start_in b.leagues l) first b.calendar.locked a.1)))

  round_whole : (l g : ℕ) (t : Bool) → (if t then node.Average l g ∷ [] else []) ++ map (node.Match l g) (range_with_len 0 (length (order_in b.leagues l)))
      ≡ flat_map (nodes_of b) (if t then part.One (node.Average l g) ∷ part.Matches l g ∷ [] else part.Matches l g ∷ [])
  round_whole l g true = two (node.Average l g ∷ []) (nodes_of b (part.Matches l g)) (part.One (node.Average l g)) (part.Matches l g) refl refl
  round_whole l g false = sym (append-nil (nodes_of b (part.Matches l g)))

  locked_whole : (first : ℕ) → locked_nodes b first ≡ flat_map (nodes_of b) (locked_parts first)
  locked_whole first =
      five (locked_players b first) (locked_entries b first) (locked_totals b first) (locked_leagues b first) (locked_cups b first)

  all_whole : all_nodes b ≡ flat_map (nodes_of b) all_parts
  all_whole = six (fixtures_nodes b) (locked_players b 0) (locked_entries b 0) (locked_totals b 0) (heads_nodes b) (cups_since b 0)

  -- the nodes of a part are those of its smaller parts
  pub whole : (t : Part) → IsMany t → nodes_of b t ≡ flat_map (nodes_of b) (parts_of b t)
  whole (part.One n) m = absurd m
  whole part.All m = all_whole
  whole (part.Locked first) m = locked_whole first
  whole (part.Changed l) m = two (member_nodes b l) (head_nodes b l) (part.Members l) (part.Head l) refl refl
  whole part.Fixtures m = each (fixture_nodes b) part.Fixture (λ f. refl) (keys_of b.matches)
  whole (part.Fixture f) m = ap (λ ns. node.Bonus f ∷ ns) (ones (node.Line f) (players_of b f))
  whole (part.Players first) m = each (λ player. player_nodes player.id first (b.calendar.locked - first)) (λ player. part.Player player.id first) (λ player. refl) b.players
  whole (part.Player p first) m = gameweeks_since (node.PlayerGw p) first b.calendar.locked ∙ ones (node.PlayerGw p) (gameweeks (first + 1) b.calendar.locked)
  whole (part.Entries first) m = numbers (λ e. entry_nodes e first (b.calendar.locked - first)) (λ e. part.Entry e first) (λ e. refl) b.entries
  whole (part.Entry e first) m = gameweeks_since (node.TeamGw e) first b.calendar.locked ∙ ones (node.TeamGw e) (gameweeks (first + 1) b.calendar.locked)
  whole (part.Teams g) m = numbers (λ e. node.TeamGw e g ∷ []) (λ e. part.One (node.TeamGw e g)) (λ e. refl) b.entries
  whole (part.Totals first) m = when (nat_lt first b.calendar.locked) (numbered_nodes (total_nodes b) b.entries) (map part.TotalsOf (range_with_len 1 b.entries))
      (λ t. numbers (total_nodes b) part.TotalsOf (λ e. refl) b.entries)
  whole (part.TotalsOf e) m = ap (λ ns. node.Total e 1 ∷ ns) (totals e (classic_starts b.leagues) (leagues_of b.leagues e) (part.TotalIn e) (λ l. refl))
  whole (part.TotalIn e l) m = ones (node.Total e) (classic_starts b.leagues l)
  whole (part.Members l) m = maybe (members_since b l) (λ s. if nat_le s b.calendar.locked then map (λ e. part.One (node.Total e s)) (members_in b.leagues l) else [])
      (λ s. when (nat_le s b.calendar.locked) (map (λ e. node.Total e s) (members_in b.leagues l)) (map (λ e. part.One (node.Total e s)) (members_in b.leagues l)) (λ t. ones (λ e. node.Total e s) (members_in b.leagues l)))
      (classic_start b.leagues l)
  whole part.Heads m = numbers (head_nodes b) part.Head (λ l. refl) (length b.leagues)
  whole (part.Head l) m = maybe (head_since b l) (λ start. part.Rounds l start ∷ part.Rows l ∷ []) (λ start. two (rounds_since b l start) (row_nodes b l) (part.Rounds l start) (part.Rows l) refl refl) (league_start b.leagues l)
  whole (part.Leagues first) m = when (nat_lt first b.calendar.locked) (numbered_nodes (locked_rounds b first) (length b.leagues)) (map (λ l. part.League l first) (range_with_len 1 (length b.leagues)))
      (λ t. numbers (locked_rounds b first) (λ l. part.League l first) (λ l. behind l first (is_below first b.calendar.locked t)) (length b.leagues))
  whole (part.League l first) m =
      let from = max (start_in b.leagues l) (first + 1) in
      when (nat_le from b.calendar.locked) (rounds_since b l from ++ row_nodes b l) (part.Rounds l from ∷ part.Rows l ∷ []) (λ t. two (rounds_since b l from) (row_nodes b l) (part.Rounds l from) (part.Rows l) refl refl)
  whole (part.Rounds l from) m = each (round_nodes b l) (part.Round l) (λ g. refl) (gameweeks from b.calendar.locked)
  whole (part.Round l g) m = round_whole l g (has_average (length (order_in b.leagues l)))
  whole (part.Matches l g) m = ones (node.Match l g) (range_with_len 0 (length (order_in b.leagues l)))
  whole (part.Rows l) m = ones (node.HeadRow l) (order_in b.leagues l)
  whole part.Cups m = numbers (ties_since b 0) (λ c. part.Cup c 0) (λ c. refl) (length b.cups)
  whole (part.LaterCups first) m = when (nat_lt first b.calendar.locked) (cups_since b (first + 1)) (map (λ c. part.Cup c (first + 1)) (range_with_len 1 (length b.cups)))
      (λ t. numbers (ties_since b (first + 1)) (λ c. part.Cup c (first + 1)) (λ c. refl) (length b.cups))
  whole (part.Cup c from) m = each (cup_round b c) (part.CupRound c) (λ g. refl) (gameweeks from b.calendar.locked)
  whole (part.CupRound c g) m =
      let r = g - (bracket_of b c).start in
      when (nat_le (bracket_of b c).start g) (tie_nodes b c r) (map (λ i. part.One (node.Tie c r i)) (range_with_len 0 (ties_after (bracket_of b c) r))) (λ t. ones (node.Tie c r) (range_with_len 0 (ties_after (bracket_of b c) r)))

-- A smaller part is less deep.

less_deep : {X : Type 0} (F : X → Part) (d : ℕ) → ((x : X) → depth (F x) < d) → (xs : List X) (p : Part) → Among (map F xs) p → depth p < d
less_deep F d low xs p a = let r = from_map F xs p a in subst (λ q. depth q < d) r.1.1 (low r.0)

if_listed : (t : Bool) (ps : List Part) (p : Part) → Among (if t then ps else []) p → Among ps p
if_listed true ps p a = a
if_listed false ps p a = absurd a

pub got_among : {X : Type 0} (xs : List X) (i : ℕ) (x : X) → slice_get xs i ≡ Some x → Among xs x
got_among [] i x e = absurd (cc)
got_among (y ∷ xs) zero x e = inl (some_same y x e)
  where
    some_same : {X : Type 0} (y x : X) → Some y ≡ Some x → y ≡ x
    some_same y x e = cc
got_among (y ∷ xs) (suc i) x e = inr (got_among xs i x e)

-- How many parts there are.

pub numbers_few : {X : Type 0} (F : ℕ → X) (a n m : ℕ) → n ≤ m → length (map F (range_with_len a n)) ≤ m
numbers_few F a n m e = let k = length_mapped F a n in omega (arith, k, e)

pub gameweeks_few : {X : Type 0} (F : ℕ → X) (from last m : ℕ) → last + 1 ≤ m → length (map F (gameweeks from last)) ≤ m
gameweeks_few F from last m e = numbers_few F from ((last + 1) - from) m (omega (arith, e))

pub as_part : (b : SeasonFacts) (t u : Part) (n : ℕ) → t ≡ u → length (parts_of b u) ≤ n → length (parts_of b t) ≤ n
as_part b t u n e few = subst (λ p. length (parts_of b p) ≤ n) (sym e) few

-- What the loop over the parts of one has done.

pub many : (t : Part) → ((n : Node) → t ≡ part.One n → ⊥) → IsMany t
many (part.One n) other = absurd (other n refl)
many t other = tt

abbrev pub AreLow : ℕ → List Part → Type 0
AreLow d [] = ⊤
AreLow d (p ∷ ps) = (depth p < d) × AreLow d ps

low_among : (d : ℕ) (ps : List Part) (p : Part) → AreLow d ps → Among ps p → depth p < d
low_among d [] p low a = absurd a
low_among d (q ∷ ps) p low (inl e) = subst (λ x. depth x < d) e low.0
low_among d (q ∷ ps) p low (inr a) = low_among d ps p low.1 a

low_maybe : (d : ℕ) (F : ℕ → List Part) → ((x : ℕ) (p : Part) → Among (F x) p → depth p < d) → (o : Option ℕ) (p : Part) → Among (option_map_or F o []) p → depth p < d
low_maybe d F low None p a = absurd a
low_maybe d F low (Some x) p a = low x p a

low_round : (l g : ℕ) (t : Bool) (p : Part) → Among (if t then part.One (node.Average l g) ∷ part.Matches l g ∷ [] else part.Matches l g ∷ []) p → depth p < 2
low_round l g true p a = low_among 2 (part.One (node.Average l g) ∷ part.Matches l g ∷ []) p (omega arith, (omega arith, tt)) a
low_round l g false p a = low_among 2 (part.Matches l g ∷ []) p (omega arith, tt) a

module _ (b : SeasonFacts) where
  -- the parts of one are less deep
  pub deeper : (t p : Part) → Among (parts_of b t) p → depth p < depth t
  deeper (part.One n) p a = absurd a
  deeper part.All p a = low_among 6 all_parts p (omega arith, (omega arith, (omega arith, (omega arith, (omega arith, (omega arith, tt)))))) a
  deeper (part.Locked first) p a = low_among 6 (locked_parts first) p (omega arith, (omega arith, (omega arith, (omega arith, (omega arith, tt))))) a
  deeper (part.Changed l) p a = low_among 5 (part.Members l ∷ part.Head l ∷ []) p (omega arith, (omega arith, tt)) a
  deeper part.Fixtures p a = less_deep part.Fixture 2 (λ f. omega arith) (keys_of b.matches) p a
  deeper (part.Fixture f) p (inl e) = subst (λ x. depth x < 1) e (omega arith)
  deeper (part.Fixture f) p (inr a) = less_deep (λ q. part.One (node.Line f q)) 1 (λ q. omega arith) (players_of b f) p a
  deeper (part.Players first) p a = less_deep (λ player. part.Player player.id first) 2 (λ player. omega arith) b.players p a
  deeper (part.Player q first) p a = less_deep (λ g. part.One (node.PlayerGw q g)) 1 (λ g. omega arith) (gameweeks (first + 1) b.calendar.locked) p a
  deeper (part.Entries first) p a = less_deep (λ e. part.Entry e first) 2 (λ e. omega arith) (range_with_len 1 b.entries) p a
  deeper (part.Entry e first) p a = less_deep (λ g. part.One (node.TeamGw e g)) 1 (λ g. omega arith) (gameweeks (first + 1) b.calendar.locked) p a
  deeper (part.Teams g) p a = less_deep (λ e. part.One (node.TeamGw e g)) 1 (λ e. omega arith) (range_with_len 1 b.entries) p a
  deeper (part.Totals first) p a = less_deep part.TotalsOf 3 (λ e. omega arith) (range_with_len 1 b.entries) p (if_listed (nat_lt first b.calendar.locked) (map part.TotalsOf (range_with_len 1 b.entries)) p a)
  deeper (part.TotalsOf e) p (inl x) = subst (λ y. depth y < 2) x (omega arith)
  deeper (part.TotalsOf e) p (inr a) = less_deep (part.TotalIn e) 2 (λ l. omega arith) (leagues_of b.leagues e) p a
  deeper (part.TotalIn e l) p a = less_deep (λ s. part.One (node.Total e s)) 1 (λ s. omega arith) (classic_starts b.leagues l) p a
  deeper (part.Members l) p a =
      low_maybe 1 (λ s. if nat_le s b.calendar.locked then map (λ e. part.One (node.Total e s)) (members_in b.leagues l) else [])
      (λ s q x. less_deep (λ e. part.One (node.Total e s)) 1 (λ e. omega arith) (members_in b.leagues l) q (if_listed (nat_le s b.calendar.locked) (map (λ e. part.One (node.Total e s)) (members_in b.leagues l)) q x))
      (classic_start b.leagues l) p a
  deeper part.Heads p a = less_deep part.Head 5 (λ l. omega arith) (range_with_len 1 (length b.leagues)) p a
  deeper (part.Head l) p a =
      low_maybe 4 (λ start. part.Rounds l start ∷ part.Rows l ∷ []) (λ start q x. low_among 4 (part.Rounds l start ∷ part.Rows l ∷ []) q (omega arith, (omega arith, tt)) x) (league_start b.leagues l) p a
  deeper (part.Leagues first) p a = less_deep (λ l. part.League l first) 5 (λ l. omega arith) (range_with_len 1 (length b.leagues)) p (if_listed (nat_lt first b.calendar.locked) (map (λ l. part.League l first) (range_with_len 1 (length b.leagues))) p a)
  deeper (part.League l first) p a =
      let from = max (start_in b.leagues l) (first + 1) in
      low_among 4 (part.Rounds l from ∷ part.Rows l ∷ []) p (omega arith, (omega arith, tt)) (if_listed (nat_le from b.calendar.locked) (part.Rounds l from ∷ part.Rows l ∷ []) p a)
  deeper (part.Rounds l from) p a = less_deep (part.Round l) 3 (λ g. omega arith) (gameweeks from b.calendar.locked) p a
  deeper (part.Round l g) p a = low_round l g (has_average (length (order_in b.leagues l))) p a
  deeper (part.Matches l g) p a = less_deep (λ i. part.One (node.Match l g i)) 1 (λ i. omega arith) (range_with_len 0 (length (order_in b.leagues l))) p a
  deeper (part.Rows l) p a = less_deep (λ e. part.One (node.HeadRow l e)) 1 (λ e. omega arith) (order_in b.leagues l) p a
  deeper part.Cups p a = less_deep (λ c. part.Cup c 0) 3 (λ c. omega arith) (range_with_len 1 (length b.cups)) p a
  deeper (part.LaterCups first) p a = less_deep (λ c. part.Cup c (first + 1)) 3 (λ c. omega arith) (range_with_len 1 (length b.cups)) p (if_listed (nat_lt first b.calendar.locked) (map (λ c. part.Cup c (first + 1)) (range_with_len 1 (length b.cups))) p a)
  deeper (part.Cup c from) p a = less_deep (part.CupRound c) 2 (λ g. omega arith) (gameweeks from b.calendar.locked) p a
  deeper (part.CupRound c g) p a =
      let r = g - (bracket_of b c).start in
      let ties = range_with_len 0 (ties_after (bracket_of b c) r) in
      less_deep (λ i. part.One (node.Tie c r i)) 1 (λ i. omega arith) ties p (if_listed (nat_le (bracket_of b c).start g) (map (λ i. part.One (node.Tie c r i)) ties) p a)

got_within : {X : Type 0} (xs : List X) (i : ℕ) (x : X) → slice_get xs i ≡ Some x → i < length xs
got_within [] i x e = absurd (cc)
got_within (y ∷ xs) zero x e = omega arith
got_within (y ∷ xs) (suc i) x e = let k = got_within xs i x e in omega (arith, k)

got_past : {X : Type 0} (xs : List X) (i : ℕ) → ((x : X) → slice_get xs i ≡ Some x → ⊥) → length xs ≤ i
got_past [] i none = omega arith
got_past (y ∷ xs) zero none = absurd (none y refl)
got_past (y ∷ xs) (suc i) none = let k = got_past xs i none in omega (arith, k)

some_is : {X : Type 0} (y x : X) → Some y ≡ Some x → y ≡ x
some_is y x e = cc

module _ (b : SeasonFacts) (all : Bool) (ps : List Part) (i : ℕ) where
  -- one part more
  pub one_part : (p : Part) (s t u : State Node Value) → slice_get ps i ≡ Some p
      → Refreshed (is_live b) (Among (chosen_in (is_live b) all s (flat_map (nodes_of b) (take i ps)))) s t → Refreshed (is_live b) (Among (chosen_in (is_live b) all t (nodes_of b p))) t u
      → Refreshed (is_live b) (Among (chosen_in (is_live b) all s (flat_map (nodes_of b) (take (i + 1) ps)))) s u
  one_part p s t u got so_far one =
      let within = got_within ps i p got in
      let same : get_or ps i p ≡ p = some_is (get_or ps i p) p (sym (slice_get-get_or ps i p within) ∙ got) in
      subst (λ ns. Refreshed (is_live b) (Among (chosen_in (is_live b) all s ns)) s u)
      (ap (λ q. flat_map (nodes_of b) (take i ps) ++ nodes_of b q) (sym same) ∙ flat_more (nodes_of b) ps i p within)
      (chosen_append (is_live b) all (flat_map (nodes_of b) (take i ps)) (nodes_of b p) s t u so_far one)

  -- and none
  pub no_part : (s t : State Node Value) → ((p : Part) → slice_get ps i ≡ Some p → ⊥)
      → Refreshed (is_live b) (Among (chosen_in (is_live b) all s (flat_map (nodes_of b) (take i ps)))) s t
      → Refreshed (is_live b) (Among (chosen_in (is_live b) all s (flat_map (nodes_of b) (take (i + 1) ps)))) s t
  no_part s t none so_far =
      let past = got_past ps i none in
      subst (λ qs. Refreshed (is_live b) (Among (chosen_in (is_live b) all s (flat_map (nodes_of b) qs))) s t) (take_all i ps past ∙ sym (take_all (i + 1) ps (omega (arith, past)))) so_far
