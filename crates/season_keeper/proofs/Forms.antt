-- The two tables as the statements on them see them, and what a query over one table shows.
use Rattle.std.proofs.Common.{◌≡◌, ◌≢◌, inl, inr, ℕ, ℤ, pos, List, [], ◌∷◌, slice_get, Bool, true, false, not, ◌&&◌, ◌||◌, Some, refl, sym, ap, arith, ap₂, subst, ◌∙◌, int_eq, true≢false}
use Rattle.std.specs.List.{AllByRecursion, list_all, list_any}
use Rattle.std.specs.Ordering.{is_eq, int_cmp}
use Rattle.std.proofs.lemmas.Bool.{and_parts, and_from, cases_Bool}
use Rattle.std.proofs.lemmas.List.Sorted.{IsPermutation-sym}
use Rattle.std.proofs.lemmas.Bool.Decides.{Decides-int_eq}
use Rattle.std.proofs.lemmas.Int.{ints}
use Rattle.std.proofs.lemmas.Cmp.{tied_itself}
use Rattle.sqlite_value.specs.declared.value.Value.TheVariants.{Int}
use Rattle.sqlite_value.specs.declared.keys.Key.{Key as Direction}
use Rattle.sqlite_value.specs.declared.keys.Collation.{Collation}
use Rattle.sqlite_value.specs.Keys.{first_key, plain}
use Rattle.sqlite_value.specs.Order.{Row, value_cmp}
use Rattle.sqlite_value.proofs.OrderLemmas.{value_cmp-Int, value_cmp_total}
use Rattle.sqlite_trees.specs.Tree.{Trees, rowid}
use Rattle.sqlite_sql.specs.declared.ops.CompareOp.TheVariants.{Eq, Ne}
use Rattle.sqlite_sql.specs.Term.{Term, eval_all, holds}
use Rattle.sqlite_sql.specs.Query.{IsAnswer, Output, output}
use Rattle.sqlite_sql.specs.Program.{overlay}
use Rattle.sqlite_schema.specs.declared.schema.Keys.{Keys}
use Rattle.sqlite_schema.specs.declared.schema.Table.{Table}
use Rattle.sqlite_schema.specs.declared.schema.Schema.{Schema}
use Rattle.sqlite_schema.specs.Rules.{agree, differ}
use Rattle.sqlite_typed.proofs.TestLemmas.{at_ints}
use Rattle.sqlite_rules.specs.Lists.{Has}
use Rattle.sqlite_rules.specs.Action.{works}
use Rattle.sqlite_rules.proofs.ListLemmas.{some_from}
use Rattle.sqlite_catalog.specs.Listing.{IsSound}
use Rattle.sqlite_catalog.proofs.AlterLemmas.{keys_are_unique}
use Rattle.fpl_base.specs.declared.records.RecordKey.{RecordKey as Key}
use Rattle.season_keeper.specs.Table.{record_table, line_table, schema_of, two}
use Rattle.season_keeper.specs.Rows.{record_values, LineKey, line_values}
use Rattle.season_keeper.proofs.Texts.{asking, record_filter, line_filter, record_place, record_tree, line_place, line_tree}
use Rattle.season_keeper.proofs.Lists.{has_permuted, has_mapped, mapped_has, picked, has_picked, picked_has}

-- ---- what a query over one table shows

abbrev pub hits : List Term → Row → Row → Bool
hits filter params r = list_all (holds (params ∷ r ∷ [])) filter

abbrev pub shown_of : List Term → Row → Row → Row
shown_of project params r = eval_all project (params ∷ r ∷ [])

module _ (tree : ℕ) (filter project : List Term) (collations : List Collation) (order : List (Term × Direction)) (trees : Trees) (bare : overlay trees [] tree ≡ trees tree) (params : Row) (out : List Row)
    (a : IsAnswer (asking tree filter project collations order) (overlay trees []) params out) where
  staged_is : a.staged ≡ picked (hits filter params) (λ r. params ∷ r ∷ []) (trees tree)
  staged_is = a.grouped ∙ ap (picked (hits filter params) (λ r. params ∷ r ∷ [])) bare

  pub shown_was : (x : Row) → Has out x → (r : Row) × Has (trees tree) r × (hits filter params r ≡ true) × (x ≡ shown_of project params r)
  shown_was x h =
      let one = has_mapped (λ (o : Output). o.1) a.ordered x (subst (λ l. Has l x) a.shown h) in
      let two = has_mapped (output (asking tree filter project collations order)) a.staged one.0 (subst (λ l. Has l one.0) a.distinct (has_permuted a.kept a.ordered one.0 a.same one.1)) in
      let three = has_picked (hits filter params) (λ r. params ∷ r ∷ []) (trees tree) two.0 (subst (λ l. Has l two.0) staged_is two.1) in
      (three.0, three.1, three.2, one.2 ∙ ap (λ (o : Output). o.1) two.2 ∙ ap (λ e. (output (asking tree filter project collations order) e).1) three.3)

  pub was_shown : (r : Row) → Has (trees tree) r → hits filter params r ≡ true → Has out (shown_of project params r)
  was_shown r h e =
      let q = asking tree filter project collations order in
      let three = subst (λ l. Has l (params ∷ r ∷ [])) (sym staged_is) (picked_has (hits filter params) (λ r. params ∷ r ∷ []) (trees tree) r h e) in
      let two = mapped_has (output q) a.staged _ three in
      let one = has_permuted a.ordered a.kept _ (IsPermutation-sym _ _ a.same) (subst (λ l. Has l (output q (params ∷ r ∷ []))) (sym a.distinct) two) in
      subst (λ l. Has l (shown_of project params r)) (sym a.shown) (mapped_has (λ (o : Output). o.1) a.ordered _ one)

-- ---- whole numbers

pub pos_same : (m n : ℕ) → int_eq (pos m) (pos n) ≡ true → m ≡ n
pos_same m n h = let e = (Decides-int_eq (pos m) (pos n)).0 h in cc

pub int_same : (n : ℤ) → int_eq n n ≡ true
int_same n = (Decides-int_eq n n).1 refl

pub same_rowid : (i : ℤ) → is_eq (value_cmp (Int i) (Int i)) ≡ true
same_rowid i = ap is_eq (tied_itself value_cmp_total (Int i))

pub other_rowid : (i j : ℤ) → i ≢ j → is_eq (value_cmp (Int i) (Int j)) ≡ false
other_rowid i j apart = ap is_eq (value_cmp-Int i j) ∙ apart_ints
  where
    apart_ints : is_eq (int_cmp i j) ≡ false
    apart_ints = grind (arith, ints)

pub and_true : (b : Bool) → (b && true) ≡ b
and_true true = refl
and_true false = refl

pub or_false : (b : Bool) → (b || false) ≡ b
or_false true = refl
or_false false = refl

-- ---- keys of four numbers, and of three

abbrev pub same_record : Key → Key → Bool
same_record k m = int_eq (pos m.kind) (pos k.kind) && (int_eq (pos m.a) (pos k.a) && (int_eq (pos m.b) (pos k.b) && (int_eq (pos m.c) (pos k.c) && true)))

abbrev pub same_line : LineKey → LineKey → Bool
same_line k m = int_eq (pos m.a) (pos k.a) && (int_eq (pos m.b) (pos k.b) && (int_eq (pos m.c) (pos k.c) && true))

pub record_parts : (k m : Key) → same_record k m ≡ true → m ≡ k
record_parts k m h =
    let one = and_parts _ _ h in
    let two = and_parts _ _ one.1 in
    let three = and_parts _ _ two.1 in
    let four = and_parts _ _ three.1 in
    let kind = pos_same m.kind k.kind one.0 in
    let a = pos_same m.a k.a two.0 in
    let b = pos_same m.b k.b three.0 in
    let c = pos_same m.c k.c four.0 in
    λ i. record { kind = kind i; a = a i; b = b i; c = c i }

pub line_parts : (k m : LineKey) → same_line k m ≡ true → m ≡ k
line_parts k m h =
    let one = and_parts _ _ h in
    let two = and_parts _ _ one.1 in
    let three = and_parts _ _ two.1 in
    let a = pos_same m.a k.a one.0 in
    let b = pos_same m.b k.b two.0 in
    let c = pos_same m.c k.c three.0 in
    λ i. record { a = a i; b = b i; c = c i }

pub record_self : (k : Key) → same_record k k ≡ true
record_self k = rw (int_same (pos k.kind), int_same (pos k.a), int_same (pos k.b), int_same (pos k.c)) refl

pub line_self : (k : LineKey) → same_line k k ≡ true
line_self k = rw (int_same (pos k.a), int_same (pos k.b), int_same (pos k.c)) refl

-- ---- a table with keys

pub record Form : Type 1 where
  pub K : Type 0
  pub values : K → List ℕ → Row
  pub key_row : K → Row
  pub same : K → K → Bool
  pub parts_same : (k m : K) → same k m ≡ true → m ≡ k
  pub same_self : (k : K) → same k k ≡ true
  pub schema : Schema
  pub place : ℕ
  pub table : Table
  pub there : slice_get schema.tables place ≡ Some table
  pub uncounted : table.is_counted ≡ false
  -- no foreign key acts
  pub free : (keys : Keys) (gone news : List Row) → works schema keys 0 table.tree gone news ≡ []
  pub bare : (trees : Trees) → overlay trees [] table.tree ≡ trees table.tree
  pub other : ℕ
  pub others : (db next : Trees) → AllByRecursion (λ t. t.tree ≢ table.tree → next t.tree ≡ db t.tree) schema.tables → next other ≡ db other
  -- the rows of a key
  pub filter : List Term
  pub hit_is : (k m : K) (id : ℤ) (body : List ℕ) → hits filter (key_row k) (Int id ∷ values m body) ≡ same k m
  -- the places of the key
  pub places : List ℕ
  pub unique : (db : Trees) (row : Row) → IsSound schema db → Has (db table.tree) row → list_any (λ o. agree plain places o places row && differ (rowid o) (rowid row)) (db table.tree) ≡ false
  pub agrees : (i j : ℤ) (k m : K) (x y : List ℕ) → agree plain places (Int i ∷ values k x) places (Int j ∷ values m y) ≡ same m k

module _ (F : Form) where
  open F use {K, values, same, schema}

  abbrev tree : ℕ
  tree = F.table.tree

  -- the row has the key
  abbrev pub is_hit : K → Row → Bool
  is_hit k = hits F.filter (F.key_row k)

  pub hit_self : (k : K) (id : ℤ) (body : List ℕ) → is_hit k (Int id ∷ values k body) ≡ true
  hit_self k id body = F.hit_is k k id body ∙ F.same_self k

  pub hit_key : (k m : K) (id : ℤ) (body : List ℕ) → is_hit k (Int id ∷ values m body) ≡ true → m ≡ k
  hit_key k m id body h = F.parts_same k m (sym (F.hit_is k m id body) ∙ h)

  -- a key stands once
  pub once : (db : Trees) (i j : ℤ) (k : K) (x y : List ℕ) → IsSound schema db → Has (db tree) (Int i ∷ values k x) → Has (db tree) (Int j ∷ values k y) → i ≡ j
  once db i j k x y sound h g = elim (cases_Bool (int_eq i j)) [
    | inl equal ↦ (Decides-int_eq i j).0 equal
    | inr apart ↦
        let other = Int i ∷ values k x in
        let row = Int j ∷ values k y in
        let clash : (agree plain F.places other F.places row && differ (Int i) (Int j)) ≡ true = and_from _ _ (F.agrees i j k k x y ∙ F.same_self k) (at_ints false Ne i j ∙ ap not apart) in
        absurd (true≢false (sym (some_from (λ o. agree plain F.places o F.places row && differ (rowid o) (rowid row)) (db tree) other h clash) ∙ F.unique db row sound g))
  ]

-- ---- the two tables

pub record_there : (first : Bool) → slice_get (schema_of (two first)).tables (record_place first) ≡ Some (record_table (record_tree first))
record_there false = refl
record_there true = refl

pub line_there : (first : Bool) → slice_get (schema_of (two first)).tables (line_place first) ≡ Some (line_table (line_tree first))
line_there false = refl
line_there true = refl

pub free_of : (first : Bool) (at : ℕ) (keys : Keys) (gone news : List Row) → works (schema_of (two first)) keys 0 at gone news ≡ []
free_of false at keys gone news = refl
free_of true at keys gone news = refl

pub record_bare : (first : Bool) (trees : Trees) → overlay trees [] (record_tree first) ≡ trees (record_tree first)
record_bare false trees = refl
record_bare true trees = refl

pub line_bare : (first : Bool) (trees : Trees) → overlay trees [] (line_tree first) ≡ trees (line_tree first)
line_bare false trees = refl
line_bare true trees = refl

zero_is_not_two : ◌≡◌ {A = ℕ} 0 2 → ⊥
zero_is_not_two e = omega (arith, e)

two_is_not_zero : ◌≡◌ {A = ℕ} 2 0 → ⊥
two_is_not_zero e = omega (arith, e)

pub line_kept : (first : Bool) (db next : Trees) → AllByRecursion (λ (t : Table). t.tree ≢ record_tree first → next t.tree ≡ db t.tree) (schema_of (two first)).tables → next (line_tree first) ≡ db (line_tree first)
line_kept false db next all = all.1.0 two_is_not_zero
line_kept true db next all = all.0 zero_is_not_two

pub record_kept : (first : Bool) (db next : Trees) → AllByRecursion (λ (t : Table). t.tree ≢ line_tree first → next t.tree ≡ db t.tree) (schema_of (two first)).tables → next (record_tree first) ≡ db (record_tree first)
record_kept false db next all = all.0 zero_is_not_two
record_kept true db next all = all.1.0 two_is_not_zero

pub record_listed : (first : Bool) → Has (schema_of (two first)).tables (record_table (record_tree first))
record_listed false = inl refl
record_listed true = inr (inl refl)

pub line_listed : (first : Bool) → Has (schema_of (two first)).tables (line_table (line_tree first))
line_listed false = inr (inl refl)
line_listed true = inl refl

pub record_agrees : (i j : ℤ) (k m : Key) (x y : List ℕ) → agree plain (1 ∷ 2 ∷ 3 ∷ 4 ∷ []) (Int i ∷ record_values k x) (1 ∷ 2 ∷ 3 ∷ 4 ∷ []) (Int j ∷ record_values m y) ≡ same_record m k
unfolding first_key
record_agrees i j k m x y =
    ap₂ ◌&&◌ (at_ints false Eq (pos k.kind) (pos m.kind)) (ap₂ ◌&&◌ (at_ints false Eq (pos k.a) (pos m.a)) (ap₂ ◌&&◌ (at_ints false Eq (pos k.b) (pos m.b)) (ap (λ b. b && true) (at_ints false Eq (pos k.c) (pos m.c)))))

pub line_agrees : (i j : ℤ) (k m : LineKey) (x y : List ℕ) → agree plain (1 ∷ 2 ∷ 3 ∷ []) (Int i ∷ line_values k x) (1 ∷ 2 ∷ 3 ∷ []) (Int j ∷ line_values m y) ≡ same_line m k
unfolding first_key
line_agrees i j k m x y = ap₂ ◌&&◌ (at_ints false Eq (pos k.a) (pos m.a)) (ap₂ ◌&&◌ (at_ints false Eq (pos k.b) (pos m.b)) (ap (λ b. b && true) (at_ints false Eq (pos k.c) (pos m.c))))

pub record_hit : (k m : Key) (id : ℤ) (body : List ℕ) → hits record_filter (Int (pos k.kind) ∷ Int (pos k.a) ∷ Int (pos k.b) ∷ Int (pos k.c) ∷ []) (Int id ∷ record_values m body) ≡ same_record k m
record_hit k m id body =
    ap₂ ◌&&◌ (at_ints false Eq (pos m.kind) (pos k.kind)) (ap₂ ◌&&◌ (at_ints false Eq (pos m.a) (pos k.a)) (ap₂ ◌&&◌ (at_ints false Eq (pos m.b) (pos k.b)) (ap (λ b. b && true) (at_ints false Eq (pos m.c) (pos k.c)))))

pub line_hit : (k m : LineKey) (id : ℤ) (body : List ℕ) → hits line_filter (Int (pos k.a) ∷ Int (pos k.b) ∷ Int (pos k.c) ∷ []) (Int id ∷ line_values m body) ≡ same_line k m
line_hit k m id body = ap₂ ◌&&◌ (at_ints false Eq (pos m.a) (pos k.a)) (ap₂ ◌&&◌ (at_ints false Eq (pos m.b) (pos k.b)) (ap (λ b. b && true) (at_ints false Eq (pos m.c) (pos k.c))))

abbrev pub record_form : Bool → Form
record_form first = record {
  K = Key;
  values = record_values;
  key_row = λ k. Int (pos k.kind) ∷ Int (pos k.a) ∷ Int (pos k.b) ∷ Int (pos k.c) ∷ [];
  same = same_record;
  parts_same = record_parts;
  same_self = record_self;
  schema = schema_of (two first);
  place = record_place first;
  table = record_table (record_tree first);
  there = record_there first;
  uncounted = refl;
  free = free_of first (record_tree first);
  bare = record_bare first;
  other = line_tree first;
  others = line_kept first;
  filter = record_filter;
  hit_is = record_hit;
  places = 1 ∷ 2 ∷ 3 ∷ 4 ∷ [];
  unique = λ db row sound h. keys_are_unique (schema_of (two first)) db (record_table (record_tree first)) 0 _ row sound (record_listed first) refl h;
  agrees = record_agrees;
}

abbrev pub line_form : Bool → Form
line_form first = record {
  K = LineKey;
  values = line_values;
  key_row = λ k. Int (pos k.a) ∷ Int (pos k.b) ∷ Int (pos k.c) ∷ [];
  same = same_line;
  parts_same = line_parts;
  same_self = line_self;
  schema = schema_of (two first);
  place = line_place first;
  table = line_table (line_tree first);
  there = line_there first;
  uncounted = refl;
  free = free_of first (line_tree first);
  bare = line_bare first;
  other = record_tree first;
  others = record_kept first;
  filter = line_filter;
  hit_is = line_hit;
  places = 1 ∷ 2 ∷ 3 ∷ [];
  unique = λ db row sound h. keys_are_unique (schema_of (two first)) db (line_table (line_tree first)) 0 _ row sound (line_listed first) refl h;
  agrees = line_agrees;
}
