-- The walk over the tokens of a value that looks at each number and at how deep lists and objects nest.
use Rattle.std.proofs.Common.{◌≡◌, ◌∙◌, ap, ap₂, refl, sym, arith, inl, inr, append_assoc, append-nil, ℕ, suc, ◌+◌, ◌-◌, ◌≤◌, ◌==◌, ◌&&◌, ◌⊎◌, max, List, [], ◌∷◌, ◌++◌, nat_le, Bool, true, false, cond, Option, Some, None, is_some, option_map, option_and_then}
use Rattle.std.specs.Borrow.{Bor}
use Rattle.std.proofs.lemmas.Bool.Decides.{nat_tests}
use Rattle.json.specs.Json.{Json, null, boolean, number, string, array, object, Items, no_items, item, Members, no_members, member}
use Rattle.json.specs.Tape.{node_token}
use Rattle.json.specs.Token.{Token}
use Rattle.json.specs.Tree.{depth, items_depth, items_tokens, json_tokens, members_depth, members_tokens}
use Rattle.json.specs.declared.tape.Node.{Node}
use Rattle.json.specs.declared.tape.Node.TheVariants as nodes
use Rattle.json.specs.declared.tape.Node.TheVariants.{Object, EndObject, Array, EndArray, Key, String, Null}
use Rattle.serde_json.specs.Data as told
use Rattle.serde_json.specs.Read.{number_of, of_items, of_json, of_members}
use Rattle.json_tree.specs.Trees.{is_readable}

-- where so many lists and objects are open, the tokens are passed
abbrev pub passes : ℕ → List Token → Bool
passes level [] = true
passes level (Token.begin_object ∷ ts) = cond (level == 127) false (passes (level + 1) ts)
passes level (Token.end_object ∷ ts) = passes (level - 1) ts
passes level (Token.begin_array ∷ ts) = cond (level == 127) false (passes (level + 1) ts)
passes level (Token.end_array ∷ ts) = passes (level - 1) ts
passes level (Token.key s ∷ ts) = passes level ts
passes level (Token.string s ∷ ts) = passes level ts
passes level (Token.number s ∷ ts) = cond (is_some (number_of s)) (passes level ts) false
passes level (Token.boolean b ∷ ts) = passes level ts
passes level (Token.null ∷ ts) = passes level ts
passes level (Token.bad ∷ ts) = passes level ts

-- ---- nodes

pub passes-opening : (level : ℕ) (n : Node) (ts : List Token) → ((a : ℕ) × (n ≡ Object a)) ⊎ ((a : ℕ) × (n ≡ Array a)) → passes level (node_token n ∷ ts) ≡ cond (level == 127) false (passes (level + 1) ts)
passes-opening level n ts (inl (a, is)) = ap (λ m. passes level (node_token m ∷ ts)) is
passes-opening level n ts (inr (a, is)) = ap (λ m. passes level (node_token m ∷ ts)) is

pub passes-closing : (level : ℕ) (n : Node) (ts : List Token) → (n ≡ EndObject) ⊎ (n ≡ EndArray) → passes level (node_token n ∷ ts) ≡ passes (level - 1) ts
passes-closing level n ts (inl is) = ap (λ m. passes level (node_token m ∷ ts)) is
passes-closing level n ts (inr is) = ap (λ m. passes level (node_token m ∷ ts)) is

pub passes-other : (level : ℕ) (n : Node) (ts : List Token) → ((x : Bor (List ℕ)) × (n ≡ Key x)) ⊎ (((x : Bor (List ℕ)) × (n ≡ String x)) ⊎ (((b : Bool) × (n ≡ nodes.Bool b)) ⊎ (n ≡ Null))) → passes level (node_token n ∷ ts) ≡ passes level ts
passes-other level n ts (inl (x, is)) = ap (λ m. passes level (node_token m ∷ ts)) is
passes-other level n ts (inr (inl (x, is))) = ap (λ m. passes level (node_token m ∷ ts)) is
passes-other level n ts (inr (inr (inl (b, is)))) = ap (λ m. passes level (node_token m ∷ ts)) is
passes-other level n ts (inr (inr (inr is))) = ap (λ m. passes level (node_token m ∷ ts)) is

-- ---- tests

regrouped : (a b c d e : Bool) → ((a && b) && ((c && d) && e)) ≡ (((a && c) && (b && d)) && e)
regrouped true true c d e = refl
regrouped true false true d e = refl
regrouped true false false d e = refl
regrouped false b c d e = refl

never_and : (a : Bool) → (a && false) ≡ false
never_and true = refl
never_and false = refl

low_both : (level a b : ℕ) → nat_le (level + max a b) 127 ≡ (nat_le (level + a) 127 && nat_le (level + b) 127)
low_both level a b = grind (arith, nat_tests)

low_one : (level : ℕ) → level ≤ 127 → nat_le (level + 0) 127 ≡ true
low_one level h = grind (arith, nat_tests)

some_mapped : {A B : Type 0} (f : A → B) (o : Option A) → is_some (option_map f o) ≡ is_some o
some_mapped f None = refl
some_mapped f (Some a) = refl

some_chained : {A B : Type 0} (f : A → Option B) (b : Bool) → ((a : A) → is_some (f a) ≡ b) → (o : Option A) → is_some (option_and_then f o) ≡ (is_some o && b)
some_chained f b h None = refl
some_chained f b h (Some a) = h a

alike : {A B : Type 0} (f g : A → Option B) → ((a : A) → is_some (f a) ≡ is_some (g a)) → (o : Option A) → is_some (option_and_then f o) ≡ is_some (option_and_then g o)
alike f g h None = refl
alike f g h (Some a) = h a

-- what was found before plays no part
some_members : (js : Members) (f g : told.Members) → is_some (of_members js f) ≡ is_some (of_members js g)
some_members no_members f g = refl
some_members (member k j js) f g = alike _ _ (λ d. some_members js (told.put k d f) (told.put k d g)) (of_json j)

number_passed : (some after : Bool) → cond some after false ≡ ((some && true) && after)
number_passed true after = refl
number_passed false after = refl

and_true : (a : Bool) → (a && true) ≡ a
and_true true = refl
and_true false = refl

opened_at : (v : Bool) (level deep : ℕ) (some inside after : Bool) → level ≤ 127 → (level == 127) ≡ v → (level + 1 ≤ 127 → inside ≡ ((some && nat_le ((level + 1) + deep) 127) && after))
    → cond v false inside ≡ ((some && nat_le (level + suc deep) 127) && after)
opened_at true level deep some inside after h e inner =
    let high : nat_le (level + suc deep) 127 ≡ false = grind (arith, nat_tests, e) in
    sym (ap (λ b. (some && b) && after) high ∙ ap (λ b. b && after) (never_and some))
opened_at false level deep some inside after h e inner =
    let more : level + 1 ≤ 127 = grind (arith, nat_tests, e) in
    let same : (level + 1) + deep ≡ level + suc deep = omega arith in
    inner more ∙ ap (λ n. (some && nat_le n 127) && after) same

-- a list or an object opens, what is inside of it is passed, and it closes
opened : (level deep : ℕ) (some inside : Bool) (rest : List Token) → level ≤ 127 → (level + 1 ≤ 127 → inside ≡ ((some && nat_le ((level + 1) + deep) 127) && passes ((level + 1) - 1) rest))
    → cond (level == 127) false inside ≡ ((some && nat_le (level + suc deep) 127) && passes level rest)
opened level deep some inside rest h inner =
    let closed : (level + 1) - 1 ≡ level = omega arith in
    opened_at (level == 127) level deep some inside (passes level rest) h refl (λ more. inner more ∙ ap (λ n. (some && nat_le ((level + 1) + deep) 127) && passes n rest) closed)

-- one more value is passed, and then what follows it
followed : (level a b : ℕ) (some others : Bool) (all : Bool) (after inside : Bool) → all ≡ (some && others) → inside ≡ ((others && nat_le (level + b) 127) && after)
    → ((some && nat_le (level + a) 127) && inside) ≡ ((all && nat_le (level + max a b) 127) && after)
followed level a b some others all after inside is e =
    ap (λ x. (some && nat_le (level + a) 127) && x) e ∙ regrouped some (nat_le (level + a) 127) others (nat_le (level + b) 127) after
    ∙ ap₂ (λ x y. (x && y) && after) (sym is) (sym (low_both level a b))

-- ---- values

mutual
  passes-json_tokens : (j : Json) (level : ℕ) (rest : List Token) → level ≤ 127
      → passes level (json_tokens j ++ rest) ≡ ((is_some (of_json j) && nat_le (level + depth j) 127) && passes level rest)
  passes-json_tokens null level rest h = ap (λ b. b && passes level rest) (sym (low_one level h))
  passes-json_tokens (boolean b) level rest h = ap (λ b. b && passes level rest) (sym (low_one level h))
  passes-json_tokens (number s) level rest h =
      number_passed (is_some (number_of s)) (passes level rest)
      ∙ ap₂ (λ a b. (a && b) && passes level rest) (sym (some_mapped told.number (number_of s))) (sym (low_one level h))
  passes-json_tokens (string s) level rest h = ap (λ b. b && passes level rest) (sym (low_one level h))
  passes-json_tokens (array js) level rest h =
      opened level (items_depth js) (is_some (of_json (array js))) (passes (level + 1) (items_tokens js ++ rest)) rest h
      (λ more. passes-items_tokens js (level + 1) rest more ∙ ap (λ b. (b && nat_le ((level + 1) + items_depth js) 127) && passes ((level + 1) - 1) rest) (sym (some_mapped told.array (of_items js))))
  passes-json_tokens (object js) level rest h =
      opened level (members_depth js) (is_some (of_json (object js))) (passes (level + 1) (members_tokens js ++ rest)) rest h
      (λ more. passes-members_tokens js told.no_members (level + 1) rest more ∙ ap (λ b. (b && nat_le ((level + 1) + members_depth js) 127) && passes ((level + 1) - 1) rest) (sym (some_mapped told.object (of_members js told.no_members))))

  passes-items_tokens : (js : Items) (level : ℕ) (rest : List Token) → level ≤ 127
      → passes level (items_tokens js ++ rest) ≡ ((is_some (of_items js) && nat_le (level + items_depth js) 127) && passes (level - 1) rest)
  passes-items_tokens no_items level rest h = ap (λ b. b && passes (level - 1) rest) (sym (low_one level h))
  passes-items_tokens (item j js) level rest h =
      ap (passes level) (append_assoc (json_tokens j) (items_tokens js) rest)
      ∙ passes-json_tokens j level (items_tokens js ++ rest) h
      ∙ followed level (depth j) (items_depth js) (is_some (of_json j)) (is_some (of_items js)) (is_some (of_items (item j js))) (passes (level - 1) rest) (passes level (items_tokens js ++ rest))
      (some_chained (λ d. option_map (told.item d) (of_items js)) (is_some (of_items js)) (λ d. some_mapped (told.item d) (of_items js)) (of_json j))
      (passes-items_tokens js level rest h)

  passes-members_tokens : (js : Members) (found : told.Members) (level : ℕ) (rest : List Token) → level ≤ 127
      → passes level (members_tokens js ++ rest) ≡ ((is_some (of_members js found) && nat_le (level + members_depth js) 127) && passes (level - 1) rest)
  passes-members_tokens no_members found level rest h = ap (λ b. b && passes (level - 1) rest) (sym (low_one level h))
  passes-members_tokens (member k j js) found level rest h =
      ap (passes level) (append_assoc (json_tokens j) (members_tokens js) rest)
      ∙ passes-json_tokens j level (members_tokens js ++ rest) h
      ∙ followed level (depth j) (members_depth js) (is_some (of_json j)) (is_some (of_members js found)) (is_some (of_members (member k j js) found)) (passes (level - 1) rest) (passes level (members_tokens js ++ rest))
      (some_chained (λ d. of_members js (told.put k d found)) (is_some (of_members js found)) (λ d. some_members js (told.put k d found) found) (of_json j))
      (passes-members_tokens js found level rest h)

pub passes_readable : (j : Json) → passes 0 (json_tokens j) ≡ is_readable j
passes_readable j =
    let low : 0 + depth j ≡ depth j = omega arith in
    ap (passes 0) (sym (append-nil (json_tokens j))) ∙ passes-json_tokens j 0 [] (omega arith) ∙ and_true _ ∙ ap (λ n. is_some (of_json j) && nat_le n 127) low
