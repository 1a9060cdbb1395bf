-- What a node tells of the value that begins at it.
use Rattle.std.proofs.Common.{◌≡◌, ◌≢◌, ◌∙◌, ap, refl, sym, subst, arith, le_refl, lt_of_not-le, inl, inr, ℕ, ◌+◌, ◌<◌, ◌⊎◌, List, [], ◌∷◌, ◌++◌, map, length, drop, get_or, option_and_then, Option, Some, None}
use Rattle.std.proofs.Common as common
use Rattle.std.specs.Prelude.{⊤}
use Rattle.std.proofs.lemmas.List.{drop_all, drop_more, get_or-map, length-map}
use Rattle.std.specs.Borrow.{Bor}
use Rattle.json.specs.Token.{Token}
use Rattle.json.specs.Json as json
use Rattle.json.specs.Json.{value}
use Rattle.json.specs.Tape.{node_token, Passes}
use Rattle.json.specs.Tree.{depth, json_tokens}
use Rattle.json.specs.declared.tape.Node.{Node}
use Rattle.json.specs.declared.tape.Node.TheVariants.{Object, EndObject, Array, EndArray, Key, String, Number, Bool, Null}
use Rattle.json.proofs.Found.{one_reading, Some_inj}
use Rattle.json.proofs.Grammar.{left_some}
use Rattle.json.proofs.Printed.Trees.{value-json_tokens}
use Rattle.serde_json.specs.Data.{Num, Data, null, boolean, number, string, array, object, Items, item, Members}
use Rattle.serde_json.specs.Find.{as_number, as_u64}
use Rattle.serde_json.specs.Read.{number_of}
use Rattle.json_tree.specs.Trees.{HasData, HasItems, Tells, seen, view}
use Rattle.json_tree.proofs.TokenLemmas.{alone, first_tells_view, items_split}

pub here : (ns : List Node) (i : ℕ) (d : Node) → i < length ns → drop i (map node_token ns) ≡ node_token (get_or ns i d) ∷ drop (i + 1) (map node_token ns)
here ns i d h =
    drop_more (map node_token ns) i (node_token d) (omega (arith, length-map ns node_token)) ∙ ap (λ t. t ∷ drop (i + 1) (map node_token ns)) (get_or-map node_token ns i d (node_token d) h)

-- where tokens go on, there is a node
pub within : (ns : List Node) (i : ℕ) → (drop i (map node_token ns) ≡ [] → ⊥) → i < length ns
within ns i some = lt_of_not-le (λ past. some (drop_all i (map node_token ns) (omega (arith, length-map ns node_token))))

-- a link passes the value that begins there
pub by_link : (all : List Token) (i end : ℕ) (j : json.Json) (rest : List Token) → Passes all i end → drop i all ≡ json_tokens j ++ rest → drop end all ≡ rest
by_link all i end j rest link e =
    let other = left_some (value link.0 (drop i all)) (drop end all) link.1 in
    let this : value (depth j) (drop i all) ≡ Some (j, rest) = ap (value (depth j)) e ∙ value-json_tokens j (depth j) rest (le_refl _) in
    ap (λ z. z.1) (Some_inj _ _ (one_reading link.0 (depth j) (drop i all) _ _ other.1 this))

-- the node that a token is of
abbrev pub IsOf : Token → Node → Type 0
IsOf Token.begin_object n = (a : ℕ) × (n ≡ Object a)
IsOf Token.end_object n = ⊤
IsOf Token.begin_array n = (a : ℕ) × (n ≡ Array a)
IsOf Token.end_array n = n ≡ EndArray
IsOf (Token.key s) n = (x : Bor (List ℕ)) × (n ≡ Key x)
IsOf (Token.string s) n = ⊤
IsOf (Token.number s) n = ⊤
IsOf (Token.boolean b) n = ⊤
IsOf Token.null n = ⊤
IsOf Token.bad n = ⊤

is_of : (n : Node) → IsOf (node_token n) n
is_of (Object a) = (a, refl)
is_of EndObject = tt
is_of (Array a) = (a, refl)
is_of EndArray = refl
is_of (Key s) = (s, refl)
is_of (String s) = tt
is_of (Number s) = tt
is_of (Bool b) = tt
is_of Null = tt

pub token_is_of : (n : Node) (t : Token) → node_token n ≡ t → IsOf t n
token_is_of n t e = subst (λ x. IsOf x n) e (is_of n)

-- a test of data that none passes but data of other nodes
pub otherwise : {X : Type 0} (f : Data → Option X) (n : Node) (d : Data) → Tells (node_token n) d
    → ((a : ℕ) → n ≢ Object a) ⊎ ((ms : Members) → f (object ms) ≡ None) → ((a : ℕ) → n ≢ Array a) ⊎ ((ds : Items) → f (array ds) ≡ None)
    → ((s : Bor (List ℕ)) → n ≢ String s) ⊎ ((s : List ℕ) → f (string s) ≡ None) → ((s : Bor (List ℕ)) → n ≢ Number s) ⊎ ((m : Num) → f (number m) ≡ None)
    → ((b : common.Bool) → n ≢ Bool b) ⊎ ((b : common.Bool) → f (boolean b) ≡ None) → (n ≢ Null) ⊎ (f null ≡ None) → f d ≡ None
otherwise f (Object a) d (ms, is) (inl never) q r s t u = absurd (never a refl)
otherwise f (Object a) d (ms, is) (inr none) q r s t u = ap f is ∙ none ms
otherwise f EndObject d tells p q r s t u = absurd tells
otherwise f (Array a) d (ds, is) p (inl never) r s t u = absurd (never a refl)
otherwise f (Array a) d (ds, is) p (inr none) r s t u = ap f is ∙ none ds
otherwise f EndArray d tells p q r s t u = absurd tells
otherwise f (Key x) d tells p q r s t u = absurd tells
otherwise f (String x) d is p q (inl never) s t u = absurd (never x refl)
otherwise f (String x) d is p q (inr none) s t u = ap f is ∙ none x.now
otherwise f (Number x) d (m, from, is) p q r (inl never) t u = absurd (never x refl)
otherwise f (Number x) d (m, from, is) p q r (inr none) t u = ap f is ∙ none m
otherwise f (Bool b) d is p q r s (inl never) u = absurd (never b refl)
otherwise f (Bool b) d is p q r s (inr none) u = ap f is ∙ none b
otherwise f Null d is p q r s t (inl never) = absurd (never refl)
otherwise f Null d is p q r s t (inr none) = ap f is ∙ none

-- the item that begins at a node, and those after it
pub items_split_here : (n : Node) (ts after : List Token) → ts ≡ node_token n ∷ after → n ≢ EndArray → HasItems ts
    → (j : json.Json) × (rest : List Token) × (ts ≡ json_tokens j ++ rest) × HasData ts × HasItems rest × (seen ts ≡ item (view ts) (seen rest))
items_split_here n ts after first other h =
    items_split ts h (λ r e. let closing : node_token n ≡ Token.end_array = cc (first, e) in other (token_is_of n Token.end_array closing))

-- the number that begins at a node, and the items after it
pub number_split : (text : List ℕ) (ts rest : List Token) → ts ≡ Token.number text ∷ rest → HasItems ts
    → HasItems rest × ((d : Data) × (seen ts ≡ item d (seen rest)) × (option_and_then as_u64 (number_of text) ≡ option_and_then as_u64 (as_number d)))
number_split text ts rest first h =
    let (j, after, whole, begins, others, parts) = items_split ts h (λ r e. let never : Token.number text ∷ rest ≡ Token.end_array ∷ r = sym first ∙ e in cc never) in
    let same : rest ≡ after = alone (Token.number text) rest j after (λ e. cc e) (λ e. cc e) (sym first ∙ whole) in
    let (m, from, is) = first_tells_view (Token.number text) rest (subst HasData first begins) in (
      subst HasItems (sym same) others,
      (
        view ts,
        parts ∙ ap (λ l. item (view ts) (seen l)) (sym same),
        ap (option_and_then as_u64) from ∙ sym (ap (λ l. option_and_then as_u64 (as_number (view l))) first ∙ ap (λ d. option_and_then as_u64 (as_number d)) is),
      ),
    )
