-- What tokens say that begin with a value, with items or with members.
use Rattle.std.proofs.Common.{◌≡◌, ◌≢◌, ◌∙◌, ap, ap₂, refl, sym, subst, arith, append_assoc, ℕ, ◌≤◌, List, [], ◌∷◌, ◌++◌, length, true, false, Option, Some, None, option_map, option_and_then}
use Rattle.std.specs.Option.{option_map_or}
use Rattle.std.proofs.lemmas.Slice.Eq.{bytes_eq-Decides}
use Rattle.std.specs.Str.{bytes_eq}
use Rattle.json.specs.Json as json
use Rattle.json.specs.Json.{items, parse_map, value}
use Rattle.json.specs.Token.{Token}
use Rattle.json.specs.Tree.{items_depth, items_tokens, json_tokens, members_tokens}
use Rattle.json.proofs.Found.{Some_inj}
use Rattle.json.proofs.Grammar.{value-begin_array}
use Rattle.json.proofs.Printed.Trees.{value-json_tokens}
use Rattle.serde_json.specs.Data.{Data, null, array, number, object, Items, no_items, item, Members, no_members, put}
use Rattle.serde_json.specs.Find.{get_member}
use Rattle.serde_json.specs.Read.{converted, max_depth, number_of, of_items, of_json, of_members}
use Rattle.serde_json.proofs.Views.{get_member-put, get_member-put_other}
use Rattle.json_tree.specs.Trees.{Begins, BeginsItems, BeginsMembers, HasData, HasItems, Tells, seen, view}

-- ---- the data

abbrev first_or : {A : Type 0} → Option (A × List Token) → A → A
first_or {A} o other = option_map_or (λ (p : A × List Token). p.0) o other

pub view_is : (ts : List Token) (d : Data) (rest : List Token) → Begins ts d rest → view ts ≡ d
unfolding view
view_is ts d rest (j, spelled, is, low) =
    ap (λ l. first_or (converted of_json (value max_depth l)) null) spelled
    ∙ ap (λ o. first_or (converted of_json o) null) (value-json_tokens j max_depth rest low)
    ∙ ap (λ o. first_or (option_map (λ b. (b, rest)) o) null) is

unmapped : (o : Option (json.Items × List Token)) (js : json.Items) (rest : List Token) → parse_map json.array o ≡ Some (json.array js, rest) → o ≡ Some (js, rest)
unmapped None js rest e = absurd (cc e)
unmapped (Some (ks, r)) js rest e =
    let same : (json.array ks, r) ≡ (json.array js, rest) = Some_inj (json.array ks, r) (json.array js, rest) e in
    let list : json.array ks ≡ json.array js = ap (λ p. p.0) same in
    let inside : ks ≡ js = cc list in
    ap₂ (λ k l. Some (k, l)) inside (ap (λ p. p.1) same)

-- items are read back, as those of a list
items_read : (js : json.Items) (rest : List Token) → items_depth js ≤ max_depth → items (value max_depth) (length (items_tokens js ++ rest)) (items_tokens js ++ rest) ≡ Some (js, rest)
items_read js rest low =
    let opens = value-begin_array 128 (items_tokens js ++ rest) (omega arith) in
    unmapped _ js rest (sym opens ∙ value-json_tokens (json.array js) 128 rest (omega arith))

pub seen_is : (ts : List Token) (ds : Items) (rest : List Token) → BeginsItems ts ds rest → seen ts ≡ ds
unfolding seen
seen_is ts ds rest (js, spelled, is, low) =
    ap (λ l. first_or (converted of_items (items (value max_depth) (length l) l)) no_items) spelled
    ∙ ap (λ o. first_or (converted of_items o) no_items) (items_read js rest low)
    ∙ ap (λ o. first_or (option_map (λ b. (b, rest)) o) no_items) is

-- ---- what was converted, taken apart

mapped : {A B : Type 0} (f : A → B) (o : Option A) (b : B) → option_map f o ≡ Some b → (a : A) × (o ≡ Some a) × (b ≡ f a)
mapped f None b e = absurd (cc e)
mapped f (Some a) b e = (a, refl, cc e)

chained : {A B : Type 0} (f : A → Option B) (o : Option A) (b : B) → option_and_then f o ≡ Some b → (a : A) × (o ≡ Some a) × (f a ≡ Some b)
chained f None b e = absurd (cc e)
chained f (Some a) b e = (a, refl, e)

-- ---- the first token of a value

abbrev FirstTells : List Token → Data → Type 0
FirstTells [] d = ⊥
FirstTells (t ∷ ts) d = Tells t d

told_by : (j : json.Json) (d : Data) (rest : List Token) → of_json j ≡ Some d → FirstTells (json_tokens j ++ rest) d
told_by json.null d rest e = cc e
told_by (json.boolean b) d rest e = cc e
told_by (json.number s) d rest e = mapped number (number_of s) d e
told_by (json.string s) d rest e = cc e
told_by (json.array js) d rest e = let (ds, from, is) = mapped array (of_items js) d e in (ds, is)
told_by (json.object js) d rest e = let (ms, from, is) = mapped object (of_members js no_members) d e in (ms, is)

first_tells : (ts : List Token) (d : Data) (rest : List Token) → Begins ts d rest → FirstTells ts d
first_tells ts d rest (j, spelled, is, low) = subst (λ l. FirstTells l d) (sym spelled) (told_by j d rest is)

pub some_data : HasData [] → ⊥
some_data (d, rest, begins) = first_tells [] d rest begins

pub first_tells_view : (t : Token) (ts : List Token) → HasData (t ∷ ts) → Tells t (view (t ∷ ts))
first_tells_view t ts (d, rest, begins) = subst (Tells t) (sym (view_is (t ∷ ts) d rest begins)) (first_tells (t ∷ ts) d rest begins)

-- a token that opens nothing is its value
pub alone : (t : Token) (ts : List Token) (j : json.Json) (rest : List Token) → t ≢ Token.begin_object → t ≢ Token.begin_array → t ∷ ts ≡ json_tokens j ++ rest → ts ≡ rest
alone t ts json.null rest p q e = cc e
alone t ts (json.boolean b) rest p q e = cc e
alone t ts (json.number s) rest p q e = cc e
alone t ts (json.string s) rest p q e = cc e
alone t ts (json.array js) rest p q e = absurd (q (cc e))
alone t ts (json.object ms) rest p q e = absurd (p (cc e))

-- ---- inside a list or an object

list_opened : (ts : List Token) (d : Data) (rest : List Token) → Begins (Token.begin_array ∷ ts) d rest → (ds : Items) × BeginsItems ts ds rest × (d ≡ array ds)
list_opened ts d rest (json.null, spelled, is, low) = absurd (cc spelled)
list_opened ts d rest (json.boolean b, spelled, is, low) = absurd (cc spelled)
list_opened ts d rest (json.number s, spelled, is, low) = absurd (cc spelled)
list_opened ts d rest (json.string s, spelled, is, low) = absurd (cc spelled)
list_opened ts d rest (json.array js, spelled, is, low) = let (ds, from, made) = mapped array (of_items js) d is in (ds, (js, cc spelled, from, omega arith), made)
list_opened ts d rest (json.object js, spelled, is, low) = absurd (cc spelled)

object_opened : (ts : List Token) (d : Data) (rest : List Token) → Begins (Token.begin_object ∷ ts) d rest → (ms : Members) × BeginsMembers ts no_members ms rest × (d ≡ object ms)
object_opened ts d rest (json.null, spelled, is, low) = absurd (cc spelled)
object_opened ts d rest (json.boolean b, spelled, is, low) = absurd (cc spelled)
object_opened ts d rest (json.number s, spelled, is, low) = absurd (cc spelled)
object_opened ts d rest (json.string s, spelled, is, low) = absurd (cc spelled)
object_opened ts d rest (json.array js, spelled, is, low) = absurd (cc spelled)
object_opened ts d rest (json.object js, spelled, is, low) = let (ms, from, made) = mapped object (of_members js no_members) d is in (ms, (js, cc spelled, from, omega arith), made)

pub list_inside : (ts : List Token) → HasData (Token.begin_array ∷ ts) → HasItems ts × (view (Token.begin_array ∷ ts) ≡ array (seen ts))
list_inside ts (d, rest, begins) =
    let (ds, items, is) = list_opened ts d rest begins in
    ((ds, rest, items), view_is _ d rest begins ∙ is ∙ ap array (sym (seen_is ts ds rest items)))

pub object_inside : (ts : List Token) → HasData (Token.begin_object ∷ ts) → (ms : Members) × (rest : List Token) × BeginsMembers ts no_members ms rest × (view (Token.begin_object ∷ ts) ≡ object ms)
object_inside ts (d, rest, begins) =
    let (ms, members, is) = object_opened ts d rest begins in
    (ms, rest, members, view_is _ d rest begins ∙ is)

-- ---- items

pub items_over : (ts : List Token) → HasItems (Token.end_array ∷ ts) → seen (Token.end_array ∷ ts) ≡ no_items
items_over ts (ds, rest, (json.no_items, spelled, is, low)) = seen_is (Token.end_array ∷ ts) ds rest (json.no_items, spelled, is, low) ∙ cc is
items_over ts (ds, rest, (json.item j js, spelled, is, low)) =
    let (d, from, more) = chained (λ d. option_map (item d) (of_items js)) (of_json j) ds is in
    let first = first_tells (Token.end_array ∷ ts) d (items_tokens js ++ rest) (j, spelled ∙ append_assoc (json_tokens j) (items_tokens js) rest, from, omega arith) in
    absurd first

-- the first of items, and those after it
pub items_split : (ts : List Token) → HasItems ts → ((r : List Token) → ts ≢ Token.end_array ∷ r)
    → (j : json.Json) × (rest : List Token) × (ts ≡ json_tokens j ++ rest) × HasData ts × HasItems rest × (seen ts ≡ item (view ts) (seen rest))
items_split ts (ds, end, (json.no_items, spelled, is, low)) going = absurd (going end spelled)
items_split ts (ds, end, (json.item j js, spelled, is, low)) going =
    let rest = items_tokens js ++ end in
    let whole : ts ≡ json_tokens j ++ rest = spelled ∙ append_assoc (json_tokens j) (items_tokens js) end in
    let (d, from, more) = chained (λ d. option_map (item d) (of_items js)) (of_json j) ds is in
    let (es, others, made) = mapped (item d) (of_items js) ds more in
    let first : Begins ts d rest = (j, whole, from, omega arith) in
    let left : BeginsItems rest es end = (js, refl, others, omega arith) in
    let shown : seen ts ≡ ds = seen_is ts ds end (json.item j js, spelled, is, low) in
    let parts : ds ≡ item (view ts) (seen rest) = made ∙ ap (λ x. item x es) (sym (view_is ts d rest first)) ∙ ap (item (view ts)) (sym (seen_is rest es end left)) in
    (j, rest, whole, (d, rest, first), (es, end, left), shown ∙ parts)

pub some_items : HasItems [] → ⊥
some_items h = let (j, rest, whole, begins, others, parts) = items_split [] h (λ r e. cc e) in some_data begins

-- ---- members

pub members_over : (t : Token) (ts : List Token) (found ms : Members) (rest : List Token) → ((k : List ℕ) → t ≢ Token.key k) → BeginsMembers (t ∷ ts) found ms rest → ms ≡ found
members_over t ts found ms rest other (json.no_members, spelled, is, low) = cc is
members_over t ts found ms rest other (json.member k j js, spelled, is, low) = absurd (other k (cc spelled))

-- the first of members, and those after it
pub members_split : (k : List ℕ) (ts : List Token) (found ms : Members) (rest : List Token) → BeginsMembers (Token.key k ∷ ts) found ms rest
    → (j : json.Json) × (more : List Token) × (ts ≡ json_tokens j ++ more) × HasData ts × BeginsMembers more (put k (view ts) found) ms rest
members_split k ts found ms rest (json.no_members, spelled, is, low) = absurd (cc spelled)
members_split k ts found ms rest (json.member l j js, spelled, is, low) =
    let more = members_tokens js ++ rest in
    let same : l ≡ k = cc spelled in
    let tail : ts ≡ (json_tokens j ++ members_tokens js) ++ rest = cc spelled in
    let whole : ts ≡ json_tokens j ++ more = tail ∙ append_assoc (json_tokens j) (members_tokens js) rest in
    let (d, from, others) = chained (λ d. of_members js (put l d found)) (of_json j) ms is in
    let first : Begins ts d more = (j, whole, from, omega arith) in
    let put_in : put l d found ≡ put k (view ts) found = ap (λ n. put n d found) same ∙ ap (λ x. put k x found) (sym (view_is ts d more first)) in
    (j, more, whole, (d, more, first), (js, refl, sym (ap (of_members js) put_in) ∙ others, omega arith))

pub some_members : (found ms : Members) (rest : List Token) → BeginsMembers [] found ms rest → ⊥
some_members found ms rest (json.no_members, spelled, is, low) = cc spelled
some_members found ms rest (json.member k j js, spelled, is, low) = cc spelled

-- ---- the last member of a name

pub put_found : (name k : List ℕ) (d : Data) (ms : Members) → bytes_eq k name ≡ true → get_member name (put k d ms) ≡ Some d
put_found name k d ms e = ap (λ q. get_member q (put k d ms)) (sym ((bytes_eq-Decides k name).0 e)) ∙ get_member-put k d ms

pub put_other : (name k : List ℕ) (d : Data) (ms : Members) → bytes_eq k name ≡ false → get_member name (put k d ms) ≡ get_member name ms
put_other name k d ms e =
    get_member-put_other name k d ms (λ same. let never : true ≡ false = sym ((bytes_eq-Decides k name).1 (sym same)) ∙ e in cc never)
