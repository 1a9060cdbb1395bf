-- What `serde_json` reads of a text, by what the tape has read.
use Rattle.std.proofs.Common.{◌≡◌, ◌∙◌, ap, refl, sym, arith, append-nil, ℕ, ◌≤◌, ◌&&◌, List, [], ◌∷◌, ◌++◌, nat_le, Bool, true, false, Option, Some, None, is_some, option_and_then}
use Rattle.std.proofs.lemmas.Bool.Decides.{nat_tests}
use Rattle.json.specs.Json.{Json, document, if_last, value}
use Rattle.json.specs.Lex.{tokens}
use Rattle.json.specs.Token.{Token}
use Rattle.json.specs.Tree.{depth, json_tokens}
use Rattle.json.proofs.Found.{one_reading}
use Rattle.json.proofs.Nesting.{value-depth}
use Rattle.json.proofs.Printed.Trees.{value-json_tokens}
use Rattle.json.proofs.Unique.Spelling.{value-json_tokens_back}
use Rattle.serde_json.specs.Data.{Data}
use Rattle.serde_json.specs.Read.{of_json, read}
use Rattle.json_tree.specs.Trees.{Begins, is_readable}

last : (o : Option (Json × List Token)) (j : Json) → option_and_then (λ p. if_last p.0 p.1) o ≡ Some j → o ≡ Some (j, [])
last None j e = absurd (cc e)
last (Some (i, [])) j e = cc e
last (Some (i, t ∷ ts)) j e = absurd (cc e)

pub some_of : {A : Type 0} (o : Option A) → is_some o ≡ true → (a : A) × (o ≡ Some a)
some_of None e = absurd (cc e)
some_of (Some a) e = (a, refl)

none_of : {A : Type 0} (o : Option A) → is_some o ≡ false → o ≡ None
none_of None e = refl
none_of (Some a) e = absurd (cc e)

both : (a b : Bool) → (a && b) ≡ true → (a ≡ true) × (b ≡ true)
both true b e = (refl, e)
both false b e = absurd (cc e)

first_false : (a b : Bool) → (a && b) ≡ false → b ≡ true → a ≡ false
first_false true b e f = sym f ∙ e
first_false false b e f = refl

is_low : (n : ℕ) → n ≤ 127 → nat_le n 127 ≡ true
is_low n h = grind (arith, nat_tests)

pub spelled : (text : List ℕ) (j : Json) → document text ≡ Some j → tokens text ≡ json_tokens j
spelled text j e = value-json_tokens_back 128 (tokens text) [] j (last _ j e) ∙ append-nil (json_tokens j)

-- a value that can be read is
pub text_read : (text : List ℕ) (j : Json) → document text ≡ Some j → is_readable j ≡ true → (d : Data) × Begins (tokens text) d [] × (read text ≡ Some d)
text_read text j e readable =
    let parts = both (is_some (of_json j)) (nat_le (depth j) 127) readable in
    let (d, is) = some_of (of_json j) parts.0 in
    let low : depth j ≤ 127 = grind (arith, nat_tests, parts.1) in
    let whole : tokens text ≡ json_tokens j ++ [] = spelled text j e ∙ sym (append-nil (json_tokens j)) in
    let again : value 127 (tokens text) ≡ Some (j, []) = ap (value 127) whole ∙ value-json_tokens j 127 [] low in
    (d, (j, whole, is, low), ap (λ o. option_and_then of_json (option_and_then (λ p. if_last p.0 p.1) o)) again ∙ is)

-- no other value can
pub text_refused : (text : List ℕ) (j : Json) → document text ≡ Some j → is_readable j ≡ false → read text ≡ None
text_refused text j e other = go (value 127 (tokens text)) refl
  where
    go : (o : Option (Json × List Token)) → value 127 (tokens text) ≡ o → option_and_then of_json (option_and_then (λ p. if_last p.0 p.1) o) ≡ None
    go None is = refl
    go (Some (k, r)) is =
        let same : Some (k, r) ≡ Some (j, []) = one_reading 127 128 (tokens text) (k, r) (j, []) is (last _ j e) in
        let low : depth j ≤ 127 = value-depth 127 (tokens text) [] j (is ∙ same) in
        ap (λ o. option_and_then of_json (option_and_then (λ p. if_last p.0 p.1) o)) same ∙ none_of (of_json j) (first_false (is_some (of_json j)) _ other (is_low (depth j) low))

-- where there is no value at the greater depth of the tape there is none
pub text_invalid : (text : List ℕ) → document text ≡ None → read text ≡ None
text_invalid text e = go (value 127 (tokens text)) refl
  where
    go : (o : Option (Json × List Token)) → value 127 (tokens text) ≡ o → option_and_then of_json (option_and_then (λ p. if_last p.0 p.1) o) ≡ None
    go None is = refl
    go (Some (k, r)) is =
        let low = value-depth 127 (tokens text) r k is in
        let deeper : value 128 (tokens text) ≡ Some (k, r) = ap (value 128) (value-json_tokens_back 127 (tokens text) r k is) ∙ value-json_tokens k 128 r (omega arith) in
        ap (option_and_then of_json) (sym (ap (option_and_then (λ p. if_last p.0 p.1)) deeper) ∙ e)
