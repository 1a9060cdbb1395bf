-- Tokens appended one after another, and the text that they print.
use Rattle.std.proofs.Common.{ℕ, ◌≡◌, ◌+◌, ◌<◌, [], ◌∷◌, ◌++◌, List, length, get_or, drop, map, ap, ◌∙◌, sym, append_assoc, Ok}
use Rattle.std.proofs.lemmas.List.{at_drop_more}
use Rattle.std.proofs.lemmas.Result.{on_ok_weaker}
use Rattle.std.specs.Prelude.{Result}
use Rattle.std.specs.declared.alloc.AllocError.{AllocError}
use Rattle.json.specs.Token.{Token}
use Rattle.json.specs.Print.{print}
use Rattle.json.specs.Tree.{items_tokens}
use Rattle.json.specs.Written.{Written, Writes}
use Rattle.serde_json.specs.Data.{Data}
use Rattle.serde_json.specs.View.{items_of}
use Rattle.serde_json.specs.Written.{compact_text, items_outline}
use Rattle.serde_json.proofs.Texts.{print-outline}
use Rattle.json_members.specs.Tokens.{Appends, tokens_of}

module _ {r : Result (Unit {0}) AllocError} {a b : Written} where
  -- one token
  pub one : {t : Token} → Writes r a b t → Appends r a b (t ∷ [])
  one w = record { tokens = w.ok; before = w.room.0 }

  -- these tokens, and then those
  pub then : {x : Unit {0}} {c : Written} {ts us : List Token} → Appends (Ok x) c a ts → Appends r a b us → Appends r c b (ts ++ us)
  then {c = c} {ts = ts} {us = us} p q = record {
    tokens = on_ok_weaker r (λ e. e ∙ ap (λ l. l ++ us) p.tokens ∙ append_assoc c.tokens ts us) q.tokens;
    before = q.before ∙ p.before;
  }

-- what a new writer's buffer has after the tokens of a value: what it had before, and the value's text
pub text_of : {x : Unit {0}} {a b : Written} (d : Data) → a.tokens ≡ [] → Appends (Ok x) a b (tokens_of d) → b.before ++ print b.tokens ≡ a.before ++ compact_text d
text_of {a = a} d none w = (λ i. w.before i ++ print ((w.tokens ∙ ap (λ l. l ++ tokens_of d) none) i)) ∙ ap (λ t. a.before ++ t) (print-outline d)

module _ {X : Type 0} (f : X → Data) where
  -- the tokens of the values of these, with the closing bracket
  abbrev rest_of : List X → List Token
  rest_of xs = items_tokens (items_outline (items_of (map f xs)))

  -- one more of a list is written, and what is left is shorter by it
  pub one_more : {u : Unit {0}} {a b : Written} {whole : List Token} (xs : List X) (i : ℕ) (x : X) → i < length xs → x ≡ get_or xs i x → Appends (Ok u) a b (tokens_of (f x)) → a.tokens ++ rest_of (drop i xs) ≡ whole → b.tokens ++ rest_of (drop (i + 1) xs) ≡ whole
  one_more {a = a} xs i x below is wrote so =
      ap (λ l. l ++ rest_of (drop (i + 1) xs)) wrote.tokens
      ∙ append_assoc a.tokens (tokens_of (f x)) (rest_of (drop (i + 1) xs))
      ∙ ap (λ y. a.tokens ++ rest_of (y ∷ drop (i + 1) xs)) is
      ∙ ap (λ l. a.tokens ++ l) (sym (at_drop_more rest_of xs i x below))
      ∙ so
