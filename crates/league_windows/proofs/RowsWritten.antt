-- Rows that are written one behind another, and the list that they make.
use Rattle.std.proofs.Common.{◌≡◌, ◌∙◌, ◌+◌, ℕ, zero, suc, List, [], ◌∷◌, ◌++◌, map, Ok, Result, arith, refl, sym, ap, append_assoc, append-nil}
use Rattle.std.specs.List.{range_with_len}
use Rattle.std.specs.declared.alloc.AllocError.{AllocError}
use Rattle.std.proofs.lemmas.Result.{on_ok_weaker}
use Rattle.json.specs.Token.{Token}
use Rattle.json.specs.Tree.{items_tokens, members_tokens}
use Rattle.json.specs.Written.{Writes, Written}
use Rattle.serde_json.specs.Data.{Data, Members, member, no_members}
use Rattle.serde_json.specs.View.{items_of}
use Rattle.serde_json.specs.Written.{items_outline, members_outline}
use Rattle.json_members.specs.Tokens.{Appends, all_member_tokens, tokens_of}
use Rattle.season_book.specs.Windows.{listed}
use Rattle.league_windows.specs.RowTokens.{row_tokens}

module _ {X : Type 0} (row : X → Data) where
  -- rows behind rows
  pub rows_append : (xs ys : List X) → row_tokens row (xs ++ ys) ≡ row_tokens row xs ++ row_tokens row ys
  rows_append [] ys = refl
  rows_append (x ∷ xs) ys =
      ap (λ ts. tokens_of (row x) ++ ts) (rows_append xs ys) ∙ sym (append_assoc (tokens_of (row x)) (row_tokens row xs) (row_tokens row ys))

  rows_closed : (xs : List X) → items_tokens (items_outline (items_of (map row xs))) ≡ row_tokens row xs ++ Token.end_array ∷ []
  rows_closed [] = refl
  rows_closed (x ∷ xs) =
      ap (λ ts. tokens_of (row x) ++ ts) (rows_closed xs) ∙ sym (append_assoc (tokens_of (row x)) (row_tokens row xs) (Token.end_array ∷ []))

  -- some rows more
  pub rows_more : {u : Unit {0}} {a b : Written} (base : List Token) (xs ys : List X) → Appends (Ok u) a b (row_tokens row ys)
      → a.tokens ≡ base ++ row_tokens row xs → b.tokens ≡ base ++ row_tokens row (xs ++ ys)
  rows_more base xs ys wrote so =
      wrote.tokens
      ∙ ap (λ ts. ts ++ row_tokens row ys) so
      ∙ append_assoc base (row_tokens row xs) (row_tokens row ys)
      ∙ ap (λ ts. base ++ ts) (sym (rows_append xs ys))

  -- a row by itself
  pub one_row : {r : Result (Unit {0}) AllocError} {a b : Written} (x : X) → Appends r a b (tokens_of (row x)) → Appends r a b (row_tokens row (x ∷ []))
  one_row {r = r} {a = a} x wrote = record {
    tokens = on_ok_weaker r (λ e. e ∙ ap (λ ts. a.tokens ++ ts) (sym (append-nil (tokens_of (row x))))) wrote.tokens;
    before = wrote.before;
  }

  -- the closing bracket ends the list
  pub rows_ended : {r : Result (Unit {0}) AllocError} {a b c : Written} (xs : List X) → Writes r b c Token.end_array
      → b.tokens ≡ (a.tokens ++ Token.begin_array ∷ []) ++ row_tokens row xs → b.before ≡ a.before → Appends r a c (tokens_of (listed row xs))
  rows_ended {r = r} {a = a} {b = b} xs wrote so before = record {
    tokens = on_ok_weaker r
        (λ e.
        e
        ∙ ap (λ ts. ts ++ Token.end_array ∷ []) so
        ∙ append_assoc (a.tokens ++ Token.begin_array ∷ []) (row_tokens row xs) (Token.end_array ∷ [])
        ∙ ap (λ ts. (a.tokens ++ Token.begin_array ∷ []) ++ ts) (sym (rows_closed xs))
        ∙ append_assoc a.tokens (Token.begin_array ∷ []) (items_tokens (items_outline (items_of (map row xs)))))
        wrote.ok;
    before = wrote.room.0 ∙ before;
  }

-- nothing is written
pub nothing_more : (a : Written) → Appends (Ok tt) a a []
nothing_more a = record { tokens = sym (append-nil a.tokens); before = refl }

-- one number more
pub range_one_more : (a n j : ℕ) → a + n ≡ j → range_with_len a (n + 1) ≡ range_with_len a n ++ j ∷ []
range_one_more a zero j at = let only : a ≡ j = omega (arith, at) in ap (λ k. k ∷ []) only
range_one_more a (suc n) j at =
    let long : suc n + 1 ≡ suc (n + 1) = omega arith in
    ap (range_with_len a) long ∙ ap (λ ks. a ∷ ks) (range_one_more (a + 1) n j (omega (arith, at)))

-- the tokens of an object are those of its members in brackets
pub members_closed : (ms : Members) → members_tokens (members_outline ms) ≡ all_member_tokens ms ++ Token.end_object ∷ []
members_closed no_members = refl
members_closed (member name d ms) =
    ap (λ ts. Token.key name ∷ (tokens_of d ++ ts)) (members_closed ms)
    ∙ ap (λ ts. Token.key name ∷ ts) (sym (append_assoc (tokens_of d) (all_member_tokens ms) (Token.end_object ∷ [])))
