-- What is written of items one after another.
use Rattle.std.proofs.Common.{◌≡◌, ◌≤◌, ◌∙◌, drop, length, sym, refl, ap, subst, ℕ, pos, Bool, true, false, cond, not, List, [], ◌∷◌, ◌++◌, append-nil, append_assoc, filter, Result, if◌then◌else◌}
use Rattle.std.specs.Ordering.{int_eq}
use Rattle.std.specs.declared.alloc.AllocError.{AllocError}
use Rattle.json.specs.Token.{Token}
use Rattle.std.proofs.lemmas.List.{at_drop_all}
use Rattle.std.proofs.lemmas.Result.{on_ok_weaker}
use Rattle.json.specs.Written.{Writes, Written}
use Rattle.json_members.specs.Tokens.{Appends, tokens_of}
use Rattle.json_members.proofs.ListLemmas.{rest_of}
use Rattle.season_book.specs.Windows.{listed}
use Rattle.fpl_base.specs.declared.kinds.Position.{Position}
use Rattle.fpl_base.specs.declared.kinds.Profile.{Profile}
use Rattle.rule_book.specs.declared.line.Line.{Line}
use Rattle.season_book.specs.Explained.{Item, item_data, minutes_item, other_items, told_items}
use Rattle.live_windows.specs.ItemTokens.{first_items, item_tokens, kept_tokens, last_items, middle_items}

-- those of a list that give points, one after another
pub rest_kept : (items : List Item) → kept_tokens items ++ rest_of item_data [] ≡ rest_of item_data (filter (λ it. not (int_eq it.points (pos 0))) items)
rest_kept [] = refl
rest_kept (it ∷ items) = go (not (int_eq it.points (pos 0))) refl (rest_kept items)
  where
    go : (b : Bool) → not (int_eq it.points (pos 0)) ≡ b → kept_tokens items ++ rest_of item_data [] ≡ rest_of item_data (filter (λ (i : Item). not (int_eq i.points (pos 0))) items)
        → kept_tokens (it ∷ items) ++ rest_of item_data [] ≡ rest_of item_data (filter (λ (i : Item). not (int_eq i.points (pos 0))) (it ∷ items))
    go true e rest =
        ap (λ (t : Bool). ((if t then tokens_of (item_data it) else []) ++ kept_tokens items) ++ rest_of item_data []) e
        ∙ append_assoc (tokens_of (item_data it)) (kept_tokens items) (rest_of item_data [])
        ∙ ap (λ ts. tokens_of (item_data it) ++ ts) rest
        ∙ sym (ap (λ t. rest_of item_data (cond t (it ∷ filter (λ (i : Item). not (int_eq i.points (pos 0))) items) (filter (λ (i : Item). not (int_eq i.points (pos 0))) items))) e)
    go false e rest =
        ap (λ (t : Bool). ((if t then tokens_of (item_data it) else []) ++ kept_tokens items) ++ rest_of item_data []) e
        ∙ rest
        ∙ sym (ap (λ t. rest_of item_data (cond t (it ∷ filter (λ (i : Item). not (int_eq i.points (pos 0))) items) (filter (λ (i : Item). not (int_eq i.points (pos 0))) items))) e)

pub kept_append : (xs ys : List Item) → kept_tokens (xs ++ ys) ≡ kept_tokens xs ++ kept_tokens ys
kept_append [] ys = refl
kept_append (x ∷ xs) ys = ap (λ ts. item_tokens x ++ ts) (kept_append xs ys) ∙ sym (append_assoc (item_tokens x) (kept_tokens xs) (kept_tokens ys))

module _ (profile : Profile) (position : Position) (line : Line) (bonus : ℕ) where
  -- the three parts, and the closing bracket, are the rest of the items
  three_parts : kept_tokens (first_items profile position line) ++ (kept_tokens (middle_items position line) ++ (kept_tokens (last_items position line bonus) ++ Token.end_array ∷ []))
      ≡ rest_of item_data (filter (λ it. not (int_eq it.points (pos 0))) (other_items profile position line bonus))
  three_parts =
      let a = first_items profile position line in
      let b = middle_items position line in
      let c = last_items position line bonus in
      ap (λ ts. kept_tokens a ++ ts) (sym (append_assoc (kept_tokens b) (kept_tokens c) (Token.end_array ∷ [])))
      ∙ sym (append_assoc (kept_tokens a) (kept_tokens b ++ kept_tokens c) (Token.end_array ∷ []))
      ∙ ap (λ ts. (kept_tokens a ++ ts) ++ Token.end_array ∷ []) (sym (kept_append b c))
      ∙ ap (λ ts. ts ++ Token.end_array ∷ []) (sym (kept_append a (b ++ c)))
      ∙ rest_kept (other_items profile position line bonus)

  pub items_written : (Token.begin_array ∷ []) ++ (tokens_of (item_data (minutes_item line)) ++ (kept_tokens (first_items profile position line) ++ (kept_tokens (middle_items position line) ++ (kept_tokens (last_items position line bonus) ++ Token.end_array ∷ []))))
      ≡ tokens_of (listed item_data (told_items profile position line bonus))
  items_written = ap (λ ts. Token.begin_array ∷ (tokens_of (item_data (minutes_item line)) ++ ts)) three_parts

-- with nothing behind it
pub alone : {r : Result (Unit {0}) AllocError} {a b : Written} (ts : List Token) → Appends r a b ts → Appends r a b (ts ++ [])
alone {r = r} {a = a} {b = b} ts wrote = subst (Appends r a b) (sym (append-nil ts)) wrote

-- the same tokens, told otherwise
pub told_as : {r : Result (Unit {0}) AllocError} {a b : Written} {ts us : List Token} → ts ≡ us → Appends r a b ts → Appends r a b us
told_as {r = r} {a = a} {b = b} same wrote = subst (Appends r a b) same wrote

-- where all of a list is written, the closing bracket ends it
pub ended : {r : Result (Unit {0}) AllocError} {a b c : Written} {whole : List Token} {X : Type 0} (rest : List X → List Token) (xs : List X) (i : ℕ) → rest [] ≡ Token.end_array ∷ [] → length xs ≤ i
    → Writes r b c Token.end_array → b.tokens ++ rest (drop i xs) ≡ a.tokens ++ whole → b.before ≡ a.before → Appends r a c whole
ended {r = r} {b = b} rest xs i none past wrote so before = record {
  tokens = on_ok_weaker r (λ e. e ∙ ap (λ ts. b.tokens ++ ts) (sym (at_drop_all rest xs i past ∙ none)) ∙ so) wrote.ok;
  before = wrote.room.0 ∙ before;
}
