-- What is written of windows, and the text that it makes.
use Rattle.std.proofs.Common.{◌≡◌, ◌≤◌, ◌∙◌, ◌++◌, List, [], ◌∷◌, drop, length, ◌==◌, if◌then◌else◌, ℕ, Bool, true, false, Option, Some, None, Ok, Result, ap, refl, subst, sym}
use Rattle.std.specs.Prelude.{is_some}
use Rattle.std.specs.Option.{option_and_then, option_map}
use Rattle.std.specs.declared.alloc.AllocError.{AllocError}
use Rattle.std.proofs.lemmas.List.{at_drop_all}
use Rattle.std.proofs.lemmas.Option.{same_Some}
use Rattle.std.proofs.lemmas.Result.{on_ok_weaker}
use Rattle.json.specs.Print.{print}
use Rattle.json.specs.Token.{Token}
use Rattle.json.specs.Written.{Writes, Written}
use Rattle.serde_json.specs.Data.{Data}
use Rattle.serde_json.specs.Written.{compact_text}
use Rattle.json_members.specs.Tokens.{Appends, tokens_of}
use Rattle.json_members.proofs.AppendLemmas.{text_of}
use Rattle.fpl_base.specs.declared.kinds.Caller.{Caller}
use Rattle.rule_book.specs.Entries.{entry_in}
use Rattle.rule_book.specs.UpTo.{start_of}
use Rattle.season_book.specs.Book.{EntryFacts, caller_number}
use Rattle.season_book.specs.Windows.{me_data, me_window, own_number}

module _ {r : Result (Unit {0}) AllocError} {a b : Written} where
  -- the same tokens, told otherwise
  pub retold : {ts us : List Token} → ts ≡ us → Appends r a b ts → Appends r a b us
  retold same wrote = subst (Appends r a b) same wrote

  -- a value that is due is the one that is written
  pub written : (due d : Data) → Some due ≡ Some d → Appends r a b (tokens_of due) → Appends r a b (tokens_of d)
  written due d is wrote = retold (ap tokens_of (same_Some due d is)) wrote

-- the text of what a new writer wrote, where something is due
pub text_is : (o : Option Data) (a b : Written) (page : List ℕ) → true ≡ is_some o → a.tokens ≡ [] → a.before ≡ [] → page ≡ b.before ++ print b.tokens
    → ((d : Data) → o ≡ Some d → Appends (Ok tt) a b (tokens_of d)) → Some page ≡ option_map compact_text o
text_is None a b page some none before is writes = absurd (cc some)
text_is (Some d) a b page some none before is writes =
    ap Some (is ∙ text_of d none (writes d refl) ∙ ap (λ t. t ++ compact_text d) before)

-- where all of a list is written, the closing bracket ends it
pub ended : {r : Result (Unit {0}) AllocError} {a b c : Written} {whole : List Token} {X : Type 0} (rest : List X → List Token) (xs : List X) (i : ℕ) → rest [] ≡ Token.end_array ∷ [] → length xs ≤ i
    → Writes r b c Token.end_array → b.tokens ++ rest (drop i xs) ≡ a.tokens ++ whole → b.before ≡ a.before → Appends r a c whole
ended {r = r} {b = b} rest xs i none past wrote so before = record {
  tokens = on_ok_weaker r (λ e. e ∙ ap (λ ts. b.tokens ++ ts) (sym (at_drop_all rest xs i past ∙ none)) ∙ so) wrote.ok;
  before = wrote.room.0 ∙ before;
}

-- Who a caller is.

either_way : {X : Type 0} (b : Bool) (x : X) → (if b then x else x) ≡ x
either_way true x = refl
either_way false x = refl

-- where no entry was made there is none
pub nobody_at : (e : ℕ) → entry_in {X = EntryFacts} [] e ≡ None
nobody_at e = either_way (e == 0) None

module _ (entries : List EntryFacts) (caller : Caller) (last : ℕ) where
  pub me_nobody : entry_in entries (caller_number caller) ≡ None → me_data (own_number caller) last None None ≡ me_window entries caller last
  me_nobody none =
      ap (λ own. me_data (own_number caller) last (option_map (λ (entry : EntryFacts). entry.name) own) (option_and_then (λ (entry : EntryFacts). start_of entry.history) own)) (sym none)

  pub me_somebody : (entry : EntryFacts) (name : List ℕ) (first : Option ℕ) → entry_in entries (caller_number caller) ≡ Some entry → name ≡ entry.name → first ≡ start_of entry.history
      → me_data (own_number caller) last (Some name) first ≡ me_window entries caller last
  me_somebody entry name first there named started =
      (λ i. me_data (own_number caller) last (Some (named i)) (started i))
      ∙ ap (λ own. me_data (own_number caller) last (option_map (λ (entry : EntryFacts). entry.name) own) (option_and_then (λ (entry : EntryFacts). start_of entry.history) own)) (sym there)
