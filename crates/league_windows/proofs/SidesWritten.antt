-- What is written of a match, part by part.
use Rattle.std.proofs.Common.{◌≡◌, ◌∙◌, ℕ, ℤ, List, [], ◌∷◌, ◌++◌, Option, Some, None, refl, sym, ap, append_assoc}
use Rattle.json.specs.Token.{Token}
use Rattle.serde_json.specs.Data.{Members, no_members, object}
use Rattle.json_members.specs.Tokens.{all_member_tokens, tokens_of}
use Rattle.season_book.specs.HeadMatches.{first_members, second_members}
use Rattle.league_windows.proofs.RowsWritten.{members_closed}

first_more : (e : Option ℕ) (name : List ℕ) (played : Option (ℤ × ℤ)) (more : Members)
    → all_member_tokens (first_members e name played more) ≡ all_member_tokens (first_members e name played no_members) ++ all_member_tokens more
first_more None name played more = refl
first_more (Some e) name played more = refl

second_more : (e : Option ℕ) (name : List ℕ) (played : Option (ℤ × ℤ)) (more : Members)
    → all_member_tokens (second_members e name played more) ≡ all_member_tokens (second_members e name played no_members) ++ all_member_tokens more
second_more None name played more = refl
second_more (Some e) name played more = refl

-- the first of the two, the second, and what stands behind them, in brackets
pub match_written : (e : Option ℕ) (name : List ℕ) (played : Option (ℤ × ℤ)) (e2 : Option ℕ) (name2 : List ℕ) (played2 : Option (ℤ × ℤ)) (more : Members)
    → (Token.begin_object ∷ []) ++ (all_member_tokens (first_members e name played no_members) ++ (all_member_tokens (second_members e2 name2 played2 no_members) ++ (all_member_tokens more ++ Token.end_object ∷ [])))
    ≡ tokens_of (object (first_members e name played (second_members e2 name2 played2 more)))
match_written e name played e2 name2 played2 more =
    let first : List Token = all_member_tokens (first_members e name played no_members) in
    let second : List Token = all_member_tokens (second_members e2 name2 played2 no_members) in
    let rest : List Token = all_member_tokens more in
    let last : List Token = Token.end_object ∷ [] in
    sym (
    ap (λ ts. Token.begin_object ∷ ts)
    (members_closed (first_members e name played (second_members e2 name2 played2 more))
    ∙ ap (λ ts. ts ++ last) (first_more e name played (second_members e2 name2 played2 more) ∙ ap (λ ts. first ++ ts) (second_more e2 name2 played2 more))
    ∙ append_assoc first (second ++ rest) last
    ∙ ap (λ ts. first ++ ts) (append_assoc second rest last)))
