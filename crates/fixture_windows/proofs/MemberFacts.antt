-- An object whose members are written in parts.
use Rattle.std.proofs.Common.{◌≡◌, ◌∙◌, sym, ap, refl, ℕ, List, [], ◌∷◌, ◌++◌, append_assoc}
use Rattle.json.specs.Token.{Token}
use Rattle.json.specs.Tree.{members_tokens}
use Rattle.serde_json.specs.Data.{Data, Members, member, no_members, object}
use Rattle.serde_json.specs.Written.{members_outline}
use Rattle.json_members.specs.Tokens.{all_member_tokens, member_tokens, tokens_of}

-- members, and behind them others
abbrev pub with_members : Members → Members → Members
with_members no_members others = others
with_members (member name d ms) others = member name d (with_members ms others)

-- the tokens of members with what closes their object
abbrev closed : Members → List Token
closed ms = members_tokens (members_outline ms)

closed_with : (a ms : Members) → closed (with_members a ms) ≡ all_member_tokens a ++ closed ms
closed_with no_members ms = refl
closed_with (member name d a) ms =
    ap (λ t. Token.key name ∷ (tokens_of d ++ t)) (closed_with a ms)
    ∙ ap (λ t. Token.key name ∷ t) (sym (append_assoc (tokens_of d) (all_member_tokens a) (closed ms)))

-- members, one more, and members
pub around_one : (a : Members) (name : List ℕ) (d : Data) (b : Members)
    → Token.begin_object ∷ (all_member_tokens a ++ (member_tokens name d ++ (all_member_tokens b ++ Token.end_object ∷ []))) ≡ tokens_of (object (with_members a (member name d (with_members b no_members))))
around_one a name d b =
    ap (λ t. Token.begin_object ∷ (all_member_tokens a ++ (Token.key name ∷ (tokens_of d ++ t)))) (sym (closed_with b no_members))
    ∙ ap (λ t. Token.begin_object ∷ t) (sym (closed_with a (member name d (with_members b no_members))))

-- members in three parts
pub three_parts : (a b c : Members) → Token.begin_object ∷ (all_member_tokens a ++ (all_member_tokens b ++ (all_member_tokens c ++ Token.end_object ∷ []))) ≡ tokens_of (object (with_members a (with_members b (with_members c no_members))))
three_parts a b c =
    ap (λ t. Token.begin_object ∷ (all_member_tokens a ++ (all_member_tokens b ++ t))) (sym (closed_with c no_members))
    ∙ ap (λ t. Token.begin_object ∷ (all_member_tokens a ++ t)) (sym (closed_with b (with_members c no_members)))
    ∙ ap (λ t. Token.begin_object ∷ t) (sym (closed_with a (with_members b (with_members c no_members))))
