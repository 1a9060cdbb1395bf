-- Tokens that are written where memory may be wanting, as what they append, and those of an entry put together.
use Rattle.std.proofs.Common.{◌≡◌, ◌∙◌, ◌++◌, ◌∷◌, [], ℕ, ℤ, List, Option, Ok, append_assoc, ap, codes}
use Rattle.json.specs.Token.{Token}
use Rattle.json.specs.Written.{Written}
use Rattle.serde_json.specs.Data.{Data, member, no_members, object, string}
use Rattle.json_members.specs.Members.{count, count_or_null, integer_or_null}
use Rattle.json_members.specs.Tokens.{Appends, member_tokens, tokens_of}
use Rattle.entry_windows.specs.EntryTokens.{opening_of}

pub appended : {a b : Written} {ts : List Token} → (b.tokens ≡ a.tokens ++ ts) × (b.before ≡ a.before) → Appends (Ok tt) a b ts
appended wrote = record { tokens = wrote.0; before = wrote.1 }

-- what stands before the leagues, and then the rest, one behind another
pub opened : (e : ℕ) (last bank : Option ℕ) (transfers : ℕ) (rest : List Token)
    → opening_of e last bank transfers ++ rest
    ≡ Token.begin_object
    ∷ (member_tokens (codes "current_event") (count_or_null last)
    ++ (member_tokens (codes "id") (count e)
    ++ (member_tokens (codes "last_deadline_bank") (count_or_null bank)
    ++ (member_tokens (codes "last_deadline_total_transfers") (count transfers) ++ Token.key (codes "leagues") ∷ rest))))
opened e last bank transfers rest =
    let a = member_tokens (codes "current_event") (count_or_null last) in
    let b = member_tokens (codes "id") (count e) in
    let c = member_tokens (codes "last_deadline_bank") (count_or_null bank) in
    let d = member_tokens (codes "last_deadline_total_transfers") (count transfers) in
    let key = Token.key (codes "leagues") ∷ [] in
    ap (λ ts. Token.begin_object ∷ ts)
    (append_assoc a (b ++ (c ++ (d ++ key))) rest
    ∙ ap (λ ts. a ++ ts) (append_assoc b (c ++ (d ++ key)) rest)
    ∙ ap (λ ts. a ++ (b ++ ts)) (append_assoc c (d ++ key) rest)
    ∙ ap (λ ts. a ++ (b ++ (c ++ ts))) (append_assoc d key rest))

-- the tokens of an entry by what is told of it
abbrev pub entry_tokens : ℕ → Option ℕ → ℕ → Data → List ℕ → ℕ → Option ℕ → Option ℤ → Option ℕ → Option ℤ → Option ℕ → List Token
entry_tokens e last transfers leagues name first bank points rank total overall = tokens_of (object
    (member (codes "current_event") (count_or_null last)
    (member (codes "id") (count e)
    (member (codes "last_deadline_bank") (count_or_null bank)
    (member (codes "last_deadline_total_transfers") (count transfers)
    (member (codes "leagues") leagues
    (member (codes "name") (string name)
    (member (codes "player_first_name") (string [])
    (member (codes "player_last_name") (string [])
    (member (codes "started_event") (count first)
    (member (codes "summary_event_points") (integer_or_null points)
    (member (codes "summary_event_rank") (count_or_null rank)
    (member (codes "summary_overall_points") (integer_or_null total)
    (member (codes "summary_overall_rank") (count_or_null overall)
    no_members))))))))))))))
