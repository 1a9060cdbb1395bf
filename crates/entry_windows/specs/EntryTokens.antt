-- The tokens of an entry before its leagues, and those behind its first gameweek.
use Rattle.std.specs.Prelude.{◌≡◌, ℕ, List, [], ◌∷◌, ◌++◌, Option, codes, Result, IfOk}
use Rattle.std.specs.Option.{option_map}
use Rattle.json.specs.Token.{Token}
use Rattle.json.specs.Written.{Written}
use Rattle.json_members.specs.Members.{count, count_or_null, integer_or_null}
use Rattle.json_members.specs.Tokens.{member_tokens}
use Rattle.fpl_base.specs.declared.memory.Memory.{Memory}
use Rattle.entry_windows.specs.declared.summary.Summary.{Summary}

-- up to where its leagues begin: the last locked gameweek, its number, its bank and its transfers
abbrev pub opening_of : ℕ → Option ℕ → Option ℕ → ℕ → List Token
opening_of e last bank transfers =
    Token.begin_object
    ∷ (member_tokens (codes "current_event") (count_or_null last)
    ++ (member_tokens (codes "id") (count e)
    ++ (member_tokens (codes "last_deadline_bank") (count_or_null bank)
    ++ (member_tokens (codes "last_deadline_total_transfers") (count transfers)
    ++ Token.key (codes "leagues")
    ∷ []))))

-- its points and ranks, and then the end
abbrev pub summary_tokens : Option Summary → List Token
summary_tokens summary =
    member_tokens (codes "summary_event_points") (integer_or_null (option_map (λ s. s.points) summary))
    ++ (member_tokens (codes "summary_event_rank") (count_or_null (option_map (λ s. s.rank) summary))
    ++ (member_tokens (codes "summary_overall_points") (integer_or_null (option_map (λ s. s.total) summary))
    ++ (member_tokens (codes "summary_overall_rank") (count_or_null (option_map (λ s. s.overall) summary))
    ++ Token.end_object
    ∷ [])))

-- these tokens are written, unless memory runs out
abbrev pub WritesTokens : List Token → Result (Unit {0}) Memory → Written → Written → Type 0
WritesTokens ts result old new = IfOk result (λ _. (new.tokens ≡ old.tokens ++ ts) × (new.before ≡ old.before))
