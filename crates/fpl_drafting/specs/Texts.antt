-- What is written of a draft league but for its table.
use Rattle.std.specs.Prelude.{ℕ, List, [], ◌∷◌, ◌++◌, codes}
use Rattle.std.specs.List.{flat_map}
use Rattle.std.specs.Fmt.{decimal}
use Rattle.draft_league.specs.declared.kinds.End.{End}
use Rattle.draft_league.specs.declared.kinds.End.TheVariants as ended
use Rattle.draft_league.specs.declared.kinds.Outcome.{Outcome}

-- what became of a bid, in a word
abbrev pub end_word : End → List ℕ
end_word ended.Granted = codes "granted"
end_word ended.Owned = codes "owned"
end_word ended.Gone = codes "gone"

-- the line of an outcome: gameweek, member, who was to come, who was to go, and what became of the bid
abbrev pub settled_text : ℕ → ℕ → ℕ → ℕ → List ℕ → List ℕ
settled_text gw member into out end =
    decimal gw ++ (codes "," ++ (decimal member ++ (codes "," ++ (decimal into ++ (codes "," ++ (decimal out ++ (codes "," ++ (end ++ 10 ∷ []))))))))

abbrev pub outcome_text : Outcome → List ℕ
outcome_text one = settled_text one.gw one.member one.into one.out (end_word one.end)

-- the lines of outcomes, one after another
abbrev pub outcomes_text : List Outcome → List ℕ
outcomes_text outcomes = flat_map outcome_text outcomes

-- the line that says how many picks were made where the draft is open
abbrev pub picks_text : ℕ → List ℕ
picks_text picks = codes "open " ++ (decimal picks ++ 10 ∷ [])
