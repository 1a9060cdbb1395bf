-- What a command writes, and the exit status.
use Rattle.std.specs.Prelude.{◌≡◌, ◌⊎◌, ◌++◌, ℕ, List, [], ◌∷◌, Option, codes}
use Rattle.std.specs.Fmt.{decimal}
use Rattle.std.specs.Io.KnownBytes.{Appends}
use Rattle.fpl_base.specs.Causes.{AppendsFront}
use Rattle.fpl_base.specs.RuleNumbers.{number_of}
use Rattle.fpl_base.specs.declared.kinds.Caller.TheVariants as caller
use Rattle.season_book.specs.declared.answer.Answer.{Answer}
use Rattle.season_book.specs.declared.answer.Answer.TheVariants as answer
use Rattle.season_book.specs.declared.request.Request.TheVariants as request
use Rattle.season_book.specs.declared.request.View.{View}
use Rattle.fpl_reports.specs.Reports.{IsReport}
use Rattle.request_handler.specs.Replying.{Served}
use Rattle.local_requests.specs.Asking.{IsHeard}

-- a text was written, and the status is the one that was due; or the output failed, with status 3
abbrev pub Prints : List ℕ → ℕ → ℕ → Option (List ℕ) → Option (List ℕ) → Type 0
Prints text due status before after = ((status ≡ due) × Appends before after text) ⊎ ((status ≡ 3) × AppendsFront before after text)

-- such a text was written; or memory ran out before it was made, with status 6
abbrev pub PrintsOne : (List ℕ → Type 0) → ℕ → ℕ → Option (List ℕ) → Option (List ℕ) → Type 0
PrintsOne Is due status before after = ((text : List ℕ) × Is text × Prints text due status before after) ⊎ ((status ≡ 6) × (after ≡ before))

-- the lines that name a rule, and what is not there
abbrev pub rule_text : ℕ → List ℕ
rule_text n = codes "rule " ++ (decimal n ++ 10 ∷ [])

abbrev pub unknown_text : List ℕ
unknown_text = codes "unknown" ++ 10 ∷ []

-- an answer that ends a command ends it so: a refusal is named, with status 13; where the keeper failed nothing is written,
-- with status 4; and so where memory ran out, with status 6
abbrev pub EndsBy : Answer → ℕ → Option (List ℕ) → Option (List ℕ) → Type 0
EndsBy (answer.Rule rule) status before after = PrintsOne (λ text. text ≡ rule_text (number_of rule)) 13 status before after
EndsBy answer.Unknown status before after = Prints unknown_text 13 status before after
EndsBy answer.Keeper status before after = (status ≡ 4) × (after ≡ before)
EndsBy told status before after = (status ≡ 6) × (after ≡ before)

-- what is shown is written as its report; every other answer ends the command
abbrev pub ReportsAs : Answer → ℕ → Option (List ℕ) → Option (List ℕ) → Type 0
ReportsAs (answer.Shown shown) status before after = PrintsOne (IsReport shown) 0 status before after
ReportsAs told status before after = EndsBy told status before after

-- a view was asked as the operator, and reported
abbrev pub IsReported : View → Option (List ℕ) → Option (List ℕ) → ℕ → Served → Served → Type 0
IsReported view before after status old new =
    (told : Answer) × IsHeard old caller.Operator (request.View view) told new × ReportsAs told status before after
