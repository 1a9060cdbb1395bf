-- The status of each answer, and what its body says.
use Rattle.std.specs.Prelude.{ℕ, List, codes}
use Rattle.serde_json.specs.Data.{Data, string, object, member, no_members}
use Rattle.serde_json.specs.Written.{compact_text}
use Rattle.fpl_base.specs.declared.records.RecordKey.{RecordKey}
use Rattle.season_book.specs.declared.made.Made.{Made}
use Rattle.season_book.specs.declared.made.Made.TheVariants as made
use Rattle.season_book.specs.declared.answer.Answer.{Answer}
use Rattle.season_book.specs.declared.answer.Answer.TheVariants as answer
use Rattle.fpl_answers.specs.MemberData.{error_data}
use Rattle.json_members.specs.Members.{count}
use Rattle.fpl_answers.specs.RuleData.{rule_data}
use Rattle.fpl_answers.specs.ShownData.{shown_data, shown_text}

-- done, or made where something new is there
abbrev pub done_status : Made → ℕ
done_status made.Nothing = 200
done_status (made.Entry e) = 201
done_status (made.League l) = 201
done_status (made.Cup c) = 201

-- the status of an answer
abbrev pub status_of : Answer → ℕ
status_of (answer.Done n what) = done_status what
status_of (answer.Shown s) = 200
status_of (answer.Rule r) = 409
status_of answer.Unknown = 404
status_of answer.Keeper = 503
status_of (answer.Damaged key) = 500
status_of answer.Memory = 507

-- the command of this number was done, and what it made
abbrev pub done_data : ℕ → Made → Data
done_data n made.Nothing = object (member (codes "done") (count n) no_members)
done_data n (made.Entry e) = object (member (codes "done") (count n) (member (codes "entry") (count e) no_members))
done_data n (made.League l) = object (member (codes "done") (count n) (member (codes "league") (count l) no_members))
done_data n (made.Cup c) = object (member (codes "cup") (count c) (member (codes "done") (count n) no_members))

-- the record of this key cannot be
abbrev pub damaged_data : RecordKey → Data
damaged_data key = object
    (member (codes "a") (count key.a)
    (member (codes "b") (count key.b)
    (member (codes "c") (count key.c)
    (member (codes "error") (string (codes "damaged"))
    (member (codes "kind") (count key.kind)
    no_members)))))

-- the value that the body of an answer tells
abbrev pub answer_data : Answer → Data
answer_data (answer.Done n what) = done_data n what
answer_data (answer.Shown s) = shown_data s
answer_data (answer.Rule r) = rule_data r
answer_data answer.Unknown = error_data (codes "unknown")
answer_data answer.Keeper = error_data (codes "keeper")
answer_data (answer.Damaged key) = damaged_data key
answer_data answer.Memory = error_data (codes "memory")

-- the body of an answer
abbrev pub body_of : Answer → List ℕ
body_of (answer.Shown s) = shown_text s
body_of a = compact_text (answer_data a)
