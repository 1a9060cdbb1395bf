-- What is said of a session of the host: by the three views of its keeper, and by how many reads it counts.
use Rattle.std.specs.Prelude.{⊤, ℕ, List, Option}
use Rattle.fpl_base.specs.Keeping.{Map}
use Rattle.fpl_http.specs.Stream.{Request}
use Rattle.fpl_http.specs.Lifts.{LiftsWhile}
use Rattle.fpl_http.specs.Replies.{Speaks}
use Rattle.fpl_http.specs.Sessions.{SessionOf}
use Rattle.fpl_http.specs.Splits.{Both}
use Rattle.fpl_http.specs.declared.ending.Ending.{Ending}
use Rattle.request_handler.specs.Kept.{IsStoodByRows, IsStoodByStops, LeadsAll, StandsByRecords}
use Rattle.request_handler.specs.Looks.{Counted, CountsLooks, SessionReadsFew}
use Rattle.request_handler.specs.Replying.{IsReplyUntil}
use Rattle.request_handler.specs.Whole.{IsKeptReply}
use Rattle.fpl_run.specs.Pipe.{IsSession}

-- what is said of each message
abbrev pub Talks : {K : Type 0} → (K → Type 0) → (K → Type 0) → (K → Map → Type 0) → (K → Map → Type 0) → Counted K → Request → ℕ × List ℕ → Counted K → Type 0
Talks {K} tells serves holds passes = Both CountsLooks
    (Both (LiftsWhile (λ (_ : Counted K). ⊤) (λ (now : Counted K). IsStoodByRows now.kept) IsReplyUntil)
    (Both (LiftsWhile (λ (now : Counted K). tells now.kept.keeper) (λ (now : Counted K). IsStoodByStops holds passes now.kept) IsReplyUntil)
    (LiftsWhile (λ (now : Counted K). tells now.kept.keeper × serves now.kept.keeper) (λ (now : Counted K). StandsByRecords holds passes now.kept) IsKeptReply)))

-- then a session leads on by each of the views
pub record TalksLead {K : Type 0} (tells serves : K → Type 0) (holds passes : K → Map → Type 0) : Type 0 where
  pub leads : (first last : Counted K) (left now before after : Option (List ℕ)) (ending : Ending)
      → SessionOf (Speaks (Talks tells serves holds passes)) left now first last before after ending
      → LeadsAll tells serves holds passes first.kept last.kept (IsSession IsReplyUntil left now before after ending) (IsSession IsKeptReply left now before after ending)

-- and it counts reads as its messages do, which are few where these are looks
pub record TalksCount {K : Type 0} (tells serves : K → Type 0) (holds passes : K → Map → Type 0) : Type 0 where
  pub counts : (first last : Counted K) (left now before after : Option (List ℕ)) (ending : Ending)
      → SessionOf (Speaks (Talks tells serves holds passes)) left now first last before after ending
      → SessionOf (Speaks CountsLooks) left now first last before after ending
  pub reads : (first last : Counted K) (left now before after : Option (List ℕ)) (ending : Ending)
      → SessionOf (Speaks CountsLooks) left now first last before after ending → SessionReadsFew left now first last
