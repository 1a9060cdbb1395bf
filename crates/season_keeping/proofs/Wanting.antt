-- Memory ran out before anything was committed: the host is stale, and the keeper holds what it held.
use Rattle.std.proofs.Common.{◌≡◌, ℕ, List, true, inl, inr, refl}
use Rattle.fpl_base.specs.Keeping.{Map}
use Rattle.fpl_base.specs.declared.kinds.Caller.{Caller}
use Rattle.season_book.specs.Book.{Book}
use Rattle.season_book.specs.Verdict.{Failures}
use Rattle.season_book.specs.declared.answer.Answer.TheVariants as answer
use Rattle.season_book.specs.declared.request.Request.{Request}
use Rattle.season_keeping.specs.Answering.{LeadsOn, MayEnd}
use Rattle.season_keeping.specs.Housed.{Housed}
use Rattle.season_keeping.proofs.Leading.{is_fresh}

module _ (K : Type 0) (tells serves : K → Type 0) (holds passes : K → Map → Type 0) (keeper : K) (old new : Housed) (stale : new.stale ≡ true) (book : Book) where
  pub wanting_leads : (leads : Book → Type 0) → leads book → LeadsOn tells serves holds passes keeper keeper old new book leads
  wanting_leads leads led = record {
    by_rows = (book, is_fresh new.stale stale, led);
    by_records = λ tell serve backs. (
      book,
      record {
        keepable = backs.keepable;
        held = backs.held;
        stands = is_fresh new.stale stale;
        alone = is_fresh new.stale stale;
      },
      led,
    );
  }

-- want of memory may be answered, and leaves the book
pub wanting_ends : (operator : List ℕ) (failures : Failures) (book : Book) (caller : Caller) (now : ℕ) (asked : Request)
    → MayEnd operator failures book caller now asked answer.Memory book
wanting_ends operator failures book caller now asked = inr (inl refl, inl refl)
