-- What one commit leads to, from a book that a host stands for to another.
use Rattle.std.proofs.Common.{◌≡◌, ◌∙◌, ◌⊎◌, Bool, true≢false, List, true, false, Ok, Err, Result, ap, inl, inr, refl, subst, sym}
use Rattle.fpl_base.specs.Keeping.{Map, applied}
use Rattle.fpl_base.specs.declared.outside.KeeperFault.{KeeperFault}
use Rattle.fpl_base.specs.declared.outside.KeeperFault.TheVariants as fault
use Rattle.season_records.specs.declared.slot.Slot.{Slot}
use Rattle.season_book.specs.Book.{Book}
use Rattle.season_records.specs.Keeping.{Leads}
use Rattle.season_records.specs.Records.{records, told}
use Rattle.season_records.specs.Touched.{batch}
use Rattle.season_host.specs.Accepted.{TellItemsBy}
use Rattle.season_records.specs.Staying.{LooksTellItems, TellItems}
use Rattle.season_opening.specs.Opening.{IsKeepable}
use Rattle.record_changes.specs.Laws.{TellAs}
use Rattle.record_changes.specs.RowsTold.{told_by}
use Rattle.season_running.specs.Standing.{HostRows, StandsIn}
use Rattle.season_keeping.specs.Answering.{Commits, EndsCommit, LeadsOn, StandsOn, StopsCommit}
use Rattle.season_keeping.specs.Housed.{Backs, Housed}

-- rows that tell at each slot what a book tells, tell the same
told_same : (rows : HostRows) (book : Book) → TellAs rows book → told_by rows ≡ told book
told_same rows book tells = λ i s. tells s i

pub is_fresh : {X : Type 0} (stale : Bool) → stale ≡ true → stale ≡ false → X
is_fresh stale was now = absurd (true≢false (sym was ∙ now))

module _ (T K : Type 0) (tells serves : K → Type 0) (holds passes : K → Map → Type 0) (before after : K) (slots : List Slot) (looks : LooksTellItems) (first old new : Housed) (book behind : Book)
    (tell : TellAs old.rows behind) (leads : IsKeepable book → Leads slots book behind) (stands : StandsIn old.rows behind) where
  committed_map : IsKeepable book → applied (records book) (batch (told_by old.rows) slots) ≡ records behind
  committed_map was = ap (λ (t : _). applied (records book) (batch t slots)) (told_same old.rows behind tell) ∙ leads was

  abbrev Committed : Result T KeeperFault → Type 0
  Committed result = Commits tells serves holds passes before after slots old new result

  stands_on : (result : Result T KeeperFault) → Committed result → StandsIn new.rows behind
  stands_on result c = subst (λ (rows : HostRows). StandsIn rows behind) (sym c.rows) stands

  -- what the rows told of the slots the book behind tells
  items_of : TellItemsBy old.rows slots → TellItems slots behind
  items_of items = looks (told_by old.rows) slots behind tell items

  -- a commit that went well
  module _ (keep : IsKeepable book → TellItems slots behind → IsKeepable behind) where
    backs_behind : (done : T) → Committed (Ok done) → tells after → IsKeepable book → holds before (records book) → Backs holds passes after new behind
    backs_behind done c tell_on was held = record {
      keepable = keep was (items_of (c.items (λ is. cc)));
      held = subst (holds after) (committed_map was) (c.done tell_on (records book) held);
      stands = λ _. stands_on (Ok done) c;
      alone = λ _ x passed. c.alone tell_on (records book) held x passed ∙ committed_map was;
    }

    pub commit_by_rows : (result : Result T KeeperFault) → Committed result
        → (left : Book) × StandsOn tells holds passes before after first new book left × EndsCommit result book behind left
    commit_by_rows (Ok done) c =
        (behind, λ _. (stands_on (Ok done) c, λ tell_on backs. backs_behind done c tell_on backs.keepable backs.held), refl)
    commit_by_rows (Err why) c = (behind, is_fresh new.stale c.stale, inr refl)

    pub commit_by_records : (result : Result T KeeperFault) → Committed result → tells after → serves after → Backs holds passes before first book
        → (left : Book) × Backs holds passes after new left × EndsCommit result book behind left
    commit_by_records (Ok done) c tell_on serve backs = (behind, backs_behind done c tell_on backs.keepable backs.held, refl)
    commit_by_records (Err fault.Memory) c tell_on serve backs = (
      book,
      record {
        keepable = backs.keepable;
        held = c.kept refl tell_on serve (records book) backs.held;
        stands = is_fresh new.stale c.stale;
        alone = is_fresh new.stale c.stale;
      },
      inl refl,
    )
    commit_by_records (Err fault.Failed) c tell_on serve backs = failed (c.failed tell_on serve (records book) backs.held)
      where
        failed : holds after (records book) ⊎ holds after (applied (records book) (batch (told_by old.rows) slots))
            → (left : Book) × Backs holds passes after new left × ((left ≡ book) ⊎ (left ≡ behind))
        failed (inl same) = (
          book,
          record { keepable = backs.keepable; held = same; stands = is_fresh new.stale c.stale; alone = is_fresh new.stale c.stale },
          inl refl,
        )
        failed (inr changed) = (
          behind,
          record {
            keepable = keep backs.keepable (items_of (c.items (λ is. cc)));
            held = subst (holds after) (committed_map backs.keepable) changed;
            stands = is_fresh new.stale c.stale;
            alone = is_fresh new.stale c.stale;
          },
          inr refl,
        )

    pub commit_leads : (result : Result T KeeperFault) → Committed result
        → LeadsOn tells serves holds passes before after first new book (EndsCommit result book behind)
    commit_leads result c = record {
      by_rows = commit_by_rows result c;
      by_records = λ tell_on serve backs. commit_by_records result c tell_on serve backs;
    }

    pub commit_stops : (result : Result T KeeperFault) → Committed result → first.stale ≡ false → StopsCommit tells holds passes before after first book behind
    commit_stops result c fresh tell_on backs x passed = either (c.stops tell_on (records book) backs.held x passed) c.asked
      where
        either : passes before x ⊎ (x ≡ applied (records book) (batch (told_by old.rows) slots)) → (after ≡ before) ⊎ TellItemsBy old.rows slots
            → (x ≡ records book) ⊎ ((x ≡ records behind) × IsKeepable behind)
        either (inl was) asked = inl (backs.alone fresh x was)
        either (inr is) (inl same) = inl (backs.alone fresh x (subst (λ (k : K). passes k x) same passed))
        either (inr is) (inr items) = inr (is ∙ committed_map backs.keepable, keep backs.keepable (items_of items))
