-- What a lock leads to.
use Rattle.std.proofs.Common.{◌≡◌, ◌∙◌, ◌==◌, ℕ, [], false, Option, Some, None, Result, ap, arith, refl, subst, sym}
use Rattle.std.specs.Prelude.{not}
use Rattle.std.specs.Option.{option_map}
use Rattle.std.proofs.lemmas.Bool.Decides.{nat_tests}
use Rattle.std.proofs.lemmas.Option.{none-some, same_Some}
use Rattle.fpl_base.specs.Keeping.{Map}
use Rattle.fpl_base.specs.declared.outside.KeeperFault.{KeeperFault}
use Rattle.rule_book.specs.Calendar.{after_pass}
use Rattle.season_book.specs.Book.{Book, Facts}
use Rattle.season_book.specs.Verdict.{locked_at, pass}
use Rattle.season_cells.specs.Kept.{CellRows}
use Rattle.season_host.specs.Accepted.{locks_more}
use Rattle.season_records.specs.Staying.{LockedItemsStay, LooksTellItems}
use Rattle.season_opening.specs.Opening.{IsKeepable}
use Rattle.season_records.specs.Keeping.{LocksKeepRecords, MomentsAreEarly, NoLockLeavesBook}
use Rattle.season_records.specs.Records.{records}
use Rattle.season_records.specs.Told.{MomentsKeepOrder}
use Rattle.season_records.specs.Touched.{locked_slots}
use Rattle.record_changes.specs.Laws.{RowsTellRecords}
use Rattle.season_running.specs.EntryLaws.{IsOrderlyHost}
use Rattle.season_running.specs.Standing.{HostRows, StandsIn, passed}
use Rattle.season_running.proofs.HostFacts.{passed_stands}
use Rattle.season_keeping.specs.Answering.{Answers, Commits, EndsCommit, StopsCommit}
use Rattle.season_keeping.specs.Housed.{Backs, Housed}
use Rattle.season_keeping.proofs.Leading.{commit_leads, commit_stops}

-- Whether a moment locks gameweeks.

same_of : (a b : ℕ) → not (a == b) ≡ false → a ≡ b
same_of a b is = grind (arith, nat_tests, is)

locked_same : (o : Option Facts) (now : ℕ) → locks_more o now ≡ false → (facts : Facts) → o ≡ Some facts
    → (after_pass facts.calendar now).locked ≡ facts.calendar.locked
locked_same None now is facts there = absurd (none-some facts there)
locked_same (Some own) now is facts there =
    subst (λ (f : Facts). (after_pass f.calendar now).locked ≡ f.calendar.locked) (same_Some own facts there)
    (same_of (after_pass own.calendar now).locked own.calendar.locked is)

pub stays_of : NoLockLeavesBook → (rows : HostRows) (now : ℕ) → locks_more rows.facts now ≡ false
    → (book : Book) → StandsIn rows book → pass book now ≡ book
stays_of none rows now is book stands = none book now (λ facts there. locked_same rows.facts now is facts (sym stands.facts ∙ there))

-- the facts stay where no gameweek is locked, and so does the season that runs
facts_stay : NoLockLeavesBook → (o : Option Facts) (now : ℕ) → locks_more o now ≡ false → option_map (locked_at now) o ≡ o
facts_stay none o now is =
    ap (λ (b : Book). b.facts) (none (record { facts = o; entries = []; leagues = []; cups = []; lasts = [] }) now (λ facts there. locked_same o now is facts there))

-- and so does the host
rows_stay : NoLockLeavesBook → (rows : HostRows) (now : ℕ) → locks_more rows.facts now ≡ false → passed now rows ≡ rows
rows_stay none rows now is = ap (λ (o : Option Facts). record rows { facts = o }) (facts_stay none rows.facts now is)

-- a host with these rows and cells in place of its own
abbrev holding : Housed → HostRows → Option CellRows → Housed
holding host rows cells = record { rows = rows; cells = cells; stale = host.stale; reread = host.reread }

pub host_stays : NoLockLeavesBook → (inside old : Housed) (rows : HostRows) (cells : Option CellRows) (now : ℕ) → inside ≡ old → rows ≡ passed now inside.rows
    → cells ≡ inside.cells → locks_more old.rows.facts now ≡ false → holding inside rows cells ≡ old
host_stays none inside old rows cells now view leads same is =
    ap (λ (r : HostRows). holding inside r cells) (leads ∙ rows_stay none inside.rows now (ap (λ (h : Housed). locks_more h.rows.facts now) view ∙ is))
    ∙ ap (holding inside inside.rows) same
    ∙ view

-- What it leads to.

module _ (early : MomentsAreEarly) (orders : MomentsKeepOrder) (items : LockedItemsStay) where
  -- a book with the gameweeks of a moment locked can be made anew of its records where the one before can
  pub keepable_pass : (rows : HostRows) (book : Book) (now : ℕ) → StandsIn rows (pass book now) → IsKeepable book → IsKeepable (pass book now)
  keepable_pass rows book now stands was = record {
    rows = rows;
    stood = stands;
    early = early book now was.early;
    order = orders book now was.order;
    items = items book now was.items;
  }

  module _ (K : Type 0) (tells serves : K → Type 0) (holds passes : K → Map → Type 0) (before after : K) (old mid new : Housed) (now : ℕ)
      (rows : mid.rows ≡ passed now old.rows) where
    stands_passed : (book : Book) → StandsIn old.rows book → StandsIn mid.rows (pass book now)
    stands_passed book stands = subst (λ (r : HostRows). StandsIn r (pass book now)) (sym rows) (passed_stands old.rows now book stands)

    module _ (keep : LocksKeepRecords) (tell : RowsTellRecords) (looks : LooksTellItems) (T : Type 0) (orderly : IsOrderlyHost mid.rows) where
      -- one gameweek more is locked, and that was committed
      pub locked_leads : (result : Result T KeeperFault) → Commits tells serves holds passes before after locked_slots mid new result
          → Answers tells serves holds passes before after old new (λ book left. EndsCommit result book (pass book now) left)
      locked_leads result c book stands =
          let here = stands_passed book stands in
          commit_leads T K tells serves holds passes before after locked_slots looks old mid new book (pass book now)
          (tell mid.rows (pass book now) orderly here) (λ _. keep book now) here (λ was _. keepable_pass mid.rows book now here was) result c

      pub locked_stops : (result : Result T KeeperFault) → Commits tells serves holds passes before after locked_slots mid new result → old.stale ≡ false
          → (book : Book) → StandsIn old.rows book → StopsCommit tells holds passes before after old book (pass book now)
      locked_stops result c fresh book stands =
          let here = stands_passed book stands in
          commit_stops T K tells serves holds passes before after locked_slots looks old mid new book (pass book now)
          (tell mid.rows (pass book now) orderly here) (λ _. keep book now) here (λ was _. keepable_pass mid.rows book now here was) result c fresh

    -- none more is locked: the book stays, and nothing is committed
    module _ (same : after ≡ before) (fresh : old.stale ≡ mid.stale) (stays : (book : Book) → StandsIn old.rows book → pass book now ≡ book) where
      backs_passed : (book : Book) → StandsIn old.rows book → Backs holds passes before old book → Backs holds passes after mid (pass book now)
      backs_passed book stands backs =
          let here = stands_passed book stands in
          record {
            keepable = keepable_pass mid.rows book now here backs.keepable;
            held = subst (λ (k : K). holds k (records (pass book now))) (sym same) (subst (λ (b : Book). holds before (records b)) (sym (stays book stands)) backs.held);
            stands = λ _. here;
            alone = λ is x passed. backs.alone (fresh ∙ is) x (subst (λ (k : K). passes k x) same passed) ∙ subst (λ (b : Book). records book ≡ records b) (sym (stays book stands)) refl;
          }

      pub unlocked_leads : Answers tells serves holds passes before after old mid (λ book left. left ≡ pass book now)
      unlocked_leads book stands = record {
        by_rows = (pass book now, λ _. (stands_passed book stands, λ _ backs. backs_passed book stands backs), refl);
        by_records = λ tell_on serve backs. (pass book now, backs_passed book stands backs, refl);
      }
