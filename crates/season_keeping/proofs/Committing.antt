-- A commit of the batch that rows tell, by what its keeper says.
use Rattle.std.proofs.Common.{◌≡◌, ◌∙◌, ◌⊎◌, List, Err, Result, OnErr, OnOk, ap, inr, subst, true}
use Rattle.fpl_base.specs.Keeping.{Map, applied}
use Rattle.fpl_base.specs.declared.outside.KeeperFault.{KeeperFault}
use Rattle.fpl_base.specs.declared.outside.KeeperFault.TheVariants as fault
use Rattle.fpl_base.specs.declared.records.Op.{Op}
use Rattle.season_records.specs.declared.slot.Slot.{Slot}
use Rattle.season_host.specs.Accepted.{TellItemsBy}
use Rattle.season_records.specs.Touched.{batch}
use Rattle.record_changes.specs.RowsTold.{told_by}
use Rattle.season_running.specs.Standing.{HostRows}
use Rattle.season_keeping.specs.Answering.{Commits}
use Rattle.season_keeping.specs.Housed.{Housed}

module _ (T K : Type 0) (tells serves : K → Type 0) (holds passes : K → Map → Type 0) (before after : K) (slots : List Slot) where
  -- what a keeper says of a commit
  pub record Says (ops : List Op) (result : Result T KeeperFault) : Type 0 where
    pub done : OnOk result (tells after → (m : Map) → holds before m → holds after (applied m ops))
    pub alone : OnOk result (tells after → (m : Map) → holds before m → (x : Map) → passes after x → x ≡ applied m ops)
    pub failed : OnErr result (tells after → serves after → (m : Map) → holds before m → holds after m ⊎ holds after (applied m ops))
    pub kept : result ≡ Err fault.Memory → tells after → serves after → (m : Map) → holds before m → holds after m
    pub stops : tells after → (m : Map) → holds before m → (x : Map) → passes after x → passes before x ⊎ (x ≡ applied m ops)

  pub commits_by : (old new : Housed) (rows : HostRows) (ops : List Op) (result : Result T KeeperFault) → rows ≡ old.rows → ops ≡ batch (told_by rows) slots
      → new.rows ≡ old.rows → new.reread ≡ old.reread → OnOk result (new.stale ≡ old.stale) → OnErr result (new.stale ≡ true)
      → Says ops result → TellItemsBy rows slots → Commits tells serves holds passes before after slots old new result
  commits_by old new rows ops result is batched same reread fresh stale says items =
      let said = subst (λ (o : List Op). Says o result) (batched ∙ ap (λ (r : HostRows). batch (told_by r) slots) is) says in
      record {
        rows = same;
        reread = reread;
        fresh = fresh;
        stale = stale;
        done = said.done;
        alone = said.alone;
        failed = said.failed;
        kept = said.kept;
        stops = said.stops;
        items = λ _. subst (λ (r : HostRows). TellItemsBy r slots) is items;
        asked = inr (subst (λ (r : HostRows). TellItemsBy r slots) is items);
      }

  -- the same slots
  pub commits_at : (other : List Slot) (old new : Housed) (result : Result T KeeperFault) → slots ≡ other → Commits tells serves holds passes before after slots old new result
      → Commits tells serves holds passes before after other old new result
  commits_at other old new result same = subst (λ (s : List Slot). Commits tells serves holds passes before after s old new result) same
