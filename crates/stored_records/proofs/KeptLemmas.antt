-- What is kept of a record is what its body tells.
use Rattle.std.proofs.Common.{◌≡◌, ◌∙◌, false, ◌==◌, List, [], ℕ, Option, Some, None, Result, Ok, Err, ap, refl, sym}
use Rattle.std.specs.Result.{IfOk}
use Rattle.fpl_base.specs.declared.records.RecordKey.{RecordKey}
use Rattle.season_records.specs.ItemReading.{item_of}
use Rattle.season_records.specs.Items.{body_of, key_of_item}
use Rattle.season_records.specs.Laws.{IsBytes}
use Rattle.season_records.specs.declared.item.Item.{Item}
use Rattle.season_records.specs.declared.item.Item.TheVariants as item
use Rattle.season_records.proofs.ItemLaws.{item_found}
use Rattle.stored_records.specs.Kept.{AreTold, IsRead, body_kept, item_kept, other_in, transfer_in, transfer_item}
use Rattle.stored_records.specs.declared.kept.Told.{Told}
use Rattle.stored_records.specs.declared.kept.Transfer.{Transfer}
use Rattle.stored_records.specs.declared.kept.Told.TheVariants as told

-- a transfer is what is told
pub transfer_found : (t : Transfer) (o : Option Item) → Some (transfer_item t) ≡ transfer_in o → o ≡ Some (transfer_item t)
transfer_found t None is = absurd cc
transfer_found t (Some (item.Transfer entry gameweek number out into sold bought)) is = sym is
transfer_found t (Some other) is = absurd cc

-- what is found beside transfers is what is told
pub other_found : (o : Option Item) (i : Item) → other_in o ≡ Some i → o ≡ Some i
other_found None i is = is
other_found (Some (item.Transfer entry gameweek number out into sold bought)) i is = absurd cc
other_found (Some other) i is = is

abbrev body_in : Option Item → List ℕ
body_in None = []
body_in (Some i) = body_of i

-- what is kept of an item has its body
pub kept_body : (t : Told) (i : Item) → item_kept t ≡ Some i → body_kept t ≡ body_of i
kept_body (told.Transfer t) i is = ap body_in is
kept_body (told.Other boxed) i is = ap body_in is
kept_body (told.Unread body) i is = absurd cc

-- what stands under the key of no transfer is none
apart_of : (i : Item) → ((key_of_item i).kind == 8) ≡ false → other_in (Some i) ≡ Some i
apart_of (item.Transfer entry gameweek number out into sold bought) away = absurd cc
apart_of other away = refl

-- a body that is an item's is kept as the item
read_as : (key : RecordKey) (body : List ℕ) (i : Item) (t : Told) → IsBytes body → item_of key body ≡ Some i → AreTold (Some i) t → IsRead key body t
read_as key body i t bytes is told =
    let found = item_found key body i bytes is in
    let same : body_kept t ≡ body = kept_body t i told.item ∙ sym found.2 in
    let again : Some i ≡ item_of key (body_kept t) = sym is ∙ ap (item_of key) (sym same) in record {
      kept = record {
        told = record { item = told.item ∙ again; other = told.other ∙ ap other_in again };
        apart = λ away. told.other ∙ (apart_of i (ap (λ k. k.kind == 8) (sym found.1) ∙ away) ∙ sym told.item);
      };
      same = same;
    }

pub read_some : {E : Type 0} (key : RecordKey) (body : List ℕ) (i : Item) (r : Result Told E) → IsBytes body → item_of key body ≡ Some i
    → IfOk r (AreTold (Some i)) → IfOk r (IsRead key body)
read_some key body i (Ok t) bytes is told = read_as key body i t bytes is told
read_some key body i (Err e) bytes is told = tt
