-- What is put into a caller's place is what his record tells.
use Rattle.std.proofs.Common.{◌≡◌, ◌∙◌, ℕ, List, [], ◌∷◌, Option, Some, sym, ap, ap₂, subst}
use Rattle.fpl_base.specs.Keeping.{Map, applied_one}
use Rattle.fpl_base.specs.declared.records.Op.TheVariants.{Put}
use Rattle.fpl_base.specs.declared.records.RecordKey.{RecordKey as Key}
use Rattle.season_records.specs.ItemReading.{item_of}
use Rattle.season_records.specs.Keys.{key_of}
use Rattle.season_records.specs.declared.item.Item.{Item}
use Rattle.season_records.specs.declared.item.Item.TheVariants as item
use Rattle.season_records.specs.declared.slot.Slot.TheVariants as slot
use Rattle.rule_book.specs.ById.{placed_at}
use Rattle.season_book.specs.Book.{Last}
use Rattle.season_book.specs.Commands.{IsCommand}
use Rattle.season_book.specs.declared.command.Command.{Command}
use Rattle.season_records.specs.Records.{last_item, made_id, status_of}
use Rattle.season_records.specs.Told.{made_by}
use Rattle.season_restoring.specs.LastCommands.{AreLasts, IsLast, IsLastRow}
use Rattle.season_restoring.proofs.LastRows.{last_more}

module _ (c n s m : ℕ) (x : Command) (c2 n2 s2 m2 : ℕ) (x2 : Command) (e : Some (item.Last c n s m x) ≡ Some (item.Last c2 n2 s2 m2 x2)) where
  caller_same : c ≡ c2
  caller_same = cc

  number_same : n ≡ n2
  number_same = cc

  made_same : m ≡ m2
  made_same = cc

  command_same : x ≡ x2
  command_same = cc

joined : (c n s m : ℕ) (x : Command) (c2 n2 s2 m2 : ℕ) (x2 : Command) → c ≡ c2 → n ≡ n2 → s ≡ s2 → m ≡ m2 → x ≡ x2 → item.Last c n s m x ≡ item.Last c2 n2 s2 m2 x2
joined c n s m x c2 n2 s2 m2 x2 a b d e f =
    ap (λ i. item.Last i n s m x) a ∙ (ap (λ i. item.Last c2 i s m x) b ∙ (ap (λ i. item.Last c2 n2 i m x) d ∙ (ap (λ i. item.Last c2 n2 s2 i x) e ∙ ap (item.Last c2 n2 s2 m2) f)))

module _ (k : Key) (body : List ℕ) (row : IsLastRow k body) (read : Option Item) (is : read ≡ item_of k body) (caller number status made : ℕ) (command : Command) (at : read ≡ Some (item.Last caller number status made command)) where
  told : Some (item.Last caller number status made command) ≡ Some (item.Last row.caller row.number row.status row.made row.command)
  told = sym at ∙ (is ∙ row.is)

  caller_is : caller ≡ row.caller
  caller_is = caller_same caller number status made command row.caller row.number row.status row.made row.command told

  number_is : number ≡ row.number
  number_is = number_same caller number status made command row.caller row.number row.status row.made row.command told

  made_is : made ≡ row.made
  made_is = made_same caller number status made command row.caller row.number row.status row.made row.command told

  command_is : command ≡ row.command
  command_is = command_same caller number status made command row.caller row.number row.status row.made row.command told

  module _ (place : ℕ) (last : Last) (placed : place ≡ caller) (numbered : last.number ≡ number) (commanded : last.command ≡ command) (makes : last.made ≡ made_by command made) where
    makes_so : last.made ≡ made_by row.command row.made
    makes_so = makes ∙ ap₂ made_by command_is made_is

    id_is : made_id last.made ≡ row.made
    id_is = ap made_id makes_so ∙ row.made_is

    command_so : last.command ≡ row.command
    command_so = commanded ∙ command_is

    item_is : last_item place last ≡ item.Last row.caller row.number row.status row.made row.command
    item_is =
        joined place last.number (status_of last.made) (made_id last.made) last.command row.caller row.number row.status row.made row.command
        (placed ∙ caller_is) (numbered ∙ number_is) (ap status_of makes_so ∙ row.status_is) id_is command_so

    key_same : key_of (slot.Last place) ≡ k
    key_same = ap (λ n. key_of (slot.Last n)) (placed ∙ caller_is) ∙ sym row.key_is

    lawful : IsLast last
    lawful = record {
      read = subst IsCommand (sym command_so) row.read;
      makes = makes_so ∙ ap₂ made_by (sym command_so) (sym id_is);
    }

    pub put_more : (m : Map) (lasts new : List (ℕ × Last)) → new ≡ placed_at lasts place ((place, last) ∷ []) → AreLasts m lasts → AreLasts (applied_one m (Put k body)) new
    put_more m lasts new put are =
        let reads : item_of (key_of (slot.Last place)) body ≡ Some (last_item place last) = ap (λ x. item_of x body) key_same ∙ (row.is ∙ sym (ap Some item_is)) in
        subst (λ x. AreLasts (applied_one m (Put x body)) new) key_same
        (subst (AreLasts (applied_one m (Put (key_of (slot.Last place)) body))) (sym put) (last_more m lasts place last body are reads lawful))
