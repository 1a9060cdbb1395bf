-- What is kept of players and fixtures, which are found by their ids.
use Rattle.std.proofs.Common.{◌≡◌, ℕ, Bool, List, Option, Some, sym, ap, subst, ◌∙◌}
use Rattle.std.specs.Option.{option_map}
use Rattle.std.specs.Prelude.{Result, IfOk}
use Rattle.fpl_base.specs.declared.memory.Memory.{Memory}
use Rattle.fpl_base.specs.declared.records.Op.{Op}
use Rattle.rule_book.specs.Calendar.{fixture_of}
use Rattle.rule_book.specs.MatchFacts.{is_finished}
use Rattle.rule_book.specs.Players.{player_of}
use Rattle.rule_book.specs.declared.player.Player.{Player}
use Rattle.rule_book.specs.declared.season.Fixture.{Fixture}
use Rattle.season_book.specs.Book.{Facts}
use Rattle.season_records.specs.Items.{slot_of_item}
use Rattle.season_records.specs.declared.item.Item.{Item}
use Rattle.season_records.specs.declared.item.Item.TheVariants as item
use Rattle.season_records.specs.declared.slot.Slot.{Slot}
use Rattle.season_records.specs.declared.slot.Slot.TheVariants as slot
use Rattle.season_records.specs.Records.{fixture_item, player_item}
use Rattle.record_changes.specs.Batches.{Keeps, KeepsOfFacts}
use Rattle.record_changes.proofs.Found.{fixture_found, player_found}

-- what is kept of an item is kept of the same item
same_kept : (made told : Item) (result : Result Op Memory) → made ≡ told → IfOk result (Keeps (slot_of_item made) (Some made)) → IfOk result (Keeps (slot_of_item told) (Some told))
same_kept made told result same = subst (λ (i : Item). IfOk result (Keeps (slot_of_item i) (Some i))) same

told_kept : (s : Slot) (one other : Option Item) (result : Result Op Memory) → one ≡ other → IfOk result (Keeps s one) → IfOk result (Keeps s other)
told_kept s one other result same = subst (λ (o : Option Item). IfOk result (Keeps s o)) same

pub fixture_kept : (facts : Facts) (f : ℕ) (x : Fixture) (finished : Bool) (result : Result Op Memory) → fixture_of facts.calendar f ≡ Some x
    → finished ≡ is_finished facts.matches x.id
    → IfOk result (Keeps (slot.Fixture x.id) (Some (item.Fixture x.id x.home x.away x.gw x.kickoff finished)))
    → IfOk result (KeepsOfFacts facts (slot.Fixture f))
fixture_kept facts f x finished result found marked put =
    let id : x.id ≡ f = fixture_found facts.calendar f x found in
    let same : item.Fixture x.id x.home x.away x.gw x.kickoff finished ≡ fixture_item f facts x =
    ap (item.Fixture x.id x.home x.away x.gw x.kickoff) marked
    ∙ ap (λ n. item.Fixture n x.home x.away x.gw x.kickoff (is_finished facts.matches n)) id in
    told_kept (slot.Fixture f) (Some (fixture_item f facts x)) (option_map (fixture_item f facts) (fixture_of facts.calendar f)) result
    (sym (ap (option_map (fixture_item f facts)) found))
    (same_kept (item.Fixture x.id x.home x.away x.gw x.kickoff finished) (fixture_item f facts x) result same put)

pub player_kept : (facts : Facts) (p : ℕ) (x : Player) (price : ℕ) (name : List ℕ) (result : Result Op Memory) → player_of facts.players p ≡ Some x
    → price ≡ x.price → name ≡ x.name
    → IfOk result (Keeps (slot.Player x.id) (Some (item.Player x.id x.position x.club price x.gone name)))
    → IfOk result (KeepsOfFacts facts (slot.Player p))
player_kept facts p x price name result found priced named put =
    let id : x.id ≡ p = player_found facts.players p x found in
    let same : item.Player x.id x.position x.club price x.gone name ≡ player_item p x =
    λ i. item.Player (id i) x.position x.club (priced i) x.gone (named i) in
    told_kept (slot.Player p) (Some (player_item p x)) (option_map (player_item p) (player_of facts.players p)) result
    (sym (ap (option_map (player_item p)) found))
    (same_kept (item.Player x.id x.position x.club price x.gone name) (player_item p x) result same put)
