use Rattle.std.proofs.Common.{◌≡◌, ◌∙◌, ◌-◌, ap, false, length, not, sym}
use Rattle.std.specs.List.{list_any}
use Rattle.fpl_base.specs.Keeping.{map_of}
use Rattle.rule_book.specs.declared.cup.Bracket.{Bracket}
use Rattle.rule_book.specs.CupCalls.{entrants, most_cups}
use Rattle.rule_book.specs.Cups.{is_cup}
use Rattle.season_records.specs.declared.slot.Slot.TheVariants as slot
use Rattle.stored_records.specs.SeasonRules.{is_full, misses}
use Rattle.stored_records.specs.Stored.{deadlines_told, has_gameweek}
use Rattle.store_validation.specs.LeagueRules.{has_gap, plays_from}
use Rattle.store_validation.proofs.league_rules.cup_breaks.Goals as goal

pub returns : goal.returns
returns c =
    let m = map_of c.args.stored.now in
    let b : Bracket = record { start = c.args.start; slots = c.args.slots.now; coins = c.args.coins.now } in
    let gameweeks : length c.as_slice.result.now ≡ length (deadlines_told m) = ap length (c.as_slice.ensures ∙ ap (λ t. t.deadlines) c.requires) in
    let start : not (has_gameweek m c.args.start) ≡ false = ap not (sym c.has_gameweek.ensures ∙ c.if-not-has_gameweek.false) in
    let there : list_any (λ e. misses m (slot.Entry e)) (entrants c.args.slots.now) ≡ false = sym c.misses_entrant.ensures ∙ c.if-misses_entrant.false in
    let played : not (is_cup b (length (deadlines_told m))) ≡ false = ap (λ n. not (is_cup b n)) (sym gameweeks) ∙ ap not (sym c.is_cup.ensures ∙ c.if-not-is_cup.false) in
    let on_time : list_any (λ e. not (plays_from m c.args.start e)) (entrants c.args.slots.now) ≡ false = sym c.has_late_entrant.ensures ∙ c.if-has_late_entrant.false in
    let numbered : has_gap m c.args.cup (slot.Cup (c.args.cup - 1)) ≡ false = (λ i. has_gap m (sym c.get.ensures.value i) (slot.Cup (sym c.get-2.ensures.value i - 1))) ∙ (sym c.has_gap.ensures ∙ c.if-has_gap.false) in
    rw (start, there, played, on_time, numbered) (c.is_full.ensures ∙ ap (λ n. is_full c.args.stored.now most_cups (slot.Cup 0) (slot.Cup n)) c.get-3.ensures.value)
