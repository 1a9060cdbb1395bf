use Rattle.std.proofs.Common.{◌≡◌, ◌∙◌, ◌-◌, ap, false, map, not, sym}
use Rattle.std.specs.List.{list_any}
use Rattle.fpl_base.specs.Keeping.{map_of}
use Rattle.rule_book.specs.LeagueCalls.{most_leagues}
use Rattle.season_records.specs.declared.slot.Slot.TheVariants as slot
use Rattle.stored_records.specs.SeasonRules.{is_full, misses}
use Rattle.stored_records.specs.Stored.{has_gameweek}
use Rattle.store_validation.specs.LeagueRules.{has_gap, is_drawn_wrong, is_registered, members_of, plays_from}
use Rattle.store_validation.proofs.league_rules.league_breaks.Goals as goal

pub returns : goal.returns
returns c =
    let m = map_of c.args.stored.now in
    let l = c.args.league in
    let all : map (λ row. row.0.b) c.members-members.result.now ≡ members_of c.args.stored.now l = ap (map (λ row. row.0.b)) c.members-members.ensures in
    let start : not (has_gameweek m c.args.start) ≡ false = ap not (sym c.has_gameweek.ensures ∙ c.if-not-has_gameweek.false) in
    let creator : misses m (slot.Entry c.args.creator) ≡ false = ap (λ e. misses m (slot.Entry e)) (sym c.get.ensures.value) ∙ (sym c.misses.ensures ∙ c.if-misses.false) in
    let there : list_any (λ e. misses m (slot.Entry e)) c.args.order.now ≡ false = sym c.misses_one.ensures ∙ c.if-misses_one.false in
    let member : misses m (slot.Member l c.args.creator) ≡ false = (λ i. misses m (slot.Member (sym c.get-2.ensures.value i) (sym c.get-3.ensures.value i))) ∙ (sym c.misses-2.ensures ∙ c.if-misses-2.false) in
    let registered : list_any (λ e. not (is_registered m e)) (members_of c.args.stored.now l) ≡ false = ap (list_any (λ e. not (is_registered m e))) (sym all) ∙ (sym c.has_stranger.ensures ∙ c.if-has_stranger.false) in
    let drawn : is_drawn_wrong c.args.kind c.args.order.now (members_of c.args.stored.now l) ≡ false = ap (is_drawn_wrong c.args.kind c.args.order.now) (sym all) ∙ (sym c.is_drawn_wrong.ensures ∙ c.if-is_drawn_wrong.false) in
    let on_time : list_any (λ e. not (plays_from m c.args.start e)) c.args.order.now ≡ false = sym c.has_latecomer.ensures ∙ c.if-has_latecomer.false in
    let numbered : has_gap m l (slot.League (l - 1)) ≡ false = (λ i. has_gap m (sym c.get-4.ensures.value i) (slot.League (sym c.get-5.ensures.value i - 1))) ∙ (sym c.has_gap.ensures ∙ c.if-has_gap.false) in
    rw (start, creator, there, member, registered, drawn, on_time, numbered) (c.is_full.ensures ∙ ap (λ n. is_full c.args.stored.now most_leagues (slot.League 0) (slot.League n)) c.get-6.ensures.value)
