use Rattle.std.proofs.Common.{◌≡◌, ◌<◌, ◌+◌, ◌-◌, ◌^◌, ◌∙◌, ◌==◌, ◌&&◌, ℕ, true, false, not, cond, ap, sym, subst, take}
use Rattle.season_book.specs.Elements.{is_picked}
use Rattle.bootstrap_window.specs.Tables.{count_in}
use Rattle.season_views.proofs.Numbered.{stands}
use Rattle.bootstrap_window.proofs.PicksHeld.{counted_now, not_again}
use Rattle.bootstrap_window.proofs.holders.count_pick.Goals as goal

pub count_player-requires : goal.count_player-requires
count_player-requires c =
    let picks = c.args.picks.now in
    let place = c.args.place in
    let at = stands picks place c.requires.there in
    let is = c.player_at-player.ensures at.0 at.1 in
    let free : is_picked (take place picks) at.0.player ≡ false = ap (is_picked (take place picks)) (sym is) ∙ sym c.stands_before.ensures ∙ c.if-stands_before.false in
    subst (λ q. count_in c.args.counts.now q < 2 ^ 32 - 1) (sym is) (c.requires.few at.0 at.1 free)

pub returns-then-stands_before : goal.returns-then-stands_before
returns-then-stands_before c = λ p pick at.
    let before = take c.args.place c.args.picks.now in
    let is = c.player_at-player.ensures pick at in
    let there : is_picked before pick.player ≡ true = ap (is_picked before) (sym is) ∙ sym c.stands_before.ensures ∙ c.if-stands_before.true in
    not_again before pick.player p (count_in c.args.counts.now p) there

pub returns : goal.returns
returns c = λ p pick at.
    let before = take c.args.place c.args.picks.now in
    let player = c.player_at-player.result in
    let is = c.player_at-player.ensures pick at in
    let free : is_picked before player ≡ false = sym c.stands_before.ensures ∙ c.if-stands_before.false in
    let old : ℕ → ℕ = count_in c.args.counts.now in
    let new : ℕ → ℕ = count_in c.count_player.new.counts in
    subst (λ q. new p ≡ old p + cond ((q == p) && not (is_picked before p)) 1 0) is
    (counted_now before player p old new free c.in_ok-count_player.ensures.own c.in_ok-count_player.ensures.others)
