use Rattle.std.proofs.Common.{◌≡◌, ◌∙◌, None, ap₂, subst}
use Rattle.fpl_base.specs.Rows.{IsPlace}
use Rattle.season_records.specs.Keys.{key_of}
use Rattle.season_records.specs.declared.slot.Slot.TheVariants as slot
use Rattle.stored_records.proofs.Numbers.{FoundAt, OtherAt, next_of, none_of}
use Rattle.stored_records.proofs.stored.Stored.next_number.Goals as goal

pub returns-clause-next : goal.returns-clause-next
returns-clause-next c =
    let at = c.place_of-place.result in
    let rows = c.as_slice.result.now in
    let gameweek : c.from-gameweek.result ≡ c.args.gameweek = c.from-gameweek.ensures ∙ c.get.ensures.value in
    let key : c.key.result ≡ key_of (slot.Transfer c.args.entry c.args.gameweek c.args.from)
    = c.key.ensures ∙ ap₂ (λ e g. key_of (slot.Transfer e g c.args.from)) c.get-2.ensures.value gameweek in
    let place = subst (λ k. IsPlace c.args.self.now k at) key c.place_of-place.ensures in
    let rise = c.as_slice.ensures.rise in
    let of_entry = subst (λ e. FoundAt at c.number_at.result rows e c.from-gameweek.result) c.get-3.ensures.value c.number_at.ensures.there in
    let of_gameweek = subst (λ g. FoundAt at c.number_at.result rows c.args.entry g) gameweek of_entry in
    let found = subst (λ all. FoundAt at c.number_at.result all c.args.entry c.args.gameweek) c.as_slice.ensures.rows of_gameweek in
    next_of c.args.self.now c.args.entry c.args.gameweek c.args.from at rise place c.number_at.result found

pub returns-clause-end : goal.returns-clause-end
returns-clause-end c =
    let at = c.place_of-place.result in
    let rows = c.as_slice.result.now in
    let gameweek : c.from-gameweek.result ≡ c.args.gameweek = c.from-gameweek.ensures ∙ c.get.ensures.value in
    let key : c.key.result ≡ key_of (slot.Transfer c.args.entry c.args.gameweek c.args.from)
    = c.key.ensures ∙ ap₂ (λ e g. key_of (slot.Transfer e g c.args.from)) c.get-2.ensures.value gameweek in
    let place = subst (λ k. IsPlace c.args.self.now k at) key c.place_of-place.ensures in
    let rise = c.as_slice.ensures.rise in
    let of_entry = subst (λ e. c.number_at.result ≡ None → OtherAt at rows e c.from-gameweek.result) c.get-3.ensures.value c.number_at.ensures.away in
    let of_gameweek = subst (λ g. c.number_at.result ≡ None → OtherAt at rows c.args.entry g) gameweek of_entry in
    let other = subst (λ all. c.number_at.result ≡ None → OtherAt at all c.args.entry c.args.gameweek) c.as_slice.ensures.rows of_gameweek in
    none_of c.args.self.now c.args.entry c.args.gameweek c.args.from at rise place c.number_at.result other
