use Rattle.std.proofs.Common.{◌≡◌, ◌<◌, ◌+◌, ◌-◌, ◌*◌, ◌/◌, ◌%◌, ℕ, sym, refl, subst, inl, inr, arith}
use Rattle.std.proofs.Math.Nat.{mod-lt}
use Rattle.rule_book.specs.Pairings.{Meets}
use Rattle.leagues_and_cups.proofs.RoundLemmas.{Linear, Wraps, from_linear, last_meets, other_meets, self_meets}
use Rattle.leagues_and_cups.proofs.opponents.met_place.Goals.{then-place-turn, else-place-turn}
use Rattle.leagues_and_cups.proofs.opponents.met_place.Goals as goal

-- the last place's
last_place : (n k i j : ℕ) → n % 2 ≡ 0 → 0 < n → i ≡ n - 1 → Wraps (n - 1) (k % (n - 1)) (2 * j) → k % (n - 1) < n - 1 → Meets n k i j
last_place n k i j even some is e less =
    from_linear n k i j (k % (n - 1)) refl less
    (subst (λ t. Linear (n - 1) (k % (n - 1)) t j) (sym is) (last_meets (n - 1) (k % (n - 1)) j (n / 2 - 1) (omega arith) less e))

pub returns-else-turn-eq0-clause-meets : goal.returns-else-turn-eq0-clause-meets
returns-else-turn-eq0-clause-meets c =
    let n = c.args.count in
    let less : c.args.round % (n - 1) < n - 1 = mod-lt c.args.round (omega arith) in
    last_place n c.args.round c.args.place _ c.requires.even c.requires.some c.if-place-last.true (inr (omega arith)) less

pub returns-then-other-place-clause-meets : goal.returns-then-other-place-clause-meets
returns-then-other-place-clause-meets c =
    let n = c.args.count in
    let w = c.args.round % (n - 1) in
    let less : w < n - 1 = mod-lt c.args.round (omega arith) in
    let wraps : Wraps (n - 1) w (c.args.place + c.if-place-turn.other) =
    elim c.if-place-turn.branch [ then-place-turn w ↦ inl (omega arith) | else-place-turn w ↦ inr (omega arith) ] in
    from_linear n c.args.round c.args.place (n - 1) w refl less
    (self_meets (n - 1) w c.args.place c.if-place-turn.other (omega arith) c.if-other-place.true wraps)

pub returns-else-other-place-clause-meets : goal.returns-else-other-place-clause-meets
returns-else-other-place-clause-meets c =
    let n = c.args.count in
    let w = c.args.round % (n - 1) in
    let less : w < n - 1 = mod-lt c.args.round (omega arith) in
    let wraps : Wraps (n - 1) w (c.args.place + c.if-place-turn.other) =
    elim c.if-place-turn.branch [ then-place-turn v ↦ inl (omega arith) | else-place-turn v ↦ inr (omega arith) ] in
    let low : c.if-place-turn.other < n - 1 =
    elim c.if-place-turn.branch [ then-place-turn v ↦ omega arith | else-place-turn v ↦ omega arith ] in
    from_linear n c.args.round c.args.place c.if-place-turn.other w refl less
    (other_meets (n - 1) w c.args.place c.if-place-turn.other (omega arith) low (λ q. c.if-other-place.false (sym q)) wraps)
