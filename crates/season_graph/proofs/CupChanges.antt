-- What a drawn cup leaves.
use Rattle.std.proofs.Common.{◌≡◌, ℕ, zero, suc, ◌+◌, ◌-◌, ◌<◌, ◌≤◌, ◌/◌, ◌^◌, ◌==◌, nat_le, nat_lt, Bool, true, false, ◌&&◌, if◌then◌else◌, ◌⊎◌, inl, inr, ⊎_elim, List, [], ◌∷◌, ◌++◌, length, Some, None, refl, sym, ◌∙◌, ap, subst, arith}
use Rattle.std.specs.List.{slice_get}
use Rattle.std.specs.Option.{unwrap_or}
use Rattle.std.proofs.lemmas.Bool.Decides.{leb_tells, nat_tests}
use Rattle.std.proofs.lemmas.Nat.{shr_le}
use Rattle.std.proofs.lemmas.Option.{same_Some}
use Rattle.rule_book.specs.Entries.{entry_in}
use Rattle.rule_book.specs.declared.cup.Bracket.{Bracket}
use Rattle.leagues_and_cups.specs.Shapes.{HasShape}
use Rattle.season_graph.specs.BookChanges.{CupIsDrawn, with_cups}
use Rattle.season_graph.specs.Changes.{IsIdle}
use Rattle.season_nodes.specs.declared.nodes.Node.TheVariants as node
use Rattle.season_nodes.specs.Brackets.{AreBrackets, bracket_in, no_bracket, ties_after}
use Rattle.season_nodes.specs.Season.{SeasonFacts, bracket_of, is_live, is_played}
use Rattle.season_graph.proofs.ChangedFacts.{same_or_not}
use Rattle.season_graph.proofs.LeagueChanges.{entry_past, entry_pushed}

beyond : (h n : ℕ) → n < h → nat_le h n ≡ false
beyond h n e = ⊎_elim (λ a. let x : h ≤ n = a.1 in absurd (omega arith)) (λ a. a.0) (leb_tells h n)

not_below : (h n : ℕ) → n ≤ h → nat_lt h n ≡ false
not_below h n e = grind (arith, nat_tests)

not_zero : (n : ℕ) → ((n + 1) == 0) ≡ false
not_zero n = grind (arith, nat_tests)

and_false : (x y : Bool) → y ≡ false → (x && y) ≡ false
and_false true y e = e
and_false false y e = refl

last_there : (xs : List Bracket) (x : Bracket) (i : ℕ) → i ≡ length xs → slice_get (xs ++ x ∷ []) i ≡ Some x
last_there [] x zero e = refl
last_there [] x (suc i) e = absurd (omega (arith, e))
last_there (y ∷ ys) x zero e = absurd (omega (arith, e))
last_there (y ∷ ys) x (suc i) e = last_there ys x i (omega (arith, e))

-- the one that is added is there
last_in : (cups : List Bracket) (x : Bracket) → entry_in (cups ++ x ∷ []) (length cups + 1) ≡ Some x
last_in cups x =
    ap (λ t. if t then None else slice_get (cups ++ x ∷ []) ((length cups + 1) - 1)) (not_zero (length cups))
    ∙ last_there cups x ((length cups + 1) - 1) (omega arith)

-- where there is no cup there are no ties
none_live : (b : SeasonFacts) (c r i : ℕ) → bracket_of b c ≡ no_bracket → is_live b (node.Tie c r i) ≡ false
none_live b c r i none =
    let few : 0 / 2 ^ (r + 1) ≤ 0 = shr_le 0 (r + 1) in
    let past : ties_after no_bracket r ≤ i = omega (arith, few) in
    and_false (is_played b c r) (nat_lt i (ties_after (bracket_of b c) r)) (ap (λ (x : Bracket). nat_lt i (ties_after x r)) none ∙ not_below i (ties_after no_bracket r) past)

-- a cup that has not started has none in a locked gameweek
early_live : (d : SeasonFacts) (c r i : ℕ) (bracket : Bracket) → bracket_of d c ≡ bracket → d.calendar.locked < bracket.start → is_live d (node.Tie c r i) ≡ false
early_live d c r i bracket is late =
    let test = nat_lt i (ties_after (bracket_of d c) r) in
    ap (λ (x : Bracket). nat_le (x.start + r) d.calendar.locked && test) is
    ∙ ap (λ t. t && test) (beyond (bracket.start + r) d.calendar.locked (omega (arith, late)))

pub cup_is_drawn : CupIsDrawn
cup_is_drawn b bracket is shape late = (
  record { calendar = is.calendar; ascending = is.ascending; ranges = is.ranges; there = is.there; orders = is.orders; brackets = brackets },
  record { profile = refl; locked = refl; stand = λ g. refl; lines = λ f q. refl; marks = λ f. refl; there = λ q. refl; positions = λ f q h. refl; leagues = refl; cups = cups; entries = record { begun = λ e g w. refl; team = λ e g l. refl; cost = λ e g l. refl } },
)
  where
    d : SeasonFacts
    d = with_cups b (b.cups ++ bracket ∷ [])

    brackets : AreBrackets (b.cups ++ bracket ∷ [])
    brackets k other at = ⊎_elim
        (λ e. subst HasShape (same_Some bracket other (sym (last_in b.cups bracket) ∙ subst (λ n. entry_in (b.cups ++ bracket ∷ []) n ≡ Some other) e at)) shape)
        (λ n. is.brackets k other (entry_pushed b.cups bracket k n ∙ at))
        (same_or_not k (length b.cups + 1))

    idle : (k : ℕ) → k ≡ length b.cups + 1 → IsIdle b d k
    idle k e r i = (
      none_live b k r i (ap (λ n. bracket_in b.cups n) e ∙ ap (λ o. unwrap_or o no_bracket) (entry_past b.cups)),
      early_live d k r i bracket (ap (λ n. bracket_in (b.cups ++ bracket ∷ []) n) e ∙ ap (λ o. unwrap_or o no_bracket) (last_in b.cups bracket)) late,
    )

    cups : (k : ℕ) → (bracket_of b k ≡ bracket_of d k) ⊎ IsIdle b d k
    cups k = ⊎_elim
        (λ e. inr (idle k e))
        (λ n. inl (ap (λ o. unwrap_or o no_bracket) (entry_pushed b.cups bracket k n)))
        (same_or_not k (length b.cups + 1))
