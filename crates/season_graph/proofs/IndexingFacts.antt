-- Who holds whom in the gameweeks that are locked.
use Rattle.std.proofs.Common.{◌≡◌, ℕ, ◌+◌, ◌-◌, ◌<◌, ◌≤◌, nat_le, Bool, true, ◌&&◌, inl, inr, ⊎_elim, List, [], ◌∷◌, ◌++◌, map, sym, ◌∙◌, ap, subst, arith}
use Rattle.std.proofs.lemmas.Bool.Decides.{nat_tests, leb_tells}
use Rattle.std.proofs.lemmas.List.{map-append}
use Rattle.rule_book.specs.declared.team.Pick.{Pick}
use Rattle.rule_book.specs.declared.team.Team.{Team}
use Rattle.rescore_graph.specs.Graph.{Among}
use Rattle.rescore_graph.proofs.ProgressFacts.{among_last, among_more, among_push}
use Rattle.season_graph.specs.Changes.{DifferInLocks, EntriesStay}
use Rattle.season_graph.specs.Indexed.{EntryIndexed, IndexKept, LocksIndexed, PicksIndexed, TeamIndexed}
use Rattle.season_nodes.specs.IndexFacts.{HasHolders, HasMore, Holds, IndexRows, IsIndex, holders_in}
use Rattle.season_nodes.specs.Season.{SeasonFacts}
use Rattle.season_nodes.proofs.IndexLemmas.{IsOne, both_more, none_more, one_more, same_more}
use Rattle.season_graph.proofs.LockFacts.{before}
use Rattle.season_graph.proofs.TeamFacts.{team_alive, team_live}

at_most : (h n : ℕ) → nat_le h n ≡ true → h ≤ n
at_most h n e = grind (arith, nat_tests)

above_0 : (h : ℕ) → nat_le 1 h ≡ true → 0 < h
above_0 h e = grind (arith, nat_tests)

abbrev ids : List Pick → List ℕ
ids picks = map (λ pick. pick.player) picks

-- one player more
pub picks_more : (old new newer : IndexRows) (e g : ℕ) (picks : List Pick) (pick : Pick) → PicksIndexed e g picks old new → HasHolders new newer pick.player g (holders_in new pick.player g ++ e ∷ []) → PicksIndexed e g (picks ++ pick ∷ []) old newer
picks_more old new newer e g picks pick so_far held =
    both_more old new newer
    (λ p h x. (x ≡ e) × (h ≡ g) × Among (ids picks) p) (IsOne pick.player g e) (λ p h x. (x ≡ e) × (h ≡ g) × Among (ids (picks ++ pick ∷ [])) p)
    (λ p h x. (
      (λ r. ⊎_elim (λ a. inl (r.0, r.1, a)) (λ i. inr (sym i, r.1, r.0)) (among_push (ids picks) pick.player p (subst (λ ns. Among ns p) (map-append (λ k. k.player) picks (pick ∷ [])) r.2))),
      (λ o. ⊎_elim
          (λ r. (r.0, r.1, subst (λ ns. Among ns p) (sym (map-append (λ k. k.player) picks (pick ∷ []))) (among_more (ids picks) pick.player p r.2)))
          (λ r. (r.2, r.1, subst (λ ns. Among ns p) (sym (map-append (λ k. k.player) picks (pick ∷ []))) (subst (λ k. Among (ids picks ++ pick.player ∷ []) k) (sym r.0) (among_last (ids picks) pick.player))))
          o),
    ))
    so_far (one_more new newer pick.player g e held)

-- no player yet
pub picks_none : (old : IndexRows) (e g : ℕ) → PicksIndexed e g [] old old
picks_none old e g = none_more old (λ p h x. (x ≡ e) × (h ≡ g) × Among (ids []) p) (λ p h x r. r.2)

module _ (d : SeasonFacts) where
  -- whom an entry holds in so many gameweeks behind the first ones
  abbrev pub SomeIndexed : ℕ → ℕ → ℕ → IndexRows → IndexRows → Type 0
  SomeIndexed e first n old new = HasMore old new (λ p h x. (x ≡ e) × (first < h) × (h ≤ first + n) × Holds d p h x)

  pub gameweeks_none : (old : IndexRows) (e first : ℕ) → SomeIndexed e first 0 old old
  gameweeks_none old e first = none_more old (λ p h x. (x ≡ e) × (first < h) × (h ≤ first + 0) × Holds d p h x) (λ p h x r. empty h r.1 r.2)
    where
      empty : (h : ℕ) → first < h → h ≤ first + 0 → ⊥
      empty h low high = omega arith

  pub gameweeks_more : (old new newer : IndexRows) (e first n : ℕ) → SomeIndexed e first n old new → TeamIndexed d e (first + n + 1) new newer → SomeIndexed e first (n + 1) old newer
  gameweeks_more old new newer e first n so_far one =
      both_more old new newer (λ p h x. (x ≡ e) × (first < h) × (h ≤ first + n) × Holds d p h x) (λ p h x. (x ≡ e) × (h ≡ first + n + 1) × Holds d p h x) (λ p h x. (x ≡ e) × (first < h) × (h ≤ first + (n + 1)) × Holds d p h x)
      (λ p h x. (
        (λ r. ⊎_elim (λ a. inl (r.0, r.1, a.1, r.3)) (λ a. inr (r.0, next h a.1 r.2, r.3)) (leb_tells h (first + n))),
        (λ o. ⊎_elim (λ r. (r.0, r.1, further h r.2, r.3)) (λ r. (r.0, behind h r.1, up_to h r.1, r.2)) o),
      ))
      so_far one
    where
      next : (h : ℕ) → first + n < h → h ≤ first + (n + 1) → h ≡ first + n + 1
      next h low high = omega arith

      further : (h : ℕ) → h ≤ first + n → h ≤ first + (n + 1)
      further h high = omega arith

      behind : (h : ℕ) → h ≡ first + n + 1 → first < h
      behind h i = omega arith

      up_to : (h : ℕ) → h ≡ first + n + 1 → h ≤ first + (n + 1)
      up_to h i = omega arith

  pub gameweeks_whole : (old new : IndexRows) (e first n : ℕ) → d.calendar.locked - first ≤ n → SomeIndexed e first n old new → EntryIndexed d e first old new
  gameweeks_whole old new e first n all so_far =
      same_more old new (λ p h x. (x ≡ e) × (first < h) × (h ≤ first + n) × Holds d p h x) (λ p h x. (x ≡ e) × (first < h) × Holds d p h x)
      (λ p h x. (
        (λ r. (r.0, r.1, r.3)),
        (λ r. let alive = team_alive d x h r.2.0 in (r.0, r.1, reach h (at_most h d.calendar.locked alive.3), r.2)),
      ))
      so_far
    where
      reach : (h : ℕ) → h ≤ d.calendar.locked → h ≤ first + n
      reach h high = omega arith

  -- whom the first so many entries hold
  abbrev pub FirstIndexed : ℕ → ℕ → IndexRows → IndexRows → Type 0
  FirstIndexed first n old new = HasMore old new (λ p h x. (x ≤ n) × (first < h) × Holds d p h x)

  pub entries_none : (old : IndexRows) (first : ℕ) → FirstIndexed first 0 old old
  entries_none old first = none_more old (λ p h x. (x ≤ 0) × (first < h) × Holds d p h x) (λ p h x r. empty x r.0 (team_alive d x h r.2.0).0)
    where
      empty : (x : ℕ) → x ≤ 0 → 1 ≤ x → ⊥
      empty x low high = omega arith

  pub entries_more : (old new newer : IndexRows) (first n : ℕ) → FirstIndexed first n old new → EntryIndexed d (n + 1) first new newer → FirstIndexed first (n + 1) old newer
  entries_more old new newer first n so_far one =
      both_more old new newer (λ p h x. (x ≤ n) × (first < h) × Holds d p h x) (λ p h x. (x ≡ n + 1) × (first < h) × Holds d p h x) (λ p h x. (x ≤ n + 1) × (first < h) × Holds d p h x)
      (λ p h x. (
        (λ r. ⊎_elim (λ a. inl (a.1, r.1, r.2)) (λ a. inr (next x a.1 r.0, r.1, r.2)) (leb_tells x n)),
        (λ o. ⊎_elim (λ r. (further x r.0, r.1, r.2)) (λ r. (up_to x r.0, r.1, r.2)) o),
      ))
      so_far one
    where
      next : (x : ℕ) → n < x → x ≤ n + 1 → x ≡ n + 1
      next x low high = omega arith

      further : (x : ℕ) → x ≤ n → x ≤ n + 1
      further x high = omega arith

      up_to : (x : ℕ) → x ≡ n + 1 → x ≤ n + 1
      up_to x i = omega arith

  pub entries_whole : (old new : IndexRows) (first n : ℕ) → d.entries ≤ n → FirstIndexed first n old new → LocksIndexed d first old new
  entries_whole old new first n all so_far =
      same_more old new (λ p h x. (x ≤ n) × (first < h) × Holds d p h x) (λ p h x. (first < h) × Holds d p h x)
      (λ p h x. ((λ r. (r.1, r.2)), (λ r. (reach x (team_alive d x h r.1.0).1, r.0, r.1))))
      so_far
    where
      reach : (x : ℕ) → x ≤ d.entries → x ≤ n
      reach x high = omega arith

  -- an index made from nothing is right
  pub index_whole : (new : IndexRows) → LocksIndexed d 0 [] new → IsIndex d (holders_in new)
  index_whole new more p g e = (
    (λ a. ⊎_elim (λ o. absurd o) (λ r. r.1) ((more p g e).0 a)),
    (λ h. (more p g e).1 (inr (above_0 g (team_alive d e g h.0).2, h))),
  )

-- what an entry held it holds still
stays_held : (b d : SeasonFacts) (stay : EntriesStay b d) (p g e : ℕ) → nat_le g b.calendar.locked ≡ nat_le g d.calendar.locked → Holds b p g e → Holds d p g e
stays_held b d stay p g e same h = (sym (team_live b d stay e g same) ∙ h.0, subst (λ (t : Team). Among (ids t.picks) p) (stay.team e g h.0) h.1)

held_before : (b d : SeasonFacts) (stay : EntriesStay b d) (p g e : ℕ) → nat_le g b.calendar.locked ≡ nat_le g d.calendar.locked → Holds d p g e → Holds b p g e
held_before b d stay p g e same h = let live = team_live b d stay e g same ∙ h.0 in (live, subst (λ (t : Team). Among (ids t.picks) p) (sym (stay.team e g live)) h.1)

-- an index follows locks
module _ (b d : SeasonFacts) (first : ℕ) (c : DifferInLocks b d first) (old new : IndexRows) (more : LocksIndexed d first old new) where
  was_locked : (p g e : ℕ) → Holds b p g e → g ≤ first
  was_locked p g e h = subst (λ n. g ≤ n) c.before (at_most g b.calendar.locked (team_alive b e g h.0).3)

  pub lock_index : IsIndex b (holders_in old) → IsIndex d (holders_in new)
  lock_index is p g e = (
    (λ a. ⊎_elim (λ o. let h = (is p g e).0 o in stays_held b d c.entries p g e (before b d first c g (was_locked p g e h)) h) (λ r. r.1) ((more p g e).0 a)),
    (λ h. (more p g e).1 (⊎_elim (λ a. inl ((is p g e).1 (held_before b d c.entries p g e (before b d first c g a.1) h))) (λ a. inr (a.1, h)) (leb_tells g first))),
  )

pub lock_keeps : (d : SeasonFacts) (first : ℕ) (old new : IndexRows) → LocksIndexed d first old new → IndexKept first old new
lock_keeps d first old new more p g e low = ((λ a. ⊎_elim (λ o. o) (λ r. absurd (not_both r.0 low)) ((more p g e).0 a)), (λ a. (more p g e).1 (inl a)))
  where
    not_both : first < g → g ≤ first → ⊥
    not_both x y = omega arith

-- and stays as it is where nothing is locked
pub index_is_kept : (b d : SeasonFacts) (holders : ℕ → ℕ → List ℕ) → b.calendar.locked ≡ d.calendar.locked → EntriesStay b d → IsIndex b holders → IsIndex d holders
index_is_kept b d holders locked stay is p g e = (
  (λ a. stays_held b d stay p g e (ap (nat_le g) locked) ((is p g e).0 a)),
  (λ h. (is p g e).1 (held_before b d stay p g e (ap (nat_le g) locked) h)),
)
