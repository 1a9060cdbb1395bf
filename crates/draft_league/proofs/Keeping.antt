-- What holds of every draft league is kept.
use Rattle.std.proofs.Common.{◌≡◌, ◌∙◌, ◌+◌, ◌*◌, ◌≤◌, ◌<◌, ℕ, Bool, true, false, ltb, List, [], ◌∷◌, ◌++◌, length, length-append, Option, Some, None, ap, arith, refl, sym, subst, cond, ◌-◌, ◌/◌, ◌%◌, eqb}
use Rattle.std.specs.List.{AllByRecursion as Each}
use Rattle.std.proofs.lemmas.Bool.{leb-false, leb-true, ltb-true}
use Rattle.fpl_base.specs.declared.kinds.Position.{Position}
use Rattle.draft_league.specs.Holdings.{count_in, number_in, owner_in, squad_in}
use Rattle.draft_league.specs.Kept.{AreFair, IsLeague, IsMember}
use Rattle.draft_league.specs.Leagues.{HasFullSquads, HasOneOwners, League, bids_for, first_table, held_at, held_now, is_over, picked, table_now, turn, waived}
use Rattle.draft_league.specs.Rules.{next_member, pick_refusal, pick_refused, waive_refusal, waive_refused}
use Rattle.draft_league.specs.Settling.{HasTurn, IsSettled}
use Rattle.draft_league.specs.declared.draft.Settled.{Settled}
use Rattle.draft_league.specs.declared.rule.DraftRule.TheVariants.{DraftOpen, DraftOver, Owned, PositionFull}
use Rattle.draft_league.specs.Waivers.{Table, after_all}
use Rattle.draft_league.specs.declared.kinds.Bid.{Bid}
use Rattle.draft_league.specs.declared.kinds.Holding.{Holding}
use Rattle.draft_league.specs.declared.kinds.Outcome.{Outcome}
use Rattle.draft_league.proofs.HoldingLemmas.{apart_push, room_push}
use Rattle.draft_league.proofs.Settlings.{each_filter, each_on}
use Rattle.draft_league.proofs.Squads.{fifteen_in, full_squads}
use Rattle.draft_league.proofs.Tables.{after_all-append, apart_after_all, apart_by, count_by_week, fair_append, turn_after_all, turn_first}

-- what holds of a league tells that nobody has two owners, and that squads are full
pub owners_apart : (league : League) (held : List Holding) → IsLeague league held → HasOneOwners league
owners_apart league held is = record {
  now = apart_after_all (first_table league) league.past is.fair is.apart;
  at = λ g. apart_by g (first_table league) league.past is.fair is.apart;
}

pub squads_full : (league : League) (held : List Holding) → IsLeague league held → HasFullSquads league
squads_full league held is over g member position low high =
    count_by_week g (first_table league) league.past member position
    ∙ full_squads league.members league.drafted is.owners is.room (leb-true (15 * league.members) (length league.drafted) over) member position low high

pub squad_of_fifteen : (league : League) (held : List Holding) → IsLeague league held → is_over league ≡ true → (g member : ℕ) → IsMember league.members member
    → length (squad_in (held_at league g) member) ≡ 15
squad_of_fifteen league held is over g member own =
    fifteen_in (held_at league g) member (λ position. squads_full league held is over g member position own.0 own.1)

each_holding_push : (P : Holding → Type 0) (held : List Holding) (one : Holding) → Each P held → P one → Each P (held ++ one ∷ [])
each_holding_push P [] one each last = (last, tt)
each_holding_push P (holding ∷ held) one each last = (each.0, each_holding_push P held one each.1 last)

-- while the draft is open the picks are what is held
pub held_as_drafted : (league : League) (held : List Holding) → IsLeague league held → is_over league ≡ false → held_now league ≡ league.drafted
held_as_drafted league held is still_open = ap (λ (past : List Outcome). (after_all (first_table league) past).held) (is.begun still_open)

pub picked_keeps : (league : League) (held : List Holding) (player : ℕ) (position : Position) → IsLeague league held → is_over league ≡ false
    → owner_in (held_now league) player ≡ None → count_in (held_now league) (next_member league) position < number_in position
    → IsMember league.members (next_member league)
    → IsLeague (picked league player position) (held ++ (record { player = player; position = position; member = next_member league }) ∷ [])
picked_keeps league held player position is still_open free fits own =
    let one : Holding = record { player = player; position = position; member = next_member league } in
    let drafted = held_as_drafted league held is still_open in
    let begun = is.begun still_open in
    let short : length league.drafted < 15 * league.members = leb-false (15 * league.members) (length league.drafted) still_open in
    record {
      few = is.few;
      picks = omega (arith, short, length-append league.drafted (one ∷ []));
      owners = each_holding_push (λ (holding : Holding). IsMember league.members holding.member) league.drafted one is.owners own;
      room = room_push league.drafted one (subst (λ (h : List Holding). count_in h (next_member league) position < number_in position) drafted fits) is.room;
      apart = apart_push league.drafted one is.apart (subst (λ (h : List Holding). owner_in h player ≡ None) drafted free);
      held_is =
          ap (λ (h : List Holding). h ++ one ∷ []) (is.held_is ∙ drafted)
          ∙ sym (ap (λ (past : List Outcome). (after_all (first_table (picked league player position)) past).held) begun);
      fair = subst (λ (past : List Outcome). AreFair (first_table (picked league player position)) past) (sym begun) tt;
      begun = λ still. begun;
      bidders = is.bidders;
    }

pub waived_keeps : (league : League) (held now : List Holding) (g : ℕ) (outcomes : List Outcome) → IsLeague league held → is_over league ≡ true
    → now ≡ held_now (waived league g outcomes) → AreFair (first_table league) (league.past ++ outcomes) → IsLeague (waived league g outcomes) now
waived_keeps league held now g outcomes is over held_is fair = record {
  few = is.few;
  picks = is.picks;
  owners = is.owners;
  room = is.room;
  apart = is.apart;
  held_is = held_is;
  fair = fair;
  begun = λ still_open. absurd (true_false (sym over ∙ still_open));
  bidders = each_filter (λ (b : Bid). IsMember league.members b.member) (λ (b : Bid). ltb g b.gw) league.waiting is.bidders;
}
  where
    true_false : true ≡ false → ⊥
    true_false is = cc

-- the one whose turn it is is a member
turn_up : (members pick : ℕ) → 2 ≤ members → IsMember members (pick % members + 1)
turn_up members pick low = (omega arith, omega arith)

turn_down : (members pick : ℕ) → 2 ≤ members → IsMember members (members - pick % members)
turn_down members pick low = (omega arith, omega arith)

pub turn_is_member : (members pick : ℕ) → 2 ≤ members → IsMember members (turn members pick)
turn_is_member members pick low =
    elim (eqb ((pick / members) % 2) 0) as (λ b. IsMember members (cond b (pick % members + 1) (members - pick % members)))
    [ true ↦ turn_up members pick low | false ↦ turn_down members pick low ]

-- each waiting bid is of a member who has a turn
pub turns_stand : (league : League) (held : List Holding) → IsLeague league held → (g : ℕ)
    → Each (λ (bid : Bid). HasTurn (table_now league).order bid.member) (bids_for g league.waiting)
turns_stand league held is g =
    each_filter (λ (bid : Bid). HasTurn (table_now league).order bid.member) (λ (bid : Bid). eqb bid.gw g) league.waiting
    (each_on (λ (bid : Bid). IsMember league.members bid.member) (λ (bid : Bid). HasTurn (table_now league).order bid.member)
    (λ bid own. turn_after_all (first_table league) league.past bid.member (turn_first league.members bid.member own.0 own.1)) league.waiting is.bidders)

-- ---- what is not refused

none_some : {X : Type 0} (x : X) → Some x ≡ None → ⊥
none_some x is = cc

-- a pick that no rule refuses
pub record IsFree (league : League) (player : ℕ) (position : Position) : Type 0 where
  pub not_over : is_over league ≡ false
  pub unowned : owner_in (held_now league) player ≡ None
  pub fits : count_in (held_now league) (next_member league) position < number_in position

pub pick_allowed : (league : League) (player : ℕ) (position : Position) → pick_refusal league player position ≡ None → IsFree league player position
pick_allowed league player position is =
    by (is_over league) (owner_in (held_now league) player) (ltb (count_in (held_now league) (next_member league) position) (number_in position)) refl refl refl is
  where
    by : (over : Bool) (owner : Option ℕ) (fits : Bool) → is_over league ≡ over → owner_in (held_now league) player ≡ owner
        → ltb (count_in (held_now league) (next_member league) position) (number_in position) ≡ fits
        → pick_refused over owner fits ≡ None → IsFree league player position
    by true owner fits e f h is = absurd (none_some DraftOver is)
    by false (Some owner) fits e f h is = absurd (none_some (Owned owner) is)
    by false None false e f h is = absurd (none_some PositionFull is)
    by false None true e f h is =
        record { not_over = e; unowned = f; fits = ltb-true (count_in (held_now league) (next_member league) position) (number_in position) h }

pub waive_allowed : (league : League) (g : ℕ) → waive_refusal league g ≡ None → is_over league ≡ true
waive_allowed league g is = by (is_over league) refl is
  where
    by : (over : Bool) → is_over league ≡ over → waive_refused league.last g over ≡ None → is_over league ≡ true
    by true e is = e
    by false e is = absurd (none_some DraftOpen is)

-- ---- what the waivers of a gameweek leave

pub settled_league : (league : League) (held now : List Holding) (g : ℕ) (outcomes : List Outcome) → IsLeague league held
    → AreFair (table_now league) outcomes → now ≡ (after_all (table_now league) outcomes).held → (now ≡ held_now (waived league g outcomes)) × AreFair (first_table league) (league.past ++ outcomes)
settled_league league held now g outcomes is fair now_is = (
  now_is ∙ sym (ap (λ (t : Table). t.held) (after_all-append (first_table league) league.past outcomes)),
  fair_append (first_table league) league.past outcomes is.fair fair,
)

-- ---- what a call leaves

pub pick_leaves : (league : League) (held drafted_now held_then : List Holding) (one : Holding) (player : ℕ) (position : Position) → IsLeague league held
    → pick_refusal league player position ≡ None → drafted_now ≡ league.drafted ++ one ∷ [] → held_then ≡ held ++ one ∷ []
    → one ≡ (record { player = player; position = position; member = next_member league }) → IsLeague (record league { drafted = drafted_now }) held_then
pick_leaves league held drafted_now held_then one player position is none drafted_is held_is one_is =
    let free = pick_allowed league player position none in
    let kept = picked_keeps league held player position is free.not_over free.unowned free.fits (turn_is_member league.members (length league.drafted) is.few.0) in
    subst (λ (d : List Holding). IsLeague (record league { drafted = d }) held_then) (sym (drafted_is ∙ ap (λ (h : Holding). league.drafted ++ h ∷ []) one_is))
    (subst (λ (h : List Holding). IsLeague (picked league player position) h) (sym (held_is ∙ ap (λ (h : Holding). held ++ h ∷ []) one_is)) kept)

pub waive_leaves : (league : League) (held : List Holding) (g : ℕ) (settled : Settled) → IsLeague league held → waive_refusal league g ≡ None → IsSettled league g settled
    → IsLeague (record league { past = settled.past.items; waiting = settled.waiting.items; last = Some g }) settled.held.items
waive_leaves league held g settled is none does =
    let fair = subst (λ (past : List Outcome). AreFair (first_table league) past) does.past does.fair in
    let kept = waived_keeps league held settled.held.items g settled.outcomes.items is (waive_allowed league g none) does.held fair in
    subst (λ (past : List Outcome). IsLeague (record league { past = past; waiting = settled.waiting.items; last = Some g }) settled.held.items) (sym does.past)
    (subst (λ (waiting : List Bid). IsLeague (record league { past = league.past ++ settled.outcomes.items; waiting = waiting; last = Some g }) settled.held.items) (sym does.waiting) kept)
