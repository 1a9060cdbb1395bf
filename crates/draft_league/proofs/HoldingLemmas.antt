-- Who owns whom, and exchanges.
use Rattle.std.proofs.Common.{◌≡◌, ◌∙◌, ◌+◌, ◌≤◌, ◌<◌, ◌⊎◌, ℕ, Bool, true, false, cond, eqb, ◌&&◌, ◌≢◌, List, [], ◌∷◌, ◌++◌, map, All, Some, None, inl, inr, ap, arith, refl, sym, subst}
use Rattle.std.specs.Option.{option_map}
use Rattle.std.specs.List.{find}
use Rattle.std.proofs.lemmas.Bool.{cases_Bool, cases_eq, cond-false, cond-true, eq-eqb, eqb-true, ne_eqb, and_left, and_right}
use Rattle.std.proofs.lemmas.List.Elements.{All-cons, All-nil}
use Rattle.std.proofs.lemmas.List.Kept.{AllPairs-cons}
use Rattle.std.proofs.lemmas.List.Sums.{sum_by-cons, sum_by_push}
use Rattle.rule_book.specs.Ranks.{AllDiffer}
use Rattle.draft_league.specs.Squads.{player_in, players_in}
use Rattle.fpl_base.specs.declared.kinds.Position.{Position}
use Rattle.fpl_base.specs.declared.kinds.Position.TheVariants.{Keeper, Defender, Midfielder, Forward}
use Rattle.draft_league.specs.Holdings.{HasOneOwnerEach, count_in, exchanged, is_position, number_in, owned_in, owner_in, squad_in}
use Rattle.draft_league.specs.declared.kinds.Holding.{Holding}

-- one or nothing
abbrev pub one_if : Bool → ℕ
one_if b = cond {A = ℕ} b 1 0

pub one_at_most : (b : Bool) → one_if b ≤ 1
one_at_most true = omega arith
one_at_most false = omega arith

-- ---- a holding more in front

pub owned_in-cons : (holding : Holding) (held : List Holding) (player : ℕ) → owned_in (holding ∷ held) player ≡ one_if (eqb holding.player player) + owned_in held player
owned_in-cons holding held player = sum_by-cons (λ (h : Holding). one_if (eqb h.player player)) holding held

pub count_in-cons : (holding : Holding) (held : List Holding) (member : ℕ) (position : Position)
    → count_in (holding ∷ held) member position ≡ one_if (eqb holding.member member && is_position position holding.position) + count_in held member position
count_in-cons holding held member position = sum_by-cons (λ (h : Holding). one_if (eqb h.member member && is_position position h.position)) holding held

-- ---- positions

pub same_position : (one other : Position) → is_position one other ≡ true → one ≡ other
same_position Keeper Keeper is = refl
same_position Keeper Defender is = cc
same_position Keeper Midfielder is = cc
same_position Keeper Forward is = cc
same_position Defender Keeper is = cc
same_position Defender Defender is = refl
same_position Defender Midfielder is = cc
same_position Defender Forward is = cc
same_position Midfielder Keeper is = cc
same_position Midfielder Defender is = cc
same_position Midfielder Midfielder is = refl
same_position Midfielder Forward is = cc
same_position Forward Keeper is = cc
same_position Forward Defender is = cc
same_position Forward Midfielder is = cc
same_position Forward Forward is = refl

-- ---- one more holding

none_more : (n : ℕ) → n ≡ 0 → 0 + n ≡ 0
none_more n is = omega arith

pub owned_in-push : (held : List Holding) (one : Holding) (player : ℕ) → owned_in (held ++ one ∷ []) player ≡ owned_in held player + one_if (eqb one.player player)
owned_in-push held one player = sum_by_push (λ (h : Holding). one_if (eqb h.player player)) held one

pub count_in-push : (held : List Holding) (one : Holding) (member : ℕ) (position : Position)
    → count_in (held ++ one ∷ []) member position ≡ count_in held member position + one_if (eqb one.member member && is_position position one.position)
count_in-push held one member position = sum_by_push (λ (h : Holding). one_if (eqb h.member member && is_position position h.position)) held one

-- a player without an owner is owned by nobody
some_none : (n : ℕ) → Some n ≡ None → ⊥
some_none n is = cc

pub owned_by_none : (held : List Holding) (player : ℕ) → owner_in held player ≡ None → owned_in held player ≡ 0
owned_by_none [] player none = refl
owned_by_none (holding ∷ held) player none =
    owned_in-cons holding held player
    ∙ (elim (eqb holding.player player) as (λ b. option_map (λ (h : Holding). h.member) (cond b (Some holding) (find (λ (h : Holding). eqb h.player player) held)) ≡ None → one_if b + owned_in held player ≡ 0)
    [ true ↦ λ is. absurd (some_none holding.member is) | false ↦ λ is. none_more (owned_in held player) (owned_by_none held player is) ]) none

pub apart_push : (held : List Holding) (one : Holding) → HasOneOwnerEach held → owner_in held one.player ≡ None → HasOneOwnerEach (held ++ one ∷ [])
apart_push held one apart free player = by (cases_eq one.player player)
  where
    by : (one.player ≡ player) ⊎ (one.player ≡ player → ⊥) → owned_in (held ++ one ∷ []) player ≤ 1
    by (inl same) =
        let none : owned_in held player ≡ 0 = subst (λ p. owned_in held p ≡ 0) same (owned_by_none held one.player free) in
        omega (arith, none, owned_in-push held one player, one_at_most (eqb one.player player))
    by (inr other) =
        let no : one_if (eqb one.player player) ≡ 0 = cond-false (eqb one.player player) 1 0 (ne_eqb one.player player other) in
        omega (arith, no, apart player, owned_in-push held one player)

pub room_push : (held : List Holding) (one : Holding) → count_in held one.member one.position < number_in one.position
    → ((member : ℕ) (position : Position) → count_in held member position ≤ number_in position)
    → (member : ℕ) (position : Position) → count_in (held ++ one ∷ []) member position ≤ number_in position
room_push held one fits room member position = by (cases_Bool (eqb one.member member)) (cases_Bool (is_position position one.position))
  where
    none : (eqb one.member member && is_position position one.position) ≡ false → count_in (held ++ one ∷ []) member position ≤ number_in position
    none is =
        let no : one_if (eqb one.member member && is_position position one.position) ≡ 0 = cond-false (eqb one.member member && is_position position one.position) 1 0 is in
        omega (arith, no, room member position, count_in-push held one member position)

    by : (eqb one.member member ≡ true) ⊎ (eqb one.member member ≡ false) → (is_position position one.position ≡ true) ⊎ (is_position position one.position ≡ false)
        → count_in (held ++ one ∷ []) member position ≤ number_in position
    by (inl own) (inl same) =
        let fits_here : count_in held member position < number_in position =
        subst (λ m. count_in held m position < number_in position) (eqb-true one.member member own)
        (subst (λ p. count_in held one.member p < number_in p) (sym (same_position position one.position same)) fits) in
        omega (arith, fits_here, count_in-push held one member position, one_at_most (eqb one.member member && is_position position one.position))
    by (inr another) same = none (and_left (eqb one.member member) (is_position position one.position) another)
    by (inl own) (inr another) = none (and_right (eqb one.member member) (is_position position one.position) another)

-- ---- exchanges

le_both : (a b m n : ℕ) → a ≤ b → m ≤ n → a + m ≤ b + n
le_both a b m n low high = omega arith

le_one : (a b m n k : ℕ) → a ≤ 1 → m ≤ n + k → a + m ≤ (1 + n) + (b + k)
le_one a b m n k low high = omega arith

le_none : (b m n k : ℕ) → m ≤ n + k → b + m ≤ (0 + n) + (b + k)
le_none b m n k high = omega arith

le_by : (a b m n : ℕ) → a ≡ m → b ≡ n → m ≤ n → a ≤ b
le_by a b m n left right low = omega arith

le_by_both : (a b c m n k : ℕ) → a ≡ m → b ≡ n → c ≡ k → m ≤ n + k → a ≤ b + c
le_by_both a b c m n k first second third low = omega arith

-- a holding behind an exchange
abbrev changed : ℕ → ℕ → Holding → Holding
changed out into holding = record holding { player = cond (eqb holding.player out) into holding.player }

-- the owner and the position of each place stay
pub count_in-exchanged : (out into : ℕ) (held : List Holding) (member : ℕ) (position : Position) → count_in (exchanged out into held) member position ≡ count_in held member position
count_in-exchanged out into [] member position = refl
count_in-exchanged out into (holding ∷ held) member position =
    count_in-cons (changed out into holding) (exchanged out into held) member position
    ∙ ap (λ n. one_if (eqb holding.member member && is_position position holding.position) + n) (count_in-exchanged out into held member position)
    ∙ sym (count_in-cons holding held member position)

-- another player than the one who comes is owned no more often
owned_other : (out into : ℕ) (held : List Holding) (player : ℕ) → (into ≡ player → ⊥) → owned_in (exchanged out into held) player ≤ owned_in held player
owned_other out into [] player other = omega arith
owned_other out into (holding ∷ held) player other =
    let rest = owned_other out into held player other in
    let no : one_if (eqb into player) ≡ 0 = cond-false (eqb into player) 1 0 (ne_eqb into player other) in
    le_by (owned_in (exchanged out into (holding ∷ held)) player) (owned_in (holding ∷ held) player)
    (one_if (eqb (changed out into holding).player player) + owned_in (exchanged out into held) player) (one_if (eqb holding.player player) + owned_in held player)
    (owned_in-cons (changed out into holding) (exchanged out into held) player) (owned_in-cons holding held player)
    (elim (eqb holding.player out) as (λ b. one_if (eqb (cond b into holding.player) player) + owned_in (exchanged out into held) player ≤ one_if (eqb holding.player player) + owned_in held player) [
      | true ↦ le_both (one_if (eqb into player)) (one_if (eqb holding.player player)) (owned_in (exchanged out into held) player) (owned_in held player) (omega (arith, no)) rest
      | false ↦ le_both (one_if (eqb holding.player player)) (one_if (eqb holding.player player)) (owned_in (exchanged out into held) player) (owned_in held player) (omega arith) rest
    ])

-- the one who comes is owned as often as he was, and as the one who goes was
owned_into : (out into : ℕ) (held : List Holding) → owned_in (exchanged out into held) into ≤ owned_in held out + owned_in held into
owned_into out into [] = omega arith
owned_into out into (holding ∷ held) =
    let rest = owned_into out into held in
    le_by_both (owned_in (exchanged out into (holding ∷ held)) into) (owned_in (holding ∷ held) out) (owned_in (holding ∷ held) into)
    (one_if (eqb (changed out into holding).player into) + owned_in (exchanged out into held) into) (one_if (eqb holding.player out) + owned_in held out) (one_if (eqb holding.player into) + owned_in held into)
    (owned_in-cons (changed out into holding) (exchanged out into held) into) (owned_in-cons holding held out) (owned_in-cons holding held into)
    (elim (eqb holding.player out) as (λ b. one_if (eqb (cond b into holding.player) into) + owned_in (exchanged out into held) into ≤ (one_if b + owned_in held out) + (one_if (eqb holding.player into) + owned_in held into)) [
      | true ↦ le_one (one_if (eqb into into)) (one_if (eqb holding.player into)) (owned_in (exchanged out into held) into) (owned_in held out) (owned_in held into) (one_at_most (eqb into into)) rest
      | false ↦ le_none (one_if (eqb holding.player into)) (owned_in (exchanged out into held) into) (owned_in held out) (owned_in held into) rest
    ])

pub apart_exchanged : (out into : ℕ) (held : List Holding) → HasOneOwnerEach held → owned_in held into ≡ 0 → HasOneOwnerEach (exchanged out into held)
apart_exchanged out into held apart free player = by (cases_eq into player)
  where
    by : (into ≡ player) ⊎ (into ≡ player → ⊥) → owned_in (exchanged out into held) player ≤ 1
    by (inl same) = subst (λ p. owned_in (exchanged out into held) p ≤ 1) same (omega (arith, owned_into out into held, apart out, free))
    by (inr other) = omega (arith, owned_other out into held player other, apart player)

-- ---- a member's players

le_more : (a m n : ℕ) → m ≤ n → m ≤ a + n
le_more a m n low = omega arith

owned_in-squad : (held : List Holding) (member player : ℕ) → owned_in (squad_in held member) player ≤ owned_in held player
owned_in-squad [] member player = omega arith
owned_in-squad (holding ∷ held) member player =
    let rest = owned_in-squad held member player in
    le_by (owned_in (squad_in (holding ∷ held) member) player) (owned_in (holding ∷ held) player) (owned_in (squad_in (holding ∷ held) member) player) (one_if (eqb holding.player player) + owned_in held player)
    refl (owned_in-cons holding held player)
    (elim (eqb holding.member member) as (λ b. owned_in (cond b (holding ∷ squad_in held member) (squad_in held member)) player ≤ one_if (eqb holding.player player) + owned_in held player) [
      | true ↦ le_by (owned_in (holding ∷ squad_in held member) player) (one_if (eqb holding.player player) + owned_in held player) (one_if (eqb holding.player player) + owned_in (squad_in held member) player) (one_if (eqb holding.player player) + owned_in held player)
          (owned_in-cons holding (squad_in held member) player) refl
          (le_both (one_if (eqb holding.player player)) (one_if (eqb holding.player player)) (owned_in (squad_in held member) player) (owned_in held player) (omega arith) rest)
      | false ↦ le_more (one_if (eqb holding.player player)) (owned_in (squad_in held member) player) (owned_in held player) rest
    ])

-- who is not owned is none of them
others_differ : (held : List Holding) (player : ℕ) → owned_in held player ≡ 0 → All (λ other. player ≢ other) (map (λ (holding : Holding). holding.player) held)
others_differ [] player none = All-nil (λ other. player ≢ other)
others_differ (holding ∷ held) player none =
    let step = owned_in-cons holding held player in
    All-cons (λ other. player ≢ other) holding.player (map (λ (h : Holding). h.player) held)
    (λ same. let own : one_if (eqb holding.player player) ≡ 1 = cond-true (eqb holding.player player) 1 0 (eq-eqb holding.player player (sym same)) in absurd (omega (arith, own, none, step)))
    (others_differ held player (omega (arith, none, step)))

all_differ : (held : List Holding) → HasOneOwnerEach held → AllDiffer (map (λ (holding : Holding). holding.player) held)
all_differ [] apart = λ i j d low high. absurd (omega arith)
all_differ (holding ∷ held) apart =
    let own : one_if (eqb holding.player holding.player) ≡ 1 = cond-true (eqb holding.player holding.player) 1 0 (eq-eqb holding.player holding.player refl) in
    AllPairs-cons (λ a b. a ≢ b) holding.player (map (λ (h : Holding). h.player) held)
    (others_differ held holding.player (omega (arith, own, apart holding.player, owned_in-cons holding held holding.player)))
    (all_differ held (λ player. omega (arith, apart player, owned_in-cons holding held player)))

names_of : (held : List Holding) → map (λ (one : ℕ × Position). one.0) (map player_in held) ≡ map (λ (holding : Holding). holding.player) held
names_of [] = refl
names_of (holding ∷ held) = ap (λ more. holding.player ∷ more) (names_of held)

pub squad_differs : (held : List Holding) (member : ℕ) → HasOneOwnerEach held → AllDiffer (map (λ (one : ℕ × Position). one.0) (players_in held member))
squad_differs held member apart =
    subst (λ names. AllDiffer names) (sym (names_of (squad_in held member)))
    (all_differ (squad_in held member) (λ player. omega (arith, owned_in-squad held member player, apart player)))
