-- Once the draft is over each member has as many players of each position as he is to have.
use Rattle.std.proofs.Common.{◌≡◌, ◌∙◌, ◌+◌, ◌*◌, ◌≤◌, ◌<◌, ◌⊎◌, ℕ, zero, suc, Bool, true, false, eqb, leb, ◌&&◌, List, [], ◌∷◌, length, inl, inr, arith, refl, sym, subst, ap}
use Rattle.std.specs.List.{AllByRecursion as Each, count_by}
use Rattle.std.proofs.lemmas.Bool.{cases_eq, cases_lt, cond-false, cond-true, eq-eqb, le-leb, lt-leb, ne_eqb}
use Rattle.std.proofs.lemmas.List.Sums.{length-filter, sum_by-cons}
use Rattle.fpl_base.specs.declared.kinds.Position.{Position}
use Rattle.fpl_base.specs.declared.kinds.Position.TheVariants.{Keeper, Defender, Midfielder, Forward}
use Rattle.draft_league.specs.Holdings.{count_in, is_position, number_in, squad_in}
use Rattle.draft_league.specs.Kept.{IsMember}
use Rattle.draft_league.specs.declared.kinds.Holding.{Holding}
use Rattle.draft_league.proofs.HoldingLemmas.{count_in-cons, one_if}

-- how many players a member owns
abbrev size_in : List Holding → ℕ → ℕ
size_in held member = count_by (λ (holding : Holding). eqb holding.member member) held

size_in-cons : (holding : Holding) (held : List Holding) (member : ℕ) → size_in (holding ∷ held) member ≡ one_if (eqb holding.member member) + size_in held member
size_in-cons holding held member = sum_by-cons (λ (h : Holding). one_if (eqb h.member member)) holding held

-- how many the first members own together
abbrev total_in : List Holding → ℕ → ℕ
total_in held zero = 0
total_in held (suc n) = size_in held (suc n) + total_in held n

-- a holding is of one position
one_position : (own : Bool) (position : Position)
    → one_if (own && is_position Keeper position) + one_if (own && is_position Defender position) + one_if (own && is_position Midfielder position) + one_if (own && is_position Forward position)
    ≡ one_if own
one_position true Keeper = refl
one_position true Defender = refl
one_position true Midfielder = refl
one_position true Forward = refl
one_position false Keeper = refl
one_position false Defender = refl
one_position false Midfielder = refl
one_position false Forward = refl

four_more : (a b c d n k e m f t all_k all_e all_m all_f all : ℕ) → all_k ≡ a + k → all_e ≡ b + e → all_m ≡ c + m → all_f ≡ d + f → all ≡ n + t
    → a + b + c + d ≡ n → k + e + m + f ≡ t → all_k + all_e + all_m + all_f ≡ all
four_more a b c d n k e m f t all_k all_e all_m all_f all first second third fourth fifth one rest = omega arith

size_by_position : (held : List Holding) (member : ℕ)
    → count_in held member Keeper + count_in held member Defender + count_in held member Midfielder + count_in held member Forward ≡ size_in held member
size_by_position [] member = refl
size_by_position (holding ∷ held) member =
    let own : Bool = eqb holding.member member in
    four_more (one_if (own && is_position Keeper holding.position)) (one_if (own && is_position Defender holding.position)) (one_if (own && is_position Midfielder holding.position)) (one_if (own && is_position Forward holding.position)) (one_if own)
    (count_in held member Keeper) (count_in held member Defender) (count_in held member Midfielder) (count_in held member Forward) (size_in held member)
    (count_in (holding ∷ held) member Keeper) (count_in (holding ∷ held) member Defender) (count_in (holding ∷ held) member Midfielder) (count_in (holding ∷ held) member Forward) (size_in (holding ∷ held) member)
    (count_in-cons holding held member Keeper) (count_in-cons holding held member Defender) (count_in-cons holding held member Midfielder) (count_in-cons holding held member Forward) (size_in-cons holding held member)
    (one_position (eqb holding.member member) holding.position) (size_by_position held member)

-- a number other than the next is up to it where it is up to this one
same_side : (m n : ℕ) → (m ≡ suc n → ⊥) → (n < m) ⊎ (m ≤ n) → one_if (leb m (suc n)) ≡ one_if (leb m n)
same_side m n other (inl high) = cond-false (leb m (suc n)) 1 0 (lt-leb m (suc n) (omega arith)) ∙ sym (cond-false (leb m n) 1 0 (lt-leb m n high))
same_side m n other (inr low) = cond-true (leb m (suc n)) 1 0 (le-leb m (suc n) (omega arith)) ∙ sym (cond-true (leb m n) 1 0 (le-leb m n low))

-- a holding counts once, for its member
add_one : (own size within below total more : ℕ) → own ≡ 1 → within ≡ 1 → below ≡ 0 → more ≡ total + below → (own + size) + more ≡ (size + total) + within
add_one own size within below total more a b c d = omega arith

add_none : (own size within below total more : ℕ) → own ≡ 0 → within ≡ below → more ≡ total + below → (own + size) + more ≡ (size + total) + within
add_none own size within below total more a b c = omega arith

total_step : (holding : Holding) (held : List Holding) (n : ℕ) → total_in (holding ∷ held) n ≡ total_in held n + one_if (leb holding.member n)
    → (holding.member ≡ suc n) ⊎ (holding.member ≡ suc n → ⊥) → total_in (holding ∷ held) (suc n) ≡ total_in held (suc n) + one_if (leb holding.member (suc n))
total_step holding held n rest (inl same) =
    let own : one_if (eqb holding.member (suc n)) ≡ 1 = cond-true (eqb holding.member (suc n)) 1 0 (eq-eqb holding.member (suc n) same) in
    let below : one_if (leb holding.member n) ≡ 0 = cond-false (leb holding.member n) 1 0 (lt-leb holding.member n (omega arith)) in
    let within : one_if (leb holding.member (suc n)) ≡ 1 = cond-true (leb holding.member (suc n)) 1 0 (le-leb holding.member (suc n) (omega arith)) in
    ap (λ k. k + total_in (holding ∷ held) n) (size_in-cons holding held (suc n))
    ∙ add_one (one_if (eqb holding.member (suc n))) (size_in held (suc n)) (one_if (leb holding.member (suc n))) (one_if (leb holding.member n)) (total_in held n) (total_in (holding ∷ held) n) own within below rest
total_step holding held n rest (inr other) =
    let own : one_if (eqb holding.member (suc n)) ≡ 0 = cond-false (eqb holding.member (suc n)) 1 0 (ne_eqb holding.member (suc n) other) in
    let side : one_if (leb holding.member (suc n)) ≡ one_if (leb holding.member n) = same_side holding.member n other (cases_lt n holding.member) in
    ap (λ k. k + total_in (holding ∷ held) n) (size_in-cons holding held (suc n))
    ∙ add_none (one_if (eqb holding.member (suc n))) (size_in held (suc n)) (one_if (leb holding.member (suc n))) (one_if (leb holding.member n)) (total_in held n) (total_in (holding ∷ held) n) own side rest

total_one : (holding : Holding) (held : List Holding) (n : ℕ) → 1 ≤ holding.member → total_in (holding ∷ held) n ≡ total_in held n + one_if (leb holding.member n)
total_one holding held zero low =
    let none : one_if (leb holding.member 0) ≡ 0 = cond-false (leb holding.member 0) 1 0 (lt-leb holding.member 0 (omega arith)) in
    omega (arith, none)
total_one holding held (suc n) low = total_step holding held n (total_one holding held n low) (cases_eq holding.member (suc n))

total_none : (n : ℕ) → total_in [] n ≡ 0
total_none zero = refl
total_none (suc n) = ap (λ (k : ℕ). 0 + k) (total_none n)

-- all holdings are those of the members
one_longer : (total members length_of : ℕ) (within : ℕ) → total ≡ members + within → members ≡ length_of → within ≡ 1 → total ≡ suc length_of
one_longer total members length_of within a b c = omega arith

total_all : (members : ℕ) (held : List Holding) → Each (λ (holding : Holding). IsMember members holding.member) held → total_in held members ≡ length held
total_all members [] each = total_none members
total_all members (holding ∷ held) each =
    let within : one_if (leb holding.member members) ≡ 1 = cond-true (leb holding.member members) 1 0 (le-leb holding.member members each.0.1) in
    one_longer (total_in (holding ∷ held) members) (total_in held members) (length held) (one_if (leb holding.member members)) (total_one holding held members each.0.0) (total_all members held each.1) within

-- where each has fifteen at most and all together fifteen each, each has fifteen
below_more : (size total n : ℕ) → size ≤ 15 → total ≤ 15 * n → size + total ≤ 15 * suc n
below_more size total n low high = omega arith

total_below : (held : List Holding) → ((member : ℕ) → size_in held member ≤ 15) → (n : ℕ) → total_in held n ≤ 15 * n
total_below held few zero = omega arith
total_below held few (suc n) = below_more (size_in held (suc n)) (total_in held n) n (few (suc n)) (total_below held few n)

all_full : (size total n : ℕ) → size ≤ 15 → total ≤ 15 * n → 15 * suc n ≤ size + total → size ≡ 15
all_full size total n low high all = omega arith

rest_full : (size total n : ℕ) → size ≤ 15 → 15 * suc n ≤ size + total → 15 * n ≤ total
rest_full size total n low all = omega arith

size_step : (held : List Holding) → ((member : ℕ) → size_in held member ≤ 15) → (n : ℕ) → 15 * suc n ≤ total_in held (suc n) → (member : ℕ) → member ≤ suc n
    → (15 * n ≤ total_in held n → member ≤ n → size_in held member ≡ 15) → (member ≡ suc n) ⊎ (member ≡ suc n → ⊥) → size_in held member ≡ 15
size_step held few n all member high rest (inl same) =
    subst (λ m. size_in held m ≡ 15) (sym same) (all_full (size_in held (suc n)) (total_in held n) n (few (suc n)) (total_below held few n) all)
size_step held few n all member high rest (inr other) =
    rest (rest_full (size_in held (suc n)) (total_in held n) n (few (suc n)) all) (omega arith)

size_is : (held : List Holding) → ((member : ℕ) → size_in held member ≤ 15) → (n : ℕ) → 15 * n ≤ total_in held n
    → (member : ℕ) → 1 ≤ member → member ≤ n → size_in held member ≡ 15
size_is held few zero all member low high = absurd (omega arith)
size_is held few (suc n) all member low high =
    size_step held few n all member high (λ rest within. size_is held few n rest member low within) (cases_eq member (suc n))

-- numbers of the four positions
few_of : (k d m f size : ℕ) → k + d + m + f ≡ size → k ≤ 2 → d ≤ 5 → m ≤ 5 → f ≤ 3 → size ≤ 15
few_of k d m f size sum a b c e = omega arith

right_of : (k d m f size : ℕ) → k + d + m + f ≡ size → size ≡ 15 → k ≤ 2 → d ≤ 5 → m ≤ 5 → f ≤ 3 → (k ≡ 2) × (d ≡ 5) × (m ≡ 5) × (f ≡ 3)
right_of k d m f size sum all a b c e = (omega arith, omega arith, omega arith, omega arith)

sum_of : (k d m f size : ℕ) → k + d + m + f ≡ size → k ≡ 2 → d ≡ 5 → m ≡ 5 → f ≡ 3 → size ≡ 15
sum_of k d m f size sum a b c e = omega arith

-- each member has the right number of each position
module _ (members : ℕ) (held : List Holding) (owners : Each (λ (holding : Holding). IsMember members holding.member) held)
    (room : (member : ℕ) (position : Position) → count_in held member position ≤ number_in position) (all : 15 * members ≤ length held) where
  size_few : (member : ℕ) → size_in held member ≤ 15
  size_few member =
      few_of (count_in held member Keeper) (count_in held member Defender) (count_in held member Midfielder) (count_in held member Forward) (size_in held member)
      (size_by_position held member) (room member Keeper) (room member Defender) (room member Midfielder) (room member Forward)

  size_all : (member : ℕ) → 1 ≤ member → member ≤ members → size_in held member ≡ 15
  size_all member low high = size_is held size_few members (subst (λ n. 15 * members ≤ n) (sym (total_all members held owners)) all) member low high

  all_of : (member : ℕ) → 1 ≤ member → member ≤ members
      → (count_in held member Keeper ≡ 2) × (count_in held member Defender ≡ 5) × (count_in held member Midfielder ≡ 5) × (count_in held member Forward ≡ 3)
  all_of member low high =
      right_of (count_in held member Keeper) (count_in held member Defender) (count_in held member Midfielder) (count_in held member Forward) (size_in held member)
      (size_by_position held member) (size_all member low high) (room member Keeper) (room member Defender) (room member Midfielder) (room member Forward)

  pub full_squads : (member : ℕ) (position : Position) → 1 ≤ member → member ≤ members → count_in held member position ≡ number_in position
  full_squads member Keeper low high = (all_of member low high).0
  full_squads member Defender low high = (all_of member low high).1
  full_squads member Midfielder low high = (all_of member low high).2
  full_squads member Forward low high = (all_of member low high).3

-- these are fifteen players
pub fifteen_in : (held : List Holding) (member : ℕ) → ((position : Position) → count_in held member position ≡ number_in position) → length (squad_in held member) ≡ 15
fifteen_in held member each =
    length-filter (λ (holding : Holding). eqb holding.member member) held
    ∙ sum_of (count_in held member Keeper) (count_in held member Defender) (count_in held member Midfielder) (count_in held member Forward) (size_in held member)
    (size_by_position held member) (each Keeper) (each Defender) (each Midfielder) (each Forward)
