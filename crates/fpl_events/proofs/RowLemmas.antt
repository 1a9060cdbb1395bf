-- Rows one after another, and fields that spell one event.
use Rattle.std.proofs.Common.{ℕ, ◌+◌, ◌^◌, ◌≡◌, ◌<◌, ◌≤◌, ◌∙◌, ◌==◌, false, List, [], ◌∷◌, ◌++◌, Option, None, Some, if◌then◌else◌, arith, refl, sym, ap, subst}
use Rattle.std.specs.Prelude.{codes, slice_index}
use Rattle.std.specs.List.{fold}
use Rattle.std.proofs.lemmas.Bool.{false≢true}
use Rattle.std.specs.Fmt.{decimal}
use Rattle.std.proofs.lemmas.Fmt.{decimal_injective}
use Rattle.csv.specs.Records.{field_at}
use Rattle.match_events.specs.Events.{is_event}
use Rattle.match_events.specs.declared.event.Event.{Event}
use Rattle.match_events.specs.declared.event.EventKind.{EventKind}
use Rattle.match_events.specs.declared.event.EventKind.TheVariants as kind
use Rattle.match_events.specs.declared.event.Side.{Side}
use Rattle.match_events.specs.declared.event.Side.TheVariants as side
use Rattle.fpl_events.specs.Rows.{AreDoable, IsDoable, Spells, events_after}
use Rattle.fpl_events.specs.Words.{Begins, IsNumberAt, NamesOther, SpellsEvent, SpellsSide, kind_word, side_letter}
use Rattle.fpl_events.specs.declared.row.EventRow.{EventRow}
use Rattle.fpl_events.specs.declared.row.EventRow.TheVariants as row

-- one more row that may be done behind these
pub doable-push : (minutes count : ℕ) (rows : List EventRow) (last : EventRow) → AreDoable minutes count rows → IsDoable minutes (fold events_after count rows) last
    → AreDoable minutes count (rows ++ last ∷ [])
doable-push minutes count [] last all one = (one, tt)
doable-push minutes count (first ∷ rows) last all one = (all.0, doable-push minutes (events_after count first) rows last all.1 one)

-- a row adds one event at most
pub after_small : (count : ℕ) (one : EventRow) → events_after count one ≤ count + 1
after_small count (row.Insert place event) = omega arith
after_small count (row.Remove place) = omega arith
after_small count row.Send = omega arith

same_some : {A : Type 0} {a b : A} (o : Option A) → o ≡ Some a → o ≡ Some b → a ≡ b
same_some o p q = cc

-- a number below the least is not one of the range
pub too_small : (fields : List (List ℕ)) (place least greatest m n : ℕ) (field : List ℕ) → greatest < 2 ^ 64 → m ≤ greatest → m < least → field_at fields place ≡ Some field → field ≡ decimal m
    → IsNumberAt fields place least greatest n → ⊥
too_small fields place least greatest m n field small within low there is spelled =
    let same : m ≡ n = decimal_injective m n (omega arith) (omega (arith, spelled.1)) (sym is ∙ same_some (field_at fields place) there spelled.2) in
    absurd (omega (arith, spelled.0))

-- a field spells one number
one_number : (fields : List (List ℕ)) (place least greatest m n : ℕ) → greatest < 2 ^ 64 → IsNumberAt fields place least greatest m → IsNumberAt fields place least greatest n → m ≡ n
one_number fields place least greatest m n small a b =
    decimal_injective m n (omega (arith, a.1)) (omega (arith, b.1)) (same_some (field_at fields place) a.2 b.2)

-- a word names one kind, and a letter one side
kind_in : List ℕ → EventKind
kind_in word =
    if slice_index word 0 == 103 then kind.Goal
    else (if slice_index word 0 == 111 then kind.Own
    else (if slice_index word 0 == 121 then kind.Yellow
    else (if slice_index word 0 == 114 then kind.Red
    else (if slice_index word 1 == 116 then kind.Start else kind.Sub))))

kind_is : (k : EventKind) → kind_in (kind_word k) ≡ k
unfolding kind_in
kind_is kind.Start = refl
kind_is kind.Sub = refl
kind_is kind.Goal = refl
kind_is kind.Own = refl
kind_is kind.Yellow = refl
kind_is kind.Red = refl

one_kind : (a b : EventKind) → kind_word a ≡ kind_word b → a ≡ b
one_kind a b is = sym (kind_is a) ∙ ap kind_in is ∙ kind_is b

side_in : List ℕ → Side
side_in letter = if slice_index letter 0 == 104 then side.Home else side.Away

side_is : (s : Side) → side_in (side_letter s) ≡ s
unfolding side_in
side_is side.Home = refl
side_is side.Away = refl

one_side : (k : EventKind) (field : List ℕ) (a b : Side) → SpellsSide k field a → SpellsSide k field b → a ≡ b
one_side kind.Start field a b p q = sym (side_is a) ∙ ap side_in (sym p ∙ q) ∙ side_is b
one_side kind.Sub field a b p q = p.1 ∙ sym q.1
one_side kind.Goal field a b p q = p.1 ∙ sym q.1
one_side kind.Own field a b p q = p.1 ∙ sym q.1
one_side kind.Yellow field a b p q = p.1 ∙ sym q.1
one_side kind.Red field a b p q = p.1 ∙ sym q.1

-- one second player, or none
not_none : (fields : List (List ℕ)) (place n : ℕ) → field_at fields place ≡ Some (decimal 0) → IsNumberAt fields place 1 999999 n → ⊥
not_none fields place n none named =
    let same : 0 ≡ n = decimal_injective 0 n (omega arith) (omega (arith, named.1)) (same_some (field_at fields place) none named.2) in
    absurd (omega (arith, named.0))

one_other : (fields : List (List ℕ)) (place : ℕ) (a b : Option ℕ) → NamesOther fields place a → NamesOther fields place b → a ≡ b
one_other fields place None None p q = refl
one_other fields place None (Some n) p q = absurd (not_none fields place n p q)
one_other fields place (Some m) None p q = absurd (not_none fields place m q p)
one_other fields place (Some m) (Some n) p q = ap (λ (k : ℕ). Some k) (one_number fields place 1 999999 m n (omega arith) p q)

abbrev made : ℕ → EventKind → Side → ℕ → Option ℕ → Event
made minute kind side player other = record { minute = minute; kind = kind; side = side; player = player; other = other }

made_event : (m n : ℕ) (k l : EventKind) (a b : Side) (p q : ℕ) (x y : Option ℕ) → m ≡ n → k ≡ l → a ≡ b → p ≡ q → x ≡ y → made m k a p x ≡ made n l b q y
made_event m n k l a b p q x y h1 h2 h3 h4 h5 = cc

-- fields spell one event
one_event : (fields : List (List ℕ)) (a b : Event) → SpellsEvent fields a → SpellsEvent fields b → a ≡ b
one_event fields a b p q =
    let kinds : a.kind ≡ b.kind = one_kind a.kind b.kind (same_some (field_at fields 3) p.kind q.kind) in
    let field : p.side_field ≡ q.side_field = same_some (field_at fields 4) p.side_there q.side_there in
    let side_b : SpellsSide a.kind p.side_field b.side = subst (λ (k : EventKind). SpellsSide k p.side_field b.side) (sym kinds) (subst (λ (f : List ℕ). SpellsSide b.kind f b.side) (sym field) q.side) in
    made_event a.minute b.minute a.kind b.kind a.side b.side a.player b.player a.other b.other
    (one_number fields 2 0 255 a.minute b.minute (omega arith) p.minute q.minute) kinds (one_side a.kind p.side_field a.side b.side p.side side_b)
    (one_number fields 5 1 999999 a.player b.player (omega arith) p.player q.player) (one_other fields 6 a.other b.other p.other q.other)

-- fields that begin as an insertion spell no row where they spell no event, or one that may not stand in the match
pub no_event : (minutes count : ℕ) (fields : List (List ℕ)) → Begins fields (codes "insert") 7 → ((event : Event) → SpellsEvent fields event → ⊥) → (one : EventRow) → Spells minutes count fields one → ⊥
no_event minutes count fields begins none (row.Insert place event) spelled = none event spelled.2
no_event minutes count fields begins none (row.Remove place) spelled = let a = begins.0 in let b = spelled.0.0 in absurd (omega arith)
no_event minutes count fields begins none row.Send spelled = let a = begins.0 in let b = spelled.0 in absurd (omega arith)

pub not_in : (minutes count : ℕ) (fields : List (List ℕ)) (told : Event) → Begins fields (codes "insert") 7 → SpellsEvent fields told → is_event minutes told ≡ false → (one : EventRow) → Spells minutes count fields one → ⊥
not_in minutes count fields told begins spells out (row.Insert place event) spelled =
    false≢true (sym out ∙ ap (is_event minutes) (one_event fields told event spells spelled.2) ∙ spelled.3)
not_in minutes count fields told begins spells out (row.Remove place) spelled = let a = begins.0 in let b = spelled.0.0 in absurd (omega arith)
not_in minutes count fields told begins spells out row.Send spelled = let a = begins.0 in let b = spelled.0 in absurd (omega arith)
