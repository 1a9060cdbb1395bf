-- A method and a target ask for one thing.
use Rattle.std.proofs.Common.{◌≡◌, ◌∙◌, sym, refl, ap, ap₂, subst, ℕ, List, [], ◌∷◌, ◌<◌, ◌^◌, arith}
use Rattle.std.proofs.lemmas.Fmt.{decimal_injective}
use Rattle.std.specs.Prelude.{Option, None, Some, is_some, ◌||◌}
use Rattle.fpl_requests.specs.declared.route.Found.{Found}
use Rattle.fpl_requests.specs.declared.route.Found.TheVariants as found
use Rattle.fpl_requests.specs.declared.route.Route.{Route}
use Rattle.fpl_requests.specs.declared.routes.Ids.{Ids}
use Rattle.fpl_requests.specs.declared.routes.Ids.TheVariants as ids
use Rattle.fpl_requests.specs.declared.route.Method.{Method}
use Rattle.fpl_requests.specs.declared.route.Method.TheVariants.{Get, Post}
use Rattle.fpl_requests.specs.declared.routes.Place.{Place}
use Rattle.fpl_requests.specs.Tables.{IsAt, told}
use Rattle.fpl_requests.specs.Targets.{AreIds, Fits, IsFoundAt, IsId, OneFound, bare, method_of}
use Rattle.fpl_requests.proofs.PlaceFacts.{place_only}

one_id : (segment : List ℕ) (a b : ℕ) → IsId segment a → IsId segment b → a ≡ b
one_id segment a b here there =
    let low : a < 2 ^ 64 = omega (arith, here.0) in
    let low' : b < 2 ^ 64 = omega (arith, there.0) in
    decimal_injective a b low low' (sym here.1 ∙ there.1)

one_list : (which : Ids) (target ns ms : List ℕ) → AreIds which target ns → AreIds which target ms → ns ≡ ms
one_list ids.None target ns ms here there = here ∙ sym there
one_list (ids.One n) target ns ms (a, is, e) (b, is', e') = e ∙ ap (λ n. n ∷ 0 ∷ []) (one_id _ a b is is') ∙ sym e'
one_list (ids.Two n m) target ns ms (a, b, is, more, e) (c, d, is', more', e') =
    e ∙ ap₂ (λ n m. n ∷ m ∷ []) (one_id _ a c is is') (one_id _ b d more more') ∙ sym e'

one_place : (method : Method) (target : List ℕ) (p q : Place) (ns ms : List ℕ) → Fits method p target ns → Fits method q target ms → (p ≡ q) × (ns ≡ ms)
one_place method target p q ns ms here there =
    let same = place_only method target p q here.1 there.1 in
    (same, one_list q.ids target ns ms (subst (λ (one : Place). AreIds one.ids target ns) same here.2) there.2)

same_method : (m n : Method) (x : Option Method) → x ≡ Some m → x ≡ Some n → m ≡ n
same_method m n x e f = cc

-- the same of a bare target
one_found_at : (method target : List ℕ) (a b : Found) → IsFoundAt method target a → IsFoundAt method target b → a ≡ b
one_found_at bytes target (found.Route r ns) (found.Route s ms) (m, p, named, fit, is) (n, q, named', fit', is') =
    let alike = same_method m n (method_of bytes) named named' in
    let same = one_place n target p q ns ms (subst (λ k. Fits k p target ns) alike fit) fit' in
    ap₂ found.Route (sym is ∙ ap (λ (one : Place). one.route) same.0 ∙ is') same.1
one_found_at bytes target (found.Route r ns) found.Method (m, p, named, fit, is) (there, never) = absurd (never m p ns named fit)
one_found_at bytes target (found.Route r ns) found.Unknown (m, p, named, fit, is) never = absurd (never m p ns fit)
one_found_at bytes target found.Method (found.Route s ms) (there, never) (m, p, named, fit, is) = absurd (never m p ms named fit)
one_found_at bytes target found.Method found.Method here there = refl
one_found_at bytes target found.Method found.Unknown ((m, p, ns, fit), never) nowhere = absurd (nowhere m p ns fit)
one_found_at bytes target found.Unknown (found.Route s ms) never (m, p, named, fit, is) = absurd (never m p ms fit)
one_found_at bytes target found.Unknown found.Method never ((m, p, ns, fit), other) = absurd (never m p ns fit)
one_found_at bytes target found.Unknown found.Unknown here there = refl

pub one_found : OneFound
one_found bytes target a b here there = one_found_at bytes (bare target) a b here there

-- ---- what is told

abbrev At : Type 0
At = Option (Route × List ℕ)

-- what a method finds of what stands there for both
abbrev pub own : Option Method → At → At → At
own (Some Post) posted got = posted
own (Some Get) posted got = got
own None posted got = None

nowhere : (target : List ℕ) → IsAt Post target None → IsAt Get target None → (method : Method) (place : Place) (ns : List ℕ) → Fits method place target ns → ⊥
nowhere target posted got Post place ns fit = posted place ns fit
nowhere target posted got Get place ns fit = got place ns fit

not_by : (bytes target : List ℕ) (m : Method) → method_of bytes ≡ Some m → IsAt m target None
    → (method : Method) (place : Place) (ns : List ℕ) → method_of bytes ≡ Some method → Fits method place target ns → ⊥
not_by bytes target m named none method place ns named' fit =
    none place ns (subst (λ k. Fits k place target ns) (same_method method m (method_of bytes) named' named) fit)

by_none : (bytes target : List ℕ) → method_of bytes ≡ None
    → (method : Method) (place : Place) (ns : List ℕ) → method_of bytes ≡ Some method → Fits method place target ns → ⊥
by_none bytes target none method place ns named fit = cc (sym none ∙ named)

pub told_is : (bytes target : List ℕ) (method : Option Method) (posted got : At) → method_of bytes ≡ method → IsAt Post target posted → IsAt Get target got
    → IsFoundAt bytes target (told (own method posted got) (is_some posted || is_some got))
told_is bytes target (Some Post) (Some at) got named (place, fit, is) other = (Post, place, named, fit, is)
told_is bytes target (Some Post) None (Some at) named none (place, fit, is) = ((Get, place, at.1, fit), not_by bytes target Post named none)
told_is bytes target (Some Post) None None named none other = nowhere target none other
told_is bytes target (Some Get) posted (Some at) named other (place, fit, is) = (Get, place, named, fit, is)
told_is bytes target (Some Get) (Some at) None named (place, fit, is) none = ((Post, place, at.1, fit), not_by bytes target Get named none)
told_is bytes target (Some Get) None None named other none = nowhere target other none
told_is bytes target None (Some at) got named (place, fit, is) other = ((Post, place, at.1, fit), by_none bytes target named)
told_is bytes target None None (Some at) named none (place, fit, is) = ((Get, place, at.1, fit), by_none bytes target named)
told_is bytes target None None None named none other = nowhere target none other
