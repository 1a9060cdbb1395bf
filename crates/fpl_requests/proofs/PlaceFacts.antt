-- What a look-up in a table finds.
use Rattle.std.proofs.Common.{◌≡◌, ℕ, List, [], ◌∷◌, ◌<◌, Bool, true, false, get_or, inl, inr, suc, refl}
use Rattle.std.proofs.lemmas.List.Elements.{All-cons, All-nil}
use Rattle.std.specs.Prelude.{◌&&◌, None, Some, All}
use Rattle.matchit.specs.Seek.{first}
use Rattle.matchit.specs.Router.{RouteOf}
use Rattle.fpl_requests.specs.declared.route.Method.{Method}
use Rattle.fpl_requests.specs.declared.routes.Place.{Place}
use Rattle.fpl_requests.specs.Tables.{Table, all_added, table}
use Rattle.fpl_requests.specs.Targets.{Has, IsShaped, rows_at, served, shapes}
use Rattle.fpl_requests.proofs.PatternTests.{all_whole, is_whole}
use Rattle.fpl_requests.proofs.FitLemmas.{AllWhole, first_finds, first_sound}
use Rattle.fpl_requests.proofs.OneLemmas.{one_route}
use Rattle.fpl_requests.proofs.ShapeLemmas.{has_value, has_within, value_has, values}
use Rattle.fpl_requests.proofs.TableFacts.{in_shapes, in_table, shapes_differ, table_whole}

pub table_is : (method : Method) → all_added [] (rows_at method served) ≡ table method
unfolding table
table_is method = refl

both : (a b : Bool) → (a && b) ≡ true → (a ≡ true) × (b ≡ true)
both true b h = (refl, h)
both false b h = absurd (cc h)

whole_of : (rs : Table) → all_whole rs ≡ true → AllWhole rs
whole_of [] h = tt
whole_of (r ∷ rest) h = let parts = both (is_whole r.0) (all_whole rest) h in (parts.0, whole_of rest parts.1)

whole_at : (rs : Table) (p : List ℕ) (k : RouteOf Place) → all_whole rs ≡ true → Has p k rs → is_whole p ≡ true
whole_at [] p k h has = absurd has
whole_at (r ∷ rest) p k h (inl e) = let parts = both (is_whole r.0) (all_whole rest) h in rw e.0 at parts.0
whole_at (r ∷ rest) p k h (inr has) = whole_at rest p k (both (is_whole r.0) (all_whole rest) h).1 has

bytes_low : (bs : List ℕ) → ((i : ℕ) → get_or bs i 0 < 256) → All (λ c. c < 256) bs
bytes_low [] h = All-nil (λ c. c < 256)
bytes_low (b ∷ bs) h = All-cons (λ c. c < 256) b bs (h 0) (bytes_low bs (λ i. h (suc i)))

pub place_found : (method : Method) (target : List ℕ) (r : RouteOf Place) → ((i : ℕ) → get_or target i 0 < 256) → first (table method) target ≡ Some r → IsShaped method r.value target
place_found method target r low e =
    let rows = table method in
    let (p, has, fit) = first_sound rows target r (whole_of rows (table_whole method)) (bytes_low target low) e in
    (p, has_within (values rows) (shapes (rows_at method served)) p r.value (in_shapes method) (has_value rows p r has), fit)

pub place_only : (method : Method) (target : List ℕ) (a b : Place) → IsShaped method a target → IsShaped method b target → a ≡ b
place_only method target a b (p, has, fit) (q, has', fit') =
    one_route (shapes (rows_at method served)) p q target a b (shapes_differ method) has has' fit fit'

pub place_none : (method : Method) (target : List ℕ) (a : Place) → first (table method) target ≡ None → IsShaped method a target → ⊥
place_none method target a e (p, has, fit) =
    let rows = table method in
    let (k, there) = value_has rows p a (has_within (shapes (rows_at method served)) (values rows) p a (in_table method) has) in
    let found = first_finds rows target p k (whole_of rows (table_whole method)) there (whole_at rows p k (table_whole method) there) fit in
    let bad : false ≡ true = rw e at found in
    cc bad
