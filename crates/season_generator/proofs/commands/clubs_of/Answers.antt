use Rattle.std.proofs.Common.{◌≡◌, ◌+◌, ◌∷◌, [], ◌++◌, ◌∙◌, ℕ, List, ap, sym}
use Rattle.season_generator.specs.Made.{club_of, clubs}
use Rattle.season_generator.proofs.MadeFacts.{clubs_more, no_clubs}
use Rattle.season_generator.proofs.commands.clubs_of.Goals as goal

pub loop-before-init : goal.loop-before-init
loop-before-init c = c.new-list.ensures ∙ sym no_clubs

pub loop-before-preserved : goal.loop-before-preserved
loop-before-preserved c =
    let n : ℕ = c.loop-before.before in
    let name : List ℕ = c.in_ok-name_of.field-0 in
    let make : ℕ → List ℕ → ℕ × List ℕ = λ id text. (id, text) in
    let club : make c.club.result name ≡ club_of (n + 1) = ap (λ (id : ℕ). make id name) c.club.ensures ∙ ap (λ (t : List ℕ). make (n + 1) t) c.in_ok-name_of.ensures in
    c.in_ok-push.ensures.ok
    ∙ ap (λ (ls : List (ℕ × List ℕ)). ls ++ (c.club.result, name) ∷ []) c.loop-before.invariant
    ∙ ap (λ (l : ℕ × List ℕ). clubs n ++ l ∷ []) club
    ∙ sym (clubs_more n)
