-- Ranks of members by what they are ranked by.
use Rattle.std.proofs.Common.{◌≡◌, ℕ, Bool, List, map, sym, ap, ◌∙◌}
use Rattle.std.proofs.lemmas.Simd.{map-map}
use Rattle.rule_book.specs.Ranks.{rank_among}
use Rattle.rule_book.proofs.TableLemmas.{rank_among-map}

-- the ranks of what rows are ranked by are those of the rows
pub ranks_of_rows : {M X S : Type 0} (row : M → X) (standing : X → S) (lt : S → S → Bool) (better : X → X → Bool) → ((a b : X) → lt (standing a) (standing b) ≡ better a b)
    → (members : List M) (standings : List S) (ranks : List ℕ) → standings ≡ map (λ m. standing (row m)) members → ranks ≡ map (rank_among lt standings) standings
    → ranks ≡ map (λ m. rank_among better (map row members) (row m)) members
ranks_of_rows row standing lt better same members standings ranks are is =
    let rows = map row members in
    let made : standings ≡ map standing rows = are ∙ sym (map-map standing row members) in
    is
    ∙ ap (λ ss. map (rank_among lt ss) ss) made
    ∙ map-map (rank_among lt (map standing rows)) standing rows
    ∙ map-map (λ x. rank_among lt (map standing rows) (standing x)) row members
    ∙ (λ i. map (λ m. rank_among-map standing lt better same rows (row m) i) members)
