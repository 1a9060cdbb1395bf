-- At most one assignment is the final eleven.
use Rattle.std.proofs.Common.{◌≡◌, ℕ, zero, suc, ◌-◌, ◌≤◌, Bool, true, false, List, [], ◌∷◌, ◌++◌, take, length, get_or, find, unwrap_or, refl, sym, ◌∙◌, ap, arith}
use Rattle.std.proofs.Math.Seq.{take-suc}
use Rattle.std.proofs.lemmas.List.{take_all}
use Rattle.rule_book.specs.declared.team.Team.{Team}
use Rattle.rule_book.specs.declared.team_score.Figures.{Figures}
use Rattle.rule_book.specs.Teams.{did_play, bench, is_still}
use Rattle.rule_book.specs.Elevens.{slot_of, can_stand, Settles, IsSubstituted, IsFinal}

settled_same : (team : Team) (figures : List Figures) (h k : List ℕ) (n : ℕ) (b : Bool) → did_play figures n ≡ b → Settles team figures h n → Settles team figures k n → take (n - 1) h ≡ take (n - 1) k → slot_of h n ≡ slot_of k n
settled_same team figures h k n true e sh sk t = sh.present e ∙ sym (sk.present e)
settled_same team figures h k n false e sh sk t =
    sh.absent e ∙ ap (λ before. unwrap_or (find (can_stand team figures before n) bench) n) t ∙ sym (sk.absent e)

-- the same slots so far give the same next slot
slot_same : (team : Team) (figures : List Figures) (h k : List ℕ) → IsSubstituted team figures h → IsSubstituted team figures k → (j : ℕ) → suc j ≤ 11 → take j h ≡ take j k → get_or h j 0 ≡ get_or k j 0
slot_same team figures h k sh sk zero l t = sh.keeper ∙ sym sk.keeper
slot_same team figures h k sh sk (suc j) l t =
    let e : suc (suc j) - 1 ≡ suc j = omega arith in
    let low : 2 ≤ suc (suc j) = omega arith in
    let before : take (suc (suc j) - 1) h ≡ take (suc (suc j) - 1) k = rw e t in
    rw e at (settled_same team figures h k (suc (suc j)) (did_play figures (suc (suc j))) refl (sh.outfield (suc (suc j)) low l) (sk.outfield (suc (suc j)) low l) before)

-- the first j slots are the same
first_same : (team : Team) (figures : List Figures) (h k : List ℕ) → IsSubstituted team figures h → IsSubstituted team figures k → (j : ℕ) → j ≤ 11 → take j h ≡ take j k
first_same team figures h k sh sk zero l = refl
first_same team figures h k sh sk (suc j) l =
    let rest = first_same team figures h k sh sk j (omega arith) in
    let one = slot_same team figures h k sh sk j l rest in
    let eh : length h ≡ 11 = sh.all in
    let ek : length k ≡ 11 = sk.all in
    take-suc h j 0 (omega arith) ∙ ap (λ xs. xs ++ get_or h j 0 ∷ []) rest ∙ ap (λ x. take j k ++ x ∷ []) one ∙ sym (take-suc k j 0 (omega arith))

pub same_substituted : (team : Team) (figures : List Figures) (h k : List ℕ) → IsSubstituted team figures h → IsSubstituted team figures k → h ≡ k
same_substituted team figures h k sh sk =
    let eh : length h ≡ 11 = sh.all in
    let ek : length k ≡ 11 = sk.all in
    sym (take_all 11 h (omega arith)) ∙ first_same team figures h k sh sk 11 (omega arith) ∙ take_all 11 k (omega arith)

final_by : (team : Team) (figures : List Figures) (ended : Bool) (h k : List ℕ) (b : Bool) → is_still ended team ≡ b → IsFinal team figures ended h → IsFinal team figures ended k → h ≡ k
final_by team figures ended h k true e fh fk = fh.kept e ∙ sym (fk.kept e)
final_by team figures ended h k false e fh fk = same_substituted team figures h k (fh.substituted e) (fk.substituted e)

pub same_final : (team : Team) (figures : List Figures) (ended : Bool) (h k : List ℕ) → IsFinal team figures ended h → IsFinal team figures ended k → h ≡ k
same_final team figures ended h k = final_by team figures ended h k (is_still ended team) refl
