-- Whose lines are others in a sheet, found one by one.
use Rattle.std.proofs.Common.{◌≡◌, ◌≢◌, ◌⊎◌, inl, inr, ⊎_elim, ℕ, Bool, true, false, List, [], ◌∷◌, ◌++◌, Option, Some, None, is_some, refl, sym, ◌∙◌, ap, subst}
use Rattle.std.proofs.lemmas.Bool.{false≢true}
use Rattle.rule_book.specs.declared.line.Line.{Line}
use Rattle.rule_book.specs.MatchFacts.{Lines, line_in, players_in}
use Rattle.rescore_graph.specs.Graph.{Among}
use Rattle.season_nodes.specs.Reading.{among_either, among_left, among_right}
use Rattle.season_nodes.specs.SeasonLaws.{has_listed, listed_has}
use Rattle.season_cells.specs.Plans.{AreOthersIn}

-- some players were found whose lines are others: all those who are not left, of those who had a line and of those who get one
pub record AreSeen (old new : Lines) (found had get : List ℕ) : Type 0 where
  pub within : (p : ℕ) → Among found p → line_in old p ≢ line_in new p
  pub had_line : (p : ℕ) → Among (players_in old) p → Among had p ⊎ (Among found p ⊎ (line_in old p ≡ line_in new p))
  pub gets_line : (p : ℕ) → Among (players_in new) p → Among get p ⊎ (Among found p ⊎ (is_some (line_in old p) ≡ true))
  pub get_lines : (p : ℕ) → Among get p → is_some (line_in new p) ≡ true

module _ (old new : Lines) where
  pub none_seen : (had get : List ℕ) → had ≡ players_in old → get ≡ players_in new → AreSeen old new [] had get
  none_seen had get e i = record {
    within = λ p a. absurd a;
    had_line = λ p a. inl (subst (λ ps. Among ps p) (sym e) a);
    gets_line = λ p a. inl (subst (λ ps. Among ps p) (sym i) a);
    get_lines = λ p a. listed_has new p (subst (λ ps. Among ps p) i a);
  }

  more : (found : List ℕ) (q p : ℕ) {X : Type 0} → Among found p ⊎ X → Among (found ++ q ∷ []) p ⊎ X
  more found q p (inl a) = inl (among_left found (q ∷ []) p a)
  more found q p (inr x) = inr x

  within_more : (found : List ℕ) (q : ℕ) → line_in old q ≢ line_in new q → ((p : ℕ) → Among found p → line_in old p ≢ line_in new p) → (p : ℕ) → Among (found ++ q ∷ []) p → line_in old p ≢ line_in new p
  within_more found q is_other within p a = ⊎_elim (λ b. within p b) (λ b. ⊎_elim (λ e. subst (λ n. line_in old n ≢ line_in new n) e is_other) (λ c. absurd c) b) (among_either found (q ∷ []) p a)

  here : (found : List ℕ) (q p : ℕ) → q ≡ p → Among (found ++ q ∷ []) p
  here found q p e = among_right found (q ∷ []) p (inl e)

  -- one who had a line has another
  pub had_found : (found had get : List ℕ) (q : ℕ) → line_in old q ≢ line_in new q → AreSeen old new found (q ∷ had) get → AreSeen old new (found ++ q ∷ []) had get
  had_found found had get q is_other seen = record {
    within = within_more found q is_other seen.within;
    had_line = λ p a. ⊎_elim (λ b. ⊎_elim (λ e. inr (inl (here found q p e))) (λ c. inl c) b) (λ b. inr (more found q p b)) (seen.had_line p a);
    gets_line = λ p a. ⊎_elim (λ b. inl b) (λ b. inr (more found q p b)) (seen.gets_line p a);
    get_lines = seen.get_lines;
  }

  apart : (o n : Option Line) → is_some o ≡ false → is_some n ≡ true → o ≢ n
  apart o n none there e = false≢true (sym none ∙ ap is_some e ∙ there)

  -- one who had none gets one
  pub gets_found : (found had get : List ℕ) (q : ℕ) → is_some (line_in old q) ≡ false → AreSeen old new found had (q ∷ get) → AreSeen old new (found ++ q ∷ []) had get
  gets_found found had get q none seen = record {
    within = within_more found q (apart (line_in old q) (line_in new q) none (seen.get_lines q (inl refl))) seen.within;
    had_line = λ p a. ⊎_elim (λ b. inl b) (λ b. inr (more found q p b)) (seen.had_line p a);
    gets_line = λ p a. ⊎_elim (λ b. ⊎_elim (λ e. inr (inl (here found q p e))) (λ c. inl c) b) (λ b. inr (more found q p b)) (seen.gets_line p a);
    get_lines = λ p a. seen.get_lines p (inr a);
  }

  -- one is the same
  pub had_same : (found had get : List ℕ) (q : ℕ) → line_in old q ≡ line_in new q → AreSeen old new found (q ∷ had) get → AreSeen old new found had get
  had_same found had get q same seen = record {
    within = seen.within;
    had_line = λ p a. ⊎_elim (λ b. ⊎_elim (λ e. inr (inr (subst (λ n. line_in old n ≡ line_in new n) e same))) (λ c. inl c) b) (λ b. inr b) (seen.had_line p a);
    gets_line = seen.gets_line;
    get_lines = seen.get_lines;
  }

  -- one had a line already
  pub gets_again : (found had get : List ℕ) (q : ℕ) → is_some (line_in old q) ≡ true → AreSeen old new found had (q ∷ get) → AreSeen old new found had get
  gets_again found had get q there seen = record {
    within = seen.within;
    had_line = seen.had_line;
    gets_line = λ p a. ⊎_elim (λ b. ⊎_elim (λ e. inr (inr (subst (λ n. is_some (line_in old n) ≡ true) e there))) (λ c. inl c) b) (λ b. inr b) (seen.gets_line p a);
    get_lines = λ p a. seen.get_lines p (inr a);
  }

  neither : (o n : Option Line) → is_some o ≡ false → is_some n ≡ false → o ≡ n
  neither None None a b = refl
  neither (Some x) n a b = absurd (false≢true (sym a))
  neither None (Some y) a b = absurd (false≢true (sym b))

  -- nobody is left
  pub all_seen : (found : List ℕ) → AreSeen old new found [] [] → AreOthersIn old new found
  all_seen found seen = record { within = seen.within; all = λ p. by_old p (is_some (line_in old p)) refl }
    where
      before : (p : ℕ) → is_some (line_in old p) ≡ true → Among found p ⊎ (line_in old p ≡ line_in new p)
      before p there = ⊎_elim (λ a. absurd a) (λ b. b) (seen.had_line p (has_listed old p there))

      by_new : (p : ℕ) (t : Bool) → is_some (line_in old p) ≡ false → is_some (line_in new p) ≡ t → Among found p ⊎ (line_in old p ≡ line_in new p)
      by_new p true none there = ⊎_elim (λ a. absurd a) (λ b. ⊎_elim (λ c. inl c) (λ was. absurd (false≢true (sym none ∙ was))) b) (seen.gets_line p (has_listed new p there))
      by_new p false none gone = inr (neither (line_in old p) (line_in new p) none gone)

      by_old : (p : ℕ) (t : Bool) → is_some (line_in old p) ≡ t → Among found p ⊎ (line_in old p ≡ line_in new p)
      by_old p true there = before p there
      by_old p false none = by_new p (is_some (line_in new p)) none refl
