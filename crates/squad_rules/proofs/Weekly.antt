-- The best formation gives the team of the week.
use Rattle.std.proofs.Common.{◌≡◌, ◌∙◌, sym, ap, subst, ℕ, ◌<◌, ◌≤◌, ℤ, ◌≤ℤ◌, Bool, true, ◌&&◌, ◌||◌, ◌==◌, ◌⊎◌, inl, inr, List, map, nat_lt, nat_le, arith}
use Rattle.std.proofs.lemmas.Bool.{false≢true, or_left, or_right, and_from, lt-ltb, le-leb, eq-eqb, cases_order, cases_lt}
use Rattle.std.proofs.lemmas.Int.{ints}
use Rattle.fpl_base.specs.declared.kinds.Position.{Position}
use Rattle.fpl_base.specs.declared.kinds.Position.TheVariants.{Defender, Midfielder, Forward}
use Rattle.rule_book.specs.Lineups.{is_formation}
use Rattle.rule_book.specs.Positions.{is_defender, is_midfielder, is_forward}
use Rattle.rule_book.specs.Ranks.{AllDiffer}
use Rattle.squad_rules.specs.Elevens.{Row, chosen, count_in, IsLegalEleven, total_points, comes_no_later}
use Rattle.squad_rules.specs.Dreams.{HasNoEleven, IsDream, is_among}
use Rattle.squad_rules.specs.Pools.{ArePools, IsBestBefore, HasNoneBefore, first_of, is_before}
use Rattle.squad_rules.specs.declared.dream.Dream.{Dream}
use Rattle.squad_rules.specs.declared.formations.Best.{Best}
use Rattle.squad_rules.proofs.Standing.{no_more, named, own_count, own_even, own_legal, own_order, own_total}
use Rattle.squad_rules.proofs.Trying.{in_range, is_before_by}

chain : (a b c : ℤ) → a ≤ℤ b → b ≤ℤ c → a ≤ℤ c
chain a b c one two = omega (arith, ints, one, two)

squeezed : (a b c : ℤ) → a ≤ℤ b → b ≤ℤ c → a ≡ c → b ≡ c
squeezed a b c one two e = omega (arith, ints, one, two, e)

-- a formation comes before the end of all
before_end : (d m f : ℕ) → is_formation d m f ≡ true → is_before d m 6 0 ≡ true
before_end d m f e = is_before_by d m 6 0 (inl (omega (arith, (in_range d m f e).defenders.1)))

module _ (rows : List Row) (differ : AllDiffer (map (λ row. row.0) rows)) (pools : Position → List Row) (are : ArePools rows pools) where
  -- where there are too few for each formation, no choice is a legal eleven
  pub none_legal : HasNoneBefore pools 6 0 → HasNoEleven rows
  none_legal none choice legal =
      let eleven = chosen choice rows in
      let d = count_in is_defender eleven in
      let m = count_in is_midfielder eleven in
      let f = count_in is_forward eleven in
      false≢true (sym (none d m f (before_end d m f legal.formation) legal.formation) ∙ (no_more rows differ pools are choice legal).0)

  module _ (best : Best) (is : IsBestBefore pools 6 0 best) (dream : Dream)
      (players : dream.players ≡ map (λ row. row.0) (first_of pools best.defenders best.midfielders best.forwards))
      (defenders : dream.defenders ≡ best.defenders) (midfielders : dream.midfielders ≡ best.midfielders)
      (forwards : dream.forwards ≡ best.forwards) (total : dream.total ≡ best.total) where
    abbrev own_rows : List ℕ → List Row
    own_rows players = chosen (is_among players) rows

    abbrev own_players : List ℕ
    own_players = named rows differ pools are best.defenders best.midfielders best.forwards is.formation is.enough

    counted : (p : Position → Bool) (n k : ℕ) → n ≡ k → count_in p (own_rows own_players) ≡ k → n ≡ count_in p (own_rows own_players)
    counted p n k e f = e ∙ sym f

    most : (other : ℕ → Bool) → IsLegalEleven (chosen other rows) → total_points (chosen other rows) ≤ℤ best.total
    most other legal =
        let eleven = chosen other rows in
        let d = count_in is_defender eleven in
        let m = count_in is_midfielder eleven in
        let f = count_in is_forward eleven in
        let known = no_more rows differ pools are other legal in
        chain (total_points eleven) (total_points (first_of pools d m f)) best.total known.1
        (is.greatest d m f (before_end d m f legal.formation) legal.formation known.0)

    no_later : (d m : ℕ) → (is_before d m best.defenders best.midfielders ≡ true → ⊥) → (nat_lt best.defenders d || (best.defenders == d && nat_le best.midfielders m)) ≡ true
    no_later d m not = go (cases_order best.defenders d)
      where
        same : best.defenders ≡ d → (m < best.midfielders) ⊎ (best.midfielders ≤ m) → (nat_lt best.defenders d || (best.defenders == d && nat_le best.midfielders m)) ≡ true
        same e (inl less) = absurd (not (is_before_by d m best.defenders best.midfielders (inr (sym e, less))))
        same e (inr more) =
            or_right (nat_lt best.defenders d) (best.defenders == d && nat_le best.midfielders m)
            (and_from (best.defenders == d) (nat_le best.midfielders m) (eq-eqb best.defenders d e) (le-leb best.midfielders m more))

        go : (best.defenders ≡ d) ⊎ ((best.defenders < d) ⊎ (d < best.defenders)) → (nat_lt best.defenders d || (best.defenders == d && nat_le best.midfielders m)) ≡ true
        go (inl e) = same e (cases_lt m best.midfielders)
        go (inr (inl less)) = or_left (nat_lt best.defenders d) (best.defenders == d && nat_le best.midfielders m) (lt-ltb best.defenders d less)
        go (inr (inr more)) = absurd (not (is_before_by d m best.defenders best.midfielders (inl more)))

    -- of the legal elevens with the total of the best none has an earlier formation
    earliest : (other : ℕ → Bool) → IsLegalEleven (chosen other rows) → total_points (chosen other rows) ≡ best.total → comes_no_later (own_rows own_players) (chosen other rows) ≡ true
    earliest other legal e =
        let eleven = chosen other rows in
        let d = count_in is_defender eleven in
        let m = count_in is_midfielder eleven in
        let f = count_in is_forward eleven in
        let known = no_more rows differ pools are other legal in
        let same : total_points (first_of pools d m f) ≡ best.total = squeezed (total_points eleven) (total_points (first_of pools d m f)) best.total known.1
        (is.greatest d m f (before_end d m f legal.formation) legal.formation known.0) e in
        let one = own_count rows differ pools are best.defenders best.midfielders best.forwards is.formation is.enough Defender in
        let two = own_count rows differ pools are best.defenders best.midfielders best.forwards is.formation is.enough Midfielder in
        ap (λ n. nat_lt n d || (n == d && nat_le (count_in is_midfielder (own_rows own_players)) m)) one
        ∙ ap (λ n. nat_lt best.defenders d || (best.defenders == d && nat_le n m)) two
        ∙ no_later d m (λ before. is.first d m f before legal.formation known.0 same)

    abbrev Weekly : List ℕ → Type 0
    Weekly players = IsDream rows (record { players = players; defenders = dream.defenders; midfielders = dream.midfielders; forwards = dream.forwards; total = dream.total })

    pub is_dream : IsDream rows dream
    is_dream = subst Weekly (sym players) whole
      where
        reached : dream.total ≡ total_points (own_rows own_players)
        reached =
            total ∙ is.total ∙ sym (own_total rows differ pools are best.defenders best.midfielders best.forwards is.formation is.enough)

        whole : Weekly own_players
        whole = record {
          legal = own_legal rows differ pools are best.defenders best.midfielders best.forwards is.formation is.enough;
          even = own_even rows differ pools are best.defenders best.midfielders best.forwards is.formation is.enough;
          in_order = own_order rows differ pools are best.defenders best.midfielders best.forwards is.formation is.enough;
          defenders = counted is_defender dream.defenders best.defenders defenders (own_count rows differ pools are best.defenders best.midfielders best.forwards is.formation is.enough Defender);
          midfielders = counted is_midfielder dream.midfielders best.midfielders midfielders (own_count rows differ pools are best.defenders best.midfielders best.forwards is.formation is.enough Midfielder);
          forwards = counted is_forward dream.forwards best.forwards forwards (own_count rows differ pools are best.defenders best.midfielders best.forwards is.formation is.enough Forward);
          total = reached;
          greatest = λ other legal. subst (λ (z : ℤ). total_points (chosen other rows) ≤ℤ z) (sym total) (most other legal);
          first = λ other legal e. earliest other legal (e ∙ total);
        }
