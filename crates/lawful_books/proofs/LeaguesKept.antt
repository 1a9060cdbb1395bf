-- A league stays lawful where entries go on, where one joins it and where it is drawn, and a new one is lawful.
use Rattle.std.proofs.Common.{◌≡◌, ◌<◌, ◌≤◌, ◌==◌, ◌&&◌, ℕ, Bool, true, false, List, [], ◌∷◌, AllPairs, length, get_or, nat_le, sym, subst, ◌∙◌, inl, inr, arith}
use Rattle.std.specs.Prelude.{is_some}
use Rattle.std.specs.List.{list_all, list_any}
use Rattle.std.specs.Option.{option_map_or}
use Rattle.std.specs.Cmp.{unsigned_Decides}
use Rattle.std.proofs.lemmas.Bool.{and_parts, eqb-true}
use Rattle.std.proofs.lemmas.Bool.Decides.{nat_tests}
use Rattle.std.proofs.lemmas.List.Sorted.{list_any-IsPermutation}
use Rattle.std.proofs.lemmas.List.Sums.{AllPass-from_list_all}
use Rattle.std.proofs.lemmas.Map.Made.{is_member-Decides}
use Rattle.rule_book.specs.declared.league.LeagueKind.{LeagueKind}
use Rattle.rule_book.specs.declared.league.LeagueKind.TheVariants as kind
use Rattle.rule_book.specs.HeadToHead.{is_draw}
use Rattle.rule_book.specs.History.{Event}
use Rattle.rule_book.specs.HistoryRules.{NoneAfter}
use Rattle.rule_book.specs.LeagueCalls.{is_drawn, is_head, is_member, most_members, new_league, with_member, with_order}
use Rattle.rule_book.specs.Leagues.{LeagueFacts}
use Rattle.rule_book.specs.UpTo.{start_of}
use Rattle.leagues_and_cups.proofs.DrawLemmas.{order_of_all}
use Rattle.season_book.specs.Book.{Book, EntryFacts}
use Rattle.season_book.specs.LeagueCommands.{is_registered}
use Rattle.season_book.specs.LeagueViews.{history_of}
use Rattle.season_records.specs.Keeping.{AreEarly}
use Rattle.season_records.specs.Touched.{gameweek_of}
use Rattle.lawful_books.specs.Leagues.{IsLawfulLeague, plays_from}
use Rattle.lawful_books.proofs.Grown.{IsGrown, play_grown, registered_first, registered_grown}
use Rattle.lawful_books.proofs.Memberships.{joined_from, joined_stays, one_member_more}
use Rattle.lawful_books.proofs.Tests.{all_among}

-- entries go on, and the season has more gameweeks
pub league_kept : (before after : List EntryFacts) → IsGrown before after → (g k : ℕ) → g ≤ k → (league : LeagueFacts) → IsLawfulLeague before g league → IsLawfulLeague after k league
league_kept before after grown g k le league lawful = record {
  from_one = lawful.from_one;
  in_season = omega (arith, le, lawful.in_season);
  own = lawful.own;
  registered = λ e is. registered_grown before after grown e (lawful.registered e is);
  few = lawful.few;
  places = lawful.places;
  drawn = λ is. record {
    head = (lawful.drawn is).head;
    draw = (lawful.drawn is).draw;
    play = play_grown before after grown league.start league.order (lawful.drawn is).play;
  };
}

room : (k : LeagueKind) → 1 ≤ most_members k
room kind.Classic = omega arith
room kind.Head = omega arith

module _ (entries : List EntryFacts) (g : ℕ) where
  -- a new league
  pub new_lawful : (kind : LeagueKind) (name code : List ℕ) (start e : ℕ) → is_registered entries e ≡ true → 1 ≤ start → start ≤ g
      → IsLawfulLeague entries g (new_league kind name code start e)
  new_lawful kind name code start e registered ge le = record {
    from_one = ge;
    in_season = le;
    own = grind (arith, nat_tests);
    registered = λ x is. subst (λ x. is_registered entries x ≡ true) (only e x is) registered;
    few = room kind;
    places = omega arith;
    drawn = λ is. absurd cc;
  }
    where
      only : (e x : ℕ) → is_member (new_league kind name code start e) x ≡ true → e ≡ x
      only e x is = grind (arith, nat_tests, is)

  -- one member more
  pub joined_lawful : (league : LeagueFacts) (e : ℕ) → IsLawfulLeague entries g league → is_drawn league ≡ false → is_registered entries e ≡ true
      → length league.members < most_members league.kind → IsLawfulLeague entries g (with_member e league)
  joined_lawful league e lawful undrawn registered room = record {
    from_one = lawful.from_one;
    in_season = lawful.in_season;
    own = joined_stays league e league.creator lawful.own;
    registered = λ x is. elim (joined_from league e x is) [
      | inl same ↦ subst (λ x. is_registered entries x ≡ true) (sym same) registered
      | inr old ↦ lawful.registered x old
    ];
    few = omega (arith, room, one_member_more league e);
    places = lawful.places;
    drawn = λ is. absurd (let both : true ≡ false = sym is ∙ undrawn in cc);
  }

  -- those of an order are the members
  places_are_members : (order members : List ℕ) → AllPairs (λ m n. m < n) members → is_draw order members ≡ true → (p : ℕ → Bool) → list_any p members ≡ list_any p order
  places_are_members order members rise draw p =
      let two = and_parts (nat_le 2 (length members)) ((length order == length members) && list_all (λ member. list_any (λ place. member == place) order) members) draw in
      let all = and_parts (length order == length members) (list_all (λ member. list_any (λ place. member == place) order) members) two.1 in
      list_any-IsPermutation p members order
      (order_of_all members order (λ i j d lt within same. let less = rise i j d lt within in omega (arith, less, same)) (eqb-true (length order) (length members) all.0)
      (λ k d lt. (is_member-Decides unsigned_Decides order (get_or members k d)).0 (AllPass-from_list_all (λ member. list_any (λ place. member == place) order) members all.1 k d lt)))

  pub drawn_lawful : (league : LeagueFacts) (order : List ℕ) → IsLawfulLeague entries g league → AllPairs (λ m n. m < n) league.members → length order ≤ 64
      → is_head league.kind ≡ true → is_draw order league.members ≡ true → ((e : ℕ) → is_registered entries e ≡ true → plays_from entries league.start e ≡ true)
      → IsLawfulLeague entries g (with_order order league)
  drawn_lawful league order lawful rise few head draw plays = record {
    from_one = lawful.from_one;
    in_season = lawful.in_season;
    own = lawful.own;
    registered = lawful.registered;
    few = lawful.few;
    places = few;
    drawn = λ is. record {
      head = head;
      draw = draw;
      play = all_among (plays_from entries league.start) order (λ e among.
          plays e (lawful.registered e (places_are_members order league.members rise draw (λ m. m == e) ∙ among)));
    };
  }

-- who is registered in an early book plays from each gameweek that is not before the next
pub early_plays : (book : Book) (start e : ℕ) → AreEarly book → gameweek_of book ≤ start → is_registered book.entries e ≡ true → plays_from book.entries start e ≡ true
early_plays book start e early le registered = of_history (history_of book.entries e) (early e) (sym (registered_first book.entries e) ∙ registered)
  where
    of_history : (h : List Event) → NoneAfter (gameweek_of book) h → is_some (start_of h) ≡ true → option_map_or (λ first. nat_le first start) (start_of h) false ≡ true
    of_history [] none is = absurd cc
    of_history (x ∷ h) none is = let first : x.gw ≤ gameweek_of book = none.0 in grind (arith, nat_tests, first, le)
