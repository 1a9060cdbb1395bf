use Rattle.std.proofs.Common.{◌≡◌, ◌+◌, ◌<◌, ℕ, arith, length, subst, sym}
use Rattle.std.proofs.lemmas.Grind.{common_steps}
use Rattle.rule_book.specs.LeagueCalls.{most_leagues}
use Rattle.leagues_and_cups.specs.Books.{AreBooked, row_entered, row_of}
use Rattle.leagues_and_cups.proofs.Booked.{booked_more, next_is_new}
use Rattle.leagues_and_cups.proofs.leagues.Leagues.restore.Goals as goal

pub enter-requires-clause-new : goal.enter-requires-clause-new
enter-requires-clause-new c =
    let next : c.numbered-l.result ≡ length c.self.inside.leagues.items + 1 = grind (arith, common_steps, c.numbered-l.ensures, c.len.ensures) in
    λ e. next_is_new c.self.inside.leagues.items c.self.inside.memberships c.self.invariant e c.numbered-l.result next

pub invariant_of-result : goal.invariant_of-result
invariant_of-result c =
    let leagues = c.self.inside.leagues.items in
    let rows = c.self.inside.memberships in
    let next : c.numbered-l.result ≡ length leagues + 1 = grind (arith, common_steps, c.numbered-l.ensures, c.len.ensures) in
    let entered : (e : ℕ) → row_of c.enter.new.self e ≡ row_entered c.args.league.members c.numbered-l.result rows e
    = subst (λ ms. (e : ℕ) → row_of c.enter.new.self e ≡ row_entered ms c.numbered-l.result rows e) c.members.ensures.value c.in_ok-enter.ensures in
    let room : length leagues < most_leagues = subst (λ l. length l < most_leagues) (sym c.self.view_is) c.requires.room in
    subst (λ l. AreBooked l c.enter.new.self) (sym c.in_ok-push.ensures.items)
    (booked_more leagues rows c.enter.new.self c.numbered-l.result c.args.league c.self.invariant room next entered)
