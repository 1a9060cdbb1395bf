-- A command that nothing refuses keeps the facts lawful.
use Rattle.std.proofs.Common.{◌&&◌, false, refl}
use Rattle.std.proofs.lemmas.Bool.{and_parts}
use Rattle.rule_book.specs.MatchFacts.{line_of}
use Rattle.season_book.specs.Commands.{has_club, has_fixture, has_place, has_player}
use Rattle.season_book.specs.declared.command.Command.TheVariants as command
use Rattle.std.specs.Prelude.{is_some}
use Rattle.std.specs.List.{list_all}
use Rattle.lawful_books.specs.FactsKeeping.{AmendmentsAreLawful, GrantedAreLawful}
use Rattle.lawful_books.proofs.FixturesKept.{fixture_added, fixture_amended, fixture_moved, is_its_place}
use Rattle.lawful_books.proofs.MatchesKept.{line_dropped, line_replaced, mark_set, sheet_replaced}
use Rattle.lawful_books.proofs.PlayersKept.{player_added, player_changed}
use Rattle.lawful_books.proofs.SeasonKept.{deadline_moved}

pub granted_are_lawful : GrantedAreLawful
granted_are_lawful facts now (command.Deadline g t) order lawful is ranges granted = deadline_moved facts lawful g t now granted.there granted.unbroken
granted_are_lawful facts now (command.Player id name position club price) order lawful is ranges granted =
    player_added facts lawful (record { id = id; name = name; position = position; club = club; price = price; gone = false }) granted.there granted.unbroken
granted_are_lawful facts now (command.Price p price) order lawful is ranges granted =
    player_changed facts lawful (λ p. record p { price = price }) p (λ p. refl) (λ p old. record { club = old.club; price = granted.unbroken })
granted_are_lawful facts now (command.Club p club) order lawful is ranges granted =
    let there = and_parts (has_player facts p) (has_club facts club) granted.there in
    player_changed facts lawful (λ p. record p { club = club }) p (λ p. refl) (λ p old. record { club = there.1; price = old.price })
granted_are_lawful facts now (command.Gone p gone) order lawful is ranges granted =
    player_changed facts lawful (λ p. record p { gone = gone }) p (λ p. refl) (λ p old. record { club = old.club; price = old.price })
granted_are_lawful facts now (command.Fixture id home away g kickoff) order lawful is ranges granted =
    let there = and_parts (has_club facts home) (has_club facts away && has_place facts g) granted.there in
    let more = and_parts (has_club facts away) (has_place facts g) there.1 in
    fixture_added facts lawful (record { id = id; home = home; away = away; gw = g; kickoff = kickoff })
    there.0 more.0 is (is_its_place facts g ranges.3 more.1) order granted.unbroken
granted_are_lawful facts now (command.Move f g kickoff) order lawful is ranges granted =
    let there = and_parts (has_fixture facts f) (has_place facts g) granted.there in
    fixture_moved facts lawful f g kickoff (is_its_place facts g ranges.1 there.1) order granted.unbroken
granted_are_lawful facts now (command.AmendFixture f home away) order lawful is ranges granted =
    let there = and_parts (has_fixture facts f) (has_club facts home && has_club facts away) granted.there in
    let clubs = and_parts (has_club facts home) (has_club facts away) there.1 in
    fixture_amended facts lawful f home away clubs.0 clubs.1 is
granted_are_lawful facts now (command.Sheet f lines finished) order lawful is ranges granted =
    let there = and_parts (has_fixture facts f) (list_all (λ row. has_player facts row.0) lines) granted.there in
    sheet_replaced facts lawful f lines finished there.0 there.1 granted.unbroken
granted_are_lawful facts now (command.Line f p line) order lawful is ranges granted =
    let there = and_parts (has_fixture facts f) (has_player facts p) granted.there in
    line_replaced facts lawful f p line there.0 there.1 granted.unbroken
granted_are_lawful facts now (command.Drop f p) order lawful is ranges granted =
    let there = and_parts (has_fixture facts f) (is_some (line_of facts.matches f p)) granted.there in
    line_dropped facts lawful f p there.0
granted_are_lawful facts now (command.Finished f finished) order lawful is ranges granted = mark_set facts lawful f finished granted.unbroken
granted_are_lawful facts now command order lawful is ranges granted = lawful

pub amendments_are_lawful : AmendmentsAreLawful
amendments_are_lawful facts given lawful =
    player_changed facts lawful (λ p. record p { name = given.name; position = given.position }) given.player (λ p. refl) (λ p old. record { club = old.club; price = old.price })
