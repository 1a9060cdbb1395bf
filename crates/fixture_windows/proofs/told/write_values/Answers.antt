use Rattle.std.proofs.Common.{◌∙◌, ap, map}
use Rattle.json_members.specs.Tokens.{tokens_of}
use Rattle.season_book.specs.Windows.{listed}
use Rattle.season_views.proofs.Written.{retold}
use Rattle.fixture_windows.specs.Appeared.{pair_of}
use Rattle.season_book.specs.FixturesWindow.{value_row}
use Rattle.fixture_windows.proofs.told.write_values.Goals as goal

pub returns : goal.returns
returns c =
    retold (ap (λ rows. tokens_of (listed value_row rows)) (ap (map pair_of) c.deref.ensures.value ∙ c.in_ok-told.ensures)) c.write_told.ensures
