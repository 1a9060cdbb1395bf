use Rattle.std.proofs.Common.{◌∙◌, refl, sym, ap}
use Rattle.std.proofs.lemmas.Simd.{map-map}
use Rattle.serde_json.specs.Data.{array}
use Rattle.serde_json.specs.View.{items_of}
use Rattle.json_members.specs.Tokens.{tokens_of}
use Rattle.json_members.proofs.AppendLemmas.{one_more}
use Rattle.json_members.proofs.ListLemmas.{rest_of}
use Rattle.season_views.proofs.Written.{ended, retold}
use Rattle.fixture_windows.specs.Appeared.{pair_of}
use Rattle.season_book.specs.FixturesWindow.{value_row}
use Rattle.fixture_windows.specs.declared.told.Told.{Told}
use Rattle.fixture_windows.proofs.told.write_told.Goals as goal

pub loop-one-preserved : goal.loop-one-preserved
loop-one-preserved c =
    let wrote = c.in_ok-write_value.ensures in
    record {
      tokens = one_more (λ (told : Told). value_row (pair_of told)) c.args.told.now c.loop-one.one-index c.one-item.result c.loop-one-test.true c.one-item.is wrote c.loop-one.invariant.tokens;
      before = wrote.before ∙ c.loop-one.invariant.before;
    }

pub returns : goal.returns
returns c =
    let told = c.args.told.now in
    retold (ap (λ rows. tokens_of (array (items_of rows))) (sym (map-map value_row pair_of told)))
    (ended (rest_of (λ (one : Told). value_row (pair_of one))) told c.loop-one.one-index refl c.loop-one-test.false c.end_array.ensures c.loop-one.invariant.tokens c.loop-one.invariant.before)
