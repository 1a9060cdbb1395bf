use Rattle.std.proofs.Common.{◌∙◌, ◌&&◌, ℕ, Bool, filter, not, refl}
use Rattle.json_members.proofs.ListLemmas.{kept_if, rest_of}
use Rattle.rule_book.specs.declared.season.Fixture.{Fixture}
use Rattle.rule_book.specs.MatchFacts.{MatchFacts, has_facts}
use Rattle.season_views.proofs.Written.{ended}
use Rattle.season_book.specs.ElementSummary.{coming_row, has_club}
use Rattle.fixture_windows.proofs.element_summary.write_coming.Goals as goal

abbrev is_coming : ℕ → MatchFacts → Fixture → Bool
is_coming club matches fixture = has_club club fixture && not (has_facts matches fixture.id)

pub loop-fixture-preserved : goal.loop-fixture-preserved
loop-fixture-preserved g c =
    let wrote = c.in_ok-write_if_coming.ensures in
    record {
      tokens = kept_if (coming_row c.args.club) (is_coming c.args.club c.args.seen.now.facts.matches) c.args.order.now c.loop-fixture.fixture-index c.fixture-item.result c.loop-fixture-test.true c.fixture-item.is wrote c.loop-fixture.invariant.tokens;
      before = wrote.before ∙ c.loop-fixture.invariant.before;
    }

pub returns : goal.returns
returns g c =
    ended (λ rows. rest_of (coming_row c.args.club) (filter (is_coming c.args.club c.args.seen.now.facts.matches) rows)) c.args.order.now c.loop-fixture.fixture-index refl c.loop-fixture-test.false c.end_array.ensures c.loop-fixture.invariant.tokens c.loop-fixture.invariant.before
