use Rattle.std.proofs.Common.{◌≡◌, ◌∙◌, ap, arith, of_z, to_z, w32}
use Rattle.std.specs.Prelude.{codes}
use Rattle.std.proofs.lemmas.Int.{ints}
use Rattle.json_members.specs.Members.{integer}
use Rattle.json_members.specs.Tokens.{member_tokens}
use Rattle.rule_book.specs.BonusPoints.{bps_of}
use Rattle.season_views.proofs.Written.{retold}
use Rattle.fixture_windows.proofs.element_summary.write_bps.Goals as goal

pub returns : goal.returns
returns g c =
    let kept : to_z w32 (of_z w32 c.bps.result) ≡ c.bps.result = omega (arith, ints, c.bps.ensures.low, c.bps.ensures.high) in
    retold (ap (λ z. member_tokens (codes "bps") (integer z)) (kept ∙ c.bps.ensures.value ∙ ap (λ position. bps_of position c.args.line.now) c.position_of.ensures)) c.write_integer.ensures
