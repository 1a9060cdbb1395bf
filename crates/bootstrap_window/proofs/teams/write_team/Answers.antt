use Rattle.std.proofs.Common.{◌∙◌, ap}
use Rattle.json_members.proofs.AppendLemmas.{one, then}
use Rattle.season_book.specs.Teams.{short_name}
use Rattle.bootstrap_window.proofs.teams.write_team.Goals as goal

pub returns : goal.returns
returns c =
    rw (c.from.ensures, c.get.ensures.value, c.from-2.ensures, c.get-2.ensures.value, c.text_of-2.ensures, c.as_str.ensures.value ∙ c.in_ok-short.ensures ∙ ap short_name c.text_of.ensures) at
    (then (one c.in_ok-begin_object.ensures) (then c.in_ok-write_count.ensures (then c.in_ok-write_count-2.ensures (then c.in_ok-write_text.ensures (then c.in_ok-write_text-2.ensures
    (one c.end_object.ensures))))))
