use Rattle.json_members.proofs.AppendLemmas.{one, then}
use Rattle.bootstrap_window.proofs.element_types.write_position.Goals as goal

pub returns : goal.returns
returns c =
    rw (c.position_number.ensures, c.plural_of.ensures, c.short_of.ensures, c.singular_of.ensures, c.short_of-2.ensures, c.most_in_play.ensures, c.least_in_play.ensures, c.in_squads.ensures) at
    (then (one c.in_ok-begin_object.ensures) (then c.in_ok-write_count.ensures (then c.in_ok-write_count-2.ensures (then c.in_ok-write_text.ensures (then c.in_ok-write_text-2.ensures
    (then c.in_ok-write_text-3.ensures (then c.in_ok-write_text-4.ensures (then c.in_ok-write_count-3.ensures (then c.in_ok-write_count-4.ensures (then c.in_ok-write_count-5.ensures
    (one c.end_object.ensures)))))))))))
