use Rattle.std.proofs.Common.{◌≡◌, rules, to_z, of_z, w32}
use Rattle.json_members.proofs.AppendLemmas.{one, then}
use Rattle.fpl_answers.proofs.entries.write_entry_gameweek.Goals as goal

pub returns : goal.returns
returns c =
    let gross : to_z w32 (of_z w32 c.args.shown.now.score.gross) ≡ c.args.shown.now.score.gross = search rules in
    let net : to_z w32 (of_z w32 c.args.shown.now.score.net) ≡ c.args.shown.now.score.net = search rules in
    rw (c.chip_word.ensures, c.from.ensures, c.from-2.ensures, c.factor_of.ensures, gross, net) at
    (then (one c.in_ok-begin_object.ensures) (then c.in_ok-write_armband.ensures (then c.in_ok-write_text.ensures (then c.in_ok-write_count.ensures
    (then (one c.in_ok-key.ensures) (then c.in_ok-write_slots.ensures (then c.in_ok-write_count-2.ensures (then c.in_ok-write_integer.ensures
    (then c.in_ok-write_integer-2.ensures (then (one c.in_ok-key-2.ensures) (then c.in_ok-write_players.ensures (one c.end_object.ensures))))))))))))
