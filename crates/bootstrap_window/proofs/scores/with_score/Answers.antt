use Rattle.std.proofs.Common.{rules, ◌≡◌, ◌+◌, ◌∙◌, ◌+ℤ◌, ap, arith, sym, to_z, of_z, w32, w64}
use Rattle.std.proofs.lemmas.Int.{ints}
use Rattle.std.proofs.lemmas.List.{length_push}
use Rattle.bootstrap_window.specs.Told.{better_of, entry_of, highest_of}
use Rattle.bootstrap_window.proofs.ScoreFacts.{best_push, sum_push}
use Rattle.bootstrap_window.proofs.scores.with_score.Goals as goal

pub returns-clause-told : goal.returns-clause-told
returns-clause-told c = λ before told.
    let best = c.args.scores.best in
    let e = c.args.entry in
    let both = best_push best before e c.args.gross told.highest told.entry in
    let same : to_z w32 (of_z w32 c.args.gross) ≡ c.args.gross = search rules in
    let fits : to_z w64 (of_z w64 (to_z w64 (of_z w64 c.args.scores.total) +ℤ to_z w64 (of_z w64 c.from.result))) ≡ c.args.scores.total +ℤ c.args.gross =
    omega (arith, ints, c.requires.near, c.requires.few, c.from.ensures, same) in
    record {
      many = ap (λ n. n + 1) told.many ∙ sym (length_push before (e, c.args.gross));
      total = fits ∙ sum_push before e c.args.gross c.args.scores.total told.total;
      highest = ap highest_of c.better.ensures ∙ ap (λ z. highest_of (better_of best e z)) same ∙ both.0;
      entry = ap entry_of c.better.ensures ∙ ap (λ z. entry_of (better_of best e z)) same ∙ both.1;
    }
