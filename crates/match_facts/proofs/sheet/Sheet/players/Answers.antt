use Rattle.std.proofs.Common.{◌+◌, arith, sym, ap, ◌∙◌}
use Rattle.std.proofs.lemmas.Slice.Zip.{firsts-zip}
use Rattle.rule_book.specs.MatchFacts.{players_in, Sheet}
use Rattle.match_facts.proofs.sheet.Sheet.players.Goals as goal

pub returns-clause-players : goal.returns-clause-players
returns-clause-players c =
    c.as_slice.ensures.value
    ∙ sym (firsts-zip c.self.inside.players.items c.self.inside.lines.items c.self.invariant.columns.paired)
    ∙ ap (λ (s : Sheet). players_in s.lines) c.self.view_is

pub returns-clause-ascending : goal.returns-clause-ascending
returns-clause-ascending c = rw c.as_slice.ensures.value (λ k within. c.self.invariant.columns.ascending k (k + 1) (omega arith) within)
