use Rattle.std.proofs.Common.{◌++◌, sym, subst}
use Rattle.rule_book.specs.History.{in_gameweek}
use Rattle.season_ledger.specs.Stands.{StandsFor}
use Rattle.manager_book.specs.declared.deed.JudgedDeed.{JudgedDeed}
use Rattle.manager_book.specs.Deeds.{deeds_of, gameweek_of}
use Rattle.manager_book.proofs.keep.keep.Goals as goal

pub returns-in-Cancel-clause-history : goal.returns-in-Cancel-clause-history
returns-in-Cancel-clause-history c position h placed st =
    subst (λ (deed : JudgedDeed). StandsFor position c.cancel_chip.new.self (h ++ in_gameweek (gameweek_of deed) (deeds_of deed))) (sym c.in-Cancel.is) (c.cancel_chip.ensures.history position h st)
