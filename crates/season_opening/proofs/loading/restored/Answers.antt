use Rattle.std.proofs.Common.{◌∙◌, refl, subst, sym}
use Rattle.fpl_base.specs.Keeping.{KeysRise, map_of}
use Rattle.season_running.specs.Standing.{host_rows}
use Rattle.season_opening.specs.Opening.{AreMadeOf}
use Rattle.season_opening.proofs.loading.restored.Goals as goal

pub books_of-requires-clause-rise : goal.books_of-requires-clause-rise
books_of-requires-clause-rise c = subst KeysRise (sym c.in_ok-stored.ensures) c.requires

pub returns-in-None-clause-made : goal.returns-in-None-clause-made
returns-in-None-clause-made c = λ operator.
    subst (λ rows. AreMadeOf (map_of rows) (host_rows operator c.in_ok-books_of-in-None.field-0.running c.in_ok-books_of-in-None.field-0.lasts)) c.in_ok-stored.ensures (record {
      lawful = record {
        rows = c.in_ok-stored.stored;
        rise = subst KeysRise (sym c.in_ok-stored.ensures) c.requires;
        map = refl;
        judged = sym c.judge.ensures ∙ c.in-None.is;
      };
      order = c.in_ok-books_of-in-None.ensures.ordered operator;
      told = c.in_ok-books_of-in-None.ensures.told operator;
    })
