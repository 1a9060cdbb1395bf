use Rattle.std.proofs.Common.{◌≤◌, length, sym, subst}
use Rattle.leagues_and_cups.proofs.RoundFacts.{most_slots}
use Rattle.leagues_and_cups.proofs.drawn.Drawn.of.Goals as goal

pub index_of-requires : goal.index_of-requires
index_of-requires c = record { few = subst (λ slots. length slots ≤ 1024) (sym c.as_slice.ensures) (most_slots c.args.bracket c.requires) }
