-- What is written of what is due.
use Rattle.std.proofs.Common.{◌≡◌, Option, Some, None, Ok, refl, sym, subst}
use Rattle.json.specs.Written.{Written}
use Rattle.serde_json.specs.Data.{Data}
use Rattle.json_members.specs.Tokens.{Appends, tokens_of}
use Rattle.std.specs.Prelude.{true, false}
use Rattle.season_views.specs.Seen.{WritesShown}

-- nothing is written where nothing is due
pub nothing_shown : (o : Option Data) (old new : Written) → o ≡ None → WritesShown o (Ok false) old new
nothing_shown o old new is = subst (λ due. WritesShown due (Ok false) old new) (sym is) refl

-- and what is due where it was written
pub something_shown : {x : Unit {0}} {old new : Written} (o : Option Data) (d : Data) → o ≡ Some d → Appends (Ok x) old new (tokens_of d) → WritesShown o (Ok true) old new
something_shown {old = old} {new = new} o d is wrote = subst (λ due. WritesShown due (Ok true) old new) (sym is) (refl, wrote.tokens, wrote.before)
