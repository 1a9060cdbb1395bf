-- What is written of a window that the season has, or has not.
use Rattle.std.proofs.Common.{◌≡◌, refl, sym, ap, subst, Bool, true, false, Option, Some, None, Ok, Result, if◌then◌else◌}
use Rattle.fpl_base.specs.declared.memory.Memory.{Memory}
use Rattle.json.specs.Written.{Written}
use Rattle.serde_json.specs.Data.{Data}
use Rattle.json_members.specs.Tokens.{Appends, tokens_of}
use Rattle.season_views.specs.Seen.{WritesShown}

module _ (b : Bool) (due : Data) (old new : Written) where
  pub not_there : b ≡ false → WritesShown (if b then Some due else None) (Ok false) old new
  not_there e = subst (λ (o : Option Data). WritesShown o (Ok false) old new) (sym (ap (λ t. if t then Some due else None) e)) refl

  pub is_there : {u : Unit {0}} → b ≡ true → Appends (Ok u) old new (tokens_of due) → WritesShown (if b then Some due else None) (Ok true) old new
  is_there e wrote = subst (λ (o : Option Data). WritesShown o (Ok true) old new) (sym (ap (λ t. if t then Some due else None) e)) (refl, wrote.tokens, wrote.before)

  -- as another shows it
  pub shown_as : (r : Result Bool Memory) → b ≡ true → WritesShown (Some due) r old new → WritesShown (if b then Some due else None) r old new
  shown_as r e shows = subst (λ (o : Option Data). WritesShown o r old new) (sym (ap (λ t. if t then Some due else None) e)) shows
