-- A window is shown where something is due, and hidden where nothing is.
use Rattle.std.proofs.Common.{◌≡◌, Bool, true, false, Option, Some, None, Ok, Err, Result, refl, sym, subst}
use Rattle.std.specs.Prelude.{IsErr, MatchResult}
use Rattle.std.specs.declared.alloc.AllocError.{AllocError}
use Rattle.fpl_base.specs.declared.memory.Memory.{Memory}
use Rattle.json.specs.Written.{Written}
use Rattle.serde_json.specs.Data.{Data}
use Rattle.json_members.specs.Tokens.{Appends, tokens_of}
use Rattle.season_views.specs.Seen.{WritesShown}

out_of_memory : (d : Data) (r : Result Bool Memory) (a b : Written) → IsErr r → WritesShown (Some d) r a b
out_of_memory d (Ok x) a b is = absurd (cc is)
out_of_memory d (Err m) a b is = tt

-- what was written is shown, unless memory was wanting
pub shown_if : (o : Option Data) (d : Data) (wrote : Result (Unit {0}) AllocError) (r : Result Bool Memory) (a b : Written)
    → MatchResult wrote (λ _. r ≡ Ok true) (λ _. IsErr r) → o ≡ Some d → Appends wrote a b (tokens_of d) → WritesShown o r a b
shown_if o d (Ok x) r a b is due wrote =
    subst (λ s. WritesShown s r a b) (sym due) (subst (λ s. WritesShown (Some d) s a b) (sym is) (refl, wrote.tokens, wrote.before))
shown_if o d (Err e) r a b is due wrote = subst (λ s. WritesShown s r a b) (sym due) (out_of_memory d r a b is)

-- nothing is shown
pub hidden : (o : Option Data) (a : Written) → o ≡ None → WritesShown o (Ok false) a a
hidden o a none = subst (λ s. WritesShown s (Ok false) a a) (sym none) refl

-- memory may be wanting where something is due
pub failed : (o : Option Data) (d : Data) (m : Memory) (a b : Written) → o ≡ Some d → WritesShown o (Err m) a b
failed o d m a b due = subst (λ s. WritesShown s (Err m) a b) (sym due) tt
