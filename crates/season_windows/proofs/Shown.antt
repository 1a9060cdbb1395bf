-- What a window's text is, by what was written of it.
use Rattle.std.proofs.Common.{◌≡◌, ◌∙◌, ◌++◌, List, [], ℕ, true, Option, Some, None, Ok, refl}
use Rattle.std.specs.Option.{option_map}
use Rattle.json.specs.Print.{print}
use Rattle.json.specs.Written.{Written}
use Rattle.serde_json.specs.Data.{Data}
use Rattle.serde_json.specs.Written.{compact_text}
use Rattle.season_views.specs.Seen.{WritesShown}
use Rattle.season_views.proofs.Written.{text_is, written}

-- the text of what a new writer wrote
pub page_is : (o : Option Data) (a b : Written) (page : List ℕ) → WritesShown o (Ok true) a b → a.tokens ≡ [] → a.before ≡ [] → page ≡ b.before ++ print b.tokens
    → Some page ≡ option_map compact_text o
page_is None a b page writes none before is = absurd (cc writes)
page_is (Some d) a b page writes none before is =
    text_is (Some d) a b page refl none before is (λ e same. written d e same (record { tokens = writes.1; before = writes.2 }))
