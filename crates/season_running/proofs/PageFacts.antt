-- What is answered of the text of a window.
use Rattle.std.proofs.Common.{◌≡◌, ℕ, List, Option, Some, None, ap, refl, sym, subst}
use Rattle.std.specs.Prelude.{IsSome}
use Rattle.std.specs.Option.{option_map}
use Rattle.std.proofs.lemmas.Option.{none-some, same_Some}
use Rattle.serde_json.specs.Data.{Data}
use Rattle.serde_json.specs.Written.{compact_text}
use Rattle.season_book.specs.Doing.{IsShown}
use Rattle.season_book.specs.Verdict.{page_of, shown_or_unknown}
use Rattle.season_book.specs.declared.answer.Answer.{Answer}
use Rattle.season_book.specs.declared.answer.Answer.TheVariants as answer
use Rattle.season_book.specs.declared.shown.Shown.TheVariants as shown

-- the text that is there is the one that is due
pub page_shown : (due : Option Data) (page : List ℕ) → Some page ≡ option_map compact_text due → IsShown (shown_or_unknown (option_map page_of due)) (answer.Shown (shown.Page page))
page_shown None page is = absurd (none-some page (sym is))
page_shown (Some d) page is = ap (λ text. answer.Shown (shown.Page text)) (same_Some page (compact_text d) is)

-- none is there where none is due
pub page_unknown : (due : Option Data) → None ≡ option_map compact_text due → IsShown (shown_or_unknown (option_map page_of due)) answer.Unknown
page_unknown None is = refl
page_unknown (Some d) is = absurd (none-some (compact_text d) is)

-- memory is wanted where one is due
pub page_out : (due : Option Data) → IsSome due → IsShown (shown_or_unknown (option_map page_of due)) answer.Memory
page_out None some = absurd (cc some)
page_out (Some d) some = tt
