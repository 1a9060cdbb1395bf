-- Words are read where none of them is dashes alone.
use Rattle.std.proofs.Common.{◌≡◌, Bool, List, subst}
use Rattle.std.specs.Prelude.{None, Result, if◌then◌else◌}
use Rattle.std.specs.List.{list_any}
use Rattle.clap.specs.Words.{Text}
use Rattle.command_line.specs.declared.words.WordFault.{WordFault}
use Rattle.command_line.specs.declared.words.Words.{Words}
use Rattle.command_line.specs.Orders.{is_dash, ordered, read}
use Rattle.command_line.specs.Values.{Answers}

pub read_says : (line words : List Text) (result : Result Words WordFault) (b : Bool)
    → line ≡ words → b ≡ list_any is_dash words → Answers (if b then None else read line) result → Answers (ordered words) result
read_says line words result b e d h =
    subst (λ (x : Bool). Answers (if x then None else read words) result) d (subst (λ (ws : List Text). Answers (if b then None else read ws) result) e h)
