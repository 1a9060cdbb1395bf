-- Lines of words, and what they order.
use Rattle.std.specs.Prelude.{◌≡◌, ℕ, List, [], ◌∷◌, codes, Option, Some, None, false, true, ⊤}
use Rattle.fpl_base.specs.declared.kinds.Profile.TheVariants as rules
use Rattle.command_line.specs.declared.words.What.TheVariants as what
use Rattle.command_line.specs.declared.words.Words.{Words}
use Rattle.command_line.specs.declared.words.Words.TheVariants as words
use Rattle.command_line.specs.Orders.{ordered}

-- each line orders what stands beside it
abbrev pub AreOrdered : List (List (List ℕ) × Option Words) → Type 0
AreOrdered [] = ⊤
AreOrdered (row ∷ rows) = (ordered row.0 ≡ row.1) × AreOrdered rows

abbrev op : List ℕ
op = codes "operator1"

-- lines that are read: both forms of an option, any order, a flag or none, and a value with a dash in front or an equals sign in it
abbrev pub read_lines : List (List (List ℕ) × Option Words)
read_lines =
    (codes "score" ∷ [], Some (words.Score rules.A))
    ∷ (codes "score" ∷ codes "--profile" ∷ codes "2" ∷ [], Some (words.Score rules.B))
    ∷ (codes "pipe" ∷ codes "--key" ∷ op ∷ [], Some (words.Pipe op None))
    ∷ (codes "pipe" ∷ codes "--key=operator1" ∷ codes "--store" ∷ codes "s" ∷ [], Some (words.Pipe op (Some (codes "s"))))
    ∷ (codes "pipe" ∷ codes "--store=-x" ∷ codes "--key" ∷ op ∷ [], Some (words.Pipe op (Some (codes "-x"))))
    ∷ (codes "pipe" ∷ codes "--store=a=b" ∷ codes "--key" ∷ op ∷ [], Some (words.Pipe op (Some (codes "a=b"))))
    ∷ (codes "report" ∷ codes "--key" ∷ op ∷ codes "--store" ∷ codes "s" ∷ codes "--what" ∷ codes "season" ∷ [], Some (words.Report op (codes "s") what.Season))
    ∷ (codes "load" ∷ codes "--key" ∷ op ∷ codes "--store" ∷ codes "s" ∷ codes "--dir" ∷ codes "d" ∷ codes "--split" ∷ codes "1" ∷ [], Some (words.Load op (codes "s") (codes "d") 1 rules.A false))
    ∷ (codes "load" ∷ codes "--more" ∷ codes "--key" ∷ op ∷ codes "--store" ∷ codes "s" ∷ codes "--dir" ∷ codes "d" ∷ codes "--split" ∷ codes "1" ∷ [], Some (words.Load op (codes "s") (codes "d") 1 rules.A true))
    ∷ []

-- lines that are not read: no word, help, an option twice, a flag with a value or twice, a part of a name, a value with a dash in front, an empty
-- one, a dash or two alone, an option that a report does not need, and commands
-- without an option that has to be given
abbrev pub unread_lines : List (List (List ℕ) × Option Words)
unread_lines =
    ([], None)
    ∷ (codes "help" ∷ [], None)
    ∷ (codes "load" ∷ codes "--key" ∷ op ∷ codes "--key" ∷ op ∷ codes "--store" ∷ codes "s" ∷ codes "--dir" ∷ codes "d" ∷ codes "--split" ∷ codes "1" ∷ [], None)
    ∷ (codes "load" ∷ codes "--more=1" ∷ codes "--key" ∷ op ∷ codes "--store" ∷ codes "s" ∷ codes "--dir" ∷ codes "d" ∷ codes "--split" ∷ codes "1" ∷ [], None)
    ∷ (codes "load" ∷ codes "--more" ∷ codes "--more" ∷ codes "--key" ∷ op ∷ codes "--store" ∷ codes "s" ∷ codes "--dir" ∷ codes "d" ∷ codes "--split" ∷ codes "1" ∷ [], None)
    ∷ (codes "pipe" ∷ codes "--ke" ∷ op ∷ [], None)
    ∷ (codes "pipe" ∷ codes "--key" ∷ codes "-operator" ∷ [], None)
    ∷ (codes "pipe" ∷ codes "--key=-x" ∷ [], None)
    ∷ (codes "pipe" ∷ codes "--key" ∷ op ∷ codes "--store=" ∷ [], None)
    ∷ (codes "pipe" ∷ codes "--key" ∷ op ∷ codes "--store" ∷ codes "-" ∷ [], None)
    ∷ (codes "pipe" ∷ codes "--key" ∷ op ∷ codes "--" ∷ [], None)
    ∷ (codes "pipe" ∷ codes "--key" ∷ op ∷ codes "--help" ∷ [], None)
    ∷ (codes "report" ∷ codes "--key" ∷ op ∷ codes "--store" ∷ codes "s" ∷ codes "--what" ∷ codes "season" ∷ codes "--id" ∷ codes "1" ∷ [], None)
    ∷ (codes "dream" ∷ codes "--key" ∷ op ∷ codes "--store" ∷ codes "s" ∷ [], None)
    ∷ (codes "events" ∷ codes "--key" ∷ op ∷ codes "--store" ∷ codes "s" ∷ [], None)
    ∷ (codes "draft" ∷ codes "--key" ∷ op ∷ codes "--store" ∷ codes "s" ∷ [], None)
    ∷ []
