use Rattle.std.proofs.Common.{◌≡◌, ◌∙◌, ap, cond, false, true, rules, None}
use Rattle.std.specs.BTreeMap.{insert_entry}
use Rattle.std.specs.Str.{bytes_eq}
use Rattle.manager_book.specs.Indexed.{number_at}
use Rattle.manager_book.proofs.Keys.{by_items, number_goes, number_stays, number_taken, put_at_key}
use Rattle.manager_book.proofs.book.renumber.Goals as goal

pub returns-then-eq-clause-ok : goal.returns-then-eq-clause-ok
returns-then-eq-clause-ok c key =
    let same : c.in_ok-bytes.bytes.items ≡ c.args.new.now = search rules in
    let entries : c.insert.new.self.entries ≡ insert_entry by_items c.args.numbers.now.entries c.in_ok-bytes.bytes c.args.number = search rules in
    let equal : bytes_eq c.args.old.now c.args.new.now ≡ true = search rules in
    put_at_key c.args.numbers.now c.insert.new.self c.in_ok-bytes.bytes c.args.number c.args.new.now key same entries
    ∙ number_stays c.args.number c.args.old.now c.args.new.now key (number_at c.args.numbers.now key) equal

pub returns-clause-ok : goal.returns-clause-ok
returns-clause-ok c key =
    let same : c.in_ok-bytes.bytes.items ≡ c.args.new.now = search rules in
    let entries : c.insert.new.self.entries ≡ insert_entry by_items c.args.numbers.now.entries c.in_ok-bytes.bytes c.args.number = search rules in
    let other : bytes_eq c.args.old.now c.args.new.now ≡ false = search rules in
    number_taken c.insert.new.self c.remove.new.self c.args.old.now key c.remove.ensures.updates
    ∙ ap (cond (bytes_eq key c.args.old.now) None) (put_at_key c.args.numbers.now c.insert.new.self c.in_ok-bytes.bytes c.args.number c.args.new.now key same entries)
    ∙ number_goes c.args.number c.args.old.now c.args.new.now key (number_at c.args.numbers.now key) other
