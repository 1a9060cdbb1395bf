use Rattle.std.proofs.Common.{◌≡◌, ◌∙◌, ◌++◌, ap, append-nil}
use Rattle.json.specs.Print.{print, print_from}
use Rattle.fpl_answers.proofs.views.page_text.Goals as goal

pub returns : goal.returns
unfolding print_from
returns c =
    let empty : c.into_inner-text.result.items ≡ c.args.out.before =
    c.into_inner-text.ensures.items ∙ ap (λ tokens. c.args.out.before ++ print tokens) c.requires ∙ append-nil c.args.out.before in
    c.in_ok-extend_from_slice.ensures.items ∙ ap (λ text. text ++ c.as_slice.result.now) empty ∙ ap (λ text. c.args.out.before ++ text) c.as_slice.ensures
