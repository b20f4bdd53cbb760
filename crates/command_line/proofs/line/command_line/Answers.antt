use Rattle.std.proofs.Common.{rules, ap₂, codes, true, ◌≡◌, ◌∙◌}
use Rattle.clap.specs.Words.{app_of, new_rule, rule_of, with_rule}
use Rattle.command_line.specs.Reading.{option_rule, without_rules}
use Rattle.command_line.proofs.line.command_line.Goals as goal

pub returns : goal.returns
returns c =
    let command : rule_of c.required-command.result ≡ record (new_rule (codes "command")) { required = true } = search rules in
    let inline : rule_of c.long-inline.result ≡ option_rule (codes "view-inline") = search rules in
    let block : rule_of c.long-block.result ≡ option_rule (codes "view-block") = search rules in
    let count : rule_of c.long-count.result ≡ option_rule (codes "count") = search rules in
    let none : app_of c.disable_version_flag-none.result ≡ without_rules = search rules in
    let one = c.in_ok-one.ensures.shape (search rules) ∙ ap₂ with_rule none command in
    let two = c.in_ok-two.ensures.shape (search rules) ∙ ap₂ with_rule one inline in
    let three = c.in_ok-three.ensures.shape (search rules) ∙ ap₂ with_rule two block in
    c.in_ok-four.ensures.shape (search rules) ∙ ap₂ with_rule three count
