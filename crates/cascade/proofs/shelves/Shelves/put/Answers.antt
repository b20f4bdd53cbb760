use Rattle.std.proofs.Common.{List, ◌∙◌, ap, subst}
use Rattle.css_types.specs.declared.rule.Part.{Part}
use Rattle.css_types.specs.Rule.{compounds_of}
use Rattle.cascade.specs.Filing.{Heading, IsPut, heading}
use Rattle.cascade.proofs.Shelving.{heading_of_none, put_other}
use Rattle.cascade.proofs.shelves.Shelves.put.Goals as goal

pub returns-in_ok-push-in-empty : goal.returns-in_ok-push-in-empty
returns-in_ok-push-in-empty c =
    subst (λ (h : Heading). IsPut c.args.self.now (record c.args.self.now { others = c.push.new.self }) h c.args.place)
    (heading_of_none c.deref-parts.result.now c.in-empty.len_below ∙ ap (λ (parts : List Part). heading (compounds_of parts)) c.deref-parts.ensures.value)
    (put_other c.args.self.now c.push.new.self c.args.place c.in_ok-push-in-empty.ensures.items)
