use Rattle.std.proofs.Common.{◌∙◌, sym, ap, subst, option_map}
use Rattle.std.specs.Prelude.{Option, Some}
use Rattle.std.specs.String.{string_bytes}
use Rattle.cascade.specs.declared.shelves.Upper.{Upper}
use Rattle.cascade.specs.Filing.{Heading, IsPut, of_upper_id, of_upper_class, by_type}
use Rattle.cascade.specs.Shelves.{upper_heading}
use Rattle.cascade.proofs.Shelving.{put_by_upper_id, put_by_upper_class}
use Rattle.cascade.proofs.shelves.Shelves.put_by_left.Goals as goal

pub returns-in_ok-put-in-Some-Id : goal.returns-in_ok-put-in-Some-Id
returns-in_ok-put-in-Some-Id c =
    let other = by_type (option_map (λ t. string_bytes t) c.args.tag.now) in
    subst (λ (h : Heading). IsPut c.args.self.now (record c.args.self.now { by_upper_id = c.put.new.self }) h c.args.place)
    (ap of_upper_id c.deref.ensures ∙ sym (c.upper_name.ensures other ∙ ap (λ (o : Option Upper). upper_heading o other) c.in-Some-Id.is ∙ ap (λ (u : Upper). upper_heading (Some u) other) c.in-Some-Id.field-0-is))
    (put_by_upper_id c.args.self.now c.put.new.self c.deref.result.now c.args.place c.in_ok-put-in-Some-Id.ensures)

pub returns-in_ok-put-in-Some-Class : goal.returns-in_ok-put-in-Some-Class
returns-in_ok-put-in-Some-Class c =
    let other = by_type (option_map (λ t. string_bytes t) c.args.tag.now) in
    subst (λ (h : Heading). IsPut c.args.self.now (record c.args.self.now { by_upper_class = c.put-in-Some-Class.new.self }) h c.args.place)
    (ap of_upper_class c.deref-in-Some-Class.ensures ∙ sym (c.upper_name.ensures other ∙ ap (λ (o : Option Upper). upper_heading o other) c.in-Some-Class.is ∙ ap (λ (u : Upper). upper_heading (Some u) other) c.in-Some-Class.field-0-is))
    (put_by_upper_class c.args.self.now c.put-in-Some-Class.new.self c.deref-in-Some-Class.result.now c.args.place c.in_ok-put-in-Some-Class.ensures)
