use Rattle.std.proofs.Common.{option_map, ◌∙◌, ap, sym, subst}
use Rattle.std.specs.String.{string_bytes}
use Rattle.cascade.specs.Filing.{Heading, IsPut, of_type, by_type}
use Rattle.cascade.proofs.Shelving.{Letters, put_by_type}
use Rattle.cascade.proofs.shelves.Shelves.put_by_type.Goals as goal

pub returns-in_ok-put-in-Some : goal.returns-in_ok-put-in-Some
returns-in_ok-put-in-Some c =
    subst (λ (h : Heading). IsPut c.args.self.now (record c.args.self.now { by_type = c.put.new.self }) h c.args.place)
    (ap of_type c.deref.ensures ∙ ap (λ tag. by_type (option_map (λ (t : Letters). string_bytes t) tag)) (sym c.in-Some.is))
    (put_by_type c.args.self.now c.put.new.self c.deref.result.now c.args.place c.in_ok-put-in-Some.ensures)
