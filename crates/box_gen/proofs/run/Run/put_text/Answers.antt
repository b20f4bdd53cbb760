use Rattle.std.proofs.Common.{◌∙◌, ◌&&◌, Bool, ap, rules, String, Global}
use Rattle.std.specs.String.{string_bytes}
use Rattle.fragment_types.specs.declared.item.Item.TheVariants.{Text}
use Rattle.box_gen.specs.Boxes.{is_blank}
use Rattle.box_gen.proofs.Runs.{item_put}
use Rattle.box_gen.proofs.run.Run.put_text.Goals as goal

pub returns : goal.returns
returns c =
    let run = c.args.self.now in
    item_put run.items.items c.push.new.self.items (Text c.args.node c.in_ok-clone.field-0 c.in_ok-clone-2.field-0) _ run.atoms.items run.blank (is_blank (string_bytes c.args.text.now)) _ (search rules) (search rules)
    (ap (λ (blank : Bool). run.blank && blank) (c.is_blank.ensures ∙ ap is_blank (c.deref-2.ensures ∙ ap (λ (text : String Global). string_bytes text) c.deref.ensures)))
