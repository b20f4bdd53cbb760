use Rattle.std.proofs.Common.{◌≡◌, ◌∙◌, refl, ap, rules, ◌<◌, length}
use Rattle.fragment_types.specs.declared.item.BoxName.{BoxName}
use Rattle.box_gen.specs.declared.tree.Content.TheVariants.{Blocks}
use Rattle.box_gen.specs.Tree.{box, none, blocks, inline, all_boxes_of}
use Rattle.box_gen.specs.Boxes.{own_name}
use Rattle.box_gen.specs.Building.{filling_of, run_of}
use Rattle.box_gen.proofs.BoxLines.{rolled}
use Rattle.box_gen.proofs.Fillings.{empty_is}
use Rattle.box_gen.proofs.Puts.{paragraph_is, blocks_are}
use Rattle.box_gen.proofs.filling.Filling.finished.Goals as goal

pub returns-then-is_empty : goal.returns-then-is_empty
returns-then-is_empty c =
    let f = c.args.self in
    let none_yet : length f.boxes.items ≡ 0 = search rules in
    c.paragraph.ensures
    ∙ ap (λ (name : BoxName). box name f.style (inline (run_of f.run).items) (run_of f.run).atoms none) c.own_name-name.ensures
    ∙ paragraph_is f.boxes.items (filling_of f) refl (empty_is _ none_yet)

pub returns : goal.returns
returns c =
    let f = c.args.self in
    let some : 0 < length f.boxes.items = search rules in
    let all = c.end_run.new.self in
    rolled (record { node = record { name = c.own_name-name.result; style = all.style; content = Blocks }; children = all.boxes })
    ∙ ap (λ (name : BoxName). box name all.style blocks (all_boxes_of all.boxes.items) none) c.own_name-name.ensures
    ∙ blocks_are f.boxes.items (filling_of f) (filling_of all) refl some c.in_ok-end_run.ensures
