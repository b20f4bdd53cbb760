use Rattle.std.proofs.Common.{◌∙◌, ap}
use Rattle.box_gen.specs.Boxes.{root_boxes}
use Rattle.rel_shift.specs.Positions.{positions_of}
use Rattle.style_tree.specs.Styling.{styled_document}
use Rattle.text_boxes.proofs.SetBoxes.{root_set}
use Rattle.text_boxes.proofs.SetDocuments.{document_blank, document_set}
use Rattle.text_boxes.proofs.SetPositions.{all_positions_stay}
use Rattle.text_boxes.proofs.laws.texts_are_set_in_pages.Goals as goal

pub returns : goal.returns
returns c = record {
  styled = λ rules state number was letters has. document_set state number was letters has rules;
  boxes = λ rules state number was letters has same.
      ap root_boxes (document_set state number was letters has rules) ∙ root_set number letters (styled_document rules state) (document_blank state number was letters has rules same);
  positions = λ rules state number was letters has.
      ap positions_of (document_set state number was letters has rules) ∙ all_positions_stay number letters (styled_document rules state);
}
