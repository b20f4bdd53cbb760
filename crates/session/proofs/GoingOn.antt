-- What is kept of boxes goes on from a document to the next one.
use Rattle.std.proofs.Common.{List, Option, None, Some, IfSome}
use Rattle.face_api.specs.Table.{Table}
use Rattle.wm_units.specs.declared.view.View.{View}
use Rattle.style_types.specs.Tree.{Nodes}
use Rattle.box_gen.specs.Boxes.{root_boxes}
use Rattle.box_gen.specs.Tree.{Boxes}
use Rattle.dom_store.specs.State as dom
use Rattle.style_tree.specs.Styling.{styled_document}
use Rattle.session.specs.declared.keeping.KeptBoxes.{KeptBoxes}
use Rattle.session.specs.declared.keeping.KeptBoxes.TheVariants.{Current, Former}
use Rattle.session.specs.declared.planting.Rooted.{Rooted}
use Rattle.session.specs.Found.{GoOn, KeepsAll}
use Rattle.session.specs.State.{AreKept}
use Rattle.session.proofs.Former.{former_of}

module _ (Is : dom.State → Type 0) (next : dom.State → dom.State) where
  -- boxes that stand become those of a former page
  pub goes_former : (made : Rooted) → GoOn Is next (Some (Current made)) (Some (Former made))
  goes_former made = record {
    keeps = λ faces view rules state is kept. record { texts = λ name has. has; results = λ pair has. has };
    kept = λ faces view rules state is kept. former_of faces view (styled_document rules state) made kept;
  }

  -- those of a former page stay so
  pub stays_former : (made : Rooted) → GoOn Is next (Some (Former made)) (Some (Former made))
  stays_former made = record {
    keeps = λ faces view rules state is kept. record { texts = λ name has. has; results = λ pair has. has };
    kept = λ faces view rules state is kept. kept;
  }

  -- and where none are kept, none are
  pub stays_none : GoOn Is next None None
  stays_none = record {
    keeps = λ faces view rules state is kept. record { texts = λ name has. has; results = λ pair has. has };
    kept = λ faces view rules state is kept. kept;
  }

  -- boxes of which all is found still, whatever the page, go on to any document
  pub goes_whole : (boxes left : Option KeptBoxes) → ((page : Boxes) → KeepsAll boxes left page)
      → ((faces : List (Option Table)) (view : View) (nodes edited : Nodes) → IfSome boxes (AreKept faces view nodes) → IfSome left (AreKept faces view edited)) → GoOn Is next boxes left
  goes_whole boxes left keeps kept = record {
    keeps = λ faces view rules state is was. keeps (root_boxes (styled_document rules (next state)));
    kept = λ faces view rules state is was. kept faces view (styled_document rules state) (styled_document rules (next state)) was;
  }
