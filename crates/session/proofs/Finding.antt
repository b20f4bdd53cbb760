-- What is found for a page, in the words of a session.
use Rattle.std.proofs.Common.{ℕ, List, Option, Some, None}
use Rattle.face_api.specs.Table.{Table}
use Rattle.box_gen.specs.Tree.{Boxes}
use Rattle.relayout.specs.Named.{ArrangesOwed, FindsAll, PreparesOwed}
use Rattle.session.specs.declared.keeping.KeptBoxes.{KeptBoxes}
use Rattle.session.specs.declared.keeping.KeptBoxes.TheVariants.{Current}
use Rattle.session.specs.declared.planting.Rooted.{Rooted}
use Rattle.session.specs.declared.session.Session.{Session}
use Rattle.session.specs.Found.{ArrangesFor, HasAll, KeepsAll, PreparesFor, page_boxes_in}

-- what is kept is kept
pub keeps_itself : (kept : Option KeptBoxes) (page : Boxes) → KeepsAll kept kept page
keeps_itself kept page = record { texts = λ name has. has; results = λ pair has. has }

-- and all of nothing
pub keeps_nothing : (kept : Option KeptBoxes) (page : Boxes) → KeepsAll None kept page
keeps_nothing kept page = record { texts = λ name has. absurd has; results = λ pair has. absurd has }

module _ {I : Type 0} {D : I → Type 0} (session : Session I D) (made : Rooted) where
  -- what boxes that have as much as the session cost costs the session
  module _ (was is : ℕ) (keeps : KeepsAll session.boxes (Some (Current made)) (page_boxes_in session)) where
    pub prepares_for : PreparesOwed made.arena.slots made.root (page_boxes_in session) was is → PreparesFor session was is
    prepares_for rises = λ owed others. rises owed (λ name here apart. keeps.texts name (others name here apart))

    pub arranges_for : (faces : List (Option Table)) → ArrangesOwed faces session.view made.arena.slots made.root (page_boxes_in session) was is → ArrangesFor faces session was is
    arranges_for faces rises = λ owed others. rises owed (λ pair here apart. keeps.results pair (others pair here apart))

  -- a session with boxes in which all is found has all
  pub has_all : (faces : List (Option Table)) → FindsAll faces session.view made.arena.slots made.root (page_boxes_in session) → HasAll faces (record session { boxes = Some (Current made) })
  has_all faces finds = record { texts = finds.texts; results = finds.results }
