-- What a session holds, and the page that it shows.
use Rattle.std.specs.Prelude.{◌≡◌, ◌⊎◌, ℕ, List, None, Option, IfSome, Result, Ok, Err}
use Rattle.face_api.specs.Table.{Table}
use Rattle.css_types.specs.declared.value.Declaration.{Declaration}
use Rattle.css_types.specs.Rule.{Ruling, rulings_of}
use Rattle.style_types.specs.Tree.{Nodes}
use Rattle.wm_units.specs.View.{IsView}
use Rattle.wm_units.specs.declared.view.View.{View}
use Rattle.html_read.specs.Values.{Node}
use Rattle.dom_store.specs.Opening.{opened}
use Rattle.dom_store.specs.State.{state_of}
use Rattle.tree_laws.specs.Weight.{bytes, total}
use Rattle.cascade.specs.Index.{index_rules}
use Rattle.edits.specs.State as edited
use Rattle.style_tree.specs.Styling.{styled_document}
use Rattle.box_gen.specs.Boxes.{root_boxes}
use Rattle.box_arena.specs.At.{parent_at}
use Rattle.box_arena.specs.Boxes.{Stands}
use Rattle.box_arena.specs.Reusing.{AreNamedOnce, IsTree}
use Rattle.relayout.specs.Counts.{AreFoundedUnder}
use Rattle.relayout.specs.Relayout.{AreRightUnder}
use Rattle.place_map.specs.Placed.{Page}
use Rattle.session.specs.declared.error.OpenError.{OpenError}
use Rattle.session.specs.declared.error.OpenError.TheVariants.{Memory}
use Rattle.session.specs.declared.keeping.KeptBoxes.{KeptBoxes}
use Rattle.session.specs.declared.keeping.KeptBoxes.TheVariants.{Current, Former}
use Rattle.session.specs.declared.planting.Rooted.{Rooted}
use Rattle.session.specs.declared.session.Session.{Session}
use Rattle.page_modes.specs.Pages.{flow_page_of, page_of}
use Rattle.undo_log.specs.History.{Standing, standing_of}
use Rattle.undo_log.specs.Log.{Log, empty}
use Rattle.session.specs.Document.{CanBeOpen, most_bytes}
use Rattle.session.specs.History.{IsHistory, Opened, unedited}
use Rattle.session.specs.Kept.{ArePositions}
use Rattle.session.specs.Limits.{CanBeLaidOut, IsWithin}
use Rattle.session.specs.Opening.{CanOpen, IsRefused}

-- Boxes that were made of a styled tree stand in their arena, each told by its name, and can be laid out. What is kept there and of positions
-- is right, and with each result that is kept is all on which it rests.
pub record AreReady (faces : List (Option Table)) (view : View) (nodes : Nodes) (made : Rooted) : Type 0 where
  pub stands : Stands made.arena.slots made.root (root_boxes nodes)
  pub free : parent_at made.arena.slots made.root ≡ None
  pub fit : CanBeLaidOut (root_boxes nodes)
  pub named : AreNamedOnce made.arena.slots
  pub right : AreRightUnder faces view made.arena.slots made.root
  pub founded : AreFoundedUnder faces view made.arena.slots made.root
  pub within : IsWithin nodes
  pub positions : ArePositions made.positions nodes

-- Boxes of an earlier document stand in their arena, each told by its name. What is kept of them is right for them as they stand there,
-- and with each result that is kept is all on which it rests.
pub record IsFormer (faces : List (Option Table)) (view : View) (made : Rooted) : Type 0 where
  pub tree : IsTree made.arena.slots made.root
  pub named : AreNamedOnce made.arena.slots
  pub right : AreRightUnder faces view made.arena.slots made.root
  pub founded : AreFoundedUnder faces view made.arena.slots made.root

-- the boxes of this styled tree, or those of an earlier document, with what is kept of them
abbrev pub AreKept : (faces : List (Option Table)) → View → Nodes → KeptBoxes → Type 0
AreKept faces view nodes (Current made) = AreReady faces view nodes made
AreKept faces view nodes (Former made) = IsFormer faces view made

-- a box stands under the root, with those inside it
abbrev pub AreRooted : KeptBoxes → Type 0
AreRooted (Current made) = IsTree made.arena.slots made.root
AreRooted (Former made) = IsTree made.arena.slots made.root

module _ {I : Type 0} {D : I → Type 0} where
  -- its rules, of which the index is made when it is asked
  abbrev pub rules_in : Session I D → List Ruling
  rules_in session = rulings_of session.rules.items

  -- its document as a styled tree
  abbrev pub styled_in : Session I D → Nodes
  styled_in session = styled_document (rules_in session) (state_of session.document)

  -- all of it that its pages hang on, with the tables of its faces
  abbrev pub state_in : (faces : List (Option Table)) → Session I D → edited.State
  state_in faces session = record { tree = state_of session.document; rules = rules_in session; faces = faces }

  abbrev pub flow_page_in : (faces : List (Option Table)) → Session I D → Page
  flow_page_in faces session = flow_page_of faces session.view (styled_in session)

  abbrev pub page_in : (faces : List (Option Table)) → Session I D → Page
  page_in faces session = page_of faces session.view (styled_in session)

  -- its log stands for these whole states before and behind what stands now; the texts of none hold more bytes than so many
  abbrev pub HasHistory : (faces : List (Option Table)) → (most : ℕ) → Session I D → Log Standing → Type 0
  HasHistory faces most session history = IsHistory (state_of session.document).next most session.log history (standing_of (state_in faces session))

  -- it holds this document, with its history
  pub record Holds (faces : List (Option Table)) (most : ℕ) (session : Session I D) (opened : Opened) : Type 0 where
    pub state : state_in faces session ≡ opened.state
    pub history : HasHistory faces most session opened.history

  -- what holds of a session with these faces: its document can be open, its boxes are ready, or those of an earlier document, and its log stands
  -- for a history
  pub record IsSound (faces : List (Option Table)) (session : Session I D) : Type 0 where
    pub document : CanBeOpen most_bytes (state_in faces session)
    pub index : IfSome session.index (λ index. index_rules index ≡ rules_in session)
    pub view : IsView session.view
    pub ready : IfSome session.boxes (AreKept faces session.view (styled_in session))
    pub history : (history : Log Standing) × HasHistory faces most_bytes session history

  -- its document has no history: nothing is logged
  pub record IsUnedited (faces : List (Option Table)) (session : Session I D) : Type 0 where
    pub log : session.log ≡ empty
    pub holds : Holds faces (total bytes (state_of session.document)) session (unedited (state_in faces session))

  -- the session of a document, or why there is none
  abbrev pub Opens : List Node → List (List Declaration) → List Ruling → Result (Session I D) OpenError → Type 0
  Opens nodes own rules (Ok session) = CanOpen nodes own rules × (state_of session.document ≡ opened nodes own) × (rules_in session ≡ rules)
  Opens nodes own rules (Err error) = (error ≡ Memory) ⊎ IsRefused nodes own rules error
