-- Laws of boxes.
use Rattle.std.specs.Prelude.{◌≡◌, ◌⊎◌, ℕ, zero, suc, true, false, List, [], ◌∷◌, ◌++◌}
use Rattle.std.specs.Bool.{⊤}
use Rattle.fragment_types.specs.Item as item
use Rattle.fragment_types.specs.Item.{Entry}
use Rattle.style_types.specs.declared.style.Style.{Style}
use Rattle.style_types.specs.Tree as styled
use Rattle.style_types.specs.Tree.{Nodes, NodeKind}
use Rattle.box_gen.specs.Boxes.{Role, nothing, words, line_break, inline_box, atom, block_level, role_of, is_blank, root_boxes, Blocks, no_more, then, Held, runs, content}
use Rattle.box_gen.specs.Tree.{Content, blocks, inline, Boxes, none, box}

-- ---- each box once

-- a box that is a node's own, with those inside it; an anonymous block is none
abbrev pub own_box : (ordinal number parent : ℕ) → (inner : List (ℕ × ℕ)) → List (ℕ × ℕ)
own_box zero number parent inner = (number, parent) ∷ inner
own_box (suc ordinal) number parent inner = inner

-- the nodes that these boxes are the own ones of, in document order, each with the node of the box that its box stands in
unfoldable pub own_boxes : Boxes → (parent : ℕ) → List (ℕ × ℕ)
own_boxes none parent = []
own_boxes (box name style content inner next) parent = own_box name.ordinal name.node parent (own_boxes inner name.node) ++ own_boxes next parent

-- by the node's role; what is in an inline box stands in the block container of that
abbrev pub holders_by : Role → (number holder : ℕ) → (inner : ℕ → List (ℕ × ℕ)) → List (ℕ × ℕ)
holders_by nothing number holder inner = []
holders_by (words letters) number holder inner = []
holders_by line_break number holder inner = []
holders_by inline_box number holder inner = inner holder
holders_by atom number holder inner = (number, holder) ∷ inner number
holders_by block_level number holder inner = (number, holder) ∷ inner number

-- the block-level elements and atoms that are shown, in document order, each with its block container
unfoldable pub shown_holders : Nodes → (holder : ℕ) → List (ℕ × ℕ)
shown_holders styled.none holder = []
shown_holders (styled.node number kind style inner next) holder = holders_by (role_of kind style) number holder (shown_holders inner) ++ shown_holders next holder

-- each block-level element and each atom that is shown has one box of its own, in document order, which stands in a box of its block
-- container: in that one's own box or in an anonymous block; and no other node has one
abbrev pub ContainersStandOnce : Type 0
ContainersStandOnce = (number : ℕ) (kind : NodeKind) (style : Style) (inner next : Nodes)
    → own_boxes (root_boxes (styled.node number kind style inner next)) number ≡ (number, number) ∷ shown_holders inner number

-- ---- what is hidden

-- without a node that makes nothing
abbrev pub kept_by : Role → (node : Nodes → Nodes) → (next : Nodes) → Nodes
kept_by nothing node next = next
kept_by (words letters) node next = node next
kept_by line_break node next = node next
kept_by inline_box node next = node next
kept_by atom node next = node next
kept_by block_level node next = node next

unfoldable pub without_hidden : Nodes → Nodes
without_hidden styled.none = styled.none
without_hidden (styled.node number kind style inner next) =
    kept_by (role_of kind style) (styled.node number kind style (without_hidden inner)) (without_hidden next)

-- hidden elements and hidden line breaks change no box: they part no run either
abbrev pub HiddenNodesAreNothing : Type 0
HiddenNodesAreNothing = (number : ℕ) (kind : NodeKind) (style : Style) (inner next : Nodes)
    → root_boxes (styled.node number kind style (without_hidden inner) next) ≡ root_boxes (styled.node number kind style inner next)

-- ---- each text once

-- the number of a text node, and its letters
abbrev pub Text : Type 0
Text = ℕ × List ℕ

-- the texts of a paragraph in order, with those of its atoms' boxes, which are given box by box, where the atoms stand
unfoldable pub told : List Entry → (atoms : List (List Text)) → List Text
told [] atoms = []
told (item.text number letters style ∷ items) atoms = (number, letters) ∷ told items atoms
told (item.begins number style edges ∷ items) atoms = told items atoms
told (item.ends number edges ∷ items) atoms = told items atoms
told (item.line_break number ∷ items) atoms = told items atoms
told (item.atom name ∷ items) [] = told items []
told (item.atom name ∷ items) (own ∷ atoms) = own ++ told items atoms

unfoldable pub one_after_the_other : List (List Text) → List Text
one_after_the_other [] = []
one_after_the_other (texts ∷ others) = texts ++ one_after_the_other others

-- by what a box holds, from the texts of each box inside it
abbrev pub texts_in : Content → (inner : List (List Text)) → List Text
texts_in blocks inner = one_after_the_other inner
texts_in (inline items) inner = told items inner

unfoldable pub texts_each : Boxes → List (List Text)
texts_each none = []
texts_each (box name style content inner next) = texts_in content (texts_each inner) ∷ texts_each next

-- the texts of these boxes in order
abbrev pub texts : Boxes → List Text
texts boxes = one_after_the_other (texts_each boxes)

abbrev pub shown_by : Role → (number : ℕ) → (inner : List Text) → List Text
shown_by nothing number inner = []
shown_by (words letters) number inner = (number, letters) ∷ []
shown_by line_break number inner = []
shown_by inline_box number inner = inner
shown_by atom number inner = inner
shown_by block_level number inner = inner

-- the texts of these nodes that are shown, in document order
unfoldable pub shown_texts : Nodes → List Text
shown_texts styled.none = []
shown_texts (styled.node number kind style inner next) = shown_by (role_of kind style) number (shown_texts inner) ++ shown_texts next

-- these texts are those that are shown, in order, but that some may be missing that are white space alone
unfoldable pub AreAllBut : (shown here : List Text) → Type 0
AreAllBut [] [] = ⊤
AreAllBut [] (text ∷ here) = ⊥
AreAllBut (text ∷ shown) [] = (is_blank text.1 ≡ true) × AreAllBut shown []
AreAllBut (text ∷ shown) (first ∷ here) = ((first ≡ text) × AreAllBut shown here) ⊎ ((is_blank text.1 ≡ true) × AreAllBut shown (first ∷ here))

-- each text that is shown stands in the boxes once, in document order, but that one of white space alone may stand in none
abbrev pub TextsStandOnce : Type 0
TextsStandOnce = (number : ℕ) (kind : NodeKind) (style : Style) (inner next : Nodes)
    → AreAllBut (shown_texts inner) (texts (root_boxes (styled.node number kind style inner next)))

-- ---- items in pairs

-- where inline boxes of these numbers are open, the innermost first, each of them and each that begins in these items ends in them, as
-- brackets do
unfoldable pub ArePaired : List Entry → (around : List ℕ) → Type 0
ArePaired [] around = around ≡ []
ArePaired (item.text number letters style ∷ items) around = ArePaired items around
ArePaired (item.begins number style edges ∷ items) around = ArePaired items (number ∷ around)
ArePaired (item.ends number edges ∷ items) [] = ⊥
ArePaired (item.ends number edges ∷ items) (innermost ∷ outer) = (number ≡ innermost) × ArePaired items outer
ArePaired (item.line_break number ∷ items) around = ArePaired items around
ArePaired (item.atom name ∷ items) around = ArePaired items around

abbrev pub IsPaired : Content → Type 0
IsPaired blocks = ⊤
IsPaired (inline items) = ArePaired items []

-- so are those of each paragraph in these boxes
unfoldable pub HavePairs : Boxes → Type 0
HavePairs none = ⊤
HavePairs (box name style content inner next) = IsPaired content × (HavePairs inner × HavePairs next)

-- in each paragraph inline boxes and pieces of them begin and end as brackets do: also where a block-level box cuts some of them
abbrev pub ItemsArePaired : Type 0
ItemsArePaired = (root : Nodes) → HavePairs (root_boxes root)

-- ---- edges of pieces

-- Inline boxes in a run. `opened` are those that are open here, the innermost first; `again` those that a block-level box before the run
-- cut, the outermost first: before all else they begin again, without inline-start edges. Each box that starts has its inline-start
-- edges, and each that stops its inline-end edges. At the end those that a block-level box cuts end, the innermost first, without
-- inline-end edges: these are `cut`, the outermost first, of which `behind` holds.
unfoldable pub HasEdges : List Entry → (opened again cut : List ℕ) → (behind : List ℕ → Type 0) → Type 0
HasEdges [] opened again cut behind = (opened ≡ []) × ((again ≡ []) × behind cut)
HasEdges (item.begins number style true ∷ items) opened again cut behind = (again ≡ []) × ((cut ≡ []) × HasEdges items (number ∷ opened) [] [] behind)
HasEdges (item.begins number style false ∷ items) opened [] cut behind = ⊥
HasEdges (item.begins number style false ∷ items) opened (outermost ∷ again) cut behind =
    (number ≡ outermost) × ((cut ≡ []) × HasEdges items (number ∷ opened) again [] behind)
HasEdges (item.ends number edges ∷ items) [] again cut behind = ⊥
HasEdges (item.ends number true ∷ items) (innermost ∷ opened) again cut behind =
    (number ≡ innermost) × ((again ≡ []) × ((cut ≡ []) × HasEdges items opened [] [] behind))
HasEdges (item.ends number false ∷ items) (innermost ∷ opened) again cut behind =
    (number ≡ innermost) × ((again ≡ []) × HasEdges items opened [] (number ∷ cut) behind)
HasEdges (item.text number letters style ∷ items) opened again cut behind = (again ≡ []) × ((cut ≡ []) × HasEdges items opened [] [] behind)
HasEdges (item.line_break number ∷ items) opened again cut behind = (again ≡ []) × ((cut ≡ []) × HasEdges items opened [] [] behind)
HasEdges (item.atom name ∷ items) opened again cut behind = (again ≡ []) × ((cut ≡ []) × HasEdges items opened [] [] behind)

-- so in run after run, the first behind the cut of these boxes; behind the last none is left that was cut
unfoldable pub HaveEdges : List (List Entry) → (again : List ℕ) → Type 0
HaveEdges [] again = again ≡ []
HaveEdges (run ∷ others) again = HasEdges run [] again [] (HaveEdges others)

unfoldable pub runs_behind : Blocks → List (List Entry)
runs_behind no_more = []
runs_behind (then block run others) = run.items ∷ runs_behind others

-- the runs of a container's content, those among them that make no box
abbrev pub all_runs : Held → List (List Entry)
all_runs held = held.first.items ∷ runs_behind held.others

-- of the pieces of each inline box the first alone has its inline-start edges, and the last alone its inline-end edges: whatever block-level
-- boxes cut it, and also where such a piece is in a run that makes no box
abbrev pub PiecesHaveEdges : Type 0
PiecesHaveEdges = (nodes : Nodes) → HaveEdges (all_runs (runs [] (content nodes))) []
