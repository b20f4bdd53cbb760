-- The positions of a document: its nodes that aren't hidden, each with what shifts it. CSS Positioned Layout 3, 2 and 3.1.
use Rattle.std.specs.Prelude.{ℕ, Bool, true, false, is_some, if◌then◌else◌, List, [], ◌∷◌, ◌++◌, Option, Some, None}
use Rattle.style_types.specs.declared.style.Insets.{Insets}
use Rattle.style_types.specs.declared.style.Style.{Style}
use Rattle.style_types.specs.Tree as styled
use Rattle.style_types.specs.Tree.{Nodes, NodeKind}
use Rattle.box_gen.specs.declared.role.Role as code_role
use Rattle.box_gen.specs.declared.role.Role.TheVariants as code_roles
use Rattle.box_gen.specs.Boxes.{Role, nothing, words, line_break, inline_box, atom, block_level, role_of}
use Rattle.style_types.specs.declared.position.Position.{Position}

-- a relatively positioned element has its insets; a text has none, nor has a `br`
abbrev pub insets_of : NodeKind → Style → Option Insets
insets_of styled.element style = if style.relative then Some style.insets else None
insets_of styled.line_break style = None
insets_of (styled.text letters) style = None

abbrev pub position : (parent holder : Option ℕ) → (number : ℕ) → NodeKind → Style → Position
position parent holder number kind style = record { node = number; parent = parent; holder = holder; insets = insets_of kind style }

-- the holder of what stands in a node: an inline box hands its own on, all others are it themselves
abbrev pub holder_in : Role → (number holder : ℕ) → ℕ
holder_in inline_box number holder = holder
holder_in nothing number holder = number
holder_in (words letters) number holder = number
holder_in line_break number holder = number
holder_in atom number holder = number
holder_in block_level number holder = number

-- what is hidden isn't listed, with all that stands in it
abbrev pub unless_hidden : Role → List Position → List Position
unless_hidden nothing positions = []
unless_hidden (words letters) positions = positions
unless_hidden line_break positions = positions
unless_hidden inline_box positions = positions
unless_hidden atom positions = positions
unless_hidden block_level positions = positions

-- those of nodes that stand in this parent, and whose containing block is the box of this holder
unfoldable pub positions_in : (parent holder : ℕ) → Nodes → List Position
positions_in parent holder styled.none = []
positions_in parent holder (styled.node number kind style inner next) =
    unless_hidden (role_of kind style) (position (Some parent) (Some holder) number kind style ∷ positions_in number (holder_in (role_of kind style) number holder) inner)
    ++ positions_in parent holder next

-- those of a whole tree, whose root has a box whatever its display
abbrev pub positions_of : Nodes → List Position
positions_of styled.none = []
positions_of (styled.node number kind style inner next) = position None None number kind style ∷ positions_in number number inner

abbrev pub has_insets : Position → Bool
has_insets p = is_some p.insets

-- ---- of the first of some nodes, by the words of the code

abbrev pub insets_in : Nodes → Option Insets
insets_in styled.none = None
insets_in (styled.node number kind style inner next) = insets_of kind style

abbrev pub number_in : Nodes → ℕ
number_in styled.none = 0
number_in (styled.node number kind style inner next) = number

abbrev pub position_in : (parent holder : Option ℕ) → Nodes → Position
position_in parent holder nodes = record { node = number_in nodes; parent = parent; holder = holder; insets = insets_in nodes }

abbrev pub holder_by : code_role.Role → (number holder : ℕ) → ℕ
holder_by code_roles.InlineBox number holder = holder
holder_by code_roles.Nothing number holder = number
holder_by code_roles.Words number holder = number
holder_by code_roles.LineBreak number holder = number
holder_by code_roles.Atom number holder = number
holder_by code_roles.BlockLevel number holder = number

abbrev pub is_hidden : code_role.Role → Bool
is_hidden code_roles.Nothing = true
is_hidden code_roles.Words = false
is_hidden code_roles.LineBreak = false
is_hidden code_roles.InlineBox = false
is_hidden code_roles.Atom = false
is_hidden code_roles.BlockLevel = false
