-- What is read, without where it lies in memory.
use Rattle.std.specs.Prelude.{ℕ, Bool, true, false, List, map, Option, option_map}
use Rattle.std.specs.String.{string_bytes}
use Rattle.wm_modes.specs.declared.mode.Direction.{Direction}
use Rattle.html_tokens.specs.declared.tag.Tag.{Tag}
use Rattle.html_read.specs.declared.node.PlacedText.{PlacedText}
use Rattle.html_read.specs.declared.node.Attributes.{Attributes}
use Rattle.html_read.specs.declared.node.ReadKind.{ReadKind}
use Rattle.html_read.specs.declared.node.ReadKind.TheVariants as kinds
use Rattle.html_read.specs.declared.node.ReadNode.{ReadNode}
use Rattle.html_read.specs.declared.node.ReadDocument.{ReadDocument}

-- a text, and the place in bytes at which it was found
pub record TextAt : Type 0 where
  pub text : List ℕ
  pub place : ℕ

-- what the attributes of a tag say
pub record Acting : Type 0 where
  pub id : Option (List ℕ)
  pub classes : List (List ℕ)
  pub dir : Option Direction
  pub style : Option TextAt

pub data Kind : Type 0 where
  element : (tag : Tag) (acting : Acting) → Kind
  text : (letters : List ℕ) → Kind

abbrev pub is_text : Kind → Bool
is_text (element tag acting) = false
is_text (text letters) = true

-- a node; its parent is a place in the same list
pub record Node : Type 0 where
  pub parent : Option ℕ
  pub kind : Kind

-- a document: its nodes, its style sheets, and its length in bytes
pub record Whole : Type 0 where
  pub nodes : List Node
  pub sheets : List TextAt
  pub length : ℕ

abbrev pub text_at : PlacedText → TextAt
text_at placed = record { text = string_bytes placed.text; place = placed.place }

abbrev pub acting_of : Attributes → Acting
acting_of a = record { id = option_map (λ s. string_bytes s) a.id; classes = map (λ s. string_bytes s) a.classes.items; dir = a.dir; style = option_map text_at a.style }

abbrev pub kind_of : ReadKind → Kind
kind_of (kinds.Element tag attributes) = element tag (acting_of attributes)
kind_of (kinds.Text letters) = text (string_bytes letters)

abbrev pub node_of : ReadNode → Node
node_of n = record { parent = n.parent; kind = kind_of n.kind }

abbrev pub nodes_of : List ReadNode → List Node
nodes_of = map node_of

abbrev pub sheets_of : List PlacedText → List TextAt
sheets_of = map text_at

abbrev pub whole_of : ReadDocument → Whole
whole_of d = record { nodes = nodes_of d.nodes.items; sheets = sheets_of d.sheets.items; length = d.end }
