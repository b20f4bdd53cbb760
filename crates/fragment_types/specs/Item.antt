-- Items of paragraphs, without where they lie in memory.
use Rattle.std.specs.Prelude.{ℕ, Bool, List, map}
use Rattle.std.specs.String.{string_bytes}
use Rattle.fragment_types.specs.declared.item.BoxName.{BoxName}
use Rattle.fragment_types.specs.declared.item.Item as code_item
use Rattle.fragment_types.specs.declared.item.Item.TheVariants as code_items
use Rattle.style_types.specs.declared.style.Style.{Style}

pub data Entry : Type 0 where
  text : (node : ℕ) (letters : List ℕ) (style : Style) → Entry
  begins : (node : ℕ) (style : Style) (edges : Bool) → Entry
  ends : (node : ℕ) (edges : Bool) → Entry
  atom : (name : BoxName) → Entry
  line_break : (node : ℕ) → Entry

abbrev pub entry_of : code_item.Item → Entry
entry_of (code_items.Text node letters style) = text node (string_bytes letters) style
entry_of (code_items.Open node style opens) = begins node style opens
entry_of (code_items.Close node closes) = ends node closes
entry_of (code_items.Atom name) = atom name
entry_of (code_items.Break node) = line_break node

abbrev pub entries_of : List code_item.Item → List Entry
entries_of = map entry_of
