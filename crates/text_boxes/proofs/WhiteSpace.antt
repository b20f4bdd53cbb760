-- Letters that are white space alone exactly where those of a text are.
use Rattle.std.proofs.Common.{◌≡◌, ℕ, List}
use Rattle.std.specs.Prelude.{⊤}
use Rattle.style_types.specs.Tree as styled
use Rattle.style_types.specs.Tree.{NodeKind, Nodes}
use Rattle.box_gen.specs.Boxes.{is_blank}

abbrev pub IsBlankAs : (number : ℕ) → (letters : List ℕ) → (node : ℕ) → NodeKind → Type 0
IsBlankAs number letters node styled.element = ⊤
IsBlankAs number letters node styled.line_break = ⊤
IsBlankAs number letters node (styled.text was) = node ≡ number → is_blank letters ≡ is_blank was

-- in a styled tree the text of this node is white space alone exactly where these letters are
abbrev pub AreBlankAs : (number : ℕ) → (letters : List ℕ) → Nodes → Type 0
AreBlankAs number letters styled.none = ⊤
AreBlankAs number letters (styled.node node kind style inner next) = IsBlankAs number letters node kind × AreBlankAs number letters inner × AreBlankAs number letters next
