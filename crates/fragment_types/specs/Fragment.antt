-- Trees of fragments, without where they lie in memory.
use Rattle.std.specs.Prelude.{ℕ, Bool, List, [], ◌∷◌, map, Option, IfSome, ⊤, ℤ}
use Rattle.margin_collapse.specs.declared.margins.Margins.{Margins}
use Rattle.wm_modes.specs.declared.mode.WritingMode.{WritingMode}
use Rattle.wm_modes.specs.declared.mode.Direction.{Direction}
use Rattle.wm_modes.specs.declared.rects.FlowRect.{FlowRect}
use Rattle.fragment_types.specs.declared.item.BoxName.{BoxName}
use Rattle.style_types.specs.Style.{IsExtent}
use Rattle.style_types.specs.declared.style.Baseline.{Baseline}
use Rattle.fragment_types.specs.declared.unit_kind.UnitKind.{UnitKind}
use Rattle.fragment_types.specs.RunUnit.{RunUnit}
use Rattle.fragment_types.specs.declared.fragment.FragmentKind as code_kind
use Rattle.fragment_types.specs.declared.fragment.FragmentKind.TheVariants as code_kinds
use Rattle.fragment_types.specs.declared.fragment.Fragment.{Fragment, fold-Fragment}
use Rattle.fragment_types.specs.declared.fragment.Fragment.TheOpen.{Fragment-F}

pub data Kind : Type 0 where
  block : (mode : WritingMode) (dir : Direction) (content : FlowRect) (definite : Option ℤ) (start end_ : Margins) (through : Bool) → Kind
  line : (index : ℕ) (base : ℤ) (mode : WritingMode) (baseline : Baseline) → Kind
  span : Kind
  run : (form : UnitKind) (level : ℕ) (natural : Option ℤ) (units : List RunUnit) → Kind
  measure : (min max : ℤ) → Kind

-- fragments that stand one after the other, each with those inside it
pub data Pieces : Type 0 where
  none : Pieces
  piece : (name : BoxName) (rect : FlowRect) (kind : Kind) (inner next : Pieces) → Pieces

abbrev pub kind_of : code_kind.FragmentKind → Kind
kind_of (code_kinds.Box part) = block part.value.mode part.value.dir part.value.content part.value.definite part.value.start part.value.end part.value.through
kind_of (code_kinds.Line index base mode baseline) = line index base mode baseline
kind_of code_kinds.Span = span
kind_of (code_kinds.Run form level natural units) = run form level natural units.value.items
kind_of (code_kinds.Measure min max) = measure min max

-- one after the other, each put before those that follow it
abbrev pub in_line : List (Pieces → Pieces) → Pieces
in_line [] = none
in_line (before ∷ others) = before (in_line others)

abbrev pub piece_step : Fragment-F (Pieces → Pieces) → Pieces → Pieces
piece_step f next = piece f.name f.rect (kind_of f.kind) (in_line f.children.value.items) next

-- a fragment before others
abbrev pub before : Fragment → Pieces → Pieces
before = fold-Fragment (Pieces → Pieces) piece_step

-- the tree of a fragment
abbrev pub piece_of : Fragment → Pieces
piece_of fragment = before fragment none

-- the trees of fragments that stand one after the other
abbrev pub pieces_of : List Fragment → Pieces
pieces_of fragments = in_line (map before fragments)

-- the first of them with its rectangle there
abbrev pub moved_to : FlowRect → Pieces → Pieces
moved_to rect none = none
moved_to rect (piece name _ kind inner next) = piece name rect kind inner next

-- sizes that can be a containing block's: those of a content area, and its block size where that is definite
abbrev pub IsSizedKind : Kind → Type 0
IsSizedKind (block mode dir content definite start end_ through) = IsExtent content.inline × IsExtent content.block × IfSome definite IsExtent
IsSizedKind (line index base mode baseline) = ⊤
IsSizedKind span = ⊤
IsSizedKind (run form level natural units) = ⊤
IsSizedKind (measure min max) = ⊤
