-- What a box comes to under a constraint.
use Rattle.std.specs.Prelude.{◌≡◌, Bool, false, List, [], ℤ}
use Rattle.std.specs.List.{AllZip}
use Rattle.margin_collapse.specs.Margins.{greatest, least}
use Rattle.margin_collapse.specs.declared.margins.Margins.{Margins}
use Rattle.wm_modes.specs.declared.rects.FlowRect.{FlowRect}
use Rattle.fragment_types.specs.declared.constraint.Constraint.{Constraint}
use Rattle.fragment_types.specs.declared.item.BoxName.{BoxName}
use Rattle.style_types.specs.declared.style.Style.{Style}
use Rattle.fragment_types.specs.declared.fragment.Fragment.{Fragment, out-Fragment}
use Rattle.fragment_types.specs.Fragment.{Kind, Pieces, block, line, kind_of, measure, piece, pieces_of, run, span}
use Rattle.relayout.specs.declared.flowed.LaidBox.{LaidBox}

-- a fragment: whose it is, its border box, its kind, and those inside it
pub record Part : Type 0 where
  pub name : BoxName
  pub rect : FlowRect
  pub kind : Kind
  pub inner : Pieces

-- a fragment whose border box stands at 0, and the margins that adjoin at the box's start and at its end, and whether these adjoin
-- one another
pub record Flowed : Type 0 where
  pub part : Part
  pub starts : List ℤ
  pub ends : List ℤ
  pub through : Bool

-- a box inside another, and what it comes to under each constraint
pub record Member : Type 0 where
  pub style : Style
  pub flow : Constraint → Flowed

-- a box inside another, and what it has come to
pub record Laid : Type 0 where
  pub style : Style
  pub flowed : Flowed

abbrev pub pair_of : List ℤ → Margins
pair_of margins = record { positive = greatest margins; negative = least margins }

-- the fragment with its border box there, before others
abbrev pub at : (i b : ℤ) → Part → (next : Pieces) → Pieces
at i b part next = piece part.name (record { i = i; b = b; inline = part.rect.inline; block = part.rect.block }) part.kind part.inner next

-- ---- the code's fragments

abbrev pub part_of : Fragment → Part
part_of fragment =
    let f = out-Fragment fragment in
    record { name = f.name; rect = f.rect; kind = kind_of f.kind; inner = pieces_of f.children.value.items }

-- the margins of a box are those of the lists
abbrev pub HasMargins : Kind → (starts ends : List ℤ) → (through : Bool) → Type 0
HasMargins (block mode dir content definite start end_ own) starts ends through = (start ≡ pair_of starts) × (end_ ≡ pair_of ends) × (own ≡ through)
HasMargins (line index base mode baseline) starts ends through = ⊥
HasMargins span starts ends through = ⊥
HasMargins (run form level natural units) starts ends through = ⊥
HasMargins (measure min max) starts ends through = ⊥

-- what has been laid out, apart from its margins
abbrev pub as_laid : LaidBox → Laid
as_laid own = record { style = own.style; flowed = record { part = part_of own.fragment; starts = []; ends = []; through = false } }

-- what has been laid out is such a box
pub record IsLaid (own : LaidBox) (laid : Laid) : Type 0 where
  pub style : own.style ≡ laid.style
  pub part : part_of own.fragment ≡ laid.flowed.part
  pub margins : HasMargins laid.flowed.part.kind laid.flowed.starts laid.flowed.ends laid.flowed.through

abbrev pub AreLaid : List LaidBox → List Laid → Type 0
AreLaid boxes laid = AllZip IsLaid boxes laid
