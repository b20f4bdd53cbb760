-- A box between the contributions of its children and what is laid out of them: its inline size, and the box by it.
use Rattle.std.specs.Prelude.{◌≡◌, ℕ, ⊤, Bool, true, false, ◌&&◌, List, map, Option, Some, None, is_none, ℤ}
use Rattle.std.specs.List.{AllZip}
use Rattle.fragment_types.specs.declared.constraint.Constraint.{Constraint}
use Rattle.style_types.specs.declared.style.Style.{Style}
use Rattle.block_flow.specs.Adjoining.{edges}
use Rattle.box_arena.specs.At.{Node}
use Rattle.box_gen.specs.Tree.{Content}
use Rattle.line_fill.specs.declared.item.Intrinsic.{Intrinsic}
use Rattle.relayout.specs.declared.flowed.LaidBox.{LaidBox}
use Rattle.relayout.specs.declared.inline.PageView.{PageView}
use Rattle.relayout.specs.declared.sizes.Containing.{Containing}
use Rattle.relayout.specs.declared.sizing.InlineSize.{InlineSize}
use Rattle.relayout.specs.declared.sizing.InlineSize.TheVariants.{MinMax, Used}
use Rattle.relayout.specs.declared.sizing.Sizing.{Sizing}
use Rattle.relayout.specs.Boxed.{block_box, boxed, handed_on, measured}
use Rattle.relayout.specs.Content.{filled}
use Rattle.relayout.specs.Flow.{asked, laid_under}
use Rattle.relayout.specs.Flowed.{AreLaid, Flowed, Member, part_of}
use Rattle.relayout.specs.Inline.{Outside, inline_size, known_size, shrunk}
use Rattle.relayout.specs.Paragraph.{HasAtoms}
use Rattle.relayout.specs.Reach.{IsBase, IsContent}
use Rattle.relayout.specs.Sizes.{containing_of, given, hold_both, is_parallel, sizes_along}

-- a box that goes along its containing block's lines is measured alone where their size isn't known
abbrev pub is_measured : Containing → Style → Constraint → Bool
is_measured containing style c = is_parallel containing style && is_none c.inline

-- its inline size, where that is definite: where it doesn't depend on the content
abbrev pub definite_under : (measures : Bool) → Containing → Style → Constraint → Option ℤ
definite_under true containing style c = given (sizes_along containing.mode style None)
definite_under false containing style c = known_size containing style c

-- how a box is sized: what it is to its children and hands on to them, whether it is measured alone, and its inline size, where that is
-- definite
unfoldable pub sizing_of : Containing → Node → Constraint → Sizing
sizing_of containing node c =
    let measures = is_measured containing node.style c in
    record {
      own = containing_of node.style;
      handed = handed_on containing node c;
      measures = measures;
      definite = definite_under measures containing node.style c;
    }

abbrev pub inline_size_by : (measures : Bool) → Outside → Containing → Node → Constraint → List Member → InlineSize
inline_size_by true outside containing node c members = MinMax (asked outside containing node c members)
inline_size_by false outside containing node c members =
    Used (inline_size outside containing node.style node.content c (handed_on containing node c) members)

-- its inline size: the min-content and the max-content size of its content area, or the used size
unfoldable pub inline_size_of : Outside → Containing → Node → Constraint → List Member → InlineSize
inline_size_of outside containing node c members = inline_size_by (is_measured containing node.style c) outside containing node c members

-- the constraint of its children
abbrev pub under : (size handed : Option ℤ) → Constraint
under size handed = record { inline = size; block = handed }

-- the first of the children whose contributions count: none, where the inline size is definite
abbrev pub contributing : (definite : Option ℤ) → (first : Option ℕ) → Option ℕ
contributing (Some size) first = None
contributing None first = first

abbrev pub used_in : InlineSize → Option ℤ
used_in (MinMax content) = None
used_in (Used size) = Some size

-- the first of the children that are put in the box: none, where it is measured alone
abbrev pub laid_inside : InlineSize → (first : Option ℕ) → Option ℕ
laid_inside (MinMax content) first = None
laid_inside (Used size) first = first

-- a box of this inline size
unfoldable pub box_by : Outside → Containing → Node → Constraint → InlineSize → List Member → Flowed
box_by outside containing node c (MinMax content) members = measured containing node content
box_by outside containing node c (Used size) members =
    boxed containing node c size (
    filled outside.faces node.name node.style (edges (block_box containing node.style c false)) size node.content
    (map (laid_under (under (Some size) (handed_on containing node c))) members))

-- an inline size that is definite
abbrev pub definite_size : (measures : Bool) → (size : ℤ) → InlineSize
definite_size true size = MinMax (record { min = size; max = size })
definite_size false size = Used size

-- one by the content, which has these sizes
abbrev pub size_by_content : PageView → (measures : Bool) → Containing → Style → Constraint → (content : Intrinsic) → InlineSize
size_by_content view true containing style c content = MinMax (hold_both (sizes_along containing.mode style None) content)
size_by_content view false containing style c content = Used (shrunk view containing style c content)

abbrev pub used_size : ℤ → InlineSize
used_size size = Used size

-- ---- the code's values

-- what has been laid out is what a member comes to
pub record IsUnder (c : Constraint) (own : LaidBox) (member : Member) : Type 0 where
  pub style : own.style ≡ member.style
  pub part : part_of own.fragment ≡ (member.flow c).part

abbrev pub AreUnder : Constraint → List LaidBox → List Member → Type 0
AreUnder c boxes members = AllZip (IsUnder c) boxes members

-- how far an inline size reaches
abbrev pub IsInlineSize : InlineSize → Type 0
IsInlineSize (MinMax content) = IsContent content
IsInlineSize (Used size) = IsBase (Some size)

-- so many children are there where they are put in the box
abbrev pub HasChildren : InlineSize → Content → (count : ℕ) → Type 0
HasChildren (MinMax sizes) content count = ⊤
HasChildren (Used size) content count = HasAtoms content count

-- the children of a box of this used size are laid out
abbrev pub AreLaidUnder : Containing → Node → Constraint → (size : ℤ) → List LaidBox → List Member → Type 0
AreLaidUnder containing node c size children members = AreLaid children (map (laid_under (under (Some size) (handed_on containing node c))) members)

-- the children of a box of this inline size are laid out, where they are put in it
abbrev pub AreInside : Containing → Node → Constraint → InlineSize → List LaidBox → List Member → Type 0
AreInside containing node c (MinMax content) children members = ⊤
AreInside containing node c (Used size) children members = AreLaidUnder containing node c size children members
