-- How far fragments reach.
use Rattle.std.specs.Prelude.{ℕ, ◌+◌, ◌≤◌, ◌^◌, max, ⊤, All, unsigned_abs}
use Rattle.margin_collapse.specs.declared.margins.Margins.{Margins}
use Rattle.wm_modes.specs.declared.rects.FlowRect.{FlowRect}
use Rattle.fragment_types.specs.declared.fragment.Fragment.{Fragment}
use Rattle.fragment_types.specs.Fragment.{Kind, block, line, span, run, measure, Pieces, none, piece}
use Rattle.fragment_types.specs.declared.constraint.Constraint.{Constraint}
use Rattle.style_types.specs.Style.{IsBounded, IsLength}
use Rattle.box_gen.specs.Tree.{Boxes, none as no_boxes, box}
use Rattle.line_place.specs.Spread.{spread}
use Rattle.relayout.specs.declared.atoms.LastLine.{LastLine}
use Rattle.relayout.specs.declared.flowed.LaidBox.{LaidBox}
use Rattle.relayout.specs.Flowed.{Flowed, Member, Part, part_of}

pub record AreNearMargins (margins : Margins) : Type 0 where
  pub positive : unsigned_abs margins.positive ≤ 2 ^ 32
  pub negative : unsigned_abs margins.negative ≤ 2 ^ 32

-- a content area in its border box
pub record IsNearArea (content : FlowRect) : Type 0 where
  pub i : unsigned_abs content.i ≤ 2 ^ 36
  pub b : unsigned_abs content.b ≤ 2 ^ 36
  pub inline : unsigned_abs content.inline ≤ 2 ^ 36
  pub block : unsigned_abs content.block ≤ 2 ^ 36

-- the content area and the margins of a box, what was measured
abbrev pub IsNearKind : Kind → Type 0
IsNearKind (block mode dir content definite start end_ through) = IsNearArea content × AreNearMargins start × AreNearMargins end_
IsNearKind (measure min max) = (unsigned_abs min ≤ 2 ^ 36) × (unsigned_abs max ≤ 2 ^ 36)
IsNearKind (line index base mode baseline) = ⊤
IsNearKind span = ⊤
IsNearKind (run form level natural units) = ⊤

-- the border box of a fragment, and what its kind tells
pub record IsNearPart (part : Part) : Type 0 where
  pub inline : unsigned_abs part.rect.inline ≤ 2 ^ 36
  pub block : unsigned_abs part.rect.block ≤ 2 ^ 36
  pub kind : IsNearKind part.kind

-- how far the last line of a fragment is from the block-start edge of what it stands in, with its extent, from that of what is inside
abbrev pub reach_in : FlowRect → Kind → (inner : ℕ) → ℕ
reach_in rect (line index base mode baseline) inner = unsigned_abs rect.b + unsigned_abs rect.block
reach_in rect (block mode dir content definite start end_ through) inner = unsigned_abs rect.b + unsigned_abs content.b + inner
reach_in rect span inner = 0
reach_in rect (run form level natural units) inner = 0
reach_in rect (measure min max) inner = 0

-- at most, of any of these fragments
abbrev pub line_reach : Pieces → ℕ
line_reach none = 0
line_reach (piece name rect kind inner next) = max (reach_in rect kind (line_reach inner)) (line_reach next)

abbrev pub own_reach : Fragment → ℕ
own_reach fragment = reach_in (part_of fragment).rect (part_of fragment).kind (line_reach (part_of fragment).inner)

-- a line within that
abbrev pub IsNearLine : (reach : ℕ) → LastLine → Type 0
IsNearLine reach found = unsigned_abs found.from + unsigned_abs found.extent ≤ reach

-- what stands inside what has been laid out reaches no further
abbrev pub HasReach : (reach : ℕ) → LaidBox → Type 0
HasReach reach laid = spread (part_of laid.fragment).inner ≤ reach

-- a box that has been laid out
pub record IsNearLaid (laid : LaidBox) : Type 0 where
  pub style : IsBounded laid.style
  pub part : IsNearPart (part_of laid.fragment)
  pub inner : HasReach (2 ^ 60) laid

-- ---- what boxes come to

-- its border box, its kind, and each of its margins that adjoin others
pub record IsNearFlowed (flowed : Flowed) : Type 0 where
  pub part : IsNearPart flowed.part
  pub starts : All IsLength flowed.starts
  pub ends : All IsLength flowed.ends

-- whatever it is laid out under
abbrev pub IsNearMember : Member → Type 0
IsNearMember member = (c : Constraint) → IsNearFlowed (member.flow c)

-- the numbers of the styles of boxes are those of computed styles
abbrev pub AreBounded : Boxes → Type 0
AreBounded no_boxes = ⊤
AreBounded (box name style content inner next) = IsBounded style × AreBounded inner × AreBounded next
