-- Content areas have sizes that can be a containing block's.
use Rattle.std.proofs.Common.{arith, ℕ, zero, suc, Bool, true, false, not, ◌&&◌, List, [], ◌∷◌, map, Option, Some, None, unwrap_or, option_map, ℤ, pos, ◌-ℤ◌}
use Rattle.std.specs.Prelude.{IfSome, ⊤, is_none}
use Rattle.std.proofs.lemmas.Int.{clamps, ints}
use Rattle.face_api.specs.Table.{Table}
use Rattle.wm_units.specs.Numbers.{cap_size}
use Rattle.wm_modes.specs.Mode.{is_horizontal}
use Rattle.fragment_types.specs.declared.constraint.Constraint.{Constraint}
use Rattle.fragment_types.specs.declared.item.BoxName.{BoxName}
use Rattle.style_types.specs.declared.style.Style.{Style}
use Rattle.style_types.specs.Style.{IsExtent}
use Rattle.fragment_types.specs.Fragment.{IsSizedKind, Pieces, none, piece}
use Rattle.size_rules.specs.Equation as equation
use Rattle.size_rules.specs.Limits.{fit, held}
use Rattle.block_flow.specs.declared.boxes.ParentEdges.{ParentEdges}
use Rattle.block_flow.specs.Adjoining.{edges}
use Rattle.box_gen.specs.Tree.{Boxes, Content, blocks, box, inline as paragraph_of, none as no_boxes}
use Rattle.box_arena.specs.At.{Node}
use Rattle.line_place.specs.Placing.{atom_at}
use Rattle.relayout.specs.declared.sizes.Containing.{Containing}
use Rattle.relayout.specs.declared.sizes.Sizes.{Sizes}
use Rattle.relayout.specs.Atoms.{atom_in}
use Rattle.relayout.specs.Boxed.{block_box, block_size, boxed, content_area, handed_by, handed_on, measured, turned}
use Rattle.relayout.specs.Content.{Filled, filled, paragraph, set_down, stack}
use Rattle.relayout.specs.Edges.{inner_edges_along}
use Rattle.relayout.specs.Flow.{answered, flow_step, laid_out, laid_under, members, on_page}
use Rattle.relayout.specs.Flowed.{Laid, Member, Part}
use Rattle.relayout.specs.Inline.{Outside, around, end_margin, equation_of, inline_size, known_by, known_or_shrunk, known_size, room, shrunk, start_margin}
use Rattle.relayout.specs.Intrinsic.{inner, prepared}
use Rattle.relayout.specs.Sized.{AreSizedPieces, LayoutsAreSized}
use Rattle.relayout.specs.Sizes.{block_sizes, containing_of, definite, given, hold, inline_sizes, is_atom, is_parallel, sizes_along}
use Rattle.relayout.proofs.LinePieces.{AreAtoms, IsByAtoms, lines_by_atoms}

-- ---- sizes

cap_sized : (z : ℤ) → IsExtent (cap_size z)
cap_sized z = (omega (arith, ints, clamps), omega (arith, ints, clamps))

hold_sized : (own : Sizes) (z : ℤ) → IsExtent (hold own z)
hold_sized own z = cap_sized (held z own.min own.max)

given_sized : (own : Sizes) → IfSome (given own) IsExtent
given_sized own = by own.size where
  by : (size : Option ℤ) → IfSome (option_map (hold own) size) IsExtent
  by None = tt
  by (Some size) = hold_sized own size

known_sized : (fills : Bool) (containing : Containing) (style : Style) (c : Constraint) → IfSome (known_by fills containing style c) IsExtent
unfolding equation_of
known_sized true containing style c =
    let inline = unwrap_or c.inline (pos 0) in
    let own = sizes_along containing.mode style (Some inline) in
    let room = inline -ℤ inner_edges_along style (Some inline) containing.mode in
    hold_sized own (equation.asked room own.size (start_margin containing style inline) (end_margin containing style inline))
known_sized false containing style c = given_sized (inline_sizes containing style c)

inline_sized : (outside : Outside) (containing : Containing) (style : Style) (content : Content) (c : Constraint) (handed : Option ℤ) (ms : List Member)
    → IsExtent (inline_size outside containing style content c handed ms)
unfolding inline_size known_size shrunk
inline_sized outside containing style content c handed ms = by _ (known_sized (is_parallel containing style && not (is_atom style.display)) containing style c) where
  by : (known : Option ℤ) → IfSome known IsExtent → IsExtent (known_or_shrunk known outside containing style content c handed ms)
  by None sized =
      let sizes = inner outside.faces style content handed ms in
      hold_sized (inline_sizes containing style c) (fit sizes.min sizes.max (room outside.view (is_parallel containing style) c style.mode (around style c)))
  by (Some size) sized = sized

block_sized : (containing : Containing) (style : Style) (c : Constraint) (extent : ℤ) → IsExtent (block_size containing style c extent)
block_sized containing style c extent = by (definite containing style c) (given_sized (block_sizes containing style c)) where
  by : (known : Option ℤ) → IfSome known IsExtent → IsExtent (unwrap_or known (hold (block_sizes containing style c) extent))
  by None sized = hold_sized (block_sizes containing style c) extent
  by (Some size) sized = sized

handed_sized : (containing : Containing) (node : Node) (c : Constraint) → IfSome c.block IsExtent → IfSome (handed_on containing node c) IsExtent
unfolding handed_on
handed_sized containing node c outer = by node.name.ordinal where
  by : (ordinal : ℕ) → IfSome (handed_by ordinal c.block (definite containing node.style c)) IsExtent
  by zero = given_sized (block_sizes containing node.style c)
  by (suc _) = outer

-- ---- what fills a box

-- a fragment, wherever it stands
record IsSizedPart (part : Part) : Type 0 where
  pub own : IsSizedKind part.kind
  pub inner : AreSizedPieces part.inner

abbrev AreSizedLaid : List Laid → Type 0
AreSizedLaid [] = ⊤
AreSizedLaid (l ∷ laid) = IsSizedPart l.flowed.part × AreSizedLaid laid

set_sized : (own : Containing) (size : ℤ) (laid : List Laid) (places : List ℤ) → AreSizedLaid laid → AreSizedPieces (set_down own size laid places)
set_sized own size [] [] sized = tt
set_sized own size [] (place ∷ places) sized = tt
set_sized own size (l ∷ laid) [] sized = tt
set_sized own size (l ∷ laid) (place ∷ places) sized = (sized.0.own, sized.0.inner, set_sized own size laid places sized.1)

moved_sized : (i b : ℤ) (own next : Pieces) → AreSizedPieces own → AreSizedPieces next → AreSizedPieces (atom_at i b own next)
moved_sized i b none next sized others = others
moved_sized i b (piece name rect kind inner _) next sized others = (sized.0, sized.1, others)

by_atoms : IsByAtoms AreSizedPieces
by_atoms = record {
  empty = tt;
  texts = λ name rect form level natural units next others. (tt, tt, others);
  spans = λ name rect inner next own others. (tt, own, others);
  lines = λ name rect index over mode baseline inner next own others. (tt, own, others);
  atoms = moved_sized;
}

atoms_sized : (style : Style) (size : ℤ) (laid : List Laid) → AreSizedLaid laid → AreAtoms AreSizedPieces (map (atom_in style size) laid)
atoms_sized style size [] sized = tt
atoms_sized style size (l ∷ laid) sized = ((sized.0.own, sized.0.inner, tt), atoms_sized style size laid sized.1)

filled_sized : (faces : List (Option Table)) (name : BoxName) (style : Style) (joins : ParentEdges) (size : ℤ) (content : Content) (laid : List Laid) → AreSizedLaid laid
    → AreSizedPieces (filled faces name style joins size content laid).parts
unfolding filled stack paragraph
filled_sized faces name style joins size blocks laid sized = set_sized (containing_of style) size laid _ sized
filled_sized faces name style joins size (paragraph_of entries) laid sized =
    lines_by_atoms AreSizedPieces by_atoms faces (record { name = name; style = style; size = size }) entries (prepared faces style entries) (map (atom_in style size) laid) (atoms_sized style size laid sized)

-- ---- boxes

turned_sized : (parallel : Bool) (i b along across : ℤ) → IsExtent along → IsExtent across → IsExtent (turned parallel i b along across).inline × IsExtent (turned parallel i b along across).block
turned_sized true i b along across first second = (first, second)
turned_sized false i b along across first second = (second, first)

boxed_sized : (containing : Containing) (node : Node) (c : Constraint) (size : ℤ) (content : Filled) → IfSome c.block IsExtent → IsExtent size → AreSizedPieces content.parts → IsSizedPart (boxed containing node c size content).part
unfolding boxed content_area
boxed_sized containing node c size content outer sized inside =
    let area = turned_sized (is_parallel containing node.style) _ _ size (block_size containing node.style c content.extent) sized (block_sized containing node.style c content.extent) in
    record { own = (area.0, area.1, handed_sized containing node c outer); inner = inside }

-- whatever block size is handed to it
abbrev IsSizedMember : Member → Type 0
IsSizedMember member = (c : Constraint) → IfSome c.block IsExtent → IsSizedPart (member.flow c).part

abbrev AreSizedMembers : List Member → Type 0
AreSizedMembers [] = ⊤
AreSizedMembers (m ∷ ms) = IsSizedMember m × AreSizedMembers ms

all_sized : (c : Constraint) (ms : List Member) → IfSome c.block IsExtent → AreSizedMembers ms → AreSizedLaid (map (laid_under c) ms)
all_sized c [] outer sized = tt
all_sized c (m ∷ ms) outer sized = (sized.0 c outer, all_sized c ms outer sized.1)

step_sized : (outside : Outside) (containing : Containing) (node : Node) (ms : List Member) (c : Constraint) → IfSome c.block IsExtent → AreSizedMembers ms
    → IsSizedPart (flow_step outside containing node ms c).part
unfolding flow_step laid_out measured
step_sized outside containing node ms c outer sized = by (is_parallel containing node.style && is_none c.inline) where
  laid : IsSizedPart (laid_out outside containing node c ms).part
  laid =
      let handed = handed_on containing node c in
      let size = inline_size outside containing node.style node.content c handed ms in
      let under : Constraint = record { inline = Some size; block = handed } in
      let joins = edges (block_box containing node.style c false) in
      boxed_sized containing node c size (filled outside.faces node.name node.style joins size node.content (map (laid_under under) ms)) outer
      (inline_sized outside containing node.style node.content c handed ms)
      (filled_sized outside.faces node.name node.style joins size node.content (map (laid_under under) ms) (all_sized under ms (handed_sized containing node c outer) sized))

  by : (measures : Bool) → IsSizedPart (answered measures outside containing node c ms).part
  by true = record { own = tt; inner = tt }
  by false = laid

members_sized : (outside : Outside) (containing : Containing) (boxes : Boxes) → AreSizedMembers (members outside containing boxes)
members_sized outside containing no_boxes = tt
members_sized outside containing (box name style content inner next) = (
  λ c outer. step_sized outside containing (record { name = name; style = style; content = content }) (members outside (containing_of style) inner) c outer (members_sized outside (containing_of style) inner),
  members_sized outside containing next,
)

-- ---- the whole

pub layouts_are_sized : LayoutsAreSized
layouts_are_sized faces inline_size block_size no_boxes sized = tt
layouts_are_sized faces inline_size block_size (box name style content inner next) sized =
    let outside = on_page (is_horizontal style.mode) faces inline_size block_size in
    let c : Constraint = record { inline = Some inline_size; block = Some block_size } in
    let root = (members_sized outside (containing_of style) (box name style content inner no_boxes)).0 c sized in
    (root.own, root.inner, tt)
