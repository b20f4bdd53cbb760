-- The lines of a paragraph hang on no position and no inset.
use Rattle.std.proofs.Common.{◌≡◌, ◌∙◌, refl, ap, ℕ, ◌+◌, ◌-◌, Bool, ◌&&◌, cond, not, List, [], ◌∷◌, drop, map, take, Option, None, Some, ℤ, pos, ◌+ℤ◌, ◌-ℤ◌, slice_index_or}
use lib.ListN.{get_or-map}
use Rattle.face_api.specs.Table.{Table}
use Rattle.fragment_types.specs.Item.{Entry, text, begins, ends, atom, line_break}
use Rattle.fragment_types.specs.declared.breaking.Breaking.{Breaking}
use Rattle.style_types.specs.Initial.{initial}
use Rattle.wm_modes.specs.declared.sides.FlowSide.TheVariants.{InlineStart, InlineEnd, LineLeft, LineOver, LineRight, LineUnder}
use Rattle.wm_units.specs.Numbers.{cap}
use Rattle.line_fill.specs.Filling.{lines}
use Rattle.line_fill.specs.Sizes.{intrinsic}
use Rattle.line_place.specs.declared.line.LineBox.{LineBox}
use Rattle.line_place.specs.Line as place
use Rattle.para_prepare.specs.Parts.{used_direction}
use Rattle.para_prepare.specs.Preparation.{Preparation}
use Rattle.para_prepare.specs.declared.item.PreparedItem.{PreparedItem}
use Rattle.para_prepare.specs.declared.item.PreparedContent.{PreparedContent}
use Rattle.para_prepare.specs.declared.item.PreparedContent.TheVariants.{Unit, Combined, Atom as inline_block, Break}
use Rattle.para_lines.specs.declared.paragraph.Container.{Container}
use Rattle.para_lines.specs.Around.{InlineBox, box_at, box_by, chains, chains_from, closing_edges, ends_it, fresh, has, no_entry, opened_past}
use Rattle.para_lines.specs.Edges.{inline_edge, shifts}
use Rattle.para_lines.specs.Filling as filling
use Rattle.para_lines.specs.Filling.{fill_item, fill_items, fill_items_from, item_chains, paragraph_sizes}
use Rattle.para_lines.specs.Lines.{Atom, Standing, atom_extents, boxes_on, chain_of_first, chain_of_last, content_of, extent_of, extents_in, inner_edge_at, innermost_in, line, line_box, line_item, line_piece, lines_from, margin_at, paragraph_lines, standings_by}
use Rattle.flow_laws.specs.Static.{as_static, static_item}

-- ---- the boxes round items

same_opened : (place : ℕ) (entry : Entry) (chain : List ℕ) → opened_past place (static_item entry) chain ≡ opened_past place entry chain
same_opened place (text node letters style) chain = refl
same_opened place (begins node style edges) chain = refl
same_opened place (ends node edges) chain = refl
same_opened place (atom name) chain = refl
same_opened place (line_break node) chain = refl

same_chains_from : (place : ℕ) (chain : List ℕ) (entries : List Entry) → chains_from place chain (map static_item entries) ≡ chains_from place chain entries
same_chains_from place chain [] = refl
same_chains_from place chain (entry ∷ entries) = λ i. chain ∷ same_chains_from (place + 1) (same_opened place entry chain i) entries i

same_chains : (entries : List Entry) → chains (map static_item entries) ≡ chains entries
unfolding chains
same_chains entries = same_chains_from 0 [] entries

same_closing : (box : ℕ) (entries : List Entry) (rounds : List (List ℕ)) → closing_edges box (map static_item entries) rounds ≡ closing_edges box entries rounds
same_closing box [] rounds = refl
same_closing box (ends node edges ∷ entries) (chain ∷ rounds) = ap (cond (ends_it box chain) edges) (same_closing box entries rounds)
same_closing box (text node letters style ∷ entries) (chain ∷ rounds) = same_closing box entries rounds
same_closing box (begins node style edges ∷ entries) (chain ∷ rounds) = same_closing box entries rounds
same_closing box (atom name ∷ entries) (chain ∷ rounds) = same_closing box entries rounds
same_closing box (line_break node ∷ entries) (chain ∷ rounds) = same_closing box entries rounds
same_closing box (ends node edges ∷ entries) [] = refl
same_closing box (text node letters style ∷ entries) [] = refl
same_closing box (begins node style edges ∷ entries) [] = refl
same_closing box (atom name ∷ entries) [] = refl
same_closing box (line_break node ∷ entries) [] = refl

-- an inline box as a static one
abbrev static_inline : InlineBox → InlineBox
static_inline own = record own { style = as_static own.style }

static_box_by : (entry : Entry) (closes : Bool) (outer : List ℕ) → box_by (static_item entry) closes outer ≡ static_inline (box_by entry closes outer)
unfolding initial
static_box_by (begins node style edges) closes outer = refl
static_box_by (text node letters style) closes outer = refl
static_box_by (ends node edges) closes outer = refl
static_box_by (atom name) closes outer = refl
static_box_by (line_break node) closes outer = refl

static_box_at : (entries : List Entry) (box : ℕ) → box_at (map static_item entries) box ≡ static_inline (box_at entries box)
unfolding box_at
static_box_at entries box =
    (λ i. box_by (get_or-map static_item entries box no_entry i) (same_closing box entries (same_chains entries i) i) (slice_index_or (same_chains entries i) box []))
    ∙ static_box_by (slice_index_or entries box no_entry) (closing_edges box entries (chains entries)) (slice_index_or (chains entries) box [])

same_shifts : (entries : List Entry) (chain : List ℕ) → shifts (map static_item entries) chain ≡ shifts entries chain
same_shifts entries [] = refl
same_shifts entries (box ∷ chain) = λ i. (static_box_at entries box i).style.shift +ℤ same_shifts entries chain i

-- ---- the items as lines are filled with them

same_opening_edges : (inline : Option ℤ) (entries : List Entry) (boxes : List ℕ) → filling.opening_edges inline (map static_item entries) boxes ≡ filling.opening_edges inline entries boxes
same_opening_edges inline entries [] = refl
same_opening_edges inline entries (box ∷ boxes) =
    λ i. cond (static_box_at entries box i).opens (inline_edge inline (static_box_at entries box i).style InlineStart) (pos 0) +ℤ same_opening_edges inline entries boxes i

same_closing_edges : (inline : Option ℤ) (entries : List Entry) (boxes : List ℕ) → filling.closing_edges inline (map static_item entries) boxes ≡ filling.closing_edges inline entries boxes
same_closing_edges inline entries [] = refl
same_closing_edges inline entries (box ∷ boxes) =
    λ i. cond (static_box_at entries box i).closes (inline_edge inline (static_box_at entries box i).style InlineEnd) (pos 0) +ℤ same_closing_edges inline entries boxes i

same_item_chains : (entries : List Entry) (items : List PreparedItem) → item_chains (map static_item entries) items ≡ item_chains entries items
same_item_chains entries items = λ i. map (λ (item : PreparedItem). slice_index_or (same_chains entries i) item.source []) items

same_fill_item : (inline : Option ℤ) (entries : List Entry) (item : PreparedItem) (end_ : Breaking) (before chain after : List ℕ) (advance : ℤ)
    → fill_item inline (map static_item entries) item end_ before chain after advance ≡ fill_item inline entries item end_ before chain after advance
same_fill_item inline entries item end_ before chain after advance =
    λ i. record (fill_item inline entries item end_ before chain after advance) {
      before = same_opening_edges inline entries (fresh chain before) i;
      after = same_closing_edges inline entries (fresh chain after) i;
    }

same_fill_items_from : (inline : Option ℤ) (entries : List Entry) (before : List ℕ) (items : List PreparedItem) (breaks : List Breaking) (rounds : List (List ℕ)) (atoms : List ℤ)
    → fill_items_from inline (map static_item entries) before items breaks rounds atoms ≡ fill_items_from inline entries before items breaks rounds atoms
same_fill_items_from inline entries before (item ∷ items) (end_ ∷ breaks) (chain ∷ rounds) atoms =
    λ i. same_fill_item inline entries item end_ before chain (filling.first_chain rounds) (filling.advance_of item.what atoms) i
    ∷ same_fill_items_from inline entries chain items breaks rounds (filling.past item.what atoms) i
same_fill_items_from inline entries before [] breaks rounds atoms = refl
same_fill_items_from inline entries before (item ∷ items) [] rounds atoms = refl
same_fill_items_from inline entries before (item ∷ items) (end_ ∷ breaks) [] atoms = refl

same_fill_items : (inline : Option ℤ) (entries : List Entry) (prepared : Preparation) (atoms : List ℤ) → fill_items inline (map static_item entries) prepared atoms ≡ fill_items inline entries prepared atoms
unfolding fill_items
same_fill_items inline entries prepared atoms =
    λ i. same_fill_items_from inline entries [] prepared.items prepared.breaks (same_item_chains entries prepared.items i) atoms i

pub same_paragraph_sizes : (entries : List Entry) (prepared : Preparation) (mins maxs : List ℤ) → paragraph_sizes (map static_item entries) prepared mins maxs ≡ paragraph_sizes entries prepared mins maxs
unfolding paragraph_sizes
same_paragraph_sizes entries prepared mins maxs =
    λ i. record {
      min = (intrinsic (same_fill_items None entries prepared mins i)).min;
      max = (intrinsic (same_fill_items None entries prepared maxs i)).max;
    }

-- ---- the lines

abbrev pub static_container : Container → Container
static_container container = record container { style = as_static container.style }

same_content : (entries : List Entry) (chain : List ℕ) (own : Atom) (what : PreparedContent) → content_of (map static_item entries) chain own what ≡ content_of entries chain own what
same_content entries chain own (Unit form space node first end_ advance glyphs) = refl
same_content entries chain own (Combined node first end_ advance natural glyphs) = refl
same_content entries chain own (inline_block name) =
    λ i. place.atom own.fragment own.left_margin own.over_margin
    (own.over +ℤ cap (own.shift +ℤ same_shifts entries chain i)) (own.under -ℤ cap (own.shift +ℤ same_shifts entries chain i))
same_content entries chain own (Break node) = refl

same_line_item : (entries : List Entry) (boxes : List ℕ) (s : Standing) → line_item (map static_item entries) boxes s ≡ line_item entries boxes s
same_line_item entries boxes s = λ i. record (line_item entries boxes s) { what = same_content entries s.chain s.atom s.item.what i }

-- a box on a line, by the inline box that it is of and by how far it is raised
abbrev line_box_by : List (Option Table) → Container → (boxes before after : List ℕ) → (box : ℕ) → InlineBox → (raised : ℤ) → LineBox
line_box_by faces container boxes before after box b raised =
    record {
      node = b.node;
      outer = innermost_in boxes b.outer;
      extents = extents_in faces container b.style raised;
      dir = used_direction b.style;
      left = inner_edge_at container b.style LineLeft;
      right = inner_edge_at container b.style LineRight;
      over = inner_edge_at container b.style LineOver;
      under = inner_edge_at container b.style LineUnder;
      left_margin = margin_at container b.style LineLeft;
      right_margin = margin_at container b.style LineRight;
      first = b.opens && not (has before box);
      last = b.closes && not (has after box);
    }

same_line_box : (faces : List (Option Table)) (container : Container) (entries : List Entry) (boxes before after : List ℕ) (box : ℕ)
    → line_box faces (static_container container) (map static_item entries) boxes before after box ≡ line_box faces container entries boxes before after box
same_line_box faces container entries boxes before after box =
    λ i. line_box_by faces container boxes before after box (static_box_at entries box i)
    (cap ((static_box_at entries box i).style.shift +ℤ same_shifts entries (static_box_at entries box i).outer i))

same_line : (faces : List (Option Table)) (container : Container) (entries : List Entry) (before after : List ℕ) (standings : List Standing)
    → line faces (static_container container) (map static_item entries) before after standings ≡ line faces container entries before after standings
same_line faces container entries before after standings =
    λ i. record (line faces container entries before after standings) {
      items = map (λ (s : Standing). same_line_item entries (boxes_on [] standings) s i) standings;
      boxes = map (λ (box : ℕ). same_line_box faces container entries (boxes_on [] standings) before after box i) (boxes_on [] standings);
    }

same_lines_from : (faces : List (Option Table)) (container : Container) (entries : List Entry) (index from : ℕ) (block : ℤ) (before : List ℕ) (standings : List Standing) (line_ends : List ℕ)
    → lines_from faces (static_container container) (map static_item entries) index from block before standings line_ends ≡ lines_from faces container entries index from block before standings line_ends
same_lines_from faces container entries index from block before standings [] = refl
same_lines_from faces container entries index from block before standings (end_ ∷ line_ends) =
    let own = take (end_ - from) standings in
    let others = drop (end_ - from) standings in
    let same = same_line faces container entries before (chain_of_first others) own in
    λ i. line_piece container index block (same i)
    (same_lines_from faces container entries (index + 1) end_ (block +ℤ extent_of (same i)) (chain_of_last before own) others line_ends i)

pub same_paragraph_lines : (faces : List (Option Table)) (container : Container) (entries : List Entry) (prepared : Preparation) (atoms : List Atom)
    → paragraph_lines faces (static_container container) (map static_item entries) prepared atoms ≡ paragraph_lines faces container entries prepared atoms
unfolding paragraph_lines
same_paragraph_lines faces container entries prepared atoms =
    let same = same_fill_items (Some container.size) entries prepared (atom_extents atoms) in
    λ i. same_lines_from faces container entries 0 0 (pos 0) []
    (standings_by prepared.items prepared.levels prepared.classes prepared.bases (map (λ item. item.advance) (same i)) (same_item_chains entries prepared.items i) atoms)
    (lines container.size (same i)) i
