-- The paragraph in each way: its intrinsic sizes are those of a horizontal flow, and its lines are those of a horizontal flow, in that way.
use Rattle.std.proofs.Common.{◌≡◌, ◌∙◌, refl, sym, ap, ℕ, ◌+◌, ◌-◌, Bool, false, ◌&&◌, cond, not, List, [], ◌∷◌, ◌++◌, drop, map, take, Option, None, Some, ℤ, pos, ◌+ℤ◌, ◌-ℤ◌, slice_index_or}
use Rattle.std.proofs.lemmas.List.{drop-map, take-map}
use lib.ListN.{get_or-map}
use Rattle.face_api.specs.Table.{Table}
use Rattle.wm_chars.specs.declared.classes.BidiClass.{BidiClass}
use Rattle.wm_modes.specs.Sides.{side_of}
use Rattle.wm_modes.specs.declared.mode.Direction.{Direction}
use Rattle.wm_modes.specs.declared.mode.Direction.TheVariants.{Ltr}
use Rattle.wm_modes.specs.declared.sides.FlowSide.{FlowSide}
use Rattle.wm_modes.specs.declared.sides.FlowSide.TheVariants.{InlineStart, InlineEnd, LineLeft, LineOver, LineRight, LineUnder}
use Rattle.wm_units.specs.Numbers.{cap}
use Rattle.fragment_types.specs.Fragment as fragments
use Rattle.fragment_types.specs.Fragment.{Pieces, piece}
use Rattle.fragment_types.specs.Item.{Entry, text, begins, ends, atom, line_break}
use Rattle.fragment_types.specs.declared.breaking.Breaking.{Breaking}
use Rattle.style_types.specs.Initial.{initial}
use Rattle.style_types.specs.declared.style.Baseline.TheVariants.{Alphabetic}
use Rattle.style_types.specs.declared.style.Style.{Style}
use Rattle.line_fill.specs.Filling.{lines}
use Rattle.line_fill.specs.Sizes.{intrinsic}
use Rattle.line_place.specs.Line as place
use Rattle.line_place.specs.declared.line.LineBox.{LineBox}
use Rattle.para_prepare.specs.Parts.{used_direction}
use Rattle.para_prepare.specs.Preparation.{Preparation, preparation}
use Rattle.para_prepare.specs.declared.item.PreparedContent.{PreparedContent}
use Rattle.para_prepare.specs.declared.item.PreparedContent.TheVariants.{Unit, Combined, Atom as inline_block, Break}
use Rattle.para_prepare.specs.declared.item.PreparedItem.{PreparedItem}
use Rattle.para_lines.specs.Around.{InlineBox, box_at, box_by, chains, chains_from, closing_edges, ends_it, fresh, has, no_entry, opened_past}
use Rattle.para_lines.specs.Edges.{inline_edge, inner_edge_on, margin_on, resolved, shifts}
use Rattle.para_lines.specs.Filling as filling
use Rattle.para_lines.specs.Filling.{fill_items, fill_items_from, item_chains, paragraph_sizes}
use Rattle.para_lines.specs.Lines.{Atom, Standing, atom_extents, baseline, boxes_on, chain_of_first, chain_of_last, content_of, extent_of, extents_in, first_base, inner_edge_at, innermost_in, line, line_box, line_item, line_piece, lines_from, margin_at, no_atom, paragraph_lines, standings_by}
use Rattle.para_lines.specs.declared.paragraph.Container.{Container}
use Rattle.page_turn.specs.Kinds.{pieces_in}
use Rattle.flow_modes.specs.Lines.{line_in, line_item_in, shown_in}
use Rattle.flow_modes.specs.Paragraphs.{ParagraphLinesAlike, ParagraphSizesAlike, ParagraphsAlike, container_in, inline_block_in}
use Rattle.flow_modes.specs.Prepared.{preparation_in, prepared_item_in, what_in}
use Rattle.mode_ways.specs.Ways.{Way, across, down, left, right, entries_in, entry_in, mode_of, plain, style_in}
use Rattle.flow_modes.proofs.LineLaws.{line_fragments_alike, line_over_same, line_under_same}
use Rattle.flow_modes.proofs.PreparedLaws.{preparations_alike}
use Rattle.flow_modes.proofs.SideLaws.{direction_same, size_side, width_side}

-- ---- edges

margin_same : (way : Way) (inline : Option ℤ) (style : Style) (dir : Direction) (side : FlowSide)
    → margin_on inline (style_in way style) (side_of (mode_of way) dir side) ≡ margin_on inline (style_in plain style) (side_of (mode_of plain) dir side)
margin_same way inline style dir side = ap (resolved inline) (size_side way style.margin dir side)

inner_same : (way : Way) (inline : Option ℤ) (style : Style) (dir : Direction) (side : FlowSide)
    → inner_edge_on inline (style_in way style) (side_of (mode_of way) dir side) ≡ inner_edge_on inline (style_in plain style) (side_of (mode_of plain) dir side)
inner_same way inline style dir side = λ i. width_side way style.border dir side i +ℤ resolved inline (size_side way style.padding dir side i)

edge_same : (way : Way) (inline : Option ℤ) (style : Style) (side : FlowSide) → inline_edge inline (style_in way style) side ≡ inline_edge inline (style_in plain style) side
edge_same way inline style side =
    (λ i. margin_on inline (style_in way style) (side_of (mode_of way) (direction_same way style i) side)
    +ℤ inner_edge_on inline (style_in way style) (side_of (mode_of way) (direction_same way style i) side))
    ∙ (λ i. margin_same way inline style style.direction side i +ℤ inner_same way inline style style.direction side i)

baseline_same : (way : Way) (container : Container) → baseline (container_in way container) ≡ Alphabetic
baseline_same (across orientation combine) container = refl
baseline_same down container = refl
baseline_same (right orientation combine) container = refl
baseline_same (left orientation combine) container = refl

-- ---- the boxes round items

opened_same : (way : Way) (place : ℕ) (entry : Entry) (chain : List ℕ) → opened_past place (entry_in way entry) chain ≡ opened_past place entry chain
opened_same way place (text node letters style) chain = refl
opened_same way place (begins node style edges) chain = refl
opened_same way place (ends node edges) chain = refl
opened_same way place (atom name) chain = refl
opened_same way place (line_break node) chain = refl

chains_from_same : (way : Way) (place : ℕ) (chain : List ℕ) (entries : List Entry) → chains_from place chain (entries_in way entries) ≡ chains_from place chain entries
chains_from_same way place chain [] = refl
chains_from_same way place chain (entry ∷ entries) = λ i. chain ∷ chains_from_same way (place + 1) (opened_same way place entry chain i) entries i

chains_same : (way : Way) (entries : List Entry) → chains (entries_in way entries) ≡ chains entries
unfolding chains
chains_same way entries = chains_from_same way 0 [] entries

closing_same : (way : Way) (box : ℕ) (entries : List Entry) (rounds : List (List ℕ)) → closing_edges box (entries_in way entries) rounds ≡ closing_edges box entries rounds
closing_same way box [] rounds = refl
closing_same way box (ends node edges ∷ entries) (chain ∷ rounds) = ap (cond (ends_it box chain) edges) (closing_same way box entries rounds)
closing_same way box (text node letters style ∷ entries) (chain ∷ rounds) = closing_same way box entries rounds
closing_same way box (begins node style edges ∷ entries) (chain ∷ rounds) = closing_same way box entries rounds
closing_same way box (atom name ∷ entries) (chain ∷ rounds) = closing_same way box entries rounds
closing_same way box (line_break node ∷ entries) (chain ∷ rounds) = closing_same way box entries rounds
closing_same way box (ends node edges ∷ entries) [] = refl
closing_same way box (text node letters style ∷ entries) [] = refl
closing_same way box (begins node style edges ∷ entries) [] = refl
closing_same way box (atom name ∷ entries) [] = refl
closing_same way box (line_break node ∷ entries) [] = refl

box_same : (way : Way) (entries : List Entry) (box : ℕ)
    → box_at (entries_in way entries) box ≡ box_by (entry_in way (slice_index_or entries box no_entry)) (closing_edges box entries (chains entries)) (slice_index_or (chains entries) box [])
unfolding box_at
box_same way entries box =
    λ i. box_by (get_or-map (entry_in way) entries box no_entry i) ((ap (closing_edges box (entries_in way entries)) (chains_same way entries) ∙ closing_same way box entries (chains entries)) i)
    (slice_index_or (chains_same way entries i) box [])

-- what is the same of the box of each entry is the same of the box that begins at each place
by_box : {X : Type 0} (way : Way) (those own : InlineBox → X)
    → ((entry : Entry) (closes : Bool) (outer : List ℕ) → those (box_by (entry_in way entry) closes outer) ≡ own (box_by (entry_in plain entry) closes outer))
    → (entries : List Entry) (box : ℕ) → those (box_at (entries_in way entries) box) ≡ own (box_at (entries_in plain entries) box)
by_box way those own same entries box =
    ap those (box_same way entries box)
    ∙ same (slice_index_or entries box no_entry) (closing_edges box entries (chains entries)) (slice_index_or (chains entries) box [])
    ∙ ap own (sym (box_same plain entries box))

shift_same : (way : Way) (entry : Entry) (closes : Bool) (outer : List ℕ) → (box_by (entry_in way entry) closes outer).style.shift ≡ (box_by (entry_in plain entry) closes outer).style.shift
shift_same way (begins node style edges) closes outer = refl
shift_same way (text node letters style) closes outer = refl
shift_same way (ends node edges) closes outer = refl
shift_same way (atom name) closes outer = refl
shift_same way (line_break node) closes outer = refl

shifts_same : (way : Way) (entries : List Entry) (chain : List ℕ) → shifts (entries_in way entries) chain ≡ shifts (entries_in plain entries) chain
shifts_same way entries [] = refl
shifts_same way entries (box ∷ chain) =
    λ i. by_box way (λ own. own.style.shift) (λ own. own.style.shift) (shift_same way) entries box i +ℤ shifts_same way entries chain i

-- ---- the items as lines are filled with them

opening_edge_same : (way : Way) (inline : Option ℤ) (entry : Entry) (closes : Bool) (outer : List ℕ)
    → cond (box_by (entry_in way entry) closes outer).opens (inline_edge inline (box_by (entry_in way entry) closes outer).style InlineStart) (pos 0)
    ≡ cond (box_by (entry_in plain entry) closes outer).opens (inline_edge inline (box_by (entry_in plain entry) closes outer).style InlineStart) (pos 0)
opening_edge_same way inline (begins node style edges) closes outer = λ i. cond edges (edge_same way inline style InlineStart i) (pos 0)
opening_edge_same way inline (text node letters style) closes outer = refl
opening_edge_same way inline (ends node edges) closes outer = refl
opening_edge_same way inline (atom name) closes outer = refl
opening_edge_same way inline (line_break node) closes outer = refl

closing_edge_same : (way : Way) (inline : Option ℤ) (entry : Entry) (closes : Bool) (outer : List ℕ)
    → cond (box_by (entry_in way entry) closes outer).closes (inline_edge inline (box_by (entry_in way entry) closes outer).style InlineEnd) (pos 0)
    ≡ cond (box_by (entry_in plain entry) closes outer).closes (inline_edge inline (box_by (entry_in plain entry) closes outer).style InlineEnd) (pos 0)
closing_edge_same way inline (begins node style edges) closes outer = λ i. cond closes (edge_same way inline style InlineEnd i) (pos 0)
closing_edge_same way inline (text node letters style) closes outer = refl
closing_edge_same way inline (ends node edges) closes outer = refl
closing_edge_same way inline (atom name) closes outer = refl
closing_edge_same way inline (line_break node) closes outer = refl

opening_edges_same : (way : Way) (inline : Option ℤ) (entries : List Entry) (boxes : List ℕ) → filling.opening_edges inline (entries_in way entries) boxes ≡ filling.opening_edges inline (entries_in plain entries) boxes
opening_edges_same way inline entries [] = refl
opening_edges_same way inline entries (box ∷ boxes) =
    let read : InlineBox → ℤ = λ own. cond own.opens (inline_edge inline own.style InlineStart) (pos 0) in
    λ i. by_box way read read (opening_edge_same way inline) entries box i +ℤ opening_edges_same way inline entries boxes i

closing_edges_same : (way : Way) (inline : Option ℤ) (entries : List Entry) (boxes : List ℕ) → filling.closing_edges inline (entries_in way entries) boxes ≡ filling.closing_edges inline (entries_in plain entries) boxes
closing_edges_same way inline entries [] = refl
closing_edges_same way inline entries (box ∷ boxes) =
    let read : InlineBox → ℤ = λ own. cond own.closes (inline_edge inline own.style InlineEnd) (pos 0) in
    λ i. by_box way read read (closing_edge_same way inline) entries box i +ℤ closing_edges_same way inline entries boxes i

advance_same : (way : Way) (what : PreparedContent) (extents : List ℤ) → filling.advance_of (what_in way what) extents ≡ filling.advance_of what extents
advance_same way (Unit form space node first end_ advance glyphs) extents = refl
advance_same way (Combined node first end_ advance natural glyphs) extents = refl
advance_same way (inline_block name) extents = refl
advance_same way (Break node) extents = refl

space_same : (way : Way) (what : PreparedContent) → filling.is_space (what_in way what) ≡ filling.is_space what
space_same way (Unit form space node first end_ advance glyphs) = refl
space_same way (Combined node first end_ advance natural glyphs) = refl
space_same way (inline_block name) = refl
space_same way (Break node) = refl

past_same : {X : Type 0} (way : Way) (what : PreparedContent) (own : List X) → filling.past (what_in way what) own ≡ filling.past what own
past_same way (Unit form space node first end_ advance glyphs) own = refl
past_same way (Combined node first end_ advance natural glyphs) own = refl
past_same way (inline_block name) own = refl
past_same way (Break node) own = refl

each_chain_same : (way : Way) (rounds : List (List ℕ)) (items : List PreparedItem)
    → map (λ (item : PreparedItem). slice_index_or rounds item.source []) (map (prepared_item_in way) items) ≡ map (λ (item : PreparedItem). slice_index_or rounds item.source []) items
each_chain_same way rounds [] = refl
each_chain_same way rounds (item ∷ items) = ap (λ (others : List (List ℕ)). slice_index_or rounds item.source [] ∷ others) (each_chain_same way rounds items)

item_chains_same : (way : Way) (entries : List Entry) (items : List PreparedItem) → item_chains (entries_in way entries) (map (prepared_item_in way) items) ≡ item_chains (entries_in plain entries) items
item_chains_same way entries items =
    let same = chains_same way entries ∙ sym (chains_same plain entries) in
    (λ i. map (λ (item : PreparedItem). slice_index_or (same i) item.source []) (map (prepared_item_in way) items))
    ∙ each_chain_same way (chains (entries_in plain entries)) items

fill_from_same : (way : Way) (inline : Option ℤ) (entries : List Entry) (before : List ℕ) (items : List PreparedItem) (breaks : List Breaking) (rounds : List (List ℕ)) (extents : List ℤ)
    → fill_items_from inline (entries_in way entries) before (map (prepared_item_in way) items) breaks rounds extents ≡ fill_items_from inline (entries_in plain entries) before items breaks rounds extents
fill_from_same way inline entries before (item ∷ items) (end_ ∷ breaks) (chain ∷ rounds) extents =
    let others = ap (fill_items_from inline (entries_in way entries) chain (map (prepared_item_in way) items) breaks rounds) (past_same way item.what extents)
    ∙ fill_from_same way inline entries chain items breaks rounds (filling.past item.what extents) in
    λ i. record {
      advance = advance_same way item.what extents i;
      before = opening_edges_same way inline entries (fresh chain before) i;
      after = closing_edges_same way inline entries (fresh chain (filling.first_chain rounds)) i;
      space = space_same way item.what i;
      end = end_;
    } ∷ others i
fill_from_same way inline entries before [] breaks rounds extents = refl
fill_from_same way inline entries before (item ∷ items) [] rounds extents = refl
fill_from_same way inline entries before (item ∷ items) (end_ ∷ breaks) [] extents = refl

fill_same : (way : Way) (inline : Option ℤ) (entries : List Entry) (prepared : Preparation) (extents : List ℤ)
    → fill_items inline (entries_in way entries) (preparation_in way prepared) extents ≡ fill_items inline (entries_in plain entries) prepared extents
unfolding fill_items
fill_same way inline entries prepared extents =
    (λ i. fill_items_from inline (entries_in way entries) [] (map (prepared_item_in way) prepared.items) prepared.breaks (item_chains_same way entries prepared.items i) extents)
    ∙ fill_from_same way inline entries [] prepared.items prepared.breaks (item_chains (entries_in plain entries) prepared.items) extents

pub paragraph_sizes_alike : ParagraphSizesAlike
unfolding paragraph_sizes
paragraph_sizes_alike way entries prepared mins maxs =
    λ i. record {
      min = (intrinsic (fill_same way None entries prepared mins i)).min;
      max = (intrinsic (fill_same way None entries prepared maxs i)).max;
    }

-- ---- the boxes of a line

-- a box on a line, by the inline box that it is of and by how far it is raised
abbrev line_box_by : List (Option Table) → Container → (boxes before after : List ℕ) → (box : ℕ) → InlineBox → (raised : ℤ) → LineBox
line_box_by faces container boxes before after box b raised =
    record {
      node = b.node;
      outer = innermost_in boxes b.outer;
      extents = extents_in faces container b.style raised;
      dir = used_direction b.style;
      left = inner_edge_at container b.style LineLeft;
      right = inner_edge_at container b.style LineRight;
      over = inner_edge_at container b.style LineOver;
      under = inner_edge_at container b.style LineUnder;
      left_margin = margin_at container b.style LineLeft;
      right_margin = margin_at container b.style LineRight;
      first = b.opens && not (has before box);
      last = b.closes && not (has after box);
    }

extents_in_same : (faces : List (Option Table)) (way : Way) (container : Container) (style : Style) (raised : ℤ)
    → extents_in faces (container_in way container) (style_in way style) raised ≡ extents_in faces (container_in plain container) (style_in plain style) raised
extents_in_same faces (across orientation combine) container style raised = refl
extents_in_same faces down container style raised = refl
extents_in_same faces (right orientation combine) container style raised = refl
extents_in_same faces (left orientation combine) container style raised = refl

-- a place where none begins has the initial style in every way, which is alike on all sides
none_same : (faces : List (Option Table)) (way : Way) (container : Container) (boxes before after : List ℕ) (box : ℕ) (closes : Bool) (outer : List ℕ) (raised : ℤ)
    → line_box_by faces (container_in way container) boxes before after box (record { node = 0; style = initial; opens = false; closes = closes; outer = outer }) raised
    ≡ line_box_by faces (container_in plain container) boxes before after box (record { node = 0; style = initial; opens = false; closes = closes; outer = outer }) raised
unfolding initial
none_same faces (across orientation combine) container boxes before after box closes outer raised = refl
none_same faces down container boxes before after box closes outer raised = refl
none_same faces (right orientation combine) container boxes before after box closes outer raised = refl
none_same faces (left orientation combine) container boxes before after box closes outer raised = refl

line_box_by_same : (faces : List (Option Table)) (way : Way) (container : Container) (boxes before after : List ℕ) (box : ℕ) (raised : List ℕ → ℤ → ℤ) (entry : Entry) (closes : Bool) (outer : List ℕ)
    → line_box_by faces (container_in way container) boxes before after box (box_by (entry_in way entry) closes outer)
    (raised (box_by (entry_in way entry) closes outer).outer (box_by (entry_in way entry) closes outer).style.shift)
    ≡ line_box_by faces (container_in plain container) boxes before after box (box_by (entry_in plain entry) closes outer)
    (raised (box_by (entry_in plain entry) closes outer).outer (box_by (entry_in plain entry) closes outer).style.shift)
line_box_by_same faces way container boxes before after box raised (begins node style edges) closes outer =
    let size = Some container.size in
    λ i. record {
      node = node;
      outer = innermost_in boxes outer;
      extents = extents_in_same faces way container style (raised outer style.shift) i;
      dir = direction_same way style i;
      left = inner_same way size style Ltr LineLeft i;
      right = inner_same way size style Ltr LineRight i;
      over = inner_same way size style Ltr LineOver i;
      under = inner_same way size style Ltr LineUnder i;
      left_margin = margin_same way size style Ltr LineLeft i;
      right_margin = margin_same way size style Ltr LineRight i;
      first = edges && not (has before box);
      last = closes && not (has after box);
    }
line_box_by_same faces way container boxes before after box raised (text node letters style) closes outer = none_same faces way container boxes before after box closes outer (raised outer initial.shift)
line_box_by_same faces way container boxes before after box raised (ends node edges) closes outer = none_same faces way container boxes before after box closes outer (raised outer initial.shift)
line_box_by_same faces way container boxes before after box raised (atom name) closes outer = none_same faces way container boxes before after box closes outer (raised outer initial.shift)
line_box_by_same faces way container boxes before after box raised (line_break node) closes outer = none_same faces way container boxes before after box closes outer (raised outer initial.shift)

line_box_same : (faces : List (Option Table)) (way : Way) (container : Container) (entries : List Entry) (boxes before after : List ℕ) (box : ℕ)
    → line_box faces (container_in way container) (entries_in way entries) boxes before after box ≡ line_box faces (container_in plain container) (entries_in plain entries) boxes before after box
line_box_same faces way container entries boxes before after box =
    let raised : List ℕ → ℤ → ℤ = λ outer shift. cap (shift +ℤ shifts (entries_in plain entries) outer) in
    (λ i. line_box_by faces (container_in way container) boxes before after box (box_at (entries_in way entries) box)
    (cap ((box_at (entries_in way entries) box).style.shift +ℤ shifts_same way entries (box_at (entries_in way entries) box).outer i)))
    ∙ by_box way (λ own. line_box_by faces (container_in way container) boxes before after box own (raised own.outer own.style.shift))
    (λ own. line_box_by faces (container_in plain container) boxes before after box own (raised own.outer own.style.shift))
    (line_box_by_same faces way container boxes before after box raised) entries box

-- ---- the items of a line

standing_in : Way → Standing → Standing
standing_in way s = record s { item = prepared_item_in way s.item; atom = inline_block_in way s.atom }

atoms_past : (way : Way) (what : PreparedContent) (atoms : List Atom) → filling.past what (map (inline_block_in way) atoms) ≡ map (inline_block_in way) (filling.past what atoms)
atoms_past way (Unit form space node first end_ advance glyphs) atoms = refl
atoms_past way (Combined node first end_ advance natural glyphs) atoms = refl
atoms_past way (inline_block name) [] = refl
atoms_past way (inline_block name) (own ∷ atoms) = refl
atoms_past way (Break node) atoms = refl

standings_same : (way : Way) (items : List PreparedItem) (levels : List ℕ) (classes : List BidiClass) (bases : List ℕ) (extents : List ℤ) (rounds : List (List ℕ)) (atoms : List Atom)
    → standings_by (map (prepared_item_in way) items) levels classes bases extents rounds (map (inline_block_in way) atoms)
    ≡ map (standing_in way) (standings_by items levels classes bases extents rounds atoms)
unfolding standing_in
standings_same way (item ∷ items) (level ∷ levels) (class ∷ classes) (base ∷ bases) (extent ∷ extents) (chain ∷ rounds) atoms =
    let others = ap (standings_by (map (prepared_item_in way) items) levels classes bases extents rounds) (past_same way item.what (map (inline_block_in way) atoms) ∙ atoms_past way item.what atoms)
    ∙ standings_same way items levels classes bases extents rounds (filling.past item.what atoms) in
    λ i. record { item = prepared_item_in way item; level = level; class = class; base = base; extent = extent; chain = chain; atom = get_or-map (inline_block_in way) atoms 0 no_atom i } ∷ others i
standings_same way [] levels classes bases extents rounds atoms = refl
standings_same way (item ∷ items) [] classes bases extents rounds atoms = refl
standings_same way (item ∷ items) (level ∷ levels) [] bases extents rounds atoms = refl
standings_same way (item ∷ items) (level ∷ levels) (class ∷ classes) [] extents rounds atoms = refl
standings_same way (item ∷ items) (level ∷ levels) (class ∷ classes) (base ∷ bases) [] rounds atoms = refl
standings_same way (item ∷ items) (level ∷ levels) (class ∷ classes) (base ∷ bases) (extent ∷ extents) [] atoms = refl

content_same : (way : Way) (entries : List Entry) (chain : List ℕ) (own : Atom) (what : PreparedContent)
    → content_of (entries_in way entries) chain (inline_block_in way own) (what_in way what) ≡ shown_in (mode_of way) (content_of (entries_in plain entries) chain own what)
content_same way entries chain own (Unit form space node first end_ advance glyphs) = refl
content_same way entries chain own (Combined node first end_ advance natural glyphs) = refl
content_same way entries chain own (inline_block name) =
    λ i. place.atom (pieces_in (mode_of way) own.fragment) own.left_margin own.over_margin
    (own.over +ℤ cap (own.shift +ℤ shifts_same way entries chain i)) (own.under -ℤ cap (own.shift +ℤ shifts_same way entries chain i))
content_same way entries chain own (Break node) = refl

items_same : (way : Way) (entries : List Entry) (boxes : List ℕ) (own : List Standing)
    → map (line_item (entries_in way entries) boxes) (map (standing_in way) own) ≡ map (line_item_in (mode_of way)) (map (line_item (entries_in plain entries) boxes) own)
unfolding standing_in
items_same way entries boxes [] = refl
items_same way entries boxes (s ∷ own) =
    λ i. record {
      level = s.level;
      class = s.class;
      extent = s.extent;
      inside = innermost_in boxes s.chain;
      space = space_same way s.item.what i;
      apart = s.item.apart;
      what = content_same way entries s.chain s.atom s.item.what i;
    } ∷ items_same way entries boxes own i

boxes_on_same : (way : Way) (before : List ℕ) (own : List Standing) → boxes_on before (map (standing_in way) own) ≡ boxes_on before own
unfolding standing_in
boxes_on_same way before [] = refl
boxes_on_same way before (s ∷ own) = ap (λ (others : List ℕ). fresh s.chain before ++ others) (boxes_on_same way s.chain own)

base_same : (way : Way) (own : List Standing) → first_base (map (standing_in way) own) ≡ first_base own
unfolding standing_in
base_same way [] = refl
base_same way (s ∷ own) = refl

first_chain_same : (way : Way) (own : List Standing) → chain_of_first (map (standing_in way) own) ≡ chain_of_first own
unfolding standing_in
first_chain_same way [] = refl
first_chain_same way (s ∷ own) = refl

last_chain_same : (way : Way) (before : List ℕ) (own : List Standing) → chain_of_last before (map (standing_in way) own) ≡ chain_of_last before own
unfolding standing_in
last_chain_same way before [] = refl
last_chain_same way before (s ∷ own) = last_chain_same way s.chain own

line_same : (faces : List (Option Table)) (way : Way) (container : Container) (entries : List Entry) (before after : List ℕ) (own : List Standing)
    → line faces (container_in way container) (entries_in way entries) before after (map (standing_in way) own)
    ≡ line_in (mode_of way) (line faces (container_in plain container) (entries_in plain entries) before after own)
line_same faces way container entries before after own =
    (λ i. record {
      base = base_same way own i;
      align = container.style.align;
      available = container.size;
      strut = extents_in_same faces way container container.style (pos 0) i;
      items = map (line_item (entries_in way entries) (boxes_on_same way [] own i)) (map (standing_in way) own);
      boxes = map (line_box faces (container_in way container) (entries_in way entries) (boxes_on_same way [] own i) before after) (boxes_on_same way [] own i);
    })
    ∙ (λ i. record {
      base = first_base own;
      align = container.style.align;
      available = container.size;
      strut = extents_in faces (container_in plain container) (style_in plain container.style) (pos 0);
      items = items_same way entries (boxes_on [] own) own i;
      boxes = map (λ (box : ℕ). line_box_same faces way container entries (boxes_on [] own) before after box i) (boxes_on [] own);
    })

-- ---- the lines

-- a line's fragment before the lines behind it
piece_same : (way : Way) (container : Container) (index : ℕ) (at : ℤ) (own : place.Line) (next : Pieces)
    → line_piece (container_in way container) index at (line_in (mode_of way) own) (pieces_in (mode_of way) next) ≡ pieces_in (mode_of way) (line_piece (container_in plain container) index at own next)
piece_same way container index at own next =
    λ i. piece container.name (record { i = pos 0; b = at; inline = container.size; block = line_over_same (mode_of way) own i +ℤ line_under_same (mode_of way) own i })
    (fragments.line index (line_over_same (mode_of way) own i) (mode_of way) (baseline_same way container i)) (line_fragments_alike (mode_of way) own i) (pieces_in (mode_of way) next)

extent_same : (mode : _) (own : place.Line) → extent_of (line_in mode own) ≡ extent_of own
extent_same mode own = λ i. line_over_same mode own i +ℤ line_under_same mode own i

lines_from_same : (faces : List (Option Table)) (way : Way) (container : Container) (entries : List Entry) (index from : ℕ) (at : ℤ) (before : List ℕ) (own : List Standing) (line_ends : List ℕ)
    → lines_from faces (container_in way container) (entries_in way entries) index from at before (map (standing_in way) own) line_ends
    ≡ pieces_in (mode_of way) (lines_from faces (container_in plain container) (entries_in plain entries) index from at before own line_ends)
lines_from_same faces way container entries index from at before own [] = refl
lines_from_same faces way container entries index from at before own (end_ ∷ line_ends) =
    let those = take (end_ - from) own in
    let others = drop (end_ - from) own in
    let l = line faces (container_in plain container) (entries_in plain entries) before (chain_of_first others) those in
    let drawn = line faces (container_in way container) (entries_in way entries) before in
    let cut = take-map (standing_in way) (end_ - from) own in
    let rest = drop-map (standing_in way) (end_ - from) own in
    let same = (λ i. drawn (chain_of_first (rest i)) (cut i)) ∙ (λ i. drawn (first_chain_same way others i) (map (standing_in way) those)) ∙ line_same faces way container entries before (chain_of_first others) those in
    let last = (λ i. chain_of_last before (cut i)) ∙ last_chain_same way before those in
    let further = (λ i. at +ℤ extent_of (same i)) ∙ ap (λ (extent : ℤ). at +ℤ extent) (extent_same (mode_of way) l) in
    let behind = lines_from_same faces way container entries (index + 1) end_ (at +ℤ extent_of l) (chain_of_last before those) others line_ends in
    (λ i. line_piece (container_in way container) index at (same i)
    (lines_from faces (container_in way container) (entries_in way entries) (index + 1) end_ (further i) (last i) (rest i) line_ends))
    ∙ ap (line_piece (container_in way container) index at (line_in (mode_of way) l)) behind
    ∙ piece_same way container index at l (lines_from faces (container_in plain container) (entries_in plain entries) (index + 1) end_ (at +ℤ extent_of l) (chain_of_last before those) others line_ends)

atom_extents_same : (way : Way) (atoms : List Atom) → atom_extents (map (inline_block_in way) atoms) ≡ atom_extents atoms
atom_extents_same way [] = refl
atom_extents_same way (own ∷ atoms) = ap (λ (others : List ℤ). own.extent ∷ others) (atom_extents_same way atoms)

pub paragraph_lines_alike : ParagraphLinesAlike
unfolding paragraph_lines
paragraph_lines_alike faces way container entries prepared atoms =
    let size = Some container.size in
    let filled = ap (fill_items size (entries_in way entries) (preparation_in way prepared)) (atom_extents_same way atoms) ∙ fill_same way size entries prepared (atom_extents atoms) in
    let items = fill_items size (entries_in plain entries) prepared (atom_extents atoms) in
    let rounds = item_chains (entries_in plain entries) prepared.items in
    (λ i. lines_from faces (container_in way container) (entries_in way entries) 0 0 (pos 0) []
    (standings_by (map (prepared_item_in way) prepared.items) prepared.levels prepared.classes prepared.bases (map (λ item. item.advance) (filled i)) (item_chains_same way entries prepared.items i) (map (inline_block_in way) atoms))
    (lines container.size (filled i)))
    ∙ (λ i. lines_from faces (container_in way container) (entries_in way entries) 0 0 (pos 0) []
    (standings_same way prepared.items prepared.levels prepared.classes prepared.bases (map (λ item. item.advance) items) rounds atoms i) (lines container.size items))
    ∙ lines_from_same faces way container entries 0 0 (pos 0) [] (standings_by prepared.items prepared.levels prepared.classes prepared.bases (map (λ item. item.advance) items) rounds atoms) (lines container.size items)

pub paragraphs_alike : ParagraphsAlike
paragraphs_alike faces given way container entries atoms =
    ap (λ (prepared : Preparation). paragraph_lines faces (container_in way container) (entries_in way entries) prepared (map (inline_block_in way) atoms)) (preparations_alike faces given way container.style entries)
    ∙ paragraph_lines_alike faces way container entries (preparation faces given (style_in plain container.style) (entries_in plain entries)) atoms
