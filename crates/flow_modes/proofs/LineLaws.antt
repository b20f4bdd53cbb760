-- The fragments of a line in a mode are its fragments, in that mode.
use Rattle.std.proofs.Common.{◌≡◌, ◌∙◌, refl, sym, ap, ℕ, zero, suc, ◌+◌, ◌==◌, Bool, true, false, ◌&&◌, ◌||◌, not, cond, List, [], ◌∷◌, ◌++◌, map, reverse, Option, None, Some, ℤ, ◌+ℤ◌, ◌-ℤ◌}
use Rattle.std.proofs.lemmas.List.{map-append}
use Rattle.std.specs.Int.{int_max}
use Rattle.std.specs.List.{cons_option, filter_map, flat_map, fold, list_any}
use Rattle.std.specs.Prelude.{slice_get}
use Rattle.wm_modes.specs.declared.mode.WritingMode.{WritingMode}
use Rattle.wm_modes.specs.declared.mode.WritingMode.TheVariants.{HorizontalTb, VerticalRl, VerticalLr, SidewaysRl, SidewaysLr}
use Rattle.bidi_order.specs.Blanks.{reset}
use Rattle.bidi_order.specs.Visual.{visual_order}
use Rattle.fragment_types.specs.Fragment as fragments
use Rattle.fragment_types.specs.Fragment.{Pieces, none, piece}
use Rattle.fragment_types.specs.declared.unit_kind.UnitKind.{UnitKind}
use Rattle.fragment_types.specs.declared.unit_kind.UnitKind.TheVariants.{Along, Turned, Upright, Combined}
use Rattle.line_place.specs.declared.line.LineBox.{LineBox}
use Rattle.line_place.specs.Leaves.{Leaf, are_spaces, leaf, leaves, leaves_from, levels_of}
use Rattle.line_place.specs.Line.{Content, Item, Line, atom, combined, nothing, unit}
use Rattle.line_place.specs.Marks.{Mark, at_left, at_right, begins, between, box_at, ends, inside_of, is_begin_of, is_end_of, left_behind, leftmost, marks, marks_after, marks_of, rightmost, shows}
use Rattle.line_place.specs.Placing.{Row, advance, atom_at, atom_over, atom_under, extent_of, extents_in, level_of, line_over, line_under, offset, outermost, over_of, parts, put_box, put_first, rows, run_as, run_piece, text_piece, text_rect, under_of, unit_of, unit_with, unnumbered, width}
use Rattle.line_place.specs.Placing as placing
use Rattle.line_place.specs.Runs.{are_alike, follows, goes_on, is_form, is_place, joined, runs}
use Rattle.page_turn.specs.Kinds.{form_in, pieces_in, sideways}
use Rattle.flow_modes.specs.Lines.{LineFragmentsAlike, line_in, line_item_in, shown_in}

-- ---- forms of text

sideways_same : (one other : UnitKind) → is_form (sideways one) (sideways other) ≡ is_form one other
sideways_same Along Along = refl
sideways_same Along Turned = refl
sideways_same Along Upright = refl
sideways_same Along Combined = refl
sideways_same Turned Along = refl
sideways_same Turned Turned = refl
sideways_same Turned Upright = refl
sideways_same Turned Combined = refl
sideways_same Upright Along = refl
sideways_same Upright Turned = refl
sideways_same Upright Upright = refl
sideways_same Upright Combined = refl
sideways_same Combined Along = refl
sideways_same Combined Turned = refl
sideways_same Combined Upright = refl
sideways_same Combined Combined = refl

form_same : (mode : WritingMode) (one other : UnitKind) → is_form (form_in mode one) (form_in mode other) ≡ is_form one other
form_same HorizontalTb one other = refl
form_same VerticalRl one other = sideways_same one other
form_same VerticalLr one other = sideways_same one other
form_same SidewaysRl one other = refl
form_same SidewaysLr one other = refl

combined_stays : (mode : WritingMode) → form_in mode Combined ≡ Combined
combined_stays HorizontalTb = refl
combined_stays VerticalRl = refl
combined_stays VerticalLr = refl
combined_stays SidewaysRl = refl
combined_stays SidewaysLr = refl

module _ (mode : WritingMode) where
  alike_same : (one other : Content) → are_alike (shown_in mode one) (shown_in mode other) ≡ are_alike one other
  alike_same (unit node first end_ form glyphs) (unit node' first' end' form' glyphs') = ap (λ (same : Bool). (node == node') && same) (form_same mode form form')
  alike_same (unit node first end_ form glyphs) (combined node' first' end' natural' glyphs') = refl
  alike_same (unit node first end_ form glyphs) (atom fragment left_margin over_margin over under) = refl
  alike_same (unit node first end_ form glyphs) nothing = refl
  alike_same (combined node first end_ natural glyphs) other = refl
  alike_same (atom fragment left_margin over_margin over under) other = refl
  alike_same nothing other = refl

  -- ---- leaves

  leaf_in : Leaf → Leaf
  leaf_in own = record own { what = shown_in mode own.what }

  spaces_same : (items : List Item) → are_spaces (map (line_item_in mode) items) ≡ are_spaces items
  spaces_same [] = refl
  spaces_same (item ∷ items) = ap (λ (others : Bool). item.space && others) (spaces_same items)

  leaf_same : (place level : ℕ) (item : Item) (hangs : Bool) → leaf place level (line_item_in mode item) hangs ≡ leaf_in (leaf place level item hangs)
  unfolding leaf_in
  leaf_same place level item true = refl
  leaf_same place level item false = refl

  leaves_from_same : (place : ℕ) (levels : List ℕ) (items : List Item) → leaves_from place levels (map (line_item_in mode) items) ≡ map leaf_in (leaves_from place levels items)
  leaves_from_same place [] items = refl
  leaves_from_same place (level ∷ levels) [] = refl
  leaves_from_same place (level ∷ levels) (item ∷ items) =
      let same = ap (leaf place level (line_item_in mode item)) (spaces_same (item ∷ items)) ∙ leaf_same place level item (are_spaces (item ∷ items)) in
      λ i. same i ∷ leaves_from_same (place + 1) levels items i

  each_same : {X : Type 0} (read : Item → X) → ((item : Item) → read (line_item_in mode item) ≡ read item) → (items : List Item) → map read (map (line_item_in mode) items) ≡ map read items
  each_same read same [] = refl
  each_same read same (item ∷ items) = λ i. same item i ∷ each_same read same items i

  levels_same : (own : Line) → levels_of (line_in mode own) ≡ levels_of own
  levels_same own = λ i. reset own.base (each_same (λ item. item.level) (λ item. refl) own.items i) (each_same (λ item. item.class) (λ item. refl) own.items i)

  got_same : (own : List Leaf) (place : ℕ) (others : List Leaf) → cons_option (slice_get (map leaf_in own) place) (map leaf_in others) ≡ map leaf_in (cons_option (slice_get own place) others)
  got_same [] place others = refl
  got_same (l ∷ own) zero others = refl
  got_same (l ∷ own) (suc place) others = got_same own place others

  ordered_same : (own : List Leaf) (places : List ℕ) → filter_map (λ place. slice_get (map leaf_in own) place) places ≡ map leaf_in (filter_map (λ place. slice_get own place) places)
  ordered_same own [] = refl
  ordered_same own (place ∷ places) =
      ap (cons_option (slice_get (map leaf_in own) place)) (ordered_same own places)
      ∙ got_same own place (filter_map (λ place. slice_get own place) places)

  leaves_same : (own : Line) → leaves (line_in mode own) ≡ map leaf_in (leaves own)
  unfolding leaves
  leaves_same own =
      (λ i. filter_map (λ place. slice_get (leaves_from 0 (levels_same own i) (map (line_item_in mode) own.items)) place)
      (visual_order (levels_same own i) (each_same (λ item. item.apart) (λ item. refl) own.items i)))
      ∙ (λ i. filter_map (λ place. slice_get (leaves_from_same 0 (levels_of own) own.items i) place) (visual_order (levels_of own) (map (λ item. item.apart) own.items)))
      ∙ ordered_same (leaves_from 0 (levels_of own) own.items) (visual_order (levels_of own) (map (λ item. item.apart) own.items))

  -- ---- runs

  goes_same : (own next : Leaf) → goes_on (leaf_in own) (leaf_in next) ≡ goes_on own next
  unfolding leaf_in
  goes_same own next = λ i. alike_same own.what next.what i && is_place own.inside next.inside && (own.level == next.level) && follows own.level own.place next.place

  joined_by : (goes : Bool) (own next : Leaf) (run : List Leaf) (others : List (List Leaf))
      → cond goes ((leaf_in own ∷ leaf_in next ∷ map leaf_in run) ∷ map (map leaf_in) others) ((leaf_in own ∷ []) ∷ (leaf_in next ∷ map leaf_in run) ∷ map (map leaf_in) others)
      ≡ map (map leaf_in) (cond goes ((own ∷ next ∷ run) ∷ others) ((own ∷ []) ∷ (next ∷ run) ∷ others))
  joined_by true own next run others = refl
  joined_by false own next run others = refl

  joined_same : (own : Leaf) (others : List (List Leaf)) → joined (leaf_in own) (map (map leaf_in) others) ≡ map (map leaf_in) (joined own others)
  joined_same own [] = refl
  joined_same own ([] ∷ others) = refl
  joined_same own ((next ∷ run) ∷ others) =
      (λ i. cond (goes_same own next i) ((leaf_in own ∷ leaf_in next ∷ map leaf_in run) ∷ map (map leaf_in) others)
      ((leaf_in own ∷ []) ∷ (leaf_in next ∷ map leaf_in run) ∷ map (map leaf_in) others))
      ∙ joined_by (goes_on own next) own next run others

  runs_same : (own : List Leaf) → runs (map leaf_in own) ≡ map (map leaf_in) (runs own)
  runs_same [] = refl
  runs_same (l ∷ own) = ap (joined (leaf_in l)) (runs_same own) ∙ joined_same l (runs own)

  -- ---- marks

  mark_in : Mark → Mark
  mark_in (begins p edge) = begins p edge
  mark_in (ends p edge) = ends p edge
  mark_in (shows run) = shows (map leaf_in run)

  ends_same : (boxes : List ℕ) → map (λ p. ends p false) boxes ≡ map mark_in (map (λ p. ends p false) boxes)
  unfolding mark_in
  ends_same [] = refl
  ends_same (p ∷ boxes) = ap (λ (others : List Mark). ends p false ∷ others) (ends_same boxes)

  begins_same : (boxes : List ℕ) → map (λ p. begins p false) boxes ≡ map mark_in (map (λ p. begins p false) boxes)
  unfolding mark_in
  begins_same [] = refl
  begins_same (p ∷ boxes) = ap (λ (others : List Mark). begins p false ∷ others) (begins_same boxes)

  between_same : (boxes : List LineBox) (one other : Option ℕ) → between boxes one other ≡ map mark_in (between boxes one other)
  between_same boxes one other =
      (λ i. ends_same (left_behind boxes one other) i ++ begins_same (reverse (left_behind boxes other one)) i)
      ∙ sym (map-append mark_in (map (λ p. ends p false) (left_behind boxes one other)) (map (λ p. begins p false) (reverse (left_behind boxes other one))))

  inside_same : (run : List Leaf) → inside_of (map leaf_in run) ≡ inside_of run
  unfolding leaf_in
  inside_same [] = refl
  inside_same (l ∷ run) = refl

  marks_after_same : (boxes : List LineBox) (inside : Option ℕ) (own : List (List Leaf)) → marks_after boxes inside (map (map leaf_in) own) ≡ map mark_in (marks_after boxes inside own)
  unfolding mark_in
  marks_after_same boxes inside [] = between_same boxes inside None
  marks_after_same boxes inside (run ∷ own) =
      (λ i. between boxes inside (inside_same run i) ++ shows (map leaf_in run) ∷ marks_after boxes (inside_same run i) (map (map leaf_in) own))
      ∙ (λ i. between_same boxes inside (inside_of run) i ++ shows (map leaf_in run) ∷ marks_after_same boxes (inside_of run) own i)
      ∙ sym (map-append mark_in (between boxes inside (inside_of run)) (shows run ∷ marks_after boxes (inside_of run) own))

  begin_same : (p : ℕ) (mark : Mark) → is_begin_of p (mark_in mark) ≡ is_begin_of p mark
  unfolding mark_in
  begin_same p (begins q edge) = refl
  begin_same p (ends q edge) = refl
  begin_same p (shows run) = refl

  end_same : (p : ℕ) (mark : Mark) → is_end_of p (mark_in mark) ≡ is_end_of p mark
  unfolding mark_in
  end_same p (begins q edge) = refl
  end_same p (ends q edge) = refl
  end_same p (shows run) = refl

  any_begin_same : (p : ℕ) (own : List Mark) → list_any (is_begin_of p) (map mark_in own) ≡ list_any (is_begin_of p) own
  any_begin_same p [] = refl
  any_begin_same p (mark ∷ own) = λ i. begin_same p mark i || any_begin_same p own i

  any_end_same : (p : ℕ) (own : List Mark) → list_any (is_end_of p) (map mark_in own) ≡ list_any (is_end_of p) own
  any_end_same p [] = refl
  any_end_same p (mark ∷ own) = λ i. end_same p mark i || any_end_same p own i

  at_left_same : (before : List Mark) (mark : Mark) → at_left (map mark_in before) (mark_in mark) ≡ mark_in (at_left before mark)
  unfolding mark_in
  at_left_same before (begins p edge) = λ i. begins p (not (any_begin_same p before i))
  at_left_same before (ends p edge) = refl
  at_left_same before (shows run) = refl

  at_right_same : (after : List Mark) (mark : Mark) → at_right (map mark_in after) (mark_in mark) ≡ mark_in (at_right after mark)
  unfolding mark_in
  at_right_same after (begins p edge) = refl
  at_right_same after (ends p edge) = λ i. ends p (not (any_end_same p after i))
  at_right_same after (shows run) = refl

  leftmost_same : (before own : List Mark) → leftmost (map mark_in before) (map mark_in own) ≡ map mark_in (leftmost before own)
  leftmost_same before [] = refl
  leftmost_same before (mark ∷ own) =
      (λ i. at_left_same before mark i ∷ leftmost (sym (map-append mark_in before (mark ∷ [])) i) (map mark_in own))
      ∙ ap (λ (others : List Mark). mark_in (at_left before mark) ∷ others) (leftmost_same (before ++ mark ∷ []) own)

  rightmost_same : (own : List Mark) → rightmost (map mark_in own) ≡ map mark_in (rightmost own)
  rightmost_same [] = refl
  rightmost_same (mark ∷ own) = λ i. at_right_same own mark i ∷ rightmost_same own i

  marks_of_same : (boxes : List LineBox) (own : List Leaf) → marks_of boxes (map leaf_in own) ≡ map mark_in (marks_of boxes own)
  marks_of_same boxes own =
      (λ i. leftmost [] (rightmost (marks_after boxes None (runs_same own i))))
      ∙ (λ i. leftmost [] (rightmost (marks_after_same boxes None (runs own) i)))
      ∙ ap (leftmost []) (rightmost_same (marks_after boxes None (runs own)))
      ∙ leftmost_same [] (rightmost (marks_after boxes None (runs own)))

  marks_same : (own : Line) → marks (line_in mode own) ≡ map mark_in (marks own)
  unfolding marks
  marks_same own = ap (marks_of own.boxes) (leaves_same own) ∙ marks_of_same own.boxes (leaves own)

  -- ---- lengths

  extent_same : (run : List Leaf) → extent_of (map leaf_in run) ≡ extent_of run
  unfolding leaf_in
  extent_same [] = refl
  extent_same (l ∷ run) = ap (λ (others : ℤ). l.extent +ℤ others) (extent_same run)

  advance_same : (boxes : List LineBox) (mark : Mark) → advance boxes (mark_in mark) ≡ advance boxes mark
  unfolding mark_in
  advance_same boxes (begins p edge) = refl
  advance_same boxes (ends p edge) = refl
  advance_same boxes (shows run) = extent_same run

  width_same : (boxes : List LineBox) (own : List Mark) → width boxes (map mark_in own) ≡ width boxes own
  width_same boxes [] = refl
  width_same boxes (mark ∷ own) = λ i. advance_same boxes mark i +ℤ width_same boxes own i

  atom_over_same : (what : Content) → atom_over (shown_in mode what) ≡ atom_over what
  atom_over_same (unit node first end_ form glyphs) = refl
  atom_over_same (combined node first end_ natural glyphs) = refl
  atom_over_same (atom fragment left_margin over_margin over under) = refl
  atom_over_same nothing = refl

  atom_under_same : (what : Content) → atom_under (shown_in mode what) ≡ atom_under what
  atom_under_same (unit node first end_ form glyphs) = refl
  atom_under_same (combined node first end_ natural glyphs) = refl
  atom_under_same (atom fragment left_margin over_margin over under) = refl
  atom_under_same nothing = refl

  atoms_over_same : (run : List Leaf) → flat_map (λ leaf. atom_over leaf.what) (map leaf_in run) ≡ flat_map (λ leaf. atom_over leaf.what) run
  unfolding leaf_in
  atoms_over_same [] = refl
  atoms_over_same (l ∷ run) = λ i. atom_over_same l.what i ++ atoms_over_same run i

  atoms_under_same : (run : List Leaf) → flat_map (λ leaf. atom_under leaf.what) (map leaf_in run) ≡ flat_map (λ leaf. atom_under leaf.what) run
  unfolding leaf_in
  atoms_under_same [] = refl
  atoms_under_same (l ∷ run) = λ i. atom_under_same l.what i ++ atoms_under_same run i

  over_of_same : (boxes : List LineBox) (mark : Mark) → over_of boxes (mark_in mark) ≡ over_of boxes mark
  unfolding mark_in
  over_of_same boxes (begins p edge) = refl
  over_of_same boxes (ends p edge) = refl
  over_of_same boxes (shows run) = atoms_over_same run

  under_of_same : (boxes : List LineBox) (mark : Mark) → under_of boxes (mark_in mark) ≡ under_of boxes mark
  unfolding mark_in
  under_of_same boxes (begins p edge) = refl
  under_of_same boxes (ends p edge) = refl
  under_of_same boxes (shows run) = atoms_under_same run

  overs_same : (boxes : List LineBox) (own : List Mark) → flat_map (over_of boxes) (map mark_in own) ≡ flat_map (over_of boxes) own
  overs_same boxes [] = refl
  overs_same boxes (mark ∷ own) = λ i. over_of_same boxes mark i ++ overs_same boxes own i

  unders_same : (boxes : List LineBox) (own : List Mark) → flat_map (under_of boxes) (map mark_in own) ≡ flat_map (under_of boxes) own
  unders_same boxes [] = refl
  unders_same boxes (mark ∷ own) = λ i. under_of_same boxes mark i ++ unders_same boxes own i

  pub line_over_same : (own : Line) → line_over (line_in mode own) ≡ line_over own
  line_over_same own = ap (fold int_max own.strut.over) (ap (flat_map (over_of own.boxes)) (marks_same own) ∙ overs_same own.boxes (marks own))

  pub line_under_same : (own : Line) → line_under (line_in mode own) ≡ line_under own
  line_under_same own = ap (fold int_max own.strut.under) (ap (flat_map (under_of own.boxes)) (marks_same own) ∙ unders_same own.boxes (marks own))

  -- ---- fragments

  extents_same : (own : Line) (inside : Option ℕ) → extents_in (line_in mode own) inside ≡ extents_in own inside
  extents_same own None = refl
  extents_same own (Some p) = refl

  level_same : (run : List Leaf) → level_of (map leaf_in run) ≡ level_of run
  unfolding leaf_in
  level_same [] = refl
  level_same (l ∷ run) = refl

  unit_same : (what : Content) (extent : ℤ) → unit_with (shown_in mode what) extent ≡ unit_with what extent
  unit_same (unit node first end_ form glyphs) extent = refl
  unit_same (combined node first end_ natural glyphs) extent = refl
  unit_same (atom fragment left_margin over_margin over under) extent = refl
  unit_same nothing extent = refl

  units_same : (run : List Leaf) → map unit_of (map leaf_in run) ≡ map unit_of run
  unfolding leaf_in
  units_same [] = refl
  units_same (l ∷ run) = λ i. unit_same l.what l.extent i ∷ units_same run i

  text_piece_same : (own : Line) (over at : ℤ) (node : ℕ) (form : UnitKind) (natural : Option ℤ) (run : List Leaf) (next : Pieces)
      → text_piece (line_in mode own) over at node (form_in mode form) natural (map leaf_in run) (pieces_in mode next) ≡ pieces_in mode (text_piece own over at node form natural run next)
  text_piece_same own over at node form natural run next =
      let same = ap (extents_in (line_in mode own)) (inside_same run) ∙ extents_same own (inside_of run) in
      λ i. piece (unnumbered node) (text_rect (same i) over at (extent_same run i)) (fragments.run (form_in mode form) (level_same run i) natural (units_same run i)) none (pieces_in mode next)

  atom_at_same : (inline_place block_place : ℤ) (fragment next : Pieces) → atom_at inline_place block_place (pieces_in mode fragment) (pieces_in mode next) ≡ pieces_in mode (atom_at inline_place block_place fragment next)
  atom_at_same inline_place block_place none next = refl
  atom_at_same inline_place block_place (piece name rect kind inner others) next = refl

  run_as_same : (what : Content) (own : Line) (over at : ℤ) (run : List Leaf) (next : Pieces)
      → run_as (shown_in mode what) (line_in mode own) over at (map leaf_in run) (pieces_in mode next) ≡ pieces_in mode (run_as what own over at run next)
  run_as_same (unit node first end_ form glyphs) own over at run next = text_piece_same own over at node form None run next
  run_as_same (combined node first end_ natural glyphs) own over at run next =
      ap (λ (form : UnitKind). text_piece (line_in mode own) over at node form (Some natural) (map leaf_in run) (pieces_in mode next)) (sym (combined_stays mode))
      ∙ text_piece_same own over at node Combined (Some natural) run next
  run_as_same (atom fragment left_margin over_margin over' under) own over at run next = atom_at_same (at +ℤ left_margin) (over -ℤ over' +ℤ over_margin) fragment next
  run_as_same nothing own over at run next = refl

  run_piece_same : (own : Line) (over at : ℤ) (run : List Leaf) (next : Pieces) → run_piece (line_in mode own) over at (map leaf_in run) (pieces_in mode next) ≡ pieces_in mode (run_piece own over at run next)
  unfolding leaf_in
  run_piece_same own over at [] next = refl
  run_piece_same own over at (l ∷ run) next = run_as_same l.what own over at (l ∷ run) next

  -- ---- rows

  row_in : Row → Row
  row_in row = record { pieces = pieces_in mode row.pieces; right = row.right }

  put_first_same : (those put : Pieces → Pieces) → ((p : Pieces) → those (pieces_in mode p) ≡ pieces_in mode (put p)) → (own : List Row) → put_first those (map row_in own) ≡ map row_in (put_first put own)
  unfolding row_in
  put_first_same those put same [] = refl
  put_first_same those put same (row ∷ own) = λ i. record { pieces = same row.pieces i; right = row.right } ∷ map row_in own

  put_box_same : (box : LineBox) (over at : ℤ) (own : List Row) → put_box box over at (map row_in own) ≡ map row_in (put_box box over at own)
  unfolding row_in
  put_box_same box over at [] = refl
  put_box_same box over at (inner ∷ []) = refl
  put_box_same box over at (inner ∷ outer ∷ others) = refl

  rows_same : (own : Line) (over at : ℤ) (those : List Mark) → rows (line_in mode own) over at (map mark_in those) ≡ map row_in (rows own over at those)
  unfolding mark_in row_in
  rows_same own over at [] = refl
  rows_same own over at (begins p edge ∷ those) =
      let further = at +ℤ advance own.boxes (begins p edge) in
      let from = at +ℤ placing.left_margin (box_at own.boxes p) edge in
      ap (put_box (box_at own.boxes p) over from) (rows_same own over further those)
      ∙ put_box_same (box_at own.boxes p) over from (rows own over further those)
  rows_same own over at (ends p edge ∷ those) =
      ap (λ (others : List Row). record { pieces = none; right = at +ℤ placing.right (box_at own.boxes p) edge } ∷ others) (rows_same own over (at +ℤ advance own.boxes (ends p edge)) those)
  rows_same own over at (shows run ∷ those) =
      (λ i. put_first (run_piece (line_in mode own) over at (map leaf_in run)) (rows (line_in mode own) over (at +ℤ extent_same run i) (map mark_in those)))
      ∙ ap (put_first (run_piece (line_in mode own) over at (map leaf_in run))) (rows_same own over (at +ℤ extent_of run) those)
      ∙ put_first_same (run_piece (line_in mode own) over at (map leaf_in run)) (run_piece own over at run) (run_piece_same own over at run) (rows own over (at +ℤ extent_of run) those)

  outermost_same : (own : List Row) → outermost (map row_in own) ≡ pieces_in mode (outermost own)
  unfolding row_in
  outermost_same [] = refl
  outermost_same (row ∷ own) = refl

  fragments_same : (own : Line) → parts (line_in mode own) ≡ pieces_in mode (parts own)
  fragments_same own =
      let whole = ap (width own.boxes) (marks_same own) ∙ width_same own.boxes (marks own) in
      (λ i. outermost (rows (line_in mode own) (line_over_same own i) (offset own.align own.base (own.available -ℤ whole i)) (marks_same own i)))
      ∙ ap outermost (rows_same own (line_over own) (offset own.align own.base (own.available -ℤ width own.boxes (marks own))) (marks own))
      ∙ outermost_same (rows own (line_over own) (offset own.align own.base (own.available -ℤ width own.boxes (marks own))) (marks own))

pub line_fragments_alike : LineFragmentsAlike
line_fragments_alike = fragments_same
