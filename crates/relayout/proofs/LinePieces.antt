-- What holds of the fragments of a paragraph as soon as it holds of its inline-blocks.
use Rattle.std.proofs.Common.{ℕ, zero, suc, ◌+◌, ◌-◌, Bool, true, false, cond, List, [], ◌∷◌, ◌++◌, map, drop, take, Option, Some, None, ℤ}
use Rattle.std.specs.Prelude.{⊤, reverse, slice_get, slice_index_or, ◌-ℤ◌}
use Rattle.std.specs.List.{cons_option, filter_map}
use Rattle.face_api.specs.Table.{Table}
use Rattle.bidi_order.specs.Visual.{visual_order}
use Rattle.wm_chars.specs.declared.classes.BidiClass.{BidiClass}
use Rattle.wm_modes.specs.declared.mode.WritingMode.{WritingMode}
use Rattle.wm_modes.specs.declared.rects.FlowRect.{FlowRect}
use Rattle.style_types.specs.declared.style.Baseline.{Baseline}
use Rattle.fragment_types.specs.declared.item.BoxName.{BoxName}
use Rattle.fragment_types.specs.declared.unit_kind.UnitKind.{UnitKind}
use Rattle.fragment_types.specs.RunUnit.{RunUnit}
use Rattle.fragment_types.specs.Fragment.{line as line_kind, run as run_kind, span as span_kind, Pieces, none, piece}
use Rattle.fragment_types.specs.Item.{Entry}
use Rattle.line_place.specs.declared.line.LineBox.{LineBox}
use Rattle.line_place.specs.Leaves.{Leaf, are_spaces, leaves, leaves_from, levels_of}
use Rattle.line_place.specs.Line as place
use Rattle.line_place.specs.Line.{Line, atom, combined, nothing, unit}
use Rattle.line_place.specs.Marks.{Mark, at_left, at_right, begins, between, box_at, ends, inside_of, left_behind, leftmost, marks, marks_after, rightmost, shows}
use Rattle.line_place.specs.Placing.{Row, atom_at, line_over, offset, outermost, parts, put_box, put_first, rows, run_as, run_piece, width}
use Rattle.line_place.specs.Runs.{goes_on, joined, runs}
use Rattle.para_prepare.specs.Preparation.{Preparation}
use Rattle.para_prepare.specs.declared.item.PreparedItem.{PreparedItem}
use Rattle.para_prepare.specs.declared.item.PreparedContent.{PreparedContent}
use Rattle.para_prepare.specs.declared.item.PreparedContent.TheVariants.{Unit as unit_of, Combined as combined_of, Atom as atom_of, Break as break_of}
use Rattle.para_lines.specs.declared.paragraph.Container.{Container}
use Rattle.para_lines.specs.Filling.{past}
use Rattle.para_lines.specs.Lines.{Atom, Standing, boxes_on, chain_of_first, content_of as content_at, line, line_item, lines_from, no_atom, paragraph_lines, standings_by}

-- what holds of lines, pieces of inline boxes and texts by what stands in them, and of an inline-block wherever it stands
pub record IsByAtoms (P : Pieces → Type 0) : Type 0 where
  pub empty : P none
  pub texts : (name : BoxName) (rect : FlowRect) (form : UnitKind) (level : ℕ) (natural : Option ℤ) (units : List RunUnit) (next : Pieces) → P next → P (piece name rect (run_kind form level natural units) none next)
  pub spans : (name : BoxName) (rect : FlowRect) (inner next : Pieces) → P inner → P next → P (piece name rect span_kind inner next)
  pub lines : (name : BoxName) (rect : FlowRect) (index : ℕ) (over : ℤ) (mode : WritingMode) (baseline : Baseline) (inner next : Pieces) → P inner → P next
      → P (piece name rect (line_kind index over mode baseline) inner next)
  pub atoms : (i b : ℤ) (own next : Pieces) → P own → P next → P (atom_at i b own next)

-- it holds of these inline-blocks
abbrev pub AreAtoms : (Pieces → Type 0) → List Atom → Type 0
AreAtoms P [] = ⊤
AreAtoms P (a ∷ atoms) = P a.fragment × AreAtoms P atoms

module _ (P : Pieces → Type 0) (by_atoms : IsByAtoms P) where
  abbrev IsFine : place.Content → Type 0
  IsFine (unit node first end_ form glyphs) = ⊤
  IsFine (combined node first end_ natural glyphs) = ⊤
  IsFine (atom fragment left_by over_by over under) = P fragment
  IsFine nothing = ⊤

  abbrev AreFineItems : List place.Item → Type 0
  AreFineItems [] = ⊤
  AreFineItems (item ∷ items) = IsFine item.what × AreFineItems items

  abbrev AreFineLeaves : List Leaf → Type 0
  AreFineLeaves [] = ⊤
  AreFineLeaves (l ∷ ls) = IsFine l.what × AreFineLeaves ls

  abbrev AreFineRuns : List (List Leaf) → Type 0
  AreFineRuns [] = ⊤
  AreFineRuns (r ∷ rs) = AreFineLeaves r × AreFineRuns rs

  abbrev IsFineMark : Mark → Type 0
  IsFineMark (begins p edge) = ⊤
  IsFineMark (ends p edge) = ⊤
  IsFineMark (shows r) = AreFineLeaves r

  abbrev AreFineMarks : List Mark → Type 0
  AreFineMarks [] = ⊤
  AreFineMarks (m ∷ ms) = IsFineMark m × AreFineMarks ms

  abbrev AreFineRows : List Row → Type 0
  AreFineRows [] = ⊤
  AreFineRows (r ∷ rs) = P r.pieces × AreFineRows rs

  abbrev AreFineStandings : List Standing → Type 0
  AreFineStandings [] = ⊤
  AreFineStandings (s ∷ ss) = P s.atom.fragment × AreFineStandings ss

  -- ---- a line's fragments

  run_as_fine : (what : place.Content) (l : Line) (over left : ℤ) (r : List Leaf) (next : Pieces) → IsFine what → P next → P (run_as what l over left r next)
  run_as_fine (unit node first end_ form glyphs) l over left r next fine others = by_atoms.texts _ _ _ _ _ _ next others
  run_as_fine (combined node first end_ natural glyphs) l over left r next fine others = by_atoms.texts _ _ _ _ _ _ next others
  run_as_fine (atom fragment left_by over_by atom_over under) l over left r next fine others = by_atoms.atoms _ _ fragment next fine others
  run_as_fine nothing l over left r next fine others = others

  run_fine : (l : Line) (over left : ℤ) (r : List Leaf) (next : Pieces) → AreFineLeaves r → P next → P (run_piece l over left r next)
  run_fine l over left [] next fine others = others
  run_fine l over left (x ∷ xs) next fine others = run_as_fine x.what l over left (x ∷ xs) next fine.0 others

  put_first_fine : (l : Line) (over left : ℤ) (r : List Leaf) (rs : List Row) → AreFineLeaves r → AreFineRows rs → AreFineRows (put_first (run_piece l over left r) rs)
  put_first_fine l over left r [] fine others = tt
  put_first_fine l over left r (row ∷ rs) fine others = (run_fine l over left r row.pieces fine others.0, others.1)

  put_box_fine : (b : LineBox) (over left : ℤ) (rs : List Row) → AreFineRows rs → AreFineRows (put_box b over left rs)
  put_box_fine b over left [] fine = tt
  put_box_fine b over left (inner ∷ []) fine = fine
  put_box_fine b over left (inner ∷ (outer ∷ others)) fine = (by_atoms.spans _ _ inner.pieces outer.pieces fine.0 fine.1.0, fine.1.1)

  rows_fine : (l : Line) (over : ℤ) (ms : List Mark) (here : ℤ) → AreFineMarks ms → AreFineRows (rows l over here ms)
  rows_fine l over [] here fine = (by_atoms.empty, tt)
  rows_fine l over (begins p edge ∷ ms) here fine = put_box_fine (box_at l.boxes p) over _ _ (rows_fine l over ms _ fine.1)
  rows_fine l over (ends p edge ∷ ms) here fine = (by_atoms.empty, rows_fine l over ms _ fine.1)
  rows_fine l over (shows r ∷ ms) here fine = put_first_fine l over here r _ fine.0 (rows_fine l over ms _ fine.1)

  outermost_fine : (rs : List Row) → AreFineRows rs → P (outermost rs)
  outermost_fine [] fine = by_atoms.empty
  outermost_fine (r ∷ rs) fine = fine.0

  -- ---- a line's marks

  append_fine : (ms ns : List Mark) → AreFineMarks ms → AreFineMarks ns → AreFineMarks (ms ++ ns)
  append_fine [] ns fine others = others
  append_fine (m ∷ ms) ns fine others = (fine.0, append_fine ms ns fine.1 others)

  ends_fine : (boxes : List ℕ) → AreFineMarks (map (λ p. ends p false) boxes)
  ends_fine [] = tt
  ends_fine (b ∷ boxes) = (tt, ends_fine boxes)

  begins_fine : (boxes : List ℕ) → AreFineMarks (map (λ p. begins p false) boxes)
  begins_fine [] = tt
  begins_fine (b ∷ boxes) = (tt, begins_fine boxes)

  between_fine : (boxes : List LineBox) (one other : Option ℕ) → AreFineMarks (between boxes one other)
  between_fine boxes one other =
      append_fine (map (λ p. ends p false) (left_behind boxes one other)) (map (λ p. begins p false) (reverse (left_behind boxes other one)))
      (ends_fine (left_behind boxes one other)) (begins_fine (reverse (left_behind boxes other one)))

  marks_after_fine : (boxes : List LineBox) (rs : List (List Leaf)) (within : Option ℕ) → AreFineRuns rs → AreFineMarks (marks_after boxes within rs)
  marks_after_fine boxes [] within fine = between_fine boxes within None
  marks_after_fine boxes (r ∷ rs) within fine =
      append_fine (between boxes within (inside_of r)) (shows r ∷ marks_after boxes (inside_of r) rs) (between_fine boxes within (inside_of r))
      (fine.0, marks_after_fine boxes rs (inside_of r) fine.1)

  at_left_fine : (before : List Mark) (m : Mark) → IsFineMark m → IsFineMark (at_left before m)
  at_left_fine before (begins p edge) fine = tt
  at_left_fine before (ends p edge) fine = tt
  at_left_fine before (shows r) fine = fine

  at_right_fine : (behind : List Mark) (m : Mark) → IsFineMark m → IsFineMark (at_right behind m)
  at_right_fine behind (begins p edge) fine = tt
  at_right_fine behind (ends p edge) fine = tt
  at_right_fine behind (shows r) fine = fine

  leftmost_fine : (ms : List Mark) (before : List Mark) → AreFineMarks ms → AreFineMarks (leftmost before ms)
  leftmost_fine [] before fine = tt
  leftmost_fine (m ∷ ms) before fine = (at_left_fine before m fine.0, leftmost_fine ms (before ++ m ∷ []) fine.1)

  rightmost_fine : (ms : List Mark) → AreFineMarks ms → AreFineMarks (rightmost ms)
  rightmost_fine [] fine = tt
  rightmost_fine (m ∷ ms) fine = (at_right_fine ms m fine.0, rightmost_fine ms fine.1)

  joined_fine : (l : Leaf) (rs : List (List Leaf)) → IsFine l.what → AreFineRuns rs → AreFineRuns (joined l rs)
  joined_fine l [] fine others = ((fine, tt), tt)
  joined_fine l ([] ∷ rs) fine others = ((fine, tt), others.1)
  joined_fine l ((next ∷ r) ∷ rs) fine others = by (goes_on l next) where
    by : (on : Bool) → AreFineRuns (cond on ((l ∷ next ∷ r) ∷ rs) ((l ∷ []) ∷ (next ∷ r) ∷ rs))
    by true = ((fine, others.0), others.1)
    by false = ((fine, tt), others)

  runs_fine : (ls : List Leaf) → AreFineLeaves ls → AreFineRuns (runs ls)
  runs_fine [] fine = tt
  runs_fine (l ∷ ls) fine = joined_fine l (runs ls) fine.0 (runs_fine ls fine.1)

  -- ---- a line's leaves

  abbrev IsFineLeaf : Option Leaf → Type 0
  IsFineLeaf None = ⊤
  IsFineLeaf (Some l) = IsFine l.what

  get_fine : (ls : List Leaf) (k : ℕ) → AreFineLeaves ls → IsFineLeaf (slice_get ls k)
  get_fine [] k fine = tt
  get_fine (l ∷ ls) zero fine = fine.0
  get_fine (l ∷ ls) (suc k) fine = get_fine ls k fine.1

  cons_fine : (l : Option Leaf) (ls : List Leaf) → IsFineLeaf l → AreFineLeaves ls → AreFineLeaves (cons_option l ls)
  cons_fine None ls fine others = others
  cons_fine (Some l) ls fine others = (fine, others)

  picked_fine : (ls : List Leaf) (order : List ℕ) → AreFineLeaves ls → AreFineLeaves (filter_map (λ k. slice_get ls k) order)
  picked_fine ls [] fine = tt
  picked_fine ls (k ∷ order) fine = cons_fine (slice_get ls k) _ (get_fine ls k fine) (picked_fine ls order fine)

  hung_fine : (hangs : Bool) (what : place.Content) → IsFine what → IsFine (cond hangs nothing what)
  hung_fine true what fine = tt
  hung_fine false what fine = fine

  leaves_from_fine : (items : List place.Item) (levels : List ℕ) (k : ℕ) → AreFineItems items → AreFineLeaves (leaves_from k levels items)
  leaves_from_fine items [] k fine = tt
  leaves_from_fine [] (level ∷ levels) k fine = tt
  leaves_from_fine (item ∷ items) (level ∷ levels) k fine = (hung_fine (are_spaces (item ∷ items)) item.what fine.0, leaves_from_fine items levels (k + 1) fine.1)

  leaves_fine : (l : Line) → AreFineItems l.items → AreFineLeaves (leaves l)
  unfolding leaves
  leaves_fine l fine =
      picked_fine (leaves_from 0 (levels_of l) l.items) (visual_order (levels_of l) (map (λ item. item.apart) l.items)) (leaves_from_fine l.items (levels_of l) 0 fine)

  marks_fine : (l : Line) → AreFineItems l.items → AreFineMarks (marks l)
  unfolding marks
  marks_fine l fine =
      leftmost_fine (rightmost (marks_after l.boxes None (runs (leaves l)))) []
      (rightmost_fine (marks_after l.boxes None (runs (leaves l))) (marks_after_fine l.boxes (runs (leaves l)) None (runs_fine (leaves l) (leaves_fine l fine))))

  parts_fine : (l : Line) → AreFineItems l.items → P (parts l)
  parts_fine l fine =
      outermost_fine (rows l (line_over l) (offset l.align l.base (l.available -ℤ width l.boxes (marks l))) (marks l)) (rows_fine l (line_over l) (marks l) _ (marks_fine l fine))

  -- ---- lines

  content_fine : (entries : List Entry) (chain : List ℕ) (a : Atom) (what : PreparedContent) → P a.fragment → IsFine (content_at entries chain a what)
  content_fine entries chain a (unit_of form space node first end_ by glyphs) fine = tt
  content_fine entries chain a (combined_of node first end_ by natural glyphs) fine = tt
  content_fine entries chain a (atom_of name) fine = fine
  content_fine entries chain a (break_of node) fine = tt

  items_fine : (entries : List Entry) (boxes : List ℕ) (ss : List Standing) → AreFineStandings ss → AreFineItems (map (line_item entries boxes) ss)
  items_fine entries boxes [] fine = tt
  items_fine entries boxes (s ∷ ss) fine = (content_fine entries s.chain s.atom s.item.what fine.0, items_fine entries boxes ss fine.1)

  past_fine : (what : PreparedContent) (atoms : List Atom) → AreAtoms P atoms → AreAtoms P (past what atoms)
  past_fine (atom_of name) [] fine = tt
  past_fine (atom_of name) (a ∷ atoms) fine = fine.1
  past_fine (unit_of form space node first end_ by glyphs) atoms fine = fine
  past_fine (combined_of node first end_ by natural glyphs) atoms fine = fine
  past_fine (break_of node) atoms fine = fine

  first_fine : (atoms : List Atom) → AreAtoms P atoms → P (slice_index_or atoms 0 no_atom).fragment
  first_fine [] fine = by_atoms.empty
  first_fine (a ∷ atoms) fine = fine.0

  standings_fine : (items : List PreparedItem) (levels : List ℕ) (classes : List BidiClass) (bases : List ℕ) (extents : List ℤ) (chains : List (List ℕ)) (atoms : List Atom)
      → AreAtoms P atoms → AreFineStandings (standings_by items levels classes bases extents chains atoms)
  standings_fine [] levels classes bases extents chains atoms fine = tt
  standings_fine (item ∷ items) [] classes bases extents chains atoms fine = tt
  standings_fine (item ∷ items) (level ∷ levels) [] bases extents chains atoms fine = tt
  standings_fine (item ∷ items) (level ∷ levels) (class ∷ classes) [] extents chains atoms fine = tt
  standings_fine (item ∷ items) (level ∷ levels) (class ∷ classes) (base ∷ bases) [] chains atoms fine = tt
  standings_fine (item ∷ items) (level ∷ levels) (class ∷ classes) (base ∷ bases) (extent ∷ extents) [] atoms fine = tt
  standings_fine (item ∷ items) (level ∷ levels) (class ∷ classes) (base ∷ bases) (extent ∷ extents) (chain ∷ chains) atoms fine =
      (first_fine atoms fine, standings_fine items levels classes bases extents chains (past item.what atoms) (past_fine item.what atoms fine))

  taken_fine : (ss : List Standing) (n : ℕ) → AreFineStandings ss → AreFineStandings (take n ss)
  taken_fine ss zero fine = tt
  taken_fine [] (suc n) fine = tt
  taken_fine (s ∷ ss) (suc n) fine = (fine.0, taken_fine ss n fine.1)

  dropped_fine : (ss : List Standing) (n : ℕ) → AreFineStandings ss → AreFineStandings (drop n ss)
  dropped_fine ss zero fine = fine
  dropped_fine [] (suc n) fine = tt
  dropped_fine (s ∷ ss) (suc n) fine = dropped_fine ss n fine.1

  lines_fine : (faces : List (Option Table)) (container : Container) (entries : List Entry) (ends_ : List ℕ) (index from : ℕ) (block : ℤ) (before : List ℕ) (ss : List Standing)
      → AreFineStandings ss → P (lines_from faces container entries index from block before ss ends_)
  lines_fine faces container entries [] index from block before ss fine = by_atoms.empty
  lines_fine faces container entries (end_ ∷ ends_) index from block before ss fine =
      let own = take (end_ - from) ss in
      let others = drop (end_ - from) ss in
      by_atoms.lines _ _ _ _ _ _ _ _ (parts_fine (line faces container entries before (chain_of_first others) own) (items_fine entries (boxes_on [] own) own (taken_fine ss (end_ - from) fine)))
      (lines_fine faces container entries ends_ _ _ _ _ others (dropped_fine ss (end_ - from) fine))

  -- the lines of a paragraph
  pub lines_by_atoms : (faces : List (Option Table)) (container : Container) (entries : List Entry) (prepared : Preparation) (atoms : List Atom) → AreAtoms P atoms
      → P (paragraph_lines faces container entries prepared atoms)
  unfolding paragraph_lines
  lines_by_atoms faces container entries prepared atoms fine = lines_fine faces container entries _ _ _ _ _ _ (standings_fine _ _ _ _ _ _ atoms fine)
