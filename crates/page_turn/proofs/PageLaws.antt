-- A page in a mode is the page of its flow, turned.
use Rattle.std.proofs.Common.{◌≡◌, refl, ap, ◌∙◌, Bool, true, false, arith, true≢false}
use Rattle.std.proofs.lemmas.Int.{ints}
use Rattle.wm_modes.specs.Map.{map_of}
use Rattle.wm_modes.specs.declared.mode.Direction.{Direction}
use Rattle.wm_modes.specs.declared.mode.Direction.TheVariants.{Ltr}
use Rattle.wm_modes.specs.declared.mode.WritingMode.{WritingMode}
use Rattle.wm_modes.specs.declared.mode.WritingMode.TheVariants.{HorizontalTb, VerticalRl, VerticalLr, SidewaysRl, SidewaysLr}
use Rattle.wm_modes.specs.declared.rects.FlowRect.{FlowRect}
use Rattle.wm_modes.specs.declared.rects.Rect.{Rect}
use Rattle.wm_modes.specs.declared.sides.Side.{Side}
use Rattle.wm_modes.specs.declared.sides.Side.TheVariants.{Top, Right, Bottom, Left}
use Rattle.wm_modes.proofs.MapLaws.{rect_is}
use Rattle.wm_units.specs.declared.view.View.{View}
use Rattle.fragment_types.specs.Fragment.{block, line, span, run, measure, Pieces, none, piece}
use Rattle.place_map.specs.Frame.{line_mode, page_of}
use Rattle.place_map.specs.Placed.{part}
use Rattle.place_map.specs.Placing.{place, placed}
use Rattle.page_turn.specs.Kinds.{form_in, pieces_in}
use Rattle.page_turn.specs.Laws.{ArePlaced, IsRooted}
use Rattle.page_turn.specs.Rects.{IsTurning, rect_turned}
use Rattle.page_turn.specs.Turning.{turned, turned_parts}

-- ---- vertical-lr isn't turned to

abbrev is_right : Side → Bool
is_right Top = false
is_right Right = true
is_right Bottom = false
is_right Left = false

not_over : IsTurning VerticalLr → true ≡ false
not_over is = ap is_right is

-- ---- rectangles

map_turned : (mode : WritingMode) → IsTurning mode → (dir : Direction) (view : View) (area : Rect) (r : FlowRect)
    → map_of mode dir (rect_turned mode view area) r ≡ rect_turned mode view (map_of HorizontalTb dir area r)
map_turned HorizontalTb is dir view area r = refl
map_turned VerticalRl is dir view area r = rect_is _ _ _ _ (rect_turned VerticalRl view (map_of HorizontalTb dir area r)) (omega (arith, ints)) refl refl refl
map_turned VerticalLr is dir view area r = absurd (true≢false (not_over is))
map_turned SidewaysRl is dir view area r = rect_is _ _ _ _ (rect_turned SidewaysRl view (map_of HorizontalTb dir area r)) (omega (arith, ints)) refl refl refl
map_turned SidewaysLr is dir view area r = rect_is _ _ _ _ (rect_turned SidewaysLr view (map_of HorizontalTb dir area r)) refl (omega (arith, ints)) refl refl

page_turned : (mode : WritingMode) (view : View) → page_of view mode ≡ rect_turned mode view (page_of view HorizontalTb)
page_turned HorizontalTb view = refl
page_turned VerticalRl view = rect_is _ _ _ _ (rect_turned VerticalRl view (page_of view HorizontalTb)) (omega (arith, ints)) refl refl refl
page_turned VerticalLr view = refl
page_turned SidewaysRl view = rect_is _ _ _ _ (rect_turned SidewaysRl view (page_of view HorizontalTb)) (omega (arith, ints)) refl refl refl
page_turned SidewaysLr view = rect_is _ _ _ _ (rect_turned SidewaysLr view (page_of view HorizontalTb)) refl (omega (arith, ints)) refl refl

line_same : (mode : WritingMode) → IsTurning mode → line_mode mode ≡ mode
line_same HorizontalTb is = refl
line_same VerticalRl is = refl
line_same VerticalLr is = absurd (true≢false (not_over is))
line_same SidewaysRl is = refl
line_same SidewaysLr is = refl

-- ---- fragments

module _ (mode : WritingMode) (turning : IsTurning mode) (view : View) where
  fragments_turned : (dir : Direction) (area : Rect) (pieces : Pieces)
      → placed (record { mode = mode; dir = dir; area = rect_turned mode view area }) (pieces_in mode pieces)
      ≡ turned_parts mode view (placed (record { mode = HorizontalTb; dir = dir; area = area }) (pieces_in HorizontalTb pieces))
  fragments_turned dir area none = refl
  fragments_turned dir area (piece name rect (block _ own content definite start end_ through) inner next) =
      let at = map_turned mode turning dir view area rect in
      let flow = map_of HorizontalTb dir area rect in
      let inside = map_turned mode turning dir view flow content in
      λ i. part name (at i) (block mode own content definite start end_ through)
      ((ap (λ (a : Rect). placed (record { mode = mode; dir = own; area = map_of mode dir a content }) (pieces_in mode inner)) at
      ∙ ap (λ (a : Rect). placed (record { mode = mode; dir = own; area = a }) (pieces_in mode inner)) inside
      ∙ fragments_turned own (map_of HorizontalTb dir flow content) inner) i)
      (fragments_turned dir area next i)
  fragments_turned dir area (piece name rect (line index base _ baseline) inner next) =
      let at = map_turned mode turning dir view area rect in
      λ i. part name (at i) (line index base mode baseline)
      ((ap (λ (m : WritingMode). placed (record { mode = m; dir = Ltr; area = map_of mode dir (rect_turned mode view area) rect }) (pieces_in mode inner)) (line_same mode turning)
      ∙ ap (λ (a : Rect). placed (record { mode = mode; dir = Ltr; area = a }) (pieces_in mode inner)) at
      ∙ fragments_turned Ltr (map_of HorizontalTb dir area rect) inner) i)
      (fragments_turned dir area next i)
  fragments_turned dir area (piece name rect span inner next) =
      λ i. part name (map_turned mode turning dir view area rect i) span (fragments_turned dir area inner i) (fragments_turned dir area next i)
  fragments_turned dir area (piece name rect (run form level natural units) inner next) =
      λ i. part name (map_turned mode turning dir view area rect i) (run (form_in mode form) level natural units) (fragments_turned dir area inner i) (fragments_turned dir area next i)
  fragments_turned dir area (piece name rect (measure min max) inner next) =
      λ i. part name (map_turned mode turning dir view area rect i) (measure min max) (fragments_turned dir area inner i) (fragments_turned dir area next i)

  parts_turned : (own : Direction) (pieces : Pieces)
      → placed (record { mode = mode; dir = own; area = page_of view mode }) (pieces_in mode pieces)
      ≡ turned_parts mode view (placed (record { mode = HorizontalTb; dir = own; area = page_of view HorizontalTb }) (pieces_in HorizontalTb pieces))
  parts_turned own pieces =
      ap (λ (a : Rect). placed (record { mode = mode; dir = own; area = a }) (pieces_in mode pieces)) (page_turned mode view)
      ∙ fragments_turned own (page_of view HorizontalTb) pieces

  tree_turned : (pieces : Pieces) → IsRooted pieces → place view (pieces_in mode pieces) ≡ turned mode (place view (pieces_in HorizontalTb pieces))
  tree_turned none rooted = absurd rooted
  tree_turned (piece name rect (block m own content definite start end_ through) inner next) rooted =
      λ i. record { view = view; parts = parts_turned own (piece name rect (block m own content definite start end_ through) inner next) i }
  tree_turned (piece name rect (line index base m baseline) inner next) rooted = absurd rooted
  tree_turned (piece name rect span inner next) rooted = absurd rooted
  tree_turned (piece name rect (run form level natural units) inner next) rooted = absurd rooted
  tree_turned (piece name rect (measure min max) inner next) rooted = absurd rooted

pub are_placed : ArePlaced
are_placed mode view pieces turning rooted = tree_turned mode turning view pieces rooted
