-- What a page needs to be shifted by the positions of its document, and that it is then.
use Rattle.std.proofs.Common.{◌≡◌, sym, ap, subst, ◌∙◌, arith, ℕ, ◌≤◌, List, length, Option, Some, None, IfSome}
use Rattle.std.specs.List.{All}
use Rattle.std.specs.declared.vec.Vec.{Vec}
use Rattle.face_api.specs.Table.{Table}
use Rattle.wm_units.specs.View.{IsView}
use Rattle.wm_units.specs.declared.view.View.{View}
use Rattle.wm_modes.specs.Map.{map_of}
use Rattle.wm_modes.specs.declared.mode.Direction.{Direction}
use Rattle.wm_modes.specs.declared.mode.Direction.TheVariants.{Ltr}
use Rattle.wm_modes.specs.declared.mode.WritingMode.{WritingMode}
use Rattle.wm_modes.specs.declared.rects.Rect.{Rect}
use Rattle.style_types.specs.Tree as styled
use Rattle.style_types.specs.Tree.{Nodes}
use Rattle.style_tree.specs.Styling.{AreBounded}
use Rattle.box_gen.specs.Boxes.{root_boxes}
use Rattle.fragment_types.specs.Fragment as flow
use Rattle.fragment_types.specs.Fragment.{Pieces, block, line, span, run, measure, piece}
use Rattle.place_map.specs.Frame as frames
use Rattle.place_map.specs.Frame.{line_mode, root_direction, root_mode}
use Rattle.place_map.specs.Placed.{Page, Parts, none, part}
use Rattle.place_map.specs.Placing.{place, place_parts, placed}
use Rattle.relayout.specs.Flow.{layout}
use Rattle.relayout.specs.Sized.{AreSizedPieces, LayoutsAreSized}
use Rattle.rel_shift.specs.Bounds.{AreSized, AreSizedParts, HasBounds, HaveBounds}
use Rattle.rel_shift.specs.Laws.{ArePlacesWithin, PositionsAreBounded, SizesSuffice, StayWithoutInsets}
use Rattle.rel_shift.specs.Positions.{positions_of}
use Rattle.rel_shift.specs.Shifting.{shift}
use Rattle.style_types.specs.declared.position.Position.{Position}
use Rattle.session.specs.Kept.{ArePositions, shifted_by}
use Rattle.session.specs.Limits.{IsWithin}
use Rattle.page_modes.specs.Pages.{flow_page_of, page_of}

-- ---- positions

insets_bounded : (nodes : Nodes) → AreBounded nodes → HaveBounds nodes
unfolding AreBounded
insets_bounded styled.none bounded = tt
insets_bounded (styled.node number kind style inner next) bounded = (bounded.0.insets, insets_bounded inner bounded.1, insets_bounded next bounded.2)

module _ {A : Type 0} (law : PositionsAreBounded) (nodes : Nodes) (within : IsWithin nodes) where
  pub kept_bounded : (kept : Option (Vec Position A)) → ArePositions kept nodes → IfSome kept (λ list. All HasBounds list.items)
  kept_bounded None are = tt
  kept_bounded (Some list) are = subst (All HasBounds) (sym are) (law.bounded nodes (insets_bounded nodes within.bounded))

  pub kept_few : (kept : Option (Vec Position A)) → ArePositions kept nodes → IfSome kept (λ list. length list.items ≤ 65536)
  kept_few None are = tt
  kept_few (Some list) are =
      let many = law.few nodes in
      let few = within.few in
      let all = ap length are in
      omega (arith, many, few, all)

-- where none are kept nothing is shifted
pub page_is : {A : Type 0} → StayWithoutInsets → (faces : List (Option Table)) (view : View) (nodes : Nodes) (kept : Option (Vec Position A)) → ArePositions kept nodes
    → shifted_by kept (flow_page_of faces view nodes) ≡ page_of faces view nodes
page_is stay faces view nodes None are = sym (stay (flow_page_of faces view nodes) (positions_of nodes) are)
page_is stay faces view nodes (Some list) are = ap (shift (flow_page_of faces view nodes)) are

-- ---- places and sizes

pub within_more : (most more : ℕ) → most ≤ more → (parts : Parts) → ArePlacesWithin most parts → ArePlacesWithin more parts
within_more most more le none within = tt
within_more most more le (part name rect kind inner next) within =
    let x = within.0 in
    let y = within.1 in
    (omega (arith, x, le), omega (arith, y, le), within_more most more le inner within.2, within_more most more le next within.3)

sized_placed : (mode : WritingMode) (dir : Direction) (area : Rect) (pieces : Pieces) → AreSizedPieces pieces → AreSizedParts (placed (record { mode = mode; dir = dir; area = area }) pieces)
sized_placed mode dir area flow.none are = tt
sized_placed mode dir area (piece name rect (block mode_ dir_ content definite start end_ through) inner next) are =
    (are.0, sized_placed mode_ dir_ (map_of mode dir (map_of mode dir area rect) content) inner are.1, sized_placed mode dir area next are.2)
sized_placed mode dir area (piece name rect (line index base mode_ baseline) inner next) are =
    (tt, sized_placed (line_mode mode_) Ltr (map_of mode dir area rect) inner are.1, sized_placed mode dir area next are.2)
sized_placed mode dir area (piece name rect span inner next) are = (tt, sized_placed mode dir area inner are.1, sized_placed mode dir area next are.2)
sized_placed mode dir area (piece name rect (run form level natural units) inner next) are = (tt, sized_placed mode dir area inner are.1, sized_placed mode dir area next are.2)
sized_placed mode dir area (piece name rect (measure least most) inner next) are = (tt, sized_placed mode dir area inner are.1, sized_placed mode dir area next are.2)

sized_parts : (view : View) (pieces : Pieces) → AreSizedPieces pieces → AreSizedParts (place_parts view pieces)
sized_parts view flow.none are = tt
sized_parts view (piece name rect kind inner next) are = sized_placed (root_mode kind) (root_direction kind) (frames.page_of view (root_mode kind)) (piece name rect kind inner next) are

pub page_sized : LayoutsAreSized → SizesSuffice → (faces : List (Option Table)) (view : View) (nodes : Nodes) → IsView view → AreSized (flow_page_of faces view nodes)
page_sized layouts suffice faces view nodes is =
    suffice (flow_page_of faces view nodes) is (sized_parts view _ (layouts faces view.inline view.block (root_boxes nodes) (is.block_low, is.block_high)))

-- the page of a fragment that is the layout of these boxes
pub flow_is : (faces : List (Option Table)) (view : View) (nodes : Nodes) (page : Page) (pieces : Pieces) → page ≡ place view pieces
    → pieces ≡ layout faces view.inline view.block (root_boxes nodes) → page ≡ flow_page_of faces view nodes
flow_is faces view nodes page pieces is laid = is ∙ ap (place view) laid
