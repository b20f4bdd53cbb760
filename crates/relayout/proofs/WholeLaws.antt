-- The whole layout from that of the root's row.
use Rattle.std.proofs.Common.{◌≡◌, ◌∙◌, ◌+◌, ◌-◌, ◌*◌, ◌≤◌, ◌^◌, suc, refl, sym, ap, subst, arith, unsigned_abs, ℕ, Bool, true, false, List, [], ◌∷◌, length, get_or, Option, Some, None}
use Rattle.std.specs.Prelude.{All, max, option_and_then}
use Rattle.std.proofs.lemmas.Option.{same_Some}
use Rattle.face_api.specs.Table.{Table}
use Rattle.wm_modes.specs.declared.mode.WritingMode.{WritingMode}
use Rattle.wm_modes.specs.declared.mode.WritingMode.TheVariants.{HorizontalTb, VerticalRl, VerticalLr, SidewaysRl, SidewaysLr}
use Rattle.wm_modes.specs.Mode.{are_parallel, is_horizontal}
use Rattle.wm_units.specs.declared.view.View.{View}
use Rattle.style_types.specs.declared.style.Style.{Style}
use Rattle.fragment_types.specs.Fragment.{Pieces, none}
use Rattle.style_types.specs.Style.{IsBounded}
use Rattle.line_place.specs.Spread.{spread}
use Rattle.wm_modes.specs.Sides.{block_start}
use Rattle.box_arena.specs.At.{Node, Slots, next_at, node_at, parent_at}
use Rattle.box_arena.specs.Boxes.{Stands}
use Rattle.box_gen.specs.Tree.{Boxes, box, none as no_boxes, siblings}
use Rattle.para_prepare.specs.Preparation.{Preparation}
use Rattle.box_arena.proofs.NamedOnce.{stands_alone}
use Rattle.relayout.specs.declared.flowed.LaidBox.{LaidBox}
use Rattle.relayout.specs.declared.inline.PageView.{PageView}
use Rattle.relayout.specs.declared.row.Row.{Row}
use Rattle.relayout.specs.Edges.{margin_or_zero}
use Rattle.relayout.specs.Fit.{heaviest, reach_of, room_in, weight}
use Rattle.relayout.specs.Flow.{layout, on_page}
use Rattle.relayout.specs.Flowed.{Part, at, part_of}
use Rattle.relayout.specs.Flowing.{CanFlow}
use Rattle.relayout.specs.Inline.{Outside, equation_of, inline_place, inline_place_by}
use Rattle.relayout.specs.Kept.{AreRight, containing_by}
use Rattle.relayout.specs.Near.{HasReach, IsNearLaid, IsNearPart}
use Rattle.relayout.specs.Reach.{IsPageView}
use Rattle.relayout.specs.Relayout.{AreRightUnder, HasTree, IsLayout, IsView, in_view, root_row}
use Rattle.relayout.specs.Row.{AreFlowed, Lead, from_outside}
use Rattle.relayout.specs.Sizes.{containing_of, is_parallel}
use Rattle.relayout.specs.Step.{under}
use Rattle.relayout.proofs.FlowLaws.{margin_near}
use Rattle.relayout.proofs.InlineLaws.{along_place_near}
use Rattle.relayout.proofs.LaidLaws.{placed_spread}
use Rattle.relayout.proofs.RowLaws.{lead_count, lead_near}

tree_node : (slots : Slots Preparation) (root : ℕ) (tree : Boxes) → Stands slots root tree → (node : Node) × (node_at slots root ≡ Some node)
tree_node slots root no_boxes stands = absurd stands
tree_node slots root (box name style content inner next) stands = (record { name = name; style = style; content = content }, stands.0)

parallel_itself : (mode : WritingMode) → are_parallel mode mode ≡ true
parallel_itself HorizontalTb = refl
parallel_itself VerticalRl = refl
parallel_itself VerticalLr = refl
parallel_itself SidewaysRl = refl
parallel_itself SidewaysLr = refl

-- the root where it is put in its view
root_spread : (style : Style) (view : View) (part : Part) (reach : ℕ) → IsView view → IsBounded style → IsNearPart part → spread part.inner ≤ reach → spread (in_view style view part) ≤ 2 ^ 35 + 5 * 2 ^ 36 + reach
unfolding inline_place
root_spread style view part reach sizes bounded near deep = by (is_parallel (containing_of style) style) (parallel_itself style.mode) where
  down : unsigned_abs (margin_or_zero style (Some view.inline) (block_start style.mode)) ≤ 2 ^ 32
  down = margin_near style (Some view.inline) (block_start style.mode) bounded

  by : (parallel : Bool) → parallel ≡ true
      → spread (at (inline_place_by parallel (containing_of style) view.inline style part.rect.inline) (margin_or_zero style (Some view.inline) (block_start style.mode)) part none) ≤ 2 ^ 35 + 5 * 2 ^ 36 + reach
  by true is =
      let along = along_place_near (containing_of style) view.inline style bounded sizes.along in
      let whole = placed_spread (equation_of (containing_of style) style view.inline).start (margin_or_zero style (Some view.inline) (block_start style.mode)) part.rect.inline part.rect.block part.kind (2 ^ 35) (spread part.inner)
      near.kind along (omega (arith, down)) near.inline near.block in
      omega (arith, deep)
  by false is = absurd (cc)

module _ (faces : List (Option Table)) (view : View) (page : PageView) (slots : Slots Preparation) (root : ℕ) (own : Node) (there : node_at slots root ≡ Some own)
    (is : from_outside faces page ≡ on_page (is_horizontal own.style.mode) faces view.inline view.block) where
  -- the row of the root can be laid out
  pub root_can : IsPageView page → IsView view → parent_at slots root ≡ None → next_at slots root ≡ None → HasTree slots root → AreRightUnder faces view slots root
      → CanFlow (from_outside faces page) slots (root_row root own.style view)
  root_can near sizes free alone has right = record {
    view = near;
    sizes = record { inline = sizes.along; block = sizes.across };
    boxes = record { tree = has.tree; stand = stands_alone slots root has.tree alone has.stands; low = has.low; few = has.few; light = let light = has.light in omega (arith, light); fit = has.fit };
    inside = λ node at. ap (λ (p : Option ℕ). containing_by (option_and_then (node_at slots) p) node.style) free ∙ ap (λ (n : Node). containing_of n.style) (same_Some node own (sym at ∙ there));
    right = let P : Outside → Type 0 = λ o. AreRight o slots in subst P (sym is) (right own there);
  }

  -- what has been laid out of it
  root_flowed : (row : Row) (laid : List LaidBox) → row ≡ root_row root own.style view → AreFlowed (from_outside faces page) slots row.from row.containing row.c laid
      → AreFlowed (from_outside faces page) slots (Some root) (containing_of own.style) (under (Some view.inline) (Some view.block)) laid
  root_flowed row laid same flowed = let P : Row → Type 0 = λ r. AreFlowed (from_outside faces page) slots r.from r.containing r.c laid in subst P same flowed

  -- it is the root alone
  pub root_alone : (row : Row) (laid : List LaidBox) → row ≡ root_row root own.style view → AreFlowed (from_outside faces page) slots row.from row.containing row.c laid → next_at slots root ≡ None → HasTree slots root
      → (length laid ≡ 1) × All IsNearLaid laid
  root_alone row laid same flowed alone has = by has.tree has.stands (lead_near (from_outside faces page) (containing_of own.style) (under (Some view.inline) (Some view.block)) laid has.tree
      (root_flowed row laid same flowed has.tree (stands_alone slots root has.tree alone has.stands)) has.fit (let light = has.light in omega (arith, light))) (root_flowed row laid same flowed has.tree (stands_alone slots root has.tree alone has.stands)) where
        by : (tree : Boxes) → Stands slots root tree → All IsNearLaid laid → Lead (from_outside faces page) (containing_of own.style) (under (Some view.inline) (Some view.block)) laid tree no_boxes
            → (length laid ≡ 1) × All IsNearLaid laid
        by no_boxes stands near lead = absurd stands
        by (box name style content inner next) (node, within, last) near lead =
            let many = lead_count (from_outside faces page) (containing_of own.style) (under (Some view.inline) (Some view.block)) laid (box name style content inner next) no_boxes lead in
            let none_next : siblings next ≡ 0 = ap siblings last in
            (omega arith, near)

  pub root_layout : (row : Row) (laid : List LaidBox) (first : LaidBox) (made : Pieces) → row ≡ root_row root own.style view → AreFlowed (from_outside faces page) slots row.from row.containing row.c laid → next_at slots root ≡ None
      → first ≡ get_or laid 0 first → made ≡ in_view first.style view (part_of first.fragment) → IsLayout faces view slots root made
  root_layout row laid first made are flowed alone at shown no_boxes stands = absurd stands
  root_layout row laid first made are flowed alone at shown (box name style content inner next) (node, within, last) =
      by laid at (root_flowed row laid are flowed (box name style content inner no_boxes) (stands_alone slots root (box name style content inner no_boxes) alone (node, within, refl))) where
        same : own ≡ record { name = name; style = style; content = content }
        same = same_Some own (record { name = name; style = style; content = content }) (sym there ∙ node)

        by : (boxes : List LaidBox) → first ≡ get_or boxes 0 first
            → Lead (from_outside faces page) (containing_of own.style) (under (Some view.inline) (Some view.block)) boxes (box name style content inner no_boxes) no_boxes
            → made ≡ layout faces view.inline view.block (box name style content inner next)
        by [] at lead = absurd (cc)
        by (b ∷ boxes) at lead =
            let P : Node → Type 0 = λ n. Lead (from_outside faces page) (containing_of n.style) (under (Some view.inline) (Some view.block)) (b ∷ boxes) (box name style content inner no_boxes) no_boxes in
            let Q : Outside → Type 0 = λ o. Lead o (containing_of style) (under (Some view.inline) (Some view.block)) (b ∷ boxes) (box name style content inner no_boxes) no_boxes in
            let page_is : from_outside faces page ≡ on_page (is_horizontal style.mode) faces view.inline view.block = is ∙ ap (λ (n : Node). on_page (is_horizontal n.style.mode) faces view.inline view.block) same in
            let here = subst Q page_is (subst P same lead) in
            shown ∙ ap (λ (x : LaidBox). in_view x.style view (part_of x.fragment)) at
            ∙ ap (λ (s : Style). in_view s view (part_of b.fragment)) here.0.same ∙ ap (in_view style view) here.0.part

  pub root_near : (row : Row) (laid : List LaidBox) (first : LaidBox) (made : Pieces) → IsView view → row ≡ root_row root own.style view → AreFlowed (from_outside faces page) slots row.from row.containing row.c laid
      → next_at slots root ≡ None → HasTree slots root → first ≡ get_or laid 0 first → made ≡ in_view first.style view (part_of first.fragment) → spread made ≤ 2 ^ 60 - 2 ^ 50 + 2 ^ 37
  root_near row laid first made sizes same flowed alone has at shown =
      by has.tree laid has.stands has.light at (root_flowed row laid same flowed has.tree (stands_alone slots root has.tree alone has.stands)) (root_alone row laid same flowed alone has).1 where
        by : (tree : Boxes) (boxes : List LaidBox) → Stands slots root tree → weight tree ≤ 2 ^ 60 - 2 ^ 50 → first ≡ get_or boxes 0 first
            → Lead (from_outside faces page) (containing_of own.style) (under (Some view.inline) (Some view.block)) boxes tree no_boxes → All IsNearLaid boxes → spread made ≤ 2 ^ 60 - 2 ^ 50 + 2 ^ 37
        by no_boxes boxes stands light at lead near = absurd stands
        by (box name style content inner next) [] stands light at lead near = absurd (cc)
        by (box name style content inner next) (b ∷ boxes) stands light at lead near =
            let n : IsNearLaid b = near 0 b (omega arith) in
            let deep : HasReach (reach_of content inner) b = lead.0.reach in
            let whole = root_spread b.style view (part_of b.fragment) (reach_of content inner) sizes n.style n.part deep in
            let lighter : suc (siblings next) * 2 ^ 39 + max (room_in content + weight inner) (heaviest next) ≤ 2 ^ 60 - 2 ^ 50 = light in
            let P : Pieces → Type 0 = λ ps. spread ps ≤ 2 ^ 60 - 2 ^ 50 + 2 ^ 37 in
            subst P (sym (shown ∙ ap (λ (x : LaidBox). in_view x.style view (part_of x.fragment)) at)) (omega (arith, whole, lighter))
