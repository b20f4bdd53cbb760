-- What the layout of a root costs, and what is kept after it.
use Rattle.std.proofs.Common.{◌≡◌, ◌∙◌, ◌+◌, ◌≤◌, refl, sym, ap, subst, ℕ, List, Option, Some, None}
use Rattle.std.specs.Prelude.{option_and_then}
use Rattle.std.proofs.Math.Path.{fun_ext}
use Rattle.std.proofs.lemmas.Option.{same_Some}
use Rattle.face_api.specs.Table.{Table}
use Rattle.wm_modes.specs.Mode.{is_horizontal}
use Rattle.wm_units.specs.declared.view.View.{View}
use Rattle.box_arena.specs.Arena.{SameNodes}
use Rattle.box_arena.specs.At.{Node, Slots, links_at, next_at, node_at, parent_at}
use Rattle.box_arena.specs.Boxes.{StandFrom}
use Rattle.box_arena.specs.Links.{IsLinked, Linking, parent_of}
use Rattle.box_gen.specs.Tree.{Boxes, box, none as no_boxes}
use Rattle.para_prepare.specs.Preparation.{Preparation}
use Rattle.box_arena.proofs.NamedOnce.{stands_alone}
use Rattle.relayout.specs.declared.inline.PageView.{PageView}
use Rattle.relayout.specs.declared.row.Row.{Row}
use Rattle.relayout.specs.Counts.{AreFounded, AreFoundedUnder, ArrangedRise, Ask, Counters, Covers, HaveKeys, HaveTexts, IsAllKept, IsRowKept, RowCosts, RowDone, TextsRise, missing, textless}
use Rattle.relayout.specs.Flow.{on_page}
use Rattle.relayout.specs.Inline.{Outside}
use Rattle.relayout.specs.Kept.{containing_by}
use Rattle.relayout.specs.Relayout.{root_row}
use Rattle.relayout.specs.Row.{StandsIn, from_outside}
use Rattle.relayout.specs.Sizes.{containing_of}
use Rattle.relayout.specs.Step.{under}
use Rattle.relayout.proofs.CountLaws.{Follows, row_kept_on, same_next, stood_back}
use Rattle.relayout.proofs.Founded.{all_kept, have_texts}

module _ (faces : List (Option Table)) (view : View) (page : PageView) (old new : Slots Preparation) (root : ℕ) (own : Node) (there : node_at old root ≡ Some own)
    (is : from_outside faces page ≡ on_page (is_horizontal own.style.mode) faces view.inline view.block) (row : Row) (row_is : row ≡ root_row root own.style view) (alone : next_at old root ≡ None) (was after : Counters)
    (costs : RowCosts (from_outside faces page) old new row was after) where
  pub root_texts : TextsRise old root was.texts after.texts
  root_texts tree stands keys have =
      let P : Row → Type 0 = λ r. (tree : Boxes) → StandFrom old r.from tree → (keys : List ℕ) → HaveKeys keys old r.from tree → after.texts ≤ was.texts + textless old keys in
      (subst P row_is costs.texts) tree (stands_alone old root tree alone stands) keys have

  pub root_arranged : ArrangedRise faces view old root was.arranged after.arranged
  root_arranged no_boxes stands = absurd stands
  root_arranged (box name style content inner next) (node, within, last) = λ asks covers.
      let here : Node = record { name = name; style = style; content = content } in
      let P : Row → Type 0 = λ r. (tree : Boxes) → StandFrom old r.from tree → (asks : List Ask) → Covers asks (from_outside faces page) old r.from r.containing tree r.c → after.arranged ≤ was.arranged + missing old asks in
      let Q : Node → Type 0 = λ n.
      (tree : Boxes) → StandFrom old (Some root) tree → (asks : List Ask)
      → Covers asks (on_page (is_horizontal n.style.mode) faces view.inline view.block) old (Some root) (containing_of n.style) tree (under (Some view.inline) (Some view.block)) → after.arranged ≤ was.arranged + missing old asks in
      let R : Outside → Type 0 = λ o.
      (tree : Boxes) → StandFrom old (Some root) tree → (asks : List Ask) → Covers asks o old (Some root) (containing_of own.style) tree (under (Some view.inline) (Some view.block)) → after.arranged ≤ was.arranged + missing old asks in
      (subst Q (same_Some own here (sym there ∙ node)) (subst R is (subst P row_is costs.arranged))) (box name style content inner no_boxes)
      (stands_alone old root (box name style content inner no_boxes) alone (node, within, refl)) asks covers

  pub root_founded : SameNodes old new → AreFoundedUnder faces view old root → AreFoundedUnder faces view new root
  root_founded nodes founded node at =
      let P : Outside → Type 0 = λ o. AreFounded o old in
      let Q : Outside → Type 0 = λ o. AreFounded o new in
      let R : Node → Type 0 = λ n. AreFounded (on_page (is_horizontal n.style.mode) faces view.inline view.block) new in
      subst R (same_Some own node (sym there ∙ sym (nodes root) ∙ at)) (subst Q is (costs.founded (subst P (sym is) (founded own there))))

  module _ (follows : Follows old new) (linked : IsLinked (links_at old)) (free : parent_at old root ≡ None) (done : RowDone (from_outside faces page) old new row was after) where
    kept_alone : (tree : Boxes) → StandFrom new (Some root) tree → IsRowKept new new (Some root) tree (under (Some view.inline) (Some view.block))
    kept_alone tree stand =
        let P : Row → Type 0 = λ r. (tree : Boxes) → StandFrom old r.from tree → IsRowKept new old r.from tree r.c in
        row_kept_on old new follows.links new new (under (Some view.inline) (Some view.block)) (λ k kept. kept) (Some root) tree ((subst P row_is done.kept) tree (stood_back old new follows (Some root) tree stand))

    linked_new : IsLinked (links_at new)
    linked_new = let P : Linking → Type 0 = λ s. IsLinked s in subst P (sym (fun_ext follows.links)) linked

    place_new : (node : Node) → node_at new root ≡ Some node → StandsIn new (Some root) (containing_of node.style)
    place_new node at other there_too =
        ap (λ (p : Option ℕ). containing_by (option_and_then (node_at new) p) other.style) (ap parent_of (follows.links root) ∙ free)
        ∙ ap (λ (n : Node). containing_of n.style) (same_Some other node (sym there_too ∙ at))

    pub root_kept : AreFoundedUnder faces view old root → IsAllKept faces view new root
    root_kept founded no_boxes stands = absurd stands
    root_kept founded (box name style content inner next) (node, within, last) =
        let here : Node = record { name = name; style = style; content = content } in
        let tree : Boxes = box name style content inner no_boxes in
        let stand = stands_alone new root tree (same_next old new follows.links root ∙ alone) (node, within, refl) in
        let outside = on_page (is_horizontal style.mode) faces view.inline view.block in
        let all = root_founded follows.nodes founded here node in
        let P : Boxes → Type 0 = λ t. HaveTexts new (Some root) (box name style content inner t) in (
          all_kept outside new linked_new all (Some root) (containing_of style) tree (under (Some view.inline) (Some view.block)) stand (place_new here node) (kept_alone tree stand),
          subst P (sym last) (have_texts outside new linked_new all (Some root) (containing_of style) tree view.inline (Some view.block) stand (place_new here node) (kept_alone tree stand)),
        )
