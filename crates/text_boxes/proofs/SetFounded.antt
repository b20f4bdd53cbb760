-- Where a text is set in the one box of an arena that holds it, all on which a result rests is still kept with it.
use Rattle.std.proofs.Common.{◌≡◌, ◌∙◌, ℕ, Bool, true, List, Option, Some, None, IsSome, option_and_then, refl, sym, ap, subst, inl, inr}
use Rattle.std.specs.Prelude.{if◌then◌else◌}
use Rattle.std.proofs.lemmas.Bool.{cases_eq}
use Rattle.slab.specs.Slab.{Slab}
use Rattle.face_api.specs.Table.{Table}
use Rattle.wm_modes.specs.Mode.{is_horizontal}
use Rattle.wm_units.specs.declared.view.View.{View}
use Rattle.fragment_types.specs.declared.constraint.Constraint.{Constraint}
use Rattle.fragment_types.specs.Fragment.{Pieces}
use Rattle.style_types.specs.declared.style.Style.{Style}
use Rattle.box_gen.specs.Tree.{Boxes, box, none}
use Rattle.box_arena.specs.declared.entry.Entry.{Entry}
use Rattle.box_arena.specs.At.{IsAbove, Node, first_at, kept_at, links_at, marked_at, next_at, node_at, parent_at, result_at}
use Rattle.box_arena.specs.Links.{IsIn, first_of, next_of, parent_of}
use Rattle.box_arena.proofs.Climbs.{reaches_on}
use Rattle.box_arena.proofs.Survival.{apart_from, survive_restyle}
use Rattle.para_prepare.specs.Preparation.{Preparation}
use Rattle.relayout.specs.Asks.{contributes_under, put_under}
use Rattle.relayout.specs.Counts.{AreFounded, AreFoundedUnder, IsFounded, IsRowKept}
use Rattle.relayout.specs.Flow.{on_page}
use Rattle.relayout.specs.Inline.{Outside}
use Rattle.relayout.specs.Kept.{SameContaining, containing_at, containing_by}
use Rattle.relayout.specs.Paragraph.{HasText}
use Rattle.relayout.proofs.CountLaws.{if_some_on}
use Rattle.text_boxes.specs.Boxes.{node_with}
use Rattle.text_boxes.specs.Setting.{SetsTextIn}
use Rattle.text_boxes.proofs.SetArenas.{node_was}

module _ (old new : Slab (Entry Preparation)) (root number : ℕ) (letters : List ℕ) (page : Boxes) (setting : SetsTextIn old new root number letters page) where
  -- neither the box in which the text is set nor one above it
  abbrev IsFree : ℕ → Type 0
  IsFree k = IsAbove old.slots k setting.sets.key → ⊥

  -- a box of which a result is kept
  free_kept : (k : ℕ) (c : Constraint) → IsSome (kept_at new.slots k c) → IsFree k
  free_kept k c kept above =
      let marked : marked_at new.slots k ≡ true = setting.sets.restyles.marked.above k above in
      let gone : kept_at new.slots k c ≡ None = ap (λ (marked : Bool). if marked then None else result_at new.slots k c) marked in
      let P : Option Pieces → Type 0 = λ o. IsSome o in
      let never = subst P gone kept in
      absurd (cc)

  -- the boxes inside a free one keep their results
  row_stays : (c : Constraint) (p : ℕ) (from : Option ℕ) (row : Boxes) → IsFree p → IsIn (links_at old.slots) p from → IsRowKept old.slots old.slots from row c → IsRowKept new.slots new.slots from row c
  row_stays c p from none free inside kept = kept
  row_stays c p from (box name style content inner next) free inside kept = λ key is.
      let P : Option ℕ → Type 0 = λ o. IsIn (links_at old.slots) p o in
      let Q : Option Pieces → Type 0 = λ o. IsSome o in
      let R : Option ℕ → Type 0 = λ o. IsRowKept new.slots new.slots o next c in
      let parent : parent_at old.slots key ≡ Some p = subst P is inside in
      let low : IsFree key = λ above. free (reaches_on (links_at old.slots) key p setting.sets.key above parent) in
      let (here, behind) = kept key is in (
        subst Q (sym (setting.sets.restyles.kept key low c)) here,
        subst R (sym (ap next_of (setting.sets.restyles.links key))) (row_stays c p (next_at old.slots key) next free (setting.under.sound.linked.on p (Some key) parent) behind),
      )

  -- a box is to those inside it the containing block that it was
  same_containing : (key : ℕ) → SameContaining old.slots new.slots key
  same_containing key style = ap (λ (o : Option ℕ). containing_by (option_and_then (node_at new.slots) o) style) (ap parent_of (setting.sets.restyles.links key)) ∙ by (parent_at old.slots key)
    where
      at : (p : ℕ) → containing_by (node_at new.slots p) style ≡ containing_by (node_at old.slots p) style
      at p = elim (cases_eq p setting.sets.key) [
        | inl same ↦
            let P : ℕ → Type 0 = λ j. containing_by (node_at new.slots j) style ≡ containing_by (node_at old.slots j) style in
            subst P (sym same) (ap (λ (n : Option Node). containing_by n style) setting.sets.restyles.here ∙ sym (ap (λ (n : Option Node). containing_by n style) setting.sets.was))
        | inr apart ↦ ap (λ (n : Option Node). containing_by n style) (setting.sets.restyles.elsewhere p apart)
      ]

      by : (o : Option ℕ) → containing_by (option_and_then (node_at new.slots) o) style ≡ containing_by (option_and_then (node_at old.slots) o) style
      by None = refl
      by (Some p) = at p

  -- what a result that is kept rests on was kept before, below its box
  all_founded : (outside : Outside) → AreFounded outside old.slots → AreFounded outside new.slots
  all_founded outside founded key c kept node is inner stands =
      let free = free_kept key c kept in
      let apart = apart_from old.slots key setting.sets.key free in
      let there : node_at old.slots key ≡ Some node = sym (setting.sets.restyles.elsewhere key apart) ∙ is in
      let tree : Boxes = box node.name node.style node.content inner none in
      let still = survive_restyle old new setting.sets.key (node_with number letters setting.sets.node) setting.under.sound.linked setting.sets.restyles key free in
      let P : Option Pieces → Type 0 = λ o. IsSome o in
      let rests = founded key c (subst P (still.kept c) kept) node there inner (still.back tree (is, stands, refl)).1 in
      subst (λ containing. IsFounded outside new.slots key containing node inner c) (sym (same_containing key node.style)) (founded_still free apart rests)
    where
      founded_still : IsFree key → (key ≡ setting.sets.key → ⊥) → IsFounded outside old.slots key (containing_at old.slots key node.style) node inner c
          → IsFounded outside new.slots key (containing_at old.slots key node.style) node inner c
      founded_still free apart rests =
          let P : Option Preparation → Type 0 = λ o. HasText node.content o in
          let Q : (d : Constraint) → Option ℕ → Type 0 = λ d o. IsRowKept new.slots new.slots o inner d in
          let row : (d : Constraint) → IsRowKept old.slots old.slots (first_at old.slots key) inner d → IsRowKept new.slots new.slots (first_at new.slots key) inner d
          = λ d kept. subst (Q d) (sym (ap first_of (setting.sets.restyles.links key))) (row_stays d key (first_at old.slots key) inner free (setting.under.sound.linked.on key None tt) kept) in
          record {
            text = subst P (sym (setting.sets.restyles.texts key apart)) rests.text;
            contributions = if_some_on (contributes_under (containing_at old.slots key node.style) node c) _ _ row rests.contributions;
            inside = if_some_on (put_under outside (containing_at old.slots key node.style) node c inner) _ _ row rests.inside;
          }

  -- so it is for the page of the root, whose mode stays
  pub founded_set : (faces : List (Option Table)) (view : View) → AreFoundedUnder faces view old.slots root → AreFoundedUnder faces view new.slots root
  founded_set faces view founded node is =
      let (was, there, name, style) = node_was old new root number letters page setting root node is in
      let P : Style → Type 0 = λ s. AreFounded (on_page (is_horizontal s.mode) faces view.inline view.block) new.slots in
      subst P style (all_founded (on_page (is_horizontal was.style.mode) faces view.inline view.block) (founded was there))
