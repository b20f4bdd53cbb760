-- Where with each result stands all that was met where its box was laid out, all stands that is met from a box that is kept.
use Rattle.std.proofs.Common.{◌≡◌, refl, subst, ℕ, Bool, true, false, Option, Some, ℤ}
use Rattle.std.specs.Prelude.{IfSome, ◌&&◌}
use Rattle.fragment_types.specs.declared.constraint.Constraint.{Constraint}
use Rattle.box_arena.specs.At.{Node, Slots, first_at, links_at, next_at}
use Rattle.box_arena.specs.Boxes.{StandFrom}
use Rattle.box_arena.specs.Links.{IsLinked}
use Rattle.box_gen.specs.Tree.{Boxes, box, none as no_boxes}
use Rattle.para_prepare.specs.Preparation.{Preparation}
use Rattle.relayout.specs.declared.sizes.Containing.{Containing}
use Rattle.relayout.specs.Asks.{contributes_under, put_by, put_under}
use Rattle.relayout.specs.Boxed.{handed_on}
use Rattle.relayout.specs.Counts.{AreAllKept, AreFounded, HaveTexts, IsFounded, IsRowKept}
use Rattle.relayout.specs.Inline.{Outside}
use Rattle.relayout.specs.Row.{StandsIn}
use Rattle.relayout.specs.Sizes.{containing_of, is_parallel}
use Rattle.relayout.specs.Step.{under}
use Rattle.relayout.proofs.CountLaws.{if_some_on}
use Rattle.relayout.proofs.Counting.{stands_head}
use Rattle.relayout.proofs.RowLaws.{inside_first, inside_next}

never_both : (b : Bool) → (b && false) ≡ false
never_both true = refl
never_both false = refl

module _ (outside : Outside) (slots : Slots Preparation) (linked : IsLinked (links_at slots)) (founded : AreFounded outside slots) where
  pub all_kept : (from : Option ℕ) (containing : Containing) (tree : Boxes) (c : Constraint) → StandFrom slots from tree → StandsIn slots from containing → IsRowKept slots slots from tree c
      → AreAllKept outside slots from containing tree c
  all_kept from containing no_boxes c stand inside kept = tt
  all_kept from containing (box name style content inner next) c stand inside kept = λ key is.
      let (here, after) = kept key is in
      let (there, within, behind) = stands_head slots from key name style content inner next is stand in
      let node : Node = record { name = name; style = style; content = content } in
      let P : Option ℕ → Type 0 = λ o. StandsIn slots o containing in
      let Q : Containing → Type 0 = λ x. IsFounded outside slots key x node inner c in
      let place : StandsIn slots (Some key) containing = subst P is inside in
      let rests = subst Q (place node there) (founded key c here node there inner within) in
      let A : Constraint → Type 0 = λ d. IsRowKept slots slots (first_at slots key) inner d in
      let B : Constraint → Type 0 = λ d. AreAllKept outside slots (first_at slots key) (containing_of style) inner d in
      let on : (d : Constraint) → A d → B d = λ d all. all_kept (first_at slots key) (containing_of style) inner d within (inside_first slots key node linked there) all in (
        here,
        (λ _. (if_some_on (contributes_under containing node c) A B on rests.contributions, if_some_on (put_under outside containing node c inner) A B on rests.inside)),
        all_kept (next_at slots key) containing next c behind (inside_next slots key node containing linked there place) after,
      )

  -- under an inline size that is known all boxes are met
  pub have_texts : (from : Option ℕ) (containing : Containing) (tree : Boxes) (size : ℤ) (handed : Option ℤ) → StandFrom slots from tree → StandsIn slots from containing
      → IsRowKept slots slots from tree (under (Some size) handed) → HaveTexts slots from tree
  have_texts from containing no_boxes size handed stand inside kept = tt
  have_texts from containing (box name style content inner next) size handed stand inside kept = λ key is.
      let (here, after) = kept key is in
      let (there, within, behind) = stands_head slots from key name style content inner next is stand in
      let node : Node = record { name = name; style = style; content = content } in
      let P : Option ℕ → Type 0 = λ o. StandsIn slots o containing in
      let Q : Containing → Type 0 = λ x. IsFounded outside slots key x node inner (under (Some size) handed) in
      let place : StandsIn slots (Some key) containing = subst P is inside in
      let rests = subst Q (place node there) (founded key (under (Some size) handed) here node there inner within) in
      let R : Bool → Type 0 = λ b. IfSome (put_by b outside containing node (under (Some size) handed) inner) (IsRowKept slots slots (first_at slots key) inner) in
      let put = subst R (never_both (is_parallel containing style)) rests.inside in (
        rests.text,
        have_texts (first_at slots key) (containing_of style) inner _ (handed_on containing node (under (Some size) handed)) within (inside_first slots key node linked there) put,
        have_texts (next_at slots key) containing next size handed behind (inside_next slots key node containing linked there place) after,
      )
