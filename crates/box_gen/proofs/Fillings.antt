-- A container with its run made a block.
use Rattle.std.proofs.Common.{◌≡◌, ◌∙◌, refl, ap, sym, ℕ, suc, Bool, true, false, not, List, [], ◌∷◌, ◌++◌, length, arith}
use Rattle.box_gen.specs.declared.tree.BoxTree.{BoxTree}
use Rattle.box_gen.specs.Tree.{Boxes, none, box, inline, boxes_of, all_boxes_of}
use Rattle.box_gen.specs.Boxes.{Run, no_run, join, anonymous}
use Rattle.box_gen.specs.Building.{Filling, with_run}
use Rattle.box_gen.proofs.BoxLines.{join_none, all_boxes_push}

filling_is : (was : Filling) (b c : Boxes) (m n : ℕ) (r s : Run) → b ≡ c → m ≡ n → r ≡ s
    → (let f : Filling = record was { blocks = b; anonymous = m; run = r } in f) ≡ record was { blocks = c; anonymous = n; run = s }
filling_is was b c m n r s bs ms rs =
    ap (λ (x : Boxes). let f : Filling = record was { blocks = x; anonymous = m; run = r } in f) bs
    ∙ ap (λ (x : ℕ). let f : Filling = record was { blocks = c; anonymous = x; run = r } in f) ms
    ∙ ap (λ (x : Run). let f : Filling = record was { blocks = c; anonymous = n; run = x } in f) rs

-- a run that is white space alone makes no block
pub run_dropped : (was : Filling) (run : Run) → was.run.blank ≡ true → run ≡ no_run → record was { run = run } ≡ with_run was
run_dropped was run blank nothing_left = rw blank (filling_is was _ _ _ _ _ _ (sym (join_none was.blocks)) refl nothing_left)

pub run_wrapped : (was : Filling) (trees more : List BoxTree) (tree : BoxTree) (anonymous_count : ℕ) (run : Run) → was.run.blank ≡ false → all_boxes_of trees ≡ was.blocks
    → more ≡ trees ++ (tree ∷ [])
    → boxes_of tree ≡ box (record { node = was.number; ordinal = suc was.anonymous }) (anonymous was.style) (inline was.run.items) was.run.atoms none
    → anonymous_count ≡ suc was.anonymous → run ≡ no_run
    → record was { blocks = all_boxes_of more; anonymous = anonymous_count; run = run } ≡ with_run was
run_wrapped was trees more tree anonymous_count run blank are push is count nothing_left =
    rw blank (filling_is was _ _ _ _ _ _ (ap all_boxes_of push ∙ all_boxes_push trees tree ∙ ap (λ (b : Boxes). join b (boxes_of tree)) are ∙ ap (join was.blocks) is) count nothing_left)

pub not_true : (b : Bool) → not b ≡ true → b ≡ false
not_true true e = sym e
not_true false e = refl

pub not_false : (b : Bool) → not b ≡ false → b ≡ true
not_false true e = refl
not_false false e = sym e

pub empty_is : (trees : List BoxTree) → length trees ≡ 0 → trees ≡ []
empty_is [] e = refl
empty_is (tree ∷ trees) e = absurd (omega arith)
