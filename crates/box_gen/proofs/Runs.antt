-- What is put at the end of a run.
use Rattle.std.proofs.Common.{◌≡◌, ◌∙◌, refl, ap, sym, Bool, true, false, ◌&&◌, List, [], ◌∷◌, ◌++◌, append_assoc, append-nil}
use Rattle.fragment_types.specs.declared.item.Item.{Item}
use Rattle.fragment_types.specs.Item.{Entry, entry_of, entries_of}
use Rattle.box_gen.specs.declared.tree.BoxTree.{BoxTree}
use Rattle.box_gen.specs.Tree.{Boxes, none, boxes_of, all_boxes_of}
use Rattle.box_gen.specs.Boxes.{Run, no_run}
use Rattle.box_gen.specs.Building.{and_then, run_with}
use Rattle.box_gen.proofs.BoxLines.{join_none, join_assoc, all_boxes_push}

pub run_is : (i j : List Entry) (a b : Boxes) (x y : Bool) → i ≡ j → a ≡ b → x ≡ y → run_with i a x ≡ run_with j b y
run_is i j a b x y is at bs = ap (λ (k : List Entry). run_with k a x) is ∙ ap (λ (c : Boxes). run_with j c x) at ∙ ap (λ (z : Bool). run_with j b z) bs

pub entries_push : (items : List Item) (item : Item) → entries_of (items ++ (item ∷ [])) ≡ entries_of items ++ (entry_of item ∷ [])
entries_push [] item = refl
entries_push (first ∷ items) item = ap (λ (es : List Entry). entry_of first ∷ es) (entries_push items item)

pub and_false : (b : Bool) → (b && false) ≡ false
and_false true = refl
and_false false = refl

pub and_assoc : (a b c : Bool) → ((a && b) && c) ≡ (a && (b && c))
and_assoc true b c = refl
and_assoc false b c = refl

pub and_true : (b : Bool) → (b && true) ≡ b
and_true true = refl
and_true false = refl

-- one item more
pub item_put : (items more : List Item) (item : Item) (entry : Entry) (atoms : List BoxTree) (was blank is : Bool)
    → more ≡ items ++ (item ∷ []) → entry_of item ≡ entry → is ≡ (was && blank)
    → run_with (entries_of more) (all_boxes_of atoms) is ≡ and_then (run_with (entries_of items) (all_boxes_of atoms) was) (run_with (entry ∷ []) none blank)
item_put items more item entry atoms was blank is e same b =
    run_is _ _ _ _ _ _
    (ap entries_of e ∙ entries_push items item ∙ ap (λ (x : Entry). entries_of items ++ (x ∷ [])) same)
    (sym (join_none (all_boxes_of atoms)))
    b

-- an item, and a box that was put behind the boxes before
pub atom_put : (items : List Entry) (atoms more : List BoxTree) (atom : BoxTree) (was : Bool) (entry : Entry) → more ≡ atoms ++ (atom ∷ [])
    → and_then (run_with items (all_boxes_of more) was) (run_with (entry ∷ []) none false) ≡ and_then (run_with items (all_boxes_of atoms) was) (run_with (entry ∷ []) (boxes_of atom) false)
atom_put items atoms more atom was entry put =
    run_is _ _ _ _ _ _ refl (join_none (all_boxes_of more) ∙ ap all_boxes_of put ∙ all_boxes_push atoms atom) refl

pub and_then_assoc : (a b c : Run) → and_then (and_then a b) c ≡ and_then a (and_then b c)
and_then_assoc a b c =
    run_is _ _ _ _ _ _ (append_assoc a.items b.items c.items) (join_assoc a.atoms b.atoms c.atoms) (and_assoc a.blank b.blank c.blank)

pub and_then_nothing : (a : Run) → and_then a no_run ≡ a
and_then_nothing a = run_is _ _ _ _ _ _ (append-nil a.items) (join_none a.atoms) (and_true a.blank)
