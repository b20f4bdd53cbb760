-- The inline boxes that are open: the last of the code's list is the innermost, which is the first of the definition's.
use Rattle.std.proofs.Common.{◌≡◌, ◌∙◌, refl, ap, sym, ◌<◌, true, false, List, [], ◌∷◌, ◌++◌, reverse, length, Option, Some, None, arith}
use Rattle.std.specs.Option.{option_to_list, IsSome}
use Rattle.std.proofs.lemmas.List.{reverse-append}
use Rattle.fragment_types.specs.Item.{Entry, begins, ends}
use Rattle.box_gen.specs.declared.opened.Opened.{Opened}
use Rattle.box_gen.specs.Tree.{none}
use Rattle.box_gen.specs.Boxes.{Run, join, closed, opened_again, without_innermost}
use Rattle.box_gen.specs.Building.{and_then, run_with}
use Rattle.box_gen.proofs.Runs.{and_then_assoc, and_then_nothing}

pub pushed : (opened : List Opened) (innermost : Opened) → reverse (opened ++ (innermost ∷ [])) ≡ innermost ∷ reverse opened
pushed opened innermost = reverse-append opened (innermost ∷ [])

pub popped : (innermost : Option Opened) (was now : List Opened) → was ≡ now ++ option_to_list innermost → (0 < length was → IsSome innermost)
    → reverse now ≡ without_innermost (reverse was)
popped None was [] e some = ap (λ (l : List Opened). without_innermost (reverse l)) (sym e)
popped None was (x ∷ now) e some = let is_some = some (omega (arith, ap length e)) in cc
popped (Some x) was now e some = sym (ap (λ (l : List Opened). without_innermost (reverse l)) e ∙ ap without_innermost (pushed now x))

-- items without boxes that count as white space, put one by one
abbrev pub with_items : Run → List Entry → Run
with_items run items = and_then run (run_with items none true)

one_by_one : (run more : Run) (item : Entry) (items : List Entry) → more ≡ with_items run (item ∷ []) → with_items more items ≡ with_items run (item ∷ items)
unfolding join
one_by_one run more item items is =
    ap (λ (r : Run). with_items r items) is ∙ and_then_assoc run (run_with (item ∷ []) none true) (run_with items none true)

pub one_closed : (run more : Run) (left others : List Opened) (innermost : Opened) → left ≡ others ++ (innermost ∷ [])
    → more ≡ with_items run (ends innermost.node false ∷ []) → with_items more (closed (reverse others)) ≡ with_items run (closed (reverse left))
unfolding closed
one_closed run more left others innermost e is =
    one_by_one run more (ends innermost.node false) (closed (reverse others)) is
    ∙ ap (λ (l : List Opened). with_items run (closed l)) (sym (ap reverse e ∙ pushed others innermost))

again_last : (opened : List Opened) (outermost : Opened)
    → opened_again (opened ++ (outermost ∷ [])) ≡ begins outermost.node outermost.style false ∷ opened_again opened
unfolding opened_again
again_last [] outermost = refl
again_last (innermost ∷ opened) outermost = ap (λ (l : List Entry). l ++ (begins innermost.node innermost.style false ∷ [])) (again_last opened outermost)

pub one_opened : (run more : Run) (left others : List Opened) (outermost : Opened) → left ≡ outermost ∷ others
    → more ≡ with_items run (begins outermost.node outermost.style false ∷ []) → with_items more (opened_again (reverse others)) ≡ with_items run (opened_again (reverse left))
one_opened run more left others outermost e is =
    one_by_one run more (begins outermost.node outermost.style false) (opened_again (reverse others)) is
    ∙ ap (with_items run) (sym (ap (λ (l : List Opened). opened_again l) (ap reverse e ∙ reverse-append (outermost ∷ []) others) ∙ again_last (reverse others) outermost))

pub none_closed : (run whole : Run) (left : List Opened) → length left ≡ 0 → with_items run (closed (reverse left)) ≡ whole → run ≡ whole
unfolding closed
none_closed run whole [] none_left is = sym (and_then_nothing run) ∙ is
none_closed run whole (x ∷ left) none_left is = absurd (omega arith)

pub none_opened : (run whole : Run) (left : List Opened) → length left ≡ 0 → with_items run (opened_again (reverse left)) ≡ whole → run ≡ whole
unfolding opened_again
none_opened run whole [] none_left is = sym (and_then_nothing run) ∙ is
none_opened run whole (x ∷ left) none_left is = absurd (omega arith)
