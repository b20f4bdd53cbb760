-- A line has each of its items once, whatever their levels.
use Rattle.std.proofs.Common.{◌≡◌, ◌∙◌, ap, refl, sym, arith, subst, ℕ, zero, suc, ◌+◌, ◌-◌, ◌≤◌, Bool, true, false, cond, leb, List, [], ◌∷◌, ◌++◌, append-nil, length, map, Option, Some, None}
use Rattle.std.specs.Prelude.{slice_get, slice_index}
use Rattle.std.specs.List.{filter_map, range_with_len}
use Rattle.std.specs.List.Sorted.{IsPermutation}
use Rattle.std.proofs.lemmas.List.{length-map, take_all}
use Rattle.std.proofs.lemmas.List.Sorted.{IsPermutation-append_right, IsPermutation-cons, IsPermutation-middle, IsPermutation-refl, IsPermutation-trans}
use Rattle.wm_chars.specs.declared.classes.BidiClass.{BidiClass}
use Rattle.bidi_order.specs.Blanks.{reset}
use Rattle.bidi_order.specs.Reversals.{from_least_odd, greatest, least_odd, order, reversals, reverse_runs}
use Rattle.bidi_order.specs.Visual.{seats, visual_order}
use Rattle.bidi_order.proofs.VisualLaws.{once}
use Rattle.line_place.specs.Line.{Item, Line}
use Rattle.line_place.specs.Leaves.{leaves, leaves_from, levels_of}
use Rattle.line_place.specs.Reach.{item_reach, leaf_reach, total}
use Rattle.line_place.proofs.ReachLaws.{leaves_reach}

-- ---- L2 rearranges the places

either : {X : Type 0} (b : Bool) (zs xs ys : List X) → IsPermutation zs xs → IsPermutation zs ys → IsPermutation zs (cond b xs ys)
either true zs xs ys h k = h
either false zs xs ys h k = k

runs_once : {X : Type 0} (passes : X → Bool) (run xs : List X) → IsPermutation (run ++ xs) (reverse_runs passes run xs)
runs_once {X = X} passes run [] =
    let P : List X → Type 0 = λ ys. IsPermutation ys run in
    subst P (sym (append-nil run)) (IsPermutation-refl run)
runs_once passes run (x ∷ xs) =
    either (passes x) (run ++ x ∷ xs) (reverse_runs passes (x ∷ run) xs) (run ++ x ∷ reverse_runs passes [] xs)
    (IsPermutation-trans (run ++ x ∷ xs) (x ∷ (run ++ xs)) (reverse_runs passes (x ∷ run) xs) (IsPermutation-middle run x xs) (runs_once passes (x ∷ run) xs))
    (IsPermutation-append_right run (x ∷ xs) (x ∷ reverse_runs passes [] xs) (IsPermutation-cons x xs (reverse_runs passes [] xs) (runs_once passes [] xs)))

reversals_once : (levels : List ℕ) (least n : ℕ) (places : List ℕ) → IsPermutation places (reversals levels least n places)
reversals_once levels least zero places = IsPermutation-refl places
reversals_once levels least (suc n) places =
    let turned : List ℕ = reverse_runs (λ p. leb (least + n) (slice_index levels p)) [] places in
    IsPermutation-trans places turned (reversals levels least n turned) (runs_once (λ p. leb (least + n) (slice_index levels p)) [] places) (reversals_once levels least n turned)

from_once : (levels : List ℕ) (least : Option ℕ) (places : List ℕ) → IsPermutation places (from_least_odd levels least places)
from_once levels None places = IsPermutation-refl places
from_once levels (Some least) places = reversals_once levels least (greatest levels + 1 - least) places

order_once : (levels : List ℕ) → IsPermutation (range_with_len 0 (length levels)) (order levels)
unfolding order
order_once levels = from_once levels (least_odd levels) (range_with_len 0 (length levels))

visual_once : (levels : List ℕ) (aparts : List (Option ℕ)) → length levels ≡ length aparts → IsPermutation (range_with_len 0 (length levels)) (visual_order levels aparts)
unfolding visual_order
visual_once levels aparts same =
    let own : List ℕ = map (λ s. s.level) (seats levels aparts) in
    let P : ℕ → Type 0 = λ n. IsPermutation (range_with_len 0 n) (order own) in
    once levels aparts (order own) same (subst P (length-map (seats levels aparts) (λ s. s.level)) (order_once own))

-- ---- the items of a line

reset_length : (base : ℕ) (levels : List ℕ) (classes : List BidiClass) → length (reset base levels classes) ≡ length levels
unfolding reset
reset_length base [] classes = refl
reset_length base (level ∷ levels) [] = refl
reset_length base (level ∷ levels) (c ∷ classes) = ap suc (reset_length base levels classes)

-- the lengths of its items bound those of its leaves
pub leaves_total : (line : Line) → total leaf_reach (leaves line) ≤ total item_reach line.items
unfolding leaves
leaves_total line =
    let levels : List ℕ = levels_of line in
    let aparts : List (Option ℕ) = map (λ (item : Item). item.apart) line.items in
    let own : List ℕ = visual_order levels aparts in
    let r : length levels ≡ length line.items =
    reset_length line.base (map (λ (item : Item). item.level) line.items) (map (λ (item : Item). item.class) line.items) ∙ length-map line.items (λ (item : Item). item.level) in
    let a : length aparts ≡ length line.items = length-map line.items (λ (item : Item). item.apart) in
    leaves_reach levels line.items own own (length own) (filter_map (λ place. slice_get (leaves_from 0 levels line.items) place) own) r
    (visual_once levels aparts (r ∙ sym a)) (ap (filter_map (λ place. slice_get (leaves_from 0 levels line.items) place)) (sym (take_all (length own) own (omega arith)))) (omega arith) refl
