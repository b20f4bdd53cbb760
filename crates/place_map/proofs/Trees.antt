-- Trees of fragments, opened at their roots.
use Rattle.std.proofs.Common.{◌≡◌, refl, sym, ap, subst, ◌∙◌, Vec, Global, ℕ, zero, suc, ◌+◌, ◌<◌, ◌≤◌, List, [], ◌∷◌, ◌++◌, length, drop, get_or, arith}
use Rattle.std.proofs.lemmas.List.{drop_all, drop_more}
use Rattle.wm_modes.specs.declared.rects.FlowRect.{FlowRect}
use Rattle.wm_modes.specs.declared.rects.Rect.{Rect}
use Rattle.fragment_types.specs.declared.item.BoxName.{BoxName}
use Rattle.fragment_types.specs.declared.fragment.Fragment.{Fragment, out-Fragment}
use Rattle.fragment_types.specs.declared.fragment.Fragment.TheFolds.{fold_out-Fragment}
use Rattle.fragment_types.specs.Fragment.{Kind, Pieces, none, piece, before, kind_of, moved_to, piece_of, piece_step, pieces_of}
use Rattle.place_map.specs.declared.frame.Frame.{Frame}
use Rattle.place_map.specs.Frame.{inside, on_page}
use Rattle.place_map.specs.Near.{AreNear, AreNearParts, IsNearPart}
use Rattle.place_map.specs.Parts as page
use Rattle.place_map.specs.Parts.{Part, Parts, part, followed, parts_of}
use Rattle.place_map.specs.Placing.{placed}
use Rattle.place_map.proofs.PartLists.{followed_push, part_with}

-- ---- a fragment is a piece before what follows it

pub as_piece : (f : Fragment) (next : Pieces)
    → before f next ≡ piece (out-Fragment f).name (out-Fragment f).rect (kind_of (out-Fragment f).kind) (pieces_of (out-Fragment f).children.value.items) next
as_piece f next = ap (λ (g : Pieces → Pieces). g next) (fold_out-Fragment (Pieces → Pieces) piece_step f)

-- ---- what is near

pub near_part : (frame : Frame) (f : Fragment) → AreNear frame (piece_of f) → IsNearPart frame (out-Fragment f).rect (kind_of (out-Fragment f).kind)
near_part frame f near = (subst (AreNear frame) (as_piece f _) near).0

pub near_inside : (frame : Frame) (f : Fragment) → AreNear frame (piece_of f)
    → AreNear (inside frame (kind_of (out-Fragment f).kind) (on_page frame (out-Fragment f).rect)) (pieces_of (out-Fragment f).children.value.items)
near_inside frame f near = (subst (AreNear frame) (as_piece f _) near).1

pub near_below : (frame own : Frame) (rect : Rect) (f : Fragment) (children : Vec Fragment Global) (below : List Fragment) → AreNear frame (piece_of f)
    → rect ≡ on_page frame (out-Fragment f).rect → own ≡ inside frame (kind_of (out-Fragment f).kind) rect → children ≡ (out-Fragment f).children.value → below ≡ children.items
    → AreNear own (pieces_of below)
near_below frame own rect f children below near at within kept is = rw (is, kept, within, at) (near_inside frame f near)

near_first : (frame : Frame) (f : Fragment) (fs : List Fragment) → AreNear frame (pieces_of (f ∷ fs)) → AreNear frame (piece_of f)
near_first frame f fs near = let own = subst (AreNear frame) (as_piece f (pieces_of fs)) near in subst (AreNear frame) (sym (as_piece f _)) (own.0, own.1, tt)

near_others : (frame : Frame) (f : Fragment) (fs : List Fragment) → AreNear frame (pieces_of (f ∷ fs)) → AreNear frame (pieces_of fs)
near_others frame f fs near = (subst (AreNear frame) (as_piece f (pieces_of fs)) near).2

near_get : (frame : Frame) (fs : List Fragment) (k : ℕ) (d : Fragment) → k < length fs → AreNear frame (pieces_of fs) → AreNear frame (piece_of (get_or fs k d))
near_get frame [] k d lt near = absurd (omega arith)
near_get frame (f ∷ fs) zero d lt near = near_first frame f fs near
near_get frame (f ∷ fs) (suc k) d lt near = near_get frame fs k d (omega arith) (near_others frame f fs near)

pub near_at : (frame : Frame) (fs : List Fragment) (k : ℕ) (f : Fragment) → k < length fs → f ≡ get_or fs k f → AreNear frame (pieces_of fs) → AreNear frame (piece_of f)
near_at frame fs k f lt is near = subst (λ g. AreNear frame (piece_of g)) (sym is) (near_get frame fs k f lt near)

-- ---- how many there are

pub count : Pieces → ℕ
count none = 0
count (piece name rect kind inner next) = suc (count inner + count next)

count_opened : (f : Fragment) (next : Pieces) → count (before f next) ≡ suc (count (pieces_of (out-Fragment f).children.value.items) + count next)
unfolding count
count_opened f next = ap count (as_piece f next)

pub fewer_below : (f : Fragment) (children : Vec Fragment Global) (below : List Fragment) → children ≡ (out-Fragment f).children.value → below ≡ children.items
    → count (pieces_of below) < count (piece_of f)
unfolding count
fewer_below f children below kept is = let own = count_opened f none in rw (is, kept) (omega arith)

fewer_first : (f : Fragment) (next : Pieces) → count (piece_of f) ≤ count (before f next)
unfolding count
fewer_first f next = let own = count_opened f none in let all = count_opened f next in omega arith

fewer_get : (fs : List Fragment) (k : ℕ) (d : Fragment) → k < length fs → count (piece_of (get_or fs k d)) ≤ count (pieces_of fs)
fewer_get [] k d lt = absurd (omega arith)
fewer_get (f ∷ fs) zero d lt = fewer_first f (pieces_of fs)
fewer_get (f ∷ fs) (suc k) d lt = let rest = fewer_get fs k d (omega arith) in let own = count_opened f (pieces_of fs) in omega arith

pub fewer_at : (fs : List Fragment) (k : ℕ) (f : Fragment) → k < length fs → f ≡ get_or fs k f → count (piece_of f) ≤ count (pieces_of fs)
fewer_at fs k f lt is = subst (λ g. count (piece_of g) ≤ count (pieces_of fs)) (sym is) (fewer_get fs k f lt)

-- ---- what is placed

kind_same : (n n' : BoxName) (r r' : FlowRect) (k k' : Kind) (i i' x x' : Pieces) → piece n r k i x ≡ piece n' r' k' i' x' → k ≡ k'
kind_same n n' r r' k k' i i' x x' is = cc

name_same : (n n' : BoxName) (r r' : FlowRect) (k k' : Kind) (i i' x x' : Pieces) → piece n r k i x ≡ piece n' r' k' i' x' → n ≡ n'
name_same n n' r r' k k' i i' x x' is = cc

-- a copy has the fragment's name and kind
pub copy_kind : (own f : Fragment) (rect : FlowRect) → piece_of own ≡ moved_to rect (piece_of f) → kind_of (out-Fragment own).kind ≡ kind_of (out-Fragment f).kind
copy_kind own f rect is = kind_same _ _ _ _ _ _ _ _ _ _ (sym (as_piece own _) ∙ is ∙ ap (moved_to rect) (as_piece f _))

pub copy_name : (own f : Fragment) (rect : FlowRect) → piece_of own ≡ moved_to rect (piece_of f) → (out-Fragment own).name ≡ (out-Fragment f).name
copy_name own f rect is = name_same _ _ _ _ _ _ _ _ _ _ (sym (as_piece own _) ∙ is ∙ ap (moved_to rect) (as_piece f _))

part_same : (n n' : BoxName) (r r' : Rect) (k k' : Kind) (i i' next : Parts) → n ≡ n' → r ≡ r' → k ≡ k' → i ≡ i' → part n r k i next ≡ part n' r' k' i' next
part_same n n' r r' k k' i i' next p q s t = rw (p, q, s, t) refl

-- a fragment stands where its frame says, with those inside it
pub part_placed : (frame own : Frame) (f copy : Fragment) (rect : Rect) (children : List Part) (p : Part)
    → p ≡ part_with (out-Fragment copy).name rect (kind_of (out-Fragment copy).kind) (parts_of children)
    → rect ≡ on_page frame (out-Fragment f).rect → own ≡ inside frame (kind_of (out-Fragment f).kind) rect → piece_of copy ≡ moved_to (out-Fragment f).rect (piece_of f)
    → parts_of children ≡ placed own (pieces_of (out-Fragment f).children.value.items)
    → (next : Pieces) → page.before p (placed frame next) ≡ placed frame (before f next)
part_placed frame own f copy rect children p is at within copied inner next =
    let below = pieces_of (out-Fragment f).children.value.items in
    ap (λ (q : Part). page.before q (placed frame next)) is
    ∙ part_same _ _ _ _ _ _ _ _ (placed frame next) (copy_name copy f _ copied) at (copy_kind copy f _ copied)
    (inner ∙ ap (λ (w : Frame). placed w below) (within ∙ ap (inside frame (kind_of (out-Fragment f).kind)) at))
    ∙ sym (ap (placed frame) (as_piece f next))

-- one fragment more is placed
pub one_more : (frame : Frame) (fs : List Fragment) (k : ℕ) (f : Fragment) (made : List Part) (p : Part) (all : Parts)
    → k < length fs → f ≡ get_or fs k f → ((next : Pieces) → page.before p (placed frame next) ≡ placed frame (before f next))
    → followed made (placed frame (pieces_of (drop k fs))) ≡ all → followed (made ++ p ∷ []) (placed frame (pieces_of (drop (k + 1) fs))) ≡ all
one_more frame fs k f made p all lt is placed_so so_far =
    let here : drop k fs ≡ f ∷ drop (k + 1) fs = drop_more fs k f lt ∙ ap (λ (g : Fragment). g ∷ drop (k + 1) fs) (sym is) in
    followed_push made p (placed frame (pieces_of (drop (k + 1) fs)))
    ∙ ap (followed made) (placed_so (pieces_of (drop (k + 1) fs)) ∙ sym (ap (λ (left : List Fragment). placed frame (pieces_of left)) here))
    ∙ so_far

pub all_placed : (frame : Frame) (fs : List Fragment) (k : ℕ) (made : List Part) (all : Parts)
    → length fs ≤ k → followed made (placed frame (pieces_of (drop k fs))) ≡ all → parts_of made ≡ all
all_placed frame fs k made all end_ so_far = sym (ap (λ (l : List Fragment). followed made (placed frame (pieces_of l))) (drop_all k fs end_)) ∙ so_far

-- ---- what is placed is near

near_placed : (frame : Frame) (pieces : Pieces) → AreNear frame pieces → AreNearParts (placed frame pieces)
near_placed frame none near = tt
near_placed frame (piece name rect kind inner next) near =
    (near.0.page, near.0.content, near_placed (inside frame kind (on_page frame rect)) inner near.1, near_placed frame next near.2)

pub near_root : (frame own : Frame) (f : Fragment) (parts : Parts) → AreNear frame (piece_of f) → own ≡ frame → parts ≡ placed own (piece_of f) → AreNearParts parts
near_root frame own f parts near within is = subst AreNearParts (sym (is ∙ ap (λ (w : Frame). placed w (piece_of f)) within)) (near_placed frame (piece_of f) near)
