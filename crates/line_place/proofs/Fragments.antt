-- Fragments as trees.
use Rattle.std.proofs.Common.{◌≡◌, ◌∙◌, ap, sym, refl, ℕ, List, [], ◌∷◌, ◌++◌, map, Option, ℤ}
use Rattle.wm_modes.specs.declared.rects.FlowRect.{FlowRect}
use Rattle.fragment_types.specs.declared.item.BoxName.{BoxName}
use Rattle.fragment_types.specs.declared.unit_kind.UnitKind.{UnitKind}
use Rattle.fragment_types.specs.RunUnit.{RunUnit}
use Rattle.fragment_types.specs.declared.fragment.Fragment.{Fragment, out-Fragment}
use Rattle.fragment_types.specs.declared.fragment.Fragment.TheFolds.{fold_out-Fragment}
use Rattle.fragment_types.specs.Fragment.{Kind, Pieces, before, in_line, kind_of, moved_to, none, piece, piece_of, piece_step, pieces_of}
use Rattle.fragment_types.specs.Fragment as fragments
use Rattle.line_place.specs.declared.line.Extents.{Extents}
use Rattle.line_place.specs.declared.line.LineBox.{LineBox}
use Rattle.line_place.specs.Line.{Content, Line}
use Rattle.line_place.specs.Leaves.{Leaf, what_of}
use Rattle.line_place.specs.Marks.{inside_of}
use Rattle.line_place.specs.Placing.{atom_at, box_rect, extent_of, extents_in, level_of, run_as, run_piece, text_piece, text_rect, unit_of, unnumbered}
use Rattle.line_place.specs.Walk.{followed}

pub text_same : (line : Line) (over left : ℤ) (node : ℕ) (form : UnitKind) (natural : Option ℤ) (run : List Leaf) (next : Pieces)
    (name : BoxName) (rect : FlowRect) (kind : Kind) (level : ℕ) (units : List RunUnit) (own : Extents) (o l e : ℤ) (inside : Option ℕ)
    → name ≡ unnumbered node → rect ≡ text_rect own o l e → o ≡ over → l ≡ left → e ≡ extent_of run → own ≡ extents_in line inside → inside ≡ inside_of run
    → kind ≡ fragments.run form level natural units → level ≡ level_of run → units ≡ map unit_of run
    → piece name rect kind none next ≡ text_piece line over left node form natural run next
text_same line over left node form natural run next name rect kind level units own o l e inside p q r s t u v w x y = rw (p, q, r, s, t, u, v, w, x, y) refl

-- a fragment is a piece before what follows it
pub as_piece : (f : Fragment) (next : Pieces) → before f next ≡ piece (out-Fragment f).name (out-Fragment f).rect (kind_of (out-Fragment f).kind) (in_line (map before (out-Fragment f).children.value.items)) next
as_piece f next = ap (λ (g : Pieces → Pieces). g next) (fold_out-Fragment (Pieces → Pieces) piece_step f)

same_piece : (n n' : BoxName) (r r' : FlowRect) (k k' : Kind) (i i' next : Pieces) → piece n r k i none ≡ piece n' r' k' i' none → piece n r k i next ≡ piece n' r' k' i' next
same_piece n n' r r' k k' i i' next is = cc

rect_is : (rect : FlowRect) (i b inline block : ℤ) → rect.i ≡ i → rect.b ≡ b → rect.inline ≡ inline → rect.block ≡ block
    → let own : FlowRect = record { i = i; b = b; inline = inline; block = block } in rect ≡ own
rect_is rect i b inline block p q r s = rw (sym p, sym q, sym r, sym s) refl

-- an atom at its place
pub atom_moved : (own f : Fragment) (rect : FlowRect) (i b : ℤ) (next : Pieces) → piece_of own ≡ moved_to rect (piece_of f)
    → rect.i ≡ i → rect.b ≡ b → rect.inline ≡ (out-Fragment f).rect.inline → rect.block ≡ (out-Fragment f).rect.block → before own next ≡ atom_at i b (piece_of f) next
atom_moved own f rect i b next is p q r s =
    let placed : FlowRect = record { i = i; b = b; inline = (out-Fragment f).rect.inline; block = (out-Fragment f).rect.block } in
    let e : rect ≡ placed = rect_is rect i b (out-Fragment f).rect.inline (out-Fragment f).rect.block p q r s in
    as_piece own next
    ∙ same_piece _ _ _ _ _ _ _ _ next (sym (as_piece own none) ∙ is ∙ ap (moved_to rect) (as_piece f none))
    ∙ ap (λ (x : FlowRect). piece (out-Fragment f).name x (kind_of (out-Fragment f).kind) (in_line (map before (out-Fragment f).children.value.items)) next) e
    ∙ sym (ap (λ (x : Pieces). atom_at i b x next) (as_piece f none))

-- a run by what its first leaf is
pub run_by : (line : Line) (over left : ℤ) (run : List Leaf) (next : Pieces) (what : Content) → what_of run ≡ what → run_as what line over left run next ≡ run_piece line over left run next
run_by line over left [] next what is = ap (λ (w : Content). run_as w line over left [] next) (sym is)
run_by line over left (leaf ∷ leaves) next what is = ap (λ (w : Content). run_as w line over left (leaf ∷ leaves) next) (sym is)

-- one fragment more
pub followed_push : (parts : List Fragment) (f : Fragment) (next : Pieces) → followed (parts ++ f ∷ []) next ≡ followed parts (before f next)
followed_push [] f next = refl
followed_push (part ∷ parts) f next = ap (before part) (followed_push parts f next)

pub span_same : (b own : LineBox) (over o left l right r : ℤ) (rect : FlowRect) (inner next : Pieces) → own ≡ b → o ≡ over → l ≡ left → r ≡ right → rect ≡ box_rect own o l r
    → piece (unnumbered own.node) rect fragments.span inner next ≡ piece (unnumbered b.node) (box_rect b over left right) fragments.span inner next
span_same b own over o left l right r rect inner next p q s t u = rw (u, p, q, s, t) refl
