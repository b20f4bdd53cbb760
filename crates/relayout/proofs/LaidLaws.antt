-- Children that have been laid out, one by one.
use Rattle.std.proofs.Common.{◌≡◌, ◌∙◌, refl, sym, ap, subst, arith, ℕ, suc, zero, ◌+◌, ◌*◌, ◌<◌, ◌≤◌, ◌^◌, Bool, false, List, [], ◌∷◌, length, map, drop, get_or, Some, ℤ, unsigned_abs}
use Rattle.std.specs.Prelude.{All, sum_by}
use Rattle.std.specs.Global.{Vec}
use Rattle.std.proofs.lemmas.List.{drop_all, length-map}
use Rattle.std.proofs.lemmas.List.Elements.{All-map, All-tail}
use Rattle.std.proofs.lemmas.List.Sums.{sum_by-le}
use Rattle.wm_modes.specs.declared.rects.FlowRect.{FlowRect}
use Rattle.margin_collapse.specs.declared.margins.Margins.{Margins}
use Rattle.margin_collapse.specs.Pairs.{IsPairOf}
use Rattle.fragment_types.specs.declared.fragment.Fragment.{Fragment}
use Rattle.style_types.specs.declared.style.Style.{Style}
use Rattle.fragment_types.specs.Fragment.{Kind, block, line, measure, run, span, Pieces, none, pieces_of}
use Rattle.block_flow.specs.declared.boxes.ChildBox.{ChildBox}
use Rattle.block_flow.specs.declared.boxes.ParentEdges.{ParentEdges}
use Rattle.block_flow.specs.Stacking as stacking
use Rattle.block_flow.specs.Stacked.{IsStackOf, IsWithin, Stacked}
use Rattle.block_flow.specs.Children.{AreChildren, Child, StandsFor, lengths_of}
use Rattle.line_place.specs.Spread.{spread, spread_in}
use Rattle.para_lines.specs.Lines.{Atom}
use Rattle.relayout.specs.declared.content.Filling as code
use Rattle.relayout.specs.declared.flowed.LaidBox.{LaidBox}
use Rattle.relayout.specs.declared.sizes.Containing.{Containing}
use Rattle.relayout.specs.Atoms.{atom_in}
use Rattle.relayout.specs.Content.{IsFilled, child_box, child_in, child_of, put, set_down, stack}
use Rattle.relayout.specs.Inline.{inline_place}
use Rattle.relayout.specs.Flowed.{AreLaid, HasMargins, IsLaid, Laid, Part, as_laid, at, pair_of, part_of}
use Rattle.relayout.specs.Near.{HasReach, IsNearKind, IsNearLaid}
use Rattle.relayout.specs.Reach.{IsBase}
use Rattle.relayout.proofs.InlineLaws.{place_near}

-- ---- as their container stacks them

pair_is : (pair : Margins) (margins : List ℤ) → pair ≡ pair_of margins → IsPairOf pair margins
pair_is pair margins is = record { positive = ap (λ (m : Margins). m.positive) is; negative = ap (λ (m : Margins). m.negative) is }

abbrev child_with : ℤ → List ℤ → List ℤ → Bool → Child
child_with size starts ends through = record { size = size; start_margins = starts; end_margins = ends; through = through }

stands_in : (size : ℤ) (kind : Kind) (starts ends : List ℤ) (through : Bool) → HasMargins kind starts ends through → StandsFor (child_in size kind) (child_with size starts ends through)
stands_in size (block mode dir content definite start end_ own) starts ends through h = record { size = refl; start = pair_is start starts h.0; end_ = pair_is end_ ends h.1; through = h.2 }
stands_in size (line index base mode baseline) starts ends through h = absurd h
stands_in size span starts ends through h = absurd h
stands_in size (run form level natural units) starts ends through h = absurd h
stands_in size (measure min max) starts ends through h = absurd h

child_stands : (own : LaidBox) (laid : Laid) → IsLaid own laid → StandsFor (child_box own) (child_of laid)
child_stands own laid is =
    let P : Part → Type 0 = λ p. StandsFor (child_in p.rect.block p.kind) (child_of laid) in
    subst P (sym is.part) (stands_in laid.flowed.part.rect.block laid.flowed.part.kind laid.flowed.starts laid.flowed.ends laid.flowed.through is.margins)

pub children_stand : (boxes : List LaidBox) (laid : List Laid) → AreLaid boxes laid → AreChildren (map child_box boxes) (map child_of laid)
children_stand [] [] are = are
children_stand [] (l ∷ laid) are = absurd are
children_stand (b ∷ boxes) [] are = absurd are
children_stand (b ∷ boxes) (l ∷ laid) are = (child_stands b l are.0, children_stand boxes laid are.1)

-- ---- their lengths

lengths_in : (size : ℤ) (kind : Kind) → unsigned_abs size ≤ 2 ^ 36 → IsNearKind kind → lengths_of (child_in size kind) ≤ 5 * 2 ^ 34
lengths_in size (block mode dir content definite start end_ through) s h =
    let a = h.1.positive in let b = h.1.negative in let c = h.2.positive in let d = h.2.negative in omega arith
lengths_in size (line index base mode baseline) s h = omega arith
lengths_in size span s h = omega arith
lengths_in size (run form level natural units) s h = omega arith
lengths_in size (measure min max) s h = omega arith

children_near : (boxes : List LaidBox) → All IsNearLaid boxes → sum_by lengths_of (map child_box boxes) ≤ length boxes * (5 * 2 ^ 34)
children_near boxes near =
    let many = length-map boxes child_box in
    let each : All (λ child. lengths_of child ≤ 5 * 2 ^ 34) (map child_box boxes) =
    All-map (λ child. lengths_of child ≤ 5 * 2 ^ 34) child_box boxes (λ k d lt. let n = (near k d lt).part in lengths_in _ _ n.block n.kind) in
    let sum = sum_by-le lengths_of (5 * 2 ^ 34) (map child_box boxes) each in
    omega arith

-- ---- where they are set down

pub set_down_is : (own : Containing) (size : ℤ) (boxes : List LaidBox) (laid : List Laid) (places : List ℤ) → AreLaid boxes laid
    → set_down own size (map as_laid boxes) places ≡ set_down own size laid places
set_down_is own size [] [] places are = refl
set_down_is own size [] (l ∷ laid) places are = absurd are
set_down_is own size (b ∷ boxes) [] places are = absurd are
set_down_is own size (b ∷ boxes) (l ∷ laid) [] are = refl
set_down_is own size (b ∷ boxes) (l ∷ laid) (place ∷ places) are =
    ap (put own size (as_laid b) place) (set_down_is own size boxes laid places are.1)
    ∙ ap (λ (s : Style). at (inline_place own size s (part_of b.fragment).rect.inline) place (part_of b.fragment) (set_down own size laid places)) are.0.style
    ∙ ap (λ (p : Part). at (inline_place own size l.style p.rect.inline) place p (set_down own size laid places)) are.0.part

abbrev rect_with : ℤ → ℤ → ℤ → ℤ → FlowRect
rect_with i b along across = record { i = i; b = b; inline = along; block = across }

-- one more is set down
pub set_more : (own : Containing) (size : ℤ) (boxes : List LaidBox) (places : List ℤ) (k : ℕ) (b : LaidBox) (d : ℤ) → k < length boxes → length places ≡ length boxes → b ≡ get_or boxes k b
    → set_down own size (drop k (map as_laid boxes)) (drop k places) ≡ put own size (as_laid b) (get_or places k d) (set_down own size (drop (suc k) (map as_laid boxes)) (drop (suc k) places))
set_more own size [] places k b d lt many is = absurd (omega arith)
set_more own size (x ∷ boxes) [] k b d lt many is = absurd (omega arith)
set_more own size (x ∷ boxes) (p ∷ places) zero b d lt many is = ap (λ (o : LaidBox). put own size (as_laid o) p (set_down own size (map as_laid boxes) places)) (sym is)
set_more own size (x ∷ boxes) (p ∷ places) (suc k) b d lt many is = set_more own size boxes places k b d (omega arith) (omega arith) is

-- all are set down
pub set_all : (own : Containing) (size : ℤ) (boxes : List LaidBox) (places : List ℤ) (k : ℕ) → length boxes ≤ k → set_down own size (drop k (map as_laid boxes)) (drop k places) ≡ none
set_all own size boxes places k past =
    let many = length-map boxes as_laid in
    ap (λ (laid : List Laid). set_down own size laid (drop k places)) (drop_all k (map as_laid boxes) (omega arith))

pub same_down : (one own : Containing) (held size : ℤ) (laid : List Laid) (places : List ℤ) → one ≡ own → held ≡ size → set_down one held laid places ≡ set_down own size laid places
same_down one own held size laid places p q = ap (λ (o : Containing). set_down o held laid places) p ∙ ap (λ z. set_down own z laid places) q

-- ---- how far they reach, with all inside them

pub placed_spread : (i b along across : ℤ) (kind : Kind) (far inner : ℕ) → IsNearKind kind → unsigned_abs i ≤ far → unsigned_abs b ≤ far → unsigned_abs along ≤ 2 ^ 36 → unsigned_abs across ≤ 2 ^ 36
    → spread_in (rect_with i b along across) kind inner ≤ far + 5 * 2 ^ 36 + inner
placed_spread i b along across (block mode dir content definite start end_ through) far inner near there down wide high =
    let x = near.0.i in let y = near.0.b in let w = near.0.inline in let h = near.0.block in omega arith
placed_spread i b along across (line index base mode baseline) far inner near there down wide high = omega arith
placed_spread i b along across span far inner near there down wide high = omega arith
placed_spread i b along across (run form level natural units) far inner near there down wide high = omega arith
placed_spread i b along across (measure min max) far inner near there down wide high = omega arith

set_spread : (own : Containing) (size : ℤ) (boxes : List LaidBox) (places : List ℤ) (far reach : ℕ) → IsBase (Some size) → 2 ^ 36 + 2 ^ 34 ≤ far → All IsNearLaid boxes → All (HasReach reach) boxes
    → All (λ place. unsigned_abs place ≤ far) places → spread (set_down own size (map as_laid boxes) places) ≤ far + 5 * 2 ^ 36 + reach
set_spread own size [] places far reach base room near deep there = omega arith
set_spread own size (b ∷ boxes) [] far reach base room near deep there = omega arith
set_spread own size (b ∷ boxes) (p ∷ places) far reach base room near deep there =
    let n : IsNearLaid b = near 0 b (omega arith) in
    let d : HasReach reach b = deep 0 b (omega arith) in
    let t : unsigned_abs p ≤ far = there 0 p (omega arith) in
    let part : Part = part_of b.fragment in
    let i = place_near own size b.style part.rect.inline n.style base n.part.inline in
    let first = placed_spread (inline_place own size b.style part.rect.inline) p part.rect.inline part.rect.block part.kind far (spread part.inner) n.part.kind (omega arith) t n.part.inline n.part.block in
    let others = set_spread own size boxes places far reach base room (All-tail IsNearLaid b boxes near) (All-tail (HasReach reach) b boxes deep) (All-tail (λ place. unsigned_abs place ≤ far) p places there) in
    omega arith

stacked_spread : (own : Containing) (size : ℤ) (boxes : List LaidBox) (places : List ℤ) (reach : ℕ) → IsBase (Some size) → All IsNearLaid boxes → All (HasReach reach) boxes
    → All (λ place. unsigned_abs place ≤ length boxes * (5 * 2 ^ 34)) places → spread (set_down own size (map as_laid boxes) places) ≤ reach + (length boxes + 1) * 2 ^ 38
stacked_spread own size [] places reach base near deep there = omega arith
stacked_spread own size (b ∷ boxes) places reach base near deep there =
    let all = set_spread own size (b ∷ boxes) places (length (b ∷ boxes) * (5 * 2 ^ 34)) reach base (omega arith) near deep there in
    omega arith

pub stack_reach : (own : Containing) (held size : ℤ) (boxes : List LaidBox) (children : List ChildBox) (places : List ℤ) (parts : Pieces) (stacked : Stacked) (reach : ℕ) → held ≡ size → IsBase (Some size)
    → children ≡ map child_box boxes → All IsNearLaid boxes → All (HasReach reach) boxes → IsWithin (sum_by lengths_of children) stacked → places ≡ stacked.places
    → parts ≡ set_down own held (map as_laid boxes) places → spread parts ≤ reach + (length boxes + 1) * 2 ^ 38
stack_reach own held size boxes children places parts stacked reach same base made near deep within at down =
    let few = children_near boxes near in
    let far : sum_by lengths_of children ≤ length boxes * (5 * 2 ^ 34) = (let P : List ChildBox → Type 0 = λ cs. sum_by lengths_of cs ≤ length boxes * (5 * 2 ^ 34) in subst P (sym made) few) in
    let P : List ℤ → Type 0 = λ ps. All (λ place. unsigned_abs place ≤ length boxes * (5 * 2 ^ 34)) ps in
    let there : P places = subst P (sym at) (λ k d lt. let place = within.places k d lt in omega arith) in
    let Q : Pieces → Type 0 = λ ps. spread ps ≤ reach + (length boxes + 1) * 2 ^ 38 in
    subst Q (sym (down ∙ ap (λ (z : ℤ). set_down own z (map as_laid boxes) places) same)) (stacked_spread own size boxes places reach base near deep there)

-- ---- a stack of them

pub few_near : (boxes : List LaidBox) (children : List ChildBox) → children ≡ map child_box boxes → All IsNearLaid boxes → length boxes ≤ 2 ^ 18 → sum_by lengths_of children ≤ 2 ^ 60
few_near boxes children is near few =
    let P : List ChildBox → Type 0 = λ cs. sum_by lengths_of cs ≤ 2 ^ 60 in
    let all = children_near boxes near in
    subst P (sym is) (omega arith)

abbrev filled_with : Vec Fragment → ℤ → Margins → Margins → Bool → Bool → code.Filling
filled_with parts extent start finish lines through = record { parts = parts; extent = extent; start = start; end = finish; lines = lines; through = through }

-- the children of a parent with these edges come to such a stack
abbrev pub Stacks : ParentEdges → List ChildBox → Stacked → Type 0
Stacks joins children stacked = (list : List Child) → AreChildren children list → IsStackOf joins list stacked

pub stack_is : (own : Containing) (joins : ParentEdges) (size : ℤ) (boxes : List LaidBox) (laid : List Laid) (children : List ChildBox) (stacked : Stacked) (places : List ℤ) (parts : Vec Fragment) (extent : ℤ) (start finish : Margins) (through : Bool)
    → AreLaid boxes laid → children ≡ map child_box boxes → Stacks joins children stacked
    → places ≡ stacked.places → pieces_of parts.items ≡ set_down own size (map as_laid boxes) places → extent ≡ stacked.extent → start ≡ stacked.start → finish ≡ stacked.end_ → through ≡ stacked.through
    → IsFilled (filled_with parts extent start finish false through) (stack own joins size laid)
unfolding stack
stack_is own joins size boxes laid children stacked places parts extent start finish through are made by at down e s f t =
    let P : List ChildBox → Type 0 = λ cs. AreChildren cs (map child_of laid) in
    let is = by (map child_of laid) (subst P (sym made) (children_stand boxes laid are)) in
    record {
      parts = down ∙ set_down_is own size boxes laid places are ∙ ap (set_down own size laid) (at ∙ is.places_are);
      extent = e ∙ is.extent_is;
      start = (let Q : Margins → Type 0 = λ m. IsPairOf m (stacking.stacked joins.start_joins (map child_of laid)).start_margins in subst Q (sym s) is.start_is);
      end_ = (let Q : Margins → Type 0 = λ m. IsPairOf m (stacking.handed joins.end_joins (stacking.stacked joins.start_joins (map child_of laid))) in subst Q (sym f) is.end_is);
      lines = refl;
      through = t ∙ is.through_is;
    }

-- ---- a paragraph of them

abbrev laid_with : Style → Part → Laid
laid_with style part = record { style = style; flowed = record { part = part; starts = []; ends = []; through = false } }

pub atoms_are : (paragraph : Style) (size : ℤ) (boxes : List LaidBox) (laid : List Laid) → AreLaid boxes laid
    → map (λ own. atom_in paragraph size (as_laid own)) boxes ≡ map (atom_in paragraph size) laid
atoms_are paragraph size [] [] are = refl
atoms_are paragraph size [] (l ∷ laid) are = absurd are
atoms_are paragraph size (b ∷ boxes) [] are = absurd are
atoms_are paragraph size (b ∷ boxes) (l ∷ laid) are =
    let one : atom_in paragraph size (as_laid b) ≡ atom_in paragraph size l =
    ap (λ (s : Style). atom_in paragraph size (laid_with s (part_of b.fragment))) are.0.style ∙ ap (λ (p : Part). atom_in paragraph size (laid_with l.style p)) are.0.part in
    ap (λ (a : Atom). a ∷ map (λ own. atom_in paragraph size (as_laid own)) boxes) one
    ∙ ap (λ (others : List Atom). atom_in paragraph size l ∷ others) (atoms_are paragraph size boxes laid are.1)
