-- Lines one under the other, and what fills a box.
use Rattle.std.proofs.Common.{◌≡◌, ◌∙◌, refl, sym, ap, subst, arith, ℕ, suc, ◌+◌, ◌-◌, ◌*◌, ◌<◌, ◌≤◌, ◌^◌, ◌==◌, true, false, Bool, not, List, [], ◌∷◌, ◌++◌, length, map, take, get_or, Option, Some, ℤ, pos, ◌+ℤ◌}
use Rattle.std.specs.Prelude.{All, slice_get}
use Rattle.std.specs.Global.{Vec}
use Rattle.std.proofs.Math.Dec.{eqb-suc-zero}
use Rattle.std.proofs.lemmas.Int.{ints}
use Rattle.std.proofs.lemmas.List.{length-map, map-append}
use Rattle.std.proofs.lemmas.List.Elements.{All-cons, All-map, All-nil, All-tail}
use Rattle.margin_collapse.specs.declared.margins.Margins.{Margins}
use Rattle.margin_collapse.specs.Pairs.{IsPairOf}
use Rattle.std.proofs.lemmas.Option.{same_Some}
use Rattle.face_api.specs.Table.{Table}
use Rattle.wm_modes.specs.declared.rects.FlowRect.{FlowRect}
use Rattle.fragment_types.specs.declared.fragment.Fragment.{Fragment}
use Rattle.fragment_types.specs.Fragment.{Kind, Pieces, block, line, measure, none, piece, pieces_of, run, span}
use Rattle.fragment_types.specs.declared.item.BoxName.{BoxName}
use Rattle.style_types.specs.declared.style.Style.{Style}
use Rattle.fragment_types.specs.Item.{Entry}
use Rattle.block_flow.specs.declared.boxes.ParentEdges.{ParentEdges}
use Rattle.box_gen.specs.Tree.{Content, blocks, inline}
use Rattle.line_place.specs.Reach.{total}
use Rattle.line_place.specs.Spread.{inside_in, spread}
use Rattle.line_place.proofs.Fragments.{as_piece}
use Rattle.para_lines.specs.declared.paragraph.Atom as code
use Rattle.para_lines.specs.declared.paragraph.Container.{Container}
use Rattle.para_lines.specs.Lines.{Atom, Standing, lines_from, paragraph_lines}
use Rattle.para_lines.specs.Paragraph.{atom_of}
use Rattle.para_lines.specs.Reach.{IsBoxed, IsInReach, atom_reach}
use Rattle.para_prepare.specs.Preparation.{Preparation, atoms_in}
use Rattle.relayout.specs.declared.flowed.LaidBox.{LaidBox}
use Rattle.relayout.specs.declared.content.Filling as code_filled
use Rattle.relayout.specs.Atoms.{atom_in}
use Rattle.relayout.specs.Content.{AreStacked, IsFilled, are_some, block_extent, filled, lines_in, paragraph, stack}
use Rattle.relayout.specs.Intrinsic.{IsTextOf, prepared}
use Rattle.relayout.specs.Sizes.{containing_of}
use Rattle.relayout.specs.Fit.{room_in}
use Rattle.relayout.specs.Flowed.{AreLaid, HasMargins, IsLaid, Laid, Part, as_laid, part_of}
use Rattle.relayout.specs.Near.{HasReach, IsNearKind, IsNearLaid}
use Rattle.relayout.specs.Paragraph.{IsReady}
use Rattle.relayout.proofs.AtomLaws.{take_next}
use Rattle.relayout.proofs.LaidLaws.{atoms_are}

-- ---- one under the other

chained_from : (tables : List (Option Table)) (container : Container) (entries : List Entry) (ends : List ℕ) (index from : ℕ) (y : ℤ) (first : List ℕ) (standings : List Standing)
    → AreStacked y (lines_from tables container entries index from y first standings ends)
chained_from tables container entries [] index from y first standings = tt
chained_from tables container entries (end_ ∷ ends) index from y first standings = (refl, chained_from tables container entries ends _ _ _ _ _)

pub chained : (tables : List (Option Table)) (container : Container) (entries : List Entry) (text : Preparation) (atoms : List Atom) → AreStacked (pos 0) (paragraph_lines tables container entries text atoms)
unfolding paragraph_lines
chained tables container entries text atoms = chained_from tables container entries _ _ _ _ _ _

first_there : (x : Fragment) (fs : List Fragment) (y : ℤ) → AreStacked y (pieces_of (x ∷ fs))
    → ((part_of x).rect.b ≡ y) × AreStacked (y +ℤ (part_of x).rect.block) (pieces_of fs)
first_there x fs y ch = let P : Pieces → Type 0 = λ ps. AreStacked y ps in subst P (as_piece x (pieces_of fs)) ch

extent_first : (x : Fragment) (fs : List Fragment) → block_extent (pieces_of (x ∷ fs)) ≡ (part_of x).rect.block +ℤ block_extent (pieces_of fs)
extent_first x fs = ap block_extent (as_piece x (pieces_of fs))

-- the last one ends where all do
pub last_end : (fs : List Fragment) (y : ℤ) (f : Fragment) → AreStacked y (pieces_of fs) → slice_get fs (length fs - 1) ≡ Some f → (part_of f).rect.b +ℤ (part_of f).rect.block ≡ y +ℤ block_extent (pieces_of fs)
last_end [] y f ch is = absurd (cc)
last_end (x ∷ []) y f ch is =
    let same : x ≡ f = same_Some x f is in
    let h = first_there x [] y ch in
    let e = extent_first x [] in
    ap (λ (g : Fragment). (part_of g).rect.b +ℤ (part_of g).rect.block) (sym same) ∙ rw (h.0, e) (omega (arith, ints))
last_end (x ∷ z ∷ fs) y f ch is =
    let n : length (x ∷ z ∷ fs) - 1 ≡ suc (length (z ∷ fs) - 1) = omega arith in
    let h = first_there x (z ∷ fs) y ch in
    let e = extent_first x (z ∷ fs) in
    last_end (z ∷ fs) (y +ℤ (part_of x).rect.block) f h.1 (sym (ap (slice_get (x ∷ z ∷ fs)) n) ∙ is) ∙ rw e (omega (arith, ints))

pub no_more : (z : ℤ) → pos 0 +ℤ z ≡ z
no_more z = omega (arith, ints)

pub lines_there : (fs : List Fragment) (tables : List (Option Table)) (container : Container) (entries : List Entry) (text : Preparation) (atoms : List Atom)
    → pieces_of fs ≡ paragraph_lines tables container entries text atoms → AreStacked (pos 0) (pieces_of fs)
lines_there fs tables container entries text atoms is = let P : Pieces → Type 0 = λ ps. AreStacked (pos 0) ps in subst P (sym is) (chained tables container entries text atoms)

pub some_lines : (fs : List Fragment) (empty : Bool) → empty ≡ (length fs == 0) → not empty ≡ are_some (pieces_of fs)
some_lines [] empty is = ap not is
some_lines (x ∷ fs) empty is =
    let e : empty ≡ false = is ∙ eqb-suc-zero (length fs) in
    ap not e ∙ sym (ap are_some (as_piece x (pieces_of fs)))

-- ---- the lengths of atoms together

pub atoms_near : (atoms : List code.Atom) → All (λ atom. atom_reach (atom_of atom) ≤ 5 * 2 ^ 36) atoms → total atom_reach (map atom_of atoms) ≤ length atoms * (5 * 2 ^ 36)
atoms_near [] near = omega arith
atoms_near (atom ∷ atoms) near =
    let P : code.Atom → Type 0 = λ a. atom_reach (atom_of a) ≤ 5 * 2 ^ 36 in
    let first : atom_reach (atom_of atom) ≤ 5 * 2 ^ 36 = near 0 atom (omega arith) in
    let others = atoms_near atoms (All-tail P atom atoms near) in
    omega arith

pub many_atoms : (f : LaidBox → Atom) (atoms : List code.Atom) (boxes : List LaidBox) → map atom_of atoms ≡ map f boxes → length atoms ≡ length boxes
many_atoms f atoms boxes is = sym (length-map atoms atom_of) ∙ ap length is ∙ length-map boxes f

-- ---- the atoms of a paragraph, one by one

pub one_more_atom : (f : LaidBox → Atom) (made : List code.Atom) (atom : code.Atom) (boxes : List LaidBox) (k : ℕ) (b : LaidBox) → k < length boxes → b ≡ get_or boxes k b
    → map atom_of made ≡ map f (take k boxes) → atom_of atom ≡ f b → map atom_of (made ++ atom ∷ []) ≡ map f (take (k + 1) boxes)
one_more_atom f made atom boxes k b lt is made_are one =
    let more : take (k + 1) boxes ≡ take k boxes ++ b ∷ [] = ap (λ n. take n boxes) (add_one k) ∙ take_next boxes k b lt ∙ ap (λ x. take k boxes ++ x ∷ []) (sym is) in
    map-append atom_of made (atom ∷ []) ∙ rw (made_are, one) refl ∙ sym (ap (map f) more ∙ map-append f (take k boxes) (b ∷ [])) where
      add_one : (n : ℕ) → n + 1 ≡ suc n
      add_one n = omega arith

-- ---- a paragraph

abbrev filled_with : Vec Fragment → ℤ → Margins → Margins → Bool → Bool → code_filled.Filling
filled_with parts extent start finish lines through = record { parts = parts; extent = extent; start = start; end = finish; lines = lines; through = through }

pub paragraph_is : (tables : List (Option Table)) (container : Container) (entries : List Entry) (text : Preparation) (boxes : List LaidBox) (laid : List Laid) (atoms : List Atom) (parts : Vec Fragment)
    (extent : ℤ) (start finish : Margins) (empty : Bool) → AreLaid boxes laid → atoms ≡ map (λ own. atom_in container.style container.size (as_laid own)) boxes
    → pieces_of parts.items ≡ paragraph_lines tables container entries text atoms → extent ≡ block_extent (pieces_of parts.items) → IsPairOf start [] → IsPairOf finish [] → empty ≡ (length parts.items == 0)
    → IsFilled (filled_with parts extent start finish (not empty) true) (lines_in tables container entries text laid)
paragraph_is tables container entries text boxes laid atoms parts extent start finish empty are made is e s f none_there =
    let whole : pieces_of parts.items ≡ paragraph_lines tables container entries text (map (atom_in container.style container.size) laid) =
    is ∙ ap (paragraph_lines tables container entries text) (made ∙ atoms_are container.style container.size boxes laid are) in
    record {
      parts = whole;
      extent = e ∙ ap block_extent whole;
      start = s;
      end_ = f;
      lines = some_lines parts.items empty none_there ∙ ap are_some whole;
      through = refl;
    }

-- ---- how far its lines reach

boxed_kind : (name : BoxName) (rect : FlowRect) (kind : Kind) (inner : Pieces) (starts ends : List ℤ) (through : Bool) → HasMargins kind starts ends through → IsBoxed (piece name rect kind inner none)
boxed_kind name rect (block mode dir content definite start end_ own) inner starts ends through has = tt
boxed_kind name rect (line index base mode baseline) inner starts ends through has = absurd has
boxed_kind name rect span inner starts ends through has = absurd has
boxed_kind name rect (run form level natural units) inner starts ends through has = absurd has
boxed_kind name rect (measure min max) inner starts ends through has = absurd has

inside_near : (kind : Kind) (inner reach : ℕ) → IsNearKind kind → inner ≤ reach → inside_in kind inner ≤ 3 * 2 ^ 36 + reach
inside_near (block mode dir content definite start end_ through) inner reach near deep =
    let x = near.0.i in let y = near.0.b in let w = near.0.inline in let h = near.0.block in omega arith
inside_near (line index base mode baseline) inner reach near deep = omega arith
inside_near span inner reach near deep = omega arith
inside_near (run form level natural units) inner reach near deep = omega arith
inside_near (measure min max) inner reach near deep = omega arith

-- the inline-block of a box that has been laid out
atom_in_reach : (paragraph : Style) (size : ℤ) (own : LaidBox) (laid : Laid) (reach : ℕ) → IsLaid own laid → IsNearLaid own → HasReach reach own → atom_reach (atom_in paragraph size (as_laid own)) ≤ 5 * 2 ^ 36
    → IsInReach (5 * 2 ^ 36) (3 * 2 ^ 36 + reach) (atom_in paragraph size (as_laid own))
atom_in_reach paragraph size own laid reach is near deep lengths =
    let part : Part = part_of own.fragment in
    let flowed = laid.flowed in
    let P : Part → Type 0 = λ p. HasMargins p.kind flowed.starts flowed.ends flowed.through in
    let inner = inside_near part.kind (spread part.inner) reach near.part.kind deep in
    let rect : FlowRect = record { i = pos 0; b = pos 0; inline = part.rect.inline; block = part.rect.block } in
    record { boxed = boxed_kind part.name rect part.kind part.inner flowed.starts flowed.ends flowed.through (subst P (sym is.part) is.margins); lengths = lengths; inner = omega arith }

atoms_in_reach : (paragraph : Style) (size : ℤ) (boxes : List LaidBox) (list : List Laid) (reach : ℕ) → AreLaid boxes list → All IsNearLaid boxes → All (HasReach reach) boxes
    → All (λ atom. atom_reach atom ≤ 5 * 2 ^ 36) (map (λ own. atom_in paragraph size (as_laid own)) boxes)
    → All (IsInReach (5 * 2 ^ 36) (3 * 2 ^ 36 + reach)) (map (λ own. atom_in paragraph size (as_laid own)) boxes)
atoms_in_reach paragraph size [] [] reach are near deep lengths = All-nil (IsInReach (5 * 2 ^ 36) (3 * 2 ^ 36 + reach))
atoms_in_reach paragraph size [] (l ∷ list) reach are near deep lengths = absurd are
atoms_in_reach paragraph size (b ∷ boxes) [] reach are near deep lengths = absurd are
atoms_in_reach paragraph size (b ∷ boxes) (l ∷ list) reach are near deep lengths =
    let own : Atom = atom_in paragraph size (as_laid b) in
    let atoms : List Atom = map (λ own. atom_in paragraph size (as_laid own)) boxes in
    All-cons (IsInReach (5 * 2 ^ 36) (3 * 2 ^ 36 + reach)) own atoms (atom_in_reach paragraph size b l reach are.0 (near 0 b (omega arith)) (deep 0 b (omega arith)) (lengths 0 own (omega arith)))
    (atoms_in_reach paragraph size boxes list reach are.1 (All-tail IsNearLaid b boxes near) (All-tail (HasReach reach) b boxes deep) (All-tail (λ (atom : Atom). atom_reach atom ≤ 5 * 2 ^ 36) own atoms lengths))

pub paragraph_reach : (style : Style) (size : ℤ) (boxes : List LaidBox) (list : List Laid) (made_atoms atoms : List code.Atom) (entries : List Entry) (ready : Preparation) (count far reach : ℕ) → count ≡ length entries
    → IsReady entries ready → atoms ≡ made_atoms → map atom_of made_atoms ≡ map (λ own. atom_in style size (as_laid own)) boxes → All (λ atom. atom_reach (atom_of atom) ≤ 5 * 2 ^ 36) made_atoms
    → ((each most : ℕ) → All (IsInReach each most) (map atom_of atoms)
    → far ≤ count * (5 * 2 ^ 39) + length ready.items * 2 ^ 36 + atoms_in ready.items * (16 * each + 2 ^ 38) + most)
    → AreLaid boxes list → All IsNearLaid boxes → All (HasReach reach) boxes → far ≤ reach + room_in (inline entries) + 2 ^ 38
paragraph_reach style size boxes list made_atoms atoms entries ready count far reach many has same made lengths by are near deep =
    let P : List Atom → Type 0 = λ xs. All (λ atom. atom_reach atom ≤ 5 * 2 ^ 36) xs in
    let Q : List Atom → Type 0 = λ xs. All (IsInReach (5 * 2 ^ 36) (3 * 2 ^ 36 + reach)) xs in
    let all = atoms_in_reach style size boxes list reach are near deep (subst P made (All-map (λ (atom : Atom). atom_reach atom ≤ 5 * 2 ^ 36) atom_of made_atoms lengths)) in
    let within = by (5 * 2 ^ 36) (3 * 2 ^ 36 + reach) (subst Q (sym (ap (map atom_of) same ∙ made)) all) in
    let items = has.count in
    let few = has.atoms in
    omega arith

-- ---- what fills a box

pub filled_blocks : (tables : List (Option Table)) (name : BoxName) (style : Style) (joins : ParentEdges) (size s : ℤ) (content : Content) (laid : List Laid) (own : code_filled.Filling) → content ≡ blocks → s ≡ size
    → IsFilled own (stack (containing_of style) joins s laid) → IsFilled own (filled tables name style joins size content laid)
unfolding filled
filled_blocks tables name style joins size s content laid own is same h =
    let P : Content → Type 0 = λ x. IsFilled own (filled tables name style joins size x laid) in
    let Q : ℤ → Type 0 = λ z. IsFilled own (stack (containing_of style) joins z laid) in
    subst P (sym is) (subst Q same h)

pub filled_paragraph : (tables : List (Option Table)) (name : BoxName) (style : Style) (joins : ParentEdges) (size s : ℤ) (content : Content) (entries : List Entry) (given : Option Preparation) (text : Preparation)
    (laid : List Laid) (own : code_filled.Filling) → content ≡ inline entries → s ≡ size → given ≡ Some text → IsTextOf tables style content given
    → IsFilled own (lines_in tables (record { name = name; style = style; size = s }) entries text laid) → IsFilled own (filled tables name style joins size content laid)
unfolding filled paragraph
filled_paragraph tables name style joins size s content entries given text laid own is same there ready h =
    let P : Content → Type 0 = λ x. IsFilled own (filled tables name style joins size x laid) in
    let T : Content → Type 0 = λ x. IsTextOf tables style x given in
    let e : text ≡ prepared tables style entries = same_Some text (prepared tables style entries) (sym there ∙ subst T is ready) in
    let Q : ℤ → Type 0 = λ z. IsFilled own (lines_in tables (record { name = name; style = style; size = z }) entries (prepared tables style entries) laid) in
    let R : Preparation → Type 0 = λ t. IsFilled own (lines_in tables (record { name = name; style = style; size = s }) entries t laid) in
    subst P (sym is) (subst Q same (subst R e h))
