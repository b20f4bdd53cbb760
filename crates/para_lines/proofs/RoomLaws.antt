-- The items of a paragraph on their way to its lines: how many there are, and how far they reach.
use Rattle.std.proofs.Common.{◌≡◌, ◌∙◌, refl, sym, ap, arith, subst, ℕ, suc, ◌+◌, ◌*◌, ◌≤◌, ◌^◌, List, [], ◌∷◌, length, map, get_or, take, Option, Some, ℤ, pos, unsigned_abs}
use Rattle.std.specs.Prelude.{All, ⊤}
use Rattle.std.proofs.lemmas.Int.{ints}
use Rattle.std.proofs.lemmas.List.{length-map, take_all}
use Rattle.std.proofs.lemmas.List.Sums.{sum_by-cons}
use Rattle.std.proofs.lemmas.List.Elements.{All-cons}
use Rattle.face_api.specs.Table.{Table}
use Rattle.wm_chars.specs.declared.classes.BidiClass.{BidiClass}
use Rattle.fragment_types.specs.declared.breaking.Breaking.{Breaking}
use Rattle.fragment_types.specs.Fragment.{Pieces}
use Rattle.fragment_types.specs.declared.item.Item.{Item}
use Rattle.fragment_types.specs.Item.{Entry, entries_of, entry_of}
use Rattle.line_fill.specs.declared.item.FillItem.{FillItem}
use Rattle.line_fill.specs.Filling.{Divide, lines}
use Rattle.line_place.specs.Reach.{total}
use Rattle.para_prepare.specs.declared.item.PreparedItem.{PreparedItem}
use Rattle.para_prepare.specs.declared.item.PreparedContent.{PreparedContent}
use Rattle.para_prepare.specs.declared.item.PreparedContent.TheVariants.{Unit, Combined, Atom, Break}
use Rattle.para_prepare.specs.Preparation.{AreFrom, HasBounds as prepared_bounds, Preparation}
use Rattle.para_lines.specs.Standing as code
use Rattle.para_lines.specs.declared.paragraph.Atom as code_atom
use Rattle.para_lines.specs.declared.paragraph.Container.{Container}
use Rattle.para_lines.specs.declared.filled.ParagraphInput as code_input
use Rattle.para_lines.specs.declared.prepared.PreparedLists as code_lists
use Rattle.para_lines.specs.Boxes.{AreBounded, HasBounds, chain_at}
use Rattle.para_lines.specs.Conditions.{IsSetting}
use Rattle.para_lines.specs.Filled.{IsFilled, fills_in}
use Rattle.para_lines.specs.Filling.{advance_of, fill_items, fill_items_from, item_chains, past}
use Rattle.para_lines.specs.Line.{IsAble, IsNearAtom, RiseIn, standing_of}
use Rattle.para_lines.specs.Lines as rule
use Rattle.para_lines.specs.Lines.{Standing, atom_extents, lines_from, no_atom, paragraph_lines, standings_by}
use Rattle.para_lines.specs.Paragraph.{IsContainer, atom_of}
use Rattle.para_lines.specs.Prepared.{AreSources, preparation_of}
use Rattle.para_lines.specs.Reach.{AreNear, HasAdvance, Rise, atom_part, atom_reach, lengths_of, standing_reach}
use Rattle.para_lines.proofs.PreparedLaws.{prepared_near, sources_there}
use Rattle.para_lines.proofs.Spreading.{AdvanceAll, all_advance}
use Rattle.para_lines.proofs.StandLaws.{AreWhole, advances}

-- ---- as many as there are items

fill_count : (inline : Option ℤ) (entries : List Entry) (before : List ℕ) (items : List PreparedItem) (breaks : List Breaking) (advances : List ℤ) → length breaks ≡ length items
    → length (fill_items_from inline entries before items breaks (item_chains entries items) advances) ≡ length items
fill_count inline entries before [] breaks advances same = refl
fill_count inline entries before (item ∷ items) [] advances same = absurd (omega arith)
fill_count inline entries before (item ∷ items) (end_ ∷ breaks) advances same = ap suc (fill_count inline entries (chain_at entries item.source) items breaks (past item.what advances) (omega arith))

pub fills_count : (inline : Option ℤ) (entries : List Entry) (prepared : Preparation) (advances : List ℤ) → length prepared.breaks ≡ length prepared.items → length (fill_items inline entries prepared advances) ≡ length prepared.items
unfolding fill_items
fills_count inline entries prepared advances same = fill_count inline entries [] prepared.items prepared.breaks advances same

pub standings_count : (entries : List Entry) (items : List PreparedItem) (levels : List ℕ) (classes : List BidiClass) (bases : List ℕ) (extents : List ℤ) (atoms : List rule.Atom)
    → length levels ≡ length items → length classes ≡ length items → length bases ≡ length items → length extents ≡ length items
    → length (standings_by items levels classes bases extents (item_chains entries items) atoms) ≡ length items
standings_count entries [] levels classes bases extents atoms a b c d = refl
standings_count entries (item ∷ items) [] classes bases extents atoms a b c d = absurd (omega arith)
standings_count entries (item ∷ items) (level ∷ levels) [] bases extents atoms a b c d = absurd (omega arith)
standings_count entries (item ∷ items) (level ∷ levels) (class ∷ classes) [] extents atoms a b c d = absurd (omega arith)
standings_count entries (item ∷ items) (level ∷ levels) (class ∷ classes) (base ∷ bases) [] atoms a b c d = absurd (omega arith)
standings_count entries (item ∷ items) (level ∷ levels) (class ∷ classes) (base ∷ bases) (extent ∷ extents) atoms a b c d =
    ap suc (standings_count entries items levels classes bases extents (past item.what atoms) (omega arith) (omega arith) (omega arith) (omega arith))

-- ---- in order

abbrev Rises : (from : ℕ) → List Standing → Type 0
Rises from [] = ⊤
Rises from (s ∷ standings) = (from ≤ s.item.source) × Rises s.item.source standings

rises_by : (entries : List Entry) (from : ℕ) (items : List PreparedItem) (levels : List ℕ) (classes : List BidiClass) (bases : List ℕ) (extents : List ℤ) (atoms : List rule.Atom)
    → Rise from items → Rises from (standings_by items levels classes bases extents (item_chains entries items) atoms)
rises_by entries from [] levels classes bases extents atoms h = tt
rises_by entries from (item ∷ items) [] classes bases extents atoms h = tt
rises_by entries from (item ∷ items) (level ∷ levels) [] bases extents atoms h = tt
rises_by entries from (item ∷ items) (level ∷ levels) (class ∷ classes) [] extents atoms h = tt
rises_by entries from (item ∷ items) (level ∷ levels) (class ∷ classes) (base ∷ bases) [] atoms h = tt
rises_by entries from (item ∷ items) (level ∷ levels) (class ∷ classes) (base ∷ bases) (extent ∷ extents) atoms h =
    (h.0, rises_by entries item.source items levels classes bases extents (past item.what atoms) h.1)

rises_in : (entries : List Entry) (from : ℕ) (standings : List code.Standing) → Rises from (map (standing_of entries) standings) → RiseIn from standings
rises_in entries from [] h = tt
rises_in entries from (s ∷ standings) h = (h.0, rises_in entries s.item.source standings h.1)

pub standings_rise : (entries : List Entry) (standings : List code.Standing) (items : List PreparedItem) (levels : List ℕ) (classes : List BidiClass) (bases : List ℕ) (extents : List ℤ) (atoms : List rule.Atom)
    → map (standing_of entries) standings ≡ standings_by items levels classes bases extents (item_chains entries items) atoms → Rise 0 items → RiseIn 0 standings
standings_rise entries standings items levels classes bases extents atoms is h =
    let P : List Standing → Type 0 = λ ss. Rises 0 ss in
    rises_in entries 0 standings (subst P (sym is) (rises_by entries 0 items levels classes bases extents atoms h))

-- ---- how far they reach

one_reach : (what : PreparedContent) (atoms : List rule.Atom) → HasAdvance what
    → unsigned_abs (advance_of what (atom_extents atoms)) + atom_part what (get_or atoms 0 no_atom) + total atom_reach (past what atoms) ≤ 655360 + 2 ^ 33 + total atom_reach atoms
one_reach (Unit form space node first end_ advance glyphs) atoms h = omega arith
one_reach (Combined node first end_ advance natural glyphs) atoms h = omega arith
one_reach (Break node) atoms h = omega (arith, ints)
one_reach (Atom name) [] h = omega (arith, ints)
one_reach (Atom name) (atom ∷ atoms) h = omega arith

pub past_extents : (what : PreparedContent) (atoms : List rule.Atom) → past what (atom_extents atoms) ≡ atom_extents (past what atoms)
past_extents (Unit form space node first end_ advance glyphs) atoms = refl
past_extents (Combined node first end_ advance natural glyphs) atoms = refl
past_extents (Break node) atoms = refl
past_extents (Atom name) [] = refl
past_extents (Atom name) (atom ∷ atoms) = refl

reach_by : (inline : Option ℤ) (entries : List Entry) (before : List ℕ) (items : List PreparedItem) (levels : List ℕ) (classes : List BidiClass) (bases : List ℕ) (breaks : List Breaking) (atoms : List rule.Atom) → AdvanceAll items
    → total standing_reach (standings_by items levels classes bases (map (λ item. item.advance) (fill_items_from inline entries before items breaks (item_chains entries items) (atom_extents atoms))) (item_chains entries items) atoms)
    ≤ length items * (655360 + 2 ^ 33) + total atom_reach atoms
reach_by inline entries before [] levels classes bases breaks atoms h = omega arith
reach_by inline entries before (item ∷ items) [] classes bases breaks atoms h = omega arith
reach_by inline entries before (item ∷ items) (level ∷ levels) [] bases breaks atoms h = omega arith
reach_by inline entries before (item ∷ items) (level ∷ levels) (class ∷ classes) [] breaks atoms h = omega arith
reach_by inline entries before (item ∷ items) (level ∷ levels) (class ∷ classes) (base ∷ bases) [] atoms h = omega arith
reach_by inline entries before (item ∷ items) (level ∷ levels) (class ∷ classes) (base ∷ bases) (end_ ∷ breaks) atoms h =
    let one = one_reach item.what atoms h.0 in
    let chain : List ℕ = chain_at entries item.source in
    let P : List ℤ → Type 0 = λ es.
    total standing_reach (standings_by items levels classes bases (map (λ item. item.advance) (fill_items_from inline entries chain items breaks (item_chains entries items) es)) (item_chains entries items) (past item.what atoms))
    ≤ length items * (655360 + 2 ^ 33) + total atom_reach (past item.what atoms) in
    let others = subst P (sym (past_extents item.what atoms)) (reach_by inline entries chain items levels classes bases breaks (past item.what atoms) h.1) in
    omega arith

pub standings_reach : (inline : Option ℤ) (entries : List Entry) (prepared : Preparation) (atoms : List rule.Atom) → All (λ item. HasAdvance item.what) prepared.items → length prepared.items ≤ 2 ^ 21 → total atom_reach atoms ≤ 2 ^ 57
    → total standing_reach (rule.standings entries prepared atoms (map (λ item. item.advance) (fill_items inline entries prepared (atom_extents atoms)))) ≤ 2 ^ 58
unfolding fill_items
standings_reach inline entries prepared atoms h few most =
    let r = reach_by inline entries [] prepared.items prepared.levels prepared.classes prepared.bases prepared.breaks atoms (all_advance prepared.items h) in
    omega arith

pub extents_reach : (atoms : List rule.Atom) → lengths_of (atom_extents atoms) ≤ total atom_reach atoms
extents_reach [] = omega arith
extents_reach (atom ∷ atoms) =
    let s = sum_by-cons unsigned_abs atom.extent (atom_extents atoms) in
    let h = extents_reach atoms in
    omega arith

pub atoms_near : (most : ℕ) (atoms : List code_atom.Atom) → total atom_reach (map atom_of atoms) ≤ most → most ≤ 2 ^ 59 → All IsNearAtom atoms
atoms_near most [] h le = λ k d lt. absurd (omega arith)
atoms_near most (atom ∷ atoms) h le = All-cons IsNearAtom atom atoms (record { over = omega arith; under = omega arith; shift = omega arith }) (atoms_near most atoms (omega arith) le)

-- ---- all lines

extents_are : (atoms : List code_atom.Atom) → map (λ (atom : code_atom.Atom). atom.extent) atoms ≡ atom_extents (map atom_of atoms)
extents_are [] = refl
extents_are (atom ∷ atoms) = ap (λ (es : List ℤ). atom.extent ∷ es) (extents_are atoms)

pub fills_are : (size s : ℤ) (entries : List Entry) (prepared : Preparation) (atoms : List code_atom.Atom) (given extents : List ℤ) (k : ℕ) (made : List FillItem) → made ≡ fill_items (Some s) entries prepared given → s ≡ size
    → given ≡ extents → extents ≡ map (λ (atom : code_atom.Atom). atom.extent) (take k atoms) → length atoms ≤ k → made ≡ fill_items (Some size) entries prepared (atom_extents (map atom_of atoms))
fills_are size s entries prepared atoms given extents k made is same g e past_ =
    is
    ∙ ap (λ (z : ℤ). fill_items (Some z) entries prepared given) same
    ∙ ap (fill_items (Some size) entries prepared) (g ∙ e ∙ ap (map (λ (atom : code_atom.Atom). atom.extent)) (take_all k atoms past_) ∙ extents_are atoms)

pub count_of : (entries : List Entry) (prepared : Preparation) (atoms : List rule.Atom) (inline : Option ℤ) (advances : List ℤ) (fills : List FillItem) (made : List code.Standing) → AreWhole prepared
    → fills ≡ fill_items inline entries prepared advances → map (standing_of entries) made ≡ rule.standings entries prepared atoms (map (λ (item : FillItem). item.advance) fills) → length made ≡ length prepared.items
count_of entries prepared atoms inline advances fills made whole is are =
    let a = length-map made (standing_of entries) in
    let b = length-map fills (λ (item : FillItem). item.advance) in
    let n : length fills ≡ length prepared.items = ap length is ∙ fills_count inline entries prepared advances whole.breaks in
    let e = ap length are in
    let s = standings_count entries prepared.items prepared.levels prepared.classes prepared.bases (map (λ (item : FillItem). item.advance) fills) atoms whole.levels whole.classes whole.bases (omega arith) in
    omega arith

-- ---- from a prepared paragraph to its lines

pub bounded_of : (boxes : List Entry) (items : List Item) → boxes ≡ entries_of items → length items ≤ 2 ^ 20 → All HasBounds (entries_of items) → AreBounded boxes
bounded_of boxes items are few bounds = let many = length-map items entry_of in subst AreBounded (sym are) (record { few = omega arith; bounds = bounds })

pub near_of : (lists : code_lists.PreparedLists) (prepared : Preparation) (count : ℕ) → preparation_of lists ≡ prepared → length prepared.items ≤ 2 ^ 21 → AreFrom 0 count prepared.items
    → All (λ item. prepared_bounds item.what) prepared.items → AreNear lists.items.now × (length lists.items.now ≤ 2 ^ 21)
near_of lists prepared count are few from lengths =
    let P : List PreparedItem → Type 0 = λ items. AreNear items × (length items ≤ 2 ^ 21) in
    subst P (sym (ap (λ (p : Preparation). p.items) are)) (prepared_near count prepared.items few from lengths, few)

pub sources_of : (lists : code_lists.PreparedLists) (prepared : Preparation) (boxes : List Entry) (items : List Item) → preparation_of lists ≡ prepared → boxes ≡ entries_of items → AreFrom 0 (length items) prepared.items
    → AreSources (length boxes) lists.items.now
sources_of lists prepared boxes items are same from =
    let P : List PreparedItem → Type 0 = λ is. AreSources (length boxes) is in
    let Q : ℕ → Type 0 = λ n. AreSources n prepared.items in
    subst P (sym (ap (λ (p : Preparation). p.items) are)) (subst Q (sym (ap length same ∙ length-map items entry_of)) (sources_there 0 (length items) prepared.items from))

pub filled_with : (input : code_input.ParagraphInput) (fills : List FillItem) (s : ℤ) (ends : List ℕ) → fills ≡ fills_in input → ends ≡ lines s fills → s ≡ input.container.now.size
    → Divide 0 (length fills) ends → IsFilled input ends
filled_with input fills s ends is at same divide =
    let P : ℕ → Type 0 = λ n. Divide 0 n ends in
    record {
      ends_are = at ∙ ap (λ z. lines z fills) same ∙ ap (lines input.container.now.size) is;
      divide = subst P (ap length is ∙ fills_count (Some input.container.now.size) input.boxes.now (preparation_of input.lists) (atom_extents (map atom_of input.atoms.now)) input.lists.each_break) divide;
    }

pub setting_ready : (entries : List Entry) (container : Container) (standings : List code.Standing) (prepared : Preparation) (atoms : List code_atom.Atom) (inline : Option ℤ)
    → AreBounded entries → IsContainer container
    → map (standing_of entries) standings ≡ rule.standings entries prepared (map atom_of atoms) (advances (fill_items inline entries prepared (atom_extents (map atom_of atoms))))
    → All (IsAble (length entries)) standings → AreWhole prepared → AreNear prepared.items → length prepared.items ≤ 2 ^ 21 → total atom_reach (map atom_of atoms) ≤ 2 ^ 57
    → IsSetting entries container standings
setting_ready entries container standings prepared atoms inline bounded container_is are able whole near few most =
    let fills : List FillItem = fill_items inline entries prepared (atom_extents (map atom_of atoms)) in
    let T : List Standing → Type 0 = λ ss. total standing_reach ss ≤ 2 ^ 58 in
    let count = count_of entries prepared (map atom_of atoms) inline (atom_extents (map atom_of atoms)) fills standings whole refl are in
    record {
      bounded = bounded;
      container_is = container_is;
      able = able;
      rise = standings_rise entries standings prepared.items prepared.levels prepared.classes prepared.bases (advances fills) (map atom_of atoms) are near.rise;
      few = omega arith;
      reach = subst T (sym are) (standings_reach inline entries prepared (map atom_of atoms) near.advances few most);
    }

pub lines_all : (tables : List (Option Table)) (container : Container) (entries given : List Entry) (prepared asked : Preparation) (atoms : List rule.Atom) (standings : List Standing) (ends : List ℕ) (made : Pieces)
    → made ≡ lines_from tables container entries 0 0 (pos 0) [] standings ends → standings ≡ rule.standings entries prepared atoms (advances (fill_items (Some container.size) entries prepared (atom_extents atoms)))
    → ends ≡ lines container.size (fill_items (Some container.size) entries prepared (atom_extents atoms)) → entries ≡ given → prepared ≡ asked → made ≡ paragraph_lines tables container given asked atoms
unfolding paragraph_lines
lines_all tables container entries given prepared asked atoms standings ends made is are at same alike =
    is
    ∙ ap (λ (ss : List Standing). lines_from tables container entries 0 0 (pos 0) [] ss ends) are
    ∙ ap (lines_from tables container entries 0 0 (pos 0) [] (rule.standings entries prepared atoms (advances (fill_items (Some container.size) entries prepared (atom_extents atoms))))) at
    ∙ ap (λ (es : List Entry). paragraph_lines tables container es prepared atoms) same
    ∙ ap (λ (p : Preparation). paragraph_lines tables container given p atoms) alike
