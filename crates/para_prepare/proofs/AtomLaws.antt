-- A paragraph's items have no more inline-blocks than the paragraph.
use Rattle.std.proofs.Common.{◌≡◌, refl, ap, subst, ◌∙◌, ℕ, suc, ◌+◌, ◌≤◌, Bool, List, [], ◌∷◌, ◌++◌, length, map, drop, inl, inr, arith}
use Rattle.std.specs.Prelude.{Option}
use Rattle.std.specs.List.{slice_range}
use Rattle.std.specs.Str.{chars}
use Rattle.std.proofs.lemmas.Bool.{cases_Bool}
use Rattle.face_api.specs.Table.{Table}
use Rattle.style_types.specs.declared.style.Style.{Style}
use Rattle.fragment_types.specs.Item.{Entry, text, begins, ends, atom, line_break}
use Rattle.cluster_units.specs.Text.{is_combined}
use Rattle.cluster_units.specs.declared.unit.Unit.{Unit}
use Rattle.para_prepare.specs.declared.letter.Letter.{Letter}
use Rattle.para_prepare.specs.declared.standing.Standing.{Standing}
use Rattle.para_prepare.specs.Content.{parts, parts_from, parts_in, raw_of}
use Rattle.para_prepare.specs.Items.{items_by}
use Rattle.para_prepare.specs.Parts.{Raw, raws, sets_upright, units_in, of_unit, of_combined, of_atom, of_break}
use Rattle.para_prepare.specs.Preparation.{atoms_in, atoms_of, preparation, standings_of}
use Rattle.para_prepare.specs.White.{chosen, marks, signs_in}
use Rattle.para_prepare.proofs.InsideLaws.{raws_by}
use Rattle.para_prepare.proofs.RawsLaws.{raws_append}

atoms_among : List Raw → ℕ
atoms_among [] = 0
atoms_among (of_unit source node upright unit letters ∷ raws) = atoms_among raws
atoms_among (of_combined source node unit letters inside ∷ raws) = atoms_among raws
atoms_among (of_atom source name ∷ raws) = suc (atoms_among raws)
atoms_among (of_break source node ∷ raws) = atoms_among raws

items_have : (raws : List Raw) (standings : List Standing) → atoms_in (items_by raws standings) ≤ atoms_among raws
unfolding atoms_among
items_have [] standings = omega arith
items_have (raw ∷ raws) [] = omega arith
items_have (of_unit source node upright unit letters ∷ raws) (standing ∷ standings) = items_have raws standings
items_have (of_combined source node unit letters inside ∷ raws) (standing ∷ standings) = items_have raws standings
items_have (of_atom source name ∷ raws) (standing ∷ standings) = let rest = items_have raws standings in omega arith
items_have (of_break source node ∷ raws) (standing ∷ standings) = items_have raws standings

none_first : (faces : List (Option Table)) (source node : ℕ) (style : Style) (unit : Unit) (letters : List Letter) (rest : List Raw)
    → atoms_among (raw_of faces source node style unit letters ∷ rest) ≡ atoms_among rest
unfolding atoms_among
none_first faces source node style unit letters rest = elim (cases_Bool (is_combined unit.kind)) [
  | inl combined ↦ rw combined refl
  | inr single ↦ rw single refl
]

units_have_none : (faces : List (Option Table)) (source node : ℕ) (style : Style) (letters : List Letter) (units : List Unit) (rest : List Raw)
    → atoms_among (map (λ u. raw_of faces source node style u (slice_range letters u.first u.end)) units ++ rest) ≡ atoms_among rest
units_have_none faces source node style letters [] rest = refl
units_have_none faces source node style letters (u ∷ units) rest =
    none_first faces source node style u (slice_range letters u.first u.end) _ ∙ units_have_none faces source node style letters units rest

entry_has : (faces : List (Option Table)) (source : ℕ) (entry : Entry) (marks : List Bool) (rest : List Raw) (entries : List Entry)
    → atoms_among rest ≡ atoms_of entries → atoms_among (raws (parts_in faces source entry marks) ++ rest) ≡ atoms_of (entry ∷ entries)
unfolding atoms_among
entry_has faces source (text node bytes style) marks rest entries is =
    let letters = chosen 0 (chars bytes) marks in
    ap (λ own. atoms_among (own ++ rest)) (raws_by (sets_upright style) (raw_of faces source node style) letters 0 (units_in faces style letters))
    ∙ units_have_none faces source node style letters (units_in faces style letters) rest ∙ is
entry_has faces source (begins node style edges) marks rest entries is = is
entry_has faces source (ends node edges) marks rest entries is = is
entry_has faces source (atom name) marks rest entries is = ap suc is
entry_has faces source (line_break node) marks rest entries is = is

raws_have : (faces : List (Option Table)) (source : ℕ) (entries : List Entry) (marks : List Bool)
    → atoms_among (raws (parts_from faces source entries marks)) ≡ atoms_of entries
unfolding atoms_among
raws_have faces source [] marks = refl
raws_have faces source (entry ∷ entries) marks =
    let left = drop (length (signs_in entry)) marks in
    ap atoms_among (raws_append (parts_in faces source entry marks) (parts_from faces (source + 1) entries left))
    ∙ entry_has faces source entry marks (raws (parts_from faces (source + 1) entries left)) entries (raws_have faces (source + 1) entries left)

pub few_atoms : (faces : List (Option Table)) (given : Option ℕ) (style : Style) (entries : List Entry)
    → atoms_in (preparation faces given style entries).items ≤ atoms_of entries
unfolding preparation parts
few_atoms faces given style entries =
    subst (λ n. atoms_in (preparation faces given style entries).items ≤ n) (raws_have faces 0 entries (marks entries))
    (items_have (raws (parts faces entries)) (standings_of given style (parts faces entries)))
