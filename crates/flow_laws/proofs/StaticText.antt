-- What is prepared of a paragraph hangs on no position and no inset.
use Rattle.std.proofs.Common.{◌≡◌, refl, ap, ℕ, ◌+◌, Bool, List, [], ◌∷◌, ◌++◌, drop, length, map, Option}
use Rattle.face_api.specs.Table.{Table}
use Rattle.style_types.specs.declared.style.Style.{Style}
use Rattle.fragment_types.specs.Item.{Entry, text, begins, ends, atom, line_break}
use Rattle.cluster_units.specs.Unit.{units_of}
use Rattle.para_prepare.specs.Content.{parts, parts_from, parts_in}
use Rattle.para_prepare.specs.Inside.{inside}
use Rattle.para_prepare.specs.Parts.{raws}
use Rattle.para_prepare.specs.Preparation.{prepared_by, preparation, standings_of}
use Rattle.para_prepare.specs.White.{marks, marks_from, signs, signs_in}
use Rattle.flow_laws.specs.Static.{as_static, static_item}

-- ---- white space

same_signs_in : (entry : Entry) → signs_in (static_item entry) ≡ signs_in entry
same_signs_in (text node letters style) = refl
same_signs_in (begins node style edges) = refl
same_signs_in (ends node edges) = refl
same_signs_in (atom name) = refl
same_signs_in (line_break node) = refl

same_signs : (entries : List Entry) → signs (map static_item entries) ≡ signs entries
same_signs [] = refl
same_signs (entry ∷ entries) = λ i. same_signs_in entry i ++ same_signs entries i

same_marks : (entries : List Entry) → marks (map static_item entries) ≡ marks entries
unfolding marks
same_marks entries = ap (marks_from []) (same_signs entries)

-- ---- the parts

same_parts_in : (faces : List (Option Table)) (source : ℕ) (entry : Entry) (marks : List Bool) → parts_in faces source (static_item entry) marks ≡ parts_in faces source entry marks
unfolding units_of inside
same_parts_in faces source (text node letters style) marks = refl
same_parts_in faces source (begins node style edges) marks = refl
same_parts_in faces source (ends node edges) marks = refl
same_parts_in faces source (atom name) marks = refl
same_parts_in faces source (line_break node) marks = refl

same_parts_from : (faces : List (Option Table)) (source : ℕ) (entries : List Entry) (marks : List Bool)
    → parts_from faces source (map static_item entries) marks ≡ parts_from faces source entries marks
same_parts_from faces source [] marks = refl
same_parts_from faces source (entry ∷ entries) marks =
    λ i. same_parts_in faces source entry marks i ++ same_parts_from faces (source + 1) entries (drop (length (same_signs_in entry i)) marks) i

same_parts : (faces : List (Option Table)) (entries : List Entry) → parts faces (map static_item entries) ≡ parts faces entries
unfolding parts
same_parts faces entries = λ i. same_parts_from faces 0 entries (same_marks entries i) i

pub same_preparation : (faces : List (Option Table)) (given : Option ℕ) (style : Style) (entries : List Entry)
    → preparation faces given (as_static style) (map static_item entries) ≡ preparation faces given style entries
unfolding preparation
same_preparation faces given style entries =
    λ i. prepared_by (raws (same_parts faces entries i)) (standings_of given style (same_parts faces entries i))
