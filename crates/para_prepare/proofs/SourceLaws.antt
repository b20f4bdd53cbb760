-- Where the items of a paragraph come from, how many they are, and how long.
use Rattle.std.proofs.Common.{◌≡◌, refl, sym, subst, ℕ, suc, ◌+◌, ◌<◌, ◌≤◌, Bool, List, [], ◌∷◌, ◌++◌, length, map, drop, inl, inr, arith, true, false, take, zero, ◌-◌, ◌*◌}
use Rattle.std.specs.Prelude.{All, Option, ⊤, ℤ, pos, ◌≤ℤ◌}
use Rattle.std.specs.List.{slice_range}
use Rattle.std.specs.Str.{chars}
use Rattle.std.proofs.lemmas.Bool.{cases_Bool}
use Rattle.std.proofs.lemmas.List.{length-map}
use Rattle.std.proofs.lemmas.List.Elements.{All-cons, All-append}
use Rattle.std.proofs.lemmas.Int.{ints}
use Rattle.face_api.specs.Table.{Table}
use Rattle.style_types.specs.declared.style.Style.{Style}
use Rattle.fragment_types.specs.Item.{Entry, text, begins, ends, atom, line_break}
use Rattle.cluster_units.specs.Text.{is_combined}
use Rattle.cluster_units.specs.declared.unit.Unit.{Unit}
use Rattle.para_prepare.proofs.PartsLaws.{stretch_length}
use Rattle.para_prepare.specs.declared.letter.Letter.{Letter}
use Rattle.para_prepare.specs.declared.parts.Part as code
use Rattle.para_prepare.specs.declared.parts.Part.TheVariants as codes
use Rattle.para_prepare.specs.declared.standing.Standing.{Standing}
use Rattle.para_prepare.specs.Content.{parts, parts_from, parts_in, raw_of}
use Rattle.para_prepare.specs.Flat.{Rises}
use Rattle.para_prepare.specs.Items.{items_by, source_of, first_place, place_behind}
use Rattle.para_prepare.specs.Parts.{Part, opens, closes, control, item, Raw, raws, sets_upright, units_in, of_unit, of_combined, of_atom, of_break}
use Rattle.para_prepare.specs.Preparation.{AreFrom, HasBounds, preparation, standings_of}
use Rattle.para_prepare.specs.Views.{HasSize, IsSize, part_of, parts_of, IsCovered, IsPart, IsRunSize, IsSpan, letters_at}
use Rattle.para_prepare.specs.White.{chosen, marks, signs_in}
use Rattle.para_prepare.proofs.InsideLaws.{raws_by}
use Rattle.para_prepare.proofs.RawsLaws.{raws_append}

-- ---- where they come from

AreOf : (first many : ℕ) → List Raw → Type 0
AreOf first many [] = ⊤
AreOf first many (raw ∷ raws) = (first ≤ source_of raw) × (source_of raw < many) × AreOf (source_of raw) many raws

-- they may begin later
later : (first next many : ℕ) (raws : List Raw) → first ≤ next → AreOf next many raws → AreOf first many raws
unfolding AreOf
later first next many [] h are = tt
later first next many (raw ∷ others) h are = let low = are.0 in (omega arith, are.1, are.2)

of_one : (faces : List (Option Table)) (source node : ℕ) (style : Style) (unit : Unit) (letters : List Letter) → source_of (raw_of faces source node style unit letters) ≡ source
of_one faces source node style unit letters = elim (cases_Bool (is_combined unit.kind)) [
  | inl combined ↦ rw combined refl
  | inr single ↦ rw single refl
]

one_more : (source many : ℕ) (raw : Raw) (rest : List Raw) → source < many → source_of raw ≡ source → AreOf source many rest → AreOf source many (raw ∷ rest)
unfolding AreOf
one_more source many raw rest within is are = (omega arith, omega arith, subst (λ first. AreOf first many rest) (sym is) are)

units_of_one : (faces : List (Option Table)) (source node : ℕ) (style : Style) (letters : List Letter) (units : List Unit) (rest : List Raw) (many : ℕ)
    → source < many → AreOf source many rest
    → AreOf source many (map (λ u. raw_of faces source node style u (slice_range letters u.first u.end)) units ++ rest)
units_of_one faces source node style letters [] rest many within are = are
units_of_one faces source node style letters (u ∷ units) rest many within are =
    one_more source many (raw_of faces source node style u (slice_range letters u.first u.end)) _ within (of_one faces source node style u (slice_range letters u.first u.end))
    (units_of_one faces source node style letters units rest many within are)

entry_of_one : (faces : List (Option Table)) (source : ℕ) (entry : Entry) (marks : List Bool) (rest : List Raw) (many : ℕ)
    → source < many → AreOf source many rest → AreOf source many (raws (parts_in faces source entry marks) ++ rest)
entry_of_one faces source (text node bytes style) marks rest many within are =
    let letters = chosen 0 (chars bytes) marks in
    subst (λ own. AreOf source many (own ++ rest))
    (sym (raws_by (sets_upright style) (raw_of faces source node style) letters 0 (units_in faces style letters)))
    (units_of_one faces source node style letters (units_in faces style letters) rest many within are)
entry_of_one faces source (begins node style edges) marks rest many within are = are
entry_of_one faces source (ends node edges) marks rest many within are = are
entry_of_one faces source (atom name) marks rest many within are = one_more source many _ rest within refl are
entry_of_one faces source (line_break node) marks rest many within are = one_more source many _ rest within refl are

raws_from : (faces : List (Option Table)) (source : ℕ) (entries : List Entry) (marks : List Bool) (many : ℕ) → source + length entries ≤ many
    → AreOf source many (raws (parts_from faces source entries marks))
unfolding AreOf
raws_from faces source [] marks many few = tt
raws_from faces source (entry ∷ entries) marks many few =
    let left = drop (length (signs_in entry)) marks in
    subst (AreOf source many) (sym (raws_append (parts_in faces source entry marks) (parts_from faces (source + 1) entries left)))
    (entry_of_one faces source entry marks (raws (parts_from faces (source + 1) entries left)) many (omega arith)
    (later source (source + 1) many _ (omega arith) (raws_from faces (source + 1) entries left many (omega arith))))

items_from : (first many : ℕ) (raws : List Raw) (standings : List Standing) → AreOf first many raws → AreFrom first many (items_by raws standings)
unfolding AreOf
items_from first many [] standings are = tt
items_from first many (raw ∷ others) [] are = tt
items_from first many (raw ∷ others) (standing ∷ standings) are = (are.0, are.1, items_from (source_of raw) many others standings are.2)

pub are_from : (faces : List (Option Table)) (given : Option ℕ) (style : Style) (entries : List Entry) → AreFrom 0 (length entries) (preparation faces given style entries).items
unfolding preparation parts
are_from faces given style entries =
    items_from 0 (length entries) (raws (parts faces entries)) (standings_of given style (parts faces entries)) (raws_from faces 0 entries (marks entries) (length entries) (omega arith))

-- ---- how many they are

pub raws_count : (parts : List Part) → length (raws parts) ≤ length parts
raws_count [] = omega arith
raws_count (opens bidi dir ∷ parts) = let rest = raws_count parts in omega arith
raws_count (closes ∷ parts) = let rest = raws_count parts in omega arith
raws_count (control c class ∷ parts) = let rest = raws_count parts in omega arith
raws_count (item raw ∷ parts) = let rest = raws_count parts in omega arith

items_count : (raws : List Raw) (standings : List Standing) → length (items_by raws standings) ≤ length raws
items_count [] standings = omega arith
items_count (raw ∷ raws) [] = omega arith
items_count (raw ∷ raws) (standing ∷ standings) = let rest = items_count raws standings in omega arith

pub few_items : (letters : List Letter) (parts : List code.Part) (standings : List Standing) → length (items_by (raws (parts_of letters parts)) standings) ≤ length parts
few_items letters parts standings =
    let few = items_count (raws (parts_of letters parts)) standings in
    let fewer = raws_count (parts_of letters parts) in
    let same = length-map parts (part_of letters) in
    omega arith

-- ---- how long they are

rises_later : (place next : ℕ) (letters : List Letter) → place ≤ next → Rises next letters → Rises place letters
rises_later place next [] h r = tt
rises_later place next (l ∷ letters) h r = let low = r.0 in (omega arith, r.1)

pub chosen_rises : (place : ℕ) (cs : List ℕ) (marks : List Bool) → Rises place (chosen place cs marks)
chosen_rises place [] marks = tt
chosen_rises place (c ∷ cs) [] = tt
chosen_rises place (c ∷ cs) (true ∷ marks) = (omega arith, chosen_rises (place + 1) cs marks)
chosen_rises place (c ∷ cs) (false ∷ marks) = rises_later place (place + 1) (chosen (place + 1) cs marks) (omega arith) (chosen_rises (place + 1) cs marks)

drop_rises : (place n : ℕ) (letters : List Letter) → Rises place letters → Rises place (drop n letters)
drop_rises place zero letters r = r
drop_rises place (suc n) [] r = tt
drop_rises place (suc n) (l ∷ letters) r = let low = r.0 in rises_later place (l.place + 1) (drop n letters) (omega arith) (drop_rises (l.place + 1) n letters r.1)

take_rises : (place n : ℕ) (letters : List Letter) → Rises place letters → Rises place (take n letters)
take_rises place zero letters r = tt
take_rises place (suc n) [] r = tt
take_rises place (suc n) (l ∷ letters) r = (r.0, take_rises (l.place + 1) n letters r.1)

pub slice_rises : (place first end_ : ℕ) (letters : List Letter) → Rises place letters → Rises place (slice_range letters first end_)
slice_rises place first end_ letters r = take_rises place (end_ - first) (drop first letters) (drop_rises place first letters r)

-- as many places as characters at least
behind_last : (place : ℕ) (l : Letter) (letters : List Letter) → Rises place (l ∷ letters) → l.place + length (l ∷ letters) ≤ place_behind (l ∷ letters)
behind_last place l [] r = omega arith
behind_last place l (m ∷ letters) r =
    let rest : m.place + length (m ∷ letters) ≤ place_behind (m ∷ letters) = behind_last (l.place + 1) m letters r.1 in
    let low : l.place + 1 ≤ m.place = r.1.0 in
    omega arith

pub places_cover : (place : ℕ) (letters : List Letter) → Rises place letters → length letters ≤ place_behind letters - first_place letters
places_cover place [] r = omega arith
places_cover place (l ∷ letters) r = let most = behind_last place l letters r in omega arith

raw_covered : (faces : List (Option Table)) (source node : ℕ) (style : Style) (unit : Unit) (letters : List Letter) → Rises 0 letters → IsCovered (raw_of faces source node style unit letters)
raw_covered faces source node style unit letters r = elim (cases_Bool (is_combined unit.kind)) [
  | inl combined ↦ rw combined (places_cover 0 letters r)
  | inr single ↦ rw single tt
]

units_covered : (faces : List (Option Table)) (source node : ℕ) (style : Style) (letters : List Letter) (units : List Unit) → Rises 0 letters
    → All IsCovered (map (λ u. raw_of faces source node style u (slice_range letters u.first u.end)) units)
units_covered faces source node style letters [] r = λ k d lt. absurd (omega arith)
units_covered faces source node style letters (u ∷ units) r =
    All-cons IsCovered _ _ (raw_covered faces source node style u (slice_range letters u.first u.end) (slice_rises 0 u.first u.end letters r)) (units_covered faces source node style letters units r)

entry_covered : (faces : List (Option Table)) (source : ℕ) (entry : Entry) (marks : List Bool) → All IsCovered (raws (parts_in faces source entry marks))
entry_covered faces source (text node bytes style) marks =
    let letters = chosen 0 (chars bytes) marks in
    subst (All IsCovered) (sym (raws_by (sets_upright style) (raw_of faces source node style) letters 0 (units_in faces style letters)))
    (units_covered faces source node style letters (units_in faces style letters) (chosen_rises 0 (chars bytes) marks))
entry_covered faces source (begins node style edges) marks = λ k d lt. absurd (omega arith)
entry_covered faces source (ends node edges) marks = λ k d lt. absurd (omega arith)
entry_covered faces source (atom name) marks = All-cons IsCovered (of_atom source name) [] tt (λ k d lt. absurd (omega arith))
entry_covered faces source (line_break node) marks = All-cons IsCovered (of_break source node) [] tt (λ k d lt. absurd (omega arith))

all_covered : (faces : List (Option Table)) (source : ℕ) (entries : List Entry) (marks : List Bool) → All IsCovered (raws (parts_from faces source entries marks))
all_covered faces source [] marks = λ k d lt. absurd (omega arith)
all_covered faces source (entry ∷ entries) marks =
    let left = drop (length (signs_in entry)) marks in
    subst (All IsCovered) (sym (raws_append (parts_in faces source entry marks) (parts_from faces (source + 1) entries left)))
    (All-append IsCovered (raws (parts_in faces source entry marks)) (raws (parts_from faces (source + 1) entries left)) (entry_covered faces source entry marks) (all_covered faces (source + 1) entries left))

pub covered : (faces : List (Option Table)) (entries : List Entry) (made : List Part) → made ≡ parts faces entries → All IsCovered (raws made)
unfolding parts
covered faces entries made is = subst (λ made. All IsCovered (raws made)) (sym is) (all_covered faces 0 entries (marks entries))

rest_of : {X : Type 0} (P : X → Type 0) (x : X) (xs : List X) → All P (x ∷ xs) → All P xs
rest_of P x xs h = λ k d lt. h (suc k) d (omega arith)

-- a bound by fewer characters is one by more
pub wider : (a : ℤ) (n m : ℕ) → a ≤ℤ pos (655360 * n) → n ≤ m → a ≤ℤ pos (655360 * m)
wider a n m h le = omega (arith, ints)

pub sized : (letters : List Letter) (parts : List code.Part) (standings : List Standing) → All (IsPart (length letters)) parts → All HasSize parts → All IsCovered (raws (parts_of letters parts))
    → All (λ item. HasBounds item.what) (items_by (raws (parts_of letters parts)) standings)
sized letters [] standings p h r = λ k d lt. absurd (omega arith)
sized letters (codes.Opens around ∷ parts) standings p h r = sized letters parts standings (rest_of (IsPart (length letters)) (codes.Opens around) parts p) (rest_of HasSize (codes.Opens around) parts h) r
sized letters (codes.Closes ∷ parts) standings p h r = sized letters parts standings (rest_of (IsPart (length letters)) codes.Closes parts p) (rest_of HasSize codes.Closes parts h) r
sized letters (codes.Control c class ∷ parts) standings p h r = sized letters parts standings (rest_of (IsPart (length letters)) (codes.Control c class) parts p) (rest_of HasSize (codes.Control c class) parts h) r
sized letters (codes.Unit source node upright unit span ∷ parts) [] p h r = λ k d lt. absurd (omega arith)
sized letters (codes.Unit source node upright unit span ∷ parts) (standing ∷ standings) p h r =
    let part = codes.Unit source node upright unit span in
    let own : IsSize unit = h 0 part (omega arith) in
    All-cons (λ item. HasBounds item.what) _ (items_by (raws (parts_of letters parts)) standings) (own.advance_low, own.advance_high)
    (sized letters parts standings (rest_of (IsPart (length letters)) part parts p) (rest_of HasSize part parts h) (rest_of IsCovered (of_unit source node upright unit (letters_at letters span)) (raws (parts_of letters parts)) r))
sized letters (codes.Combined source node unit span inside ∷ parts) [] p h r = λ k d lt. absurd (omega arith)
sized letters (codes.Combined source node unit span inside ∷ parts) (standing ∷ standings) p h r =
    let part = codes.Combined source node unit span inside in
    let own : IsRunSize unit span = h 0 part (omega arith) in
    let there : IsSpan (length letters) span = p 0 part (omega arith) in
    let raw = of_combined source node unit (letters_at letters span) inside in
    let cover : length (letters_at letters span) ≤ place_behind (letters_at letters span) - first_place (letters_at letters span) = r 0 raw (omega arith) in
    let long : length (letters_at letters span) ≡ span.to - span.from = stretch_length letters span.from span.to there.within in
    let many = own.many in
    All-cons (λ item. HasBounds item.what) _ (items_by (raws (parts_of letters parts)) standings)
    (own.size.advance_low, own.one, own.size.natural_low, wider unit.natural (unit.end - unit.first) (place_behind (letters_at letters span) - first_place (letters_at letters span)) own.size.natural_high (omega arith))
    (sized letters parts standings (rest_of (IsPart (length letters)) part parts p) (rest_of HasSize part parts h) (rest_of IsCovered raw (raws (parts_of letters parts)) r))
sized letters (codes.Atom source name ∷ parts) [] p h r = λ k d lt. absurd (omega arith)
sized letters (codes.Atom source name ∷ parts) (standing ∷ standings) p h r =
    let part = codes.Atom source name in
    All-cons (λ item. HasBounds item.what) _ (items_by (raws (parts_of letters parts)) standings) tt
    (sized letters parts standings (rest_of (IsPart (length letters)) part parts p) (rest_of HasSize part parts h) (rest_of IsCovered (of_atom source name) (raws (parts_of letters parts)) r))
sized letters (codes.Break source node ∷ parts) [] p h r = λ k d lt. absurd (omega arith)
sized letters (codes.Break source node ∷ parts) (standing ∷ standings) p h r =
    let part = codes.Break source node in
    All-cons (λ item. HasBounds item.what) _ (items_by (raws (parts_of letters parts)) standings) tt
    (sized letters parts standings (rest_of (IsPart (length letters)) part parts p) (rest_of HasSize part parts h) (rest_of IsCovered (of_break source node) (raws (parts_of letters parts)) r))
