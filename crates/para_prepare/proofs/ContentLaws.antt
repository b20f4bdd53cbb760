-- The parts of the items, one item after the other.
use Rattle.std.proofs.Common.{append_assoc, ◌≡◌, ℕ, zero, suc, ◌+◌, ◌-◌, ◌<◌, ◌≤◌, Bool, true, false, List, [], ◌∷◌, ◌++◌, length, slice_index_or, take, drop, inl, inr, ap, ap₂, subst, sym, ◌∙◌, refl, arith}
use Rattle.std.specs.Prelude.{Option, All, encode_utf8_all}
use Rattle.std.specs.List.{slice_range}
use Rattle.std.specs.Str.{chars}
use Rattle.std.specs.String.{string_bytes}
use Rattle.std.proofs.Math.Utf8.{encode}
use Rattle.std.proofs.lemmas.Bool.{cases_Bool}
use Rattle.std.proofs.lemmas.List.{length-append, length-map, length-drop, drop_at, drop_more, drop-drop, take_at}
use Rattle.std.proofs.lemmas.Str.{encodes-chars, IsUtf8-string_bytes, length-le-encodes}
use Rattle.face_api.specs.Table.{Table}
use Rattle.fragment_types.specs.Item.{Entry, text, begins, ends, atom, line_break, entry_of, entries_of}
use Rattle.fragment_types.specs.declared.item.Item.{Item}
use Rattle.fragment_types.specs.declared.item.Item.TheVariants as items
use Rattle.para_prepare.specs.declared.letter.Letter.{Letter}
use Rattle.para_prepare.specs.Content.{parts, parts_from, parts_in}
use Rattle.para_prepare.specs.Kept.{chars_of, ends_from, joined, kept, kept_from, kept_in}
use Rattle.para_prepare.specs.Limits.{HasFontSize, bytes_in, text_bytes}
use Rattle.para_prepare.specs.Parts.{Part}
use Rattle.para_prepare.specs.Views.{item_parts}
use Rattle.para_prepare.specs.White.{as_kept, chosen, is_white, marks, signs_in}
use Rattle.para_prepare.proofs.KeptLaws.{item_first}

-- ---- how many bytes are kept

some_bytes : (c : ℕ) → 1 ≤ length (encode c)
some_bytes c = let one = length-le-encodes (c ∷ []) in let same = length-append (encode c) [] in omega arith

no_more : (c : ℕ) → length (encode (as_kept c)) ≤ length (encode c)
unfolding encode
no_more c = elim (cases_Bool (is_white c)) [
  | inl white ↦ rw white (some_bytes c)
  | inr other ↦ rw other (omega arith)
]

chosen_bytes : (place : ℕ) (cs : List ℕ) (marks : List Bool) → length (encode_utf8_all (chars_of (chosen place cs marks))) ≤ length (encode_utf8_all cs)
chosen_bytes place [] [] = omega arith
chosen_bytes place [] (true ∷ marks) = omega arith
chosen_bytes place [] (false ∷ marks) = omega arith
chosen_bytes place (c ∷ cs) [] = omega arith
chosen_bytes place (c ∷ cs) (true ∷ marks) =
    let rest = chosen_bytes (place + 1) cs marks in
    let one = no_more c in
    let long = length-append (encode (as_kept c)) (encode_utf8_all (chars_of (chosen (place + 1) cs marks))) in
    let all = length-append (encode c) (encode_utf8_all cs) in
    omega arith
chosen_bytes place (c ∷ cs) (false ∷ marks) =
    let rest = chosen_bytes (place + 1) cs marks in
    let all = length-append (encode c) (encode_utf8_all cs) in
    omega arith

pub kept_bytes : (item : Item) (marks : List Bool) → length (encode_utf8_all (chars_of (kept_in (entry_of item) marks))) ≤ bytes_in (entry_of item)
kept_bytes (items.Text node letters style) marks =
    let few = chosen_bytes 0 (chars (string_bytes letters)) marks in
    let same = ap length (encodes-chars (string_bytes letters) (IsUtf8-string_bytes letters)) in
    omega arith
kept_bytes (items.Open node style opens) marks = omega arith
kept_bytes (items.Close node closes) marks = omega arith
kept_bytes (items.Atom name) marks = omega arith
kept_bytes (items.Break node) marks = omega arith

kept_count : (item : Item) (marks : List Bool) → length (kept_in (entry_of item) marks) ≤ bytes_in (entry_of item)
kept_count item marks =
    let letters = kept_in (entry_of item) marks in
    let few = length-le-encodes (chars_of letters) in
    let same = length-map letters (λ l. l.char) in
    let bytes = kept_bytes item marks in
    omega arith

letters_count : (items : List Item) (marks : List Bool) → length (joined (kept_from (entries_of items) marks)) ≤ text_bytes (entries_of items)
letters_count [] marks = omega arith
letters_count (item ∷ items) marks =
    let left = drop (length (signs_in (entry_of item))) marks in
    let rest = letters_count items left in
    let one = kept_count item marks in
    let long = length-append (kept_in (entry_of item) marks) (joined (kept_from (entries_of items) left)) in
    omega arith

pub few_letters : (items : List Item) (letters : List Letter) → letters ≡ joined (kept (entries_of items)) → length letters ≤ text_bytes (entries_of items)
unfolding kept
few_letters items letters is = let long = ap length is in let few = letters_count items (marks (entries_of items)) in omega arith

pub bytes_at : (items : List Item) (i : ℕ) (item : Item) → i < length items → item ≡ slice_index_or items i item → bytes_in (entry_of item) ≤ text_bytes (entries_of items)
bytes_at [] i item lt is = absurd (omega arith)
bytes_at (first ∷ items) zero item lt is = subst (λ first. bytes_in (entry_of item) ≤ bytes_in (entry_of first) + text_bytes (entries_of items)) is (omega arith)
bytes_at (first ∷ items) (suc i) item lt is = let rest = bytes_at items i item (omega arith) is in omega arith

pub size_at : (items : List Item) (i : ℕ) (item : Item) → i < length items → item ≡ slice_index_or items i item → All HasFontSize (entries_of items) → HasFontSize (entry_of item)
size_at [] i item lt is sizes = absurd (omega arith)
size_at (first ∷ items) zero item lt is sizes = subst (λ item. HasFontSize (entry_of item)) (sym is) (sizes zero (entry_of first) (omega arith))
size_at (first ∷ items) (suc i) item lt is sizes = size_at items i item (omega arith) is (λ k d within. sizes (suc k) d (omega arith))

-- ---- one end for each item

ends_each : (place : ℕ) (lists : List (List Letter)) → length (ends_from place lists) ≡ length lists
ends_each place [] = refl
ends_each place (letters ∷ lists) = ap suc (ends_each (place + length letters) lists)

lists_each : (entries : List Entry) (marks : List Bool) → length (kept_from entries marks) ≡ length entries
lists_each [] marks = refl
lists_each (entry ∷ entries) marks = ap suc (lists_each entries (drop (length (signs_in entry)) marks))

pub one_end_each : (items : List Item) (all : List ℕ) → all ≡ ends_from 0 (kept (entries_of items)) → length all ≡ length items
unfolding kept
one_end_each items all is =
    ap length is ∙ ends_each 0 (kept_from (entries_of items) (marks (entries_of items))) ∙ lists_each (entries_of items) (marks (entries_of items)) ∙ length-map items entry_of

-- ---- one item more

-- the parts have been made as far as a place among the letters, and these entries with these ends are left
pub record AreCut (faces : List (Option Table)) (left : List Entry) (source from : ℕ) (flat : List Letter) (ends_left : List ℕ) (made whole : List Part) : Type 0 where
  pub marks_left : List Bool
  pub letters : drop from flat ≡ joined (kept_from left marks_left)
  pub ends_are : ends_left ≡ ends_from from (kept_from left marks_left)
  pub cut : made ++ parts_from faces source left marks_left ≡ whole
  pub within : from ≤ length flat

pub begun : (faces : List (Option Table)) (entries : List Entry) (flat : List Letter) (all : List ℕ) (made : List Part)
    → flat ≡ joined (kept entries) → all ≡ ends_from 0 (kept entries) → made ≡ [] → AreCut faces entries 0 0 flat all made (parts faces entries)
unfolding kept parts
begun faces entries flat all made letters places none = record {
  marks_left = marks entries;
  letters = letters;
  ends_are = places;
  cut = ap (λ made. made ++ parts_from faces 0 entries (marks entries)) none;
  within = omega arith;
}

-- the next item: its kept characters, and where they end
pub record IsNext (entry : Entry) (marks : List Bool) (from to : ℕ) (flat : List Letter) : Type 0 where
  pub own : slice_range flat from to ≡ kept_in entry marks
  pub end_is : to ≡ from + length (kept_in entry marks)
  pub within : to ≤ length flat

pub next_is : (faces : List (Option Table)) (left rest : List Entry) (entry : Entry) (source from to : ℕ) (flat : List Letter) (ends_left ends_rest : List ℕ) (made whole : List Part)
    → (a : AreCut faces left source from flat ends_left made whole) → left ≡ entry ∷ rest → ends_left ≡ to ∷ ends_rest → IsNext entry a.marks_left from to flat
next_is faces left rest entry source from to flat ends_left ends_rest made whole a is e =
    let one = kept_in entry a.marks_left in
    let later = joined (kept_from rest (drop (length (signs_in entry)) a.marks_left)) in
    let letters : drop from flat ≡ one ++ later = a.letters ∙ ap (λ left. joined (kept_from left a.marks_left)) is in
    let end_ : to ≡ from + length one = ap (λ all. slice_index_or all 0 0) (sym e ∙ a.ends_are ∙ ap (λ left. ends_from from (kept_from left a.marks_left)) is) in
    let long = ap length letters ∙ length-append one later in
    let dropped = length-drop from flat in
    let from_within = a.within in
    record {
      own = ap₂ take (let many : to - from ≡ length one = omega arith in many) letters ∙ take_at one later (length one) refl;
      end_is = end_;
      within = omega arith;
    }

parts_are_by : (faces : List (Option Table)) (source : ℕ) (entry : Entry) (marks : List Bool) → parts_in faces source entry marks ≡ item_parts faces source entry (kept_in entry marks)
parts_are_by faces source (text node bytes style) marks = refl
parts_are_by faces source (begins node style edges) marks = refl
parts_are_by faces source (ends node edges) marks = refl
parts_are_by faces source (atom name) marks = refl
parts_are_by faces source (line_break node) marks = refl

pub goes_on : (faces : List (Option Table)) (left rest : List Entry) (entry : Entry) (source from to : ℕ) (flat : List Letter) (ends_left ends_rest : List ℕ) (made more whole : List Part)
    → AreCut faces left source from flat ends_left made whole → left ≡ entry ∷ rest → ends_left ≡ to ∷ ends_rest
    → more ≡ made ++ item_parts faces source entry (slice_range flat from to) → AreCut faces rest (source + 1) to flat ends_rest more whole
goes_on faces left rest entry source from to flat ends_left ends_rest made more whole a is e m =
    let next = next_is faces left rest entry source from to flat ends_left ends_rest made whole a is e in
    let one = kept_in entry a.marks_left in
    let marks_rest = drop (length (signs_in entry)) a.marks_left in
    let later = joined (kept_from rest marks_rest) in
    record {
      marks_left = marks_rest;
      letters =
          ap (λ place. drop place flat) next.end_is ∙ sym (drop-drop (length one) from flat)
          ∙ ap (drop (length one)) (a.letters ∙ ap (λ left. joined (kept_from left a.marks_left)) is) ∙ drop_at one later (length one) refl;
      ends_are =
          ap (drop 1) (sym e ∙ a.ends_are ∙ ap (λ left. ends_from from (kept_from left a.marks_left)) is)
          ∙ ap (λ place. ends_from place (kept_from rest marks_rest)) (sym next.end_is);
      cut =
          ap (λ more. more ++ parts_from faces (source + 1) rest marks_rest) (m ∙ ap (λ own. made ++ item_parts faces source entry own) next.own ∙ ap (λ own. made ++ own) (sym (parts_are_by faces source entry a.marks_left)))
          ∙ append_assoc made (parts_in faces source entry a.marks_left) (parts_from faces (source + 1) rest marks_rest)
          ∙ ap (λ left. made ++ parts_from faces source left a.marks_left) (sym is) ∙ a.cut;
      within = next.within;
    }

pub item_bytes : (items : List Item) (i from to : ℕ) (item : Item) (marks : List Bool) (flat : List Letter) → IsNext (entry_of item) marks from to flat → i < length items
    → item ≡ slice_index_or items i item → text_bytes (entries_of items) ≤ 1048576 → length (encode_utf8_all (chars_of (slice_range flat from to))) ≤ 1048576
item_bytes items i from to item marks flat next lt is few =
    let kept_few = kept_bytes item marks in
    let here = bytes_at items i item lt is in
    subst (λ letters. length (encode_utf8_all (chars_of letters)) ≤ 1048576) (sym next.own) (omega arith)

pub next_at : (faces : List (Option Table)) (items : List Item) (i from : ℕ) (item : Item) (flat : List Letter) (ends_ : List ℕ) (made whole : List Part)
    → (a : AreCut faces (entries_of (drop i items)) i from flat (drop i ends_) made whole) → i < length items → i < length ends_ → item ≡ slice_index_or items i item
    → IsNext (entry_of item) a.marks_left from (slice_index_or ends_ i 0) flat
next_at faces items i from item flat ends_ made whole a lt lt_ends is =
    next_is faces (entries_of (drop i items)) (entries_of (drop (i + 1) items)) (entry_of item) i from (slice_index_or ends_ i 0) flat (drop i ends_) (drop (i + 1) ends_) made whole a
    (item_first items i item lt is) (drop_more ends_ i 0 lt_ends)

pub cut_more : (faces : List (Option Table)) (items : List Item) (i from : ℕ) (item : Item) (flat : List Letter) (ends_ : List ℕ) (made more whole : List Part)
    → AreCut faces (entries_of (drop i items)) i from flat (drop i ends_) made whole → i < length items → i < length ends_ → item ≡ slice_index_or items i item
    → more ≡ made ++ item_parts faces i (entry_of item) (slice_range flat from (slice_index_or ends_ i 0))
    → AreCut faces (entries_of (drop (i + 1) items)) (i + 1) (slice_index_or ends_ i 0) flat (drop (i + 1) ends_) more whole
cut_more faces items i from item flat ends_ made more whole a lt lt_ends is m =
    goes_on faces (entries_of (drop i items)) (entries_of (drop (i + 1) items)) (entry_of item) i from (slice_index_or ends_ i 0) flat (drop i ends_) (drop (i + 1) ends_) made more whole a
    (item_first items i item lt is) (drop_more ends_ i 0 lt_ends) m
