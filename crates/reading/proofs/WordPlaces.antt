-- Where texts of a table stop: behind the longest front that the bytes share with one.
use Rattle.std.proofs.Common.{◌≡◌, ◌⊎◌, inl, inr, ℕ, ◌≤◌, Bool, true, false, cond, ltb, List, [], ◌∷◌, ◌++◌, length, Ok, Err, refl, sym, ap, subst, ◌∙◌, append_assoc, length-append, arith}
use Rattle.std.specs.Prelude.{⊤}
use Rattle.std.proofs.lemmas.List.{append-nil, append_cancel_right, append_cancel_left}
use Rattle.std.proofs.lemmas.Bool.{ltb-true, ltb-false, lt-ltb, le-ltb}
use Rattle.reading.specs.Readers.{Read, strip, shorter_of, word_or, word_from, one_word}
use Rattle.reading.specs.Grammars.{OneWord}
use Rattle.reading.specs.Words.{all_differ}
use Rattle.reading.specs.Places.{SameNext, IsLocal, GoesOnFrom, IsViable}
use Rattle.reading.proofs.SpellLaws.{stop}
use Rattle.reading.proofs.PlaceLaws.{same_behind, strip_local, strip_viable}
use Rattle.reading.proofs.UpToPlaces.{local_of_spells, split}
use Rattle.reading.proofs.WordLaws.{one_word_spells}

-- ---- what was read is the front of a text

-- a front of one of the texts
record IsFront {A : Type 0} (all : List (List ℕ × A)) (bytes left : List ℕ) : Type 0 where
  text : List ℕ
  goes_on : GoesOnFrom (OneWord all) text
  parts : bytes ≡ text ++ left

shorter_is : (P : List ℕ → Type 0) (best left : List ℕ) (t : Bool) → P best → P left → P (cond t left best)
shorter_is P best left true p q = q
shorter_is P best left false p q = p

stopped_front : {A : Type 0} (word : List ℕ × A) (all : List (List ℕ × A)) (bytes left : List ℕ) → ((text : List ℕ) (x : A) → (text ≡ word.0) × (x ≡ word.1) → OneWord all text x) → strip word.0 bytes ≡ stop left → IsFront all bytes left
stopped_front word all bytes left within e =
    let v = (strip_viable word.0).viable bytes left e in
    record { text = v.0; goes_on = record { more = v.1.more; value = word.1; is = within (v.0 ++ v.1.more) word.1 (v.1.is, refl) }; parts = v.2 }

front_by : {A : Type 0} (word : List ℕ × A) (words all : List (List ℕ × A)) (best bytes left : List ℕ) (r : Read ⊤) → strip word.0 bytes ≡ r → ((text : List ℕ) (x : A) → OneWord (word ∷ words) text x → OneWord all text x) → IsFront all bytes best
    → ((there : List ℕ) → IsFront all bytes there → word_from words there bytes ≡ stop left → IsFront all bytes left)
    → word_or word.1 (λ there. word_from words (shorter_of best there) bytes) r ≡ stop left → IsFront all bytes left
front_by word words all best bytes left (Ok there) is within front later e = absurd cc
front_by word words all best bytes left (Err there) is within front later e =
    later (shorter_of best there)
    (shorter_is (λ (l : List ℕ). IsFront all bytes l) best there (ltb (length there) (length best)) front (stopped_front word all bytes there (λ text x o. within text x (inl o)) is)) e

front_of : {A : Type 0} (words all : List (List ℕ × A)) (best bytes left : List ℕ) → ((text : List ℕ) (x : A) → OneWord words text x → OneWord all text x) → IsFront all bytes best → word_from words best bytes ≡ stop left → IsFront all bytes left
unfolding word_from
front_of [] all best bytes left within front e =
    let same : best ≡ left = cc in
    subst (λ (l : List ℕ). IsFront all bytes l) same front
front_of (word ∷ words) all best bytes left within front e =
    front_by word words all best bytes left (strip word.0 bytes) refl within front
    (λ there f e. front_of words all there bytes left (λ text x o. within text x (inr o)) f e) e

one_word_front : {A : Type 0} (word : List ℕ × A) (words : List (List ℕ × A)) (bytes left : List ℕ) → one_word (word ∷ words) bytes ≡ stop left → IsFront (word ∷ words) bytes left
unfolding one_word
one_word_front word words bytes left e =
    front_of (word ∷ words) (word ∷ words) bytes bytes left (λ text x o. o)
    (record { text = []; goes_on = record { more = word.0; value = word.1; is = inl (refl, refl) }; parts = refl }) e

pub one_word_viable : {A : Type 0} (word : List ℕ × A) (words : List (List ℕ × A)) → IsViable (one_word (word ∷ words)) (OneWord (word ∷ words))
one_word_viable word words = record {
  viable = λ bytes left e.
      let f = one_word_front word words bytes left e in
      (f.text, f.goes_on, f.parts);
}

-- ---- with other bytes behind the next one

shorter_le : (best left : List ℕ) (t : Bool) → ltb (length left) (length best) ≡ t → (length (cond t left best) ≤ length best) × (length (cond t left best) ≤ length left)
shorter_le best left true is = (omega (arith, ltb-true (length left) (length best) is), omega arith)
shorter_le best left false is = (omega arith, ltb-false (length left) (length best) is)

least_by : {A : Type 0} (x : A) (words : List (List ℕ × A)) (best bytes left : List ℕ) (r : Read ⊤) → ((there : List ℕ) → word_from words there bytes ≡ stop left → length left ≤ length there)
    → word_or x (λ there. word_from words (shorter_of best there) bytes) r ≡ stop left → length left ≤ length best
least_by x words best bytes left (Ok there) later e = absurd cc
least_by x words best bytes left (Err there) later e =
    omega (arith, later (shorter_of best there) e, (shorter_le best there (ltb (length there) (length best)) refl).0)

least : {A : Type 0} (words : List (List ℕ × A)) (best bytes left : List ℕ) → word_from words best bytes ≡ stop left → length left ≤ length best
unfolding word_from
least [] best bytes left e =
    let same : best ≡ left = cc in
    omega (arith, ap (λ (r : List ℕ). length r) same)
least (word ∷ words) best bytes left e = least_by word.1 words best bytes left (strip word.0 bytes) (λ there. least words there bytes left) e

-- what is left ends in the rest
record EndsIn (text rest left : List ℕ) : Type 0 where
  front : List ℕ
  back : List ℕ
  parts : text ≡ front ++ back
  is : left ≡ back ++ rest

nothing : (a : List ℕ) → length a ≤ 0 → a ≡ []
nothing [] le = refl
nothing (x ∷ a) le = absurd (omega (arith, le))

ends_in_by : (text rest front left : List ℕ) → text ++ rest ≡ front ++ left → length rest ≤ length left → ((w : List ℕ) × (text ≡ front ++ w)) ⊎ ((m : List ℕ) × (front ≡ text ++ m)) → EndsIn text rest left
ends_in_by text rest front left whole le (inl r) =
    let same : front ++ (r.0 ++ rest) ≡ front ++ left = sym (append_assoc front r.0 rest) ∙ ap (λ (t : List ℕ). t ++ rest) (sym r.1) ∙ whole in
    record { front = front; back = r.0; parts = r.1; is = sym (append_cancel_left front (r.0 ++ rest) left same) }
ends_in_by text rest front left whole le (inr r) =
    let same : text ++ rest ≡ text ++ (r.0 ++ left) = whole ∙ ap (λ (t : List ℕ). t ++ left) r.1 ∙ append_assoc text r.0 left in
    let tail : rest ≡ r.0 ++ left = append_cancel_left text rest (r.0 ++ left) same in
    let none : r.0 ≡ [] = nothing r.0 (omega (arith, ap (λ (t : List ℕ). length t) tail, length-append r.0 left, le)) in
    record { front = text; back = []; parts = sym (append-nil text); is = sym (tail ∙ ap (λ (t : List ℕ). t ++ left) none) }

shorter_moves : (rest other u b : List ℕ) (t : Bool) → ltb (length (u ++ rest)) (length (b ++ rest)) ≡ t → ltb (length (u ++ other)) (length (b ++ other)) ≡ t
shorter_moves rest other u b true is =
    lt-ltb (length (u ++ other)) (length (b ++ other)) (omega (arith, ltb-true (length (u ++ rest)) (length (b ++ rest)) is, length-append u rest, length-append b rest, length-append u other, length-append b other))
shorter_moves rest other u b false is =
    le-ltb (length (u ++ other)) (length (b ++ other)) (omega (arith, ltb-false (length (u ++ rest)) (length (b ++ rest)) is, length-append u rest, length-append b rest, length-append u other, length-append b other))

-- what the shorter is, with either rest
record IsShorter (rest other u b : List ℕ) : Type 0 where
  best : List ℕ
  here : shorter_of (b ++ rest) (u ++ rest) ≡ best ++ rest
  there : shorter_of (b ++ other) (u ++ other) ≡ best ++ other

shorter_by : (rest other u b : List ℕ) (t : Bool) → ltb (length (u ++ rest)) (length (b ++ rest)) ≡ t → IsShorter rest other u b
shorter_by rest other u b true is = record { best = u; here = rw is refl; there = rw (shorter_moves rest other u b true is) refl }
shorter_by rest other u b false is = record { best = b; here = rw is refl; there = rw (shorter_moves rest other u b false is) refl }

moved_by : {A : Type 0} (word : List ℕ × A) (words : List (List ℕ × A)) (b text rest other : List ℕ) (r : Read ⊤) → strip word.0 (text ++ rest) ≡ r → SameNext rest other
    → ((best : List ℕ) → word_from words (best ++ rest) (text ++ rest) ≡ stop rest → word_from words (best ++ other) (text ++ other) ≡ stop other)
    → word_or word.1 (λ there. word_from words (shorter_of (b ++ rest) there) (text ++ rest)) r ≡ stop rest
    → word_or word.1 (λ there. word_from words (shorter_of (b ++ other) there) (text ++ other)) (strip word.0 (text ++ other)) ≡ stop other
moved_by word words b text rest other (Ok there) is n later e = absurd cc
moved_by word words b text rest other (Err left) is n later e =
    let first = (strip_local word.0).stopped (text ++ rest) left is in
    let low : length rest ≤ length left = omega (arith, least words (shorter_of (b ++ rest) left) (text ++ rest) rest e, (shorter_le (b ++ rest) left (ltb (length left) (length (b ++ rest))) refl).1) in
    let i = ends_in_by text rest first.0 left first.1 low (split text rest first.0 left first.1) in
    let whole : text ++ rest ≡ i.front ++ (i.back ++ rest) = ap (λ (t : List ℕ). t ++ rest) i.parts ∙ append_assoc i.front i.back rest in
    let whole2 : text ++ other ≡ i.front ++ (i.back ++ other) = ap (λ (t : List ℕ). t ++ other) i.parts ∙ append_assoc i.front i.back other in
    let here : strip word.0 (i.front ++ (i.back ++ rest)) ≡ stop (i.back ++ rest) = ap (strip word.0) (sym whole) ∙ is ∙ ap (λ (l : List ℕ). stop l) i.is in
    let there : strip word.0 (text ++ other) ≡ stop (i.back ++ other) = ap (strip word.0) whole2 ∙ (strip_local word.0).err i.front (i.back ++ rest) (i.back ++ other) (same_behind i.back rest other n) here in
    let s = shorter_by rest other i.back b (ltb (length (i.back ++ rest)) (length (b ++ rest))) refl in
    let so_far : word_from words (s.best ++ rest) (text ++ rest) ≡ stop rest =
    ap (λ (l : List ℕ). word_from words l (text ++ rest)) (sym s.here ∙ ap (λ (l : List ℕ). shorter_of (b ++ rest) l) (sym i.is)) ∙ e in
    ap (λ (x : Read ⊤). word_or word.1 (λ there. word_from words (shorter_of (b ++ other) there) (text ++ other)) x) there
    ∙ ap (λ (l : List ℕ). word_from words l (text ++ other)) s.there ∙ later s.best so_far

moved_words : {A : Type 0} (words : List (List ℕ × A)) (b text rest other : List ℕ) → SameNext rest other → word_from words (b ++ rest) (text ++ rest) ≡ stop rest → word_from words (b ++ other) (text ++ other) ≡ stop other
unfolding word_from
moved_words [] b text rest other n e =
    let same : b ++ rest ≡ [] ++ rest = cc in
    let none : b ≡ [] = append_cancel_right b [] rest same in
    rw none refl
moved_words (word ∷ words) b text rest other n e =
    moved_by word words b text rest other (strip word.0 (text ++ rest)) refl n (λ best. moved_words words best text rest other n) e

pub one_word_local : {A : Type 0} (word : List ℕ × A) (words : List (List ℕ × A)) → all_differ (word ∷ words) ≡ true → IsLocal (one_word (word ∷ words))
unfolding one_word
one_word_local word words d =
    local_of_spells (one_word_spells (word ∷ words) d)
    (λ bytes left e.
    let f = one_word_front word words bytes left e in
    (f.text, f.parts))
    (λ text rest other n e. moved_words (word ∷ words) text text rest other n e)
