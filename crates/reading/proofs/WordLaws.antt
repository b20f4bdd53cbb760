-- One text of a table.
use Rattle.std.proofs.Common.{◌≡◌, inl, inr, ℕ, Bool, true, false, cond, eqb, ◌&&◌, List, [], ◌∷◌, ◌++◌, Ok, Err, is_ok, refl, sym, ap, ◌∙◌}
use Rattle.std.specs.Prelude.{⊤}
use Rattle.std.specs.List.{list_all}
use Rattle.std.proofs.lemmas.Bool.{ne_eqb, and_parts}
use Rattle.reading.specs.Readers.{Read, strip, starts, next_is, shorter_of, word_or, word_from, one_word}
use Rattle.reading.specs.Grammars.{OneWord}
use Rattle.reading.specs.Spelling.{Anything, Spells}
use Rattle.reading.specs.Words.{differ, differs_from, all_differ, begins_none, longest_first, all_of}
use Rattle.reading.proofs.SpellLaws.{ok, stop, same_answer, strip_spells, strip_again}

-- ---- what is read

word_by : {A : Type 0} (word : List ℕ × A) (words : List (List ℕ × A)) (best bytes rest : List ℕ) (x : A) (r : Read ⊤) → strip word.0 bytes ≡ r
    → ((left : List ℕ) → word_from words left bytes ≡ ok (x, rest) → (text : List ℕ) × OneWord words text x × (bytes ≡ text ++ rest))
    → word_or word.1 (λ left. word_from words (shorter_of best left) bytes) r ≡ ok (x, rest) → (text : List ℕ) × OneWord (word ∷ words) text x × (bytes ≡ text ++ rest)
word_by word words best bytes rest x (Ok there) is later e =
    let same = same_answer {E = List ℕ} word.1 x there.1 rest e in
    let t = (strip_spells word.0).takes bytes there.0 there.1 is in
    (word.0, inl (refl, sym same.0), t.2 ∙ rw (t.1, same.1) refl)
word_by word words best bytes rest x (Err left) is later e =
    let t = later (shorter_of best left) e in
    (t.0, inr t.1, t.2)

word_takes : {A : Type 0} (words : List (List ℕ × A)) (best bytes : List ℕ) (x : A) (rest : List ℕ) → word_from words best bytes ≡ ok (x, rest) → (text : List ℕ) × OneWord words text x × (bytes ≡ text ++ rest)
unfolding word_from
word_takes [] best bytes x rest e = absurd cc
word_takes (word ∷ words) best bytes x rest e = word_by word words best bytes rest x (strip word.0 bytes) refl (λ left. word_takes words left bytes x rest) e

-- ---- what is spelled is read, where no word before it is read there

-- no word can be read where a later one stands
abbrev pub Waits : {A : Type 0} → (List ℕ → Type 0) → List (List ℕ × A) → Type 0
Waits Ends [] = ⊤
Waits {A = A} Ends (word ∷ words) = ((text : List ℕ) (x : A) (rest : List ℕ) → OneWord words text x → Ends rest → starts word.0 (text ++ rest) ≡ false) × Waits Ends words

passed : {A : Type 0} (x y : A) (rest : List ℕ) (r : Read ⊤) (others : List ℕ → Read A) → is_ok r ≡ false → ((left : List ℕ) → others left ≡ ok (y, rest)) → word_or x others r ≡ ok (y, rest)
passed x y rest (Ok there) others stops e = absurd cc
passed x y rest (Err left) others stops e = e left

word_again : {A : Type 0} (Ends : List ℕ → Type 0) (words : List (List ℕ × A)) (best text : List ℕ) (x : A) (rest : List ℕ) → Waits Ends words → OneWord words text x → Ends rest → word_from words best (text ++ rest) ≡ Ok (x, rest)
unfolding word_from starts
word_again Ends [] best text x rest waits is ends = absurd is
word_again Ends (word ∷ words) best text x rest waits (inl is) ends = rw (is.0, is.1, strip_again word.0 rest) refl
word_again Ends (word ∷ words) best text x rest waits (inr is) ends =
    passed word.1 x rest (strip word.0 (text ++ rest)) (λ left. word_from words (shorter_of best left) (text ++ rest)) (waits.0 text x rest is ends)
    (λ left. word_again Ends words (shorter_of best left) text x rest waits.1 is ends)

pub words_spell : {A : Type 0} (words : List (List ℕ × A)) (Ends : List ℕ → Type 0) → Waits Ends words → Spells (one_word words) (OneWord words) Ends
unfolding one_word
words_spell words Ends waits = record {
  takes = λ bytes x rest e. word_takes words bytes bytes x rest e;
  again = λ text x rest is ends. word_again Ends words (text ++ rest) text x rest waits is ends;
}

-- ---- words that differ

differ_by : (next byte : ℕ) (word text rest : List ℕ) (t : Bool) → cond t (differ word text) true ≡ true → (differ word text ≡ true → is_ok (strip word (text ++ rest)) ≡ false)
    → is_ok (cond t (strip word (text ++ rest)) (stop {A = ⊤} (next ∷ (text ++ rest)))) ≡ false
differ_by next byte word text rest true d later = later d
differ_by next byte word text rest false d later = refl

pub differ_stops : (word text rest : List ℕ) → differ word text ≡ true → is_ok (strip word (text ++ rest)) ≡ false
unfolding strip
differ_stops [] text rest d = absurd cc
differ_stops (byte ∷ word) [] rest d = absurd cc
differ_stops (byte ∷ word) (next ∷ text) rest d = differ_by next byte word text rest (eqb next byte) d (differ_stops word text rest)

-- both parts of a test
both : (a b : Bool) → cond a b false ≡ true → (a ≡ true) × (b ≡ true)
both true b e = (refl, e)
both false b e = absurd cc

pub differs_in : {A : Type 0} (word : List ℕ) (words : List (List ℕ × A)) (text : List ℕ) (x : A) → differs_from word words ≡ true → OneWord words text x → differ word text ≡ true
differs_in word [] text x d is = absurd is
differs_in word (other ∷ words) text x d (inl is) = rw is.0 (both (differ word other.0) (differs_from word words) d).0
differs_in word (other ∷ words) text x d (inr is) = differs_in word words text x (both (differ word other.0) (differs_from word words) d).1 is

differ_wait : {A : Type 0} (words : List (List ℕ × A)) → all_differ words ≡ true → Waits Anything words
unfolding starts
differ_wait [] d = tt
differ_wait (word ∷ words) d =
    let here = both (differs_from word.0 words) (all_differ words) d in
    (λ text x rest is ends. differ_stops word.0 text rest (differs_in word.0 words text x here.0 is), differ_wait words here.1)

-- one of some texts of which each two differ
pub one_word_spells : {A : Type 0} (words : List (List ℕ × A)) → all_differ words ≡ true → Spells (one_word words) (OneWord words) Anything
one_word_spells words d = words_spell words Anything (differ_wait words d)

-- ---- words that end where no byte of a word comes next

-- at a byte of the word: the text's byte is the same, or it stops
longer_by : (byte next : ℕ) (word text rest : List ℕ) (t : Bool) → is_ok (cond t (strip word text) (stop {A = ⊤} (next ∷ text))) ≡ false
    → (is_ok (strip word text) ≡ false → is_ok (strip word (text ++ rest)) ≡ false) → is_ok (cond t (strip word (text ++ rest)) (stop {A = ⊤} (next ∷ (text ++ rest)))) ≡ false
longer_by byte next word text rest true stops later = later stops
longer_by byte next word text rest false stops later = refl

other_byte : (test : ℕ → Bool) (byte next : ℕ) → test byte ≡ true → test next ≡ false → eqb next byte ≡ false
other_byte test byte next is fails = ne_eqb next byte (λ same.
    let clash : true ≡ false = sym is ∙ ap test (sym same) ∙ fails in
    absurd cc)

ended : (test : ℕ → Bool) (byte : ℕ) (word rest : List ℕ) → test byte ≡ true → next_is test rest ≡ false → is_ok (strip (byte ∷ word) rest) ≡ false
unfolding strip
ended test byte word [] is ends = refl
ended test byte word (next ∷ rest) is ends = rw (other_byte test byte next is ends) refl

longer_stops : (test : ℕ → Bool) (word text rest : List ℕ) → list_all test word ≡ true → is_ok (strip word text) ≡ false → next_is test rest ≡ false → is_ok (strip word (text ++ rest)) ≡ false
unfolding strip
longer_stops test [] text rest is stops ends = absurd cc
longer_stops test (byte ∷ word) [] rest is stops ends = ended test byte word rest (and_parts (test byte) (list_all test word) is).0 ends
longer_stops test (byte ∷ word) (next ∷ text) rest is stops ends =
    longer_by byte next word text rest (eqb next byte) stops (λ n. longer_stops test word text rest (and_parts (test byte) (list_all test word) is).1 n ends)

-- the first alternative is false
neither : (a b : Bool) → cond a false b ≡ true → (a ≡ false) × (b ≡ true)
neither true b e = absurd cc
neither false b e = (refl, e)

begins_in : {A : Type 0} (word : List ℕ) (words : List (List ℕ × A)) (text : List ℕ) (x : A) → begins_none word words ≡ true → OneWord words text x → starts word text ≡ false
begins_in word [] text x d is = absurd is
begins_in word (other ∷ words) text x d (inl is) = rw is.0 (neither (starts word other.0) (begins_none word words) d).0
begins_in word (other ∷ words) text x d (inr is) = begins_in word words text x (neither (starts word other.0) (begins_none word words) d).1 is

longest_wait : {A : Type 0} (test : ℕ → Bool) (words : List (List ℕ × A)) → all_of test words ≡ true → longest_first words ≡ true → Waits (λ rest. next_is test rest ≡ false) words
unfolding starts
longest_wait test [] all d = tt
longest_wait test (word ∷ words) all d =
    let here = both (begins_none word.0 words) (longest_first words) d in
    let pass = both (list_all test word.0) (all_of test words) all in
    (λ text x rest is ends. longer_stops test word.0 text rest pass.0 (begins_in word.0 words text x here.0 is) ends, longest_wait test words pass.1 here.1)

-- one of some texts of which none begins with one before it, where no byte of a text comes next
pub longest_word_spells : {A : Type 0} (test : ℕ → Bool) (words : List (List ℕ × A)) → all_of test words ≡ true → longest_first words ≡ true
    → Spells (one_word words) (OneWord words) (λ rest. next_is test rest ≡ false)
longest_word_spells test words all d = words_spell words (λ rest. next_is test rest ≡ false) (longest_wait test words all d)
