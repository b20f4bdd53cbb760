-- Names and hashes: what is read is spelled so, and what is spelled so is read.
use Rattle.std.proofs.Common.{◌≡◌, ℕ, ◌<◌, Bool, true, false, not, cond, List, [], ◌∷◌, ◌++◌, length, codes, Err, is_ok, refl, sym, ap, ◌∙◌, arith}
use Rattle.std.specs.Prelude.{⊤}
use Rattle.std.proofs.lemmas.Bool.{and_parts, and_from, not_from_false, not-true}
use Rattle.reading.specs.Readers.{Reader, refuse, choice, strip, one_of, next_is, can_read}
use Rattle.reading.specs.Grammars.{AllPass}
use Rattle.reading.specs.Placed.{SpellsPlaced}
use Rattle.reading.specs.Spelling.{Anything}
use Rattle.reading.proofs.SpellLaws.{ok, stop, bind_ok, strip_takes}
use Rattle.reading.proofs.RunLaws.{run_is, run_again}
use Rattle.css_tokens.specs.Characters.{is_name_start, is_name_byte}
use Rattle.css_tokens.specs.Lexing.{name_ahead, name, hash_ahead, hash}
use Rattle.css_tokens.specs.Numbers.{number_ahead}
use Rattle.css_tokens.specs.Grammar.{IsName, IsHash}

-- ---- a reader where a test says so

guarded_by : {A : Type 0} (f : Reader A) (bytes : List ℕ) (x : A × List ℕ) (t : Bool) → cond t (f bytes) (Err bytes) ≡ ok x → (t ≡ true) × (f bytes ≡ ok x)
guarded_by f bytes x true e = (refl, e)
guarded_by f bytes x false e = absurd cc

pub guarded : {A : Type 0} (test : List ℕ → Bool) (f : Reader A) (bytes : List ℕ) (x : A × List ℕ) → choice test f refuse bytes ≡ ok x → (test bytes ≡ true) × (f bytes ≡ ok x)
guarded test f bytes x e = guarded_by f bytes x (test bytes) e

-- ---- runs that are not empty

-- a run that begins with a byte of this test
pub run_first : (test first : ℕ → Bool) (run rest : List ℕ) → ((byte : ℕ) → first byte ≡ true → test byte ≡ true) → next_is first (run ++ rest) ≡ true → next_is test rest ≡ false → next_is first run ≡ true
run_first test first [] [] among some ends = absurd cc
run_first test first [] (byte ∷ rest) among some ends =
    let clash : test byte ≡ true = among byte some in
    absurd (cc (sym ends ∙ clash))
run_first test first (byte ∷ run) rest among some ends = some

pub some_length : (test : ℕ → Bool) (run : List ℕ) → next_is test run ≡ true → 0 < length run
some_length test [] some = absurd cc
some_length test (byte ∷ run) some = omega arith

pub next_behind : (test : ℕ → Bool) (run rest : List ℕ) → next_is test run ≡ true → next_is test (run ++ rest) ≡ true
next_behind test [] rest some = absurd cc
next_behind test (byte ∷ run) rest some = some

pub first_passes : (test : ℕ → Bool) (run : List ℕ) → 0 < length run → AllPass test run → next_is test run ≡ true
first_passes test [] some pass = absurd (omega (arith, some))
first_passes test (byte ∷ run) some pass = pass.0

-- ---- names

start_is_name : (byte : ℕ) → is_name_start byte ≡ true → is_name_byte byte ≡ true
start_is_name byte e = rw e refl

pub name_takes : (bytes run rest : List ℕ) → name_ahead bytes ≡ true → name bytes ≡ ok (run, rest) → IsName run rest run × (bytes ≡ run ++ rest)
unfolding name_ahead name
name_takes bytes run rest ahead e =
    let r = run_is is_name_byte bytes run rest e in
    let both = and_parts (next_is is_name_start bytes) (not (number_ahead bytes)) ahead in
    let start : next_is is_name_start (run ++ rest) ≡ true = ap (next_is is_name_start) (sym r.parts) ∙ both.0 in
    let none : number_ahead (run ++ rest) ≡ false = ap number_ahead (sym r.parts) ∙ not-true (number_ahead bytes) both.1 in
    ((refl, run_first is_name_byte is_name_start run rest start_is_name start r.ends, r.pass, r.ends, none), r.parts)

pub name_is_ahead : (text behind n : List ℕ) → IsName text behind n → name_ahead (text ++ behind) ≡ true
unfolding name_ahead
name_is_ahead text behind n r =
    and_from (next_is is_name_start (text ++ behind)) (not (number_ahead (text ++ behind))) (next_behind is_name_start text behind r.1) (not_from_false (number_ahead (text ++ behind)) r.4)

pub name_again : (text behind n : List ℕ) → IsName text behind n → name (text ++ behind) ≡ ok (n, behind)
unfolding name
name_again text behind n r = rw r.0 (run_again is_name_byte text behind r.2 r.3)

pub name_spells : SpellsPlaced (choice name_ahead name refuse) IsName Anything
name_spells = record {
  takes = λ bytes run rest e.
      let g = guarded name_ahead name bytes (run, rest) e in
      let t = name_takes bytes run rest g.0 g.1 in
      (run, t.0, t.1);
  again = λ text n rest r any. rw (name_is_ahead text rest n r) (name_again text rest n r);
}

-- ---- hashes

one_ahead_by : (byte : ℕ) (bytes : List ℕ) (t : Bool) → is_ok {E = List ℕ} (cond t (ok (byte, bytes)) (stop (byte ∷ bytes))) ≡ t
one_ahead_by byte bytes true = refl
one_ahead_by byte bytes false = refl

-- one byte can be read where it comes next
pub one_ahead : (test : ℕ → Bool) (bytes : List ℕ) → can_read (one_of test) bytes ≡ next_is test bytes
unfolding one_of
one_ahead test [] = refl
one_ahead test (byte ∷ bytes) = one_ahead_by byte bytes (test byte)

word_ahead : (bytes : List ℕ) → hash_ahead (35 ∷ bytes) ≡ next_is is_name_byte bytes
unfolding hash_ahead strip
word_ahead bytes = one_ahead is_name_byte bytes

same_bytes : (byte : ℕ) → is_name_byte byte ≡ true → is_name_byte byte ≡ true
same_bytes byte e = e

pub hash_takes : (bytes word rest : List ℕ) → hash_ahead bytes ≡ true → hash bytes ≡ ok (word, rest) → IsHash (35 ∷ word) rest word × (bytes ≡ (35 ∷ word) ++ rest)
unfolding hash name
hash_takes bytes word rest ahead e =
    let a = bind_ok (strip (codes "#") bytes) (λ (x : ⊤ × List ℕ). name x.1) (word, rest) e in
    let first : bytes ≡ 35 ∷ a.0.1 = strip_takes (codes "#") bytes a.0.1 a.0.0 a.1 in
    let r = run_is is_name_byte a.0.1 word rest a.2 in
    let some : next_is is_name_byte (word ++ rest) ≡ true = ap (next_is is_name_byte) (sym r.parts) ∙ sym (word_ahead a.0.1) ∙ ap hash_ahead (sym first) ∙ ahead in
    let begun = run_first is_name_byte is_name_byte word rest same_bytes some r.ends in
    ((refl, some_length is_name_byte word begun, r.pass, r.ends), first ∙ ap (λ (b : List ℕ). 35 ∷ b) r.parts)

pub hash_is_ahead : (text behind word : List ℕ) → IsHash text behind word → hash_ahead (text ++ behind) ≡ true
hash_is_ahead text behind word r =
    ap (λ (t : List ℕ). hash_ahead (t ++ behind)) r.0 ∙ word_ahead (word ++ behind) ∙ next_behind is_name_byte word behind (first_passes is_name_byte word r.1 r.2)

pub hash_again : (text behind word : List ℕ) → IsHash text behind word → hash (text ++ behind) ≡ ok (word, behind)
unfolding hash name strip
hash_again text behind word r = rw r.0 (run_again is_name_byte word behind r.2 r.3)

pub hash_spells : SpellsPlaced (choice hash_ahead hash refuse) IsHash Anything
hash_spells = record {
  takes = λ bytes word rest e.
      let g = guarded hash_ahead hash bytes (word, rest) e in
      let t = hash_takes bytes word rest g.0 g.1 in
      (35 ∷ word, t.0, t.1);
  again = λ text word rest r any. rw (hash_is_ahead text rest word r) (hash_again text rest word r);
}
