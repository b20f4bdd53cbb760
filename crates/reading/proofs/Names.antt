-- Tables of names, row by row.
use Rattle.std.proofs.Common.{◌≡◌, ℕ, ◌<◌, ◌≤◌, ◌+◌, true, false, List, [], ◌∷◌, length, drop, get_or, bytes_eq, Some, None, Err, refl, sym, ◌∙◌}
use Rattle.std.specs.Prelude.{Option, Bool, cond, eqb, is_ok, ⊤}
use Rattle.std.specs.Char.{to_ascii_lowercase}
use denote.Bor.{Bor}
use Rattle.std.proofs.lemmas.List.{drop_all, drop_more}
use Rattle.reading.specs.Readers.{Read, strip, strip_either_case, starts, can_read}
use Rattle.reading.specs.Names.{lowered, named, words_of}

name_step : {T : Type 0} (word : List ℕ) (x : T) (others : List (List ℕ × T)) (name : List ℕ) → bytes_eq (lowered word) name ≡ false → named ((word, x) ∷ others) name ≡ named others name
name_step word x others name e = rw e refl

name_is : {T : Type 0} (word : List ℕ) (x : T) (others : List (List ℕ × T)) (name : List ℕ) → bytes_eq (lowered word) name ≡ true → named ((word, x) ∷ others) name ≡ Some x
name_is word x others name e = rw e refl

pub names_go_on : {T : Type 0} (table : List (Bor (List ℕ) × T)) (i : ℕ) (d : Bor (List ℕ) × T) (name : List ℕ) (total : Option T) → i < length table
    → bytes_eq (lowered (get_or table i d).0.now) name ≡ false → named (words_of (drop i table)) name ≡ total → named (words_of (drop (i + 1) table)) name ≡ total
names_go_on table i d name total lt e so_far =
    let here : named (words_of (drop i table)) name ≡ named (words_of (drop (i + 1) table)) name =
    rw (drop_more table i d lt) (name_step (get_or table i d).0.now (get_or table i d).1 (words_of (drop (i + 1) table)) name e) in
    sym here ∙ so_far

pub names_here : {T : Type 0} (table : List (Bor (List ℕ) × T)) (i : ℕ) (d : Bor (List ℕ) × T) (name : List ℕ) (total : Option T) → i < length table
    → bytes_eq (lowered (get_or table i d).0.now) name ≡ true → named (words_of (drop i table)) name ≡ total → Some (get_or table i d).1 ≡ total
names_here table i d name total lt e so_far =
    let here : named (words_of (drop i table)) name ≡ Some (get_or table i d).1 =
    rw (drop_more table i d lt) (name_is (get_or table i d).0.now (get_or table i d).1 (words_of (drop (i + 1) table)) name e) in
    sym here ∙ so_far

pub names_end : {T : Type 0} (table : List (Bor (List ℕ) × T)) (i : ℕ) (name : List ℕ) (total : Option T) → length table ≤ i → named (words_of (drop i table)) name ≡ total → None ≡ total
names_end table i name total le so_far =
    let none : drop i table ≡ [] = drop_all i table le in
    rw none at so_far

-- ---- a name begins with a text

same_by : (byte wanted : ℕ) (t : Bool) (one two : Read ⊤) → eqb (to_ascii_lowercase byte) wanted ≡ t → (low high : List ℕ) → is_ok one ≡ is_ok two
    → is_ok (cond t one (Err low)) ≡ is_ok (cond t two (Err high))
same_by byte wanted true one two e low high same = same
same_by byte wanted false one two e low high same = refl

pub lowered_starts : (word name : List ℕ) → starts word (lowered name) ≡ can_read (strip_either_case word) name
unfolding starts strip strip_either_case
lowered_starts [] name = refl
lowered_starts (wanted ∷ word) [] = refl
lowered_starts (wanted ∷ word) (byte ∷ name) =
    same_by byte wanted (eqb (to_ascii_lowercase byte) wanted) (strip word (lowered name)) (strip_either_case word name) refl (lowered (byte ∷ name)) (byte ∷ name) (lowered_starts word name)
