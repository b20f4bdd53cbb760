-- Lists from which a number goes.
use Rattle.std.proofs.Common.{◌≡◌, ◌∙◌, ℕ, zero, suc, ◌+◌, ◌<◌, Bool, true, false, cond, List, [], ◌∷◌, ◌++◌, ◌||◌, ◌≤◌, ◌-◌, length, length-append, get_or, take, drop, filter, refl, ap, sym, arith, Option, Some, None, option_map, inl, inr}
use Rattle.std.specs.Prelude.{nat_eq, not, unwrap_or}
use Rattle.std.specs.List.{list_any, position, position_from, position_or_len, remove, slice_range}
use Rattle.std.proofs.lemmas.Iterator.Adapters.{position_from-zero}
use Rattle.std.proofs.lemmas.List.{drop_more, length-drop, length-take-le, take-append-drop}
use Rattle.std.proofs.lemmas.List.Elements.{filter-append}
use Rattle.std.proofs.lemmas.List.Folds.{drop_split}
use Rattle.std.proofs.lemmas.List.Quantifiers.{position-Some}
use Rattle.std.proofs.lemmas.Bool.{cases_lt, le-ltb, lt-ltb}
use Rattle.std.proofs.lemmas.Bool.Decides.{nat_tests}
use Rattle.std.proofs.lemmas.List.Sums.{prefix_len-le-length}
use Rattle.std.proofs.lemmas.Option.{none-some}
use Rattle.dom_store.specs.Edits.{without}
use Rattle.dom_store.specs.Taking.{without_run}

abbrev is_it : (number : ℕ) → ℕ → Bool
is_it number other = nat_eq other number

dropped : (number : ℕ) (children : List ℕ) (b : Bool) → not b ≡ false → (c : ℕ) → nat_eq c number ≡ b → without number (c ∷ children) ≡ without number children
dropped number children true is c here = rw here refl
dropped number children false is c here = absurd cc

-- a number that is at a place goes from it
pub one_dropped : (number : ℕ) (children : List ℕ) (place : ℕ) → position (is_it number) children ≡ Some place → without number (remove children place) ≡ without number children
one_dropped number children place is =
    let found = position-Some (is_it number) children place number is in
    let test = λ (child : ℕ). not (nat_eq child number) in
    let onward : suc place ≡ place + 1 = omega arith in
    let later = drop (suc place) children in
    let here : get_or children place number ∷ later ≡ drop place children = ap (λ (n : ℕ). get_or children place number ∷ drop n children) onward ∙ sym (drop_more children place number found.0) in
    let away : without number (get_or children place number ∷ later) ≡ without number later = dropped number later true refl (get_or children place number) found.1 in
    filter-append test (take place children) later
    ∙ (ap (λ (l : List ℕ). filter test (take place children) ++ l) (sym away ∙ ap (filter test) here)
    ∙ (sym (filter-append test (take place children) (drop place children)) ∙ ap (filter test) (take-append-drop place children)))

-- and the list is shorter then
pub fewer : (number : ℕ) (children : List ℕ) (place : ℕ) → position (is_it number) children ≡ Some place → length (remove children place) < length children
fewer number children place is =
    let found = position-Some (is_it number) children place number is in
    let long = length-append (take place children) (drop (suc place) children) in
    let front = length-take-le place children (omega (arith, found.0)) in
    omega (arith, long, front, length-drop (suc place) children, found.0)

none_from : (number at : ℕ) (children : List ℕ) → position_from (is_it number) at children ≡ None → without number children ≡ children
none_from number at [] none = refl
none_from number at (child ∷ children) none = more (nat_eq child number) refl (none_from number (at + 1) children)
  where
    more : (b : Bool) → nat_eq child number ≡ b → (position_from (is_it number) (at + 1) children ≡ None → without number children ≡ children) → without number (child ∷ children) ≡ child ∷ children
    more true here rest = absurd (none-some at (sym none ∙ ap (λ (b : Bool). cond b (Some at) (position_from (is_it number) (at + 1) children)) here))
    more false there rest =
        let later = rest (sym (ap (λ (b : Bool). cond b (Some at) (position_from (is_it number) (at + 1) children)) there) ∙ none) in
        rw there (ap (λ (l : List ℕ). child ∷ l) later)

-- a number that is nowhere
pub none_dropped : (number : ℕ) (children : List ℕ) → position (is_it number) children ≡ None → without number children ≡ children
none_dropped number children none = none_from number 0 children (sym (position_from-zero (is_it number) children) ∙ none)

-- ---- a number that stands at one place alone

kept_before : (number : ℕ) (numbers : List ℕ) (place : ℕ) → ((k : ℕ) → k < place → is_it number (get_or numbers k number) ≡ false) → without number (take place numbers) ≡ take place numbers
kept_before number numbers zero others = refl
kept_before number [] (suc place) others = refl
kept_before number (first ∷ numbers) (suc place) others =
    let onward = kept_before number numbers place (λ k below. others (suc k) (omega (arith, below))) in
    let apart = others 0 (omega arith) in
    rw apart (ap (λ (l : List ℕ). first ∷ l) onward)

-- a list in which it isn't
kept_all : (number : ℕ) (numbers : List ℕ) → list_any (is_it number) numbers ≡ false → without number numbers ≡ numbers
kept_all number [] none = refl
kept_all number (first ∷ numbers) none = here (nat_eq first number) refl none (kept_all number numbers)
  where
    here : (b : Bool) → nat_eq first number ≡ b → (b || list_any (is_it number) numbers) ≡ false → (list_any (is_it number) numbers ≡ false → without number numbers ≡ numbers) → without number (first ∷ numbers) ≡ first ∷ numbers
    here true is nothing onward = absurd cc
    here false is nothing onward = rw is (ap (λ (l : List ℕ). first ∷ l) (onward nothing))

-- the first place of a number behind which it isn't again
pub alone_there : (number : ℕ) (numbers : List ℕ) (place : ℕ) → position (is_it number) numbers ≡ Some place → list_any (is_it number) (drop (place + 1) numbers) ≡ false
    → (take 1 (drop place numbers) ≡ number ∷ []) × (without number numbers ≡ without_run place 1 numbers)
alone_there number numbers place is none =
    let found = position-Some (is_it number) numbers place number is in
    let later = drop (place + 1) numbers in
    let same : get_or numbers place number ≡ number = grind (arith, nat_tests, found.1) in
    let parts : drop place numbers ≡ number ∷ later = drop_more numbers place number found.0 ∙ ap (λ (n : ℕ). n ∷ later) same in
    let kept = kept_before number numbers place found.2 in
    let away : without number (number ∷ later) ≡ later = dropped number later true refl number (grind (arith, nat_tests)) ∙ kept_all number later none in (
      ap (take 1) parts,
      ap (without number) (sym (take-append-drop place numbers))
          ∙ (filter-append (λ (child : ℕ). not (nat_eq child number)) (take place numbers) (drop place numbers)
          ∙ (ap (λ (l : List ℕ). l ++ without number (drop place numbers)) kept
          ∙ ap (λ (l : List ℕ). take place numbers ++ l) (ap (without number) parts ∙ away))),
    )

-- ---- blocks

-- further on, places are greater by as much
pub shifted : (number by at : ℕ) (numbers : List ℕ) → position_from (is_it number) (by + at) numbers ≡ option_map (λ place. by + place) (position_from (is_it number) at numbers)
shifted number by at [] = refl
shifted number by at (other ∷ others) = here (nat_eq other number) (ap (λ (n : ℕ). position_from (is_it number) n others) (omega arith) ∙ shifted number by (at + 1) others)
  where
    here : (b : Bool) → position_from (is_it number) (by + at + 1) others ≡ option_map (λ place. by + place) (position_from (is_it number) (at + 1) others)
        → cond b (Some (by + at)) (position_from (is_it number) (by + at + 1) others) ≡ option_map (λ place. by + place) (cond b (Some at) (position_from (is_it number) (at + 1) others))
    here true more = refl
    here false more = more

-- numbers among which it isn't are passed over
pub passed_over : (number at : ℕ) (numbers others : List ℕ) → list_any (is_it number) numbers ≡ false → position_from (is_it number) at (numbers ++ others) ≡ position_from (is_it number) (at + length numbers) others
passed_over number at [] others none = ap (λ (n : ℕ). position_from (is_it number) n others) (omega arith)
passed_over number at (other ∷ numbers) others none = here (nat_eq other number) none (λ rest. passed_over number (at + 1) numbers others rest ∙ ap (λ (n : ℕ). position_from (is_it number) n others) (omega arith))
  where
    here : (b : Bool) → (b || list_any (is_it number) numbers) ≡ false → (list_any (is_it number) numbers ≡ false → position_from (is_it number) (at + 1) (numbers ++ others) ≡ position_from (is_it number) (at + suc (length numbers)) others)
        → cond b (Some at) (position_from (is_it number) (at + 1) (numbers ++ others)) ≡ position_from (is_it number) (at + suc (length numbers)) others
    here true none more = absurd cc
    here false none more = more none

-- the same as of a whole list
pub whole_position : (number : ℕ) (numbers : List ℕ) → position (is_it number) numbers ≡ position_from (is_it number) 0 numbers
whole_position number numbers = position_from-zero (is_it number) numbers

-- a block is passed over
pub block_passed : (number start size : ℕ) (numbers : List ℕ) → start + size ≤ length numbers → list_any (is_it number) (slice_range numbers start (start + size)) ≡ false
    → position_from (is_it number) start (drop start numbers) ≡ position_from (is_it number) (start + size) (drop (start + size) numbers)
block_passed number start size numbers within none =
    let block = slice_range numbers start (start + size) in
    let long : length block ≡ size = length-take-le (start + size - start) (drop start numbers) (let left = length-drop start numbers in omega (arith, left, within)) ∙ omega arith in
    ap (position_from (is_it number) start) (drop_split numbers start (start + size) (omega arith))
    ∙ (passed_over number start block (drop (start + size) numbers) none ∙ ap (λ (n : ℕ). position_from (is_it number) (start + n) (drop (start + size) numbers)) long)

-- the first place of a number, or the end
pub place_known : (number : ℕ) (numbers : List ℕ) → unwrap_or (position (is_it number) numbers) (length numbers) ≡ position_or_len (is_it number) numbers
place_known number numbers =
    let most : ℕ = position_or_len (is_it number) numbers in
    elim (cases_lt most (length numbers)) [
      | inl within ↦ rw (lt-ltb most (length numbers) within) refl
      | inr past ↦ rw (le-ltb most (length numbers) past) (omega (arith, past, prefix_len-le-length (λ (other : ℕ). not (nat_eq other number)) numbers))
    ]

-- a place behind those that are passed over
pub place_behind : (number start : ℕ) (numbers : List ℕ) (place : Option ℕ) → position (is_it number) numbers ≡ position_from (is_it number) start (drop start numbers) → place ≡ position (is_it number) (drop start numbers)
    → option_map (λ p. start + p) place ≡ position (is_it number) numbers
place_behind number start numbers place passed is =
    ap (option_map (λ p. start + p)) (is ∙ whole_position number (drop start numbers))
    ∙ (sym (shifted number start 0 (drop start numbers)) ∙ (ap (λ (n : ℕ). position_from (is_it number) n (drop start numbers)) (omega arith) ∙ sym passed))
