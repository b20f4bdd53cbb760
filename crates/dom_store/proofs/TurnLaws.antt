-- Lists of which one number comes to another place.
use Rattle.std.proofs.Common.{◌≡◌, ◌∙◌, ℕ, ◌+◌, ◌-◌, ◌<◌, ◌≤◌, min, List, ◌++◌, length, length-append, length-drop, take, drop, append_assoc, refl, ap, sym, arith}
use Rattle.std.proofs.lemmas.List.{drop-append-le, drop-drop, drop-take, drop_at, drop_min, length-take, length-take-le, take-append-drop, take-append-le, take-take, take_at, take_min}
use Rattle.std.proofs.Math.Seq.{take-append-add}
use borrow.Rule.Slice.PartMut.{mid_of, put_mid}
use Rattle.dom_store.specs.Edits.{with_put}
use Rattle.dom_store.specs.Taking.{turned, without_run}

append_grouped : (a b c d : List ℕ) → (a ++ b) ++ c ++ d ≡ a ++ (b ++ c ++ d)
append_grouped a b c d = append_assoc (a ++ b) c d ∙ (append_assoc a b (c ++ d) ∙ ap (λ (l : List ℕ). a ++ l) (sym (append_assoc b c d)))

-- a list in parts: what stands before a place, the number there, and what stands behind it
module _ (numbers : List ℕ) (place : ℕ) (within : place < length numbers) where
  pub before_length : length (take place numbers) ≡ place
  before_length = length-take-le place numbers (omega (arith, within))

  one_length : length (take 1 (drop place numbers)) ≡ 1
  one_length = length-take-le 1 (drop place numbers) (omega (arith, length-drop place numbers, within))

  pub left_length : length (without_run place 1 numbers) + 1 ≡ length numbers
  left_length = omega (arith, length-append (take place numbers) (drop (place + 1) numbers), before_length, length-drop (place + 1) numbers, within)

  pub put_again : with_put place (take 1 (drop place numbers)) (without_run place 1 numbers) ≡ numbers
  put_again =
      let front = take place numbers in
      let behind = drop (place + 1) numbers in
      let one = take 1 (drop place numbers) in
      ap (λ (l : List ℕ). l ++ one ++ drop place (front ++ behind)) (take_at front behind place before_length)
      ∙ (ap (λ (l : List ℕ). front ++ one ++ l) (drop_at front behind place before_length)
      ∙ (append_assoc front one behind
      ∙ (ap (λ (l : List ℕ). front ++ (one ++ l)) (sym (drop-drop 1 place numbers))
      ∙ (ap (λ (l : List ℕ). front ++ l) (take-append-drop 1 (drop place numbers)) ∙ take-append-drop place numbers))))

-- numbers that were put at an index stand there, and the others are what they were
module _ (index : ℕ) (tops numbers : List ℕ) (within : index ≤ length numbers) where
  abbrev front : List ℕ
  front = take index numbers

  in_parts : with_put index tops numbers ≡ front ++ (tops ++ drop index numbers)
  in_parts = append_assoc front tops (drop index numbers)

  pub those_put : take (length tops) (drop index (with_put index tops numbers)) ≡ tops
  those_put =
      ap (λ (l : List ℕ). take (length tops) (drop index l)) in_parts
      ∙ (ap (take (length tops)) (drop_at front (tops ++ drop index numbers) index (length-take-le index numbers within)) ∙ take_at tops (drop index numbers) (length tops) refl)

  pub taken_out : without_run index (length tops) (with_put index tops numbers) ≡ numbers
  taken_out =
      let rest = drop index numbers in
      let long = length-take-le index numbers within in
      let behind : drop (index + length tops) (front ++ (tops ++ rest)) ≡ rest = sym (drop-drop (length tops) index (front ++ (tops ++ rest))) ∙ (ap (drop (length tops)) (drop_at front (tops ++ rest) index long) ∙ drop_at tops rest (length tops) refl) in
      ap (without_run index (length tops)) in_parts
      ∙ (ap (λ (l : List ℕ). l ++ drop (index + length tops) (front ++ (tops ++ rest))) (take_at front (tops ++ rest) index long)
      ∙ (ap (λ (l : List ℕ). front ++ l) behind ∙ take-append-drop index numbers))

-- a number that came to another place comes back
pub turned_back : (numbers : List ℕ) (from to : ℕ) → from < length numbers → to < length numbers → turned to from (turned from to numbers) ≡ numbers
turned_back numbers from to within also =
    let one = take 1 (drop from numbers) in
    let others = without_run from 1 numbers in
    let single : length one ≡ 1 = one_length numbers from within in
    let fits : to ≤ length others = omega (arith, left_length numbers from within, also) in
    let again : take 1 (drop to (turned from to numbers)) ≡ one = ap (λ (n : ℕ). take n (drop to (turned from to numbers))) (sym single) ∙ those_put to one others fits in
    let left : without_run to 1 (turned from to numbers) ≡ others = ap (λ (n : ℕ). without_run to n (turned from to numbers)) (sym single) ∙ taken_out to one others fits in
    ap (λ (l : List ℕ). with_put from l (without_run to 1 (turned from to numbers))) again
    ∙ (ap (with_put from one) left ∙ put_again numbers from within)

-- ---- the part between the two places, turned by one

module _ (numbers part : List ℕ) (at by size : ℕ) (within : at + by < length numbers) (is : size ≡ 1 + by) where
  -- its first number comes behind the others
  pub turned_up : part ≡ drop 1 (mid_of at size numbers) ++ take 1 (mid_of at size numbers) → put_mid at size numbers part ≡ turned at (at + by) numbers
  turned_up turns =
      let front = take at numbers in
      let rest = drop at numbers in
      let one = take 1 rest in
      let later = drop (at + 1) numbers in
      let long : length front ≡ at = length-take-le at numbers (omega (arith, within)) in
      let whole : take size rest ≡ take (1 + by) rest = ap (λ (n : ℕ). take n rest) is in
      let others : drop 1 (take size rest) ≡ take by later = ap (drop 1) whole ∙ (drop-take 1 by rest ∙ ap (take by) (drop-drop 1 at numbers)) in
      let first : take 1 (take size rest) ≡ one = ap (take 1) whole ∙ take-take 1 (1 + by) rest (omega arith) in
      let behind : drop size rest ≡ drop by later = ap (λ (n : ℕ). drop n rest) is ∙ (sym (drop-drop by 1 rest) ∙ ap (drop by) (drop-drop 1 at numbers)) in
      let upto : take (at + by) (front ++ later) ≡ front ++ take by later = ap (λ (n : ℕ). take (n + by) (front ++ later)) (sym long) ∙ take-append-add front later by in
      let after : drop (at + by) (front ++ later) ≡ drop by later = sym (drop-drop by at (front ++ later)) ∙ ap (drop by) (drop_at front later at long) in
      ap (λ (l : List ℕ). front ++ (l ++ drop size rest)) turns
      ∙ (ap (λ (l : List ℕ). front ++ (l ++ take 1 (take size rest) ++ drop size rest)) others
      ∙ (ap (λ (l : List ℕ). front ++ (take by later ++ l ++ drop size rest)) first
      ∙ (ap (λ (l : List ℕ). front ++ (take by later ++ one ++ l)) behind
      ∙ (sym (append_grouped front (take by later) one (drop by later))
      ∙ (ap (λ (l : List ℕ). l ++ one ++ drop by later) (sym upto) ∙ ap (λ (l : List ℕ). take (at + by) (front ++ later) ++ one ++ l) (sym after))))))

  -- its last number comes before the others
  pub turned_down : (most : ℕ) → most ≡ by → part ≡ drop most (mid_of at size numbers) ++ take most (mid_of at size numbers) → put_mid at size numbers part ≡ turned (at + by) at numbers
  turned_down most same turns =
      let front = take at numbers in
      let rest = drop at numbers in
      let before = take (at + by) numbers in
      let one = take 1 (drop (at + by) numbers) in
      let later = drop (at + by + 1) numbers in
      let whole : take size rest ≡ take (by + 1) rest = ap (λ (n : ℕ). take n rest) (is ∙ omega arith) in
      let last : drop most (take size rest) ≡ one = ap (λ (n : ℕ). drop n (take size rest)) same ∙ (ap (drop by) whole ∙ (drop-take by 1 rest ∙ ap (take 1) (drop-drop by at numbers))) in
      let others : take most (take size rest) ≡ take by rest = ap (λ (n : ℕ). take n (take size rest)) same ∙ (ap (take by) whole ∙ take-take by (by + 1) rest (omega arith)) in
      let behind : drop size rest ≡ later = drop-drop size at numbers ∙ ap (λ (n : ℕ). drop n numbers) (omega (arith, is)) in
      let long : at ≤ length before = omega (arith, length-take-le (at + by) numbers (omega (arith, within))) in
      let upto : take at (before ++ later) ≡ front = take-append-le at before later long ∙ take-take at (at + by) numbers (omega arith) in
      let after : drop at (before ++ later) ≡ take by rest ++ later = drop-append-le at before later long ∙ ap (λ (l : List ℕ). l ++ later) (drop-take at by numbers) in
      ap (λ (l : List ℕ). front ++ (l ++ drop size rest)) turns
      ∙ (ap (λ (l : List ℕ). front ++ (l ++ take most (take size rest) ++ drop size rest)) last
      ∙ (ap (λ (l : List ℕ). front ++ (one ++ l ++ drop size rest)) others
      ∙ (ap (λ (l : List ℕ). front ++ (one ++ take by rest ++ l)) behind
      ∙ (sym (append_grouped front one (take by rest) later)
      ∙ (append_assoc (front ++ one) (take by rest) later
      ∙ (ap (λ (l : List ℕ). l ++ one ++ (take by rest ++ later)) (sym upto) ∙ ap (λ (l : List ℕ). take at (before ++ later) ++ one ++ l) (sym after)))))))

-- ---- the list whole, of which the part was lent

turned_length : (numbers : List ℕ) (from to : ℕ) → from < length numbers → length (turned from to numbers) ≡ length numbers
turned_length numbers from to within =
    let one = take 1 (drop from numbers) in
    let others = without_run from 1 numbers in
    omega (arith, length-append (take to others ++ one) (drop to others), length-append (take to others) one, one_length numbers from within, length-take to others, length-drop to others, left_length numbers from within)

-- a place past the last is the last
pub turned_at_most : (numbers : List ℕ) (from to most : ℕ) → from < length numbers → most ≡ min to (length numbers - 1) → turned from most numbers ≡ turned from to numbers
turned_at_most numbers from to most within is =
    let one = take 1 (drop from numbers) in
    let others = without_run from 1 numbers in
    let same : most ≡ min to (length others) = omega (arith, is, left_length numbers from within) in
    ap (λ (n : ℕ). with_put n one others) same
    ∙ (ap (λ (l : List ℕ). l ++ one ++ drop (min to (length others)) others) (take_min to others) ∙ ap (λ (l : List ℕ). take to others ++ one ++ l) (drop_min to others))

pub turned_whole : (numbers lent whole : List ℕ) (count from to : ℕ) → lent ≡ numbers → count ≡ length numbers → from < length numbers → whole ≡ turned from to lent
    → take count (whole ++ drop (length whole) numbers) ≡ turned from to numbers
turned_whole numbers lent whole count from to same many within is =
    let turns : whole ≡ turned from to numbers = is ∙ ap (turned from to) same in
    take_at whole (drop (length whole) numbers) count (ap length turns ∙ (turned_length numbers from to within ∙ sym many)) ∙ turns
