-- The rows that the two tables of counts tell of end before the characters of which they tell it.
use Rattle.std.proofs.Common.{◌≡◌, ℕ, zero, suc, ◌+◌, ◌*◌, ◌<◌, ◌≤◌, Bool, true, false, ◌&&◌, ltb, List, [], ◌∷◌, length, slice_index_or, refl, arith}
use Rattle.std.proofs.Math.Nat.{mul-zero, mul-suc}
use Rattle.std.specs.List.{AllWithin}
use Rattle.std.proofs.lemmas.Bool.{and_parts, ltb-true}
use Rattle.std.proofs.lemmas.List.{get_or_default}
use Rattle.std.proofs.lemmas.List.Elements.{AllWithin-more}
use Rattle.wm_chars.specs.Repertoire.{DividesAt}
use Rattle.wm_chars.specs.declared.rows.Row.{Row}
use Rattle.wm_chars.specs.declared.rows.TheConstants.{ROWS, ROWS_BEFORE_ASCII, ROWS_BEFORE_BLOCK, ROWS_BEFORE_HAN, ROWS_BEFORE_KANA}
use Rattle.wm_chars.proofs.Ascending.{ends_ascend, the_rows_climb}

-- the first n rows end before the character
abbrev end_before : (c n : ℕ) → List Row → Bool
end_before c zero rows = true
end_before c (suc n) [] = false
end_before c (suc n) (row ∷ rows) = ltb row.last c && end_before c n rows

-- so many rows end before each of the characters that follow one another by this step, from this one on
abbrev are_before : (step c : ℕ) → List ℕ → Bool
are_before step c [] = true
are_before step c (n ∷ counts) = end_before c n ROWS && are_before step (c + step) counts

ascii_is_before : are_before 1 0 ROWS_BEFORE_ASCII ≡ true
ascii_is_before = refl

blocks_are_before : are_before 16 0 ROWS_BEFORE_BLOCK ≡ true
blocks_are_before = refl

row_ends : (c n : ℕ) (rows : List Row) → end_before c n rows ≡ true → (k : ℕ) (d : Row) → k < n → (slice_index_or rows k d).last < c
row_ends c zero rows e k d lt = absurd (omega arith)
row_ends c (suc n) [] e k d lt = absurd (cc)
row_ends c (suc n) (row ∷ rows) e zero d lt = ltb-true row.last c (and_parts (ltb row.last c) (end_before c n rows) e).0
row_ends c (suc n) (row ∷ rows) e (suc k) d lt = row_ends c n rows (and_parts (ltb row.last c) (end_before c n rows) e).1 k d (omega arith)

count_at : (step c at : ℕ) (counts : List ℕ) → are_before step c counts ≡ true → (k d : ℕ) → k < length counts → c + step * k ≡ at → end_before at (slice_index_or counts k d) ROWS ≡ true
count_at step c at [] e k d lt is = absurd (omega arith)
count_at step c at (n ∷ counts) e zero d lt is =
    let here : end_before c n ROWS ≡ true = (and_parts (end_before c n ROWS) (are_before step (c + step) counts) e).0 in
    let same : c ≡ at = omega (arith, mul-zero step) in
    rw same at here
count_at step c at (n ∷ counts) e (suc k) d lt is =
    let next : c + step + step * k ≡ at = omega (arith, mul-suc step k) in
    count_at step (c + step) at counts (and_parts (end_before c n ROWS) (are_before step (c + step) counts) e).1 k d (omega arith) next

-- the rows that are known to end before a character of ASCII
pub ascii_rows_end : (c k : ℕ) (d : Row) → c < length ROWS_BEFORE_ASCII → k < slice_index_or ROWS_BEFORE_ASCII c 0 → (slice_index_or ROWS k d).last < c
ascii_rows_end c k d inside lt = row_ends c (slice_index_or ROWS_BEFORE_ASCII c 0) ROWS (count_at 1 0 c ROWS_BEFORE_ASCII ascii_is_before c 0 inside (omega arith)) k d lt

-- and before the block of a character
pub block_rows_end : (c block k : ℕ) (d : Row) → block < length ROWS_BEFORE_BLOCK → 16 * block ≤ c → k < slice_index_or ROWS_BEFORE_BLOCK block 0 → (slice_index_or ROWS k d).last < c
block_rows_end c block k d inside le lt =
    let ends : (slice_index_or ROWS k d).last < 16 * block = row_ends (16 * block) (slice_index_or ROWS_BEFORE_BLOCK block 0) ROWS (count_at 16 0 (16 * block) ROWS_BEFORE_BLOCK blocks_are_before block 0 inside (omega arith)) k d lt in
    omega arith

kana_is_before : end_before 0x3041 ROWS_BEFORE_KANA ROWS ≡ true
kana_is_before = refl

han_is_before : end_before 0x4E00 ROWS_BEFORE_HAN ROWS ≡ true
han_is_before = refl

-- and before a character of Kana, or of Han or Hangul
pub kana_rows_end : (c k : ℕ) (d : Row) → 0x3041 ≤ c → k < ROWS_BEFORE_KANA → (slice_index_or ROWS k d).last < c
kana_rows_end c k d le lt =
    let ends : (slice_index_or ROWS k d).last < 0x3041 = row_ends 0x3041 ROWS_BEFORE_KANA ROWS kana_is_before k d lt in
    omega arith

pub han_rows_end : (c k : ℕ) (d : Row) → 0x4E00 ≤ c → k < ROWS_BEFORE_HAN → (slice_index_or ROWS k d).last < c
han_rows_end c k d le lt =
    let ends : (slice_index_or ROWS k d).last < 0x4E00 = row_ends 0x4E00 ROWS_BEFORE_HAN ROWS han_is_before k d lt in
    omega arith

-- the first row that doesn't end before the character
pub divides_at : (c place : ℕ) (e : Row) → place < length ROWS → AllWithin (λ row. row.last < c) ROWS 0 place → c ≤ (slice_index_or ROWS place e).last → DividesAt c place
divides_at c place e inside before here = record {
  before = before;
  behind = λ k d low high.
      let same : slice_index_or ROWS place d ≡ slice_index_or ROWS place e = get_or_default ROWS place d e inside in
      let reaches : c ≤ (slice_index_or ROWS place d).last = rw same here in
      let ends : (slice_index_or ROWS place d).last ≤ (slice_index_or ROWS k d).last = ends_ascend 0 ROWS the_rows_climb place k d low high in
      omega arith;
}

-- one more row that ends before the character
pub before_more : (c place : ℕ) (e : Row) → place < length ROWS → AllWithin (λ row. row.last < c) ROWS 0 place → (slice_index_or ROWS place e).last < c → AllWithin (λ row. row.last < c) ROWS 0 (place + 1)
before_more c place e inside before here = AllWithin-more (λ row. row.last < c) ROWS 0 place before (λ d. rw (get_or_default ROWS place d e inside) here)
