-- The tables of bidi classes and break classes tell what the rows tell, and so do the tests for ranges of characters.
use Rattle.std.proofs.Common.{◌≡◌, ◌∙◌, sym, refl, ap, arith, ℕ, ◌+◌, ◌-◌, ◌<◌, ◌≤◌, true, leb, List, length, map, get_or, replicate, slice_index_or, inl, inr, ◌⊎◌, Option, Some}
use Rattle.std.specs.Prelude.{option_map}
use Rattle.std.specs.List.{range_with_len}
use Rattle.std.proofs.lemmas.Bool.{le-leb}
use Rattle.std.proofs.lemmas.Grind.{common_steps}
use Rattle.std.proofs.lemmas.List.{get_or-map, get_or-replicate}
use Rattle.std.proofs.lemmas.List.FromFn.{get_or-range_with_len, length-range_with_len}
use Rattle.wm_chars.proofs.Ascending.{the_row_found}
use Rattle.wm_chars.specs.Ranges.{is_ideograph}
use Rattle.wm_chars.specs.Repertoire.{bidi_class, break_class, row_of}
use Rattle.wm_chars.specs.declared.classes.BidiClass.{BidiClass}
use Rattle.wm_chars.specs.declared.classes.BidiClass.TheVariants.{L, R, AL, NSM, ON}
use Rattle.wm_chars.specs.declared.classes.BreakClass.{BreakClass}
use Rattle.wm_chars.specs.declared.classes.BreakClass.TheVariants.{Ideographic, Other}
use Rattle.wm_chars.specs.declared.classes.Orient.TheVariants.{R as turned}
use Rattle.wm_chars.specs.declared.rows.Row.{Row}
use Rattle.wm_chars.specs.declared.rows.TheConstants.{EMBEDDING_CLASSES, ISOLATE_CLASSES, PRINTABLE_BREAKS, PRINTABLE_CLASSES, ROWS}

-- ---- tables of classes

of_table : {Class : Type 0} (class_of : ℕ → Option Class) (first n : ℕ) (classes : List Class) → length classes ≡ n → map class_of (range_with_len first n) ≡ map (λ class. Some class) classes → (c : ℕ) (d : Class) → first ≤ c → c < first + n → Some (get_or classes (c - first) d) ≡ class_of c
of_table class_of first n classes long all c d low high =
    let many : length (range_with_len first n) ≡ n = length-range_with_len first n in
    let here : get_or (range_with_len first n) (c - first) 0 ≡ first + (c - first) = get_or-range_with_len first n (c - first) 0 (omega arith) in
    let is : first + (c - first) ≡ c = omega arith in
    sym (get_or-map (λ class. Some class) classes (c - first) d (Some d) (omega arith))
    ∙ ap (λ told. get_or told (c - first) (Some d)) (sym all)
    ∙ get_or-map class_of (range_with_len first n) (c - first) 0 (Some d) (omega arith)
    ∙ ap class_of (here ∙ is)

printable_as_the_rows : map bidi_class (range_with_len 32 95) ≡ map (λ class. Some class) PRINTABLE_CLASSES
unfolding bidi_class row_of
printable_as_the_rows = refl

embeddings_as_the_rows : map bidi_class (range_with_len 0x202A 5) ≡ map (λ class. Some class) EMBEDDING_CLASSES
unfolding bidi_class row_of
embeddings_as_the_rows = refl

isolates_as_the_rows : map bidi_class (range_with_len 0x2066 4) ≡ map (λ class. Some class) ISOLATE_CLASSES
unfolding bidi_class row_of
isolates_as_the_rows = refl

brackets_as_the_rows : map bidi_class (range_with_len 0x3008 10) ≡ map (λ class. Some class) (replicate 10 ON)
unfolding bidi_class row_of
brackets_as_the_rows = refl

breaks_as_the_rows : map break_class (range_with_len 32 95) ≡ map (λ class. Some class) PRINTABLE_BREAKS
unfolding break_class row_of
breaks_as_the_rows = refl

pub printable_class : (c : ℕ) (d : BidiClass) → 32 ≤ c → c ≤ 126 → Some (get_or PRINTABLE_CLASSES (c - 32) d) ≡ bidi_class c
printable_class c d low high = of_table bidi_class 32 95 PRINTABLE_CLASSES refl printable_as_the_rows c d low (omega arith)

pub printable_break : (c : ℕ) (d : BreakClass) → 32 ≤ c → c ≤ 126 → Some (get_or PRINTABLE_BREAKS (c - 32) d) ≡ break_class c
printable_break c d low high = of_table break_class 32 95 PRINTABLE_BREAKS refl breaks_as_the_rows c d low (omega arith)

pub embedding_class : (c : ℕ) (d : BidiClass) → 0x202A ≤ c → c ≤ 0x202E → Some (get_or EMBEDDING_CLASSES (c - 0x202A) d) ≡ bidi_class c
embedding_class c d low high = of_table bidi_class 0x202A 5 EMBEDDING_CLASSES refl embeddings_as_the_rows c d low (omega arith)

pub isolate_class : (c : ℕ) (d : BidiClass) → 0x2066 ≤ c → c ≤ 0x2069 → Some (get_or ISOLATE_CLASSES (c - 0x2066) d) ≡ bidi_class c
isolate_class c d low high = of_table bidi_class 0x2066 4 ISOLATE_CLASSES refl isolates_as_the_rows c d low (omega arith)

pub bracket_class : (c : ℕ) → 0x3008 ≤ c → c ≤ 0x3011 → bidi_class c ≡ Some ON
bracket_class c low high = sym (of_table bidi_class 0x3008 10 (replicate 10 ON) refl brackets_as_the_rows c ON low (omega arith)) ∙ ap (λ (class : BidiClass). Some class) (get_or-replicate 10 (c - 0x3008) ON ON (omega arith))

-- ---- characters of one row

-- the row at this place of the table
abbrev row_at : ℕ → Row
row_at k = slice_index_or ROWS k (record { first = 0; last = 0; class = L; orient = turned; breaks = Other })

found_at : (k c : ℕ) → k < length ROWS → (row_at k).first ≤ c → c ≤ (row_at k).last → row_of c ≡ Some (row_at k)
found_at k c inside low high =
    let begins : leb (row_at k).first c ≡ true = le-leb (row_at k).first c low in
    let ends : leb c (row_at k).last ≡ true = le-leb c (row_at k).last high in
    the_row_found c k _ inside (rw (begins, ends) refl)

of_row : (k c : ℕ) → k < length ROWS → (row_at k).first ≤ c → c ≤ (row_at k).last → bidi_class c ≡ Some (row_at k).class
unfolding bidi_class
of_row k c inside low high = ap (option_map (λ (row : Row). row.class)) (found_at k c inside low high)

both_of_row : (k c : ℕ) → k < length ROWS → (row_at k).first ≤ c → c ≤ (row_at k).last → (bidi_class c ≡ Some (row_at k).class) × (break_class c ≡ Some (row_at k).breaks)
unfolding bidi_class break_class
both_of_row k c inside low high = (of_row k c inside low high, ap (option_map (λ (row : Row). row.breaks)) (found_at k c inside low high))

pub mark_class : (c : ℕ) → 0x300 ≤ c → c ≤ 0x36F → bidi_class c ≡ Some NSM
mark_class c low high = of_row 39 c (omega arith) low high

pub hebrew_class : (c : ℕ) → 0x5D0 ≤ c → c ≤ 0x5EA → bidi_class c ≡ Some R
hebrew_class c low high = of_row 46 c (omega arith) low high

pub arabic_class : (c : ℕ) → 0x621 ≤ c → c ≤ 0x63A → bidi_class c ≡ Some AL
arabic_class c low high = of_row 50 c (omega arith) low high

pub further_arabic_class : (c : ℕ) → 0x641 ≤ c → c ≤ 0x64A → bidi_class c ≡ Some AL
further_arabic_class c low high = of_row 51 c (omega arith) low high

pub comma_class : (c : ℕ) → 0x3001 ≤ c → c ≤ 0x3002 → bidi_class c ≡ Some ON
comma_class c low high = of_row 71 c (omega arith) low high

-- ---- kana, Han and Hangul syllables

abbrev Ideographs : ℕ → Type 0
Ideographs c = ((0x3041 ≤ c) × (c ≤ 0x3096)) ⊎ (((0x30A1 ≤ c) × (c ≤ 0x30FA)) ⊎ (((0x4E00 ≤ c) × (c ≤ 0x9FFF)) ⊎ ((0xAC00 ≤ c) × (c ≤ 0xD7A3))))

in_ranges : (c : ℕ) → is_ideograph c ≡ true → Ideographs c
in_ranges c h = grind (arith, common_steps)

both : (c : ℕ) → Ideographs c → (bidi_class c ≡ Some L) × (break_class c ≡ Some Ideographic)
both c (inl is) = both_of_row 82 c (omega arith) is.0 is.1
both c (inr (inl is)) = both_of_row 83 c (omega arith) is.0 is.1
both c (inr (inr (inl is))) = both_of_row 85 c (omega arith) is.0 is.1
both c (inr (inr (inr is))) = both_of_row 86 c (omega arith) is.0 is.1

pub ideograph_class : (c : ℕ) → is_ideograph c ≡ true → Some L ≡ bidi_class c
ideograph_class c is = sym (both c (in_ranges c is)).0

pub ideograph_break : (c : ℕ) → is_ideograph c ≡ true → Some Ideographic ≡ break_class c
ideograph_break c is = sym (both c (in_ranges c is)).1
