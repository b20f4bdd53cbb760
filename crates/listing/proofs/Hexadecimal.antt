-- The hexadecimal digits of a code point, place by place.
use Rattle.std.proofs.Common.{◌≡◌, refl, sym, ap, ◌∙◌, ℕ, zero, ◌/◌, ◌<◌, ◌≤◌, List, [], ◌∷◌, ◌++◌, length, true, false, Bool, cond, suc, nat_eq, arith, ◌⊎◌, inl, inr, ◌-◌}
use Rattle.std.specs.Prelude.{replicate, slice_index_or}
use Rattle.std.specs.Fmt.{digit_glyph, digits, digits_onto}
use Rattle.std.proofs.lemmas.Bool.Decides.{nat_tests}
use Rattle.std.proofs.lemmas.Bool.{cases_lt}
use Rattle.listing.specs.Words.{code_point, digit, four_digits, high_digit}

-- ---- one digit after another

onto : (n : ℕ) → digits_onto 64 16 true n [] ≡ digits 16 true n
unfolding digits
onto n = refl

by_test : (n k : ℕ) (acc : List ℕ) (t : Bool) → nat_eq (n / 16) 0 ≡ t
    → digits_onto (suc k) 16 true n acc ≡ cond t (digit n ∷ acc) (digits_onto k 16 true (n / 16) (digit n ∷ acc))
by_test n k acc t e = ap (λ (b : Bool). cond b (digit n ∷ acc) (digits_onto k 16 true (n / 16) (digit n ∷ acc))) e

last : (n k : ℕ) (acc : List ℕ) → n < 16 → digits_onto (suc k) 16 true n acc ≡ digit n ∷ acc
last n k acc small = by_test n k acc true (grind (arith, nat_tests))

more : (n k : ℕ) (acc : List ℕ) → 16 ≤ n → digits_onto (suc k) 16 true n acc ≡ digits_onto k 16 true (n / 16) (digit n ∷ acc)
more n k acc large = by_test n k acc false (grind (arith, nat_tests))

-- ---- numbers of one to six digits

one : (n : ℕ) → n < 16 → digits 16 true n ≡ digit n ∷ []
one n small = sym (onto n) ∙ last n 63 [] (omega arith)

two : (n : ℕ) → 16 ≤ n → n < 256 → digits 16 true n ≡ digit (n / 16) ∷ digit n ∷ []
two n large small =
    sym (onto n)
    ∙ more n 63 [] (omega arith)
    ∙ last (n / 16) 62 (digit n ∷ []) (omega arith)

three : (n : ℕ) → 256 ≤ n → n < 4096 → digits 16 true n ≡ digit (n / 16 / 16) ∷ digit (n / 16) ∷ digit n ∷ []
three n large small =
    sym (onto n)
    ∙ more n 63 [] (omega arith)
    ∙ more (n / 16) 62 (digit n ∷ []) (omega arith)
    ∙ last (n / 16 / 16) 61 (digit (n / 16) ∷ digit n ∷ []) (omega arith)

-- the last three digits, behind those of what is left
rest : (n : ℕ) → 4096 ≤ n → digits 16 true n ≡ digits_onto 61 16 true (n / 16 / 16 / 16) (digit (n / 16 / 16) ∷ digit (n / 16) ∷ digit n ∷ [])
rest n large =
    sym (onto n)
    ∙ more n 63 [] (omega arith)
    ∙ more (n / 16) 62 (digit n ∷ []) (omega arith)
    ∙ more (n / 16 / 16) 61 (digit (n / 16) ∷ digit n ∷ []) (omega arith)

four : (n : ℕ) → 4096 ≤ n → n < 65536 → digits 16 true n ≡ digit (n / 16 / 16 / 16) ∷ digit (n / 16 / 16) ∷ digit (n / 16) ∷ digit n ∷ []
four n large small = rest n large ∙ last (n / 16 / 16 / 16) 60 _ (omega arith)

five : (n : ℕ) → 65536 ≤ n → n < 1048576
    → digits 16 true n ≡ digit (n / 16 / 16 / 16 / 16) ∷ digit (n / 16 / 16 / 16) ∷ digit (n / 16 / 16) ∷ digit (n / 16) ∷ digit n ∷ []
five n large small =
    rest n (omega arith) ∙ more (n / 16 / 16 / 16) 60 _ (omega arith)
    ∙ last (n / 16 / 16 / 16 / 16) 59 _ (omega arith)

six : (n : ℕ) → 1048576 ≤ n → n < 16777216
    → digits 16 true n ≡ digit (n / 16 / 16 / 16 / 16 / 16) ∷ digit (n / 16 / 16 / 16 / 16) ∷ digit (n / 16 / 16 / 16) ∷ digit (n / 16 / 16) ∷ digit (n / 16) ∷ digit n ∷ []
six n large small =
    rest n (omega arith) ∙ more (n / 16 / 16 / 16) 60 _ (omega arith)
    ∙ more (n / 16 / 16 / 16 / 16) 59 _ (omega arith)
    ∙ last (n / 16 / 16 / 16 / 16 / 16) 58 _ (omega arith)

-- ---- four digits at least

padded : (n : ℕ) (ds : List ℕ) → digits 16 true n ≡ ds → code_point n ≡ replicate (4 - length ds) 48 ++ ds
unfolding code_point
padded n ds e = ap (λ (l : List ℕ). replicate (4 - length l) 48 ++ l) e

pub last_four : (n : ℕ) → n < 65536 → code_point n ≡ four_digits n
last_four n small = by_size (cases_lt n 16) (cases_lt n 256) (cases_lt n 4096)
  where
    by_size : (n < 16) ⊎ (16 ≤ n) → (n < 256) ⊎ (256 ≤ n) → (n < 4096) ⊎ (4096 ≤ n) → code_point n ≡ four_digits n
    by_size (inl h) k l = let a : n / 4096 ≡ 0 = omega arith in let b : n / 256 ≡ 0 = omega arith in let c : n / 16 ≡ 0 = omega arith in padded n _ (one n h) ∙ rw (a, b, c) refl
    by_size (inr h) (inl k) l = let a : n / 4096 ≡ 0 = omega arith in let b : n / 256 ≡ 0 = omega arith in padded n _ (two n h k) ∙ rw (a, b) refl
    by_size (inr h) (inr k) (inl l) = let a : n / 4096 ≡ 0 = omega arith in let b : n / 16 / 16 ≡ n / 256 = omega arith in padded n _ (three n k l) ∙ rw (a, b) refl
    by_size (inr h) (inr k) (inr l) = let a : n / 16 / 16 / 16 ≡ n / 4096 = omega arith in let b : n / 16 / 16 ≡ n / 256 = omega arith in padded n _ (four n l small) ∙ rw (a, b) refl

pub last_five : (n : ℕ) → 65536 ≤ n → n < 1048576 → code_point n ≡ digit (n / 65536) ∷ four_digits n
last_five n large small =
    let a : n / 16 / 16 / 16 / 16 ≡ n / 65536 = omega arith in
    let b : n / 16 / 16 / 16 ≡ n / 4096 = omega arith in
    let c : n / 16 / 16 ≡ n / 256 = omega arith in
    padded n _ (five n large small) ∙ rw (a, b, c) refl

pub last_six : (n : ℕ) → 1048576 ≤ n → n < 16777216 → code_point n ≡ digit (n / 1048576) ∷ digit (n / 65536) ∷ four_digits n
last_six n large small =
    let z : n / 16 / 16 / 16 / 16 / 16 ≡ n / 1048576 = omega arith in
    let a : n / 16 / 16 / 16 / 16 ≡ n / 65536 = omega arith in
    let b : n / 16 / 16 / 16 ≡ n / 4096 = omega arith in
    let c : n / 16 / 16 ≡ n / 256 = omega arith in
    padded n _ (six n large small) ∙ rw (z, a, b, c) refl

-- ---- as they are pushed

below : (place c : ℕ) → c < place → high_digit place c ≡ []
below place c h = grind (arith, nat_tests)

reached : (place c : ℕ) → place ≤ c → high_digit place c ≡ digit (c / place) ∷ []
reached place c h = grind (arith, nat_tests)

spelled : (sign c : ℕ) → c < 1114112 → [] ++ sign ∷ [] ++ high_digit 1048576 c ++ high_digit 65536 c ++ four_digits c ≡ sign ∷ code_point c
spelled sign c small = by_size (cases_lt c 65536) (cases_lt c 1048576)
  where
    by_size : (c < 65536) ⊎ (65536 ≤ c) → (c < 1048576) ⊎ (1048576 ≤ c) → [] ++ sign ∷ [] ++ high_digit 1048576 c ++ high_digit 65536 c ++ four_digits c ≡ sign ∷ code_point c
    by_size (inl h) k = rw (below 1048576 c (omega arith), below 65536 c h, last_four c h) refl
    by_size (inr h) (inl k) = rw (below 1048576 c k, reached 65536 c h, last_five c h k) refl
    by_size (inr h) (inr k) = rw (reached 1048576 c k, reached 65536 c h, last_six c k (omega arith)) refl

pub all_pushed : (sign c n : ℕ) (t0 t1 t2 t3 t4 : List ℕ) → c < 1114112 → n ≡ c → t0 ≡ [] → t1 ≡ t0 ++ sign ∷ [] → t2 ≡ t1 ++ high_digit 1048576 n → t3 ≡ t2 ++ high_digit 65536 n → t4 ≡ t3 ++ four_digits n
    → t4 ≡ sign ∷ code_point c
all_pushed sign c n t0 t1 t2 t3 t4 small is e0 e1 e2 e3 e4 = rw (e4, e3, e2, e1, e0, is) (spelled sign c small)

-- of four digits at most
pub short_spelled : (sign c : ℕ) → c < 65536 → sign ∷ four_digits c ≡ sign ∷ code_point c
short_spelled sign c small = ap (λ (l : List ℕ). sign ∷ l) (sym (last_four c small))

-- ---- the sign of a digit, by its table

abbrev pub signs : List ℕ
signs = 48 ∷ 49 ∷ 50 ∷ 51 ∷ 52 ∷ 53 ∷ 54 ∷ 55 ∷ 56 ∷ 57 ∷ 65 ∷ 66 ∷ 67 ∷ 68 ∷ 69 ∷ 70 ∷ []

pub sign_is : (digit d : ℕ) → digit < 16 → slice_index_or signs digit d ≡ digit_glyph true digit
sign_is zero d lt = refl
sign_is (suc zero) d lt = refl
sign_is (suc (suc zero)) d lt = refl
sign_is (suc (suc (suc zero))) d lt = refl
sign_is (suc (suc (suc (suc zero)))) d lt = refl
sign_is (suc (suc (suc (suc (suc zero))))) d lt = refl
sign_is (suc (suc (suc (suc (suc (suc zero)))))) d lt = refl
sign_is (suc (suc (suc (suc (suc (suc (suc zero))))))) d lt = refl
sign_is (suc (suc (suc (suc (suc (suc (suc (suc zero)))))))) d lt = refl
sign_is (suc (suc (suc (suc (suc (suc (suc (suc (suc zero))))))))) d lt = refl
sign_is (suc (suc (suc (suc (suc (suc (suc (suc (suc (suc zero)))))))))) d lt = refl
sign_is (suc (suc (suc (suc (suc (suc (suc (suc (suc (suc (suc zero))))))))))) d lt = refl
sign_is (suc (suc (suc (suc (suc (suc (suc (suc (suc (suc (suc (suc zero)))))))))))) d lt = refl
sign_is (suc (suc (suc (suc (suc (suc (suc (suc (suc (suc (suc (suc (suc zero))))))))))))) d lt = refl
sign_is (suc (suc (suc (suc (suc (suc (suc (suc (suc (suc (suc (suc (suc (suc zero)))))))))))))) d lt = refl
sign_is (suc (suc (suc (suc (suc (suc (suc (suc (suc (suc (suc (suc (suc (suc (suc zero))))))))))))))) d lt = refl
sign_is (suc (suc (suc (suc (suc (suc (suc (suc (suc (suc (suc (suc (suc (suc (suc (suc n)))))))))))))))) d lt = absurd (omega arith)
