-- Probes that an independent implementation reads and refuses, by computation.
use Rattle.std.specs.Prelude.{◌≡◌, refl, ℕ, List, [], ◌∷◌, Result, Ok, Err, codes, pos, negsuc, replicate}
use Rattle.reading.specs.Decimals.{more_digits, number}
use Rattle.reading.specs.Readers.{after, one_of, one_word, starts, strip, word_from}
use Rattle.hit_caret.specs.declared.error.Refusal.{Refusal}
use Rattle.hit_caret.specs.declared.error.Refusal.TheVariants.{ScriptSyntax, TooManyEdits}
use Rattle.hit_caret.specs.declared.probes.Probe.{Probe}
use Rattle.hit_caret.specs.declared.probes.Probe.TheVariants.{At, Caret}
use Rattle.hit_caret.specs.ProbeLine.{argument, arguments, caret, coordinate, negative, point, probe, signed_number, words}
use Rattle.hit_caret.specs.Probing.{lines_from, probes, with_line, with_probe}

abbrev asks : List Probe → Result (List Probe) (Refusal × ℕ)
asks all = Ok all

abbrev refuses : Refusal → ℕ → Result (List Probe) (Refusal × ℕ)
refuses kind place = Err (kind, place)

probe-1 : probes (codes "point 100 5\npoint 300 5\ncaret 3 1\n") ≡ asks (At (pos 100) (pos 5) ∷ At (pos 300) (pos 5) ∷ Caret 3 1 ∷ [])
unfolding probes lines_from with_line probe words arguments point caret coordinate argument signed_number negative after number more_digits one_of strip starts one_word word_from
probe-1 = refl

probe-2 : probes (codes "point -12 -0\n# a\n\ncaret 0000003 7") ≡ asks (At (negsuc 11) (pos 0) ∷ Caret 3 7 ∷ [])
unfolding probes lines_from with_line probe words arguments point caret coordinate argument signed_number negative after number more_digits one_of strip starts one_word word_from
probe-2 = refl

probe-3 : probes (codes "point 9999999999 -9999999999") ≡ asks (At (pos 9999999999) (negsuc 9999999998) ∷ [])
unfolding probes lines_from with_line probe words arguments point caret coordinate argument signed_number negative after number more_digits one_of strip starts one_word word_from
probe-3 = refl

-- caret 1 2CR LF point 1 2CR
probe-4 : probes (99 ∷ 97 ∷ 114 ∷ 101 ∷ 116 ∷ 32 ∷ 49 ∷ 32 ∷ 50 ∷ 13 ∷ 10 ∷ 112 ∷ 111 ∷ 105 ∷ 110 ∷ 116 ∷ 32 ∷ 49 ∷ 32 ∷ 50 ∷ 13 ∷ []) ≡ asks (Caret 1 2 ∷ At (pos 1) (pos 2) ∷ [])
unfolding probes lines_from with_line probe words arguments point caret coordinate argument signed_number negative after number more_digits one_of strip starts one_word word_from
probe-4 = refl

probe-5 : probes (codes "point 12345678901 1") ≡ refuses ScriptSyntax 0
unfolding probes lines_from with_line probe words arguments point caret coordinate argument signed_number negative after number more_digits one_of strip starts one_word word_from
probe-5 = refl

probe-6 : probes (codes "caret 3 1\ncaret 12345678 1") ≡ refuses ScriptSyntax 10
unfolding probes lines_from with_line probe words arguments point caret coordinate argument signed_number negative after number more_digits one_of strip starts one_word word_from
probe-6 = refl

probe-7 : probes (codes "caret 3 1\npoint --1 2") ≡ refuses ScriptSyntax 10
unfolding probes lines_from with_line probe words arguments point caret coordinate argument signed_number negative after number more_digits one_of strip starts one_word word_from
probe-7 = refl

probe-8 : probes (codes "point +1 2") ≡ refuses ScriptSyntax 0
unfolding probes lines_from with_line probe words arguments point caret coordinate argument signed_number negative after number more_digits one_of strip starts one_word word_from
probe-8 = refl

probe-9 : probes (codes "point 1  2") ≡ refuses ScriptSyntax 0
unfolding probes lines_from with_line probe words arguments point caret coordinate argument signed_number negative after number more_digits one_of strip starts one_word word_from
probe-9 = refl

probe-10 : probes (codes "point 1 2 ") ≡ refuses ScriptSyntax 0
unfolding probes lines_from with_line probe words arguments point caret coordinate argument signed_number negative after number more_digits one_of strip starts one_word word_from
probe-10 = refl

probe-11 : probes (codes "caret -1 2") ≡ refuses ScriptSyntax 0
unfolding probes lines_from with_line probe words arguments point caret coordinate argument signed_number negative after number more_digits one_of strip starts one_word word_from
probe-11 = refl

-- caret 1 2LF LF caret 1 2CR CR
probe-12 : probes (99 ∷ 97 ∷ 114 ∷ 101 ∷ 116 ∷ 32 ∷ 49 ∷ 32 ∷ 50 ∷ 10 ∷ 10 ∷ 99 ∷ 97 ∷ 114 ∷ 101 ∷ 116 ∷ 32 ∷ 49 ∷ 32 ∷ 50 ∷ 13 ∷ 13 ∷ []) ≡ refuses ScriptSyntax 11
unfolding probes lines_from with_line probe words arguments point caret coordinate argument signed_number negative after number more_digits one_of strip starts one_word word_from
probe-12 = refl

-- pointTAB 1 2
probe-13 : probes (112 ∷ 111 ∷ 105 ∷ 110 ∷ 116 ∷ 9 ∷ 49 ∷ 32 ∷ 50 ∷ []) ≡ refuses ScriptSyntax 0
unfolding probes lines_from with_line probe words arguments point caret coordinate argument signed_number negative after number more_digits one_of strip starts one_word word_from
probe-13 = refl

-- the line past the limit
last-probe : with_probe (Caret 1 2) (replicate 9999 (Caret 1 2)) ≡ Ok (replicate 10000 (Caret 1 2))
last-probe = refl

one-too-many : with_probe (Caret 1 2) (replicate 10000 (Caret 1 2)) ≡ Err TooManyEdits
one-too-many = refl
