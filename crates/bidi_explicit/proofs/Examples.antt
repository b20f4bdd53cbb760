-- Some paragraphs, computed.
use Rattle.std.specs.Prelude.{◌≡◌, refl, List, [], ◌∷◌, ◌++◌, replicate, Some}
use Rattle.wm_chars.specs.declared.classes.BidiClass.{BidiClass}
use Rattle.wm_chars.specs.declared.classes.BidiClass.TheVariants.{L, R, AL, EN, AN, B, ON, LRE, LRI, RLE, RLI, RLO, FSI, PDF, PDI}
use Rattle.bidi_explicit.specs.Base.{first_strong}
use Rattle.bidi_explicit.specs.Explicit.{explicit_levels, explicit_classes, removed_marks}
use Rattle.bidi_explicit.specs.Sequences.{isolating_runs}

-- a letter, an isolate with two letters and a digit in brackets, and a digit behind it
abbrev isolate : List BidiClass
isolate = L ∷ RLI ∷ R ∷ R ∷ ON ∷ EN ∷ ON ∷ PDI ∷ EN ∷ []

isolate_base : first_strong isolate ≡ Some 0
isolate_base = refl

isolate_levels : explicit_levels 0 isolate ≡ (0 ∷ 0 ∷ 1 ∷ 1 ∷ 1 ∷ 1 ∷ 1 ∷ 0 ∷ 0 ∷ [])
unfolding explicit_levels
isolate_levels = refl

isolate_runs : isolating_runs 0 (0 ∷ 0 ∷ 1 ∷ 1 ∷ 1 ∷ 1 ∷ 1 ∷ 0 ∷ 0 ∷ []) isolate (removed_marks isolate) ≡ (record { places = (0 ∷ 1 ∷ 7 ∷ 8 ∷ []); sos = L; eos = L } ∷ record { places = (2 ∷ 3 ∷ 4 ∷ 5 ∷ 6 ∷ []); sos = R; eos = R } ∷ [])
unfolding isolating_runs
isolate_runs = refl

-- an override, and an isolate in it
abbrev override : List BidiClass
override = L ∷ RLO ∷ AN ∷ FSI ∷ R ∷ PDI ∷ PDF ∷ L ∷ []

override_base : first_strong override ≡ Some 0
override_base = refl

override_levels : explicit_levels 0 override ≡ (0 ∷ 0 ∷ 1 ∷ 1 ∷ 3 ∷ 1 ∷ 1 ∷ 0 ∷ [])
unfolding explicit_levels
override_levels = refl

override_classes : explicit_classes 0 override ≡ (L ∷ RLO ∷ R ∷ R ∷ R ∷ R ∷ PDF ∷ L ∷ [])
unfolding explicit_classes
override_classes = refl

override_runs : isolating_runs 0 (0 ∷ 0 ∷ 1 ∷ 1 ∷ 3 ∷ 1 ∷ 1 ∷ 0 ∷ []) override (removed_marks override) ≡ (record { places = (0 ∷ []); sos = L; eos = R } ∷ record { places = (2 ∷ 3 ∷ 5 ∷ []); sos = R; eos = R } ∷ record { places = (4 ∷ []); sos = R; eos = R } ∷ record { places = (7 ∷ []); sos = R; eos = L } ∷ [])
unfolding isolating_runs
override_runs = refl

-- initiators without a PDI, a PDI without an initiator
abbrev unmatched : List BidiClass
unmatched = PDI ∷ L ∷ LRI ∷ R ∷ FSI ∷ EN ∷ []

unmatched_base : first_strong unmatched ≡ Some 0
unmatched_base = refl

unmatched_levels : explicit_levels 1 unmatched ≡ (1 ∷ 1 ∷ 1 ∷ 2 ∷ 2 ∷ 4 ∷ [])
unfolding explicit_levels
unmatched_levels = refl

unmatched_runs : isolating_runs 1 (1 ∷ 1 ∷ 1 ∷ 2 ∷ 2 ∷ 4 ∷ []) unmatched (removed_marks unmatched) ≡ (record { places = (0 ∷ 1 ∷ 2 ∷ []); sos = R; eos = R } ∷ record { places = (3 ∷ 4 ∷ []); sos = L; eos = L } ∷ record { places = (5 ∷ []); sos = L; eos = L } ∷ [])
unfolding isolating_runs
unmatched_runs = refl

-- a B in an isolate: the PDI behind it still matches
abbrev separator : List BidiClass
separator = R ∷ RLI ∷ AL ∷ B ∷ L ∷ PDI ∷ EN ∷ []

separator_base : first_strong separator ≡ Some 1
separator_base = refl

separator_levels : explicit_levels 0 separator ≡ (0 ∷ 0 ∷ 1 ∷ 0 ∷ 1 ∷ 0 ∷ 0 ∷ [])
unfolding explicit_levels
separator_levels = refl

separator_runs : isolating_runs 0 (0 ∷ 0 ∷ 1 ∷ 0 ∷ 1 ∷ 0 ∷ 0 ∷ []) separator (removed_marks separator) ≡ (record { places = (0 ∷ 1 ∷ 5 ∷ 6 ∷ []); sos = L; eos = L } ∷ record { places = (2 ∷ []); sos = R; eos = R } ∷ record { places = (3 ∷ []); sos = R; eos = R } ∷ record { places = (4 ∷ []); sos = R; eos = R } ∷ [])
unfolding isolating_runs
separator_runs = refl

-- what is removed has the level of the character before it
abbrev removed : List BidiClass
removed = RLE ∷ R ∷ LRE ∷ L ∷ PDF ∷ PDF ∷ L ∷ []

removed_base : first_strong removed ≡ Some 1
removed_base = refl

removed_levels : explicit_levels 0 removed ≡ (0 ∷ 1 ∷ 1 ∷ 2 ∷ 2 ∷ 2 ∷ 0 ∷ [])
unfolding explicit_levels
removed_levels = refl

removed_runs : isolating_runs 0 (0 ∷ 1 ∷ 1 ∷ 2 ∷ 2 ∷ 2 ∷ 0 ∷ []) removed (removed_marks removed) ≡ (record { places = (1 ∷ []); sos = R; eos = L } ∷ record { places = (3 ∷ []); sos = L; eos = L } ∷ record { places = (6 ∷ []); sos = L; eos = L } ∷ [])
unfolding isolating_runs
removed_runs = refl

-- of 130 embeddings from right to left 63 have room
abbrev embedded : List BidiClass
embedded = replicate 130 RLE ++ L ∷ []

embedded_levels : explicit_levels 0 embedded ≡ replicate 130 0 ++ 125 ∷ []
unfolding explicit_levels
embedded_levels = refl
