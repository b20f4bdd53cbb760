-- A paragraph of base level 0 in which nothing embeds, overrides or isolates, nothing runs from right to left and no Arabic
-- number stands.
use Rattle.std.proofs.Common.{◌≡◌, refl, ℕ, true, false, List, [], ◌∷◌, length, replicate}
use Rattle.std.specs.List.{list_all, list_any}
use Rattle.wm_chars.specs.declared.classes.BidiClass.{BidiClass}
use Rattle.wm_chars.specs.declared.classes.BidiClass.TheVariants.{R, AL, AN, LRE, LRO, RLE, RLO, PDF, LRI, RLI, FSI, PDI}
use Rattle.bidi_resolve.specs.Paragraph.{is_left_to_right, is_right, paragraph_levels}
use Rattle.bidi_resolve.specs.Single.{is_plain}
use Rattle.bidi_resolve.proofs.LeftToRight.{Each, level_zero}
use Rattle.bidi_resolve.proofs.OneSequence.{all_plain}
use Rattle.bidi_resolve.proofs.Unchanged.{none_passes}

one_left_to_right : (c : BidiClass) → is_plain c ≡ true → is_right c ≡ false → is_left_to_right c ≡ true
one_left_to_right R plain is = absurd (cc)
one_left_to_right AL plain is = absurd (cc)
one_left_to_right AN plain is = absurd (cc)
one_left_to_right LRE plain is = absurd (cc)
one_left_to_right LRO plain is = absurd (cc)
one_left_to_right RLE plain is = absurd (cc)
one_left_to_right RLO plain is = absurd (cc)
one_left_to_right PDF plain is = absurd (cc)
one_left_to_right LRI plain is = absurd (cc)
one_left_to_right RLI plain is = absurd (cc)
one_left_to_right FSI plain is = absurd (cc)
one_left_to_right PDI plain is = absurd (cc)
one_left_to_right c plain is = refl

left_to_right : (classes : List BidiClass) → Each (λ c. is_plain c ≡ true) classes → Each (λ c. is_right c ≡ false) classes → list_all is_left_to_right classes ≡ true
left_to_right [] plain none = refl
left_to_right (c ∷ classes) plain none = rw (one_left_to_right c plain.0 none.0) (left_to_right classes plain.1 none.1)

pub zero_levels : (chars : List ℕ) (classes : List BidiClass) → list_all is_plain classes ≡ true → list_any is_right classes ≡ false → paragraph_levels chars classes 0 ≡ replicate (length classes) 0
zero_levels chars classes plain none = level_zero chars classes (left_to_right classes (all_plain classes plain) (none_passes is_right classes none))
