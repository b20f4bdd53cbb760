-- How many items begin in the pieces of a bidi text.
use Rattle.std.proofs.Common.{◌≡◌, refl, ◌∙◌, ◌+◌, ◌<◌, Bool, List, [], ◌∷◌, ◌++◌, length, map, arith}
use Rattle.wm_modes.specs.declared.mode.Direction.{Direction}
use Rattle.wm_modes.specs.declared.mode.Direction.TheVariants.{Ltr, Rtl}
use Rattle.style_types.specs.declared.style.UnicodeBidi.{UnicodeBidi}
use Rattle.style_types.specs.declared.style.UnicodeBidi.TheVariants.{Normal, Embed, Isolate, BidiOverride, IsolateOverride, Plaintext}
use Rattle.para_prepare.specs.declared.bidi_text.Around.{Around}
use Rattle.para_prepare.specs.declared.bidi_text.Character.{Character}
use Rattle.para_prepare.specs.declared.bidi_text.Role.TheVariants.{Continues}
use Rattle.para_prepare.specs.declared.letter.Letter.{Letter}
use Rattle.para_prepare.specs.BidiParagraphs.{begins}
use Rattle.para_prepare.specs.BidiText.{after, before, character, closing_all, container_after, container_before, opening_all, unit_characters}
use Rattle.para_prepare.specs.Parts.{class_in}

pub begins_append : (text more : List Character) → begins (text ++ more) ≡ begins text + begins more
begins_append [] more = omega arith
begins_append (c ∷ text) more =
    let h : begins (text ++ more) ≡ begins text + begins more = begins_append text more in
    omega arith

pub begins_before : (bidi : UnicodeBidi) (dir : Direction) → begins (before bidi dir) ≡ 0
begins_before Normal dir = refl
begins_before Embed Ltr = refl
begins_before Embed Rtl = refl
begins_before Isolate Ltr = refl
begins_before Isolate Rtl = refl
begins_before BidiOverride Ltr = refl
begins_before BidiOverride Rtl = refl
begins_before IsolateOverride Ltr = refl
begins_before IsolateOverride Rtl = refl
begins_before Plaintext dir = refl

pub begins_after : (bidi : UnicodeBidi) → begins (after bidi) ≡ 0
begins_after Normal = refl
begins_after Embed = refl
begins_after Isolate = refl
begins_after BidiOverride = refl
begins_after IsolateOverride = refl
begins_after Plaintext = refl

pub begins_container_before : (bidi : UnicodeBidi) (dir : Direction) → begins (container_before bidi dir) ≡ 0
begins_container_before Normal dir = refl
begins_container_before Embed dir = refl
begins_container_before Isolate dir = refl
begins_container_before BidiOverride Ltr = refl
begins_container_before BidiOverride Rtl = refl
begins_container_before IsolateOverride Ltr = refl
begins_container_before IsolateOverride Rtl = refl
begins_container_before Plaintext dir = refl

pub begins_container_after : (bidi : UnicodeBidi) → begins (container_after bidi) ≡ 0
begins_container_after Normal = refl
begins_container_after Embed = refl
begins_container_after Isolate = refl
begins_container_after BidiOverride = refl
begins_container_after IsolateOverride = refl
begins_container_after Plaintext = refl

pub begins_closing_all : (opened : List Around) → begins (closing_all opened) ≡ 0
begins_closing_all [] = refl
begins_closing_all (around ∷ opened) = begins_append (after around.bidi) (closing_all opened) ∙ rw (begins_after around.bidi) (rw (begins_closing_all opened) refl)

pub begins_opening_all : (opened : List Around) → begins (opening_all opened) ≡ 0
begins_opening_all [] = refl
begins_opening_all (around ∷ opened) = begins_append (opening_all opened) (before around.bidi around.dir) ∙ rw (begins_before around.bidi around.dir) (rw (begins_opening_all opened) refl)

continuing : (upright : Bool) (letters : List Letter) → begins (map (λ l. character l.char (class_in upright l.char) Continues) letters) ≡ 0
continuing upright [] = refl
continuing upright (l ∷ letters) =
    let h : begins (map (λ l. character l.char (class_in upright l.char) Continues) letters) ≡ 0 = continuing upright letters in
    omega arith

pub begins_unit : (upright : Bool) (letters : List Letter) → 0 < length letters → begins (unit_characters upright letters) ≡ 1
begins_unit upright [] h = absurd (omega arith)
begins_unit upright (l ∷ letters) h = rw (continuing upright letters) refl
