-- The rows of the two tables, written out as docs/PROFILE/characters.md has them, so that a row that is changed in the
-- code alone is refused.
use Rattle.std.specs.Prelude.{◌≡◌, ℕ, List, [], ◌∷◌, ◌++◌, refl}
use Rattle.wm_chars.specs.declared.classes.BidiClass.{BidiClass}
use Rattle.wm_chars.specs.declared.classes.BidiClass.TheVariants.{L, R, AL, EN, ES, ET, AN, CS, NSM, B, S, WS, ON, LRE, LRO, RLE, RLO, PDF, LRI, RLI, FSI, PDI}
use Rattle.wm_chars.specs.declared.classes.BreakClass.{BreakClass}
use Rattle.wm_chars.specs.declared.classes.BreakClass.TheVariants.{Space, Open, Close, Glue, Ideographic, Control, Other}
use Rattle.wm_chars.specs.declared.classes.Orient.TheVariants.{V}
use Rattle.wm_chars.specs.declared.classes.Orient.TheVariants as orient
use Rattle.wm_chars.specs.declared.rows.Row.{Row}
use Rattle.wm_chars.specs.declared.rows.TheConstants.{ROWS}
use Rattle.wm_chars.specs.declared.pairs.Pair.{Pair}
use Rattle.wm_chars.specs.declared.pairs.TheConstants.{BRACKETS, FURTHER_MIRRORS}

-- a row of characters that are turned, and of ones that are upright
abbrev turned : (first last : ℕ) → BidiClass → BreakClass → Row
turned first last class breaks = record { first = first; last = last; class = class; orient = orient.R; breaks = breaks }

abbrev upright : (first last : ℕ) → BidiClass → BreakClass → Row
upright first last class breaks = record { first = first; last = last; class = class; orient = V; breaks = breaks }

-- White space and ASCII.
abbrev ascii_rows : List Row
ascii_rows =
    turned 0x0009 0x0009 S Space ∷
    turned 0x000A 0x000A B Space ∷
    turned 0x000C 0x000C WS Space ∷
    turned 0x000D 0x000D B Space ∷
    turned 0x0020 0x0020 WS Space ∷
    turned 0x0021 0x0021 ON Close ∷
    turned 0x0022 0x0022 ON Other ∷
    turned 0x0023 0x0025 ET Other ∷
    turned 0x0026 0x0027 ON Other ∷
    turned 0x0028 0x0028 ON Open ∷
    turned 0x0029 0x0029 ON Close ∷
    turned 0x002A 0x002A ON Other ∷
    turned 0x002B 0x002B ES Other ∷
    turned 0x002C 0x002C CS Close ∷
    turned 0x002D 0x002D ES Other ∷
    turned 0x002E 0x002E CS Close ∷
    turned 0x002F 0x002F CS Other ∷
    turned 0x0030 0x0039 EN Other ∷
    turned 0x003A 0x003A CS Close ∷
    turned 0x003B 0x003B ON Close ∷
    turned 0x003C 0x003E ON Other ∷
    turned 0x003F 0x003F ON Close ∷
    turned 0x0040 0x0040 ON Other ∷
    turned 0x0041 0x005A L Other ∷
    turned 0x005B 0x005B ON Open ∷
    turned 0x005C 0x005C ON Other ∷
    turned 0x005D 0x005D ON Close ∷
    turned 0x005E 0x0060 ON Other ∷
    turned 0x0061 0x007A L Other ∷
    turned 0x007B 0x007B ON Open ∷
    turned 0x007C 0x007C ON Other ∷
    turned 0x007D 0x007D ON Close ∷
    turned 0x007E 0x007E ON Other ∷
    []

-- From U+00A0 to Arabic.
abbrev letter_rows : List Row
letter_rows =
    turned 0x00A0 0x00A0 CS Glue ∷
    turned 0x00AB 0x00AB ON Other ∷
    turned 0x00BB 0x00BB ON Other ∷
    turned 0x00C0 0x00D6 L Other ∷
    turned 0x00D8 0x00F6 L Other ∷
    turned 0x00F8 0x017F L Other ∷
    turned 0x0300 0x036F NSM Other ∷
    turned 0x0391 0x03A1 L Other ∷
    turned 0x03A3 0x03A9 L Other ∷
    turned 0x03B1 0x03C9 L Other ∷
    turned 0x0401 0x0401 L Other ∷
    turned 0x0410 0x044F L Other ∷
    turned 0x0451 0x0451 L Other ∷
    turned 0x05D0 0x05EA R Other ∷
    turned 0x060C 0x060C CS Close ∷
    turned 0x061C 0x061C AL Control ∷
    turned 0x061F 0x061F AL Close ∷
    turned 0x0621 0x063A AL Other ∷
    turned 0x0641 0x064A AL Other ∷
    turned 0x0660 0x0669 AN Other ∷
    turned 0x06F0 0x06F9 EN Other ∷
    []

-- General punctuation, the controls of UAX 9 among it, and the punctuation of CJK.
abbrev punctuation_rows : List Row
punctuation_rows =
    turned 0x200E 0x200E L Control ∷
    turned 0x200F 0x200F R Control ∷
    turned 0x2010 0x2010 ON Other ∷
    turned 0x2013 0x2014 ON Other ∷
    turned 0x2018 0x2019 ON Other ∷
    turned 0x201C 0x201D ON Other ∷
    turned 0x2026 0x2026 ON Other ∷
    turned 0x202A 0x202A LRE Control ∷
    turned 0x202B 0x202B RLE Control ∷
    turned 0x202C 0x202C PDF Control ∷
    turned 0x202D 0x202D LRO Control ∷
    turned 0x202E 0x202E RLO Control ∷
    turned 0x2066 0x2066 LRI Control ∷
    turned 0x2067 0x2067 RLI Control ∷
    turned 0x2068 0x2068 FSI Control ∷
    turned 0x2069 0x2069 PDI Control ∷
    upright 0x3000 0x3000 WS Ideographic ∷
    upright 0x3001 0x3002 ON Close ∷
    upright 0x3008 0x3008 ON Open ∷
    upright 0x3009 0x3009 ON Close ∷
    upright 0x300A 0x300A ON Open ∷
    upright 0x300B 0x300B ON Close ∷
    upright 0x300C 0x300C ON Open ∷
    upright 0x300D 0x300D ON Close ∷
    upright 0x300E 0x300E ON Open ∷
    upright 0x300F 0x300F ON Close ∷
    upright 0x3010 0x3010 ON Open ∷
    upright 0x3011 0x3011 ON Close ∷
    upright 0x3041 0x3096 L Ideographic ∷
    upright 0x30A1 0x30FA L Ideographic ∷
    []

-- Kana, Han, Hangul, the fullwidth forms.
abbrev wide_rows : List Row
wide_rows =
    upright 0x30FC 0x30FC L Ideographic ∷
    upright 0x4E00 0x9FFF L Ideographic ∷
    upright 0xAC00 0xD7A3 L Ideographic ∷
    upright 0xFF01 0xFF01 ON Close ∷
    upright 0xFF08 0xFF08 ON Open ∷
    upright 0xFF09 0xFF09 ON Close ∷
    upright 0xFF0C 0xFF0C CS Close ∷
    upright 0xFF0E 0xFF0E CS Close ∷
    upright 0xFF10 0xFF19 EN Ideographic ∷
    upright 0xFF1A 0xFF1A CS Close ∷
    upright 0xFF1B 0xFF1B ON Close ∷
    upright 0xFF1F 0xFF1F ON Close ∷
    upright 0xFF21 0xFF3A L Ideographic ∷
    upright 0xFF41 0xFF5A L Ideographic ∷
    []

the_rows : ROWS ≡ ascii_rows ++ letter_rows ++ punctuation_rows ++ wide_rows
the_rows = refl

abbrev pair : (opening closing : ℕ) → Pair
pair opening closing = record { opening = opening; closing = closing }

the_brackets : BRACKETS ≡
    pair 0x28 0x29 ∷ pair 0x5B 0x5D ∷ pair 0x7B 0x7D ∷ pair 0x3008 0x3009 ∷ pair 0x300A 0x300B ∷ pair 0x300C 0x300D ∷
    pair 0x300E 0x300F ∷ pair 0x3010 0x3011 ∷ pair 0xFF08 0xFF09 ∷ []
the_brackets = refl

the_further_mirrors : FURTHER_MIRRORS ≡ pair 0x3C 0x3E ∷ pair 0xAB 0xBB ∷ []
the_further_mirrors = refl
