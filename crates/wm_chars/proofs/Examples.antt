-- Some characters of the repertoire, and some just outside, computed.
use Rattle.std.specs.Prelude.{◌≡◌, refl, Some, None, true, false}
use Rattle.wm_chars.specs.Pairs.{bracket, mirror}
use Rattle.wm_chars.specs.Repertoire.{row_of, bidi_class, orientation, break_class}
use Rattle.wm_chars.specs.declared.classes.BidiClass.TheVariants.{AL, AN, CS, EN, ES, S, WS}
use Rattle.wm_chars.specs.declared.classes.Orient.TheVariants.{V}
use Rattle.wm_chars.specs.declared.classes.BreakClass.TheVariants.{Space, Close, Glue, Ideographic, Control, Other}

-- a tab separates, a form feed is white space, and U+000B is no character of a text
tab : bidi_class 0x9 ≡ Some S
unfolding row_of bidi_class
tab = refl

form_feed : bidi_class 0xC ≡ Some WS
unfolding row_of bidi_class
form_feed = refl

no_line_tabulation : bidi_class 0xB ≡ None
unfolding row_of bidi_class
no_line_tabulation = refl

-- U+007F is one past `~`
no_delete : break_class 0x7F ≡ None
unfolding row_of break_class
no_delete = refl

-- `-` may separate numbers; a line may end behind `!`, not before it
minus : bidi_class 0x2D ≡ Some ES
unfolding row_of bidi_class
minus = refl

exclamation : break_class 0x21 ≡ Some Close
unfolding row_of break_class
exclamation = refl

quotation_mark : break_class 0x22 ≡ Some Other
unfolding row_of break_class
quotation_mark = refl

no_break_space : break_class 0xA0 ≡ Some Glue
unfolding row_of break_class
no_break_space = refl

-- two kinds of digits of the Arabic script
arabic_indic_nine : bidi_class 0x669 ≡ Some AN
unfolding row_of bidi_class
arabic_indic_nine = refl

extended_arabic_indic_nine : bidi_class 0x6F9 ≡ Some EN
unfolding row_of bidi_class
extended_arabic_indic_nine = refl

-- a letter's class for a question mark, a separator's for a comma
arabic_question_mark : bidi_class 0x61F ≡ Some AL
unfolding row_of bidi_class
arabic_question_mark = refl

arabic_comma : bidi_class 0x60C ≡ Some CS
unfolding row_of bidi_class
arabic_comma = refl

-- the last of the isolates' controls, and one past it
pop_isolate : break_class 0x2069 ≡ Some Control
unfolding row_of break_class
pop_isolate = refl

no_more_controls : break_class 0x206A ≡ None
unfolding row_of break_class
no_more_controls = refl

-- kana begins at U+3041
no_kana_yet : orientation 0x3040 ≡ None
unfolding row_of orientation
no_kana_yet = refl

first_kana : orientation 0x3041 ≡ Some V
unfolding row_of orientation
first_kana = refl

last_kana : break_class 0x3096 ≡ Some Ideographic
unfolding row_of break_class
last_kana = refl

ideographic_space : break_class 0x3000 ≡ Some Ideographic
unfolding row_of break_class
ideographic_space = refl

space : break_class 0x20 ≡ Some Space
unfolding row_of break_class
space = refl

-- mirrors that are brackets, and mirrors that are none
opening_corner_bracket : bracket 0x300C ≡ Some (record { opens = true; partner = 0x300D })
unfolding bracket
opening_corner_bracket = refl

closing_parenthesis : bracket 0x29 ≡ Some (record { opens = false; partner = 0x28 })
unfolding bracket
closing_parenthesis = refl

less_than : mirror 0x3C ≡ Some 0x3E
unfolding mirror
less_than = refl

no_bracket : bracket 0x3C ≡ None
unfolding bracket
no_bracket = refl

no_mirror : mirror 0x3D ≡ None
unfolding mirror
no_mirror = refl
