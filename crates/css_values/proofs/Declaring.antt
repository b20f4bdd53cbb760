-- What a declaration declares: values of its longhands.
use Rattle.std.proofs.Common.{◌≡◌, ℕ, zero, suc, ◌<◌, length, get_or, arith, Bool, true, false, cond, List, [], ◌∷◌, codes, Some, None, refl, sym, ap, subst, ◌∙◌}
use Rattle.std.specs.Prelude.{⊤, map, zip, slice_get, is_some, Option}
use Rattle.std.specs.List.{All, AllByRecursion}
use Rattle.std.proofs.lemmas.List.Elements.{All-append, All-cons, All-from_recursion, All-head, All-map, All-nil, All-tail, recursion_from_All}
use Rattle.reading.specs.Names.{lowered, named}
use Rattle.css_types.specs.Table.{IsRowOf, rows}
use Rattle.css_types.specs.Value.{HasSayable, IsAmong, IsValueOf}
use Rattle.css_types.specs.declared.property.Property.{Property}
use Rattle.css_types.specs.declared.property.Property.TheVariants as longhands
use Rattle.css_types.specs.declared.shorthand.Longhands.{Longhands}
use Rattle.css_types.specs.declared.shorthand.Longhands.TheVariants.{One, Ends, Sides}
use Rattle.css_types.specs.declared.shorthand.Shorthand.{Shorthand}
use Rattle.css_types.specs.declared.shorthand.Shorthand.TheVariants.{Round, Border}
use Rattle.css_types.specs.declared.table.PropertyRow.{PropertyRow}
use Rattle.css_types.specs.declared.table.TheConstants.{INSETS, LINES, MARGINS, PADDINGS, WIDTHS}
use Rattle.css_types.specs.declared.table.Values.{Values}
use Rattle.css_types.specs.declared.value.Value.{Value}
use Rattle.css_types.specs.declared.value.Value.TheVariants as values
use Rattle.css_tokens.specs.Tokens as tokens
use Rattle.css_tokens.specs.Tokens.{Lexeme}
use Rattle.css_values.specs.declared.border.Found.{Found}
use Rattle.css_values.specs.declared.judging.Manner.{Manner}
use Rattle.css_values.specs.Answered.{IsKept}
use Rattle.css_values.specs.Border.{and_then, by_name, nothing, or_initial, pieces, with_colour, with_length, with_piece}
use Rattle.css_values.specs.Judging.{declared_by, expanded, if_value, meaning, placed, property_or, shorthand_or_unknown}
use Rattle.css_values.specs.Longhand.{is_name, is_one_of, is_word, longhand, single}
use Rattle.css_values.specs.Shorthand.{all_have, alone, at_ends, before_others, borders, each, each_then, given_by, given_to, initial_of, listed, round_sides, shorthand, spread}
use Rattle.css_values.specs.Tables.{colours, properties, shorthands}
use Rattle.css_values.proofs.Sayable.{AreSaid, IsSaid}
use Rattle.css_values.proofs.Taking.{IsTaken, among_is, holds_of_row, longhand_is_a_value, single_is_taken}

-- a property with a value of it
abbrev IsGiven : Property × Value → Type 0
IsGiven p = IsValueOf p.0 p.1 × HasSayable p.1

abbrev AreGiven : List (Property × Value) → Type 0
AreGiven given = All IsGiven given

-- ---- rows of properties

-- the property takes these values
abbrev Fits : Values → Property → Type 0
Fits v p = (row : PropertyRow) × IsRowOf p row × (row.values ≡ v)

abbrev FitsRow : Option PropertyRow → Values → Property → Type 0
FitsRow (Some row) v p = (row.property ≡ p) × (row.values ≡ v)
FitsRow None v p = ⊥

fit_by : (v : Values) (p : Property) (place : ℕ) (found : Option PropertyRow) → slice_get rows place ≡ found → FitsRow found v p → Fits v p
fit_by v p place (Some row) is fits = (row, (place, is, fits.0), fits.1)
fit_by v p place None is fits = absurd fits

fit : (v : Values) (p : Property) (place : ℕ) → FitsRow (slice_get rows place) v p → Fits v p
fit v p place fits = fit_by v p place (slice_get rows place) refl fits

given_so : (v : Values) (p : Property) (value : Value) → Fits v p → IsTaken v value → IsGiven (p, value)
given_so v p value (row, is, same) taken = ((row, is, among_is row value (subst (λ (w : Values). IsAmong w value) (sym same) taken.0)), taken.1)

initial_so : (v : Values) (p : Property) → Fits v p → IsGiven (p, values.Initial)
initial_so v p (row, is, same) = ((row, is, tt), tt)

abbrev HasRow : PropertyRow → Type 0
HasRow row = IsRowOf row.property row

at_place : (table : List (List ℕ × PropertyRow)) (k : ℕ) (d : List ℕ × PropertyRow) → k < length table → slice_get (map (λ (named : List ℕ × PropertyRow). named.1) table) k ≡ Some (get_or table k d).1
at_place [] k d lt = absurd (omega (arith, lt))
at_place (row ∷ others) zero d lt = refl
at_place (row ∷ others) (suc k) d lt = at_place others k d (omega (arith, lt))

rows_are : map (λ (named : List ℕ × PropertyRow). named.1) properties ≡ rows
unfolding properties
rows_are = refl

properties_have_rows : All (λ (row : List ℕ × PropertyRow). HasRow row.1) properties
properties_have_rows = λ k d lt. (k, ap (λ (l : List PropertyRow). slice_get l k) (sym rows_are) ∙ at_place properties k d lt, refl)

-- ---- longhands of shorthands

one : (v : Values) {a : Property} → Fits v a → All (Fits v) (a ∷ [])
one v {a = a} p = All-from_recursion (Fits v) (a ∷ []) (p, tt)

two : (v : Values) {a b : Property} → Fits v a → Fits v b → All (Fits v) (a ∷ b ∷ [])
two v {a = a} {b = b} p q = All-from_recursion (Fits v) (a ∷ b ∷ []) (p, (q, tt))

four : (v : Values) {a b c d : Property} → Fits v a → Fits v b → Fits v c → Fits v d → All (Fits v) (a ∷ b ∷ c ∷ d ∷ [])
four v {a = a} {b = b} {c = c} {d = d} p q r s = All-from_recursion (Fits v) (a ∷ b ∷ c ∷ d ∷ []) (p, (q, (r, (s, tt))))

abbrev IsFitting : Shorthand → Type 0
IsFitting (Round v longhands) = All (Fits v) (listed longhands)
IsFitting (Border widths styles) = All (Fits WIDTHS) (listed widths) × All (Fits LINES) (listed styles)

shorthands_fit : All (λ (row : List ℕ × Shorthand). IsFitting row.1) shorthands
unfolding shorthands
shorthands_fit = All-from_recursion (λ (row : List ℕ × Shorthand). IsFitting row.1) shorthands
    -- margin
    (
      four MARGINS (fit MARGINS longhands.MarginTop 23 (refl, refl)) (fit MARGINS longhands.MarginRight 24 (refl, refl)) (fit MARGINS longhands.MarginBottom 25 (refl, refl)) (fit MARGINS longhands.MarginLeft 26 (refl, refl)),
      -- padding
      (
        four PADDINGS (fit PADDINGS longhands.PaddingTop 31 (refl, refl)) (fit PADDINGS longhands.PaddingRight 32 (refl, refl)) (fit PADDINGS longhands.PaddingBottom 33 (refl, refl)) (fit PADDINGS longhands.PaddingLeft 34 (refl, refl)),
        -- border-width
        (
          four WIDTHS (fit WIDTHS longhands.BorderTopWidth 39 (refl, refl)) (fit WIDTHS longhands.BorderRightWidth 40 (refl, refl)) (fit WIDTHS longhands.BorderBottomWidth 41 (refl, refl)) (fit WIDTHS longhands.BorderLeftWidth 42 (refl, refl)),
          -- border-style
          (
            four LINES (fit LINES longhands.BorderTopStyle 47 (refl, refl)) (fit LINES longhands.BorderRightStyle 48 (refl, refl)) (fit LINES longhands.BorderBottomStyle 49 (refl, refl)) (fit LINES longhands.BorderLeftStyle 50 (refl, refl)),
            -- margin-block
            (
              two MARGINS (fit MARGINS longhands.MarginBlockStart 27 (refl, refl)) (fit MARGINS longhands.MarginBlockEnd 28 (refl, refl)),
              -- margin-inline
              (
                two MARGINS (fit MARGINS longhands.MarginInlineStart 29 (refl, refl)) (fit MARGINS longhands.MarginInlineEnd 30 (refl, refl)),
                -- padding-block
                (
                  two PADDINGS (fit PADDINGS longhands.PaddingBlockStart 35 (refl, refl)) (fit PADDINGS longhands.PaddingBlockEnd 36 (refl, refl)),
                  -- padding-inline
                  (
                    two PADDINGS (fit PADDINGS longhands.PaddingInlineStart 37 (refl, refl)) (fit PADDINGS longhands.PaddingInlineEnd 38 (refl, refl)),
                    -- border-block-width
                    (
                      two WIDTHS (fit WIDTHS longhands.BorderBlockStartWidth 43 (refl, refl)) (fit WIDTHS longhands.BorderBlockEndWidth 44 (refl, refl)),
                      -- border-inline-width
                      (
                        two WIDTHS (fit WIDTHS longhands.BorderInlineStartWidth 45 (refl, refl)) (fit WIDTHS longhands.BorderInlineEndWidth 46 (refl, refl)),
                        -- border-block-style
                        (
                          two LINES (fit LINES longhands.BorderBlockStartStyle 51 (refl, refl)) (fit LINES longhands.BorderBlockEndStyle 52 (refl, refl)),
                          -- border-inline-style
                          (
                            two LINES (fit LINES longhands.BorderInlineStartStyle 53 (refl, refl)) (fit LINES longhands.BorderInlineEndStyle 54 (refl, refl)),
                            -- border
                            (
                              (four WIDTHS (fit WIDTHS longhands.BorderTopWidth 39 (refl, refl)) (fit WIDTHS longhands.BorderRightWidth 40 (refl, refl)) (fit WIDTHS longhands.BorderBottomWidth 41 (refl, refl)) (fit WIDTHS longhands.BorderLeftWidth 42 (refl, refl)), four LINES (fit LINES longhands.BorderTopStyle 47 (refl, refl)) (fit LINES longhands.BorderRightStyle 48 (refl, refl)) (fit LINES longhands.BorderBottomStyle 49 (refl, refl)) (fit LINES longhands.BorderLeftStyle 50 (refl, refl))),
                              -- border-top
                              (
                                (one WIDTHS (fit WIDTHS longhands.BorderTopWidth 39 (refl, refl)), one LINES (fit LINES longhands.BorderTopStyle 47 (refl, refl))),
                                -- border-right
                                (
                                  (one WIDTHS (fit WIDTHS longhands.BorderRightWidth 40 (refl, refl)), one LINES (fit LINES longhands.BorderRightStyle 48 (refl, refl))),
                                  -- border-bottom
                                  (
                                    (one WIDTHS (fit WIDTHS longhands.BorderBottomWidth 41 (refl, refl)), one LINES (fit LINES longhands.BorderBottomStyle 49 (refl, refl))),
                                    -- border-left
                                    (
                                      (one WIDTHS (fit WIDTHS longhands.BorderLeftWidth 42 (refl, refl)), one LINES (fit LINES longhands.BorderLeftStyle 50 (refl, refl))),
                                      -- border-block-start
                                      (
                                        (one WIDTHS (fit WIDTHS longhands.BorderBlockStartWidth 43 (refl, refl)), one LINES (fit LINES longhands.BorderBlockStartStyle 51 (refl, refl))),
                                        -- border-block-end
                                        (
                                          (one WIDTHS (fit WIDTHS longhands.BorderBlockEndWidth 44 (refl, refl)), one LINES (fit LINES longhands.BorderBlockEndStyle 52 (refl, refl))),
                                          -- border-inline-start
                                          (
                                            (one WIDTHS (fit WIDTHS longhands.BorderInlineStartWidth 45 (refl, refl)), one LINES (fit LINES longhands.BorderInlineStartStyle 53 (refl, refl))),
                                            -- border-inline-end
                                            (
                                              (one WIDTHS (fit WIDTHS longhands.BorderInlineEndWidth 46 (refl, refl)), one LINES (fit LINES longhands.BorderInlineEndStyle 54 (refl, refl))),
                                              -- border-block
                                              (
                                                (two WIDTHS (fit WIDTHS longhands.BorderBlockStartWidth 43 (refl, refl)) (fit WIDTHS longhands.BorderBlockEndWidth 44 (refl, refl)), two LINES (fit LINES longhands.BorderBlockStartStyle 51 (refl, refl)) (fit LINES longhands.BorderBlockEndStyle 52 (refl, refl))),
                                                -- border-inline
                                                (
                                                  (two WIDTHS (fit WIDTHS longhands.BorderInlineStartWidth 45 (refl, refl)) (fit WIDTHS longhands.BorderInlineEndWidth 46 (refl, refl)), two LINES (fit LINES longhands.BorderInlineStartStyle 53 (refl, refl)) (fit LINES longhands.BorderInlineEndStyle 54 (refl, refl))),
                                                  -- inset
                                                  (
                                                    four INSETS (fit INSETS longhands.InsetTop 56 (refl, refl)) (fit INSETS longhands.InsetRight 57 (refl, refl)) (fit INSETS longhands.InsetBottom 58 (refl, refl)) (fit INSETS longhands.InsetLeft 59 (refl, refl)),
                                                    -- inset-block
                                                    (
                                                      two INSETS (fit INSETS longhands.InsetBlockStart 60 (refl, refl)) (fit INSETS longhands.InsetBlockEnd 61 (refl, refl)),
                                                      -- inset-inline
                                                      (two INSETS (fit INSETS longhands.InsetInlineStart 62 (refl, refl)) (fit INSETS longhands.InsetInlineEnd 63 (refl, refl)), tt),
                                                    ),
                                                  ),
                                                ),
                                              ),
                                            ),
                                          ),
                                        ),
                                      ),
                                    ),
                                  ),
                                ),
                              ),
                            ),
                          ),
                        ),
                      ),
                    ),
                  ),
                ),
              ),
            ),
          ),
        ),
      ),
    )

-- ---- values for the sides

each_by : (v : Values) (lexeme : Lexeme) (first : Option Value) (later : Option (List Value)) (given : List Value) → IsSaid lexeme → single v lexeme ≡ first
    → ((others : List Value) → later ≡ Some others → All (IsTaken v) others) → before_others first later ≡ Some given → All (IsTaken v) given
each_by v lexeme (Some value) (Some others) given said is rest e =
    let same : value ∷ others ≡ given = cc in
    subst (λ (l : List Value). All (IsTaken v) l) same (All-cons (IsTaken v) value others (single_is_taken v lexeme value said is) (rest others refl))
each_by v lexeme (Some value) None given said is rest e = absurd cc
each_by v lexeme None later given said is rest e = absurd cc

each_is_taken : (v : Values) (lexemes : List Lexeme) (given : List Value) → AreSaid lexemes → each v lexemes ≡ Some given → All (IsTaken v) given
unfolding each
each_is_taken v [] given said e =
    let same : [] ≡ given = cc in
    subst (λ (l : List Value). All (IsTaken v) l) same (All-nil (IsTaken v))
each_is_taken v (lexeme ∷ others) given said e =
    each_by v lexeme (single v lexeme) (each v others) given (All-head IsSaid lexeme others said) refl
    (λ l same. each_is_taken v others l (All-tail IsSaid lexeme others said) same) e

-- a form that gives values of those that it is given
abbrev Keeps : (List Value → Option (List Value)) → Type 1
Keeps form = (P : Value → Type 0) (given out : List Value) → AllByRecursion P given → form given ≡ Some out → AllByRecursion P out

same_list : (P : Value → Type 0) (first other : List Value) → Some first ≡ Some other → AllByRecursion P first → AllByRecursion P other
same_list P first other e all =
    let same : first ≡ other = cc in
    subst (λ (l : List Value). AllByRecursion P l) same all

alone_keeps : Keeps alone
alone_keeps P [] out all e = absurd cc
alone_keeps P (a ∷ []) out all e = same_list P (a ∷ []) out e all
alone_keeps P (a ∷ b ∷ others) out all e = absurd cc

ends_keep : Keeps at_ends
ends_keep P [] out all e = absurd cc
ends_keep P (a ∷ []) out (p, u) e = same_list P (a ∷ a ∷ []) out e (p, (p, tt))
ends_keep P (a ∷ b ∷ []) out all e = same_list P (a ∷ b ∷ []) out e all
ends_keep P (a ∷ b ∷ c ∷ others) out all e = absurd cc

sides_keep : Keeps round_sides
sides_keep P [] out all e = absurd cc
sides_keep P (a ∷ []) out (p, u) e = same_list P (a ∷ a ∷ a ∷ a ∷ []) out e (p, (p, (p, (p, tt))))
sides_keep P (a ∷ b ∷ []) out (p, (q, u)) e = same_list P (a ∷ b ∷ a ∷ b ∷ []) out e (p, (q, (p, (q, tt))))
sides_keep P (a ∷ b ∷ c ∷ []) out (p, (q, (r, u))) e = same_list P (a ∷ b ∷ c ∷ b ∷ []) out e (p, (q, (r, (q, tt))))
sides_keep P (a ∷ b ∷ c ∷ d ∷ []) out all e = same_list P (a ∷ b ∷ c ∷ d ∷ []) out e all
sides_keep P (a ∷ b ∷ c ∷ d ∷ x ∷ others) out all e = absurd cc

form_by : (v : Values) (form : List Value → Option (List Value)) (given : Option (List Value)) (out : List Value) → Keeps form → ((l : List Value) → given ≡ Some l → All (IsTaken v) l)
    → each_then form given ≡ Some out → All (IsTaken v) out
form_by v form (Some l) out keeps all e = All-from_recursion (IsTaken v) out (keeps (IsTaken v) l out (recursion_from_All (IsTaken v) l (all l refl)) e)
form_by v form None out keeps all e = absurd cc

spread_is_taken : (v : Values) (longhands : Longhands) (given : Option (List Value)) (out : List Value) → ((l : List Value) → given ≡ Some l → All (IsTaken v) l)
    → spread longhands given ≡ Some out → All (IsTaken v) out
spread_is_taken v (One one) given out all e = form_by v alone given out alone_keeps all e
spread_is_taken v (Ends start end_) given out all e = form_by v at_ends given out ends_keep all e
spread_is_taken v (Sides top right bottom left) given out all e = form_by v round_sides given out sides_keep all e

zipped : (v : Values) (ps : List Property) (given : List Value) → All (Fits v) ps → All (IsTaken v) given → AreGiven (zip ps given)
zipped v [] given fits all = All-nil IsGiven
zipped v (p ∷ ps) [] fits all = All-nil IsGiven
zipped v (p ∷ ps) (value ∷ given) fits all =
    All-cons IsGiven (p, value) (zip ps given) (given_so v p value (All-head (Fits v) p ps fits) (All-head (IsTaken v) value given all))
    (zipped v ps given (All-tail (Fits v) p ps fits) (All-tail (IsTaken v) value given all))

round_by : (v : Values) (longhands : Longhands) (found : Option (List Value)) → All (Fits v) (listed longhands) → ((out : List Value) → found ≡ Some out → All (IsTaken v) out) → AreGiven (given_to longhands found)
round_by v longhands (Some out) fits all = zipped v (listed longhands) out fits (all out refl)
round_by v longhands None fits all = All-nil IsGiven

-- ---- values for borders

abbrev MayBe : Values → Option Value → Type 0
MayBe v (Some value) = IsTaken v value
MayBe v None = ⊤

abbrev IsFound : Found → Type 0
IsFound g = MayBe WIDTHS g.width × MayBe LINES g.style

abbrev Finds : Option Found → Type 0
Finds (Some g) = IsFound g
Finds None = ⊤

width_by : (value : Value) (g : Found) (t : Bool) → IsTaken WIDTHS value → IsFound g → Finds (cond t None (Some (record { width = Some value; style = g.style; colour = g.colour })))
width_by value g true taken is = tt
width_by value g false taken is = (taken, is.1)

style_by : (value : Value) (g : Found) (t : Bool) → IsTaken LINES value → IsFound g → Finds (cond t None (Some (record { width = g.width; style = Some value; colour = g.colour })))
style_by value g true taken is = tt
style_by value g false taken is = (is.0, taken)

colour_by : (g : Found) (t : Bool) → IsFound g → Finds (cond t None (Some (record { width = g.width; style = g.style; colour = true })))
colour_by g true is = tt
colour_by g false is = is

name_by : (style width : Option Value) (g : Found) → MayBe LINES style → MayBe WIDTHS width → IsFound g → Finds (by_name style width g)
name_by (Some value) width g s w is = style_by value g (is_some g.style) s is
name_by None (Some value) g s w is = width_by value g (is_some g.width) w is
name_by None None g s w is = colour_by g g.colour is

length_by : (width : Option Value) (g : Found) → MayBe WIDTHS width → IsFound g → Finds (with_length width g)
length_by (Some value) g w is = width_by value g (is_some g.width) w is
length_by None g w is = tt

may_be : (v : Values) (lexeme : Lexeme) (found : Option Value) → IsSaid lexeme → single v lexeme ≡ found → MayBe v found
may_be v lexeme (Some value) said e = single_is_taken v lexeme value said e
may_be v lexeme None said e = tt

function_by : (g : Found) (t : Bool) → IsFound g → Finds (cond t (with_colour g) None)
function_by g true is = colour_by g g.colour is
function_by g false is = tt

piece_finds : (lexeme : Lexeme) (g : Found) → IsSaid lexeme → IsFound g → Finds (with_piece lexeme g)
piece_finds (tokens.name n) g said is =
    name_by (single LINES (tokens.name n)) (single WIDTHS (tokens.name n)) g (may_be LINES (tokens.name n) (single LINES (tokens.name n)) said refl) (may_be WIDTHS (tokens.name n) (single WIDTHS (tokens.name n)) said refl) is
piece_finds (tokens.number n) g said is = length_by (single WIDTHS (tokens.number n)) g (may_be WIDTHS (tokens.number n) (single WIDTHS (tokens.number n)) said refl) is
piece_finds (tokens.dimension n unit) g said is = length_by (single WIDTHS (tokens.dimension n unit)) g (may_be WIDTHS (tokens.dimension n unit) (single WIDTHS (tokens.dimension n unit)) said refl) is
piece_finds (tokens.hash word) g said is = colour_by g g.colour is
piece_finds (tokens.function n) g said is = function_by g (is_one_of colours n) is
piece_finds (tokens.percentage n) g said is = tt
piece_finds (tokens.quoted inside) g said is = tt
piece_finds tokens.round g said is = tt
piece_finds tokens.square g said is = tt
piece_finds (tokens.sign byte) g said is = tt

then_finds : (found : Option Found) (others : Found → Option Found) → Finds found → ((g : Found) → IsFound g → Finds (others g)) → Finds (and_then found others)
then_finds (Some g) others is later = later g is
then_finds None others is later = tt

pieces_find : (lexemes : List Lexeme) (g : Found) → AreSaid lexemes → IsFound g → Finds (pieces lexemes g)
unfolding pieces
pieces_find [] g said is = is
pieces_find (lexeme ∷ others) g said is =
    then_finds (with_piece lexeme g) (pieces others) (piece_finds lexeme g (All-head IsSaid lexeme others said) is) (λ h found. pieces_find others h (All-tail IsSaid lexeme others said) found)

all_by : (v : Values) (value : Value) (ps : List Property) → ((p : Property) → Fits v p → IsGiven (p, value)) → All (Fits v) ps → AreGiven (map (λ (p : Property). (p, value)) ps)
all_by v value [] is fits = All-nil IsGiven
all_by v value (p ∷ ps) is fits =
    All-cons IsGiven (p, value) (map (λ (q : Property). (q, value)) ps) (is p (All-head (Fits v) p ps fits)) (all_by v value ps is (All-tail (Fits v) p ps fits))

or_initial_is : (v : Values) (found : Option Value) (longhands : Longhands) → MayBe v found → All (Fits v) (listed longhands) → AreGiven (all_have (or_initial found) longhands)
or_initial_is v (Some value) longhands taken fits = all_by v value (listed longhands) (λ p is. given_so v p value is taken) fits
or_initial_is v None longhands taken fits = all_by v values.Initial (listed longhands) (λ p is. initial_so v p is) fits

borders_are : (widths styles : Longhands) (found : Option Found) → All (Fits WIDTHS) (listed widths) → All (Fits LINES) (listed styles) → Finds found → AreGiven (borders widths styles found)
borders_are widths styles (Some g) w s is =
    All-append IsGiven (all_have (or_initial g.width) widths) (all_have (or_initial g.style) styles) (or_initial_is WIDTHS g.width widths is.0 w) (or_initial_is LINES g.style styles is.1 s)
borders_are widths styles None w s is = All-nil IsGiven

-- ---- a whole declaration

initial_are : (s : Shorthand) → IsFitting s → AreGiven (initial_of s)
initial_are (Round v longhands) fits = or_initial_is v None longhands tt fits
initial_are (Border widths styles) fits =
    All-append IsGiven (all_have values.Initial widths) (all_have values.Initial styles) (or_initial_is WIDTHS None widths tt fits.0) (or_initial_is LINES None styles tt fits.1)

given_are : (s : Shorthand) (lexemes : List Lexeme) → IsFitting s → AreSaid lexemes → AreGiven (given_by s lexemes)
given_are (Round v longhands) lexemes fits said =
    round_by v longhands (spread longhands (each v lexemes)) fits (λ out e. spread_is_taken v longhands (each v lexemes) out (λ l same. each_is_taken v lexemes l said same) e)
given_are (Border widths styles) lexemes fits said = borders_are widths styles (pieces lexemes nothing) fits.0 fits.1 (pieces_find lexemes nothing said (tt, tt))

shorthand_by : (s : Shorthand) (lexemes : List Lexeme) (t : Bool) → IsFitting s → AreSaid lexemes → AreGiven (cond t (initial_of s) (given_by s lexemes))
shorthand_by s lexemes true fits said = initial_are s fits
shorthand_by s lexemes false fits said = given_are s lexemes fits said

shorthand_are : (s : Shorthand) (lexemes : List Lexeme) → IsFitting s → AreSaid lexemes → AreGiven (shorthand s lexemes)
unfolding shorthand
shorthand_are s lexemes fits said = shorthand_by s lexemes (is_name (is_word (codes "initial")) lexemes) fits said

longhand_by : (row : PropertyRow) (lexemes : List Lexeme) (found : Option Value) → HasRow row → AreSaid lexemes → longhand row lexemes ≡ found → AreGiven (if_value row.property found)
longhand_by row lexemes (Some value) has said e =
    let is = longhand_is_a_value row lexemes value said e in
    All-cons IsGiven (row.property, value) [] ((row, has, is.0), is.1) (All-nil IsGiven)
longhand_by row lexemes None has said e = All-nil IsGiven

declared_are : (name : List ℕ) (lexemes : List Lexeme) (p : Option PropertyRow) (s : Option Shorthand) → named properties (lowered name) ≡ p → named shorthands (lowered name) ≡ s → AreSaid lexemes
    → AreGiven (declared_by (property_or p (shorthand_or_unknown s)) lexemes)
declared_are name lexemes (Some row) s is also said = longhand_by row lexemes (longhand row lexemes) (holds_of_row HasRow properties (lowered name) row properties_have_rows is) said refl
declared_are name lexemes None (Some s) is also said = shorthand_are s lexemes (holds_of_row IsFitting shorthands (lowered name) s shorthands_fit also) said
declared_are name lexemes None None is also said = All-nil IsGiven

expanded_are : (name : List ℕ) (lexemes : List Lexeme) → AreSaid lexemes → AreGiven (expanded name lexemes)
unfolding expanded meaning
expanded_are name lexemes said = declared_are name lexemes (named properties (lowered name)) (named shorthands (lowered name)) refl refl said

pub placed_are_kept : (manner : Manner) (name : List ℕ) (lexemes : List Lexeme) → AreSaid lexemes → All IsKept (placed manner (expanded name lexemes))
placed_are_kept manner name lexemes said =
    All-map IsKept (λ (p : Property × Value). record { property = p.0; value = p.1; important = manner.important; place = manner.place }) (expanded name lexemes) (expanded_are name lexemes said)
