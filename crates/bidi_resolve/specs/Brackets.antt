-- Paired brackets: BD14 to BD16 of UAX 9, 3.1.3, and its rule N0, 3.3.5, over one whole isolating run sequence.
use Rattle.std.specs.Prelude.{ℕ, ◌+◌, Bool, true, false, cond, eqb, ltb, List, [], ◌∷◌, ◌++◌, take, drop, length, fold, Option, Some, None}
use Rattle.std.specs.List.{list_any, slice_range}
use Rattle.wm_chars.specs.Pairs.{bracket}
use Rattle.wm_chars.specs.declared.classes.BidiClass.{BidiClass}
use Rattle.wm_chars.specs.declared.classes.BidiClass.TheVariants.{L, R, EN, AN, NSM, ON}
use Rattle.wm_chars.specs.declared.classes.Bracket.{Bracket}
use Rattle.bidi_resolve.specs.Neutral.{is_even, direction, n1_after}

-- ---- BD16: which brackets are pairs

-- the bracket that a character is: only one whose class is ON counts
abbrev pub bracket_of : BidiClass → (char : ℕ) → Option Bracket
bracket_of ON char = bracket char
bracket_of class char = None

-- where no class is this one, no character is a bracket
abbrev pub may_be_bracket : BidiClass → Bool
may_be_bracket ON = true
may_be_bracket class = false

-- an opening bracket on the stack: the character that closes it, and its place
pub record Waiting : Type 0 where
  pub partner : ℕ
  pub place : ℕ

-- two brackets that are a pair, by their places
pub record BracketPair : Type 0 where
  pub opening : ℕ
  pub closing : ℕ

-- the place of the nearest bracket on the stack that the character closes, and what lies below it
pub record Match : Type 0 where
  pub opening : ℕ
  pub below : List Waiting

abbrev pub matching : (char : ℕ) → List Waiting → Option Match
matching char [] = None
matching char (last ∷ below) = cond (eqb last.partner char) (Some (record { opening = last.place; below = below })) (matching char below)

-- an opening bracket is put on the stack, where it has room for it; else the reading stops
abbrev pub opened : (has_room : Bool) → (stack : List Waiting) → (from : List Waiting → List BracketPair) → List BracketPair
opened true stack from = from stack
opened false stack from = []

-- a closing bracket and its match are a pair, and the match is popped with all that lies on it; without one it is
-- passed over
abbrev pub closed : (place : ℕ) → Option Match → (stack : List Waiting) → (from : List Waiting → List BracketPair) → List BracketPair
closed place None stack from = from stack
closed place (Some match_) stack from = record { opening = match_.opening; closing = place } ∷ from match_.below

abbrev pub bracket_at : (opens : Bool) → (place char partner : ℕ) → (stack : List Waiting) → (from : List Waiting → List BracketPair) → List BracketPair
bracket_at true place char partner stack from = opened (ltb (length stack) 63) (record { partner = partner; place = place } ∷ stack) from
bracket_at false place char partner stack from = closed place (matching char stack) stack from

-- the pairs that close from this place on, which holds that character, if any; `from` reads on behind it
abbrev pub pairs_at : (place char : ℕ) → Option Bracket → (stack : List Waiting) → (from : List Waiting → List BracketPair) → List BracketPair
pairs_at place char None stack from = from stack
pairs_at place char (Some b) stack from = bracket_at b.opens place char b.partner stack from

-- in the order of their closing brackets, where the first character has this place and the stack holds what is open
abbrev pub pairs_from : (place : ℕ) → (chars : List ℕ) → List BidiClass → (stack : List Waiting) → List BracketPair
pairs_from place [] classes stack = []
pairs_from place (char ∷ chars) [] stack = []
pairs_from place (char ∷ chars) (class ∷ classes) stack = pairs_at place char (bracket_of class char) stack (pairs_from (place + 1) chars classes)

-- one pair more, in the order of the opening brackets
abbrev pub inserted : BracketPair → List BracketPair → List BracketPair
inserted pair [] = pair ∷ []
inserted pair (other ∷ pairs) = cond (ltb pair.opening other.opening) (pair ∷ other ∷ pairs) (other ∷ inserted pair pairs)

-- the pairs of a sequence, sorted by their opening brackets
abbrev pub bracket_pairs : (chars : List ℕ) → List BidiClass → List BracketPair
bracket_pairs chars classes = fold (λ sorted pair. inserted pair sorted) [] (pairs_from 0 chars classes [])

-- ---- N0: what a pair becomes. Numbers count as R.

abbrev pub is_l : BidiClass → Bool
is_l L = true
is_l c = false

abbrev pub is_r : BidiClass → Bool
is_r R = true
is_r EN = true
is_r AN = true
is_r c = false

-- the embedding direction, and the other one
abbrev pub is_along : (level : ℕ) → BidiClass → Bool
is_along level c = cond (is_even level) (is_l c) (is_r c)

abbrev pub is_against : (level : ℕ) → BidiClass → Bool
is_against level c = cond (is_even level) (is_r c) (is_l c)

abbrev pub opposite : (level : ℕ) → BidiClass
opposite level = cond (is_even level) R L

-- the last direction before the opening bracket, or sos
abbrev pub context : (sos : BidiClass) → (before : List BidiClass) → BidiClass
context sos before = fold n1_after sos before

-- the other direction where the context has it too, else the embedding direction
abbrev pub by_context : (level : ℕ) → (context : BidiClass) → BidiClass
by_context level context = cond (is_against level context) (opposite level) (direction level)

-- by the characters between the two brackets
abbrev pub pair_class : (level : ℕ) → (context : BidiClass) → (inside : List BidiClass) → Option BidiClass
pair_class level context inside = cond (list_any (is_along level) inside) (Some (direction level))
    (cond (list_any (is_against level) inside) (Some (by_context level context)) None)

abbrev pub is_mark : BidiClass → Bool
is_mark NSM = true
is_mark c = false

-- the unbroken run of characters whose original class is NSM takes the class
abbrev pub follow : BidiClass → (originals : List BidiClass) → List BidiClass → List BidiClass
follow class [] classes = classes
follow class (original ∷ originals) [] = []
follow class (original ∷ originals) (c ∷ classes) = cond (is_mark original) (class ∷ follow class originals classes) (c ∷ classes)

-- the bracket at a place takes the class, and the run that directly follows it
abbrev pub become : BidiClass → (place : ℕ) → (originals : List BidiClass) → List BidiClass → List BidiClass
become class place originals classes = take place classes ++ class ∷ follow class (drop (place + 1) originals) (drop (place + 1) classes)

abbrev pub both_become : Option BidiClass → (opening closing : ℕ) → (originals : List BidiClass) → List BidiClass → List BidiClass
both_become None opening closing originals classes = classes
both_become (Some class) opening closing originals classes = become class closing originals (become class opening originals classes)

abbrev pub resolve_pair : (level : ℕ) → (sos : BidiClass) → (opening closing : ℕ) → (originals : List BidiClass) → List BidiClass → List BidiClass
resolve_pair level sos opening closing originals classes =
    both_become (pair_class level (context sos (take opening classes)) (slice_range classes (opening + 1) closing)) opening closing originals classes

-- the pairs in the order of their opening brackets
abbrev pub resolve_pairs : (level : ℕ) → (sos : BidiClass) → List BracketPair → (originals : List BidiClass) → List BidiClass → List BidiClass
resolve_pairs level sos [] originals classes = classes
resolve_pairs level sos (pair ∷ pairs) originals classes = resolve_pairs level sos pairs originals (resolve_pair level sos pair.opening pair.closing originals classes)

abbrev pub n0 : (level : ℕ) → (sos : BidiClass) → (chars : List ℕ) → (originals : List BidiClass) → List BidiClass → List BidiClass
n0 level sos chars originals classes = resolve_pairs level sos (bracket_pairs chars classes) originals classes
