-- Which bytes are declarations, and what they say (docs/PROFILE/css.md). Tokens and gaps are those of css_tokens.
--
--   declarations = gap ((declaration | ";") gap)*
--   declaration  = name gap ":" gap (component gap)+
--   component    = (function | "(") gap (component gap)* ")" | "[" gap (component gap)* "]" | any other token
--
-- Outside blocks a `;` is no component: a declaration ends before it, in a rule also before a `}`, elsewhere also with
-- the text.
use Rattle.std.specs.Prelude.{◌≡◌, ℕ, Bool, true, false, not, ◌==◌, List, [], ◌∷◌, ◌++◌, codes, Option, Some, None, Result, Ok, Err}
use Rattle.reading.specs.Placed.{PlacedGrammar}
use Rattle.css_types.specs.declared.value.Declaration.{Declaration}
use Rattle.css_tokens.specs.Grammar.{IsGap, IsName, IsToken}
use Rattle.css_tokens.specs.Tokens as tokens
use Rattle.css_tokens.specs.Tokens.{Lexeme}
use Rattle.css_values.specs.Components.{Components, none, preserved, block, lexemes_in, have_var, first_at}
use Rattle.css_values.specs.Declarations.{Stated, list_ends, with_stated}
use Rattle.css_values.specs.Error.{Fault}
use Rattle.css_values.specs.Value.{Written, closers_of, ends_important, no_items, value_ends, without_mark}
use Rattle.css_values.specs.declared.within.Within.{Within}

-- ---- values

-- a `;` is a component in a block alone
abbrev pub may_stand : (in_block : Bool) → Lexeme → Bool
may_stand false (tokens.sign byte) = not (byte == 59)
may_stand in_block lexeme = true

abbrev pub AreComponents : (in_block : Bool) → PlacedGrammar Components
AreComponents in_block text behind none = text ≡ []
AreComponents in_block text behind (preserved lexeme left next) = (here gap more : List ℕ) × (white : Bool)
    × IsToken here (gap ++ (more ++ behind)) lexeme × (closers_of lexeme ≡ []) × (may_stand in_block lexeme ≡ true)
    × IsGap gap (more ++ behind) white × AreComponents in_block more behind next
    × (left ≡ text ++ behind) × (text ≡ here ++ (gap ++ more))
AreComponents in_block text behind (block opening inside next) = (here gap middle later more : List ℕ) × (closer : ℕ) × (white white_later : Bool)
    × IsToken here (gap ++ (middle ++ (closer ∷ (later ++ (more ++ behind))))) opening × (closers_of opening ≡ closer ∷ [])
    × IsGap gap (middle ++ (closer ∷ (later ++ (more ++ behind)))) white
    × AreComponents true middle (closer ∷ (later ++ (more ++ behind))) inside
    × IsGap later (more ++ behind) white_later × AreComponents in_block more behind next
    × (text ≡ here ++ (gap ++ (middle ++ (closer ∷ (later ++ more)))))

-- what components say; an `!important` behind the others is no part of the value
abbrev pub written : Components → Written
written c = record { lexemes = without_mark (lexemes_in c); important = ends_important (lexemes_in c); has_var = have_var c; at_sign = first_at c }

-- a value isn't empty
pub record IsValue (within : Within) (text behind : List ℕ) (w : Written) : Type 0 where
  pub gap : List ℕ
  pub back : List ℕ
  pub white : Bool
  pub components : Components
  pub is_gap : IsGap gap (back ++ behind) white
  pub are_components : AreComponents false back behind components
  pub some : no_items (without_mark (lexemes_in components)) ≡ false
  pub ends : value_ends within behind ≡ true
  pub says : w ≡ written components
  pub whole : text ≡ gap ++ back

-- ---- declarations

pub record IsStated (within : Within) (text behind : List ℕ) (s : Stated) : Type 0 where
  pub name : List ℕ
  pub gap : List ℕ
  pub value : List ℕ
  pub white : Bool
  pub is_name : IsName name (gap ++ (58 ∷ (value ++ behind))) s.name
  pub is_gap : IsGap gap (58 ∷ (value ++ behind)) white
  pub is_value : IsValue within value behind s.value
  pub left : s.left ≡ text ++ behind
  pub whole : text ≡ name ++ (gap ++ (58 ∷ value))

-- a declaration, or a `;` where there is none
abbrev pub IsItem : Within → PlacedGrammar (Option Stated)
IsItem within text behind None = text ≡ codes ";"
IsItem within text behind (Some s) = IsStated within text behind s

abbrev pub AreItems : Within → PlacedGrammar (List (Option Stated))
AreItems within text behind [] = text ≡ []
AreItems within text behind (item ∷ others) = (here gap more : List ℕ) × (white : Bool)
    × IsItem within here (gap ++ (more ++ behind)) item × IsGap gap (more ++ behind) white × AreItems within more behind others
    × (text ≡ here ++ (gap ++ more))

abbrev pub with_kept : Result (List Declaration) Fault → (List Declaration → Result (List Declaration) Fault) → Result (List Declaration) Fault
with_kept (Ok kept) others = others kept
with_kept (Err fault) others = Err fault

-- judged one after the other, with those that are kept so far
abbrev pub then_judged : Within → (end_ : ℕ) → List (Option Stated) → List Declaration → Result (List Declaration) Fault
then_judged within end_ [] kept = Ok kept
then_judged within end_ (None ∷ others) kept = then_judged within end_ others kept
then_judged within end_ (Some s ∷ others) kept = with_kept (with_stated within end_ kept s) (then_judged within end_ others)

-- the declarations of a text; `end` is the place at which the bytes behind it end
pub record AreDeclarations (within : Within) (end_ : ℕ) (text behind : List ℕ) (all : List Declaration) : Type 0 where
  pub gap : List ℕ
  pub back : List ℕ
  pub white : Bool
  pub items : List (Option Stated)
  pub is_gap : IsGap gap (back ++ behind) white
  pub are_items : AreItems within back behind items
  pub ends : list_ends within behind ≡ true
  pub judged : then_judged within end_ items [] ≡ Ok all
  pub whole : text ≡ gap ++ back
