-- Which bytes are a style sheet, and what it says (docs/PROFILE/sheets.md). Names, words, comments and gaps are those of
-- css_tokens, declarations those of css_values.
--
--   sheet     = gap (rule gap)*
--   rule      = selectors "{" declarations "}"
--   selectors = gap selector ("," gap selector)*
--   selector  = compound gap ((">" gap)? compound gap)*
--   compound  = type comment* simple* | simple+
--   type      = name | "*"
--   simple    = ("." name | "#" word) comment*
--
-- Where no ">" joins two compounds white space stands between them.
use Rattle.std.specs.Prelude.{◌≡◌, ℕ, ◌+◌, nat_lt, Bool, true, false, List, [], ◌∷◌, ◌++◌, length, codes, Option, Some, None, ⊤}
use Rattle.reading.specs.Readers.{next_is, starts}
use Rattle.reading.specs.Names.{lowered}
use Rattle.reading.specs.Grammars.{Each}
use Rattle.reading.specs.Placed.{PlacedGrammar}
use Rattle.css_types.specs.declared.rule.Joint.{Joint}
use Rattle.css_types.specs.declared.rule.Joint.TheVariants.{Descendant, Child}
use Rattle.css_types.specs.declared.value.Declaration.{Declaration}
use Rattle.css_tokens.specs.Grammar.{IsComment, IsGap, IsHash, IsName}
use Rattle.css_values.specs.Grammar.{AreDeclarations}
use Rattle.css_values.specs.Value.{no_items}
use Rattle.css_values.specs.declared.within.Within.TheVariants.{Rule}
use Rattle.css_types.specs.Rule.{Compound}
use Rattle.css_sheet.specs.Selector.{bare, is_dot_or_hash, selector_ends, with_class, with_id}
use Rattle.css_sheet.specs.Sheet.{Sheet, with_rules}

-- ---- compounds

-- all comments that stand there
abbrev pub AreComments : PlacedGrammar ⊤
AreComments text behind u = (comments : List ⊤) × Each IsComment text comments × (starts (codes "/*") behind ≡ false)

-- a type in small letters, or `*`
abbrev pub IsType : PlacedGrammar (Option (List ℕ))
IsType text behind None = text ≡ codes "*"
IsType text behind (Some tag) = (name : List ℕ) × IsName text behind name × (tag ≡ lowered name)

-- classes and ids
pub data Simple : Type 0 where
  class : (name : List ℕ) → Simple
  id : (word : List ℕ) → Simple

abbrev pub IsSimple : PlacedGrammar Simple
IsSimple text behind (class name) = (here : List ℕ) × IsName here behind name × (text ≡ 46 ∷ here)
IsSimple text behind (id word) = IsHash text behind word

abbrev pub AreSimples : PlacedGrammar (List Simple)
AreSimples text behind [] = text ≡ []
AreSimples text behind (simple ∷ others) = (here comments more : List ℕ)
    × IsSimple here (comments ++ (more ++ behind)) simple × AreComments comments (more ++ behind) tt × AreSimples more behind others
    × (text ≡ here ++ (comments ++ more))

abbrev pub with_simple : Compound → Simple → Compound
with_simple c (class name) = with_class c name
with_simple c (id word) = with_id c word

abbrev pub with_simples : Compound → List Simple → Compound
with_simples c [] = c
with_simples c (simple ∷ others) = with_simples (with_simple c simple) others

-- a type and simples, or simples alone, one at least
pub data IsCompound (joint : Joint) (text behind : List ℕ) (c : Compound) : Type 0 where
  typed : (here comments more : List ℕ) (tag : Option (List ℕ)) (simples : List Simple)
      → IsType here (comments ++ (more ++ behind)) tag → AreComments comments (more ++ behind) tt → AreSimples more behind simples
      → next_is is_dot_or_hash behind ≡ false → c ≡ with_simples (bare joint tag) simples → text ≡ here ++ (comments ++ more)
      → IsCompound joint text behind c
  untyped : (simples : List Simple)
      → AreSimples text behind simples → no_items simples ≡ false
      → next_is is_dot_or_hash behind ≡ false → c ≡ with_simples (bare joint None) simples
      → IsCompound joint text behind c

-- ---- selectors

-- what joins a compound to the one before, behind which there is white space or not
abbrev pub IsJoint : Joint → (white : Bool) → (text behind : List ℕ) → Type 0
IsJoint Child white text behind = (gap : List ℕ) × (white_behind : Bool) × IsGap gap behind white_behind × (text ≡ 62 ∷ gap)
IsJoint Descendant white text behind = (text ≡ []) × (white ≡ true)

-- compounds behind one behind which there is white space or not
abbrev pub AreCompounds : (white : Bool) → PlacedGrammar (List Compound)
AreCompounds white text behind [] = text ≡ []
AreCompounds white text behind (c ∷ others) = (joint here gap more : List ℕ) × (white_behind : Bool)
    × IsJoint c.joint white joint (here ++ (gap ++ (more ++ behind))) × IsCompound c.joint here (gap ++ (more ++ behind)) c
    × IsGap gap (more ++ behind) white_behind × AreCompounds white_behind more behind others
    × (text ≡ joint ++ (here ++ (gap ++ more)))

-- a selector, up to its `,` or `{`
abbrev pub IsSelector : PlacedGrammar (List Compound)
IsSelector text behind [] = ⊥
IsSelector text behind (c ∷ others) = (here gap more : List ℕ) × (white : Bool)
    × IsCompound Descendant here (gap ++ (more ++ behind)) c × IsGap gap (more ++ behind) white × AreCompounds white more behind others
    × (selector_ends behind ≡ true) × (text ≡ here ++ (gap ++ more))

-- ---- rules

-- the selectors of a rule, and its `{`
abbrev pub AreSelectors : PlacedGrammar (List (List Compound))
AreSelectors text behind [] = ⊥
AreSelectors text behind (s ∷ []) = (gap here : List ℕ) × (white : Bool)
    × IsGap gap (here ++ (123 ∷ behind)) white × IsSelector here (123 ∷ behind) s
    × (text ≡ gap ++ (here ++ 123 ∷ []))
AreSelectors text behind (s ∷ t ∷ others) = (gap here more : List ℕ) × (white : Bool)
    × IsGap gap (here ++ (44 ∷ (more ++ behind))) white × IsSelector here (44 ∷ (more ++ behind)) s × AreSelectors more behind (t ∷ others)
    × (text ≡ gap ++ (here ++ (44 ∷ more)))

-- a rule's selectors and its declarations
pub record Block : Type 0 where
  pub selectors : List (List Compound)
  pub declarations : List Declaration

-- a rule behind others; each of its selectors makes one, of which there are 4,096 at most
pub record IsRule (end_ : ℕ) (s : Sheet) (text behind : List ℕ) (b : Block) : Type 0 where
  pub head : List ℕ
  pub inside : List ℕ
  pub are_selectors : AreSelectors head (inside ++ (125 ∷ behind)) b.selectors
  pub few : nat_lt 4096 (length s.rules + length b.selectors) ≡ false
  pub are_declarations : AreDeclarations (Rule (length b.selectors) s.declared) end_ inside (125 ∷ behind) b.declarations
  pub whole : text ≡ head ++ (inside ++ 125 ∷ [])

abbrev pub with_block : Sheet → Block → Sheet
with_block s b = with_rules s b.selectors b.declarations

abbrev pub with_blocks : Sheet → List Block → Sheet
with_blocks s [] = s
with_blocks s (b ∷ others) = with_blocks (with_block s b) others

abbrev pub AreRules : (end_ : ℕ) → Sheet → PlacedGrammar (List Block)
AreRules end_ s text behind [] = text ≡ []
AreRules end_ s text behind (b ∷ others) = (here gap more : List ℕ) × (white : Bool)
    × IsRule end_ s here (gap ++ (more ++ behind)) b × IsGap gap (more ++ behind) white × AreRules end_ (with_block s b) more behind others
    × (text ≡ here ++ (gap ++ more))

-- a sheet behind the rules of others, to the end of its text, which is at the place `end`
pub record IsSheet (end_ : ℕ) (s : Sheet) (text behind : List ℕ) (all : Sheet) : Type 0 where
  pub gap : List ℕ
  pub back : List ℕ
  pub white : Bool
  pub blocks : List Block
  pub is_gap : IsGap gap (back ++ behind) white
  pub are_rules : AreRules end_ s back behind blocks
  pub ends : behind ≡ []
  pub says : all ≡ with_blocks s blocks
  pub whole : text ≡ gap ++ back
