-- The rules of a sheet: their selectors have parts, and their declarations are kept.
use Rattle.std.proofs.Common.{ℕ, ◌<◌, List, [], ◌∷◌, ◌++◌, length, map, Ok, Err, sym, subst, arith}
use Rattle.std.specs.Prelude.{IfOk, Result}
use Rattle.std.specs.List.{All}
use Rattle.std.proofs.lemmas.List.Elements.{All-append, All-cons, All-map, All-nil, All-weaker}
use Rattle.reading.specs.Readers.{mapped}
use Rattle.reading.specs.Stop.{end_of}
use Rattle.css_types.specs.Rule.{Compound, Ruling}
use Rattle.css_types.specs.declared.value.Declaration.{Declaration}
use Rattle.css_values.specs.Answered.{IsKept}
use Rattle.css_values.specs.Error.{Told}
use Rattle.css_values.specs.Grammar.{AreDeclarations}
use Rattle.css_values.specs.declared.error.CssError.{CssError}
use Rattle.css_values.specs.declared.within.Within.{Within}
use Rattle.css_values.specs.declared.within.Within.TheVariants.{Rule}
use Rattle.css_values.proofs.DeclarationLaws.{declarations_spells}
use Rattle.css_values.proofs.Keeping.{declarations_are_kept}
use Rattle.css_sheet.specs.Answered.{IsRuled, IsTheSheet}
use Rattle.css_sheet.specs.Grammar.{AreRules, AreSelectors, Block, IsRule, IsSelector, IsSheet, with_block, with_blocks}
use Rattle.css_sheet.specs.Sheet.{Sheet, empty, sheet}
use Rattle.css_sheet.proofs.AnsweredLaws.{told_sheet}

abbrev HasParts : List Compound → Type 0
HasParts selector = 0 < length selector

abbrev pub AreRuled : List Ruling → Type 0
AreRuled rules = All IsRuled rules

-- ---- by the grammar

selector_has_parts : (text behind : List ℕ) (x : List Compound) → IsSelector text behind x → HasParts x
selector_has_parts text behind [] is = absurd is
selector_has_parts text behind (c ∷ others) is = omega arith

selectors_have_parts : (text behind : List ℕ) (all : List (List Compound)) → AreSelectors text behind all → All HasParts all
selectors_have_parts text behind [] is = absurd is
selectors_have_parts text behind (s ∷ []) (gap, here, white, is_gap, is, whole) = All-cons HasParts s [] (selector_has_parts here (123 ∷ behind) s is) (All-nil HasParts)
selectors_have_parts text behind (s ∷ t ∷ others) (gap, here, more, white, is_gap, is, are, whole) =
    All-cons HasParts s (t ∷ others) (selector_has_parts here (44 ∷ (more ++ behind)) s is) (selectors_have_parts more behind (t ∷ others) are)

pub spelled_are_kept : (within : Within) (end_ : ℕ) (text behind : List ℕ) (all : List Declaration) → AreDeclarations within end_ text behind all → All IsKept all
spelled_are_kept within end_ text behind all is = declarations_are_kept within end_ (text ++ behind) behind all ((declarations_spells within end_).again text all behind is tt)

block_keeps : (end_ : ℕ) (s : Sheet) (text behind : List ℕ) (b : Block) → IsRule end_ s text behind b → AreRuled s.rules → AreRuled (with_block s b).rules
block_keeps end_ s text behind b is ruled =
    let kept = spelled_are_kept (Rule (length b.selectors) s.declared) end_ is.inside (125 ∷ behind) b.declarations is.are_declarations in
    let parts = selectors_have_parts is.head (is.inside ++ (125 ∷ behind)) b.selectors is.are_selectors in
    All-append IsRuled s.rules (map (λ (selector : List Compound). record { selector = selector; declarations = b.declarations }) b.selectors) ruled
    (All-map IsRuled (λ (selector : List Compound). record { selector = selector; declarations = b.declarations }) b.selectors
    (All-weaker HasParts (λ (selector : List Compound). IsRuled (record { selector = selector; declarations = b.declarations })) (λ selector some. (some, kept)) b.selectors parts))

blocks_keep : (end_ : ℕ) (s : Sheet) (text behind : List ℕ) (blocks : List Block) → AreRules end_ s text behind blocks → AreRuled s.rules → AreRuled (with_blocks s blocks).rules
blocks_keep end_ s text behind [] are ruled = ruled
blocks_keep end_ s text behind (b ∷ others) (here, gap, more, white, is, is_gap, are, whole) ruled =
    blocks_keep end_ (with_block s b) more behind others are (block_keeps end_ s here (gap ++ (more ++ behind)) b is ruled)

pub sheet_keeps : (end_ : ℕ) (s : Sheet) (text behind : List ℕ) (all : Sheet) → IsSheet end_ s text behind all → AreRuled s.rules → AreRuled all.rules
sheet_keeps end_ s text behind all is ruled =
    subst (λ (z : Sheet). AreRuled z.rules) (sym is.says) (blocks_keep end_ s is.back behind is.blocks is.are_rules ruled)

-- ---- what a call gave

ruled_by : {X : Type 0} (view : X → List Ruling) (start : ℕ) (text : List ℕ) (r : Result X CssError) → IfOk r (λ x. IsTheSheet start text (view x)) → IfOk r (λ x. AreRuled (view x))
ruled_by view start text (Ok x) is = sheet_keeps (end_of start text) empty text [] _ is.is (All-nil IsRuled)
ruled_by view start text (Err error) is = tt

pub told_ruled : {X : Type 0} (view : X → List Ruling) (start : ℕ) (text : List ℕ) (r : Result X CssError) → Told (end_of start text) view r (mapped (λ s. s.rules) (sheet (end_of start text) empty) text)
    → IfOk r (λ x. AreRuled (view x))
told_ruled view start text r t = ruled_by view start text r (told_sheet view start text r t)
