-- Rules and sheets: what is spelled so is read, and what is read is spelled so.
use Rattle.std.proofs.Common.{◌≡◌, ℕ, ◌<◌, Bool, true, false, not, List, [], ◌∷◌, ◌++◌, length, codes, refl, sym, ap, subst, ◌∙◌, append_assoc, length-append, arith}
use Rattle.std.specs.Prelude.{⊤}
use Rattle.std.proofs.lemmas.List.{append-nil}
use Rattle.reading.specs.Grammars.{Fixed, Mapped}
use Rattle.reading.specs.Placed.{PlacedGrammar, Anywhere, PlacedMapped, PlacedSeq, SpellsPlaced}
use Rattle.reading.specs.Spelling.{Anything}
use Rattle.reading.proofs.SpellLaws.{strip_spells, mapped_spells, telling_spells}
use Rattle.reading.proofs.PlacedLaws.{anywhere_spells, placed_as, placed_follow, placed_mapped, placed_telling}
use Rattle.css_tokens.specs.Grammar.{IsGap}
use Rattle.css_values.specs.Error.{syntax}
use Rattle.css_values.specs.Grammar.{AreDeclarations}
use Rattle.css_values.specs.Value.{no_items}
use Rattle.css_values.specs.declared.within.Within.TheVariants.{Rule}
use Rattle.css_types.specs.Rule.{Compound}
use Rattle.css_sheet.specs.Sheet.{Sheet, block, goes_on, rule, sheet, turn, with_rules}
use Rattle.css_sheet.specs.Grammar.{AreRules, AreSelectors, Block, IsRule, IsSheet, with_block, with_blocks}
use Rattle.css_tokens.proofs.Spelling.{gap_spells}
use Rattle.css_values.proofs.DeclarationLaws.{declarations_spells}
use Rattle.reading.proofs.Chains.{Chain, AreTurns, IsTurn, turns_spell}
use Rattle.css_sheet.proofs.HeadLaws.{AreHeads, good, heads_spells}

-- ---- a rule

abbrev IsInside : (end_ : ℕ) → Sheet → List (List Compound) → PlacedGrammar Sheet
IsInside end_ s selectors = PlacedSeq (AreDeclarations (Rule (length selectors) s.declared) end_) (λ declared. Anywhere (Mapped (λ u. with_rules s selectors declared) (Fixed (codes "}"))))

inside_spells : (end_ : ℕ) (s : Sheet) (selectors : List (List Compound)) → SpellsPlaced (block end_ s selectors) (IsInside end_ s selectors) Anything
inside_spells end_ s selectors =
    placed_follow (declarations_spells (Rule (length selectors) s.declared) end_)
    (λ declared. anywhere_spells (mapped_spells (λ (u : ⊤). with_rules s selectors declared) (telling_spells syntax (strip_spells (codes "}")))))
    (λ x y back rest r any. tt)

abbrev IsRuleRead : (end_ : ℕ) → Sheet → PlacedGrammar Sheet
IsRuleRead end_ s = PlacedSeq (AreHeads (length s.rules)) (IsInside end_ s)

rule_reads : (end_ : ℕ) (s : Sheet) → SpellsPlaced (rule end_ s) (IsRuleRead end_ s) Anything
rule_reads end_ s = placed_follow (heads_spells (length s.rules)) (λ selectors. inside_spells end_ s selectors) (λ x y back rest r any. tt)

-- a rule, and the sheet with it
abbrev IsWith : (end_ : ℕ) → Sheet → PlacedGrammar Sheet
IsWith end_ s = PlacedMapped (with_block s) (IsRule end_ s)

to_rule : (end_ : ℕ) (s : Sheet) (text behind : List ℕ) (later : Sheet) → IsRuleRead end_ s text behind later → IsWith end_ s text behind later
to_rule end_ s text behind later (selectors, head, back, (are, few), (declared, inside, sign, are_declared, (u, is_sign, same), whole2), whole1) =
    let parts : back ++ behind ≡ inside ++ (125 ∷ behind) = ap (λ (t : List ℕ). t ++ behind) whole2 ∙ append_assoc inside sign behind ∙ ap (λ (t : List ℕ). inside ++ (t ++ behind)) is_sign in (
      record { selectors = selectors; declarations = declared },
      record {
        head = head;
        inside = inside;
        are_selectors = subst (λ (t : List ℕ). AreSelectors head t selectors) parts are;
        few = few;
        are_declarations = subst (λ (t : List ℕ). AreDeclarations (Rule (length selectors) s.declared) end_ inside (t ++ behind) declared) is_sign are_declared;
        whole = whole1 ∙ ap (λ (t : List ℕ). head ++ t) (whole2 ∙ ap (λ (t : List ℕ). inside ++ t) is_sign);
      },
      same,
    )

from_rule : (end_ : ℕ) (s : Sheet) (text behind : List ℕ) (later : Sheet) → IsWith end_ s text behind later → IsRuleRead end_ s text behind later
from_rule end_ s text behind later (b, r, same) =
    let parts : r.inside ++ (125 ∷ behind) ≡ (r.inside ++ 125 ∷ []) ++ behind = sym (append_assoc r.inside (125 ∷ []) behind) in (
      b.selectors,
      r.head,
      r.inside ++ 125 ∷ [],
      subst (λ (t : List ℕ). AreHeads (length s.rules) r.head t b.selectors) parts (r.are_selectors, r.few),
      (b.declarations, r.inside, codes "}", r.are_declarations, (tt, refl, same), refl),
      r.whole,
    )

rule_spells : (end_ : ℕ) (s : Sheet) → SpellsPlaced (rule end_ s) (IsWith end_ s) Anything
rule_spells end_ s = placed_as (rule_reads end_ s) (to_rule end_ s) (from_rule end_ s)

-- ---- rules one after the other

-- a rule, and the gap behind it
abbrev IsRuleTurn : (end_ : ℕ) → Sheet → PlacedGrammar Sheet
IsRuleTurn end_ s = PlacedSeq (IsWith end_ s) (λ more. PlacedMapped (λ white. more) IsGap)

turn_spells : (end_ : ℕ) (s : Sheet) → SpellsPlaced (turn end_ s) (IsRuleTurn end_ s) Anything
turn_spells end_ s = placed_follow (rule_spells end_ s) (λ more. placed_mapped (λ (white : Bool). more) (placed_telling syntax gap_spells)) (λ x y back rest r any. tt)

rule_some : (end_ : ℕ) (s : Sheet) (text behind : List ℕ) (b : Block) → IsRule end_ s text behind b → 0 < length text
rule_some end_ s text behind b r = omega (arith, ap length r.whole, length-append r.head (r.inside ++ 125 ∷ []), length-append r.inside (125 ∷ []))

turn_some : (end_ : ℕ) (s : Sheet) (text behind : List ℕ) (later : Sheet) → IsRuleTurn end_ s text behind later → 0 < length text
turn_some end_ s text behind later (x, here, gap_, (b, is, same), is_gap, whole) = omega (arith, ap length whole, length-append here gap_, rule_some end_ s here (gap_ ++ behind) b is)

some_go_on : (text behind : List ℕ) → 0 < length text → not (no_items (text ++ behind)) ≡ true
some_go_on [] behind some = absurd (omega (arith, some))
some_go_on (byte ∷ text) behind some = refl

is_turn : (end_ : ℕ) → IsTurn (turn end_) (IsRuleTurn end_)
is_turn end_ = record {
  spells = turn_spells end_;
  shortens = λ s later x y e.
      let t = (turn_spells end_ s).takes x later y e in
      omega (arith, ap length t.2, length-append t.0 y, turn_some end_ s t.0 y later t.1);
}

abbrev RuleChain : (end_ : ℕ) → List Sheet → Sheet → PlacedGrammar Sheet
RuleChain end_ = Chain goes_on (IsRuleTurn end_)

-- the rules of a chain
record AreChained (end_ : ℕ) (s : Sheet) (text behind : List ℕ) (all : Sheet) : Type 0 where
  blocks : List Block
  are : AreRules end_ s text behind blocks
  says : all ≡ with_blocks s blocks

to_rules : (end_ : ℕ) (states : List Sheet) (s : Sheet) (text behind : List ℕ) (all : Sheet) → RuleChain end_ states s text behind all → AreChained end_ s text behind all
to_rules end_ [] s text behind all r = record { blocks = []; are = r.0; says = r.1 }
to_rules end_ (later ∷ states) s text behind all (front, more, g, (x, here, gap_, (b, is, same), (white, is_gap, then_), whole2), others, whole1) =
    let l = to_rules end_ states later more behind all others in
    let now : later ≡ with_block s b = then_ ∙ same in
    record {
      blocks = b ∷ l.blocks;
      are = (
        here,
        gap_,
        more,
        white,
        is,
        is_gap,
        subst (λ (z : Sheet). AreRules end_ z more behind l.blocks) now l.are,
        whole1 ∙ ap (λ (t : List ℕ). t ++ more) whole2 ∙ append_assoc here gap_ more,
      );
      says = l.says ∙ ap (λ (z : Sheet). with_blocks z l.blocks) now;
    }

record HasRules (end_ : ℕ) (s : Sheet) (blocks : List Block) (text behind : List ℕ) : Type 0 where
  states : List Sheet
  chain : RuleChain end_ states s text behind (with_blocks s blocks)

from_rules : (end_ : ℕ) (blocks : List Block) (s : Sheet) (text behind : List ℕ) → AreRules end_ s text behind blocks → HasRules end_ s blocks text behind
from_rules end_ [] s text behind r = record { states = []; chain = (r, refl) }
from_rules end_ (b ∷ blocks) s text behind (here, gap_, more, white, is, is_gap, others, whole) =
    let later = with_block s b in
    let l = from_rules end_ blocks later more behind others in
    let step : IsRuleTurn end_ s (here ++ gap_) (more ++ behind) later = (later, here, gap_, (b, is, refl), (white, is_gap, refl), refl) in
    record {
      states = later ∷ l.states;
      chain = (
        here ++ gap_,
        more,
        some_go_on (here ++ gap_) (more ++ behind) (turn_some end_ s (here ++ gap_) (more ++ behind) later step),
        step,
        l.chain,
        whole ∙ sym (append_assoc here gap_ more),
      );
    }

-- ---- sheets

abbrev IsRead : (end_ : ℕ) → Sheet → PlacedGrammar Sheet
IsRead end_ s = PlacedSeq IsGap (λ white. AreTurns goes_on (IsRuleTurn end_) s)

nothing_left : (rest : List ℕ) → not (no_items rest) ≡ false → rest ≡ []
nothing_left [] e = refl
nothing_left (byte ∷ rest) e = absurd cc

to_sheet : (end_ : ℕ) (s : Sheet) (text behind : List ℕ) (all : Sheet) → IsRead end_ s text behind all → IsSheet end_ s text behind all
to_sheet end_ s text behind all (white, gap_, back, is_gap, (states, chain, ends), whole) =
    let l = to_rules end_ states s back behind all chain in
    record { gap = gap_; back = back; white = white; blocks = l.blocks; is_gap = is_gap; are_rules = l.are; ends = nothing_left behind ends; says = l.says; whole = whole }

from_sheet : (end_ : ℕ) (s : Sheet) (text behind : List ℕ) (all : Sheet) → IsSheet end_ s text behind all → IsRead end_ s text behind all
from_sheet end_ s text behind all r =
    let l = from_rules end_ r.blocks s r.back behind r.are_rules in (
      r.white,
      r.gap,
      r.back,
      r.is_gap,
      (l.states, subst (λ (z : Sheet). RuleChain end_ l.states s r.back behind z) (sym r.says) l.chain, ap (λ (t : List ℕ). not (no_items t)) r.ends),
      r.whole,
    )

pub sheet_spells : (end_ : ℕ) (s : Sheet) → SpellsPlaced (sheet end_ s) (IsSheet end_ s) Anything
unfolding sheet
sheet_spells end_ s =
    placed_as (placed_follow (placed_telling syntax gap_spells) (λ white. turns_spell s (is_turn end_)) (λ x y back rest r any. tt))
    (to_sheet end_ s) (from_sheet end_ s)

-- ---- a text that is a sheet to its end

pub whole_is : (end_ : ℕ) (s all : Sheet) (text rest : List ℕ) → sheet end_ s text ≡ good (all, rest) → IsSheet end_ s text [] all
whole_is end_ s all text rest e =
    let t = (sheet_spells end_ s).takes text all rest e in
    let none = t.1.ends in
    let same : t.0 ≡ text = sym (t.2 ∙ ap (λ (b : List ℕ). t.0 ++ b) none ∙ append-nil t.0) in
    subst (λ (b : List ℕ). IsSheet end_ s b [] all) same (subst (λ (b : List ℕ). IsSheet end_ s t.0 b all) none t.1)

pub whole_is_read : (end_ : ℕ) (s all : Sheet) (text : List ℕ) → IsSheet end_ s text [] all → sheet end_ s text ≡ good (all, [])
whole_is_read end_ s all text is = ap (sheet end_ s) (sym (append-nil text)) ∙ (sheet_spells end_ s).again text all [] is tt
