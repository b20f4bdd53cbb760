-- The selectors of a rule: what is spelled so is read, and what is read is spelled so.
use Rattle.std.proofs.Common.{◌≡◌, inl, inr, ℕ, ◌<◌, ◌+◌, Bool, true, false, not, cond, List, [], ◌∷◌, ◌++◌, length, codes, Ok, Err, refl, sym, ap, subst, ◌∙◌, append_assoc, length-append, arith}
use Rattle.std.specs.Prelude.{⊤, nat_lt}
use Rattle.std.proofs.lemmas.Bool.{ltb-false, le-ltb, not-false}
use Rattle.std.proofs.lemmas.List.{append-nil}
use Rattle.basic_laws.proofs.Lists.{append_grouped}
use Rattle.reading.specs.Readers.{ReadOr, ◌>>=◌, strip, starts, telling}
use Rattle.reading.specs.Grammars.{Grammar, Either, Fixed, Mapped}
use Rattle.reading.specs.Placed.{PlacedGrammar, Anywhere, PlacedMapped, PlacedSeq, SpellsPlaced}
use Rattle.reading.specs.Spelling.{Anything, Spells}
use Rattle.reading.proofs.SpellLaws.{bind_ok, same_answer, starts_so, strip_spells, mapped_spells, choice_spells, telling_spells}
use Rattle.reading.proofs.PlacedLaws.{anywhere_spells, placed_as, placed_follow, placed_mapped, placed_telling}
use Rattle.css_tokens.specs.Grammar.{IsGap}
use Rattle.css_values.specs.Error.{Fault, syntax}
use Rattle.css_values.specs.declared.error.Refusal.TheVariants.{TooManyRules}
use Rattle.css_types.specs.Rule.{Compound}
use Rattle.css_sheet.specs.Selector.{selector}
use Rattle.css_sheet.specs.Sheet.{Heads, behind_selector, cannot, counted, head_turn, heads, heads_go_on, next_selector, no_heads, opening}
use Rattle.css_sheet.specs.Grammar.{AreSelectors, IsSelector}
use Rattle.css_tokens.proofs.Spelling.{gap_spells}
use Rattle.reading.proofs.Chains.{Chain, AreTurns, IsTurn, turns_spell}
use Rattle.css_sheet.proofs.SelectorLaws.{selector_spells}

abbrev pub good : {A : Type 0} → A × List ℕ → ReadOr Fault A
good x = Ok x

-- ---- a selector more

abbrev with_selector : List (List Compound) → List Compound → List (List Compound)
with_selector selectors s = selectors ++ s ∷ []

-- there aren't too many rules with these selectors
abbrev AreFew : (rules : ℕ) → List (List Compound) → Type 0
AreFew rules selectors = nat_lt 4096 (rules + length selectors) ≡ false

abbrev IsMore : (rules : ℕ) → List (List Compound) → PlacedGrammar (List (List Compound))
IsMore rules selectors text behind later = (s : List Compound) × IsSelector text behind s × AreFew rules (with_selector selectors s) × (later ≡ with_selector selectors s)

counted_by : (list later : List (List Compound)) (left end_ rest : List ℕ) (t : Bool) → cond t (Err (TooManyRules, left)) (good (list, end_)) ≡ good (later, rest) → (t ≡ false) × (list ≡ later) × (end_ ≡ rest)
counted_by list later left end_ rest true e = absurd cc
counted_by list later left end_ rest false e =
    let same = same_answer {E = Fault} list later end_ rest e in
    (refl, same.0, same.1)

cannot_spells : SpellsPlaced (telling cannot selector) IsSelector Anything
cannot_spells = placed_telling cannot selector_spells

more_spells : (rules : ℕ) (h : Heads) → SpellsPlaced (next_selector rules h) (IsMore rules h.selectors) Anything
more_spells rules h = record {
  takes = λ bytes later rest e.
      let a = bind_ok (telling cannot selector bytes) (λ (v : List Compound × List ℕ). counted rules h bytes v.0 v.1) (later, rest) e in
      let list = with_selector h.selectors a.0.0 in
      let c = counted_by list later bytes a.0.1 rest (nat_lt 4096 (rules + length list)) a.2 in
      let t = cannot_spells.takes bytes a.0.0 a.0.1 a.1 in
      (t.0, (a.0.0, subst (λ (b : List ℕ). IsSelector t.0 b a.0.0) c.2 t.1, c.0, sym c.1), t.2 ∙ ap (λ (b : List ℕ). t.0 ++ b) c.2);
  again = λ text later rest r any.
      let list = with_selector h.selectors r.0 in
      let first = cannot_spells.again text r.0 rest r.1 any in
      ap (λ (v : ReadOr Fault (List Compound)). v >>= λ (v : List Compound × List ℕ). counted rules h (text ++ rest) v.0 v.1) first
      ∙ ap (λ (t : Bool). cond t (Err (TooManyRules, text ++ rest)) (good (list, rest))) r.2
      ∙ ap (λ (l : List (List Compound)). good (l, rest)) (sym r.3);
}

-- ---- what stands behind it

-- the `{`, or the `,`
abbrev mark_of : (opened : Bool) → ℕ
mark_of true = 123
mark_of false = 44

abbrev IsOpening : Grammar Bool
IsOpening = Either (Mapped (λ u. false) (Fixed (codes ","))) (Mapped (λ u. true) (Fixed (codes "{")))

no_comma : (more : List ℕ) → starts (codes ",") (123 ∷ more) ≡ false
unfolding starts strip
no_comma more = refl

opening_spells : Spells opening IsOpening Anything
opening_spells =
    choice_spells (starts (codes ",")) (mapped_spells (λ (u : ⊤). false) (strip_spells (codes ","))) (mapped_spells (λ (u : ⊤). true) (strip_spells (codes "{")))
    (λ text x rest r any. ap (λ (t : List ℕ). starts (codes ",") (t ++ rest)) r.1 ∙ starts_so (codes ",") rest)
    (λ text x rest r any. ap (λ (t : List ℕ). starts (codes ",") (t ++ rest)) r.1 ∙ no_comma rest)

opening_mark : (text : List ℕ) (opened : Bool) → IsOpening text opened → text ≡ mark_of opened ∷ []
opening_mark text opened (inl r) = r.1 ∙ ap (λ (o : Bool). mark_of o ∷ []) (sym r.2)
opening_mark text opened (inr r) = r.1 ∙ ap (λ (o : Bool). mark_of o ∷ []) (sym r.2)

mark_opening : (opened : Bool) → IsOpening (mark_of opened ∷ []) opened
mark_opening true = inr (tt, refl, refl)
mark_opening false = inl (tt, refl, refl)

-- ---- a turn

abbrev heads_with : List (List Compound) → (opened : Bool) → Heads
heads_with selectors opened = record { selectors = selectors; opened = opened }

abbrev IsHeadRead : (rules : ℕ) → Heads → PlacedGrammar Heads
IsHeadRead rules h = PlacedSeq IsGap (λ white. PlacedSeq (IsMore rules h.selectors) (λ list. Anywhere (Mapped (λ opened. heads_with list opened) IsOpening)))

-- a selector with the gap before it, and its `,` or `{`
abbrev IsHead : (rules : ℕ) → Heads → PlacedGrammar Heads
IsHead rules h text behind later = (s : List Compound) × (gap_ here : List ℕ) × (white opened : Bool)
    × IsGap gap_ (here ++ (mark_of opened ∷ behind)) white × IsSelector here (mark_of opened ∷ behind) s × AreFew rules (with_selector h.selectors s)
    × (later ≡ heads_with (with_selector h.selectors s) opened) × (text ≡ gap_ ++ (here ++ mark_of opened ∷ []))

behind_spells : (list : List (List Compound)) → SpellsPlaced (behind_selector list) (Anywhere (Mapped (λ opened. heads_with list opened) IsOpening)) Anything
behind_spells list = anywhere_spells (mapped_spells (λ opened. heads_with list opened) (telling_spells syntax opening_spells))

head_reads : (rules : ℕ) (h : Heads) → SpellsPlaced (head_turn rules h) (IsHeadRead rules h) Anything
head_reads rules h =
    placed_follow (placed_telling syntax gap_spells) (λ white. placed_follow (more_spells rules h) (λ list. behind_spells list) (λ x y back rest r any. tt)) (λ x y back rest r any. tt)

to_head : (rules : ℕ) (h : Heads) (text behind : List ℕ) (later : Heads) → IsHeadRead rules h text behind later → IsHead rules h text behind later
to_head rules h text behind later (white, gap_, back, is_gap, (list, here, sign, (s, is, few, same), (opened, is_opening, then_), whole2), whole1) =
    let mark = opening_mark sign opened is_opening in
    let parts : back ++ behind ≡ here ++ (mark_of opened ∷ behind) =
    ap (λ (t : List ℕ). t ++ behind) whole2 ∙ append_assoc here sign behind ∙ ap (λ (t : List ℕ). here ++ (t ++ behind)) mark in (
      s,
      gap_,
      here,
      white,
      opened,
      subst (λ (t : List ℕ). IsGap gap_ t white) parts is_gap,
      subst (λ (t : List ℕ). IsSelector here (t ++ behind) s) mark is,
      few,
      then_ ∙ ap (λ (l : List (List Compound)). heads_with l opened) same,
      whole1 ∙ ap (λ (t : List ℕ). gap_ ++ t) (whole2 ∙ ap (λ (t : List ℕ). here ++ t) mark),
    )

from_head : (rules : ℕ) (h : Heads) (text behind : List ℕ) (later : Heads) → IsHead rules h text behind later → IsHeadRead rules h text behind later
from_head rules h text behind later (s, gap_, here, white, opened, is_gap, is, few, same, whole) =
    let sign = mark_of opened ∷ [] in (
      white,
      gap_,
      here ++ sign,
      subst (λ (t : List ℕ). IsGap gap_ t white) (sym (append_assoc here sign behind)) is_gap,
      (with_selector h.selectors s, here, sign, (s, is, few, refl), (opened, mark_opening opened, same), refl),
      whole,
    )

head_spells : (rules : ℕ) (h : Heads) → SpellsPlaced (head_turn rules h) (IsHead rules h) Anything
head_spells rules h = placed_as (head_reads rules h) (to_head rules h) (from_head rules h)

head_some : (rules : ℕ) (h : Heads) (text behind : List ℕ) (later : Heads) → IsHead rules h text behind later → 0 < length text
head_some rules h text behind later (s, gap_, here, white, opened, is_gap, is, few, same, whole) =
    omega (arith, ap length whole, length-append gap_ (here ++ mark_of opened ∷ []), length-append here (mark_of opened ∷ []))

is_head_turn : (rules : ℕ) → IsTurn (head_turn rules) (IsHead rules)
is_head_turn rules = record {
  spells = head_spells rules;
  shortens = λ h later x y e.
      let t = (head_spells rules h).takes x later y e in
      omega (arith, ap length t.2, length-append t.0 y, head_some rules h t.0 y later t.1);
}

-- ---- all

abbrev HeadChain : (rules : ℕ) → List Heads → Heads → PlacedGrammar Heads
HeadChain rules = Chain heads_go_on (IsHead rules)

-- the selectors of a chain
record AreHeaded (rules : ℕ) (selectors : List (List Compound)) (text behind : List ℕ) (end_ : Heads) : Type 0 where
  list : List (List Compound)
  are : AreSelectors text behind list
  says : end_.selectors ≡ selectors ++ list
  few : AreFew rules end_.selectors

not_opened : (o : Bool) → not o ≡ true → o ≡ true → ⊥
not_opened true e f = absurd cc
not_opened false e f = absurd cc

-- behind the `{` there are none
no_more : (rules : ℕ) (states : List Heads) (h : Heads) (text behind : List ℕ) (end_ : Heads) → h.opened ≡ true → HeadChain rules states h text behind end_ → (text ≡ []) × (end_ ≡ h)
no_more rules [] h text behind end_ o r = r
no_more rules (later ∷ states) h text behind end_ o r = absurd (not_opened h.opened r.2 o)

before_others : (s : List Compound) (list : List (List Compound)) (gap_ here more text behind : List ℕ) (white : Bool)
    → IsGap gap_ (here ++ (44 ∷ (more ++ behind))) white → IsSelector here (44 ∷ (more ++ behind)) s → AreSelectors more behind list → text ≡ gap_ ++ (here ++ (44 ∷ more)) → AreSelectors text behind (s ∷ list)
before_others s [] gap_ here more text behind white is_gap is are whole = absurd are
before_others s (t ∷ others) gap_ here more text behind white is_gap is are whole = (gap_, here, more, white, is_gap, is, are, whole)

to_heads : (rules : ℕ) (states : List Heads) (h : Heads) (text behind : List ℕ) (end_ : Heads) → h.opened ≡ false → end_.opened ≡ true → HeadChain rules states h text behind end_ → AreHeaded rules h.selectors text behind end_
to_heads rules [] h text behind end_ o p r =
    let clash : true ≡ false = sym p ∙ ap (λ (z : Heads). z.opened) r.1 ∙ o in
    absurd cc
to_heads rules (later ∷ states) h text behind end_ o p (front, more, g, (s, gap_, here, white, true, is_gap, is, few, same, all), others, whole) =
    let l = no_more rules states later more behind end_ (ap (λ (z : Heads). z.opened) same) others in
    let last : end_.selectors ≡ with_selector h.selectors s = ap (λ (z : Heads). z.selectors) (l.1 ∙ same) in
    record {
      list = s ∷ [];
      are = (
        gap_,
        here,
        white,
        subst (λ (t : List ℕ). IsGap gap_ (here ++ (123 ∷ (t ++ behind))) white) l.0 is_gap,
        subst (λ (t : List ℕ). IsSelector here (123 ∷ (t ++ behind)) s) l.0 is,
        whole ∙ ap (λ (t : List ℕ). t ++ more) all ∙ append_grouped gap_ here (123 ∷ []) more ∙ ap (λ (t : List ℕ). gap_ ++ (here ++ (123 ∷ t))) l.0,
      );
      says = last;
      few = subst (λ (z : List (List Compound)). AreFew rules z) (sym last) few;
    }
to_heads rules (later ∷ states) h text behind end_ o p (front, more, g, (s, gap_, here, white, false, is_gap, is, few, same, all), others, whole) =
    let l = to_heads rules states later more behind end_ (ap (λ (z : Heads). z.opened) same) p others in
    record {
      list = s ∷ l.list;
      are = before_others s l.list gap_ here more text behind white is_gap is l.are (whole ∙ ap (λ (t : List ℕ). t ++ more) all ∙ append_grouped gap_ here (44 ∷ []) more);
      says = l.says ∙ ap (λ (z : Heads). z.selectors ++ l.list) same ∙ append_assoc h.selectors (s ∷ []) l.list;
      few = l.few;
    }

record HasHeads (rules : ℕ) (selectors list : List (List Compound)) (text behind : List ℕ) : Type 0 where
  states : List Heads
  chain : HeadChain rules states (heads_with selectors false) text behind (heads_with (selectors ++ list) true)

fewer : (rules : ℕ) (selectors others : List (List Compound)) → AreFew rules (selectors ++ others) → AreFew rules selectors
fewer rules selectors others few =
    let le = ltb-false 4096 (rules + length (selectors ++ others)) few in
    le-ltb 4096 (rules + length selectors) (omega (arith, le, length-append selectors others))

from_heads : (rules : ℕ) (list selectors : List (List Compound)) (text behind : List ℕ) → AreFew rules (selectors ++ list) → AreSelectors text behind list → HasHeads rules selectors list text behind
from_heads rules [] selectors text behind few r = absurd r
from_heads rules (s ∷ []) selectors text behind few (gap_, here, white, is_gap, is, whole) = record {
  states = heads_with (with_selector selectors s) true ∷ [];
  chain = (text, [], refl, (s, gap_, here, white, true, is_gap, is, few, refl, whole), (refl, refl), sym (append-nil text));
}
from_heads rules (s ∷ t ∷ others) selectors text behind few (gap_, here, more, white, is_gap, is, are, whole) =
    let now = with_selector selectors s in
    let all : now ++ t ∷ others ≡ selectors ++ s ∷ t ∷ others = append_assoc selectors (s ∷ []) (t ∷ others) in
    let few_now : AreFew rules (now ++ t ∷ others) = subst (λ (z : List (List Compound)). AreFew rules z) (sym all) few in
    let l = from_heads rules (t ∷ others) now more behind few_now are in
    record {
      states = heads_with now false ∷ l.states;
      chain = (
        gap_ ++ (here ++ 44 ∷ []),
        more,
        refl,
        (s, gap_, here, white, false, is_gap, is, fewer rules now (t ∷ others) few_now, refl, refl),
        subst (λ (z : List (List Compound)). HeadChain rules l.states (heads_with now false) more behind (heads_with z true)) all l.chain,
        whole ∙ sym (append_grouped gap_ here (44 ∷ []) more),
      );
    }

-- the selectors of a rule behind others
abbrev pub AreHeads : (rules : ℕ) → PlacedGrammar (List (List Compound))
AreHeads rules text behind s = AreSelectors text behind s × (nat_lt 4096 (rules + length s) ≡ false)

abbrev AreRead : (rules : ℕ) → PlacedGrammar (List (List Compound))
AreRead rules = PlacedMapped (λ h. h.selectors) (AreTurns heads_go_on (IsHead rules) no_heads)

all_heads : (rules : ℕ) (text behind : List ℕ) (x : List (List Compound)) → AreRead rules text behind x → AreHeads rules text behind x
all_heads rules text behind x (end_, (states, chain, ends), says) =
    let l = to_heads rules states no_heads text behind end_ refl (not-false end_.opened ends) chain in
    let list : x ≡ l.list = says ∙ l.says in
    (subst (λ (z : List (List Compound)). AreSelectors text behind z) (sym list) l.are, subst (λ (z : List (List Compound)). AreFew rules z) (sym says) l.few)

heads_all : (rules : ℕ) (text behind : List ℕ) (x : List (List Compound)) → AreHeads rules text behind x → AreRead rules text behind x
heads_all rules text behind x (are, few) =
    let l = from_heads rules x [] text behind few are in
    (heads_with x true, (l.states, l.chain, refl), refl)

pub heads_spells : (rules : ℕ) → SpellsPlaced (heads rules) (λ text behind s. AreSelectors text behind s × (nat_lt 4096 (rules + length s) ≡ false)) Anything
unfolding heads
heads_spells rules = placed_as (placed_mapped (λ h. h.selectors) (turns_spell no_heads (is_head_turn rules))) (all_heads rules) (heads_all rules)
