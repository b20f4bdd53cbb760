-- Declarations: what is spelled so is read, and what is read is spelled so.
use Rattle.std.proofs.Common.{◌≡◌, ℕ, suc, ◌<◌, Bool, true, false, not, cond, eqb, List, [], ◌∷◌, ◌++◌, length, codes, Option, Some, None, Result, Ok, Err, refl, sym, ap, subst, ◌∙◌, append_assoc, length-append, arith}
use Rattle.std.specs.Prelude.{⊤}
use Rattle.std.proofs.lemmas.Bool.{eqb-true, not-false}
use Rattle.basic_laws.proofs.Lists.{append_grouped}
use Rattle.reading.specs.Readers.{Read, ReadOr, Reader, ◌>>=◌, give, refuse, follow, mapped, choice, strip, starts, turns, repeat}
use Rattle.reading.specs.Grammars.{Fixed}
use Rattle.reading.specs.Placed.{PlacedGrammar, Anywhere, PlacedSeq, PlacedMapped, SpellsPlaced}
use Rattle.reading.specs.Spelling.{Anything}
use Rattle.reading.proofs.SpellLaws.{ok, stop, bind_ok, same_answer, strip_spells, mapped_spells, telling_spells, starts_not}
use Rattle.reading.proofs.PlacedLaws.{anywhere_spells, placed_follow, placed_mapped, placed_telling}
use Rattle.reading.proofs.Turns.{Leads, leads_nowhere, leads_on, one_turn, leads_to_end, turns_back}
use Rattle.css_types.specs.declared.value.Declaration.{Declaration}
use Rattle.css_tokens.specs.Grammar.{IsGap, IsName}
use Rattle.css_tokens.specs.Lexing.{gap, name, name_ahead}
use Rattle.css_values.specs.Declarations.{Stated, property_name, stated, with_stated, before_rest, judged, at_rule_ahead, unsupported, declaration, item, turn, list_ends, goes_on, declarations}
use Rattle.css_values.specs.Error.{Fault, syntax, spelled}
use Rattle.css_values.specs.Grammar.{IsValue, IsStated, IsItem, AreItems, AreDeclarations, then_judged, with_kept}
use Rattle.css_values.specs.Value.{Written, value}
use Rattle.css_values.specs.declared.within.Within.{Within}
use Rattle.css_values.specs.declared.within.Within.TheVariants as within_
use Rattle.css_tokens.proofs.Spelling.{gap_spells, name_spells}
use Rattle.css_values.proofs.ComponentLaws.{value_spells}

abbrev good : {A : Type 0} → A × List ℕ → ReadOr Fault A
good x = Ok x

-- ---- names of properties

never : (bytes n rest : List ℕ) (t : Bool) (r : Read ⊤) → cond t (r >>= λ (u : ⊤ × List ℕ). refuse u.1) (stop bytes) ≡ ok (n, rest) → ⊥
never bytes n rest true (Ok x) e = absurd cc
never bytes n rest true (Err left) e = absurd cc
never bytes n rest false r e = absurd cc

property_by : (bytes n rest : List ℕ) (t : Bool) → name_ahead bytes ≡ t
    → cond t (name bytes) (choice (starts (codes "-")) (follow (strip (codes "-")) (λ u. refuse)) refuse bytes) ≡ ok (n, rest) → choice name_ahead name refuse bytes ≡ ok (n, rest)
property_by bytes n rest true is e = rw is e
property_by bytes n rest false is e = absurd (never bytes n rest (starts (codes "-") bytes) (strip (codes "-") bytes) e)

property_again : (bytes n rest : List ℕ) (t : Bool) → name_ahead bytes ≡ t → cond t (name bytes) (stop bytes) ≡ ok (n, rest) → property_name bytes ≡ ok (n, rest)
unfolding property_name
property_again bytes n rest true is e = rw is e
property_again bytes n rest false is e = absurd cc

property_spells : SpellsPlaced property_name IsName Anything
unfolding property_name
property_spells = record {
  takes = λ bytes n rest e. name_spells.takes bytes n rest (property_by bytes n rest (name_ahead bytes) refl e);
  again = λ text n rest is any. property_again (text ++ rest) n rest (name_ahead (text ++ rest)) refl (name_spells.again text n rest is tt);
}

-- ---- a declaration as it stands

abbrev stated_at : (left n : List ℕ) → Written → Stated
stated_at left n v = record { name = n; value = v; left = left }

abbrev stated_from : Within → (left : List ℕ) → Reader Stated
stated_from within left = follow property_name (λ n. follow gap (λ white. follow (strip (codes ":")) (λ u. mapped (λ v. stated_at left n v) (value within))))

abbrev IsStatedFrom : Within → (left : List ℕ) → PlacedGrammar Stated
IsStatedFrom within left = PlacedSeq IsName (λ n. PlacedSeq IsGap (λ white. PlacedSeq (Anywhere (Fixed (codes ":"))) (λ u. PlacedMapped (λ v. stated_at left n v) (IsValue within))))

from_spells : (within : Within) (left : List ℕ) → SpellsPlaced (stated_from within left) (IsStatedFrom within left) Anything
from_spells within left = placed_follow property_spells
    (λ n. placed_follow gap_spells
    (λ white. placed_follow (anywhere_spells (strip_spells (codes ":")))
    (λ u. placed_mapped (λ v. stated_at left n v) (value_spells within))
    (λ u y back rest is any. tt))
    (λ white y back rest is any. tt))
    (λ n y back rest is any. tt)

to_stated : (within : Within) (left text behind : List ℕ) (s : Stated) → left ≡ text ++ behind → IsStatedFrom within left text behind s → IsStated within text behind s
to_stated within left text behind s at (n, named, back, is, (white, gap_, back2, is_gap, (u, colon, inside, fixed, (v, is_value, says), three), two), one) =
    let tail : back2 ≡ 58 ∷ inside = three ∙ ap (λ (c : List ℕ). c ++ inside) fixed in
    let behind_gap : back2 ++ behind ≡ 58 ∷ (inside ++ behind) = ap (λ (b : List ℕ). b ++ behind) tail in
    let behind_name : back ++ behind ≡ gap_ ++ (58 ∷ (inside ++ behind)) = ap (λ (b : List ℕ). b ++ behind) two ∙ append_assoc gap_ back2 behind ∙ ap (λ (b : List ℕ). gap_ ++ b) behind_gap in
    let whole : text ≡ named ++ (gap_ ++ (58 ∷ inside)) = one ∙ ap (λ (b : List ℕ). named ++ b) (two ∙ ap (λ (b : List ℕ). gap_ ++ b) tail) in
    let made : IsStated within text behind (stated_at left n v) = record {
      name = named;
      gap = gap_;
      value = inside;
      white = white;
      is_name = subst (λ (b : List ℕ). IsName named b n) behind_name is;
      is_gap = subst (λ (b : List ℕ). IsGap gap_ b white) behind_gap is_gap;
      is_value = is_value;
      left = at;
      whole = whole;
    } in
    subst (λ (x : Stated). IsStated within text behind x) (sym says) made

from_stated : (within : Within) (text behind : List ℕ) (s : Stated) → IsStated within text behind s → IsStatedFrom within (text ++ behind) text behind s
from_stated within text behind s r =
    let says : s ≡ stated_at (text ++ behind) s.name s.value = ap (λ (l : List ℕ). stated_at l s.name s.value) r.left in (
      s.name,
      r.name,
      r.gap ++ (58 ∷ r.value),
      subst (λ (b : List ℕ). IsName r.name b s.name) (sym (append_assoc r.gap (58 ∷ r.value) behind)) r.is_name,
      (r.white, r.gap, 58 ∷ r.value, r.is_gap, (tt, codes ":", r.value, refl, (s.value, r.is_value, says), refl), refl),
      r.whole,
    )

pub stated_spells : (within : Within) → SpellsPlaced (stated within) (IsStated within) Anything
unfolding stated
stated_spells within = record {
  takes = λ bytes s rest e.
      let t = (from_spells within bytes).takes bytes s rest e in
      (t.0, to_stated within bytes t.0 rest s t.2 t.1, t.2);
  again = λ text s rest is any. (from_spells within (text ++ rest)).again text s rest (from_stated within text rest s is) tt;
}

-- ---- by the first byte

-- no `;`, `@` or `}` comes
record BeginsName (bytes : List ℕ) : Type 0 where
  byte : ℕ
  more : List ℕ
  no_semicolon : eqb byte 59 ≡ false
  no_at : eqb byte 64 ≡ false
  no_brace : eqb byte 125 ≡ false
  parts : bytes ≡ byte ∷ more

differs : (byte : ℕ) (more : List ℕ) (other : ℕ) (t : Bool) → eqb byte other ≡ t → name_ahead (other ∷ more) ≡ false → name_ahead (byte ∷ more) ≡ true → eqb byte other ≡ false
differs byte more other true e none some =
    let clash : true ≡ false = sym some ∙ ap (λ (b : ℕ). name_ahead (b ∷ more)) (eqb-true byte other e) ∙ none in
    absurd cc
differs byte more other false e none some = e

no_name : name_ahead [] ≡ false
unfolding name_ahead
no_name = refl

no_name_at_semicolon : (more : List ℕ) → name_ahead (59 ∷ more) ≡ false
unfolding name_ahead
no_name_at_semicolon more = refl

no_name_at_at : (more : List ℕ) → name_ahead (64 ∷ more) ≡ false
unfolding name_ahead
no_name_at_at more = refl

no_name_at_brace : (more : List ℕ) → name_ahead (125 ∷ more) ≡ false
unfolding name_ahead
no_name_at_brace more = refl

begins_name : (bytes : List ℕ) → name_ahead bytes ≡ true → BeginsName bytes
begins_name [] e =
    let clash : true ≡ false = sym e ∙ no_name in
    absurd cc
begins_name (byte ∷ more) e = record {
  byte = byte;
  more = more;
  no_semicolon = differs byte more 59 (eqb byte 59) refl (no_name_at_semicolon more) e;
  no_at = differs byte more 64 (eqb byte 64) refl (no_name_at_at more) e;
  no_brace = differs byte more 125 (eqb byte 125) refl (no_name_at_brace more) e;
  parts = refl;
}

ahead_by : (bytes n rest : List ℕ) (t : Bool) → name_ahead bytes ≡ t → cond t (name bytes) (stop bytes) ≡ ok (n, rest) → name_ahead bytes ≡ true
ahead_by bytes n rest true is e = is
ahead_by bytes n rest false is e = absurd cc

stated_grouped : (named gap_ inside behind : List ℕ) → (named ++ (gap_ ++ (58 ∷ inside))) ++ behind ≡ named ++ (gap_ ++ (58 ∷ (inside ++ behind)))
stated_grouped named gap_ inside behind = simp append_assoc

stated_begins : (within : Within) (text behind : List ℕ) (s : Stated) → IsStated within text behind s → BeginsName (text ++ behind)
stated_begins within text behind s r =
    let tail = r.gap ++ (58 ∷ (r.value ++ behind)) in
    let all : text ++ behind ≡ r.name ++ tail = ap (λ (b : List ℕ). b ++ behind) r.whole ∙ stated_grouped r.name r.gap r.value behind in
    let e = name_spells.again r.name s.name tail r.is_name tt in
    subst BeginsName (sym all) (begins_name (r.name ++ tail) (ahead_by (r.name ++ tail) s.name tail (name_ahead (r.name ++ tail)) refl e))

stated_some : (within : Within) (text behind : List ℕ) (s : Stated) → IsStated within text behind s → 0 < length text
stated_some within text behind s r = omega (arith, ap length r.whole, length-append r.name (r.gap ++ (58 ∷ r.value)), length-append r.gap (58 ∷ r.value))

goes_by : (within : Within) (byte : ℕ) (more : List ℕ) → eqb byte 125 ≡ false → list_ends within (byte ∷ more) ≡ false
goes_by within_.Attribute byte more e = refl
goes_by (within_.Rule selectors before) byte more e = starts_not 125 byte more e

no_at_rule : (within : Within) (byte : ℕ) (more : List ℕ) → eqb byte 64 ≡ false → at_rule_ahead within (byte ∷ more) ≡ false
no_at_rule within_.Attribute byte more e = refl
no_at_rule (within_.Rule selectors before) byte more e = starts_not 64 byte more e

-- ---- what is spelled so is read

abbrev LeadsTo : Within → (end_ : ℕ) → List Declaration → List ℕ → List Declaration → List ℕ → Type 0
LeadsTo within end_ = Leads (goes_on within) (turn within end_)

spelled_gap : SpellsPlaced (spelled gap) IsGap Anything
spelled_gap = placed_telling syntax gap_spells

gap_put : (all : List Declaration) (text rest : List ℕ) (white : Bool) → IsGap text rest white → mapped (λ (w : Bool). all) (spelled gap) (text ++ rest) ≡ good (all, rest)
gap_put all text rest white is = ap (λ (s : ReadOr Fault Bool). s >>= λ (v : Bool × List ℕ). give all v.1) (spelled_gap.again text white rest is tt)

turn_by_item : (within : Within) (end_ : ℕ) (kept all : List Declaration) (bytes gap_ rest : List ℕ) (white : Bool) → item within end_ kept bytes ≡ good (all, gap_ ++ rest) → IsGap gap_ rest white → turn within end_ kept bytes ≡ good (all, rest)
turn_by_item within end_ kept all bytes gap_ rest white e is_gap =
    ap (λ (s : ReadOr Fault (List Declaration)). s >>= λ (v : List Declaration × List ℕ). mapped (λ (w : Bool). v.0) (spelled gap) v.1) e ∙ gap_put all gap_ rest white is_gap

semicolon_item : (within : Within) (end_ : ℕ) (kept : List Declaration) (rest : List ℕ) → item within end_ kept (59 ∷ rest) ≡ good (kept, rest)
unfolding starts strip
semicolon_item within end_ kept rest = refl

judged_so : (within : Within) (end_ : ℕ) (kept all : List Declaration) (s : Stated) (rest : List ℕ) → with_stated within end_ kept s ≡ Ok all → judged within end_ kept s rest ≡ good (all, rest)
judged_so within end_ kept all s rest e = ap (before_rest rest) e

declaration_so : (within : Within) (end_ : ℕ) (kept all : List Declaration) (bytes rest : List ℕ) (s : Stated) → at_rule_ahead within bytes ≡ false → spelled (stated within) bytes ≡ good (s, rest) → with_stated within end_ kept s ≡ Ok all
    → declaration within end_ kept bytes ≡ good (all, rest)
unfolding declaration
declaration_so within end_ kept all bytes rest s no_rule e is =
    ap (λ (t : Bool). cond t (unsupported bytes) (follow (spelled (stated within)) (judged within end_ kept) bytes)) no_rule
    ∙ ap (λ (r : ReadOr Fault Stated). r >>= λ (v : Stated × List ℕ). judged within end_ kept v.0 v.1) e ∙ judged_so within end_ kept all s rest is

item_so : (within : Within) (end_ : ℕ) (kept : List Declaration) (bytes : List ℕ) (read : ReadOr Fault (List Declaration)) → starts (codes ";") bytes ≡ false → declaration within end_ kept bytes ≡ read → item within end_ kept bytes ≡ read
item_so within end_ kept bytes read none e = ap (λ (t : Bool). cond t (mapped (λ (u : ⊤). kept) (spelled (strip (codes ";"))) bytes) (declaration within end_ kept bytes)) none ∙ e

spelled_stated : (within : Within) → SpellsPlaced (spelled (stated within)) (IsStated within) Anything
spelled_stated within = placed_telling syntax (stated_spells within)

stated_item : (within : Within) (end_ : ℕ) (kept all : List Declaration) (text rest : List ℕ) (s : Stated) → IsStated within text rest s → with_stated within end_ kept s ≡ Ok all → item within end_ kept (text ++ rest) ≡ good (all, rest)
stated_item within end_ kept all text rest s r is =
    let b = stated_begins within text rest s r in
    item_so within end_ kept (text ++ rest) (good (all, rest)) (ap (starts (codes ";")) b.parts ∙ starts_not 59 b.byte b.more b.no_semicolon)
    (declaration_so within end_ kept all (text ++ rest) rest s (ap (at_rule_ahead within) b.parts ∙ no_at_rule within b.byte b.more b.no_at) ((spelled_stated within).again text s rest r tt) is)

kept_ok : (now : Result (List Declaration) Fault) (others : List Declaration → Result (List Declaration) Fault) (all : List Declaration) → with_kept now others ≡ Ok all → (kept : List Declaration) × (now ≡ Ok kept) × (others kept ≡ Ok all)
kept_ok (Ok kept) others all e = (kept, refl, e)
kept_ok (Err fault) others all e = absurd cc

kept_same : (kept all : List Declaration) (now : Result (List Declaration) Fault) → now ≡ Ok kept → now ≡ Ok all → kept ≡ all
kept_same kept all now e f =
    let both : good (kept, []) ≡ good (all, []) = ap (before_rest []) (sym e ∙ f) in
    (same_answer {E = Fault} kept all [] [] both).0

items_read : (items : List (Option Stated)) (within : Within) (end_ : ℕ) (text behind : List ℕ) (kept all : List Declaration) → AreItems within text behind items → then_judged within end_ items kept ≡ Ok all
    → LeadsTo within end_ kept (text ++ behind) all behind
items_read [] within end_ text behind kept all r judged_ =
    rw r (subst (λ (l : List Declaration). LeadsTo within end_ kept behind l behind) (kept_same kept all (Ok kept) refl judged_) (leads_nowhere (goes_on within) (turn within end_) kept behind))
items_read (None ∷ others) within end_ text behind kept all (here, gap_, more, white, is, is_gap, next_is, whole) judged_ =
    let whole_here : text ++ behind ≡ 59 ∷ (gap_ ++ (more ++ behind)) =
    ap (λ (s : List ℕ). s ++ behind) whole ∙ append_grouped here gap_ more behind ∙ ap (λ (s : List ℕ). s ++ (gap_ ++ (more ++ behind))) is in
    let a = one_turn (goes_on within) (turn within end_) kept kept (59 ∷ (gap_ ++ (more ++ behind))) (more ++ behind)
    (ap not (goes_by within 59 (gap_ ++ (more ++ behind)) refl))
    (turn_by_item within end_ kept kept (59 ∷ (gap_ ++ (more ++ behind))) gap_ (more ++ behind) white (semicolon_item within end_ kept (gap_ ++ (more ++ behind))) is_gap)
    (omega (arith, length-append gap_ (more ++ behind))) in
    subst (λ (s : List ℕ). LeadsTo within end_ kept s all behind) (sym whole_here) (leads_on a (items_read others within end_ more behind kept all next_is judged_))
items_read (Some s ∷ others) within end_ text behind kept all (here, gap_, more, white, is, is_gap, next_is, whole) judged_ =
    let tail = gap_ ++ (more ++ behind) in
    let whole_here : text ++ behind ≡ here ++ tail = ap (λ (s : List ℕ). s ++ behind) whole ∙ append_grouped here gap_ more behind in
    let j = kept_ok (with_stated within end_ kept s) (then_judged within end_ others) all judged_ in
    let b = stated_begins within here tail s is in
    let a = one_turn (goes_on within) (turn within end_) kept j.0 (here ++ tail) (more ++ behind)
    (ap not (ap (list_ends within) b.parts ∙ goes_by within b.byte b.more b.no_brace))
    (turn_by_item within end_ kept j.0 (here ++ tail) gap_ (more ++ behind) white (stated_item within end_ kept j.0 here tail s is j.1) is_gap)
    (omega (arith, length-append here tail, length-append gap_ (more ++ behind), stated_some within here tail s is)) in
    subst (λ (s : List ℕ). LeadsTo within end_ kept s all behind) (sym whole_here) (leads_on a (items_read others within end_ more behind j.0 all next_is j.2))

declarations_again : (within : Within) (end_ : ℕ) (text : List ℕ) (all : List Declaration) (rest : List ℕ) → AreDeclarations within end_ text rest all → declarations within end_ (text ++ rest) ≡ good (all, rest)
unfolding declarations
declarations_again within end_ text all rest is =
    let whole : text ++ rest ≡ is.gap ++ (is.back ++ rest) = ap (λ (s : List ℕ). s ++ rest) is.whole ∙ append_assoc is.gap is.back rest in
    let there = leads_to_end (goes_on within) (turn within end_) [] all (is.back ++ rest) rest (items_read is.items within end_ is.back rest [] all is.are_items is.judged) (ap not is.ends) in
    ap (λ (s : List ℕ). spelled gap s >>= λ (v : Bool × List ℕ). repeat (goes_on within) (turn within end_) [] v.1) whole
    ∙ ap (λ (s : ReadOr Fault Bool). s >>= λ (v : Bool × List ℕ). repeat (goes_on within) (turn within end_) [] v.1) (spelled_gap.again is.gap is.white (is.back ++ rest) is.is_gap tt)
    ∙ there

-- ---- what a turn does

-- an item and the gap behind it
record Reads (within : Within) (end_ : ℕ) (kept later : List Declaration) (x y : List ℕ) : Type 0 where
  one : Option Stated
  here : List ℕ
  gap_text : List ℕ
  white : Bool
  is : IsItem within here (gap_text ++ y) one
  is_gap : IsGap gap_text y white
  then_ : (others : List (Option Stated)) → then_judged within end_ (one ∷ others) kept ≡ then_judged within end_ others later
  parts : x ≡ here ++ (gap_text ++ y)

-- an item
record ReadsItem (within : Within) (end_ : ℕ) (kept later : List Declaration) (x y : List ℕ) : Type 0 where
  one : Option Stated
  here : List ℕ
  is : IsItem within here y one
  then_ : (others : List (Option Stated)) → then_judged within end_ (one ∷ others) kept ≡ then_judged within end_ others later
  parts : x ≡ here ++ y

judged_by : (within : Within) (end_ : ℕ) (later : List Declaration) (between_ y : List ℕ) (now : Result (List Declaration) Fault) → before_rest between_ now ≡ good (later, y) → (now ≡ Ok later) × (between_ ≡ y)
judged_by within end_ later between_ y (Ok all) e =
    let same = same_answer {E = Fault} all later between_ y e in
    (ap (λ (l : List Declaration). Ok l) same.0, same.1)
judged_by within end_ later between_ y (Err fault) e = absurd cc

declaration_by : (within : Within) (end_ : ℕ) (kept later : List Declaration) (x y : List ℕ) (t : Bool) → at_rule_ahead within x ≡ t
    → cond t (unsupported x) (follow (spelled (stated within)) (judged within end_ kept) x) ≡ good (later, y) → ReadsItem within end_ kept later x y
declaration_by within end_ kept later x y true is e = absurd cc
declaration_by within end_ kept later x y false is e =
    let a = bind_ok (spelled (stated within) x) (λ (v : Stated × List ℕ). judged within end_ kept v.0 v.1) (later, y) e in
    let j = judged_by within end_ later a.0.1 y (with_stated within end_ kept a.0.0) a.2 in
    let t = (spelled_stated within).takes x a.0.0 a.0.1 a.1 in
    record {
      one = Some a.0.0;
      here = t.0;
      is = subst (λ (b : List ℕ). IsStated within t.0 b a.0.0) j.1 t.1;
      then_ = λ others. ap (λ (r : Result (List Declaration) Fault). with_kept r (then_judged within end_ others)) j.0;
      parts = t.2 ∙ ap (λ (b : List ℕ). t.0 ++ b) j.1;
    }

declaration_makes : (within : Within) (end_ : ℕ) (kept later : List Declaration) (x y : List ℕ) → declaration within end_ kept x ≡ good (later, y) → ReadsItem within end_ kept later x y
unfolding declaration
declaration_makes within end_ kept later x y e = declaration_by within end_ kept later x y (at_rule_ahead within x) refl e

item_by : (within : Within) (end_ : ℕ) (kept later : List Declaration) (x y : List ℕ) (t : Bool) → starts (codes ";") x ≡ t
    → cond t (mapped (λ (u : ⊤). kept) (spelled (strip (codes ";"))) x) (declaration within end_ kept x) ≡ good (later, y) → ReadsItem within end_ kept later x y
item_by within end_ kept later x y true is e =
    let t = (mapped_spells (λ (u : ⊤). kept) (telling_spells syntax (strip_spells (codes ";")))).takes x later y e in
    record { one = None; here = t.0; is = t.1.1; then_ = λ others. ap (then_judged within end_ others) (sym t.1.2); parts = t.2 }
item_by within end_ kept later x y false is e = declaration_makes within end_ kept later x y e

turn_makes : (within : Within) (end_ : ℕ) (kept later : List Declaration) (x y : List ℕ) → turn within end_ kept x ≡ good (later, y) → Reads within end_ kept later x y
turn_makes within end_ kept later x y e =
    let a = bind_ok (item within end_ kept x) (λ (v : List Declaration × List ℕ). mapped (λ (w : Bool). v.0) (spelled gap) v.1) (later, y) e in
    let i = item_by within end_ kept a.0.0 x a.0.1 (starts (codes ";") x) refl a.1 in
    let g = (placed_mapped (λ (w : Bool). a.0.0) spelled_gap).takes a.0.1 later y a.2 in
    record {
      one = i.one;
      here = i.here;
      gap_text = g.0;
      white = g.1.0;
      is = subst (λ (b : List ℕ). IsItem within i.here b i.one) g.2 i.is;
      is_gap = g.1.1;
      then_ = λ others. i.then_ others ∙ ap (then_judged within end_ others) (sym g.1.2);
      parts = i.parts ∙ ap (λ (b : List ℕ). i.here ++ b) g.2;
    }

item_some : (within : Within) (text behind : List ℕ) (one : Option Stated) → IsItem within text behind one → 0 < length text
item_some within text behind None r = omega (arith, ap length r)
item_some within text behind (Some s) r = stated_some within text behind s r

shorter_by : (within : Within) (end_ : ℕ) (kept later : List Declaration) (x y : List ℕ) → Reads within end_ kept later x y → length y < length x
shorter_by within end_ kept later x y r =
    omega (arith, ap length r.parts, length-append r.here (r.gap_text ++ y), length-append r.gap_text y, item_some within r.here (r.gap_text ++ y) r.one r.is)

-- ---- what is read is spelled so

-- what is left are items, and judged behind those so far they are these
abbrev Rests : Within → (end_ : ℕ) → List Declaration → List ℕ → List Declaration → List ℕ → Type 0
Rests within end_ kept bytes all rest = (items : List (Option Stated)) × (text : List ℕ) × AreItems within text rest items × (then_judged within end_ items kept ≡ Ok all) × (bytes ≡ text ++ rest)

turn_back : (within : Within) (end_ : ℕ) (kept later : List Declaration) (x y : List ℕ) (all : List Declaration) (rest : List ℕ) → Reads within end_ kept later x y → Rests within end_ later y all rest → Rests within end_ kept x all rest
turn_back within end_ kept later x y all rest r (items, more, are, judged_, last) = (
  r.one ∷ items,
  r.here ++ (r.gap_text ++ more),
  (
    r.here,
    r.gap_text,
    more,
    r.white,
    subst (λ (b : List ℕ). IsItem within r.here (r.gap_text ++ b) r.one) last r.is,
    subst (λ (b : List ℕ). IsGap r.gap_text b r.white) last r.is_gap,
    are,
    refl,
  ),
  r.then_ items ∙ judged_,
  r.parts ∙ ap (λ (b : List ℕ). r.here ++ (r.gap_text ++ b)) last ∙ sym (append_grouped r.here r.gap_text more rest),
)

declarations_of : (within : Within) (end_ : ℕ) (bytes gap_ mid : List ℕ) (white : Bool) (all : List Declaration) (rest : List ℕ) → IsGap gap_ mid white → bytes ≡ gap_ ++ mid → Rests within end_ [] mid all rest → list_ends within rest ≡ true
    → (text : List ℕ) × AreDeclarations within end_ text rest all × (bytes ≡ text ++ rest)
declarations_of within end_ bytes gap_ mid white all rest is_gap parts (items, back, are, judged_, last) ends = (
  gap_ ++ back,
  record { gap = gap_; back = back; white = white; items = items; is_gap = subst (λ (b : List ℕ). IsGap gap_ b white) last is_gap; are_items = are; ends = ends; judged = judged_; whole = refl },
  parts ∙ ap (λ (b : List ℕ). gap_ ++ b) last ∙ sym (append_assoc gap_ back rest),
)

declarations_takes : (within : Within) (end_ : ℕ) (bytes : List ℕ) (all : List Declaration) (rest : List ℕ) → declarations within end_ bytes ≡ good (all, rest) → (text : List ℕ) × AreDeclarations within end_ text rest all × (bytes ≡ text ++ rest)
unfolding declarations repeat
declarations_takes within end_ bytes all rest e =
    let a = bind_ok (spelled gap bytes) (λ (v : Bool × List ℕ). turns (goes_on within) (turn within end_) (suc (length v.1)) [] v.1) (all, rest) e in
    let p = spelled_gap.takes bytes a.0.0 a.0.1 a.1 in
    let c = turns_back (goes_on within) (turn within end_) (λ (kept : List Declaration) (x : List ℕ). Rests within end_ kept x all rest × (list_ends within rest ≡ true)) all rest
    (λ g. (([], [], refl, refl, refl), not-false (list_ends within rest) g))
    (λ kept later x y g turned r. (turn_back within end_ kept later x y all rest (turn_makes within end_ kept later x y turned) r.0, r.1))
    (λ kept later x y g turned. shorter_by within end_ kept later x y (turn_makes within end_ kept later x y turned))
    (suc (length a.0.1)) [] a.0.1 (omega arith) a.2 in
    declarations_of within end_ bytes p.0 a.0.1 a.0.0 all rest p.1 p.2 c.0 c.1

pub declarations_spells : (within : Within) (end_ : ℕ) → SpellsPlaced (declarations within end_) (AreDeclarations within end_) Anything
declarations_spells within end_ = record {
  takes = λ bytes all rest e. declarations_takes within end_ bytes all rest e;
  again = λ text all rest is any. declarations_again within end_ text all rest is;
}
