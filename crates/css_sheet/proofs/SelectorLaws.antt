-- Selectors: what is spelled so is read, and what is read is spelled so.
use Rattle.std.proofs.Common.{◌≡◌, inl, inr, ℕ, ◌<◌, ◌≤◌, Bool, true, false, not, cond, eqb, ◌||◌, List, [], ◌∷◌, ◌++◌, length, codes, Option, Some, None, Ok, Err, refl, sym, ap, subst, ◌∙◌, append_assoc, length-append, arith}
use Rattle.std.specs.Prelude.{⊤}
use Rattle.std.proofs.lemmas.List.{append-nil}
use Rattle.std.proofs.lemmas.Bool.{not-false, and_parts, or_left, or_right}
use Rattle.reading.specs.Readers.{Read, Reader, refuse, follow, mapped, choice, strip, starts, next_is, repeat}
use Rattle.reading.specs.Names.{lowered}
use Rattle.reading.specs.Grammars.{Each, Fixed}
use Rattle.reading.specs.Placed.{PlacedGrammar, Anywhere, PlacedSeq, PlacedMapped, PlacedEither, SpellsPlaced}
use Rattle.reading.specs.Spelling.{Anything}
use Rattle.reading.proofs.SpellLaws.{bind_ok, strip_takes, starts_so, strip_spells}
use Rattle.reading.proofs.PlacedLaws.{anywhere_spells, placed_as, placed_follow, placed_mapped, placed_choice}
use Rattle.reading.proofs.RunLaws.{IsRun, run_is}
use Rattle.css_types.specs.declared.rule.Joint.{Joint}
use Rattle.css_types.specs.declared.rule.Joint.TheVariants.{Descendant, Child}
use Rattle.css_tokens.specs.Characters.{is_name_start, is_name_byte}
use Rattle.css_tokens.specs.Lexing.{comment, gap, hash, hash_ahead, name, name_ahead}
use Rattle.css_tokens.specs.Numbers.{number_ahead}
use Rattle.css_values.specs.Value.{no_items}
use Rattle.css_tokens.specs.Grammar.{IsComment, IsGap, IsHash, IsName}
use Rattle.css_types.specs.Rule.{Compound}
use Rattle.css_sheet.specs.Selector.{Begun, bare, class, comments, comments_go_on, compound, goes_on, id, is_dot_or_hash, selector, selector_ends, selector_goes_on, selector_name, simple, turn, type_name, typed, with_class, with_compound, with_id}
use Rattle.css_sheet.specs.Grammar.{AreComments, AreCompounds, AreSimples, IsCompound, IsJoint, IsSelector, IsSimple, IsType, Simple, with_simple, with_simples}
use Rattle.css_sheet.specs.Grammar as grammar
use Rattle.css_tokens.proofs.Spelling.{comment_spells, gap_spells, name_spells, hash_spells}
use Rattle.reading.proofs.Chains.{Chain, AreTurns, IsTurn, turns_spell}

-- ---- answers

abbrev good : {A : Type 0} → A × List ℕ → Read A
good x = Ok x

-- two choices whose second readers never read
choice_by : {A : Type 0} (f g h : Reader A) (bytes : List ℕ) (x : A) (rest : List ℕ) (t : Bool) → (g bytes ≡ good (x, rest) → ⊥)
    → cond t (f bytes) (g bytes) ≡ good (x, rest) → cond t (f bytes) (h bytes) ≡ good (x, rest)
choice_by f g h bytes x rest true never e = e
choice_by f g h bytes x rest false never e = absurd (never e)

first_by : {A : Type 0} (f : Reader A) (bytes : List ℕ) (x : A) (rest : List ℕ) (t : Bool) → cond t (f bytes) (Err bytes) ≡ good (x, rest) → (t ≡ true) × (f bytes ≡ good (x, rest))
first_by f bytes x rest true e = (refl, e)
first_by f bytes x rest false e = absurd cc

no_read : {A : Type 0} (bytes : List ℕ) (x : A) (rest : List ℕ) → refuse bytes ≡ good (x, rest) → ⊥
no_read bytes x rest e = absurd cc

no_read_behind : {A : Type 0} (word bytes : List ℕ) (x : A) (rest : List ℕ) → follow (strip word) (λ u. refuse) bytes ≡ good (x, rest) → ⊥
no_read_behind word bytes x rest e =
    let a = bind_ok (strip word bytes) (λ (u : ⊤ × List ℕ). refuse u.1) (x, rest) e in
    no_read a.0.1 x rest a.2

-- ---- names

no_point : (bytes x rest : List ℕ) (t : Bool) → cond t (follow (strip (codes ".")) (λ u. refuse) bytes) (Err bytes) ≡ good (x, rest) → ⊥
no_point bytes x rest true e = no_read_behind (codes ".") bytes x rest e
no_point bytes x rest false e = absurd cc

no_dash : (bytes x rest : List ℕ) (t : Bool)
    → cond t (follow (strip (codes "-")) (λ u. choice (starts (codes ".")) (follow (strip (codes ".")) (λ u. refuse)) refuse) bytes) (Err bytes) ≡ good (x, rest) → ⊥
no_dash bytes x rest true e =
    let a = bind_ok (strip (codes "-") bytes) (λ (u : ⊤ × List ℕ). choice (starts (codes ".")) (follow (strip (codes ".")) (λ u. refuse)) refuse u.1) (x, rest) e in
    no_point a.0.1 x rest (starts (codes ".") a.0.1) a.2
no_dash bytes x rest false e = absurd cc

name_of : (bytes x rest : List ℕ) → selector_name bytes ≡ good (x, rest) → choice name_ahead name refuse bytes ≡ good (x, rest)
unfolding selector_name
name_of bytes x rest e =
    choice_by name (choice (starts (codes "-")) (follow (strip (codes "-")) (λ u. choice (starts (codes ".")) (follow (strip (codes ".")) (λ u. refuse)) refuse)) refuse) refuse
    bytes x rest (name_ahead bytes) (no_dash bytes x rest (starts (codes "-") bytes)) e

of_name : (bytes x rest : List ℕ) → choice name_ahead name refuse bytes ≡ good (x, rest) → selector_name bytes ≡ good (x, rest)
unfolding selector_name
of_name bytes x rest e =
    choice_by name refuse (choice (starts (codes "-")) (follow (strip (codes "-")) (λ u. choice (starts (codes ".")) (follow (strip (codes ".")) (λ u. refuse)) refuse)) refuse)
    bytes x rest (name_ahead bytes) (no_read bytes x rest) e

selector_name_spells : SpellsPlaced selector_name IsName Anything
selector_name_spells = record {
  takes = λ bytes x rest e. name_spells.takes bytes x rest (name_of bytes x rest e);
  again = λ text x rest r any. of_name (text ++ rest) x rest (name_spells.again text x rest r any);
}

id_spells : SpellsPlaced id IsHash Anything
id_spells = record {
  takes = λ bytes x rest e. hash_spells.takes bytes x rest (choice_by hash (follow (strip (codes "#")) (λ u. refuse)) refuse bytes x rest (hash_ahead bytes) (no_read_behind (codes "#") bytes x rest) e);
  again = λ text x rest r any.
      choice_by hash refuse (follow (strip (codes "#")) (λ u. refuse)) (text ++ rest) x rest (hash_ahead (text ++ rest)) (no_read (text ++ rest) x rest) (hash_spells.again text x rest r any);
}

-- a name that is read begins so, and takes a byte at least
record IsNamed (bytes rest : List ℕ) : Type 0 where
  start : next_is is_name_start bytes ≡ true
  less : length rest < length bytes

ahead_start : (bytes : List ℕ) → name_ahead bytes ≡ true → next_is is_name_start bytes ≡ true
unfolding name_ahead
ahead_start bytes e = (and_parts (next_is is_name_start bytes) (not (number_ahead bytes)) e).0

starts_name : (bytes : List ℕ) → next_is is_name_start bytes ≡ true → next_is is_name_byte bytes ≡ true
starts_name [] e = absurd cc
starts_name (byte ∷ bytes) e = rw e refl

name_is : (bytes run rest : List ℕ) → name bytes ≡ good (run, rest) → IsRun is_name_byte bytes run rest
unfolding name
name_is bytes run rest e = run_is is_name_byte bytes run rest e

run_less : (bytes run rest : List ℕ) → next_is is_name_byte bytes ≡ true → IsRun is_name_byte bytes run rest → length rest < length bytes
run_less bytes [] rest some r =
    let clash : true ≡ false = sym some ∙ ap (next_is is_name_byte) r.parts ∙ r.ends in
    absurd cc
run_less bytes (byte ∷ run) rest some r = omega (arith, ap length r.parts, length-append (byte ∷ run) rest)

name_less : (bytes run rest : List ℕ) → name_ahead bytes ≡ true → name bytes ≡ good (run, rest) → length rest < length bytes
name_less bytes run rest ahead e = run_less bytes run rest (starts_name bytes (ahead_start bytes ahead)) (name_is bytes run rest e)

name_no_more : (bytes run rest : List ℕ) → name bytes ≡ good (run, rest) → length rest ≤ length bytes
name_no_more bytes run rest e = omega (arith, ap length (name_is bytes run rest e).parts, length-append run rest)

name_named : (bytes x rest : List ℕ) → selector_name bytes ≡ good (x, rest) → IsNamed bytes rest
name_named bytes x rest e =
    let f = first_by name bytes x rest (name_ahead bytes) (name_of bytes x rest e) in
    record { start = ahead_start bytes f.0; less = name_less bytes x rest f.0 f.1 }

is_named : (text behind x : List ℕ) → IsName text behind x → IsNamed (text ++ behind) behind
is_named text behind x r = name_named (text ++ behind) x behind (selector_name_spells.again text x behind r tt)

-- an id that is read begins with `#`
record IsHashed (bytes rest : List ℕ) : Type 0 where
  more : List ℕ
  is : bytes ≡ 35 ∷ more
  less : length rest < length bytes

hash_hashed : (bytes x rest : List ℕ) → hash bytes ≡ good (x, rest) → IsHashed bytes rest
unfolding hash
hash_hashed bytes x rest e =
    let a = bind_ok (strip (codes "#") bytes) (λ (u : ⊤ × List ℕ). name u.1) (x, rest) e in
    let is = strip_takes (codes "#") bytes a.0.1 a.0.0 a.1 in
    record { more = a.0.1; is = is; less = omega (arith, ap length is, name_no_more a.0.1 x rest a.2) }

is_hashed : (text behind x : List ℕ) → IsHash text behind x → IsHashed (text ++ behind) behind
is_hashed text behind x r =
    let f = first_by hash (text ++ behind) x behind (hash_ahead (text ++ behind)) (hash_spells.again text x behind r tt) in
    hash_hashed (text ++ behind) x behind f.1

-- ---- types

no_star : (byte : ℕ) → is_name_start byte ≡ true → eqb byte 42 ≡ false
no_star byte e = grind arith

start_no_star : (bytes : List ℕ) → next_is is_name_start bytes ≡ true → starts (codes "*") bytes ≡ false
unfolding starts strip
start_no_star [] e = refl
start_no_star (byte ∷ bytes) e = rw (no_star byte e) refl

to_type : (text behind : List ℕ) (x : Option (List ℕ)) → PlacedEither (PlacedMapped (λ u. None) (Anywhere (Fixed (codes "*")))) (PlacedMapped (λ n. Some (lowered n)) IsName) text behind x → IsType text behind x
to_type text behind None (inl r) = r.1
to_type text behind (Some tag) (inl r) = absurd (cc r.2)
to_type text behind None (inr r) = absurd (cc r.2)
to_type text behind (Some tag) (inr r) = (r.0, r.1, cc r.2)

from_type : (text behind : List ℕ) (x : Option (List ℕ)) → IsType text behind x → PlacedEither (PlacedMapped (λ u. None) (Anywhere (Fixed (codes "*")))) (PlacedMapped (λ n. Some (lowered n)) IsName) text behind x
from_type text behind None r = inl (tt, r, refl)
from_type text behind (Some tag) r = inr (r.0, r.1, ap (λ (n : List ℕ). Some n) r.2)

type_spells : SpellsPlaced type_name IsType Anything
unfolding type_name
type_spells =
    placed_as (placed_choice (starts (codes "*")) (placed_mapped (λ (u : ⊤). None) (anywhere_spells (strip_spells (codes "*")))) (placed_mapped (λ n. Some (lowered n)) selector_name_spells)
    (λ text x rest r any. ap (λ (t : List ℕ). starts (codes "*") (t ++ rest)) r.1 ∙ starts_so (codes "*") rest)
    (λ text x rest r any. start_no_star (text ++ rest) (is_named text rest r.0 r.1).start))
    to_type from_type

-- ---- comments

comment_start : (text behind : List ℕ) (u : ⊤) → IsComment text u → starts (codes "/*") (text ++ behind) ≡ true
comment_start text behind u r = ap (λ (t : List ℕ). starts (codes "/*") (t ++ behind)) r.2 ∙ starts_so (codes "/*") (r.0 ++ behind)

comment_turn : IsTurn (λ (u : ⊤). comment) (λ u. Anywhere IsComment)
comment_turn = record {
  spells = λ u. anywhere_spells comment_spells;
  shortens = λ u v x y e.
      let t = comment_spells.takes x v y e in
      omega (arith, ap length t.2, length-append t.0 y, ap length t.1.2);
}

to_comments : (states : List ⊤) (u : ⊤) (text behind : List ℕ) (v : ⊤) → Chain comments_go_on (λ (u : ⊤). Anywhere IsComment) states u text behind v → Each IsComment text states
to_comments [] u text behind v r = r.0
to_comments (w ∷ states) u text behind v (here, more, g, is, others, whole) = (here, more, is, to_comments states w more behind v others, whole)

from_comments : (states : List ⊤) (u : ⊤) (text behind : List ℕ) → Each IsComment text states → Chain comments_go_on (λ (u : ⊤). Anywhere IsComment) states u text behind tt
from_comments [] u text behind r = (r, refl)
from_comments (w ∷ states) u text behind (here, more, is, others, whole) = (here, more, comment_start here (more ++ behind) w is, is, from_comments states w more behind others, whole)

comments_spell : SpellsPlaced comments AreComments Anything
comments_spell =
    placed_as (turns_spell tt comment_turn)
    (λ text behind u r. (r.0, to_comments r.0 tt text behind u r.1, r.2))
    (λ text behind u r. (r.0, from_comments r.0 tt text behind r.1, r.2))

-- ---- classes and ids

-- a class or an id, and the comments behind it
abbrev IsSimpleTurn : Compound → PlacedGrammar Compound
IsSimpleTurn c text behind later = (s : Simple) × (here comments : List ℕ) × IsSimple here (comments ++ behind) s × AreComments comments behind tt × (later ≡ with_simple c s) × (text ≡ here ++ comments)

class_spells : SpellsPlaced class (PlacedSeq (Anywhere (Fixed (codes "."))) (λ u. IsName)) Anything
class_spells = placed_follow (anywhere_spells (strip_spells (codes "."))) (λ u. selector_name_spells) (λ x y back rest r any. tt)

abbrev IsPart : Compound → PlacedGrammar Compound
IsPart c = PlacedEither (PlacedMapped (with_class c) (PlacedSeq (Anywhere (Fixed (codes "."))) (λ u. IsName))) (PlacedMapped (with_id c) IsHash)

hash_no_point : (bytes : List ℕ) → starts (codes ".") (35 ∷ bytes) ≡ false
unfolding starts strip
hash_no_point bytes = refl

part_spells : (c : Compound) → SpellsPlaced (choice (starts (codes ".")) (mapped (with_class c) class) (mapped (with_id c) id)) (IsPart c) Anything
part_spells c =
    placed_choice (starts (codes ".")) (placed_mapped (with_class c) class_spells) (placed_mapped (with_id c) id_spells)
    (λ text x rest r any.
    let s = r.1 in
    ap (λ (t : List ℕ). starts (codes ".") (t ++ rest)) s.5 ∙ ap (λ (t : List ℕ). starts (codes ".") ((t ++ s.2) ++ rest)) s.3 ∙ starts_so (codes ".") (s.2 ++ rest))
    (λ text x rest r any.
    let h = is_hashed text rest r.0 r.1 in
    ap (starts (codes ".")) h.is ∙ hash_no_point h.more)

to_simple : (c : Compound) (text behind : List ℕ) (later : Compound) → PlacedSeq (IsPart c) (λ more. PlacedMapped (λ u. more) AreComments) text behind later → IsSimpleTurn c text behind later
to_simple c text behind later (x, front, back, (inl (name_, (u, dot, here, is_dot, is, whole), same)), (v, are, last), all) =
    (grammar.class name_, front, back, (here, is, whole ∙ ap (λ (t : List ℕ). t ++ here) is_dot), are, last ∙ same, all)
to_simple c text behind later (x, front, back, (inr (word, is, same)), (v, are, last), all) =
    (grammar.id word, front, back, is, are, last ∙ same, all)

from_simple : (c : Compound) (text behind : List ℕ) (later : Compound) → IsSimpleTurn c text behind later → PlacedSeq (IsPart c) (λ more. PlacedMapped (λ u. more) AreComments) text behind later
from_simple c text behind later (grammar.class name_, front, back, (here, is, whole), are, same, all) =
    (with_class c name_, front, back, inl (name_, (tt, codes ".", here, refl, is, whole), refl), (tt, are, same), all)
from_simple c text behind later (grammar.id word, front, back, is, are, same, all) =
    (with_id c word, front, back, inr (word, is, refl), (tt, are, same), all)

simple_spells : (c : Compound) → SpellsPlaced (simple c) (IsSimpleTurn c) Anything
simple_spells c =
    placed_as (placed_follow (part_spells c) (λ more. placed_mapped (λ (u : ⊤). more) comments_spell) (λ x y back rest r any. tt))
    (to_simple c) (from_simple c)

-- a class or an id begins with its sign, and is a byte at least
record IsSigned (bytes rest : List ℕ) : Type 0 where
  byte : ℕ
  more : List ℕ
  sign : is_dot_or_hash byte ≡ true
  is : bytes ≡ byte ∷ more
  less : length rest < length bytes

is_signed : (text behind : List ℕ) (s : Simple) → IsSimple text behind s → IsSigned (text ++ behind) behind
is_signed text behind (grammar.class name_) r =
    let n = is_named r.0 behind name_ r.1 in
    let whole : text ++ behind ≡ 46 ∷ (r.0 ++ behind) = ap (λ (t : List ℕ). t ++ behind) r.2 in
    record { byte = 46; more = r.0 ++ behind; sign = refl; is = whole; less = omega (arith, n.less, ap length whole) }
is_signed text behind (grammar.id word) r =
    let h = is_hashed text behind word r in
    record { byte = 35; more = h.more; sign = refl; is = h.is; less = h.less }

simple_signed : (c : Compound) (text behind : List ℕ) (later : Compound) → IsSimpleTurn c text behind later → IsSigned (text ++ behind) behind
simple_signed c text behind later (s, here, back, is, are, same, all) =
    let g = is_signed here (back ++ behind) s is in
    let whole : text ++ behind ≡ here ++ (back ++ behind) = ap (λ (t : List ℕ). t ++ behind) all ∙ append_assoc here back behind in
    record { byte = g.byte; more = g.more; sign = g.sign; is = whole ∙ g.is; less = omega (arith, g.less, ap length whole, length-append back behind) }

signed_next : (bytes rest : List ℕ) → IsSigned bytes rest → next_is is_dot_or_hash bytes ≡ true
signed_next bytes rest g = ap (next_is is_dot_or_hash) g.is ∙ g.sign

simple_turn : IsTurn simple IsSimpleTurn
simple_turn = record {
  spells = simple_spells;
  shortens = λ c later x y e.
      let t = (simple_spells c).takes x later y e in
      let g = simple_signed c t.0 y later t.1 in
      subst (λ (b : List ℕ). length y < length b) (sym t.2) g.less;
}

-- ---- compounds

-- the classes and ids of a chain
record AreChained (c : Compound) (text behind : List ℕ) (end_ : Compound) : Type 0 where
  list : List Simple
  are : AreSimples text behind list
  says : end_ ≡ with_simples c list

to_simples : (states : List Compound) (c : Compound) (text behind : List ℕ) (end_ : Compound) → Chain goes_on IsSimpleTurn states c text behind end_ → AreChained c text behind end_
to_simples [] c text behind end_ r = record { list = []; are = r.0; says = r.1 }
to_simples (later ∷ states) c text behind end_ (front, more, g, (s, here, back, is, are, same, all), others, whole) =
    let o = to_simples states later more behind end_ others in
    record {
      list = s ∷ o.list;
      are = (here, back, more, is, are, o.are, whole ∙ ap (λ (t : List ℕ). t ++ more) all ∙ append_assoc here back more);
      says = o.says ∙ ap (λ (z : Compound). with_simples z o.list) same;
    }

record HasChain (c : Compound) (text behind : List ℕ) (end_ : Compound) : Type 0 where
  states : List Compound
  chain : Chain goes_on IsSimpleTurn states c text behind end_

from_simples : (list : List Simple) (c : Compound) (text behind : List ℕ) → AreSimples text behind list → HasChain c text behind (with_simples c list)
from_simples [] c text behind r = record { states = []; chain = (r, refl) }
from_simples (s ∷ list) c text behind (here, back, more, is, are, others, whole) =
    let o = from_simples list (with_simple c s) more behind others in
    let turned : IsSimpleTurn c (here ++ back) (more ++ behind) (with_simple c s) = (s, here, back, is, are, refl, refl) in
    let g = simple_signed c (here ++ back) (more ++ behind) (with_simple c s) turned in
    record {
      states = with_simple c s ∷ o.states;
      chain = (here ++ back, more, signed_next ((here ++ back) ++ (more ++ behind)) (more ++ behind) g, turned, o.chain, whole ∙ sym (append_assoc here back more));
    }

-- a type, and the comments behind it
abbrev IsTyped : Joint → PlacedGrammar Compound
IsTyped joint = PlacedSeq IsType (λ tag. PlacedMapped (λ u. bare joint tag) AreComments)

typed_spells : (joint : Joint) → SpellsPlaced (typed joint) (IsTyped joint) Anything
typed_spells joint = placed_follow type_spells (λ tag. placed_mapped (λ (u : ⊤). bare joint tag) comments_spell) (λ x y back rest r any. tt)

-- a byte that begins a type
abbrev begins_type : ℕ → Bool
begins_type byte = eqb byte 42 || is_name_start byte

-- it begins so, and takes a byte at least
record IsBegun (test : ℕ → Bool) (bytes rest : List ℕ) : Type 0 where
  byte : ℕ
  more : List ℕ
  begins : test byte ≡ true
  is : bytes ≡ byte ∷ more
  less : length rest < length bytes

named_begun : (bytes rest : List ℕ) → IsNamed bytes rest → IsBegun begins_type bytes rest
named_begun [] rest n = absurd (cc n.start)
named_begun (byte ∷ more) rest n = record { byte = byte; more = more; begins = or_right (eqb byte 42) (is_name_start byte) n.start; is = refl; less = n.less }

type_begun : (text behind : List ℕ) (tag : Option (List ℕ)) → IsType text behind tag → IsBegun begins_type (text ++ behind) behind
type_begun text behind None r =
    let whole : text ++ behind ≡ 42 ∷ behind = ap (λ (t : List ℕ). t ++ behind) r in
    record { byte = 42; more = behind; begins = refl; is = whole; less = omega (arith, ap length whole) }
type_begun text behind (Some tag) r = named_begun (text ++ behind) behind (is_named text behind r.0 r.1)

-- of a text in front of others
begun_front : (test : ℕ → Bool) (front back behind text : List ℕ) → text ≡ front ++ back → IsBegun test (front ++ (back ++ behind)) (back ++ behind) → IsBegun test (text ++ behind) behind
begun_front test front back behind text all g =
    let whole : text ++ behind ≡ front ++ (back ++ behind) = ap (λ (t : List ℕ). t ++ behind) all ∙ append_assoc front back behind in
    record { byte = g.byte; more = g.more; begins = g.begins; is = whole ∙ g.is; less = omega (arith, g.less, ap length whole, length-append back behind) }

type_no_sign : (byte : ℕ) → begins_type byte ≡ true → is_dot_or_hash byte ≡ false
type_no_sign byte e = grind arith

typed_begun : (joint : Joint) (text behind : List ℕ) (c : Compound) → IsTyped joint text behind c → IsBegun begins_type (text ++ behind) behind
typed_begun joint text behind c (tag, here, back, is, are, all) = begun_front begins_type here back behind text all (type_begun here (back ++ behind) tag is)

typed_no_sign : (joint : Joint) (text behind : List ℕ) (c : Compound) → IsTyped joint text behind c → next_is is_dot_or_hash (text ++ behind) ≡ false
typed_no_sign joint text behind c r =
    let g = typed_begun joint text behind c r in
    ap (next_is is_dot_or_hash) g.is ∙ type_no_sign g.byte g.begins

abbrev IsFirst : Joint → PlacedGrammar Compound
IsFirst joint = PlacedEither (IsSimpleTurn (bare joint None)) (IsTyped joint)

first_spells : (joint : Joint) → SpellsPlaced (choice (next_is is_dot_or_hash) (simple (bare joint None)) (typed joint)) (IsFirst joint) Anything
first_spells joint =
    placed_choice (next_is is_dot_or_hash) (simple_spells (bare joint None)) (typed_spells joint)
    (λ text x rest r any. signed_next (text ++ rest) rest (simple_signed (bare joint None) text rest x r))
    (λ text x rest r any. typed_no_sign joint text rest x r)

abbrev AreParts : Joint → PlacedGrammar Compound
AreParts joint = PlacedSeq (IsFirst joint) (AreTurns goes_on IsSimpleTurn)

to_compound : (joint : Joint) (text behind : List ℕ) (c : Compound) → AreParts joint text behind c → IsCompound joint text behind c
to_compound joint text behind c (x, front, back, (inl (s, here, comments_, is, are, same, all)), (states, chain, ends), whole) =
    let o = to_simples states x back behind c chain in
    grammar.untyped (s ∷ o.list) (here, comments_, back, is, are, o.are, whole ∙ ap (λ (t : List ℕ). t ++ back) all ∙ append_assoc here comments_ back) refl ends (o.says ∙ ap (λ (z : Compound). with_simples z o.list) same)
to_compound joint text behind c (x, front, back, (inr (tag, here, comments_, is, (u, are, same), all)), (states, chain, ends), whole) =
    let o = to_simples states x back behind c chain in
    grammar.typed here comments_ back tag o.list is are o.are ends (o.says ∙ ap (λ (z : Compound). with_simples z o.list) same) (whole ∙ ap (λ (t : List ℕ). t ++ back) all ∙ append_assoc here comments_ back)

simples_only : (joint : Joint) (text behind : List ℕ) (list : List Simple) → AreSimples text behind list → no_items list ≡ false → next_is is_dot_or_hash behind ≡ false
    → AreParts joint text behind (with_simples (bare joint None) list)
simples_only joint text behind [] are some ends = absurd cc
simples_only joint text behind (s ∷ list) (here, comments_, more, is, are, others, whole) some ends =
    let c = with_simple (bare joint None) s in
    let o = from_simples list c more behind others in
    (c, here ++ comments_, more, inl (s, here, comments_, is, are, refl, refl), (o.states, o.chain, ends), whole ∙ sym (append_assoc here comments_ more))

from_compound : (joint : Joint) (text behind : List ℕ) (c : Compound) → IsCompound joint text behind c → AreParts joint text behind c
from_compound joint text behind c (grammar.typed here comments_ more tag list is are others ends says whole) =
    let o = from_simples list (bare joint tag) more behind others in
    subst (λ (z : Compound). AreParts joint text behind z) (sym says)
    (bare joint tag, here ++ comments_, more, inr (tag, here, comments_, is, (tt, are, refl), refl), (o.states, o.chain, ends), whole ∙ sym (append_assoc here comments_ more))
from_compound joint text behind c (grammar.untyped list are some ends says) =
    subst (λ (z : Compound). AreParts joint text behind z) (sym says) (simples_only joint text behind list are some ends)

pub compound_spells : (joint : Joint) → SpellsPlaced (compound joint) (IsCompound joint) Anything
unfolding compound
compound_spells joint =
    placed_as (placed_follow (first_spells joint) (λ c. turns_spell c simple_turn) (λ x y back rest r any. tt))
    (to_compound joint) (from_compound joint)

-- a byte that begins a compound
abbrev begins_compound : ℕ → Bool
begins_compound byte = is_dot_or_hash byte || begins_type byte

first_begun : (joint : Joint) (text behind : List ℕ) (c : Compound) → IsFirst joint text behind c → IsBegun begins_compound (text ++ behind) behind
first_begun joint text behind c (inl r) =
    let g = simple_signed (bare joint None) text behind c r in
    record { byte = g.byte; more = g.more; begins = or_left (is_dot_or_hash g.byte) (begins_type g.byte) g.sign; is = g.is; less = g.less }
first_begun joint text behind c (inr r) =
    let g = typed_begun joint text behind c r in
    record { byte = g.byte; more = g.more; begins = or_right (is_dot_or_hash g.byte) (begins_type g.byte) g.begins; is = g.is; less = g.less }

compound_begun : (joint : Joint) (text behind : List ℕ) (c : Compound) → IsCompound joint text behind c → IsBegun begins_compound (text ++ behind) behind
compound_begun joint text behind c r =
    let p = from_compound joint text behind c r in
    begun_front begins_compound p.1 p.2 behind text p.5 (first_begun joint p.1 (p.2 ++ behind) p.0 p.3)

simples_joint : (list : List Simple) (c : Compound) → (with_simples c list).joint ≡ c.joint
simples_joint [] c = refl
simples_joint (grammar.class name_ ∷ list) c = simples_joint list (with_class c name_)
simples_joint (grammar.id word ∷ list) c = simples_joint list (with_id c word)

compound_joint : (joint : Joint) (text behind : List ℕ) (c : Compound) → IsCompound joint text behind c → c.joint ≡ joint
compound_joint joint text behind c (grammar.typed here comments_ more tag list is are others ends says whole) = ap (λ (z : Compound). z.joint) says ∙ simples_joint list (bare joint tag)
compound_joint joint text behind c (grammar.untyped list are some ends says) = ap (λ (z : Compound). z.joint) says ∙ simples_joint list (bare joint None)

-- ---- a compound more

abbrev begun_with : List Compound → Compound → Bool → Begun
begun_with compounds c white = record { compounds = compounds ++ c ∷ []; white = white }

-- a compound behind others, and the gap behind it
abbrev IsWith : Joint → List Compound → PlacedGrammar Begun
IsWith joint compounds = PlacedSeq (IsCompound joint) (λ c. PlacedMapped (λ white. begun_with compounds c white) IsGap)

with_spells : (joint : Joint) (compounds : List Compound) → SpellsPlaced (with_compound joint compounds) (IsWith joint compounds) Anything
with_spells joint compounds = placed_follow (compound_spells joint) (λ c. placed_mapped (λ white. begun_with compounds c white) gap_spells) (λ x y back rest r any. tt)

-- a compound behind a `>`
abbrev IsChild : Begun → PlacedGrammar Begun
IsChild b = PlacedSeq (Anywhere (Fixed (codes ">"))) (λ u. PlacedSeq IsGap (λ white. IsWith Child b.compounds))

child_spells : (b : Begun) → SpellsPlaced (follow (strip (codes ">")) (λ u. follow gap (λ white. with_compound Child b.compounds))) (IsChild b) Anything
child_spells b =
    placed_follow (anywhere_spells (strip_spells (codes ">"))) (λ u. placed_follow gap_spells (λ white. with_spells Child b.compounds) (λ x y back rest r any. tt)) (λ x y back rest r any. tt)

-- a compound behind white space
abbrev IsDescendant : Begun → PlacedGrammar Begun
IsDescendant b text behind later = (b.white ≡ true) × IsWith Descendant b.compounds text behind later

descendant_spells : (b : Begun) → SpellsPlaced (choice (λ bytes. b.white) (with_compound Descendant b.compounds) refuse) (IsDescendant b) Anything
descendant_spells b = record {
  takes = λ bytes x rest e.
      let f = first_by (with_compound Descendant b.compounds) bytes x rest b.white e in
      let t = (with_spells Descendant b.compounds).takes bytes x rest f.1 in
      (t.0, (f.0, t.1), t.2);
  again = λ text x rest r any.
      ap (λ (t : Bool). cond t (with_compound Descendant b.compounds (text ++ rest)) (Err (text ++ rest))) r.0 ∙ (with_spells Descendant b.compounds).again text x rest r.1 any;
}

begins_no_child : (byte : ℕ) → begins_compound byte ≡ true → eqb byte 62 ≡ false
begins_no_child byte e = grind arith

byte_no_child : (byte : ℕ) (more : List ℕ) → eqb byte 62 ≡ false → starts (codes ">") (byte ∷ more) ≡ false
unfolding starts strip
byte_no_child byte more e = rw e refl

begun_no_child : (bytes rest : List ℕ) → IsBegun begins_compound bytes rest → starts (codes ">") bytes ≡ false
begun_no_child bytes rest g = ap (starts (codes ">")) g.is ∙ byte_no_child g.byte g.more (begins_no_child g.byte g.begins)

with_begun : (joint : Joint) (compounds : List Compound) (text behind : List ℕ) (later : Begun) → IsWith joint compounds text behind later → IsBegun begins_compound (text ++ behind) behind
with_begun joint compounds text behind later (c, here, gap_, is, r, all) = begun_front begins_compound here gap_ behind text all (compound_begun joint here (gap_ ++ behind) c is)

turn_either : (b : Begun) → SpellsPlaced (turn b) (PlacedEither (IsChild b) (IsDescendant b)) Anything
turn_either b =
    placed_choice (starts (codes ">")) (child_spells b) (descendant_spells b)
    (λ text x rest r any. ap (λ (t : List ℕ). starts (codes ">") (t ++ rest)) (r.5 ∙ ap (λ (t : List ℕ). t ++ r.2) r.3) ∙ starts_so (codes ">") (r.2 ++ rest))
    (λ text x rest r any. begun_no_child (text ++ rest) rest (with_begun Descendant b.compounds text rest x r.1))

-- a compound more, with what joins it
abbrev IsNext : Begun → PlacedGrammar Begun
IsNext b text behind later = (c : Compound) × (kind : Joint) × (joint here gap_ : List ℕ) × (white : Bool)
    × IsJoint kind b.white joint (here ++ (gap_ ++ behind)) × IsCompound kind here (gap_ ++ behind) c × IsGap gap_ behind white
    × (later ≡ begun_with b.compounds c white) × (text ≡ joint ++ (here ++ gap_))

to_next : (b : Begun) (text behind : List ℕ) (later : Begun) → PlacedEither (IsChild b) (IsDescendant b) text behind later → IsNext b text behind later
to_next b text behind later (inl (u, sign, back, is_sign, (w, between_, end_, is_between, (c, here, gap_, is, (white, is_gap, same), whole3), whole2), whole1)) =
    let parts : end_ ++ behind ≡ here ++ (gap_ ++ behind) = ap (λ (t : List ℕ). t ++ behind) whole3 ∙ append_assoc here gap_ behind in (
      c,
      Child,
      62 ∷ between_,
      here,
      gap_,
      white,
      (between_, w, subst (λ (t : List ℕ). IsGap between_ t w) parts is_between, refl),
      is,
      is_gap,
      same,
      whole1 ∙ ap (λ (t : List ℕ). t ++ back) is_sign ∙ ap (λ (t : List ℕ). 62 ∷ t) (whole2 ∙ ap (λ (t : List ℕ). between_ ++ t) whole3),
    )
to_next b text behind later (inr (white_before, (c, here, gap_, is, (white, is_gap, same), whole))) = (c, Descendant, [], here, gap_, white, (refl, white_before), is, is_gap, same, whole)

from_next : (b : Begun) (text behind : List ℕ) (later : Begun) → IsNext b text behind later → PlacedEither (IsChild b) (IsDescendant b) text behind later
from_next b text behind later (c, Child, joint, here, gap_, white, (between_, w, is_between, is_joint), is, is_gap, same, whole) =
    let parts : here ++ (gap_ ++ behind) ≡ (here ++ gap_) ++ behind = sym (append_assoc here gap_ behind) in
    inl (
      tt,
      codes ">",
      between_ ++ (here ++ gap_),
      refl,
      (w, between_, here ++ gap_, subst (λ (t : List ℕ). IsGap between_ t w) parts is_between, (c, here, gap_, is, (white, is_gap, same), refl), refl),
      whole ∙ ap (λ (t : List ℕ). t ++ (here ++ gap_)) is_joint,
    )
from_next b text behind later (c, Descendant, joint, here, gap_, white, (none_, white_before), is, is_gap, same, whole) =
    inr (white_before, (c, here, gap_, is, (white, is_gap, same), whole ∙ ap (λ (t : List ℕ). t ++ (here ++ gap_)) none_))

next_spells : (b : Begun) → SpellsPlaced (turn b) (IsNext b) Anything
next_spells b = placed_as (turn_either b) (to_next b) (from_next b)

-- a byte that begins a compound or what joins one
abbrev begins_next : ℕ → Bool
begins_next byte = eqb byte 62 || begins_compound byte

either_begun : (b : Begun) (text behind : List ℕ) (later : Begun) → PlacedEither (IsChild b) (IsDescendant b) text behind later → IsBegun begins_next (text ++ behind) behind
either_begun b text behind later (inl (u, sign, back, is_sign, r, whole)) =
    let all : text ++ behind ≡ 62 ∷ (back ++ behind) = ap (λ (t : List ℕ). t ++ behind) (whole ∙ ap (λ (t : List ℕ). t ++ back) is_sign) in
    record { byte = 62; more = back ++ behind; begins = refl; is = all; less = omega (arith, ap length all, length-append back behind) }
either_begun b text behind later (inr (w, r)) =
    let g = with_begun Descendant b.compounds text behind later r in
    record { byte = g.byte; more = g.more; begins = or_right (eqb g.byte 62) (begins_compound g.byte) g.begins; is = g.is; less = g.less }

next_begun : (b : Begun) (text behind : List ℕ) (later : Begun) → IsNext b text behind later → IsBegun begins_next (text ++ behind) behind
next_begun b text behind later r = either_begun b text behind later (from_next b text behind later r)

begins_no_end : (byte : ℕ) → begins_next byte ≡ true → (eqb byte 44 || eqb byte 123) ≡ false
begins_no_end byte e = grind arith

next_goes : (b : Begun) (text behind : List ℕ) (later : Begun) → IsNext b text behind later → selector_goes_on b (text ++ behind) ≡ true
next_goes b text behind later r =
    let g = next_begun b text behind later r in
    ap (λ (t : List ℕ). not (selector_ends t)) g.is ∙ ap not (begins_no_end g.byte g.begins)

next_turn : IsTurn turn IsNext
next_turn = record {
  spells = next_spells;
  shortens = λ b later x y e.
      let t = (next_spells b).takes x later y e in
      let g = next_begun b t.0 y later t.1 in
      subst (λ (s : List ℕ). length y < length s) (sym t.2) g.less;
}

-- ---- selectors

-- the compounds of a chain
record AreJoined (b : Begun) (text behind : List ℕ) (end_ : Begun) : Type 0 where
  list : List Compound
  are : AreCompounds b.white text behind list
  says : end_.compounds ≡ b.compounds ++ list

to_compounds : (states : List Begun) (b : Begun) (text behind : List ℕ) (end_ : Begun) → Chain selector_goes_on IsNext states b text behind end_ → AreJoined b text behind end_
to_compounds [] b text behind end_ r = record { list = []; are = r.0; says = ap (λ (z : Begun). z.compounds) r.1 ∙ sym (append-nil b.compounds) }
to_compounds (later ∷ states) b text behind end_ (front, more, g, (c, kind, joint, here, gap_, white, is_joint, is, is_gap, same, all), others, whole) =
    let o = to_compounds states later more behind end_ others in
    let k = sym (compound_joint kind here (gap_ ++ (more ++ behind)) c is) in
    record {
      list = c ∷ o.list;
      are = (
        joint,
        here,
        gap_,
        more,
        white,
        subst (λ (z : Joint). IsJoint z b.white joint (here ++ (gap_ ++ (more ++ behind)))) k is_joint,
        subst (λ (z : Joint). IsCompound z here (gap_ ++ (more ++ behind)) c) k is,
        is_gap,
        subst (λ (z : Begun). AreCompounds z.white more behind o.list) same o.are,
        whole ∙ ap (λ (t : List ℕ). t ++ more) all ∙ append_assoc joint (here ++ gap_) more ∙ ap (λ (t : List ℕ). joint ++ t) (append_assoc here gap_ more),
      );
      says = o.says ∙ ap (λ (z : Begun). z.compounds ++ o.list) same ∙ append_assoc b.compounds (c ∷ []) o.list;
    }

record HasJoined (b : Begun) (list : List Compound) (text behind : List ℕ) : Type 0 where
  end_ : Begun
  states : List Begun
  chain : Chain selector_goes_on IsNext states b text behind end_
  says : end_.compounds ≡ b.compounds ++ list

from_compounds : (list : List Compound) (b : Begun) (text behind : List ℕ) → AreCompounds b.white text behind list → HasJoined b list text behind
from_compounds [] b text behind r = record { end_ = b; states = []; chain = (r, refl); says = sym (append-nil b.compounds) }
from_compounds (c ∷ list) b text behind (joint, here, gap_, more, white, is_joint, is, is_gap, others, whole) =
    let later = begun_with b.compounds c white in
    let front = joint ++ (here ++ gap_) in
    let step : IsNext b front (more ++ behind) later = (c, c.joint, joint, here, gap_, white, is_joint, is, is_gap, refl, refl) in
    let o = from_compounds list later more behind others in
    record {
      end_ = o.end_;
      states = later ∷ o.states;
      chain = (
        front,
        more,
        next_goes b front (more ++ behind) later step,
        step,
        o.chain,
        whole ∙ sym (append_assoc joint (here ++ gap_) more ∙ ap (λ (t : List ℕ). joint ++ t) (append_assoc here gap_ more)),
      );
      says = o.says ∙ append_assoc b.compounds (c ∷ []) list;
    }

abbrev AreAll : PlacedGrammar (List Compound)
AreAll = PlacedSeq (IsWith Descendant []) (λ b. PlacedMapped (λ end_. end_.compounds) (AreTurns selector_goes_on IsNext b))

all_spell : SpellsPlaced (follow (with_compound Descendant []) (λ b. mapped (λ end_. end_.compounds) (repeat selector_goes_on turn b))) AreAll Anything
all_spell =
    placed_follow (with_spells Descendant []) (λ b. placed_mapped (λ (end_ : Begun). end_.compounds) (turns_spell b next_turn)) (λ x y back rest r any. tt)

to_selector : (text behind : List ℕ) (x : List Compound) → AreAll text behind x → IsSelector text behind x
to_selector text behind x (b, front, more, (c, here, gap_, is, (white, is_gap, same), all), (end_, (states, chain, ends), says), whole) =
    let o = to_compounds states b more behind end_ chain in
    let list : x ≡ c ∷ o.list = says ∙ o.says ∙ ap (λ (z : Begun). z.compounds ++ o.list) same in
    let one : IsSelector text behind (c ∷ o.list) = (
      here,
      gap_,
      more,
      white,
      is,
      is_gap,
      subst (λ (z : Begun). AreCompounds z.white more behind o.list) same o.are,
      not-false (selector_ends behind) ends,
      whole ∙ ap (λ (t : List ℕ). t ++ more) all ∙ append_assoc here gap_ more,
    ) in
    subst (λ (z : List Compound). IsSelector text behind z) (sym list) one

from_selector : (text behind : List ℕ) (x : List Compound) → IsSelector text behind x → AreAll text behind x
from_selector text behind [] r = absurd r
from_selector text behind (c ∷ list) (here, gap_, more, white, is, is_gap, are, ends, whole) =
    let b = begun_with [] c white in
    let o = from_compounds list b more behind are in
    (b, here ++ gap_, more, (c, here, gap_, is, (white, is_gap, refl), refl), (o.end_, (o.states, o.chain, ap not ends), sym o.says), whole ∙ sym (append_assoc here gap_ more))

pub selector_spells : SpellsPlaced selector IsSelector Anything
unfolding selector
selector_spells = placed_as all_spell to_selector from_selector
