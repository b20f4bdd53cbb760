-- Tags: what is read is spelled so, and what is spelled so is read.
use Rattle.std.proofs.Common.{◌≡◌, inl, inr, ℕ, Bool, true, false, cond, ◌&&◌, List, ◌∷◌, ◌++◌, codes, Option, Some, None, Result, Ok, Err, refl, sym, ap, subst, ◌∙◌, append_assoc}
use Rattle.std.specs.Prelude.{⊤, bytes_eq}
use Rattle.std.proofs.lemmas.Bool.{and_parts}
use Rattle.std.proofs.lemmas.Slice.Eq.{bytes_eq-Decides}
use Rattle.reading.specs.Readers.{ReadOr, ◌>>=◌, follow, strip, starts, after}
use Rattle.reading.specs.Grammars.{After}
use Rattle.reading.specs.Spelling.{Anything, Spells}
use Rattle.reading.specs.Placed.{PlacedGrammar, Anywhere, PlacedSeq, SpellsPlaced}
use Rattle.reading.proofs.SpellLaws.{ok, bind_ok, strip_takes, after_spells, telling_spells}
use Rattle.reading.proofs.RunLaws.{either_case_spells}
use Rattle.reading.proofs.PlacedLaws.{anywhere_spells, placed_follow, placed_telling}
use Rattle.html_tokens.specs.declared.tag.Tag.{Tag}
use Rattle.html_tokens.specs.Tag.{tag_named, is_void}
use Rattle.html_tokens.specs.Error.{Fault, Judged, syntax, spelled}
use Rattle.html_tokens.specs.Written.{Attribute}
use Rattle.html_read.specs.Judging.{judged}
use Rattle.html_tokens.specs.Lexing.{name, attributes, tag_end, end_name}
use Rattle.html_read.specs.Reading.{Start, said, tag_behind, start_of, start_judged, start_tag, closed, end_tag}
use Rattle.html_read.specs.Values.{Acting}
use Rattle.html_tokens.specs.Grammar.{IsName, AreAttributes, IsTagEnd, IsEndName}
use Rattle.html_read.specs.Grammar.{IsTagBehind, IsStartOf, IsStart}
use Rattle.html_tokens.proofs.MiscLaws.{NoNameByte, name_spells, end_name_spells}
use Rattle.html_tokens.proofs.AttributeLaws.{IsTagNext, attributes_spells, attributes_end_name}
use Rattle.html_tokens.proofs.TextLaws.{good}

-- ---- the end of a start tag

end_by : (slash : Bool) (bytes rest : List ℕ) (u : ⊤) (t : Bool) → (slash && starts (codes "/") bytes) ≡ t → cond t (strip (codes "/>") bytes) (strip (codes ">") bytes) ≡ ok (u, rest)
    → (text : List ℕ) × IsTagEnd slash text u × (bytes ≡ text ++ rest)
end_by slash bytes rest u true is e = (codes "/>", inr ((and_parts slash (starts (codes "/") bytes) is).0, refl), strip_takes (codes "/>") bytes rest u e)
end_by slash bytes rest u false is e = (codes ">", inl refl, strip_takes (codes ">") bytes rest u e)

plain_end : (slash : Bool) (rest : List ℕ) → tag_end slash (codes ">" ++ rest) ≡ Ok (tt, rest)
unfolding tag_end starts strip
plain_end true rest = refl
plain_end false rest = refl

slash_end : (rest : List ℕ) → tag_end true (codes "/>" ++ rest) ≡ Ok (tt, rest)
unfolding tag_end starts strip
slash_end rest = refl

end_again : (slash : Bool) (text rest : List ℕ) → IsTagEnd slash text tt → tag_end slash (text ++ rest) ≡ Ok (tt, rest)
end_again slash text rest (inl r) = rw r (plain_end slash rest)
end_again slash text rest (inr r) = rw (r.0, r.1) (slash_end rest)

pub tag_end_spells : (slash : Bool) → Spells (tag_end slash) (IsTagEnd slash) Anything
unfolding tag_end
tag_end_spells slash = record {
  takes = λ bytes u rest e. end_by slash bytes rest u (slash && starts (codes "/") bytes) refl e;
  again = λ text u rest r ends. end_again slash text rest r;
}

tag_next : (slash : Bool) (text rest : List ℕ) → IsTagEnd slash text tt → IsTagNext (text ++ rest)
tag_next slash text rest (inl r) = record { byte = 62; more = rest; is = ap (λ (s : List ℕ). s ++ rest) r; which = inl refl }
tag_next slash text rest (inr r) = record { byte = 47; more = 62 ∷ rest; is = ap (λ (s : List ℕ). s ++ rest) r.1; which = inr refl }

-- ---- attributes, the end of the tag, and what is said of them

said_ok : {X : Type 0} (r : Result X Fault) (x : X) (bytes rest : List ℕ) → said r bytes ≡ good (x, rest) → (r ≡ Ok x) × (bytes ≡ rest)
said_ok {X = X} (Ok y) x bytes rest e =
    let pair : (y, bytes) ≡ (x, rest) = cc in
    (ap (λ (p : X × List ℕ). Ok p.0) pair, ap (λ (p : X × List ℕ). p.1) pair)
said_ok (Err fault) x bytes rest e = absurd cc

abbrev SaidAtEnd : {X : Type 0} → (slash : Bool) → Result X Fault → PlacedGrammar X
SaidAtEnd slash r text behind x = IsTagEnd slash text tt × (r ≡ Ok x)

ends_said : {X : Type 0} (slash : Bool) (r : Result X Fault) → SpellsPlaced (follow (spelled (tag_end slash)) (λ u. said r)) (SaidAtEnd slash r) Anything
ends_said {X = X} slash r = record {
  takes = λ bytes x rest e.
      let p = telling_spells syntax (tag_end_spells slash) in
      let a = bind_ok (spelled (tag_end slash) bytes) (λ (u : ⊤ × List ℕ). said r u.1) (x, rest) e in
      let t = p.takes bytes a.0.0 a.0.1 a.1 in
      let s = said_ok r x a.0.1 rest a.2 in
      (t.0, (t.1, s.0), t.2 ∙ ap (λ (b : List ℕ). t.0 ++ b) s.1);
  again = λ text x rest is ends.
      let p = telling_spells syntax (tag_end_spells slash) in
      let first : spelled (tag_end slash) (text ++ rest) ≡ good (tt, rest) = p.again text tt rest is.0 tt in
      ap (λ (s : ReadOr Fault ⊤). s >>= λ (u : ⊤ × List ℕ). said r u.1) first ∙ ap (λ (s : Result X Fault). said s rest) is.1;
}

behind_said : {X : Type 0} (slash : Bool) (r : List Attribute → Result X Fault)
    → SpellsPlaced (follow (spelled attributes) (λ list. follow (spelled (tag_end slash)) (λ u. said (r list)))) (PlacedSeq AreAttributes (λ list. SaidAtEnd slash (r list))) Anything
behind_said slash r =
    placed_follow (placed_telling syntax attributes_spells) (λ list. ends_said slash (r list)) (λ list x back rest is any. tag_next slash back rest is.0)

pub tag_behind_spells : (size : ℕ) (slash : Bool) → SpellsPlaced (tag_behind size slash) (IsTagBehind size slash) Anything
unfolding tag_behind
tag_behind_spells size slash = behind_said slash (judged size)

pub start_of_spells : (size : ℕ) (word : List ℕ) (slash : Bool) → SpellsPlaced (start_of size word slash) (IsStartOf size word slash) Anything
unfolding start_of
start_of_spells size word slash =
    placed_follow (anywhere_spells (telling_spells syntax (either_case_spells word))) (λ u. tag_behind_spells size slash) (λ x y back rest r any. tt)

-- ---- start tags in the body

judged_start : (n : List ℕ) (t : Option Tag) (r : Result Acting Fault) (here : List ℕ) (start : Start) → start_judged n t r here ≡ Ok start → (t ≡ Some start.tag) × (r ≡ Ok start.acting) × (n ≡ start.name)
judged_start n None r here start e = absurd cc
judged_start n (Some tag) (Ok acting) here start e =
    let same : record { name = n; tag = tag; acting = acting } ≡ start = cc in
    (ap (λ (s : Start). Some s.tag) same, ap (λ (s : Start). Ok s.acting) same, ap (λ (s : Start). s.name) same)
judged_start n (Some tag) (Err fault) here start e = absurd cc

abbrev StartFrom : (size : ℕ) (here : List ℕ) → PlacedGrammar Start
StartFrom size here = PlacedSeq (Anywhere (After (codes "<") IsName)) (λ n. PlacedSeq AreAttributes (λ list. SaidAtEnd (is_void n) (start_judged n (tag_named n) (judged size list) here)))

abbrev start_from : (size : ℕ) (here : List ℕ) → Judged Start
start_from size here = follow (spelled (after (codes "<") name)) (λ n. follow (spelled attributes) (λ list.
    follow (spelled (tag_end (is_void n))) (λ u. said (start_judged n (tag_named n) (judged size list) here))))

said_ends_name : {X : Type 0} (slash : Bool) (r : List Attribute → Result X Fault) (text behind : List ℕ) (x : X) → PlacedSeq AreAttributes (λ list. SaidAtEnd slash (r list)) text behind x → NoNameByte (text ++ behind)
said_ends_name slash r text behind x is =
    let whole : text ++ behind ≡ is.1 ++ (is.2 ++ behind) = ap (λ (s : List ℕ). s ++ behind) is.5 ∙ append_assoc is.1 is.2 behind in
    subst (λ (s : List ℕ). NoNameByte s) (sym whole) (attributes_end_name is.0 is.1 (is.2 ++ behind) is.3 (tag_next slash is.2 behind is.4.0))

from_spells : (size : ℕ) (here : List ℕ) → SpellsPlaced (start_from size here) (StartFrom size here) Anything
from_spells size here =
    placed_follow (anywhere_spells (telling_spells syntax (after_spells (codes "<") name_spells)))
    (λ n. behind_said (is_void n) (λ list. start_judged n (tag_named n) (judged size list) here))
    (λ n start back rest r any. said_ends_name (is_void n) (λ list. start_judged n (tag_named n) (judged size list) here) back rest start r)

abbrev StartAs : (size : ℕ) (text behind n : List ℕ) → Start → Type 0
StartAs size text behind n start = (named back : List ℕ) × IsName named n × (tag_named n ≡ Some start.tag) × IsTagBehind size (is_void n) back behind start.acting × (text ≡ codes "<" ++ (named ++ back))

to_start : (size : ℕ) (here text behind : List ℕ) (start : Start) → StartFrom size here text behind start → IsStart size text behind start
to_start size here text behind start r =
    let n = r.0 in
    let tail = r.4 in
    let j = judged_start n (tag_named n) (judged size tail.0) here start tail.4.1 in
    let whole : text ≡ codes "<" ++ (r.3.0 ++ r.2) = r.5 ∙ ap (λ (s : List ℕ). s ++ r.2) r.3.2 ∙ append_assoc (codes "<") r.3.0 r.2 in
    let made : StartAs size text behind n start = (r.3.0, r.2, r.3.1, j.0, (tail.0, tail.1, tail.2, tail.3, (tail.4.0, j.1), tail.5), whole) in
    subst (λ (m : List ℕ). StartAs size text behind m start) j.2 made

judged_again : (n : List ℕ) (t : Option Tag) (r : Result Acting Fault) (here : List ℕ) (tag : Tag) (acting : Acting) → t ≡ Some tag → r ≡ Ok acting
    → start_judged n t r here ≡ Ok (record { name = n; tag = tag; acting = acting })
judged_again n t r here tag acting named said_ = rw (named, said_) refl

from_start : (size : ℕ) (here text behind : List ℕ) (start : Start) → IsStart size text behind start → StartFrom size here text behind start
from_start size here text behind start r =
    let tail = r.4 in (
      start.name,
      codes "<" ++ r.0,
      r.1,
      (r.0, r.2, refl),
      (tail.0, tail.1, tail.2, tail.3, (tail.4.0, judged_again start.name (tag_named start.name) (judged size tail.0) here start.tag start.acting r.3 tail.4.1), tail.5),
      r.5 ∙ sym (append_assoc (codes "<") r.0 r.1),
    )

pub start_tag_spells : (size : ℕ) → SpellsPlaced (start_tag size) (IsStart size) Anything
unfolding start_tag
start_tag_spells size = record {
  takes = λ bytes start rest e.
      let t = (from_spells size bytes).takes bytes start rest e in
      (t.0, to_start size bytes t.0 rest start t.1, t.2);
  again = λ text start rest r ends. (from_spells size (text ++ rest)).again text start rest (from_start size (text ++ rest) text rest start r) tt;
}

-- ---- end tags

closed_by : (n open_name here back rest : List ℕ) (u : ⊤) (t : Bool) → bytes_eq n open_name ≡ t → closed t here back ≡ good (u, rest) → (n ≡ open_name) × (back ≡ rest)
closed_by n open_name here back rest u true is e =
    let pair : (tt, back) ≡ (u, rest) = cc in
    ((bytes_eq-Decides n open_name).0 is, ap (λ (p : ⊤ × List ℕ). p.1) pair)
closed_by n open_name here back rest u false is e = absurd cc

pub end_tag_spells : (open_name : List ℕ) → Spells (end_tag open_name) (λ text u. IsEndName text open_name) Anything
unfolding end_tag
end_tag_spells open_name = record {
  takes = λ bytes u rest e.
      let p = telling_spells syntax end_name_spells in
      let a = bind_ok (spelled end_name bytes) (λ (n : List ℕ × List ℕ). closed (bytes_eq n.0 open_name) bytes n.1) (u, rest) e in
      let t = p.takes bytes a.0.0 a.0.1 a.1 in
      let c = closed_by a.0.0 open_name bytes a.0.1 rest u (bytes_eq a.0.0 open_name) refl a.2 in
      (t.0, subst (λ (n : List ℕ). IsEndName t.0 n) c.0 t.1, t.2 ∙ ap (λ (s : List ℕ). t.0 ++ s) c.1);
  again = λ text u rest r ends.
      let p = telling_spells syntax end_name_spells in
      let first : spelled end_name (text ++ rest) ≡ good (open_name, rest) = p.again text open_name rest r tt in
      ap (λ (s : ReadOr Fault (List ℕ)). s >>= λ (n : List ℕ × List ℕ). closed (bytes_eq n.0 open_name) (text ++ rest) n.1) first
      ∙ ap (λ (t : Bool). closed t (text ++ rest) rest) ((bytes_eq-Decides open_name open_name).1 refl);
}
