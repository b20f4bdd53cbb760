-- Reports of declarations beside what is read of the same text.
use Rattle.std.proofs.Common.{◌≡◌, ◌∙◌, ℕ, Bool, true, false, cond, List, codes, Option, Some, None, option_map, Result, Ok, Err, refl, sym, ap}
use Rattle.std.specs.Prelude.{⊤}
use Rattle.reading.specs.Readers.{ReadOr, ◌>>=◌, give, follow, mapped, strip, starts}
use Rattle.reading.proofs.SpellLaws.{ok, bind_ok, same_answer}
use Rattle.css_types.specs.declared.value.Declaration.{Declaration}
use Rattle.css_tokens.specs.Lexing.{gap}
use Rattle.css_values.specs.declared.within.Within.{Within}
use Rattle.css_values.specs.Declarations.{Stated, at_rule_ahead, before_rest, declaration, judged, stated, unsupported, with_stated}
use Rattle.css_values.specs.Error.{Fault, spelled}
use Rattle.css_values.specs.Reports.{IsJudged, Reported, item, judged_if, next, report, reported}

abbrev Judgement : Type 0
Judgement = Result (List Declaration) Fault

-- the same declaration is judged, with what is kept so far, whatever that is
record Reads (within : Within) (end_ : ℕ) (told : Option Reported) (read : List Declaration → ReadOr Fault (List Declaration)) (rest : List ℕ) : Type 0 where
  stands : Option Stated
  is_told : told ≡ option_map (reported within end_) stands
  is_read : (kept : List Declaration) → read kept ≡ before_rest rest (judged_if within end_ kept stands)

stated_reads : (within : Within) (end_ : ℕ) (told : Reported) (bytes rest : List ℕ) → mapped (reported within end_) (spelled (stated within)) bytes ≡ ok (told, rest)
    → Reads within end_ (Some told) (λ kept. follow (spelled (stated within)) (judged within end_ kept) bytes) rest
stated_reads within end_ told bytes rest e =
    let a = bind_ok (spelled (stated within) bytes) (λ (x : Stated × List ℕ). give (reported within end_ x.0) x.1) (told, rest) e in
    let same = same_answer {E = Fault} (reported within end_ a.0.0) told a.0.1 rest a.2 in
    record {
      stands = Some a.0.0;
      is_told = ap (λ (r : Reported). Some r) (sym same.0);
      is_read = λ kept.
          ap (λ (r : ReadOr Fault Stated). r >>= λ (x : Stated × List ℕ). judged within end_ kept x.0 x.1) a.1
          ∙ ap (λ (left : List ℕ). before_rest left (with_stated within end_ kept a.0.0)) same.1;
    }

declaration_by : (within : Within) (end_ : ℕ) (told : Reported) (bytes rest : List ℕ) (t : Bool)
    → cond t (unsupported bytes) (mapped (reported within end_) (spelled (stated within)) bytes) ≡ ok (told, rest)
    → Reads within end_ (Some told) (λ kept. cond t (unsupported bytes) (follow (spelled (stated within)) (judged within end_ kept) bytes)) rest
declaration_by within end_ told bytes rest true e = absurd cc
declaration_by within end_ told bytes rest false e = stated_reads within end_ told bytes rest e

declaration_reads : (within : Within) (end_ : ℕ) (told : Reported) (bytes rest : List ℕ) → report within end_ bytes ≡ ok (told, rest)
    → Reads within end_ (Some told) (λ kept. declaration within end_ kept bytes) rest
unfolding declaration
declaration_reads within end_ told bytes rest e = declaration_by within end_ told bytes rest (at_rule_ahead within bytes) e

told_so : {told other : Option Reported} {within : Within} {end_ : ℕ} {read : List Declaration → ReadOr Fault (List Declaration)} {rest after : List ℕ} → told ≡ other → rest ≡ after
    → Reads within end_ told read rest → Reads within end_ other read after
told_so {within = within} {end_ = end_} is at r = record {
  stands = r.stands;
  is_told = sym is ∙ r.is_told;
  is_read = λ kept. r.is_read kept ∙ ap (λ (left : List ℕ). before_rest left (judged_if within end_ kept r.stands)) at;
}

item_by : (within : Within) (end_ : ℕ) (told : Option Reported) (bytes rest : List ℕ) (t : Bool)
    → cond t (mapped (λ (u : ⊤). None) (spelled (strip (codes ";"))) bytes) (mapped Some (report within end_) bytes) ≡ ok (told, rest)
    → Reads within end_ told (λ kept. cond t (mapped (λ (u : ⊤). kept) (spelled (strip (codes ";"))) bytes) (declaration within end_ kept bytes)) rest
item_by within end_ told bytes rest true e =
    let none : Option Reported = None in
    let a = bind_ok (spelled (strip (codes ";")) bytes) (λ (x : ⊤ × List ℕ). give none x.1) (told, rest) e in
    let same = same_answer {E = Fault} none told a.0.1 rest a.2 in
    record {
      stands = None;
      is_told = sym same.0;
      is_read = λ kept. ap (λ (r : ReadOr Fault ⊤). r >>= λ (x : ⊤ × List ℕ). give kept x.1) a.1 ∙ ap (λ (left : List ℕ). ok (kept, left)) same.1;
    }
item_by within end_ told bytes rest false e =
    let a = bind_ok (report within end_ bytes) (λ (x : Reported × List ℕ). give (Some x.0) x.1) (told, rest) e in
    let same = same_answer {E = Fault} (Some a.0.0) told a.0.1 rest a.2 in
    told_so same.0 same.1 (declaration_reads within end_ a.0.0 bytes a.0.1 a.1)

-- the gap behind it
behind : (r : Judgement) (after rest : List ℕ) (white : Bool) → spelled gap after ≡ ok (white, rest)
    → (before_rest after r >>= λ (x : List Declaration × List ℕ). mapped (λ (white : Bool). x.0) (spelled gap) x.1) ≡ before_rest rest r
behind (Ok kept) after rest white is = ap (λ (r : ReadOr Fault Bool). r >>= λ (x : Bool × List ℕ). give kept x.1) is
behind (Err fault) after rest white is = refl

-- what is told is what is judged
pub next_is_judged : (within : Within) (end_ : ℕ) (bytes rest : List ℕ) (told : Option Reported) → next within end_ bytes ≡ Ok (told, rest) → IsJudged within end_ bytes rest told
unfolding next
next_is_judged within end_ bytes rest told e =
    let a = bind_ok (item within end_ bytes) (λ (x : Option Reported × List ℕ). mapped (λ (white : Bool). x.0) (spelled gap) x.1) (told, rest) e in
    let g = bind_ok (spelled gap a.0.1) (λ (x : Bool × List ℕ). give a.0.0 x.1) (told, rest) a.2 in
    let same = same_answer {E = Fault} a.0.0 told g.0.1 rest g.2 in
    let read = item_by within end_ a.0.0 bytes a.0.1 (starts (codes ";") bytes) a.1 in
    record {
      stands = read.stands;
      is_told = sym same.0 ∙ read.is_told;
      is_read = λ kept.
          ap (λ (r : ReadOr Fault (List Declaration)). r >>= λ (x : List Declaration × List ℕ). mapped (λ (white : Bool). x.0) (spelled gap) x.1) (read.is_read kept)
          ∙ (behind (judged_if within end_ kept read.stands) a.0.1 g.0.1 g.0.0 g.1 ∙ ap (λ (left : List ℕ). before_rest left (judged_if within end_ kept read.stands)) same.1);
    }
