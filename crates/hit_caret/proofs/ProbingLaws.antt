-- Probes by the grammar: what their lines ask, and what the answers of `read_probe` say.
use Rattle.std.proofs.Common.{◌≡◌, refl, sym, ap, subst, ◌∙◌, ℕ, ◌+◌, ◌<◌, ◌≤◌, Bool, true, false, cond, nat_lt, List, [], ◌∷◌, ◌++◌, length, Option, Some, None, Ok, Err, append_assoc, length-append, arith}
use Rattle.std.specs.Prelude.{IfErr, IfOk, Result}
use Rattle.std.specs.List.{cons_option, slice_split}
use Rattle.std.specs.Str.Lines.{strip_carriage_return}
use Rattle.std.proofs.lemmas.Bool.{lt-ltb, ltb-true}
use Rattle.std.proofs.lemmas.List.{append-nil}
use Rattle.reading.specs.Readers.{Read}
use Rattle.hit_caret.specs.declared.error.ProbeError.{ProbeError}
use Rattle.hit_caret.specs.declared.error.ProbeError.TheVariants as errors
use Rattle.hit_caret.specs.declared.error.Refusal.{Refusal}
use Rattle.hit_caret.specs.declared.error.Refusal.TheVariants as kinds
use Rattle.hit_caret.specs.declared.probes.Probe.{Probe}
use Rattle.hit_caret.specs.Answered.{IsTheProbe, RefusesProbe, Told}
use Rattle.hit_caret.specs.Grammar.{AreLines, Asks, IsProbe}
use Rattle.hit_caret.specs.ProbeLine.{probe}
use Rattle.hit_caret.specs.Probing.{Said, at_place, is_blank, is_lf, judged, lines_from, probes, unless_blank, with_line, with_read}
use Rattle.hit_caret.proofs.Lines.{asked}
use Rattle.hit_caret.proofs.ProbeLineLaws.{line_again, line_is}

abbrev there : List Probe → Said
there next = Ok next

same_there : (a b : List Probe) → there a ≡ there b → a ≡ b
same_there a b e = cc

-- what is asked by now, and by a line
abbrev with_first : List Probe → Option Probe → List Probe
with_first before first = before ++ cons_option first []

-- ---- one line

-- a line that was read asks this
record IsNext (before : List Probe) (line : List ℕ) (next : List Probe) : Type 0 where
  first : Option Probe
  asks : Asks (strip_carriage_return line) first
  said : next ≡ with_first before first
  few : length before ≤ 10000 → length next ≤ 10000

one_longer : (before : List Probe) (p : Probe) → length (before ++ p ∷ []) ≡ length before + 1
one_longer before p = length-append before (p ∷ [])

blank_next : (before : List Probe) (line : List ℕ) → is_blank (strip_carriage_return line) ≡ true → IsNext before line before
blank_next before line blank = record { first = None; asks = blank; said = sym (append-nil before); few = λ few. few }

counted_by : (before next : List Probe) (p : Probe) (t : Bool) → nat_lt (length before) 10000 ≡ t → cond t (there (before ++ p ∷ [])) (Err kinds.TooManyEdits) ≡ there next
    → (before ++ p ∷ [] ≡ next) × (length before < 10000)
counted_by before next p true lt e = (same_there (before ++ p ∷ []) next e, ltb-true (length before) 10000 lt)
counted_by before next p false lt e = absurd cc

read_by : (before next : List Probe) (line left : List ℕ) (p : Probe) → is_blank (strip_carriage_return line) ≡ false → probe (strip_carriage_return line) ≡ Ok (p, left) → with_read p left before ≡ there next
    → IsNext before line next
read_by before next line [] p some e said =
    let counted = counted_by before next p (nat_lt (length before) 10000) refl said in
    let longer = one_longer before p in
    subst (λ (z : List Probe). IsNext before line z) counted.0
    (record { first = Some p; asks = (some, line_is (strip_carriage_return line) p e); said = refl; few = λ few. omega (arith, longer, counted.1) })
read_by before next line (byte ∷ left) p some e said = absurd cc

judged_next : (before next : List Probe) (line : List ℕ) (r : Read Probe) → is_blank (strip_carriage_return line) ≡ false → probe (strip_carriage_return line) ≡ r → judged r before ≡ there next → IsNext before line next
judged_next before next line (Err left) some e said = absurd cc
judged_next before next line (Ok read) some e said = read_by before next line read.1 read.0 some e said

next_by : (before next : List Probe) (line : List ℕ) (t : Bool) → is_blank (strip_carriage_return line) ≡ t → unless_blank t (strip_carriage_return line) before ≡ there next → IsNext before line next
next_by before next line true blank e = subst (λ (z : List Probe). IsNext before line z) (same_there before next e) (blank_next before line blank)
next_by before next line false some e = judged_next before next line (probe (strip_carriage_return line)) some refl e

line_next : (before next : List Probe) (line : List ℕ) → with_line before line ≡ there next → IsNext before line next
unfolding with_line
line_next before next line e = next_by before next line (is_blank (strip_carriage_return line)) refl e

-- a line that may still come is read
line_reads : (before : List Probe) (line : List ℕ) (first : Option Probe) → Asks (strip_carriage_return line) first → length (with_first before first) ≤ 10000
    → with_line before line ≡ there (with_first before first)
unfolding with_line
line_reads before line None blank few =
    ap (λ (t : Bool). unless_blank t (strip_carriage_return line) before) blank ∙ ap there (sym (append-nil before))
line_reads before line (Some p) asks few =
    let longer = one_longer before p in
    let room : nat_lt (length before) 10000 ≡ true = lt-ltb (length before) 10000 (omega (arith, longer, few)) in
    ap (λ (t : Bool). unless_blank t (strip_carriage_return line) before) asks.0
    ∙ ap (λ (r : Read Probe). judged r before) (line_again (strip_carriage_return line) p asks.1)
    ∙ ap (λ (t : Bool). cond t (there (before ++ p ∷ [])) (Err kinds.TooManyEdits)) room

-- ---- all lines

-- what lines ask behind others
record IsFurther (before : List Probe) (lines : List (List ℕ)) (all : List Probe) : Type 0 where
  more : List Probe
  are : AreLines lines more
  whole : all ≡ before ++ more
  few : length before ≤ 10000 → length all ≤ 10000

at_place_ok : (place : ℕ) (said : Said) (others : List Probe → Result (List Probe) (Refusal × ℕ)) (all : List Probe) → at_place place said others ≡ asked all → (next : List Probe) × (said ≡ there next) × (others next ≡ asked all)
at_place_ok place (Ok next) others all e = (next, refl, e)
at_place_ok place (Err kind) others all e = absurd cc

first_more : (before : List Probe) (first : Option Probe) (more : List Probe) → with_first before first ++ more ≡ before ++ cons_option first more
first_more before None more = ap (λ (l : List Probe). l ++ more) (append-nil before)
first_more before (Some p) more = append_assoc before (p ∷ []) more

same_asked : (one other : List Probe) → asked one ≡ asked other → one ≡ other
same_asked one other e = cc

further : (place : ℕ) (before : List Probe) (lines : List (List ℕ)) (all : List Probe) → lines_from place before lines ≡ asked all → IsFurther before lines all
unfolding lines_from
further place before [] all e =
    let same = same_asked before all e in
    record { more = []; are = refl; whole = sym same ∙ sym (append-nil before); few = λ few. subst (λ (l : List Probe). length l ≤ 10000) same few }
further place before (line ∷ others) all e =
    let a = at_place_ok place (with_line before line) (λ (next : List Probe). lines_from (place + length line + 1) next others) all e in
    let n = line_next before a.0 line a.1 in
    let f = further (place + length line + 1) a.0 others all a.2 in
    record {
      more = cons_option n.first f.more;
      are = (n.first, f.more, n.asks, f.are, refl);
      whole = f.whole ∙ ap (λ (l : List Probe). l ++ f.more) n.said ∙ first_more before n.first f.more;
      few = λ few. f.few (n.few few);
    }

fewer_first : (before : List Probe) (first : Option Probe) (more : List Probe) → length (before ++ cons_option first more) ≤ 10000 → length (with_first before first) ≤ 10000
fewer_first before first more few =
    let long : length (before ++ cons_option first more) ≡ length (with_first before first) + length more = ap length (sym (first_more before first more)) ∙ length-append (with_first before first) more in
    omega (arith, long, few)

again : (place : ℕ) (before : List Probe) (lines : List (List ℕ)) (more : List Probe) → AreLines lines more → length (before ++ more) ≤ 10000 → lines_from place before lines ≡ asked (before ++ more)
unfolding lines_from
again place before [] more none few = ap asked (sym (append-nil before) ∙ ap (λ (l : List Probe). before ++ l) (sym none))
again place before (line ∷ others) more are few =
    let first : Option Probe = are.0 in
    let rest : List Probe = are.1 in
    let whole : with_first before first ++ rest ≡ before ++ more = first_more before first rest ∙ ap (λ (l : List Probe). before ++ l) (sym are.4) in
    let few_first = fewer_first before first rest (subst (λ (l : List Probe). length (before ++ l) ≤ 10000) are.4 few) in
    ap (λ (s : Said). at_place place s (λ next. lines_from (place + length line + 1) next others)) (line_reads before line first are.2 few_first)
    ∙ again (place + length line + 1) (with_first before first) others rest are.3 (subst (λ (l : List Probe). length l ≤ 10000) (sym whole) few)
    ∙ ap asked whole

-- ---- probes

probe_is : (text : List ℕ) (all : List Probe) → probes text ≡ asked all → IsProbe text all
unfolding probes
probe_is text all e =
    let f = further 0 [] (slice_split is_lf text) all e in
    record { are_lines = subst (λ (l : List Probe). AreLines (slice_split is_lf text) l) (sym f.whole) f.are; few = f.few (omega arith) }

probe_again : (text : List ℕ) (all : List Probe) → IsProbe text all → probes text ≡ asked all
unfolding probes
probe_again text all is = again 0 [] (slice_split is_lf text) all is.are_lines is.few

-- ---- answers

pub told_probe : {X : Type 0} → (view : X → List Probe) (start : ℕ) (text : List ℕ) (r : Result X ProbeError) → Told start view r (probes text) → IfOk r (λ x. IsTheProbe text (view x))
told_probe view start text (Ok x) e = record {
  is = probe_is text (view x) e;
  only = λ other is. same_asked other (view x) (sym (probe_again text other is) ∙ e);
}
told_probe view start text (Err error) e = tt

never_asked : (all : List Probe) (fault : Refusal × ℕ) → asked all ≡ Err fault → ⊥
never_asked all fault e = absurd cc

pub told_no_probe : {X : Type 0} → (view : X → List Probe) (start : ℕ) (text : List ℕ) (r : Result X ProbeError) → Told start view r (probes text) → IfErr r (λ error. RefusesProbe text error)
told_no_probe view start text (Ok x) e = tt
told_no_probe view start text (Err (errors.Refused kind place)) e = λ all is. never_asked all (kind, e.0) (sym (probe_again text all is) ∙ e.1)
told_no_probe view start text (Err errors.Memory) e = tt
