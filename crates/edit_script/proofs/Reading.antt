-- A script, line by line.
use Rattle.std.proofs.Common.{◌≡◌, inl, inr, ℕ, ◌+◌, ◌-◌, ◌^◌, min, ◌<◌, ◌≤◌, Bool, true, false, List, [], ◌∷◌, length, Ok, Err, refl, sym, ap, subst, ◌∙◌, length-append, arith}
use Rattle.std.specs.Prelude.{◌==◌}
use Rattle.std.proofs.lemmas.Bool.{eqb-true}
use Rattle.std.specs.List.{slice_split}
use Rattle.std.proofs.lemmas.List.Splits.{slice_split_at, slice_split_none}
use Rattle.std.proofs.lemmas.List.{nil_from_length}
use Rattle.edit_script.specs.declared.error.Halt.{Halt}
use Rattle.edit_script.specs.declared.error.Halt.TheVariants as halts
use Rattle.edit_script.specs.Answered.{IsRefused}
use Rattle.edit_script.specs.Error.{Halts, told_at}
use Rattle.edit_script.specs.Meaning.{Said}
use Rattle.edit_script.specs.Script.{Begun, at_place, empty, is_lf, lines_from, passed, script, with_line}
use Rattle.edit_script.specs.Views.{IsFirstLine}
use Rattle.edit_script.proofs.MeaningLaws.{there}
use Rattle.edit_script.proofs.ScriptLaws.{blank_line, read}

-- what is left is read so from here
pub record IsReading (text rest : List ℕ) (b : Begun) : Type 0 where
  pub within : length rest ≤ length text
  pub lines : b.lines + length rest ≤ length text
  pub same : lines_from (length text - length rest) b (slice_split is_lf rest) ≡ script text

pub reading_starts : (text : List ℕ) (b : Begun) → b ≡ empty → IsReading text text b
unfolding script
reading_starts text b is =
    let none : length text - length text ≡ 0 = omega arith in
    subst (λ (z : Begun). IsReading text text z) (sym is)
    (record { within = omega arith; lines = omega arith; same = ap (λ (n : ℕ). lines_from n empty (slice_split is_lf text)) none })

-- ---- the first line

-- what is left is this line and then those behind it
record IsCut (rest line after : List ℕ) : Type 0 where
  others : List (List ℕ)
  lines : slice_split is_lf rest ≡ line ∷ others

cut : (rest line after : List ℕ) → IsFirstLine rest line after → IsCut rest line after
cut rest line after (none, inl parts) = record { others = slice_split is_lf after; lines = ap (slice_split is_lf) parts ∙ slice_split_at is_lf line 10 after none refl }
cut rest line after (none, inr ends) = record { others = []; lines = ap (slice_split is_lf) ends.0 ∙ slice_split_none is_lf line none }

one_line : (place : ℕ) (b : Begun) (line : List ℕ) (others : List (List ℕ)) (r : Said Begun) → with_line b line ≡ r
    → lines_from place b (line ∷ others) ≡ at_place place r (λ next. lines_from (place + length line + 1) next others)
unfolding lines_from
one_line place b line others r e = ap (λ (s : Said Begun). at_place place s (λ next. lines_from (place + length line + 1) next others)) e

no_line : (place : ℕ) (b : Begun) → lines_from place b [] ≡ read b.said
unfolding lines_from
no_line place b = refl

-- behind the last LF
last_line : (place : ℕ) (b : Begun) → lines_from place b ([] ∷ []) ≡ read b.said
last_line place b = one_line place b [] [] (Ok (passed b)) (blank_line b [] refl) ∙ no_line (place + 0 + 1) (passed b)

-- ---- a step, and the ends

-- it goes on behind the line
pub record GoesOn (text rest after : List ℕ) (next : Begun) : Type 0 where
  pub is : IsReading text after next
  pub shorter : length after < length rest

pub reading_goes_on : (text rest line after : List ℕ) (b next : Begun) → IsReading text rest b → 0 < length rest → IsFirstLine rest line after → with_line b line ≡ there next → next.lines ≡ b.lines + 1
    → GoesOn text rest after next
reading_goes_on text rest line after b next now some (none, inl parts) e counted =
    let long : length rest ≡ length line + (length after + 1) = ap length parts ∙ length-append line (10 ∷ after) ∙ omega arith in
    let place : length text - length rest + length line + 1 ≡ length text - length after = omega (arith, now.within, long) in
    record {
      is = record {
        within = omega (arith, now.within, long);
        lines = omega (arith, now.lines, long, counted);
        same = ap (λ (n : ℕ). lines_from n next (slice_split is_lf after)) (sym place) ∙ sym (one_line (length text - length rest) b line (slice_split is_lf after) (Ok next) e)
            ∙ ap (lines_from (length text - length rest) b) (sym (ap (slice_split is_lf) parts ∙ slice_split_at is_lf line 10 after none refl)) ∙ now.same;
      };
      shorter = omega (arith, long);
    }
reading_goes_on text rest line after b next now some (none, inr ends) e counted =
    let nothing : length after ≡ 0 = ap length ends.1 in
    record {
      is = record {
        within = omega (arith, nothing);
        lines = omega (arith, now.lines, some, counted, nothing);
        same = ap (λ (l : List ℕ). lines_from (length text - length after) next (slice_split is_lf l)) ends.1 ∙ last_line (length text - length after) next
            ∙ sym (one_line (length text - length rest) b line [] (Ok next) e ∙ no_line (length text - length rest + length line + 1) next)
            ∙ ap (lines_from (length text - length rest) b) (sym (ap (slice_split is_lf) ends.0 ∙ slice_split_none is_lf line none)) ∙ now.same;
      };
      shorter = omega (arith, some, nothing);
    }

pub reading_stops : (start : ℕ) (text rest line after : List ℕ) (b : Begun) (halt : Halt) (place : ℕ) → IsReading text rest b → IsFirstLine rest line after → Halts halt (with_line b line)
    → place ≡ min (start + (length text - length rest)) (2 ^ 64 - 1) → IsRefused start (told_at place halt) (script text)
reading_stops start text rest line after b (halts.Refused kind) place now first e at =
    let c = cut rest line after first in
    (length text - length rest, sym now.same ∙ ap (lines_from (length text - length rest) b) c.lines ∙ one_line (length text - length rest) b line c.others (Err kind) e, at)
reading_stops start text rest line after b halts.Memory place now first e at = tt

pub reading_ends : (text rest : List ℕ) (b : Begun) → IsReading text rest b → length rest ≡ 0 → script text ≡ read b.said
reading_ends text rest b now none =
    sym now.same ∙ ap (λ (l : List ℕ). lines_from (length text - length rest) b (slice_split is_lf l)) (nil_from_length rest none) ∙ last_line (length text - length rest) b

pub some_left : (rest : List ℕ) (t : Bool) → t ≡ (length rest == 0) → t ≡ false → 0 < length rest
some_left [] t is e = absurd (cc (sym is ∙ e))
some_left (byte ∷ rest) t is e = omega arith

pub none_left : (rest : List ℕ) (t : Bool) → t ≡ (length rest == 0) → t ≡ true → length rest ≡ 0
none_left rest t is e = eqb-true (length rest) 0 (sym is ∙ e)
