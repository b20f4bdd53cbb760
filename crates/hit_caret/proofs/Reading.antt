-- A probe, read line by line.
use Rattle.std.proofs.Common.{◌≡◌, sym, ap, subst, ◌∙◌, ℕ, ◌+◌, ◌-◌, ◌^◌, min, ◌<◌, ◌≤◌, List, [], length, Ok, arith}
use Rattle.std.specs.List.{after_first, before_first, slice_split}
use Rattle.std.proofs.lemmas.List.{nil_from_length}
use Rattle.hit_caret.specs.declared.error.Halt.{Halt}
use Rattle.hit_caret.specs.declared.error.Halt.TheVariants as halts
use Rattle.hit_caret.specs.declared.probes.Probe.{Probe}
use Rattle.hit_caret.specs.Answered.{IsRefused}
use Rattle.hit_caret.specs.Error.{Halts, told_at}
use Rattle.hit_caret.specs.Probing.{Said, at_place, is_lf, lines_from, probes, with_line}
use Rattle.hit_caret.proofs.Lines.{asked, at_end, fewer_after, first_then}

-- what is left is read so from here
pub record IsReading (text rest : List ℕ) (before : List Probe) : Type 0 where
  pub within : length rest ≤ length text
  pub same : lines_from (length text - length rest) before (slice_split is_lf rest) ≡ probes text

pub reading_starts : (text : List ℕ) (before : List Probe) → before ≡ [] → IsReading text text before
unfolding probes
reading_starts text before is =
    let none : length text - length text ≡ 0 = omega arith in
    subst (λ (l : List Probe). IsReading text text l) (sym is) (record { within = omega arith; same = ap (λ (n : ℕ). lines_from n [] (slice_split is_lf text)) none })

-- it goes on behind the first line
pub record GoesOn (text rest after : List ℕ) (next : List Probe) : Type 0 where
  pub is : IsReading text after next
  pub shorter : length after < length rest

after_said : (text rest : List ℕ) (before next : List Probe) → IsReading text rest before → 0 < length rest → with_line before (before_first is_lf rest) ≡ Ok next → GoesOn text rest (after_first is_lf rest) next
after_said text rest before next now some said =
    let fewer = fewer_after rest some in
    let place : (length text - length rest) + (length rest - length (after_first is_lf rest)) ≡ length text - length (after_first is_lf rest) = omega (arith, now.within, fewer) in
    record {
      is = record {
        within = omega (arith, now.within, fewer);
        same =
            sym (ap (λ (n : ℕ). lines_from n next (slice_split is_lf (after_first is_lf rest))) place)
            ∙ sym
            (first_then (length text - length rest) before rest
            ∙ ap (λ (s : Said). at_place (length text - length rest) s (λ other. lines_from ((length text - length rest) + (length rest - length (after_first is_lf rest))) other (slice_split is_lf (after_first is_lf rest)))) said)
            ∙ now.same;
      };
      shorter = fewer;
    }

pub reading_goes_on : (text rest line after : List ℕ) (before next : List Probe) → IsReading text rest before → 0 < length rest → line ≡ before_first is_lf rest → after ≡ after_first is_lf rest
    → with_line before line ≡ Ok next → GoesOn text rest after next
reading_goes_on text rest line after before next now some is behind said =
    subst (λ (a : List ℕ). GoesOn text rest a next) (sym behind) (after_said text rest before next now some (sym (ap (with_line before) is) ∙ said))

pub reading_stops : (start : ℕ) (text rest line : List ℕ) (before : List Probe) (halt : Halt) (place : ℕ) → IsReading text rest before → line ≡ before_first is_lf rest → Halts halt (with_line before line)
    → place ≡ min (start + (length text - length rest)) (2 ^ 64 - 1) → IsRefused start (told_at place halt) (probes text)
reading_stops start text rest line before (halts.Refused kind) place now is said at =
    let place_here = length text - length rest in (
      length text - length rest,
      sym now.same
          ∙ first_then place_here before rest
          ∙ ap (λ (s : Said). at_place place_here s (λ next. lines_from (place_here + (length rest - length (after_first is_lf rest))) next (slice_split is_lf (after_first is_lf rest)))) (sym (ap (with_line before) is) ∙ said),
      at,
    )
reading_stops start text rest line before halts.Memory place now is said at = tt

pub reading_ends : (text rest : List ℕ) (before : List Probe) → IsReading text rest before → length rest ≡ 0 → probes text ≡ asked before
reading_ends text rest before now none =
    sym now.same ∙ ap (λ (l : List ℕ). lines_from (length text - length rest) before (slice_split is_lf l)) (nil_from_length rest none) ∙ at_end (length text - length rest) before
