-- Sequences whose places stand in one list, while the list grows.
use Rattle.std.proofs.Common.{◌≡◌, ◌∙◌, refl, ap, ℕ, ◌+◌, ◌-◌, ◌≤◌, List, [], ◌∷◌, ◌++◌, map, length, length-append, drop, arith}
use Rattle.std.proofs.lemmas.List.{drop-append-le, take-append-le, length-drop, map-append, take_all, drop_at}
use Rattle.std.proofs.lemmas.List.Elements.{All-nil, All-cons, All-append, All-head, All-tail, All-weaker}
use Rattle.bidi_explicit.specs.declared.paragraph.RunSpan.{RunSpan}
use Rattle.bidi_explicit.specs.Sequences.{Sequence}
use Rattle.bidi_explicit.specs.Spans.{IsSpan, AreSpans, sequence_at, span_places}

-- further places change no sequence
kept_at : (ps qs : List ℕ) (span : RunSpan) → IsSpan (length ps) span → sequence_at (ps ++ qs) span ≡ sequence_at ps span
kept_at ps qs span is =
    let low : span.start ≤ span.stop = is.start in
    let high : span.stop ≤ length ps = is.stop in
    let rest : length (drop span.start ps) ≡ length ps - span.start = length-drop span.start ps in
    let within : span.stop - span.start ≤ length (drop span.start ps) = omega arith in
    rw (drop-append-le span.start ps qs (omega arith), take-append-le (span.stop - span.start) (drop span.start ps) qs within) refl

kept_all : (ps qs : List ℕ) (spans : List RunSpan) → AreSpans ps spans → map (sequence_at (ps ++ qs)) spans ≡ map (sequence_at ps) spans
kept_all ps qs [] are = refl
kept_all ps qs (span ∷ spans) are =
    rw (kept_at ps qs span (All-head (IsSpan (length ps)) span spans are), kept_all ps qs spans (All-tail (IsSpan (length ps)) span spans are)) refl

-- one sequence more, whose places were added to the list
module _ (ps qs all : List ℕ) (spans spans' : List RunSpan) (span : RunSpan) (are : AreSpans ps spans) (grown : all ≡ ps ++ qs)
    (start : span.start ≡ length ps) (stop : span.stop ≡ length all) (more : spans' ≡ spans ++ span ∷ []) where
  longer : length all ≡ length ps + length qs
  longer = ap length grown ∙ length-append ps qs

  last_places : span_places all span ≡ qs
  last_places =
      let behind : drop (length ps) (ps ++ qs) ≡ qs = drop_at ps qs (length ps) refl in
      let len : length all ≡ length ps + length qs = longer in
      let from : span.start ≡ length ps = start in
      let to : span.stop ≡ length all = stop in
      let count : span.stop - span.start ≡ length qs = omega arith in
      rw (count, start, grown, behind) (take_all (length qs) qs (omega arith))

  pub spans_grow : AreSpans all spans'
  spans_grow =
      let len : length all ≡ length ps + length qs = longer in
      let from : span.start ≡ length ps = start in
      let to : span.stop ≡ length all = stop in
      rw more
      (All-append (IsSpan (length all)) spans (span ∷ [])
      (All-weaker (IsSpan (length ps)) (IsSpan (length all)) (λ s is. let low : s.start ≤ s.stop = is.start in let high : s.stop ≤ length ps = is.stop in record { start = low; stop = omega arith }) spans are)
      (All-cons (IsSpan (length all)) span [] (record { start = omega arith; stop = omega arith }) (All-nil (IsSpan (length all)))))

  pub spans_taken : (sequence : Sequence) → sequence.places ≡ qs → sequence.sos ≡ span.sos → sequence.eos ≡ span.eos → map (sequence_at all) spans' ≡ map (sequence_at ps) spans ++ sequence ∷ []
  spans_taken sequence p s e =
      rw (more, map-append (sequence_at all) spans (span ∷ []), last_places, ← p, ← s, ← e)
      (ap (λ l. l ++ sequence ∷ []) (ap (λ a. map (sequence_at a) spans) grown ∙ kept_all ps qs spans are))
