-- Isolating run sequences whose places stand one behind the other in one list.
use Rattle.std.specs.Prelude.{ℕ, ◌≤◌, List, length}
use Rattle.std.specs.List.{All, slice_range}
use Rattle.bidi_explicit.specs.declared.paragraph.RunSpan.{RunSpan}
use Rattle.bidi_explicit.specs.Sequences.{Sequence}

-- the places of one of them
abbrev pub span_places : List ℕ → RunSpan → List ℕ
span_places places span = slice_range places span.start span.stop

-- it as a sequence
abbrev pub sequence_at : List ℕ → RunSpan → Sequence
sequence_at places span = record { places = span_places places span; sos = span.sos; eos = span.eos }

-- it stands in a list of that length
pub record IsSpan (count : ℕ) (span : RunSpan) : Type 0 where
  pub start : span.start ≤ span.stop
  pub stop : span.stop ≤ count

-- all of them stand in this list
abbrev pub AreSpans : List ℕ → List RunSpan → Type 0
AreSpans places spans = All (IsSpan (length places)) spans
