use Rattle.std.proofs.Common.{length}
use denote.Text.{Utf8}
use denote.Shadow.{shadow}
use Rattle.edit_script.specs.Fitting.{AllFit}
use Rattle.edit_script.specs.Views.{begun_of}
use Rattle.edit_script.proofs.Reading.{IsReading}
use Rattle.edit_script.proofs.script.answer_script.Given as goal

abbrev pub invariant-loop-rest : goal.invariant-loop-rest
invariant-loop-rest l = shadow (Utf8 l.rest) × IsReading l.text l.rest (begun_of l.begun) × AllFit (begun_of l.begun).said

abbrev pub decreases-loop-rest : goal.decreases-loop-rest
decreases-loop-rest l = length l.rest
