-- What the answers of `read_script` say, of what the reading gives.
use Rattle.std.proofs.Common.{◌≡◌, ℕ, List, Ok, Err, sym, ◌∙◌}
use Rattle.std.specs.Prelude.{IfErr, IfOk, Result}
use Rattle.edit_script.specs.Answered.{IsTheScript, RefusesScript, Told}
use Rattle.edit_script.specs.Script.{StepAt, script}
use Rattle.edit_script.specs.declared.error.Refusal.{Refusal}
use Rattle.edit_script.specs.declared.error.ScriptError.{ScriptError}
use Rattle.edit_script.specs.declared.error.ScriptError.TheVariants as errors
use Rattle.edit_script.proofs.MeaningLaws.{AreSpelled}
use Rattle.edit_script.proofs.ScriptLaws.{ok_said, read, script_again, script_is}

pub told_script : {X : Type 0} → AreSpelled → (view : X → List StepAt) (start : ℕ) (text : List ℕ) (r : Result X ScriptError) → Told start view r (script text) → IfOk r (λ x. IsTheScript text (view x))
told_script spelled view start text (Ok x) e = record {
  is = script_is spelled text (view x) e;
  only = λ other is. ok_said other (view x) (sym (script_again spelled text other is) ∙ e);
}
told_script spelled view start text (Err error) e = tt

never : (said : List StepAt) (fault : Refusal × ℕ) → read said ≡ Err fault → ⊥
never said fault e = absurd cc

pub told_no_script : {X : Type 0} → AreSpelled → (view : X → List StepAt) (start : ℕ) (text : List ℕ) (r : Result X ScriptError) → Told start view r (script text) → IfErr r (λ error. RefusesScript text error)
told_no_script spelled view start text (Ok x) e = tt
told_no_script spelled view start text (Err (errors.Refused kind place)) e = λ said is. never said (kind, e.0) (sym (script_again spelled text said is) ∙ e.1)
told_no_script spelled view start text (Err errors.Memory) e = tt
