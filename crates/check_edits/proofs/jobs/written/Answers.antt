use Rattle.std.proofs.Common.{◌≡◌, List, Option, subst, sym}
use Rattle.face_api.specs.Table.{Table}
use Rattle.session.specs.declared.session.Session.{Session}
use Rattle.edit_script.specs.declared.step.ScriptLine.{ScriptLine}
use Rattle.edit_script.specs.Views.{steps_of}
use Rattle.edit_job.specs.Told.{HasRoom}
use Rattle.input_due.specs.Due.{AreReady, IsReady}
use Rattle.input_due.specs.declared.due.Due.{Due}
use Rattle.check_edits.proofs.jobs.written.Goals as goal

-- there is room for steps that are ready
has_room : {I : Type 0} {D : I → Type 0} {faces : List (Option Table)} {session : Session I D} (script lines : List ScriptLine) → lines ≡ script → AreReady faces session (steps_of script)
    → HasRoom faces session (steps_of lines)
has_room {faces = faces} {session = session} script lines same ready = subst (λ (l : List ScriptLine). HasRoom faces session (steps_of l)) (sym same) ready.room

pub tell_steps-requires-clause-room : goal.tell_steps-requires-clause-room
tell_steps-requires-clause-room g c =
    has_room c.in-Steps.script.items c.deref.result.now c.deref.ensures.value (subst (λ (due : Due _ _). IsReady _ due) c.in-Steps.is c.in_ok-session.ensures.ready)
