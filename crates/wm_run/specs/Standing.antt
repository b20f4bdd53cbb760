-- What stands after a run.
use Rattle.std.specs.Prelude.{◌≡◌, ◌⊎◌, ℕ, List, Option, Result, Ok, Err, ⊤}
use Rattle.std.specs.Io.KnownBytes.{Appends, Keeps}
use Rattle.io_edge.specs.Edge.{AppendsFront}
use Rattle.io_edge.specs.declared.error.WriteError.{WriteError}
use Rattle.io_edge.specs.declared.error.WriteError.TheVariants as write_errors
use Rattle.wm_run.specs.declared.status.Status.{Status}
use Rattle.wm_run.specs.declared.status.Status.TheVariants.{Done, Usage, Refused, Memory, ReadFault, WriteFault}

-- What a run has written when it ends with a status, where this says which bytes are due with which status: all of
-- them, or nothing after a read fault, or else a front of whatever is due.
abbrev pub Stands : (Status → List ℕ → Type 0) → (old new : Option (List ℕ)) → Status → Type 0
Stands IsDueWith old new Done = (due : List ℕ) × IsDueWith Done due × Appends old new due
Stands IsDueWith old new Usage = (due : List ℕ) × IsDueWith Usage due × Appends old new due
Stands IsDueWith old new Refused = (due : List ℕ) × IsDueWith Refused due × Appends old new due
Stands IsDueWith old new ReadFault = Keeps old new
Stands IsDueWith old new WriteFault = (status : Status) (due : List ℕ) → IsDueWith status due → AppendsFront old new due
Stands IsDueWith old new Memory = (status : Status) (due : List ℕ) → IsDueWith status due → AppendsFront old new due

-- a run ends so once its bytes are written
abbrev pub ended : Result ⊤ WriteError → Status → Status
ended (Ok done) status = status
ended (Err write_errors.WriteFault) status = WriteFault
ended (Err write_errors.Memory) status = Memory

-- a status that the words alone or the outside bring about
abbrev pub IsUsageOrBroken : Status → Type 0
IsUsageOrBroken Usage = ⊤
IsUsageOrBroken WriteFault = ⊤
IsUsageOrBroken Memory = ⊤
IsUsageOrBroken Done = ⊥
IsUsageOrBroken Refused = ⊥
IsUsageOrBroken ReadFault = ⊥

-- a status with which a run ends that wrote all that is due
abbrev pub IsSettled : Status → Type 0
IsSettled Done = ⊤
IsSettled Usage = ⊤
IsSettled Refused = ⊤
IsSettled Memory = ⊥
IsSettled ReadFault = ⊥
IsSettled WriteFault = ⊥

-- writing broke off
abbrev pub IsBroken : Status → Type 0
IsBroken WriteFault = ⊤
IsBroken Memory = ⊤
IsBroken Done = ⊥
IsBroken Usage = ⊥
IsBroken Refused = ⊥
IsBroken ReadFault = ⊥

-- this line was written, and the status is this one; or writing broke off, and a front of it was written
abbrev pub Gives : Status → List ℕ → (old new : Option (List ℕ)) → Status → Type 0
Gives status line old new result = ((result ≡ status) × Appends old new line) ⊎ (IsBroken result × AppendsFront old new line)
