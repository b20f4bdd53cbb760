use Rattle.std.proofs.Common.{◌≡◌, ◌∙◌, ◌<◌, ◌≤◌, ap, subst, sym, Err, Some, List, ℕ, length}
use Rattle.std.specs.Prelude.{Option}
use Rattle.std.specs.Io.KnownBytes.{Consumes}
use Rattle.face_api.specs.Faces.{faces_of}
use Rattle.io_edge.specs.declared.error.ReadError.{ReadError}
use Rattle.input_due.specs.Due.{IsDueBy, IsOf, cause_word}
use Rattle.input_due.specs.Input.{IsDueOfDocument, IsDueOfRefusal, IsDueOver, longest_input}
use Rattle.input_due.specs.Owed.{IsOwedBy, IsOwedByDocument, IsOwedFor, OwesNothing, OwesOver}
use Rattle.input_due.proofs.DocumentLaws.{short_enough, too_long}
use Rattle.input_due.proofs.Taken.{taken_all, taken_long}
use Rattle.input_due.proofs.input.due_of_input.Goals as goal

pub returns-in-Err-TooLong-clause-due : goal.returns-in-Err-TooLong-clause-due
unfolding cause_word
returns-in-Err-TooLong-clause-due g c = λ input told end_ bytes.
    let taken = c.in-Err-TooLong.ensures.taken in
    let more : longest_input < length taken.0 = taken.3.0 (ap (λ (e : ReadError). Err e) c.in-Err-TooLong.field-0-is) in
    let long = taken_long input taken.0 longest_input _ _ told taken.1 more in
    too_long (IsDueOver c.args.view) IsDueOfRefusal (faces_of (λ vtable. (g.dyn-1.0.entry vtable).1) c.args.faces) c.args.follows input (end_, bytes) long

pub returns-in-Err-TooLong-clause-owed : goal.returns-in-Err-TooLong-clause-owed
returns-in-Err-TooLong-clause-owed g c = λ input told owed.
    let taken = c.in-Err-TooLong.ensures.taken in
    let more : longest_input < length taken.0 = taken.3.0 (ap (λ (e : ReadError). Err e) c.in-Err-TooLong.field-0-is) in
    let long = taken_long input taken.0 longest_input _ _ told taken.1 more in
    too_long (OwesOver c.args.view) OwesNothing (faces_of (λ vtable. (g.dyn-1.0.entry vtable).1) c.args.faces) c.args.follows input owed long

pub returns-in-Ok-due_of_document-clause-due : goal.returns-in-Ok-due_of_document-clause-due
returns-in-Ok-due_of_document-clause-due g c = λ input told end_ bytes.
    let taken = c.in-Ok.ensures.taken in
    let new = g.S.Source.left c.read_all.new.source in
    let due = c.in-Ok-due_of_document.due in
    let consumed : Consumes (Some input) new taken.0 = subst (λ (left : Option (List ℕ)). Consumes left new taken.0) told taken.1 in
    let all : input ≡ taken.0 = taken_all input taken.0 new consumed c.in-Ok.ensures.end in
    let whole : input ≡ c.as_slice.result.now = all ∙ sym taken.2 ∙ sym c.as_slice.ensures in
    let faces = faces_of (λ vtable. (g.dyn-1.0.entry vtable).1) c.args.faces in
    let P : List ℕ → Type 0 = λ own. IsDueBy (λ vtable. (g.dyn-1.0.entry vtable).1) (IsDueOfDocument faces c.args.view c.args.follows own) due in
    let Q : List ℕ → Type 0 = λ own. length own ≤ longest_input in
    let by = subst P (sym whole) c.in-Ok-due_of_document.ensures.due in
    short_enough (IsDueOver c.args.view) IsDueOfRefusal faces c.args.follows input (end_, bytes) (IsOf (λ vtable. (g.dyn-1.0.entry vtable).1) due end_ bytes) (subst Q (taken.2 ∙ sym all) c.in-Ok.ensures.within) (by end_ bytes)

pub returns-in-Ok-due_of_document-clause-owed : goal.returns-in-Ok-due_of_document-clause-owed
returns-in-Ok-due_of_document-clause-owed g c = λ input told owed.
    let taken = c.in-Ok.ensures.taken in
    let new = g.S.Source.left c.read_all.new.source in
    let due = c.in-Ok-due_of_document.due in
    let consumed : Consumes (Some input) new taken.0 = subst (λ (left : Option (List ℕ)). Consumes left new taken.0) told taken.1 in
    let all : input ≡ taken.0 = taken_all input taken.0 new consumed c.in-Ok.ensures.end in
    let whole : input ≡ c.as_slice.result.now = all ∙ sym taken.2 ∙ sym c.as_slice.ensures in
    let faces = faces_of (λ vtable. (g.dyn-1.0.entry vtable).1) c.args.faces in
    let P : List ℕ → Type 0 = λ own. IsOwedBy (λ vtable. (g.dyn-1.0.entry vtable).1) (IsOwedByDocument faces c.args.view c.args.follows own) due in
    let Q : List ℕ → Type 0 = λ own. length own ≤ longest_input in
    let by = subst P (sym whole) c.in-Ok-due_of_document.ensures.owed in
    short_enough (OwesOver c.args.view) OwesNothing faces c.args.follows input owed (IsOwedFor (λ vtable. (g.dyn-1.0.entry vtable).1) due owed) (subst Q (taken.2 ∙ sym all) c.in-Ok.ensures.within) (by owed)
