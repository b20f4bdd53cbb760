use Rattle.std.proofs.Common.{◌+◌, ◌∙◌, refl, sym, subst, arith, drop, List, ℕ}
use Rattle.face_api.specs.Faces.{faces_of}
use Rattle.wm_units.specs.declared.view.View.{View}
use Rattle.edit_script.specs.Script.{StepAt}
use Rattle.edit_script.specs.Views.{step_at, step_of, steps_of}
use Rattle.session.specs.History.{Opened}
use Rattle.edit_job.specs.Owed.{Logged, OwesStep, OwesStepIn, logged_in}
use Rattle.edit_job.specs.Told.{HasRoom}
use Rattle.edit_job.proofs.OwedLaws.{IsLeft, all_left, left_off, left_on, none_left}
use Rattle.edit_job.proofs.StepLaws.{IsOnTheWay, all_gone, finished, line_fits, line_on, none_gone, none_on, room_for, room_on, way_off, way_on}
use Rattle.edit_job.proofs.steps.tell_steps.Goals as goal

pub tell_step-requires-clause-fits : goal.tell_step-requires-clause-fits
tell_step-requires-clause-fits g c = line_fits c.args.script.now c.loop-line.line-index c.line-item.result c.loop-line-test.true c.line-item.is c.requires.fit

pub tell_step-requires-clause-room : goal.tell_step-requires-clause-room
tell_step-requires-clause-room g c =
    let now = c.loop-line.session in
    let faces = faces_of (λ vtable. (g.dyn-1.0.entry vtable).1) now.faces in
    let sink = g.K.Sink.held c.loop-line.sink in
    room_for faces faces now now (step_at c.line-item.result) (steps_of (drop (c.loop-line.line-index + 1) c.args.script.now)) sink sink
    (subst (HasRoom faces now) (line_on c.args.script.now c.loop-line.line-index c.line-item.result c.loop-line-test.true c.line-item.is) c.loop-line.invariant.room)

pub returns-in_err-tell_step-clause-front : goal.returns-in_err-tell_step-clause-front
returns-in_err-tell_step-clause-front g c = λ most opened last due holds.
    let first = c.args.session.now in
    let now = c.loop-line.session in
    let new = c.tell_step.new.session in
    let faces = faces_of (λ vtable. (g.dyn-1.0.entry vtable).1) now.faces in
    let old = g.K.Sink.held c.args.sink.now in
    let mid = g.K.Sink.held c.loop-line.sink in
    let all = steps_of c.args.script.now in
    let P : List StepAt → Type 0 = λ (behind : List StepAt). IsOnTheWay faces now first.view opened old mid all behind in
    way_off faces (faces_of (λ vtable. (g.dyn-1.0.entry vtable).1) new.faces) now new (step_at c.line-item.result) (steps_of (drop (c.loop-line.line-index + 1) c.args.script.now)) mid (g.K.Sink.held c.tell_step.new.sink)
    first.view c.loop-line.invariant.same opened old all c.steps_have_one_end.ensures
    (subst P (line_on c.args.script.now c.loop-line.line-index c.line-item.result c.loop-line-test.true c.line-item.is) (c.loop-line.invariant.way most opened holds)) c.tell_step.ensures.front last due

pub loop-line-preserved : goal.loop-line-preserved
loop-line-preserved g c =
    let first = c.args.session.now in
    let now = c.loop-line.session in
    let new = c.tell_step.new.session in
    let faces = faces_of (λ vtable. (g.dyn-1.0.entry vtable).1) now.faces in
    let others = faces_of (λ vtable. (g.dyn-1.0.entry vtable).1) new.faces in
    let old = g.K.Sink.held c.args.sink.now in
    let mid = g.K.Sink.held c.loop-line.sink in
    let out = g.K.Sink.held c.tell_step.new.sink in
    let all = steps_of c.args.script.now in
    let here = step_at c.line-item.result in
    let rest = steps_of (drop (c.loop-line.line-index + 1) c.args.script.now) in
    let cut = line_on c.args.script.now c.loop-line.line-index c.line-item.result c.loop-line-test.true c.line-item.is in
    let later = c.loop-line.invariant.later in
    let also = c.tell_step.ensures.later in
    let pays = c.in_ok-tell_step.ensures.paid in
    record {
      way = λ most opened holds.
          let P : List StepAt → Type 0 = λ (behind : List StepAt). IsOnTheWay faces now first.view opened old mid all behind in
          way_on faces others now new here rest mid out first.view c.loop-line.invariant.same opened old all (subst P cut (c.loop-line.invariant.way most opened holds)) c.in_ok-tell_step.ensures.whole;
      room = room_on faces others now new here rest mid out (subst (HasRoom faces now) cut c.loop-line.invariant.room) c.in_ok-tell_step.ensures.whole;
      left = λ owing last paid owed.
          let here_ : (mid more : _) (other : Logged) → OwesStep first.view (logged_in faces now) mid (step_of c.line-item.result.what) other more → OwesStepIn faces now mid (step_of c.line-item.result.what) other more =
          λ mid more other step. subst (λ (view : View). OwesStep view (logged_in faces now) mid (step_of c.line-item.result.what) other more) (sym c.loop-line.invariant.same) step in
          let Q : List StepAt → Type 0 = λ (behind : List StepAt). IsLeft first.view now (logged_in faces now) behind owing last c.args.prepared.now c.loop-line.prepared c.args.arranged.now c.loop-line.arranged in
          left_on first.view owing last c.args.prepared.now c.args.arranged.now now new (logged_in faces now) (logged_in others new) here rest
          c.loop-line.prepared c.tell_step.new.prepared c.loop-line.arranged c.tell_step.new.arranged
          (λ mid more other has step. c.tell_step.ensures.costs mid more other has (here_ mid more other step))
          (λ mid more other has step. pays.paid mid more other has (here_ mid more other step))
          (λ mid more other step. pays.leads mid more other (here_ mid more other step))
          (subst Q cut (c.loop-line.invariant.left owing last paid owed));
      sound = c.in_ok-tell_step.ensures.sound;
      same = c.tell_step.ensures.view ∙ c.loop-line.invariant.same;
      later = omega (arith, later, also);
    }

pub returns-clause-whole : goal.returns-clause-whole
returns-clause-whole g c = λ most opened holds.
    let first = c.args.session.now in
    let over = c.loop-line-test.false in
    let all = steps_of c.args.script.now in
    let old = g.K.Sink.held c.args.sink.now in
    let out = g.K.Sink.held c.loop-line.sink in
    let P : List StepAt → Type 0 = λ (behind : List StepAt). IsOnTheWay (faces_of (λ vtable. (g.dyn-1.0.entry vtable).1) c.loop-line.session.faces) c.loop-line.session first.view opened old out all behind in
    let last = subst P (none_on c.args.script.now c.loop-line.line-index (omega (arith, over))) (c.loop-line.invariant.way most opened holds) in
    let gone = all_gone first.view opened last.opened old out all last.gone in
    record { last = last.opened; due = gone.0; much = last.most; steps_are = gone.1; holds = last.holds; appended = gone.2 }

pub returns-clause-front : goal.returns-clause-front
returns-clause-front g c = λ most opened last due holds.
    let first = c.args.session.now in
    let over = c.loop-line-test.false in
    let all = steps_of c.args.script.now in
    let old = g.K.Sink.held c.args.sink.now in
    let out = g.K.Sink.held c.loop-line.sink in
    let P : List StepAt → Type 0 = λ (behind : List StepAt). IsOnTheWay (faces_of (λ vtable. (g.dyn-1.0.entry vtable).1) c.loop-line.session.faces) c.loop-line.session first.view opened old out all behind in
    let at = subst P (none_on c.args.script.now c.loop-line.line-index (omega (arith, over))) (c.loop-line.invariant.way most opened holds) in
    finished first.view c.steps_have_one_end.ensures opened at.opened old out all at.gone last due

pub loop-line-init : goal.loop-line-init
loop-line-init g c =
    let first = c.args.session.now in
    let faces = faces_of (λ vtable. (g.dyn-1.0.entry vtable).1) first.faces in
    record {
      way = λ most opened holds. record {
        opened = opened;
        most = most;
        gone = none_gone first.view opened (g.K.Sink.held c.args.sink.now) (steps_of c.args.script.now);
        holds = holds;
      };
      room = c.requires.room;
      left = λ owing last paid owed. all_left first.view owing last c.args.prepared.now c.args.arranged.now first (logged_in faces first) (steps_of c.args.script.now) paid owed;
      sound = c.requires.sound;
      same = refl;
      later = omega arith;
    }

pub returns-in_err-tell_step-clause-costs : goal.returns-in_err-tell_step-clause-costs
returns-in_err-tell_step-clause-costs g c = λ owing last paid owed.
    let first = c.args.session.now in
    let now = c.loop-line.session in
    let here = logged_in (faces_of (λ vtable. (g.dyn-1.0.entry vtable).1) now.faces) now in
    let Q : List StepAt → Type 0 = λ (behind : List StepAt). IsLeft first.view now here behind owing last c.args.prepared.now c.loop-line.prepared c.args.arranged.now c.loop-line.arranged in
    left_off first.view owing last c.args.prepared.now c.args.arranged.now now here (step_at c.line-item.result) (steps_of (drop (c.loop-line.line-index + 1) c.args.script.now))
    c.loop-line.prepared c.tell_step.new.prepared c.loop-line.arranged c.tell_step.new.arranged
    (λ mid more other has step. c.tell_step.ensures.costs mid more other has
    (subst (λ (view : View). OwesStep view here mid (step_of c.line-item.result.what) other more) (sym c.loop-line.invariant.same) step))
    (subst Q (line_on c.args.script.now c.loop-line.line-index c.line-item.result c.loop-line-test.true c.line-item.is) (c.loop-line.invariant.left owing last paid owed))

pub returns-clause-costs : goal.returns-clause-costs
returns-clause-costs g c = λ owing last paid owed.
    let first = c.args.session.now in
    let now = c.loop-line.session in
    let here = logged_in (faces_of (λ vtable. (g.dyn-1.0.entry vtable).1) now.faces) now in
    let over = c.loop-line-test.false in
    let Q : List StepAt → Type 0 = λ (behind : List StepAt). IsLeft first.view now here behind owing last c.args.prepared.now c.loop-line.prepared c.args.arranged.now c.loop-line.arranged in
    none_left first.view owing last c.args.prepared.now c.args.arranged.now now here c.loop-line.prepared c.loop-line.arranged
    (subst Q (none_on c.args.script.now c.loop-line.line-index (omega (arith, over))) (c.loop-line.invariant.left owing last paid owed))
