use Rattle.std.proofs.Common.{rules, ◌≡◌, ◌<◌, ◌≤◌, true, false, bytes_eq, get_or, length, refl, Some, None}
use Rattle.std.proofs.lemmas.Option.{slice_get_read, slice_get_past}
use Rattle.std.specs.Prelude.{slice_get}
use Rattle.reading.specs.Names.{lowered}
use Rattle.css_values.proofs.ByLength.{at_passed, at_goes_on, at_here}
use Rattle.css_values.proofs.judging.named_at.Goals.{in-Some+else-same_name, in_default}
use Rattle.css_values.proofs.judging.named_at.Goals as goal

pub returns-then-same_name : goal.returns-then-same_name
returns-then-same_name c =
    let within : get_or c.args.places.now c.loop-place.place-index 0 < length c.args.table.now = search rules in
    let here : c.in-Some.field-0.now ≡ get_or c.args.table.now (get_or c.args.places.now c.loop-place.place-index 0) c.in-Some.field-0.now = c.in-Some.ensures.lookup.1 in
    let at : slice_get c.args.table.now (get_or c.args.places.now c.loop-place.place-index 0) ≡ Some c.in-Some.field-0.now = slice_get_read c.args.table.now (length c.args.table.now) (get_or c.args.places.now c.loop-place.place-index 0) c.in-Some.field-0.now refl within here in
    let same : bytes_eq (lowered c.in-Some.field-0.now.0.now) (lowered c.args.name.now) ≡ true = search rules in
    at_here c.args.table.now c.args.places.now c.loop-place.place-index 0 (lowered c.args.name.now) _ c.loop-place-test.true c.in-Some.field-0.now at same c.loop-place.invariant

pub loop-place-preserved : goal.loop-place-preserved
loop-place-preserved c = elim c.match-get.branch [
  | in-Some+else-same_name w ↦
      let within : get_or c.args.places.now c.loop-place.place-index 0 < length c.args.table.now = search rules in
      let here : w.in-Some.field-0.now ≡ get_or c.args.table.now (get_or c.args.places.now c.loop-place.place-index 0) w.in-Some.field-0.now = w.in-Some.ensures.lookup.1 in
      let at : slice_get c.args.table.now (get_or c.args.places.now c.loop-place.place-index 0) ≡ Some w.in-Some.field-0.now = slice_get_read c.args.table.now (length c.args.table.now) (get_or c.args.places.now c.loop-place.place-index 0) w.in-Some.field-0.now refl within here in
      let other : bytes_eq (lowered w.in-Some.field-0.now.0.now) (lowered c.args.name.now) ≡ false = search rules in
      at_goes_on c.args.table.now c.args.places.now c.loop-place.place-index 0 (lowered c.args.name.now) _ c.loop-place-test.true w.in-Some.field-0.now at other c.loop-place.invariant
  | in_default w ↦
      let past : length c.args.table.now ≤ get_or c.args.places.now c.loop-place.place-index 0 = search rules in
      let none : slice_get c.args.table.now (get_or c.args.places.now c.loop-place.place-index 0) ≡ None = slice_get_past c.args.table.now (get_or c.args.places.now c.loop-place.place-index 0) past in
      at_passed c.args.table.now c.args.places.now c.loop-place.place-index 0 (lowered c.args.name.now) _ c.loop-place-test.true none c.loop-place.invariant
]
