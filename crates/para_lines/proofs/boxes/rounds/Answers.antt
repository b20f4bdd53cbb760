use Rattle.std.proofs.Common.{rules, ℕ, ◌≡◌, ◌<◌, ◌≤◌, ◌∙◌, ap, sym, List, arith, length, subst}
use Rattle.std.proofs.lemmas.List.{length-map}
use Rattle.fragment_types.specs.Item.{Entry, entries_of, entry_of}
use Rattle.para_lines.specs.declared.boxes.Round.{Round}
use Rattle.para_lines.specs.Around.{no_entry}
use Rattle.para_lines.specs.Boxes.{HasBounds, round_past}
use Rattle.para_lines.proofs.Chaining.{entry_there, rounding_all, rounding_inside, rounding_near, rounding_on}
use Rattle.para_lines.proofs.boxes.rounds.Goals as goal

told : (place : ℕ) (entry own : Entry) (round next : Round) (rounds more : List Round) → next ≡ round_past place entry round rounds → rounds ≡ more → own ≡ entry → next ≡ round_past place own round more
told place entry own round next rounds more e f g = e ∙ ap (round_past place entry round) f ∙ ap (λ (x : Entry). round_past place x round more) (sym g)

pub past-round-requires-clause-bounds : goal.past-round-requires-clause-bounds
past-round-requires-clause-bounds c =
    let lt : c.loop-place.place < length c.args.items.now = search rules in
    let many = length-map c.args.items.now entry_of in
    let there = entry_there c.args.items.now c.loop-place.place c.index-items-place.result no_entry lt c.index-items-place.is in
    let P : Entry → Type 0 = λ e. HasBounds e in
    subst P there (c.requires.bounds c.loop-place.place no_entry (omega arith))

pub past-round-requires-clause-shifts : goal.past-round-requires-clause-shifts
past-round-requires-clause-shifts c =
    let lt : c.loop-place.place < length c.args.items.now = search rules in
    let many = length-map c.args.items.now entry_of in
    let few = c.requires.few in
    rounding_near (entries_of c.args.items.now) c.loop-place.place c.loop-place.rounds.items c.loop-place.round c.requires.bounds (omega arith) (omega arith) c.loop-place.invariant

pub past-round-requires-clause-inside : goal.past-round-requires-clause-inside
past-round-requires-clause-inside c =
    let lt : c.loop-place.place < length c.args.items.now = search rules in
    let many = length-map c.args.items.now entry_of in
    rw c.deref.ensures.value (rounding_inside (entries_of c.args.items.now) c.loop-place.place c.loop-place.rounds.items _ c.loop-place.round (omega arith) c.in_ok-push.ensures.items c.loop-place.invariant)

pub loop-place-preserved : goal.loop-place-preserved
loop-place-preserved c =
    let lt : c.loop-place.place < length c.args.items.now = search rules in
    let many = length-map c.args.items.now entry_of in
    let there = entry_there c.args.items.now c.loop-place.place c.index-items-place.result no_entry lt c.index-items-place.is in
    rounding_on (entries_of c.args.items.now) c.loop-place.place no_entry c.loop-place.rounds.items _ c.loop-place.round _ (omega arith) c.in_ok-push.ensures.items (told c.loop-place.place _ _ c.loop-place.round c.past-round.result _ _ c.past-round.ensures c.deref.ensures.value there) c.loop-place.invariant

pub returns : goal.returns
returns c =
    let past : length c.args.items.now ≤ c.loop-place.place = search rules in
    let many = length-map c.args.items.now entry_of in
    rounding_all (entries_of c.args.items.now) c.loop-place.place c.loop-place.rounds.items c.loop-place.round (omega arith) c.loop-place.invariant
