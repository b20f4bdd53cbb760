use Rattle.std.proofs.Common.{rules, ◌≡◌, ◌-◌, ◌∙◌, ap, sym, arith, length, get_or, None, pos}
use Rattle.std.proofs.lemmas.List.{length-map}
use Rattle.fragment_types.specs.Item.{Entry, entries_of, entry_of}
use Rattle.para_lines.specs.declared.boxes.Round.{Round}
use Rattle.para_lines.specs.Around.{chains, no_entry}
use Rattle.para_lines.specs.Boxes.{round_of, with_end}
use Rattle.para_lines.proofs.Chaining.{count, ending_all, ending_inside, ending_on, entry_there, inside_there}
use Rattle.para_lines.proofs.boxes.ends.Goals as goal

abbrev no_round : Round
no_round = record { inside = None; shifts = pos 0 }

pub bounds-rounds-place : goal.bounds-rounds-place
bounds-rounds-place c =
    let some = c.loop-place-test.true in
    let within = c.loop-place.invariant.within in
    let l = ap length c.requires in
    let m = length-map (chains (entries_of c.args.items.now)) (round_of (entries_of c.args.items.now)) in
    let n = count (entries_of c.args.items.now) in
    omega arith

pub mark_end-requires : goal.mark_end-requires
mark_end-requires c =
    let some = c.loop-place-test.true in
    let within = c.loop-place.invariant.within in
    let here = ap (λ (r : Round). r.inside) (inside_there (entries_of c.args.items.now) c.args.rounds.now (c.loop-place.place - 1) _ c.requires (omega arith)) in
    ending_inside (entries_of c.args.items.now) c.loop-place.place _ c.loop-place.ends.items some here c.loop-place.invariant

pub loop-place-preserved : goal.loop-place-preserved
loop-place-preserved c =
    let some = c.loop-place-test.true in
    let within = c.loop-place.invariant.within in
    let many = length-map c.args.items.now entry_of in
    let here = ap (λ (r : Round). r.inside) (inside_there (entries_of c.args.items.now) c.args.rounds.now (c.loop-place.place - 1) _ c.requires (omega arith)) in
    let there = entry_there c.args.items.now (c.loop-place.place - 1) c.index-items-place.result no_entry (omega arith) c.index-items-place.is in
    ending_on (entries_of c.args.items.now) c.loop-place.place no_entry _ c.loop-place.ends.items _ some here
    (c.mark_end.ensures ∙ ap (λ (e : Entry). with_end (c.loop-place.place - 1) e (get_or c.args.rounds.now (c.loop-place.place - 1) no_round).inside c.loop-place.ends.items) (sym there)) c.loop-place.invariant

pub returns : goal.returns
returns c =
    let z : c.loop-place.place ≡ 0 = search rules in
    ending_all (entries_of c.args.items.now) c.loop-place.ends.items (rw z at c.loop-place.invariant)
