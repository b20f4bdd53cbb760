use Rattle.std.proofs.Common.{rules, ◌≡◌, ◌∙◌, ap, sym, arith, suc, ◌+◌, ℕ, ℤ, pos, List, map, drop, get_or, w64, to_z, of_z, FitsSigned}
use Rattle.std.proofs.lemmas.Int.{to_z-of_z}
use Rattle.line_place.specs.Walk.{followed}
use Rattle.line_place.proofs.Fragments.{followed_push}
use Rattle.line_place.proofs.WalkLaws.{followed_all}
use Rattle.fragment_types.specs.declared.fragment.Fragment.{Fragment}
use Rattle.fragment_types.specs.Fragment.{Pieces}
use Rattle.relayout.specs.declared.flowed.LaidBox.{LaidBox}
use Rattle.relayout.specs.Content.{put, set_down}
use Rattle.relayout.specs.Flowed.{as_laid}
use Rattle.relayout.proofs.LaidLaws.{set_all, set_more}
use Rattle.relayout.proofs.content.set_down.Goals as goal

pub loop-k-preserved : goal.loop-k-preserved
loop-k-preserved c =
    let k : ℕ = c.loop-k.k in
    let size : ℤ = to_z w64 (of_z w64 c.args.size) in
    let place : ℤ = get_or c.args.places.now k (pos 0) in
    let fits : FitsSigned w64 place = search rules in
    let next : k + 1 ≡ suc k = omega arith in
    let rest : Pieces = set_down c.args.own size (drop (k + 1) (map as_laid c.args.laid.boxes.now)) (drop (k + 1) c.args.places.now) in
    ap (λ (made : List Fragment). followed made rest) c.in_ok-push.ensures.items
    ∙ followed_push c.loop-k.made.items c.in_ok-put.field-0 rest
    ∙ ap (followed c.loop-k.made.items)
    (c.in_ok-put.ensures rest
    ∙ ap (λ (child : LaidBox). put c.args.own size (as_laid child) (to_z w64 (of_z w64 place)) rest) (sym c.index-laid-k.is)
    ∙ ap (λ z. put c.args.own size (as_laid c.index-laid-k.result) z rest) (to_z-of_z w64 place fits)
    ∙ ap (λ n. put c.args.own size (as_laid c.index-laid-k.result) place (set_down c.args.own size (drop n (map as_laid c.args.laid.boxes.now)) (drop n c.args.places.now))) next
    ∙ sym (set_more c.args.own size c.args.laid.boxes.now c.args.places.now k c.index-laid-k.result (pos 0) c.loop-k-test.true c.requires.count c.index-laid-k.is))
    ∙ c.loop-k.invariant

pub returns : goal.returns
returns c =
    let size : ℤ = to_z w64 (of_z w64 c.args.size) in
    sym (followed_all c.loop-k.made.items)
    ∙ ap (followed c.loop-k.made.items) (sym (set_all c.args.own size c.args.laid.boxes.now c.args.places.now c.loop-k.k (omega arith)))
    ∙ c.loop-k.invariant
    ∙ ap (λ z. set_down c.args.own z (map as_laid c.args.laid.boxes.now) c.args.places.now) (to_z-of_z w64 c.args.size c.ranges.size)
