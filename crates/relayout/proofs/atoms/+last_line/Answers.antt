use Rattle.std.proofs.Common.{rules, ◌≡◌, ◌∙◌, ap, sym, arith, ◌+◌, ◌<◌, ◌≤◌, length, Some, true, ◌+ℤ◌, unsigned_abs, w64, to_z, of_z}
use Rattle.std.specs.Global.{Vec}
use Rattle.std.proofs.lemmas.Int.{ints, to_z-of_z}
use Rattle.fragment_types.specs.declared.fragment.BoxPart.{BoxPart}
use Rattle.fragment_types.specs.declared.fragment.Fragment.{Fragment}
use Rattle.fragment_types.specs.Fragment.{block, kind_of, pieces_of}
use Rattle.relayout.specs.Atoms.{further, last_line, same_mode}
use Rattle.relayout.specs.Flowed.{Part, part_of}
use Rattle.relayout.specs.Near.{line_reach}
use Rattle.relayout.proofs.AtomLaws.{block_line, block_reach, far_is, far_near, line_back, near_back, none_back, sum_is}
use Rattle.relayout.proofs.atoms.+last_line.Goals as goal

pub last_line-loop-k-preserved : goal.last_line-loop-k-preserved
last_line-loop-k-preserved t c = λ near.
    let fs = c.args.fragments.now in
    let f = c.index-fragments-fragments.result in
    let lt : c.loop-k.k < length fs = c.loop-k-test.true in
    let own = near_back fs c.loop-k.k f lt c.index-fragments-fragments.is in
    none_back c.args.mode fs c.loop-k.k f lt c.index-fragments-fragments.is (sym (c.line_of.ensures.value (omega arith)) ∙ c.in_default.is) ∙ c.loop-k.invariant near

pub last_line-returns-in-Some-clause-value : goal.last_line-returns-in-Some-clause-value
last_line-returns-in-Some-clause-value t c = λ near.
    let fs = c.args.fragments.now in
    let f = c.index-fragments-fragments.result in
    let lt : c.loop-k.k < length fs = c.loop-k-test.true in
    let own = near_back fs c.loop-k.k f lt c.index-fragments-fragments.is in
    sym (line_back c.args.mode fs c.loop-k.k f c.in-Some.found lt c.index-fragments-fragments.is (sym (c.line_of.ensures.value (omega arith)) ∙ c.in-Some.is)) ∙ c.loop-k.invariant near

pub last_line-returns-in-Some-clause-near : goal.last_line-returns-in-Some-clause-near
last_line-returns-in-Some-clause-near t c = λ near.
    let fs = c.args.fragments.now in
    let f = c.index-fragments-fragments.result in
    let lt : c.loop-k.k < length fs = c.loop-k-test.true in
    let own = near_back fs c.loop-k.k f lt c.index-fragments-fragments.is in
    let found = c.in-Some.ensures.near (omega arith) in
    omega arith

pub line_of-returns-in_ok-found-in-Box-clause-value : goal.line_of-returns-in_ok-found-in-Box-clause-value
line_of-returns-in_ok-found-in-Box-clause-value t c = λ near.
    let part : Part = part_of c.args.fragment.now in
    let o = c.deref-own.result.now in
    let own = o.mode in
    let kind : part.kind ≡ block own o.dir o.content o.definite o.start o.end o.through
    = ap kind_of c.in-Box.is ∙ ap (λ (b : BoxPart). block b.mode b.dir b.content b.definite b.start b.end b.through) (sym c.deref-own.ensures) in
    let whole = block_reach own o.dir o.content o.definite o.start o.end o.through part kind in
    let inner : pieces_of c.deref-in-Box.result.now ≡ part.inner = ap pieces_of (c.deref-in-Box.ensures.value ∙ ap (λ (v : Vec Fragment). v.items) c.deref.ensures) in
    let reach : line_reach (pieces_of c.deref-in-Box.result.now) ≡ line_reach part.inner = ap line_reach inner in
    let close = c.in_ok-found-in-Box.ensures.near (omega arith) in
    let here : Some c.in_ok-found-in-Box.found ≡ last_line c.args.mode part.inner = c.in_ok-found-in-Box.ensures.value (omega arith) ∙ ap (last_line c.args.mode) inner in
    let same : same_mode own c.args.mode ≡ true = search rules in
    let b : to_z w64 (of_z w64 part.rect.b) ≡ part.rect.b = to_z-of_z w64 part.rect.b (search rules) in
    let cb : to_z w64 (of_z w64 o.content.b) ≡ o.content.b = to_z-of_z w64 o.content.b (search rules) in
    let distance : c.sum.result ≡ part.rect.b +ℤ o.content.b = sum_is c.sum.result part.rect.b _ o.content.b _ b cb c.sum.ensures (omega arith) in
    let d : to_z w64 (of_z w64 c.sum.result) ≡ c.sum.result = to_z-of_z w64 c.sum.result (search rules) in
    let short : unsigned_abs c.sum.result ≤ unsigned_abs part.rect.b + unsigned_abs o.content.b = rw distance (omega (arith, ints)) in
    let far : Some c.further.result ≡ further c.sum.result (Some c.in_ok-found-in-Box.found) = far_is c.sum.result _ c.in_ok-found-in-Box.found c.further.result d c.further.ensures (omega arith) in
    block_line c.args.mode own o.dir o.content o.definite o.start o.end o.through part _ c.in_ok-found-in-Box.found c.further.result
    kind same here far distance

pub line_of-returns-in_ok-found-in-Box-clause-near : goal.line_of-returns-in_ok-found-in-Box-clause-near
line_of-returns-in_ok-found-in-Box-clause-near t c = λ near.
    let part : Part = part_of c.args.fragment.now in
    let o = c.deref-own.result.now in
    let own = o.mode in
    let kind : part.kind ≡ block own o.dir o.content o.definite o.start o.end o.through
    = ap kind_of c.in-Box.is ∙ ap (λ (b : BoxPart). block b.mode b.dir b.content b.definite b.start b.end b.through) (sym c.deref-own.ensures) in
    let whole = block_reach own o.dir o.content o.definite o.start o.end o.through part kind in
    let inner : pieces_of c.deref-in-Box.result.now ≡ part.inner = ap pieces_of (c.deref-in-Box.ensures.value ∙ ap (λ (v : Vec Fragment). v.items) c.deref.ensures) in
    let reach : line_reach (pieces_of c.deref-in-Box.result.now) ≡ line_reach part.inner = ap line_reach inner in
    let close = c.in_ok-found-in-Box.ensures.near (omega arith) in
    let b : to_z w64 (of_z w64 part.rect.b) ≡ part.rect.b = to_z-of_z w64 part.rect.b (search rules) in
    let cb : to_z w64 (of_z w64 o.content.b) ≡ o.content.b = to_z-of_z w64 o.content.b (search rules) in
    let distance : c.sum.result ≡ part.rect.b +ℤ o.content.b = sum_is c.sum.result part.rect.b _ o.content.b _ b cb c.sum.ensures (omega arith) in
    let d : to_z w64 (of_z w64 c.sum.result) ≡ c.sum.result = to_z-of_z w64 c.sum.result (search rules) in
    let short : unsigned_abs c.sum.result ≤ unsigned_abs part.rect.b + unsigned_abs o.content.b = rw distance (omega (arith, ints)) in
    let far : Some c.further.result ≡ further c.sum.result (Some c.in_ok-found-in-Box.found) = far_is c.sum.result _ c.in_ok-found-in-Box.found c.further.result d c.further.ensures (omega arith) in
    let reached = far_near c.sum.result c.in_ok-found-in-Box.found c.further.result (line_reach part.inner) far (omega arith) in
    omega arith
