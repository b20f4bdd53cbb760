use Rattle.std.proofs.Common.{◌∙◌, ap, sym, ◌+◌, ◌∷◌, drop, arith}
use Rattle.std.proofs.lemmas.List.{drop_more, length-drop}
use Rattle.box_gen.specs.declared.opened.Opened.{Opened}
use Rattle.box_gen.specs.Building.{run_of}
use Rattle.box_gen.proofs.Pieces.{none_opened, one_opened}
use Rattle.box_gen.proofs.run.Run.put_opened_again.Goals as goal

pub loop-inline_box-preserved : goal.loop-inline_box-preserved
loop-inline_box-preserved c =
    let opened = c.args.opened.now in
    let i = c.loop-inline_box.inline_box-index in
    one_opened (run_of c.loop-inline_box.self) (run_of c.put_begin.new.self) (drop i opened) (drop (i + 1) opened) c.inline_box-item.result
    (drop_more opened i c.inline_box-item.result (omega arith) ∙ ap (λ (x : Opened). x ∷ drop (i + 1) opened) (sym c.inline_box-item.is)) c.in_ok-put_begin.ensures
    ∙ c.loop-inline_box.invariant

pub returns : goal.returns
returns c =
    let i = c.loop-inline_box.inline_box-index in
    none_opened (run_of c.loop-inline_box.self) _ (drop i c.args.opened.now) (length-drop i c.args.opened.now ∙ omega arith) c.loop-inline_box.invariant
