use Rattle.std.proofs.Common.{refl, ◌∙◌, ap, sym, arith, Global}
use Rattle.std.proofs.lemmas.List.{same_from_push}
use Rattle.std.specs.declared.vec.Vec.{Vec}
use Rattle.fragment_types.specs.declared.fragment.Fragment.{Fragment}
use Rattle.line_place.specs.declared.walk.Open.{Open}
use Rattle.line_place.proofs.Lengths.{held}
use Rattle.line_place.proofs.WalkLaws.{ended_as, innermost}
use Rattle.line_place.proofs.walk.Walk.close_innermost.Goals as goal

pub close_box-requires-clause-place : goal.close_box-requires-clause-place
close_box-requires-clause-place c = (innermost _ _ c.pop.new.self.items c.in-Some.begun c.requires.opened c.in-Some.ensures.items).0

pub close_box-requires-clause-left : goal.close_box-requires-clause-left
close_box-requires-clause-left c = (innermost _ _ c.pop.new.self.items c.in-Some.begun c.requires.opened c.in-Some.ensures.items).1

pub returns-in_ok-self-clause-closed : goal.returns-in_ok-self-clause-closed
returns-in_ok-self-clause-closed c os o is =
    let e = same_from_push c.pop.new.self.items os c.in-Some.begun o (sym c.in-Some.ensures.items ∙ is) in (
      e.0,
      λ next. ended_as c.args.stage.now.frame.now.boxes.now _ o c.args.stage.now.over c.args.end _ _ _ _ _ c.args.self.now.parts.items _ next (c.in_ok-self.ensures next)
          (ap (λ (x : Open). x.place) e.1) (ap (λ (x : Open). x.left) e.1) (ap (λ (x : Open). x.before.items) e.1) refl (held c.args.end (omega (arith, c.requires.end))) (ap (λ (x : Vec Fragment Global). x.items) c.replace-parts.ensures.value),
    )
