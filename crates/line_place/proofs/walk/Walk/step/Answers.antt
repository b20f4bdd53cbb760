use Rattle.std.proofs.Common.{[], ◌≡◌, ◌∙◌, ap, sym, refl, arith, subst, List, ◌∷◌, length, ◌<◌, ◌+ℤ◌, Global}
use Rattle.std.proofs.lemmas.Int.{ints}
use Rattle.std.specs.declared.vec.Vec.{Vec}
use Rattle.line_place.specs.declared.line.LineBox.{LineBox}
use Rattle.line_place.specs.declared.walk.Open.{Open}
use Rattle.line_place.specs.Line.{line_in}
use Rattle.line_place.specs.Marks.{Mark, begins, ends, box_at, mark_of}
use Rattle.line_place.specs.Placing as rule
use Rattle.line_place.specs.Reach.{CanStand, IsOfBox, mark_reach, open_behind}
use Rattle.line_place.specs.Walk.{AreOpen, whole}
use Rattle.line_place.proofs.WalkLaws.{begin_near, begin_whole, end_whole, ended_as, fewer_open, one_fewer, open_more, show_whole}
use Rattle.line_place.proofs.walk.Walk.step.Goals as goal

pub returns-in_ok-begin-in-Begins-clause-opened : goal.returns-in_ok-begin-in-Begins-clause-opened
returns-in_ok-begin-in-Begins-clause-opened g c =
    let m : mark_of c.args.mark.now ≡ begins c.in-Begins.place c.in-Begins.edge = ap mark_of c.in-Begins.is in
    let P : Mark → Type 0 = λ x. IsOfBox (length c.args.stage.now.frame.now.boxes.now) x in
    let lt : c.in-Begins.place < length c.args.stage.now.frame.now.boxes.now = subst P m c.requires.of_box in
    let b = c.box_at.ensures.is in
    let e : rule.left_margin c.box_at.result.now c.in-Begins.edge ≡ rule.left_margin (box_at c.args.stage.now.frame.now.boxes.now c.in-Begins.place) c.in-Begins.edge =
    ap (λ (x : LineBox). rule.left_margin x c.in-Begins.edge) b in
    let r : mark_reach c.args.stage.now.frame.now.boxes.now (mark_of c.args.mark.now) ≡ mark_reach c.args.stage.now.frame.now.boxes.now (begins c.in-Begins.place c.in-Begins.edge) =
    ap (mark_reach c.args.stage.now.frame.now.boxes.now) m in
    let near = begin_near c.args.stage.now.frame.now.boxes.now c.in-Begins.place c.in-Begins.edge in
    let Q : List Open → Type 0 = λ l. AreOpen (length c.args.stage.now.frame.now.boxes.now) l in
    subst Q (sym c.in_ok-begin-in-Begins.ensures.opened) (open_more _ c.args.self.now.opened.items _ c.requires.opened lt (omega (arith, ints, e, r, near, c.requires.at)))

pub returns-in_ok-begin-in-Begins-clause-whole : goal.returns-in_ok-begin-in-Begins-clause-whole
returns-in_ok-begin-in-Begins-clause-whole g c marks =
    let m : mark_of c.args.mark.now ≡ begins c.in-Begins.place c.in-Begins.edge = ap mark_of c.in-Begins.is in
    let P : Mark → Type 0 = λ x. IsOfBox (length c.args.stage.now.frame.now.boxes.now) x in
    let lt : c.in-Begins.place < length c.args.stage.now.frame.now.boxes.now = subst P m c.requires.of_box in
    let b = c.box_at.ensures.is in
    begin_whole (line_in c.args.stage.now.frame.now []) c.args.stage.now.over c.args.self.now c.begin.new.self c.in-Begins.place c.in-Begins.edge c.box_at.result.now _ marks b
    c.in_ok-begin-in-Begins.ensures.at c.in_ok-begin-in-Begins.ensures.opened c.in_ok-begin-in-Begins.ensures.parts refl refl refl
    ∙ sym (ap (λ (x : Mark). whole (line_in c.args.stage.now.frame.now []) c.args.stage.now.over c.args.self.now (x ∷ marks)) m)

pub returns-in_ok-end-in-Ends-clause-opened : goal.returns-in_ok-end-in-Ends-clause-opened
returns-in_ok-end-in-Ends-clause-opened g c =
    let P : Mark → Type 0 = λ x. CanStand (length c.args.self.now.opened.items) x in
    let some : 0 < length c.args.self.now.opened.items = subst P (ap mark_of c.in-Ends.is) c.requires.stands in
    fewer_open _ c.args.self.now.opened.items _ some c.requires.opened (λ os o is. (c.in_ok-end-in-Ends.ensures.closed os o is).0)

pub returns-in_ok-end-in-Ends-clause-count : goal.returns-in_ok-end-in-Ends-clause-count
returns-in_ok-end-in-Ends-clause-count g c =
    let P : Mark → Type 0 = λ x. CanStand (length c.args.self.now.opened.items) x in
    let some : 0 < length c.args.self.now.opened.items = subst P (ap mark_of c.in-Ends.is) c.requires.stands in
    one_fewer c.args.self.now.opened.items _ some (λ os o is. (c.in_ok-end-in-Ends.ensures.closed os o is).0)
    ∙ sym (ap (open_behind (length c.args.self.now.opened.items)) (ap mark_of c.in-Ends.is))

pub returns-in_ok-end-in-Ends-clause-whole : goal.returns-in_ok-end-in-Ends-clause-whole
returns-in_ok-end-in-Ends-clause-whole g c marks =
    let P : Mark → Type 0 = λ x. CanStand (length c.args.self.now.opened.items) x in
    let m : mark_of c.args.mark.now ≡ ends c.in-Ends.place c.in-Ends.edge = ap mark_of c.in-Ends.is in
    let some : 0 < length c.args.self.now.opened.items = subst P m c.requires.stands in
    end_whole (line_in c.args.stage.now.frame.now []) c.args.stage.now.over c.args.self.now c.end.new.self c.in-Ends.place c.in-Ends.edge marks some c.in_ok-end-in-Ends.ensures.at
    (λ os o is.
    let k = c.in_ok-end-in-Ends.ensures.closed os o is in (
      k.0,
      λ next. ended_as c.args.stage.now.frame.now.boxes.now _ o c.args.stage.now.over (c.args.self.now.at +ℤ rule.right (box_at c.args.stage.now.frame.now.boxes.now c.in-Ends.place) c.in-Ends.edge)
          _ _ _ _ _ c.args.self.now.parts.items _ next (k.1 next) refl refl refl refl refl refl,
    ))
    ∙ sym (ap (λ (x : Mark). whole (line_in c.args.stage.now.frame.now []) c.args.stage.now.over c.args.self.now (x ∷ marks)) m)

pub returns-in_ok-show-in-Shows-clause-whole : goal.returns-in_ok-show-in-Shows-clause-whole
returns-in_ok-show-in-Shows-clause-whole g c marks =
    show_whole (line_in c.args.stage.now.frame.now []) c.args.stage.now.over _ c.args.self.now c.show.new.self c.in-Shows.run' marks
    c.in_ok-show-in-Shows.ensures.at (ap (λ (x : Vec Open Global). x.items) c.in_ok-show-in-Shows.ensures.opened) refl c.in_ok-show-in-Shows.ensures.parts
    ∙ sym (ap (λ (x : Mark). whole (line_in c.args.stage.now.frame.now []) c.args.stage.now.over c.args.self.now (x ∷ marks)) (ap mark_of c.in-Shows.is))
