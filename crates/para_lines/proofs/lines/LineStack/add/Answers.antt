use Rattle.std.proofs.Common.{rules, ◌≡◌, ◌∙◌, ◌+◌, ◌≤◌, ◌^◌, ap, sym, subst, List, to_z, of_z, w64, length}
use Rattle.std.specs.Prelude.{All}
use Rattle.std.proofs.lemmas.Int.{to_z-of_z}
use Rattle.std.proofs.lemmas.List.Elements.{All-push}
use Rattle.fragment_types.specs.declared.fragment.Fragment.{Fragment}
use Rattle.fragment_types.specs.Fragment.{Pieces, none}
use Rattle.line_place.specs.Spread.{spread}
use Rattle.line_place.specs.Walk.{followed}
use Rattle.line_place.proofs.Fragments.{followed_push}
use Rattle.para_lines.specs.Reach.{IsLineWithin, IsNearLine}
use Rattle.para_lines.specs.Setting.{room_between, standings_in}
use Rattle.para_lines.proofs.SpreadLaws.{piece_within}
use Rattle.para_lines.proofs.StackLaws.{line_near, piece_is}
use Rattle.para_lines.proofs.lines.LineStack.add.Goals as goal

pub returns-clause-made : goal.returns-clause-made
returns-clause-made g c next =
    let b : to_z w64 (of_z w64 c.args.self.now.block) ≡ c.args.self.now.block = to_z-of_z w64 c.args.self.now.block (search rules) in
    let i : c.len-index.result ≡ length c.args.self.now.made.items = search rules in
    ap (λ (parts : List Fragment). followed parts next) c.in_ok-push.ensures.items
    ∙ followed_push c.args.self.now.made.items c.in_ok-line_fragment.field-0 next
    ∙ ap (followed c.args.self.now.made.items)
    (c.in_ok-line_fragment.ensures.piece next
    ∙ piece_is c.args.setting.now.container.now (length c.args.self.now.made.items) _ c.args.self.now.block _ _ _ _ next _ i b c.in_ok-line.ensures.placed.line_box.over_is c.in_ok-line.ensures.placed.line_box.under_is c.in_ok-line.ensures.placed.line_box.parts_are)

pub returns-clause-near : goal.returns-clause-near
returns-clause-near g c = λ all.
    let P : List Fragment → Type 0 = λ fs. All IsNearLine fs in
    let b : to_z w64 (of_z w64 c.args.self.now.block) ≡ c.args.self.now.block = to_z-of_z w64 c.args.self.now.block (search rules) in
    let f : Fragment = c.in_ok-line_fragment.field-0 in
    let near : IsNearLine f =
    line_near f c.args.self.now.block c.in_ok-line.line.over c.in_ok-line.line.under (2 ^ 34 + room_between (standings_in c.args.setting.now) c.args.self.now.from c.args.end)
    (c.in_ok-line_fragment.ensures.begins ∙ b) c.in_ok-line_fragment.ensures.reaches c.in_ok-line.ensures.placed.over_near c.in_ok-line.ensures.placed.under_near c.requires.block in
    subst P (sym c.in_ok-push.ensures.items) (All-push IsNearLine c.args.self.now.made.items f all near)

pub returns-clause-spread : goal.returns-clause-spread
returns-clause-spread g c bound most held near = λ all.
    let P : List Fragment → Type 0 = λ fs. All (IsLineWithin bound) fs in
    let Q : Pieces → Type 0 = λ ps. spread ps ≤ bound in
    let b : to_z w64 (of_z w64 c.args.self.now.block) ≡ c.args.self.now.block = to_z-of_z w64 c.args.self.now.block (search rules) in
    let i : c.len-index.result ≡ length c.args.self.now.made.items = search rules in
    let line : IsLineWithin bound c.in_ok-line_fragment.field-0 =
    subst Q (sym (c.in_ok-line_fragment.ensures.piece none
    ∙ piece_is c.args.setting.now.container.now (length c.args.self.now.made.items) _ c.args.self.now.block _ _ _ _ none _ i b c.in_ok-line.ensures.placed.line_box.over_is c.in_ok-line.ensures.placed.line_box.under_is c.in_ok-line.ensures.placed.line_box.parts_are))
    (piece_within c.args.setting.now.container.now (length c.args.self.now.made.items) c.args.self.now.block _ _ _ _ (length c.args.setting.now.boxes.now)
    (room_between (standings_in c.args.setting.now) c.args.self.now.from c.args.end) most bound c.in_ok-line.ensures.placed.line_box.over_is c.in_ok-line.ensures.placed.line_box.under_is c.in_ok-line.ensures.placed.line_box.parts_are
    c.args.setting.now.is_setting.container_is.low c.args.setting.now.is_setting.container_is.high c.in_ok-line.ensures.placed.over_near c.in_ok-line.ensures.placed.under_near (c.in_ok-line.ensures.placed.within most held) near) in
    subst P (sym c.in_ok-push.ensures.items) (All-push (IsLineWithin bound) c.args.self.now.made.items c.in_ok-line_fragment.field-0 all line)
