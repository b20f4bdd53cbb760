use Rattle.std.proofs.Common.{◌≡◌, ◌∙◌, ap, drop, sym, Some, None}
use Rattle.std.specs.List.{position}
use Rattle.std.specs.Prelude.{nat_eq}
use Rattle.dom_store.proofs.DropLaws.{place_behind}
use Rattle.dom_store.proofs.siblings.place_of.Goals as goal

pub returns-in_err-place : goal.returns-in_err-place
returns-in_err-place c =
    let rest : c.split_at.result.1.now ≡ drop c.start_of-start.result c.args.numbers.now = c.split_at.ensures.back in
    let found = c.place_in.ensures ∙ ap (position (λ other. nat_eq other c.args.number)) rest in
    c.from_residual.ensures ∙ place_behind c.args.number c.start_of-start.result c.args.numbers.now None c.start_of-start.ensures.passed (sym c.in_err-place.was ∙ found)

pub returns : goal.returns
returns c =
    let rest : c.split_at.result.1.now ≡ drop c.start_of-start.result c.args.numbers.now = c.split_at.ensures.back in
    let found = c.place_in.ensures ∙ ap (position (λ other. nat_eq other c.args.number)) rest in
    place_behind c.args.number c.start_of-start.result c.args.numbers.now (Some c.in_ok-place.place) c.start_of-start.ensures.passed (sym c.in_ok-place.was ∙ found)
