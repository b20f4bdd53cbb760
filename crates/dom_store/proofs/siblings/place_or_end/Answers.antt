use Rattle.std.proofs.Common.{◌∙◌, ℕ, Option, ap, length}
use Rattle.std.specs.Prelude.{unwrap_or}
use Rattle.dom_store.proofs.DropLaws.{place_known}
use Rattle.dom_store.proofs.siblings.place_or_end.Goals as goal

pub returns : goal.returns
returns c =
    let numbers = c.args.numbers.now in
    c.unwrap_or.ensures ∙ (ap (λ (o : Option ℕ). unwrap_or o (length numbers)) c.place_of.ensures ∙ place_known c.args.number numbers)
