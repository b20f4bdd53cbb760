use Rattle.std.proofs.Common.{◌≡◌, length, refl, true, rules, arith}
use Rattle.std.specs.Prelude.{All}
use Rattle.std.proofs.lemmas.List.{length-map}
use Rattle.face_api.specs.Faces.{faces_of}
use Rattle.fragment_types.specs.Item.{entries_of, entry_of}
use Rattle.para_prepare.specs.Content.{parts}
use Rattle.para_prepare.specs.Flat.{HasBoundsIn, flat_of}
use Rattle.para_prepare.specs.Parts.{raws}
use Rattle.para_prepare.specs.Preparation.{prepared_by, standings_of}
use Rattle.para_prepare.specs.Whole.{IsPreparedFrom}
use Rattle.para_prepare.proofs.ContentLaws.{few_letters}
use Rattle.para_prepare.proofs.PreparationLaws.{prepared_whole}
use Rattle.para_prepare.proofs.SinglesLaws.{alike, some_joined}
use Rattle.para_prepare.proofs.WholeLaws.{is_prepared}
use Rattle.para_prepare.proofs.preparation.by_lists.Goals as goal

pub of_lists-requires-clause-alike : goal.of_lists-requires-clause-alike
of_lists-requires-clause-alike g c =
    alike (parts (faces_of (λ vtable. (g.dyn-1.0.entry vtable).1) c.args.resources.faces.now) (entries_of c.args.kept.now.items.now)) (flat_of c.in_ok-made.made) c.in_ok-made.ensures.grown

pub returns : goal.returns
returns g c =
    let faces = faces_of (λ vtable. (g.dyn-1.0.entry vtable).1) c.args.resources.faces.now in
    let items = c.args.kept.now.items.now in
    let entries = entries_of items in
    let style = c.args.paragraph.style.now in
    let given = c.args.paragraph.base in
    let tried : c.is_tried.result ≡ true = search rules in
    let few = few_letters items c.args.kept.now.letters.items c.args.kept.now.letters_are in
    let count = c.in_ok-made.ensures.count in
    let many = length-map items entry_of in
    some_joined c.of_lists.result (λ p. p ≡ prepared_by (raws (parts faces entries)) (standings_of given style (parts faces entries))) (λ p. length p.items ≡ length c.in_ok-made.made.items.items) (λ p. All HasBoundsIn p.items)
    (IsPreparedFrom faces given style entries)
    (λ p is long bounds. is_prepared faces given style entries p (prepared_whole faces given style entries (parts faces entries) (standings_of given style (parts faces entries)) p refl refl is) (omega arith) bounds)
    (c.of_lists.ensures.prepared style (parts faces entries) (c.is_tried.ensures tried) c.in_ok-made.ensures.grown) c.of_lists.ensures.count c.of_lists.ensures.bounds
