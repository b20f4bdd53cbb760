use Rattle.std.proofs.Common.{◌≡◌, ◌∙◌, ap}
use Rattle.std.specs.Str.{chars}
use Rattle.face_api.specs.Faces.{faces_of}
use Rattle.para_prepare.specs.Content.{raw_of}
use Rattle.para_prepare.specs.Flat.{flat_of}
use Rattle.para_prepare.specs.Kept.{chars_of}
use Rattle.para_prepare.specs.Parts.{sets_upright}
use Rattle.para_prepare.specs.Views.{letters_at}
use Rattle.para_prepare.proofs.FlatRuns.{text_count}
use Rattle.para_prepare.proofs.OneSize.{sizes_of}
use Rattle.para_prepare.proofs.PartsLaws.{order_of}
use Rattle.para_prepare.proofs.lists.FlatLists.add_clusters.Goals as goal

pub add_runs-requires-clause-one : goal.add_runs-requires-clause-one
add_runs-requires-clause-one g c =
    sizes_of c.args.text.style.now _ (chars c.deref.result.now) c.in_ok-units.units.items c.deref-2.result.now c.in_ok-units.ensures.units c.deref-2.ensures.value

pub returns-clause-count : goal.returns-clause-count
returns-clause-count g c =
    let text : chars c.deref.result.now ≡ chars_of (letters_at c.args.text.place.letters.now c.args.text.place.span) = ap chars c.deref.ensures ∙ c.in_ok-kept.ensures.chars in
    text_count (letters_at c.args.text.place.letters.now c.args.text.place.span) (sets_upright c.args.text.style.now)
    (raw_of (faces_of (λ vtable. (g.dyn-1.0.entry vtable).1) c.args.resources.faces.now) c.args.text.place.source c.args.text.node c.args.text.style.now) c.deref-2.result.now (flat_of c.args.self.now) (flat_of c.add_runs.new.self)
    (order_of (letters_at c.args.text.place.letters.now c.args.text.place.span) (chars c.deref.result.now) c.in_ok-units.units.items c.deref-2.result.now text c.deref-2.ensures.value c.in_ok-units.ensures.order) c.in_ok-add_runs.ensures
