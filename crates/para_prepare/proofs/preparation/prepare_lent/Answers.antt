use Rattle.face_api.specs.Faces.{faces_of}
use Rattle.para_prepare.proofs.WholeLaws.{promised}
use Rattle.para_prepare.proofs.preparation.prepare_lent.Goals as goal

pub returns-clause-prepared : goal.returns-clause-prepared
returns-clause-prepared g c =
    (promised (faces_of (λ vtable. (g.dyn-1.0.entry vtable).1) c.args.faces.now) c.args.paragraph.base c.args.paragraph.style.now c.args.paragraph.items.now c.scratch-prepared.result c.scratch-prepared.ensures).prepared

pub returns-clause-count : goal.returns-clause-count
returns-clause-count g c =
    (promised (faces_of (λ vtable. (g.dyn-1.0.entry vtable).1) c.args.faces.now) c.args.paragraph.base c.args.paragraph.style.now c.args.paragraph.items.now c.scratch-prepared.result c.scratch-prepared.ensures).count

pub returns-clause-sources : goal.returns-clause-sources
returns-clause-sources g c =
    (promised (faces_of (λ vtable. (g.dyn-1.0.entry vtable).1) c.args.faces.now) c.args.paragraph.base c.args.paragraph.style.now c.args.paragraph.items.now c.scratch-prepared.result c.scratch-prepared.ensures).sources

pub returns-clause-atoms : goal.returns-clause-atoms
returns-clause-atoms g c =
    (promised (faces_of (λ vtable. (g.dyn-1.0.entry vtable).1) c.args.faces.now) c.args.paragraph.base c.args.paragraph.style.now c.args.paragraph.items.now c.scratch-prepared.result c.scratch-prepared.ensures).atoms

pub returns-clause-lengths : goal.returns-clause-lengths
returns-clause-lengths g c =
    (promised (faces_of (λ vtable. (g.dyn-1.0.entry vtable).1) c.args.faces.now) c.args.paragraph.base c.args.paragraph.style.now c.args.paragraph.items.now c.scratch-prepared.result c.scratch-prepared.ensures).lengths
