use Rattle.std.proofs.Common.{◌≤◌, length, subst, sym}
use Rattle.std.specs.Prelude.{encode_utf8_all}
use Rattle.para_prepare.specs.Kept.{chars_of}
use Rattle.para_prepare.specs.Views.{letters_at}
use Rattle.para_prepare.proofs.PartsLaws.{unit_bytes}
use Rattle.para_prepare.proofs.text.add_run.Goals as goal

pub inside-requires-clause-bytes : goal.inside-requires-clause-bytes
inside-requires-clause-bytes g c =
    subst (λ span. length (encode_utf8_all (chars_of (letters_at c.args.text.place.letters.now span))) ≤ 1048576) (sym c.span_of-span.ensures)
    (unit_bytes c.args.text.place.letters.now c.args.text.place.span.from c.args.text.place.span.to c.args.unit c.args.text.place.within c.requires c.args.text.place.bytes)
