use Rattle.std.proofs.Common.{arith}
use Rattle.para_prepare.proofs.ContentLaws.{few_letters}
use Rattle.para_prepare.proofs.PlacedLaws.{placed_of}
use Rattle.para_prepare.proofs.SourceLaws.{covered}
use Rattle.para_prepare.proofs.content.content_of.Goals as goal

pub returns-clause-sound : goal.returns-clause-sound
returns-clause-sound g c = record {
  within = λ k d lt. (c.in_ok-parts.ensures.sound k d lt).0;
  sizes = λ k d lt. (c.in_ok-parts.ensures.sound k d lt).1;
  placed = placed_of c.args.kept.items.now c.args.kept.letters.items c.args.kept.letters_are c.args.kept.bytes;
  covered = covered _ _ _ c.in_ok-parts.ensures.parts;
}

pub returns-clause-count : goal.returns-clause-count
returns-clause-count g c =
    let few = few_letters c.args.kept.items.now c.args.kept.letters.items c.args.kept.letters_are in
    let parts = c.in_ok-parts.ensures.count in
    omega arith
