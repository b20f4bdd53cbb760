-- Generated inputs, written out.
use Rattle.std.proofs.Common.{◌≡◌, refl, codes}
use Rattle.std.specs.Fmt.{digits}
use Rattle.generator.specs.Generator.{gen_input}

one : gen_input 1 ≡ codes "<html><body><p>a</p></body></html>\nshow\ntext 3 a\nshow\n"
unfolding digits gen_input
one = refl

five : gen_input 5 ≡ codes "<html><body><p>a</p><p>a</p><p>a</p><div style=\"writing-mode:vertical-rl\"><p>a b</p></div><p>a</p></body></html>\nshow\ntext 3 a\ntext 5 a a\ntext 7 a a a\ntext 10 a a a a\ntext 12 a a a a a\nshow\n"
unfolding digits gen_input
five = refl
