use Rattle.std.proofs.Common.{ap}
use Rattle.std.specs.String.{string_bytes}
use Rattle.style_types.specs.Tree.{kind_of}
use Rattle.box_gen.specs.Building.{filling_of}
use Rattle.box_gen.proofs.Results.{ok_gives}
use Rattle.box_gen.proofs.Contents.{words_content}
use Rattle.box_gen.proofs.Puts.{puts_are}
use Rattle.box_gen.proofs.generate.put_words.Goals as goal

pub returns-in-Text : goal.returns-in-Text
returns-in-Text c =
    ok_gives c.put_text.result _ _ c.put_text.ensures (λ x put.
    puts_are (filling_of c.args.filling.now) (filling_of c.put_text.new.self) _ _ (words_content c.args.node.now (string_bytes c.in-Text.text) (ap kind_of c.in-Text.is)) put)
