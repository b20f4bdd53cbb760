-- The boxes stand whether the text was set or not.
use Rattle.std.specs.String.{string_bytes}
use Rattle.check_calls.proofs.Rows.{tree_stands}
use Rattle.check_calls.proofs.texts.set.Goals as goal

pub returns : goal.returns
returns c =
    tree_stands c.args.page.now.arena c.set_text.new.arena c.args.page.now.root c.args.node (string_bytes c.in_ok-text.text) c.in_ok-done.done c.in_ok-done.ensures.set c.in_ok-done.ensures.not c.requires
