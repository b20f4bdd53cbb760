-- The words of lines, row by row, as docs/PROFILE/scripts.md has them. The definitions cite the table that the code reads, so a
-- wrong row would be right by definition; it is refused here.
use Rattle.std.proofs.Common.{◌≡◌, refl, ℕ, List, [], ◌∷◌}
use Rattle.std.specs.Prelude.{codes, true, false}
use Rattle.edit_script.specs.declared.command.Word.{Word}
use Rattle.edit_script.specs.declared.command.Word.TheVariants as word
use Rattle.edit_script.specs.Command.{orientations, words}

abbrev word_rows : List (List ℕ × Word)
word_rows =
    (codes "text", word.Text) ∷
    (codes "style", word.Style) ∷
    (codes "class", word.Class) ∷
    (codes "insert", word.Insert) ∷
    (codes "remove", word.Remove) ∷
    (codes "move", word.Move) ∷
    (codes "metric", word.Metric) ∷
    (codes "retire", word.Retire) ∷
    (codes "rule", word.Rule) ∷
    (codes "unrule", word.Unrule) ∷
    (codes "undo", word.Undo) ∷
    (codes "redo", word.Redo) ∷
    (codes "show", word.Show) ∷ []

the_words : words ≡ word_rows
unfolding words
the_words = refl

the_orientations : orientations ≡ (codes " h", false) ∷ (codes " u", true) ∷ []
unfolding orientations
the_orientations = refl
