use Rattle.std.proofs.Common.{◌≡◌, ◌∙◌, ℕ, length}
use Rattle.std.proofs.lemmas.List.{length-map}
use Rattle.wm_chars.specs.declared.classes.BidiClass.TheVariants.{L}
use Rattle.bidi_explicit.specs.declared.paragraph.Levels.{Levels}
use Rattle.bidi_explicit.specs.declared.paragraph.Run.{Run}
use Rattle.std.specs.Prelude.{List, get_or}
use Rattle.bidi_resolve.proofs.LengthLaws.{length_resolved}
use Rattle.bidi_resolve.proofs.PlaceLaws.{inside}
use Rattle.bidi_resolve.specs.Neutral.{i1_i2, raised}
use Rattle.bidi_resolve.specs.Places.{run_level, gathered}
use Rattle.bidi_resolve.specs.Sequence.{run_classes, sequence_classes, sequence_levels}
use Rattle.bidi_resolve.proofs.laws.places_inside_are_resolved.Goals as goal

many : (chars : List ℕ) (levels : Levels) (run : Run) → length (run_classes chars levels run) ≡ length run.places.items
unfolding sequence_classes
many chars levels run = length_resolved _ _ _ _ _ (gathered L levels.class.items run.places.items) ∙ length-map run.places.items (λ p. get_or levels.class.items p L)

pub returns : goal.returns
unfolding sequence_levels
returns c = record {
  classes = λ chars levels run rise within. inside L run.places.items (run_classes chars levels run) levels.class.items rise within (many chars levels run);
  levels = λ chars levels run rise within. inside 0 run.places.items (i1_i2 (run_level levels.level.items run.places.items) (run_classes chars levels run)) levels.level.items rise within
      (length-map (run_classes chars levels run) (raised (run_level levels.level.items run.places.items)) ∙ many chars levels run);
}
