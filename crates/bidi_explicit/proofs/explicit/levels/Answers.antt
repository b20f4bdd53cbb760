use Rattle.std.proofs.Common.{◌≡◌, ◌∙◌, sym, ap, length}
use Rattle.std.proofs.lemmas.List.Elements.{All-same}
use Rattle.bidi_explicit.specs.Paragraph.{IsBetween}
use Rattle.bidi_explicit.specs.Explicit.{explicit_levels}
use Rattle.bidi_explicit.proofs.Between.{explicit_between, explicit_levels_length, explicit_classes_length, removed_marks_length}
use Rattle.bidi_explicit.proofs.explicit.levels.Goals as goal

pub returns-clause-aligned : goal.returns-clause-aligned
returns-clause-aligned c =
    let classes = c.args.classes.now in
    let original : length c.in_ok-original.original.items ≡ length classes = ap length c.in_ok-original.ensures.items in
    record {
      level = ap length c.in_ok-level.ensures.level ∙ explicit_levels_length c.args.base classes ∙ sym original;
      class = ap length c.in_ok-level.ensures.class ∙ explicit_classes_length c.args.base classes ∙ sym original;
      removed = ap length c.in_ok-removed.ensures ∙ removed_marks_length classes ∙ sym original;
    }

pub returns-clause-between : goal.returns-clause-between
returns-clause-between c = All-same (IsBetween c.args.base) c.in_ok-level.field-0.level.items (explicit_levels c.args.base c.args.classes.now) c.in_ok-level.ensures.level (explicit_between c.args.base c.args.classes.now c.requires)
