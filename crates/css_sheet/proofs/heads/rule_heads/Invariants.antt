use Rattle.std.proofs.Common.{◌≤◌, length}
use denote.Text.{Utf8}
use denote.Shadow.{shadow}
use Rattle.css_sheet.specs.Views.{heads_of}
use Rattle.css_sheet.proofs.Heading.{IsHeading}
use Rattle.css_sheet.proofs.heads.rule_heads.Given as goal

abbrev pub invariant-loop-opened : goal.invariant-loop-opened
invariant-loop-opened l = shadow (Utf8 l.rest) × IsHeading l.fn.rules l.fn.text (heads_of l.selectors.items l.opened) l.rest × (length l.rest ≤ length l.fn.text)

abbrev pub decreases-loop-opened : goal.decreases-loop-opened
decreases-loop-opened l = length l.rest
