use Rattle.std.proofs.Common.{◌≡◌, ◌++◌, drop}
use Rattle.css_types.specs.Rule.{compounds_of}
use Rattle.css_types.proofs.copies.copy_of_parts.Given as goal

abbrev pub invariant-loop-part : goal.invariant-loop-part
invariant-loop-part l = compounds_of l.own.items ++ compounds_of (drop l.part-index l.parts) ≡ compounds_of l.parts
