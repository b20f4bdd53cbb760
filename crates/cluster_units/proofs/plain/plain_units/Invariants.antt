use Rattle.std.specs.Prelude.{◌≡◌}
use Rattle.std.specs.List.{list_all}
use Rattle.std.specs.Str.{chars, IsUtf8}
use Rattle.std.specs.Str.Iter.{chars_rest}
use Rattle.cluster_units.specs.Cluster.{placed, uncontrolled}
use Rattle.cluster_units.specs.Plain.{is_plain}
use Rattle.cluster_units.specs.Gathering.{made_of}
use Rattle.cluster_units.proofs.PlainLaws.{pieces}
use Rattle.cluster_units.proofs.Walk.{IsUnderway, units_by}
use Rattle.cluster_units.proofs.plain.plain_units.Given as goal

abbrev pub invariant-loop-c : goal.invariant-loop-c
invariant-loop-c g l =
    let table = (goal.Face-dyn g l.face.now).table l.face.now.1 in
    IsUtf8 (chars_rest l.c-iterator)
    × IsUnderway l.style table (chars l.fn.text) (units_by l.style table (uncontrolled (placed 0 (pieces (chars l.fn.text))))) (made_of l.gathering) l.place (pieces (chars (chars_rest l.c-iterator)))
    × (list_all is_plain (chars (chars_rest l.c-iterator)) ≡ list_all is_plain (chars l.fn.text))
