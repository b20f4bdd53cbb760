-- What the boxes of nodes have of those above them, and whether a box passes a limit there, by the words of the code.
use Rattle.std.specs.Prelude.{nat_lt, Bool, true, false, ◌&&◌}
use Rattle.wm_modes.specs.declared.mode.WritingMode.{WritingMode}
use Rattle.box_gen.specs.declared.role.Role.{Role}
use Rattle.box_gen.specs.declared.role.Role.TheVariants.{Nothing, Words, LineBreak, InlineBox, Atom, BlockLevel}
use Rattle.box_gen.specs.declared.site.Site.{Site}
use Rattle.box_gen.specs.Orthogonal.{most_orthogonal, turns_in}

-- in the root, which has this mode
abbrev pub in_root : WritingMode → Site
in_root mode = record { mode = mode; turns = 0; shown = true }

-- where no boxes are made
abbrev pub hidden : WritingMode → Site
hidden mode = record { mode = mode; turns = 0; shown = false }

-- in a box of this mode that is a container anew
abbrev pub in_container : WritingMode → Site → Site
in_container mode site = record { mode = mode; turns = turns_in site.mode mode site.turns; shown = site.shown }

-- in a node of this role and mode that stands there
abbrev pub in_node : Role → WritingMode → Site → Site
in_node Nothing mode site = record site { shown = false }
in_node Words mode site = record site { shown = false }
in_node LineBreak mode site = record site { shown = false }
in_node InlineBox mode site = site
in_node Atom mode site = in_container mode site
in_node BlockLevel mode site = in_container mode site

-- ---- the limit

abbrev pub is_container : Role → Bool
is_container Nothing = false
is_container Words = false
is_container LineBreak = false
is_container InlineBox = false
is_container Atom = true
is_container BlockLevel = true

-- with the box of a node of this role and mode that stands there too many are orthogonal to their containing blocks
abbrev pub is_past : Role → WritingMode → Site → Bool
is_past role mode site = site.shown && (is_container role && nat_lt most_orthogonal (turns_in site.mode mode site.turns))
