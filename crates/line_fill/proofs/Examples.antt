-- Some paragraphs, computed. The right sides are from outside. `negsuc n` is -(n + 1).
use Rattle.std.specs.Prelude.{◌≡◌, refl, Bool, true, false, List, [], ◌∷◌, ℤ, pos, negsuc}
use Rattle.fragment_types.specs.declared.breaking.Breaking.{Breaking}
use Rattle.fragment_types.specs.declared.breaking.Breaking.TheVariants.{No, May, Must}
use Rattle.line_fill.specs.declared.item.FillItem.{FillItem}
use Rattle.line_fill.specs.declared.item.Intrinsic.{Intrinsic}
use Rattle.line_fill.specs.Item.{width}
use Rattle.line_fill.specs.Filling.{lines}
use Rattle.line_fill.specs.Sizes.{intrinsic}

abbrev item : ℤ → ℤ → ℤ → Bool → Breaking → FillItem
item advance before after space end = record { advance = advance; before = before; after = after; space = space; end = end }

abbrev sizes : ℤ → ℤ → Intrinsic
sizes least greatest = record { min = least; max = greatest }

abbrev worked : List FillItem
worked = (item (pos 512) (pos 0) (pos 0) false No ∷ item (pos 512) (pos 0) (pos 0) false No ∷ item (pos 512) (pos 0) (pos 0) false No ∷ item (pos 512) (pos 0) (pos 0) false No ∷ item (pos 512) (pos 0) (pos 0) true May ∷ item (pos 512) (pos 0) (pos 0) false No ∷ item (pos 512) (pos 0) (pos 0) false No ∷ item (pos 512) (pos 0) (pos 0) false No ∷ item (pos 512) (pos 0) (pos 0) true May ∷ item (pos 1024) (pos 0) (pos 0) false No ∷ item (pos 1024) (pos 0) (pos 0) false No ∷ [])

worked_lines : lines (pos 1280) worked ≡ (5 ∷ 9 ∷ 11 ∷ [])
worked_lines = refl

worked_width_0_5 : width worked 0 5 ≡ pos 2048
worked_width_0_5 = refl

worked_width_5_9 : width worked 5 9 ≡ pos 1536
worked_width_5_9 = refl

worked_sizes : intrinsic worked ≡ sizes (pos 2048) (pos 6656)
worked_sizes = refl

abbrev nothing : List FillItem
nothing = ([])

nothing_lines : lines (pos 2048) nothing ≡ ([])
nothing_lines = refl

nothing_sizes : intrinsic nothing ≡ sizes (pos 0) (pos 0)
nothing_sizes = refl

abbrev a_later_place_fits : List FillItem
a_later_place_fits = (item (pos 549755813888) (pos 115964116992) (pos 0) true May ∷ item (pos 549755813888) (pos 0) (negsuc 743029342207) true May ∷ item (pos 0) (pos 0) (pos 0) false May ∷ item (pos 1748051689472) (pos 0) (pos 0) false May ∷ [])

a_later_place_fits_lines : lines (pos 5577) a_later_place_fits ≡ (2 ∷ 3 ∷ 4 ∷ [])
a_later_place_fits_lines = refl

a_later_place_fits_width_0_4 : width a_later_place_fits 0 4 ≡ pos 2220498092032
a_later_place_fits_width_0_4 = refl

a_later_place_fits_width_3_4 : width a_later_place_fits 3 4 ≡ pos 1748051689472
a_later_place_fits_width_3_4 = refl

a_later_place_fits_sizes : intrinsic a_later_place_fits ≡ sizes (pos 4294967296) (pos 4294967296)
a_later_place_fits_sizes = refl

abbrev none_fits : List FillItem
none_fits = (item (pos 1099511627776) (pos 0) (negsuc 809601335295) false May ∷ item (pos 2199023255552) (pos 0) (pos 0) false May ∷ item (pos 549755813888) (pos 0) (pos 0) false May ∷ [])

none_fits_lines : lines (pos 5028) none_fits ≡ (1 ∷ 2 ∷ 3 ∷ [])
none_fits_lines = refl

none_fits_width_0_3 : width none_fits 0 3 ≡ pos 3038689361920
none_fits_width_0_3 = refl

none_fits_width_0_1 : width none_fits 0 1 ≡ pos 289910292480
none_fits_width_0_1 = refl

none_fits_sizes : intrinsic none_fits ≡ sizes (pos 4294967296) (pos 4294967296)
none_fits_sizes = refl

abbrev forced_breaks : List FillItem
forced_breaks = (item (pos 0) (pos 0) (pos 0) false Must ∷ item (pos 512) (negsuc 242) (pos 268) false May ∷ item (pos 1024) (pos 95) (pos 214) false Must ∷ item (pos 256) (negsuc 239) (pos 139) false May ∷ [])

forced_breaks_lines : lines (pos 1869) forced_breaks ≡ (1 ∷ 2 ∷ 3 ∷ 4 ∷ [])
forced_breaks_lines = refl

forced_breaks_width_0_4 : width forced_breaks 0 4 ≡ pos 2025
forced_breaks_width_0_4 = refl

forced_breaks_width_0_1 : width forced_breaks 0 1 ≡ pos 0
forced_breaks_width_0_1 = refl

forced_breaks_sizes : intrinsic forced_breaks ≡ sizes (pos 1333) (pos 1870)
forced_breaks_sizes = refl

abbrev a_forced_break_at_the_end : List FillItem
a_forced_break_at_the_end = (item (pos 256) (pos 0) (pos 0) false May ∷ item (pos 35) (pos 0) (pos 50) false May ∷ item (pos 256) (pos 49) (pos 0) false May ∷ item (pos 512) (pos 0) (pos 0) false Must ∷ [])

a_forced_break_at_the_end_lines : lines (pos 305) a_forced_break_at_the_end ≡ (1 ∷ 2 ∷ 3 ∷ 4 ∷ [])
a_forced_break_at_the_end_lines = refl

a_forced_break_at_the_end_width_0_4 : width a_forced_break_at_the_end 0 4 ≡ pos 1158
a_forced_break_at_the_end_width_0_4 = refl

a_forced_break_at_the_end_width_2_4 : width a_forced_break_at_the_end 2 4 ≡ pos 817
a_forced_break_at_the_end_width_2_4 = refl

a_forced_break_at_the_end_sizes : intrinsic a_forced_break_at_the_end ≡ sizes (pos 512) (pos 1158)
a_forced_break_at_the_end_sizes = refl

abbrev a_break_allowed_at_the_end : List FillItem
a_break_allowed_at_the_end = (item (pos 1024) (pos 0) (pos 0) true May ∷ item (pos 1024) (pos 0) (negsuc 160) false May ∷ [])

a_break_allowed_at_the_end_lines : lines (pos 1280) a_break_allowed_at_the_end ≡ (1 ∷ 2 ∷ [])
a_break_allowed_at_the_end_lines = refl

a_break_allowed_at_the_end_width_0_2 : width a_break_allowed_at_the_end 0 2 ≡ pos 1887
a_break_allowed_at_the_end_width_0_2 = refl

a_break_allowed_at_the_end_width_0_1 : width a_break_allowed_at_the_end 0 1 ≡ pos 0
a_break_allowed_at_the_end_width_0_1 = refl

a_break_allowed_at_the_end_sizes : intrinsic a_break_allowed_at_the_end ≡ sizes (pos 863) (pos 1887)
a_break_allowed_at_the_end_sizes = refl

abbrev spaces_alone : List FillItem
spaces_alone = (item (pos 1024) (pos 0) (negsuc 736) true Must ∷ item (pos 121) (pos 0) (pos 0) true May ∷ [])

spaces_alone_lines : lines (pos 1280) spaces_alone ≡ (1 ∷ 2 ∷ [])
spaces_alone_lines = refl

spaces_alone_width_0_2 : width spaces_alone 0 2 ≡ negsuc 736
spaces_alone_width_0_2 = refl

spaces_alone_width_0_1 : width spaces_alone 0 1 ≡ negsuc 736
spaces_alone_width_0_1 = refl

spaces_alone_sizes : intrinsic spaces_alone ≡ sizes (pos 0) (pos 0)
spaces_alone_sizes = refl

abbrev spaces_hang : List FillItem
spaces_hang = (item (pos 512) (pos 0) (pos 0) false May ∷ item (pos 256) (pos 0) (pos 0) true No ∷ item (pos 512) (pos 0) (pos 0) true May ∷ item (pos 256) (pos 0) (pos 0) false May ∷ [])

spaces_hang_lines : lines (pos 768) spaces_hang ≡ (3 ∷ 4 ∷ [])
spaces_hang_lines = refl

spaces_hang_width_0_4 : width spaces_hang 0 4 ≡ pos 1536
spaces_hang_width_0_4 = refl

spaces_hang_width_0_1 : width spaces_hang 0 1 ≡ pos 512
spaces_hang_width_0_1 = refl

spaces_hang_sizes : intrinsic spaces_hang ≡ sizes (pos 512) (pos 1536)
spaces_hang_sizes = refl

abbrev below_nothing : List FillItem
below_nothing = (item (pos 256) (negsuc 731) (pos 0) false May ∷ [])

below_nothing_lines : lines (pos 0) below_nothing ≡ (1 ∷ [])
below_nothing_lines = refl

below_nothing_width_0_1 : width below_nothing 0 1 ≡ negsuc 475
below_nothing_width_0_1 = refl

below_nothing_sizes : intrinsic below_nothing ≡ sizes (pos 0) (pos 0)
below_nothing_sizes = refl

abbrev negative_edges : List FillItem
negative_edges = (item (pos 1099511627776) (negsuc 354334801919) (pos 236223201280) true May ∷ item (pos 2199023255552) (pos 0) (negsuc 1647119958015) false May ∷ item (pos 1099511627776) (pos 0) (pos 635655159808) false No ∷ [])

negative_edges_lines : lines (pos 0) negative_edges ≡ (1 ∷ 2 ∷ 3 ∷ [])
negative_edges_lines = refl

negative_edges_width_0_3 : width negative_edges 0 3 ≡ pos 3268470112256
negative_edges_width_0_3 = refl

negative_edges_width_0_2 : width negative_edges 0 2 ≡ pos 1533303324672
negative_edges_width_0_2 = refl

negative_edges_sizes : intrinsic negative_edges ≡ sizes (pos 4294967296) (pos 4294967296)
negative_edges_sizes = refl

abbrev several_lines : List FillItem
several_lines = (item (pos 256) (pos 0) (pos 0) false May ∷ item (pos 35) (pos 0) (pos 50) false May ∷ item (pos 256) (pos 49) (pos 0) false May ∷ item (pos 512) (pos 0) (pos 0) false Must ∷ [])

several_lines_lines : lines (pos 305) several_lines ≡ (1 ∷ 2 ∷ 3 ∷ 4 ∷ [])
several_lines_lines = refl

several_lines_width_0_4 : width several_lines 0 4 ≡ pos 1158
several_lines_width_0_4 = refl

several_lines_width_2_4 : width several_lines 2 4 ≡ pos 817
several_lines_width_2_4 = refl

several_lines_sizes : intrinsic several_lines ≡ sizes (pos 512) (pos 1158)
several_lines_sizes = refl
