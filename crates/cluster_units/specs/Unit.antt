-- The units of a text: its clusters, and in vertical text with combining its combined runs (CSS Writing Modes 4,
-- 5.1 and 9.1).
use Rattle.std.specs.Prelude.{ℕ, Bool, true, false, ◌&&◌, ◌==◌, not, if◌then◌else◌, List, [], ◌∷◌, length, map, nat_le, unwrap_or, Option, Some, None, ℤ, pos, ◌+ℤ◌, ◌*ℤ◌}
use Rattle.std.specs.Int.{int_div_euclid}
use Rattle.std.specs.List.{flat_map}
use Rattle.face_api.specs.Table.{Table, advance_of}
use Rattle.style_types.specs.declared.style.Style.{Style}
use Rattle.style_types.specs.declared.style.TextOrientation.{TextOrientation}
use Rattle.style_types.specs.declared.style.TextOrientation.TheVariants.{Mixed, Sideways, Upright as set_upright}
use Rattle.style_types.specs.declared.style.Combine.{Combine}
use Rattle.style_types.specs.declared.style.Combine.TheVariants as combinations
use Rattle.wm_modes.specs.declared.mode.WritingMode.{WritingMode}
use Rattle.wm_modes.specs.declared.mode.WritingMode.TheVariants.{VerticalRl, VerticalLr}
use Rattle.wm_chars.specs.Repertoire.{break_class, orientation}
use Rattle.wm_chars.specs.declared.classes.BreakClass.{BreakClass}
use Rattle.wm_chars.specs.declared.classes.BreakClass.TheVariants.{Ideographic, Other}
use Rattle.wm_chars.specs.declared.classes.Orient.{Orient}
use Rattle.wm_chars.specs.declared.classes.Orient.TheVariants.{V}
use Rattle.cluster_units.specs.Cluster.{is_control, is_digit, is_several, is_space, unit_clusters}
use Rattle.cluster_units.specs.declared.cluster.Cluster.{Cluster}
use Rattle.cluster_units.specs.Runs.{Run, items, last, runs_of}
use Rattle.cluster_units.specs.declared.unit.Unit.{Unit}
use Rattle.fragment_types.specs.declared.unit_kind.UnitKind.{UnitKind}
use Rattle.fragment_types.specs.declared.unit_kind.UnitKind.TheVariants.{Along, Turned, Upright, Combined}

-- the modes whose lines are vertical and whose text can be upright
abbrev pub is_vertical : WritingMode → Bool
is_vertical VerticalRl = true
is_vertical VerticalLr = true
is_vertical _ = false

-- `mixed`: upright exactly where the character is (UAX 50)
abbrev pub kind_by : Option Orient → UnitKind
kind_by (Some V) = Upright
kind_by _ = Turned

-- how a unit with this first character stands in a vertical line
abbrev pub vertical_kind : TextOrientation → ℕ → UnitKind
vertical_kind Mixed c = kind_by (orientation c)
vertical_kind set_upright c = Upright
vertical_kind Sideways c = Turned

abbrev pub kind_of : Style → ℕ → UnitKind
kind_of style c = if is_vertical style.mode then vertical_kind style.orientation c else Along

abbrev pub is_upright : UnitKind → Bool
is_upright Upright = true
is_upright _ = false

-- an advance in thousandths of this font size, rounded down
abbrev pub scaled : ℤ → ℕ → ℤ
scaled font_size value = int_div_euclid (pos value *ℤ font_size) (pos 1000)

abbrev pub plain_advance : Style → Table → Cluster → ℤ
plain_advance style table cluster = scaled style.font_size (advance_of table cluster.head false)

-- the break class of the first character; a cluster of several characters that begins with U+0020 is Other
abbrev pub class_of : Cluster → BreakClass
class_of cluster =
    if is_several cluster && (cluster.head == 0x20) then Other else unwrap_or (break_class cluster.head) Other

-- a cluster that stands by itself
abbrev pub single_unit : Style → Table → Cluster → Unit
single_unit style table cluster =
    let kind = kind_of style cluster.head in
    let advance = scaled style.font_size (advance_of table cluster.head (is_upright kind)) in
    record { first = cluster.first; end = cluster.end; kind = kind; advance = advance; natural = advance; break_class = class_of cluster }

-- the unit of a cluster that stands by itself; none of a bidi control
abbrev pub cluster_unit : Style → Table → Cluster → Option Unit
cluster_unit style table cluster = if is_control cluster.head then None else Some (single_unit style table cluster)

abbrev pub sum_of : List ℤ → ℤ
sum_of [] = pos 0
sum_of (advance ∷ advances) = advance +ℤ sum_of advances

-- a combined run: one font size along the line, and as wide by itself as the plain advances together
abbrev pub combined_unit : Style → Table → Run Cluster → Unit
combined_unit style table run =
    record {
      first = run.first.first;
      end = (last run).end;
      kind = Combined;
      advance = style.font_size;
      natural = sum_of (map (plain_advance style table) (items run));
      break_class = Ideographic;
    }

-- ---- which runs are combined. CSS Writing Modes 4, 9.1

-- the clusters of which runs are made: for `all` those that aren't U+0020, for `digits` the ASCII digits
abbrev pub may_join : Combine → Cluster → Bool
may_join combinations.Never cluster = false
may_join combinations.All cluster = not (is_space cluster)
may_join (combinations.Digits most) cluster = is_digit cluster

-- how many of them a combined run may have
abbrev pub may_have : Combine → (count : ℕ) → Bool
may_have combinations.Never count = false
may_have combinations.All count = true
may_have (combinations.Digits most) count = nat_le count most

-- text is combined in vertical lines alone
abbrev pub joins : Style → Cluster → Bool
joins style cluster = is_vertical style.mode && may_join style.combine cluster

-- a run of clusters that join, as long as it can be, is combined where it has no more of them than it may
abbrev pub combines : Style → Run Cluster → Bool
combines style run = joins style run.first && may_have style.combine (length (items run))

-- and else none of it is
abbrev pub run_units : Style → Table → Run Cluster → List Unit
run_units style table run = if combines style run then combined_unit style table run ∷ [] else map (single_unit style table) (items run)

-- the units of a text, given by its characters
unfoldable pub units_of : Style → Table → List ℕ → List Unit
units_of style table text = flat_map (run_units style table) (runs_of (joins style) (unit_clusters text))
