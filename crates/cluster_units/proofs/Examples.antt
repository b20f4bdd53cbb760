-- The units of some texts, computed. The right sides are from outside.
use Rattle.std.specs.Prelude.{◌≡◌, refl, false, ℕ, [], ◌∷◌, ℤ, pos}
use Rattle.face_api.specs.Kinds.{mono_table, first_table}
use Rattle.face_api.specs.Table.{advance_of}
use Rattle.style_types.specs.declared.style.Style.{Style}
use Rattle.style_types.specs.declared.style.TextOrientation.{TextOrientation}
use Rattle.style_types.specs.declared.style.TextOrientation.TheVariants.{Mixed, Sideways, Upright as set_upright}
use Rattle.style_types.specs.declared.style.Combine.{Combine}
use Rattle.style_types.specs.declared.style.Combine.TheVariants.{All, Digits, Never}
use Rattle.style_types.specs.declared.style.Display.TheVariants.{Inline}
use Rattle.style_types.specs.declared.style.UnicodeBidi.TheVariants.{Normal as no_bidi}
use Rattle.style_types.specs.declared.style.LineHeight.TheVariants.{Normal as normal_height}
use Rattle.style_types.specs.declared.style.Align.TheVariants.{Start}
use Rattle.style_types.specs.declared.style.SideSizes.{SideSizes}
use Rattle.style_types.specs.declared.style.Size.TheVariants.{Auto, Length}
use Rattle.wm_modes.specs.declared.mode.WritingMode.{WritingMode}
use Rattle.wm_modes.specs.declared.mode.WritingMode.TheVariants.{HorizontalTb, VerticalRl, VerticalLr, SidewaysLr, SidewaysRl}
use Rattle.wm_modes.specs.declared.mode.Direction.TheVariants.{Ltr}
use Rattle.wm_chars.specs.declared.classes.BreakClass.{BreakClass}
use Rattle.wm_chars.specs.declared.classes.BreakClass.TheVariants.{Space, Ideographic, Other}
use Rattle.wm_chars.specs.Repertoire.{row_of, break_class, orientation}
use Rattle.cluster_units.specs.Cluster.{unit_clusters}
use Rattle.cluster_units.specs.Unit.{units_of}
use Rattle.cluster_units.specs.declared.unit.Unit.{Unit}
use Rattle.fragment_types.specs.declared.unit_kind.UnitKind.{UnitKind}
use Rattle.fragment_types.specs.declared.unit_kind.UnitKind.TheVariants.{Along, Turned, Upright, Combined}
use Rattle.unicode_segmentation.proofs.Computing.{unicode_segmentation}

abbrev style_of : WritingMode → TextOrientation → Combine → ℤ → Style
style_of mode turning combine font =
    let zero : SideSizes = record { top = Length (pos 0); right = Length (pos 0); bottom = Length (pos 0); left = Length (pos 0) } in
    record {
      display = Inline;
      mode = mode;
      direction = Ltr;
      orientation = turning;
      combine = combine;
      bidi = no_bidi;
      font_size = font;
      face = 0;
      line_height = normal_height;
      align = Start;
      shift = pos 0;
      width = Auto;
      height = Auto;
      min_width = Auto;
      min_height = Auto;
      max_width = Auto;
      max_height = Auto;
      margin = zero;
      padding = zero;
      border = record { top = pos 0; right = pos 0; bottom = pos 0; left = pos 0 };
      relative = false;
      insets = record { top = Auto; right = Auto; bottom = Auto; left = Auto };
    }

abbrev unit : ℕ → ℕ → UnitKind → ℤ → ℤ → BreakClass → Unit
unit first end kind advance natural class = record { first = first; end = end; kind = kind; advance = advance; natural = natural; break_class = class }

-- `a` and U+3042 in mixed orientation
orientations : units_of (style_of VerticalRl Mixed Never (pos 1024)) mono_table (0x61 ∷ 0x3042 ∷ []) ≡ (unit 0 1 Turned (pos 512) (pos 512) Other ∷ unit 1 2 Upright (pos 1024) (pos 1024) Ideographic ∷ [])
unfolding units_of unit_clusters advance_of row_of break_class orientation unicode_segmentation
orientations = refl

-- the same upright
all_upright : units_of (style_of VerticalLr set_upright Never (pos 1024)) mono_table (0x61 ∷ 0x3042 ∷ []) ≡ (unit 0 1 Upright (pos 1024) (pos 1024) Other ∷ unit 1 2 Upright (pos 1024) (pos 1024) Ideographic ∷ [])
unfolding units_of unit_clusters advance_of row_of break_class orientation unicode_segmentation
all_upright = refl

-- the same in a sideways mode
along_the_line : units_of (style_of SidewaysLr set_upright All (pos 1024)) mono_table (0x61 ∷ 0x3042 ∷ []) ≡ (unit 0 1 Along (pos 512) (pos 512) Other ∷ unit 1 2 Along (pos 1024) (pos 1024) Ideographic ∷ [])
unfolding units_of unit_clusters advance_of row_of break_class orientation unicode_segmentation
along_the_line = refl

-- a digit that is combined
combined : units_of (style_of VerticalRl Mixed All (pos 1024)) mono_table (0x31 ∷ []) ≡ (unit 0 1 Combined (pos 1024) (pos 512) Ideographic ∷ [])
unfolding units_of unit_clusters advance_of row_of break_class orientation unicode_segmentation
combined = refl

-- two combined runs with a Space between them
parted_by_a_space : units_of (style_of VerticalRl Mixed All (pos 1024)) mono_table (0x31 ∷ 0x32 ∷ 0x20 ∷ 0x33 ∷ 0x34 ∷ []) ≡ (unit 0 2 Combined (pos 1024) (pos 1024) Ideographic ∷ unit 2 3 Turned (pos 512) (pos 512) Space ∷ unit 3 5 Combined (pos 1024) (pos 1024) Ideographic ∷ [])
unfolding units_of unit_clusters advance_of row_of break_class orientation unicode_segmentation
parted_by_a_space = refl

-- a control in a combined run
not_parted_by_a_control : units_of (style_of VerticalRl Mixed All (pos 1024)) mono_table (0x61 ∷ 0x202B ∷ 0x62 ∷ []) ≡ (unit 0 3 Combined (pos 1024) (pos 1024) Ideographic ∷ [])
unfolding units_of unit_clusters advance_of row_of break_class orientation unicode_segmentation
not_parted_by_a_control = refl

-- controls between letters
controls_make_none : units_of (style_of HorizontalTb Mixed Never (pos 1024)) mono_table (0x61 ∷ 0x202B ∷ 0x62 ∷ 0x202C ∷ 0x63 ∷ []) ≡ (unit 0 1 Along (pos 512) (pos 512) Other ∷ unit 2 3 Along (pos 512) (pos 512) Other ∷ unit 4 5 Along (pos 512) (pos 512) Other ∷ [])
unfolding units_of unit_clusters advance_of row_of break_class orientation unicode_segmentation
controls_make_none = refl

-- marks stay with their letter, and one behind a control begins a unit
marks : units_of (style_of HorizontalTb Mixed Never (pos 1024)) mono_table (0x61 ∷ 0x301 ∷ 0x200E ∷ 0x301 ∷ []) ≡ (unit 0 2 Along (pos 512) (pos 512) Other ∷ unit 3 4 Along (pos 512) (pos 512) Other ∷ [])
unfolding units_of unit_clusters advance_of row_of break_class orientation unicode_segmentation
marks = refl

-- U+0020 with a mark is no Space
space_with_a_mark : units_of (style_of VerticalRl Sideways All (pos 1024)) mono_table (0x20 ∷ 0x301 ∷ 0x20 ∷ []) ≡ (unit 0 2 Combined (pos 1024) (pos 512) Ideographic ∷ unit 2 3 Turned (pos 512) (pos 512) Space ∷ [])
unfolding units_of unit_clusters advance_of row_of break_class orientation unicode_segmentation
space_with_a_mark = refl

-- two syllables are two units
hangul : units_of (style_of VerticalRl Mixed Never (pos 640)) mono_table (0xAC00 ∷ 0xB098 ∷ []) ≡ (unit 0 1 Upright (pos 640) (pos 640) Ideographic ∷ unit 1 2 Upright (pos 640) (pos 640) Ideographic ∷ [])
unfolding units_of unit_clusters advance_of row_of break_class orientation unicode_segmentation
hangul = refl

-- advances by rows, rounded down
rows : units_of (style_of HorizontalTb Mixed Never (pos 1001)) first_table (0x69 ∷ 0x6D ∷ []) ≡ (unit 0 1 Along (pos 250) (pos 250) Other ∷ unit 1 2 Along (pos 750) (pos 750) Other ∷ [])
unfolding units_of unit_clusters advance_of row_of break_class orientation unicode_segmentation
rows = refl

-- no characters, no units
no_text : units_of (style_of VerticalRl Mixed All (pos 1024)) mono_table ([]) ≡ ([])
unfolding units_of unit_clusters advance_of row_of break_class orientation unicode_segmentation
no_text = refl

-- two digits are combined where two may be, three aren't
two_of_digits : units_of (style_of VerticalRl Mixed (Digits 2) (pos 1024)) mono_table (0x61 ∷ 0x31 ∷ 0x32 ∷ 0x62 ∷ 0x33 ∷ 0x34 ∷ 0x35 ∷ []) ≡ (unit 0 1 Turned (pos 512) (pos 512) Other ∷ unit 1 3 Combined (pos 1024) (pos 1024) Ideographic ∷ unit 3 4 Turned (pos 512) (pos 512) Other ∷ unit 4 5 Turned (pos 512) (pos 512) Other ∷ unit 5 6 Turned (pos 512) (pos 512) Other ∷ unit 6 7 Turned (pos 512) (pos 512) Other ∷ [])
unfolding units_of unit_clusters advance_of row_of break_class orientation unicode_segmentation
two_of_digits = refl

-- three and four digits
more_digits : units_of (style_of VerticalLr Mixed (Digits 4) (pos 1024)) mono_table (0x31 ∷ 0x32 ∷ 0x33 ∷ 0x20 ∷ 0x31 ∷ 0x32 ∷ 0x33 ∷ 0x34 ∷ 0x20 ∷ 0x31 ∷ 0x32 ∷ 0x33 ∷ 0x34 ∷ 0x35 ∷ []) ≡ (unit 0 3 Combined (pos 1024) (pos 1536) Ideographic ∷ unit 3 4 Turned (pos 512) (pos 512) Space ∷ unit 4 8 Combined (pos 1024) (pos 2048) Ideographic ∷ unit 8 9 Turned (pos 512) (pos 512) Space ∷ unit 9 10 Turned (pos 512) (pos 512) Other ∷ unit 10 11 Turned (pos 512) (pos 512) Other ∷ unit 11 12 Turned (pos 512) (pos 512) Other ∷ unit 12 13 Turned (pos 512) (pos 512) Other ∷ unit 13 14 Turned (pos 512) (pos 512) Other ∷ [])
unfolding units_of unit_clusters advance_of row_of break_class orientation unicode_segmentation
more_digits = refl

-- digits on both sides of a letter are two runs, and a letter is no part of one
digits_by_themselves : units_of (style_of VerticalRl Sideways (Digits 2) (pos 1024)) mono_table (0x31 ∷ 0x61 ∷ 0x32 ∷ []) ≡ (unit 0 1 Combined (pos 1024) (pos 512) Ideographic ∷ unit 1 2 Turned (pos 512) (pos 512) Other ∷ unit 2 3 Combined (pos 1024) (pos 512) Ideographic ∷ [])
unfolding units_of unit_clusters advance_of row_of break_class orientation unicode_segmentation
digits_by_themselves = refl

-- a control parts no digits, as it makes no unit
digits_with_a_control : units_of (style_of VerticalRl Mixed (Digits 2) (pos 1024)) mono_table (0x31 ∷ 0x202B ∷ 0x32 ∷ []) ≡ (unit 0 3 Combined (pos 1024) (pos 1024) Ideographic ∷ [])
unfolding units_of unit_clusters advance_of row_of break_class orientation unicode_segmentation
digits_with_a_control = refl

-- a digit with a mark is no single digit
digits_with_a_mark : units_of (style_of VerticalRl Mixed (Digits 2) (pos 1024)) mono_table (0x31 ∷ 0x32 ∷ 0x301 ∷ 0x33 ∷ []) ≡ (unit 0 1 Combined (pos 1024) (pos 512) Ideographic ∷ unit 1 3 Turned (pos 512) (pos 512) Other ∷ unit 3 4 Combined (pos 1024) (pos 512) Ideographic ∷ [])
unfolding units_of unit_clusters advance_of row_of break_class orientation unicode_segmentation
digits_with_a_mark = refl

-- text of sideways modes isn't combined
digits_sideways : units_of (style_of SidewaysRl Mixed (Digits 2) (pos 1024)) mono_table (0x31 ∷ 0x32 ∷ []) ≡ (unit 0 1 Along (pos 512) (pos 512) Other ∷ unit 1 2 Along (pos 512) (pos 512) Other ∷ [])
unfolding units_of unit_clusters advance_of row_of break_class orientation unicode_segmentation
digits_sideways = refl
