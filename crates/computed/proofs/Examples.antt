-- Styles by computation, from random parents and winners, as an independent implementation has them.
use Rattle.std.specs.Prelude.{◌≡◌, true, false, refl, [], ◌∷◌, pos, negsuc}
use Rattle.css_types.specs.declared.property.Property.TheVariants as properties
use Rattle.css_types.specs.declared.keyword.Keyword.TheVariants as keywords
use Rattle.css_types.specs.declared.value.Value.TheVariants as values
use Rattle.style_types.specs.declared.style.Display.TheVariants as displays
use Rattle.style_types.specs.declared.style.Insets.{Insets}
use Rattle.style_types.specs.declared.style.TextOrientation.TheVariants as orientations
use Rattle.style_types.specs.declared.style.Combine.TheVariants as combines
use Rattle.style_types.specs.declared.style.UnicodeBidi.TheVariants as bidis
use Rattle.style_types.specs.declared.style.LineHeight.TheVariants as heights
use Rattle.style_types.specs.declared.style.Align.TheVariants as aligns
use Rattle.style_types.specs.declared.style.Size.TheVariants as sizes
use Rattle.wm_modes.specs.declared.mode.WritingMode.TheVariants as modes
use Rattle.wm_modes.specs.declared.mode.Direction.TheVariants as directions
use Rattle.style_types.specs.Initial.{initial}
use Rattle.computed.specs.Sides.{margin_at, padding_at, size_at, border_at, inset_at, margins, paddings, borders, insets}
use Rattle.computed.specs.Step.{own_font_size, own_mode, own_display, own_direction, own_orientation, own_combine, own_bidi, own_face, own_line_height, own_align, own_shift, own_relative, sized, style_of}
use Rattle.computed.specs.Winners.{won, said}

abbrev nowhere : Insets
nowhere = record { top = sizes.Auto; right = sizes.Auto; bottom = sizes.Auto; left = sizes.Auto }

style_0 : style_of (record { display = displays.Block; mode = modes.SidewaysLr; direction = directions.Rtl; orientation = orientations.Upright; combine = combines.Never; bidi = bidis.Normal; font_size = (pos 1024); face = 0; line_height = heights.Normal; align = aligns.Start; shift = (pos 0); width = sizes.Auto; height = sizes.Auto; min_width = sizes.Auto; min_height = sizes.Auto; max_width = sizes.Auto; max_height = sizes.Auto; margin = record { top = (sizes.Length (pos 0)); right = (sizes.Length (pos 0)); bottom = (sizes.Length (pos 0)); left = (sizes.Length (pos 0)) }; padding = record { top = (sizes.Length (pos 0)); right = (sizes.Length (pos 0)); bottom = (sizes.Length (pos 0)); left = (sizes.Length (pos 0)) }; border = record { top = (pos 0); right = (pos 0); bottom = (pos 0); left = (pos 0) }; relative = false; insets = nowhere }) ((properties.Display, (values.Keyword keywords.Block)) ∷ (properties.FontFamily, (values.Face 2)) ∷ (properties.LineHeight, (values.Px (pos 2000))) ∷ (properties.Height, (values.Px (pos 4000))) ∷ (properties.MarginRight, (values.Keyword keywords.Auto)) ∷ (properties.PaddingBottom, (values.Px (pos 500))) ∷ (properties.BorderRightWidth, (values.Em (pos 50))) ∷ (properties.BorderLeftWidth, (values.Px (pos 100))) ∷ []) ≡ (record { display = displays.Block; mode = modes.SidewaysLr; direction = directions.Rtl; orientation = orientations.Upright; combine = combines.Never; bidi = bidis.Normal; font_size = (pos 1024); face = 2; line_height = (heights.Length (pos 1280)); align = aligns.Start; shift = (pos 0); width = sizes.Auto; height = (sizes.Length (pos 2560)); min_width = sizes.Auto; min_height = sizes.Auto; max_width = sizes.Auto; max_height = sizes.Auto; margin = record { top = (sizes.Length (pos 0)); right = sizes.Auto; bottom = (sizes.Length (pos 0)); left = (sizes.Length (pos 0)) }; padding = record { top = (sizes.Length (pos 0)); right = (sizes.Length (pos 0)); bottom = (sizes.Length (pos 320)); left = (sizes.Length (pos 0)) }; border = record { top = (pos 0); right = (pos 0); bottom = (pos 0); left = (pos 0) }; relative = false; insets = nowhere })
unfolding initial won said margin_at padding_at size_at border_at inset_at margins paddings borders insets own_font_size own_mode own_display own_direction own_orientation own_combine own_bidi own_face own_line_height own_align own_shift own_relative sized
style_0 = refl

style_1 : style_of (record { display = displays.Block; mode = modes.HorizontalTb; direction = directions.Ltr; orientation = orientations.Mixed; combine = combines.Never; bidi = bidis.Normal; font_size = (pos 1024); face = 0; line_height = heights.Normal; align = aligns.Start; shift = (pos 0); width = sizes.Auto; height = sizes.Auto; min_width = sizes.Auto; min_height = sizes.Auto; max_width = sizes.Auto; max_height = sizes.Auto; margin = record { top = (sizes.Length (pos 0)); right = (sizes.Length (pos 0)); bottom = (sizes.Length (pos 0)); left = (sizes.Length (pos 0)) }; padding = record { top = (sizes.Length (pos 0)); right = (sizes.Length (pos 0)); bottom = (sizes.Length (pos 0)); left = (sizes.Length (pos 0)) }; border = record { top = (pos 0); right = (pos 0); bottom = (pos 0); left = (pos 0) }; relative = false; insets = nowhere }) ((properties.Display, (values.Keyword keywords.Block)) ∷ (properties.WritingMode, (values.Keyword keywords.VerticalRl)) ∷ (properties.MarginTop, (values.Px (pos 300))) ∷ (properties.MarginRight, (values.Em (pos 100))) ∷ (properties.MarginBottom, (values.Px (pos 300))) ∷ (properties.MarginLeft, (values.Em (pos 100))) ∷ (properties.PaddingTop, (values.Px (pos 4000))) ∷ (properties.BorderTopWidth, (values.Px (pos 100))) ∷ (properties.BorderRightWidth, (values.Px (pos 100))) ∷ (properties.BorderBottomWidth, (values.Px (pos 100))) ∷ (properties.BorderLeftWidth, (values.Px (pos 100))) ∷ (properties.BorderTopStyle, (values.Keyword keywords.Solid)) ∷ (properties.BorderRightStyle, (values.Keyword keywords.Solid)) ∷ (properties.BorderBottomStyle, (values.Keyword keywords.Solid)) ∷ (properties.BorderLeftStyle, (values.Keyword keywords.Solid)) ∷ []) ≡ (record { display = displays.FlowRoot; mode = modes.VerticalRl; direction = directions.Ltr; orientation = orientations.Mixed; combine = combines.Never; bidi = bidis.Normal; font_size = (pos 1024); face = 0; line_height = heights.Normal; align = aligns.Start; shift = (pos 0); width = sizes.Auto; height = sizes.Auto; min_width = sizes.Auto; min_height = sizes.Auto; max_width = sizes.Auto; max_height = sizes.Auto; margin = record { top = (sizes.Length (pos 192)); right = (sizes.Length (pos 1024)); bottom = (sizes.Length (pos 192)); left = (sizes.Length (pos 1024)) }; padding = record { top = (sizes.Length (pos 2560)); right = (sizes.Length (pos 0)); bottom = (sizes.Length (pos 0)); left = (sizes.Length (pos 0)) }; border = record { top = (pos 64); right = (pos 64); bottom = (pos 64); left = (pos 64) }; relative = false; insets = nowhere })
unfolding initial won said margin_at padding_at size_at border_at inset_at margins paddings borders insets own_font_size own_mode own_display own_direction own_orientation own_combine own_bidi own_face own_line_height own_align own_shift own_relative sized
style_1 = refl

style_2 : style_of (record { display = displays.Block; mode = modes.SidewaysRl; direction = directions.Rtl; orientation = orientations.Mixed; combine = combines.Never; bidi = bidis.Normal; font_size = (pos 1024); face = 0; line_height = heights.Normal; align = aligns.Start; shift = (pos 0); width = sizes.Auto; height = sizes.Auto; min_width = sizes.Auto; min_height = sizes.Auto; max_width = sizes.Auto; max_height = sizes.Auto; margin = record { top = (sizes.Length (pos 0)); right = (sizes.Length (pos 0)); bottom = (sizes.Length (pos 0)); left = (sizes.Length (pos 0)) }; padding = record { top = (sizes.Length (pos 0)); right = (sizes.Length (pos 0)); bottom = (sizes.Length (pos 0)); left = (sizes.Length (pos 0)) }; border = record { top = (pos 0); right = (pos 0); bottom = (pos 0); left = (pos 0) }; relative = false; insets = nowhere }) ((properties.Display, (values.Keyword keywords.Block)) ∷ (properties.WritingMode, (values.Keyword keywords.HorizontalTb)) ∷ (properties.LineHeight, (values.Keyword keywords.Normal)) ∷ (properties.TextAlign, (values.Keyword keywords.End)) ∷ (properties.VerticalAlign, values.Initial) ∷ (properties.Height, (values.Percent (pos 1000))) ∷ (properties.MinWidth, (values.Keyword keywords.Auto)) ∷ (properties.MarginTop, (values.Em (pos 100))) ∷ (properties.MarginBottom, (values.Em (pos 100))) ∷ (properties.PaddingTop, values.Initial) ∷ (properties.PaddingBottom, values.Initial) ∷ (properties.BorderTopWidth, (values.Px (pos 200))) ∷ []) ≡ (record { display = displays.FlowRoot; mode = modes.HorizontalTb; direction = directions.Rtl; orientation = orientations.Mixed; combine = combines.Never; bidi = bidis.Normal; font_size = (pos 1024); face = 0; line_height = heights.Normal; align = aligns.End; shift = (pos 0); width = sizes.Auto; height = (sizes.Percent (pos 1000)); min_width = sizes.Auto; min_height = sizes.Auto; max_width = sizes.Auto; max_height = sizes.Auto; margin = record { top = (sizes.Length (pos 1024)); right = (sizes.Length (pos 0)); bottom = (sizes.Length (pos 1024)); left = (sizes.Length (pos 0)) }; padding = record { top = (sizes.Length (pos 0)); right = (sizes.Length (pos 0)); bottom = (sizes.Length (pos 0)); left = (sizes.Length (pos 0)) }; border = record { top = (pos 0); right = (pos 0); bottom = (pos 0); left = (pos 0) }; relative = false; insets = nowhere })
unfolding initial won said margin_at padding_at size_at border_at inset_at margins paddings borders insets own_font_size own_mode own_display own_direction own_orientation own_combine own_bidi own_face own_line_height own_align own_shift own_relative sized
style_2 = refl

style_3 : style_of (record { display = displays.Block; mode = modes.HorizontalTb; direction = directions.Ltr; orientation = orientations.Mixed; combine = combines.Never; bidi = bidis.Isolate; font_size = (pos 1024); face = 0; line_height = heights.Normal; align = aligns.Start; shift = (pos 0); width = sizes.Auto; height = (sizes.Length (pos 0)); min_width = sizes.Auto; min_height = sizes.Auto; max_width = sizes.Auto; max_height = sizes.Auto; margin = record { top = (sizes.Length (pos 0)); right = (sizes.Length (pos 0)); bottom = (sizes.Length (pos 0)); left = sizes.Auto }; padding = record { top = (sizes.Length (pos 0)); right = (sizes.Length (pos 0)); bottom = (sizes.Length (pos 0)); left = (sizes.Length (pos 0)) }; border = record { top = (pos 0); right = (pos 0); bottom = (pos 0); left = (pos 0) }; relative = false; insets = nowhere }) ((properties.Display, (values.Keyword keywords.Block)) ∷ (properties.WritingMode, (values.Keyword keywords.VerticalRl)) ∷ (properties.Direction, (values.Keyword keywords.Rtl)) ∷ (properties.TextOrientation, (values.Keyword keywords.Mixed)) ∷ (properties.TextCombineUpright, (values.Keyword keywords.All)) ∷ (properties.UnicodeBidi, (values.Keyword keywords.Isolate)) ∷ (properties.Width, (values.Px (pos 0))) ∷ (properties.MaxHeight, (values.Keyword keywords.None)) ∷ (properties.MarginLeft, (values.Keyword keywords.Auto)) ∷ []) ≡ (record { display = displays.FlowRoot; mode = modes.VerticalRl; direction = directions.Rtl; orientation = orientations.Mixed; combine = combines.All; bidi = bidis.Isolate; font_size = (pos 1024); face = 0; line_height = heights.Normal; align = aligns.Start; shift = (pos 0); width = (sizes.Length (pos 0)); height = sizes.Auto; min_width = sizes.Auto; min_height = sizes.Auto; max_width = sizes.Auto; max_height = sizes.Auto; margin = record { top = (sizes.Length (pos 0)); right = (sizes.Length (pos 0)); bottom = (sizes.Length (pos 0)); left = sizes.Auto }; padding = record { top = (sizes.Length (pos 0)); right = (sizes.Length (pos 0)); bottom = (sizes.Length (pos 0)); left = (sizes.Length (pos 0)) }; border = record { top = (pos 0); right = (pos 0); bottom = (pos 0); left = (pos 0) }; relative = false; insets = nowhere })
unfolding initial won said margin_at padding_at size_at border_at inset_at margins paddings borders insets own_font_size own_mode own_display own_direction own_orientation own_combine own_bidi own_face own_line_height own_align own_shift own_relative sized
style_3 = refl

style_4 : style_of (record { display = displays.Block; mode = modes.HorizontalTb; direction = directions.Rtl; orientation = orientations.Mixed; combine = combines.Never; bidi = bidis.Normal; font_size = (pos 1024); face = 0; line_height = heights.Normal; align = aligns.Start; shift = (pos 0); width = sizes.Auto; height = sizes.Auto; min_width = sizes.Auto; min_height = sizes.Auto; max_width = sizes.Auto; max_height = sizes.Auto; margin = record { top = (sizes.Length (pos 0)); right = (sizes.Length (pos 0)); bottom = (sizes.Length (pos 0)); left = (sizes.Length (pos 0)) }; padding = record { top = (sizes.Length (pos 0)); right = (sizes.Length (pos 0)); bottom = (sizes.Length (pos 0)); left = (sizes.Length (pos 0)) }; border = record { top = (pos 0); right = (pos 0); bottom = (pos 0); left = (pos 0) }; relative = false; insets = nowhere }) ((properties.Display, (values.Keyword keywords.Block)) ∷ (properties.MarginTop, (values.Em (pos 100))) ∷ (properties.MarginBottom, (values.Em (pos 100))) ∷ (properties.PaddingRight, (values.Px (pos 4000))) ∷ []) ≡ (record { display = displays.Block; mode = modes.HorizontalTb; direction = directions.Rtl; orientation = orientations.Mixed; combine = combines.Never; bidi = bidis.Normal; font_size = (pos 1024); face = 0; line_height = heights.Normal; align = aligns.Start; shift = (pos 0); width = sizes.Auto; height = sizes.Auto; min_width = sizes.Auto; min_height = sizes.Auto; max_width = sizes.Auto; max_height = sizes.Auto; margin = record { top = (sizes.Length (pos 1024)); right = (sizes.Length (pos 0)); bottom = (sizes.Length (pos 1024)); left = (sizes.Length (pos 0)) }; padding = record { top = (sizes.Length (pos 0)); right = (sizes.Length (pos 2560)); bottom = (sizes.Length (pos 0)); left = (sizes.Length (pos 0)) }; border = record { top = (pos 0); right = (pos 0); bottom = (pos 0); left = (pos 0) }; relative = false; insets = nowhere })
unfolding initial won said margin_at padding_at size_at border_at inset_at margins paddings borders insets own_font_size own_mode own_display own_direction own_orientation own_combine own_bidi own_face own_line_height own_align own_shift own_relative sized
style_4 = refl

style_5 : style_of (record { display = displays.Block; mode = modes.SidewaysRl; direction = directions.Rtl; orientation = orientations.Mixed; combine = combines.Never; bidi = bidis.Normal; font_size = (pos 10); face = 0; line_height = heights.Normal; align = aligns.Start; shift = (pos 0); width = sizes.Auto; height = sizes.Auto; min_width = sizes.Auto; min_height = sizes.Auto; max_width = sizes.Auto; max_height = sizes.Auto; margin = record { top = (sizes.Length (pos 0)); right = (sizes.Length (pos 0)); bottom = (sizes.Length (pos 0)); left = (sizes.Length (pos 0)) }; padding = record { top = (sizes.Length (pos 0)); right = (sizes.Length (pos 0)); bottom = (sizes.Length (pos 0)); left = (sizes.Length (pos 0)) }; border = record { top = (pos 0); right = (pos 0); bottom = (pos 0); left = (pos 0) }; relative = false; insets = nowhere }) ((properties.WritingMode, (values.Keyword keywords.VerticalLr)) ∷ (properties.TextCombineUpright, (values.Keyword keywords.All)) ∷ (properties.LineHeight, (values.Number (pos 150))) ∷ (properties.Width, (values.Px (pos 4000))) ∷ (properties.MarginTop, (values.Keyword keywords.Auto)) ∷ (properties.MarginBottom, (values.Em (negsuc 49))) ∷ (properties.BorderTopWidth, (values.Px (pos 100))) ∷ (properties.BorderRightWidth, (values.Px (pos 100))) ∷ (properties.BorderBottomWidth, (values.Em (pos 10))) ∷ (properties.BorderLeftWidth, (values.Px (pos 100))) ∷ (properties.BorderTopStyle, (values.Keyword keywords.Solid)) ∷ (properties.BorderRightStyle, (values.Keyword keywords.Solid)) ∷ (properties.BorderBottomStyle, (values.Keyword keywords.Dotted)) ∷ (properties.BorderLeftStyle, (values.Keyword keywords.Solid)) ∷ []) ≡ (record { display = displays.InlineBlock; mode = modes.VerticalLr; direction = directions.Rtl; orientation = orientations.Mixed; combine = combines.All; bidi = bidis.Normal; font_size = (pos 10); face = 0; line_height = (heights.Number (pos 150)); align = aligns.Start; shift = (pos 0); width = (sizes.Length (pos 2560)); height = sizes.Auto; min_width = sizes.Auto; min_height = sizes.Auto; max_width = sizes.Auto; max_height = sizes.Auto; margin = record { top = sizes.Auto; right = (sizes.Length (pos 0)); bottom = (sizes.Length (negsuc 4)); left = (sizes.Length (pos 0)) }; padding = record { top = (sizes.Length (pos 0)); right = (sizes.Length (pos 0)); bottom = (sizes.Length (pos 0)); left = (sizes.Length (pos 0)) }; border = record { top = (pos 64); right = (pos 64); bottom = (pos 1); left = (pos 64) }; relative = false; insets = nowhere })
unfolding initial won said margin_at padding_at size_at border_at inset_at margins paddings borders insets own_font_size own_mode own_display own_direction own_orientation own_combine own_bidi own_face own_line_height own_align own_shift own_relative sized
style_5 = refl

style_6 : style_of (record { display = displays.Block; mode = modes.SidewaysRl; direction = directions.Rtl; orientation = orientations.Mixed; combine = combines.Never; bidi = bidis.Normal; font_size = (pos 1024); face = 0; line_height = heights.Normal; align = aligns.Start; shift = (pos 0); width = sizes.Auto; height = sizes.Auto; min_width = sizes.Auto; min_height = sizes.Auto; max_width = sizes.Auto; max_height = sizes.Auto; margin = record { top = (sizes.Length (pos 0)); right = (sizes.Length (pos 0)); bottom = (sizes.Length (pos 0)); left = (sizes.Length (pos 0)) }; padding = record { top = (sizes.Length (pos 0)); right = (sizes.Length (pos 0)); bottom = (sizes.Length (pos 0)); left = (sizes.Length (pos 0)) }; border = record { top = (pos 0); right = (pos 0); bottom = (pos 0); left = (pos 0) }; relative = false; insets = nowhere }) ((properties.Display, (values.Keyword keywords.Block)) ∷ (properties.FontFamily, (values.Face 0)) ∷ (properties.MarginTop, (values.Px (pos 100))) ∷ []) ≡ (record { display = displays.Block; mode = modes.SidewaysRl; direction = directions.Rtl; orientation = orientations.Mixed; combine = combines.Never; bidi = bidis.Normal; font_size = (pos 1024); face = 0; line_height = heights.Normal; align = aligns.Start; shift = (pos 0); width = sizes.Auto; height = sizes.Auto; min_width = sizes.Auto; min_height = sizes.Auto; max_width = sizes.Auto; max_height = sizes.Auto; margin = record { top = (sizes.Length (pos 64)); right = (sizes.Length (pos 0)); bottom = (sizes.Length (pos 0)); left = (sizes.Length (pos 0)) }; padding = record { top = (sizes.Length (pos 0)); right = (sizes.Length (pos 0)); bottom = (sizes.Length (pos 0)); left = (sizes.Length (pos 0)) }; border = record { top = (pos 0); right = (pos 0); bottom = (pos 0); left = (pos 0) }; relative = false; insets = nowhere })
unfolding initial won said margin_at padding_at size_at border_at inset_at margins paddings borders insets own_font_size own_mode own_display own_direction own_orientation own_combine own_bidi own_face own_line_height own_align own_shift own_relative sized
style_6 = refl

style_7 : style_of (record { display = displays.Block; mode = modes.SidewaysRl; direction = directions.Rtl; orientation = orientations.Upright; combine = combines.Never; bidi = bidis.Normal; font_size = (pos 1024); face = 0; line_height = heights.Normal; align = aligns.Start; shift = (pos 0); width = sizes.Auto; height = sizes.Auto; min_width = sizes.Auto; min_height = sizes.Auto; max_width = sizes.Auto; max_height = sizes.Auto; margin = record { top = (sizes.Length (pos 0)); right = (sizes.Length (pos 0)); bottom = (sizes.Length (pos 0)); left = (sizes.Length (pos 0)) }; padding = record { top = (sizes.Length (pos 0)); right = (sizes.Length (pos 0)); bottom = (sizes.Length (pos 0)); left = (sizes.Length (pos 0)) }; border = record { top = (pos 0); right = (pos 0); bottom = (pos 0); left = (pos 0) }; relative = false; insets = nowhere }) ((properties.Display, (values.Keyword keywords.Block)) ∷ (properties.TextOrientation, (values.Keyword keywords.Sideways)) ∷ (properties.FontFamily, (values.Face 2)) ∷ (properties.Width, (values.Px (pos 500))) ∷ (properties.Height, (values.Px (pos 500))) ∷ (properties.MaxWidth, (values.Keyword keywords.None)) ∷ (properties.MarginTop, (values.Px (pos 100))) ∷ (properties.MarginRight, (values.Px (pos 200))) ∷ (properties.MarginBottom, (values.Px (pos 300))) ∷ (properties.MarginLeft, (values.Px (pos 400))) ∷ (properties.PaddingRight, values.Initial) ∷ (properties.PaddingBottom, (values.Px (pos 4000))) ∷ (properties.PaddingLeft, values.Initial) ∷ []) ≡ (record { display = displays.Block; mode = modes.SidewaysRl; direction = directions.Rtl; orientation = orientations.Sideways; combine = combines.Never; bidi = bidis.Normal; font_size = (pos 1024); face = 2; line_height = heights.Normal; align = aligns.Start; shift = (pos 0); width = (sizes.Length (pos 320)); height = (sizes.Length (pos 320)); min_width = sizes.Auto; min_height = sizes.Auto; max_width = sizes.Auto; max_height = sizes.Auto; margin = record { top = (sizes.Length (pos 64)); right = (sizes.Length (pos 128)); bottom = (sizes.Length (pos 192)); left = (sizes.Length (pos 256)) }; padding = record { top = (sizes.Length (pos 0)); right = (sizes.Length (pos 0)); bottom = (sizes.Length (pos 2560)); left = (sizes.Length (pos 0)) }; border = record { top = (pos 0); right = (pos 0); bottom = (pos 0); left = (pos 0) }; relative = false; insets = nowhere })
unfolding initial won said margin_at padding_at size_at border_at inset_at margins paddings borders insets own_font_size own_mode own_display own_direction own_orientation own_combine own_bidi own_face own_line_height own_align own_shift own_relative sized
style_7 = refl

style_8 : style_of (record { display = displays.Block; mode = modes.HorizontalTb; direction = directions.Rtl; orientation = orientations.Sideways; combine = combines.Never; bidi = bidis.Normal; font_size = (pos 1024); face = 0; line_height = heights.Normal; align = aligns.Start; shift = (pos 0); width = sizes.Auto; height = sizes.Auto; min_width = sizes.Auto; min_height = sizes.Auto; max_width = sizes.Auto; max_height = sizes.Auto; margin = record { top = (sizes.Length (pos 1024)); right = (sizes.Length (pos 2560)); bottom = (sizes.Length (pos 1024)); left = (sizes.Length (pos 2560)) }; padding = record { top = (sizes.Length (pos 0)); right = (sizes.Length (pos 0)); bottom = (sizes.Length (pos 0)); left = (sizes.Length (pos 0)) }; border = record { top = (pos 0); right = (pos 0); bottom = (pos 0); left = (pos 0) }; relative = false; insets = nowhere }) ((properties.MaxHeight, (values.Em (pos 50))) ∷ []) ≡ (record { display = displays.Inline; mode = modes.HorizontalTb; direction = directions.Rtl; orientation = orientations.Sideways; combine = combines.Never; bidi = bidis.Normal; font_size = (pos 1024); face = 0; line_height = heights.Normal; align = aligns.Start; shift = (pos 0); width = sizes.Auto; height = sizes.Auto; min_width = sizes.Auto; min_height = sizes.Auto; max_width = sizes.Auto; max_height = (sizes.Length (pos 512)); margin = record { top = (sizes.Length (pos 0)); right = (sizes.Length (pos 0)); bottom = (sizes.Length (pos 0)); left = (sizes.Length (pos 0)) }; padding = record { top = (sizes.Length (pos 0)); right = (sizes.Length (pos 0)); bottom = (sizes.Length (pos 0)); left = (sizes.Length (pos 0)) }; border = record { top = (pos 0); right = (pos 0); bottom = (pos 0); left = (pos 0) }; relative = false; insets = nowhere })
unfolding initial won said margin_at padding_at size_at border_at inset_at margins paddings borders insets own_font_size own_mode own_display own_direction own_orientation own_combine own_bidi own_face own_line_height own_align own_shift own_relative sized
style_8 = refl

style_9 : style_of (record { display = displays.Block; mode = modes.SidewaysLr; direction = directions.Rtl; orientation = orientations.Upright; combine = combines.Never; bidi = bidis.Normal; font_size = (pos 1024); face = 0; line_height = (heights.Number (pos 0)); align = aligns.Start; shift = (pos 0); width = sizes.Auto; height = sizes.Auto; min_width = sizes.Auto; min_height = sizes.Auto; max_width = sizes.Auto; max_height = sizes.Auto; margin = record { top = (sizes.Length (pos 0)); right = (sizes.Length (pos 0)); bottom = (sizes.Length (pos 0)); left = (sizes.Length (pos 0)) }; padding = record { top = (sizes.Length (pos 0)); right = (sizes.Length (pos 0)); bottom = (sizes.Length (pos 0)); left = (sizes.Length (pos 0)) }; border = record { top = (pos 0); right = (pos 0); bottom = (pos 0); left = (pos 0) }; relative = false; insets = nowhere }) ((properties.BorderRightWidth, (values.Px (pos 100))) ∷ (properties.BorderLeftWidth, values.Initial) ∷ (properties.BorderLeftStyle, (values.Keyword keywords.Solid)) ∷ []) ≡ (record { display = displays.Inline; mode = modes.SidewaysLr; direction = directions.Rtl; orientation = orientations.Upright; combine = combines.Never; bidi = bidis.Normal; font_size = (pos 1024); face = 0; line_height = (heights.Number (pos 0)); align = aligns.Start; shift = (pos 0); width = sizes.Auto; height = sizes.Auto; min_width = sizes.Auto; min_height = sizes.Auto; max_width = sizes.Auto; max_height = sizes.Auto; margin = record { top = (sizes.Length (pos 0)); right = (sizes.Length (pos 0)); bottom = (sizes.Length (pos 0)); left = (sizes.Length (pos 0)) }; padding = record { top = (sizes.Length (pos 0)); right = (sizes.Length (pos 0)); bottom = (sizes.Length (pos 0)); left = (sizes.Length (pos 0)) }; border = record { top = (pos 0); right = (pos 0); bottom = (pos 0); left = (pos 192) }; relative = false; insets = nowhere })
unfolding initial won said margin_at padding_at size_at border_at inset_at margins paddings borders insets own_font_size own_mode own_display own_direction own_orientation own_combine own_bidi own_face own_line_height own_align own_shift own_relative sized
style_9 = refl

style_10 : style_of (record { display = displays.Block; mode = modes.HorizontalTb; direction = directions.Ltr; orientation = orientations.Mixed; combine = combines.Never; bidi = bidis.Normal; font_size = (pos 1024); face = 0; line_height = heights.Normal; align = aligns.Start; shift = (pos 0); width = sizes.Auto; height = sizes.Auto; min_width = sizes.Auto; min_height = sizes.Auto; max_width = sizes.Auto; max_height = sizes.Auto; margin = record { top = (sizes.Length (pos 0)); right = (sizes.Length (pos 0)); bottom = (sizes.Length (pos 0)); left = (sizes.Length (pos 0)) }; padding = record { top = (sizes.Length (pos 0)); right = (sizes.Length (pos 0)); bottom = (sizes.Length (pos 0)); left = (sizes.Length (pos 0)) }; border = record { top = (pos 0); right = (pos 0); bottom = (pos 0); left = (pos 0) }; relative = false; insets = nowhere }) ((properties.Display, (values.Keyword keywords.Block)) ∷ (properties.Direction, (values.Keyword keywords.Ltr)) ∷ (properties.UnicodeBidi, (values.Keyword keywords.Isolate)) ∷ (properties.MarginTop, (values.Px (pos 800))) ∷ (properties.MarginRight, (values.Px (pos 800))) ∷ (properties.MarginBottom, (values.Px (pos 800))) ∷ (properties.MarginLeft, (values.Px (pos 800))) ∷ []) ≡ (record { display = displays.Block; mode = modes.HorizontalTb; direction = directions.Ltr; orientation = orientations.Mixed; combine = combines.Never; bidi = bidis.Isolate; font_size = (pos 1024); face = 0; line_height = heights.Normal; align = aligns.Start; shift = (pos 0); width = sizes.Auto; height = sizes.Auto; min_width = sizes.Auto; min_height = sizes.Auto; max_width = sizes.Auto; max_height = sizes.Auto; margin = record { top = (sizes.Length (pos 512)); right = (sizes.Length (pos 512)); bottom = (sizes.Length (pos 512)); left = (sizes.Length (pos 512)) }; padding = record { top = (sizes.Length (pos 0)); right = (sizes.Length (pos 0)); bottom = (sizes.Length (pos 0)); left = (sizes.Length (pos 0)) }; border = record { top = (pos 0); right = (pos 0); bottom = (pos 0); left = (pos 0) }; relative = false; insets = nowhere })
unfolding initial won said margin_at padding_at size_at border_at inset_at margins paddings borders insets own_font_size own_mode own_display own_direction own_orientation own_combine own_bidi own_face own_line_height own_align own_shift own_relative sized
style_10 = refl

style_11 : style_of (record { display = displays.Inline; mode = modes.HorizontalTb; direction = directions.Ltr; orientation = orientations.Mixed; combine = combines.Never; bidi = bidis.Normal; font_size = (pos 1024); face = 0; line_height = heights.Normal; align = aligns.Start; shift = (pos 0); width = sizes.Auto; height = sizes.Auto; min_width = sizes.Auto; min_height = sizes.Auto; max_width = sizes.Auto; max_height = sizes.Auto; margin = record { top = (sizes.Length (pos 0)); right = (sizes.Length (pos 0)); bottom = (sizes.Length (pos 0)); left = (sizes.Length (pos 0)) }; padding = record { top = (sizes.Length (pos 0)); right = (sizes.Length (pos 0)); bottom = (sizes.Length (pos 0)); left = (sizes.Length (pos 0)) }; border = record { top = (pos 0); right = (pos 0); bottom = (pos 0); left = (pos 0) }; relative = false; insets = nowhere }) ((properties.Display, (values.Keyword keywords.Block)) ∷ (properties.WritingMode, (values.Keyword keywords.SidewaysLr)) ∷ (properties.Direction, (values.Keyword keywords.Rtl)) ∷ (properties.UnicodeBidi, (values.Keyword keywords.Isolate)) ∷ (properties.FontFamily, (values.Face 0)) ∷ (properties.Height, (values.Px (pos 10000))) ∷ (properties.MaxWidth, (values.Keyword keywords.None)) ∷ []) ≡ (record { display = displays.FlowRoot; mode = modes.SidewaysLr; direction = directions.Rtl; orientation = orientations.Mixed; combine = combines.Never; bidi = bidis.Isolate; font_size = (pos 1024); face = 0; line_height = heights.Normal; align = aligns.Start; shift = (pos 0); width = sizes.Auto; height = (sizes.Length (pos 6400)); min_width = sizes.Auto; min_height = sizes.Auto; max_width = sizes.Auto; max_height = sizes.Auto; margin = record { top = (sizes.Length (pos 0)); right = (sizes.Length (pos 0)); bottom = (sizes.Length (pos 0)); left = (sizes.Length (pos 0)) }; padding = record { top = (sizes.Length (pos 0)); right = (sizes.Length (pos 0)); bottom = (sizes.Length (pos 0)); left = (sizes.Length (pos 0)) }; border = record { top = (pos 0); right = (pos 0); bottom = (pos 0); left = (pos 0) }; relative = false; insets = nowhere })
unfolding initial won said margin_at padding_at size_at border_at inset_at margins paddings borders insets own_font_size own_mode own_display own_direction own_orientation own_combine own_bidi own_face own_line_height own_align own_shift own_relative sized
style_11 = refl

style_12 : style_of (record { display = displays.Block; mode = modes.SidewaysLr; direction = directions.Rtl; orientation = orientations.Upright; combine = combines.Never; bidi = bidis.Normal; font_size = (pos 1024); face = 7; line_height = heights.Normal; align = aligns.Start; shift = (pos 0); width = sizes.Auto; height = sizes.Auto; min_width = sizes.Auto; min_height = sizes.Auto; max_width = sizes.Auto; max_height = sizes.Auto; margin = record { top = (sizes.Length (pos 0)); right = (sizes.Length (pos 1024)); bottom = (sizes.Length (pos 0)); left = (sizes.Length (pos 1024)) }; padding = record { top = (sizes.Length (pos 0)); right = (sizes.Length (pos 0)); bottom = (sizes.Length (pos 0)); left = (sizes.Length (pos 0)) }; border = record { top = (pos 0); right = (pos 0); bottom = (pos 0); left = (pos 0) }; relative = false; insets = nowhere }) ((properties.Display, (values.Keyword keywords.Block)) ∷ (properties.Direction, (values.Keyword keywords.Ltr)) ∷ (properties.UnicodeBidi, (values.Keyword keywords.Isolate)) ∷ (properties.MarginTop, (values.Px (pos 4000))) ∷ (properties.MarginRight, (values.Em (pos 100))) ∷ (properties.MarginBottom, (values.Px (pos 4000))) ∷ (properties.MarginLeft, (values.Em (pos 100))) ∷ (properties.PaddingBottom, (values.Px (pos 100))) ∷ (properties.Position, (values.Keyword keywords.Relative)) ∷ (properties.InsetTop, (values.Px (pos 100))) ∷ (properties.InsetRight, (values.Px (pos 100))) ∷ (properties.InsetBottom, (values.Px (pos 100))) ∷ (properties.InsetLeft, (values.Px (pos 100))) ∷ []) ≡ (record { display = displays.Block; mode = modes.SidewaysLr; direction = directions.Ltr; orientation = orientations.Upright; combine = combines.Never; bidi = bidis.Isolate; font_size = (pos 1024); face = 7; line_height = heights.Normal; align = aligns.Start; shift = (pos 0); width = sizes.Auto; height = sizes.Auto; min_width = sizes.Auto; min_height = sizes.Auto; max_width = sizes.Auto; max_height = sizes.Auto; margin = record { top = (sizes.Length (pos 2560)); right = (sizes.Length (pos 1024)); bottom = (sizes.Length (pos 2560)); left = (sizes.Length (pos 1024)) }; padding = record { top = (sizes.Length (pos 0)); right = (sizes.Length (pos 0)); bottom = (sizes.Length (pos 64)); left = (sizes.Length (pos 0)) }; border = record { top = (pos 0); right = (pos 0); bottom = (pos 0); left = (pos 0) }; relative = true; insets = record { top = (sizes.Length (pos 64)); right = (sizes.Length (pos 64)); bottom = (sizes.Length (pos 64)); left = (sizes.Length (pos 64)) } })
unfolding initial won said margin_at padding_at size_at border_at inset_at margins paddings borders insets own_font_size own_mode own_display own_direction own_orientation own_combine own_bidi own_face own_line_height own_align own_shift own_relative sized
style_12 = refl

style_13 : style_of (record { display = displays.Inline; mode = modes.HorizontalTb; direction = directions.Ltr; orientation = orientations.Mixed; combine = combines.Never; bidi = bidis.Normal; font_size = (pos 1024); face = 0; line_height = heights.Normal; align = aligns.Start; shift = (pos 0); width = sizes.Auto; height = sizes.Auto; min_width = sizes.Auto; min_height = sizes.Auto; max_width = sizes.Auto; max_height = sizes.Auto; margin = record { top = (sizes.Length (pos 0)); right = (sizes.Length (pos 0)); bottom = (sizes.Length (pos 0)); left = (sizes.Length (pos 0)) }; padding = record { top = (sizes.Length (pos 0)); right = (sizes.Length (pos 0)); bottom = (sizes.Length (pos 0)); left = (sizes.Length (pos 0)) }; border = record { top = (pos 0); right = (pos 0); bottom = (pos 0); left = (pos 0) }; relative = false; insets = nowhere }) ((properties.Display, (values.Keyword keywords.Block)) ∷ (properties.FontSize, (values.Em (pos 200))) ∷ (properties.PaddingRight, (values.Em (pos 100))) ∷ (properties.Position, (values.Keyword keywords.Relative)) ∷ []) ≡ (record { display = displays.Block; mode = modes.HorizontalTb; direction = directions.Ltr; orientation = orientations.Mixed; combine = combines.Never; bidi = bidis.Normal; font_size = (pos 2048); face = 0; line_height = heights.Normal; align = aligns.Start; shift = (pos 0); width = sizes.Auto; height = sizes.Auto; min_width = sizes.Auto; min_height = sizes.Auto; max_width = sizes.Auto; max_height = sizes.Auto; margin = record { top = (sizes.Length (pos 0)); right = (sizes.Length (pos 0)); bottom = (sizes.Length (pos 0)); left = (sizes.Length (pos 0)) }; padding = record { top = (sizes.Length (pos 0)); right = (sizes.Length (pos 2048)); bottom = (sizes.Length (pos 0)); left = (sizes.Length (pos 0)) }; border = record { top = (pos 0); right = (pos 0); bottom = (pos 0); left = (pos 0) }; relative = true; insets = nowhere })
unfolding initial won said margin_at padding_at size_at border_at inset_at margins paddings borders insets own_font_size own_mode own_display own_direction own_orientation own_combine own_bidi own_face own_line_height own_align own_shift own_relative sized
style_13 = refl

style_14 : style_of (record { display = displays.Inline; mode = modes.HorizontalTb; direction = directions.Rtl; orientation = orientations.Mixed; combine = combines.Never; bidi = bidis.Normal; font_size = (pos 1024); face = 0; line_height = heights.Normal; align = aligns.Start; shift = (pos 0); width = sizes.Auto; height = (sizes.Length (pos 2560)); min_width = sizes.Auto; min_height = sizes.Auto; max_width = sizes.Auto; max_height = sizes.Auto; margin = record { top = (sizes.Length (pos 0)); right = (sizes.Length (pos 0)); bottom = (sizes.Length (pos 0)); left = (sizes.Length (pos 0)) }; padding = record { top = (sizes.Percent (pos 1000)); right = (sizes.Length (pos 0)); bottom = (sizes.Length (pos 0)); left = (sizes.Length (pos 0)) }; border = record { top = (pos 0); right = (pos 128); bottom = (pos 0); left = (pos 128) }; relative = false; insets = nowhere }) ((properties.Display, (values.Keyword keywords.Block)) ∷ (properties.MarginTop, (values.Em (pos 100))) ∷ (properties.MarginBottom, (values.Em (pos 100))) ∷ (properties.InsetTop, (values.Keyword keywords.Auto)) ∷ (properties.InsetRight, (values.Percent (pos 500))) ∷ (properties.InsetBottom, (values.Px (negsuc 99))) ∷ (properties.InsetLeft, (values.Percent (pos 500))) ∷ []) ≡ (record { display = displays.Block; mode = modes.HorizontalTb; direction = directions.Rtl; orientation = orientations.Mixed; combine = combines.Never; bidi = bidis.Normal; font_size = (pos 1024); face = 0; line_height = heights.Normal; align = aligns.Start; shift = (pos 0); width = sizes.Auto; height = sizes.Auto; min_width = sizes.Auto; min_height = sizes.Auto; max_width = sizes.Auto; max_height = sizes.Auto; margin = record { top = (sizes.Length (pos 1024)); right = (sizes.Length (pos 0)); bottom = (sizes.Length (pos 1024)); left = (sizes.Length (pos 0)) }; padding = record { top = (sizes.Length (pos 0)); right = (sizes.Length (pos 0)); bottom = (sizes.Length (pos 0)); left = (sizes.Length (pos 0)) }; border = record { top = (pos 0); right = (pos 0); bottom = (pos 0); left = (pos 0) }; relative = false; insets = record { top = sizes.Auto; right = (sizes.Percent (pos 500)); bottom = (sizes.Length (negsuc 63)); left = (sizes.Percent (pos 500)) } })
unfolding initial won said margin_at padding_at size_at border_at inset_at margins paddings borders insets own_font_size own_mode own_display own_direction own_orientation own_combine own_bidi own_face own_line_height own_align own_shift own_relative sized
style_14 = refl

style_15 : style_of (record { display = displays.Block; mode = modes.VerticalLr; direction = directions.Ltr; orientation = orientations.Upright; combine = combines.Never; bidi = bidis.Normal; font_size = (pos 1024); face = 0; line_height = heights.Normal; align = aligns.Start; shift = (pos 0); width = sizes.Auto; height = sizes.Auto; min_width = sizes.Auto; min_height = sizes.Auto; max_width = sizes.Auto; max_height = sizes.Auto; margin = record { top = (sizes.Length (pos 512)); right = (sizes.Length (pos 512)); bottom = (sizes.Length (pos 512)); left = (sizes.Length (pos 512)) }; padding = record { top = (sizes.Length (pos 0)); right = (sizes.Length (pos 0)); bottom = (sizes.Length (pos 0)); left = (sizes.Length (pos 0)) }; border = record { top = (pos 0); right = (pos 0); bottom = (pos 0); left = (pos 0) }; relative = false; insets = record { top = sizes.Auto; right = sizes.Auto; bottom = sizes.Auto; left = (sizes.Length (pos 1024)) } }) ((properties.TextCombineUpright, (values.Digits 2)) ∷ []) ≡ (record { display = displays.Inline; mode = modes.VerticalLr; direction = directions.Ltr; orientation = orientations.Upright; combine = combines.Digits 2; bidi = bidis.Normal; font_size = (pos 1024); face = 0; line_height = heights.Normal; align = aligns.Start; shift = (pos 0); width = sizes.Auto; height = sizes.Auto; min_width = sizes.Auto; min_height = sizes.Auto; max_width = sizes.Auto; max_height = sizes.Auto; margin = record { top = (sizes.Length (pos 0)); right = (sizes.Length (pos 0)); bottom = (sizes.Length (pos 0)); left = (sizes.Length (pos 0)) }; padding = record { top = (sizes.Length (pos 0)); right = (sizes.Length (pos 0)); bottom = (sizes.Length (pos 0)); left = (sizes.Length (pos 0)) }; border = record { top = (pos 0); right = (pos 0); bottom = (pos 0); left = (pos 0) }; relative = false; insets = nowhere })
unfolding initial won said margin_at padding_at size_at border_at inset_at margins paddings borders insets own_font_size own_mode own_display own_direction own_orientation own_combine own_bidi own_face own_line_height own_align own_shift own_relative sized
style_15 = refl

style_16 : style_of (record { display = displays.Inline; mode = modes.HorizontalTb; direction = directions.Rtl; orientation = orientations.Mixed; combine = combines.Never; bidi = bidis.Normal; font_size = (pos 1024); face = 0; line_height = heights.Normal; align = aligns.Start; shift = (pos 0); width = sizes.Auto; height = (sizes.Length (pos 2560)); min_width = sizes.Auto; min_height = sizes.Auto; max_width = sizes.Auto; max_height = sizes.Auto; margin = record { top = (sizes.Length (pos 0)); right = (sizes.Length (pos 0)); bottom = (sizes.Length (pos 0)); left = (sizes.Length (pos 0)) }; padding = record { top = (sizes.Percent (pos 1000)); right = (sizes.Length (pos 0)); bottom = (sizes.Length (pos 0)); left = (sizes.Length (pos 0)) }; border = record { top = (pos 0); right = (pos 128); bottom = (pos 0); left = (pos 128) }; relative = false; insets = nowhere }) ((properties.TextCombineUpright, (values.Digits 4)) ∷ []) ≡ (record { display = displays.Inline; mode = modes.HorizontalTb; direction = directions.Rtl; orientation = orientations.Mixed; combine = combines.Digits 4; bidi = bidis.Normal; font_size = (pos 1024); face = 0; line_height = heights.Normal; align = aligns.Start; shift = (pos 0); width = sizes.Auto; height = sizes.Auto; min_width = sizes.Auto; min_height = sizes.Auto; max_width = sizes.Auto; max_height = sizes.Auto; margin = record { top = (sizes.Length (pos 0)); right = (sizes.Length (pos 0)); bottom = (sizes.Length (pos 0)); left = (sizes.Length (pos 0)) }; padding = record { top = (sizes.Length (pos 0)); right = (sizes.Length (pos 0)); bottom = (sizes.Length (pos 0)); left = (sizes.Length (pos 0)) }; border = record { top = (pos 0); right = (pos 0); bottom = (pos 0); left = (pos 0) }; relative = false; insets = nowhere })
unfolding initial won said margin_at padding_at size_at border_at inset_at margins paddings borders insets own_font_size own_mode own_display own_direction own_orientation own_combine own_bidi own_face own_line_height own_align own_shift own_relative sized
style_16 = refl

style_17 : style_of (record { display = displays.Block; mode = modes.HorizontalTb; direction = directions.Ltr; orientation = orientations.Mixed; combine = combines.Digits 3; bidi = bidis.Isolate; font_size = (pos 1024); face = 0; line_height = heights.Normal; align = aligns.Start; shift = (pos 0); width = sizes.Auto; height = sizes.Auto; min_width = sizes.Auto; min_height = sizes.Auto; max_width = sizes.Auto; max_height = sizes.Auto; margin = record { top = (sizes.Length (pos 512)); right = (sizes.Length (pos 512)); bottom = (sizes.Length (pos 512)); left = (sizes.Length (pos 512)) }; padding = record { top = (sizes.Length (pos 0)); right = (sizes.Length (pos 0)); bottom = (sizes.Length (pos 0)); left = (sizes.Length (pos 0)) }; border = record { top = (pos 0); right = (pos 0); bottom = (pos 0); left = (pos 0) }; relative = false; insets = nowhere }) ((properties.WritingMode, (values.Keyword keywords.VerticalRl)) ∷ (properties.LineHeight, (values.Px (pos 2000))) ∷ (properties.InsetLeft, (values.Percent (pos 5000))) ∷ []) ≡ (record { display = displays.InlineBlock; mode = modes.VerticalRl; direction = directions.Ltr; orientation = orientations.Mixed; combine = combines.Digits 3; bidi = bidis.Normal; font_size = (pos 1024); face = 0; line_height = (heights.Length (pos 1280)); align = aligns.Start; shift = (pos 0); width = sizes.Auto; height = sizes.Auto; min_width = sizes.Auto; min_height = sizes.Auto; max_width = sizes.Auto; max_height = sizes.Auto; margin = record { top = (sizes.Length (pos 0)); right = (sizes.Length (pos 0)); bottom = (sizes.Length (pos 0)); left = (sizes.Length (pos 0)) }; padding = record { top = (sizes.Length (pos 0)); right = (sizes.Length (pos 0)); bottom = (sizes.Length (pos 0)); left = (sizes.Length (pos 0)) }; border = record { top = (pos 0); right = (pos 0); bottom = (pos 0); left = (pos 0) }; relative = false; insets = record { top = sizes.Auto; right = sizes.Auto; bottom = sizes.Auto; left = (sizes.Percent (pos 5000)) } })
unfolding initial won said margin_at padding_at size_at border_at inset_at margins paddings borders insets own_font_size own_mode own_display own_direction own_orientation own_combine own_bidi own_face own_line_height own_align own_shift own_relative sized
style_17 = refl
