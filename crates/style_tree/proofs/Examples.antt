-- Whole documents with their styles, as an independent implementation has them.
use Rattle.std.specs.Prelude.{◌≡◌, refl, true, false, List, [], ◌∷◌, Some, None, pos, negsuc}
use Rattle.css_types.specs.declared.property.Property.TheVariants as properties
use Rattle.css_types.specs.declared.keyword.Keyword.TheVariants as keywords
use Rattle.css_types.specs.declared.value.Value.TheVariants as values
use Rattle.style_types.specs.declared.style.Display.TheVariants as displays
use Rattle.style_types.specs.declared.style.Insets.{Insets}
use Rattle.style_types.specs.declared.style.TextOrientation.TheVariants as orientations
use Rattle.style_types.specs.declared.style.Combine.TheVariants as combines
use Rattle.style_types.specs.declared.style.UnicodeBidi.TheVariants as bidis
use Rattle.style_types.specs.declared.style.LineHeight.TheVariants as heights
use Rattle.style_types.specs.declared.style.Align.TheVariants as aligns
use Rattle.style_types.specs.declared.style.Size.TheVariants as sizes
use Rattle.wm_modes.specs.declared.mode.WritingMode.TheVariants as modes
use Rattle.wm_modes.specs.declared.mode.Direction.TheVariants as directions
use Rattle.style_types.specs.Initial.{initial}
use Rattle.html_tokens.specs.declared.tag.Tag.TheVariants as tags
use Rattle.html_tokens.specs.Tag as tag_names
use Rattle.css_types.specs.declared.rule.Joint.TheVariants as joints
use Rattle.css_sheet.specs.Specificity.{sum}
use Rattle.css_sheet.specs.Default.{default_rules}
use Rattle.dom_store.specs.State.{element, text}
use Rattle.cascade.specs.Matching.{matches_from, some, each, tails}
use Rattle.cascade.specs.Claims.{is_less, stated, claims_of_rules}
use Rattle.cascade.specs.Winners.{greatest_from}
use Rattle.std.specs.Prelude.{slice_get}
use Rattle.style_types.specs.Tree as styled
use Rattle.dom_store.specs.State.{State, Entry, line_to, tree_to}
use Rattle.computed.specs.Sides.{margin_at, padding_at, size_at, border_at, inset_at, margins, paddings, borders, insets}
use Rattle.computed.specs.Step.{own_font_size, own_mode, own_display, own_direction, own_orientation, own_combine, own_bidi, own_face, own_line_height, own_align, own_shift, own_relative, sized}
use Rattle.computed.specs.Winners.{won, said}
use Rattle.style_tree.specs.Styling.{styled_document, styled_in}

abbrev nowhere : Insets
nowhere = record { top = sizes.Auto; right = sizes.Auto; bottom = sizes.Auto; left = sizes.Auto }

unfoldable entries_0 : List Entry
entries_0 = ((record { parent = None; children = (1 ∷ []); what = (element tags.Html None ([]) None ((record { property = properties.MarginLeft; value = values.Initial; important = false; place = 0 }) ∷ (record { property = properties.UnicodeBidi; value = values.Initial; important = false; place = 0 }) ∷ (record { property = properties.WritingMode; value = (values.Keyword keywords.VerticalLr); important = true; place = 0 }) ∷ [])) }) ∷ (record { parent = (Some 0); children = (2 ∷ 3 ∷ 4 ∷ []); what = (element tags.Body None ([]) (Some directions.Rtl) ((record { property = properties.TextOrientation; value = (values.Keyword keywords.Sideways); important = false; place = 0 }) ∷ (record { property = properties.FontFamily; value = (values.Face 2); important = true; place = 0 }) ∷ (record { property = properties.TextAlign; value = values.Initial; important = false; place = 0 }) ∷ [])) }) ∷ (record { parent = (Some 1); children = ([]); what = (text (32 ∷ [])) }) ∷ (record { parent = (Some 1); children = ([]); what = (element tags.Div None ([]) (Some directions.Rtl) ((record { property = properties.MaxBlockSize; value = (values.Px (pos 1002)); important = false; place = 0 }) ∷ (record { property = properties.MinBlockSize; value = (values.Em (pos 50)); important = false; place = 0 }) ∷ (record { property = properties.BlockSize; value = (values.Px (pos 100)); important = false; place = 0 }) ∷ (record { property = properties.WritingMode; value = values.Initial; important = false; place = 0 }) ∷ [])) }) ∷ (record { parent = (Some 1); children = ([]); what = (element tags.Bdo None ([]) (Some directions.Rtl) ((record { property = properties.TextAlign; value = (values.Keyword keywords.Left); important = false; place = 0 }) ∷ [])) }) ∷ [])

unfoldable state_0 : State
state_0 = record { node_at = λ n. slice_get entries_0 n; next = 5 }

document_0 : styled_document ((record { selector = ((record { joint = joints.Descendant; tag = None; classes = ([]); ids = ([]) }) ∷ []); declarations = ((record { property = properties.BorderInlineEndWidth; value = (values.Px (pos 200)); important = false; place = 0 }) ∷ []) }) ∷ (record { selector = ((record { joint = joints.Descendant; tag = (Some (100 ∷ 105 ∷ 118 ∷ [])); classes = ([]); ids = ([]) }) ∷ []); declarations = ((record { property = properties.BorderTopWidth; value = values.Initial; important = false; place = 0 }) ∷ (record { property = properties.BorderRightWidth; value = values.Initial; important = false; place = 0 }) ∷ (record { property = properties.BorderBottomWidth; value = values.Initial; important = false; place = 0 }) ∷ (record { property = properties.BorderLeftWidth; value = values.Initial; important = false; place = 0 }) ∷ (record { property = properties.BorderTopStyle; value = (values.Keyword keywords.None); important = false; place = 0 }) ∷ (record { property = properties.BorderRightStyle; value = (values.Keyword keywords.None); important = false; place = 0 }) ∷ (record { property = properties.BorderBottomStyle; value = (values.Keyword keywords.None); important = false; place = 0 }) ∷ (record { property = properties.BorderLeftStyle; value = (values.Keyword keywords.None); important = false; place = 0 }) ∷ (record { property = properties.PaddingBlockStart; value = (values.Percent (pos 1000)); important = true; place = 0 }) ∷ (record { property = properties.PaddingBlockEnd; value = (values.Px (pos 0)); important = true; place = 0 }) ∷ []) }) ∷ []) state_0 ≡ (styled.node 0 styled.element (record { display = displays.FlowRoot; mode = modes.VerticalLr; direction = directions.Rtl; orientation = orientations.Mixed; combine = combines.Never; bidi = bidis.Normal; font_size = (pos 1024); face = 0; line_height = heights.Normal; align = aligns.Start; shift = (pos 0); width = sizes.Auto; height = sizes.Auto; min_width = sizes.Auto; min_height = sizes.Auto; max_width = sizes.Auto; max_height = sizes.Auto; margin = record { top = (sizes.Length (pos 0)); right = (sizes.Length (pos 0)); bottom = (sizes.Length (pos 0)); left = (sizes.Length (pos 0)) }; padding = record { top = (sizes.Length (pos 0)); right = (sizes.Length (pos 0)); bottom = (sizes.Length (pos 0)); left = (sizes.Length (pos 0)) }; border = record { top = (pos 0); right = (pos 0); bottom = (pos 0); left = (pos 0) }; relative = false; insets = nowhere }) (styled.node 1 styled.element (record { display = displays.Block; mode = modes.VerticalLr; direction = directions.Rtl; orientation = orientations.Sideways; combine = combines.Never; bidi = bidis.Isolate; font_size = (pos 1024); face = 2; line_height = heights.Normal; align = aligns.Start; shift = (pos 0); width = sizes.Auto; height = sizes.Auto; min_width = sizes.Auto; min_height = sizes.Auto; max_width = sizes.Auto; max_height = sizes.Auto; margin = record { top = (sizes.Length (pos 512)); right = (sizes.Length (pos 512)); bottom = (sizes.Length (pos 512)); left = (sizes.Length (pos 512)) }; padding = record { top = (sizes.Length (pos 0)); right = (sizes.Length (pos 0)); bottom = (sizes.Length (pos 0)); left = (sizes.Length (pos 0)) }; border = record { top = (pos 0); right = (pos 0); bottom = (pos 0); left = (pos 0) }; relative = false; insets = nowhere }) (styled.node 2 (styled.text (32 ∷ [])) (record { display = displays.Block; mode = modes.VerticalLr; direction = directions.Rtl; orientation = orientations.Sideways; combine = combines.Never; bidi = bidis.Isolate; font_size = (pos 1024); face = 2; line_height = heights.Normal; align = aligns.Start; shift = (pos 0); width = sizes.Auto; height = sizes.Auto; min_width = sizes.Auto; min_height = sizes.Auto; max_width = sizes.Auto; max_height = sizes.Auto; margin = record { top = (sizes.Length (pos 512)); right = (sizes.Length (pos 512)); bottom = (sizes.Length (pos 512)); left = (sizes.Length (pos 512)) }; padding = record { top = (sizes.Length (pos 0)); right = (sizes.Length (pos 0)); bottom = (sizes.Length (pos 0)); left = (sizes.Length (pos 0)) }; border = record { top = (pos 0); right = (pos 0); bottom = (pos 0); left = (pos 0) }; relative = false; insets = nowhere }) styled.none (styled.node 3 styled.element (record { display = displays.FlowRoot; mode = modes.HorizontalTb; direction = directions.Rtl; orientation = orientations.Sideways; combine = combines.Never; bidi = bidis.Isolate; font_size = (pos 1024); face = 2; line_height = heights.Normal; align = aligns.Start; shift = (pos 0); width = sizes.Auto; height = (sizes.Length (pos 64)); min_width = sizes.Auto; min_height = (sizes.Length (pos 512)); max_width = sizes.Auto; max_height = (sizes.Length (pos 641)); margin = record { top = (sizes.Length (pos 0)); right = (sizes.Length (pos 0)); bottom = (sizes.Length (pos 0)); left = (sizes.Length (pos 0)) }; padding = record { top = (sizes.Percent (pos 1000)); right = (sizes.Length (pos 0)); bottom = (sizes.Length (pos 0)); left = (sizes.Length (pos 0)) }; border = record { top = (pos 0); right = (pos 0); bottom = (pos 0); left = (pos 0) }; relative = false; insets = nowhere }) styled.none (styled.node 4 styled.element (record { display = displays.Inline; mode = modes.VerticalLr; direction = directions.Rtl; orientation = orientations.Sideways; combine = combines.Never; bidi = bidis.IsolateOverride; font_size = (pos 1024); face = 2; line_height = heights.Normal; align = aligns.Left; shift = (pos 0); width = sizes.Auto; height = sizes.Auto; min_width = sizes.Auto; min_height = sizes.Auto; max_width = sizes.Auto; max_height = sizes.Auto; margin = record { top = (sizes.Length (pos 0)); right = (sizes.Length (pos 0)); bottom = (sizes.Length (pos 0)); left = (sizes.Length (pos 0)) }; padding = record { top = (sizes.Length (pos 0)); right = (sizes.Length (pos 0)); bottom = (sizes.Length (pos 0)); left = (sizes.Length (pos 0)) }; border = record { top = (pos 0); right = (pos 0); bottom = (pos 0); left = (pos 0) }; relative = false; insets = nowhere }) styled.none styled.none))) styled.none) styled.none)
unfolding state_0 entries_0 styled_in line_to tree_to matches_from some each tails tag_names.tags is_less stated claims_of_rules greatest_from sum default_rules initial won said margin_at padding_at size_at border_at inset_at margins paddings borders insets own_font_size own_mode own_display own_direction own_orientation own_combine own_bidi own_face own_line_height own_align own_shift own_relative sized
document_0 = refl

unfoldable entries_1 : List Entry
entries_1 = ((record { parent = None; children = (1 ∷ []); what = (element tags.Html None ([]) (Some directions.Ltr) ((record { property = properties.WritingMode; value = (values.Keyword keywords.SidewaysLr); important = false; place = 0 }) ∷ (record { property = properties.TextOrientation; value = (values.Keyword keywords.Upright); important = false; place = 0 }) ∷ (record { property = properties.Height; value = (values.Px (pos 0)); important = true; place = 0 }) ∷ (record { property = properties.MinInlineSize; value = (values.Keyword keywords.Auto); important = false; place = 0 }) ∷ [])) }) ∷ (record { parent = (Some 0); children = (2 ∷ 3 ∷ 4 ∷ []); what = (element tags.Body None ([]) None ((record { property = properties.BorderBlockEndStyle; value = (values.Keyword keywords.None); important = false; place = 0 }) ∷ [])) }) ∷ (record { parent = (Some 1); children = ([]); what = (element tags.Blockquote None ([]) (Some directions.Rtl) ((record { property = properties.VerticalAlign; value = (values.Px (negsuc 499)); important = false; place = 0 }) ∷ (record { property = properties.WritingMode; value = (values.Keyword keywords.SidewaysLr); important = false; place = 0 }) ∷ (record { property = properties.WritingMode; value = (values.Keyword keywords.HorizontalTb); important = false; place = 0 }) ∷ (record { property = properties.LineHeight; value = (values.Keyword keywords.Normal); important = false; place = 0 }) ∷ [])) }) ∷ (record { parent = (Some 1); children = ([]); what = (text (32 ∷ [])) }) ∷ (record { parent = (Some 1); children = ([]); what = (element tags.Div None ([]) (Some directions.Rtl) ((record { property = properties.BlockSize; value = (values.Percent (pos 3333)); important = true; place = 0 }) ∷ (record { property = properties.BorderBlockEndWidth; value = (values.Px (pos 100)); important = false; place = 0 }) ∷ (record { property = properties.MaxHeight; value = (values.Em (pos 50)); important = true; place = 0 }) ∷ (record { property = properties.PaddingBlockStart; value = (values.Px (pos 100)); important = false; place = 0 }) ∷ (record { property = properties.PaddingBlockEnd; value = (values.Px (pos 200)); important = false; place = 0 }) ∷ [])) }) ∷ [])

unfoldable state_1 : State
state_1 = record { node_at = λ n. slice_get entries_1 n; next = 5 }

document_1 : styled_document ((record { selector = ((record { joint = joints.Descendant; tag = (Some (104 ∷ 116 ∷ 109 ∷ 108 ∷ [])); classes = ([]); ids = ([]) }) ∷ []); declarations = ((record { property = properties.TextCombineUpright; value = (values.Keyword keywords.None); important = false; place = 0 }) ∷ []) }) ∷ []) state_1 ≡ (styled.node 0 styled.element (record { display = displays.FlowRoot; mode = modes.SidewaysLr; direction = directions.Ltr; orientation = orientations.Upright; combine = combines.Never; bidi = bidis.Isolate; font_size = (pos 1024); face = 0; line_height = heights.Normal; align = aligns.Start; shift = (pos 0); width = sizes.Auto; height = (sizes.Length (pos 0)); min_width = sizes.Auto; min_height = sizes.Auto; max_width = sizes.Auto; max_height = sizes.Auto; margin = record { top = (sizes.Length (pos 0)); right = (sizes.Length (pos 0)); bottom = (sizes.Length (pos 0)); left = (sizes.Length (pos 0)) }; padding = record { top = (sizes.Length (pos 0)); right = (sizes.Length (pos 0)); bottom = (sizes.Length (pos 0)); left = (sizes.Length (pos 0)) }; border = record { top = (pos 0); right = (pos 0); bottom = (pos 0); left = (pos 0) }; relative = false; insets = nowhere }) (styled.node 1 styled.element (record { display = displays.Block; mode = modes.SidewaysLr; direction = directions.Ltr; orientation = orientations.Upright; combine = combines.Never; bidi = bidis.Normal; font_size = (pos 1024); face = 0; line_height = heights.Normal; align = aligns.Start; shift = (pos 0); width = sizes.Auto; height = sizes.Auto; min_width = sizes.Auto; min_height = sizes.Auto; max_width = sizes.Auto; max_height = sizes.Auto; margin = record { top = (sizes.Length (pos 512)); right = (sizes.Length (pos 512)); bottom = (sizes.Length (pos 512)); left = (sizes.Length (pos 512)) }; padding = record { top = (sizes.Length (pos 0)); right = (sizes.Length (pos 0)); bottom = (sizes.Length (pos 0)); left = (sizes.Length (pos 0)) }; border = record { top = (pos 0); right = (pos 0); bottom = (pos 0); left = (pos 0) }; relative = false; insets = nowhere }) (styled.node 2 styled.element (record { display = displays.FlowRoot; mode = modes.HorizontalTb; direction = directions.Rtl; orientation = orientations.Upright; combine = combines.Never; bidi = bidis.Isolate; font_size = (pos 1024); face = 0; line_height = heights.Normal; align = aligns.Start; shift = (negsuc 319); width = sizes.Auto; height = sizes.Auto; min_width = sizes.Auto; min_height = sizes.Auto; max_width = sizes.Auto; max_height = sizes.Auto; margin = record { top = (sizes.Length (pos 1024)); right = (sizes.Length (pos 2560)); bottom = (sizes.Length (pos 1024)); left = (sizes.Length (pos 2560)) }; padding = record { top = (sizes.Length (pos 0)); right = (sizes.Length (pos 0)); bottom = (sizes.Length (pos 0)); left = (sizes.Length (pos 0)) }; border = record { top = (pos 0); right = (pos 0); bottom = (pos 0); left = (pos 0) }; relative = false; insets = nowhere }) styled.none (styled.node 3 (styled.text (32 ∷ [])) (record { display = displays.Block; mode = modes.SidewaysLr; direction = directions.Ltr; orientation = orientations.Upright; combine = combines.Never; bidi = bidis.Normal; font_size = (pos 1024); face = 0; line_height = heights.Normal; align = aligns.Start; shift = (pos 0); width = sizes.Auto; height = sizes.Auto; min_width = sizes.Auto; min_height = sizes.Auto; max_width = sizes.Auto; max_height = sizes.Auto; margin = record { top = (sizes.Length (pos 512)); right = (sizes.Length (pos 512)); bottom = (sizes.Length (pos 512)); left = (sizes.Length (pos 512)) }; padding = record { top = (sizes.Length (pos 0)); right = (sizes.Length (pos 0)); bottom = (sizes.Length (pos 0)); left = (sizes.Length (pos 0)) }; border = record { top = (pos 0); right = (pos 0); bottom = (pos 0); left = (pos 0) }; relative = false; insets = nowhere }) styled.none (styled.node 4 styled.element (record { display = displays.Block; mode = modes.SidewaysLr; direction = directions.Rtl; orientation = orientations.Upright; combine = combines.Never; bidi = bidis.Isolate; font_size = (pos 1024); face = 0; line_height = heights.Normal; align = aligns.Start; shift = (pos 0); width = (sizes.Percent (pos 3333)); height = sizes.Auto; min_width = sizes.Auto; min_height = sizes.Auto; max_width = sizes.Auto; max_height = (sizes.Length (pos 512)); margin = record { top = (sizes.Length (pos 0)); right = (sizes.Length (pos 0)); bottom = (sizes.Length (pos 0)); left = (sizes.Length (pos 0)) }; padding = record { top = (sizes.Length (pos 0)); right = (sizes.Length (pos 128)); bottom = (sizes.Length (pos 0)); left = (sizes.Length (pos 64)) }; border = record { top = (pos 0); right = (pos 0); bottom = (pos 0); left = (pos 0) }; relative = false; insets = nowhere }) styled.none styled.none))) styled.none) styled.none)
unfolding state_1 entries_1 styled_in line_to tree_to matches_from some each tails tag_names.tags is_less stated claims_of_rules greatest_from sum default_rules initial won said margin_at padding_at size_at border_at inset_at margins paddings borders insets own_font_size own_mode own_display own_direction own_orientation own_combine own_bidi own_face own_line_height own_align own_shift own_relative sized
document_1 = refl

unfoldable entries_2 : List Entry
entries_2 = ((record { parent = None; children = (1 ∷ []); what = (element tags.Html None ([]) None ((record { property = properties.WritingMode; value = (values.Keyword keywords.HorizontalTb); important = false; place = 0 }) ∷ (record { property = properties.TextOrientation; value = (values.Keyword keywords.Upright); important = false; place = 0 }) ∷ [])) }) ∷ (record { parent = (Some 0); children = (2 ∷ 3 ∷ []); what = (element tags.Body None ([]) (Some directions.Ltr) ((record { property = properties.InlineSize; value = (values.Px (pos 10000)); important = true; place = 0 }) ∷ (record { property = properties.FontSize; value = values.Inherit; important = true; place = 0 }) ∷ (record { property = properties.LineHeight; value = values.Inherit; important = false; place = 0 }) ∷ [])) }) ∷ (record { parent = (Some 1); children = ([]); what = (text (120 ∷ [])) }) ∷ (record { parent = (Some 1); children = (4 ∷ 5 ∷ 6 ∷ []); what = (element tags.H5 None ([]) (Some directions.Rtl) ((record { property = properties.InlineSize; value = (values.Px (pos 500)); important = false; place = 0 }) ∷ (record { property = properties.TextAlign; value = (values.Keyword keywords.Left); important = false; place = 0 }) ∷ [])) }) ∷ (record { parent = (Some 3); children = ([]); what = (element tags.H5 None ([]) (Some directions.Rtl) ([])) }) ∷ (record { parent = (Some 3); children = ([]); what = (text (120 ∷ [])) }) ∷ (record { parent = (Some 3); children = ([]); what = (element tags.H5 None ([]) None ((record { property = properties.FontSize; value = (values.Percent (pos 3333)); important = true; place = 0 }) ∷ (record { property = properties.MarginTop; value = values.Initial; important = true; place = 0 }) ∷ (record { property = properties.MarginRight; value = values.Initial; important = true; place = 0 }) ∷ (record { property = properties.MarginBottom; value = values.Initial; important = true; place = 0 }) ∷ (record { property = properties.MarginLeft; value = values.Initial; important = true; place = 0 }) ∷ (record { property = properties.Display; value = (values.Keyword keywords.FlowRoot); important = false; place = 0 }) ∷ (record { property = properties.Direction; value = (values.Keyword keywords.Ltr); important = false; place = 0 }) ∷ [])) }) ∷ [])

unfoldable state_2 : State
state_2 = record { node_at = λ n. slice_get entries_2 n; next = 7 }

document_2 : styled_document ((record { selector = ((record { joint = joints.Descendant; tag = (Some (104 ∷ 116 ∷ 109 ∷ 108 ∷ [])); classes = ([]); ids = ([]) }) ∷ []); declarations = ([]) }) ∷ []) state_2 ≡ (styled.node 0 styled.element (record { display = displays.FlowRoot; mode = modes.HorizontalTb; direction = directions.Ltr; orientation = orientations.Upright; combine = combines.Never; bidi = bidis.Normal; font_size = (pos 1024); face = 0; line_height = heights.Normal; align = aligns.Start; shift = (pos 0); width = sizes.Auto; height = sizes.Auto; min_width = sizes.Auto; min_height = sizes.Auto; max_width = sizes.Auto; max_height = sizes.Auto; margin = record { top = (sizes.Length (pos 0)); right = (sizes.Length (pos 0)); bottom = (sizes.Length (pos 0)); left = (sizes.Length (pos 0)) }; padding = record { top = (sizes.Length (pos 0)); right = (sizes.Length (pos 0)); bottom = (sizes.Length (pos 0)); left = (sizes.Length (pos 0)) }; border = record { top = (pos 0); right = (pos 0); bottom = (pos 0); left = (pos 0) }; relative = false; insets = nowhere }) (styled.node 1 styled.element (record { display = displays.Block; mode = modes.HorizontalTb; direction = directions.Ltr; orientation = orientations.Upright; combine = combines.Never; bidi = bidis.Isolate; font_size = (pos 1024); face = 0; line_height = heights.Normal; align = aligns.Start; shift = (pos 0); width = (sizes.Length (pos 6400)); height = sizes.Auto; min_width = sizes.Auto; min_height = sizes.Auto; max_width = sizes.Auto; max_height = sizes.Auto; margin = record { top = (sizes.Length (pos 512)); right = (sizes.Length (pos 512)); bottom = (sizes.Length (pos 512)); left = (sizes.Length (pos 512)) }; padding = record { top = (sizes.Length (pos 0)); right = (sizes.Length (pos 0)); bottom = (sizes.Length (pos 0)); left = (sizes.Length (pos 0)) }; border = record { top = (pos 0); right = (pos 0); bottom = (pos 0); left = (pos 0) }; relative = false; insets = nowhere }) (styled.node 2 (styled.text (120 ∷ [])) (record { display = displays.Block; mode = modes.HorizontalTb; direction = directions.Ltr; orientation = orientations.Upright; combine = combines.Never; bidi = bidis.Isolate; font_size = (pos 1024); face = 0; line_height = heights.Normal; align = aligns.Start; shift = (pos 0); width = (sizes.Length (pos 6400)); height = sizes.Auto; min_width = sizes.Auto; min_height = sizes.Auto; max_width = sizes.Auto; max_height = sizes.Auto; margin = record { top = (sizes.Length (pos 512)); right = (sizes.Length (pos 512)); bottom = (sizes.Length (pos 512)); left = (sizes.Length (pos 512)) }; padding = record { top = (sizes.Length (pos 0)); right = (sizes.Length (pos 0)); bottom = (sizes.Length (pos 0)); left = (sizes.Length (pos 0)) }; border = record { top = (pos 0); right = (pos 0); bottom = (pos 0); left = (pos 0) }; relative = false; insets = nowhere }) styled.none (styled.node 3 styled.element (record { display = displays.Block; mode = modes.HorizontalTb; direction = directions.Rtl; orientation = orientations.Upright; combine = combines.Never; bidi = bidis.Isolate; font_size = (pos 850); face = 0; line_height = heights.Normal; align = aligns.Left; shift = (pos 0); width = (sizes.Length (pos 320)); height = sizes.Auto; min_width = sizes.Auto; min_height = sizes.Auto; max_width = sizes.Auto; max_height = sizes.Auto; margin = record { top = (sizes.Length (pos 1420)); right = (sizes.Length (pos 0)); bottom = (sizes.Length (pos 1420)); left = (sizes.Length (pos 0)) }; padding = record { top = (sizes.Length (pos 0)); right = (sizes.Length (pos 0)); bottom = (sizes.Length (pos 0)); left = (sizes.Length (pos 0)) }; border = record { top = (pos 0); right = (pos 0); bottom = (pos 0); left = (pos 0) }; relative = false; insets = nowhere }) (styled.node 4 styled.element (record { display = displays.Block; mode = modes.HorizontalTb; direction = directions.Rtl; orientation = orientations.Upright; combine = combines.Never; bidi = bidis.Isolate; font_size = (pos 706); face = 0; line_height = heights.Normal; align = aligns.Left; shift = (pos 0); width = sizes.Auto; height = sizes.Auto; min_width = sizes.Auto; min_height = sizes.Auto; max_width = sizes.Auto; max_height = sizes.Auto; margin = record { top = (sizes.Length (pos 1179)); right = (sizes.Length (pos 0)); bottom = (sizes.Length (pos 1179)); left = (sizes.Length (pos 0)) }; padding = record { top = (sizes.Length (pos 0)); right = (sizes.Length (pos 0)); bottom = (sizes.Length (pos 0)); left = (sizes.Length (pos 0)) }; border = record { top = (pos 0); right = (pos 0); bottom = (pos 0); left = (pos 0) }; relative = false; insets = nowhere }) styled.none (styled.node 5 (styled.text (120 ∷ [])) (record { display = displays.Block; mode = modes.HorizontalTb; direction = directions.Rtl; orientation = orientations.Upright; combine = combines.Never; bidi = bidis.Isolate; font_size = (pos 850); face = 0; line_height = heights.Normal; align = aligns.Left; shift = (pos 0); width = (sizes.Length (pos 320)); height = sizes.Auto; min_width = sizes.Auto; min_height = sizes.Auto; max_width = sizes.Auto; max_height = sizes.Auto; margin = record { top = (sizes.Length (pos 1420)); right = (sizes.Length (pos 0)); bottom = (sizes.Length (pos 1420)); left = (sizes.Length (pos 0)) }; padding = record { top = (sizes.Length (pos 0)); right = (sizes.Length (pos 0)); bottom = (sizes.Length (pos 0)); left = (sizes.Length (pos 0)) }; border = record { top = (pos 0); right = (pos 0); bottom = (pos 0); left = (pos 0) }; relative = false; insets = nowhere }) styled.none (styled.node 6 styled.element (record { display = displays.FlowRoot; mode = modes.HorizontalTb; direction = directions.Ltr; orientation = orientations.Upright; combine = combines.Never; bidi = bidis.Normal; font_size = (pos 283); face = 0; line_height = heights.Normal; align = aligns.Left; shift = (pos 0); width = sizes.Auto; height = sizes.Auto; min_width = sizes.Auto; min_height = sizes.Auto; max_width = sizes.Auto; max_height = sizes.Auto; margin = record { top = (sizes.Length (pos 0)); right = (sizes.Length (pos 0)); bottom = (sizes.Length (pos 0)); left = (sizes.Length (pos 0)) }; padding = record { top = (sizes.Length (pos 0)); right = (sizes.Length (pos 0)); bottom = (sizes.Length (pos 0)); left = (sizes.Length (pos 0)) }; border = record { top = (pos 0); right = (pos 0); bottom = (pos 0); left = (pos 0) }; relative = false; insets = nowhere }) styled.none styled.none))) styled.none)) styled.none) styled.none)
unfolding state_2 entries_2 styled_in line_to tree_to matches_from some each tails tag_names.tags is_less stated claims_of_rules greatest_from sum default_rules initial won said margin_at padding_at size_at border_at inset_at margins paddings borders insets own_font_size own_mode own_display own_direction own_orientation own_combine own_bidi own_face own_line_height own_align own_shift own_relative sized
document_2 = refl

unfoldable entries_3 : List Entry
entries_3 = ((record { parent = None; children = (1 ∷ []); what = (element tags.Html None ([]) None ((record { property = properties.WritingMode; value = (values.Keyword keywords.SidewaysRl); important = false; place = 0 }) ∷ (record { property = properties.TextOrientation; value = (values.Keyword keywords.Upright); important = false; place = 0 }) ∷ (record { property = properties.MaxHeight; value = (values.Keyword keywords.None); important = false; place = 0 }) ∷ (record { property = properties.BorderInlineStartWidth; value = (values.Px (pos 300)); important = true; place = 0 }) ∷ (record { property = properties.BorderInlineEndWidth; value = (values.Px (pos 300)); important = true; place = 0 }) ∷ (record { property = properties.BorderInlineStartStyle; value = (values.Keyword keywords.Dashed); important = true; place = 0 }) ∷ (record { property = properties.BorderInlineEndStyle; value = (values.Keyword keywords.Dashed); important = true; place = 0 }) ∷ [])) }) ∷ (record { parent = (Some 0); children = (2 ∷ []); what = (element tags.Body None ([]) None ((record { property = properties.TextCombineUpright; value = values.Inherit; important = false; place = 0 }) ∷ (record { property = properties.TextOrientation; value = (values.Keyword keywords.Mixed); important = false; place = 0 }) ∷ [])) }) ∷ (record { parent = (Some 1); children = ([]); what = (element tags.A None ([]) None ((record { property = properties.FontSize; value = (values.Px (pos 0)); important = false; place = 0 }) ∷ (record { property = properties.TextCombineUpright; value = (values.Keyword keywords.All); important = false; place = 0 }) ∷ (record { property = properties.TextCombineUpright; value = (values.Keyword keywords.None); important = false; place = 0 }) ∷ (record { property = properties.PaddingBlockStart; value = (values.Percent (pos 1000)); important = true; place = 0 }) ∷ (record { property = properties.PaddingBlockEnd; value = (values.Px (pos 0)); important = true; place = 0 }) ∷ [])) }) ∷ [])

unfoldable state_3 : State
state_3 = record { node_at = λ n. slice_get entries_3 n; next = 3 }

document_3 : styled_document ((record { selector = ((record { joint = joints.Descendant; tag = (Some (112 ∷ [])); classes = ([]); ids = ([]) }) ∷ []); declarations = ((record { property = properties.Width; value = values.Initial; important = false; place = 0 }) ∷ (record { property = properties.WritingMode; value = (values.Keyword keywords.SidewaysLr); important = true; place = 0 }) ∷ []) }) ∷ (record { selector = ((record { joint = joints.Descendant; tag = (Some (117 ∷ 108 ∷ [])); classes = ([]); ids = ([]) }) ∷ []); declarations = ((record { property = properties.Width; value = values.Initial; important = false; place = 0 }) ∷ (record { property = properties.WritingMode; value = (values.Keyword keywords.SidewaysLr); important = true; place = 0 }) ∷ []) }) ∷ (record { selector = ((record { joint = joints.Descendant; tag = (Some (100 ∷ 105 ∷ 118 ∷ [])); classes = ([]); ids = ([]) }) ∷ []); declarations = ((record { property = properties.BorderInlineStartWidth; value = (values.Px (pos 300)); important = false; place = 0 }) ∷ (record { property = properties.BorderInlineEndWidth; value = (values.Px (pos 300)); important = false; place = 0 }) ∷ (record { property = properties.BorderInlineStartStyle; value = (values.Keyword keywords.Dashed); important = false; place = 0 }) ∷ (record { property = properties.BorderInlineEndStyle; value = (values.Keyword keywords.Dashed); important = false; place = 0 }) ∷ (record { property = properties.TextCombineUpright; value = (values.Keyword keywords.None); important = false; place = 0 }) ∷ []) }) ∷ []) state_3 ≡ (styled.node 0 styled.element (record { display = displays.FlowRoot; mode = modes.SidewaysRl; direction = directions.Ltr; orientation = orientations.Upright; combine = combines.Never; bidi = bidis.Normal; font_size = (pos 1024); face = 0; line_height = heights.Normal; align = aligns.Start; shift = (pos 0); width = sizes.Auto; height = sizes.Auto; min_width = sizes.Auto; min_height = sizes.Auto; max_width = sizes.Auto; max_height = sizes.Auto; margin = record { top = (sizes.Length (pos 0)); right = (sizes.Length (pos 0)); bottom = (sizes.Length (pos 0)); left = (sizes.Length (pos 0)) }; padding = record { top = (sizes.Length (pos 0)); right = (sizes.Length (pos 0)); bottom = (sizes.Length (pos 0)); left = (sizes.Length (pos 0)) }; border = record { top = (pos 192); right = (pos 0); bottom = (pos 192); left = (pos 0) }; relative = false; insets = nowhere }) (styled.node 1 styled.element (record { display = displays.Block; mode = modes.SidewaysRl; direction = directions.Ltr; orientation = orientations.Mixed; combine = combines.Never; bidi = bidis.Normal; font_size = (pos 1024); face = 0; line_height = heights.Normal; align = aligns.Start; shift = (pos 0); width = sizes.Auto; height = sizes.Auto; min_width = sizes.Auto; min_height = sizes.Auto; max_width = sizes.Auto; max_height = sizes.Auto; margin = record { top = (sizes.Length (pos 512)); right = (sizes.Length (pos 512)); bottom = (sizes.Length (pos 512)); left = (sizes.Length (pos 512)) }; padding = record { top = (sizes.Length (pos 0)); right = (sizes.Length (pos 0)); bottom = (sizes.Length (pos 0)); left = (sizes.Length (pos 0)) }; border = record { top = (pos 0); right = (pos 0); bottom = (pos 0); left = (pos 0) }; relative = false; insets = nowhere }) (styled.node 2 styled.element (record { display = displays.Inline; mode = modes.SidewaysRl; direction = directions.Ltr; orientation = orientations.Mixed; combine = combines.Never; bidi = bidis.Normal; font_size = (pos 0); face = 0; line_height = heights.Normal; align = aligns.Start; shift = (pos 0); width = sizes.Auto; height = sizes.Auto; min_width = sizes.Auto; min_height = sizes.Auto; max_width = sizes.Auto; max_height = sizes.Auto; margin = record { top = (sizes.Length (pos 0)); right = (sizes.Length (pos 0)); bottom = (sizes.Length (pos 0)); left = (sizes.Length (pos 0)) }; padding = record { top = (sizes.Length (pos 0)); right = (sizes.Percent (pos 1000)); bottom = (sizes.Length (pos 0)); left = (sizes.Length (pos 0)) }; border = record { top = (pos 0); right = (pos 0); bottom = (pos 0); left = (pos 0) }; relative = false; insets = nowhere }) styled.none styled.none) styled.none) styled.none)
unfolding state_3 entries_3 styled_in line_to tree_to matches_from some each tails tag_names.tags is_less stated claims_of_rules greatest_from sum default_rules initial won said margin_at padding_at size_at border_at inset_at margins paddings borders insets own_font_size own_mode own_display own_direction own_orientation own_combine own_bidi own_face own_line_height own_align own_shift own_relative sized
document_3 = refl

unfoldable entries_4 : List Entry
entries_4 = ((record { parent = None; children = (1 ∷ []); what = (element tags.Html None ([]) (Some directions.Rtl) ((record { property = properties.WritingMode; value = (values.Keyword keywords.SidewaysRl); important = false; place = 0 }) ∷ (record { property = properties.TextOrientation; value = (values.Keyword keywords.Upright); important = false; place = 0 }) ∷ (record { property = properties.BorderInlineStartWidth; value = (values.Px (pos 500)); important = false; place = 0 }) ∷ (record { property = properties.BorderInlineStartStyle; value = values.Initial; important = false; place = 0 }) ∷ [])) }) ∷ (record { parent = (Some 0); children = (2 ∷ []); what = (element tags.Body None ([]) (Some directions.Rtl) ((record { property = properties.UnicodeBidi; value = (values.Keyword keywords.Plaintext); important = true; place = 0 }) ∷ (record { property = properties.WritingMode; value = (values.Keyword keywords.SidewaysLr); important = false; place = 0 }) ∷ [])) }) ∷ (record { parent = (Some 1); children = ([]); what = (element tags.Span None ([]) (Some directions.Rtl) ((record { property = properties.TextCombineUpright; value = (values.Keyword keywords.All); important = false; place = 0 }) ∷ (record { property = properties.WritingMode; value = (values.Keyword keywords.VerticalRl); important = false; place = 0 }) ∷ (record { property = properties.TextOrientation; value = (values.Keyword keywords.Sideways); important = true; place = 0 }) ∷ (record { property = properties.PaddingBlockStart; value = (values.Percent (pos 5000)); important = true; place = 0 }) ∷ [])) }) ∷ [])

unfoldable state_4 : State
state_4 = record { node_at = λ n. slice_get entries_4 n; next = 3 }

document_4 : styled_document ((record { selector = ((record { joint = joints.Descendant; tag = (Some (112 ∷ [])); classes = ([]); ids = ([]) }) ∷ []); declarations = ((record { property = properties.TextOrientation; value = (values.Keyword keywords.Sideways); important = false; place = 0 }) ∷ (record { property = properties.TextAlign; value = (values.Keyword keywords.Left); important = false; place = 0 }) ∷ []) }) ∷ (record { selector = ((record { joint = joints.Descendant; tag = (Some (117 ∷ 108 ∷ [])); classes = ([]); ids = ([]) }) ∷ []); declarations = ((record { property = properties.TextOrientation; value = (values.Keyword keywords.Sideways); important = false; place = 0 }) ∷ (record { property = properties.TextAlign; value = (values.Keyword keywords.Left); important = false; place = 0 }) ∷ []) }) ∷ []) state_4 ≡ (styled.node 0 styled.element (record { display = displays.FlowRoot; mode = modes.SidewaysLr; direction = directions.Rtl; orientation = orientations.Mixed; combine = combines.Never; bidi = bidis.Isolate; font_size = (pos 1024); face = 0; line_height = heights.Normal; align = aligns.Start; shift = (pos 0); width = sizes.Auto; height = sizes.Auto; min_width = sizes.Auto; min_height = sizes.Auto; max_width = sizes.Auto; max_height = sizes.Auto; margin = record { top = (sizes.Length (pos 0)); right = (sizes.Length (pos 0)); bottom = (sizes.Length (pos 0)); left = (sizes.Length (pos 0)) }; padding = record { top = (sizes.Length (pos 0)); right = (sizes.Length (pos 0)); bottom = (sizes.Length (pos 0)); left = (sizes.Length (pos 0)) }; border = record { top = (pos 0); right = (pos 0); bottom = (pos 0); left = (pos 0) }; relative = false; insets = nowhere }) (styled.node 1 styled.element (record { display = displays.Block; mode = modes.SidewaysLr; direction = directions.Rtl; orientation = orientations.Upright; combine = combines.Never; bidi = bidis.Plaintext; font_size = (pos 1024); face = 0; line_height = heights.Normal; align = aligns.Start; shift = (pos 0); width = sizes.Auto; height = sizes.Auto; min_width = sizes.Auto; min_height = sizes.Auto; max_width = sizes.Auto; max_height = sizes.Auto; margin = record { top = (sizes.Length (pos 512)); right = (sizes.Length (pos 512)); bottom = (sizes.Length (pos 512)); left = (sizes.Length (pos 512)) }; padding = record { top = (sizes.Length (pos 0)); right = (sizes.Length (pos 0)); bottom = (sizes.Length (pos 0)); left = (sizes.Length (pos 0)) }; border = record { top = (pos 0); right = (pos 0); bottom = (pos 0); left = (pos 0) }; relative = false; insets = nowhere }) (styled.node 2 styled.element (record { display = displays.InlineBlock; mode = modes.VerticalRl; direction = directions.Rtl; orientation = orientations.Sideways; combine = combines.All; bidi = bidis.Isolate; font_size = (pos 1024); face = 0; line_height = heights.Normal; align = aligns.Start; shift = (pos 0); width = sizes.Auto; height = sizes.Auto; min_width = sizes.Auto; min_height = sizes.Auto; max_width = sizes.Auto; max_height = sizes.Auto; margin = record { top = (sizes.Length (pos 0)); right = (sizes.Length (pos 0)); bottom = (sizes.Length (pos 0)); left = (sizes.Length (pos 0)) }; padding = record { top = (sizes.Length (pos 0)); right = (sizes.Percent (pos 5000)); bottom = (sizes.Length (pos 0)); left = (sizes.Length (pos 0)) }; border = record { top = (pos 0); right = (pos 0); bottom = (pos 0); left = (pos 0) }; relative = false; insets = nowhere }) styled.none styled.none) styled.none) styled.none)
unfolding state_4 entries_4 styled_in line_to tree_to matches_from some each tails tag_names.tags is_less stated claims_of_rules greatest_from sum default_rules initial won said margin_at padding_at size_at border_at inset_at margins paddings borders insets own_font_size own_mode own_display own_direction own_orientation own_combine own_bidi own_face own_line_height own_align own_shift own_relative sized
document_4 = refl

unfoldable entries_5 : List Entry
entries_5 = ((record { parent = None; children = (1 ∷ []); what = (element tags.Html None ([]) None ((record { property = properties.UnicodeBidi; value = (values.Keyword keywords.Plaintext); important = true; place = 0 }) ∷ [])) }) ∷ (record { parent = (Some 0); children = (2 ∷ []); what = (element tags.Body None ([]) (Some directions.Ltr) ((record { property = properties.WritingMode; value = (values.Keyword keywords.VerticalLr); important = true; place = 0 }) ∷ (record { property = properties.FontSize; value = (values.Em (pos 1)); important = false; place = 0 }) ∷ [])) }) ∷ (record { parent = (Some 1); children = ([]); what = (element tags.Bdo None ([]) None ((record { property = properties.Height; value = (values.Percent (pos 5000)); important = true; place = 0 }) ∷ (record { property = properties.FontFamily; value = values.Initial; important = false; place = 0 }) ∷ (record { property = properties.MarginTop; value = (values.Px (negsuc 99)); important = false; place = 0 }) ∷ (record { property = properties.MarginRight; value = (values.Keyword keywords.Auto); important = false; place = 0 }) ∷ (record { property = properties.MarginBottom; value = (values.Percent (pos 500)); important = false; place = 0 }) ∷ (record { property = properties.MarginLeft; value = (values.Keyword keywords.Auto); important = false; place = 0 }) ∷ [])) }) ∷ [])

unfoldable state_5 : State
state_5 = record { node_at = λ n. slice_get entries_5 n; next = 3 }

document_5 : styled_document ((record { selector = ((record { joint = joints.Descendant; tag = (Some (98 ∷ 111 ∷ 100 ∷ 121 ∷ [])); classes = ([]); ids = ([]) }) ∷ []); declarations = ([]) }) ∷ []) state_5 ≡ (styled.node 0 styled.element (record { display = displays.FlowRoot; mode = modes.VerticalLr; direction = directions.Ltr; orientation = orientations.Mixed; combine = combines.Never; bidi = bidis.Plaintext; font_size = (pos 1024); face = 0; line_height = heights.Normal; align = aligns.Start; shift = (pos 0); width = sizes.Auto; height = sizes.Auto; min_width = sizes.Auto; min_height = sizes.Auto; max_width = sizes.Auto; max_height = sizes.Auto; margin = record { top = (sizes.Length (pos 0)); right = (sizes.Length (pos 0)); bottom = (sizes.Length (pos 0)); left = (sizes.Length (pos 0)) }; padding = record { top = (sizes.Length (pos 0)); right = (sizes.Length (pos 0)); bottom = (sizes.Length (pos 0)); left = (sizes.Length (pos 0)) }; border = record { top = (pos 0); right = (pos 0); bottom = (pos 0); left = (pos 0) }; relative = false; insets = nowhere }) (styled.node 1 styled.element (record { display = displays.Block; mode = modes.VerticalLr; direction = directions.Ltr; orientation = orientations.Mixed; combine = combines.Never; bidi = bidis.Isolate; font_size = (pos 10); face = 0; line_height = heights.Normal; align = aligns.Start; shift = (pos 0); width = sizes.Auto; height = sizes.Auto; min_width = sizes.Auto; min_height = sizes.Auto; max_width = sizes.Auto; max_height = sizes.Auto; margin = record { top = (sizes.Length (pos 512)); right = (sizes.Length (pos 512)); bottom = (sizes.Length (pos 512)); left = (sizes.Length (pos 512)) }; padding = record { top = (sizes.Length (pos 0)); right = (sizes.Length (pos 0)); bottom = (sizes.Length (pos 0)); left = (sizes.Length (pos 0)) }; border = record { top = (pos 0); right = (pos 0); bottom = (pos 0); left = (pos 0) }; relative = false; insets = nowhere }) (styled.node 2 styled.element (record { display = displays.Inline; mode = modes.VerticalLr; direction = directions.Ltr; orientation = orientations.Mixed; combine = combines.Never; bidi = bidis.Normal; font_size = (pos 10); face = 0; line_height = heights.Normal; align = aligns.Start; shift = (pos 0); width = sizes.Auto; height = (sizes.Percent (pos 5000)); min_width = sizes.Auto; min_height = sizes.Auto; max_width = sizes.Auto; max_height = sizes.Auto; margin = record { top = (sizes.Length (negsuc 63)); right = sizes.Auto; bottom = (sizes.Percent (pos 500)); left = sizes.Auto }; padding = record { top = (sizes.Length (pos 0)); right = (sizes.Length (pos 0)); bottom = (sizes.Length (pos 0)); left = (sizes.Length (pos 0)) }; border = record { top = (pos 0); right = (pos 0); bottom = (pos 0); left = (pos 0) }; relative = false; insets = nowhere }) styled.none styled.none) styled.none) styled.none)
unfolding state_5 entries_5 styled_in line_to tree_to matches_from some each tails tag_names.tags is_less stated claims_of_rules greatest_from sum default_rules initial won said margin_at padding_at size_at border_at inset_at margins paddings borders insets own_font_size own_mode own_display own_direction own_orientation own_combine own_bidi own_face own_line_height own_align own_shift own_relative sized
document_5 = refl

unfoldable entries_6 : List Entry
entries_6 = ((record { parent = None; children = (1 ∷ []); what = (element tags.Html None ([]) (Some directions.Rtl) ((record { property = properties.PaddingBlockStart; value = values.Initial; important = true; place = 0 }) ∷ (record { property = properties.PaddingBlockEnd; value = values.Initial; important = true; place = 0 }) ∷ [])) }) ∷ (record { parent = (Some 0); children = ([]); what = (element tags.Body None ([]) None ([])) }) ∷ [])

unfoldable state_6 : State
state_6 = record { node_at = λ n. slice_get entries_6 n; next = 2 }

document_6 : styled_document ([]) state_6 ≡ (styled.node 0 styled.element (record { display = displays.FlowRoot; mode = modes.HorizontalTb; direction = directions.Rtl; orientation = orientations.Mixed; combine = combines.Never; bidi = bidis.Isolate; font_size = (pos 1024); face = 0; line_height = heights.Normal; align = aligns.Start; shift = (pos 0); width = sizes.Auto; height = sizes.Auto; min_width = sizes.Auto; min_height = sizes.Auto; max_width = sizes.Auto; max_height = sizes.Auto; margin = record { top = (sizes.Length (pos 0)); right = (sizes.Length (pos 0)); bottom = (sizes.Length (pos 0)); left = (sizes.Length (pos 0)) }; padding = record { top = (sizes.Length (pos 0)); right = (sizes.Length (pos 0)); bottom = (sizes.Length (pos 0)); left = (sizes.Length (pos 0)) }; border = record { top = (pos 0); right = (pos 0); bottom = (pos 0); left = (pos 0) }; relative = false; insets = nowhere }) (styled.node 1 styled.element (record { display = displays.Block; mode = modes.HorizontalTb; direction = directions.Rtl; orientation = orientations.Mixed; combine = combines.Never; bidi = bidis.Normal; font_size = (pos 1024); face = 0; line_height = heights.Normal; align = aligns.Start; shift = (pos 0); width = sizes.Auto; height = sizes.Auto; min_width = sizes.Auto; min_height = sizes.Auto; max_width = sizes.Auto; max_height = sizes.Auto; margin = record { top = (sizes.Length (pos 512)); right = (sizes.Length (pos 512)); bottom = (sizes.Length (pos 512)); left = (sizes.Length (pos 512)) }; padding = record { top = (sizes.Length (pos 0)); right = (sizes.Length (pos 0)); bottom = (sizes.Length (pos 0)); left = (sizes.Length (pos 0)) }; border = record { top = (pos 0); right = (pos 0); bottom = (pos 0); left = (pos 0) }; relative = false; insets = nowhere }) styled.none styled.none) styled.none)
unfolding state_6 entries_6 styled_in line_to tree_to matches_from some each tails tag_names.tags is_less stated claims_of_rules greatest_from sum default_rules initial won said margin_at padding_at size_at border_at inset_at margins paddings borders insets own_font_size own_mode own_display own_direction own_orientation own_combine own_bidi own_face own_line_height own_align own_shift own_relative sized
document_6 = refl

unfoldable entries_7 : List Entry
entries_7 = ((record { parent = None; children = (1 ∷ []); what = (element tags.Html None ([]) None ((record { property = properties.WritingMode; value = (values.Keyword keywords.SidewaysLr); important = false; place = 0 }) ∷ (record { property = properties.TextOrientation; value = (values.Keyword keywords.Upright); important = false; place = 0 }) ∷ [])) }) ∷ (record { parent = (Some 0); children = (2 ∷ []); what = (element tags.Body None ([]) (Some directions.Rtl) ((record { property = properties.BorderTopWidth; value = (values.Px (pos 500)); important = true; place = 0 }) ∷ (record { property = properties.BorderTopStyle; value = values.Initial; important = true; place = 0 }) ∷ (record { property = properties.TextCombineUpright; value = (values.Keyword keywords.All); important = false; place = 0 }) ∷ [])) }) ∷ (record { parent = (Some 1); children = ([]); what = (element tags.H5 None ([]) None ((record { property = properties.TextAlign; value = (values.Keyword keywords.Right); important = false; place = 0 }) ∷ (record { property = properties.MarginRight; value = (values.Px (pos 2000)); important = true; place = 0 }) ∷ (record { property = properties.Direction; value = (values.Keyword keywords.Rtl); important = true; place = 0 }) ∷ [])) }) ∷ [])

unfoldable state_7 : State
state_7 = record { node_at = λ n. slice_get entries_7 n; next = 3 }

document_7 : styled_document ([]) state_7 ≡ (styled.node 0 styled.element (record { display = displays.FlowRoot; mode = modes.SidewaysLr; direction = directions.Rtl; orientation = orientations.Mixed; combine = combines.Never; bidi = bidis.Normal; font_size = (pos 1024); face = 0; line_height = heights.Normal; align = aligns.Start; shift = (pos 0); width = sizes.Auto; height = sizes.Auto; min_width = sizes.Auto; min_height = sizes.Auto; max_width = sizes.Auto; max_height = sizes.Auto; margin = record { top = (sizes.Length (pos 0)); right = (sizes.Length (pos 0)); bottom = (sizes.Length (pos 0)); left = (sizes.Length (pos 0)) }; padding = record { top = (sizes.Length (pos 0)); right = (sizes.Length (pos 0)); bottom = (sizes.Length (pos 0)); left = (sizes.Length (pos 0)) }; border = record { top = (pos 0); right = (pos 0); bottom = (pos 0); left = (pos 0) }; relative = false; insets = nowhere }) (styled.node 1 styled.element (record { display = displays.Block; mode = modes.SidewaysLr; direction = directions.Rtl; orientation = orientations.Upright; combine = combines.All; bidi = bidis.Isolate; font_size = (pos 1024); face = 0; line_height = heights.Normal; align = aligns.Start; shift = (pos 0); width = sizes.Auto; height = sizes.Auto; min_width = sizes.Auto; min_height = sizes.Auto; max_width = sizes.Auto; max_height = sizes.Auto; margin = record { top = (sizes.Length (pos 512)); right = (sizes.Length (pos 512)); bottom = (sizes.Length (pos 512)); left = (sizes.Length (pos 512)) }; padding = record { top = (sizes.Length (pos 0)); right = (sizes.Length (pos 0)); bottom = (sizes.Length (pos 0)); left = (sizes.Length (pos 0)) }; border = record { top = (pos 0); right = (pos 0); bottom = (pos 0); left = (pos 0) }; relative = false; insets = nowhere }) (styled.node 2 styled.element (record { display = displays.Block; mode = modes.SidewaysLr; direction = directions.Rtl; orientation = orientations.Upright; combine = combines.All; bidi = bidis.Normal; font_size = (pos 850); face = 0; line_height = heights.Normal; align = aligns.Right; shift = (pos 0); width = sizes.Auto; height = sizes.Auto; min_width = sizes.Auto; min_height = sizes.Auto; max_width = sizes.Auto; max_height = sizes.Auto; margin = record { top = (sizes.Length (pos 0)); right = (sizes.Length (pos 1280)); bottom = (sizes.Length (pos 0)); left = (sizes.Length (pos 1420)) }; padding = record { top = (sizes.Length (pos 0)); right = (sizes.Length (pos 0)); bottom = (sizes.Length (pos 0)); left = (sizes.Length (pos 0)) }; border = record { top = (pos 0); right = (pos 0); bottom = (pos 0); left = (pos 0) }; relative = false; insets = nowhere }) styled.none styled.none) styled.none) styled.none)
unfolding state_7 entries_7 styled_in line_to tree_to matches_from some each tails tag_names.tags is_less stated claims_of_rules greatest_from sum default_rules initial won said margin_at padding_at size_at border_at inset_at margins paddings borders insets own_font_size own_mode own_display own_direction own_orientation own_combine own_bidi own_face own_line_height own_align own_shift own_relative sized
document_7 = refl

unfoldable entries_8 : List Entry
entries_8 = ((record { parent = None; children = (1 ∷ []); what = (element tags.Html None ([]) (Some directions.Ltr) ((record { property = properties.FontFamily; value = (values.Face 2); important = true; place = 0 }) ∷ (record { property = properties.MarginTop; value = values.Initial; important = false; place = 0 }) ∷ (record { property = properties.MarginRight; value = values.Initial; important = false; place = 0 }) ∷ (record { property = properties.MarginBottom; value = values.Initial; important = false; place = 0 }) ∷ (record { property = properties.MarginLeft; value = values.Initial; important = false; place = 0 }) ∷ (record { property = properties.PaddingBlockStart; value = values.Initial; important = true; place = 0 }) ∷ (record { property = properties.PaddingBlockEnd; value = values.Initial; important = true; place = 0 }) ∷ [])) }) ∷ (record { parent = (Some 0); children = ([]); what = (element tags.Body None ([]) (Some directions.Ltr) ((record { property = properties.MarginInlineStart; value = (values.Px (pos 300)); important = false; place = 0 }) ∷ (record { property = properties.MarginInlineEnd; value = (values.Px (pos 300)); important = false; place = 0 }) ∷ (record { property = properties.MaxWidth; value = (values.Keyword keywords.None); important = false; place = 0 }) ∷ (record { property = properties.VerticalAlign; value = (values.Em (pos 50)); important = false; place = 0 }) ∷ [])) }) ∷ [])

unfoldable state_8 : State
state_8 = record { node_at = λ n. slice_get entries_8 n; next = 2 }

document_8 : styled_document ([]) state_8 ≡ (styled.node 0 styled.element (record { display = displays.FlowRoot; mode = modes.HorizontalTb; direction = directions.Ltr; orientation = orientations.Mixed; combine = combines.Never; bidi = bidis.Isolate; font_size = (pos 1024); face = 2; line_height = heights.Normal; align = aligns.Start; shift = (pos 0); width = sizes.Auto; height = sizes.Auto; min_width = sizes.Auto; min_height = sizes.Auto; max_width = sizes.Auto; max_height = sizes.Auto; margin = record { top = (sizes.Length (pos 0)); right = (sizes.Length (pos 0)); bottom = (sizes.Length (pos 0)); left = (sizes.Length (pos 0)) }; padding = record { top = (sizes.Length (pos 0)); right = (sizes.Length (pos 0)); bottom = (sizes.Length (pos 0)); left = (sizes.Length (pos 0)) }; border = record { top = (pos 0); right = (pos 0); bottom = (pos 0); left = (pos 0) }; relative = false; insets = nowhere }) (styled.node 1 styled.element (record { display = displays.Block; mode = modes.HorizontalTb; direction = directions.Ltr; orientation = orientations.Mixed; combine = combines.Never; bidi = bidis.Isolate; font_size = (pos 1024); face = 2; line_height = heights.Normal; align = aligns.Start; shift = (pos 512); width = sizes.Auto; height = sizes.Auto; min_width = sizes.Auto; min_height = sizes.Auto; max_width = sizes.Auto; max_height = sizes.Auto; margin = record { top = (sizes.Length (pos 512)); right = (sizes.Length (pos 192)); bottom = (sizes.Length (pos 512)); left = (sizes.Length (pos 192)) }; padding = record { top = (sizes.Length (pos 0)); right = (sizes.Length (pos 0)); bottom = (sizes.Length (pos 0)); left = (sizes.Length (pos 0)) }; border = record { top = (pos 0); right = (pos 0); bottom = (pos 0); left = (pos 0) }; relative = false; insets = nowhere }) styled.none styled.none) styled.none)
unfolding state_8 entries_8 styled_in line_to tree_to matches_from some each tails tag_names.tags is_less stated claims_of_rules greatest_from sum default_rules initial won said margin_at padding_at size_at border_at inset_at margins paddings borders insets own_font_size own_mode own_display own_direction own_orientation own_combine own_bidi own_face own_line_height own_align own_shift own_relative sized
document_8 = refl

unfoldable entries_9 : List Entry
entries_9 = ((record { parent = None; children = (1 ∷ []); what = (element tags.Html None ([]) None ((record { property = properties.BlockSize; value = (values.Px (pos 0)); important = true; place = 0 }) ∷ (record { property = properties.PaddingInlineEnd; value = (values.Px (pos 100)); important = true; place = 0 }) ∷ (record { property = properties.TextAlign; value = (values.Keyword keywords.Start); important = false; place = 0 }) ∷ [])) }) ∷ (record { parent = (Some 0); children = ([]); what = (element tags.Body None ([]) None ((record { property = properties.BorderTopWidth; value = (values.Px (pos 100)); important = false; place = 0 }) ∷ (record { property = properties.BorderRightWidth; value = (values.Px (pos 100)); important = false; place = 0 }) ∷ (record { property = properties.BorderBottomWidth; value = (values.Px (pos 100)); important = false; place = 0 }) ∷ (record { property = properties.BorderLeftWidth; value = (values.Px (pos 100)); important = false; place = 0 }) ∷ (record { property = properties.BorderTopStyle; value = (values.Keyword keywords.Solid); important = false; place = 0 }) ∷ (record { property = properties.BorderRightStyle; value = (values.Keyword keywords.Solid); important = false; place = 0 }) ∷ (record { property = properties.BorderBottomStyle; value = (values.Keyword keywords.Solid); important = false; place = 0 }) ∷ (record { property = properties.BorderLeftStyle; value = (values.Keyword keywords.Solid); important = false; place = 0 }) ∷ (record { property = properties.FontSize; value = (values.Percent (pos 5000)); important = true; place = 0 }) ∷ (record { property = properties.Display; value = (values.Keyword keywords.Inline); important = false; place = 0 }) ∷ [])) }) ∷ [])

unfoldable state_9 : State
state_9 = record { node_at = λ n. slice_get entries_9 n; next = 2 }

document_9 : styled_document ([]) state_9 ≡ (styled.node 0 styled.element (record { display = displays.FlowRoot; mode = modes.HorizontalTb; direction = directions.Ltr; orientation = orientations.Mixed; combine = combines.Never; bidi = bidis.Normal; font_size = (pos 1024); face = 0; line_height = heights.Normal; align = aligns.Start; shift = (pos 0); width = sizes.Auto; height = (sizes.Length (pos 0)); min_width = sizes.Auto; min_height = sizes.Auto; max_width = sizes.Auto; max_height = sizes.Auto; margin = record { top = (sizes.Length (pos 0)); right = (sizes.Length (pos 0)); bottom = (sizes.Length (pos 0)); left = (sizes.Length (pos 0)) }; padding = record { top = (sizes.Length (pos 0)); right = (sizes.Length (pos 64)); bottom = (sizes.Length (pos 0)); left = (sizes.Length (pos 0)) }; border = record { top = (pos 0); right = (pos 0); bottom = (pos 0); left = (pos 0) }; relative = false; insets = nowhere }) (styled.node 1 styled.element (record { display = displays.Inline; mode = modes.HorizontalTb; direction = directions.Ltr; orientation = orientations.Mixed; combine = combines.Never; bidi = bidis.Normal; font_size = (pos 512); face = 0; line_height = heights.Normal; align = aligns.Start; shift = (pos 0); width = sizes.Auto; height = sizes.Auto; min_width = sizes.Auto; min_height = sizes.Auto; max_width = sizes.Auto; max_height = sizes.Auto; margin = record { top = (sizes.Length (pos 512)); right = (sizes.Length (pos 512)); bottom = (sizes.Length (pos 512)); left = (sizes.Length (pos 512)) }; padding = record { top = (sizes.Length (pos 0)); right = (sizes.Length (pos 0)); bottom = (sizes.Length (pos 0)); left = (sizes.Length (pos 0)) }; border = record { top = (pos 64); right = (pos 64); bottom = (pos 64); left = (pos 64) }; relative = false; insets = nowhere }) styled.none styled.none) styled.none)
unfolding state_9 entries_9 styled_in line_to tree_to matches_from some each tails tag_names.tags is_less stated claims_of_rules greatest_from sum default_rules initial won said margin_at padding_at size_at border_at inset_at margins paddings borders insets own_font_size own_mode own_display own_direction own_orientation own_combine own_bidi own_face own_line_height own_align own_shift own_relative sized
document_9 = refl
