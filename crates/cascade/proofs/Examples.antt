-- Selectors on lines of elements, and winners, as an independent implementation has them.
use Rattle.std.specs.Prelude.{◌≡◌, refl, true, false, [], ◌∷◌, Some, None, pos, negsuc}
use Rattle.css_types.specs.declared.property.Property.TheVariants as properties
use Rattle.css_types.specs.declared.keyword.Keyword.TheVariants as keywords
use Rattle.css_types.specs.declared.value.Value.TheVariants as values
use Rattle.style_types.specs.declared.style.Display.TheVariants as displays
use Rattle.style_types.specs.declared.style.Insets.{Insets}
use Rattle.style_types.specs.declared.style.TextOrientation.TheVariants as orientations
use Rattle.style_types.specs.declared.style.Combine.TheVariants as combines
use Rattle.style_types.specs.declared.style.UnicodeBidi.TheVariants as bidis
use Rattle.style_types.specs.declared.style.LineHeight.TheVariants as heights
use Rattle.style_types.specs.declared.style.Align.TheVariants as aligns
use Rattle.style_types.specs.declared.style.Size.TheVariants as sizes
use Rattle.wm_modes.specs.declared.mode.WritingMode.TheVariants as modes
use Rattle.wm_modes.specs.declared.mode.Direction.TheVariants as directions
use Rattle.style_types.specs.Initial.{initial}
use Rattle.html_tokens.specs.declared.tag.Tag.TheVariants as tags
use Rattle.html_tokens.specs.Tag as tag_names
use Rattle.css_types.specs.declared.rule.Joint.TheVariants as joints
use Rattle.css_sheet.specs.Specificity.{sum}
use Rattle.css_sheet.specs.Default.{default_rules}
use Rattle.dom_store.specs.State.{element}
use Rattle.cascade.specs.Matching.{matches, matches_from, some, each, tails}
use Rattle.cascade.specs.Claims.{is_less, stated, claims_of_rules}
use Rattle.cascade.specs.Winners.{winners, greatest_from}

abbrev nowhere : Insets
nowhere = record { top = sizes.Auto; right = sizes.Auto; bottom = sizes.Auto; left = sizes.Auto }

matching_0 : matches ((record { joint = joints.Descendant; tag = (Some (98 ∷ 111 ∷ 100 ∷ 121 ∷ [])); classes = ([]); ids = ([]) }) ∷ (record { joint = joints.Descendant; tag = None; classes = ([]); ids = ([]) }) ∷ (record { joint = joints.Child; tag = None; classes = ([]); ids = ([]) }) ∷ []) ((element tags.Div None ([]) None ([])) ∷ (element tags.Div None ([]) None ([])) ∷ (element tags.Body (Some (121 ∷ [])) ([]) None ([])) ∷ (element tags.Html (Some (120 ∷ [])) ([]) None ([])) ∷ []) ≡ true
unfolding matches_from some each tails tag_names.tags
matching_0 = refl

matching_1 : matches ((record { joint = joints.Descendant; tag = (Some (98 ∷ 111 ∷ 100 ∷ 121 ∷ [])); classes = ([]); ids = ([]) }) ∷ (record { joint = joints.Descendant; tag = None; classes = ([]); ids = ([]) }) ∷ (record { joint = joints.Child; tag = None; classes = ([]); ids = ([]) }) ∷ []) ((element tags.Br None ([]) None ([])) ∷ (element tags.Div (Some (120 ∷ [])) ([]) None ([])) ∷ (element tags.Body (Some (121 ∷ [])) ([]) None ([])) ∷ (element tags.Html (Some (120 ∷ [])) ([]) None ([])) ∷ []) ≡ true
unfolding matches_from some each tails tag_names.tags
matching_1 = refl

matching_2 : matches ((record { joint = joints.Descendant; tag = (Some (98 ∷ 111 ∷ 100 ∷ 121 ∷ [])); classes = ([]); ids = ([]) }) ∷ (record { joint = joints.Descendant; tag = None; classes = ([]); ids = ([]) }) ∷ (record { joint = joints.Child; tag = None; classes = ([]); ids = ([]) }) ∷ []) ((element tags.Em (Some (120 ∷ [])) ((99 ∷ 49 ∷ []) ∷ (97 ∷ 45 ∷ 98 ∷ []) ∷ (98 ∷ []) ∷ []) None ([])) ∷ (element tags.Div (Some (120 ∷ [])) ([]) None ([])) ∷ (element tags.Body (Some (121 ∷ [])) ([]) None ([])) ∷ (element tags.Html (Some (120 ∷ [])) ([]) None ([])) ∷ []) ≡ true
unfolding matches_from some each tails tag_names.tags
matching_2 = refl

matching_3 : matches ((record { joint = joints.Descendant; tag = (Some (98 ∷ 111 ∷ 100 ∷ 121 ∷ [])); classes = ([]); ids = ([]) }) ∷ (record { joint = joints.Child; tag = None; classes = ((98 ∷ []) ∷ []); ids = ([]) }) ∷ []) ((element tags.Em (Some (120 ∷ 32 ∷ 121 ∷ [])) ((98 ∷ []) ∷ (97 ∷ 45 ∷ 98 ∷ []) ∷ []) None ([])) ∷ (element tags.Body None ((65 ∷ []) ∷ (65 ∷ []) ∷ []) None ([])) ∷ (element tags.Html (Some (121 ∷ [])) ((99 ∷ 49 ∷ []) ∷ (65 ∷ []) ∷ []) None ([])) ∷ []) ≡ true
unfolding matches_from some each tails tag_names.tags
matching_3 = refl

matching_4 : matches ((record { joint = joints.Descendant; tag = None; classes = ((99 ∷ 49 ∷ []) ∷ []); ids = ([]) }) ∷ (record { joint = joints.Descendant; tag = (Some (101 ∷ 109 ∷ [])); classes = ([]); ids = ([]) }) ∷ []) ((element tags.Em (Some (120 ∷ 32 ∷ 121 ∷ [])) ((65 ∷ []) ∷ []) None ([])) ∷ (element tags.Body None ((98 ∷ []) ∷ (99 ∷ 49 ∷ []) ∷ []) None ([])) ∷ (element tags.Html None ([]) None ([])) ∷ []) ≡ true
unfolding matches_from some each tails tag_names.tags
matching_4 = refl

matching_5 : matches ((record { joint = joints.Descendant; tag = None; classes = ((99 ∷ 49 ∷ []) ∷ []); ids = ([]) }) ∷ (record { joint = joints.Descendant; tag = (Some (101 ∷ 109 ∷ [])); classes = ([]); ids = ([]) }) ∷ []) ((element tags.Em None ((98 ∷ []) ∷ (65 ∷ []) ∷ (65 ∷ []) ∷ []) None ([])) ∷ (element tags.Body None ((98 ∷ []) ∷ (99 ∷ 49 ∷ []) ∷ []) None ([])) ∷ (element tags.Html None ([]) None ([])) ∷ []) ≡ true
unfolding matches_from some each tails tag_names.tags
matching_5 = refl

matching_6 : matches ((record { joint = joints.Descendant; tag = None; classes = ((65 ∷ []) ∷ []); ids = ([]) }) ∷ (record { joint = joints.Descendant; tag = None; classes = ([]); ids = ((120 ∷ []) ∷ []) }) ∷ []) ((element tags.Div (Some (120 ∷ [])) ((65 ∷ []) ∷ (99 ∷ 49 ∷ []) ∷ []) None ([])) ∷ (element tags.Body None ((65 ∷ []) ∷ (97 ∷ []) ∷ []) None ([])) ∷ (element tags.Html None ((97 ∷ 45 ∷ 98 ∷ []) ∷ []) None ([])) ∷ []) ≡ true
unfolding matches_from some each tails tag_names.tags
matching_6 = refl

matching_7 : matches ((record { joint = joints.Descendant; tag = (Some (112 ∷ [])); classes = ([]); ids = ([]) }) ∷ (record { joint = joints.Child; tag = (Some (98 ∷ 111 ∷ 100 ∷ 121 ∷ [])); classes = ((97 ∷ []) ∷ []); ids = ([]) }) ∷ (record { joint = joints.Descendant; tag = None; classes = ((97 ∷ []) ∷ []); ids = ([]) }) ∷ []) ((element tags.Html None ([]) None ([])) ∷ []) ≡ false
unfolding matches_from some each tails tag_names.tags
matching_7 = refl

matching_8 : matches ((record { joint = joints.Descendant; tag = (Some (112 ∷ [])); classes = ([]); ids = ([]) }) ∷ (record { joint = joints.Child; tag = (Some (98 ∷ 111 ∷ 100 ∷ 121 ∷ [])); classes = ((97 ∷ []) ∷ []); ids = ([]) }) ∷ (record { joint = joints.Descendant; tag = None; classes = ((97 ∷ []) ∷ []); ids = ([]) }) ∷ []) ((element tags.Body (Some (120 ∷ 32 ∷ 121 ∷ [])) ((97 ∷ []) ∷ (99 ∷ 49 ∷ []) ∷ []) None ([])) ∷ (element tags.Html None ([]) None ([])) ∷ []) ≡ false
unfolding matches_from some each tails tag_names.tags
matching_8 = refl

matching_9 : matches ((record { joint = joints.Descendant; tag = (Some (112 ∷ [])); classes = ([]); ids = ([]) }) ∷ (record { joint = joints.Child; tag = (Some (98 ∷ 111 ∷ 100 ∷ 121 ∷ [])); classes = ((97 ∷ []) ∷ []); ids = ([]) }) ∷ (record { joint = joints.Descendant; tag = None; classes = ((97 ∷ []) ∷ []); ids = ([]) }) ∷ []) ((element tags.Div None ((99 ∷ 49 ∷ []) ∷ (97 ∷ 45 ∷ 98 ∷ []) ∷ (98 ∷ []) ∷ []) None ([])) ∷ (element tags.Body (Some (120 ∷ 32 ∷ 121 ∷ [])) ((97 ∷ []) ∷ (99 ∷ 49 ∷ []) ∷ []) None ([])) ∷ (element tags.Html None ([]) None ([])) ∷ []) ≡ false
unfolding matches_from some each tails tag_names.tags
matching_9 = refl

matching_10 : matches ((record { joint = joints.Descendant; tag = (Some (112 ∷ [])); classes = ([]); ids = ([]) }) ∷ (record { joint = joints.Child; tag = (Some (98 ∷ 111 ∷ 100 ∷ 121 ∷ [])); classes = ((97 ∷ []) ∷ []); ids = ([]) }) ∷ (record { joint = joints.Descendant; tag = None; classes = ((97 ∷ []) ∷ []); ids = ([]) }) ∷ []) ((element tags.Br (Some (49 ∷ 97 ∷ [])) ([]) None ([])) ∷ (element tags.Div None ((99 ∷ 49 ∷ []) ∷ (97 ∷ 45 ∷ 98 ∷ []) ∷ (98 ∷ []) ∷ []) None ([])) ∷ (element tags.Body (Some (120 ∷ 32 ∷ 121 ∷ [])) ((97 ∷ []) ∷ (99 ∷ 49 ∷ []) ∷ []) None ([])) ∷ (element tags.Html None ([]) None ([])) ∷ []) ≡ false
unfolding matches_from some each tails tag_names.tags
matching_10 = refl

matching_11 : matches ((record { joint = joints.Descendant; tag = (Some (112 ∷ [])); classes = ([]); ids = ([]) }) ∷ (record { joint = joints.Child; tag = (Some (98 ∷ 111 ∷ 100 ∷ 121 ∷ [])); classes = ((97 ∷ []) ∷ []); ids = ([]) }) ∷ (record { joint = joints.Descendant; tag = None; classes = ((97 ∷ []) ∷ []); ids = ([]) }) ∷ []) ((element tags.Div (Some (120 ∷ 32 ∷ 121 ∷ [])) ((98 ∷ []) ∷ []) None ([])) ∷ (element tags.Div None ((99 ∷ 49 ∷ []) ∷ (97 ∷ 45 ∷ 98 ∷ []) ∷ (98 ∷ []) ∷ []) None ([])) ∷ (element tags.Body (Some (120 ∷ 32 ∷ 121 ∷ [])) ((97 ∷ []) ∷ (99 ∷ 49 ∷ []) ∷ []) None ([])) ∷ (element tags.Html None ([]) None ([])) ∷ []) ≡ false
unfolding matches_from some each tails tag_names.tags
matching_11 = refl

winners_0 : winners ((record { selector = ((record { joint = joints.Descendant; tag = None; classes = ((97 ∷ []) ∷ []); ids = ([]) }) ∷ []); declarations = ((record { property = properties.PaddingBottom; value = (values.Px (pos 500)); important = true; place = 0 }) ∷ (record { property = properties.InlineSize; value = (values.Px (pos 4000)); important = false; place = 0 }) ∷ (record { property = properties.BorderBlockStartWidth; value = (values.Px (pos 100)); important = false; place = 0 }) ∷ (record { property = properties.LineHeight; value = (values.Px (pos 2000)); important = true; place = 0 }) ∷ []) }) ∷ (record { selector = ((record { joint = joints.Descendant; tag = None; classes = ((98 ∷ []) ∷ (98 ∷ []) ∷ []); ids = ([]) }) ∷ []); declarations = ((record { property = properties.MarginBlockEnd; value = (values.Keyword keywords.Auto); important = false; place = 0 }) ∷ []) }) ∷ []) ((element tags.Li (Some (116 ∷ [])) ((97 ∷ []) ∷ (98 ∷ []) ∷ []) None ((record { property = properties.BorderRightWidth; value = (values.Em (pos 50)); important = false; place = 0 }) ∷ (record { property = properties.FontFamily; value = (values.Face 2); important = false; place = 0 }) ∷ [])) ∷ (element tags.Div None ([]) None ([])) ∷ (element tags.Body None ([]) None ((record { property = properties.Direction; value = (values.Keyword keywords.Rtl); important = false; place = 0 }) ∷ (record { property = properties.WritingMode; value = (values.Keyword keywords.SidewaysLr); important = false; place = 0 }) ∷ (record { property = properties.TextOrientation; value = (values.Keyword keywords.Upright); important = false; place = 0 }) ∷ [])) ∷ (element tags.Html None ([]) None ([])) ∷ []) (record { display = displays.Block; mode = modes.SidewaysLr; direction = directions.Rtl; orientation = orientations.Upright; combine = combines.Never; bidi = bidis.Normal; font_size = (pos 1024); face = 0; line_height = heights.Normal; align = aligns.Start; shift = (pos 0); width = sizes.Auto; height = sizes.Auto; min_width = sizes.Auto; min_height = sizes.Auto; max_width = sizes.Auto; max_height = sizes.Auto; margin = record { top = (sizes.Length (pos 0)); right = (sizes.Length (pos 0)); bottom = (sizes.Length (pos 0)); left = (sizes.Length (pos 0)) }; padding = record { top = (sizes.Length (pos 0)); right = (sizes.Length (pos 0)); bottom = (sizes.Length (pos 0)); left = (sizes.Length (pos 0)) }; border = record { top = (pos 0); right = (pos 0); bottom = (pos 0); left = (pos 0) }; relative = false; insets = nowhere }) ≡ ((properties.Display, (values.Keyword keywords.Block)) ∷ (properties.FontFamily, (values.Face 2)) ∷ (properties.LineHeight, (values.Px (pos 2000))) ∷ (properties.Height, (values.Px (pos 4000))) ∷ (properties.MarginRight, (values.Keyword keywords.Auto)) ∷ (properties.PaddingBottom, (values.Px (pos 500))) ∷ (properties.BorderRightWidth, (values.Em (pos 50))) ∷ (properties.BorderLeftWidth, (values.Px (pos 100))) ∷ [])
unfolding matches_from some each tails tag_names.tags is_less stated claims_of_rules greatest_from sum default_rules initial
winners_0 = refl

winners_1 : winners ((record { selector = ((record { joint = joints.Descendant; tag = (Some (100 ∷ 105 ∷ 118 ∷ [])); classes = ([]); ids = ([]) }) ∷ (record { joint = joints.Child; tag = (Some (117 ∷ 108 ∷ [])); classes = ([]); ids = ([]) }) ∷ []); declarations = ((record { property = properties.MarginTop; value = (values.Px (pos 1002)); important = false; place = 0 }) ∷ (record { property = properties.BorderInlineStartWidth; value = (values.Px (pos 300)); important = false; place = 0 }) ∷ (record { property = properties.BorderInlineEndWidth; value = (values.Px (pos 300)); important = false; place = 0 }) ∷ (record { property = properties.BorderInlineStartStyle; value = (values.Keyword keywords.Dashed); important = false; place = 0 }) ∷ (record { property = properties.BorderInlineEndStyle; value = (values.Keyword keywords.Dashed); important = false; place = 0 }) ∷ (record { property = properties.BorderRightWidth; value = (values.Px (pos 100)); important = false; place = 0 }) ∷ (record { property = properties.BorderRightStyle; value = (values.Keyword keywords.Solid); important = false; place = 0 }) ∷ []) }) ∷ (record { selector = ((record { joint = joints.Descendant; tag = (Some (104 ∷ 116 ∷ 109 ∷ 108 ∷ [])); classes = ([]); ids = ([]) }) ∷ []); declarations = ((record { property = properties.VerticalAlign; value = (values.Em (pos 50)); important = false; place = 0 }) ∷ (record { property = properties.InlineSize; value = (values.Percent (pos 3333)); important = false; place = 0 }) ∷ (record { property = properties.VerticalAlign; value = (values.Px (negsuc 499)); important = false; place = 0 }) ∷ (record { property = properties.TextOrientation; value = (values.Keyword keywords.Upright); important = false; place = 0 }) ∷ []) }) ∷ []) ((element tags.Ul (Some (116 ∷ [])) ((97 ∷ []) ∷ (98 ∷ []) ∷ []) None ([])) ∷ (element tags.Div None ([]) None ([])) ∷ (element tags.Body None ([]) (Some directions.Rtl) ([])) ∷ (element tags.Html None ([]) (Some directions.Rtl) ([])) ∷ []) (record { display = displays.Block; mode = modes.HorizontalTb; direction = directions.Rtl; orientation = orientations.Upright; combine = combines.Never; bidi = bidis.Normal; font_size = (pos 1024); face = 0; line_height = heights.Normal; align = aligns.Start; shift = (pos 0); width = sizes.Auto; height = sizes.Auto; min_width = sizes.Auto; min_height = sizes.Auto; max_width = sizes.Auto; max_height = sizes.Auto; margin = record { top = (sizes.Length (pos 0)); right = (sizes.Length (pos 0)); bottom = (sizes.Length (pos 0)); left = (sizes.Length (pos 0)) }; padding = record { top = (sizes.Length (pos 0)); right = (sizes.Length (pos 0)); bottom = (sizes.Length (pos 0)); left = (sizes.Length (pos 0)) }; border = record { top = (pos 0); right = (pos 0); bottom = (pos 0); left = (pos 0) }; relative = false; insets = nowhere }) ≡ ((properties.Display, (values.Keyword keywords.Block)) ∷ (properties.MarginTop, (values.Px (pos 1002))) ∷ (properties.MarginBottom, (values.Em (pos 100))) ∷ (properties.PaddingRight, (values.Px (pos 4000))) ∷ (properties.BorderRightWidth, (values.Px (pos 100))) ∷ (properties.BorderLeftWidth, (values.Px (pos 300))) ∷ (properties.BorderRightStyle, (values.Keyword keywords.Solid)) ∷ (properties.BorderLeftStyle, (values.Keyword keywords.Dashed)) ∷ [])
unfolding matches_from some each tails tag_names.tags is_less stated claims_of_rules greatest_from sum default_rules initial
winners_1 = refl

winners_2 : winners ((record { selector = ((record { joint = joints.Descendant; tag = (Some (98 ∷ 111 ∷ 100 ∷ 121 ∷ [])); classes = ([]); ids = ([]) }) ∷ []); declarations = ((record { property = properties.MarginBlockStart; value = (values.Px (pos 2000)); important = true; place = 0 }) ∷ (record { property = properties.WritingMode; value = (values.Keyword keywords.SidewaysLr); important = true; place = 0 }) ∷ []) }) ∷ []) ((element tags.P (Some (116 ∷ [])) ((97 ∷ []) ∷ (98 ∷ []) ∷ []) None ([])) ∷ (element tags.Div None ([]) None ([])) ∷ (element tags.Body None ([]) None ((record { property = properties.Direction; value = (values.Keyword keywords.Rtl); important = false; place = 0 }) ∷ (record { property = properties.WritingMode; value = (values.Keyword keywords.SidewaysLr); important = false; place = 0 }) ∷ (record { property = properties.TextOrientation; value = (values.Keyword keywords.Upright); important = false; place = 0 }) ∷ [])) ∷ (element tags.Html None ([]) None ((record { property = properties.BorderLeftStyle; value = (values.Keyword keywords.Solid); important = false; place = 0 }) ∷ (record { property = properties.InlineSize; value = (values.Keyword keywords.Auto); important = true; place = 0 }) ∷ [])) ∷ []) (record { display = displays.Block; mode = modes.SidewaysLr; direction = directions.Rtl; orientation = orientations.Upright; combine = combines.Never; bidi = bidis.Normal; font_size = (pos 1024); face = 0; line_height = heights.Normal; align = aligns.Start; shift = (pos 0); width = sizes.Auto; height = sizes.Auto; min_width = sizes.Auto; min_height = sizes.Auto; max_width = sizes.Auto; max_height = sizes.Auto; margin = record { top = (sizes.Length (pos 0)); right = (sizes.Length (pos 0)); bottom = (sizes.Length (pos 0)); left = (sizes.Length (pos 0)) }; padding = record { top = (sizes.Length (pos 0)); right = (sizes.Length (pos 0)); bottom = (sizes.Length (pos 0)); left = (sizes.Length (pos 0)) }; border = record { top = (pos 0); right = (pos 0); bottom = (pos 0); left = (pos 0) }; relative = false; insets = nowhere }) ≡ ((properties.Display, (values.Keyword keywords.Block)) ∷ (properties.MarginRight, (values.Em (pos 100))) ∷ (properties.MarginLeft, (values.Em (pos 100))) ∷ [])
unfolding matches_from some each tails tag_names.tags is_less stated claims_of_rules greatest_from sum default_rules initial
winners_2 = refl

winners_3 : winners ((record { selector = ((record { joint = joints.Descendant; tag = (Some (98 ∷ 100 ∷ 111 ∷ [])); classes = ([]); ids = ([]) }) ∷ []); declarations = ((record { property = properties.Height; value = (values.Keyword keywords.Auto); important = false; place = 0 }) ∷ (record { property = properties.MarginTop; value = (values.Px (negsuc 9999)); important = false; place = 0 }) ∷ (record { property = properties.FontSize; value = (values.Px (pos 100000)); important = false; place = 0 }) ∷ []) }) ∷ (record { selector = ((record { joint = joints.Descendant; tag = None; classes = ((97 ∷ []) ∷ (98 ∷ []) ∷ []); ids = ([]) }) ∷ []); declarations = ((record { property = properties.BorderTopWidth; value = values.Initial; important = true; place = 0 }) ∷ (record { property = properties.BorderRightWidth; value = values.Initial; important = true; place = 0 }) ∷ (record { property = properties.BorderBottomWidth; value = values.Initial; important = true; place = 0 }) ∷ (record { property = properties.BorderLeftWidth; value = values.Initial; important = true; place = 0 }) ∷ (record { property = properties.BorderTopStyle; value = (values.Keyword keywords.None); important = true; place = 0 }) ∷ (record { property = properties.BorderRightStyle; value = (values.Keyword keywords.None); important = true; place = 0 }) ∷ (record { property = properties.BorderBottomStyle; value = (values.Keyword keywords.None); important = true; place = 0 }) ∷ (record { property = properties.BorderLeftStyle; value = (values.Keyword keywords.None); important = true; place = 0 }) ∷ (record { property = properties.MarginBlockEnd; value = (values.Percent (negsuc 4999)); important = true; place = 0 }) ∷ []) }) ∷ (record { selector = ((record { joint = joints.Descendant; tag = None; classes = ((98 ∷ []) ∷ (98 ∷ []) ∷ []); ids = ([]) }) ∷ []); declarations = ([]) }) ∷ []) ((element tags.Div None ([]) None ([])) ∷ (element tags.Body None ([]) (Some directions.Ltr) ((record { property = properties.Direction; value = (values.Keyword keywords.Rtl); important = false; place = 0 }) ∷ (record { property = properties.WritingMode; value = (values.Keyword keywords.VerticalRl); important = false; place = 0 }) ∷ (record { property = properties.TextOrientation; value = (values.Keyword keywords.Upright); important = false; place = 0 }) ∷ [])) ∷ (element tags.Html None ([]) (Some directions.Rtl) ([])) ∷ []) (record { display = displays.Block; mode = modes.VerticalRl; direction = directions.Rtl; orientation = orientations.Upright; combine = combines.Never; bidi = bidis.Isolate; font_size = (pos 1024); face = 0; line_height = heights.Normal; align = aligns.Start; shift = (pos 0); width = sizes.Auto; height = sizes.Auto; min_width = sizes.Auto; min_height = sizes.Auto; max_width = sizes.Auto; max_height = sizes.Auto; margin = record { top = (sizes.Length (pos 512)); right = (sizes.Length (pos 512)); bottom = (sizes.Length (pos 512)); left = (sizes.Length (pos 512)) }; padding = record { top = (sizes.Length (pos 0)); right = (sizes.Length (pos 0)); bottom = (sizes.Length (pos 0)); left = (sizes.Length (pos 0)) }; border = record { top = (pos 0); right = (pos 0); bottom = (pos 0); left = (pos 0) }; relative = false; insets = nowhere }) ≡ ((properties.Display, (values.Keyword keywords.Block)) ∷ [])
unfolding matches_from some each tails tag_names.tags is_less stated claims_of_rules greatest_from sum default_rules initial
winners_3 = refl

winners_4 : winners ((record { selector = ((record { joint = joints.Descendant; tag = None; classes = ((97 ∷ []) ∷ []); ids = ([]) }) ∷ []); declarations = ((record { property = properties.BorderInlineStartWidth; value = (values.Px (pos 200)); important = false; place = 0 }) ∷ (record { property = properties.WritingMode; value = (values.Keyword keywords.VerticalLr); important = false; place = 0 }) ∷ (record { property = properties.TextAlign; value = (values.Keyword keywords.Right); important = true; place = 0 }) ∷ (record { property = properties.PaddingBlockStart; value = values.Initial; important = false; place = 0 }) ∷ (record { property = properties.PaddingBlockEnd; value = values.Initial; important = false; place = 0 }) ∷ []) }) ∷ (record { selector = ((record { joint = joints.Descendant; tag = (Some (100 ∷ 105 ∷ 118 ∷ [])); classes = ([]); ids = ([]) }) ∷ (record { joint = joints.Descendant; tag = (Some (115 ∷ 112 ∷ 97 ∷ 110 ∷ [])); classes = ([]); ids = ([]) }) ∷ []); declarations = ((record { property = properties.VerticalAlign; value = values.Initial; important = false; place = 0 }) ∷ []) }) ∷ []) ((element tags.Span (Some (116 ∷ [])) ((97 ∷ []) ∷ (98 ∷ []) ∷ []) (Some directions.Rtl) ((record { property = properties.BorderBlockStartWidth; value = (values.Px (pos 100)); important = false; place = 0 }) ∷ [])) ∷ (element tags.Div None ([]) None ([])) ∷ (element tags.Body None ([]) (Some directions.Rtl) ((record { property = properties.WritingMode; value = (values.Keyword keywords.HorizontalTb); important = false; place = 0 }) ∷ [])) ∷ (element tags.Html None ([]) None ((record { property = properties.TextOrientation; value = values.Initial; important = false; place = 0 }) ∷ [])) ∷ []) (record { display = displays.Block; mode = modes.HorizontalTb; direction = directions.Rtl; orientation = orientations.Mixed; combine = combines.Never; bidi = bidis.Normal; font_size = (pos 1024); face = 0; line_height = heights.Normal; align = aligns.Start; shift = (pos 0); width = sizes.Auto; height = sizes.Auto; min_width = sizes.Auto; min_height = sizes.Auto; max_width = sizes.Auto; max_height = sizes.Auto; margin = record { top = (sizes.Length (pos 0)); right = (sizes.Length (pos 0)); bottom = (sizes.Length (pos 0)); left = (sizes.Length (pos 0)) }; padding = record { top = (sizes.Length (pos 0)); right = (sizes.Length (pos 0)); bottom = (sizes.Length (pos 0)); left = (sizes.Length (pos 0)) }; border = record { top = (pos 0); right = (pos 0); bottom = (pos 0); left = (pos 0) }; relative = false; insets = nowhere }) ≡ ((properties.WritingMode, (values.Keyword keywords.VerticalLr)) ∷ (properties.Direction, (values.Keyword keywords.Rtl)) ∷ (properties.UnicodeBidi, (values.Keyword keywords.Isolate)) ∷ (properties.TextAlign, (values.Keyword keywords.Right)) ∷ (properties.VerticalAlign, values.Initial) ∷ (properties.PaddingRight, values.Initial) ∷ (properties.PaddingLeft, values.Initial) ∷ (properties.BorderBottomWidth, (values.Px (pos 200))) ∷ (properties.BorderLeftWidth, (values.Px (pos 100))) ∷ [])
unfolding matches_from some each tails tag_names.tags is_less stated claims_of_rules greatest_from sum default_rules initial
winners_4 = refl

winners_5 : winners ((record { selector = ((record { joint = joints.Descendant; tag = (Some (104 ∷ 116 ∷ 109 ∷ 108 ∷ [])); classes = ([]); ids = ([]) }) ∷ []); declarations = ((record { property = properties.TextAlign; value = (values.Keyword keywords.Start); important = true; place = 0 }) ∷ (record { property = properties.MarginTop; value = (values.Px (pos 100)); important = false; place = 0 }) ∷ (record { property = properties.MarginRight; value = (values.Px (pos 200)); important = false; place = 0 }) ∷ (record { property = properties.MarginBottom; value = (values.Px (pos 100)); important = false; place = 0 }) ∷ (record { property = properties.MarginLeft; value = (values.Px (pos 200)); important = false; place = 0 }) ∷ []) }) ∷ (record { selector = ((record { joint = joints.Descendant; tag = (Some (100 ∷ 105 ∷ 118 ∷ [])); classes = ([]); ids = ([]) }) ∷ (record { joint = joints.Child; tag = (Some (108 ∷ 105 ∷ [])); classes = ([]); ids = ([]) }) ∷ []); declarations = ([]) }) ∷ (record { selector = ((record { joint = joints.Descendant; tag = None; classes = ([]); ids = ([]) }) ∷ []); declarations = ((record { property = properties.WritingMode; value = values.Inherit; important = false; place = 0 }) ∷ []) }) ∷ []) ((element tags.Body None ([]) (Some directions.Rtl) ([])) ∷ (element tags.Html None ([]) None ([])) ∷ []) (record { display = displays.Block; mode = modes.HorizontalTb; direction = directions.Ltr; orientation = orientations.Mixed; combine = combines.Never; bidi = bidis.Normal; font_size = (pos 1024); face = 0; line_height = heights.Normal; align = aligns.Start; shift = (pos 0); width = sizes.Auto; height = sizes.Auto; min_width = sizes.Auto; min_height = sizes.Auto; max_width = sizes.Auto; max_height = sizes.Auto; margin = record { top = (sizes.Length (pos 64)); right = (sizes.Length (pos 128)); bottom = (sizes.Length (pos 64)); left = (sizes.Length (pos 128)) }; padding = record { top = (sizes.Length (pos 0)); right = (sizes.Length (pos 0)); bottom = (sizes.Length (pos 0)); left = (sizes.Length (pos 0)) }; border = record { top = (pos 0); right = (pos 0); bottom = (pos 0); left = (pos 0) }; relative = false; insets = nowhere }) ≡ ((properties.Display, (values.Keyword keywords.Block)) ∷ (properties.WritingMode, values.Inherit) ∷ (properties.Direction, (values.Keyword keywords.Rtl)) ∷ (properties.UnicodeBidi, (values.Keyword keywords.Isolate)) ∷ (properties.MarginTop, (values.Px (pos 800))) ∷ (properties.MarginRight, (values.Px (pos 800))) ∷ (properties.MarginBottom, (values.Px (pos 800))) ∷ (properties.MarginLeft, (values.Px (pos 800))) ∷ [])
unfolding matches_from some each tails tag_names.tags is_less stated claims_of_rules greatest_from sum default_rules initial
winners_5 = refl

winners_6 : winners ([]) ((element tags.Div None ([]) None ((record { property = properties.WritingMode; value = (values.Keyword keywords.VerticalRl); important = false; place = 0 }) ∷ (record { property = properties.Position; value = (values.Keyword keywords.Relative); important = false; place = 0 }) ∷ (record { property = properties.InsetTop; value = (values.Px (pos 100)); important = false; place = 0 }) ∷ (record { property = properties.InsetRight; value = (values.Px (pos 200)); important = false; place = 0 }) ∷ (record { property = properties.InsetBottom; value = (values.Px (pos 100)); important = false; place = 0 }) ∷ (record { property = properties.InsetLeft; value = (values.Px (pos 200)); important = false; place = 0 }) ∷ (record { property = properties.InsetBlockStart; value = (values.Px (pos 300)); important = false; place = 0 }) ∷ (record { property = properties.InsetInlineEnd; value = (values.Keyword keywords.Auto); important = false; place = 0 }) ∷ [])) ∷ (element tags.Body None ([]) None ([])) ∷ (element tags.Html None ([]) None ([])) ∷ []) (record { display = displays.Block; mode = modes.HorizontalTb; direction = directions.Ltr; orientation = orientations.Mixed; combine = combines.Never; bidi = bidis.Normal; font_size = (pos 1024); face = 0; line_height = heights.Normal; align = aligns.Start; shift = (pos 0); width = sizes.Auto; height = sizes.Auto; min_width = sizes.Auto; min_height = sizes.Auto; max_width = sizes.Auto; max_height = sizes.Auto; margin = record { top = (sizes.Length (pos 0)); right = (sizes.Length (pos 0)); bottom = (sizes.Length (pos 0)); left = (sizes.Length (pos 0)) }; padding = record { top = (sizes.Length (pos 0)); right = (sizes.Length (pos 0)); bottom = (sizes.Length (pos 0)); left = (sizes.Length (pos 0)) }; border = record { top = (pos 0); right = (pos 0); bottom = (pos 0); left = (pos 0) }; relative = false; insets = nowhere }) ≡ ((properties.Display, (values.Keyword keywords.Block)) ∷ (properties.WritingMode, (values.Keyword keywords.VerticalRl)) ∷ (properties.Position, (values.Keyword keywords.Relative)) ∷ (properties.InsetTop, (values.Px (pos 100))) ∷ (properties.InsetRight, (values.Px (pos 300))) ∷ (properties.InsetBottom, (values.Keyword keywords.Auto)) ∷ (properties.InsetLeft, (values.Px (pos 200))) ∷ [])
unfolding matches_from some each tails tag_names.tags is_less stated claims_of_rules greatest_from sum default_rules initial
winners_6 = refl
