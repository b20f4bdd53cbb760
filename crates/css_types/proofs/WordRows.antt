-- The keywords with their words, the words of each group, and the widths with a name. docs/PROFILE/properties.md
-- has the same.
use Rattle.std.specs.Prelude.{◌≡◌, ℕ, List, [], ◌∷◌, map, codes, ℤ, pos}
use Rattle.std.proofs.Common.{refl}
use Rattle.css_types.specs.declared.keyword.Keyword.{Keyword}
use Rattle.css_types.specs.declared.keyword.Keyword.TheVariants as keywords
use Rattle.css_types.specs.declared.keyword.Keywords.TheVariants as groups
use Rattle.css_types.specs.declared.keyword.TheConstants.{WIDTH_NAMES}
use Rattle.css_types.specs.Keywords.{words_of}
use Rattle.css_types.specs.Value.{spelled}

abbrev row : List ℕ → Keyword → List ℕ × Keyword
row word keyword = (word, keyword)

words : spelled ≡
    (row (codes "block") keywords.Block
    ∷ row (codes "inline") keywords.Inline
    ∷ row (codes "inline-block") keywords.InlineBlock
    ∷ row (codes "flow-root") keywords.FlowRoot
    ∷ row (codes "none") keywords.None
    ∷ row (codes "horizontal-tb") keywords.HorizontalTb
    ∷ row (codes "vertical-rl") keywords.VerticalRl
    ∷ row (codes "vertical-lr") keywords.VerticalLr
    ∷ row (codes "sideways-rl") keywords.SidewaysRl
    ∷ row (codes "sideways-lr") keywords.SidewaysLr
    ∷ row (codes "ltr") keywords.Ltr
    ∷ row (codes "rtl") keywords.Rtl
    ∷ row (codes "mixed") keywords.Mixed
    ∷ row (codes "upright") keywords.Upright
    ∷ row (codes "sideways") keywords.Sideways
    ∷ row (codes "all") keywords.All
    ∷ row (codes "normal") keywords.Normal
    ∷ row (codes "embed") keywords.Embed
    ∷ row (codes "isolate") keywords.Isolate
    ∷ row (codes "bidi-override") keywords.BidiOverride
    ∷ row (codes "isolate-override") keywords.IsolateOverride
    ∷ row (codes "plaintext") keywords.Plaintext
    ∷ row (codes "start") keywords.Start
    ∷ row (codes "end") keywords.End
    ∷ row (codes "left") keywords.Left
    ∷ row (codes "right") keywords.Right
    ∷ row (codes "center") keywords.Center
    ∷ row (codes "baseline") keywords.Baseline
    ∷ row (codes "auto") keywords.Auto
    ∷ row (codes "hidden") keywords.Hidden
    ∷ row (codes "dotted") keywords.Dotted
    ∷ row (codes "dashed") keywords.Dashed
    ∷ row (codes "solid") keywords.Solid
    ∷ row (codes "double") keywords.Double
    ∷ row (codes "groove") keywords.Groove
    ∷ row (codes "ridge") keywords.Ridge
    ∷ row (codes "inset") keywords.Inset
    ∷ row (codes "outset") keywords.Outset
    ∷ row (codes "static") keywords.Static
    ∷ row (codes "relative") keywords.Relative
    ∷ [])
words = refl

of_nowhere : words_of groups.Nowhere ≡ []
of_nowhere = refl

of_displays : words_of groups.Displays ≡ codes "block" ∷ codes "inline" ∷ codes "inline-block" ∷ codes "flow-root" ∷ codes "none" ∷ []
of_displays = refl

of_modes : words_of groups.Modes ≡ codes "horizontal-tb" ∷ codes "vertical-rl" ∷ codes "vertical-lr" ∷ codes "sideways-rl" ∷ codes "sideways-lr" ∷ []
of_modes = refl

of_directions : words_of groups.Directions ≡ codes "ltr" ∷ codes "rtl" ∷ []
of_directions = refl

of_orientations : words_of groups.Orientations ≡ codes "mixed" ∷ codes "upright" ∷ codes "sideways" ∷ []
of_orientations = refl

of_combines : words_of groups.Combines ≡ codes "none" ∷ codes "all" ∷ []
of_combines = refl

of_bidis : words_of groups.Bidis ≡ codes "normal" ∷ codes "embed" ∷ codes "isolate" ∷ codes "bidi-override" ∷ codes "isolate-override" ∷ codes "plaintext" ∷ []
of_bidis = refl

of_normal : words_of groups.Normal ≡ codes "normal" ∷ []
of_normal = refl

of_aligns : words_of groups.Aligns ≡ codes "start" ∷ codes "end" ∷ codes "left" ∷ codes "right" ∷ codes "center" ∷ []
of_aligns = refl

of_baseline : words_of groups.Baseline ≡ codes "baseline" ∷ []
of_baseline = refl

of_auto : words_of groups.Auto ≡ codes "auto" ∷ []
of_auto = refl

of_no_limit : words_of groups.NoLimit ≡ codes "none" ∷ []
of_no_limit = refl

of_lines : words_of groups.Lines ≡ codes "none" ∷ codes "hidden" ∷ codes "dotted" ∷ codes "dashed" ∷ codes "solid" ∷ codes "double" ∷ codes "groove" ∷ codes "ridge" ∷ codes "inset" ∷ codes "outset" ∷ []
of_lines = refl

of_positions : words_of groups.Positions ≡ codes "static" ∷ codes "relative" ∷ []
of_positions = refl

abbrev width : List ℕ → ℤ → List ℕ × ℤ
width name hundredths = (name, hundredths)

widths : map (λ row. (row.0.now, row.1)) WIDTH_NAMES ≡ width (codes "thin") (pos 100) ∷ width (codes "medium") (pos 300) ∷ width (codes "thick") (pos 500) ∷ []
widths = refl
