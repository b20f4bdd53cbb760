-- Which keywords are values together.
use Rattle.std.specs.Prelude.{ℕ, List, [], map}
use Rattle.css_types.specs.declared.keyword.Keywords.{Keywords}
use Rattle.css_types.specs.declared.keyword.Keywords.TheVariants as groups
use Rattle.css_types.specs.declared.keyword.TheConstants.{DISPLAYS, MODES, DIRECTIONS, ORIENTATIONS, COMBINES, BIDIS, NORMAL, ALIGNS, BASELINE, AUTO, NO_LIMIT, LINES, POSITIONS}

abbrev pub words_of : Keywords → List (List ℕ)
words_of groups.Nowhere = []
words_of groups.Displays = map (λ word. word.now) DISPLAYS
words_of groups.Modes = map (λ word. word.now) MODES
words_of groups.Directions = map (λ word. word.now) DIRECTIONS
words_of groups.Orientations = map (λ word. word.now) ORIENTATIONS
words_of groups.Combines = map (λ word. word.now) COMBINES
words_of groups.Bidis = map (λ word. word.now) BIDIS
words_of groups.Normal = map (λ word. word.now) NORMAL
words_of groups.Aligns = map (λ word. word.now) ALIGNS
words_of groups.Baseline = map (λ word. word.now) BASELINE
words_of groups.Auto = map (λ word. word.now) AUTO
words_of groups.NoLimit = map (λ word. word.now) NO_LIMIT
words_of groups.Lines = map (λ word. word.now) LINES
words_of groups.Positions = map (λ word. word.now) POSITIONS
