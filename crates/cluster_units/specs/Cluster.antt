-- The extended grapheme clusters of a text (UAX 29): lists of characters, and where each stands.
use Rattle.std.specs.Prelude.{ℕ, ◌+◌, Bool, true, false, ◌&&◌, ◌==◌, not, nat_le, nat_lt, List, [], ◌∷◌, length, filter, slice_index_or, Option, Some}
use Rattle.unicode_segmentation.specs.Grapheme.{is_grapheme_break}
use Rattle.unicode_segmentation.specs.Segments.{cut}
use Rattle.wm_chars.specs.Repertoire.{break_class}
use Rattle.wm_chars.specs.declared.classes.BreakClass.{BreakClass}
use Rattle.wm_chars.specs.declared.classes.BreakClass.TheVariants.{Control}
use Rattle.cluster_units.specs.declared.cluster.Cluster.{Cluster}

-- the text, cut at each boundary of an extended grapheme cluster
abbrev pub clusters : List ℕ → List (List ℕ)
clusters text = cut (is_grapheme_break true) [] text []

-- the cluster of these characters, standing at this place
abbrev pub cluster_of : ℕ → List ℕ → Cluster
cluster_of place chars = record { first = place; end = place + length chars; head = slice_index_or chars 0 0 }

-- each cluster where it stands, the first at this place
abbrev pub placed : ℕ → List (List ℕ) → List Cluster
placed place [] = []
placed place (chars ∷ rest) = cluster_of place chars ∷ placed (place + length chars) rest

abbrev pub is_control_class : Option BreakClass → Bool
is_control_class (Some Control) = true
is_control_class _ = false

-- a bidi control
abbrev pub is_control : ℕ → Bool
is_control c = is_control_class (break_class c)

-- those that are units: all but the bidi controls
abbrev pub uncontrolled : List Cluster → List Cluster
uncontrolled = filter (λ cluster. not (is_control cluster.head))

-- the clusters of a text that are units
unfoldable pub unit_clusters : List ℕ → List Cluster
unit_clusters text = uncontrolled (placed 0 (clusters text))

-- whether it has several characters
abbrev pub is_several : Cluster → Bool
is_several cluster = nat_lt (cluster.first + 1) cluster.end

-- the single character U+0020
abbrev pub is_space : Cluster → Bool
is_space cluster = (cluster.head == 0x20) && not (is_several cluster)

-- a single character from U+0030 to U+0039: an ASCII digit
abbrev pub is_digit : Cluster → Bool
is_digit cluster = (nat_le 0x30 cluster.head && nat_le cluster.head 0x39) && not (is_several cluster)
