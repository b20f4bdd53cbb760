-- The pieces of a text, as bytes and as characters.
use Rattle.std.proofs.Common.{◌≡◌, ℕ, suc, ◌+◌, ◌≤◌, Bool, true, false, ◌&&◌, List, [], ◌∷◌, ◌++◌, map, length, ap, ap₂, subst, ◌∙◌, refl, arith}
use Rattle.std.specs.Prelude.{encode_utf8_all, if◌then◌else◌}
use Rattle.std.specs.Str.{chars, IsUtf8}
use Rattle.std.proofs.Math.Utf8.{scalar, scalars}
use Rattle.std.proofs.lemmas.Bool.{and_parts}
use Rattle.std.proofs.lemmas.Str.{chars-encodes, encodes-chars, length-le-encodes, scalars-chars}
use Rattle.unicode_segmentation.specs.Grapheme.{graphemes, is_grapheme_break}
use Rattle.unicode_segmentation.specs.Segments.{Rule, cut, prepend, segments}
use Rattle.cluster_units.specs.Cluster.{clusters}

-- every piece is made of characters
abbrev are_scalars : List (List ℕ) → Bool
are_scalars [] = true
are_scalars (piece ∷ pieces) = scalars piece && are_scalars pieces

-- how many characters all pieces have
abbrev pub total : List (List ℕ) → ℕ
total [] = 0
total (piece ∷ pieces) = length piece + total pieces

more_scalars : (breaks : Bool) (c : ℕ) (rest : List (List ℕ)) → scalar c ≡ true → are_scalars rest ≡ true → are_scalars (if breaks then (c ∷ []) ∷ rest else prepend (c ∷ []) rest) ≡ true
more_scalars true c rest one are = rw (one, are) refl
more_scalars false c [] one are = rw one refl
more_scalars false c (piece ∷ rest) one are =
    let parts = and_parts (scalars piece) (are_scalars rest) are in
    rw (one, parts.0, parts.1) refl

scalar_pieces : (rule : Rule) (before cs after : List ℕ) → scalars cs ≡ true → are_scalars (cut rule before cs after) ≡ true
unfolding cut
scalar_pieces rule before [] after are = refl
scalar_pieces rule before (c ∷ cs) after are =
    let parts = and_parts (scalar c) (scalars cs) are in
    more_scalars (rule (c ∷ before) (cs ++ after)) c (cut rule (c ∷ before) cs after) parts.0 (scalar_pieces rule (c ∷ before) cs after parts.1)

more_total : (breaks : Bool) (c : ℕ) (rest : List (List ℕ)) → total (if breaks then (c ∷ []) ∷ rest else prepend (c ∷ []) rest) ≡ suc (total rest)
more_total true c rest = omega arith
more_total false c [] = refl
more_total false c (piece ∷ rest) = omega arith

all_pieces : (rule : Rule) (before cs after : List ℕ) → total (cut rule before cs after) ≡ length cs
unfolding cut
all_pieces rule before [] after = refl
all_pieces rule before (c ∷ cs) after =
    more_total (rule (c ∷ before) (cs ++ after)) c (cut rule (c ∷ before) cs after) ∙ ap suc (all_pieces rule (c ∷ before) cs after)

back : (pieces : List (List ℕ)) → are_scalars pieces ≡ true → map chars (map encode_utf8_all pieces) ≡ pieces
back [] are = refl
back (piece ∷ pieces) are =
    let parts = and_parts (scalars piece) (are_scalars pieces) are in
    ap₂ (λ first rest. first ∷ rest) (chars-encodes piece parts.0) (back pieces parts.1)

pub pieces_are : (text : List ℕ) → IsUtf8 text → map chars (graphemes true text) ≡ clusters (chars text)
unfolding segments
pieces_are text utf8 = back (clusters (chars text)) (scalar_pieces (is_grapheme_break true) [] (chars text) [] (scalars-chars text utf8))

pub total_is : (text : List ℕ) → total (clusters text) ≡ length text
total_is text = all_pieces (is_grapheme_break true) [] text []

pub fewer_chars : (text : List ℕ) → IsUtf8 text → length (chars text) ≤ length text
fewer_chars text utf8 = subst (λ bytes. length (chars text) ≤ length bytes) (encodes-chars text utf8) (length-le-encodes (chars text))
