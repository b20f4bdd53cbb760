-- The lines of fragments one after the other, each with those inside it.
use Rattle.std.proofs.Common.{◌≡◌, ap, subst, ◌∙◌, ℕ, ◌+◌, ◌<◌, List, ◌++◌, length, drop, get_or, append_assoc}
use Rattle.std.specs.declared.option.Option.{Option}
use Rattle.io_edge.specs.Edge.{AppendsUpTo, AppendsFront}
use Rattle.place_map.specs.Parts.{Part, Parts, parts_of}
use Rattle.place_map.proofs.PartLists.{item_here}
use Rattle.listing.specs.Lines.{line_at}
use Rattle.listing.specs.Listing.{lines}
use Rattle.listing.specs.TextStanding.{standing_inside}
use Rattle.listing.specs.declared.text_standing.TextStanding.{TextStanding}
use Rattle.listing.proofs.Puts.{next_broken, next_put}

module _ (standing own : TextStanding) (ps : List Part) (k : ℕ) (p : Part) (below : Parts) (lt : k < length ps) (is : p ≡ get_or ps k p)
    (within : own ≡ standing_inside standing p.kind) (inner : below ≡ p.inner) where
  rest : List ℕ
  rest = lines standing (parts_of (drop (k + 1) ps))

  lines_here : lines standing (parts_of (drop k ps)) ≡ line_at standing p ++ (lines own below ++ rest)
  unfolding rest
  lines_here =
      ap (λ (l : List Part). lines standing (parts_of l)) (item_here ps k p lt is)
      ∙ rw (within, inner) (append_assoc (line_at standing p) _ _)

  module _ (s0 s1 s2 : Option (List ℕ)) (bytes waiting : List ℕ) (so_far : AppendsUpTo s0 s1 bytes (waiting ++ lines standing (parts_of (drop k ps)))) where
    here : AppendsUpTo s0 s1 bytes (waiting ++ (line_at standing p ++ (lines own below ++ rest)))
    here = subst (λ (l : List ℕ). AppendsUpTo s0 s1 bytes (waiting ++ l)) lines_here so_far

    pub line_broken : AppendsFront s1 s2 (waiting ++ line_at standing p) → AppendsFront s0 s2 bytes
    line_broken broken = next_broken s0 s1 s2 bytes waiting (line_at standing p) (lines own below ++ rest) here broken

    module _ (s3 : Option (List ℕ)) (w1 : List ℕ) (put : AppendsUpTo s1 s2 (waiting ++ line_at standing p) w1) where
      inside : AppendsUpTo s0 s2 bytes (w1 ++ (lines own below ++ rest))
      inside = next_put s0 s1 s2 bytes waiting (line_at standing p) (lines own below ++ rest) w1 here put

      pub below_broken : AppendsFront s2 s3 (w1 ++ lines own below) → AppendsFront s0 s3 bytes
      below_broken broken = next_broken s0 s2 s3 bytes w1 (lines own below) rest inside broken

      pub below_put : (w2 : List ℕ) → AppendsUpTo s2 s3 (w1 ++ lines own below) w2 → AppendsUpTo s0 s3 bytes (w2 ++ lines standing (parts_of (drop (k + 1) ps)))
      unfolding rest
      below_put w2 last = next_put s0 s2 s3 bytes w1 (lines own below) rest w2 inside last
