-- A listing, as it is put: its first line, the lines of what stands on the page, the last line.
use Rattle.std.proofs.Common.{◌≡◌, refl, subst, ℕ, List, [], ◌++◌}
use Rattle.std.specs.Prelude.{codes}
use Rattle.std.specs.declared.option.Option.{Option}
use Rattle.std.specs.Io.KnownBytes.{Appends}
use Rattle.io_edge.proofs.Growth.{put_partly, put_whole}
use Rattle.io_edge.specs.Edge.{AppendsUpTo, AppendsFront}
use Rattle.listing.proofs.Puts.{first_broken, second_broken, third_broken, three_put}

module _ (waiting line within first body : List ℕ) (none : waiting ≡ []) (told : line ≡ first) (same : within ≡ body) where
  text : waiting ++ (line ++ within ++ codes "end\n") ≡ first ++ body ++ codes "end\n"
  text = rw (none, told, same) refl

  module _ (old s1 : Option (List ℕ)) where
    pub first_line_broken : AppendsFront old s1 (waiting ++ line) → AppendsFront old s1 (first ++ body ++ codes "end\n")
    first_line_broken broken = subst (AppendsFront old s1) text (first_broken old waiting line within (codes "end\n") s1 broken)

    module _ (s2 : Option (List ℕ)) (w1 : List ℕ) (one : AppendsUpTo old s1 (waiting ++ line) w1) where
      pub parts_broken : AppendsFront s1 s2 (w1 ++ within) → AppendsFront old s2 (first ++ body ++ codes "end\n")
      parts_broken broken = subst (AppendsFront old s2) text (second_broken old waiting line within (codes "end\n") s1 s2 w1 one broken)

      module _ (s3 : Option (List ℕ)) (w2 : List ℕ) (two : AppendsUpTo s1 s2 (w1 ++ within) w2) where
        pub end_broken : AppendsFront s2 s3 (w2 ++ codes "end\n") → AppendsFront old s3 (first ++ body ++ codes "end\n")
        end_broken broken = subst (AppendsFront old s3) text (third_broken old waiting line within (codes "end\n") s1 s2 w1 one s3 w2 two broken)

        module _ (s4 : Option (List ℕ)) (w3 : List ℕ) (three : AppendsUpTo s2 s3 (w2 ++ codes "end\n") w3) where
          all_put : AppendsUpTo old s3 (first ++ body ++ codes "end\n") w3
          all_put = subst (λ (l : List ℕ). AppendsUpTo old s3 l w3) text (three_put old waiting line within (codes "end\n") s1 s2 w1 one s3 w2 two w3 three)

          pub flush_broken : AppendsFront s3 s4 w3 → AppendsFront old s4 (first ++ body ++ codes "end\n")
          flush_broken last = put_partly old s3 s4 (first ++ body ++ codes "end\n") w3 all_put last

          pub flushed : Appends s3 s4 w3 → Appends old s4 (first ++ body ++ codes "end\n")
          flushed last = put_whole old s3 s4 (first ++ body ++ codes "end\n") w3 all_put last
