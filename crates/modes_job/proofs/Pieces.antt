-- Five pieces, one written after the other.
use Rattle.std.proofs.Common.{ℕ, List, ◌++◌, sym, ap, ◌∙◌, append_assoc}
use Rattle.std.specs.declared.option.Option.{Option}
use Rattle.std.specs.Io.KnownBytes.{Appends}
use Rattle.std.proofs.KnownBytes.{Appends-trans}
use Rattle.io_edge.specs.Edge.{AppendsFront}
use Rattle.io_edge.proofs.Growth.{front_of_longer}

-- a piece is written whole, and a front of what stands behind it
behind : (old mid new : Option (List ℕ)) (piece after : List ℕ) → Appends old mid piece → AppendsFront mid new after → AppendsFront old new (piece ++ after)
behind old mid new piece after written more = (
  more.0,
  record {
    front = piece ++ more.1.front;
    appended = Appends-trans old mid new _ _ written more.1.appended;
    whole = ap (λ (l : List ℕ). piece ++ l) more.1.whole ∙ sym (append_assoc piece more.1.front more.0);
  },
)

module _ (one two three four five : List ℕ) (s0 s1 : Option (List ℕ)) where
  pub first_front : AppendsFront s0 s1 one → AppendsFront s0 s1 (one ++ (two ++ (three ++ (four ++ five))))
  first_front written = front_of_longer s0 s1 one (two ++ (three ++ (four ++ five))) written

  module _ (s2 : Option (List ℕ)) (first : Appends s0 s1 one) where
    pub second_front : AppendsFront s1 s2 two → AppendsFront s0 s2 (one ++ (two ++ (three ++ (four ++ five))))
    second_front written = behind s0 s1 s2 one (two ++ (three ++ (four ++ five))) first (front_of_longer s1 s2 two (three ++ (four ++ five)) written)

    module _ (s3 : Option (List ℕ)) (second : Appends s1 s2 two) where
      pub third_front : AppendsFront s2 s3 three → AppendsFront s0 s3 (one ++ (two ++ (three ++ (four ++ five))))
      third_front written =
          behind s0 s1 s3 one (two ++ (three ++ (four ++ five))) first
          (behind s1 s2 s3 two (three ++ (four ++ five)) second (front_of_longer s2 s3 three (four ++ five) written))

      module _ (s4 : Option (List ℕ)) (third : Appends s2 s3 three) where
        pub fourth_front : AppendsFront s3 s4 four → AppendsFront s0 s4 (one ++ (two ++ (three ++ (four ++ five))))
        fourth_front written =
            behind s0 s1 s4 one (two ++ (three ++ (four ++ five))) first
            (behind s1 s2 s4 two (three ++ (four ++ five)) second (behind s2 s3 s4 three (four ++ five) third (front_of_longer s3 s4 four five written)))

        module _ (s5 : Option (List ℕ)) (fourth : Appends s3 s4 four) where
          pub fifth_front : AppendsFront s4 s5 five → AppendsFront s0 s5 (one ++ (two ++ (three ++ (four ++ five))))
          fifth_front written =
              behind s0 s1 s5 one (two ++ (three ++ (four ++ five))) first
              (behind s1 s2 s5 two (three ++ (four ++ five)) second (behind s2 s3 s5 three (four ++ five) third (behind s3 s4 s5 four five fourth written)))

          pub all_whole : Appends s4 s5 five → Appends s0 s5 (one ++ (two ++ (three ++ (four ++ five))))
          all_whole fifth =
              Appends-trans s0 s1 s5 one (two ++ (three ++ (four ++ five))) first
              (Appends-trans s1 s2 s5 two (three ++ (four ++ five)) second (Appends-trans s2 s3 s5 three (four ++ five) third (Appends-trans s3 s4 s5 four five fourth fifth)))
