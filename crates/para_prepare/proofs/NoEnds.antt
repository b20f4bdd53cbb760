-- Where no box begins or ends all parts take part.
use Rattle.std.proofs.Common.{◌≡◌, refl, ap₂, true, List, [], ◌∷◌, length, map}
use Rattle.std.specs.Prelude.{replicate}
use Rattle.std.specs.List.{list_all}
use Rattle.std.proofs.lemmas.Bool.{and_parts}
use Rattle.para_prepare.specs.declared.boxes.Kind.{Kind}
use Rattle.para_prepare.specs.declared.boxes.Kind.TheVariants.{Opening, Closing, Content, Aside}
use Rattle.para_prepare.specs.declared.parts.Part as code
use Rattle.para_prepare.specs.Boxes.{takes, takes_from}
use Rattle.para_prepare.specs.Reach.{code_kind, is_no_end}

one_takes : (before : List Kind) (kind : Kind) (after : List Kind) → is_no_end kind ≡ true → takes before kind after ≡ true
one_takes before Opening after h = absurd (cc)
one_takes before Closing after h = absurd (cc)
one_takes before Content after h = refl
one_takes before Aside after h = refl

take_behind : (before : List Kind) (parts : List code.Part) → list_all (λ part. is_no_end (code_kind part)) parts ≡ true → takes_from before (map code_kind parts) ≡ replicate (length parts) true
take_behind before [] h = refl
take_behind before (part ∷ parts) h =
    let both = and_parts (is_no_end (code_kind part)) (list_all (λ part. is_no_end (code_kind part)) parts) h in
    ap₂ (λ mark marks. mark ∷ marks) (one_takes before (code_kind part) (map code_kind parts) both.0) (take_behind (code_kind part ∷ before) parts both.1)

pub all_take : (parts : List code.Part) → list_all (λ part. is_no_end (code_kind part)) parts ≡ true → takes_from [] (map code_kind parts) ≡ replicate (length parts) true
all_take parts h = take_behind [] parts h
