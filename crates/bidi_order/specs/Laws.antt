-- What holds of the order of a line (UAX 9, L2): where some of its places are left out of it, and where nothing is turned
-- round.
use Rattle.std.specs.Prelude.{◌≡◌, ℕ, ◌+◌, ◌≤◌, min, cond, eqb, ltb, List, [], ◌∷◌, ◌++◌, length, map, Option}
use Rattle.std.specs.List.{All, range_with_len}
use Rattle.bidi_order.specs.Reversals.{order}
use Rattle.bidi_order.specs.Visual.{visual_order}

-- the places without that one
abbrev pub without : (left_out : ℕ) → (places : List ℕ) → List ℕ
without left_out [] = []
without left_out (p ∷ places) = cond (eqb p left_out) (without left_out places) (p ∷ without left_out places)

-- a place, where one more stands at that one
abbrev pub past : (more : ℕ) → (place : ℕ) → ℕ
past more place = cond (ltb place more) place (place + 1)

-- a level that is not less than one of its neighbours may be left out: the others keep their order
pub record MayBeLeftOut : Type 0 where
  pub behind : (before after : List ℕ) (lower level : ℕ) → lower ≤ level
      → without (length before + 1) (order (before ++ lower ∷ level ∷ after)) ≡ map (past (length before + 1)) (order (before ++ lower ∷ after))
  pub before : (before after : List ℕ) (lower level : ℕ) → lower ≤ level
      → without (length before) (order (before ++ level ∷ lower ∷ after)) ≡ map (past (length before)) (order (before ++ lower ∷ after))

-- the lesser of two neighbours may stand for both, where both are left out: the others keep their order
abbrev pub LesserStandsForTwo : Type 0
LesserStandsForTwo = (before after : List ℕ) (first second : ℕ)
    → without (length before) (without (length before + 1) (order (before ++ first ∷ second ∷ after)))
    ≡ map (past (length before + 1)) (without (length before) (order (before ++ min first second ∷ after)))

-- items of level 0 stand in their own order, whatever parts them
abbrev pub LevelZeroStays : Type 0
LevelZeroStays = (levels : List ℕ) (aparts : List (Option ℕ)) → length levels ≡ length aparts → All (λ level. level ≡ 0) levels
    → visual_order levels aparts ≡ range_with_len 0 (length levels)
