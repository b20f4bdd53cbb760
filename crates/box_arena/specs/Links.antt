-- How boxes are linked with each other: parents, children and siblings.
use Rattle.std.specs.Prelude.{◌≡◌, ℕ, zero, suc, nat_eq, Bool, false, List, [], ◌∷◌, ◌⊎◌, Option, Some, None, IsSome, if◌then◌else◌}
use Rattle.box_arena.specs.declared.entry.Links.{Links}

-- the links of the box under each key
abbrev pub Linking : Type 0
Linking = ℕ → Option Links

abbrev pub parent_of : Option Links → Option ℕ
parent_of None = None
parent_of (Some links) = links.parent

abbrev pub first_of : Option Links → Option ℕ
first_of None = None
first_of (Some links) = links.first

abbrev pub last_of : Option Links → Option ℕ
last_of None = None
last_of (Some links) = links.last

abbrev pub previous_of : Option Links → Option ℕ
previous_of None = None
previous_of (Some links) = links.previous

abbrev pub next_of : Option Links → Option ℕ
next_of None = None
next_of (Some links) = links.next

-- ---- boxes above a box

-- so many parents up from there is this box
abbrev pub Climbs : (n : ℕ) → Linking → Option ℕ → ℕ → Type 0
Climbs zero s from k = from ≡ Some k
Climbs (suc n) s from k = (p : ℕ) × (from ≡ Some p) × Climbs n s (parent_of (s p)) k

-- `k` is the box, its parent, that one's parent, and so on
abbrev pub Reaches : Linking → (k key : ℕ) → Type 0
Reaches s k key = (n : ℕ) × Climbs n s (Some key) k

-- ---- children

-- from there on stand these boxes, each behind the one before it, and no other
abbrev pub Chain : Linking → Option ℕ → List ℕ → Type 0
Chain s from [] = from ≡ None
Chain s from (k ∷ ks) = (from ≡ Some k) × Chain s (next_of (s k)) ks

-- the box is one of these
abbrev pub Has : List ℕ → ℕ → Type 0
Has [] c = ⊥
Has (k ∷ ks) c = (k ≡ c) ⊎ Has ks c

abbrev pub is_it : Option ℕ → ℕ → Bool
is_it None k = false
is_it (Some b) k = nat_eq b k

-- these with one more before that one, or behind all
abbrev pub put_before : (before : Option ℕ) (c : ℕ) → List ℕ → List ℕ
put_before before c [] = c ∷ []
put_before before c (k ∷ ks) = if is_it before k then c ∷ k ∷ ks else k ∷ put_before before c ks

-- these without that one
abbrev pub without : (c : ℕ) → List ℕ → List ℕ
without c [] = []
without c (k ∷ ks) = if nat_eq k c then ks else k ∷ without c ks

-- The children of a box, in order, and its end make a ring: behind the last child comes the end, behind the end the first
-- child. `None` is the end.
abbrev pub IsIn : Linking → (p : ℕ) → Option ℕ → Type 0
IsIn s p None = Unit {0}
IsIn s p (Some k) = parent_of (s k) ≡ Some p

abbrev pub behind : Linking → (p : ℕ) → Option ℕ → Option ℕ
behind s p None = first_of (s p)
behind s p (Some k) = next_of (s k)

abbrev pub ahead : Linking → (p : ℕ) → Option ℕ → Option ℕ
ahead s p None = last_of (s p)
ahead s p (Some k) = previous_of (s k)

-- all children of a box, in order
pub record Children (s : Linking) (p : ℕ) : Type 0 where
  pub list : List ℕ
  pub chain : Chain s (first_of (s p)) list
  pub whole : (c : ℕ) → parent_of (s c) ≡ Some p → Has list c

-- Parents live, and no box is above itself. Each box's children make a ring, which goes the same way back, and are reached
-- from the first one. A box that isn't attached has no siblings.
pub record IsLinked (s : Linking) : Type 0 where
  pub live : (k p : ℕ) → parent_of (s k) ≡ Some p → IsSome (s p)
  pub acyclic : (k n : ℕ) → Climbs (suc n) s (Some k) k → ⊥
  pub on : (p : ℕ) (o : Option ℕ) → IsIn s p o → IsIn s p (behind s p o)
  pub off : (p : ℕ) (o : Option ℕ) → IsIn s p o → IsIn s p (ahead s p o)
  pub back : (p : ℕ) (o : Option ℕ) → IsIn s p o → ahead s p (behind s p o) ≡ o
  pub forth : (p : ℕ) (o : Option ℕ) → IsIn s p o → behind s p (ahead s p o) ≡ o
  pub alone : (k : ℕ) → parent_of (s k) ≡ None → (next_of (s k) ≡ None) × (previous_of (s k) ≡ None)
  pub children : (p : ℕ) → Children s p
