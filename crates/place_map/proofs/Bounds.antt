-- What lies in a bound lies in a wider one.
use Rattle.std.proofs.Common.{◌≡◌, sym, subst, ℕ, ◌+◌, ◌<◌, ◌≤◌, List, length, drop, get_or, arith}
use Rattle.std.proofs.lemmas.Int.{ints}
use Rattle.std.proofs.lemmas.List.{drop_all}
use Rattle.wm_modes.specs.declared.rects.Rect.{Rect}
use Rattle.place_map.specs.Bound.{AreIn, IsIn, IsNoWider}
use Rattle.place_map.specs.Parts.{Part, Parts, none, part, before, parts_of}
use Rattle.place_map.specs.declared.bound.Bound.{Bound}
use Rattle.place_map.proofs.PartLists.{item_here}

pub no_wider_self : (b : Bound) → IsNoWider b b
no_wider_self b = record {
  left = omega (arith, ints);
  top = omega (arith, ints);
  right = omega (arith, ints);
  bottom = omega (arith, ints);
  first = omega arith;
  last = omega arith;
}

pub no_wider_still : (a b d : Bound) → IsNoWider a b → IsNoWider b d → IsNoWider a d
no_wider_still a b d near far = record {
  left = omega (arith, ints, near.left, far.left);
  top = omega (arith, ints, near.top, far.top);
  right = omega (arith, ints, near.right, far.right);
  bottom = omega (arith, ints, near.bottom, far.bottom);
  first = omega (arith, near.first, far.first);
  last = omega (arith, near.last, far.last);
}

pub one_wider : (inner outer : Bound) (node : ℕ) (rect : Rect) → IsNoWider inner outer → IsIn inner node rect → IsIn outer node rect
one_wider inner outer node rect wider lies = record {
  left = omega (arith, ints, wider.left, lies.left);
  top = omega (arith, ints, wider.top, lies.top);
  right = omega (arith, ints, wider.right, lies.right);
  bottom = omega (arith, ints, wider.bottom, lies.bottom);
  first = omega (arith, wider.first, lies.first);
  last = omega (arith, wider.last, lies.last);
}

pub all_wider : (inner outer : Bound) (parts : Parts) → IsNoWider inner outer → AreIn inner parts → AreIn outer parts
all_wider inner outer none wider lie = tt
all_wider inner outer (part name rect kind within next) wider lie =
    (one_wider inner outer name.node rect wider lie.0, all_wider inner outer within wider lie.1, all_wider inner outer next wider lie.2)

-- ---- one fragment after the other

-- where those from there on lie in a bound that is no narrower than this one, all do
abbrev pub AreInWith : Bound → (left all : List Part) → Type 0
AreInWith bound left all = (wider : Bound) → IsNoWider bound wider → AreIn wider (parts_of left) → AreIn wider (parts_of all)

module _ (parts : List Part) (k : ℕ) (p : Part) (lt : k < length parts) (is : p ≡ get_or parts k p) (so_far own joined : Bound) where
  pub one_more : AreInWith so_far (drop k parts) parts → AreIn own (before p none) → IsNoWider so_far joined → IsNoWider own joined → AreInWith joined (drop (k + 1) parts) parts
  one_more with_those lies first second wider is_wider others =
      let mine = all_wider own wider (before p none) (no_wider_still own joined wider second is_wider) lies in
      with_those wider (no_wider_still so_far joined wider first is_wider) (subst (λ (l : List Part). AreIn wider (parts_of l)) (sym (item_here parts k p lt is)) (mine.0, mine.1, others))

pub all_in : (parts : List Part) (k : ℕ) (bound : Bound) → length parts ≤ k → AreInWith bound (drop k parts) parts → AreIn bound (parts_of parts)
all_in parts k bound end_ with_those = with_those bound (no_wider_self bound) (subst (λ (l : List Part). AreIn bound (parts_of l)) (sym (drop_all k parts end_)) tt)
