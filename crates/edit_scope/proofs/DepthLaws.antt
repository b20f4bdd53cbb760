-- The tree below a node is the same with more levels than it has.
use Rattle.std.proofs.Common.{◌≡◌, ◌∙◌, ℕ, zero, suc, ◌+◌, ◌≤◌, List, [], ◌∷◌, refl, ap, sym, subst, arith, Option, inl, inr}
use Rattle.std.specs.Prelude.{is_some}
use Rattle.dom_store.specs.State.{Entry, State, Tree, node, tree_to, tree_with}
use Rattle.dom_store.specs.Standing.{children_at}
use Rattle.tree_laws.specs.Reached.{IsAtLevel, IsReached}
use Rattle.tree_laws.specs.Wholeness.{IsWhole}
use Rattle.tree_laws.proofs.Keeping.{children_of}
use Rattle.box_limits.proofs.Among.{IsIn, contained}
use Rattle.box_limits.proofs.Levels.{child_lives, one_level}

module _ (state : State) (whole : IsWhole state) (reached : IsReached state) where
  -- nothing stands in a node on the last level
  too_low : (level upper child : ℕ) → 63 ≤ level → IsAtLevel state level upper → IsIn child (children_at state upper) → ⊥
  too_low level upper child low at there =
      let (entry, here, stands) = child_lives state whole upper child there in
      let (own, within, its) = reached.reached child (ap (λ (o : Option Entry). is_some o) here) in
      let same : suc level ≡ own = one_level state whole (suc level) own child (upper, at, contained child (children_at state upper) there) its in
      omega (arith, low, within, same)

  abbrev Grows : (depth : ℕ) → Type 0
  Grows depth = (level upper : ℕ) → 63 ≤ level + depth → IsAtLevel state level upper → (numbers : List ℕ) → ((child : ℕ) → IsIn child numbers → IsIn child (children_at state upper))
      → tree_to depth state numbers ≡ tree_to (suc depth) state numbers

  row_grows : (depth : ℕ) → Grows depth → Grows (suc depth)
  unfolding tree_to
  row_grows depth inner level upper deep at [] within = refl
  row_grows depth inner level upper deep at (child ∷ numbers) within =
      let there = within child (inl refl) in
      let (entry, here, stands) = child_lives state whole upper child there in
      let children : entry.children ≡ children_at state child = sym (ap (λ (o : Option Entry). children_of o) here) in
      ap (λ (o : Option Entry). tree_with o child (tree_to depth state) (tree_to (suc depth) state numbers)) here
      ∙ ap (λ (t : Tree). node child entry.what t (tree_to (suc depth) state numbers))
      (inner (suc level) child (omega (arith, deep)) (upper, at, contained child (children_at state upper) there) entry.children (λ other among. subst (IsIn other) children among))
      ∙ ap (λ (t : Tree). node child entry.what (tree_to (suc depth) state entry.children) t) (row_grows depth inner level upper deep at numbers (λ other among. within other (inr among)))
      ∙ sym (ap (λ (o : Option Entry). tree_with o child (tree_to (suc depth) state) (tree_to (suc (suc depth)) state numbers)) here)

  grows : (depth : ℕ) → Grows depth
  unfolding tree_to
  grows zero level upper deep at [] within = refl
  grows zero level upper deep at (child ∷ numbers) within = absurd (too_low level upper child (omega (arith, deep)) at (within child (inl refl)))
  grows (suc depth) level upper deep at numbers within = row_grows depth (grows depth) level upper deep at numbers within

  deeper : (extra depth level upper : ℕ) → extra + depth ≡ 63 → 63 ≤ level + depth → IsAtLevel state level upper → tree_to depth state (children_at state upper) ≡ tree_to 63 state (children_at state upper)
  deeper zero depth level upper sum deep at =
      let all : depth ≡ 63 = omega (arith, sum) in
      ap (λ (d : ℕ). tree_to d state (children_at state upper)) all
  deeper (suc extra) depth level upper sum deep at =
      grows depth level upper deep at (children_at state upper) (λ child there. there) ∙ deeper extra (suc depth) level upper (omega (arith, sum)) (omega (arith, deep)) at

  pub tree_below : (level depth upper : ℕ) → level + depth ≡ 63 → IsAtLevel state level upper → tree_to depth state (children_at state upper) ≡ tree_to 63 state (children_at state upper)
  tree_below level depth upper sum at = deeper level depth level upper sum (omega (arith, sum)) at
