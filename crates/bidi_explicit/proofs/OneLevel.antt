-- All places of a sequence have one level.
use Rattle.std.proofs.Common.{◌≡◌, ◌∙◌, sym, refl, ap, subst, ℕ, ◌<◌, Bool, true, false, cond, eqb, List, [], ◌∷◌, map, length, Option, Some, None, arith}
use Rattle.std.specs.Prelude.{IfSome, ⊤}
use Rattle.std.specs.List.{All}
use Rattle.std.proofs.lemmas.Bool.{eqb-true}
use Rattle.std.proofs.lemmas.List.Elements.{All-nil, All-cons, All-head, All-tail, All-weaker}
use Rattle.wm_chars.specs.declared.classes.BidiClass.{BidiClass}
use Rattle.bidi_explicit.specs.declared.paragraph.Levels.{Levels}
use Rattle.bidi_explicit.specs.Paragraph.{AreAligned}
use Rattle.bidi_explicit.specs.Explicit.{explicit_levels}
use Rattle.bidi_explicit.specs.Sequences.{Sequence, match_at, joined, beginning_with, others_than, level_in, level_runs, sequences, isolating_runs}
use Rattle.bidi_explicit.specs.Links.{first_of, followed, chains}
use Rattle.bidi_explicit.specs.Sequences.{HasOneLevel, kept_places}
use Rattle.bidi_explicit.proofs.Chains.{by_place}
use Rattle.bidi_explicit.proofs.Covering.{places_of}
use Rattle.bidi_explicit.proofs.Matches.{AreWithin}
use Rattle.bidi_explicit.proofs.Matching.{one_level}
use Rattle.bidi_explicit.proofs.Walking.{kept_within}

module _ (levels : List ℕ) (classes : List BidiClass) (matched : (p q : ℕ) → p < length classes → match_at classes p ≡ Some q → level_in levels p ≡ level_in levels q) where
  abbrev AllOne : List (List ℕ) → Type 0
  AllOne [] = ⊤
  AllOne (s ∷ sequences) = HasOneLevel levels s × AllOne sequences

  taken_one : (p q : ℕ) (s : List (List ℕ)) → level_in levels q ≡ level_in levels p → AllOne s → All (λ r. level_in levels r ≡ level_in levels p) (beginning_with q s)
  taken_one p q [] e a = All-nil (λ r. level_in levels r ≡ level_in levels p)
  taken_one p q ([] ∷ s) e a = taken_one p q s e a.1
  taken_one p q ((r ∷ places) ∷ s) e a = go (eqb r q) refl (taken_one p q s e a.1)
    where
      go : (b : Bool) → eqb r q ≡ b → All (λ k. level_in levels k ≡ level_in levels p) (beginning_with q s) → All (λ k. level_in levels k ≡ level_in levels p) (cond b (r ∷ places) (beginning_with q s))
      go true is h =
          let here : r ≡ q = eqb-true r q is in
          let one : level_in levels r ≡ level_in levels p = ap (level_in levels) here ∙ e in
          All-cons (λ k. level_in levels k ≡ level_in levels p) r places one (All-weaker (λ k. level_in levels k ≡ level_in levels r) (λ k. level_in levels k ≡ level_in levels p) (λ k h. h ∙ one) places a.0)
      go false is h = h

  others_one : (q : ℕ) (s : List (List ℕ)) → AllOne s → AllOne (others_than q s)
  others_one q [] a = tt
  others_one q ([] ∷ s) a = (a.0, others_one q s a.1)
  others_one q ((r ∷ places) ∷ s) a = go (eqb r q) (others_one q s a.1)
    where
      go : (b : Bool) → AllOne (others_than q s) → AllOne (cond b s ((r ∷ places) ∷ others_than q s))
      go true h = a.1
      go false h = (a.0, h)

  chains_one : (places : List ℕ) (low : ℕ) → AreWithin low (length classes) places → AllOne (chains (level_in levels) classes places)
  chains_one [] low w = tt
  chains_one (p ∷ places) low w = go (followed (level_in levels) p (first_of places) (match_at classes p)) (follows (first_of places)) (chains_one places low w.2)
    where
      same : (q : ℕ) → match_at classes p ≡ Some q → level_in levels q ≡ level_in levels p
      same q e = sym (matched p q w.1 e)

      by_match : (m : Option ℕ) → match_at classes p ≡ m → IfSome m (λ q. level_in levels q ≡ level_in levels p)
      by_match None e = tt
      by_match (Some q) e = same q e

      follows : (near : Option ℕ) → IfSome (followed (level_in levels) p near (match_at classes p)) (λ q. level_in levels q ≡ level_in levels p)
      follows None = by_match (match_at classes p) refl
      follows (Some q) = either (eqb (level_in levels p) (level_in levels q)) refl (match_at classes p) (by_match (match_at classes p) refl)
        where
          either : (b : Bool) → eqb (level_in levels p) (level_in levels q) ≡ b → (m : Option ℕ) → IfSome m (λ q. level_in levels q ≡ level_in levels p) → IfSome (cond b (Some q) m) (λ q. level_in levels q ≡ level_in levels p)
          either true e m h = sym (eqb-true (level_in levels p) (level_in levels q) e)
          either false e m h = h

      go : (o : Option ℕ) → IfSome o (λ q. level_in levels q ≡ level_in levels p) → AllOne (chains (level_in levels) classes places) → AllOne (joined o (p ∷ []) (chains (level_in levels) classes places))
      go None h a = (All-nil (λ q. level_in levels q ≡ level_in levels p), a)
      go (Some q) h a = (taken_one p q (chains (level_in levels) classes places) h a, others_one q (chains (level_in levels) classes places) a)

  all_one : (lists : List (List ℕ)) → AllOne lists → All (HasOneLevel levels) lists
  all_one [] a = All-nil (HasOneLevel levels)
  all_one (l ∷ lists) a = All-cons (HasOneLevel levels) l lists a.0 (all_one lists a.1)

  sequences_one : (marks : List Bool) → length marks ≡ length classes → All (HasOneLevel levels) (sequences classes (level_runs (level_in levels) (kept_places marks)))
  sequences_one marks e = rw (by_place (level_in levels) classes (kept_places marks)) (all_one (chains (level_in levels) classes (kept_places marks)) (chains_one (kept_places marks) 0 (kept_within marks 0 (length classes) (omega arith))))

pub runs_have_one_level : {X : Type 0} (seq : X → Sequence) (levels : Levels) → AreAligned levels → levels.level.items ≡ explicit_levels levels.base levels.original.items
    → (runs : List X) → map seq runs ≡ isolating_runs levels.base levels.level.items levels.original.items levels.removed.items
    → All (λ run. HasOneLevel levels.level.items (seq run).places) runs
runs_have_one_level {X} seq levels aligned explicit runs are =
    let P : List ℕ → Type 0 = λ l. (p q : ℕ) → p < length levels.original.items → match_at levels.original.items p ≡ Some q → level_in l p ≡ level_in l q in
    let matched : P levels.level.items = subst P (sym explicit) (one_level levels.base levels.original.items) in
    unmapped runs (rw (places_of seq levels.base levels.level.items levels.original.items levels.removed.items runs are) (sequences_one levels.level.items levels.original.items matched levels.removed.items aligned.removed))
  where
    unmapped : (rs : List X) → All (HasOneLevel levels.level.items) (map (λ run. (seq run).places) rs) → All (λ run. HasOneLevel levels.level.items (seq run).places) rs
    unmapped [] a = All-nil (λ run. HasOneLevel levels.level.items (seq run).places)
    unmapped (r ∷ rs) a = All-cons (λ run. HasOneLevel levels.level.items (seq run).places) r rs (All-head (HasOneLevel levels.level.items) (seq r).places (map (λ run. (seq run).places) rs) a) (unmapped rs (All-tail (HasOneLevel levels.level.items) (seq r).places (map (λ run. (seq run).places) rs) a))
