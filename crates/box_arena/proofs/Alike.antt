-- Where boxes have the same links, what holds of links goes on holding.
use Rattle.std.proofs.Common.{◌≡◌, ◌∙◌, ℕ, zero, suc, List, [], ◌∷◌, Option, Some, None, IsSome, sym, ap, subst}
use Rattle.box_arena.specs.Links.{Linking, Chain, Climbs, IsIn, IsLinked, behind, ahead, parent_of, first_of, last_of, previous_of, next_of}

-- the same links at each key, also where one has no box and the other one with no links
pub record Alike (s t : Linking) : Type 0 where
  pub parents : (k : ℕ) → parent_of (t k) ≡ parent_of (s k)
  pub firsts : (k : ℕ) → first_of (t k) ≡ first_of (s k)
  pub lasts : (k : ℕ) → last_of (t k) ≡ last_of (s k)
  pub previous : (k : ℕ) → previous_of (t k) ≡ previous_of (s k)
  pub nexts : (k : ℕ) → next_of (t k) ≡ next_of (s k)

module _ (s t : Linking) (alike : Alike s t) where
  pub chain_alike : (from : Option ℕ) (ks : List ℕ) → Chain s from ks → Chain t from ks
  chain_alike from [] is = is
  chain_alike from (k ∷ ks) (is, rest) =
      let P : Option ℕ → Type 0 = λ o. Chain t o ks in
      (is, subst P (sym (alike.nexts k)) (chain_alike (next_of (s k)) ks rest))

  in_before : (p : ℕ) (o : Option ℕ) → IsIn t p o → IsIn s p o
  in_before p None is = is
  in_before p (Some k) is = sym (alike.parents k) ∙ is

  in_after : (p : ℕ) (o : Option ℕ) → IsIn s p o → IsIn t p o
  in_after p None is = is
  in_after p (Some k) is = alike.parents k ∙ is

  same_behind : (p : ℕ) (o : Option ℕ) → behind t p o ≡ behind s p o
  same_behind p None = alike.firsts p
  same_behind p (Some k) = alike.nexts k

  same_ahead : (p : ℕ) (o : Option ℕ) → ahead t p o ≡ ahead s p o
  same_ahead p None = alike.lasts p
  same_ahead p (Some k) = alike.previous k

  pub climbs_alike : (n : ℕ) (from : Option ℕ) (k : ℕ) → Climbs n t from k → Climbs n s from k
  climbs_alike zero from k is = is
  climbs_alike (suc n) from k (p, is, rest) =
      let P : Option ℕ → Type 0 = λ o. Climbs n t o k in
      (p, is, climbs_alike n (parent_of (s p)) k (subst P (alike.parents p) rest))

  pub linked_alike : ((p : ℕ) (k : ℕ) → parent_of (s k) ≡ Some p → IsSome (t p)) → IsLinked s → IsLinked t
  linked_alike live linked = record {
    live = λ k p is. live p k (sym (alike.parents k) ∙ is);
    acyclic = λ k n climbs. linked.acyclic k n (climbs_alike (suc n) (Some k) k climbs);
    on = λ p o inside.
        let P : Option ℕ → Type 0 = λ n. IsIn t p n in
        subst P (sym (same_behind p o)) (in_after p (behind s p o) (linked.on p o (in_before p o inside)));
    off = λ p o inside.
        let P : Option ℕ → Type 0 = λ n. IsIn t p n in
        subst P (sym (same_ahead p o)) (in_after p (ahead s p o) (linked.off p o (in_before p o inside)));
    back = λ p o inside. ap (ahead t p) (same_behind p o) ∙ same_ahead p (behind s p o) ∙ linked.back p o (in_before p o inside);
    forth = λ p o inside. ap (behind t p) (same_ahead p o) ∙ same_behind p (ahead s p o) ∙ linked.forth p o (in_before p o inside);
    alone = λ k is.
        let none = linked.alone k (sym (alike.parents k) ∙ is) in
        (alike.nexts k ∙ none.0, alike.previous k ∙ none.1);
    children = λ p.
        let all = linked.children p in
        let P : Option ℕ → Type 0 = λ o. Chain t o all.list in
        record {
          list = all.list;
          chain = subst P (sym (alike.firsts p)) (chain_alike (first_of (s p)) all.list all.chain);
          whole = λ c is. all.whole c (sym (alike.parents c) ∙ is);
        };
  }
