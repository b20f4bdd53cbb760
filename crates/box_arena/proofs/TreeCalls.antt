-- From the writes of attaching and detaching to what they do.
use Rattle.std.proofs.Common.{◌≡◌, ◌∙◌, ℕ, Option, Some, None, sym, ap, subst}
use Rattle.std.proofs.Math.Path.{fun_ext}
use Rattle.std.proofs.lemmas.Option.{same_Some}
use Rattle.slab.specs.Slab.{Slab, ContainsKey}
use Rattle.box_arena.specs.declared.entry.Entry.{Entry}
use Rattle.box_arena.specs.At.{IsAbove, IsSound, links_at, mark_at, parent_at}
use Rattle.box_arena.specs.Arena.{Attaches, Detaches, IsMarkedUp, KeepsApart}
use Rattle.box_arena.specs.Joining.{Joins, Parts}
use Rattle.box_arena.specs.Links.{Linking, IsIn}
use Rattle.box_arena.specs.Marks.{IsStill, is_marked, is_seen}
use Rattle.box_arena.specs.Write.{OnlyLinks, OnlyMarks}
use Rattle.box_arena.proofs.CallLemmas.{kept_same, node_in, text_in}
use Rattle.box_arena.proofs.Climbs.{climbs_on, linked_where}
use Rattle.box_arena.proofs.Joined.{children_joined, children_parted, climbs_both, linked_joined, linked_parted, other_chain, other_children}
use Rattle.box_arena.proofs.LinkSteps.{still_lives}

module _ {T : Type 0} (old mid new : Slab (Entry T)) where
  -- marks that were written first stay
  marked_through : (key : ℕ) → IsMarkedUp old.slots mid.slots key → OnlyLinks mid new → IsMarkedUp old.slots new.slots key
  marked_through key marked only = record {
    above = λ k above. ap is_marked (only.marks k) ∙ marked.above k above;
    others = λ k apart. ap is_marked (only.marks k) ∙ marked.others k apart;
  }

  kept_through : (key : ℕ) → IsMarkedUp old.slots mid.slots key → OnlyMarks old mid → OnlyLinks mid new → KeepsApart old.slots new.slots key
  kept_through key marked first only k apart =
      kept_same old.slots new.slots k (ap is_marked (only.marks k) ∙ marked.others k apart) (only.held k ∙ first.held k)

  still_through : IsStill (mark_at mid.slots) → OnlyLinks mid new → IsStill (mark_at new.slots)
  still_through still only k = ap is_seen (only.marks k) ∙ still k

  module _ (parent : ℕ) (before : Option ℕ) (child : ℕ) (sound : IsSound old.slots) (marked : IsMarkedUp old.slots mid.slots parent) (still : IsStill (mark_at mid.slots))
      (first : OnlyMarks old mid) (joined : Joins (links_at mid.slots) (links_at new.slots) parent before child) (only : OnlyLinks mid new)
      (free : parent_at old.slots child ≡ None) (inside : IsIn (links_at old.slots) parent before) where
    joins : Joins (links_at old.slots) (links_at new.slots) parent before child
    joins = let P : Linking → Type 0 = λ s. Joins s (links_at new.slots) parent before child in subst P (fun_ext first.links) joined

    pub attaches : Attaches old new parent before child
    attaches = record {
      inside = joins.joined;
      parents = joins.parents;
      children = children_joined (links_at old.slots) (links_at new.slots) parent child before sound.linked free inside joins;
      others = other_chain (links_at old.slots) (links_at new.slots) parent child before sound.linked free inside joins;
      firsts = λ k apart. joins.same_behind k None tt (λ ring _. apart ring);
      nexts = λ c k at apart. joins.same_behind k (Some c) at (λ ring _. apart ring);
      marked = marked_through parent marked only;
      kept = kept_through parent marked first only;
      nodes = λ k. ap node_in (only.held k ∙ first.held k);
      texts = λ k. ap text_in (only.held k ∙ first.held k);
      live = still_lives old new joins.live;
      room = λ n fits. only.room n (first.room n fits);
    }

    pub sound_attached : ContainsKey old parent → (IsAbove old.slots child parent → ⊥) → IsSound new.slots
    sound_attached live low = record {
      linked = linked_joined (links_at old.slots) (links_at new.slots) parent child before sound.linked free inside joins (joins.live parent (linked_where old parent live)) low;
      still = still_through still only;
    }

  module _ (parent key : ℕ) (sound : IsSound old.slots) (marked : IsMarkedUp old.slots mid.slots parent) (still : IsStill (mark_at mid.slots))
      (first : OnlyMarks old mid) (parted : Parts (links_at mid.slots) (links_at new.slots) parent key) (only : OnlyLinks mid new)
      (inside : parent_at old.slots key ≡ Some parent) where
    parts : Parts (links_at old.slots) (links_at new.slots) parent key
    parts = let P : Linking → Type 0 = λ s. Parts s (links_at new.slots) parent key in subst P (fun_ext first.links) parted

    -- what is inside the box isn't above its parent
    low : (k : ℕ) → IsAbove old.slots key k → IsAbove old.slots k parent → ⊥
    low k (m, up) (n, high) =
        let (l, round) = climbs_both (links_at old.slots) n m (Some parent) k key high up in
        sound.linked.acyclic parent l (climbs_on (links_at old.slots) l (Some parent) key parent round inside)

    pub detaches : Detaches old new parent key
    detaches = record {
      free = parts.parted;
      parents = parts.parents;
      children = children_parted (links_at old.slots) (links_at new.slots) parent key sound.linked inside parts;
      others = other_children (links_at old.slots) (links_at new.slots) parent key sound.linked inside parts;
      firsts = λ k apart. parts.same_behind k None tt (λ ring _. apart ring);
      nexts = λ c k at apart. parts.same_behind k (Some c) (parts.parents c (λ same. apart (ring_of c k at same)) ∙ at) (λ ring _. apart ring);
      marked = marked_through parent marked only;
      kept = kept_through parent marked first only;
      inside = λ k above. kept_through parent marked first only k (low k above);
      nodes = λ k. ap node_in (only.held k ∙ first.held k);
      texts = λ k. ap text_in (only.held k ∙ first.held k);
      live = still_lives old new parts.live;
      room = λ n fits. only.room n (first.room n fits);
    }
      where
        ring_of : (c k : ℕ) → parent_at old.slots c ≡ Some k → c ≡ key → k ≡ parent
        ring_of c k at same = same_Some k parent (sym at ∙ ap (λ j. parent_at old.slots j) same ∙ inside)

    pub sound_detached : IsSound new.slots
    sound_detached = record {
      linked = linked_parted (links_at old.slots) (links_at new.slots) parent key sound.linked inside parts;
      still = still_through still only;
    }
