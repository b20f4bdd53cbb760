-- Under boxes that aren't above the changed one the same trees stand before and after.
use Rattle.std.proofs.Common.{◌≡◌, ◌∙◌, ◌≢◌, ℕ, Option, Some, None, sym, ap, subst}
use Rattle.box_gen.specs.Tree.{Boxes, none, box}
use Rattle.box_arena.specs.At.{Slots, IsAbove, links_at, parent_at, first_at, next_at, node_at}
use Rattle.box_arena.specs.Boxes.{Stands, StandFrom}
use Rattle.box_arena.specs.Laws.{SurviveAttach, SurviveDetach, SurviveRestyle}
use Rattle.box_arena.specs.Links.{IsIn, IsLinked, first_of, next_of}
use Rattle.box_arena.proofs.Climbs.{reaches_itself, reaches_on}

module _ {T : Type 0} (old new : Slots T) (x : ℕ) (linked : IsLinked (links_at old)) where
  abbrev IsFree : ℕ → Type 0
  IsFree k = IsAbove old k x → ⊥

  -- a child of a free box is free
  free_inside : (c k : ℕ) → parent_at old c ≡ Some k → IsFree k → IsFree c
  free_inside c k parent free above = free (reaches_on (links_at old) c k x above parent)

  module _ (nodes : (k : ℕ) → IsFree k → node_at new k ≡ node_at old k) (firsts : (k : ℕ) → IsFree k → first_at new k ≡ first_at old k)
      (nexts : (c k : ℕ) → parent_at old c ≡ Some k → IsFree k → next_at new c ≡ next_at old c) where
    in_it : (k c : ℕ) (o : Option ℕ) → IsIn (links_at old) k o → o ≡ Some c → parent_at old c ≡ Some k
    in_it k c o inside is = let P : Option ℕ → Type 0 = λ n. IsIn (links_at old) k n in subst P is inside

    stand_back : (k : ℕ) (o : Option ℕ) (tree : Boxes) → IsFree k → IsIn (links_at old) k o → StandFrom new o tree → StandFrom old o tree
    stand_back k o none free inside is = is
    stand_back k o (box name style content inner next) free inside (c, is, node, within, behind) =
        let parent = in_it k c o inside is in
        let P : Option ℕ → Type 0 = λ n. StandFrom new n inner in
        let Q : Option ℕ → Type 0 = λ n. StandFrom new n next in
        let low = free_inside c k parent free in (
          c,
          is,
          sym (nodes c low) ∙ node,
          stand_back c (first_at old c) inner low (linked.on c None tt) (subst P (firsts c low) within),
          stand_back k (next_at old c) next free (linked.on k (Some c) parent) (subst Q (nexts c k parent free) behind),
        )

    stand_on : (k : ℕ) (o : Option ℕ) (tree : Boxes) → IsFree k → IsIn (links_at old) k o → StandFrom old o tree → StandFrom new o tree
    stand_on k o none free inside is = is
    stand_on k o (box name style content inner next) free inside (c, is, node, within, behind) =
        let parent = in_it k c o inside is in
        let P : Option ℕ → Type 0 = λ n. StandFrom new n inner in
        let Q : Option ℕ → Type 0 = λ n. StandFrom new n next in
        let low = free_inside c k parent free in (
          c,
          is,
          nodes c low ∙ node,
          subst P (sym (firsts c low)) (stand_on c (first_at old c) inner low (linked.on c None tt) within),
          subst Q (sym (nexts c k parent free)) (stand_on k (next_at old c) next free (linked.on k (Some c) parent) behind),
        )

    pub stands_back : (k : ℕ) (tree : Boxes) → IsFree k → Stands new k tree → Stands old k tree
    stands_back k none free is = is
    stands_back k (box name style content inner next) free (node, within, alone) =
        let P : Option ℕ → Type 0 = λ n. StandFrom new n inner in
        (sym (nodes k free) ∙ node, stand_back k (first_at old k) inner free (linked.on k None tt) (subst P (firsts k free) within), alone)

    pub stands_on : (k : ℕ) (tree : Boxes) → IsFree k → Stands old k tree → Stands new k tree
    stands_on k none free is = is
    stands_on k (box name style content inner next) free (node, within, alone) =
        let P : Option ℕ → Type 0 = λ n. StandFrom new n inner in
        (nodes k free ∙ node, subst P (sym (firsts k free)) (stand_on k (first_at old k) inner free (linked.on k None tt) within), alone)

-- what isn't above a box isn't that box
pub apart_from : {T : Type 0} (slots : Slots T) (k x : ℕ) → (IsAbove slots k x → ⊥) → k ≢ x
apart_from slots k x free same = free (let P : ℕ → Type 0 = λ j. IsAbove slots j x in subst P (sym same) (reaches_itself (links_at slots) x))

pub survive_restyle : {T : Type 0} → SurviveRestyle T
survive_restyle {T} old new key node linked restyles k free =
    let nodes : (j : ℕ) → (IsAbove old.slots j key → ⊥) → node_at new.slots j ≡ node_at old.slots j = λ j low. restyles.elsewhere j (apart_from old.slots j key low) in
    let firsts : (j : ℕ) → (IsAbove old.slots j key → ⊥) → first_at new.slots j ≡ first_at old.slots j = λ j low. ap first_of (restyles.links j) in
    let nexts : (c j : ℕ) → parent_at old.slots c ≡ Some j → (IsAbove old.slots j key → ⊥) → next_at new.slots c ≡ next_at old.slots c = λ c j parent low. ap next_of (restyles.links c) in
    record {
      back = λ tree. stands_back old.slots new.slots key linked nodes firsts nexts k tree free;
      on = λ tree. stands_on old.slots new.slots key linked nodes firsts nexts k tree free;
      kept = restyles.kept k free;
    }

pub survive_attach : {T : Type 0} → SurviveAttach T
survive_attach {T} old new parent before child linked attaches k free =
    let nodes : (j : ℕ) → (IsAbove old.slots j parent → ⊥) → node_at new.slots j ≡ node_at old.slots j = λ j low. attaches.nodes j in
    let firsts : (j : ℕ) → (IsAbove old.slots j parent → ⊥) → first_at new.slots j ≡ first_at old.slots j = λ j low. attaches.firsts j (apart_from old.slots j parent low) in
    let nexts : (c j : ℕ) → parent_at old.slots c ≡ Some j → (IsAbove old.slots j parent → ⊥) → next_at new.slots c ≡ next_at old.slots c
    = λ c j at low. attaches.nexts c j at (apart_from old.slots j parent low) in
    record {
      back = λ tree. stands_back old.slots new.slots parent linked nodes firsts nexts k tree free;
      on = λ tree. stands_on old.slots new.slots parent linked nodes firsts nexts k tree free;
      kept = attaches.kept k free;
    }

pub survive_detach : {T : Type 0} → SurviveDetach T
survive_detach {T} old new parent key linked detaches k free =
    let nodes : (j : ℕ) → (IsAbove old.slots j parent → ⊥) → node_at new.slots j ≡ node_at old.slots j = λ j low. detaches.nodes j in
    let firsts : (j : ℕ) → (IsAbove old.slots j parent → ⊥) → first_at new.slots j ≡ first_at old.slots j = λ j low. detaches.firsts j (apart_from old.slots j parent low) in
    let nexts : (c j : ℕ) → parent_at old.slots c ≡ Some j → (IsAbove old.slots j parent → ⊥) → next_at new.slots c ≡ next_at old.slots c
    = λ c j at low. detaches.nexts c j at (apart_from old.slots j parent low) in
    record {
      back = λ tree. stands_back old.slots new.slots parent linked nodes firsts nexts k tree free;
      on = λ tree. stands_on old.slots new.slots parent linked nodes firsts nexts k tree free;
      kept = detaches.kept k free;
    }
