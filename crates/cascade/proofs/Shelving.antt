-- The places of rules on their shelves.
use Rattle.std.proofs.Common.{◌≡◌, ◌⊎◌, inl, inr, ℕ, nat_eq, ◌+◌, ◌-◌, ◌<◌, ◌≤◌, Bool, true, false, List, [], ◌∷◌, ◌++◌, length, map, take, get_or, refl, sym, subst, ap, ◌∙◌, cond, bytes_eq, arith, Some, None, String, Global, Vec}
use Rattle.std.specs.Prelude.{slice_get}
use Rattle.std.specs.String.{string_bytes}
use Rattle.std.specs.List.{Contains, list_any}
use Rattle.std.proofs.lemmas.List.Elements.{Contains-append_left, Contains-push}
use Rattle.std.proofs.lemmas.List.{get_or_default}
use Rattle.std.proofs.lemmas.Slice.Eq.{bytes_eq-Decides}
use Rattle.basic_laws.proofs.Lists.{any_contained, contained_any}
use Rattle.css_types.specs.declared.rule.Part.{Part}
use Rattle.css_types.specs.declared.rule.Rule.{Rule}
use Rattle.css_types.specs.Rule.{Compound, compound_of, compounds_of, selector_of}
use Rattle.cascade.specs.declared.places.Places.{Places}
use Rattle.cascade.specs.declared.shelves.Shelves.{Shelves}
use Rattle.cascade.specs.Filing.{Heading, of_id, of_class, of_type, of_any, of_upper_id, of_upper_class, by_first, heading, heading_above, heading_from_right, shelf, AreShelved, IsPut}
use Rattle.cascade.specs.Places.{places_under}
use Rattle.cascade.proofs.Chaining.{ends_in, from_right, none_there}

abbrev pub Letters : Type 0
Letters = String Global

-- ---- a place that is put

pub bytes_same : (name : List ℕ) → bytes_eq name name ≡ true
bytes_same name = (bytes_eq-Decides name name).1 refl

-- what a place under a name changes
abbrev pub PutsUnder : Places → (name : List ℕ) → (place : ℕ) → Places → Type 0
PutsUnder old name place new = (other : List ℕ) → places_under new other ≡ cond (bytes_eq other name) (places_under old other ++ place ∷ []) (places_under old other)

placed_if : (b : Bool) (places after : List ℕ) (place : ℕ) → b ≡ true → after ≡ cond b (places ++ place ∷ []) places → Contains after place
placed_if true places after place is e = subst (λ (l : List ℕ). Contains l place) (sym e) (Contains-push places place)
placed_if false places after place is e = absurd cc

kept_if : (b : Bool) (places after : List ℕ) (place p : ℕ) → after ≡ cond b (places ++ place ∷ []) places → Contains places p → Contains after p
kept_if true places after place p e has = subst (λ (l : List ℕ). Contains l p) (sym e) (Contains-append_left places (place ∷ []) p has)
kept_if false places after place p e has = subst (λ (l : List ℕ). Contains l p) (sym e) has

pub placed_under : (old new : Places) (name : List ℕ) (place : ℕ) → PutsUnder old name place new → Contains (places_under new name) place
placed_under old new name place put = placed_if (bytes_eq name name) (places_under old name) (places_under new name) place (bytes_same name) (put name)

pub kept_under : (old new : Places) (name : List ℕ) (place : ℕ) → PutsUnder old name place new → (other : List ℕ) (p : ℕ) → Contains (places_under old other) p → Contains (places_under new other) p
kept_under old new name place put other p = kept_if (bytes_eq other name) (places_under old other) (places_under new other) place p (put other)

-- ---- a place that is put on one of the shelves

kept_by_id : (s : Shelves) (new : Places) (id : List ℕ) (place : ℕ) → PutsUnder s.by_id id place new → (other : Heading) (p : ℕ) → Contains (shelf s other) p → Contains (shelf (record s { by_id = new }) other) p
kept_by_id s new id place put (of_id other) p has = kept_under s.by_id new id place put other p has
kept_by_id s new id place put (of_class other) p has = has
kept_by_id s new id place put (of_type other) p has = has
kept_by_id s new id place put (of_upper_id other) p has = has
kept_by_id s new id place put (of_upper_class other) p has = has
kept_by_id s new id place put of_any p has = has

pub put_by_id : (s : Shelves) (new : Places) (id : List ℕ) (place : ℕ) → PutsUnder s.by_id id place new → IsPut s (record s { by_id = new }) (of_id id) place
put_by_id s new id place put = record { placed = placed_under s.by_id new id place put; kept = kept_by_id s new id place put }

kept_by_class : (s : Shelves) (new : Places) (class : List ℕ) (place : ℕ) → PutsUnder s.by_class class place new → (other : Heading) (p : ℕ) → Contains (shelf s other) p → Contains (shelf (record s { by_class = new }) other) p
kept_by_class s new class place put (of_id other) p has = has
kept_by_class s new class place put (of_class other) p has = kept_under s.by_class new class place put other p has
kept_by_class s new class place put (of_type other) p has = has
kept_by_class s new class place put (of_upper_id other) p has = has
kept_by_class s new class place put (of_upper_class other) p has = has
kept_by_class s new class place put of_any p has = has

pub put_by_class : (s : Shelves) (new : Places) (class : List ℕ) (place : ℕ) → PutsUnder s.by_class class place new → IsPut s (record s { by_class = new }) (of_class class) place
put_by_class s new class place put = record { placed = placed_under s.by_class new class place put; kept = kept_by_class s new class place put }

kept_by_type : (s : Shelves) (new : Places) (name : List ℕ) (place : ℕ) → PutsUnder s.by_type name place new → (other : Heading) (p : ℕ) → Contains (shelf s other) p → Contains (shelf (record s { by_type = new }) other) p
kept_by_type s new name place put (of_id other) p has = has
kept_by_type s new name place put (of_class other) p has = has
kept_by_type s new name place put (of_type other) p has = kept_under s.by_type new name place put other p has
kept_by_type s new name place put (of_upper_id other) p has = has
kept_by_type s new name place put (of_upper_class other) p has = has
kept_by_type s new name place put of_any p has = has

pub put_by_type : (s : Shelves) (new : Places) (name : List ℕ) (place : ℕ) → PutsUnder s.by_type name place new → IsPut s (record s { by_type = new }) (of_type name) place
put_by_type s new name place put = record { placed = placed_under s.by_type new name place put; kept = kept_by_type s new name place put }

kept_by_upper_id : (s : Shelves) (new : Places) (id : List ℕ) (place : ℕ) → PutsUnder s.by_upper_id id place new → (other : Heading) (p : ℕ) → Contains (shelf s other) p → Contains (shelf (record s { by_upper_id = new }) other) p
kept_by_upper_id s new id place put (of_id other) p has = has
kept_by_upper_id s new id place put (of_class other) p has = has
kept_by_upper_id s new id place put (of_type other) p has = has
kept_by_upper_id s new id place put (of_upper_id other) p has = kept_under s.by_upper_id new id place put other p has
kept_by_upper_id s new id place put (of_upper_class other) p has = has
kept_by_upper_id s new id place put of_any p has = has

pub put_by_upper_id : (s : Shelves) (new : Places) (id : List ℕ) (place : ℕ) → PutsUnder s.by_upper_id id place new → IsPut s (record s { by_upper_id = new }) (of_upper_id id) place
put_by_upper_id s new id place put = record { placed = placed_under s.by_upper_id new id place put; kept = kept_by_upper_id s new id place put }

kept_by_upper_class : (s : Shelves) (new : Places) (class : List ℕ) (place : ℕ) → PutsUnder s.by_upper_class class place new → (other : Heading) (p : ℕ) → Contains (shelf s other) p → Contains (shelf (record s { by_upper_class = new }) other) p
kept_by_upper_class s new class place put (of_id other) p has = has
kept_by_upper_class s new class place put (of_class other) p has = has
kept_by_upper_class s new class place put (of_type other) p has = has
kept_by_upper_class s new class place put (of_upper_id other) p has = has
kept_by_upper_class s new class place put (of_upper_class other) p has = kept_under s.by_upper_class new class place put other p has
kept_by_upper_class s new class place put of_any p has = has

pub put_by_upper_class : (s : Shelves) (new : Places) (class : List ℕ) (place : ℕ) → PutsUnder s.by_upper_class class place new → IsPut s (record s { by_upper_class = new }) (of_upper_class class) place
put_by_upper_class s new class place put = record { placed = placed_under s.by_upper_class new class place put; kept = kept_by_upper_class s new class place put }

kept_other : (s : Shelves) (new : Vec ℕ Global) (place : ℕ) → new.items ≡ s.others.items ++ place ∷ [] → (other : Heading) (p : ℕ) → Contains (shelf s other) p → Contains (shelf (record s { others = new }) other) p
kept_other s new place others (of_id other) p has = has
kept_other s new place others (of_class other) p has = has
kept_other s new place others (of_type other) p has = has
kept_other s new place others (of_upper_id other) p has = has
kept_other s new place others (of_upper_class other) p has = has
kept_other s new place others of_any p has = subst (λ (l : List ℕ). Contains l p) (sym others) (Contains-append_left s.others.items (place ∷ []) p has)

pub put_other : (s : Shelves) (new : Vec ℕ Global) (place : ℕ) → new.items ≡ s.others.items ++ place ∷ [] → IsPut s (record s { others = new }) of_any place
put_other s new place others = record {
  placed = subst (λ (l : List ℕ). Contains l place) (sym others) (Contains-push s.others.items place);
  kept = kept_other s new place others;
}

-- ---- the heading of a compound

no_first : (names : List Letters) → None ≡ slice_get names 0 → names ≡ []
no_first [] none = refl
no_first (name ∷ names) none = absurd cc

first_name : (of : List ℕ → Heading) (names : List Letters) (name : Letters) (other : Heading) → Some name ≡ slice_get names 0 → by_first of (map (λ n. string_bytes n) names) other ≡ of (string_bytes name)
first_name of [] name other is = absurd cc
first_name of (first ∷ names) name other is = let same : first ≡ name = cc in ap (λ (n : Letters). of (string_bytes n)) same

-- the first id of a compound, or else its first class
abbrev pub by_names : (of_ids of_classes : List ℕ → Heading) → Part → Heading → Heading
by_names of_ids of_classes part other = by_first of_ids (map (λ i. string_bytes i) part.ids.items) (by_first of_classes (map (λ c. string_bytes c) part.classes.items) other)

pub heading_by_id : (of_ids of_classes : List ℕ → Heading) (part : Part) (other : Heading) (ids : List Letters) (id : Letters) (name : List ℕ) → ids ≡ part.ids.items → Some id ≡ slice_get ids 0 → name ≡ string_bytes id
    → of_ids name ≡ by_names of_ids of_classes part other
heading_by_id of_ids of_classes part other ids id name of_part first is =
    ap of_ids is ∙ sym (first_name of_ids ids id _ first) ∙ ap (λ (l : List Letters). by_first of_ids (map (λ i. string_bytes i) l) (by_first of_classes (map (λ c. string_bytes c) part.classes.items) other)) of_part

without_id : (of_ids of_classes : List ℕ → Heading) (part : Part) (other : Heading) (ids : List Letters) → ids ≡ part.ids.items → None ≡ slice_get ids 0
    → by_names of_ids of_classes part other ≡ by_first of_classes (map (λ c. string_bytes c) part.classes.items) other
without_id of_ids of_classes part other ids of_part none =
    ap (λ (l : List Letters). by_first of_ids (map (λ i. string_bytes i) l) (by_first of_classes (map (λ c. string_bytes c) part.classes.items) other)) (sym of_part ∙ no_first ids none)

pub heading_by_class : (of_ids of_classes : List ℕ → Heading) (part : Part) (other : Heading) (ids classes : List Letters) (class : Letters) (name : List ℕ) → ids ≡ part.ids.items → None ≡ slice_get ids 0
    → classes ≡ part.classes.items → Some class ≡ slice_get classes 0 → name ≡ string_bytes class → of_classes name ≡ by_names of_ids of_classes part other
heading_by_class of_ids of_classes part other ids classes class name ids_of_part no_id of_part first is =
    ap of_classes is ∙ sym (first_name of_classes classes class _ first) ∙ ap (λ (l : List Letters). by_first of_classes (map (λ c. string_bytes c) l) other) of_part
    ∙ sym (without_id of_ids of_classes part other ids ids_of_part no_id)

pub heading_by_other : (of_ids of_classes : List ℕ → Heading) (part : Part) (other : Heading) (ids classes : List Letters) → ids ≡ part.ids.items → None ≡ slice_get ids 0 → classes ≡ part.classes.items → None ≡ slice_get classes 0
    → other ≡ by_names of_ids of_classes part other
heading_by_other of_ids of_classes part other ids classes ids_of_part no_id of_part no_class =
    sym (ap (λ (l : List Letters). by_first of_classes (map (λ c. string_bytes c) l) other) (sym of_part ∙ no_first classes no_class)) ∙ sym (without_id of_ids of_classes part other ids ids_of_part no_id)

-- ---- and of a selector

pub heading_of_none : (parts : List Part) → length parts < 1 → of_any ≡ heading (compounds_of parts)
heading_of_none parts lt = ap (λ (l : List Part). heading (compounds_of l)) (sym (none_there parts lt))

pub above_of_parts : (parts : List Part) (last : Part) (other : Heading) → 1 ≤ length parts → last ≡ get_or parts (length parts - 1) last
    → by_names of_upper_id of_upper_class last (heading_above (from_right (take (length parts - 1) parts)) other) ≡ heading_above (from_right parts) other
unfolding heading_above
above_of_parts parts last other le is = sym (ap (λ (left : List Compound). heading_above left other) (ends_in parts last le is))

pub above_of_none : (parts : List Part) (other : Heading) → length parts < 1 → other ≡ heading_above (from_right parts) other
unfolding heading_above
above_of_none parts other lt = ap (λ (l : List Part). heading_above (from_right l) other) (sym (none_there parts lt))

-- ---- the places of all rules

one_more : (old new : Shelves) (rules : List Rule) (rule : Rule) (count place : ℕ) (d : Rule) → count < length rules → rule ≡ get_or rules count rule → IsPut old new (heading (selector_of rule.selector)) count → AreShelved old rules count
    → (place < count) ⊎ (place ≡ count) → list_any (nat_eq place) (shelf new (heading (selector_of (get_or rules place d).selector))) ≡ true
one_more old new rules rule count place d below is put shelved (inl lt) =
    any_contained _ place (put.kept (heading (selector_of (get_or rules place d).selector)) place (contained_any (shelf old (heading (selector_of (get_or rules place d).selector))) place (shelved.each place d lt)))
one_more old new rules rule count place d below is put shelved (inr same) =
    let there : get_or rules count d ≡ rule = get_or_default rules count d rule below ∙ sym is in
    let which : get_or rules place d ≡ rule = ap (λ (n : ℕ). get_or rules n d) same ∙ there in
    any_contained (shelf new (heading (selector_of (get_or rules place d).selector))) place
    (subst (λ (r : Rule). Contains (shelf new (heading (selector_of r.selector))) place) (sym which)
    (subst (λ (n : ℕ). Contains (shelf new (heading (selector_of rule.selector))) n) (sym same) put.placed))

pub more_shelved : (old new : Shelves) (rules : List Rule) (rule : Rule) (count : ℕ) → count < length rules → rule ≡ get_or rules count rule → IsPut old new (heading (selector_of rule.selector)) count → AreShelved old rules count
    → AreShelved new rules (count + 1)
more_shelved old new rules rule count below is put shelved = record { each = λ place d lt. one_more old new rules rule count place d below is put shelved (grind arith) }
