-- The sequences, taken one after the other in the order of their first places.
use Rattle.std.proofs.Common.{◌≡◌, ◌∙◌, sym, refl, ap, subst, ℕ, ◌+◌, ◌<◌, ◌≤◌, Bool, true, false, cond, eqb, ltb, List, [], ◌∷◌, ◌++◌, append_assoc, append-nil, map, length, get_or, drop, inl, inr, arith}
use Rattle.std.proofs.Math.Numerals.{add-one}
use Rattle.std.proofs.lemmas.Bool.{lt-ltb, le-ltb, eqb-true, eq-eqb, ne_eqb, cases_order}
use Rattle.bidi_explicit.specs.declared.links.Link.{Link}
use Rattle.bidi_explicit.specs.declared.paragraph.Levels.{Levels}
use Rattle.bidi_explicit.specs.Sequences.{Sequence, kept_from, last_of, level_before, level_at_end, level_in, level_runs, sequences, with_sides, isolating_runs}
use Rattle.bidi_explicit.specs.Paragraph.{AreAligned}
use Rattle.bidi_explicit.specs.Links.{before_at, begins_at, behind_at, is_first, Follows, AreChains, Hold, HasChain, IsLinkedWhole, kept_behind, sequence_by}
use Rattle.bidi_explicit.proofs.Matches.{AreWithin}
use Rattle.bidi_explicit.proofs.Linking.{low_is_not_first}
use Rattle.bidi_explicit.proofs.Following.{last_within}
use Rattle.bidi_explicit.proofs.Walking.{kept_within, with_mark}

module _ (links : List Link) (i : ℕ) where
  -- of sequences from i on, the first begins with i where any does
  pub record Front (rests : List (List ℕ)) : Type 0 where
    pub places : List ℕ
    pub others : List (List ℕ)
    pub is : rests ≡ (i ∷ places) ∷ others
    pub follows : Follows links i places
    pub chains : AreChains links (i + 1) others

  front : (rests : List (List ℕ)) → AreChains links i rests → is_first i rests ≡ true → Front rests
  front [] a e = absurd (cc)
  front ([] ∷ rests) a e = absurd a
  front ((p ∷ places) ∷ rests) a e = go (eqb p i) refl
    where
      go : (b : Bool) → eqb p i ≡ b → Front ((p ∷ places) ∷ rests)
      go true s =
          let here : p ≡ i = eqb-true p i s in
          let P : ℕ → Type 0 = λ q. Follows links q places in
          let Q : ℕ → Type 0 = λ q. AreChains links (q + 1) rests in
          record { places = places; others = rests; is = ap (λ (q : ℕ). (q ∷ places) ∷ rests) here; follows = subst P here a.1; chains = subst Q here a.2 }
      go false s =
          let low : i ≤ p = a.0 in
          let no : is_first i rests ≡ false = low_is_not_first links rests (p + 1) i (omega arith) a.2 in
          let bad : true ≡ false = sym e ∙ rw s no in
          absurd (cc)

  -- and they all stand behind it where none does
  behind_it : (rests : List (List ℕ)) → AreChains links i rests → is_first i rests ≡ false → AreChains links (i + 1) rests
  behind_it [] a e = tt
  behind_it ([] ∷ rests) a e = absurd a
  behind_it ((p ∷ places) ∷ rests) a e =
      let low : i ≤ p = a.0 in
      let n : p ≡ i → ⊥ = λ s. (let t : eqb p i ≡ true = rw s (eq-eqb i i refl) in let bad : true ≡ false = sym (rw t refl) ∙ e in absurd (cc)) in
      (later low n, a.1, a.2)
    where
      later : i ≤ p → (p ≡ i → ⊥) → i + 1 ≤ p
      later l n = elim (cases_order p i) [ inl s ↦ absurd (n s) | inr o ↦ elim o [ inl b ↦ omega arith | inr b ↦ omega arith ] ]

-- the level before the next place
pub before_more : (levels : Levels) (i : ℕ) → before_at levels (i + 1) ≡ cond (get_or levels.removed.items i false) (before_at levels i) (level_in levels.level.items i)
before_more levels i = rw add-one refl

-- the level of what stands before places that all stand behind it
before_all : (level : ℕ → ℕ) (base i high : ℕ) (xs : List ℕ) → AreWithin i high xs → level_before level base xs i ≡ base
before_all level base i high [] a = refl
before_all level base i high (x ∷ xs) a = let low : i ≤ x = a.0 in let e : ltb x i ≡ false = le-ltb x i low in rw e refl

module _ (levels : Levels) where
  abbrev level : ℕ → ℕ
  level = level_in levels.level.items

  abbrev kept : List ℕ
  kept = kept_from 0 levels.removed.items

  abbrev sides : List ℕ → Sequence
  sides = with_sides levels.base level levels.original.items kept

  abbrev pub all : List Sequence
  all = isolating_runs levels.base levels.level.items levels.original.items levels.removed.items

  pub record IsGathering (links : List Link) (i last : ℕ) (out : List Sequence) : Type 0 where
    pub rests : List (List ℕ)
    pub hold : Hold links i rests
    pub joined : out ++ map sides rests ≡ all
    pub before : (j : ℕ) → i ≤ j → level_before level levels.base kept j ≡ level_before level last (kept_behind levels i) j

  pub begins_gathering : (links : List Link) → IsLinkedWhole levels links → IsGathering links 0 levels.base []
  unfolding isolating_runs
  begins_gathering links w = record { rests = sequences levels.original.items (level_runs level kept); hold = w.hold; joined = refl; before = λ j l. refl }

  pub ends_gathering : (links : List Link) (i before : ℕ) (out : List Sequence) → IsLinkedWhole levels links → i ≡ length links → IsGathering links i before out → out ≡ all
  ends_gathering links i before out w e g = go g.rests g.hold.chains g.joined
    where
      go : (rests : List (List ℕ)) → AreChains links i rests → out ++ map sides rests ≡ all → out ≡ all
      go [] a j = sym (append-nil out) ∙ j
      go ([] ∷ rests) a j = absurd a
      go ((p ∷ places) ∷ rests) a j = let low : i ≤ p = a.0 in let high : p < length links = start places a.1 in absurd (omega arith)
        where
          start : (places : List ℕ) → Follows links p places → p < length links
          start [] f = f.0
          start (q ∷ places) f = f.0

  module _ (links : List Link) (i before : ℕ) (out : List Sequence) (w : IsLinkedWhole levels links) (aligned : AreAligned levels) (inside : i < length links) (g : IsGathering links i before out) where
    pub has_chain : begins_at links i ≡ true → HasChain links i
    has_chain e = let f = front links i g.rests g.hold.chains (sym (g.hold.first i (omega arith)) ∙ e) in record { places = f.places; follows = f.follows }

    marks_inside : i < length levels.removed.items
    marks_inside = let a : length levels.removed.items ≡ length levels.original.items = aligned.removed in let b : length links ≡ length levels.original.items = w.length in omega arith

    here : level_before level levels.base kept i ≡ before
    here = g.before i (omega arith) ∙ before_all level before i (i + length (drop i levels.removed.items)) (kept_behind levels i) (kept_within (drop i levels.removed.items) i (i + length (drop i levels.removed.items)) (omega arith))

    abbrev next_before : ℕ
    next_before = cond (get_or levels.removed.items i false) before (level i)

    before_on : (j : ℕ) → i + 1 ≤ j → level_before level levels.base kept j ≡ level_before level next_before (kept_behind levels (i + 1)) j
    before_on j l = g.before j (omega arith) ∙ go (get_or levels.removed.items i false) refl
      where
        go : (b : Bool) → get_or levels.removed.items i false ≡ b → level_before level before (kept_behind levels i) j ≡ level_before level next_before (kept_behind levels (i + 1)) j
        go true e = rw (with_mark levels.removed.items i true marks_inside e, e) refl
        go false e = let lt : ltb i j ≡ true = lt-ltb i j (omega arith) in rw (with_mark levels.removed.items i false marks_inside e, e) (rw lt refl)

    side : (places : List ℕ) → Follows links i places → sides (i ∷ places) ≡ sequence_by level links i places before
    side places f =
        let low : last_of i places < length links = last_within links places i f in
        let len : length links ≡ length levels.original.items = w.length in
        let e : behind_at links (last_of i places) ≡ level_at_end levels.base level levels.original.items kept (last_of i places) = w.behind (last_of i places) (omega arith) in
        rw (here, e) refl

    pub gathers_on : (out' : List Sequence) → (begins_at links i ≡ true → (places : List ℕ) → Follows links i places → out' ≡ out ++ sequence_by level links i places before ∷ []) → (begins_at links i ≡ false → out' ≡ out)
        → IsGathering links (i + 1) next_before out'
    gathers_on out' taking passing = go (begins_at links i) refl
      where
        taken : begins_at links i ≡ true → Front links i g.rests → IsGathering links (i + 1) next_before out'
        taken e f = record {
          rests = f.others;
          hold = record { chains = f.chains; first = λ q low. g.hold.first q (omega arith) ∙ ap (λ r. is_first q r) f.is ∙ (let s : eqb i q ≡ false = ne_eqb i q (λ same. omega arith) in rw s refl) };
          joined = rw (taking e f.places f.follows) (append_assoc out (sequence_by level links i f.places before ∷ []) (map sides f.others) ∙ ap (λ s. out ++ s ∷ map sides f.others) (sym (side f.places f.follows)) ∙ ap (λ r. out ++ map sides r) (sym f.is) ∙ g.joined);
          before = before_on;
        }

        go : (b : Bool) → begins_at links i ≡ b → IsGathering links (i + 1) next_before out'
        go true e = taken e (front links i g.rests g.hold.chains (sym (g.hold.first i (omega arith)) ∙ e))
        go false e = record {
          rests = g.rests;
          hold = record { chains = behind_it links i g.rests g.hold.chains (sym (g.hold.first i (omega arith)) ∙ e); first = λ q low. g.hold.first q (omega arith) };
          joined = rw (passing e) g.joined;
          before = before_on;
        }
