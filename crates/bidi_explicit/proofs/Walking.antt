-- The pass from the end, place by place.
use Rattle.std.proofs.Common.{◌≡◌, ◌∙◌, sym, refl, ap, subst, ℕ, zero, suc, ◌+◌, ◌-◌, ◌<◌, ◌≤◌, Bool, true, false, cond, eqb, ltb, List, [], ◌∷◌, length, get_or, drop, replicate, Option, Some, None, inl, inr, arith}
use Rattle.std.specs.Prelude.{IfSome}
use Rattle.std.proofs.Math.Numerals.{add-one}
use Rattle.std.proofs.Math.Nat.{add-zero}
use Rattle.std.proofs.lemmas.Bool.{lt-ltb, le-ltb, eq-eqb, cases_order}
use Rattle.std.proofs.lemmas.List.{drop_more, drop_all, get_or_past, length-replicate, length-set, length-drop}
use Rattle.wm_chars.specs.declared.classes.BidiClass.TheVariants.{L}
use Rattle.bidi_explicit.specs.declared.isolates.Kind.TheVariants.{Strong, Opens, Closes, Other}
use Rattle.bidi_explicit.specs.declared.isolates.Kind.{Kind}
use Rattle.bidi_explicit.specs.declared.links.Link.{Link}
use Rattle.bidi_explicit.specs.declared.paragraph.Levels.{Levels}
use Rattle.bidi_explicit.specs.Isolates.{kind_of}
use Rattle.bidi_explicit.specs.Sequences.{is_open_at, match_at, kept_from, level_behind, level_at_end, level_in}
use Rattle.bidi_explicit.specs.Paragraph.{AreAligned}
use Rattle.bidi_explicit.specs.Links.{no_link, first_of, closers, closers_at, matched_by, followed, chains, behind_of, behind_at, linked, skipped, kept_behind, GoesOn, IsLinked, IsLinkedWhole}
use Rattle.bidi_explicit.proofs.Chains.{by_place}
use Rattle.bidi_explicit.proofs.Matches.{matched, AreWithin, closers_within}
use Rattle.bidi_explicit.proofs.Linking.{hold_skipped, hold_linked, length_linked, behind_here, behind_else, skipped_here, skipped_else}

-- ---- kept places

pub kept_within : (marks : List Bool) (i high : ℕ) → i + length marks ≤ high → AreWithin i high (kept_from i marks)
kept_within [] i high l = tt
kept_within (b ∷ marks) i high l = go b (lower (kept_from (i + 1) marks) (kept_within marks (i + 1) high (omega arith)))
  where
    lower : (xs : List ℕ) → AreWithin (i + 1) high xs → AreWithin i high xs
    lower [] a = tt
    lower (x ∷ xs) a = let b : i + 1 ≤ x = a.0 in (omega arith, a.1, lower xs a.2)

    go : (b : Bool) → AreWithin i high (kept_from (i + 1) marks) → AreWithin i high (cond b (kept_from (i + 1) marks) (i ∷ kept_from (i + 1) marks))
    go true a = a
    go false a = (omega arith, omega arith, a)

first_within : (low high : ℕ) (xs : List ℕ) → AreWithin low high xs → IfSome (first_of xs) (λ q. (low ≤ q) × (q < high))
first_within low high [] a = tt
first_within low high (x ∷ xs) a = (a.0, a.1)

-- from within the text to within a list of its length
pub within_other : (low high high' : ℕ) (o : Option ℕ) → high ≤ high' → IfSome o (λ q. (low ≤ q) × (q < high)) → IfSome o (λ q. q < high')
within_other low high high' None l w = tt
within_other low high high' (Some q) l w = let b : q < high = w.1 in omega arith

-- the level of the first of these places, or the base level
abbrev level_of : (ℕ → ℕ) → ℕ → Option ℕ → ℕ
level_of level base None = base
level_of level base (Some q) = level q

behind_all : (level : ℕ → ℕ) (base p high : ℕ) (xs : List ℕ) → AreWithin (p + 1) high xs → level_behind level base xs p ≡ level_of level base (first_of xs)
behind_all level base p high [] a = refl
behind_all level base p high (x ∷ xs) a =
    let b : p + 1 ≤ x = a.0 in
    let e : ltb p x ≡ true = lt-ltb p x (omega arith) in
    rw e refl

drop_none : (n : ℕ) → drop {A = Bool} n [] ≡ []
drop_none zero = refl
drop_none (suc n) = refl

behind_kept : (level : ℕ → ℕ) (base : ℕ) (marks : List Bool) (i d : ℕ) → level_behind level base (kept_from i marks) (i + d) ≡ level_of level base (first_of (kept_from (i + d + 1) (drop (d + 1) marks)))
behind_kept level base [] i d = rw (drop_none (d + 1)) refl
behind_kept level base (b ∷ marks) i zero = rw add-zero (go b (behind_all level base i (i + 1 + length marks) (kept_from (i + 1) marks) (kept_within marks (i + 1) (i + 1 + length marks) (omega arith))))
  where
    go : (b : Bool) → level_behind level base (kept_from (i + 1) marks) i ≡ level_of level base (first_of (kept_from (i + 1) marks)) → level_behind level base (cond b (kept_from (i + 1) marks) (i ∷ kept_from (i + 1) marks)) i ≡ level_of level base (first_of (kept_from (i + 1) marks))
    go true e = e
    go false e = let no : ltb i i ≡ false = le-ltb i i (omega arith) in rw no e
behind_kept level base (b ∷ marks) i (suc d) = go b (ap (λ k. level_behind level base (kept_from (i + 1) marks) k) same ∙ behind_kept level base marks (i + 1) d ∙ ap (λ k. level_of level base (first_of (kept_from (k + 1) (drop (d + 1) marks)))) (sym same) ∙ ap (λ k. level_of level base (first_of (kept_from (i + suc d + 1) k))) shorter)
  where
    same : i + suc d ≡ i + 1 + d
    same = omega arith

    shorter : drop (d + 1) marks ≡ drop (suc d + 1) (b ∷ marks)
    shorter = rw (add-one, add-one) refl

    go : (b : Bool) → level_behind level base (kept_from (i + 1) marks) (i + suc d) ≡ level_of level base (first_of (kept_from (i + suc d + 1) (drop (suc d + 1) (b ∷ marks)))) → level_behind level base (cond b (kept_from (i + 1) marks) (i ∷ kept_from (i + 1) marks)) (i + suc d) ≡ level_of level base (first_of (kept_from (i + suc d + 1) (drop (suc d + 1) (b ∷ marks))))
    go true e = e
    go false e = let no : ltb (i + suc d) i ≡ false = le-ltb (i + suc d) i (omega arith) in rw no e

-- the nearest kept place, with one more mark in front
pub with_mark : (marks : List Bool) (i : ℕ) (b : Bool) → i < length marks → get_or marks i false ≡ b → kept_from i (drop i marks) ≡ cond b (kept_from (i + 1) (drop (i + 1) marks)) (i ∷ kept_from (i + 1) (drop (i + 1) marks))
with_mark marks i b l e = rw (drop_more marks i false l, e) refl

level_if : (base : ℕ) (level : ℕ → ℕ) (kind : Kind) (m next : Option ℕ) → behind_of base level kind m next ≡ cond (is_open_at kind m) base (level_of level base next)
level_if base level kind m (Some q) = refl
level_if base level kind m None = go (is_open_at kind m)
  where
    go : (b : Bool) → base ≡ cond b base base
    go true = refl
    go false = refl

-- ---- one place

module _ (levels : Levels) (aligned : AreAligned levels) (i : ℕ) (inside : i < length levels.original.items) (links : List Link) (pdis : List ℕ) (nearest : Option ℕ) (l : IsLinked levels (i + 1) links pdis nearest) where
  text : drop i levels.original.items ≡ get_or levels.original.items i L ∷ drop (i + 1) levels.original.items
  text = drop_more levels.original.items i L inside

  pub matched_is : matched_by (kind_of (get_or levels.original.items i L)) pdis ≡ match_at levels.original.items i
  matched_is = rw l.pending (matched levels.original.items i (get_or levels.original.items i L) refl)

  pending_is : closers_at (kind_of (get_or levels.original.items i L)) i pdis ≡ closers i (drop i levels.original.items)
  pending_is = rw (l.pending, text) refl

  pub behind_is : behind_of levels.base (level_in levels.level.items) (kind_of (get_or levels.original.items i L)) (match_at levels.original.items i) nearest ≡ level_at_end levels.base (level_in levels.level.items) levels.original.items (kept_from 0 levels.removed.items) i
  behind_is =
      let zero_i : 0 + i ≡ i = omega arith in
      let k : level_behind (level_in levels.level.items) levels.base (kept_from 0 levels.removed.items) i ≡ level_of (level_in levels.level.items) levels.base nearest
      = ap (λ j. level_behind (level_in levels.level.items) levels.base (kept_from 0 levels.removed.items) j) (sym zero_i)
      ∙ behind_kept (level_in levels.level.items) levels.base levels.removed.items 0 i
      ∙ ap (λ j. level_of (level_in levels.level.items) levels.base (first_of (kept_from (j + 1) (drop (i + 1) levels.removed.items)))) zero_i
      ∙ ap (λ o. level_of (level_in levels.level.items) levels.base o) (sym l.next) in
      level_if levels.base (level_in levels.level.items) (kind_of (get_or levels.original.items i L)) (match_at levels.original.items i) nearest ∙ rw k refl

  pub nearest_within : IfSome nearest (λ q. (i + 1 ≤ q) × (q < length levels.original.items))
  nearest_within =
      let r : length levels.removed.items ≡ length levels.original.items = aligned.removed in
      let d : length (drop (i + 1) levels.removed.items) ≡ length levels.removed.items - (i + 1) = length-drop (i + 1) levels.removed.items in
      rw l.next (first_within (i + 1) (length levels.original.items) (kept_behind levels (i + 1)) (kept_within (drop (i + 1) levels.removed.items) (i + 1) (length levels.original.items) (omega arith)))

  matched_within : IfSome (match_at levels.original.items i) (λ q. (i + 1 ≤ q) × (q < length levels.original.items))
  matched_within =
      let d : length (drop (i + 1) levels.original.items) ≡ length levels.original.items - (i + 1) = length-drop (i + 1) levels.original.items in
      rw (← matched_is) (go (kind_of (get_or levels.original.items i L)) (rw l.pending (closers_within (drop (i + 1) levels.original.items) (i + 1) (length levels.original.items) (omega arith))))
    where
      go : (k : Kind) → AreWithin (i + 1) (length levels.original.items) pdis → IfSome (matched_by k pdis) (λ q. (i + 1 ≤ q) × (q < length levels.original.items))
      go (Strong level) a = tt
      go Opens a = first_within (i + 1) (length levels.original.items) pdis a
      go Closes a = tt
      go Other a = tt

  abbrev pub follower : Option ℕ
  follower = followed (level_in levels.level.items) i nearest (match_at levels.original.items i)

  pub follower_within : IfSome follower (λ q. (i < q) × (q < length links))
  follower_within = rw l.length (go nearest nearest_within (match_at levels.original.items i) matched_within)
    where
      go : (near : Option ℕ) → IfSome near (λ q. (i + 1 ≤ q) × (q < length levels.original.items)) → (m : Option ℕ) → IfSome m (λ q. (i + 1 ≤ q) × (q < length levels.original.items)) → IfSome (followed (level_in levels.level.items) i near m) (λ q. (i < q) × (q < length levels.original.items))
      go None n None w = tt
      go None n (Some q) w = let low : i + 1 ≤ q = w.0 in (omega arith, w.1)
      go (Some r) n m w = either (eqb (level_in levels.level.items i) (level_in levels.level.items r)) m w
        where
          either : (b : Bool) (m : Option ℕ) → IfSome m (λ q. (i + 1 ≤ q) × (q < length levels.original.items)) → IfSome (cond b (Some r) m) (λ q. (i < q) × (q < length levels.original.items))
          either true m w = let low : i + 1 ≤ r = n.0 in (omega arith, n.1)
          either false None w = tt
          either false (Some q) w = let low : i + 1 ≤ q = w.0 in (omega arith, w.1)

  links_inside : i < length links
  links_inside = let e : length links ≡ length levels.original.items = l.length in omega arith

  abbrev pub end_level : ℕ
  end_level = level_at_end levels.base (level_in levels.level.items) levels.original.items (kept_from 0 levels.removed.items) i

  marks_inside : i < length levels.removed.items
  marks_inside = let e : length levels.removed.items ≡ length levels.original.items = aligned.removed in omega arith

  at_each : (links' : List Link) → behind_at links' i ≡ end_level → ((p : ℕ) → (p ≡ i → ⊥) → behind_at links' p ≡ behind_at links p)
      → (p : ℕ) → i ≤ p → p < length levels.original.items → behind_at links' p ≡ level_at_end levels.base (level_in levels.level.items) levels.original.items (kept_from 0 levels.removed.items) p
  at_each links' here else p low high = elim (cases_order p i) [
    | inl e ↦ let P : ℕ → Type 0 = λ r. behind_at links' r ≡ level_at_end levels.base (level_in levels.level.items) levels.original.items (kept_from 0 levels.removed.items) r in subst P (sym e) here
    | inr o ↦ else p (elim o [ inl b ↦ λ e. omega arith | inr a ↦ λ e. omega arith ]) ∙ l.behind p (elim o [ inl b ↦ omega arith | inr a ↦ omega arith ]) high
  ]

  pub step_removed : get_or levels.removed.items i false ≡ true → IsLinked levels i (skipped links i end_level) (closers_at (kind_of (get_or levels.original.items i L)) i pdis) nearest
  step_removed e =
      let k : kept_behind levels i ≡ kept_behind levels (i + 1) = with_mark levels.removed.items i true marks_inside e in
      record {
        pending = pending_is;
        next = rw k l.next;
        hold = rw k (hold_skipped links i end_level (chains (level_in levels.level.items) levels.original.items (kept_behind levels (i + 1))) l.hold links_inside);
        behind = at_each (skipped links i end_level) (skipped_here links i end_level links_inside) (skipped_else links i end_level links_inside);
        length = length-set links i _ ∙ l.length;
      }

  pub step_kept : get_or levels.removed.items i false ≡ false → IsLinked levels i (linked links i follower end_level) (closers_at (kind_of (get_or levels.original.items i L)) i pdis) (Some i)
  step_kept e =
      let k : kept_behind levels i ≡ i ∷ kept_behind levels (i + 1) = with_mark levels.removed.items i false marks_inside e in
      record {
        pending = pending_is;
        next = rw k refl;
        hold = rw (k, ← l.next) (hold_linked links i end_level (chains (level_in levels.level.items) levels.original.items (kept_behind levels (i + 1))) l.hold links_inside follower follower_within);
        behind = at_each (linked links i follower end_level) (behind_here links i end_level links_inside follower) (behind_else links i end_level links_inside follower follower_within);
        length = length_linked links i end_level links_inside follower ∙ l.length;
      }

  -- the same from what the code has in hand
  module _ (kind : Kind) (m : Option ℕ) (b : ℕ) (kind-is : kind ≡ kind_of (get_or levels.original.items i L)) (m-is : m ≡ matched_by kind pdis) (b-is : b ≡ behind_of levels.base (level_in levels.level.items) kind m nearest) where
    m_is : m ≡ match_at levels.original.items i
    m_is = m-is ∙ ap (λ k. matched_by k pdis) kind-is ∙ matched_is

    b_is : b ≡ end_level
    b_is = b-is ∙ ap (λ k. behind_of levels.base (level_in levels.level.items) k m nearest) kind-is ∙ ap (λ o. behind_of levels.base (level_in levels.level.items) (kind_of (get_or levels.original.items i L)) o nearest) m_is ∙ behind_is

    pub removed_by : (links' : List Link) (pdis' : List ℕ) → links' ≡ skipped links i b → pdis' ≡ closers_at kind i pdis → get_or levels.removed.items i false ≡ true → IsLinked levels i links' pdis' nearest
    removed_by links' pdis' links-is pdis-is e =
        let k : links' ≡ skipped links i end_level = links-is ∙ ap (λ (n : ℕ). skipped links i n) b_is in
        let p : pdis' ≡ closers_at (kind_of (get_or levels.original.items i L)) i pdis = pdis-is ∙ ap (λ k. closers_at k i pdis) kind-is in
        rw (k, p) (step_removed e)

    pub follower_by : (f : Option ℕ) → f ≡ followed (level_in levels.level.items) i nearest m → IfSome f (λ q. (i < q) × (q < length links))
    follower_by f f-is = let k : f ≡ follower = f-is ∙ ap (λ o. followed (level_in levels.level.items) i nearest o) m_is in rw k follower_within

    pub kept_by : (f : Option ℕ) (links' : List Link) (pdis' : List ℕ) → f ≡ followed (level_in levels.level.items) i nearest m → links' ≡ linked links i f b → pdis' ≡ closers_at kind i pdis → get_or levels.removed.items i false ≡ false → IsLinked levels i links' pdis' (Some i)
    kept_by f links' pdis' f-is links-is pdis-is e =
        let fo : f ≡ follower = f-is ∙ ap (λ o. followed (level_in levels.level.items) i nearest o) m_is in
        let k : links' ≡ linked links i follower end_level = links-is ∙ ap (λ (n : ℕ). linked links i f n) b_is ∙ ap (λ (o : Option ℕ). linked links i o end_level) fo in
        let p : pdis' ≡ closers_at (kind_of (get_or levels.original.items i L)) i pdis = pdis-is ∙ ap (λ k. closers_at k i pdis) kind-is in
        rw (k, p) (step_kept e)

  -- the same where the sequence goes on at the next kept place
  pub goes_on_by : (kind : Kind) (q : ℕ) (links' : List Link) → kind ≡ kind_of (get_or levels.original.items i L) → GoesOn levels kind i nearest q
      → links' ≡ linked links i (Some q) (level_in levels.level.items q) → IsLinked levels i links' pdis (Some i)
  goes_on_by kind q links' kind-is on links-is =
      let behind : level_in levels.level.items q ≡ behind_of levels.base (level_in levels.level.items) kind None nearest = rw on.next (sym (on.none.behind levels.base (level_in levels.level.items) q)) in
      let level : eqb (level_in levels.level.items i) (level_in levels.level.items q) ≡ true = eq-eqb _ _ on.level in
      let follows : Some q ≡ followed (level_in levels.level.items) i nearest None = rw (on.next, level) refl in
      kept_by kind None (level_in levels.level.items q) kind-is (sym (on.none.matched pdis)) behind (Some q) links' pdis follows links-is (sym (on.none.closers i pdis)) on.kept

-- before the last place
pub begins_linked : (levels : Levels) (i : ℕ) → AreAligned levels → i ≡ length levels.original.items → IsLinked levels i (replicate i no_link) [] None
begins_linked levels i aligned e =
    let r : length levels.removed.items ≡ length levels.original.items = aligned.removed in
    let n : drop i levels.original.items ≡ [] = drop_all i levels.original.items (omega arith) in
    let m : drop i levels.removed.items ≡ [] = drop_all i levels.removed.items (omega arith) in
    let len : length (replicate i no_link) ≡ i = length-replicate i no_link in
    record {
      pending = rw n refl;
      next = rw m refl;
      hold = rw m (record { chains = tt; first = λ q low. ap (λ (k : Link). k.begins) (get_or_past (replicate i no_link) q no_link (omega arith)) });
      behind = λ p low high. absurd (omega arith);
      length = len ∙ e;
    }

pub ends_linked : (levels : Levels) (i : ℕ) (links : List Link) (pdis : List ℕ) (nearest : Option ℕ) → i ≡ 0 → IsLinked levels i links pdis nearest → IsLinkedWhole levels links
ends_linked levels i links pdis nearest e l =
    let P : ℕ → Type 0 = λ j. IsLinked levels j links pdis nearest in
    go (subst P e l)
  where
    go : IsLinked levels 0 links pdis nearest → IsLinkedWhole levels links
    go z = record {
      hold = rw (by_place (level_in levels.level.items) levels.original.items (kept_from 0 levels.removed.items)) z.hold;
      behind = λ p high. z.behind p (omega arith) high;
      length = z.length;
    }
