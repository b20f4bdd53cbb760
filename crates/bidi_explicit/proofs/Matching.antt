-- A matching PDI takes the entry that its isolate initiator took: the stack comes back.
use Rattle.std.proofs.Common.{◌≡◌, ◌∙◌, sym, refl, ap, subst, ℕ, zero, suc, ◌+◌, ◌-◌, ◌<◌, Bool, true, false, ◌&&◌, cond, eqb, leb, List, [], ◌∷◌, length, get_or, drop, Option, Some, None, arith}
use Rattle.std.specs.Option.{option_map}
use Rattle.std.proofs.Math.Numerals.{add-one}
use Rattle.std.proofs.lemmas.List.{get_or-drop, length-drop}
use Rattle.std.proofs.lemmas.Bool.{eqb-true, eq-eqb, ne_eqb, and_parts}
use Rattle.wm_chars.specs.declared.classes.BidiClass.{BidiClass}
use Rattle.wm_chars.specs.declared.classes.BidiClass.TheVariants.{L, R, LRE, LRO, RLE, RLO, PDF, LRI, RLI, FSI, PDI}
use Rattle.bidi_explicit.specs.declared.isolates.Kind.{Kind}
use Rattle.bidi_explicit.specs.declared.isolates.Kind.TheVariants.{Strong, Opens, Closes, Other}
use Rattle.bidi_explicit.specs.declared.machine.Entry.{Entry}
use Rattle.bidi_explicit.specs.Base.{turns_right}
use Rattle.bidi_explicit.specs.Isolates.{kind_of, closing, closing_at}
use Rattle.bidi_explicit.specs.Sequences.{match_at, distance, level_in}
use Rattle.bidi_explicit.proofs.Between.{entries_length}
use Rattle.bidi_explicit.specs.Explicit.{explicit_levels, State, begin, next_odd, next_even, has_room, pushed, embedded, isolated, standing_on, below_isolate, closed, left, plain, entered, taken, entries, level_at, levels_by}

-- t stands in one isolate that was opened at s
data Within (s t : State) : Type 0 where
  -- one that has its entry: below it the stack of s
  valid : s.overflow_isolates ≡ 0 → s.overflow_embeddings ≡ 0 → t.overflow_isolates ≡ 0 → t.valid_isolates ≡ s.valid_isolates + 1 → below_isolate t.top t.below ≡ s.top ∷ s.below → Within s t
  -- one that overflows: nothing else has changed
  overflow : t ≡ record s { overflow_isolates = s.overflow_isolates + 1 } → Within s t

same_state : (s t : State) → s.top ≡ t.top → s.below ≡ t.below → s.overflow_isolates ≡ t.overflow_isolates → s.overflow_embeddings ≡ t.overflow_embeddings → s.valid_isolates ≡ t.valid_isolates → s ≡ t
same_state s t a b c d e =
    ap (λ (x : Entry). record s { top = x }) a
    ∙ ap (λ (x : List Entry). record t { below = x; overflow_isolates = s.overflow_isolates; overflow_embeddings = s.overflow_embeddings; valid_isolates = s.valid_isolates }) b
    ∙ ap (λ (x : ℕ). record t { overflow_isolates = x; overflow_embeddings = s.overflow_embeddings; valid_isolates = s.valid_isolates }) c
    ∙ ap (λ (x : ℕ). record t { overflow_embeddings = x; valid_isolates = s.valid_isolates }) d
    ∙ ap (λ (x : ℕ). record t { valid_isolates = x }) e

opened : (level : ℕ) (s : State) → Within s (isolated level s)
opened level s = go (has_room s level) refl
  where
    go : (room : Bool) → has_room s level ≡ room → Within s (cond room (pushed (record { level = level; instead = None; isolate = true }) (record s { valid_isolates = s.valid_isolates + 1 })) (record s { overflow_isolates = s.overflow_isolates + 1 }))
    go true e =
        let parts = and_parts (leb level 125) (eqb s.overflow_isolates 0 && eqb s.overflow_embeddings 0) e in
        let none = and_parts (eqb s.overflow_isolates 0) (eqb s.overflow_embeddings 0) parts.1 in
        valid (eqb-true s.overflow_isolates 0 none.0) (eqb-true s.overflow_embeddings 0 none.1) (eqb-true s.overflow_isolates 0 none.0) refl refl
    go false e = overflow refl

back : (s t : State) → Within s t → closed t ≡ s
back s t (valid oi oe ti v below) =
    let none : eqb t.overflow_isolates 0 ≡ true = eq-eqb t.overflow_isolates 0 ti in
    let some : eqb t.valid_isolates 0 ≡ false = ne_eqb t.valid_isolates 0 (λ e. omega arith) in
    rw (none, some, below) (same_state (record t { top = s.top; below = s.below; overflow_embeddings = 0; valid_isolates = t.valid_isolates - 1 }) s refl refl (ti ∙ sym oi) (sym oe) (omega arith))
back s t (overflow e) =
    let some : eqb (s.overflow_isolates + 1) 0 ≡ false = ne_eqb (s.overflow_isolates + 1) 0 (λ e. omega arith) in
    rw e (rw some (same_state (record s { overflow_isolates = s.overflow_isolates + 1 - 1 }) s refl refl (omega arith) refl refl))

-- ---- what is neither an initiator nor a PDI stays in the isolate

module _ (s t : State) where
  embed_within : (level : ℕ) (instead : Option BidiClass) → Within s t → Within s (embedded level instead t)
  embed_within level instead (valid oi oe ti v below) = go (has_room t level) (eqb t.overflow_isolates 0)
    where
      go : (room none : Bool) → Within s (cond room (pushed (record { level = level; instead = instead; isolate = false }) t) (cond none (record t { overflow_embeddings = t.overflow_embeddings + 1 }) t))
      go true none = valid oi oe ti v below
      go false true = valid oi oe ti v below
      go false false = valid oi oe ti v below
  embed_within level instead (overflow e) =
      let some : eqb (s.overflow_isolates + 1) 0 ≡ false = ne_eqb (s.overflow_isolates + 1) 0 (λ e. omega arith) in
      overflow (rw e (go some (leb level 125)))
    where
      go : eqb (s.overflow_isolates + 1) 0 ≡ false → (low : Bool) → cond (low && (eqb (s.overflow_isolates + 1) 0 && eqb s.overflow_embeddings 0)) (pushed (record { level = level; instead = instead; isolate = false }) (record s { overflow_isolates = s.overflow_isolates + 1 })) (cond (eqb (s.overflow_isolates + 1) 0) (record s { overflow_isolates = s.overflow_isolates + 1; overflow_embeddings = s.overflow_embeddings + 1 }) (record s { overflow_isolates = s.overflow_isolates + 1 })) ≡ record s { overflow_isolates = s.overflow_isolates + 1 }
      go some true = rw some refl
      go some false = rw some refl

  leave_within : Within s t → Within s (left t)
  leave_within (valid oi oe ti v below) = go (eqb t.overflow_isolates 0) (eqb t.overflow_embeddings 0) t.top.isolate refl t.below refl
    where
      go : (none nil isolate : Bool) → t.top.isolate ≡ isolate → (bs : List Entry) → t.below ≡ bs → Within s (cond none (cond nil (cond isolate t (standing_on bs t)) (record t { overflow_embeddings = t.overflow_embeddings - 1 })) t)
      go true true true i bs b = valid oi oe ti v below
      go true true false i [] b = valid oi oe ti v below
      go true true false i (x ∷ bs) b = valid oi oe ti v (sym (rw (b, i) refl) ∙ below)
      go true false isolate i bs b = valid oi oe ti v below
      go false nil isolate i bs b = valid oi oe ti v below
  leave_within (overflow e) =
      let some : eqb (s.overflow_isolates + 1) 0 ≡ false = ne_eqb (s.overflow_isolates + 1) 0 (λ e. omega arith) in
      overflow (rw e (rw some refl))

  -- a class that is no isolate's
  stays_within : (c : BidiClass) → (kind_of c ≡ Opens → ⊥) → (kind_of c ≡ Closes → ⊥) → Within s t → Within s (entered c t)
  stays_within RLE n m w = embed_within (next_odd t.top.level) None w
  stays_within LRE n m w = embed_within (next_even t.top.level) None w
  stays_within RLO n m w = embed_within (next_odd t.top.level) (Some R) w
  stays_within LRO n m w = embed_within (next_even t.top.level) (Some L) w
  stays_within PDF n m w = leave_within w
  stays_within LRI n m w = absurd (n refl)
  stays_within RLI n m w = absurd (n refl)
  stays_within FSI n m w = absurd (n refl)
  stays_within PDI n m w = absurd (m refl)
  stays_within _ n m w = w

opens_within : (c : BidiClass) (after : List BidiClass) (t : State) → kind_of c ≡ Opens → Within t (entered (plain c after) t)
opens_within LRI after t e = opened (next_even t.top.level) t
opens_within RLI after t e = opened (next_odd t.top.level) t
opens_within FSI after t e = go (turns_right after)
  where
    go : (right : Bool) → Within t (entered (cond right RLI LRI) t)
    go true = opened (next_odd t.top.level) t
    go false = opened (next_even t.top.level) t
opens_within _ after t e = absurd (cc)

plain_stays : (c : BidiClass) (after : List BidiClass) → (kind_of c ≡ Opens → ⊥) → plain c after ≡ c
plain_stays FSI after n = absurd (n refl)
plain_stays _ after n = refl

closes_is_pdi : (c : BidiClass) → kind_of c ≡ Closes → c ≡ PDI
closes_is_pdi PDI e = refl
closes_is_pdi _ e = absurd (cc)

-- ---- through the text of an isolate

-- t stands in an isolate that was opened at s, and in further ones in it
abbrev Deep : State → ℕ → State → Type 0
Deep s zero t = Within s t
Deep s (suc d) t = (u : State) × (Deep s d u × Within u t)

-- the state behind the first n characters
abbrev pub state_behind : State → List BidiClass → ℕ → State
state_behind t cs zero = t
state_behind t [] (suc n) = t
state_behind t (c ∷ after) (suc n) = state_behind (entered (plain c after) t) after n

taken_off : (o : Option ℕ) (n : ℕ) → option_map suc o ≡ Some n → (m : ℕ) × ((n ≡ suc m) × (o ≡ Some m))
taken_off None n e = absurd (cc)
taken_off (Some m) n e = (m, (cc, refl))

inner : (s t t' : State) (d : ℕ) → Deep s d t → ((u : State) → Within u t → Within u t') → Deep s d t'
inner s t t' zero w f = f s w
inner s t t' (suc d) w f = (w.0, (w.1.0, f w.0 w.1.1))

abbrev Returns : List BidiClass → Type 0
Returns cs = (s t : State) (d n : ℕ) → Deep s d t → closing cs d ≡ Some n → closed (state_behind t cs n) ≡ s

module _ (c : BidiClass) (after : List BidiClass) (rest : Returns after) (s t : State) where
  on : (d n : ℕ) → Deep s d (entered (plain c after) t) → option_map suc (closing after d) ≡ Some n → closed (state_behind t (c ∷ after) n) ≡ s
  on d n w e =
      let off = taken_off (closing after d) n e in
      let P : ℕ → Type 0 = λ m. closed (state_behind t (c ∷ after) m) ≡ s in
      subst P (sym off.1.0) (rest s (entered (plain c after) t) d off.0 w off.1.1)

  -- what is neither an initiator nor a PDI
  along : (kind_of c ≡ Opens → ⊥) → (kind_of c ≡ Closes → ⊥) → (d n : ℕ) → Deep s d t → option_map suc (closing after d) ≡ Some n → closed (state_behind t (c ∷ after) n) ≡ s
  along n-opens n-closes d n w e =
      let P : BidiClass → Type 0 = λ x. Deep s d (entered x t) in
      on d n (subst P (sym (plain_stays c after n-opens)) (inner s t (entered c t) d w (λ u h. stays_within u t c n-opens n-closes h))) e

  step : (k : Kind) → kind_of c ≡ k → (d n : ℕ) → Deep s d t → closing_at k (closing after) d ≡ Some n → closed (state_behind t (c ∷ after) n) ≡ s
  step (Strong level) is d n w e = along (λ o. absurd (cc)) (λ o. absurd (cc)) d n w e
  step Other is d n w e = along (λ o. absurd (cc)) (λ o. absurd (cc)) d n w e
  step Opens is d n w e = on (suc d) n (t, (w, opens_within c after t is)) e
  step Closes is zero n w e =
      let z : 0 ≡ n = cc in
      let P : ℕ → Type 0 = λ m. closed (state_behind t (c ∷ after) m) ≡ s in
      subst P z (back s t w)
  step Closes is (suc d) n w e =
      let pdi : c ≡ PDI = closes_is_pdi c is in
      let P : State → Type 0 = λ x. Deep s d x in
      let Q : BidiClass → Type 0 = λ x. Deep s d (entered (plain x after) t) in
      on d n (subst Q (sym pdi) (subst P (sym (back w.0 t w.1.1)) w.1.0)) e

returns_to : (cs : List BidiClass) → Returns cs
returns_to [] s t d n w e = absurd (cc)
returns_to (c ∷ after) s t d n w e = step c after (returns_to after) s t (kind_of c) refl d n w e

-- ---- where the matching PDI stands

pub record IsPdiAt (cs : List BidiClass) (n : ℕ) : Type 0 where
  pub within : n < length cs
  pub is : get_or cs n L ≡ PDI

module _ (c : BidiClass) (after : List BidiClass) (rest : (d n : ℕ) → closing after d ≡ Some n → IsPdiAt after n) where
  found_on : (d n : ℕ) → option_map suc (closing after d) ≡ Some n → IsPdiAt (c ∷ after) n
  found_on d n e =
      let off = taken_off (closing after d) n e in
      let f = rest d off.0 off.1.1 in
      let P : ℕ → Type 0 = λ m. IsPdiAt (c ∷ after) m in
      let low : off.0 < length after = f.within in
      subst P (sym off.1.0) (record { within = omega arith; is = f.is })

  found_at : (k : Kind) → kind_of c ≡ k → (d n : ℕ) → closing_at k (closing after) d ≡ Some n → IsPdiAt (c ∷ after) n
  found_at (Strong level) is d n e = found_on d n e
  found_at Other is d n e = found_on d n e
  found_at Opens is d n e = found_on (suc d) n e
  found_at Closes is zero n e =
      let z : 0 ≡ n = cc in
      let P : ℕ → Type 0 = λ m. IsPdiAt (c ∷ after) m in
      subst P z (record { within = omega arith; is = closes_is_pdi c is })
  found_at Closes is (suc d) n e = found_on d n e

closing_is_pdi : (cs : List BidiClass) (d n : ℕ) → closing cs d ≡ Some n → IsPdiAt cs n
closing_is_pdi [] d n e = absurd (cc)
closing_is_pdi (c ∷ after) d n e = found_at c after (closing_is_pdi after) (kind_of c) refl d n e

-- ---- entries and levels, place by place

entry_at : (cs : List BidiClass) (t : State) (n : ℕ) (d : Entry) → n < length cs
    → get_or (entries t cs) n d ≡ taken (get_or cs n L) (state_behind t cs n) (entered (plain (get_or cs n L) (drop (suc n) cs)) (state_behind t cs n))
entry_at [] t n d l = absurd (omega arith)
entry_at (c ∷ after) t zero d l = refl
entry_at (c ∷ after) t (suc n) d l = entry_at after (entered (plain c after) t) n d (omega arith)

state_on : (cs : List BidiClass) (t : State) (p n m : ℕ) → p < length cs → m ≡ p + n
    → state_behind t cs (suc m) ≡ state_behind (entered (plain (get_or cs p L) (drop (suc p) cs)) (state_behind t cs p)) (drop (suc p) cs) n
state_on [] t p n m l e = absurd (omega arith)
state_on (c ∷ after) t zero n m l e = let same : m ≡ n = omega arith in ap (λ k. state_behind (entered (plain c after) t) after k) same
state_on (c ∷ after) t (suc p) n zero l e = absurd (omega arith)
state_on (c ∷ after) t (suc p) n (suc m) l e = state_on after (entered (plain c after) t) p n m (omega arith) (omega arith)

-- what takes the level of its entry as it is
abbrev IsControl : BidiClass → Type 0
IsControl c = (base last : ℕ) (entry : Entry) → level_at base last c entry ≡ entry.level

opens_control : (c : BidiClass) → kind_of c ≡ Opens → IsControl c
opens_control LRI e = λ base last entry. refl
opens_control RLI e = λ base last entry. refl
opens_control FSI e = λ base last entry. refl
opens_control _ e = absurd (cc)

opens_taken : (c : BidiClass) (s t : State) → kind_of c ≡ Opens → taken c s t ≡ s.top
opens_taken LRI s t e = refl
opens_taken RLI s t e = refl
opens_taken FSI s t e = refl
opens_taken _ s t e = absurd (cc)

level_by : (base last : ℕ) (cs : List BidiClass) (es : List Entry) (n d : ℕ) (x : Entry) → n < length cs → length es ≡ length cs → IsControl (get_or cs n L) → get_or (levels_by base last cs es) n d ≡ (get_or es n x).level
level_by base last [] es n d x l e k = absurd (omega arith)
level_by base last (c ∷ cs) [] n d x l e k = absurd (cc)
level_by base last (c ∷ cs) (y ∷ es) zero d x l e k = k base last y
level_by base last (c ∷ cs) (y ∷ es) (suc n) d x l e k = level_by base (level_at base last c y) cs es n d x (omega arith) (cc) k

-- an isolate initiator and its matching PDI have one level
module _ (base : ℕ) (classes : List BidiClass) where
  abbrev first_entry : Entry
  first_entry = (begin base).top

  level_of_control : (p : ℕ) → p < length classes → IsControl (get_or classes p L) → level_in (explicit_levels base classes) p ≡ (get_or (entries (begin base) classes) p first_entry).level
  unfolding explicit_levels
  level_of_control p l k = level_by base base classes (entries (begin base) classes) p 0 first_entry l (entries_length (begin base) classes) k

  module _ (p n : ℕ) (l : p < length classes) (is : kind_of (get_or classes p L) ≡ Opens) (found : closing (drop (suc p) classes) 0 ≡ Some n) where
    abbrev before : State
    before = state_behind (begin base) classes p

    abbrev behind : List BidiClass
    behind = drop (suc p) classes

    abbrev inner_state : State
    inner_state = entered (plain (get_or classes p L) behind) before

    comes_back : closed (state_behind inner_state behind n) ≡ before
    comes_back = returns_to behind before inner_state 0 n (opens_within (get_or classes p L) behind before is) found

    level_of_initiator : level_in (explicit_levels base classes) p ≡ before.top.level
    level_of_initiator =
        level_of_control p l (opens_control (get_or classes p L) is)
        ∙ ap (λ (e : Entry). e.level) (entry_at classes (begin base) p first_entry l ∙ opens_taken (get_or classes p L) before inner_state is)

    module _ (q : ℕ) (q-is : q ≡ suc (p + n)) where
      pdi : IsPdiAt behind n
      pdi = closing_is_pdi behind 0 n found

      q_within : q < length classes
      q_within =
          let a : n < length behind = pdi.within in
          let b : length behind ≡ length classes - suc p = length-drop (suc p) classes in
          omega arith

      class_is : get_or classes q L ≡ PDI
      class_is = let e : suc p + n ≡ q = omega arith in ap (λ k. get_or classes k L) (sym e) ∙ sym (get_or-drop (suc p) classes n L) ∙ pdi.is

      state_is : closed (state_behind (begin base) classes q) ≡ before
      state_is = ap (λ k. closed (state_behind (begin base) classes k)) q-is ∙ ap closed (state_on classes (begin base) p n (p + n) l refl) ∙ comes_back

      level_of_pdi : level_in (explicit_levels base classes) q ≡ before.top.level
      level_of_pdi =
          let control : IsControl (get_or classes q L) = subst IsControl (sym class_is) (λ base last entry. refl) in
          let st : State = state_behind (begin base) classes q in
          level_of_control q q_within control
          ∙ ap (λ (e : Entry). e.level) (entry_at classes (begin base) q first_entry q_within)
          ∙ ap (λ (x : BidiClass). (taken x (state_behind (begin base) classes q) (entered (plain x (drop (suc q) classes)) (state_behind (begin base) classes q))).level) class_is
          ∙ ap (λ (t : State). t.top.level) state_is

  matched_level : (p q : ℕ) → p < length classes → (k : Kind) → kind_of (get_or classes p L) ≡ k → (o : Option ℕ) → distance k (drop (p + 1) classes) ≡ o → option_map (λ n. p + 1 + n) o ≡ Some q
      → level_in (explicit_levels base classes) p ≡ level_in (explicit_levels base classes) q
  matched_level p q l k is None f e = absurd (cc)
  matched_level p q l (Strong level) is (Some n) f e = absurd (cc)
  matched_level p q l Closes is (Some n) f e = absurd (cc)
  matched_level p q l Other is (Some n) f e = absurd (cc)
  matched_level p q l Opens is (Some n) f e =
      let g : closing (drop (suc p) classes) 0 ≡ Some n = rw add-one at f in
      let h : p + 1 + n ≡ q = cc in
      level_of_initiator p n l is g ∙ sym (level_of_pdi p n l is g q (omega arith))

  pub one_level : (p q : ℕ) → p < length classes → match_at classes p ≡ Some q → level_in (explicit_levels base classes) p ≡ level_in (explicit_levels base classes) q
  one_level p q l e = matched_level p q l (kind_of (get_or classes p L)) refl (distance (kind_of (get_or classes p L)) (drop (p + 1) classes)) refl e
