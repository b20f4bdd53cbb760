-- Each turn of `clap`'s walk, at the command that this crate has.
use Rattle.std.proofs.Common.{◌≡◌, refl, sym, ap, ap₂, ◌∙◌, subst, ℕ, Bool, true, false, cond, ◌&&◌, ◌||◌, List, [], ◌∷◌, ◌++◌, map, fold, Option, Some, None, codes}
use Rattle.clap.specs.Walk.{Held, Row, Step, Text, Walk, idle, option, after_step, is_pending, plain_word, pushed, settled, used, value, walked, word_met}
use Rattle.clap.specs.Kinds.{Kinds, or_else}
use Rattle.clap.specs.Faults.{react_fault, settle_fault, step_fault, turn_fault, walk_fault, word_fault}
use Rattle.clap.specs.declared.error.kind.ErrorKind.TheVariants as kind
use Rattle.command_line.specs.Command.{the_command, Part}
use Rattle.command_line.proofs.Walking.{Once, all, held, id_of, part, pend, row, rule, rules, settled_to, top, unsettled, used_to}
use Rattle.command_line.proofs.Looking.{Looks, Name, ending, named, bad, bare, inline, block, number, kind_of, met_as}

-- ---- faults

pub or_parts : (a b : Kinds) → or_else a b ≡ [] → (a ≡ []) × (b ≡ [])
or_parts [] b e = (refl, e)
or_parts (k ∷ ks) b e = absurd (cc)

pub or_both : (a b : Kinds) → a ≡ [] → b ≡ [] → or_else a b ≡ []
or_both a b ea eb = ap₂ or_else ea eb

or_assoc : (a b c : Kinds) → or_else (or_else a b) c ≡ or_else a (or_else b c)
or_assoc [] b c = refl
or_assoc (k ∷ ks) b c = refl

-- ---- the walk from one place on

abbrev pub fault_from : Walk → List Text → Kinds
fault_from w words = or_else (walk_fault top [] w words) (settle_fault rules false (fold (walked rules []) w words).held)

abbrev pub rows_from : Walk → List Text → List Row
rows_from w words = (settled rules (fold (walked rules []) w words).held).rows

-- one more word leads from `w` to `v`, with these faults
abbrev pub Goes : Walk → Text → Walk → Kinds → Type 0
Goes w word v faults = (turn_fault top [] w word ≡ faults) × (walked rules [] w word ≡ v)

pub goes_fault : (w v : Walk) (word : Text) (faults : Kinds) (words : List Text) → Goes w word v faults → fault_from w (word ∷ words) ≡ or_else faults (fault_from v words)
unfolding walk_fault
goes_fault w v word faults words goes =
    or_assoc (turn_fault top [] w word) (walk_fault top [] (walked rules [] w word) words) (settle_fault rules false (fold (walked rules []) (walked rules [] w word) words).held)
    ∙ ap₂ (λ f u. or_else f (fault_from u words)) goes.0 goes.1

pub goes_rows : (w v : Walk) (word : Text) (faults : Kinds) (words : List Text) → Goes w word v faults → rows_from w (word ∷ words) ≡ rows_from v words
goes_rows w v word faults words goes = ap (λ u. rows_from u words) goes.1

-- what no fault in the walk says of its first turn, and of its end
pub fault_turn : (w : Walk) (word : Text) (words : List Text) → fault_from w (word ∷ words) ≡ [] → (turn_fault top [] w word ≡ []) × (fault_from (walked rules [] w word) words ≡ [])
unfolding walk_fault
fault_turn w word words e = or_parts (turn_fault top [] w word) (fault_from (walked rules [] w word) words)
    (sym (or_assoc (turn_fault top [] w word) (walk_fault top [] (walked rules [] w word) words) (settle_fault rules false (fold (walked rules []) (walked rules [] w word) words).held)) ∙ e)

pub fault_end : (w : Walk) → fault_from w [] ≡ [] → settle_fault rules false w.held ≡ []
unfolding walk_fault
fault_end w e = e

pub end_fault : (w : Walk) → settle_fault rules false w.held ≡ [] → fault_from w [] ≡ []
unfolding walk_fault
end_fault w e = e

-- ---- the places

abbrev pub place : Bool → ℕ
place false = 1
place true = 2

-- nothing waits for a value
abbrev pub at : List Part → Option Part → (placed ended : Bool) → Walk
at us p placed ended = record { held = held (map row us) (pend p); waiting = idle; position = place placed; is_trailing = ended; stopped = None }

-- an option waits for its value
abbrev pub waits_for : List Part → Name → Bool → Walk
waits_for us n placed = record {
  held = held (map row us) (Some (id_of (kind_of n), []));
  waiting = option (id_of (kind_of n));
  position = place placed;
  is_trailing = false;
  stopped = None;
}

-- ---- turns

module _ (us : List Part) (p : Option Part) (placed : Bool) where
  abbrev here : Held
  here = held (map row us) (pend p)

  pub turn_ending : (w : Text) → Looks ending w → Goes (at us p placed false) w (at us p placed true) []
  unfolding walked
  turn_ending w looks = (
    ap₂ (λ f (m : Held × Step). or_else f (step_fault top (place placed) m.0 m.1)) (looks.1 idle (map row us) (pend p)) (looks.0 idle (place placed) (map row us) (pend p)),
    ap (λ (m : Held × Step). after_step rules w (at us p placed false) m.0 m.1) (looks.0 idle (place placed) (map row us) (pend p)),
  )

  pub turn_bad : (w : Text) → Looks bad w → (words : List Text) → fault_from (at us p placed false) (w ∷ words) ≡ [] → ⊥
  unfolding walk_fault
  turn_bad w looks words e =
      let met = word_met rules [] false idle (place placed) w here in
      let fault : turn_fault top [] (at us p placed false) w ≡ kind.UnknownArgument ∷ [] =
      ap (λ f. or_else f (step_fault top (place placed) met.0 met.1)) (looks idle (map row us) (pend p)) in
      let none = (fault_turn (at us p placed false) w words e).0 in
      let bad : kind.UnknownArgument ∷ [] ≡ [] = sym fault ∙ none in
      absurd (cc)

  pub turn_name : (w : Text) (n : Name) → Looks (named n None) w → Once us → Once (all us p)
      → Goes (at us p placed false) w (waits_for (all us p) n placed) (or_else (settle_fault rules false here) [])
  unfolding walked
  turn_name w n looks once later = (
    ap₂ (λ f (m : Held × Step). or_else f (step_fault top (place placed) m.0 m.1)) (looks.1 idle (map row us) (pend p)) (looks.0 idle (place placed) (map row us) (pend p)),
    ap (λ (m : Held × Step). after_step rules w (at us p placed false) m.0 m.1) (looks.0 idle (place placed) (map row us) (pend p)) ∙ go n,
  )
    where
      go : (n : Name) → after_step rules w (at us p placed false) (met_as (named n None) idle (place placed) w here).0 (met_as (named n None) idle (place placed) w here).1 ≡ waits_for (all us p) n placed
      go inline = ap (λ (h : Held). record (waits_for (all us p) inline placed) { held = record h { pending = Some (id_of (kind_of inline), []) } }) (settled_to us once p later)
      go block = ap (λ (h : Held). record (waits_for (all us p) block placed) { held = record h { pending = Some (id_of (kind_of block), []) } }) (settled_to us once p later)
      go number = ap (λ (h : Held). record (waits_for (all us p) number placed) { held = record h { pending = Some (id_of (kind_of number), []) } }) (settled_to us once p later)

  -- what a name without a value may refuse
  pub fault_name : (w : Text) (n : Name) → Looks (named n None) w → (words : List Text) → fault_from (at us p placed false) (w ∷ words) ≡ [] → settle_fault rules false here ≡ []
  unfolding walk_fault
  fault_name w n looks words e =
      let fault = ap₂ (λ f (m : Held × Step). or_else f (step_fault top (place placed) m.0 m.1)) (looks.1 idle (map row us) (pend p)) (looks.0 idle (place placed) (map row us) (pend p)) in
      (or_parts _ _ (sym fault ∙ (fault_turn (at us p placed false) w words e).0)).0

  pub fault_value : (w t : Text) (n : Name) → Looks (named n (Some t)) w → (words : List Text) → fault_from (at us p placed false) (w ∷ words) ≡ []
      → react_fault rules false (rule (kind_of n)) (t ∷ []) here ≡ []
  unfolding walk_fault
  fault_value w t n looks words e =
      let fault = ap₂ (λ f (m : Held × Step). or_else f (step_fault top (place placed) m.0 m.1)) (looks.1 idle (map row us) (pend p)) (looks.0 idle (place placed) (map row us) (pend p)) in
      (or_parts _ _ (sym fault ∙ (fault_turn (at us p placed false) w words e).0)).0

  pub turn_value : (w t : Text) (n : Name) → Looks (named n (Some t)) w → Once us → Once (all us p) → Once (all us p ++ part (kind_of n) t ∷ [])
      → Goes (at us p placed false) w (at (all us p ++ part (kind_of n) t ∷ []) None placed false) (or_else (react_fault rules false (rule (kind_of n)) (t ∷ []) here) [])
  unfolding walked
  turn_value w t n looks once later last = (
    ap₂ (λ f (m : Held × Step). or_else f (step_fault top (place placed) m.0 m.1)) (looks.1 idle (map row us) (pend p)) (looks.0 idle (place placed) (map row us) (pend p)),
    ap (λ (m : Held × Step). after_step rules w (at us p placed false) m.0 m.1) (looks.0 idle (place placed) (map row us) (pend p))
        ∙ ap (λ (h : Held). record (at us p placed false) { held = held (used (rule (kind_of n)) (t ∷ []) h.rows) None }) (settled_to us once p later)
        ∙ ap (λ (rows : List Row). record (at us p placed false) { held = held rows None }) (used_to (all us p) later (part (kind_of n) t) last),
  )

  -- a word that is the command, where `clap` is at its place
  pub turn_command : (w : Text) (ended : Bool) → Once us → Once (all us p)
      → word_met rules [] ended idle 1 w here ≡ (here, value) → word_fault top [] ended idle w here ≡ []
      → Goes (at us p false ended) w (at (all us p) (Some (part the_command w)) true ended) (settle_fault rules false here)
  unfolding walked
  turn_command w ended once later meets fails = (
    ap₂ (λ f (m : Held × Step). or_else f (step_fault top 1 m.0 m.1)) fails meets ∙ faults (is_pending (rule the_command) (pend p)),
    ap (λ (m : Held × Step). after_step rules w (at us p false ended) m.0 m.1) meets
        ∙ ap (λ (h : Held). record (at us p true false) { held = pushed (codes "command") w h; is_trailing = ended || false }) (helds (is_pending (rule the_command) (pend p)) ∙ settled_to us once p later)
        ∙ same ended,
  )
    where
      faults : (b : Bool) → cond (b && false) [] (settle_fault rules false here) ≡ settle_fault rules false here
      faults true = refl
      faults false = refl

      helds : (b : Bool) → cond (b && false) here (settled rules here) ≡ settled rules here
      helds true = refl
      helds false = refl

      same : (b : Bool) → record (at us p true false) { held = pushed (codes "command") w (held (map row (all us p)) None); is_trailing = b || false } ≡ at (all us p) (Some (part the_command w)) true b
      same true = refl
      same false = refl

  -- a word behind the command that is no option
  pub turn_stray : (w : Text) (ended : Bool) → word_met rules [] ended idle 2 w here ≡ (here, value) → (words : List Text) → fault_from (at us p true ended) (w ∷ words) ≡ [] → ⊥
  unfolding walk_fault
  turn_stray w ended meets words e =
      let none : or_else (word_fault top [] ended idle w here) (step_fault top 2 (word_met rules [] ended idle 2 w here).0 (word_met rules [] ended idle 2 w here).1) ≡ [] =
      (fault_turn (at us p true ended) w words e).0 in
      let stray : step_fault top 2 (word_met rules [] ended idle 2 w here).0 (word_met rules [] ended idle 2 w here).1 ≡ [] =
      (or_parts (word_fault top [] ended idle w here) (step_fault top 2 (word_met rules [] ended idle 2 w here).0 (word_met rules [] ended idle 2 w here).1) none).1 in
      let bad : kind.UnknownArgument ∷ [] ≡ [] = sym (ap (λ (m : Held × Step). step_fault top 2 m.0 m.1) meets) ∙ stray in
      absurd (cc)

-- the settling that the command's word needs
pub fault_command : (us : List Part) (p : Option Part) (w : Text) (ended : Bool) → word_met rules [] ended idle 1 w (held (map row us) (pend p)) ≡ (held (map row us) (pend p), value)
    → (words : List Text) → fault_from (at us p false ended) (w ∷ words) ≡ [] → settle_fault rules false (held (map row us) (pend p)) ≡ []
unfolding walk_fault
fault_command us p w ended meets words e =
    let here = held (map row us) (pend p) in
    let none : or_else (word_fault top [] ended idle w here) (step_fault top 1 (word_met rules [] ended idle 1 w here).0 (word_met rules [] ended idle 1 w here).1) ≡ [] =
    (fault_turn (at us p false ended) w words e).0 in
    let one = (or_parts _ _ none).1 in
    go (is_pending (rule the_command) (pend p)) (sym (ap (λ (m : Held × Step). step_fault top 1 m.0 m.1) meets) ∙ one)
  where
    go : (b : Bool) → cond (b && false) [] (settle_fault rules false (held (map row us) (pend p))) ≡ [] → settle_fault rules false (held (map row us) (pend p)) ≡ []
    go true h = h
    go false h = h

-- ---- turns where an option waits

module _ (us : List Part) (n : Name) (placed : Bool) where
  abbrev waited : Held
  waited = held (map row us) (Some (id_of (kind_of n), []))

  pub turn_text : (w : Text) → Looks bare w → Goes (waits_for us n placed) w (at us (Some (part (kind_of n) w)) placed false) []
  unfolding walked
  turn_text w looks = (
    ap₂ (λ f (m : Held × Step). or_else f (step_fault top (place placed) m.0 m.1)) (looks.1 (option (id_of (kind_of n))) (map row us) (Some (id_of (kind_of n), [])))
        (looks.0 (option (id_of (kind_of n))) (place placed) (map row us) (Some (id_of (kind_of n), []))),
    ap (λ (m : Held × Step). after_step rules w (waits_for us n placed) m.0 m.1) (looks.0 (option (id_of (kind_of n))) (place placed) (map row us) (Some (id_of (kind_of n), []))) ∙ go n,
  )
    where
      go : (m : Name) → after_step rules w (waits_for us m placed) (plain_word rules (option (id_of (kind_of m))) w (held (map row us) (Some (id_of (kind_of m), [])))).0 (plain_word rules (option (id_of (kind_of m))) w (held (map row us) (Some (id_of (kind_of m), [])))).1
          ≡ at us (Some (part (kind_of m) w)) placed false
      go inline = refl
      go block = refl
      go number = refl

  -- the fault of a word's own
  word_of : (w : Text) (words : List Text) → fault_from (waits_for us n placed) (w ∷ words) ≡ [] → word_fault top [] false (option (id_of (kind_of n))) w waited ≡ []
  unfolding walk_fault
  word_of w words e = (or_parts _ _ (fault_turn (waits_for us n placed) w words e).0).0

  pub stuck_end : fault_from (waits_for us n placed) [] ≡ [] → ⊥
  stuck_end e = unsettled (kind_of n) (map row us) (fault_end (waits_for us n placed) e)

  pub stuck_bad : (w : Text) → Looks bad w → (words : List Text) → fault_from (waits_for us n placed) (w ∷ words) ≡ [] → ⊥
  stuck_bad w looks words e =
      let bad : kind.UnknownArgument ∷ [] ≡ [] = sym (looks (option (id_of (kind_of n))) (map row us) (Some (id_of (kind_of n), []))) ∙ word_of w words e in
      absurd (cc)

  pub stuck_named : (w : Text) (m : Name) (v : Option Text) → Looks (named m v) w → (words : List Text) → fault_from (waits_for us n placed) (w ∷ words) ≡ [] → ⊥
  stuck_named w m None looks words e =
      unsettled (kind_of n) (map row us) (sym (looks.1 (option (id_of (kind_of n))) (map row us) (Some (id_of (kind_of n), []))) ∙ word_of w words e)
  stuck_named w m (Some t) looks words e =
      unsettled (kind_of n) (map row us) (or_parts _ _ (sym (looks.1 (option (id_of (kind_of n))) (map row us) (Some (id_of (kind_of n), []))) ∙ word_of w words e)).0

  -- `--` in place of the value
  pub stuck_ending : (w : Text) → Looks ending w → (words : List Text) → fault_from (waits_for us n placed) (w ∷ words) ≡ [] → ⊥
  unfolding walked
  stuck_ending w looks words e = go words (subst (λ (u : Walk). fault_from u words ≡ []) turned (fault_turn (waits_for us n placed) w words e).1)
    where
      turned : walked rules [] (waits_for us n placed) w ≡ record (waits_for us n placed) { is_trailing = true }
      turned = ap (λ (m : Held × Step). after_step rules w (waits_for us n placed) m.0 m.1) (looks.0 (option (id_of (kind_of n))) (place placed) (map row us) (Some (id_of (kind_of n), [])))

      last : (b : Bool) → cond (b && false) [] (settle_fault rules false (held (map row us) (Some (id_of (kind_of n), [])))) ≡ [] → ⊥
      last true g = unsettled (kind_of n) (map row us) g
      last false g = unsettled (kind_of n) (map row us) g

      behind : (b : Bool) (x : Text) → turn_fault top [] (record (waits_for us n b) { is_trailing = true }) x ≡ [] → ⊥
      behind true x f = let bad : kind.UnknownArgument ∷ [] ≡ [] = f in absurd (cc)
      behind false x f = last (is_pending (rule the_command) (Some (id_of (kind_of n), []))) f

      go : (ws : List Text) → fault_from (record (waits_for us n placed) { is_trailing = true }) ws ≡ [] → ⊥
      go [] h = unsettled (kind_of n) (map row us) (fault_end (record (waits_for us n placed) { is_trailing = true }) h)
      go (x ∷ xs) h = behind placed x (fault_turn (record (waits_for us n placed) { is_trailing = true }) x xs h).0
