-- One step of `clap`'s walk over the words, at the command that this crate has.
use Rattle.std.proofs.Common.{◌≡◌, refl, sym, ap, ◌∙◌, arith, ◌≤◌, Bool, true, false, cond, ◌&&◌, ◌||◌, List, [], ◌∷◌, ◌++◌, map, length, Option, Some, None, append-nil, length-append, codes}
use Rattle.std.specs.Prelude.{filter, bytes_eq}
use Rattle.std.specs.Option.{option_map_or}
use Rattle.std.proofs.lemmas.List.{map-append}
use Rattle.clap.specs.Walk.{Held, Row, Rule, Text, arg_by_id, at_row, has_row, more_values, settled, used, used_by_id, with_values, without}
use Rattle.clap.specs.Kinds.{or_else}
use Rattle.clap.specs.Simple.{Shape, built, filled, with_index}
use Rattle.clap.specs.Faults.{settle_fault, use_fault}
use Rattle.clap.specs.Words.{new_rule}
use Rattle.clap.specs.declared.error.kind.ErrorKind.TheVariants as kind
use Rattle.clap.specs.declared.parser.matches.ValueSource.TheVariants.{CommandLine}
use Rattle.clap.specs.declared.builder.value_parser.Reading.TheVariants.{AsWritten}
use Rattle.command_line.specs.Command.{Kind, the_command, view_inline, view_block, count, Part, is_kind, given}
use Rattle.command_line.specs.Reading.{command_line, option_rule}

-- ---- the command

abbrev pub top : Shape
top = (built command_line).top

abbrev pub rules : List Rule
rules = top.rules

abbrev pub id_of : Kind → Text
id_of the_command = codes "command"
id_of view_inline = codes "view-inline"
id_of view_block = codes "view-block"
id_of count = codes "count"

abbrev pub rule : Kind → Rule
rule the_command = with_index 1 (filled (record (new_rule (codes "command")) { required = true }))
rule view_inline = with_index 2 (filled (option_rule (codes "view-inline")))
rule view_block = with_index 2 (filled (option_rule (codes "view-block")))
rule count = with_index 2 (filled (option_rule (codes "count")))

pub by_id : (k : Kind) → arg_by_id rules (id_of k) ≡ Some (rule k)
by_id the_command = refl
by_id view_inline = refl
by_id view_block = refl
by_id count = refl

pub same_id : (k j : Kind) → bytes_eq (id_of j) (id_of k) ≡ is_kind k j
same_id the_command the_command = refl
same_id the_command view_inline = refl
same_id the_command view_block = refl
same_id the_command count = refl
same_id view_inline the_command = refl
same_id view_inline view_inline = refl
same_id view_inline view_block = refl
same_id view_inline count = refl
same_id view_block the_command = refl
same_id view_block view_inline = refl
same_id view_block view_block = refl
same_id view_block count = refl
same_id count the_command = refl
same_id count view_inline = refl
same_id count view_block = refl
same_id count count = refl

-- ---- rows

-- the row of a part
abbrev pub row : Part → Row
row p = record { id = id_of p.kind; values = p.text ∷ []; count = None; source = Some CommandLine; reading = AsWritten }

abbrev pub part : Kind → Text → Part
part k t = record { kind = k; text = t }

abbrev pub has_some : {X : Type 0} → List X → Bool
has_some [] = false
has_some (x ∷ xs) = true

pub has_given : (k : Kind) (ps : List Part) → has_row (id_of k) (map row ps) ≡ has_some (given k ps)
has_given k [] = refl
has_given k (p ∷ ps) =
    let before = has_given k ps in
    ap (λ (b : Bool). b || has_row (id_of k) (map row ps)) (same_id k p.kind)
    ∙ elim (is_kind k p.kind) as (λ (b : Bool). (b || has_row (id_of k) (map row ps)) ≡ has_some (map (λ (q : Part). q.text) (cond b (p ∷ filter (λ (q : Part). is_kind k q.kind) ps) (filter (λ (q : Part). is_kind k q.kind) ps))))
    [ true ↦ refl | false ↦ before ]

fresh_row : (id : Text) (change : Row → List Row) (missing rows : List Row) → has_row id rows ≡ false → at_row id change missing rows ≡ rows ++ missing
fresh_row id change missing [] e = refl
fresh_row id change missing (r ∷ rs) e = go (bytes_eq r.id id) refl (λ later. fresh_row id change missing rs later)
  where
    go : (b : Bool) → bytes_eq r.id id ≡ b → (has_row id rs ≡ false → at_row id change missing rs ≡ rs ++ missing)
        → at_row id change missing (r ∷ rs) ≡ r ∷ (rs ++ missing)
    go true is before = let bad : true ≡ false = ap (λ (b : Bool). b || has_row id rs) (sym is) ∙ e in absurd (cc)
    go false is before =
        ap (λ (b : Bool). cond b (change r ++ rs) (r ∷ at_row id change missing rs)) is
        ∙ ap (λ (more : List Row). r ∷ more) (before (ap (λ (b : Bool). b || has_row id rs) (sym is) ∙ e))

-- a part that is used for the first time puts its row last
pub used_is : (k : Kind) (t : Text) (rows : List Row) → has_row (id_of k) rows ≡ false → used (rule k) (t ∷ []) rows ≡ rows ++ row (part k t) ∷ []
used_is k t rows new = go k t ∙ ap (with_values (id_of k) AsWritten CommandLine (t ∷ [])) (fresh_row (id_of k) (λ _. []) [] rows new ∙ append-nil rows) ∙ fresh_row (id_of k) (more_values CommandLine (t ∷ [])) (row (part k t) ∷ []) rows new
  where
    go : (k : Kind) (t : Text) → used (rule k) (t ∷ []) rows ≡ with_values (id_of k) AsWritten CommandLine (t ∷ []) (without (id_of k) rows)
    go the_command t = refl
    go view_inline t = refl
    go view_block t = refl
    go count t = refl

-- a part may be used once
pub use_is : (k : Kind) (t : Text) (rows : List Row) → use_fault false (rule k) (t ∷ []) rows ≡ cond (has_row (id_of k) rows) (kind.ArgumentConflict ∷ []) []
use_is k t rows = go k t
  where
    go : (k : Kind) (t : Text) → use_fault false (rule k) (t ∷ []) rows ≡ cond (has_row (id_of k) rows) (kind.ArgumentConflict ∷ []) []
    go the_command t = elim (has_row (id_of the_command) rows) as (λ b. or_else (cond (b && true) (kind.ArgumentConflict ∷ []) []) [] ≡ cond b (kind.ArgumentConflict ∷ []) []) [ true ↦ refl | false ↦ refl ]
    go view_inline t = elim (has_row (id_of view_inline) rows) as (λ b. or_else (cond (b && true) (kind.ArgumentConflict ∷ []) []) [] ≡ cond b (kind.ArgumentConflict ∷ []) []) [ true ↦ refl | false ↦ refl ]
    go view_block t = elim (has_row (id_of view_block) rows) as (λ b. or_else (cond (b && true) (kind.ArgumentConflict ∷ []) []) [] ≡ cond b (kind.ArgumentConflict ∷ []) []) [ true ↦ refl | false ↦ refl ]
    go count t = elim (has_row (id_of count) rows) as (λ b. or_else (cond (b && true) (kind.ArgumentConflict ∷ []) []) [] ≡ cond b (kind.ArgumentConflict ∷ []) []) [ true ↦ refl | false ↦ refl ]

-- ---- what is held between two words

abbrev pub Pending : Type 0
Pending = Option (Text × List Text)

abbrev pub held : List Row → Pending → Held
held rows pending = record { rows = rows; pending = pending; skip = 0 }

abbrev pub pend : Option Part → Pending
pend None = None
pend (Some p) = Some (id_of p.kind, p.text ∷ [])

-- the parts that were read, with the one that is pending
abbrev pub all : List Part → Option Part → List Part
all us None = us
all us (Some p) = us ++ p ∷ []

-- each part is given at most once
abbrev pub Once : List Part → Type 0
Once us = (k : Kind) → length (given k us) ≤ 1

pub given_append : (k : Kind) (us ps : List Part) → given k (us ++ ps) ≡ given k us ++ given k ps
given_append k [] ps = refl
given_append k (u ∷ us) ps =
    let before = given_append k us ps in
    elim (is_kind k u.kind) as (λ (b : Bool). map (λ (q : Part). q.text) (cond b (u ∷ filter (λ (q : Part). is_kind k q.kind) (us ++ ps)) (filter (λ (q : Part). is_kind k q.kind) (us ++ ps)))
    ≡ map (λ (q : Part). q.text) (cond b (u ∷ filter (λ (q : Part). is_kind k q.kind) us) (filter (λ (q : Part). is_kind k q.kind) us)) ++ given k ps)
    [ true ↦ ap (λ (more : List Text). u.text ∷ more) before | false ↦ before ]

pub same_kind : (k : Kind) → is_kind k k ≡ true
same_kind the_command = refl
same_kind view_inline = refl
same_kind view_block = refl
same_kind count = refl

pub is_same : (k j : Kind) → is_kind k j ≡ true → k ≡ j
is_same the_command the_command e = refl
is_same the_command view_inline e = absurd (cc)
is_same the_command view_block e = absurd (cc)
is_same the_command count e = absurd (cc)
is_same view_inline the_command e = absurd (cc)
is_same view_inline view_inline e = refl
is_same view_inline view_block e = absurd (cc)
is_same view_inline count e = absurd (cc)
is_same view_block the_command e = absurd (cc)
is_same view_block view_inline e = absurd (cc)
is_same view_block view_block e = refl
is_same view_block count e = absurd (cc)
is_same count the_command e = absurd (cc)
is_same count view_inline e = absurd (cc)
is_same count view_block e = absurd (cc)
is_same count count e = refl

pub given_own : (p : Part) (ps : List Part) → given p.kind (p ∷ ps) ≡ p.text ∷ given p.kind ps
given_own p ps = ap (λ (b : Bool). map (λ (q : Part). q.text) (cond b (p ∷ filter (λ (q : Part). is_kind p.kind q.kind) ps) (filter (λ (q : Part). is_kind p.kind q.kind) ps))) (same_kind p.kind)

pub given_other : (k : Kind) (p : Part) (ps : List Part) → is_kind k p.kind ≡ false → given k (p ∷ ps) ≡ given k ps
given_other k p ps e = ap (λ (b : Bool). map (λ (q : Part). q.text) (cond b (p ∷ filter (λ (q : Part). is_kind k q.kind) ps) (filter (λ (q : Part). is_kind k q.kind) ps))) e

-- ---- settling what is pending

settle_of : (k : Kind) (t : Text) (rows : List Row) → settle_fault rules false (held rows (Some (id_of k, t ∷ []))) ≡ use_fault false (rule k) (t ∷ []) rows
settle_of k t rows = ap (λ (o : Option Rule). option_map_or (λ a. use_fault false a (t ∷ []) rows) o []) (by_id k)

settled_of : (k : Kind) (t : Text) (rows : List Row) → settled rules (held rows (Some (id_of k, t ∷ []))) ≡ held (used (rule k) (t ∷ []) rows) None
settled_of k t rows = ap (λ (o : Option Rule). held (used_by_id o (t ∷ []) rows) None) (by_id k)

-- an option that waits for its value is refused
pub unsettled : (k : Kind) (rows : List Row) → settle_fault rules false (held rows (Some (id_of k, []))) ≡ [] → ⊥
unsettled the_command rows e = absurd (cc)
unsettled view_inline rows e = absurd (cc)
unsettled view_block rows e = absurd (cc)
unsettled count rows e = absurd (cc)

-- ---- settling, once over

module _ (us : List Part) (once : Once us) where
  pub none_before : (p : Part) → Once (us ++ p ∷ []) → has_row (id_of p.kind) (map row us) ≡ false
  none_before p later = has_given p.kind us ∙ go (given p.kind us) (sym (ap length (given_append p.kind us (p ∷ []) ∙ ap (λ (more : List Text). given p.kind us ++ more) (given_own p []))))
    where
      go : (ts : List Text) → length (ts ++ p.text ∷ []) ≡ length (given p.kind (us ++ p ∷ [])) → has_some ts ≡ false
      go [] e = refl
      go (t ∷ ts) e =
          let most = later p.kind in
          let more = length-append ts (p.text ∷ []) in
          absurd (omega (arith, e, most, more))

  pub settles : (p : Option Part) → Once (all us p) → settle_fault rules false (held (map row us) (pend p)) ≡ []
  settles None later = refl
  settles (Some p) later =
      settle_of p.kind p.text (map row us) ∙ use_is p.kind p.text (map row us)
      ∙ ap (λ (b : Bool). cond b (kind.ArgumentConflict ∷ []) []) (none_before p later)

  pub settled_to : (p : Option Part) → Once (all us p) → settled rules (held (map row us) (pend p)) ≡ held (map row (all us p)) None
  settled_to None later = refl
  settled_to (Some p) later =
      settled_of p.kind p.text (map row us)
      ∙ ap (λ (rows : List Row). held rows None) (used_is p.kind p.text (map row us) (none_before p later) ∙ sym (map-append row us (p ∷ [])))

  -- what settles without a fault is given once
  once_more : (p : Part) → has_row (id_of p.kind) (map row us) ≡ false → Once (us ++ p ∷ [])
  once_more p new k = go (is_kind k p.kind) refl
    where
      none : (ts : List Text) → has_some ts ≡ false → ts ≡ []
      none [] e = refl
      none (t ∷ ts) e = absurd (cc)

      go : (b : Bool) → is_kind k p.kind ≡ b → length (given k (us ++ p ∷ [])) ≤ 1
      go true is =
          let same = is_same k p.kind is in
          let before : given k us ≡ [] = ap (λ (j : Kind). given j us) same ∙ none (given p.kind us) (sym (has_given p.kind us) ∙ new) in
          let whole : given k (us ++ p ∷ []) ≡ given k (p ∷ []) = given_append k us (p ∷ []) ∙ ap (λ (ts : List Text). ts ++ given k (p ∷ [])) before in
          let own : given k (p ∷ []) ≡ p.text ∷ [] = ap (λ (j : Kind). given j (p ∷ [])) same ∙ given_own p [] in
          let size = ap length (whole ∙ own) in
          omega (arith, size)
      go false is =
          let whole = ap length (given_append k us (p ∷ []) ∙ ap (λ (ts : List Text). given k us ++ ts) (given_other k p [] is) ∙ append-nil (given k us)) in
          let before = once k in
          omega (arith, whole, before)

  pub settles_once : (p : Option Part) → settle_fault rules false (held (map row us) (pend p)) ≡ [] → Once (all us p)
  settles_once None e = once
  settles_once (Some p) e = once_more p (new (has_row (id_of p.kind) (map row us)) (sym (use_is p.kind p.text (map row us)) ∙ sym (settle_of p.kind p.text (map row us)) ∙ e))
    where
      new : (b : Bool) → cond b (kind.ArgumentConflict ∷ []) [] ≡ [] → b ≡ false
      new true e = absurd (cc)
      new false e = refl

  -- a part that is used beside them
  pub uses : (p : Part) → Once (us ++ p ∷ []) → use_fault false (rule p.kind) (p.text ∷ []) (map row us) ≡ []
  uses p later = use_is p.kind p.text (map row us) ∙ ap (λ (b : Bool). cond b (kind.ArgumentConflict ∷ []) []) (none_before p later)

  pub used_to : (p : Part) → Once (us ++ p ∷ []) → used (rule p.kind) (p.text ∷ []) (map row us) ≡ map row (us ++ p ∷ [])
  used_to p later = used_is p.kind p.text (map row us) (none_before p later) ∙ sym (map-append row us (p ∷ []))

  pub uses_once : (p : Part) → use_fault false (rule p.kind) (p.text ∷ []) (map row us) ≡ [] → Once (us ++ p ∷ [])
  uses_once p e = settles_once (Some p) (settle_of p.kind p.text (map row us) ∙ e)

-- what is given once is given once at the front
pub once_front : (us ps : List Part) → Once (us ++ ps) → Once us
once_front us ps once k =
    let whole = ap length (given_append k us ps) in
    let two = length-append (given k us) (given k ps) in
    let most = once k in
    omega (arith, whole, two, most)
