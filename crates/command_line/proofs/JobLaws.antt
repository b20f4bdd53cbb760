-- The definition of a command line and its reading agree.
use Rattle.std.proofs.Common.{◌≡◌, refl, sym, ap, ap₂, ◌∙◌, subst, arith, ℕ, ◌≤◌, ◌==◌, Bool, true, false, not, cond, ◌||◌, List, [], ◌∷◌, map, length, fold, Option, Some, None, is_some, ne_eqb, ℤ, codes}
use Rattle.std.proofs.lemmas.Int.{ints}
use Rattle.wm_units.specs.View.{IsView}
use Rattle.std.specs.Prelude.{pos, ◌≤ℤ◌, ◌^◌, ⊤, bytes_eq, filter, find, option_and_then, slice_get}
use Rattle.std.specs.Option.{option_map_or}
use Rattle.std.proofs.lemmas.Option.{same_Some}
use Rattle.basic_laws.proofs.Booleans.{cond_same}
use Rattle.clap.specs.Facts.{explicit_source}
use Rattle.clap.specs.Kinds.{Kinds, check_kinds, or_else}
use Rattle.clap.specs.Faults.{check_fault, default_fault, defaults_fault, entered_fault, fault_of, level_fault, settle_fault, walk_fault}
use Rattle.clap.specs.Simple.{built, entered, matches_of}
use Rattle.clap.specs.Takes.{is_given}
use Rattle.clap.specs.Walk.{Row, Rule, Text, finished, first_of, has_row, nothing_held, settled, walk, with_default}
use Rattle.command_line.specs.declared.job.Command.{Command}
use Rattle.command_line.specs.declared.job.Job.{Job}
use Rattle.command_line.specs.Command.{IsJob, IsNumberTo, IsValue, IsViewSize, Kind, Part, command_name, count, given, is_kind, px, the_command, view_block, view_inline}
use Rattle.command_line.specs.Reading.{block_of, command_line, command_of, count_of, inline_of, job_in, job_of, job_with, number_to, size_of}
use Rattle.command_line.proofs.Walking.{Once, given_other, given_own, has_some, id_of, is_same, row, rule, rules, same_id, top}
use Rattle.command_line.proofs.Looking.{Looks, bare}
use Rattle.command_line.proofs.Turns.{at, fault_from, or_both, or_parts, rows_from}
use Rattle.command_line.proofs.Lines.{AllBare, Found, complete, sound}
use Rattle.command_line.proofs.ValueLaws.{name_again, name_bare, name_takes, number_again, number_bare, number_takes, size_again, size_takes, value_again, value_once, value_takes}

-- ---- `clap`'s whole reading is its walk

either : (b : Bool) (faults : Kinds) → cond (b || true) [] faults ≡ []
either true faults = refl
either false faults = refl

-- no argument has a value of its own
one_default : (k : Kind) (rows : List Row) → (default_fault rows (rule k) ≡ []) × (with_default rows (rule k) ≡ rows)
one_default the_command rows = (either (has_row (id_of the_command) rows) _, cond_same (has_row (id_of the_command) rows) rows)
one_default view_inline rows = (either (has_row (id_of view_inline) rows) _, cond_same (has_row (id_of view_inline) rows) rows)
one_default view_block rows = (either (has_row (id_of view_block) rows) _, cond_same (has_row (id_of view_block) rows) rows)
one_default count rows = (either (has_row (id_of count) rows) _, cond_same (has_row (id_of count) rows) rows)

next_default : (k : Kind) (rest : List Rule) (rows : List Row) → defaults_fault rows (rule k ∷ rest) ≡ defaults_fault rows rest
unfolding defaults_fault
next_default k rest rows = ap₂ (λ f r. or_else f (defaults_fault r rest)) (one_default k rows).0 (one_default k rows).1

no_defaults : (rows : List Row) → defaults_fault rows rules ≡ []
unfolding defaults_fault
no_defaults rows =
    next_default the_command (rule view_inline ∷ rule view_block ∷ rule count ∷ []) rows
    ∙ next_default view_inline (rule view_block ∷ rule count ∷ []) rows
    ∙ next_default view_block (rule count ∷ []) rows ∙ next_default count [] rows

defaults_stay : (rows : List Row) → fold with_default rows rules ≡ rows
defaults_stay rows =
    ap (λ r. with_default (with_default (with_default r (rule view_inline)) (rule view_block)) (rule count)) (one_default the_command rows).1
    ∙ ap (λ r. with_default (with_default r (rule view_block)) (rule count)) (one_default view_inline rows).1
    ∙ ap (λ r. with_default r (rule count)) (one_default view_block rows).1 ∙ (one_default count rows).1

rows_are : (words : List (List ℕ)) → matches_of command_line words ≡ rows_from (at [] None false false) words
rows_are words = defaults_stay (rows_from (at [] None false false) words)

-- the last checks: the command is there
fault_whole : (words : List (List ℕ)) → fault_of command_line words
    ≡ or_else (walk_fault top [] (at [] None false false) words) (or_else (settle_fault rules false (walk rules [] nothing_held words).held)
    (or_else (defaults_fault (settled rules (walk rules [] nothing_held words).held).rows rules) (check_fault top (finished rules (walk rules [] nothing_held words).held) false)))
fault_whole words = go (walk rules [] nothing_held words).stopped
  where
    go : (stop : Option (Text × List Text)) → level_fault top [] nothing_held words (is_some (entered (built command_line) stop)) (entered_fault (built command_line) stop)
        ≡ level_fault top [] nothing_held words false []
    go None = refl
    go (Some x) = refl

no_fault : (words : List (List ℕ)) → fault_of command_line words ≡ [] → fault_from (at [] None false false) words ≡ []
no_fault words e =
    let walking = walk_fault top [] (at [] None false false) words in
    let settling = settle_fault rules false (walk rules [] nothing_held words).held in
    let ending = or_else (defaults_fault (settled rules (walk rules [] nothing_held words).held).rows rules) (check_fault top (finished rules (walk rules [] nothing_held words).held) false) in
    let first = or_parts walking (or_else settling ending) (sym (fault_whole words) ∙ e) in
    or_both walking settling first.0 (or_parts settling ending first.1).0

given_passes : (words : List (List ℕ)) → is_given (codes "command") (finished rules (walk rules [] nothing_held words).held) ≡ true
    → check_fault top (finished rules (walk rules [] nothing_held words).held) false ≡ []
given_passes words e = ap (λ (b : Bool). check_kinds false false (not b || false)) e

fault_back : (words : List (List ℕ)) → fault_from (at [] None false false) words ≡ [] → is_given (codes "command") (matches_of command_line words) ≡ true → fault_of command_line words ≡ []
fault_back words e is =
    let both = or_parts _ _ e in
    fault_whole words ∙ or_both _ _ both.0 (or_both _ _ both.1 (or_both _ _ (no_defaults _) (given_passes words is)))

-- ---- what rows say of their parts

first_given : (k : Kind) (ps : List Part) → first_of (id_of k) (map row ps) ≡ slice_get (given k ps) 0
first_given k [] = refl
first_given k (p ∷ ps) =
    let before = first_given k ps in
    ap (λ (b : Bool). option_and_then (λ (r : Row). slice_get r.values 0) (cond b (Some (row p)) (find (λ (r : Row). bytes_eq r.id (id_of k)) (map row ps)))) (same_id k p.kind)
    ∙ elim (is_kind k p.kind) as (λ (b : Bool). option_and_then (λ (r : Row). slice_get r.values 0) (cond b (Some (row p)) (find (λ (r : Row). bytes_eq r.id (id_of k)) (map row ps)))
    ≡ slice_get (map (λ (q : Part). q.text) (cond b (p ∷ filter (λ (q : Part). is_kind k q.kind) ps) (filter (λ (q : Part). is_kind k q.kind) ps))) 0)
    [ true ↦ refl | false ↦ before ]

command_given : (k : Kind) (ps : List Part) → is_given (id_of k) (map row ps) ≡ has_some (given k ps)
command_given k [] = refl
command_given k (p ∷ ps) =
    let before = command_given k ps in
    ap (λ (b : Bool). option_map_or (λ (r : Row). explicit_source r.source) (cond b (Some (row p)) (find (λ (r : Row). bytes_eq r.id (id_of k)) (map row ps))) false) (same_id k p.kind)
    ∙ elim (is_kind k p.kind) as (λ (b : Bool). option_map_or (λ (r : Row). explicit_source r.source) (cond b (Some (row p)) (find (λ (r : Row). bytes_eq r.id (id_of k)) (map row ps))) false
    ≡ has_some (map (λ (q : Part). q.text) (cond b (p ∷ filter (λ (q : Part). is_kind k q.kind) ps) (filter (λ (q : Part). is_kind k q.kind) ps))))
    [ true ↦ refl | false ↦ before ]

-- the job of the texts that are given
abbrev job_given : List Part → Option Job
job_given ps = job_with (option_and_then command_of (slice_get (given the_command ps) 0)) (inline_of (slice_get (given view_inline ps) 0))
    (block_of (slice_get (given view_block ps) 0)) (count_of (slice_get (given count ps) 0))

job_in_is : (ps : List Part) → job_in (map row ps) ≡ job_given ps
job_in_is ps =
    ap (λ o. job_with (option_and_then command_of o) (inline_of (first_of (id_of view_inline) (map row ps))) (block_of (first_of (id_of view_block) (map row ps))) (count_of (first_of (id_of count) (map row ps)))) (first_given the_command ps)
    ∙ ap (λ o. job_with (option_and_then command_of (slice_get (given the_command ps) 0)) (inline_of o) (block_of (first_of (id_of view_block) (map row ps))) (count_of (first_of (id_of count) (map row ps)))) (first_given view_inline ps)
    ∙ ap (λ o. job_with (option_and_then command_of (slice_get (given the_command ps) 0)) (inline_of (slice_get (given view_inline ps) 0)) (block_of o) (count_of (first_of (id_of count) (map row ps)))) (first_given view_block ps)
    ∙ ap (λ o. job_with (option_and_then command_of (slice_get (given the_command ps) 0)) (inline_of (slice_get (given view_inline ps) 0)) (block_of (slice_get (given view_block ps) 0)) (count_of o)) (first_given count ps)

-- ---- from the definition to the reading

abbrev AllText : List Text → Type 0
AllText [] = ⊤
AllText (t ∷ ts) = Looks bare t × AllText ts

all_bare : (ps : List Part) → ((k : Kind) → AllText (given k ps)) → AllBare ps
all_bare [] each = tt
all_bare (p ∷ ps) each =
    let own = subst AllText (given_own p ps) (each p.kind) in
    (own.0, all_bare ps (λ k. fewer k (is_kind k p.kind) refl own.1))
  where
    fewer : (k : Kind) (b : Bool) → is_kind k p.kind ≡ b → AllText (given p.kind ps) → AllText (given k ps)
    fewer k true is own = subst (λ j. AllText (given j ps)) (sym (is_same k p.kind is)) own
    fewer k false is own = subst AllText (given_other k p ps is) (each k)

value_bare : {X : Type 0} (Means : Text → X → Type 0) (default : X) → ((t : Text) (x : X) → Means t x → Looks bare t)
    → (ts : List Text) (x : X) → IsValue Means default ts x → AllText ts
value_bare Means default looks [] x is = tt
value_bare Means default looks (t ∷ []) x is = (looks t x is, tt)
value_bare Means default looks (t ∷ u ∷ more) x is = absurd is

module _ (words : List (List ℕ)) (job : Job) (is : IsJob words job) where
  once_of : Once is.parts
  once_of the_command = let one = ap length is.command in omega (arith, one)
  once_of view_inline = value_once IsViewSize size_of (px 800) (given view_inline is.parts) job.view.inline is.inline
  once_of view_block = value_once IsViewSize size_of (px 600) (given view_block is.parts) job.view.block is.block
  once_of count = value_once (IsNumberTo 1000) (number_to 1000) 100 (given count is.parts) job.count is.count

  bare_of : (k : Kind) → AllText (given k is.parts)
  bare_of the_command = subst AllText (sym is.command) (name_bare job.command, tt)
  bare_of view_inline = value_bare IsViewSize (px 800) (λ t x size. number_bare 16384 t size.0 size.1) (given view_inline is.parts) job.view.inline is.inline
  bare_of view_block = value_bare IsViewSize (px 600) (λ t x size. number_bare 16384 t size.0 size.1) (given view_block is.parts) job.view.block is.block
  bare_of count = value_bare (IsNumberTo 1000) 100 (number_bare 1000) (given count is.parts) job.count is.count

  job_is_given : job_given is.parts ≡ Some job
  job_is_given =
      ap (λ ts. job_with (option_and_then command_of (slice_get ts 0)) (inline_of (slice_get (given view_inline is.parts) 0)) (block_of (slice_get (given view_block is.parts) 0)) (count_of (slice_get (given count is.parts) 0))) is.command
      ∙ ap (λ c. job_with c (inline_of (slice_get (given view_inline is.parts) 0)) (block_of (slice_get (given view_block is.parts) 0)) (count_of (slice_get (given count is.parts) 0))) (name_again job.command)
      ∙ ap (λ i. job_with (Some job.command) i (block_of (slice_get (given view_block is.parts) 0)) (count_of (slice_get (given count is.parts) 0)))
      (value_again IsViewSize size_of (px 800) size_again (given view_inline is.parts) job.view.inline is.inline)
      ∙ ap (λ b. job_with (Some job.command) (Some job.view.inline) b (count_of (slice_get (given count is.parts) 0)))
      (value_again IsViewSize size_of (px 600) size_again (given view_block is.parts) job.view.block is.block)
      ∙ ap (λ n. job_with (Some job.command) (Some job.view.inline) (Some job.view.block) n)
      (value_again (IsNumberTo 1000) (number_to 1000) 100 (number_again 1000) (given count is.parts) job.count is.count)

  pub read_again : job_of words ≡ Some job
  read_again =
      let pass = complete is.parts words [] None false is.line (all_bare is.parts bare_of) (λ k. omega arith) once_of (λ placed. absurd (cc)) in
      let rows = rows_are words ∙ pass.1 in
      let there = ap (is_given (codes "command")) rows ∙ command_given the_command is.parts ∙ ap has_some is.command in
      let none = fault_back words pass.0 there in
      ap (λ (faults : Kinds). cond (length faults == 0) (job_in (matches_of command_line words)) None) none
      ∙ ap job_in rows ∙ job_in_is is.parts ∙ job_is_given

-- ---- from the reading to the definition

record Values (command : Option Command) (inline block : Option ℤ) (number : Option ℕ) (job : Job) : Type 0 where
  command_is : command ≡ Some job.command
  inline_is : inline ≡ Some job.view.inline
  block_is : block ≡ Some job.view.block
  number_is : number ≡ Some job.count

values_of : (command : Option Command) (inline block : Option ℤ) (number : Option ℕ) (job : Job) → job_with command inline block number ≡ Some job → Values command inline block number job
values_of None inline block number job e = absurd (cc)
values_of (Some c) None block number job e = absurd (cc)
values_of (Some c) (Some i) None number job e = absurd (cc)
values_of (Some c) (Some i) (Some b) None job e = absurd (cc)
values_of (Some c) (Some i) (Some b) (Some n) job e =
    let same = same_Some _ _ e in
    record {
      command_is = ap (λ (j : Job). Some j.command) same;
      inline_is = ap (λ (j : Job). Some j.view.inline) same;
      block_is = ap (λ (j : Job). Some j.view.block) same;
      number_is = ap (λ (j : Job). Some j.count) same;
    }

command_takes : (ts : List Text) (c : Command) → length ts ≤ 1 → option_and_then command_of (slice_get ts 0) ≡ Some c → ts ≡ command_name c ∷ []
command_takes [] c few e = absurd (cc)
command_takes (t ∷ []) c few e = ap (λ (u : Text). u ∷ []) (name_takes t c e)
command_takes (t ∷ u ∷ more) c few e = absurd (omega (arith, few))

pub read_takes : (words : List (List ℕ)) (job : Job) → job_of words ≡ Some job → IsJob words job
read_takes words job e = go (fault_of command_line words) refl e
  where
    with_rows : Found [] words (rows_from (at [] None false false) words) → job_in (matches_of command_line words) ≡ Some job → IsJob words job
    with_rows found some =
        let ps = found.0 in
        let values = values_of _ _ _ _ job (sym (ap job_in (rows_are words ∙ found.2) ∙ job_in_is ps) ∙ some) in
        record {
          parts = ps;
          line = found.1;
          command = command_takes (given the_command ps) job.command (found.3 the_command) values.command_is;
          inline = value_takes IsViewSize size_of (px 800) size_takes (given view_inline ps) job.view.inline (found.3 view_inline) values.inline_is;
          block = value_takes IsViewSize size_of (px 600) size_takes (given view_block ps) job.view.block (found.3 view_block) values.block_is;
          count = value_takes (IsNumberTo 1000) (number_to 1000) 100 (number_takes 1000) (given count ps) job.count (found.3 count) values.number_is;
        }

    go : (faults : Kinds) → fault_of command_line words ≡ faults → cond (length (fault_of command_line words) == 0) (job_in (matches_of command_line words)) None ≡ Some job → IsJob words job
    go [] none some =
        with_rows (sound words [] None false (λ k. omega arith) (no_fault words none))
        (sym (ap (λ (f : Kinds). cond (length f == 0) (job_in (matches_of command_line words)) None) none) ∙ some)
    go (k ∷ ks) faults some =
        let bad : cond (length (k ∷ ks) == 0) (job_in (matches_of command_line words)) None ≡ Some job =
        sym (ap (λ (f : Kinds). cond (length f == 0) (job_in (matches_of command_line words)) None) faults) ∙ some in
        let test : (length (k ∷ ks) == 0) ≡ false = ne_eqb _ _ (λ h. omega arith) in
        let none : None ≡ Some job = sym (ap (λ (b : Bool). cond b (job_in (matches_of command_line words)) None) test) ∙ bad in
        absurd (cc)

-- words with a fault give no job
pub none_with_fault : (words : List (List ℕ)) (job : Job) → (fault_of command_line words ≡ [] → ⊥) → IsJob words job → ⊥
none_with_fault words job faulty is = go (fault_of command_line words) refl (read_again words job is)
  where
    go : (faults : Kinds) → fault_of command_line words ≡ faults → cond (length (fault_of command_line words) == 0) (job_in (matches_of command_line words)) None ≡ Some job → ⊥
    go [] none some = faulty none
    go (k ∷ ks) faults some =
        let test : (length (k ∷ ks) == 0) ≡ false = ne_eqb _ _ (λ h. omega arith) in
        let none : None ≡ Some job = sym (ap (λ (f : Kinds). cond (length f == 0) (job_in (matches_of command_line words)) None) faults ∙ ap (λ (b : Bool). cond b (job_in (matches_of command_line words)) None) test) ∙ some in
        absurd (cc)

-- a job is what its words are read as
pub job_is_read : (words : List (List ℕ)) (job : Job) → fault_of command_line words ≡ [] → job_in (matches_of command_line words) ≡ Some job → IsJob words job
job_is_read words job none some =
    read_takes words job (ap (λ (f : Kinds). cond (length f == 0) (job_in (matches_of command_line words)) None) none ∙ some)

pub job_is_none : (words : List (List ℕ)) (job : Job) → fault_of command_line words ≡ [] → job_in (matches_of command_line words) ≡ None → IsJob words job → ⊥
job_is_none words job none nothing is =
    let bad : None ≡ Some job = sym (ap (λ (f : Kinds). cond (length f == 0) (job_in (matches_of command_line words)) None) none ∙ nothing) ∙ read_again words job is in
    absurd (cc)

-- words give one job
pub one_job : (words : List (List ℕ)) (job other : Job) → IsJob words job → IsJob words other → other ≡ job
one_job words job other is also = same_Some other job (sym (read_again words other also) ∙ read_again words job is)

size_fits : (text : Text) (size : ℤ) → IsViewSize text size → (pos 0 ≤ℤ size) × (size ≤ℤ pos (2 ^ 32))
size_fits text size is =
    let most : is.0 ≤ 16384 = is.1.2 in
    let fits : (pos 0 ≤ℤ px is.0) × (px is.0 ≤ℤ pos (2 ^ 32)) = (omega (arith, ints), omega (arith, ints, most)) in
    subst (λ (z : ℤ). (pos 0 ≤ℤ z) × (z ≤ℤ pos (2 ^ 32))) (sym is.2) fits

value_fits : (default : ℕ) (ts : List Text) (size : ℤ) → default ≤ 16384 → IsValue IsViewSize (px default) ts size → (pos 0 ≤ℤ size) × (size ≤ℤ pos (2 ^ 32))
value_fits default [] size small is =
    let fits : (pos 0 ≤ℤ px default) × (px default ≤ℤ pos (2 ^ 32)) = (omega (arith, ints), omega (arith, ints, small)) in
    subst (λ (z : ℤ). (pos 0 ≤ℤ z) × (z ≤ℤ pos (2 ^ 32))) (sym is) fits
value_fits default (t ∷ []) size small is = size_fits t size is
value_fits default (t ∷ u ∷ more) size small is = absurd is

-- the sizes of a job's view, and its count, are in their bounds
pub job_view : (words : List (List ℕ)) (job : Job) → IsJob words job → IsView job.view
job_view words job is =
    let inline = value_fits 800 (given view_inline is.parts) job.view.inline (omega arith) is.inline in
    let block = value_fits 600 (given view_block is.parts) job.view.block (omega arith) is.block in
    record { inline_low = inline.0; inline_high = inline.1; block_low = block.0; block_high = block.1 }

pub job_count : (words : List (List ℕ)) (job : Job) → IsJob words job → (1 ≤ job.count) × (job.count ≤ 1000)
job_count words job is = go (given count is.parts) is.count
  where
    go : (ts : List Text) → IsValue (IsNumberTo 1000) 100 ts job.count → (1 ≤ job.count) × (job.count ≤ 1000)
    go [] h = (omega (arith, h), omega (arith, h))
    go (t ∷ []) h = (h.1, h.2)
    go (t ∷ u ∷ more) h = absurd h
