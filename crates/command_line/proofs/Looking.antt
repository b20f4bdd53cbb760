-- What a word looks like to `clap`, at the command that this crate has.
use Rattle.std.proofs.Common.{◌≡◌, refl, sym, ap, ap₂, ◌∙◌, subst, arith, ℕ, suc, ◌+◌, ◌==◌, Bool, true, false, not, cond, ◌&&◌, ◌||◌, [], ◌∷◌, ◌++◌, length, take, drop, Option, Some, None, eqb-true, codes}
use Rattle.std.specs.Prelude.{⊤, slice_get, bytes_eq, option_and_then}
use Rattle.std.specs.List.{position_or_len}
use Rattle.std.specs.Option.{option_map_or}
use Rattle.std.specs.Str.{chars}
use Rattle.std.proofs.lemmas.Slice.Eq.{bytes_eq-Decides}
use Rattle.clap.specs.Lexer.{long_of, long_of_rest, short_of, short_of_rest, strip_byte, name_and_value, has_byte}
use Rattle.clap.specs.Walk.{Held, Outcome, Rule, Step, Text, Waiting, idle, option, positional, trailing, value, plain, after_flag, arg_by_long, bundle, bundle_met, bundle_step, long_or_other, option_met, plain_word, short_or_plain, word_met}
use Rattle.clap.specs.Kinds.{Kinds}
use Rattle.clap.specs.Faults.{bundle_fault, bundle_step_fault, flag_word_fault, flags_fault, long_fault, option_fault, word_fault}
use Rattle.clap.specs.declared.error.kind.ErrorKind.TheVariants as kind
use Rattle.command_line.specs.Command.{Kind, view_inline, view_block, count}
use Rattle.command_line.proofs.Walking.{Pending, held, rule, rules, top}

-- ---- the options

pub data Name : Type 0 where
  inline : Name
  block : Name
  number : Name

abbrev pub kind_of : Name → Kind
kind_of inline = view_inline
kind_of block = view_block
kind_of number = count

abbrev pub long : Name → Text
long inline = codes "view-inline"
long block = codes "view-block"
long number = codes "count"

-- the name as it is written, and with a value
abbrev pub word : Name → Text
word inline = codes "--view-inline"
word block = codes "--view-block"
word number = codes "--count"

abbrev pub dashes : Text
dashes = codes "--"

-- ---- what a word may be

pub data Class : Type 0 where
  ending : Class
  named : Name → Option Text → Class
  bad : Class
  bare : Class

abbrev pub met_as : Class → Waiting → ℕ → Text → Held → Held × Step
met_as ending waiting position w h = (h, trailing position)
met_as (named n v) waiting position w h = after_flag rules waiting w (option_met rules (rule (kind_of n)) v h).0 (option_met rules (rule (kind_of n)) v h).1
met_as bad waiting position w h = (h, value)
met_as bare waiting position w h = plain_word rules waiting w h

abbrev pub fault_as : Class → Held → Kinds
fault_as ending h = []
fault_as (named n v) h = option_fault rules false (rule (kind_of n)) v h
fault_as bad h = kind.UnknownArgument ∷ []
fault_as bare h = []

abbrev pub Fails : Class → Text → Type 0
Fails c w = (waiting : Waiting) (rows : _) (pending : Pending) → word_fault top [] false waiting w (held rows pending) ≡ fault_as c (held rows pending)

abbrev pub MeetsHeld : Class → Text → Type 0
MeetsHeld c w = (waiting : Waiting) (position : ℕ) (rows : _) (pending : Pending) → word_met rules [] false waiting position w (held rows pending) ≡ met_as c waiting position w (held rows pending)

abbrev pub Looks : Class → Text → Type 0
Looks ending w = MeetsHeld ending w × Fails ending w
Looks (named n v) w = MeetsHeld (named n v) w × Fails (named n v) w
Looks bad w = Fails bad w
Looks bare w = MeetsHeld bare w × Fails bare w

abbrev pub Says : Class → Text → Type 0
Says ending w = w ≡ dashes
Says (named n None) w = w ≡ word n
Says (named n (Some t)) w = w ≡ word n ++ codes "=" ++ t
Says bad w = ⊤
Says bare w = ⊤

-- ---- words that are known

met_open : (waiting : Waiting) (position : ℕ) (w : Text) (h : Held)
    → word_met rules [] false waiting position w h ≡ cond (bytes_eq w dashes) (h, trailing position) (long_or_other rules waiting w (long_of w) h)
met_open idle position w h = refl
met_open (option id) position w h = refl
met_open positional position w h = refl

fault_open : (waiting : Waiting) (w : Text) (h : Held)
    → word_fault top [] false waiting w h ≡ cond (bytes_eq w dashes) [] (flag_word_fault rules false (long_of w) w h)
fault_open idle w h = refl
fault_open (option id) w h = refl
fault_open positional w h = refl

pub looks_ending : Looks ending dashes
looks_ending = (λ waiting position rows pending. met_open waiting position dashes (held rows pending), λ waiting rows pending. fault_open waiting dashes (held rows pending))

module _ (w : Text) (other : bytes_eq w dashes ≡ false) where
  met_flag : (waiting : Waiting) (position : ℕ) (h : Held) → word_met rules [] false waiting position w h ≡ long_or_other rules waiting w (long_of w) h
  met_flag waiting position h = met_open waiting position w h ∙ ap (λ (b : Bool). cond b (h, trailing position) (long_or_other rules waiting w (long_of w) h)) other

  fault_flag : (waiting : Waiting) (h : Held) → word_fault top [] false waiting w h ≡ flag_word_fault rules false (long_of w) w h
  fault_flag waiting h = fault_open waiting w h ∙ ap (λ (b : Bool). cond b [] (flag_word_fault rules false (long_of w) w h)) other

  met_short : long_of w ≡ None → (waiting : Waiting) (position : ℕ) (h : Held) → word_met rules [] false waiting position w h ≡ short_or_plain rules waiting w (short_of w) h
  met_short long waiting position h = met_flag waiting position h ∙ ap (λ o. long_or_other rules waiting w o h) long

  fault_short : long_of w ≡ None → (waiting : Waiting) (h : Held)
      → word_fault top [] false waiting w h ≡ option_map_or (λ flags. bundle_fault rules false flags h) (short_of w) []
  fault_short long waiting h = fault_flag waiting h ∙ ap (λ o. flag_word_fault rules false o w h) long

  pub looks_bare : long_of w ≡ None → short_of w ≡ None → Looks bare w
  looks_bare long short = (
    λ waiting position rows pending. met_short long waiting position (held rows pending) ∙ ap (λ o. short_or_plain rules waiting w o (held rows pending)) short,
    λ waiting rows pending. fault_short long waiting (held rows pending) ∙ ap (λ o. option_map_or (λ flags. bundle_fault rules false flags (held rows pending)) o []) short,
  )

  -- `-` with bytes behind it that are no character
  looks_no_flag : (x : ℕ) (xs : Text) → long_of w ≡ None → short_of w ≡ Some (x ∷ xs) → slice_get (chars (x ∷ xs)) 0 ≡ None → Looks bare w
  unfolding bundle_met flags_fault
  looks_no_flag x xs long short none = (
    λ waiting position rows pending. met_short long waiting position (held rows pending)
        ∙ ap (λ o. short_or_plain rules waiting w o (held rows pending)) short
        ∙ ap (λ (m : Held × Outcome). after_flag rules waiting w m.0 m.1) (bundled rows pending),
    λ waiting rows pending. fault_short long waiting (held rows pending)
        ∙ ap (λ o. option_map_or (λ flags. bundle_fault rules false flags (held rows pending)) o []) short ∙ faults rows pending,
  )
    where
      bundled : (rows : _) (pending : Pending) → bundle rules (x ∷ xs) (held rows pending) ≡ (held rows pending, plain)
      bundled rows pending = ap (λ o. bundle_step rules o (x ∷ xs) 0 plain (held rows pending) (bundle_met rules (length xs))) none

      faults : (rows : _) (pending : Pending) → bundle_fault rules false (x ∷ xs) (held rows pending) ≡ []
      faults rows pending = ap (λ o. bundle_step_fault rules false o (x ∷ xs) 0 (held rows pending) (flags_fault rules false (length xs))) none

  -- a short option, of which there are none
  looks_short : (x c : ℕ) (xs : Text) → long_of w ≡ None → short_of w ≡ Some (x ∷ xs) → slice_get (chars (x ∷ xs)) 0 ≡ Some c → Looks bad w
  unfolding flags_fault
  looks_short x c xs long short some waiting rows pending =
      fault_short long waiting (held rows pending)
      ∙ ap (λ o. option_map_or (λ flags. bundle_fault rules false flags (held rows pending)) o []) short ∙ faults
    where
      faults : bundle_fault rules false (x ∷ xs) (held rows pending) ≡ kind.UnknownArgument ∷ []
      faults = ap (λ o. bundle_step_fault rules false o (x ∷ xs) 0 (held rows pending) (flags_fault rules false (length xs))) some

  pub looks_named : (n : Name) (v : Option Text) → long_of w ≡ Some (long n, v) → Looks (named n v) w
  looks_named inline v is = (
    λ waiting position rows pending. met_flag waiting position (held rows pending) ∙ ap (λ o. long_or_other rules waiting w o (held rows pending)) is,
    λ waiting rows pending. fault_flag waiting (held rows pending) ∙ ap (λ o. flag_word_fault rules false o w (held rows pending)) is,
  )
  looks_named block v is = (
    λ waiting position rows pending. met_flag waiting position (held rows pending) ∙ ap (λ o. long_or_other rules waiting w o (held rows pending)) is,
    λ waiting rows pending. fault_flag waiting (held rows pending) ∙ ap (λ o. flag_word_fault rules false o w (held rows pending)) is,
  )
  looks_named number v is = (
    λ waiting position rows pending. met_flag waiting position (held rows pending) ∙ ap (λ o. long_or_other rules waiting w o (held rows pending)) is,
    λ waiting rows pending. fault_flag waiting (held rows pending) ∙ ap (λ o. flag_word_fault rules false o w (held rows pending)) is,
  )

  looks_unknown : (n : Text) (v : Option Text) → long_of w ≡ Some (n, v) → arg_by_long rules n ≡ None → Looks bad w
  looks_unknown n v is none waiting rows pending =
      fault_flag waiting (held rows pending) ∙ ap (λ o. flag_word_fault rules false o w (held rows pending)) is
      ∙ ap (λ o. long_fault rules false o v (held rows pending)) none

-- ---- any word

abbrev pub Seen : Text → Type 0
Seen w = (c : Class) × Looks c w × Says c w

-- what stands behind the name in a word
abbrev pub tail : Option Text → Text
tail None = []
tail (Some t) = 61 ∷ t

abbrev one_of_three : (a b c : Bool) → Option Rule
one_of_three a b c = cond (a || false) (Some (rule view_inline)) (cond (b || false) (Some (rule view_block)) (cond (c || false) (Some (rule count)) None))

seen_long : (w n : Text) (v : Option Text) → bytes_eq w dashes ≡ false → long_of w ≡ Some (n, v) → w ≡ 45 ∷ 45 ∷ (n ++ tail v) → Seen w
seen_long w n v other is whole = go (bytes_eq (long inline) n) refl (bytes_eq (long block) n) refl (bytes_eq (long number) n) refl
  where
    says : (m : Name) (v : Option Text) → w ≡ 45 ∷ 45 ∷ (long m ++ tail v) → Says (named m v) w
    says inline None e = e
    says inline (Some t) e = e
    says block None e = e
    says block (Some t) e = e
    says number None e = e
    says number (Some t) e = e

    known : (m : Name) → bytes_eq (long m) n ≡ true → Seen w
    known m e =
        let same : long m ≡ n = (bytes_eq-Decides (long m) n).0 e in
        (named m v, looks_named w other m v (is ∙ ap (λ (t : Text). Some (t, v)) (sym same)), says m v (whole ∙ ap (λ (t : Text). 45 ∷ 45 ∷ (t ++ tail v)) (sym same)))

    go : (a : Bool) → bytes_eq (long inline) n ≡ a → (b : Bool) → bytes_eq (long block) n ≡ b → (c : Bool) → bytes_eq (long number) n ≡ c → Seen w
    go true ea b eb c ec = known inline ea
    go false ea true eb c ec = known block eb
    go false ea false eb true ec = known number ec
    go false ea false eb false ec =
        let none : arg_by_long rules n ≡ None =
        ap (λ (a : Bool). one_of_three a (bytes_eq (long block) n) (bytes_eq (long number) n)) ea
        ∙ ap (λ (b : Bool). one_of_three false b (bytes_eq (long number) n)) eb ∙ ap (one_of_three false false) ec in
        (bad, looks_unknown w other n v is none, tt)

-- a text is its name, and its value if it has one
cut_whole : (text : Text) → text ≡ (name_and_value text).0 ++ tail (name_and_value text).1
cut_whole [] = refl
cut_whole (x ∷ xs) = go (x == 61) refl (cut_whole xs)
  where
    whole : Bool → Text
    whole b = take (cond (not b) (1 + position_or_len (λ (y : ℕ). y == 61) xs) 0) (x ∷ xs)
        ++ tail (cond (b || has_byte 61 xs) (Some (drop (cond (not b) (1 + position_or_len (λ (y : ℕ). y == 61) xs) 0 + 1) (x ∷ xs))) None)

    longer : (n : ℕ) → take (1 + n) (x ∷ xs) ++ tail (cond (has_byte 61 xs) (Some (drop (1 + n + 1) (x ∷ xs))) None)
        ≡ x ∷ (take n xs ++ tail (cond (has_byte 61 xs) (Some (drop (n + 1) xs)) None))
    longer n =
        let one : 1 + n ≡ suc n = omega arith in
        let two : 1 + n + 1 ≡ suc (n + 1) = omega arith in
        ap₂ (λ (a b : ℕ). take a (x ∷ xs) ++ tail (cond (has_byte 61 xs) (Some (drop b (x ∷ xs))) None)) one two

    go : (b : Bool) → (x == 61) ≡ b → xs ≡ (name_and_value xs).0 ++ tail (name_and_value xs).1
        → x ∷ xs ≡ (name_and_value (x ∷ xs)).0 ++ tail (name_and_value (x ∷ xs)).1
    go true e before = ap (λ (c : ℕ). c ∷ xs) (eqb-true x 61 e) ∙ sym (ap whole e)
    go false e before = ap (λ (more : Text). x ∷ more) before ∙ sym (longer (position_or_len (λ (y : ℕ). y == 61) xs)) ∙ sym (ap whole e)

seen_short : (x : ℕ) (xs : Text) → (x == 45) ≡ false → Seen (45 ∷ x ∷ xs)
seen_short x xs e = go (slice_get (chars (x ∷ xs)) 0) refl
  where
    w : Text
    w = 45 ∷ x ∷ xs

    go : (o : Option ℕ) → slice_get (chars (x ∷ xs)) 0 ≡ o → Seen (45 ∷ x ∷ xs)
    go None none = (
      bare,
      looks_no_flag (45 ∷ x ∷ xs) (ap (λ (b : Bool). b && bytes_eq xs []) e) x xs
          (ap (λ (b : Bool). option_and_then long_of_rest (cond b (Some xs) None)) e)
          (ap (λ (b : Bool). cond b None (Some (x ∷ xs))) e) none,
      tt,
    )
    go (Some c) some = (
      bad,
      looks_short (45 ∷ x ∷ xs) (ap (λ (b : Bool). b && bytes_eq xs []) e) x c xs
          (ap (λ (b : Bool). option_and_then long_of_rest (cond b (Some xs) None)) e)
          (ap (λ (b : Bool). cond b None (Some (x ∷ xs))) e) some,
      tt,
    )

-- a word that begins with another byte than `-` is no option
pub no_hyphen : (x : ℕ) (xs : Text) → (x == 45) ≡ false → Looks bare (x ∷ xs)
no_hyphen x xs e = looks_bare (x ∷ xs) (ap (λ (b : Bool). b && bytes_eq xs (45 ∷ [])) e)
    (ap (λ (b : Bool). option_and_then long_of_rest (option_and_then (strip_byte 45) (cond b (Some xs) None))) e)
    (ap (λ (b : Bool). option_and_then short_of_rest (cond b (Some xs) None)) e)

seen_behind : (xs : Text) → Seen (45 ∷ xs)
seen_behind [] = (bare, looks_bare (45 ∷ []) refl refl refl, tt)
seen_behind (x ∷ xs) = go (x == 45) refl
  where
    double : (xs : Text) → Seen (45 ∷ 45 ∷ xs)
    double [] = (ending, looks_ending, refl)
    double (y ∷ ys) = seen_long (45 ∷ 45 ∷ y ∷ ys) (name_and_value (y ∷ ys)).0 (name_and_value (y ∷ ys)).1 refl refl (ap (λ (t : Text). 45 ∷ 45 ∷ t) (cut_whole (y ∷ ys)))

    go : (b : Bool) → (x == 45) ≡ b → Seen (45 ∷ x ∷ xs)
    go true e = subst (λ (c : ℕ). Seen (45 ∷ c ∷ xs)) (sym (eqb-true x 45 e)) (double xs)
    go false e = seen_short x xs e

pub seen : (w : Text) → Seen w
seen [] = (bare, looks_bare [] refl refl refl, tt)
seen (x ∷ xs) = go (x == 45) refl
  where
    go : (b : Bool) → (x == 45) ≡ b → Seen (x ∷ xs)
    go true e = subst (λ (c : ℕ). Seen (c ∷ xs)) (sym (eqb-true x 45 e)) (seen_behind xs)
    go false e = (bare, no_hyphen x xs e, tt)
