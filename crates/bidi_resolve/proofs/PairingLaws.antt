-- What the reading of brackets keeps.
use Rattle.std.proofs.Common.{◌≡◌, ◌⊎◌, ◌∙◌, refl, sym, arith, inl, inr, ℕ, zero, suc, ◌+◌, ◌<◌, ◌≤◌, true, false, Bool, eqb, ltb, cond, List, [], ◌∷◌, ◌++◌, length, length-append, get_or, drop, set, Option, Some, None}
use Rattle.std.specs.Prelude.{All, IfSome}
use Rattle.std.proofs.lemmas.List.{drop_more, length-set, length-map, get_or-map, get_or-set_same, get_or-set_other, get_or_past, get_or_push, get_or_append_left, get_or_default}
use Rattle.std.proofs.lemmas.List.Elements.{All-tail}
use Rattle.std.proofs.lemmas.Bool.{cases_Bool, cases_lt, cases_eq}
use Rattle.wm_chars.specs.declared.classes.BidiClass.{BidiClass}
use Rattle.wm_chars.specs.declared.classes.Bracket.{Bracket}
use Rattle.bidi_resolve.specs.declared.pairing.Opened.{Opened}
use Rattle.bidi_resolve.specs.Brackets.{bracket_of}
use Rattle.bidi_resolve.specs.Pairing.{Reading, Found, open_, found, close_with, read_bracket, read_one, read, begin}
use Rattle.bidi_resolve.specs.Pairing.{IsWithin}
use Rattle.bidi_resolve.specs.Places.{gathered}

-- one place further, where c is the character and it is read by its place in the paragraph
pub read_more : (chars places : List ℕ) (classes : List BidiClass) (reading : Reading) (k : ℕ) (d : BidiClass) → k < length places → k < length classes →
    read (k + 1) (drop (k + 1) (gathered 0 chars places)) (drop (k + 1) classes) (read_one k (get_or chars (get_or places k 0) 0) (get_or classes k d) reading)
    ≡ read k (drop k (gathered 0 chars places)) (drop k classes) reading
read_more chars places classes reading k d lt lt' =
    let many : length (gathered 0 chars places) ≡ length places = length-map places (λ p. get_or chars p 0) in
    let is : get_or (gathered 0 chars places) k 0 ≡ get_or chars (get_or places k 0) 0 = get_or-map (λ p. get_or chars p 0) places k 0 0 lt in
    rw (drop_more (gathered 0 chars places) k 0 (omega arith), drop_more classes k d lt', is) refl

-- ---- a wider bound

pub within_wider : (m n : ℕ) (reading : Reading) → m ≤ n → IsWithin m reading → IsWithin n reading
within_wider m n reading le within = record {
  many = within.many;
  opened = within.opened;
  before = λ k lt. let h = within.before k lt in omega arith;
  rises = within.rises;
  behind = within.behind;
  closed = λ k b e. let h = within.closed k b e in omega arith;
}

-- where the reading stops nothing else changes
stopped_within : (n : ℕ) (reading : Reading) → IsWithin n reading → IsWithin n (record { opened = reading.opened; openings = reading.openings; closings = reading.closings; stopped = true })
stopped_within n reading within = record { many = within.many; opened = within.opened; before = within.before; rises = within.rises; behind = within.behind; closed = within.closed }

-- ---- a closing bracket

-- what is found was opened, and what is below it too
abbrev IsOpen : ℕ → Option Found → Type 0
IsOpen many None = Unit {0}
IsOpen many (Some found) = (found.number < many) × All (λ opened. opened.number < many) found.below

found_open : (char many : ℕ) (opened : List Opened) → All (λ o. o.number < many) opened → IsOpen many (found char opened)
found_open char many [] all = tt
found_open char many (o ∷ below) all = elim (cases_Bool (eqb o.partner char)) [
  | inl here ↦ rw here (all zero o (omega arith), All-tail (λ opened. opened.number < many) o below all)
  | inr other ↦ rw other (found_open char many below (All-tail (λ opened. opened.number < many) o below all))
]

-- the place that a closing bracket writes, or one that stood there before
set_cases : (closings : List (Option ℕ)) (number place k b : ℕ) → number < length closings → get_or (set closings number (Some place)) k None ≡ Some b
    → (place ≡ b) × (k ≡ number) ⊎ (get_or closings k None ≡ Some b)
set_cases closings number place k b lt e = elim (cases_eq k number) [
  | inl same ↦
      let is : Some place ≡ Some b = sym (get_or-set_same closings number (Some place) None lt) ∙ (rw same at e) in
      inl (cc, same)
  | inr other ↦ inr (sym (get_or-set_other closings number k (Some place) None other) ∙ e)
]

close_within : (place : ℕ) (f : Option Found) (reading : Reading) → IsWithin place reading → IsOpen (length reading.openings) f → IsWithin (place + 1) (close_with place f reading)
close_within place None reading within is_open = within_wider place (place + 1) reading (omega arith) within
close_within place (Some f) reading within is_open =
    let inside : f.number < length reading.closings = rw within.many is_open.0 in
    record {
      many = length-set reading.closings f.number (Some place) ∙ within.many;
      opened = is_open.1;
      before = λ k lt. let h = within.before k lt in omega arith;
      rises = within.rises;
      behind = λ k b e. elim (set_cases reading.closings f.number place k b inside e) [
        | inl new ↦ let h : get_or reading.openings k 0 < place = within.before k (rw new.1 is_open.0) in rw (← new.0) h
        | inr old ↦ within.behind k b old
      ];
      closed = λ k b e. elim (set_cases reading.closings f.number place k b inside e) [
        | inl new ↦ let is = new.0 in omega arith
        | inr old ↦ let h = within.closed k b old in omega arith
      ];
    }

-- ---- an opening bracket

pushed_before : (openings : List ℕ) (place : ℕ) → ((k : ℕ) → k < length openings → get_or openings k 0 < place) → (k : ℕ) → k < length (openings ++ place ∷ []) → get_or (openings ++ place ∷ []) k 0 < place + 1
pushed_before openings place before k lt = elim (cases_lt k (length openings)) [
  | inl old ↦ let h = before k old in let is = get_or_append_left openings (place ∷ []) 0 k old in omega arith
  | inr new ↦ let is = get_or_push openings place 0 k (let n = length-append openings (place ∷ []) in omega arith) in omega arith
]

pushed_rises : (openings : List ℕ) (place : ℕ) → ((k : ℕ) → k < length openings → get_or openings k 0 < place) → ((j k : ℕ) → j ≤ k → k < length openings → get_or openings j 0 ≤ get_or openings k 0)
    → (j k : ℕ) → j ≤ k → k < length (openings ++ place ∷ []) → get_or (openings ++ place ∷ []) j 0 ≤ get_or (openings ++ place ∷ []) k 0
pushed_rises openings place before rises j k le lt = elim (cases_lt k (length openings)) [
  | inl old ↦
      let h = rises j k le old in
      let first = get_or_append_left openings (place ∷ []) 0 j (omega arith) in
      let second = get_or_append_left openings (place ∷ []) 0 k old in
      omega arith
  | inr new ↦
      let last = get_or_push openings place 0 k (let n = length-append openings (place ∷ []) in omega arith) in
      let h = pushed_before openings place before j (omega arith) in
      omega arith
]

none_pushed : (closings : List (Option ℕ)) (k b : ℕ) → get_or (closings ++ None ∷ []) k None ≡ Some b → (k < length closings) × (get_or closings k None ≡ Some b)
none_pushed closings k b e = elim (cases_lt k (length closings)) [
  | inl old ↦ (old, sym (get_or_append_left closings (None ∷ []) None k old) ∙ e)
  | inr past ↦ elim (cases_eq k (length closings)) [
    | inl last ↦ absurd (let none : None ≡ Some b = sym (get_or_push closings None None k (sym last)) ∙ e in cc)
    | inr more ↦ absurd (let none : None ≡ Some b = sym (get_or_past (closings ++ None ∷ []) k None (let n : length (closings ++ None ∷ []) ≡ length closings + 1 = length-append closings (None ∷ []) in omega arith)) ∙ e in cc)
  ]
]

open_within : (place partner : ℕ) (reading : Reading) → IsWithin place reading → IsWithin (place + 1) (open_ place partner reading)
open_within place partner reading within = elim (cases_Bool (ltb (length reading.opened) 63)) [
  | inl room ↦ rw room (record {
    many = many;
    opened = pushed;
    before = pushed_before reading.openings place within.before;
    rises = pushed_rises reading.openings place within.before within.rises;
    behind = behind;
    closed = λ k b e. let h = within.closed k b (none_pushed reading.closings k b e).1 in omega arith;
  })
  | inr full ↦ rw full (within_wider place (place + 1) _ (omega arith) (stopped_within place reading within))
] where
  first : Opened
  first = record { number = length reading.openings; partner = partner }

  longer : length (reading.openings ++ place ∷ []) ≡ length reading.openings + 1
  longer = length-append reading.openings (place ∷ [])

  many : length (reading.closings ++ None ∷ []) ≡ length (reading.openings ++ place ∷ [])
  many = length-append reading.closings (None ∷ []) ∙ (let h = within.many in let n = longer in omega arith)

  pushed : All (λ o. o.number < length (reading.openings ++ place ∷ [])) (first ∷ reading.opened)
  pushed zero d lt = let n = longer in omega arith
  pushed (suc k) d lt = let h = within.opened k d (omega arith) in let n = longer in omega arith

  behind : (k b : ℕ) → get_or (reading.closings ++ None ∷ []) k None ≡ Some b → get_or (reading.openings ++ place ∷ []) k 0 < b
  behind k b e =
      let old = none_pushed reading.closings k b e in
      let h = within.behind k b old.1 in
      let lt = old.0 in
      let m = within.many in
      let is = get_or_append_left reading.openings (place ∷ []) 0 k (omega arith) in
      omega arith

-- ---- any character

bracket_within : (place char : ℕ) (b : Option Bracket) (reading : Reading) → IsWithin place reading → IsWithin (place + 1) (read_bracket place char b reading)
bracket_within place char None reading within = within_wider place (place + 1) reading (omega arith) within
bracket_within place char (Some b) reading within = elim (cases_Bool b.opens) [
  | inl opens ↦ rw opens (open_within place b.partner reading within)
  | inr closes ↦ rw closes (close_within place (found char reading.opened) reading within (found_open char (length reading.openings) reading.opened within.opened))
]

pub read_within : (place char : ℕ) (class : BidiClass) (reading : Reading) → IsWithin place reading → IsWithin (place + 1) (read_one place char class reading)
read_within place char class reading within = go reading.stopped where
  go : (stopped : Bool) → IsWithin (place + 1) (cond stopped reading (read_bracket place char (bracket_of class char) reading))
  go true = within_wider place (place + 1) reading (omega arith) within
  go false = bracket_within place char (bracket_of class char) reading within

pub begin_within : IsWithin 0 begin
begin_within = record {
  many = refl;
  opened = λ k d lt. absurd (omega arith);
  before = λ k lt. absurd (omega arith);
  rises = λ j k le lt. absurd (omega arith);
  behind = λ k b e. absurd (cc);
  closed = λ k b e. absurd (cc);
}

-- an open bracket that another one closes is popped
pub found_below : (char : ℕ) (opened below : List Opened) (last : Opened) → opened ≡ last ∷ below → eqb last.partner char ≡ false → found char opened ≡ found char below
found_below char opened below last is other = rw (is, other) refl

-- a closing bracket that was read stands behind its opening one
pub pair_behind : (n : ℕ) (reading : Reading) (k opening : ℕ) (closing : Option ℕ) → IsWithin n reading → k < length reading.openings → opening ≡ get_or reading.openings k opening → closing ≡ get_or reading.closings k closing
    → (b : ℕ) → closing ≡ Some b → (opening < b) × (b < n)
pair_behind n reading k opening closing within lt is_opening is_closing b e =
    let many = within.many in
    let is : get_or reading.closings k None ≡ Some b = get_or_default reading.closings k None closing (omega arith) ∙ sym is_closing ∙ e in
    let first = get_or_default reading.openings k 0 opening lt in
    let h = within.behind k b is in
    (omega arith, within.closed k b is)

pub if_behind : (n opening : ℕ) (closing : Option ℕ) → ((b : ℕ) → closing ≡ Some b → (opening < b) × (b < n)) → IfSome closing (λ b. (opening < b) × (b < n))
if_behind n opening None behind = tt
if_behind n opening (Some b) behind = behind b refl
