-- The pairs that the code's reading of brackets keeps are the sorted list of pairs.
use Rattle.std.proofs.Common.{◌≡◌, ◌≢◌, ◌∙◌, refl, sym, ap, arith, inl, inr, ℕ, zero, suc, ◌+◌, ◌<◌, ◌≤◌, true, false, eqb, ltb, List, [], ◌∷◌, ◌++◌, length, length-append, get_or, set, map, Option, Some, None}
use Rattle.std.specs.Prelude.{All, fold}
use Rattle.std.specs.Option.{option_map}
use Rattle.std.proofs.lemmas.Bool.{cases_Bool, le-ltb, lt-ltb}
use Rattle.std.proofs.lemmas.List.{length-set, length-map, get_or-set_other, get_or_push, get_or_append_left}
use Rattle.std.proofs.lemmas.List.Elements.{All-append, All-tail}
use Rattle.basic_laws.proofs.Lists.{all_alone}
use Rattle.wm_chars.specs.declared.classes.BidiClass.{BidiClass}
use Rattle.wm_chars.specs.declared.classes.Bracket.{Bracket}
use Rattle.bidi_explicit.specs.Sequences.{Rises}
use Rattle.bidi_resolve.specs.declared.pairing.Opened.{Opened}
use Rattle.bidi_resolve.specs.Brackets.{BracketPair, Match, Waiting, bracket_of, closed, inserted, matching, n0, opened, pairs_at, pairs_from, resolve_pair, resolve_pairs}
use Rattle.bidi_resolve.specs.Pairing.{Found, Reading, begin, close_with, found, open_, read, read_all, read_bracket, read_one, resolve_read}

-- the pairs among what was read, in the order of the opening brackets
abbrev zipped : (openings : List ℕ) → (closings : List (Option ℕ)) → List BracketPair
zipped [] closings = []
zipped (opening ∷ openings) [] = []
zipped (opening ∷ openings) (None ∷ closings) = zipped openings closings
zipped (opening ∷ openings) (Some closing ∷ closings) = record { opening = opening; closing = closing } ∷ zipped openings closings

abbrev pairs_of : Reading → List BracketPair
pairs_of reading = zipped reading.openings reading.closings

resolve_zipped : (level : ℕ) (sos : BidiClass) (openings : List ℕ) (closings : List (Option ℕ)) (originals classes : List BidiClass)
    → resolve_read level sos openings closings originals classes ≡ resolve_pairs level sos (zipped openings closings) originals classes
resolve_zipped level sos [] closings originals classes = refl
resolve_zipped level sos (o ∷ openings) [] originals classes = refl
resolve_zipped level sos (o ∷ openings) (None ∷ closings) originals classes = resolve_zipped level sos openings closings originals classes
resolve_zipped level sos (o ∷ openings) (Some c ∷ closings) originals classes = resolve_zipped level sos openings closings originals (resolve_pair level sos o c originals classes)

-- ---- one pair more

-- it comes first where its bracket opens before all others
in_front : (pair : BracketPair) (openings : List ℕ) (closings : List (Option ℕ)) → All (λ o. pair.opening < o) openings → inserted pair (zipped openings closings) ≡ pair ∷ zipped openings closings
in_front pair [] closings before = refl
in_front pair (o ∷ openings) [] before = refl
in_front pair (o ∷ openings) (None ∷ closings) before = in_front pair openings closings (All-tail (λ o. pair.opening < o) o openings before)
in_front pair (o ∷ openings) (Some c ∷ closings) before =
    let lower : ltb pair.opening o ≡ true = lt-ltb pair.opening o (before zero o (omega arith)) in
    rw lower refl

-- what is written for the bracket of this number is a pair in its place
inserted_at : (openings : List ℕ) (closings : List (Option ℕ)) (m place : ℕ) → Rises openings → length closings ≡ length openings → m < length openings → get_or closings m None ≡ None
    → zipped openings (set closings m (Some place)) ≡ inserted (record { opening = get_or openings m 0; closing = place }) (zipped openings closings)
inserted_at [] closings m place rises many lt none = absurd (omega arith)
inserted_at (o ∷ openings) [] m place rises many lt none = absurd (omega arith)
inserted_at (o ∷ openings) (Some c ∷ closings) zero place rises many lt none = absurd (cc)
inserted_at (o ∷ openings) (None ∷ closings) zero place rises many lt none = sym (in_front (record { opening = o; closing = place }) openings closings rises.0)
inserted_at (o ∷ openings) (None ∷ closings) (suc m) place rises many lt none = inserted_at openings closings m place rises.1 (omega arith) (omega arith) none
inserted_at (o ∷ openings) (Some c ∷ closings) (suc m) place rises many lt none =
    let above : o < get_or openings m 0 = rises.0 m 0 (omega arith) in
    let later : ltb (get_or openings m 0) o ≡ false = le-ltb (get_or openings m 0) o (omega arith) in
    rw later (ap (λ (pairs : List BracketPair). record { opening = o; closing = c } ∷ pairs) (inserted_at openings closings m place rises.1 (omega arith) (omega arith) none))

-- an opening bracket that is not closed is in no pair
none_more : (openings : List ℕ) (closings : List (Option ℕ)) (place : ℕ) → length closings ≡ length openings → zipped (openings ++ place ∷ []) (closings ++ None ∷ []) ≡ zipped openings closings
none_more [] [] place many = refl
none_more [] (c ∷ closings) place many = absurd (omega arith)
none_more (o ∷ openings) [] place many = absurd (omega arith)
none_more (o ∷ openings) (None ∷ closings) place many = none_more openings closings place (omega arith)
none_more (o ∷ openings) (Some c ∷ closings) place many = ap (λ (pairs : List BracketPair). record { opening = o; closing = c } ∷ pairs) (none_more openings closings place (omega arith))

-- ---- what is open

abbrev waiting : List ℕ → Opened → Waiting
waiting openings o = record { partner = o.partner; place = get_or openings o.number 0 }

abbrev stack_of : List ℕ → List Opened → List Waiting
stack_of openings open_ = map (waiting openings) open_

-- no bracket on the stack is closed, and each opened before those above it
abbrev Unclosed : List (Option ℕ) → (bound : ℕ) → List Opened → Type 0
Unclosed closings bound [] = Unit {0}
Unclosed closings bound (o ∷ below) = (o.number < bound) × (get_or closings o.number None ≡ None) × Unclosed closings o.number below

unclosed_wider : (closings : List (Option ℕ)) (a b : ℕ) (open_ : List Opened) → a ≤ b → Unclosed closings a open_ → Unclosed closings b open_
unclosed_wider closings a b [] le u = tt
unclosed_wider closings a b (o ∷ below) le u = (let low = u.0 in omega arith, u.1, u.2)

unclosed_push : (closings : List (Option ℕ)) (bound : ℕ) (open_ : List Opened) → bound ≤ length closings → Unclosed closings bound open_ → Unclosed (closings ++ None ∷ []) bound open_
unclosed_push closings bound [] le u = tt
unclosed_push closings bound (o ∷ below) le u =
    let low = u.0 in
    (low, get_or_append_left closings (None ∷ []) None o.number (omega arith) ∙ u.1, unclosed_push closings o.number below (omega arith) u.2)

unclosed_set : (closings : List (Option ℕ)) (bound m place : ℕ) (open_ : List Opened) → bound ≤ m → Unclosed closings bound open_ → Unclosed (set closings m (Some place)) bound open_
unclosed_set closings bound m place [] le u = tt
unclosed_set closings bound m place (o ∷ below) le u =
    let low = u.0 in
    let other : o.number ≢ m = λ e. let is : o.number ≡ m = e in omega arith in
    (low, get_or-set_other closings m o.number (Some place) None other ∙ u.1, unclosed_set closings o.number m place below (omega arith) u.2)

stack_push : (closings : List (Option ℕ)) (openings : List ℕ) (bound place : ℕ) (open_ : List Opened) → bound ≤ length openings → Unclosed closings bound open_ → stack_of (openings ++ place ∷ []) open_ ≡ stack_of openings open_
stack_push closings openings bound place [] le u = refl
stack_push closings openings bound place (o ∷ below) le u =
    let low = u.0 in
    rw (get_or_append_left openings (place ∷ []) 0 o.number (omega arith), stack_push closings openings o.number place below (omega arith) u.2) refl

-- ---- what a closing bracket finds

abbrev match_of : List ℕ → Found → Match
match_of openings f = record { opening = get_or openings f.number 0; below = stack_of openings f.below }

matched : (char : ℕ) (openings : List ℕ) (open_ : List Opened) → matching char (stack_of openings open_) ≡ option_map (match_of openings) (found char open_)
matched char openings [] = refl
matched char openings (o ∷ below) = elim (cases_Bool (eqb o.partner char)) [
  | inl here ↦ rw here refl
  | inr other ↦ rw other (matched char openings below)
]

abbrev FoundOpen : List (Option ℕ) → (bound : ℕ) → Option Found → Type 0
FoundOpen closings bound None = Unit {0}
FoundOpen closings bound (Some f) = (f.number < bound) × (get_or closings f.number None ≡ None) × Unclosed closings f.number f.below

found_wider : (closings : List (Option ℕ)) (a b : ℕ) (f : Option Found) → a ≤ b → FoundOpen closings a f → FoundOpen closings b f
found_wider closings a b None le ok = tt
found_wider closings a b (Some f) le ok = (let low = ok.0 in omega arith, ok.1, ok.2)

found_open : (closings : List (Option ℕ)) (bound char : ℕ) (open_ : List Opened) → Unclosed closings bound open_ → FoundOpen closings bound (found char open_)
found_open closings bound char [] u = tt
found_open closings bound char (o ∷ below) u = elim (cases_Bool (eqb o.partner char)) [
  | inl here ↦ rw here (u.0, u.1, u.2)
  | inr other ↦ rw other (found_wider closings o.number bound (found char below) (let low = u.0 in omega arith) (found_open closings o.number char below u.2))
]

-- ---- the reading

record Waits (place : ℕ) (r : Reading) : Type 0 where
  many : length r.closings ≡ length r.openings
  rises : Rises r.openings
  before : All (λ o. o < place) r.openings
  unclosed : Unclosed r.closings (length r.openings) r.opened

wider : (place : ℕ) (openings : List ℕ) → All (λ o. o < place) openings → All (λ o. o < place + 1) openings
wider place openings before k d lt = let h = before k d lt in omega arith

rises_push : (openings : List ℕ) (place : ℕ) → Rises openings → All (λ o. o < place) openings → Rises (openings ++ place ∷ [])
rises_push [] place rises before = (λ k d lt. absurd (omega arith), tt)
rises_push (o ∷ openings) place rises before =
    (All-append (λ p. o < p) openings (place ∷ []) rises.0 (all_alone (λ p. o < p) place (before zero o (omega arith))), rises_push openings place rises.1 (All-tail (λ o. o < place) o openings before))

waits_on : (place : ℕ) (r : Reading) → Waits place r → Waits (place + 1) r
waits_on place r w = record { many = w.many; rises = w.rises; before = wider place r.openings w.before; unclosed = w.unclosed }

abbrev with_opening : (place partner : ℕ) → Reading → Reading
with_opening place partner r = record {
  opened = record { number = length r.openings; partner = partner } ∷ r.opened;
  openings = r.openings ++ place ∷ [];
  closings = r.closings ++ None ∷ [];
  stopped = false;
}

waits_open : (place partner : ℕ) (r : Reading) → Waits place r → Waits (place + 1) (with_opening place partner r)
waits_open place partner r w =
    let m = w.many in
    let longer = length-append r.openings (place ∷ []) in
    let longer' = length-append r.closings (None ∷ []) in
    record {
      many = omega arith;
      rises = rises_push r.openings place w.rises w.before;
      before = All-append (λ o. o < place + 1) r.openings (place ∷ []) (wider place r.openings w.before) (all_alone (λ o. o < place + 1) place (omega arith));
      unclosed = (omega arith, get_or_push r.closings None None (length r.openings) m, unclosed_push r.closings (length r.openings) r.opened (omega arith) w.unclosed);
    }

waits_close : (place : ℕ) (f : Found) (r : Reading) → Waits place r → FoundOpen r.closings (length r.openings) (Some f) → Waits (place + 1) (close_with place (Some f) r)
waits_close place f r w ok = record {
  many = length-set r.closings f.number (Some place) ∙ w.many;
  rises = w.rises;
  before = wider place r.openings w.before;
  unclosed = unclosed_wider (set r.closings f.number (Some place)) f.number (length r.openings) f.below (let low = ok.0 in omega arith) (unclosed_set r.closings f.number f.number place f.below (omega arith) ok.2);
}

stays : (place : ℕ) (chars : List ℕ) (classes : List BidiClass) (r : Reading) → r.stopped ≡ true → read place chars classes r ≡ r
stays place [] classes r stopped = refl
stays place (char ∷ chars) [] r stopped = refl
stays place (char ∷ chars) (class ∷ classes) r stopped =
    let same : read_one place char class r ≡ r = rw stopped refl in
    rw same (stays (place + 1) chars classes r stopped)

abbrev added : List BracketPair → List BracketPair → List BracketPair
added pairs more = fold (λ sorted pair. inserted pair sorted) pairs more

-- what the rest of the text adds to the pairs that were read
abbrev Finds : (place : ℕ) → List ℕ → List BidiClass → Type 0
Finds place chars classes = (r : Reading) → r.stopped ≡ false → Waits place r
    → pairs_of (read place chars classes r) ≡ added (pairs_of r) (pairs_from place chars classes (stack_of r.openings r.opened))

module _ (place char : ℕ) (chars : List ℕ) (classes : List BidiClass) (rest : Finds (place + 1) chars classes) (r : Reading) (runs : r.stopped ≡ false) (w : Waits place r) where
  abbrev from : List Waiting → List BracketPair
  from = pairs_from (place + 1) chars classes

  abbrev stack : List Waiting
  stack = stack_of r.openings r.opened

  at_closing : (f : Option Found) → FoundOpen r.closings (length r.openings) f
      → pairs_of (read (place + 1) chars classes (close_with place f r)) ≡ added (pairs_of r) (closed place (option_map (match_of r.openings) f) stack from)
  at_closing None ok = rest r runs (waits_on place r w)
  at_closing (Some f) ok =
      let pair : zipped r.openings (set r.closings f.number (Some place)) ≡ inserted (record { opening = get_or r.openings f.number 0; closing = place }) (pairs_of r) =
      inserted_at r.openings r.closings f.number place w.rises w.many ok.0 ok.1 in
      rest (close_with place (Some f) r) refl (waits_close place f r w ok) ∙ ap (λ (pairs : List BracketPair). added pairs (from (stack_of r.openings f.below))) pair

  at_opening : (partner : ℕ) → pairs_of (read (place + 1) chars classes (open_ place partner r)) ≡ added (pairs_of r) (opened (ltb (length stack) 63) (record { partner = partner; place = place } ∷ stack) from)
  at_opening partner =
      let many : length stack ≡ length r.opened = length-map r.opened (waiting r.openings) in
      elim (cases_Bool (ltb (length r.opened) 63)) [
        | inl room ↦
            let first : get_or (r.openings ++ place ∷ []) (length r.openings) 0 ≡ place = get_or_push r.openings place 0 (length r.openings) refl in
            let others : stack_of (r.openings ++ place ∷ []) r.opened ≡ stack = stack_push r.closings r.openings (length r.openings) place r.opened (omega arith) w.unclosed in
            let same : pairs_of (with_opening place partner r) ≡ pairs_of r = none_more r.openings r.closings place w.many in
            let now : stack_of (r.openings ++ place ∷ []) (record { number = length r.openings; partner = partner } ∷ r.opened) ≡ record { partner = partner; place = place } ∷ stack = rw (first, others) refl in
            rw (many, room) (rest (with_opening place partner r) refl (waits_open place partner r w)
            ∙ ap (λ (pairs : List BracketPair). added pairs (from (stack_of (r.openings ++ place ∷ []) (record { number = length r.openings; partner = partner } ∷ r.opened)))) same
            ∙ ap (λ (s : List Waiting). added (pairs_of r) (from s)) now)
        | inr full ↦ rw (many, full) (ap pairs_of (stays (place + 1) chars classes (record { opened = r.opened; openings = r.openings; closings = r.closings; stopped = true }) refl))
      ]

  at_bracket : (b : Option Bracket) → pairs_of (read (place + 1) chars classes (read_bracket place char b r)) ≡ added (pairs_of r) (pairs_at place char b stack from)
  at_bracket None = rest r runs (waits_on place r w)
  at_bracket (Some b) = elim (cases_Bool b.opens) [
    | inl opens ↦ rw opens (at_opening b.partner)
    | inr closes ↦ rw closes (rw (matched char r.openings r.opened) (at_closing (found char r.opened) (found_open r.closings (length r.openings) char r.opened w.unclosed)))
  ]

finds : (place : ℕ) (chars : List ℕ) (classes : List BidiClass) → Finds place chars classes
finds place [] classes r runs w = refl
finds place (char ∷ chars) [] r runs w = refl
finds place (char ∷ chars) (class ∷ classes) r runs w =
    let next : read_one place char class r ≡ read_bracket place char (bracket_of class char) r = rw runs refl in
    ap (λ (s : Reading). pairs_of (read (place + 1) chars classes s)) next ∙ at_bracket place char chars classes (finds (place + 1) chars classes) r runs w (bracket_of class char)

begin_waits : Waits 0 begin
begin_waits = record { many = refl; rises = tt; before = λ k d lt. absurd (omega arith); unclosed = tt }

-- N0 on the pairs that were read
pub resolved_read : (level : ℕ) (sos : BidiClass) (chars : List ℕ) (originals classes : List BidiClass)
    → resolve_read level sos (read_all chars classes).openings (read_all chars classes).closings originals classes ≡ n0 level sos chars originals classes
resolved_read level sos chars originals classes =
    resolve_zipped level sos (read_all chars classes).openings (read_all chars classes).closings originals classes
    ∙ ap (λ (pairs : List BracketPair). resolve_pairs level sos pairs originals classes) (finds 0 chars classes begin refl begin_waits)
