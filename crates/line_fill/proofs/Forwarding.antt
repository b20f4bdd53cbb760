-- Lines of items whose lengths are not below 0.
use Rattle.std.proofs.Common.{◌≡◌, ◌∙◌, refl, sym, ap, arith, subst, Bool, true, false, List, [], ◌∷◌, ◌++◌, ℕ, zero, suc, ◌+◌, ◌-◌, ◌≤◌, ◌<◌, ◌^◌, ℤ, pos, unsigned_abs, length, max, take, drop, get_or, Option, Some, None}
use Rattle.std.specs.Prelude.{⊤, IfSome, ◌≤ℤ◌, int_le}
use Rattle.std.specs.List.{All, list_any}
use Rattle.std.proofs.lemmas.Int.{ints}
use Rattle.std.proofs.lemmas.Bool.{cases_lt}
use Rattle.std.proofs.Common.{inl, inr}
use Rattle.fragment_types.specs.declared.breaking.Breaking.{Breaking}
use Rattle.fragment_types.specs.declared.breaking.Breaking.TheVariants.{No, May, Must}
use Rattle.line_fill.specs.declared.item.FillItem.{FillItem}
use Rattle.line_fill.specs.Ahead.{break_at}
use Rattle.line_fill.specs.Filling.{best, ends, ends_at, fits, line_end}
use Rattle.line_fill.specs.declared.forward.Piece.{Piece}
use Rattle.line_fill.specs.declared.forward.Stop.{Stop}
use Rattle.line_fill.specs.declared.sums.Place.{Place}
use Rattle.line_fill.specs.Forward.{EndsLine, IsForward, IsNearPiece, content_after, last_or, piece_after, piece_at}
use Rattle.line_fill.specs.Sizes.{is_allowed, is_forced}
use Rattle.line_fill.specs.Sums.{place_after, place_before, solid_after, width_between}
use Rattle.std.proofs.lemmas.List.{length-take-le, take_more}
use Rattle.std.proofs.lemmas.List.Sums.{sum_by-take-le}
use Rattle.line_fill.specs.Item.{advances, edges, lengths_of, solid, solid_at, spread, width, width_of}
use Rattle.line_fill.proofs.Ending.{Above, above_later, best_first, best_later, break_out, ends_above}
use Rattle.line_fill.proofs.Lining.{Filled}
use Rattle.line_fill.proofs.Reaching.{ends_more}
use Rattle.line_fill.proofs.Widths.{content_advances, place_more, place_near, solid-le, solid_last, width_is}

-- ---- no piece is narrower than a shorter one that begins with it

abbrev AreForward : List FillItem → Type 0
AreForward [] = ⊤
AreForward (item ∷ items) = IsForward item × AreForward items

pub each_forward : (items : List FillItem) → All IsForward items → AreForward items
each_forward [] all = tt
each_forward (item ∷ items) all = (all 0 item (omega arith), each_forward items (λ k d lt. all (suc k) d (omega arith)))

drop_forward : (n : ℕ) (items : List FillItem) → AreForward items → AreForward (drop n items)
drop_forward zero items h = h
drop_forward (suc n) [] h = tt
drop_forward (suc n) (item ∷ items) h = drop_forward n items h.1

abbrev content : List FillItem → ℤ
content items = advances (take (solid items) items)

content_some : (n : ℕ) (items : List FillItem) → AreForward items → pos 0 ≤ℤ advances (take n items)
content_some zero items h = omega (arith, ints)
content_some (suc n) [] h = omega (arith, ints)
content_some (suc n) (item ∷ items) h = let a = h.0.advance in let r = content_some n items h.1 in omega (arith, ints)

edges_some : (items : List FillItem) → AreForward items → pos 0 ≤ℤ edges items
edges_some [] h = omega (arith, ints)
edges_some (item ∷ items) h = let b = h.0.before in let a = h.0.after in let r = edges_some items h.1 in omega (arith, ints)

-- the content of a shorter piece is no longer, item by item
longer : (space : Bool) (n m : ℕ) (item : FillItem) (xs ys : List FillItem) → IsForward item → AreForward ys → n ≤ m → advances (take n xs) ≤ℤ advances (take m ys) → (n ≡ 0 → advances (take n xs) ≡ pos 0)
    → advances (take (solid_at space n) (item ∷ xs)) ≤ℤ advances (take (solid_at space m) (item ∷ ys))
longer true zero zero item xs ys own rest le h none = omega (arith, ints)
longer true zero (suc m) item xs ys own rest le h none = let a = own.advance in let c = content_some (suc m) ys rest in omega (arith, ints)
longer true (suc n) zero item xs ys own rest le h none = absurd (omega arith)
longer true (suc n) (suc m) item xs ys own rest le h none = omega (arith, ints)
longer false n m item xs ys own rest le h none = omega (arith, ints)

solid_grows : (space : Bool) (n m : ℕ) → n ≤ m → solid_at space n ≤ solid_at space m
solid_grows true zero zero le = omega arith
solid_grows true zero (suc m) le = omega arith
solid_grows true (suc n) zero le = absurd (omega arith)
solid_grows true (suc n) (suc m) le = omega arith
solid_grows false n m le = omega arith

solid_longer : (n : ℕ) (items : List FillItem) → solid (take n items) ≤ solid items
solid_longer zero items = omega arith
solid_longer (suc n) [] = omega arith
solid_longer (suc n) (item ∷ items) = solid_grows item.space (solid (take n items)) (solid items) (solid_longer n items)

take_none : (n : ℕ) (xs : List FillItem) → n ≡ 0 → advances (take n xs) ≡ pos 0
take_none zero xs is = refl
take_none (suc n) xs is = absurd (omega arith)

content_longer : (n : ℕ) (items : List FillItem) → AreForward items → content (take n items) ≤ℤ content items
content_longer zero items h = content_some (solid items) items h
content_longer (suc n) [] h = omega (arith, ints)
content_longer (suc n) (item ∷ items) h =
    longer item.space (solid (take n items)) (solid items) item (take n items) items h.0 h.1 (solid_longer n items) (content_longer n items h.1) (take_none (solid (take n items)) (take n items))

edges_longer : (n : ℕ) (items : List FillItem) → AreForward items → edges (take n items) ≤ℤ edges items
edges_longer zero items h = edges_some items h
edges_longer (suc n) [] h = omega (arith, ints)
edges_longer (suc n) (item ∷ items) h = let r = edges_longer n items h.1 in omega (arith, ints)

width_longer : (n : ℕ) (items : List FillItem) → AreForward items → width_of (take n items) ≤ℤ width_of items
width_longer n items h =
    let a = content_advances (take n items) in
    let b = content_advances items in
    let e = edges_longer n items h in
    let c = content_longer n items h in
    omega (arith, ints)

take_forward : (n : ℕ) (items : List FillItem) → AreForward items → AreForward (take n items)
take_forward zero items h = tt
take_forward (suc n) [] h = tt
take_forward (suc n) (item ∷ items) h = (h.0, take_forward n items h.1)

take_less : (n m : ℕ) (items : List FillItem) → n ≤ m → take n (take m items) ≡ take n items
take_less zero m items le = refl
take_less (suc n) zero items le = absurd (omega arith)
take_less (suc n) (suc m) [] le = refl
take_less (suc n) (suc m) (item ∷ items) le = ap (λ (rest : List FillItem). item ∷ rest) (take_less n m items (omega arith))

pub wider : (items : List FillItem) (from low high : ℕ) → AreForward items → from ≤ low → low ≤ high → width items from low ≤ℤ width items from high
wider items from low high h order le =
    let rest : List FillItem = drop from items in
    let piece : List FillItem = take (high - from) rest in
    let P : List FillItem → Type 0 = λ p. width_of p ≤ℤ width_of piece in
    subst P (take_less (low - from) (high - from) rest (omega arith)) (width_longer (low - from) piece (take_forward (high - from) rest (drop_forward from items h)))

-- ---- from end to end

less_not : (available a b : ℤ) → a ≤ℤ b → int_le a available ≡ false → int_le b available ≡ false
less_not available a b le not_so = grind (arith, ints)

none_fits : (available : ℤ) (items : List FillItem) (from first : ℕ) (places : List ℕ) → AreForward items → from ≤ first → Above first places → fits available items from first ≡ false
    → list_any (fits available items from) places ≡ false
none_fits available items from first [] h order above not_so = refl
none_fits available items from first (place ∷ places) h order above not_so =
    rw (less_not available (width items from first) (width items from place) (wider items from first place h order above.0) not_so, none_fits available items from first places h order above.1 not_so) refl

abbrev pub before : Option ℕ → List ℕ → List ℕ
before None places = places
before (Some end) places = end ∷ places

-- what the loop keeps: the last end that fits, and the ends to come
pub record Fitting (available : ℤ) (items : List FillItem) (from q : ℕ) (last : Option ℕ) : Type 0 where
  pub inside : q < length items
  pub order : from ≤ q
  pub on : line_end available items from ≡ best (fits available items from) (before last (ends items q))
  pub later : IfSome last (λ end. (from < end) × (end ≤ q))

fitting_first : (available : ℤ) (items : List FillItem) (from : ℕ) → from < length items → Fitting available items from from None
fitting_first available items from inside = record { inside = inside; order = omega arith; on = refl; later = tt }

no_must : No ≡ Must → ⊥
no_must e = cc

may_must : May ≡ Must → ⊥
may_must e = cc

-- what a test says of the break that it was asked of
pub kind_there : (kind : Breaking → Bool) (asked there : Breaking) (told answer : Bool) → asked ≡ there → told ≡ kind asked → told ≡ answer → kind there ≡ answer
kind_there kind asked there told answer same is so = ap kind (sym same) ∙ sym is ∙ so

allowed_not : (end_ : Breaking) → is_allowed end_ ≡ true → end_ ≡ No → ⊥
allowed_not No allowed e = absurd cc
allowed_not May allowed e = cc
allowed_not Must allowed e = cc

unallowed_is : (end_ : Breaking) → is_allowed end_ ≡ false → end_ ≡ No
unallowed_is No unallowed = refl
unallowed_is May unallowed = absurd cc
unallowed_is Must unallowed = absurd cc

forced_is : (end_ : Breaking) → is_forced end_ ≡ true → end_ ≡ Must
forced_is No forced = absurd cc
forced_is May forced = absurd cc
forced_is Must forced = refl

unforced_is : (end_ : Breaking) → is_allowed end_ ≡ true → is_forced end_ ≡ false → end_ ≡ May
unforced_is No allowed unforced = absurd cc
unforced_is May allowed unforced = refl
unforced_is Must allowed unforced = absurd cc

still_inside : (items : List FillItem) (q : ℕ) (d : FillItem) (end_ : Breaking) → q < length items → break_at items q ≡ end_ → (end_ ≡ Must → ⊥) → q + 1 < length items
still_inside items q d end_ inside is not_so =
    elim (cases_lt (q + 1) (length items)) [
      | inl lt ↦ lt
      | inr past ↦ absurd (not_so (sym is ∙ break_out items q d inside past))
    ]

-- not_so end there
fitting_on : (available : ℤ) (items : List FillItem) (from q : ℕ) (last : Option ℕ) (d : FillItem) → break_at items q ≡ No → Fitting available items from q last → Fitting available items from (q + 1) last
fitting_on available items from q last d is f = record {
  inside = still_inside items q d No f.inside is no_must;
  order = let o = f.order in omega arith;
  on = f.on ∙ ap (λ (ps : List ℕ). best (fits available items from) (before last ps)) (ends_more items q d f.inside ∙ ap (λ b. ends_at b (q + 1) (ends items (q + 1))) is);
  later = later_on last f.later;
} where
  later_on : (o : Option ℕ) → IfSome o (λ end. (from < end) × (end ≤ q)) → IfSome o (λ end. (from < end) × (end ≤ q + 1))
  later_on None h = tt
  later_on (Some end) h = let a = h.1 in (h.0, omega arith)

above_next : (items : List FillItem) (q : ℕ) → Above (q + 1) (ends items (q + 1))
above_next items q = above_later (q + 1) (q + 1 + 1) (ends items (q + 1)) (omega arith) (ends_above (q + 1) (drop (q + 1) items))

-- the end that fits is the last one
passed : (available : ℤ) (items : List FillItem) (from q : ℕ) (last : Option ℕ) (rest : List ℕ) → Above (q + 1) rest → IfSome last (λ end. (from < end) × (end ≤ q)) → fits available items from (q + 1) ≡ true
    → best (fits available items from) (before last ((q + 1) ∷ rest)) ≡ best (fits available items from) ((q + 1) ∷ rest)
passed available items from q None rest above later fit = refl
passed available items from q (Some end) rest above later fit =
    let l = later.1 in
    best_later (fits available items from) end ((q + 1) ∷ rest) (omega arith, above_later end (q + 1) rest (omega arith) above) (rw fit refl)

-- none fits from there on
stopped : (available : ℤ) (items : List FillItem) (from q : ℕ) (last : Option ℕ) (rest : List ℕ) → AreForward items → from ≤ q → Above (q + 1) rest → IfSome last (λ end. (from < end) × (end ≤ q))
    → fits available items from (q + 1) ≡ false → best (fits available items from) (before last ((q + 1) ∷ rest)) ≡ last_or last (q + 1)
stopped available items from q None rest h order above later not_so = best_first (fits available items from) (q + 1) rest above (none_fits available items from (q + 1) rest h (omega arith) above not_so)
stopped available items from q (Some end) rest h order above later not_so =
    let l = later.1 in
    let low : q + 1 ≤ q + 1 = omega arith in
    best_first (fits available items from) end ((q + 1) ∷ rest) (omega arith, above_later end (q + 1) rest (omega arith) above)
    (none_fits available items from (q + 1) ((q + 1) ∷ rest) h (omega arith) (low, above) not_so)

abbrev rest_at : Breaking → List ℕ → List ℕ
rest_at No places = places
rest_at May places = places
rest_at Must places = []

rest_above : (end_ : Breaking) (p : ℕ) (places : List ℕ) → Above p places → Above p (rest_at end_ places)
rest_above No p places h = h
rest_above May p places h = h
rest_above Must p places h = tt

ends_there : (end_ : Breaking) (place : ℕ) (places : List ℕ) → (end_ ≡ No → ⊥) → ends_at end_ place places ≡ place ∷ rest_at end_ places
ends_there No place places not_so = absurd (not_so refl)
ends_there May place places not_so = refl
ends_there Must place places not_so = refl

fitting_more : (available : ℤ) (items : List FillItem) (from q : ℕ) (last : Option ℕ) (d : FillItem) → break_at items q ≡ May → fits available items from (q + 1) ≡ true
    → Fitting available items from q last → Fitting available items from (q + 1) (Some (q + 1))
fitting_more available items from q last d is fit f = record {
  inside = still_inside items q d May f.inside is may_must;
  order = let o = f.order in omega arith;
  on = f.on
      ∙ ap (λ (ps : List ℕ). best (fits available items from) (before last ps)) (ends_more items q d f.inside ∙ ap (λ b. ends_at b (q + 1) (ends items (q + 1))) is)
      ∙ passed available items from q last (ends items (q + 1)) (above_next items q) f.later fit;
  later = let o = f.order in (omega arith, omega arith);
}

fitting_stops : (available : ℤ) (items : List FillItem) (from q : ℕ) (last : Option ℕ) (d : FillItem) → All IsForward items → is_allowed (break_at items q) ≡ true
    → fits available items from (q + 1) ≡ false → Fitting available items from q last → line_end available items from ≡ last_or last (q + 1)
fitting_stops available items from q last d forward allowed out f =
    let end_ : Breaking = break_at items q in
    f.on
    ∙ ap (λ (ps : List ℕ). best (fits available items from) (before last ps)) (ends_more items q d f.inside ∙ ends_there end_ (q + 1) (ends items (q + 1)) (allowed_not end_ allowed))
    ∙ stopped available items from q last (rest_at end_ (ends items (q + 1))) (each_forward items forward) f.order (rest_above end_ (q + 1) (ends items (q + 1)) (above_next items q)) f.later out

fitting_ends : (available : ℤ) (items : List FillItem) (from q : ℕ) (last : Option ℕ) (d : FillItem) → break_at items q ≡ Must → fits available items from (q + 1) ≡ true
    → Fitting available items from q last → line_end available items from ≡ q + 1
fitting_ends available items from q last d is fit f =
    f.on
    ∙ ap (λ (ps : List ℕ). best (fits available items from) (before last ps)) (ends_more items q d f.inside ∙ ap (λ b. ends_at b (q + 1) (ends items (q + 1))) is)
    ∙ passed available items from q last [] tt f.later fit
    ∙ best_first (fits available items from) (q + 1) [] tt refl

stop_within : (from q n : ℕ) (last : Option ℕ) → from ≤ q → q < n → IfSome last (λ end. (from < end) × (end ≤ q)) → (from < last_or last (q + 1)) × (last_or last (q + 1) ≤ n)
stop_within from q n None order inside later = (omega arith, omega arith)
stop_within from q n (Some end) order inside later = let l = later.1 in (later.0, omega arith)

-- ---- the piece from the start of a line on

abbrev pub stop_end : Option Stop → Option ℕ
stop_end None = None
stop_end (Some stop) = Some stop.end

-- a piece stands for the items from one place up to another
pub record IsPiece (items : List FillItem) (from q : ℕ) (piece : Piece) : Type 0 where
  pub start : piece.start ≡ place_before items from
  pub end_ : piece.end ≡ place_before items q
  pub content : piece.content ≡ place_before items (max from (solid (take q items)))

max_left : (a b : ℕ) → b ≤ a → max a b ≡ a
max_left a b h = omega arith

max_right : (a b : ℕ) → a ≤ b → max a b ≡ b
max_right a b h = omega arith

piece_first : (items : List FillItem) (from : ℕ) (start : Place) → from < length items → start ≡ place_before items from → IsPiece items from from (piece_at start)
piece_first items from start inside is =
    let s = solid-le (take from items) in
    let l = length-take-le from items (omega arith) in
    record { start = is; end_ = is; content = is ∙ ap (place_before items) (sym (max_left from (solid (take from items)) (omega arith))) }

content_more : (items : List FillItem) (from q : ℕ) (d : FillItem) (content : Place) → q < length items → from ≤ q → content ≡ place_before items (max from (solid (take q items)))
    → content_after (get_or items q d).space content (place_before items (q + 1)) ≡ place_before items (max from (solid (take (q + 1) items)))
content_more items from q d content inside order is = go (get_or items q d).space refl where
  told : solid (take (q + 1) items) ≡ solid_after (get_or items q d).space (solid (take q items)) (suc q)
  told =
      let l : length (take q items) ≡ q = length-take-le q items (omega arith) in
      let s = solid_last (take q items) (get_or items q d) in
      let s' : solid (take q items ++ get_or items q d ∷ []) ≡ solid_after (get_or items q d).space (solid (take q items)) (suc q) = rw l at s in
      ap solid (take_more items q d inside) ∙ s'

  go : (space : Bool) → (get_or items q d).space ≡ space → content_after (get_or items q d).space content (place_before items (q + 1)) ≡ place_before items (max from (solid (take (q + 1) items)))
  go true e =
      ap (λ (b : Bool). content_after b content (place_before items (q + 1))) e ∙ is
      ∙ ap (λ n. place_before items (max from n)) (sym (told ∙ ap (λ (b : Bool). solid_after b (solid (take q items)) (suc q)) e))
  go false e =
      let n : suc q ≡ q + 1 = omega arith in
      ap (λ (b : Bool). content_after b content (place_before items (q + 1))) e
      ∙ ap (place_before items) (sym (max_right from (q + 1) (omega arith)))
      ∙ ap (λ n. place_before items (max from n)) (sym (told ∙ ap (λ (b : Bool). solid_after b (solid (take q items)) (suc q)) e ∙ n))

piece_more : (items : List FillItem) (from q : ℕ) (d : FillItem) (piece : Piece) → q < length items → from ≤ q → IsPiece items from q piece → IsPiece items from (q + 1) (piece_after piece (get_or items q d) (q + 1))
piece_more items from q d piece inside order is =
    let n : suc q ≡ q + 1 = omega arith in
    let e : place_after piece.end (get_or items q d) (q + 1) ≡ place_before items (q + 1) =
    ap (λ (p : Place). place_after p (get_or items q d) (q + 1)) is.end_ ∙ ap (place_after (place_before items q) (get_or items q d)) (sym n) ∙ place_more items q d inside in
    record {
      start = is.start;
      end_ = e;
      content = ap (content_after (get_or items q d).space piece.content) e ∙ content_more items from q d piece.content inside order is.content;
    }

-- what it tells of widths
piece_fits : (available : ℤ) (items : List FillItem) (from q : ℕ) (piece : Piece) → from ≤ q → q ≤ length items → IsPiece items from q piece
    → int_le (width_between piece.start piece.end piece.content) available ≡ fits available items from q
piece_fits available items from q piece order within is =
    ap (λ z. int_le z available)
    (ap (λ (p : Place). width_between p piece.end piece.content) is.start
    ∙ ap (λ (p : Place). width_between (place_before items from) p piece.content) is.end_
    ∙ ap (λ (p : Place). width_between (place_before items from) (place_before items q) p) is.content
    ∙ sym (width_is items from q order within))

-- no place tells of more than the lengths before it
told_near : (items : List FillItem) (k : ℕ) (place : Place) → place ≡ place_before items k → spread items ≤ 2 ^ 60 → unsigned_abs place.edges + unsigned_abs place.advances ≤ 2 ^ 60
told_near items k place is room =
    let n = place_near items k in
    let t = sum_by-take-le lengths_of items k in
    rw is (omega arith)

-- what the loop keeps
pub record Running (available : ℤ) (items : List FillItem) (from q : ℕ) (last : Option Stop) (piece : Piece) : Type 0 where
  pub fitting : Fitting available items from q (stop_end last)
  pub piece_is : IsPiece items from q piece
  pub told : IfSome last (λ stop. stop.place ≡ place_before items stop.end)

pub running_first : (available : ℤ) (items : List FillItem) (from : ℕ) (start : Place) → from < length items → start ≡ place_before items from → Running available items from from None (piece_at start)
running_first available items from start inside is = record { fitting = fitting_first available items from inside; piece_is = piece_first items from start inside is; told = tt }

last_told : (items : List FillItem) (last : Option Stop) (first : Stop) → IfSome last (λ stop. stop.place ≡ place_before items stop.end) → first.place ≡ place_before items first.end
    → (last_or last first).place ≡ place_before items (last_or last first).end
last_told items None first told is = is
last_told items (Some stop) first told is = told

last_end : (last : Option Stop) (first : Stop) → (last_or last first).end ≡ last_or (stop_end last) first.end
last_end None first = refl
last_end (Some stop) first = refl

-- ---- a step of the loop

-- the piece with one item more; the line fits up to the last stop before it
pub record Step (available : ℤ) (items : List FillItem) (from q : ℕ) (last : Option Stop) (next : Piece) : Type 0 where
  pub fitting : Fitting available items from q (stop_end last)
  pub piece_is : IsPiece items from (q + 1) next
  pub told : IfSome last (λ stop. stop.place ≡ place_before items stop.end)

pub stepped : (available : ℤ) (items : List FillItem) (from q : ℕ) (last : Option Stop) (d own : FillItem) (piece next : Piece) → Running available items from q last piece → own ≡ get_or items q d
    → next ≡ piece_after piece own (q + 1) → Step available items from q last next
stepped available items from q last d own piece next running read made =
    let f = running.fitting in
    record {
      fitting = f;
      piece_is = subst (IsPiece items from (q + 1)) (sym (made ∙ ap (λ (item : FillItem). piece_after piece item (q + 1)) read)) (piece_more items from q d piece f.inside f.order running.piece_is);
      told = running.told;
    }

module _ (available : ℤ) (items : List FillItem) (from q : ℕ) (last : Option Stop) (next : Piece) (step : Step available items from q last next) where
  pub step_near : spread items ≤ 2 ^ 60 → IsNearPiece next
  step_near room =
      let a = told_near items from next.start step.piece_is.start room in
      let b = told_near items (q + 1) next.end step.piece_is.end_ room in
      let c = told_near items (max from (solid (take (q + 1) items))) next.content step.piece_is.content room in
      record { start = a; end_ = omega arith; content = omega arith }

  step_fits : int_le (width_between next.start next.end next.content) available ≡ fits available items from (q + 1)
  step_fits =
      let inside = step.fitting.inside in
      let order = step.fitting.order in
      piece_fits available items from (q + 1) next (omega arith) (omega arith) step.piece_is

  module _ (d : FillItem) (fit : Bool) (told : fit ≡ int_le (width_between next.start next.end next.content) available) (here : Stop) (end_ : here.end ≡ q + 1) (place : here.place ≡ next.end) where
    place_there : here.place ≡ place_before items here.end
    place_there = place ∙ step.piece_is.end_ ∙ ap (place_before items) (sym end_)

    -- the line doesn't fit up to here: it ends at the last stop before, else here
    pub stops_before : All IsForward items → is_allowed (break_at items q) ≡ true → fit ≡ false → (stopped : Stop) → stopped ≡ last_or last here → EndsLine available items from stopped
    stops_before forward allowed out stopped is =
        let end_is : stopped.end ≡ last_or (stop_end last) (q + 1) = ap (λ (s : Stop). s.end) is ∙ last_end last here ∙ ap (last_or (stop_end last)) end_ in
        let w = stop_within from q (length items) (stop_end last) step.fitting.order step.fitting.inside step.fitting.later in
        record {
          value = end_is ∙ sym (fitting_stops available items from q (stop_end last) d forward allowed (sym step_fits ∙ sym told ∙ out) step.fitting);
          place = ap (λ (s : Stop). s.place) is ∙ last_told items last here step.told place_there ∙ ap (λ (s : Stop). place_before items s.end) (sym is);
          later = rw end_is w.0;
          within = rw end_is w.1;
        }

    -- it fits up to here, where a line ends whatever fits
    pub stops_here : is_forced (break_at items q) ≡ true → fit ≡ true → EndsLine available items from here
    stops_here forced fitting =
        let inside = step.fitting.inside in
        let order = step.fitting.order in
        record {
          value = end_ ∙ sym (fitting_ends available items from q (stop_end last) d (forced_is (break_at items q) forced) (sym step_fits ∙ sym told ∙ fitting) step.fitting);
          place = place_there;
          later = rw end_ (omega arith);
          within = rw end_ (omega arith);
        }

    -- it fits up to here, and goes on
    pub goes_past : is_allowed (break_at items q) ≡ true → is_forced (break_at items q) ≡ false → fit ≡ true → Running available items from (q + 1) (Some here) next
    goes_past allowed unforced fitting = record {
      fitting = subst (λ e. Fitting available items from (q + 1) (Some e)) (sym end_)
          (fitting_more available items from q (stop_end last) d (unforced_is (break_at items q) allowed unforced) (sym step_fits ∙ sym told ∙ fitting) step.fitting);
      piece_is = step.piece_is;
      told = place_there;
    }

  -- no line may end here
  pub goes_on : (d : FillItem) → is_allowed (break_at items q) ≡ false → Running available items from (q + 1) last next
  goes_on d unallowed = record { fitting = fitting_on available items from q (stop_end last) d (unallowed_is (break_at items q) unallowed) step.fitting; piece_is = step.piece_is; told = step.told }

-- the lines up to a stop are filled
pub record Stopped (available : ℤ) (items : List FillItem) (ends : List ℕ) (stop : Stop) : Type 0 where
  pub filled : Filled available items ends stop.end
  pub told : stop.place ≡ place_before items stop.end
