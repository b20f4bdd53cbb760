-- What lies ahead of a place tells which lines fit up to some end behind it.
use Rattle.std.proofs.Common.{◌≡◌, ◌∙◌, refl, sym, ap, arith, Bool, true, false, ◌||◌, List, [], ◌∷◌, ◌++◌, ◌⊎◌, inl, inr, ℕ, suc, ◌+◌, ◌-◌, ◌≤◌, ◌<◌, ◌^◌, ℤ, ◌+ℤ◌, ◌-ℤ◌, length, length-append, max, take, get_or, subst}
use Rattle.std.specs.Prelude.{slice_get, Option, Some, None, int_le}
use Rattle.std.specs.Int.{int_min}
use Rattle.std.specs.List.{list_any}
use Rattle.std.proofs.lemmas.Int.{ints, clamps}
use Rattle.std.proofs.Math.Bool.{or-false}
use Rattle.std.proofs.Math.Nat.{eq-or-lt_of_le}
use Rattle.std.proofs.Math.Seq.{get_or-append_seam}
use Rattle.std.proofs.lemmas.List.{drop_more, get_or_append_left, drop_all}
use Rattle.std.proofs.lemmas.Option.{slice_get-get_or, get_or_from_slice_get, slice_get_within, slice_get_read}
use Rattle.fragment_types.specs.declared.breaking.Breaking.{Breaking}
use Rattle.fragment_types.specs.declared.breaking.Breaking.TheVariants.{No, May, Must}
use Rattle.line_fill.specs.declared.item.FillItem.{FillItem}
use Rattle.line_fill.specs.declared.sums.Place.{Place}
use Rattle.line_fill.specs.declared.ahead.Ahead.{Ahead}
use Rattle.line_fill.specs.Item.{solid, edges, advances}
use Rattle.line_fill.specs.Sums.{place_before, solid_after}
use Rattle.line_fill.specs.Filling.{ends, ends_at, fits}
use Rattle.line_fill.specs.Ahead.{Tells, AreAhead, Within, IsNearAhead, is_within, reaches, lesser, moved, with_end, behind, break_at}
use Rattle.line_fill.proofs.Widths.{place_more, width_is}

lesser_least : (a b s v : ℤ) → int_le (int_min a b -ℤ s) v ≡ (int_le (a -ℤ s) v || int_le (b -ℤ s) v)
lesser_least a b s v = grind (arith, ints, clamps)

-- the lesser of two lengths is within the room where one of them is
lesser_is : (a b : Option ℤ) (s v : ℤ) → is_within (lesser a b) s v ≡ (is_within a s v || is_within b s v)
lesser_is None b s v = refl
lesser_is (Some a) None s v = sym (or-false (int_le (a -ℤ s) v))
lesser_is (Some a) (Some b) s v = lesser_least a b s v

moved_is : (a : Option ℤ) (by s v : ℤ) → is_within (moved a by) s v ≡ is_within a (s -ℤ by) v
moved_is None by s v = refl
moved_is (Some a) by s v = ap (λ z. int_le z v) (gap_moved a by s) where
  gap_moved : (a by s : ℤ) → (a +ℤ by) -ℤ s ≡ a -ℤ (s -ℤ by)
  gap_moved a by s = omega (arith, ints)

-- an end more, or alone
abbrev any_at : Breaking → Bool → Bool → Bool
any_at No fit rest = rest
any_at May fit rest = fit || rest
any_at Must fit rest = fit || false

turned : (c s f : Bool) → (c || (s || f)) ≡ (f || (c || s))
turned true s true = refl
turned true s false = refl
turned false true true = refl
turned false true false = refl
turned false false true = refl
turned false false false = refl

with_end_is : (ahead : Ahead) (end : Breaking) (e : ℤ) (start content : Place) (v : ℤ)
    → reaches (with_end ahead end e) start content v ≡ any_at end (int_le ((e -ℤ start.edges) +ℤ (content.advances -ℤ start.advances)) v) (reaches ahead start content v)
with_end_is ahead No e start content v = refl
with_end_is ahead May e start content v =
    let base = (start.edges +ℤ start.advances) -ℤ content.advances in
    let fit = int_le ((e -ℤ start.edges) +ℤ (content.advances -ℤ start.advances)) v in
    let last : is_within (Some e) base v ≡ fit = ap (λ z. int_le z v) (omega (arith, ints)) in
    ap (λ b. is_within ahead.content (start.edges +ℤ start.advances) v || b) (lesser_is ahead.spaces (Some e) base v ∙ ap (λ b. is_within ahead.spaces base v || b) last)
    ∙ turned (is_within ahead.content (start.edges +ℤ start.advances) v) (is_within ahead.spaces base v) fit
with_end_is ahead Must e start content v =
    let fit = int_le ((e -ℤ start.edges) +ℤ (content.advances -ℤ start.advances)) v in
    let last : int_le (e -ℤ ((start.edges +ℤ start.advances) -ℤ content.advances)) v ≡ fit = ap (λ z. int_le z v) (omega (arith, ints)) in
    last ∙ sym (or-false fit)

-- an item that is no space: all behind it are content
behind_is : (ahead : Ahead) (by : ℤ) (start content other : Place) (v : ℤ) → content.advances ≡ by
    → reaches (behind ahead false by) start other v ≡ reaches ahead start content v
behind_is ahead by start content other v e =
    let total = start.edges +ℤ start.advances in
    or-false (is_within (lesser ahead.content (moved ahead.spaces by)) total v)
    ∙ (lesser_is ahead.content (moved ahead.spaces by) total v
    ∙ ap (λ b. is_within ahead.content total v || b) (moved_is ahead.spaces by total v ∙ ap (λ z. is_within ahead.spaces (total -ℤ z) v) (sym e)))

any_ends : (test : ℕ → Bool) (end : Breaking) (place : ℕ) (places : List ℕ) → any_at end (test place) (list_any test places) ≡ list_any test (ends_at end place places)
any_ends test No place places = refl
any_ends test May place places = refl
any_ends test Must place places = refl

-- the ends from one place on, by those from the next
pub ends_more : (items : List FillItem) (q : ℕ) (d : FillItem) → q < length items → ends items q ≡ ends_at (break_at items q) (q + 1) (ends items (q + 1))
ends_more items q d inside =
    let m = drop_more items q d inside in
    rw m refl

solid_more : (items : List FillItem) (q : ℕ) (d : FillItem) → q < length items → solid (take (q + 1) items) ≡ solid_after (get_or items q d).space (solid (take q items)) (suc q)
solid_more items q d inside = sym (ap (λ p. p.solid) (place_more items q d inside))

greater : (from q : ℕ) → from ≤ q → max from (suc q) ≡ q + 1
greater from q h = omega arith

-- one step from right to left
pub tells_more : (items : List FillItem) (q : ℕ) (d : FillItem) (ahead : Ahead) → q < length items → Tells items (q + 1) ahead
    → Tells items q (behind (with_end ahead (break_at items q) (edges (take (q + 1) items))) (get_or items q d).space (advances (take (q + 1) items)))
tells_more items q d ahead inside tells = λ v from order.
    let start = place_before items from in
    let next = with_end ahead (break_at items q) (edges (take (q + 1) items)) in
    let content = place_before items (max from (solid (take (q + 1) items))) in
    let one : reaches (behind next (get_or items q d).space (advances (take (q + 1) items))) start (place_before items (max from (solid (take q items)))) v ≡ reaches next start content v =
    stepped v from order next (get_or items q d).space refl in
    let two = with_end_is ahead (break_at items q) (edges (take (q + 1) items)) start content v in
    let wide : int_le ((edges (take (q + 1) items) -ℤ start.edges) +ℤ (content.advances -ℤ start.advances)) v ≡ fits v items from (q + 1) =
    ap (λ z. int_le z v) (sym (width_is items from (q + 1) (omega arith) (omega arith))) in
    one ∙ (two ∙ (ap (λ b. any_at (break_at items q) b (reaches ahead start content v)) wide
    ∙ (ap (any_at (break_at items q) (fits v items from (q + 1))) (tells v from (omega arith))
    ∙ (any_ends (fits v items from) (break_at items q) (q + 1) (ends items (q + 1)) ∙ ap (list_any (fits v items from)) (sym (ends_more items q d inside))))))
  where
    stepped : (v : ℤ) (from : ℕ) → from ≤ q → (next : Ahead) (space : Bool) → (get_or items q d).space ≡ space
        → reaches (behind next (get_or items q d).space (advances (take (q + 1) items))) (place_before items from) (place_before items (max from (solid (take q items)))) v
        ≡ reaches next (place_before items from) (place_before items (max from (solid (take (q + 1) items)))) v
    stepped v from order next true e =
        let s : solid (take (q + 1) items) ≡ solid (take q items) = solid_more items q d inside ∙ ap (λ b. solid_after b (solid (take q items)) (suc q)) e in
        ap (λ b. reaches (behind next b (advances (take (q + 1) items))) (place_before items from) (place_before items (max from (solid (take q items)))) v) e
        ∙ ap (λ n. reaches next (place_before items from) (place_before items (max from n)) v) (sym s)
    stepped v from order next false e =
        let s : solid (take (q + 1) items) ≡ suc q = solid_more items q d inside ∙ ap (λ b. solid_after b (solid (take q items)) (suc q)) e in
        let m : max from (solid (take (q + 1) items)) ≡ q + 1 = rw s (greater from q order) in
        ap (λ b. reaches (behind next b (advances (take (q + 1) items))) (place_before items from) (place_before items (max from (solid (take q items)))) v) e
        ∙ behind_is next (advances (take (q + 1) items)) (place_before items from) (place_before items (max from (solid (take (q + 1) items)))) (place_before items (max from (solid (take q items)))) v
        (ap (λ n. advances (take n items)) m)

-- what holds of each element, and of one that is put behind them
each_pushed : (P : ℕ → Ahead → Type 0) (aheads : List Ahead) (ahead : Ahead) → ((k : ℕ) (a : Ahead) → slice_get aheads k ≡ Some a → P k a) → P (length aheads) ahead
    → (k : ℕ) (a : Ahead) → slice_get (aheads ++ ahead ∷ []) k ≡ Some a → P k a
each_pushed P aheads ahead each last k a at =
    let within = slice_get_within (aheads ++ ahead ∷ []) k a at in
    let l = length-append aheads (ahead ∷ []) in
    go (eq-or-lt_of_le (omega arith))
  where
    found : get_or (aheads ++ ahead ∷ []) k a ≡ a
    found = get_or_from_slice_get (aheads ++ ahead ∷ []) k a a at

    go : (k ≡ length aheads) ⊎ (k < length aheads) → P k a
    go (inr low) = each k a (slice_get-get_or aheads k a low ∙ ap Some (sym (get_or_append_left aheads (ahead ∷ []) a k low) ∙ found))
    go (inl e) =
        let same : ahead ≡ a = sym (get_or-append_seam aheads ahead [] a) ∙ (ap (λ n. get_or (aheads ++ ahead ∷ []) n a) (sym e) ∙ found) in
        subst (λ n. P n a) (sym e) (subst (λ b. P (length aheads) b) same last)

less : (n : ℕ) → n - 0 ≡ n
less n = omega arith

nowhere : (k : ℕ) → k < 0 → ⊥
nowhere k h = omega arith

-- the loop has come to a place
pub record Known (items : List FillItem) (aheads : List Ahead) (ahead : Ahead) (place : ℕ) : Type 0 where
  pub inside : place ≤ length items
  pub count : length aheads + place ≡ suc (length items)
  pub each : (k : ℕ) (a : Ahead) → slice_get aheads k ≡ Some a → Tells items (length items - k) a × IsNearAhead a
  pub tells : Tells items place ahead
  pub near : IsNearAhead ahead

pub known_on : (items : List FillItem) (aheads more : List Ahead) (ahead middle next : Ahead) (place : ℕ) (d : FillItem) (end : Breaking) (e a : ℤ) → 0 < place
    → end ≡ break_at items (place - 1) → e ≡ edges (take place items) → a ≡ advances (take place items)
    → middle ≡ with_end ahead end e → next ≡ behind middle (get_or items (place - 1) d).space a → IsNearAhead next → more ≡ aheads ++ next ∷ []
    → Known items aheads ahead place → Known items more next (place - 1)
known_on items aheads more ahead middle next place d end e a some ends_so edges_so advances_so begun stepped near pushed known =
    let inside = known.inside in
    let count = known.count in
    let one : (place - 1) + 1 ≡ place = omega arith in
    let before : Tells items ((place - 1) + 1) ahead = rw one known.tells in
    let t : Tells items (place - 1) (behind (with_end ahead (break_at items (place - 1)) (edges (take ((place - 1) + 1) items))) (get_or items (place - 1) d).space (advances (take ((place - 1) + 1) items))) =
    tells_more items (place - 1) d ahead (omega arith) before in
    let t' : Tells items (place - 1) (behind (with_end ahead (break_at items (place - 1)) (edges (take place items))) (get_or items (place - 1) d).space (advances (take place items))) = rw one at t in
    let same : next ≡ behind (with_end ahead (break_at items (place - 1)) (edges (take place items))) (get_or items (place - 1) d).space (advances (take place items)) =
    stepped ∙ rw (begun, ends_so, edges_so, advances_so) refl in
    let told : Tells items (place - 1) next = subst (λ x. Tells items (place - 1) x) (sym same) t' in
    let number : length items - length aheads ≡ place - 1 = omega arith in
    rw pushed (record {
      inside = omega arith;
      count = let l = length-append aheads (next ∷ []) in omega arith;
      each = each_pushed (λ k b. Tells items (length items - k) b × IsNearAhead b) aheads next known.each (subst (λ n. Tells items n next) (sym number) told, near);
      tells = told;
      near = near;
    })

-- the last item ends a line
pub break_last : (items : List FillItem) (place : ℕ) (d : FillItem) → place < length items → length items ≤ place + 1 → Must ≡ break_at items place
break_last items place d inside last =
    let m = drop_more items place d inside in
    let none = drop_all (place + 1) items last in
    rw (m, none) refl

-- whether a line fits is told by content, else by spaces
pub goes_then : (items : List FillItem) (ahead : Ahead) (from place : ℕ) (v total : ℤ) (r : Bool) → Tells items place ahead → from ≤ place → r ≡ is_within ahead.content total v
    → total ≡ edges (take from items) +ℤ advances (take from items) → r ≡ true → r ≡ list_any (fits v items from) (ends items place)
goes_then items ahead from place v total r tells order told e some =
    let start = place_before items from in
    let base = (start.edges +ℤ start.advances) -ℤ (place_before items (max from (solid (take place items)))).advances in
    let w : is_within ahead.content (start.edges +ℤ start.advances) v ≡ true = ap (λ z. is_within ahead.content z v) (sym e) ∙ (sym told ∙ some) in
    some ∙ (sym (ap (λ b. b || is_within ahead.spaces base v) w) ∙ tells v from order)

pub goes_else : (items : List FillItem) (ahead : Ahead) (from place : ℕ) (v total base : ℤ) (one r : Bool) → Tells items place ahead → from ≤ place → one ≡ is_within ahead.content total v
    → total ≡ edges (take from items) +ℤ advances (take from items) → one ≡ false
    → r ≡ is_within ahead.spaces base v → base ≡ total -ℤ advances (take (max from (solid (take place items))) items)
    → r ≡ list_any (fits v items from) (ends items place)
goes_else items ahead from place v total base one r tells order first e none told b =
    let start = place_before items from in
    let here = (start.edges +ℤ start.advances) -ℤ (place_before items (max from (solid (take place items)))).advances in
    let w : is_within ahead.content (start.edges +ℤ start.advances) v ≡ false = ap (λ z. is_within ahead.content z v) (sym e) ∙ (sym first ∙ none) in
    let same : base ≡ here = b ∙ ap (λ z. z -ℤ advances (take (max from (solid (take place items))) items)) e in
    told ∙ (ap (λ z. is_within ahead.spaces z v) same ∙ (sym (ap (λ b. b || is_within ahead.spaces here v) w) ∙ tells v from order))

-- what stands in the list of what lies ahead
pub ahead_told : (items : List FillItem) (aheads : List Ahead) (place : ℕ) (ahead : Ahead) → place ≤ length items → ahead ≡ get_or aheads (length items - place) ahead → AreAhead items aheads
    → Tells items place ahead × IsNearAhead ahead
ahead_told items aheads place ahead within at are =
    let count = are.count in
    let told = are.each (length items - place) ahead (slice_get_read aheads (length aheads) (length items - place) ahead refl (omega arith) at) in
    let same : length items - (length items - place) ≡ place = omega arith in
    (subst (λ n. Tells items n ahead) same told.0, told.1)

pub within_more : (length : Option ℤ) → Within (2 ^ 60) length → Within (2 ^ 61) length
within_more None h = tt
within_more (Some z) h = omega arith
