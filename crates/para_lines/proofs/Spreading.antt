-- How far the items of a paragraph reach, with the edges of boxes round them.
use Rattle.std.proofs.Common.{inl, inr, ◌≡◌, ◌∙◌, refl, sym, ap, arith, subst, if◌then◌else◌, Bool, true, false, cond, not, ◌||◌, ℕ, zero, suc, ◌+◌, ◌-◌, ◌*◌, ◌<◌, ◌≤◌, ◌^◌, List, [], ◌∷◌, length, map, get_or, Option, Some, None, ℤ, pos, ◌+ℤ◌, unsigned_abs}
use Rattle.std.specs.Prelude.{⊤, All, ◌==◌}
use Rattle.std.proofs.lemmas.Int.{ints, clamps}
use Rattle.std.proofs.lemmas.List.Sums.{sum_by-cons}
use Rattle.std.proofs.lemmas.Bool.{cases_eq, cases_lt, eq-eqb, ne_eqb}
use Rattle.wm_units.specs.Numbers.{cap, percent}
use Rattle.wm_modes.specs.Sides.{side_of}
use Rattle.wm_modes.specs.declared.sides.FlowSide.{FlowSide}
use Rattle.wm_modes.specs.declared.sides.FlowSide.TheVariants.{InlineStart, InlineEnd}
use Rattle.wm_modes.specs.declared.sides.Side.{Side}
use Rattle.wm_modes.specs.declared.sides.Side.TheVariants.{Top, Right, Bottom, Left}
use Rattle.fragment_types.specs.declared.breaking.Breaking.{Breaking}
use Rattle.style_types.specs.declared.style.Size.{Size}
use Rattle.style_types.specs.declared.style.Size.TheVariants.{Auto, Length, Percent}
use Rattle.style_types.specs.declared.style.Style.{Style}
use Rattle.fragment_types.specs.Item.{Entry, text, begins, ends, atom, line_break}
use Rattle.style_types.specs.Style.{IsBounded, IsExtent, IsMargin, IsPadding}
use Rattle.line_fill.specs.Item.{spread, lengths_of as fill_lengths}
use Rattle.para_prepare.specs.declared.item.PreparedItem.{PreparedItem}
use Rattle.para_prepare.specs.declared.item.PreparedContent.{PreparedContent}
use Rattle.para_prepare.specs.declared.item.PreparedContent.TheVariants.{Unit, Combined, Atom, Break}
use Rattle.para_prepare.specs.Preparation.{Preparation}
use Rattle.para_prepare.specs.Parts.{used_direction}
use Rattle.para_lines.specs.declared.filling.BoxSide.{BoxSide}
use Rattle.para_lines.specs.declared.filling.BoxSide.TheVariants.{Start, End}
use Rattle.para_lines.specs.Around.{box_at, box_by, has, no_entry, opened_past}
use Rattle.para_lines.specs.Edges.{inline_edge, inner_edge_on, margin_on, resolved}
use Rattle.para_lines.specs.Boxes.{Begins, HasBounds, apart, chain_at, chain_behind}
use Rattle.para_lines.specs.Filling.{advance_of, fill_item, fill_items, fill_items_from, first_chain, past}
use Rattle.para_lines.specs.Prepared.{AreSources, edge_of, edges_of, first_source}
use Rattle.para_lines.specs.Reach.{AreNear, HasAdvance, Rise, lengths_of}
use Rattle.para_lines.proofs.Chaining.{AreLinked, Stands, at, has_below, linked, no_more, none_apart, rest_low_at, stands, step, there}
use Rattle.para_lines.proofs.FillLaws.{closing_apart, opening_apart}

-- ---- how many boxes begin and end between two entries

inside_before : (entries : List Entry) (box s t : ℕ) → Stands entries box s → Stands entries box t → s ≤ t → has (at 0 [] entries t) box ≡ true → has (at 0 [] entries s) box ≡ true
inside_before entries box s t (inl (in_, is)) later le there_ = in_
inside_before entries box s t (inr (out, past_)) (inl (in_, is)) le there_ =
    let low = rest_low_at entries box t in
    let far = ap (λ e. e.place) is in
    absurd (omega arith)
inside_before entries box s t (inr (out, past_)) (inr (out2, past2)) le there_ = absurd (let no : false ≡ true = sym out2 ∙ there_ in cc)

first_in : (box : ℕ) (chain : List ℕ) → has (box ∷ chain) box ≡ true
first_in box chain = rw (eq-eqb box box refl) refl

-- boxes round an entry that aren't round an earlier one begin between the two
opened_from : (entries : List Entry) (s t limit : ℕ) (chain : List ℕ) → s ≤ t → t ≤ length entries → limit ≤ t → AreLinked entries limit chain
    → ((x : ℕ) → has chain x ≡ true → has (at 0 [] entries t) x ≡ true) → length (apart chain (at 0 [] entries s)) ≤ limit - s
opened_from entries s t limit [] le within under h in_ = omega arith
opened_from entries s t limit (box ∷ chain) le within under h in_ =
    let b = h.0 in
    elim (cases_lt box s) [
      | inl before ↦
          let own : has (at 0 [] entries s) box ≡ true =
          inside_before entries box s t (stands entries box s h.2 before (omega arith)) (stands entries box t h.2 (omega arith) within) le (in_ box (first_in box chain)) in
          let none : apart (box ∷ at 0 [] entries box) (at 0 [] entries s) ≡ [] = no_more entries s box (at 0 [] entries s) (linked entries s (omega arith)) own in
          let c : apart (box ∷ chain) (at 0 [] entries s) ≡ [] = ap (λ (c : List ℕ). apart (box ∷ c) (at 0 [] entries s)) h.3 ∙ none in
          rw c (omega arith)
      | inr behind ↦
          let rest = opened_from entries s t box chain le within (omega arith) h.4 (λ x e. in_ x (or_true (box == x) (has chain x) e)) in
          rw (has_below entries box s (at 0 [] entries s) (linked entries s (omega arith)) behind) (omega arith)
    ] where
      or_true : (a b : Bool) → b ≡ true → (a || b) ≡ true
      or_true true b e = refl
      or_true false b e = e

pub opened_count : (entries : List Entry) (s t : ℕ) → s ≤ t → t ≤ length entries → length (apart (at 0 [] entries t) (at 0 [] entries s)) ≤ t - s
opened_count entries s t le within = opened_from entries s t t (at 0 [] entries t) le within (omega arith) (linked entries t within) (λ x e. e)

same_apart : (entries : List Entry) (limit box : ℕ) (chain other : List ℕ) → limit ≤ box → AreLinked entries limit chain → apart chain other ≡ apart chain (box ∷ other)
same_apart entries limit box [] other le h = refl
same_apart entries limit box (x ∷ chain) other le h =
    let b = h.0 in
    let no : (box == x) ≡ false = ne_eqb box x (λ e. absurd (omega arith)) in
    rw no (ap (λ (c : List ℕ). if not (has other x) then x ∷ c else c) (same_apart entries x box chain other (omega arith) h.4))

-- where a box is taken out of the other chain, one more is apart from it at most
one_less : (entries : List Entry) (limit box : ℕ) (chain other : List ℕ) → AreLinked entries limit chain → length (apart chain other) ≤ length (apart chain (box ∷ other)) + 1
one_less entries limit box [] other h = omega arith
one_less entries limit box (x ∷ chain) other h =
    elim (cases_eq box x) [
      | inl e ↦
          let same = same_apart entries x box chain other (omega arith) h.4 in
          let l = ap length same in
          rw (eq-eqb box x e) (kept (has other x) l)
      | inr n ↦ rw (ne_eqb box x n) (both (has other x) (one_less entries x box chain other h.4))
    ] where
      kept : (b : Bool) → length (apart chain other) ≡ length (apart chain (box ∷ other)) → length (if not b then x ∷ apart chain other else apart chain other) ≤ length (apart chain (box ∷ other)) + 1
      kept true l = omega arith
      kept false l = omega arith

      both : (b : Bool) → length (apart chain other) ≤ length (apart chain (box ∷ other)) + 1
          → length (if not b then x ∷ apart chain other else apart chain other) ≤ length (if not b then x ∷ apart chain (box ∷ other) else apart chain (box ∷ other)) + 1
      both true l = omega arith
      both false l = omega arith

more_in : (box : ℕ) (chain other : List ℕ) → length (apart chain (box ∷ other)) ≤ length (apart chain other)
more_in box [] other = omega arith
more_in box (x ∷ chain) other = go (box == x) (has other x) (more_in box chain other) where
  go : (a b : Bool) → length (apart chain (box ∷ other)) ≤ length (apart chain other)
      → length (if not (a || b) then x ∷ apart chain (box ∷ other) else apart chain (box ∷ other)) ≤ length (if not b then x ∷ apart chain other else apart chain other)
  go true true l = l
  go true false l = omega arith
  go false true l = l
  go false false l = omega arith

closed_step : (entries : List Entry) (limit k : ℕ) (entry : Entry) (chain other : List ℕ) → AreLinked entries limit chain → length (apart chain (opened_past k entry other)) ≤ length (apart chain other) + 1
closed_step entries limit k (begins node style edges) chain other h = let m = more_in k chain other in omega arith
closed_step entries limit k (ends node edges) chain [] h = omega arith
closed_step entries limit k (ends node edges) chain (box ∷ other) h = one_less entries limit box chain other h
closed_step entries limit k (text node bytes style) chain other h = omega arith
closed_step entries limit k (atom name) chain other h = omega arith
closed_step entries limit k (line_break node) chain other h = omega arith

closed_by : (entries : List Entry) (s d : ℕ) → s + d ≤ length entries → length (apart (at 0 [] entries s) (at 0 [] entries (s + d))) ≤ d
closed_by entries s zero within =
    let e : s + 0 ≡ s = omega arith in
    let none : apart (at 0 [] entries s) (at 0 [] entries (s + 0)) ≡ [] = ap (λ k. apart (at 0 [] entries s) (at 0 [] entries k)) e ∙ none_apart (at 0 [] entries s) (at 0 [] entries s) (λ x i. i) in
    rw none (omega arith)
closed_by entries s (suc d) within =
    let e : suc (s + d) ≡ s + suc d = omega arith in
    let rest = closed_by entries s d (omega arith) in
    let more = closed_step entries s (s + d) (get_or entries (s + d) no_entry) (at 0 [] entries s) (at 0 [] entries (s + d)) (linked entries s (omega arith)) in
    rw (← e) (rw (step entries (s + d) no_entry (omega arith)) (omega arith))

-- boxes round an entry that aren't round a later one end between the two
pub closed_count : (entries : List Entry) (s t : ℕ) → s ≤ t → t ≤ length entries → length (apart (at 0 [] entries s) (at 0 [] entries t)) ≤ t - s
closed_count entries s t le within =
    let e : s + (t - s) ≡ t = omega arith in
    rw (← e) (let c = closed_by entries s (t - s) (omega arith) in omega arith)

all_apart : (limit : ℕ) (entries : List Entry) (chain other : List ℕ) → AreLinked entries limit chain → length (apart chain other) ≤ limit
all_apart limit entries [] other h = omega arith
all_apart limit entries (box ∷ chain) other h = go (has other box) (all_apart box entries chain other h.4) where
  go : (b : Bool) → length (apart chain other) ≤ box → length (if not b then box ∷ apart chain other else apart chain other) ≤ limit
  go true l = let b = h.0 in omega arith
  go false l = let b = h.0 in omega arith

-- ---- the edges of some boxes

pub abs_add : (a b : ℤ) → unsigned_abs (a +ℤ b) ≤ unsigned_abs a + unsigned_abs b
abs_add a b = omega (arith, ints)

resolved_near : (inline : Option ℤ) (size : Size) → IsMargin size → unsigned_abs (resolved inline size) ≤ 2 ^ 32
resolved_near inline Auto h = omega (arith, ints)
resolved_near inline (Length length) h = h
resolved_near None (Percent hundredths) h = omega (arith, ints)
resolved_near (Some size) (Percent hundredths) h = cap_near (percent hundredths size) where
  cap_near : (z : ℤ) → unsigned_abs (cap z) ≤ 2 ^ 32
  cap_near z = omega (arith, ints, clamps)

pub margin_near : (inline : Option ℤ) (style : Style) (side : Side) → IsBounded style → unsigned_abs (margin_on inline style side) ≤ 2 ^ 32
margin_near inline style Top h = resolved_near inline style.margin.top h.margin.top
margin_near inline style Right h = resolved_near inline style.margin.right h.margin.right
margin_near inline style Bottom h = resolved_near inline style.margin.bottom h.margin.bottom
margin_near inline style Left h = resolved_near inline style.margin.left h.margin.left

extent_near : (z : ℤ) → IsExtent z → unsigned_abs z ≤ 2 ^ 32
extent_near z h = let low = h.0 in let high = h.1 in omega (arith, ints)

padding_near : (inline : Option ℤ) (size : Size) → IsPadding size → unsigned_abs (resolved inline size) ≤ 2 ^ 32
padding_near inline Auto h = elim h [ ]
padding_near inline (Length length) h = extent_near length h
padding_near inline (Percent hundredths) h = resolved_near inline (Percent hundredths) h.1

pub inner_near : (inline : Option ℤ) (style : Style) (side : Side) → IsBounded style → unsigned_abs (inner_edge_on inline style side) ≤ 2 ^ 33
inner_near inline style Top h =
    let a = extent_near style.border.top h.border.top in
    let b = padding_near inline style.padding.top h.padding.top in
    let c = abs_add style.border.top (resolved inline style.padding.top) in
    omega arith
inner_near inline style Right h =
    let a = extent_near style.border.right h.border.right in
    let b = padding_near inline style.padding.right h.padding.right in
    let c = abs_add style.border.right (resolved inline style.padding.right) in
    omega arith
inner_near inline style Bottom h =
    let a = extent_near style.border.bottom h.border.bottom in
    let b = padding_near inline style.padding.bottom h.padding.bottom in
    let c = abs_add style.border.bottom (resolved inline style.padding.bottom) in
    omega arith
inner_near inline style Left h =
    let a = extent_near style.border.left h.border.left in
    let b = padding_near inline style.padding.left h.padding.left in
    let c = abs_add style.border.left (resolved inline style.padding.left) in
    omega arith

inline_near : (inline : Option ℤ) (style : Style) (side : FlowSide) → IsBounded style → unsigned_abs (inline_edge inline style side) ≤ 2 ^ 34
inline_near inline style side h =
    let page = side_of style.mode (used_direction style) side in
    let a = margin_near inline style page h in
    let b = inner_near inline style page h in
    let c = abs_add (margin_on inline style page) (inner_edge_on inline style page) in
    omega arith

style_bounded : (entry : Entry) (closes : Bool) (outer : List ℕ) → Begins entry → HasBounds entry → IsBounded (box_by entry closes outer).style
style_bounded (begins node style edges) closes outer b h = h
style_bounded (text node bytes style) closes outer b h = elim b [ ]
style_bounded (ends node edges) closes outer b h = elim b [ ]
style_bounded (atom name) closes outer b h = elim b [ ]
style_bounded (line_break node) closes outer b h = elim b [ ]

pub box_bounded : (entries : List Entry) (box : ℕ) → All HasBounds entries → box < length entries → Begins (get_or entries box no_entry) → IsBounded (box_at entries box).style
unfolding box_at
box_bounded entries box all lt b = style_bounded (get_or entries box no_entry) _ _ b (all box no_entry lt)

if_near : (b : Bool) (z : ℤ) (n : ℕ) → unsigned_abs z ≤ n → unsigned_abs (cond b z (pos 0)) ≤ n
if_near true z n h = h
if_near false z n h = omega (arith, ints)

edge_near : (inline : Option ℤ) (entries : List Entry) (side : BoxSide) (box : ℕ) → IsBounded (box_at entries box).style → unsigned_abs (edge_of inline entries side box) ≤ 2 ^ 34
edge_near inline entries Start box h = if_near (box_at entries box).opens _ (2 ^ 34) (inline_near inline (box_at entries box).style InlineStart h)
edge_near inline entries End box h = if_near (box_at entries box).closes _ (2 ^ 34) (inline_near inline (box_at entries box).style InlineEnd h)

edges_near : (inline : Option ℤ) (entries : List Entry) (side : BoxSide) (limit : ℕ) (chain other : List ℕ) → All HasBounds entries → AreLinked entries limit chain
    → unsigned_abs (edges_of inline entries side (apart chain other)) ≤ length (apart chain other) * 2 ^ 34
edges_near inline entries side limit [] other all h = omega (arith, ints)
edges_near inline entries side limit (box ∷ chain) other all h = go (has other box) (edges_near inline entries side box chain other all h.4) where
  go : (b : Bool) → unsigned_abs (edges_of inline entries side (apart chain other)) ≤ length (apart chain other) * 2 ^ 34
      → unsigned_abs (edges_of inline entries side (if not b then box ∷ apart chain other else apart chain other)) ≤ length (if not b then box ∷ apart chain other else apart chain other) * 2 ^ 34
  go true rest = rest
  go false rest =
      let own = edge_near inline entries side box (box_bounded entries box all h.1 h.2) in
      let sum = abs_add (edge_of inline entries side box) (edges_of inline entries side (apart chain other)) in
      omega arith

-- ---- all items together

-- how many ends of boxes can stand between an entry and these items, among them and behind them
abbrev room : (n from : ℕ) → List PreparedItem → ℕ
room n from [] = 0
room n from (item ∷ items) = (n - from) + ((n - item.source) + n)

-- the places of the entries that these items come from
abbrev AreThere : (n : ℕ) → List PreparedItem → Type 0
AreThere n [] = ⊤
AreThere n (item ∷ items) = (item.source < n) × AreThere n items

pub all_there : (n : ℕ) (items : List PreparedItem) → AreSources n items → AreThere n items
all_there n [] h = tt
all_there n (item ∷ items) h = (h 0 item (omega arith), all_there n items (λ k d lt. h (suc k) d (omega arith)))

abbrev pub AdvanceAll : List PreparedItem → Type 0
AdvanceAll [] = ⊤
AdvanceAll (item ∷ items) = HasAdvance item.what × AdvanceAll items

pub all_advance : (items : List PreparedItem) → All (λ item. HasAdvance item.what) items → AdvanceAll items
all_advance [] h = tt
all_advance (item ∷ items) h = (h 0 item (omega arith), all_advance items (λ k d lt. h (suc k) d (omega arith)))

-- an item's own advance and those of the atoms behind it
advance_near : (what : PreparedContent) (rest : List ℤ) → HasAdvance what → unsigned_abs (advance_of what rest) + lengths_of (past what rest) ≤ 655360 + lengths_of rest
advance_near (Unit form space node first end_ advance glyphs) rest h = omega arith
advance_near (Combined node first end_ advance natural glyphs) rest h = omega arith
advance_near (Break node) rest h = omega (arith, ints)
advance_near (Atom name) [] h = omega (arith, ints)
advance_near (Atom name) (a ∷ rest) h = let e = sum_by-cons unsigned_abs a rest in omega arith

-- the boxes that end between an item and the next one
after_near : (entries : List Entry) (item : PreparedItem) (items : List PreparedItem) → item.source < length entries → Rise item.source items → AreThere (length entries) items
    → length (apart (chain_at entries item.source) (chain_behind entries (first_source items))) + room (length entries) item.source items ≤ (length entries - item.source) + ((length entries - item.source) + length entries)
after_near entries item [] lt rise within =
    rw (there entries item.source [] lt) (let a = all_apart item.source entries (at 0 [] entries item.source) [] (linked entries item.source (omega arith)) in omega arith)
after_near entries item (next ∷ items) lt rise within =
    let r = rise.0 in
    let w = within.0 in
    rw (there entries item.source [] lt) (rw (there entries next.source [] w) (let c = closed_count entries item.source next.source r (omega arith) in omega arith))

pub before_near : (entries : List Entry) (from to : ℕ) → from ≤ to → to < length entries → length (apart (chain_at entries to) (at 0 [] entries from)) ≤ to - from
before_near entries from to le lt = rw (there entries to [] lt) (opened_count entries from to le (omega arith))

first_is : (entries : List Entry) (items : List PreparedItem) → first_chain (map (λ item. chain_at entries item.source) items) ≡ chain_behind entries (first_source items)
first_is entries [] = refl
first_is entries (item ∷ items) = refl

item_near : (inline : Option ℤ) (entries : List Entry) (item : PreparedItem) (end_ : Breaking) (from : ℕ) (after : List ℕ) (advance : ℤ) → All HasBounds entries → from ≤ item.source → item.source < length entries
    → fill_lengths (fill_item inline entries item end_ (at 0 [] entries from) (chain_at entries item.source) after advance)
    ≤ unsigned_abs advance + ((item.source - from) * 2 ^ 34 + length (apart (chain_at entries item.source) after) * 2 ^ 34)
item_near inline entries item end_ from after advance all le lt =
    let here : chain_at entries item.source ≡ at 0 [] entries item.source = there entries item.source [] lt in
    let l = linked entries item.source (let w : item.source ≤ length entries = omega arith in w) in
    let one = opening_apart inline entries (chain_at entries item.source) (at 0 [] entries from) in
    let two = closing_apart inline entries (chain_at entries item.source) after in
    let n = before_near entries from item.source le lt in
    let P : List ℕ → Type 0 = λ c. unsigned_abs (edges_of inline entries Start (apart c (at 0 [] entries from))) ≤ length (apart c (at 0 [] entries from)) * 2 ^ 34 in
    let Q : List ℕ → Type 0 = λ c. unsigned_abs (edges_of inline entries End (apart c after)) ≤ length (apart c after) * 2 ^ 34 in
    let a = subst P (sym here) (edges_near inline entries Start item.source (at 0 [] entries item.source) (at 0 [] entries from) all l) in
    let b = subst Q (sym here) (edges_near inline entries End item.source (at 0 [] entries item.source) after all l) in
    let e = ap unsigned_abs one in
    let f = ap unsigned_abs two in
    omega arith

spread_by : (inline : Option ℤ) (entries : List Entry) (from : ℕ) (items : List PreparedItem) (breaks : List Breaking) (rest : List ℤ) → All HasBounds entries → Rise from items → AreThere (length entries) items
    → AdvanceAll items
    → spread (fill_items_from inline entries (at 0 [] entries from) items breaks (map (λ item. chain_at entries item.source) items) rest)
    ≤ room (length entries) from items * 2 ^ 34 + (length items * 655360 + lengths_of rest)
spread_by inline entries from [] breaks rest all rise within advances = omega arith
spread_by inline entries from (item ∷ items) [] rest all rise within advances = omega arith
spread_by inline entries from (item ∷ items) (end_ ∷ breaks) rest all rise within advances =
    let r = rise.0 in
    let w = within.0 in
    let after = first_chain (map (λ item. chain_at entries item.source) items) in
    let own = fill_item inline entries item end_ (at 0 [] entries from) (chain_at entries item.source) after (advance_of item.what rest) in
    let others = fill_items_from inline entries (chain_at entries item.source) items breaks (map (λ item. chain_at entries item.source) items) (past item.what rest) in
    let c = sum_by-cons fill_lengths own others in
    let o : fill_lengths own ≤ unsigned_abs (advance_of item.what rest) + ((item.source - from) * 2 ^ 34 + length (apart (chain_at entries item.source) after) * 2 ^ 34) = item_near inline entries item end_ from after (advance_of item.what rest) all r w in
    let a = advance_near item.what rest advances.0 in
    let b : length (apart (chain_at entries item.source) after) + room (length entries) item.source items ≤ (length entries - item.source) + ((length entries - item.source) + length entries) =
    rw (first_is entries items) (after_near entries item items w rise.1 within.1) in
    let P : List ℕ → Type 0 = λ before. spread (fill_items_from inline entries before items breaks (map (λ item. chain_at entries item.source) items) (past item.what rest))
    ≤ room (length entries) item.source items * 2 ^ 34 + (length items * 655360 + lengths_of (past item.what rest)) in
    let d = subst P (sym (there entries item.source [] w)) (spread_by inline entries item.source items breaks (past item.what rest) all rise.1 within.1 advances.1) in
    rw c (omega arith)

room_most : (n : ℕ) (items : List PreparedItem) → room n 0 items ≤ 3 * n
room_most n [] = omega arith
room_most n (item ∷ items) = omega arith

pub fill_spread : (inline : Option ℤ) (entries : List Entry) (prepared : Preparation) (advances : List ℤ) → All HasBounds entries → length entries ≤ 2 ^ 20 → AreSources (length entries) prepared.items
    → AreNear prepared.items → lengths_of advances ≤ 2 ^ 59 → spread (fill_items inline entries prepared advances) ≤ 2 ^ 60
unfolding fill_items
fill_spread inline entries prepared advances all few within near most =
    let s = spread_by inline entries 0 prepared.items prepared.breaks advances all near.rise (all_there (length entries) prepared.items within) (all_advance prepared.items near.advances) in
    let r = room_most (length entries) prepared.items in
    let m = near.few in
    omega arith
