-- Which boxes stand round an entry, step by step.
use Rattle.std.proofs.Common.{inl, inr, ◌≡◌, ◌∙◌, refl, sym, ap, arith, subst, Bool, true, false, cond, ◌||◌, ◌&&◌, ◌⊎◌, leb, ltb, ℕ, zero, suc, ◌+◌, ◌-◌, ◌*◌, ◌<◌, ◌≤◌, ◌^◌, List, [], ◌∷◌, ◌++◌, length, map, get_or, take, drop, set, Option, Some, None, ℤ, ◌+ℤ◌, unsigned_abs}
use Rattle.std.specs.Prelude.{⊤, All, IfSome, ◌==◌}
use Rattle.std.proofs.lemmas.Int.{ints}
use Rattle.std.proofs.lemmas.List.{append-nil, append_assoc, get_or-map, get_or-take, get_or_default, get_or_past, get_or-set_same, get_or-set_other, length-append, length-map, length-set, length-take-le, drop_more, take_all, take_more}
use Rattle.std.proofs.lemmas.Bool.{cases_eq, cases_lt, cond_both, eq-eqb, le-leb, le-ltb, lt-leb, lt-ltb, ne_eqb}
use Rattle.style_types.specs.declared.style.Style.{Style}
use Rattle.style_types.specs.Initial.{initial}
use Rattle.fragment_types.specs.declared.item.Item.{Item}
use Rattle.fragment_types.specs.Item.{Entry, text, begins, ends, atom, line_break, entry_of, entries_of}
use Rattle.para_lines.specs.declared.boxes.BoxEnd.{BoxEnd}
use Rattle.para_lines.specs.declared.boxes.Round.{Round}
use Rattle.para_lines.specs.Around.{box_at, box_by, chains, chains_from, closing_edges, ends_it, has, no_entry, opened_past, without_innermost}
use Rattle.para_lines.specs.Edges.{shifts}
use Rattle.para_lines.specs.Boxes.{AreEnds, Begins, HasBounds, apart, chain_at, chain_behind, end_from, end_of, ended, innermost, outer_round, round_of, round_past, with_end}

-- the boxes before the k-th of these entries, and behind the last
abbrev pub at : (place : ℕ) → (chain : List ℕ) → List Entry → ℕ → List ℕ
at place chain entries zero = chain
at place chain [] (suc k) = chain
at place chain (entry ∷ entries) (suc k) = at (place + 1) (opened_past place entry chain) entries k

pub count_from : (place : ℕ) (chain : List ℕ) (entries : List Entry) → length (chains_from place chain entries) ≡ length entries
count_from place chain [] = refl
count_from place chain (entry ∷ entries) = ap suc (count_from (place + 1) (opened_past place entry chain) entries)

pub count : (entries : List Entry) → length (chains entries) ≡ length entries
unfolding chains
count entries = count_from 0 [] entries

there_from : (place : ℕ) (chain : List ℕ) (entries : List Entry) (k : ℕ) (d : List ℕ) → k < length entries → get_or (chains_from place chain entries) k d ≡ at place chain entries k
there_from place chain [] k d lt = absurd (omega arith)
there_from place chain (entry ∷ entries) zero d lt = refl
there_from place chain (entry ∷ entries) (suc k) d lt = there_from (place + 1) (opened_past place entry chain) entries k d (omega arith)

pub there : (entries : List Entry) (k : ℕ) (d : List ℕ) → k < length entries → get_or (chains entries) k d ≡ at 0 [] entries k
unfolding chains
there entries k d lt = there_from 0 [] entries k d lt

step_from : (place : ℕ) (chain : List ℕ) (entries : List Entry) (k : ℕ) (d : Entry) → k < length entries
    → at place chain entries (suc k) ≡ opened_past (place + k) (get_or entries k d) (at place chain entries k)
step_from place chain [] k d lt = absurd (omega arith)
step_from place chain (entry ∷ entries) zero d lt = ap (λ p. opened_past p entry chain) (let e : place ≡ place + 0 = omega arith in e)
step_from place chain (entry ∷ entries) (suc k) d lt =
    let e : place + 1 + k ≡ place + suc k = omega arith in
    step_from (place + 1) (opened_past place entry chain) entries k d (omega arith)
    ∙ ap (λ p. opened_past p (get_or entries k d) (at (place + 1) (opened_past place entry chain) entries k)) e

-- the boxes behind an entry are those before it with it
pub step : (entries : List Entry) (k : ℕ) (d : Entry) → k < length entries → at 0 [] entries (suc k) ≡ opened_past k (get_or entries k d) (at 0 [] entries k)
step entries k d lt =
    let e : 0 + k ≡ k = omega arith in
    step_from 0 [] entries k d lt ∙ ap (λ p. opened_past p (get_or entries k d) (at 0 [] entries k)) e

-- each box of a chain begins before what stands in it, and the boxes round it are the rest of the chain
abbrev pub AreLinked : List Entry → (limit : ℕ) → List ℕ → Type 0
AreLinked entries limit [] = ⊤
AreLinked entries limit (box ∷ chain) =
    (box < limit) × (box < length entries) × Begins (get_or entries box no_entry) × (chain ≡ at 0 [] entries box) × AreLinked entries box chain

pub linked_above : (entries : List Entry) (low high : ℕ) (chain : List ℕ) → low ≤ high → AreLinked entries low chain → AreLinked entries high chain
linked_above entries low high [] le h = tt
linked_above entries low high (box ∷ chain) le h = let b = h.0 in (omega arith, h.1, h.2, h.3, h.4)

linked_past : (entries : List Entry) (k : ℕ) (entry : Entry) (chain : List ℕ) → k < length entries → get_or entries k no_entry ≡ entry → chain ≡ at 0 [] entries k → AreLinked entries k chain
    → AreLinked entries (suc k) (opened_past k entry chain)
linked_past entries k (begins node style edges) chain lt is here h =
    let P : Entry → Type 0 = λ e. Begins e in
    (omega arith, lt, subst P (sym is) tt, here, h)
linked_past entries k (ends node edges) [] lt is here h = tt
linked_past entries k (ends node edges) (box ∷ chain) lt is here h = let b = h.0 in linked_above entries box (suc k) chain (omega arith) h.4
linked_past entries k (text node bytes style) chain lt is here h = linked_above entries k (suc k) chain (omega arith) h
linked_past entries k (atom name) chain lt is here h = linked_above entries k (suc k) chain (omega arith) h
linked_past entries k (line_break node) chain lt is here h = linked_above entries k (suc k) chain (omega arith) h

pub linked : (entries : List Entry) (k : ℕ) → k ≤ length entries → AreLinked entries k (at 0 [] entries k)
linked entries zero le = tt
linked entries (suc k) le =
    let P : List ℕ → Type 0 = λ chain. AreLinked entries (suc k) chain in
    subst P (sym (step entries k no_entry (omega arith)))
    (linked_past entries k (get_or entries k no_entry) (at 0 [] entries k) (omega arith) refl refl (linked entries k (omega arith)))

-- ---- lengths of `vertical-align`

shift_near_by : (entry : Entry) (closes : Bool) (outer : List ℕ) → HasBounds entry → unsigned_abs (box_by entry closes outer).style.shift ≤ 2 ^ 32
unfolding initial
shift_near_by (begins node style edges) closes outer h = h.shift
shift_near_by (ends node edges) closes outer h = omega (arith, ints)
shift_near_by (text node bytes style) closes outer h = omega (arith, ints)
shift_near_by (atom name) closes outer h = omega (arith, ints)
shift_near_by (line_break node) closes outer h = omega (arith, ints)

pub bounds_at : (entries : List Entry) (k : ℕ) (d : Entry) → All HasBounds entries → k < length entries → HasBounds (get_or entries k d)
bounds_at entries k d all lt = all k d lt

shift_near : (entries : List Entry) (box : ℕ) → All HasBounds entries → box < length entries → unsigned_abs (box_at entries box).style.shift ≤ 2 ^ 32
unfolding box_at
shift_near entries box all lt = shift_near_by (get_or entries box no_entry) _ _ (all box no_entry lt)

abs_add : (a b : ℤ) → unsigned_abs (a +ℤ b) ≤ unsigned_abs a + unsigned_abs b
abs_add a b = omega (arith, ints)

pub shifts_near : (entries : List Entry) (limit : ℕ) (chain : List ℕ) → All HasBounds entries → AreLinked entries limit chain → unsigned_abs (shifts entries chain) ≤ limit * 2 ^ 32
shifts_near entries limit [] all h = omega (arith, ints)
shifts_near entries limit (box ∷ chain) all h =
    let b = h.0 in
    let own = shift_near entries box all h.1 in
    let rest = shifts_near entries box chain all h.4 in
    let sum = abs_add (box_at entries box).style.shift (shifts entries chain) in
    omega arith

-- ---- what stands round each entry, read in order

pub record Rounding (entries : List Entry) (k : ℕ) (rounds : List Round) (round : Round) : Type 0 where
  pub done : rounds ≡ take k (map (round_of entries) (chains entries))
  pub next : round ≡ round_of entries (at 0 [] entries k)

round_there : (entries : List Entry) (k : ℕ) (d : Round) → k < length entries → get_or (map (round_of entries) (chains entries)) k d ≡ round_of entries (at 0 [] entries k)
round_there entries k d lt =
    let n = count entries in
    get_or-map (round_of entries) (chains entries) k [] d (omega arith) ∙ ap (round_of entries) (there entries k [] lt)

style_there : (entries : List Entry) (k node : ℕ) (style : Style) (edges : Bool) → get_or entries k no_entry ≡ begins node style edges → (box_at entries k).style ≡ style
unfolding box_at
style_there entries k node style edges is =
    ap (λ entry. (box_by entry (closing_edges k entries (chains entries)) (get_or (chains entries) k [])).style) is

abbrev round_with : Option ℕ → ℤ → Round
round_with inside z = record { inside = inside; shifts = z }

-- the round behind the innermost box is the one before it
outer_there : (entries : List Entry) (k : ℕ) (chain : List ℕ) (round : Round) (rounds : List Round) → k ≤ length entries → AreLinked entries k chain
    → round ≡ round_of entries chain → rounds ≡ take (k + 1) (map (round_of entries) (chains entries))
    → outer_round round.inside round rounds ≡ round_of entries (without_innermost chain)
outer_there entries k [] round rounds le h is done = ap (λ (r : Round). outer_round r.inside r rounds) is ∙ refl
outer_there entries k (box ∷ chain) round rounds le h is done =
    let b = h.0 in
    ap (λ (r : Round). outer_round r.inside round rounds) is
    ∙ ap (λ (rs : List Round). get_or rs box round) done
    ∙ get_or-take (k + 1) (map (round_of entries) (chains entries)) box round (omega arith)
    ∙ round_there entries box round h.1
    ∙ ap (round_of entries) (sym h.3)

round_next : (entries : List Entry) (k : ℕ) (entry : Entry) (chain : List ℕ) (round : Round) (rounds : List Round) → k < length entries → get_or entries k no_entry ≡ entry → AreLinked entries k chain
    → round ≡ round_of entries chain → rounds ≡ take (k + 1) (map (round_of entries) (chains entries))
    → round_past k entry round rounds ≡ round_of entries (opened_past k entry chain)
round_next entries k (begins node style edges) chain round rounds lt here h is done =
    let s : (box_at entries k).style.shift ≡ style.shift = ap (λ (s : Style). s.shift) (style_there entries k node style edges here) in
    ap (λ (r : Round). round_with (Some k) (r.shifts +ℤ style.shift)) is
    ∙ ap (round_with (Some k)) (let e : shifts entries chain +ℤ style.shift ≡ style.shift +ℤ shifts entries chain = omega (arith, ints) in e)
    ∙ ap (λ z. round_with (Some k) (z +ℤ shifts entries chain)) (sym s)
round_next entries k (ends node edges) chain round rounds lt here h is done = outer_there entries k chain round rounds (omega arith) h is done
round_next entries k (text node bytes style) chain round rounds lt here h is done = is
round_next entries k (atom name) chain round rounds lt here h is done = is
round_next entries k (line_break node) chain round rounds lt here h is done = is

pub rounding_on : (entries : List Entry) (k : ℕ) (d : Entry) (rounds more : List Round) (round next : Round) → k < length entries
    → more ≡ rounds ++ round ∷ [] → next ≡ round_past k (get_or entries k d) round more → Rounding entries k rounds round → Rounding entries (k + 1) more next
rounding_on entries k d rounds more round next lt pushed is h =
    let n = count entries in
    let m = length-map (chains entries) (round_of entries) in
    let same : get_or entries k d ≡ get_or entries k no_entry = get_or_default entries k d no_entry lt in
    let done : more ≡ take (k + 1) (map (round_of entries) (chains entries)) =
    pushed
    ∙ ap (λ (rs : List Round). rs ++ round ∷ []) h.done
    ∙ ap (λ (r : Round). take k (map (round_of entries) (chains entries)) ++ r ∷ []) (h.next ∙ sym (round_there entries k round lt))
    ∙ sym (take_more (map (round_of entries) (chains entries)) k round (omega arith)) in
    let e : suc k ≡ k + 1 = omega arith in
    record {
      done = done;
      next =
          is
          ∙ ap (λ (entry : Entry). round_past k entry round more) same
          ∙ round_next entries k (get_or entries k no_entry) (at 0 [] entries k) round more lt refl (linked entries k (omega arith)) h.next done
          ∙ ap (round_of entries) (sym (step entries k no_entry lt))
          ∙ ap (λ j. round_of entries (at 0 [] entries j)) e;
    }

-- what a step of the loop asks for
pub rounding_near : (entries : List Entry) (k : ℕ) (rounds : List Round) (round : Round) → All HasBounds entries → k ≤ length entries → length entries ≤ 2 ^ 20 → Rounding entries k rounds round
    → unsigned_abs round.shifts ≤ 2 ^ 53
rounding_near entries k rounds round all le few h =
    let near = shifts_near entries k (at 0 [] entries k) all (linked entries k le) in
    rw h.next (omega arith)

inside_within : (entries : List Entry) (k : ℕ) (chain : List ℕ) → AreLinked entries k chain → IfSome (innermost chain) (λ box. box < k + 1)
inside_within entries k [] h = tt
inside_within entries k (box ∷ chain) h = let b = h.0 in omega arith

pub rounding_inside : (entries : List Entry) (k : ℕ) (rounds more : List Round) (round : Round) → k < length entries → more ≡ rounds ++ round ∷ [] → Rounding entries k rounds round
    → IfSome round.inside (λ box. box < length more)
rounding_inside entries k rounds more round lt pushed h =
    let n = count entries in
    let m = length-map (chains entries) (round_of entries) in
    let l : length more ≡ k + 1 = ap length pushed ∙ length-append rounds (round ∷ []) ∙ ap (λ (rs : List Round). length rs + 1) h.done ∙ ap (λ j. j + 1) (length-take-le k (map (round_of entries) (chains entries)) (omega arith)) in
    rw l (rw h.next (inside_within entries k (at 0 [] entries k) (linked entries k (omega arith))))

pub rounding_all : (entries : List Entry) (k : ℕ) (rounds : List Round) (round : Round) → length entries ≤ k → Rounding entries k rounds round → rounds ≡ map (round_of entries) (chains entries)
rounding_all entries k rounds round past h =
    let n = count entries in
    let m = length-map (chains entries) (round_of entries) in
    h.done ∙ take_all k (map (round_of entries) (chains entries)) (omega arith)

-- ---- where boxes end

-- one entry, by where the box ends from the next one on
abbrev pub hit : (box place : ℕ) → Entry → (chain : List ℕ) → (later : BoxEnd) → BoxEnd
hit box place (ends node edges) chain later = cond (ends_it box chain) (record { place = place; closes = edges }) later
hit box place (begins node style edges) chain later = later
hit box place (text node bytes style) chain later = later
hit box place (atom name) chain later = later
hit box place (line_break node) chain later = later

hit_is : (box place : ℕ) (entry : Entry) (chain : List ℕ) (entries : List Entry) (chains : List (List ℕ))
    → end_from box place (entry ∷ entries) (chain ∷ chains) ≡ hit box place entry chain (end_from box (place + 1) entries chains)
hit_is box place (ends node edges) chain entries chains = refl
hit_is box place (begins node style edges) chain entries chains = refl
hit_is box place (text node bytes style) chain entries chains = refl
hit_is box place (atom name) chain entries chains = refl
hit_is box place (line_break node) chain entries chains = refl

-- where a box ends, from a place on
abbrev pub rest_from : List Entry → (box place : ℕ) → BoxEnd
rest_from entries box place = end_from box place (drop place entries) (drop place (chains entries))

pub rest_step : (entries : List Entry) (box k : ℕ) (d : Entry) → k < length entries → rest_from entries box k ≡ hit box k (get_or entries k d) (at 0 [] entries k) (rest_from entries box (k + 1))
rest_step entries box k d lt =
    let n = count entries in
    ap (λ (es : List Entry). end_from box k es (drop k (chains entries))) (drop_more entries k d lt)
    ∙ ap (λ (cs : List (List ℕ)). end_from box k (get_or entries k d ∷ drop (k + 1) entries) cs) (drop_more (chains entries) k [] (omega arith))
    ∙ ap (λ (c : List ℕ). end_from box k (get_or entries k d ∷ drop (k + 1) entries) (c ∷ drop (k + 1) (chains entries))) (there entries k [] lt)
    ∙ hit_is box k (get_or entries k d) (at 0 [] entries k) (drop (k + 1) entries) (drop (k + 1) (chains entries))

low_hit : (box place : ℕ) (entry : Entry) (chain : List ℕ) (later : BoxEnd) → place ≤ later.place → place ≤ (hit box place entry chain later).place
low_hit box place (ends node edges) chain later le = cond_both (ends_it box chain) (record { place = place; closes = edges }) later (λ (e : BoxEnd). place ≤ e.place) (λ e. omega arith) (λ e. le)
low_hit box place (begins node style edges) chain later le = le
low_hit box place (text node bytes style) chain later le = le
low_hit box place (atom name) chain later le = le
low_hit box place (line_break node) chain later le = le

rest_low : (box place : ℕ) (entries : List Entry) (chains : List (List ℕ)) → place ≤ (end_from box place entries chains).place
rest_low box place [] chains = omega arith
rest_low box place (entry ∷ entries) [] = omega arith
rest_low box place (entry ∷ entries) (chain ∷ chains) =
    let later = rest_low box (place + 1) entries chains in
    rw (hit_is box place entry chain entries chains) (low_hit box place entry chain (end_from box (place + 1) entries chains) (omega arith))

-- the ends that entries from a place on make
pub record Ending (entries : List Entry) (place : ℕ) (marks : List BoxEnd) : Type 0 where
  pub count : length marks ≡ length entries
  pub each : (box : ℕ) (d : BoxEnd) → box < length entries → get_or marks box d ≡ rest_from entries box place
  pub within : place ≤ length entries

ended_there : (box place other : ℕ) (edges : Bool) (marks : List BoxEnd) (d later : BoxEnd) → other < length marks → get_or marks box d ≡ later
    → get_or (set marks other (record { place = place; closes = edges })) box d ≡ cond (other == box) (record { place = place; closes = edges }) later
ended_there box place other edges marks d later lt is =
    elim (cases_eq box other) [
      | inl e ↦ rw (eq-eqb other box (sym e)) (rw e (get_or-set_same marks other (record { place = place; closes = edges }) d lt))
      | inr n ↦ rw (ne_eqb other box (λ e. n (sym e))) (get_or-set_other marks other box (record { place = place; closes = edges }) d n ∙ is)
    ]

marked : (entries : List Entry) (box place : ℕ) (entry : Entry) (chain : List ℕ) (marks : List BoxEnd) (d later : BoxEnd) → length marks ≡ length entries → AreLinked entries place chain
    → get_or marks box d ≡ later → get_or (with_end place entry (innermost chain) marks) box d ≡ hit box place entry chain later
marked entries box place (ends node edges) [] marks d later same h is = is
marked entries box place (ends node edges) (other ∷ chain) marks d later same h is = let b = h.1 in ended_there box place other edges marks d later (omega arith) is
marked entries box place (begins node style edges) chain marks d later same h is = is
marked entries box place (text node bytes style) chain marks d later same h is = is
marked entries box place (atom name) chain marks d later same h is = is
marked entries box place (line_break node) chain marks d later same h is = is

ended_count : (place : ℕ) (edges : Bool) (inside : Option ℕ) (marks : List BoxEnd) → length (ended place edges inside marks) ≡ length marks
ended_count place edges None marks = refl
ended_count place edges (Some box) marks = length-set marks box (record { place = place; closes = edges })

with_end_count : (place : ℕ) (entry : Entry) (inside : Option ℕ) (marks : List BoxEnd) → length (with_end place entry inside marks) ≡ length marks
with_end_count place (ends node edges) inside marks = ended_count place edges inside marks
with_end_count place (begins node style edges) inside marks = refl
with_end_count place (text node bytes style) inside marks = refl
with_end_count place (atom name) inside marks = refl
with_end_count place (line_break node) inside marks = refl

pub ending_on : (entries : List Entry) (place : ℕ) (d : Entry) (inside : Option ℕ) (marks more : List BoxEnd) → 0 < place → inside ≡ innermost (at 0 [] entries (place - 1))
    → more ≡ with_end (place - 1) (get_or entries (place - 1) d) inside marks → Ending entries place marks → Ending entries (place - 1) more
ending_on entries place d inside marks more some here is h =
    let w = h.within in
    let c = h.count in
    let e : place - 1 + 1 ≡ place = omega arith in
    record {
      count = ap length is ∙ with_end_count (place - 1) (get_or entries (place - 1) d) inside marks ∙ h.count;
      each = λ box d2 lt.
          ap (λ (ms : List BoxEnd). get_or ms box d2) is
          ∙ ap (λ (o : Option ℕ). get_or (with_end (place - 1) (get_or entries (place - 1) d) o marks) box d2) here
          ∙ marked entries box (place - 1) (get_or entries (place - 1) d) (at 0 [] entries (place - 1)) marks d2 (rest_from entries box (place - 1 + 1)) c (linked entries (place - 1) (omega arith)) (h.each box d2 lt ∙ ap (rest_from entries box) (sym e))
          ∙ sym (rest_step entries box (place - 1) d (omega arith));
      within = omega arith;
    }

pub ending_inside : (entries : List Entry) (place : ℕ) (inside : Option ℕ) (marks : List BoxEnd) → 0 < place → inside ≡ innermost (at 0 [] entries (place - 1)) → Ending entries place marks
    → IfSome inside (λ box. box < length marks)
ending_inside entries place inside marks some here h =
    let w = h.within in
    rw here (rw h.count (within_all (at 0 [] entries (place - 1)) (linked entries (place - 1) (omega arith)))) where
      within_all : (chain : List ℕ) → AreLinked entries (place - 1) chain → IfSome (innermost chain) (λ box. box < length entries)
      within_all [] l = tt
      within_all (box ∷ chain) l = l.1

pub ending_all : (entries : List Entry) (marks : List BoxEnd) → Ending entries 0 marks → AreEnds entries marks
unfolding end_of
ending_all entries marks h = record { count = h.count; each = h.each }

-- the round that a table has there
pub inside_there : (entries : List Entry) (rounds : List Round) (k : ℕ) (d : Round) → rounds ≡ map (round_of entries) (chains entries) → k < length entries
    → get_or rounds k d ≡ round_of entries (at 0 [] entries k)
inside_there entries rounds k d is lt = ap (λ (rs : List Round). get_or rs k d) is ∙ round_there entries k d lt

pub entry_there : (items : List Item) (k : ℕ) (x : Item) (d : Entry) → k < length items → x ≡ get_or items k x → get_or (entries_of items) k d ≡ entry_of x
entry_there items k x d lt is = get_or-map entry_of items k x d lt ∙ ap entry_of (sym is)

-- ---- a box stands round what follows its beginning, up to its end

head_is : (entries : List Entry) (box place : ℕ) (chain : List ℕ) → AreLinked entries place chain → place ≤ box → ends_it box chain ≡ false
head_is entries box place [] h le = refl
head_is entries box place (other ∷ chain) h le = let b = h.0 in ne_eqb other box (λ e. absurd (omega arith))

pub has_below : (entries : List Entry) (box place : ℕ) (chain : List ℕ) → AreLinked entries place chain → place ≤ box → has chain box ≡ false
has_below entries box place [] h le = refl
has_below entries box place (other ∷ chain) h le =
    let b = h.0 in
    rw (ne_eqb other box (λ e. absurd (omega arith))) (has_below entries box other chain h.4 (omega arith))

passes_by : (box place : ℕ) (entry : Entry) (chain : List ℕ) (later : BoxEnd) → ends_it box chain ≡ false → hit box place entry chain later ≡ later
passes_by box place (ends node edges) chain later e = rw e refl
passes_by box place (begins node style edges) chain later e = refl
passes_by box place (text node bytes style) chain later e = refl
passes_by box place (atom name) chain later e = refl
passes_by box place (line_break node) chain later e = refl

-- no box ends before it has begun
not_yet : (entries : List Entry) (box k : ℕ) → k ≤ box + 1 → box < length entries → rest_from entries box 0 ≡ rest_from entries box k
not_yet entries box zero le lt = refl
not_yet entries box (suc k) le lt =
    let e : k + 1 ≡ suc k = omega arith in
    not_yet entries box k (omega arith) lt
    ∙ rest_step entries box k no_entry (omega arith)
    ∙ passes_by box k (get_or entries k no_entry) (at 0 [] entries k) (rest_from entries box (k + 1)) (head_is entries box k (at 0 [] entries k) (linked entries k (omega arith)) (omega arith))
    ∙ ap (rest_from entries box) e

-- a box that has begun stands round the entry and its end is to come, or has ended before it
abbrev pub Stands : List Entry → (box k : ℕ) → Type 0
Stands entries box k =
    ((has (at 0 [] entries k) box ≡ true) × (rest_from entries box 0 ≡ rest_from entries box k))
    ⊎ ((has (at 0 [] entries k) box ≡ false) × ((rest_from entries box 0).place < k))

abbrev OnStep : List Entry → (box k : ℕ) → (chain : List ℕ) → (now later : BoxEnd) → Type 0
OnStep entries box k chain now later =
    ((has chain box ≡ true) × (now ≡ later)) ⊎ ((has chain box ≡ false) × (now.place < k + 1))

stands_first : (entries : List Entry) (box : ℕ) (entry : Entry) (chain : List ℕ) → Begins entry → has (opened_past box entry chain) box ≡ true
stands_first entries box (begins node style edges) chain b = rw (eq-eqb box box refl) refl
stands_first entries box (text node letters style) chain b = elim b [ ]
stands_first entries box (ends node edges) chain b = elim b [ ]
stands_first entries box (atom name) chain b = elim b [ ]
stands_first entries box (line_break node) chain b = elim b [ ]

or_right : (a b : Bool) → a ≡ false → (a || b) ≡ b
or_right a b e = rw e refl

-- the box stands round this entry
inside_step : (entries : List Entry) (box k : ℕ) (entry : Entry) (chain : List ℕ) (later : BoxEnd) → AreLinked entries k chain → has chain box ≡ true
    → OnStep entries box k (opened_past k entry chain) (hit box k entry chain later) later
inside_step entries box k (begins node style edges) chain later h in_ = inl (rw in_ (or_true (k == box)), refl) where
  or_true : (b : Bool) → (b || true) ≡ true
  or_true true = refl
  or_true false = refl
inside_step entries box k (ends node edges) [] later h in_ = inl (in_, refl)
inside_step entries box k (ends node edges) (other ∷ chain) later h in_ =
    elim (cases_eq other box) [
      | inl e ↦ rw (eq-eqb other box e) (inr (has_below entries box other chain h.4 (omega arith), let l : k < k + 1 = omega arith in l))
      | inr n ↦
          let no : (other == box) ≡ false = ne_eqb other box n in
          rw no (inl (sym (or_right (other == box) (has chain box) no) ∙ in_, refl))
    ]
inside_step entries box k (text node bytes style) chain later h in_ = inl (in_, refl)
inside_step entries box k (atom name) chain later h in_ = inl (in_, refl)
inside_step entries box k (line_break node) chain later h in_ = inl (in_, refl)

-- it has ended before
outside_step : (box k : ℕ) (entry : Entry) (chain : List ℕ) → box < k → has chain box ≡ false → has (opened_past k entry chain) box ≡ false
outside_step box k (begins node style edges) chain lt out = rw (ne_eqb k box (λ e. absurd (omega arith))) out
outside_step box k (ends node edges) [] lt out = refl
outside_step box k (ends node edges) (other ∷ chain) lt out = right (other == box) (has chain box) out where
  right : (a b : Bool) → (a || b) ≡ false → b ≡ false
  right false b e = e
  right true b e = cc
outside_step box k (text node bytes style) chain lt out = out
outside_step box k (atom name) chain lt out = out
outside_step box k (line_break node) chain lt out = out

stands_step : (entries : List Entry) (box k : ℕ) → box < k → k < length entries → Stands entries box k → Stands entries box (suc k)
stands_step entries box k after_ lt (inl (in_, is)) =
    let e : k + 1 ≡ suc k = omega arith in
    let entry = get_or entries k no_entry in
    let chain = at 0 [] entries k in
    let now : rest_from entries box 0 ≡ hit box k entry chain (rest_from entries box (k + 1)) = is ∙ rest_step entries box k no_entry lt in
    rw (step entries k no_entry lt) (rw (← e) (rw now (inside_step entries box k entry chain (rest_from entries box (k + 1)) (linked entries k (omega arith)) in_)))
stands_step entries box k after_ lt (inr (out, past)) =
    rw (step entries k no_entry lt) (inr (outside_step box k (get_or entries k no_entry) (at 0 [] entries k) after_ out, let l : (rest_from entries box 0).place < suc k = omega arith in l))

pub stands : (entries : List Entry) (box k : ℕ) → Begins (get_or entries box no_entry) → box < k → k ≤ length entries → Stands entries box k
stands entries box zero begun lt le = absurd (omega arith)
stands entries box (suc k) begun lt le =
    elim (cases_eq box k) [
      | inl e ↦ inl (
        ap (λ j. has (at 0 [] entries (suc j)) box) (sym e) ∙ ap (λ (c : List ℕ). has c box) (step entries box no_entry (omega arith)) ∙ stands_first entries box (get_or entries box no_entry) (at 0 [] entries box) begun,
        not_yet entries box (suc k) (omega arith) (omega arith),
      )
      | inr n ↦ stands_step entries box k (omega arith) (omega arith) (stands entries box k begun (omega arith) (omega arith))
    ]

pub rest_low_at : (entries : List Entry) (box k : ℕ) → k ≤ (rest_from entries box k).place
rest_low_at entries box k = rest_low box k (drop k entries) (drop k (chains entries))

stands_told : (entries : List Entry) (box k : ℕ) → Stands entries box k → has (at 0 [] entries k) box ≡ leb k (rest_from entries box 0).place
stands_told entries box k (inl (in_, is)) =
    let low = rest_low_at entries box k in
    in_ ∙ sym (le-leb k (rest_from entries box 0).place (rw is low))
stands_told entries box k (inr (out, past)) = out ∙ sym (lt-leb k (rest_from entries box 0).place past)

pub has_is : (entries : List Entry) (box k : ℕ) → Begins (get_or entries box no_entry) → k < length entries
    → has (chain_at entries k) box ≡ (ltb box k && leb k (end_of entries box).place)
unfolding end_of
has_is entries box k begun lt =
    ap (λ (c : List ℕ). has c box) (there entries k [] lt)
    ∙ elim (cases_lt box k) [
      | inl after_ ↦ stands_told entries box k (stands entries box k begun after_ (omega arith)) ∙ sym (rw (lt-ltb box k after_) refl)
      | inr before ↦ has_below entries box k (at 0 [] entries k) (linked entries k (omega arith)) before ∙ sym (rw (le-ltb box k before) refl)
    ]

-- ---- the boxes of a chain that aren't in another

-- the boxes from one on outwards
abbrev pub chain_from_box : List Entry → (inside : Option ℕ) → List ℕ
chain_from_box entries None = []
chain_from_box entries (Some box) = box ∷ at 0 [] entries box

pub chain_is : (entries : List Entry) (limit : ℕ) (chain : List ℕ) → AreLinked entries limit chain → chain_from_box entries (innermost chain) ≡ chain
chain_is entries limit [] h = refl
chain_is entries limit (box ∷ chain) h = ap (λ (c : List ℕ). box ∷ c) (sym h.3)

pub outer_too : (entries : List Entry) (limit box : ℕ) (chain : List ℕ) → AreLinked entries limit chain → has chain box ≡ true → (x : ℕ) → has (at 0 [] entries box) x ≡ true → has chain x ≡ true
outer_too entries limit box [] h in_ x out = cc
outer_too entries limit box (other ∷ chain) h in_ x out =
    elim (cases_eq other box) [
      | inl e ↦ or_true (other == x) (has chain x) (ap (λ (c : List ℕ). has c x) (h.3 ∙ ap (at 0 [] entries) e) ∙ out)
      | inr n ↦ or_true (other == x) (has chain x) (outer_too entries other box chain h.4 (sym (or_right (other == box) (has chain box) (ne_eqb other box n)) ∙ in_) x out)
    ] where
      or_true : (a b : Bool) → b ≡ true → (a || b) ≡ true
      or_true true b e = refl
      or_true false b e = e

pub none_apart : (chain other : List ℕ) → ((x : ℕ) → has chain x ≡ true → has other x ≡ true) → apart chain other ≡ []
none_apart [] other h = refl
none_apart (box ∷ chain) other h =
    let own : has other box ≡ true = h box (rw (eq-eqb box box refl) refl) in
    rw own (none_apart chain other (λ x e. h x (or_true (box == x) (has chain x) e))) where
      or_true : (a b : Bool) → b ≡ true → (a || b) ≡ true
      or_true true b e = refl
      or_true false b e = e

-- a box that is in the other chain, and so are all round it
pub no_more : (entries : List Entry) (limit box : ℕ) (other : List ℕ) → AreLinked entries limit other → has other box ≡ true → apart (box ∷ at 0 [] entries box) other ≡ []
no_more entries limit box other h in_ = rw in_ (none_apart (at 0 [] entries box) other (outer_too entries limit box other h in_))

pub one_more : (entries : List Entry) (box : ℕ) (other : List ℕ) → has other box ≡ false → apart (box ∷ at 0 [] entries box) other ≡ box ∷ apart (at 0 [] entries box) other
one_more entries box other out = rw out refl

behind_linked : (entries : List Entry) (other : Option ℕ) → IfSome other (λ o. o < length entries) → AreLinked entries (length entries) (chain_behind entries other)
behind_linked entries None h = tt
behind_linked entries (Some place) h =
    let P : List ℕ → Type 0 = λ c. AreLinked entries (length entries) c in
    subst P (sym (there entries place [] h)) (linked_above entries place (length entries) (at 0 [] entries place) (omega arith) (linked entries place (omega arith)))

-- where a loop over a chain stands
pub record Climbing (entries : List Entry) (chain other : List ℕ) (inside : Option ℕ) (places : List ℕ) : Type 0 where
  pub done : places ++ apart (chain_from_box entries inside) other ≡ apart chain other
  pub linked : IfSome inside (λ box. (box < length entries) × Begins (get_or entries box no_entry))

innermost_linked : (entries : List Entry) (limit : ℕ) (chain : List ℕ) → AreLinked entries limit chain → IfSome (innermost chain) (λ box. (box < length entries) × Begins (get_or entries box no_entry))
innermost_linked entries limit [] h = tt
innermost_linked entries limit (box ∷ chain) h = (h.1, h.2)

pub climbing_first : (entries : List Entry) (place : ℕ) (other : List ℕ) (inside : Option ℕ) → place < length entries → inside ≡ innermost (at 0 [] entries place)
    → Climbing entries (chain_at entries place) other inside []
climbing_first entries place other inside lt is =
    rw is (record {
      done = ap (λ (c : List ℕ). apart c other) (chain_is entries place (at 0 [] entries place) (linked entries place (omega arith)) ∙ sym (there entries place [] lt));
      linked = innermost_linked entries place (at 0 [] entries place) (linked entries place (omega arith));
    })

pub climbing_on : (entries : List Entry) (chain other : List ℕ) (inside next : Option ℕ) (places more : List ℕ) (box : ℕ) → inside ≡ Some box → has other box ≡ false
    → more ≡ places ++ box ∷ [] → next ≡ innermost (at 0 [] entries box) → Climbing entries chain other inside places → Climbing entries chain other next more
climbing_on entries chain other inside next places more box at_ out pushed is h =
    let P : Option ℕ → Type 0 = λ o. IfSome o (λ b. (b < length entries) × Begins (get_or entries b no_entry)) in
    let l : (box < length entries) × Begins (get_or entries box no_entry) = subst P at_ h.linked in
    let lt = l.0 in
    let own = linked entries box (omega arith) in
    record {
      done =
          ap (λ (ps : List ℕ). ps ++ apart (chain_from_box entries next) other) pushed
          ∙ append_assoc places (box ∷ []) (apart (chain_from_box entries next) other)
          ∙ ap (λ (c : List ℕ). places ++ box ∷ apart c other) (ap (chain_from_box entries) is ∙ chain_is entries box (at 0 [] entries box) own)
          ∙ ap (λ (ps : List ℕ). places ++ ps) (sym (one_more entries box other out))
          ∙ ap (λ (o : Option ℕ). places ++ apart (chain_from_box entries o) other) (sym at_)
          ∙ h.done;
      linked = subst P (sym is) (innermost_linked entries box (at 0 [] entries box) own);
    }

pub climbing_stops : (entries : List Entry) (chain : List ℕ) (other : Option ℕ) (inside : Option ℕ) (places : List ℕ) (box : ℕ) → inside ≡ Some box → IfSome other (λ o. o < length entries)
    → has (chain_behind entries other) box ≡ true → Climbing entries chain (chain_behind entries other) inside places → places ≡ apart chain (chain_behind entries other)
climbing_stops entries chain other inside places box at_ within in_ h =
    sym (ap (λ (o : Option ℕ). places ++ apart (chain_from_box entries o) (chain_behind entries other)) at_
    ∙ ap (λ (ps : List ℕ). places ++ ps) (no_more entries (length entries) box (chain_behind entries other) (behind_linked entries other within) in_)
    ∙ append-nil places)
    ∙ h.done

pub climbing_ends : (entries : List Entry) (chain other : List ℕ) (inside : Option ℕ) (places : List ℕ) → inside ≡ None → Climbing entries chain other inside places → places ≡ apart chain other
climbing_ends entries chain other inside places at_ h =
    sym (ap (λ (o : Option ℕ). places ++ apart (chain_from_box entries o) other) at_ ∙ append-nil places) ∙ h.done

abbrev pub left_of : Option ℕ → ℕ
left_of None = 0
left_of (Some box) = suc box

pub left_near : (entries : List Entry) (limit : ℕ) (chain : List ℕ) → AreLinked entries limit chain → left_of (innermost chain) ≤ limit
left_near entries limit [] h = omega arith
left_near entries limit (box ∷ chain) h = let b = h.0 in omega arith

pub less_left : (entries : List Entry) (inside next : Option ℕ) (box : ℕ) → inside ≡ Some box → box < length entries → next ≡ innermost (at 0 [] entries box) → left_of next < left_of inside
less_left entries inside next box at_ lt is = rw at_ (rw is (let l = left_near entries box (at 0 [] entries box) (linked entries box (omega arith)) in omega arith))

-- ---- what tables tell

pub has_told : (entries : List Entry) (marks : List BoxEnd) (box place : ℕ) (mark : BoxEnd) (other : Option ℕ) → AreEnds entries marks → Begins (get_or entries box no_entry) → box < length entries
    → other ≡ Some place → place < length entries → box < place → mark ≡ get_or marks box mark → leb place mark.place ≡ has (chain_behind entries other) box
has_told entries marks box place mark other h begun lt at_ within after_ is =
    ap (λ (m : BoxEnd). leb place m.place) (is ∙ h.each box mark lt)
    ∙ sym (rw at_ (has_is entries box place begun within ∙ rw (lt-ltb box place after_) refl))

pub has_none : (entries : List Entry) (box place : ℕ) (other : Option ℕ) → other ≡ Some place → place < length entries → place ≤ box → ltb box place ≡ has (chain_behind entries other) box
has_none entries box place other at_ within before =
    le-ltb box place before
    ∙ sym (rw at_ (ap (λ (c : List ℕ). has c box) (there entries place [] within) ∙ has_below entries box place (at 0 [] entries place) (linked entries place (omega arith)) before))

pub begun_within : (entries : List Entry) (box : ℕ) → Begins (get_or entries box no_entry) → box < length entries
begun_within entries box begun =
    elim (cases_lt box (length entries)) [
      | inl lt ↦ lt
      | inr past ↦
          let P : Entry → Type 0 = λ e. Begins e in
          let no : ⊥ = subst P (get_or_past entries box no_entry past) begun in
          absurd no
    ]

pub table_count : (entries : List Entry) (rounds : List Round) → rounds ≡ map (round_of entries) (chains entries) → length rounds ≡ length entries
table_count entries rounds is = ap length is ∙ length-map (chains entries) (round_of entries) ∙ count entries

pub inside_read : (entries : List Entry) (rounds : List Round) (k : ℕ) (round : Round) → rounds ≡ map (round_of entries) (chains entries) → k < length entries → round ≡ get_or rounds k round
    → round.inside ≡ innermost (at 0 [] entries k)
inside_read entries rounds k round is lt read = ap (λ (r : Round). r.inside) (read ∙ inside_there entries rounds k round is lt)

pub climbing_within : (entries : List Entry) (chain other : List ℕ) (inside : Option ℕ) (places : List ℕ) (box : ℕ) → inside ≡ Some box → Climbing entries chain other inside places
    → (box < length entries) × Begins (get_or entries box no_entry)
climbing_within entries chain other inside places box at_ h =
    let P : Option ℕ → Type 0 = λ o. IfSome o (λ b. (b < length entries) × Begins (get_or entries b no_entry)) in
    subst P at_ h.linked

pub some_within : (other : Option ℕ) (place n : ℕ) → other ≡ Some place → IfSome other (λ o. o < n) → place < n
some_within other place n at_ h =
    let P : Option ℕ → Type 0 = λ o. IfSome o (λ p. p < n) in
    subst P at_ h

abbrev mark : ℕ → Bool → BoxEnd
mark place edges = record { place = place; closes = edges }

-- whether an end has edges
closes_is : (entries : List Entry) (chains : List (List ℕ)) (box place : ℕ) → (end_from box place entries chains).closes ≡ closing_edges box entries chains
closes_is [] chains box place = refl
closes_is (begins node style edges ∷ entries) [] box place = refl
closes_is (ends node edges ∷ entries) [] box place = refl
closes_is (text node bytes style ∷ entries) [] box place = refl
closes_is (atom name ∷ entries) [] box place = refl
closes_is (line_break node ∷ entries) [] box place = refl
closes_is (begins node style edges ∷ entries) (chain ∷ chains) box place = closes_is entries chains box (place + 1)
closes_is (text node bytes style ∷ entries) (chain ∷ chains) box place = closes_is entries chains box (place + 1)
closes_is (atom name ∷ entries) (chain ∷ chains) box place = closes_is entries chains box (place + 1)
closes_is (line_break node ∷ entries) (chain ∷ chains) box place = closes_is entries chains box (place + 1)
closes_is (ends node edges ∷ entries) (chain ∷ chains) box place = choose (ends_it box chain) (closes_is entries chains box (place + 1)) where
  choose : (b : Bool) → (end_from box (place + 1) entries chains).closes ≡ closing_edges box entries chains
      → (cond b (mark place edges) (end_from box (place + 1) entries chains)).closes ≡ cond b edges (closing_edges box entries chains)
  choose true rest = refl
  choose false rest = rest

pub closes_there : (entries : List Entry) (marks : List BoxEnd) (box : ℕ) (mark : BoxEnd) → AreEnds entries marks → box < length entries → mark ≡ get_or marks box mark
    → mark.closes ≡ (box_at entries box).closes
unfolding end_of box_at
closes_there entries marks box mark h lt read =
    ap (λ (m : BoxEnd). m.closes) (read ∙ h.each box mark lt)
    ∙ closes_is entries (chains entries) box 0
    ∙ sym (closes_by (get_or entries box no_entry) (closing_edges box entries (chains entries)) (get_or (chains entries) box [])) where
      closes_by : (entry : Entry) (closes : Bool) (outer : List ℕ) → (box_by entry closes outer).closes ≡ closes
      closes_by (begins node style edges) closes outer = refl
      closes_by (ends node edges) closes outer = refl
      closes_by (text node bytes style) closes outer = refl
      closes_by (atom name) closes outer = refl
      closes_by (line_break node) closes outer = refl

node_by : (entry : Entry) (a b : Bool) (c d : List ℕ) → (box_by entry a c).node ≡ (box_by entry b d).node
node_by (begins node style edges) a b c d = refl
node_by (ends node edges) a b c d = refl
node_by (text node bytes style) a b c d = refl
node_by (atom name) a b c d = refl
node_by (line_break node) a b c d = refl

style_by : (entry : Entry) (a b : Bool) (c d : List ℕ) → (box_by entry a c).style ≡ (box_by entry b d).style
style_by (begins node style edges) a b c d = refl
style_by (ends node edges) a b c d = refl
style_by (text node bytes style) a b c d = refl
style_by (atom name) a b c d = refl
style_by (line_break node) a b c d = refl

opens_by : (entry : Entry) (a b : Bool) (c d : List ℕ) → (box_by entry a c).opens ≡ (box_by entry b d).opens
opens_by (begins node style edges) a b c d = refl
opens_by (ends node edges) a b c d = refl
opens_by (text node bytes style) a b c d = refl
opens_by (atom name) a b c d = refl
opens_by (line_break node) a b c d = refl

-- what the box of an entry is, read off the item there
pub node_there : (items : List Item) (place : ℕ) (x : Item) (closes : Bool) → place < length items → x ≡ get_or items place x → (box_by (entry_of x) closes []).node ≡ (box_at (entries_of items) place).node
unfolding box_at
node_there items place x closes lt read =
    node_by (entry_of x) _ _ _ _ ∙ ap (λ (e : Entry). (box_by e (closing_edges place (entries_of items) (chains (entries_of items))) (get_or (chains (entries_of items)) place [])).node) (sym (entry_there items place x no_entry lt read))

pub box_style_there : (items : List Item) (place : ℕ) (x : Item) (closes : Bool) → place < length items → x ≡ get_or items place x → (box_by (entry_of x) closes []).style ≡ (box_at (entries_of items) place).style
unfolding box_at
box_style_there items place x closes lt read =
    style_by (entry_of x) _ _ _ _ ∙ ap (λ (e : Entry). (box_by e (closing_edges place (entries_of items) (chains (entries_of items))) (get_or (chains (entries_of items)) place [])).style) (sym (entry_there items place x no_entry lt read))

pub opens_there : (items : List Item) (place : ℕ) (x : Item) (closes : Bool) → place < length items → x ≡ get_or items place x → (box_by (entry_of x) closes []).opens ≡ (box_at (entries_of items) place).opens
unfolding box_at
opens_there items place x closes lt read =
    opens_by (entry_of x) _ _ _ _ ∙ ap (λ (e : Entry). (box_by e (closing_edges place (entries_of items) (chains (entries_of items))) (get_or (chains (entries_of items)) place [])).opens) (sym (entry_there items place x no_entry lt read))

pub bounded_there : (items : List Item) (place : ℕ) (x : Item) → place < length items → x ≡ get_or items place x → All HasBounds (entries_of items) → HasBounds (entry_of x)
bounded_there items place x lt read all =
    let many = length-map items entry_of in
    let P : Entry → Type 0 = λ e. HasBounds e in
    subst P (entry_there items place x no_entry lt read) (all place no_entry (omega arith))

-- the round of an entry
pub round_read : (entries : List Entry) (rounds : List Round) (k : ℕ) (round : Round) → rounds ≡ map (round_of entries) (chains entries) → k < length entries → round ≡ get_or rounds k round
    → round ≡ round_of entries (chain_at entries k)
round_read entries rounds k round is lt read = read ∙ inside_there entries rounds k round is lt ∙ ap (round_of entries) (sym (there entries k [] lt))

pub round_near : (entries : List Entry) (k : ℕ) (round : Round) → All HasBounds entries → k < length entries → length entries ≤ 2 ^ 20 → round ≡ round_of entries (chain_at entries k) → unsigned_abs round.shifts ≤ 2 ^ 53
round_near entries k round all lt few is =
    let near = shifts_near entries k (at 0 [] entries k) all (linked entries k (omega arith)) in
    rw is (rw (there entries k [] lt) (omega arith))

pub outer_is : (entries : List Entry) (box : ℕ) → (box_at entries box).outer ≡ chain_at entries box
unfolding box_at
outer_is entries box = by_entry (get_or entries box no_entry) (closing_edges box entries (chains entries)) (get_or (chains entries) box []) where
  by_entry : (entry : Entry) (closes : Bool) (outer : List ℕ) → (box_by entry closes outer).outer ≡ outer
  by_entry (begins node style edges) closes outer = refl
  by_entry (ends node edges) closes outer = refl
  by_entry (text node bytes style) closes outer = refl
  by_entry (atom name) closes outer = refl
  by_entry (line_break node) closes outer = refl
