-- The units of a text stand in order.
use Rattle.std.proofs.Common.{◌≡◌, ℕ, ◌+◌, ◌-◌, ◌*◌, ◌/◌, ◌<◌, ◌≤◌, Bool, true, false, ◌&&◌, List, [], ◌∷◌, ◌++◌, length, map, Some, inl, inr, sym, subst, refl, arith}
use Rattle.std.specs.Prelude.{if◌then◌else◌, unwrap_or, ⊤, ℤ, pos, negsuc, ◌≤ℤ◌}
use Rattle.std.specs.List.{flat_map, last_or}
use Rattle.std.proofs.lemmas.Bool.{cases_Bool}
use Rattle.std.proofs.lemmas.Int.{ints}
use Rattle.std.proofs.lemmas.Nat.{mul-le}
use Rattle.unicode_segmentation.specs.Grapheme.{is_grapheme_break}
use Rattle.unicode_segmentation.specs.Segments.{Rule, cut, prepend}
use Rattle.face_api.specs.Table.{Table, IsTable, advance_of}
use Rattle.face_api.proofs.Advances.{advance_most}
use Rattle.style_types.specs.declared.style.Style.{Style}
use Rattle.cluster_units.specs.declared.cluster.Cluster.{Cluster}
use Rattle.cluster_units.specs.declared.unit.Unit.{Unit}
use Rattle.cluster_units.specs.Cluster.{clusters, cluster_of, is_control, placed, uncontrolled}
use Rattle.cluster_units.specs.Laws.{IsUnitIn, AreInOrder, StandInOrder}
use Rattle.cluster_units.specs.Runs.{Run, items, last, runs_of, with_front}
use Rattle.cluster_units.specs.Unit.{scaled, combines, combined_unit, joins, single_unit, kind_of, is_upright, plain_advance, run_units, sum_of}
use Rattle.cluster_units.proofs.Pieces.{total, total_is}
use Rattle.cluster_units.proofs.RunLaws.{front_apart, front_joins}
use Rattle.cluster_units.proofs.Walk.{gone, kept, whole}

-- ---- no piece is empty

abbrev AreSome : List (List ℕ) → Type 0
AreSome [] = ⊤
AreSome (piece ∷ pieces) = (0 < length piece) × AreSome pieces

more_some : (breaks : Bool) (c : ℕ) (rest : List (List ℕ)) → AreSome rest → AreSome (if breaks then (c ∷ []) ∷ rest else prepend (c ∷ []) rest)
more_some true c rest are = (omega arith, are)
more_some false c [] are = (omega arith, tt)
more_some false c (piece ∷ rest) are = (omega arith, are.1)

some_pieces : (rule : Rule) (before cs after : List ℕ) → AreSome (cut rule before cs after)
unfolding cut
some_pieces rule before [] after = tt
some_pieces rule before (c ∷ cs) after = more_some (rule (c ∷ before) (cs ++ after)) c (cut rule (c ∷ before) cs after) (some_pieces rule (c ∷ before) cs after)

-- ---- one unit

quotient : (value : ℕ) (size : ℤ) → value ≤ 10000 → pos 0 ≤ℤ size → size ≤ℤ pos 65536 → (q : ℕ) × (scaled size value ≡ pos q) × (q ≤ 655360)
quotient value (pos n) most low high =
    let size : n ≤ 65536 = omega (arith, ints) in
    let product : value * n ≤ 10000 * 65536 = mul-le value n 10000 65536 most size in
    (value * n / 1000, refl, omega arith)
quotient value (negsuc n) most low high = absurd (omega (arith, ints))

-- ---- clusters one behind the other

record IsPlaced (place end_ : ℕ) (cluster : Cluster) : Type 0 where
  behind : place ≤ cluster.first
  some : cluster.first < cluster.end
  within : cluster.end ≤ end_

abbrev AreChained : (place end_ : ℕ) → List Cluster → Type 0
AreChained place end_ [] = ⊤
AreChained place end_ (cluster ∷ others) = IsPlaced place end_ cluster × AreChained cluster.end end_ others

earlier : (place before end_ : ℕ) (chain : List Cluster) → before ≤ place → AreChained place end_ chain → AreChained before end_ chain
earlier place before end_ [] le are = tt
earlier place before end_ (cluster ∷ others) le are =
    let behind = are.0.behind in
    (record { behind = omega arith; some = are.0.some; within = are.0.within }, are.1)

one_more : (place end_ : ℕ) (piece : List ℕ) (others : List Cluster) → 0 < length piece → place + length piece ≤ end_ → AreChained (place + length piece) end_ (uncontrolled others)
    → AreChained place end_ (uncontrolled (cluster_of place piece ∷ others))
one_more place end_ piece others some within are =
    elim (cases_Bool (is_control (cluster_of place piece).head)) [
      | inl control ↦ subst (AreChained place end_) (sym (gone (cluster_of place piece) others control)) (earlier (place + length piece) place end_ (uncontrolled others) (omega arith) are)
      | inr other ↦ subst (AreChained place end_) (sym (kept (cluster_of place piece) others other)) (record { behind = omega arith; some = omega arith; within = within }, are)
    ]

chained : (place end_ : ℕ) (pieces : List (List ℕ)) → AreSome pieces → place + total pieces ≤ end_ → AreChained place end_ (uncontrolled (placed place pieces))
chained place end_ [] some within = tt
chained place end_ (piece ∷ pieces) some within =
    one_more place end_ piece (placed (place + length piece) pieces) some.0 (omega arith) (chained (place + length piece) end_ pieces some.1 (omega arith))

-- ---- runs one behind the other

-- the place after the last of these
abbrev end_of : (first : Cluster) → (others : List Cluster) → ℕ
end_of first [] = first.end
end_of first (next ∷ others) = end_of next others

last_is : (first : Cluster) (others : List Cluster) (d : Cluster) → (unwrap_or (last_or (Some first) others) d).end ≡ end_of first others
last_is first [] d = refl
last_is first (next ∷ others) d = last_is next others d

abbrev AreRuns : (place end_ : ℕ) → List (Run Cluster) → Type 0
AreRuns place end_ [] = ⊤
AreRuns place end_ (run ∷ runs) = AreChained place end_ (run.first ∷ run.others) × AreRuns (end_of run.first run.others) end_ runs

module _ (joining : Cluster → Bool) where
  front : (place end_ : ℕ) (cluster : Cluster) (runs : List (Run Cluster)) → IsPlaced place end_ cluster → AreRuns cluster.end end_ runs → AreRuns place end_ (with_front joining cluster runs)
  front place end_ cluster [] is are = ((is, tt), tt)
  front place end_ cluster (run ∷ runs) is are =
      elim (cases_Bool (joining cluster && joining run.first)) [
        | inl both ↦ subst (AreRuns place end_) (sym (front_joins joining cluster run runs both)) ((is, are.0), are.1)
        | inr apart ↦ subst (AreRuns place end_) (sym (front_apart joining cluster run runs apart)) ((is, tt), are)
      ]

  runs_chained : (place end_ : ℕ) (chain : List Cluster) → AreChained place end_ chain → AreRuns place end_ (runs_of joining chain)
  runs_chained place end_ [] are = tt
  runs_chained place end_ (cluster ∷ others) are = front place end_ cluster (runs_of joining others) are.0 (runs_chained cluster.end end_ others are.1)

-- ---- the units of runs

module _ (style : Style) (table : Table) (sound : IsTable table) (low : pos 0 ≤ℤ style.font_size) (high : style.font_size ≤ℤ pos 65536) where
  single_in : (place end_ : ℕ) (cluster : Cluster) → IsPlaced place end_ cluster → IsUnitIn place end_ (single_unit style table cluster)
  single_in place end_ cluster is =
      let upright = is_upright (kind_of style cluster.head) in
      let q = quotient (advance_of table cluster.head upright) style.font_size (advance_most table cluster.head upright sound) low high in
      let same = q.1 in
      let most = q.2 in
      let some = is.some in
      record { behind = is.behind; some = is.some; within = is.within; advance_low = omega (arith, ints); advance_high = omega (arith, ints); natural_low = omega (arith, ints); natural_high = omega (arith, ints) }

  singles_in : (place end_ : ℕ) (first : Cluster) (others : List Cluster) (units : List Unit) → AreChained place end_ (first ∷ others) → AreInOrder (end_of first others) end_ units
      → AreInOrder place end_ (map (single_unit style table) (first ∷ others) ++ units)
  singles_in place end_ first [] units are rest = (single_in place end_ first are.0, rest)
  singles_in place end_ first (next ∷ others) units are rest = (single_in place end_ first are.0, singles_in first.end end_ next others units are.1 rest)

  -- where a run ends, and how wide it is by itself
  record IsRun (end_ : ℕ) (first : Cluster) (others : List Cluster) : Type 0 where
    some : first.first < end_of first others
    within : end_of first others ≤ end_
    wide : (n : ℕ) × (sum_of (map (plain_advance style table) (first ∷ others)) ≡ pos n) × (n ≤ 655360 * (end_of first others - first.first))

  run_is : (place end_ : ℕ) (first : Cluster) (others : List Cluster) → AreChained place end_ (first ∷ others) → IsRun end_ first others
  run_is place end_ first [] are =
      let q = quotient (advance_of table first.head false) style.font_size (advance_most table first.head false sound) low high in
      let same = q.1 in
      let most = q.2 in
      let some = are.0.some in
      record { some = are.0.some; within = are.0.within; wide = (q.0, omega (arith, ints), omega arith) }
  run_is place end_ first (next ∷ others) are =
      let q = quotient (advance_of table first.head false) style.font_size (advance_most table first.head false sound) low high in
      let same = q.1 in
      let most = q.2 in
      let some = are.0.some in
      let behind = are.1.0.behind in
      let later = run_is first.end end_ next others are.1 in
      let later_some = later.some in
      let sum = later.wide.1 in
      let most_later = later.wide.2 in
      record { some = omega arith; within = later.within; wide = (q.0 + later.wide.0, omega (arith, ints), omega arith) }

  combined_in : (place end_ : ℕ) (run : Run Cluster) → AreChained place end_ (items run) → IsUnitIn place end_ (combined_unit style table run)
  combined_in place end_ run are =
      let is = run_is place end_ run.first run.others are in
      let ends : (last run).end ≡ end_of run.first run.others = last_is run.first run.others run.first in
      let some = is.some in
      let within = is.within in
      let sum = is.wide.1 in
      let most = is.wide.2 in
      record { behind = are.0.behind; some = omega arith; within = omega arith; advance_low = low; advance_high = omega (arith, ints); natural_low = omega (arith, ints); natural_high = omega (arith, ints) }

  run_in : (place end_ : ℕ) (run : Run Cluster) (units : List Unit) → AreChained place end_ (items run) → AreInOrder (end_of run.first run.others) end_ units
      → AreInOrder place end_ (run_units style table run ++ units)
  run_in place end_ run units are rest = either (combines style run)
    where
      either : (combined : Bool) → AreInOrder place end_ ((if combined then combined_unit style table run ∷ [] else map (single_unit style table) (items run)) ++ units)
      either true = (combined_in place end_ run are, subst (λ place. AreInOrder place end_ units) (sym (last_is run.first run.others run.first)) rest)
      either false = singles_in place end_ run.first run.others units are rest

  runs_in : (place end_ : ℕ) (runs : List (Run Cluster)) → AreRuns place end_ runs → AreInOrder place end_ (flat_map (run_units style table) runs)
  runs_in place end_ [] are = tt
  runs_in place end_ (run ∷ runs) are = run_in place end_ run (flat_map (run_units style table) runs) are.0 (runs_in (end_of run.first run.others) end_ runs are.1)

pub in_order : StandInOrder
in_order style table text sound low high =
    subst (AreInOrder 0 (length text)) (sym (whole style table text))
    (runs_in style table sound low high 0 (length text) _ (runs_chained (joins style) 0 (length text) _ (chained 0 (length text) (clusters text) (some_pieces (is_grapheme_break true) [] text []) (let all = total_is text in omega arith))))
