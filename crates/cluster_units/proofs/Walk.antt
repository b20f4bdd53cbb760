-- The units of the clusters that are left, and those that are made.
use Rattle.std.proofs.Common.{◌≡◌, ℕ, ◌+◌, ◌-◌, ◌*◌, ◌^◌, ◌≤◌, Bool, true, false, List, [], ◌∷◌, ◌++◌, map, length, take, Option, Some, None, inl, inr, ap, ap₂, subst, sym, ◌∙◌, refl, arith}
use Rattle.std.specs.Prelude.{ℤ, pos, ◌+ℤ◌, if◌then◌else◌, unwrap_or}
use Rattle.std.specs.List.{flat_map, last_or, list_all}
use Rattle.std.proofs.lemmas.Bool.{cases_Bool, and_parts}
use Rattle.std.proofs.lemmas.Int.{ints}
use Rattle.std.proofs.lemmas.List.{append-nil, append_assoc, length-append, length-map, map-append}
use Rattle.std.proofs.lemmas.List.Folds.{list_all-append}
use Rattle.std.proofs.Math.Seq.{take-append_seam}
use Rattle.face_api.specs.Table.{Table}
use Rattle.style_types.specs.declared.style.Style.{Style}
use Rattle.style_types.specs.declared.style.TextOrientation.{TextOrientation}
use Rattle.style_types.specs.declared.style.TextOrientation.TheVariants.{Mixed, Sideways, Upright as set_upright}
use Rattle.wm_chars.specs.Repertoire.{orientation}
use Rattle.wm_chars.specs.declared.classes.Orient.{Orient}
use Rattle.wm_chars.specs.declared.classes.Orient.TheVariants.{R, V}
use Rattle.fragment_types.specs.declared.unit_kind.UnitKind.TheVariants.{Along}
use Rattle.cluster_units.specs.Cluster.{clusters, cluster_of, is_control, placed, uncontrolled, unit_clusters}
use Rattle.cluster_units.specs.Runs.{Run, last, runs_of}
use Rattle.cluster_units.specs.Text.{is_combined}
use Rattle.cluster_units.specs.Gathering.{Made, added, apart, closed, joined, run_unit, with_cluster, IsWithin}
use Rattle.cluster_units.specs.Unit.{cluster_unit, combined_unit, joins, kind_by, kind_of, is_vertical, may_have, plain_advance, run_units, single_unit, sum_of, units_of, vertical_kind}
use Rattle.cluster_units.specs.declared.cluster.Cluster.{Cluster}
use Rattle.cluster_units.specs.declared.gathering.OpenRun.{OpenRun}
use Rattle.cluster_units.specs.declared.unit.Unit.{Unit}
use Rattle.cluster_units.proofs.RunLaws.{all_before, all_join, apart_first}
use Rattle.cluster_units.proofs.Pieces.{total}

-- ---- a unit of one cluster is no combined run

by_orientation : (found : Option Orient) → is_combined (kind_by found) ≡ false
by_orientation None = refl
by_orientation (Some R) = refl
by_orientation (Some V) = refl

in_vertical : (set : TextOrientation) (c : ℕ) → is_combined (vertical_kind set c) ≡ false
in_vertical Mixed c = by_orientation (orientation c)
in_vertical set_upright c = refl
in_vertical Sideways c = refl

pub never_alone : (style : Style) (c : ℕ) → is_combined (kind_of style c) ≡ false
never_alone style c = either (is_vertical style.mode)
  where
    either : (vertical : Bool) → is_combined (if vertical then vertical_kind style.orientation c else Along) ≡ false
    either true = in_vertical style.orientation c
    either false = refl

-- ---- which clusters are units

pub gone : (cluster : Cluster) (others : List Cluster) → is_control cluster.head ≡ true → uncontrolled (cluster ∷ others) ≡ uncontrolled others
gone cluster others e = rw e refl

pub kept : (cluster : Cluster) (others : List Cluster) → is_control cluster.head ≡ false → uncontrolled (cluster ∷ others) ≡ cluster ∷ uncontrolled others
kept cluster others e = rw e refl

last_more : (first : Cluster) (others : List Cluster) (cluster d : Cluster) → unwrap_or (last_or (Some first) (others ++ cluster ∷ [])) d ≡ cluster
last_more first [] cluster d = refl
last_more first (next ∷ others) cluster d = last_more next others cluster d

module _ (style : Style) (table : Table) where
  abbrev pub single : Cluster → Unit
  single cluster = single_unit style table cluster

  abbrev pub plain : Cluster → ℤ
  plain cluster = plain_advance style table cluster

  -- the units of clusters of which none is a control
  abbrev pub units_by : List Cluster → List Unit
  units_by clusters = flat_map (run_units style table) (runs_of (joins style) clusters)

  pub no_unit : (cluster : Cluster) → is_control cluster.head ≡ true → cluster_unit style table cluster ≡ None
  no_unit cluster e = rw e refl

  pub some_unit : (cluster : Cluster) → is_control cluster.head ≡ false → cluster_unit style table cluster ≡ Some (single cluster)
  some_unit cluster e = rw e refl

  -- ---- a cluster that doesn't join

  alone_is : (cluster : Cluster) → joins style cluster ≡ false → run_units style table (record { first = cluster; others = [] }) ≡ single cluster ∷ []
  alone_is cluster e = rw e refl

  pub apart_more : (cluster : Cluster) (others : List Cluster) → joins style cluster ≡ false → units_by (cluster ∷ others) ≡ single cluster ∷ units_by others
  apart_more cluster others e =
      ap (flat_map (run_units style table)) (apart_first (joins style) cluster others e) ∙ ap (λ units. units ++ units_by others) (alone_is cluster e)

  -- clusters that all join, and one that doesn't behind them
  pub parted : (pending : List Cluster) (cluster : Cluster) (others : List Cluster) → list_all (joins style) pending ≡ true → joins style cluster ≡ false
      → units_by (pending ++ cluster ∷ others) ≡ units_by pending ++ single cluster ∷ units_by others
  parted [] cluster others all e = apart_more cluster others e
  parted (first ∷ pending) cluster others all e =
      let run : Run Cluster = record { first = first; others = pending } in
      ap (flat_map (run_units style table)) (all_before (joins style) first pending cluster others all e)
      ∙ ap (λ units. run_units style table run ++ units) (apart_more cluster others e)
      ∙ ap (λ units. units ++ single cluster ∷ units_by others) (sym (ap (flat_map (run_units style table)) (all_join (joins style) first pending all) ∙ append-nil (run_units style table run)))

  -- ---- the run at the end

  -- the open run of these clusters, before which these units stand
  abbrev run_at : (settled : List Unit) → (pending : List Cluster) → Option OpenRun
  run_at settled [] = None
  run_at settled (first ∷ others) =
      Some (record { start = length settled; first = first.first; end = (last (record { first = first; others = others })).end; natural = sum_of (map (plain_advance style table) (first ∷ others)) })

  abbrev made_at : (settled : List Unit) → (pending : List Cluster) → Made
  made_at settled pending = record { units = settled ++ map (single_unit style table) pending; run = run_at settled pending }

  sum_more : (pending : List Cluster) (cluster : Cluster) → sum_of (map (plain_advance style table) (pending ++ cluster ∷ [])) ≡ sum_of (map (plain_advance style table) pending) +ℤ plain cluster
  sum_more [] cluster = omega (arith, ints)
  sum_more (first ∷ pending) cluster = let so_far = sum_more pending cluster in omega (arith, ints)

  run_more : (settled : List Unit) (pending : List Cluster) (cluster : Cluster)
      → (joined (made_at settled pending) (single cluster) (plain cluster)).run ≡ run_at settled (pending ++ cluster ∷ [])
  run_more settled [] cluster =
      let start : length (settled ++ []) ≡ length settled = ap length (append-nil settled) in
      let sum : plain cluster ≡ plain cluster +ℤ pos 0 = omega (arith, ints) in
      ap₂ (λ start natural. Some (record { start = start; first = cluster.first; end = cluster.end; natural = natural })) start sum
  run_more settled (first ∷ pending) cluster =
      ap₂ (λ (end : ℕ) natural. Some (record { start = length settled; first = first.first; end = end; natural = natural }))
      (sym (ap (λ c. c.end) (last_more first pending cluster first))) (sym (sum_more (first ∷ pending) cluster))

  units_more : (settled : List Unit) (pending : List Cluster) (cluster : Cluster)
      → (settled ++ map (single_unit style table) pending) ++ single cluster ∷ [] ≡ settled ++ map (single_unit style table) (pending ++ cluster ∷ [])
  units_more settled pending cluster =
      append_assoc settled (map (single_unit style table) pending) (single cluster ∷ []) ∙ ap (λ units. settled ++ units) (sym (map-append (single_unit style table) pending (cluster ∷ [])))

  joined_at : (settled : List Unit) (pending : List Cluster) (cluster : Cluster) → joined (made_at settled pending) (single cluster) (plain cluster) ≡ made_at settled (pending ++ cluster ∷ [])
  joined_at settled pending cluster = ap₂ (λ units run. record { units = units; run = run }) (units_more settled pending cluster) (run_more settled pending cluster)

  settled_out : (b : Bool) (settled one all : List Unit) → (if b then settled ++ one else settled ++ all) ≡ settled ++ (if b then one else all)
  settled_out true settled one all = refl
  settled_out false settled one all = refl

  whole_run : (run : Run Cluster) → joins style run.first ≡ true
      → run_units style table run ≡ (if may_have style.combine (length (run.first ∷ run.others)) then combined_unit style table run ∷ [] else map (single_unit style table) (run.first ∷ run.others))
  whole_run run e = rw e refl

  closed_is : (settled : List Unit) (pending : List Cluster) → list_all (joins style) pending ≡ true → closed style (made_at settled pending).units (made_at settled pending).run ≡ settled ++ units_by pending
  closed_is settled [] all = refl
  closed_is settled (first ∷ pending) all =
      ap (λ n. if may_have style.combine n then take (length settled) units ++ unit ∷ [] else units) count
      ∙ ap (λ front. if may_have style.combine (length (first ∷ pending)) then front ++ unit ∷ [] else units) (take-append_seam settled (map (single_unit style table) (first ∷ pending)))
      ∙ settled_out (may_have style.combine (length (first ∷ pending))) settled (unit ∷ []) (map (single_unit style table) (first ∷ pending))
      ∙ ap (λ units. settled ++ units) (sym (ap (flat_map (run_units style table)) (all_join (joins style) first pending all) ∙ append-nil (run_units style table run) ∙ whole_run run (and_parts (joins style first) (list_all (joins style) pending) all).0))
    where
      run : Run Cluster
      run = record { first = first; others = pending }

      units : List Unit
      units = settled ++ map (single_unit style table) (first ∷ pending)

      unit : Unit
      unit = run_unit style (record { start = length settled; first = first.first; end = (last run).end; natural = sum_of (map (plain_advance style table) (first ∷ pending)) })

      count : length units - length settled ≡ length (first ∷ pending)
      count = omega (arith, length-append settled (map (single_unit style table) (first ∷ pending)), length-map (first ∷ pending) (single_unit style table))

  -- ---- all clusters that are left

  abbrev pub finished : Made → List Cluster → List Unit
  finished made [] = closed style made.units made.run
  finished made (cluster ∷ others) = finished (with_cluster style table made cluster) others

  -- a cluster that joins, and one that doesn't
  joining : (settled : List Unit) (pending others : List Cluster) (cluster : Cluster)
      → finished (made_at settled (pending ++ cluster ∷ [])) others ≡ settled ++ units_by ((pending ++ cluster ∷ []) ++ uncontrolled others)
      → finished (joined (made_at settled pending) (single cluster) (plain cluster)) others ≡ settled ++ units_by (pending ++ cluster ∷ uncontrolled others)
  joining settled pending others cluster later =
      ap (λ made. finished made others) (joined_at settled pending cluster) ∙ later ∙ ap (λ clusters. settled ++ units_by clusters) (append_assoc pending (cluster ∷ []) (uncontrolled others))

  abbrev before : (settled : List Unit) (pending : List Cluster) → Cluster → List Unit
  before settled pending cluster = (settled ++ units_by pending) ++ single cluster ∷ []

  parting : (settled : List Unit) (pending others : List Cluster) (cluster : Cluster) → list_all (joins style) pending ≡ true → joins style cluster ≡ false
      → finished (made_at (before settled pending cluster) []) others ≡ before settled pending cluster ++ units_by (uncontrolled others)
      → finished (apart style (made_at settled pending) (single cluster)) others ≡ settled ++ units_by (pending ++ cluster ∷ uncontrolled others)
  parting settled pending others cluster all e later =
      let rest = uncontrolled others in
      ap (λ units. finished (record { units = units; run = None }) others)
      (ap (λ units. units ++ single cluster ∷ []) (closed_is settled pending all) ∙ sym (append-nil (before settled pending cluster)))
      ∙ later
      ∙ append_assoc (settled ++ units_by pending) (single cluster ∷ []) (units_by rest)
      ∙ append_assoc settled (units_by pending) (single cluster ∷ units_by rest)
      ∙ ap (λ units. settled ++ units) (sym (parted pending cluster rest all e))

  -- a control, and any other cluster
  passing : (made : Made) (cluster : Cluster) (others : List Cluster) (total : List Cluster → List Unit) → is_control cluster.head ≡ true
      → finished made others ≡ total (uncontrolled others) → finished made (cluster ∷ others) ≡ total (uncontrolled (cluster ∷ others))
  passing made cluster others total control later =
      ap (λ found. finished (added style made found (joins style cluster) (plain cluster)) others) (no_unit cluster control) ∙ later ∙ ap total (sym (gone cluster others control))

  taking : (made : Made) (cluster : Cluster) (others : List Cluster) (total : List Cluster → List Unit) (joining : Bool) → is_control cluster.head ≡ false → joins style cluster ≡ joining
      → finished (added style made (Some (single cluster)) joining (plain cluster)) others ≡ total (cluster ∷ uncontrolled others) → finished made (cluster ∷ others) ≡ total (uncontrolled (cluster ∷ others))
  taking made cluster others total joining other is later =
      ap₂ (λ found joining. finished (added style made found joining (plain cluster)) others) (some_unit cluster other) is ∙ later ∙ ap total (sym (kept cluster others other))

  pub finished_is : (settled : List Unit) (pending others : List Cluster) → list_all (joins style) pending ≡ true
      → finished (made_at settled pending) others ≡ settled ++ units_by (pending ++ uncontrolled others)
  finished_is settled pending [] all = closed_is settled pending all ∙ ap (λ clusters. settled ++ units_by clusters) (sym (append-nil pending))
  finished_is settled pending (cluster ∷ others) all =
      elim (cases_Bool (is_control cluster.head)) [
        | inl control ↦ passing (made_at settled pending) cluster others (λ clusters. settled ++ units_by (pending ++ clusters)) control (finished_is settled pending others all)
        | inr other ↦ elim (cases_Bool (joins style cluster)) [
          | inl joins_it ↦
              taking (made_at settled pending) cluster others (λ clusters. settled ++ units_by (pending ++ clusters)) true other joins_it
              (joining settled pending others cluster (finished_is settled (pending ++ cluster ∷ []) others (list_all-append (joins style) pending (cluster ∷ []) ∙ rw (all, joins_it) refl)))
          | inr stays ↦
              taking (made_at settled pending) cluster others (λ clusters. settled ++ units_by (pending ++ clusters)) false other stays
              (parting settled pending others cluster all stays (finished_is (before settled pending cluster) [] others refl))
        ]
      ]

  pub whole : (text : List ℕ) → units_of style table text ≡ units_by (uncontrolled (placed 0 (clusters text)))
  unfolding units_of unit_clusters
  whole text = refl

  pub made_whole : (text : List ℕ) → finished (record { units = []; run = None }) (placed 0 (clusters text)) ≡ units_of style table text
  made_whole text = finished_is [] [] (placed 0 (clusters text)) refl ∙ sym (whole text)

-- ---- how far the walk over the pieces has come

module _ (style : Style) (table : Table) (text : List ℕ) (all : List Unit) where
  -- the units made and the pieces that are left give the units of all pieces, which have the characters of the text
  pub record IsUnderway (made : Made) (place : ℕ) (left : List (List ℕ)) : Type 0 where
    pub units : finished style table made (placed place left) ≡ all
    pub count : place + total left ≡ length text
    pub near : IsWithin (655360 * (1048576 - length left)) made.run
    pub few : length left ≤ 1048576

  pub begins : (made : Made) (left : List (List ℕ)) → made ≡ record { units = []; run = None } → finished style table (record { units = []; run = None }) (placed 0 left) ≡ all → total left ≡ length text
      → length left ≤ 1048576 → IsUnderway made 0 left
  begins made left none are whole few = record {
    units = ap (λ made. finished style table made (placed 0 left)) none ∙ are;
    count = omega arith;
    near = subst (λ (made : Made). IsWithin (655360 * (1048576 - length left)) made.run) (sym none) tt;
    few = few;
  }

  pub goes_on : (made new : Made) (place : ℕ) (piece : List ℕ) (left : List (List ℕ)) → new ≡ with_cluster style table made (cluster_of place piece)
      → ((most : ℕ) → IsWithin most made.run → IsWithin (most + 655360) new.run) → IsUnderway made place (piece ∷ left) → IsUnderway new (place + length piece) left
  goes_on made new place piece left is more at = record {
    units = ap (λ made. finished style table made (placed (place + length piece) left)) is ∙ at.units;
    count = let count = at.count in omega arith;
    near = let few = at.few in let sums : 655360 * (1048576 - length (piece ∷ left)) + 655360 ≡ 655360 * (1048576 - length left) = omega arith in subst (λ most. IsWithin most new.run) sums (more _ at.near);
    few = let few = at.few in omega arith;
  }

  pub ends : (made : Made) (place : ℕ) (left : List (List ℕ)) → left ≡ [] → IsUnderway made place left → closed style made.units made.run ≡ all
  ends made place left none at = ap (λ left. finished style table made (placed place left)) (sym none) ∙ at.units

  wider : (run : Option OpenRun) (near far : ℕ) → near ≤ far → IsWithin near run → IsWithin far run
  wider None near far le is = tt
  wider (Some run) near far le is = omega arith

  pub room : (made : Made) (place : ℕ) (left : List (List ℕ)) → IsUnderway made place left → IsWithin (2 ^ 50) made.run
  room made place left at = wider made.run _ _ (omega arith) at.near

  pub place_within : (made : Made) (place : ℕ) (piece : List ℕ) (left : List (List ℕ)) → length text ≤ 1048576 → IsUnderway made place (piece ∷ left) → place + length piece ≤ 2 ^ 32
  place_within made place piece left few at = let count = at.count in omega arith
