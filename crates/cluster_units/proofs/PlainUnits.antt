-- The units of plain text in which no character joins a run.
use Rattle.std.proofs.Common.{◌≡◌, ℕ, ◌+◌, Bool, true, false, ◌&&◌, not, List, [], ◌∷◌, Option, Some, None, inl, inr, ap, sym, ◌∙◌, refl, arith}
use Rattle.std.specs.Prelude.{◌||◌, ◌==◌, nat_le}
use Rattle.std.specs.List.{list_all}
use Rattle.std.proofs.lemmas.Bool.{and_parts, cases_Bool, le-ltb, not-true}
use Rattle.std.proofs.lemmas.Option.{none-some, same_Some}
use Rattle.face_api.specs.Table.{Table}
use Rattle.style_types.specs.declared.style.Combine.{Combine}
use Rattle.style_types.specs.declared.style.Combine.TheVariants.{All, Digits, Never}
use Rattle.style_types.specs.declared.style.Style.{Style}
use Rattle.cluster_units.specs.Cluster.{cluster_of, is_control, is_several, placed, uncontrolled}
use Rattle.cluster_units.specs.Laws.{AreApart, AreOfCharacters}
use Rattle.cluster_units.specs.Plain.{character_joins, character_unit, character_units, combines_none, is_never, with_first}
use Rattle.cluster_units.specs.Text.{is_combined}
use Rattle.cluster_units.specs.Unit.{is_vertical, joins, may_join}
use Rattle.cluster_units.specs.declared.cluster.Cluster.{Cluster}
use Rattle.cluster_units.specs.declared.unit.Unit.{Unit}
use Rattle.cluster_units.proofs.PlainLaws.{pieces, plain_pieces}
use Rattle.cluster_units.proofs.Walk.{apart_more, gone, kept, never_alone, no_unit, single, some_unit, units_by, whole}

-- in a style by which none are combined
pub never_joins : (style : Style) (cluster : Cluster) → combines_none style ≡ true → joins style cluster ≡ false
never_joins style cluster h = either (is_vertical style.mode) style.combine h
  where
    either : (vertical : Bool) (combine : Combine) → (not vertical || is_never combine) ≡ true → (vertical && may_join combine cluster) ≡ false
    either true Never h = refl
    either true All h = absurd (cc)
    either true (Digits most) h = absurd (cc)
    either false combine h = refl

-- where a cluster of one character stands is nothing to whether it joins
joins_anywhere : (style : Style) (place c : ℕ) → joins style (cluster_of place (c ∷ [])) ≡ character_joins style c
joins_anywhere style place c = ap (λ combine_it. is_vertical style.mode && combine_it) (either style.combine)
  where
    one : is_several (cluster_of place (c ∷ [])) ≡ false
    one = le-ltb (place + 1) (place + 1) (omega arith)

    either : (combine : Combine) → may_join combine (cluster_of place (c ∷ [])) ≡ may_join combine (record { first = 0; end = 1; head = c })
    either Never = refl
    either All = ap (λ several. not ((c == 0x20) && not several)) one
    either (Digits most) = ap (λ several. (nat_le 0x30 c && nat_le c 0x39) && not several) one

module _ (style : Style) (table : Table) where
  unit_is : (cluster : Cluster) (unit : Unit) (found : Option Unit) → Some unit ≡ found → (control : Bool) → is_control cluster.head ≡ control
      → ((is_control cluster.head ≡ true → found ≡ None) × (is_control cluster.head ≡ false → found ≡ Some (single style table cluster))) → unit ≡ single style table cluster
  unit_is cluster unit found one true e is = absurd (none-some unit (sym (one ∙ is.0 e)))
  unit_is cluster unit found one false e is = same_Some unit (single style table cluster) (one ∙ is.1 e)

  -- one more character in front
  one_more : (place c : ℕ) (others : List Cluster) (later : List Unit) → character_joins style c ≡ false → units_by style table (uncontrolled others) ≡ later
      → units_by style table (uncontrolled (cluster_of place (c ∷ []) ∷ others)) ≡ with_first (character_unit style table place c) later
  one_more place c others later apart is =
      let cluster = cluster_of place (c ∷ []) in
      elim (cases_Bool (is_control c)) [
        | inl control ↦ ap (units_by style table) (gone cluster others control) ∙ is ∙ ap (λ found. with_first found later) (sym (no_unit style table cluster control))
        | inr other ↦
            ap (units_by style table) (kept cluster others other) ∙ apart_more style table cluster (uncontrolled others) (joins_anywhere style place c ∙ apart)
            ∙ ap (λ units. single style table cluster ∷ units) is ∙ ap (λ found. with_first found later) (sym (some_unit style table cluster other))
      ]

  from_characters : (place : ℕ) (text : List ℕ) → list_all (λ c. not (character_joins style c)) text ≡ true
      → units_by style table (uncontrolled (placed place (pieces text))) ≡ character_units style table place text
  from_characters place [] apart = refl
  from_characters place (c ∷ text) apart =
      let parts = and_parts (not (character_joins style c)) (list_all (λ c. not (character_joins style c)) text) apart in
      one_more place c (placed (place + 1) (pieces text)) (character_units style table (place + 1) text) (not-true (character_joins style c) parts.0) (from_characters (place + 1) text parts.1)

pub of_characters : AreOfCharacters
of_characters style table text plain apart =
    whole style table text ∙ ap (λ pieces. units_by style table (uncontrolled (placed 0 pieces))) (sym (plain_pieces text plain)) ∙ from_characters style table 0 text apart

pub apart : AreApart
apart style table place c unit one =
    let cluster : Cluster = record { first = place; end = place + 1; head = c } in
    let is = unit_is style table cluster unit (character_unit style table place c) one (is_control c) refl (no_unit style table cluster, some_unit style table cluster) in
    (ap (λ unit. unit.first) is, ap (λ unit. unit.end) is, ap (λ unit. is_combined unit.kind) is ∙ never_alone style c)
