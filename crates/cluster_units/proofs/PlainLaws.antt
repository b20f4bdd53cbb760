-- In plain text each character is a cluster.
use Rattle.std.proofs.Common.{◌≡◌, ℕ, Bool, true, false, not, ◌||◌, List, [], ◌∷◌, ◌++◌, length, map, unwrap_or, inl, inr, ap, ap₂, sym, ◌∙◌, refl, arith}
use Rattle.std.specs.List.{list_all}
use Rattle.std.proofs.lemmas.Bool.{and_parts, and_right, cases_Bool, not-true}
use Rattle.ucd_breaks.specs.GraphemeClusterBreak.{grapheme_cluster_break}
use Rattle.ucd_breaks.proofs.GraphemeClusterBreakLemmas.{grapheme_cluster_break_stepped}
use Rattle.ucd_breaks.specs.declared.GraphemeClusterBreak.{GraphemeClusterBreak}
use Rattle.ucd_breaks.specs.declared.GraphemeClusterBreak.TheVariants.{Control, Cr, Extend, L, Lf, Lv, Lvt, Other, Prepend, RegionalIndicator, SpacingMark, T, V, Zwj}
use Rattle.ucd_breaks.proofs.Computing.{ucd_breaks}
use Rattle.ucd_derived.specs.IndicConjunctBreak.{indic_conjunct_break}
use Rattle.ucd_derived.proofs.IndicConjunctBreakLemmas.{indic_conjunct_break_stepped}
use Rattle.ucd_table.proofs.Computing.{tables}
use Rattle.ucd_table.proofs.RangedFacts.{Stepped-at_points, points_ok}
use Rattle.unicode_segmentation.specs.Grapheme.{break_by_pair, ends_in_linker, is_consonant, is_zwj, is_regional, ends_in_half_flag, is_grapheme_break}
use Rattle.unicode_segmentation.specs.Segments.{cut}
use Rattle.unicode_segmentation.proofs.GraphemeLemmas.{is_grapheme_break-inside, joins_emoji-not_zwj}
use Rattle.cluster_units.specs.Cluster.{clusters}
use Rattle.cluster_units.specs.Plain.{is_plain}
use Rattle.cluster_units.proofs.Pieces.{total}

-- the values of these characters: none joins another of them
abbrev is_loose : GraphemeClusterBreak → Bool
is_loose Other = true
is_loose Control = true
is_loose Lf = true
is_loose Lv = true
is_loose Lvt = true
is_loose _ = false

no_plain : (b : Bool) → b ≡ true → not b ≡ true → ⊥
no_plain true h n = cc
no_plain false h n = cc

loose : (c : ℕ) → is_plain c ≡ true → is_loose (grapheme_cluster_break c) ≡ true
unfolding tables points_ok ucd_breaks
loose c plain = elim (cases_Bool (is_loose (grapheme_cluster_break c))) [
  | inl is ↦ is
  | inr other ↦ absurd (no_plain (is_plain c) plain (Stepped-at_points grapheme_cluster_break grapheme_cluster_break_stepped is_loose (λ x v. not (is_plain x)) refl c other))
]

loose_cases : (v : GraphemeClusterBreak) → is_loose v ≡ true → (P : GraphemeClusterBreak → Type 0) → P Other → P Control → P Lf → P Lv → P Lvt → P v
loose_cases Other is P other control lf lv lvt = other
loose_cases Control is P other control lf lv lvt = control
loose_cases Lf is P other control lf lv lvt = lf
loose_cases Cr is P other control lf lv lvt = absurd (cc)
loose_cases Extend is P other control lf lv lvt = absurd (cc)
loose_cases L is P other control lf lv lvt = absurd (cc)
loose_cases Lv is P other control lf lv lvt = lv
loose_cases Lvt is P other control lf lv lvt = lvt
loose_cases Prepend is P other control lf lv lvt = absurd (cc)
loose_cases RegionalIndicator is P other control lf lv lvt = absurd (cc)
loose_cases SpacingMark is P other control lf lv lvt = absurd (cc)
loose_cases T is P other control lf lv lvt = absurd (cc)
loose_cases V is P other control lf lv lvt = absurd (cc)
loose_cases Zwj is P other control lf lv lvt = absurd (cc)

no_consonant : (c : ℕ) → is_plain c ≡ true → not (is_consonant (indic_conjunct_break c)) ≡ true
unfolding tables points_ok indic_conjunct_break_stepped
no_consonant c plain = elim (cases_Bool (not (is_consonant (indic_conjunct_break c)))) [
  | inl is ↦ is
  | inr other ↦ absurd (no_plain (is_plain c) plain (Stepped-at_points indic_conjunct_break indic_conjunct_break_stepped (λ v. not (is_consonant v)) (λ x v. not (is_plain x)) refl c other))
]

apart : (l r : GraphemeClusterBreak) → is_loose l ≡ true → is_loose r ≡ true → (rest : Bool) → rest ≡ true → unwrap_or (break_by_pair true l r) rest ≡ true
apart l r left right rest is =
    loose_cases l left (λ l. unwrap_or (break_by_pair true l r) rest ≡ true)
    (loose_cases r right (λ r. unwrap_or (break_by_pair true Other r) rest ≡ true) is refl refl is is)
    (loose_cases r right (λ r. unwrap_or (break_by_pair true Control r) rest ≡ true) refl refl refl refl refl)
    (loose_cases r right (λ r. unwrap_or (break_by_pair true Lf r) rest ≡ true) refl refl refl refl refl)
    (loose_cases r right (λ r. unwrap_or (break_by_pair true Lv r) rest ≡ true) is refl refl is is)
    (loose_cases r right (λ r. unwrap_or (break_by_pair true Lvt r) rest ≡ true) is refl refl is is)

breaks : (c : ℕ) (before cs : List ℕ) → is_plain c ≡ true → list_all is_plain cs ≡ true → is_grapheme_break true (c ∷ before) (cs ++ []) ≡ true
breaks c before [] plain all = unfold is_grapheme_break in refl
breaks c before (d ∷ cs) plain all =
    let parts = and_parts (is_plain d) (list_all is_plain cs) all in
    let left = loose c plain in
    let right = loose d parts.0 in
    let conjunct = and_right (ends_in_linker (map indic_conjunct_break (c ∷ before))) _ (not-true _ (no_consonant d parts.0)) in
    let emoji = joins_emoji-not_zwj (c ∷ before) d (loose_cases (grapheme_cluster_break c) left (λ v. is_zwj v ≡ false) refl refl refl refl refl) in
    let flag = and_right (ends_in_half_flag (c ∷ before)) _ (loose_cases (grapheme_cluster_break d) right (λ v. is_regional v ≡ false) refl refl refl refl refl) in
    is_grapheme_break-inside true (c ∷ before) d (cs ++ []) (omega arith)
    ∙ apart (grapheme_cluster_break c) (grapheme_cluster_break d) left right _ (ap not (ap₂ ◌||◌ (ap₂ ◌||◌ conjunct emoji) flag))

cut_plain : (before cs : List ℕ) → list_all is_plain cs ≡ true → cut (is_grapheme_break true) before cs [] ≡ map (λ c. c ∷ []) cs
unfolding cut
cut_plain before [] all = refl
cut_plain before (c ∷ cs) all =
    let parts = and_parts (is_plain c) (list_all is_plain cs) all in
    rw (breaks c before cs parts.0 parts.1) (ap (λ rest. (c ∷ []) ∷ rest) (cut_plain (c ∷ before) cs parts.1))

-- each character as a piece
abbrev pub pieces : List ℕ → List (List ℕ)
pieces = map (λ c. c ∷ [])

pub total_pieces : (text : List ℕ) → total (pieces text) ≡ length text
total_pieces [] = refl
total_pieces (c ∷ text) = let rest = total_pieces text in omega arith

pub plain_pieces : (text : List ℕ) → list_all is_plain text ≡ true → pieces text ≡ clusters text
plain_pieces text all = sym (cut_plain [] text all)
