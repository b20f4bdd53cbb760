-- White space by what stands on both sides of it.
use Rattle.std.proofs.Common.{◌≡◌, ℕ, ◌+◌, ◌<◌, Bool, true, false, ◌||◌, not, List, [], ◌∷◌, ◌++◌, length, slice_index_or, drop, map, Option, Some, None, inl, inr, ap, ap₂, sym, ◌∙◌, refl}
use Rattle.std.specs.Prelude.{cond, unwrap_or}
use Rattle.std.specs.List.{list_any}
use Rattle.std.specs.Str.{chars}
use Rattle.std.proofs.lemmas.Bool.{cases_Bool}
use Rattle.fragment_types.specs.Item.{Entry, text, begins, ends, atom, line_break, entry_of, entries_of}
use Rattle.fragment_types.specs.declared.item.Item.{Item}
use Rattle.cluster_units.specs.Cluster.{is_control}
use Rattle.para_prepare.specs.Marks.{follows_at, is_bidi_control, is_content, is_kept_with, marks_with, space_if, tells}
use Rattle.para_prepare.specs.White.{Sign, white, solid, passed, broken, chosen, follows, is_kept, is_white, leads, marks_from, sign_of, signs, signs_in}
use Rattle.para_prepare.proofs.Controls.{controls_are}
use Rattle.para_prepare.proofs.KeptLaws.{item_first}

-- ---- what stands before

kept_is : (before : List Sign) (sign : Sign) (after : List Sign) → is_kept before sign after ≡ is_kept_with sign (follows before) (leads after)
kept_is before white after = refl
kept_is before solid after = refl
kept_is before passed after = refl
kept_is before broken after = refl

follows_is : (before : List Sign) (sign : Sign) → follows (sign ∷ before) ≡ follows_at sign (follows before)
follows_is before white = refl
follows_is before solid = refl
follows_is before passed = refl
follows_is before broken = refl

marks_are : (before signs : List Sign) → marks_from before signs ≡ marks_with signs (follows before)
marks_are before [] = refl
marks_are before (sign ∷ after) =
    ap₂ (λ mark marks. mark ∷ marks) (kept_is before sign after)
    (marks_are (sign ∷ before) after ∙ ap (marks_with after) (follows_is before sign))

pub all_marks : (signs : List Sign) → marks_from [] signs ≡ marks_with signs false
all_marks signs = marks_are [] signs

-- ---- what comes behind

pub leads_text : (cs : List ℕ) (after : List Sign) → leads (map sign_of cs ++ after) ≡ (list_any is_content cs || leads after)
leads_text [] after = refl
leads_text (c ∷ cs) after = elim (cases_Bool (is_white c)) [
  | inl blank ↦ rw blank (leads_text cs after)
  | inr other ↦ elim (cases_Bool (is_bidi_control c)) [
    | inl control ↦ let passes : is_control c ≡ true = sym (controls_are c) ∙ control in rw (other, passes, control) (leads_text cs after)
    | inr content ↦ let none : is_control c ≡ false = sym (controls_are c) ∙ content in rw (other, none, content) refl
  ]
]

told : (entry : Entry) (after : List Sign) → leads (signs_in entry ++ after) ≡ unwrap_or (tells entry) (leads after)
told (text node bytes style) after = leads_text (chars bytes) after ∙ either (list_any is_content (chars bytes))
  where
    either : (content : Bool) → (content || leads after) ≡ unwrap_or (cond content (Some true) None) (leads after)
    either true = refl
    either false = refl
told (begins node style edges) after = refl
told (ends node edges) after = refl
told (atom name) after = refl
told (line_break node) after = refl

-- the items from a place on
pub leads_from : (items : List Item) (i : ℕ) (item : Item) (own : Option Bool) → i < length items → item ≡ slice_index_or items i item → own ≡ tells (entry_of item)
    → leads (signs (entries_of (drop i items))) ≡ unwrap_or own (leads (signs (entries_of (drop (i + 1) items))))
leads_from items i item own lt is e =
    ap (λ entries. leads (signs entries)) (item_first items i item lt is)
    ∙ told (entry_of item) (signs (entries_of (drop (i + 1) items)))
    ∙ ap (λ own. unwrap_or own (leads (signs (entries_of (drop (i + 1) items))))) (sym e)

-- ---- one character

space_kept : (kept : Bool) (place : ℕ) (c : ℕ) → is_white c ≡ true → space_if kept place ≡ chosen place (c ∷ []) (kept ∷ [])
space_kept true place c blank = rw blank refl
space_kept false place c blank = refl

other_sign : (c : ℕ) (control : Bool) → is_white c ≡ false → is_bidi_control c ≡ control → sign_of c ≡ cond control passed solid
other_sign c true other control = let is : is_control c ≡ true = sym (controls_are c) ∙ control in rw (other, is) refl
other_sign c false other control = let is : is_control c ≡ false = sym (controls_are c) ∙ control in rw (other, is) refl

pub other_follows : (c : ℕ) (before : Bool) → is_white c ≡ false → (before || not (is_bidi_control c)) ≡ follows_at (sign_of c) before
other_follows c before other =
    either before (is_bidi_control c) ∙ ap (λ sign. follows_at sign before) (sym (other_sign c (is_bidi_control c) other refl))
  where
    either : (before control : Bool) → (before || not control) ≡ follows_at (cond control passed solid) before
    either true true = refl
    either true false = refl
    either false true = refl
    either false false = refl
