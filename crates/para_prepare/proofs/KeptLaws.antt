-- The kept characters, one more and item by item.
use Rattle.std.proofs.Common.{append_assoc, ◌≡◌, ℕ, ◌+◌, ◌<◌, Bool, true, false, List, [], ◌∷◌, ◌++◌, length, slice_index_or, drop, ap, ap₂, sym, ◌∙◌, refl}
use Rattle.std.specs.Prelude.{map}
use Rattle.std.proofs.lemmas.List.{append-nil, length-append, drop_more}
use Rattle.fragment_types.specs.Item.{entry_of, entries_of}
use Rattle.fragment_types.specs.declared.item.Item.{Item}
use Rattle.para_prepare.specs.declared.letter.Letter.{Letter}
use Rattle.para_prepare.specs.Kept.{ends_from, joined, kept_from, kept_in}
use Rattle.para_prepare.specs.Marks.{follows_all, follows_at, is_kept_with, marks_with}
use Rattle.para_prepare.specs.White.{Sign, chosen, leads, sign_of, signs, signs_in}

-- ---- the characters of a text

chosen_first : (place c : ℕ) (cs : List ℕ) (mark : Bool) (marks : List Bool) → chosen place (c ∷ cs) (mark ∷ marks) ≡ chosen place (c ∷ []) (mark ∷ []) ++ chosen (place + 1) cs marks
chosen_first place c cs true marks = refl
chosen_first place c cs false marks = refl

pub chosen_more : (letters more all : List Letter) (after : List Sign) (place c : ℕ) (left rest : List ℕ) (before now : Bool)
    → letters ++ chosen place left (marks_with (map sign_of left ++ after) before) ≡ all → left ≡ c ∷ rest
    → more ≡ letters ++ chosen place (c ∷ []) (is_kept_with (sign_of c) before (leads (map sign_of rest ++ after)) ∷ []) → now ≡ follows_at (sign_of c) before
    → more ++ chosen (place + 1) rest (marks_with (map sign_of rest ++ after) now) ≡ all
chosen_more letters more all after place c left rest before now e is m n =
    let mark = is_kept_with (sign_of c) before (leads (map sign_of rest ++ after)) in
    let marks = marks_with (map sign_of rest ++ after) (follows_at (sign_of c) before) in
    ap₂ (λ more now. more ++ chosen (place + 1) rest (marks_with (map sign_of rest ++ after) now)) m n
    ∙ append_assoc letters (chosen place (c ∷ []) (mark ∷ [])) (chosen (place + 1) rest marks)
    ∙ ap (λ later. letters ++ later) (sym (chosen_first place c rest mark marks))
    ∙ ap (λ left. letters ++ chosen place left (marks_with (map sign_of left ++ after) before)) (sym is)
    ∙ e

pub follows_more : (c : ℕ) (left rest : List ℕ) (before now all : Bool) → follows_all (map sign_of left) before ≡ all → left ≡ c ∷ rest → now ≡ follows_at (sign_of c) before
    → follows_all (map sign_of rest) now ≡ all
follows_more c left rest before now all e is n = ap (follows_all (map sign_of rest)) n ∙ ap (λ left. follows_all (map sign_of left) before) (sym is) ∙ e

-- ---- the items

-- the marks behind some signs
marks_behind : (front after : List Sign) (before : Bool) → drop (length front) (marks_with (front ++ after) before) ≡ marks_with after (follows_all front before)
marks_behind [] after before = refl
marks_behind (sign ∷ front) after before = marks_behind front after (follows_at sign before)

-- the items from a place on
pub item_first : (items : List Item) (i : ℕ) (item : Item) → i < length items → item ≡ slice_index_or items i item
    → entries_of (drop i items) ≡ entry_of item ∷ entries_of (drop (i + 1) items)
item_first items i item lt is = ap (map entry_of) (drop_more items i item lt ∙ ap (λ item. item ∷ drop (i + 1) items) (sym is))

-- what the definition gives from an item on
pub kept_first : (items : List Item) (i : ℕ) (item : Item) (before : Bool) → i < length items → item ≡ slice_index_or items i item
    → kept_from (entries_of (drop i items)) (marks_with (signs (entries_of (drop i items))) before)
    ≡ kept_in (entry_of item) (marks_with (signs_in (entry_of item) ++ signs (entries_of (drop (i + 1) items))) before)
    ∷ kept_from (entries_of (drop (i + 1) items)) (marks_with (signs (entries_of (drop (i + 1) items))) (follows_all (signs_in (entry_of item)) before))
kept_first items i item before lt is =
    let rest = entries_of (drop (i + 1) items) in
    let marks = marks_with (signs_in (entry_of item) ++ signs rest) before in
    ap (λ entries. kept_from entries (marks_with (signs entries) before)) (item_first items i item lt is)
    ∙ ap (λ left. kept_in (entry_of item) marks ∷ kept_from rest left) (marks_behind (signs_in (entry_of item)) (signs rest) before)

pub letters_more : (letters more all : List Letter) (lists rest : List (List Letter)) (one : List Letter)
    → letters ++ joined lists ≡ all → lists ≡ one ∷ rest → more ≡ letters ++ one → more ++ joined rest ≡ all
letters_more letters more all lists rest one before is e =
    ap (λ more. more ++ joined rest) e ∙ append_assoc letters one (joined rest) ∙ ap (λ lists. letters ++ joined lists) (sym is) ∙ before

pub ends_more : (ends more all : List ℕ) (letters longer : List Letter) (lists rest : List (List Letter)) (one : List Letter)
    → ends ++ ends_from (length letters) lists ≡ all → lists ≡ one ∷ rest → longer ≡ letters ++ one → more ≡ ends ++ length longer ∷ []
    → more ++ ends_from (length longer) rest ≡ all
ends_more ends more all letters longer lists rest one before is e pushed =
    let long : length longer ≡ length letters + length one = ap length e ∙ length-append letters one in
    ap (λ more. more ++ ends_from (length longer) rest) pushed ∙ append_assoc ends (length longer ∷ []) (ends_from (length longer) rest)
    ∙ ap (λ end_. ends ++ end_ ∷ ends_from end_ rest) long ∙ ap (λ lists. ends ++ ends_from (length letters) lists) (sym is) ∙ before

pub none_left : (letters all : List Letter) (lists : List (List Letter)) → letters ++ joined lists ≡ all → lists ≡ [] → letters ≡ all
none_left letters all lists e none = sym (append-nil letters) ∙ ap (λ lists. letters ++ joined lists) (sym none) ∙ e

pub no_end_left : (ends all : List ℕ) (place : ℕ) (lists : List (List Letter)) → ends ++ ends_from place lists ≡ all → lists ≡ [] → ends ≡ all
no_end_left ends all place lists e none = sym (append-nil ends) ∙ ap (λ lists. ends ++ ends_from place lists) (sym none) ∙ e

pub none_chosen : (letters all : List Letter) (after : List Sign) (place : ℕ) (left : List ℕ) (before : Bool)
    → letters ++ chosen place left (marks_with (map sign_of left ++ after) before) ≡ all → left ≡ [] → letters ≡ all
none_chosen letters all after place left before e none =
    sym (append-nil letters) ∙ ap (λ last. letters ++ last) (sym (nothing place (marks_with after before)))
    ∙ ap (λ left. letters ++ chosen place left (marks_with (map sign_of left ++ after) before)) (sym none) ∙ e
  where
    nothing : (place : ℕ) (marks : List Bool) → chosen place [] marks ≡ []
    nothing place [] = refl
    nothing place (true ∷ marks) = refl
    nothing place (false ∷ marks) = refl
