-- Attributes, judged one by one.
use Rattle.std.proofs.Common.{◌≡◌, ℕ, ◌+◌, true, false, List, [], ◌∷◌, ◌++◌, length, map, Ok, Err, refl, sym, ap, subst, ◌∙◌, arith}
use Rattle.std.specs.Prelude.{Bool, cond, not, ◌||◌, Result, bytes_eq}
use Rattle.std.specs.String.{string_bytes, string_cmp}
use Rattle.std.specs.declared.string.String.{String}
use Rattle.std.specs.BTreeSet.{BTreeSet, contains, Updates}
use Rattle.std.proofs.lemmas.Map.Text.{btree_set_updates_text}
use Rattle.std.proofs.lemmas.List.Folds.{list_any-append}
use Rattle.html_tokens.specs.declared.written.WrittenAttribute.{WrittenAttribute}
use Rattle.html_tokens.specs.Error.{Stop}
use Rattle.reading.specs.declared.stop.Stop.TheVariants as stops
use Rattle.html_tokens.specs.Attribute.{role_of}
use Rattle.html_tokens.specs.Error.{Fault}
use Rattle.reading.specs.Stop.{Stops}
use Rattle.html_tokens.specs.Written.{Attribute}
use Rattle.html_read.specs.Judging.{has_name, with_attribute, with_next, and_then, judged_behind, judged}
use Rattle.html_read.specs.Values.{Acting}
use Rattle.html_tokens.specs.Written.{attribute_of}
use Rattle.html_read.specs.Views.{AreSeen, TellsNew}

-- ---- the names seen

or_last : (a b : Bool) → (a || (b || false)) ≡ cond b true a
or_last true true = refl
or_last true false = refl
or_last false true = refl
or_last false false = refl

one_more : (names : List (List ℕ)) (name other : List ℕ) → cond (bytes_eq name other) true (has_name other names) ≡ has_name other (names ++ name ∷ [])
one_more names name other =
    sym (list_any-append (λ (n : List ℕ). bytes_eq n other) names (name ∷ []) ∙ or_last (has_name other names) (bytes_eq name other))

seen_now : {Y : Type 0} (names : List (List ℕ)) (old new : BTreeSet (String Y)) (key : String Y) → Updates string_cmp old new key true → AreSeen names old → AreSeen (names ++ string_bytes key ∷ []) new
seen_now names old new key updates are other =
    btree_set_updates_text (string_bytes key) old new true updates other ∙ ap (cond (bytes_eq (string_bytes key) other) true) (are other) ∙ one_more names (string_bytes key) other

pub new_told : {Y : Type 0} (name : List ℕ) (old new : BTreeSet (String Y)) (key : String Y) (added : Bool) → string_bytes key ≡ name → added ≡ not (contains string_cmp old key)
    → Updates string_cmp old new key true → (names : List (List ℕ)) → AreSeen names old → (added ≡ not (has_name name names)) × AreSeen (names ++ name ∷ []) new
new_told name old new key added is told updates names are = (
  told ∙ ap not (are (string_bytes key)) ∙ ap (λ (n : List ℕ). not (has_name n names)) is,
  subst (λ (n : List ℕ). AreSeen (names ++ n ∷ []) new) is (seen_now names old new key updates are),
)

-- ---- attribute by attribute

-- what the attributes that are left say with what is said so far is what all say
pub record IsJudging {Y : Type 0} (size : ℕ) (all left : List WrittenAttribute) (count : ℕ) (seen : BTreeSet (String Y)) (said : Acting) : Type 0 where
  pub names : List (List ℕ)
  pub are : AreSeen names seen
  pub same : judged_behind size names said (map attribute_of left) ≡ judged size (map attribute_of all)
  pub counted : count ≡ length left

next_here : {Y : Type 0} (size : ℕ) (all left others : List WrittenAttribute) (a : WrittenAttribute) (count : ℕ) (seen : BTreeSet (String Y)) (said : Acting) (r : Result Acting Fault) (now : IsJudging size all left count seen said)
    → left ≡ a ∷ others → with_next size now.names (attribute_of a) said ≡ r
    → and_then r (λ more. judged_behind size (now.names ++ (attribute_of a).name ∷ []) more (map attribute_of others)) ≡ judged size (map attribute_of all)
next_here size all left others a count seen said r now first e =
    let here : judged_behind size now.names said (map attribute_of left)
    ≡ and_then (with_next size now.names (attribute_of a) said) (λ more. judged_behind size (now.names ++ (attribute_of a).name ∷ []) more (map attribute_of others)) =
    ap (λ (l : List WrittenAttribute). judged_behind size now.names said (map attribute_of l)) first in
    ap (λ (x : Result Acting Fault). and_then x (λ more. judged_behind size (now.names ++ (attribute_of a).name ∷ []) more (map attribute_of others))) (sym e) ∙ sym here ∙ now.same

not_seen : (size : ℕ) (seen : List (List ℕ)) (a : Attribute) (said : Acting) → has_name a.name seen ≡ false → with_next size seen a said ≡ with_attribute size (role_of a.name) a said
not_seen size seen a said e = rw e refl

is_new : (has is : Bool) → is ≡ not has → is ≡ true → has ≡ false
is_new true is e f = absurd (cc (sym e ∙ f))
is_new false is e f = refl

pub judging_goes_on : {Y : Type 0} (size : ℕ) (all left others : List WrittenAttribute) (a : WrittenAttribute) (count less : ℕ) (old new : BTreeSet (String Y)) (said more : Acting) (is : Bool)
    → IsJudging size all left count old said → left ≡ a ∷ others → less + 1 ≡ count → TellsNew (attribute_of a).name old new (Ok is) → is ≡ true
    → with_attribute size (role_of (attribute_of a).name) (attribute_of a) said ≡ Ok more → IsJudging size all others less new more
judging_goes_on size all left others a count less old new said more is now first fewer told e with_it =
    let knows = told now.names now.are in
    let none = is_new (has_name (attribute_of a).name now.names) is knows.0 e in
    record {
      names = now.names ++ (attribute_of a).name ∷ [];
      are = knows.1;
      same = next_here size all left others a count old said (Ok more) now first (not_seen size now.names (attribute_of a) said none ∙ with_it);
      counted = omega (arith, fewer, now.counted, ap length first);
    }

pub judging_stops : {Y : Type 0} (size : ℕ) (all left others : List WrittenAttribute) (a : WrittenAttribute) (count : ℕ) (old new : BTreeSet (String Y)) (said : Acting) (is : Bool) (stop_ : Stop)
    → IsJudging size all left count old said → left ≡ a ∷ others → TellsNew (attribute_of a).name old new (Ok is) → is ≡ true
    → Stops stop_ (with_attribute size (role_of (attribute_of a).name) (attribute_of a) said) → Stops stop_ (judged size (map attribute_of all))
judging_stops size all left others a count old new said is (stops.Refused kind rest) now first told e with_it =
    let none = is_new (has_name (attribute_of a).name now.names) is (told now.names now.are).0 e in
    sym (next_here size all left others a count old said (Err (kind, rest.now)) now first (not_seen size now.names (attribute_of a) said none ∙ with_it))
judging_stops size all left others a count old new said is stops.Memory now first told e with_it = tt
