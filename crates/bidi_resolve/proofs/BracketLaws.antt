-- The loops over brackets, step by step.
use Rattle.std.proofs.Common.{◌≡◌, ◌∙◌, Bool, refl, sym, ap, arith, inl, inr, ℕ, suc, ◌+◌, ◌<◌, ◌≤◌, true, false, List, [], ◌∷◌, ◌++◌, append_assoc, length, get_or, take, drop, set, drop_of_length-le, length-append, length-drop, Option, Some, None}
use Rattle.std.proofs.lemmas.List.{take_more_set, drop-set-lt, drop_more, take-append-drop, take-append-le, length-take-le, length-map, get_or-map}
use Rattle.std.proofs.lemmas.Bool.{cases_Bool}
use Rattle.wm_chars.specs.declared.classes.BidiClass.{BidiClass}
use Rattle.bidi_resolve.specs.Brackets.{is_mark, follow, become, both_become}
use Rattle.bidi_resolve.specs.Pairing.{resolve_at, resolve_read}
use Rattle.bidi_resolve.specs.Places.{gathered}
use Rattle.wm_chars.specs.declared.classes.BidiClass.TheVariants.{L}

-- the bracket itself has its class
pub follow_starts : (class : BidiClass) (originals cs : List BidiClass) (place : ℕ) → place < length cs →
    take (place + 1) (set cs place class) ++ follow class (drop (place + 1) originals) (drop (place + 1) (set cs place class)) ≡ become class place originals cs
follow_starts class originals cs place lt =
    rw (take_more_set cs place class lt, drop-set-lt (place + 1) cs place class (omega arith))
    (append_assoc (take place cs) (class ∷ []) (follow class (drop (place + 1) originals) (drop (place + 1) cs)))

-- one mark more
pub follow_more : (class : BidiClass) (originals cs : List BidiClass) (k : ℕ) (d : BidiClass) → k < length cs → k < length originals → is_mark (get_or originals k d) ≡ true →
    take (k + 1) (set cs k class) ++ follow class (drop (k + 1) originals) (drop (k + 1) (set cs k class)) ≡ take k cs ++ follow class (drop k originals) (drop k cs)
follow_more class originals cs k d lt lt' mark =
    rw (take_more_set cs k class lt, drop-set-lt (k + 1) cs k class (omega arith), drop_more cs k d lt, drop_more originals k d lt', mark)
    (append_assoc (take k cs) (class ∷ []) (follow class (drop (k + 1) originals) (drop (k + 1) cs)))

-- the first that is none
pub follow_stops : (class : BidiClass) (originals cs : List BidiClass) (k : ℕ) (d : BidiClass) → k < length cs → k < length originals → is_mark (get_or originals k d) ≡ false →
    take k cs ++ follow class (drop k originals) (drop k cs) ≡ cs
follow_stops class originals cs k d lt lt' other =
    rw (drop_more cs k d lt, drop_more originals k d lt', other) (ap (λ l. take k cs ++ l) (sym (drop_more cs k d lt)) ∙ take-append-drop k cs)

-- or the end
pub follow_ends : (class : BidiClass) (originals cs : List BidiClass) (k : ℕ) → length cs ≤ k → length originals ≤ k →
    take k cs ++ follow class (drop k originals) (drop k cs) ≡ cs
follow_ends class originals cs k past past' =
    let none : follow class (drop k originals) (drop k cs) ≡ drop k cs = rw (drop_of_length-le originals past') refl in
    ap (λ l. take k cs ++ l) none ∙ take-append-drop k cs

length_follow : (class : BidiClass) (originals cs : List BidiClass) → length (follow class originals cs) ≡ length cs
length_follow class [] cs = refl
length_follow class (o ∷ originals) [] = refl
length_follow class (o ∷ originals) (c ∷ cs) = elim (cases_Bool (is_mark o)) [
  | inl mark ↦ rw mark (ap (λ (n : ℕ). suc n) (length_follow class originals cs))
  | inr other ↦ rw other refl
]

pub length_become : (class : BidiClass) (place : ℕ) (originals cs : List BidiClass) → place < length cs → length (become class place originals cs) ≡ length cs
length_become class place originals cs lt =
    length-append (take place cs) (class ∷ follow class (drop (place + 1) originals) (drop (place + 1) cs))
    ∙ (let front = length-take-le place cs (omega arith) in
    let tail = length_follow class (drop (place + 1) originals) (drop (place + 1) cs) in
    let back = length-drop (place + 1) cs in
    omega arith)

-- what stands before a bracket stays
become_before : (class : BidiClass) (place k : ℕ) (originals cs : List BidiClass) → k ≤ place → place < length cs → take k (become class place originals cs) ≡ take k cs
become_before class place k originals cs le lt =
    let front = length-take-le place cs (omega arith) in
    take-append-le k (take place cs) (class ∷ follow class (drop (place + 1) originals) (drop (place + 1) cs)) (omega arith)
    ∙ sym (take-append-le k (take place cs) (drop place cs) (omega arith))
    ∙ ap (take k) (take-append-drop place cs)

both_before : (class : Option BidiClass) (k opening closing : ℕ) (originals cs : List BidiClass) → k ≤ opening → opening < closing → closing < length cs → take k (both_become class opening closing originals cs) ≡ take k cs
both_before None k opening closing originals cs le behind lt = refl
both_before (Some class) k opening closing originals cs le behind lt =
    let same = length_become class opening originals cs (omega arith) in
    become_before class closing k originals (become class opening originals cs) (omega arith) (omega arith) ∙ become_before class opening k originals cs (omega arith) (omega arith)

-- what stands before a pair stays
pub resolve_at_before : (level : ℕ) (sos : BidiClass) (k opening : ℕ) (closing : Option ℕ) (originals cs : List BidiClass) → k ≤ opening →
    ((b : ℕ) → closing ≡ Some b → (opening < b) × (b < length cs)) → take k (resolve_at level sos opening closing originals cs) ≡ take k cs
resolve_at_before level sos k opening None originals cs le behind = refl
resolve_at_before level sos k opening (Some closing) originals cs le behind = let both = behind closing refl in both_before _ k opening closing originals cs le both.0 both.1

-- one pair further
pub pairs_more : (level : ℕ) (sos : BidiClass) (openings : List ℕ) (closings : List (Option ℕ)) (originals cs : List BidiClass) (k opening : ℕ) (closing : Option ℕ) → k < length openings → k < length closings →
    opening ≡ get_or openings k opening → closing ≡ get_or closings k closing →
    resolve_read level sos (drop (k + 1) openings) (drop (k + 1) closings) originals (resolve_at level sos opening closing originals cs) ≡ resolve_read level sos (drop k openings) (drop k closings) originals cs
pairs_more level sos openings closings originals cs k opening closing lt lt' is_opening is_closing =
    ap (λ (o : ℕ). resolve_read level sos (drop (k + 1) openings) (drop (k + 1) closings) originals (resolve_at level sos o closing originals cs)) is_opening
    ∙ ap (λ (c : Option ℕ). resolve_read level sos (drop (k + 1) openings) (drop (k + 1) closings) originals (resolve_at level sos (get_or openings k opening) c originals cs)) is_closing
    ∙ rw (drop_more openings k opening lt, drop_more closings k closing lt') refl

-- a class read by its place in the paragraph
pub mark_at : (originals : List BidiClass) (places : List ℕ) (k : ℕ) (b : Bool) → k < length places → is_mark (get_or originals (get_or places k 0) L) ≡ b → is_mark (get_or (gathered L originals places) k L) ≡ b
mark_at originals places k b lt e = ap is_mark (get_or-map (λ p. get_or originals p L) places k 0 L lt) ∙ e

pub length_gathered : (originals : List BidiClass) (places : List ℕ) → length (gathered L originals places) ≡ length places
length_gathered originals places = length-map places (λ p. get_or originals p L)
