-- The first line of a text, and its end.
use Rattle.std.proofs.Common.{◌≡◌, inl, inr, ℕ, ◌+◌, ◌-◌, ◌<◌, suc, Bool, true, false, cond, List, [], ◌∷◌, ◌++◌, length, take, drop, get_or, refl, sym, ap, subst, ◌∙◌, arith}
use Rattle.std.specs.Prelude.{not}
use Rattle.std.specs.List.{All, after_first, before_first, position_or_len}
use Rattle.std.specs.Str.Lines.{strip_carriage_return}
use Rattle.std.proofs.lemmas.Bool.{eqb-true, ne_eqb}
use Rattle.std.proofs.lemmas.List.{take_all}
use Rattle.std.proofs.lemmas.List.Elements.{All-cons, All-nil}
use Rattle.std.proofs.Math.Seq.{take-suc}
use Rattle.edit_script.specs.Script.{is_lf}
use Rattle.edit_script.specs.Views.{IsFirstLine}

abbrev NoLf : List ℕ → Type 0
NoLf bytes = All (λ byte. is_lf byte ≡ false) bytes

none_by : (byte : ℕ) (bytes : List ℕ) (t : Bool) → is_lf byte ≡ t → NoLf (take (position_or_len is_lf bytes) bytes)
    → NoLf (take (cond (not t) (1 + position_or_len is_lf bytes) 0) (byte ∷ bytes))
none_by byte bytes true e none = All-nil (λ b. is_lf b ≡ false)
none_by byte bytes false e none =
    let one : 1 + position_or_len is_lf bytes ≡ suc (position_or_len is_lf bytes) = omega arith in
    rw one (All-cons (λ b. is_lf b ≡ false) byte (take (position_or_len is_lf bytes) bytes) e none)

none_before : (bytes : List ℕ) → NoLf (take (position_or_len is_lf bytes) bytes)
none_before [] = All-nil (λ b. is_lf b ≡ false)
none_before (byte ∷ bytes) = none_by byte bytes (is_lf byte) refl (none_before bytes)

cut_by : (byte : ℕ) (bytes : List ℕ) (t : Bool) → is_lf byte ≡ t
    → (position_or_len is_lf bytes < length bytes → bytes ≡ take (position_or_len is_lf bytes) bytes ++ 10 ∷ drop (position_or_len is_lf bytes + 1) bytes)
    → cond (not t) (1 + position_or_len is_lf bytes) 0 < length (byte ∷ bytes)
    → byte ∷ bytes ≡ take (cond (not t) (1 + position_or_len is_lf bytes) 0) (byte ∷ bytes) ++ 10 ∷ drop (cond (not t) (1 + position_or_len is_lf bytes) 0 + 1) (byte ∷ bytes)
cut_by byte bytes true e later lt = ap (λ (b : ℕ). b ∷ bytes) (eqb-true byte 10 e)
cut_by byte bytes false e later lt =
    let one : 1 + position_or_len is_lf bytes ≡ suc (position_or_len is_lf bytes) = omega arith in
    let two : suc (position_or_len is_lf bytes) + 1 ≡ suc (position_or_len is_lf bytes + 1) = omega arith in
    rw (one, two) (ap (λ (b : List ℕ). byte ∷ b) (later (omega (arith, lt))))

cut_at : (bytes : List ℕ) → position_or_len is_lf bytes < length bytes → bytes ≡ take (position_or_len is_lf bytes) bytes ++ 10 ∷ drop (position_or_len is_lf bytes + 1) bytes
cut_at [] lt = absurd (omega arith)
cut_at (byte ∷ bytes) lt = cut_by byte bytes (is_lf byte) refl (cut_at bytes) lt

pub line_found : (bytes line after : List ℕ) → position_or_len is_lf bytes < length bytes → line ≡ before_first is_lf bytes → after ≡ after_first is_lf bytes → IsFirstLine bytes line after
line_found bytes line after lt before behind = rw (before, behind) (none_before bytes, inl (cut_at bytes lt))

pub line_ends : (bytes : List ℕ) → position_or_len is_lf bytes ≡ length bytes → IsFirstLine bytes bytes []
line_ends bytes none = (subst NoLf (take_all (position_or_len is_lf bytes) bytes (omega (arith, none))) (none_before bytes), inr (refl, refl))

-- ---- the CR at the end

whole : (byte : ℕ) (bytes : List ℕ) → byte ∷ bytes ≡ take (length (byte ∷ bytes) - 1) (byte ∷ bytes) ++ get_or (byte ∷ bytes) (length (byte ∷ bytes) - 1) 0 ∷ []
whole byte bytes =
    sym (take_all (suc (length (byte ∷ bytes) - 1)) (byte ∷ bytes) (omega arith)) ∙ take-suc (byte ∷ bytes) (length (byte ∷ bytes) - 1) 0 (omega arith)

pub no_cr : (line : List ℕ) → ((front : List ℕ) → line ≡ front ++ 13 ∷ [] → ⊥) → line ≡ strip_carriage_return line
no_cr [] none = refl
no_cr (byte ∷ bytes) none =
    sym (ap (λ (t : Bool). cond t (take (length (byte ∷ bytes) - 1) (byte ∷ bytes)) (byte ∷ bytes))
    (ne_eqb (get_or (byte ∷ bytes) (length (byte ∷ bytes) - 1) 0) 13
    (λ cr. none (take (length (byte ∷ bytes) - 1) (byte ∷ bytes)) (whole byte bytes ∙ ap (λ (b : ℕ). take (length (byte ∷ bytes) - 1) (byte ∷ bytes) ++ b ∷ []) cr))))
