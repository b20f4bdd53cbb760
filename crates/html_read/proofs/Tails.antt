-- What stands behind the place that the reader of a tail answers.
use Rattle.std.proofs.Common.{◌≡◌, ◌⊎◌, inl, inr, sym, ap, subst, ◌∙◌, arith, refl, ℕ, ◌+◌, ◌-◌, ◌≤◌, Bool, true, false, cond, eqb, List, [], ◌∷◌, ◌++◌, append_assoc, append-nil, length, length-append, drop, take, get_or, Ok, Err, IfOk}
use Rattle.std.proofs.Math.Seq.{drop-append_seam, get_or-append_seam}
use Rattle.std.proofs.lemmas.List.{take-append-drop, length-take-le}
use Rattle.std.proofs.lemmas.Bool.{eqb-true}
use Rattle.std.specs.Prelude.{Result, ⊤}
use Rattle.std.specs.Str.{IsUtf8, IsCharBoundary}
use Rattle.std.proofs.lemmas.Str.{IsUtf8-drop, IsUtf8-nil, IsCharBoundary-after_ascii}
use Rattle.reading.specs.Readers.{Read, skip}
use Rattle.reading.proofs.SpellLaws.{bind_ok, same_answer}
use Rattle.html_tokens.specs.Lexing.{misc}
use Rattle.html_read.specs.declared.error.HtmlError.{HtmlError}
use Rattle.html_read.specs.Error.{TellsTail}
use Rattle.html_read.specs.Reading.{is_blank, line_end, nothing, tail}

abbrev got : List ℕ → Read ⊤
got rest = Ok (tt, rest)

same_rest : (one other : List ℕ) → got one ≡ got other → one ≡ other
same_rest one other e = (same_answer {E = List ℕ} tt tt one other e).1

-- ---- what was read is a front, which nothing follows or which ends with a line feed

record IsCut (text rest : List ℕ) : Type 0 where
  front : List ℕ
  parts : text ≡ front ++ rest
  ends : (rest ≡ []) ⊎ ((line : List ℕ) × (front ≡ line ++ 10 ∷ []))

skip_by : (byte : ℕ) (bytes rest : List ℕ) (t : Bool) → cond t (skip is_blank bytes) (got (byte ∷ bytes)) ≡ got rest
    → (skip is_blank bytes ≡ got rest → (front : List ℕ) × (bytes ≡ front ++ rest)) → (front : List ℕ) × (byte ∷ bytes ≡ front ++ rest)
skip_by byte bytes rest true e later =
    let l = later e in
    (byte ∷ l.0, ap (λ (s : List ℕ). byte ∷ s) l.1)
skip_by byte bytes rest false e later = ([], same_rest (byte ∷ bytes) rest e)

skipped : (bytes rest : List ℕ) → skip is_blank bytes ≡ got rest → (front : List ℕ) × (bytes ≡ front ++ rest)
unfolding skip
skipped [] rest e = ([], same_rest [] rest e)
skipped (byte ∷ bytes) rest e = skip_by byte bytes rest (is_blank byte) e (skipped bytes rest)

line_by : (byte : ℕ) (bytes rest : List ℕ) (t : Bool) → eqb byte 10 ≡ t → cond t (got bytes) (Err (byte ∷ bytes)) ≡ got rest → IsCut (byte ∷ bytes) rest
line_by byte bytes rest true is e =
    let same : bytes ≡ rest = same_rest bytes rest e in
    let feed : byte ≡ 10 = eqb-true byte 10 is in
    record { front = 10 ∷ []; parts = ap (λ (b : ℕ). b ∷ bytes) feed ∙ ap (λ (s : List ℕ). 10 ∷ s) same; ends = inr ([], refl) }
line_by byte bytes rest false is e = absurd cc

line_cut : (bytes rest : List ℕ) → line_end bytes ≡ got rest → IsCut bytes rest
line_cut [] rest e =
    let same : [] ≡ rest = same_rest [] rest e in
    record { front = []; parts = same; ends = inl (sym same) }
line_cut (byte ∷ bytes) rest e = line_by byte bytes rest (eqb byte 10) refl e

nothing_left : (bytes rest : List ℕ) → nothing bytes ≡ got rest → rest ≡ []
nothing_left [] rest e =
    let same : [] ≡ rest = same_rest [] rest e in
    sym same
nothing_left (byte ∷ bytes) rest e = absurd cc

behind_ends : (text front between rest line : List ℕ) → text ≡ front ++ between → between ≡ line ++ rest → (rest ≡ []) ⊎ ((run : List ℕ) × (line ≡ run ++ 10 ∷ [])) → IsCut text rest
behind_ends text front between rest line first second (inl none) = record { front = front ++ line; parts = first ∙ ap (λ (s : List ℕ). front ++ s) second ∙ sym (append_assoc front line rest); ends = inl none }
behind_ends text front between rest line first second (inr (run, e)) = record {
  front = front ++ line;
  parts = first ∙ ap (λ (s : List ℕ). front ++ s) second ∙ sym (append_assoc front line rest);
  ends = inr (front ++ run, ap (λ (s : List ℕ). front ++ s) e ∙ sym (append_assoc front run (10 ∷ [])));
}

tail_cut : (script : Bool) (text rest : List ℕ) → tail script text ≡ got rest → IsCut text rest
unfolding tail
tail_cut true text rest e =
    let first = bind_ok (skip is_blank text) (λ x. line_end x.1) (tt, rest) e in
    let blanks = skipped text first.0.1 first.1 in
    let cut = line_cut first.0.1 rest first.2 in
    behind_ends text blanks.0 first.0.1 rest cut.front blanks.1 cut.parts cut.ends
tail_cut false text rest e =
    let first = bind_ok (misc (60 ∷ []) text) (λ x. nothing x.1) (tt, rest) e in
    let none : rest ≡ [] = nothing_left first.0.1 rest first.2 in
    record { front = text; parts = sym (append-nil text) ∙ ap (λ (s : List ℕ). text ++ s) (sym none); ends = inl none }

-- ---- by the place of what is left

record IsBehind (bytes : List ℕ) (end_ place : ℕ) (rest : List ℕ) : Type 0 where
  low : end_ ≤ place
  high : place ≤ length bytes
  left : drop place bytes ≡ rest
  utf8 : IsUtf8 rest

rest_utf8 : (text front rest : List ℕ) → IsUtf8 text → text ≡ front ++ rest → (rest ≡ []) ⊎ ((run : List ℕ) × (front ≡ run ++ 10 ∷ [])) → IsUtf8 rest
rest_utf8 text front rest u parts (inl none) = subst (λ (s : List ℕ). IsUtf8 s) (sym none) IsUtf8-nil
rest_utf8 text front rest u parts (inr (run, e)) =
    let whole : text ≡ run ++ 10 ∷ rest = parts ∙ ap (λ (s : List ℕ). s ++ rest) e ∙ append_assoc run (10 ∷ []) rest in
    let at = length run in
    let long : length text ≡ at + length (10 ∷ rest) = ap length whole ∙ length-append run (10 ∷ rest) in
    let there : get_or text at 0 ≡ 10 = ap (λ (s : List ℕ). get_or s at 0) whole ∙ get_or-append_seam run 10 rest 0 in
    let cut : IsCharBoundary text (at + 1) = IsCharBoundary-after_ascii text at u (omega (arith, long)) (omega (arith, there)) in
    let size : length front ≡ at + 1 = ap length e ∙ length-append run (10 ∷ []) in
    let behind : drop (at + 1) text ≡ rest = ap (λ (n : ℕ). drop n text) (sym size) ∙ ap (λ (s : List ℕ). drop (length front) s) parts ∙ drop-append_seam front rest in
    subst (λ (s : List ℕ). IsUtf8 s) behind (IsUtf8-drop text (at + 1) u cut)

tail_behind : (bytes rest : List ℕ) (end_ : ℕ) (script : Bool) → end_ ≤ length bytes → IsUtf8 (drop end_ bytes) → tail script (drop end_ bytes) ≡ got rest → IsBehind bytes end_ (length bytes - length rest) rest
tail_behind bytes rest end_ script le u e =
    let cut = tail_cut script (drop end_ bytes) rest e in
    let before = take end_ bytes ++ cut.front in
    let whole : bytes ≡ before ++ rest =
    sym (take-append-drop end_ bytes) ∙ ap (λ (s : List ℕ). take end_ bytes ++ s) cut.parts ∙ sym (append_assoc (take end_ bytes) cut.front rest) in
    let size : length bytes ≡ length before + length rest = ap length whole ∙ length-append before rest in
    let size2 = length-append (take end_ bytes) cut.front in
    let size3 = length-take-le end_ bytes le in
    let place : length bytes - length rest ≡ length before = omega (arith, size) in
    record {
      low = omega (arith, size, size2, size3);
      high = omega arith;
      left = ap (λ (n : ℕ). drop n bytes) place ∙ ap (λ (s : List ℕ). drop (length before) s) whole ∙ drop-append_seam before rest;
      utf8 = rest_utf8 (drop end_ bytes) cut.front rest u cut.parts cut.ends;
    }

-- ---- what the call says

pub tail_within : (bytes : List ℕ) (end_ : ℕ) (script : Bool) (r : Result ℕ HtmlError) → end_ ≤ length bytes → IsUtf8 (drop end_ bytes) → TellsTail (length bytes) r (tail script (drop end_ bytes))
    → IfOk r (λ place. (end_ ≤ place) × (place ≤ length bytes))
tail_within bytes end_ script (Ok place) le u t =
    let b = tail_behind bytes t.0 end_ script le u t.1 in
    let here = t.2 in
    (omega (arith, here, b.low), omega (arith, here, b.high))
tail_within bytes end_ script (Err error) le u t = tt

pub tail_rest : (bytes : List ℕ) (end_ : ℕ) (script : Bool) (r : Result ℕ HtmlError) → end_ ≤ length bytes → IsUtf8 (drop end_ bytes) → TellsTail (length bytes) r (tail script (drop end_ bytes))
    → IfOk r (λ place. tail script (drop end_ bytes) ≡ Ok (tt, drop place bytes))
tail_rest bytes end_ script (Ok place) le u t =
    let b = tail_behind bytes t.0 end_ script le u t.1 in
    let left : drop place bytes ≡ t.0 = ap (λ (n : ℕ). drop n bytes) t.2 ∙ b.left in
    t.1 ∙ ap (λ (s : List ℕ). got s) (sym left)
tail_rest bytes end_ script (Err error) le u t = tt

pub tail_utf8 : (bytes : List ℕ) (end_ : ℕ) (script : Bool) (r : Result ℕ HtmlError) → end_ ≤ length bytes → IsUtf8 (drop end_ bytes) → TellsTail (length bytes) r (tail script (drop end_ bytes))
    → IfOk r (λ place. IsUtf8 (drop place bytes))
tail_utf8 bytes end_ script (Ok place) le u t =
    let b = tail_behind bytes t.0 end_ script le u t.1 in
    let left : drop place bytes ≡ t.0 = ap (λ (n : ℕ). drop n bytes) t.2 ∙ b.left in
    subst (λ (s : List ℕ). IsUtf8 s) (sym left) b.utf8
tail_utf8 bytes end_ script (Err error) le u t = tt
