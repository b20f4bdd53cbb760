-- Where what stands before `html` stops.
use Rattle.std.proofs.Common.{◌≡◌, inr, ℕ, ◌≤◌, Bool, true, false, cond, eqb, List, [], ◌∷◌, ◌++◌, length, codes, refl, sym, ap, subst, ◌∙◌, length-append, arith}
use Rattle.std.specs.Prelude.{⊤}
use Rattle.std.proofs.lemmas.Bool.{eqb-true}
use Rattle.std.proofs.lemmas.List.{append_cancel_right}
use Rattle.reading.specs.Readers.{Read, Reader, ◌>>=◌, give, follow, strip, strip_either_case, starts, turns, repeat, joined}
use Rattle.reading.specs.Grammars.{Grammar, Given, Seq, Either}
use Rattle.reading.specs.Spelling.{Anything, Spells}
use Rattle.reading.specs.Places.{IsLocal, StopsInPlace, GoesOnFrom, IsViable}
use Rattle.reading.proofs.SpellLaws.{ok, stop, bind_ok, same_answer, strip_again, bind_err}
use Rattle.reading.proofs.ManyLaws.{push_one, item_shortens}
use Rattle.reading.proofs.PlaceLaws.{same_behind, give_local, give_viable, strip_local, strip_viable, follow_local, follow_viable, choice_viable}
use Rattle.reading.proofs.RunPlaces.{either_case_local}
use Rattle.reading.proofs.StopPlaces.{goes_no_further, Stays, local_stops, follow_stopped, follow_stops, choice_stops, repeat_ends}
use Rattle.reading.specs.White.{spaces, white}
use Rattle.html_tokens.specs.Lexing.{in_misc, misc_piece, misc, doctype}
use Rattle.html_read.specs.Reading.{mark, maybe_mark, maybe_doctype, prolog}
use Rattle.html_tokens.specs.Grammar.{IsMiscPiece, IsMisc, IsDoctype}
use Rattle.html_read.specs.Grammar.{IsMark, IsProlog}
use Rattle.html_tokens.proofs.MiscLaws.{NoMisc, BeginsComments, misc_test, misc_piece_spells, doctype_spells}
use Rattle.html_read.proofs.DocumentLaws.{NoMark, mark_spells, misc_in_prolog, prolog_spells}
use Rattle.html_tokens.proofs.PlaceLaws.{seq_some, starts_sees, spaces_local, white_local, doctype_local, doctype_viable}
use Rattle.html_tokens.proofs.MiscPlaces.{bang_stops, dash_begins, dash_stops, misc_some, misc_viable, push, starts_parts}

-- ---- what stands before html

spells_stays : {A B : Type 0} {f : Reader A} {R : Grammar A} (g : A → Reader B) → Spells f R Anything → Stays f g
spells_stays {A = A} {R = R} g p = λ text two rest other x s e h.
    let t = p.takes (text ++ (two ++ rest)) x (two ++ rest) e in
    let same : t.0 ≡ text = append_cancel_right t.0 text (two ++ rest) (sym t.2) in
    p.again text x (two ++ other) (subst (λ (s : List ℕ). R s x) same t.1) tt

abbrev typed : Reader ⊤
typed = follow doctype (λ u. misc (codes "<!"))

typed_stops : StopsInPlace typed
typed_stops = follow_stops (local_stops doctype_local) (λ u. bang_stops) (spells_stays (λ u. misc (codes "<!")) doctype_spells)

-- the doctype behind its first two bytes
abbrev doctype_rest : Reader ⊤
doctype_rest = follow (strip_either_case (codes "doctype")) (λ u. follow white (λ u. follow spaces (λ u.
    follow (strip_either_case (codes "html")) (λ u. follow spaces (λ u. strip (codes ">"))))))

rest_local : IsLocal doctype_rest
rest_local =
    follow_local (either_case_local (codes "doctype")) (λ u. follow_local white_local (λ u. follow_local spaces_local
    (λ u. follow_local (either_case_local (codes "html")) (λ u. follow_local spaces_local (λ u. strip_local (codes ">"))))))

doctype_behind : (bytes : List ℕ) → doctype (60 ∷ 33 ∷ bytes) ≡ doctype_rest bytes
unfolding doctype strip_either_case
doctype_behind bytes = refl

typed_left : (bytes left : List ℕ) → typed (60 ∷ 33 ∷ bytes) ≡ stop left → length left ≤ length bytes
typed_left bytes left e =
    let here : follow doctype_rest (λ u. misc (codes "<!")) bytes ≡ stop left = sym (ap (λ (r : Read ⊤). r >>= λ (x : ⊤ × List ℕ). misc (codes "<!") x.1) (doctype_behind bytes)) ∙ e in
    let t = follow_stopped doctype_rest (λ u. misc (codes "<!")) bytes left (local_stops rest_local) (λ u. bang_stops) (bind_err (doctype_rest bytes) (λ (x : ⊤ × List ℕ). misc (codes "<!") x.1) left here) in
    omega (arith, ap (λ (b : List ℕ). length b) t.1, length-append t.0 left)

-- where it stops, the first two bytes were read
behind_by : (two rest bytes : List ℕ) → two ++ rest ≡ 60 ∷ 33 ∷ bytes → length rest ≤ length bytes → (more : List ℕ) × (two ≡ 60 ∷ 33 ∷ more)
behind_by [] rest bytes e le = absurd (omega (arith, ap (λ (b : List ℕ). length b) e, le))
behind_by (a ∷ []) rest bytes e le =
    let tail : rest ≡ 33 ∷ bytes = cc in
    absurd (omega (arith, ap (λ (b : List ℕ). length b) tail, le))
behind_by (a ∷ b ∷ two) rest bytes e le =
    let first : a ≡ 60 = cc in
    let second : b ≡ 33 = cc in
    (two, rw (first, second) refl)

maybe_behind : (two rest : List ℕ) (t : Bool) → starts (codes "<!") (two ++ rest) ≡ t → cond t (typed (two ++ rest)) (give tt (two ++ rest)) ≡ stop rest → (more : List ℕ) × (two ≡ 60 ∷ 33 ∷ more)
unfolding starts
maybe_behind two rest true is e =
    let p = starts_parts (codes "<!") (two ++ rest) (strip (codes "<!") (two ++ rest)) refl is in
    behind_by two rest p.0 p.1 (typed_left p.0 rest (ap typed (sym p.1) ∙ e))
maybe_behind two rest false is e = absurd cc

stops_behind : (two rest : List ℕ) → maybe_doctype (two ++ rest) ≡ stop rest → (more : List ℕ) × (two ≡ 60 ∷ 33 ∷ more)
unfolding maybe_doctype
stops_behind two rest e = maybe_behind two rest (starts (codes "<!") (two ++ rest)) refl e

bang_starts : (two more rest : List ℕ) → two ≡ 60 ∷ 33 ∷ more → starts (codes "<!") (two ++ rest) ≡ true
unfolding starts strip
bang_starts two more rest e = rw e refl

maybe_doctype_stops : StopsInPlace maybe_doctype
unfolding maybe_doctype
maybe_doctype_stops =
    choice_stops (starts (codes "<!")) typed_stops (local_stops (give_local tt))
    (λ text rest other s e.
    let b = stops_behind text rest e in
    bang_starts text b.0 other b.1 ∙ sym (bang_starts text b.0 rest b.1))

dash_same : (bytes : List ℕ) → in_misc (codes "<!-") (60 ∷ 33 ∷ bytes) ≡ starts (codes "-") bytes
unfolding starts strip
dash_same bytes = refl

-- where misc ends
misc_ends : (sign bytes rest : List ℕ) (u : ⊤) → BeginsComments sign → misc sign bytes ≡ ok (u, rest) → NoMisc sign rest
unfolding misc joined
misc_ends sign bytes rest u begins e =
    let a = bind_ok (repeat (λ (so_far bytes : List ℕ). in_misc sign bytes) (push_one push misc_piece) [] bytes) (λ (x : List ℕ × List ℕ). give tt x.1) (u, rest) e in
    let same = same_answer {E = List ℕ} tt u a.0.1 rest a.2 in
    subst (λ (r : List ℕ). NoMisc sign r) same.1
    (repeat_ends (λ (so_far bytes : List ℕ). in_misc sign bytes) (push_one push misc_piece) [] a.0.0 bytes a.0.1
    (λ so_far later x y t. item_shortens push misc_piece IsMiscPiece Anything (NoMisc sign) (in_misc sign) so_far later x y misc_piece_spells (misc_test sign begins) t) a.1)

misc_stays : Stays (misc (codes "<!-")) (λ u. maybe_doctype)
misc_stays = λ text two rest other x s e h.
    let t = misc_in_prolog.takes (text ++ (two ++ rest)) x (two ++ rest) e in
    let same : t.0 ≡ text = append_cancel_right t.0 text (two ++ rest) (sym t.2) in
    let b = stops_behind two rest h in
    let ended : NoMisc (codes "<!-") (two ++ rest) = misc_ends (codes "<!-") (text ++ (two ++ rest)) (two ++ rest) x dash_begins e in
    let here : starts (codes "-") (b.0 ++ rest) ≡ false = sym (dash_same (b.0 ++ rest)) ∙ ap (λ (w : List ℕ). in_misc (codes "<!-") (w ++ rest)) (sym b.1) ∙ ended in
    let there : starts (codes "-") (b.0 ++ other) ≡ false = sym ((starts_sees 45).sees (b.0 ++ rest) (b.0 ++ other) (same_behind b.0 rest other s)) ∙ here in
    let none : NoMisc (codes "<!-") (two ++ other) = ap (λ (w : List ℕ). in_misc (codes "<!-") (w ++ other)) b.1 ∙ dash_same (b.0 ++ other) ∙ there in
    misc_in_prolog.again text x (two ++ other) (subst (λ (w : List ℕ). IsMisc w x) same t.1) none

abbrev behind_mark : Reader ⊤
behind_mark = follow (misc (codes "<!-")) (λ u. maybe_doctype)

behind_mark_stops : StopsInPlace behind_mark
behind_mark_stops = follow_stops dash_stops (λ u. maybe_doctype_stops) misc_stays

mark_never_by : (bytes left : List ℕ) (t : Bool) → starts mark bytes ≡ t → cond t (strip mark bytes) (give tt bytes) ≡ stop left → ⊥
unfolding starts
mark_never_by bytes left true is e =
    let p = starts_parts mark bytes (strip mark bytes) refl is in
    let read : strip mark bytes ≡ ok (tt, p.0) = ap (strip mark) p.1 ∙ strip_again mark p.0 in
    let clash : ok (tt, p.0) ≡ stop left = sym read ∙ e in
    absurd cc
mark_never_by bytes left false is e = absurd cc

mark_never : (bytes left : List ℕ) → maybe_mark bytes ≡ stop left → ⊥
unfolding maybe_mark
mark_never bytes left e = mark_never_by bytes left (starts mark bytes) refl e

mark_stops : StopsInPlace maybe_mark
mark_stops = record {
  front = λ bytes x rest e.
      let t = mark_spells.takes bytes x rest e in
      (t.0, t.2);
  stopped = λ bytes left e. absurd (mark_never bytes left e);
  err = λ text rest other s e. absurd (mark_never (text ++ rest) rest e);
}

-- a byte that begins neither white space nor a tag is left
read_on : (later : List ℕ) → behind_mark (239 ∷ later) ≡ ok (tt, 239 ∷ later)
unfolding misc joined repeat turns maybe_doctype starts strip
read_on later = refl

no_mark_by : (byte : ℕ) (later more left : List ℕ) (t : Bool) → eqb byte 239 ≡ t → behind_mark (byte ∷ later) ≡ stop left → NoMark (byte ∷ more)
unfolding starts strip mark
no_mark_by byte later more left true is e =
    let same : byte ≡ 239 = eqb-true byte 239 is in
    let clash : ok (tt, 239 ∷ later) ≡ stop left = sym (read_on later) ∙ ap (λ (b : ℕ). behind_mark (b ∷ later)) (sym same) ∙ e in
    absurd cc
no_mark_by byte later more left false is e = rw is refl

mark_stays : Stays maybe_mark (λ u. behind_mark)
mark_stays = λ text two rest other x s e h.
    let t = mark_spells.takes (text ++ (two ++ rest)) x (two ++ rest) e in
    let same : t.0 ≡ text = append_cancel_right t.0 text (two ++ rest) (sym t.2) in
    let n = same_behind two rest other s in
    let none : NoMark (n.0 ∷ n.2) = no_mark_by n.0 n.1 n.2 rest (eqb n.0 239) refl (ap behind_mark (sym n.3) ∙ h) in
    mark_spells.again text x (two ++ other) (subst (λ (w : List ℕ). IsMark w x) same t.1) (subst (λ (w : List ℕ). NoMark w) (sym n.4) none)

pub prolog_stops : StopsInPlace prolog
unfolding prolog
prolog_stops = follow_stops mark_stops (λ u. behind_mark_stops) mark_stays

-- ---- what was read is the front of a text

mark_viable : IsViable maybe_mark IsMark
unfolding maybe_mark
mark_viable = choice_viable (starts mark) (strip_viable mark) (give_viable tt)

maybe_doctype_viable : IsViable maybe_doctype (Either (Seq IsDoctype (λ u. IsMisc)) (Given tt))
unfolding maybe_doctype
maybe_doctype_viable = choice_viable (starts (codes "<!")) (follow_viable doctype_spells doctype_viable (λ u. misc_viable (codes "<!")) (λ u. misc_some)) (give_viable tt)

maybe_doctype_some : GoesOnFrom (Either (Seq IsDoctype (λ u. IsMisc)) (Given tt)) []
maybe_doctype_some = record { more = []; value = tt; is = inr (refl, refl) }

pub prolog_viable : IsViable prolog IsProlog
unfolding prolog
prolog_viable =
    follow_viable mark_spells mark_viable
    (λ u. follow_viable misc_in_prolog (misc_viable (codes "<!-")) (λ u. maybe_doctype_viable) (λ u. maybe_doctype_some))
    (λ u. seq_some misc_some (λ v. maybe_doctype_some))

-- ---- none goes further

pub prolog_no_further : (text later more rest behind : List ℕ) (next byte : ℕ) → prolog (text ++ next ∷ later) ≡ stop (next ∷ later) → IsProlog (text ++ next ∷ more) tt → rest ≡ 60 ∷ byte ∷ behind → eqb byte 33 ≡ false → ⊥
prolog_no_further text later more rest behind next byte e is parts other =
    goes_no_further prolog_spells prolog_stops text later more rest next tt e is (record { byte = byte; more = behind; other = other; is = parts })
