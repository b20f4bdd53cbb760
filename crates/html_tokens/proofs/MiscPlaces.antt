-- Where white space with comments stops.
use Rattle.std.proofs.Common.{◌≡◌, ◌⊎◌, inl, inr, ℕ, Bool, true, false, cond, ◌||◌, List, [], ◌∷◌, ◌++◌, length, codes, Ok, Err, is_ok, refl, sym, ap, subst, ◌∙◌, append_assoc, length-append, arith}
use Rattle.std.specs.Prelude.{⊤}
use Rattle.std.proofs.lemmas.Bool.{eq-eqb, or_right}
use Rattle.std.proofs.lemmas.List.{append_cancel_right, append-nil, append_cancel_left}
use Rattle.reading.specs.Readers.{Read, Reader, ◌>>=◌, give, mapped, strip, starts, one_of, next_is, after, joined}
use Rattle.reading.specs.Grammars.{Mapped}
use Rattle.reading.specs.Spelling.{Anything}
use Rattle.reading.specs.Places.{IsLocal, StopsInPlace, GoesOnFrom, IsViable}
use Rattle.reading.proofs.SpellLaws.{ok, stop, strip_takes, starts_so, mapped_spells, Stopped, at_first, at_second, bind_err}
use Rattle.reading.proofs.ManyLaws.{push_one, item_shortens}
use Rattle.reading.proofs.PlaceLaws.{mapped_local, mapped_viable, after_local, choice_local, choice_viable, next_is_sees}
use Rattle.reading.proofs.TurnPlaces.{joined_viable}
use Rattle.reading.proofs.UpToPlaces.{up_to_local, split}
use Rattle.reading.proofs.StopPlaces.{goes_no_further, local_stops, mapped_stops, TurnsStop, repeat_stops}
use Rattle.html_tokens.specs.declared.raw_text.RawEnd.TheVariants as ends
use Rattle.reading.specs.White.{is_white, white}
use Rattle.html_tokens.specs.Lexing.{raw, comment, in_misc, misc_piece, misc}
use Rattle.html_tokens.specs.Grammar.{IsMiscPiece, IsMisc}
use Rattle.html_tokens.proofs.MiscLaws.{NoMisc, BeginsComments, misc_begins, misc_test, misc_piece_spells, misc_spells, raw_end_spells, raw_end_sees}
use Rattle.html_tokens.proofs.PlaceLaws.{white_local, white_viable, comment_local, comment_viable}

-- ---- comments

-- what stands behind a front that was read
strip_front : (text word bytes : List ℕ) → strip (text ++ word) (text ++ bytes) ≡ strip word bytes
unfolding strip
strip_front [] word bytes = refl
strip_front (byte ∷ text) word bytes = rw (eq-eqb byte byte refl) (strip_front text word bytes)

abbrev inside : Reader ⊤
inside = mapped (λ inside. tt) (raw ends.Comment)

inside_local : IsLocal inside
unfolding raw
inside_local = mapped_local (λ (run : List ℕ). tt) (up_to_local (raw_end_spells ends.Comment) (raw_end_sees ends.Comment))

comment_front : (text word bytes : List ℕ) → codes "<!--" ≡ text ++ word → comment (text ++ bytes) ≡ after word inside bytes
unfolding comment after
comment_front text word bytes e =
    ap (λ (r : Read ⊤). r >>= λ (x : ⊤ × List ℕ). inside x.1) (ap (λ (w : List ℕ). strip w (text ++ bytes)) e ∙ strip_front text word bytes)

-- a comment doesn't stop before a byte with which it goes on
goes_on_here : (text word bytes : List ℕ) (byte : ℕ) → codes "<!--" ≡ text ++ byte ∷ word → comment (text ++ byte ∷ bytes) ≡ stop (byte ∷ bytes) → ⊥
goes_on_here text word bytes byte e stopped =
    let parts : codes "<!--" ≡ (text ++ byte ∷ []) ++ word = e ∙ sym (append_assoc text (byte ∷ []) word) in
    let here : after word inside bytes ≡ stop (byte ∷ bytes) =
    sym (comment_front (text ++ byte ∷ []) word bytes parts) ∙ ap comment (append_assoc text (byte ∷ []) bytes) ∙ stopped in
    let t = (after_local word inside_local).stopped bytes (byte ∷ bytes) here in
    absurd (omega (arith, ap (λ (b : List ℕ). length b) t.1, length-append t.0 (byte ∷ bytes)))

-- the mark of comments is a front of that with which they begin
abbrev IsMarkOf : List ℕ → Type 0
IsMarkOf sign = (more : List ℕ) × (codes "<!--" ≡ sign ++ more)

pub starts_parts : (sign bytes : List ℕ) (r : Read ⊤) → strip sign bytes ≡ r → is_ok r ≡ true → (rest : List ℕ) × (bytes ≡ sign ++ rest)
starts_parts sign bytes (Ok x) e is = (x.1, strip_takes sign bytes x.1 x.0 e)
starts_parts sign bytes (Err left) e is = absurd cc

starts_within : (sign text other more : List ℕ) → text ≡ sign ++ more → starts sign (text ++ other) ≡ true
starts_within sign text other more e = ap (λ (t : List ℕ). starts sign (t ++ other)) e ∙ ap (starts sign) (append_assoc sign more other) ∙ starts_so sign (more ++ other)

starts_longer : (sign text rest other p w : List ℕ) → IsMarkOf sign → sign ≡ text ++ w → text ++ rest ≡ sign ++ p → comment (text ++ rest) ≡ stop rest → starts sign (text ++ other) ≡ true
starts_longer sign text rest other p [] m e parts stopped =
    let same : text ≡ sign ++ [] = sym (e ∙ append-nil text) ∙ sym (append-nil sign) in
    starts_within sign text other [] same
starts_longer sign text rest other p (c ∷ w) m e parts stopped =
    let whole : text ++ rest ≡ text ++ c ∷ (w ++ p) = parts ∙ ap (λ (s : List ℕ). s ++ p) e ∙ append_assoc text (c ∷ w) p in
    let tail : rest ≡ c ∷ (w ++ p) = append_cancel_left text rest (c ∷ (w ++ p)) whole in
    let word : codes "<!--" ≡ text ++ c ∷ (w ++ m.0) = m.1 ∙ ap (λ (s : List ℕ). s ++ m.0) e ∙ append_assoc text (c ∷ w) m.0 in
    let here : comment (text ++ c ∷ (w ++ p)) ≡ stop (c ∷ (w ++ p)) = ap (λ (r : List ℕ). comment (text ++ r)) (sym tail) ∙ stopped ∙ ap (λ (r : List ℕ). stop {A = ⊤} r) tail in
    absurd (goes_on_here text (w ++ m.0) (w ++ p) c word here)

starts_by : (sign text rest other p : List ℕ) → IsMarkOf sign → text ++ rest ≡ sign ++ p → comment (text ++ rest) ≡ stop rest
    → ((w : List ℕ) × (sign ≡ text ++ w)) ⊎ ((m : List ℕ) × (text ≡ sign ++ m)) → starts sign (text ++ other) ≡ true
starts_by sign text rest other p m parts e (inl r) = starts_longer sign text rest other p r.0 m r.1 parts e
starts_by sign text rest other p m parts e (inr r) = starts_within sign text other r.0 r.1

starts_other : (sign text rest other : List ℕ) → IsMarkOf sign → starts sign (text ++ rest) ≡ true → comment (text ++ rest) ≡ stop rest → starts sign (text ++ other) ≡ true
unfolding starts
starts_other sign text rest other m is e =
    let p = starts_parts sign (text ++ rest) (strip sign (text ++ rest)) refl is in
    starts_by sign text rest other p.0 m p.1 e (split sign p.0 text rest (sym p.1))

-- ---- white space and comments

piece_local : IsLocal misc_piece
unfolding misc_piece
piece_local = choice_local (next_is_sees is_white) (mapped_local (λ (u : ⊤). []) white_local) (mapped_local (λ (u : ⊤). []) comment_local)

piece_viable : IsViable misc_piece IsMiscPiece
unfolding misc_piece
piece_viable = choice_viable (next_is is_white) (mapped_viable (λ (u : ⊤). []) white_viable) (mapped_viable (λ (u : ⊤). []) comment_viable)

pub misc_viable : (sign : List ℕ) → IsViable (misc sign) IsMisc
unfolding misc
misc_viable sign = mapped_viable (λ (text : List ℕ). tt) (joined_viable (in_misc sign) misc_piece_spells piece_viable)

pub misc_some : GoesOnFrom IsMisc []
misc_some = record { more = []; value = tt; is = ([], ([], refl, refl), refl) }

white_never_by : (byte : ℕ) (bytes left : List ℕ) (t : Bool) → t ≡ true
    → ((cond t (ok (byte, bytes)) (stop (byte ∷ bytes)) >>= λ (x : ℕ × List ℕ). give {A = ⊤} tt x.1) >>= λ (x : ⊤ × List ℕ). give {A = List ℕ} [] x.1) ≡ stop left → ⊥
white_never_by byte bytes left true is e = absurd cc
white_never_by byte bytes left false is e = absurd cc

white_never : (bytes left : List ℕ) → next_is is_white bytes ≡ true → mapped (λ u. []) white bytes ≡ stop {A = List ℕ} left → ⊥
unfolding white one_of
white_never [] left is e = absurd cc
white_never (byte ∷ bytes) left is e = white_never_by byte bytes left (is_white byte) is e

comment_stopped : (bytes left : List ℕ) → Stopped (comment bytes) (λ (x : ⊤ × List ℕ). give {A = List ℕ} [] x.1) left → comment bytes ≡ stop left
comment_stopped bytes left (at_first e) = e
comment_stopped bytes left (at_second x e h) = absurd cc

piece_stopped_by : (sign text rest other : List ℕ) (t : Bool) → IsMarkOf sign → next_is is_white (text ++ rest) ≡ t → (t || starts sign (text ++ rest)) ≡ true
    → cond t (mapped (λ u. []) white (text ++ rest)) (mapped (λ u. []) comment (text ++ rest)) ≡ stop {A = List ℕ} rest → in_misc sign (text ++ other) ≡ true
piece_stopped_by sign text rest other true m is goes e = absurd (white_never (text ++ rest) rest is e)
piece_stopped_by sign text rest other false m is goes e =
    let c = comment_stopped (text ++ rest) rest (bind_err (comment (text ++ rest)) (λ (x : ⊤ × List ℕ). give {A = List ℕ} [] x.1) rest e) in
    or_right (next_is is_white (text ++ other)) (starts sign (text ++ other)) (starts_other sign text rest other m goes c)

push_stopped : (so_far bytes left : List ℕ) → Stopped (misc_piece bytes) (λ (x : List ℕ × List ℕ). give {A = List ℕ} (so_far ++ x.0) x.1) left → misc_piece bytes ≡ stop left
push_stopped so_far bytes left (at_first e) = e
push_stopped so_far bytes left (at_second x e h) = absurd cc

abbrev pub push : List ℕ → List ℕ → List ℕ
push so_far piece = so_far ++ piece

misc_here : (sign so_far text rest other : List ℕ) → IsMarkOf sign → in_misc sign (text ++ rest) ≡ true → push_one push misc_piece so_far (text ++ rest) ≡ stop rest → in_misc sign (text ++ other) ≡ true
unfolding misc_piece
misc_here sign so_far text rest other m goes e =
    let p = push_stopped so_far (text ++ rest) rest (bind_err (misc_piece (text ++ rest)) (λ (x : List ℕ × List ℕ). give {A = List ℕ} (so_far ++ x.0) x.1) rest e) in
    piece_stopped_by sign text rest other (next_is is_white (text ++ rest)) m refl goes p

misc_again : (sign so_far later text two rest other : List ℕ) → BeginsComments sign → push_one push misc_piece so_far (text ++ (two ++ rest)) ≡ ok (later, two ++ rest)
    → (in_misc sign (text ++ (two ++ other)) ≡ true) × (push_one push misc_piece so_far (text ++ (two ++ other)) ≡ ok (later, two ++ other))
misc_again sign so_far later text two rest other begins e =
    let p = mapped_spells (push so_far) misc_piece_spells in
    let t = p.takes (text ++ (two ++ rest)) later (two ++ rest) e in
    let same : t.0 ≡ text = append_cancel_right t.0 text (two ++ rest) (sym t.2) in
    let is = subst (λ (s : List ℕ). Mapped (push so_far) IsMiscPiece s later) same t.1 in
    (misc_begins sign text is.0 (two ++ other) begins is.1, p.again text later (two ++ other) is tt)

misc_turns : (sign : List ℕ) → BeginsComments sign → IsMarkOf sign → TurnsStop (λ (so_far bytes : List ℕ). in_misc sign bytes) (push_one push misc_piece)
misc_turns sign begins m = record {
  stops = λ so_far. local_stops (mapped_local (push so_far) piece_local);
  shorter = λ so_far later x y e. item_shortens push misc_piece IsMiscPiece Anything (NoMisc sign) (in_misc sign) so_far later x y misc_piece_spells (misc_test sign begins) e;
  here = λ so_far text rest other s goes e. misc_here sign so_far text rest other m goes e;
  again = λ so_far later text two rest other fuel s goes e h. misc_again sign so_far later text two rest other begins e;
}

pub misc_stops : (sign : List ℕ) → BeginsComments sign → IsMarkOf sign → StopsInPlace (misc sign)
unfolding misc joined
misc_stops sign begins m = mapped_stops (λ (text : List ℕ). tt) (repeat_stops (λ (so_far bytes : List ℕ). in_misc sign bytes) (push_one push misc_piece) [] (misc_turns sign begins m))

pub bang_begins : BeginsComments (codes "<!")
unfolding starts strip
bang_begins = λ more. refl

pub dash_begins : BeginsComments (codes "<!-")
unfolding starts strip
dash_begins = λ more. refl

pub bang_stops : StopsInPlace (misc (codes "<!"))
bang_stops = misc_stops (codes "<!") bang_begins (codes "--", refl)

pub dash_stops : StopsInPlace (misc (codes "<!-"))
dash_stops = misc_stops (codes "<!-") dash_begins (codes "-", refl)

-- ---- none goes further

pub misc_no_further : (text later more rest : List ℕ) (next : ℕ) → misc (codes "<!") (text ++ next ∷ later) ≡ stop (next ∷ later) → IsMisc (text ++ next ∷ more) tt → NoMisc (codes "<!") rest → ⊥
misc_no_further text later more rest next e is ends = goes_no_further (misc_spells (codes "<!") bang_begins) bang_stops text later more rest next tt e is ends
