-- Texts read by pieces, of which the code takes several at once.
use Rattle.std.proofs.Common.{◌≡◌, ℕ, ◌<◌, ◌≤◌, ◌+◌, true, false, cond, eqb, List, [], ◌∷◌, ◌++◌, length, drop, get_or, Ok, Err, refl, sym, ap, subst, ◌∙◌, append_assoc, append-nil, length-append, length-drop, arith}
use Rattle.std.specs.Prelude.{Bool, zero, suc, not, ◌&&◌, ◌==◌, is_ok, IfOk, Result, ⊤}
use denote.Bor.{Bor}
use Rattle.std.specs.Char.{encode_utf8}
use Rattle.std.specs.Str.{IsCharBoundary}
use Rattle.std.proofs.lemmas.Bool.{eqb-true, eq-eqb, and_parts, not-true}
use Rattle.std.proofs.lemmas.Str.{IsCharBoundary-before_ascii}
use Rattle.std.proofs.lemmas.List.{drop_all, append_cancel_right, drop_more}
use Rattle.reading.specs.Readers.{Read, ReadOr, Reader, ◌>>=◌, give, follow, mapped, joined, repeat, turns, one_of, starts, strip, read_or}
use Rattle.reading.proofs.Turns.{turning_starts, turning_goes_on, turning_stops, turning_ends}
use Rattle.reading.proofs.SpellLaws.{ok, stop}
use Rattle.html_tokens.specs.Error.{Stop}
use Rattle.reading.specs.declared.stop.Stop.TheVariants as stops
use Rattle.html_tokens.specs.Error.{Fault, Judged, syntax, spelled}
use Rattle.reading.specs.Stop.{Stops}
use Rattle.html_tokens.specs.Lexing.{in_value, value_piece, value_in, is_plain, is_quote, reference}
use Rattle.html_tokens.specs.Pieces.{joining, IsJoining, Joins, JoinsRun, PutsPiece, IsPlainNext}

-- ---- any pieces

pub joining_starts : (test : List ℕ → Bool) (f : Judged (List ℕ)) (text : List ℕ) → IsJoining test f (joined test f text) [] text
unfolding joined
joining_starts test f text = turning_starts (λ (so_far : List ℕ) bytes. test bytes) (joining f) [] text

pub joins_piece : (test : List ℕ → Bool) (f : Judged (List ℕ)) (total : ReadOr Fault (List ℕ)) (so_far piece rest after : List ℕ)
    → IsJoining test f total so_far rest → test rest ≡ true → f rest ≡ Ok (piece, after) → length after < length rest → IsJoining test f total (so_far ++ piece) after
joins_piece test f total so_far piece rest after now t e lt =
    turning_goes_on (so_far ++ piece) after now t (ap (λ (r : ReadOr Fault (List ℕ)). r >>= λ x. give (so_far ++ x.0) x.1) e) lt

pub joining_stops : (test : List ℕ → Bool) (f : Judged (List ℕ)) (total : ReadOr Fault (List ℕ)) (so_far rest : List ℕ) (fault : Fault)
    → IsJoining test f total so_far rest → test rest ≡ true → f rest ≡ Err fault → total ≡ Err fault
joining_stops test f total so_far rest fault now t e =
    turning_stops fault now t (ap (λ (r : ReadOr Fault (List ℕ)). r >>= λ x. give (so_far ++ x.0) x.1) e)

pub joining_ends : (test : List ℕ → Bool) (f : Judged (List ℕ)) (total : ReadOr Fault (List ℕ)) (so_far rest : List ℕ)
    → IsJoining test f total so_far rest → test rest ≡ false → total ≡ Ok (so_far, rest)
joining_ends test f total so_far rest now t = turning_ends now t

-- ---- runs of pieces

pub run_starts : (test : List ℕ → Bool) (f : Judged (List ℕ)) (text : List ℕ) → JoinsRun test f text text
run_starts test f text = ([], refl, λ total so_far now. subst (λ (s : List ℕ). IsJoining test f total s text) (sym (append-nil so_far)) now)

pub run_goes_on : (test : List ℕ → Bool) (f : Judged (List ℕ)) (text rest piece after : List ℕ) → JoinsRun test f text rest → rest ≡ piece ++ after → 0 < length piece
    → test rest ≡ true → f rest ≡ Ok (piece, after) → JoinsRun test f text after
run_goes_on test f text rest piece after run parts some t e =
    let shorter : length after < length rest = omega (arith, ap length parts, length-append piece after) in (
      run.0 ++ piece,
      run.1 ∙ ap (λ (r : List ℕ). run.0 ++ r) parts ∙ sym (append_assoc run.0 piece after),
      λ total so_far now.
          subst (λ (s : List ℕ). IsJoining test f total s after) (append_assoc so_far run.0 piece)
          (joins_piece test f total (so_far ++ run.0) piece rest after (run.2 total so_far now) t e shorter),
    )

-- ---- plain bytes of a value

plain_by : (quote byte : ℕ) (after : List ℕ) → eqb byte quote ≡ false → eqb byte 38 ≡ false → spelled (value_piece quote) (byte ∷ after) ≡ Ok (byte ∷ [], after)
unfolding value_piece starts strip one_of
plain_by quote byte after e amp = rw (e, amp) refl

plain_goes : (quote byte : ℕ) (after : List ℕ) → eqb byte quote ≡ false → in_value quote (byte ∷ after) ≡ true
plain_goes quote byte after e = rw e refl

-- at a place, all before it plain
pub record IsPlainTo (quote : ℕ) (text : List ℕ) (at : ℕ) : Type 0 where
  pub within : at ≤ length text
  pub run : JoinsRun (in_value quote) (spelled (value_piece quote)) text (drop at text)

pub plain_starts : (quote : ℕ) (text : List ℕ) → IsPlainTo quote text 0
plain_starts quote text = record { within = omega arith; run = run_starts (in_value quote) (spelled (value_piece quote)) text }

pub plain_goes_on : (quote : ℕ) (text : List ℕ) (at : ℕ) → IsPlainTo quote text at → at < length text → is_plain quote (get_or text at 0) ≡ true → IsPlainTo quote text (at + 1)
plain_goes_on quote text at now lt e =
    let byte = get_or text at 0 in
    let piece : drop at text ≡ (byte ∷ []) ++ drop (at + 1) text = drop_more text at 0 lt in
    let goes : in_value quote (drop at text) ≡ true = rw (drop_more text at 0 lt) (plain_goes quote byte (drop (at + 1) text) (not-true (eqb byte quote) (and_parts (not (eqb byte quote)) (not (eqb byte 38)) e).0)) in
    let read : spelled (value_piece quote) (drop at text) ≡ Ok (byte ∷ [], drop (at + 1) text) =
    rw (drop_more text at 0 lt) (plain_by quote byte (drop (at + 1) text) (not-true (eqb byte quote) (and_parts (not (eqb byte quote)) (not (eqb byte 38)) e).0) (not-true (eqb byte 38) (and_parts (not (eqb byte quote)) (not (eqb byte 38)) e).1)) in
    record {
      within = omega arith;
      run = run_goes_on (in_value quote) (spelled (value_piece quote)) text (drop at text) (byte ∷ []) (drop (at + 1) text) now.run piece (omega arith) goes read;
    }

pub plain_shorter : (quote : ℕ) (text : List ℕ) (at : ℕ) → IsPlainNext quote text → at < length text → is_plain quote (get_or text at 0) ≡ false → length (drop at text) < length text
plain_shorter quote [] at next lt e = absurd next
plain_shorter quote (byte ∷ after) zero next lt e = absurd (cc (sym next ∙ e))
plain_shorter quote (byte ∷ after) (suc at) next lt e = omega (arith, length-drop (suc at) (byte ∷ after))

pub plain_to_end : (quote : ℕ) (text : List ℕ) (at : ℕ) → IsPlainNext quote text → length text ≤ at → length (drop at text) < length text
plain_to_end quote [] at next le = absurd next
plain_to_end quote (byte ∷ after) at next le = rw (drop_all at (byte ∷ after) le) (omega arith)

quote_low : (quote : ℕ) → is_quote quote ≡ true → quote < 128
quote_low quote e = grind arith

-- what is no plain byte is ASCII, so the text may be cut before it
either : (quote byte : ℕ) (a b : Bool) → eqb byte quote ≡ a → eqb byte 38 ≡ b → (not a && not b) ≡ false → is_quote quote ≡ true → byte < 128
either quote byte true b x y e low = rw (eqb-true byte quote x) (quote_low quote low)
either quote byte false true x y e low = rw (eqb-true byte 38 y) (omega arith)
either quote byte false false x y e low = absurd cc

pub plain_cut : (quote : ℕ) (text : List ℕ) (at : ℕ) → at < length text → is_plain quote (get_or text at 0) ≡ false → is_quote quote ≡ true → IsCharBoundary text at
plain_cut quote text at lt e low = IsCharBoundary-before_ascii text at lt (either quote (get_or text at 0) (eqb (get_or text at 0) quote) (eqb (get_or text at 0) 38) refl refl e low)

-- ---- joined pieces that refuse by Syntax alone

spelled_by : (test : List ℕ → Bool) (f : Reader (List ℕ)) (fuel : ℕ) (so_far bytes : List ℕ) (t : Bool) (r : Read (List ℕ)) → f bytes ≡ r
    → ((s b : List ℕ) → turns (λ (s : List ℕ) b. test b) (joining (spelled f)) fuel s b ≡ spelled (turns (λ (s : List ℕ) b. test b) (λ s. mapped (λ piece. s ++ piece) f) fuel s) b)
    → cond t (follow (joining (spelled f) so_far) (turns (λ (s : List ℕ) b. test b) (joining (spelled f)) fuel) bytes) (Ok (so_far, bytes))
    ≡ read_or syntax (cond t (follow (mapped (λ piece. so_far ++ piece) f) (turns (λ (s : List ℕ) b. test b) (λ s. mapped (λ piece. s ++ piece) f) fuel) bytes) (Ok (so_far, bytes)))
spelled_by test f fuel so_far bytes false r e later = refl
spelled_by test f fuel so_far bytes true (Ok x) e later = rw e (later (so_far ++ x.0) x.1)
spelled_by test f fuel so_far bytes true (Err left) e later = rw e refl

spelled_turns : (test : List ℕ → Bool) (f : Reader (List ℕ)) (fuel : ℕ) (so_far bytes : List ℕ)
    → turns (λ (s : List ℕ) b. test b) (joining (spelled f)) fuel so_far bytes ≡ spelled (turns (λ (s : List ℕ) b. test b) (λ s. mapped (λ piece. s ++ piece) f) fuel so_far) bytes
unfolding turns
spelled_turns test f zero so_far bytes = refl
spelled_turns test f (suc fuel) so_far bytes = spelled_by test f fuel so_far bytes (test bytes) (f bytes) refl (spelled_turns test f fuel)

spelled_joined : (test : List ℕ → Bool) (f : Reader (List ℕ)) (text : List ℕ) → joined test (spelled f) text ≡ spelled (joined test f) text
unfolding joined repeat
spelled_joined test f text = spelled_turns test f (suc (length text)) [] text

-- ---- a value

-- a value so far
abbrev pub IsValueSo : (quote : ℕ) (text value rest : List ℕ) → Type 0
IsValueSo quote text value rest = IsJoining (in_value quote) (spelled (value_piece quote)) (joined (in_value quote) (spelled (value_piece quote)) text) value rest

pub value_starts : (quote : ℕ) (text : List ℕ) → IsValueSo quote text [] text
value_starts quote text = joining_starts (in_value quote) (spelled (value_piece quote)) text

quote_read : (quote : ℕ) (value after : List ℕ) → read_or syntax (mapped (λ byte. value) (one_of (λ byte. eqb byte quote)) (quote ∷ after)) ≡ Ok (value, after)
unfolding one_of
quote_read quote value after = rw (eq-eqb quote quote refl) refl

value_err_by : (quote : ℕ) (text : List ℕ) (fault : Fault) (r : Read (List ℕ)) → joined (in_value quote) (value_piece quote) text ≡ r → read_or syntax (joined (in_value quote) (value_piece quote) text) ≡ Err fault
    → read_or syntax (joined (in_value quote) (value_piece quote) text >>= λ x. mapped (λ byte. x.0) (one_of (λ byte. eqb byte quote)) x.1) ≡ Err fault
value_err_by quote text fault (Ok x) e f =
    let no : read_or syntax (joined (in_value quote) (value_piece quote) text) ≡ Ok x = ap (read_or syntax) e in
    absurd (cc (sym no ∙ f))
value_err_by quote text fault (Err at) e f =
    let same : read_or syntax (joined (in_value quote) (value_piece quote) text) ≡ Err (syntax at) = ap (read_or syntax) e in
    rw e (sym same ∙ f)

value_ok_by : (quote : ℕ) (text value rest after : List ℕ) (r : Read (List ℕ)) → joined (in_value quote) (value_piece quote) text ≡ r → read_or syntax (joined (in_value quote) (value_piece quote) text) ≡ Ok (value, rest)
    → rest ≡ quote ∷ after → read_or syntax (joined (in_value quote) (value_piece quote) text >>= λ x. mapped (λ byte. x.0) (one_of (λ byte. eqb byte quote)) x.1) ≡ Ok (value, after)
value_ok_by quote text value rest after (Ok x) e f first =
    let same : read_or syntax (joined (in_value quote) (value_piece quote) text) ≡ Ok x = ap (read_or syntax) e in
    let pair : x ≡ (value, rest) = cc (sym same ∙ f) in
    rw (e, pair, first) (quote_read quote value after)
value_ok_by quote text value rest after (Err at) e f first =
    let same : read_or syntax (joined (in_value quote) (value_piece quote) text) ≡ Err (syntax at) = ap (read_or syntax) e in
    absurd (cc (sym same ∙ f))

pub value_err : (quote : ℕ) (text : List ℕ) (fault : Fault) → joined (in_value quote) (spelled (value_piece quote)) text ≡ Err fault → spelled (value_in quote) text ≡ Err fault
unfolding value_in
value_err quote text fault e = value_err_by quote text fault (joined (in_value quote) (value_piece quote) text) refl (sym (spelled_joined (in_value quote) (value_piece quote) text) ∙ e)

value_ok : (quote : ℕ) (text value rest after : List ℕ) → joined (in_value quote) (spelled (value_piece quote)) text ≡ Ok (value, rest) → rest ≡ quote ∷ after → spelled (value_in quote) text ≡ Ok (value, after)
unfolding value_in
value_ok quote text value rest after e first = value_ok_by quote text value rest after (joined (in_value quote) (value_piece quote) text) refl (sym (spelled_joined (in_value quote) (value_piece quote) text) ∙ e) first

pub value_ends : (quote : ℕ) (text value rest after : List ℕ) → IsValueSo quote text value rest → in_value quote rest ≡ false → rest ≡ quote ∷ after → spelled (value_in quote) text ≡ Ok (value, after)
value_ends quote text value rest after now none first =
    value_ok quote text value rest after (joining_ends (in_value quote) (spelled (value_piece quote)) (joined (in_value quote) (spelled (value_piece quote)) text) value rest now none) first

-- ---- pieces of a value

pub reference_piece : (quote : ℕ) (text piece rest : List ℕ) → starts (38 ∷ []) text ≡ true → spelled (mapped (λ c. encode_utf8 c) reference) text ≡ Ok (piece, rest) → spelled (value_piece quote) text ≡ Ok (piece, rest)
unfolding value_piece
reference_piece quote text piece rest e r = rw e r

pub reference_stops : (quote : ℕ) (text : List ℕ) (fault : Fault) → starts (38 ∷ []) text ≡ true → spelled (mapped (λ c. encode_utf8 c) reference) text ≡ Err fault → spelled (value_piece quote) text ≡ Err fault
unfolding value_piece
reference_stops quote text fault e r = rw e r

piece_nil : (quote : ℕ) → spelled (value_piece quote) [] ≡ Err (syntax [])
unfolding value_piece starts strip one_of
piece_nil quote = refl

nothing_left : (quote : ℕ) (text : List ℕ) → (length text == 0) ≡ true → spelled (value_piece quote) text ≡ Err (syntax text)
nothing_left quote [] e = piece_nil quote
nothing_left quote (byte ∷ after) e =
    let none : length (byte ∷ after) ≡ 0 = eqb-true (length (byte ∷ after)) 0 e in
    absurd (omega arith)

no_amp : (byte : ℕ) (after : List ℕ) (t : Bool) → eqb byte 38 ≡ t → starts (38 ∷ []) (byte ∷ after) ≡ false → t ≡ false
unfolding starts strip
no_amp byte after true t e =
    let here : is_ok (cond (eqb byte 38) (ok {E = List ℕ} {A = ⊤} (tt, after)) (stop (byte ∷ after))) ≡ true = rw t refl in
    absurd (cc (sym here ∙ e))
no_amp byte after false t e = refl

both : (a b : Bool) → not a ≡ true → b ≡ false → (not a && not b) ≡ true
both true b x y = absurd cc
both false true x y = absurd cc
both false false x y = refl

pub plain_next : (quote : ℕ) (text : List ℕ) → in_value quote text ≡ true → starts (38 ∷ []) text ≡ false → (length text == 0) ≡ false → IsPlainNext quote text
plain_next quote [] goes none some = absurd cc
plain_next quote (byte ∷ after) goes none some = both (eqb byte quote) (eqb byte 38) goes (no_amp byte after (eqb byte 38) refl none)

-- ---- what the code does with a piece

pub puts_ok : (test : List ℕ → Bool) (f : Judged (List ℕ)) (old new text piece rest : List ℕ) → test text ≡ true → f text ≡ Ok (piece, rest) → new ≡ old ++ piece → length rest < length text
    → (total : ReadOr Fault (List ℕ)) → IsJoining test f total old text → IsJoining test f total new rest
puts_ok test f old new text piece rest t e made lt total now =
    subst (λ (s : List ℕ). IsJoining test f total s rest) (sym made) (joins_piece test f total old piece text rest now t e lt)

pub puts_err : (test : List ℕ → Bool) (f : Judged (List ℕ)) (old text : List ℕ) (stop_ : Stop) → test text ≡ true → Stops stop_ (f text)
    → (total : ReadOr Fault (List ℕ)) → IsJoining test f total old text → Stops stop_ total
puts_err test f old text (stops.Refused kind left) t e total now = joining_stops test f total old text (kind, left.now) now t e
puts_err test f old text stops.Memory t e total now = tt

pub puts_run : (test : List ℕ → Bool) (f : Judged (List ℕ)) (old new text front rest : List ℕ) → JoinsRun test f text rest → text ≡ front ++ rest → new ≡ old ++ front
    → (total : ReadOr Fault (List ℕ)) → IsJoining test f total old text → IsJoining test f total new rest
puts_run test f old new text front rest run parts made total now =
    let same : run.0 ≡ front = append_cancel_right run.0 front rest (sym run.1 ∙ parts) in
    subst (λ (s : List ℕ). IsJoining test f total s rest) (ap (λ (x : List ℕ). old ++ x) same ∙ sym made) (run.2 total old now)

-- ---- a piece of a value

pub reference_put : (quote : ℕ) (old new text : List ℕ) (result : Result (Bor (List ℕ)) Stop) → in_value quote text ≡ true → starts (38 ∷ []) text ≡ true
    → PutsPiece (spelled (mapped (λ c. encode_utf8 c) reference)) old new text result → IfOk result (λ rest. length rest.now < length text)
    → Joins (in_value quote) (spelled (value_piece quote)) old new text result
reference_put quote old new text (Ok rest) goes amp puts lt =
    puts_ok (in_value quote) (spelled (value_piece quote)) old new text puts.0 rest.now goes (reference_piece quote text puts.0 rest.now amp puts.1) puts.2 lt
reference_put quote old new text (Err (stops.Refused kind left)) goes amp e lt =
    puts_err (in_value quote) (spelled (value_piece quote)) old text (stops.Refused kind left) goes (reference_stops quote text (kind, left.now) amp e)
reference_put quote old new text (Err stops.Memory) goes amp e lt = λ total now. tt

pub nothing_put : (quote : ℕ) (old text bytes : List ℕ) → in_value quote text ≡ true → (length text == 0) ≡ true → bytes ≡ text
    → (total : ReadOr Fault (List ℕ)) → IsJoining (in_value quote) (spelled (value_piece quote)) total old text → total ≡ Err (syntax bytes)
nothing_put quote old text bytes goes none same total now =
    rw same (joining_stops (in_value quote) (spelled (value_piece quote)) total old text (syntax text) now goes (nothing_left quote text none))

pub plain_goes_on_in : (quote : ℕ) (text bytes : List ℕ) (at : ℕ) → bytes ≡ text → IsPlainTo quote text at → at < length text → is_plain quote (get_or bytes at 0) ≡ true → IsPlainTo quote text (at + 1)
plain_goes_on_in quote text bytes at same now lt e = plain_goes_on quote text at now lt (subst (λ (b : List ℕ). is_plain quote (get_or b at 0) ≡ true) same e)

pub value_starts_with : (quote : ℕ) (text value : List ℕ) → value ≡ [] → IsValueSo quote text value text
value_starts_with quote text value none = subst (λ (v : List ℕ). IsValueSo quote text v text) (sym none) (value_starts quote text)

pub value_stops : (quote : ℕ) (text value rest : List ℕ) (stop_ : Stop) → IsValueSo quote text value rest
    → ((total : ReadOr Fault (List ℕ)) → IsJoining (in_value quote) (spelled (value_piece quote)) total value rest → Stops stop_ total) → Stops stop_ (spelled (value_in quote) text)
value_stops quote text value rest (stops.Refused kind left) now e =
    value_err quote text (kind, left.now) (e (joined (in_value quote) (spelled (value_piece quote)) text) now)
value_stops quote text value rest stops.Memory now e = tt
