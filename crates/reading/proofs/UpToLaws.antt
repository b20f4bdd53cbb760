-- The bytes up to the first place where a reader can read.
use Rattle.std.proofs.Common.{◌≡◌, ℕ, ◌+◌, ◌≤◌, Bool, true, false, cond, eqb, List, [], ◌∷◌, ◌++◌, length, Ok, Err, is_ok, map, refl, sym, ap, subst, ◌∙◌, append_assoc, length-append, arith}
use Rattle.std.specs.Prelude.{⊤}
use Rattle.std.specs.Char.{to_ascii_lowercase}
use Rattle.std.proofs.lemmas.Bool.{eqb-true}
use Rattle.std.proofs.lemmas.List.{append-nil, length-map}
use Rattle.reading.specs.Readers.{Read, Reader, ◌>>=◌, give, follow, mapped, strip, strip_either_case, run_of, with_byte, until, can_read, up_to}
use Rattle.reading.specs.Grammars.{Grammar, Fixed, NowhereIn, UpTo}
use Rattle.reading.specs.Spelling.{Anything, Spells, SeesWithin}
use Rattle.reading.specs.Closings.{closing, Closing}
use Rattle.reading.proofs.SpellLaws.{ok, stop, bind_ok, same_answer, strip_spells, strip_again, follow_spells}
use Rattle.reading.proofs.RunLaws.{with_byte_ok, run_of_spells, either_case_spells, cased_again}

-- ---- up to a test

until_by : (test : List ℕ → Bool) (byte : ℕ) (bytes run rest : List ℕ) (t : Bool) → test (byte ∷ bytes) ≡ t
    → ((inside : List ℕ) → until test bytes ≡ ok (inside, rest) → (bytes ≡ inside ++ rest) × NowhereIn test inside rest)
    → cond t (ok ([], byte ∷ bytes)) (with_byte byte (until test bytes)) ≡ ok (run, rest) → (byte ∷ bytes ≡ run ++ rest) × NowhereIn test run rest
until_by test byte bytes run rest true is later e =
    let same = same_answer {E = List ℕ} [] run (byte ∷ bytes) rest e in
    rw (← same.0, ← same.1) (refl, tt)
until_by test byte bytes run rest false is later e =
    let w = with_byte_ok byte (until test bytes) run rest e in
    let r = later w.0 w.1 in
    let here : test (byte ∷ (w.0 ++ rest)) ≡ false = ap (λ (b : List ℕ). test (byte ∷ b)) (sym r.0) ∙ is in
    rw w.2 (ap (λ (b : List ℕ). byte ∷ b) r.0, (here, r.1))

until_none : (test : List ℕ → Bool) (run rest : List ℕ) (t : Bool) → cond t (ok {E = List ℕ} ([], [])) (stop []) ≡ ok (run, rest) → ([] ≡ run ++ rest) × NowhereIn test run rest
until_none test run rest true e =
    let same = same_answer {E = List ℕ} [] run [] rest e in
    rw (← same.0, ← same.1) (refl, tt)
until_none test run rest false e = absurd cc

pub until_is : (test : List ℕ → Bool) (bytes run rest : List ℕ) → until test bytes ≡ ok (run, rest) → (bytes ≡ run ++ rest) × NowhereIn test run rest
unfolding until
until_is test [] run rest e = until_none test run rest (test []) e
until_is test (byte ∷ bytes) run rest e = until_by test byte bytes run rest (test (byte ∷ bytes)) refl (λ inside. until_is test bytes inside rest) e

pub until_here : (test : List ℕ → Bool) (rest : List ℕ) → test rest ≡ true → until test rest ≡ Ok ([], rest)
unfolding until
until_here test [] here = rw here refl
until_here test (byte ∷ rest) here = rw here refl

pub until_again : (test : List ℕ → Bool) (run rest : List ℕ) → NowhereIn test run rest → test rest ≡ true → until test (run ++ rest) ≡ Ok (run, rest)
unfolding until
until_again test [] rest nowhere here = until_here test rest here
until_again test (byte ∷ run) rest nowhere here = rw (nowhere.0, until_again test run rest nowhere.1 here) refl

-- other bytes behind, with the same answers at each place before them
pub nowhere_as : (test : List ℕ → Bool) (run one other : List ℕ) → ((byte : ℕ) (before : List ℕ) → test ((byte ∷ before) ++ one) ≡ test ((byte ∷ before) ++ other))
    → NowhereIn test run one → NowhereIn test run other
nowhere_as test [] one other same nowhere = tt
nowhere_as test (byte ∷ run) one other same nowhere = (sym (same byte run) ∙ nowhere.0, nowhere_as test run one other same nowhere.1)

-- ---- up to where a reader can read

-- the text of the grammar at the place where it could be read
found_there : {A : Type 0} (f : Reader A) (R : Grammar A) (Ends : List ℕ → Type 0) (bytes run at left : List ℕ) (x : A) → Spells f R Ends → SeesWithin f R
    → until (can_read f) bytes ≡ ok (run, at) → f at ≡ ok (x, left) → (text : List ℕ) × UpTo f R text run × (bytes ≡ text ++ left)
found_there f R Ends bytes run at left x p within first second =
    let u = until_is (can_read f) bytes run at first in
    let t = p.takes at x left second in
    let read : f (t.0 ++ left) ≡ ok (x, left) = ap f (sym t.2) ∙ second in
    let before : NowhereIn (can_read f) run (t.0 ++ left) = subst (λ (s : List ℕ). NowhereIn (can_read f) run s) t.2 u.1 in
    let nowhere : NowhereIn (can_read f) run t.0 =
    nowhere_as (can_read f) run (t.0 ++ left) t.0 (λ byte before. within.sees byte before t.0 left x t.1 read) before in
    (run ++ t.0, (x, t.0, t.1, nowhere, refl), u.0 ∙ ap (λ (s : List ℕ). run ++ s) t.2 ∙ sym (append_assoc run t.0 left))

found_by : {A : Type 0} (f : Reader A) (R : Grammar A) (Ends : List ℕ → Type 0) (bytes run at rest inside : List ℕ) → Spells f R Ends → SeesWithin f R → until (can_read f) bytes ≡ ok (run, at)
    → ((v : A × List ℕ) × (f at ≡ ok v) × (ok {E = List ℕ} (run, v.1) ≡ ok (inside, rest))) → (text : List ℕ) × UpTo f R text inside × (bytes ≡ text ++ rest)
found_by f R Ends bytes run at rest inside p within first second =
    let same = same_answer {E = List ℕ} run inside second.0.1 rest second.2 in
    let there = found_there f R Ends bytes run at second.0.1 second.0.0 p within first second.1 in
    (there.0, subst (λ (s : List ℕ). UpTo f R there.0 s) same.0 there.1, there.2 ∙ ap (λ (s : List ℕ). there.0 ++ s) same.1)

found : {A : Type 0} (f : Reader A) (R : Grammar A) (Ends : List ℕ → Type 0) (bytes rest inside : List ℕ) → Spells f R Ends → SeesWithin f R
    → ((x : List ℕ × List ℕ) × (until (can_read f) bytes ≡ ok x) × (mapped (λ (y : A). x.0) f x.1 ≡ ok (inside, rest))) → (text : List ℕ) × UpTo f R text inside × (bytes ≡ text ++ rest)
found {A = A} f R Ends bytes rest inside p within a =
    found_by f R Ends bytes a.0.0 a.0.1 rest inside p within a.1 (bind_ok (f a.0.1) (λ (v : A × List ℕ). give a.0.0 v.1) (inside, rest) a.2)

-- it is read so, where nothing before it can be read
pub read_up_to : {A : Type 0} (f : Reader A) (text run end_ rest : List ℕ) (x : A) → text ≡ run ++ end_ → NowhereIn (can_read f) run (end_ ++ rest) → f (end_ ++ rest) ≡ ok (x, rest) → up_to f (text ++ rest) ≡ ok (run, rest)
unfolding up_to
read_up_to {A = A} f text run end_ rest x parts nowhere read =
    let whole : text ++ rest ≡ run ++ (end_ ++ rest) = ap (λ (s : List ℕ). s ++ rest) parts ∙ append_assoc run end_ rest in
    let first : until (can_read f) (run ++ (end_ ++ rest)) ≡ ok (run, end_ ++ rest) = until_again (can_read f) run (end_ ++ rest) nowhere (ap (λ (s : Read A). is_ok s) read) in
    let second : (f (end_ ++ rest) >>= λ (v : A × List ℕ). give run v.1) ≡ ok (run, rest) = ap (λ (s : Read A). s >>= λ (v : A × List ℕ). give run v.1) read in
    ap (λ (s : List ℕ). until (can_read f) s >>= λ (v : List ℕ × List ℕ). mapped (λ (y : A). v.0) f v.1) whole
    ∙ ap (λ (s : Read (List ℕ)). s >>= λ (v : List ℕ × List ℕ). mapped (λ (y : A). v.0) f v.1) first
    ∙ second

pub up_to_spells : {A : Type 0} {f : Reader A} {R : Grammar A} {Ends : List ℕ → Type 0} → Spells f R Ends → SeesWithin f R → Spells (up_to f) (UpTo f R) Ends
unfolding up_to
up_to_spells {A = A} {f = f} {R = R} {Ends = Ends} p within = record {
  takes = λ bytes inside rest e. found f R Ends bytes rest inside p within (bind_ok (until (can_read f) bytes) (λ (x : List ℕ × List ℕ). mapped (λ (y : A). x.0) f x.1) (inside, rest) e);
  again = λ text inside rest r ends.
      let read : f (r.1 ++ rest) ≡ ok (r.0, rest) = p.again r.1 r.0 rest r.2 ends in
      let nowhere : NowhereIn (can_read f) inside (r.1 ++ rest) =
      nowhere_as (can_read f) inside r.1 (r.1 ++ rest) (λ byte before. sym (within.sees byte before r.1 rest r.0 r.2 read)) r.3 in
      read_up_to f text inside r.1 rest r.0 r.4 nowhere read;
}

-- ---- bytes that decide

-- whether the reader goes on, and where to, hangs on this text alone, whatever stands behind it
pub data Decided {A : Type 0} (f : Reader A) (text : List ℕ) : Type 0 where
  reads : (x : A) (later : List ℕ) → ((more : List ℕ) → f (text ++ more) ≡ Ok (x, later ++ more)) → Decided f text
  stops : ((more : List ℕ) → can_read f (text ++ more) ≡ false) → Decided f text

decided_same : {A : Type 0} (f : Reader A) (text rest : List ℕ) → Decided f text → can_read f (text ++ rest) ≡ can_read f text
decided_same {A = A} f text rest (reads x later is) =
    let alone : f text ≡ ok (x, later ++ []) = ap f (sym (append-nil text)) ∙ is [] in
    ap (λ (s : Read A). is_ok s) (is rest) ∙ sym (ap (λ (s : Read A). is_ok s) alone)
decided_same f text rest (stops is) =
    let alone : can_read f text ≡ false = ap (can_read f) (sym (append-nil text)) ∙ is [] in
    is rest ∙ sym alone

-- a reader for which each text, with a text of the grammar at its end, decides
pub decided_sees : {A : Type 0} {f : Reader A} {R : Grammar A} → ((before end_ : List ℕ) (x : A) → R end_ x → Decided f (before ++ end_)) → SeesWithin f R
decided_sees {A = A} {f = f} {R = R} decided = record {
  sees = λ byte before end_ rest x r read.
      ap (can_read f) (sym (append_assoc (byte ∷ before) end_ rest)) ∙ decided_same f ((byte ∷ before) ++ end_) rest (decided (byte ∷ before) end_ x r);
}

first_stops : {A B : Type 0} (r : Read A) (g : A × List ℕ → Read B) → is_ok r ≡ false → is_ok (r >>= g) ≡ false
first_stops (Ok x) g is = absurd cc
first_stops (Err left) g is = refl

pub decided_first : {A B : Type 0} (f : Reader A) (g : A → Reader B) (text : List ℕ) → ((more : List ℕ) → can_read f (text ++ more) ≡ false) → Decided (follow f g) text
decided_first {A = A} f g text is = stops (λ more. first_stops (f (text ++ more)) (λ (x : A × List ℕ). g x.0 x.1) (is more))

pub decided_on : {A B : Type 0} (f : Reader A) (g : A → Reader B) (text : List ℕ) (x : A) (later : List ℕ) → ((more : List ℕ) → f (text ++ more) ≡ Ok (x, later ++ more))
    → Decided (g x) later → Decided (follow f g) text
decided_on {A = A} {B = B} f g text x later is (reads y last then_) =
    reads y last (λ more. ap (λ (s : Read A). s >>= λ (v : A × List ℕ). g v.0 v.1) (is more) ∙ then_ more)
decided_on {A = A} {B = B} f g text x later is (stops then_) =
    stops (λ more. ap (λ (s : Read A). is_ok (s >>= λ (v : A × List ℕ). g v.0 v.1)) (is more) ∙ then_ more)

-- ---- fixed texts

pub data StripAt (word text : List ℕ) : Type 0 where
  taken : (later : List ℕ) → text ≡ word ++ later → StripAt word text
  not_taken : ((more : List ℕ) → can_read (strip word) (text ++ more) ≡ false) → StripAt word text

at_byte : (wanted byte : ℕ) (word text : List ℕ) (t : Bool) → eqb byte wanted ≡ t → StripAt word text → StripAt (wanted ∷ word) (byte ∷ text)
unfolding strip
at_byte wanted byte word text true is (taken later parts) =
    let same : byte ≡ wanted = eqb-true byte wanted is in
    taken later (rw (same, parts) refl)
at_byte wanted byte word text true is (not_taken never) = not_taken (λ more. rw is (never more))
at_byte wanted byte word text false is at = not_taken (λ more. rw is refl)

pub strip_at : (word text : List ℕ) → length word ≤ length text → StripAt word text
strip_at [] text le = taken text refl
strip_at (wanted ∷ word) [] le = absurd (omega (arith, le))
strip_at (wanted ∷ word) (byte ∷ text) le = at_byte wanted byte word text (eqb byte wanted) refl (strip_at word text (omega (arith, le)))

strip_on : (word text later more : List ℕ) → text ≡ word ++ later → strip word (text ++ more) ≡ Ok (tt, later ++ more)
strip_on word text later more parts = ap (λ (s : List ℕ). strip word (s ++ more)) parts ∙ ap (strip word) (append_assoc word later more) ∙ strip_again word (later ++ more)

strip_decided_by : (word text : List ℕ) → StripAt word text → Decided (strip word) text
strip_decided_by word text (taken later parts) = reads tt later (λ more. strip_on word text later more parts)
strip_decided_by word text (not_taken never) = stops never

pub strip_decided : (word text : List ℕ) → length word ≤ length text → Decided (strip word) text
strip_decided word text le = strip_decided_by word text (strip_at word text le)

pub strip_sees : (word : List ℕ) → SeesWithin (strip word) (Fixed word)
strip_sees word = decided_sees (λ before end_ x is.
    let same : length end_ ≡ length word = ap (λ (s : List ℕ). length s) is in
    strip_decided word (before ++ end_) (omega (arith, length-append before end_, same)))

-- ---- texts in either case

pub data CasedAt (word text : List ℕ) : Type 0 where
  cased_taken : (there later : List ℕ) → map to_ascii_lowercase there ≡ word → text ≡ there ++ later → CasedAt word text
  cased_not : ((more : List ℕ) → can_read (strip_either_case word) (text ++ more) ≡ false) → CasedAt word text

cased_byte : (wanted byte : ℕ) (word text : List ℕ) (t : Bool) → eqb (to_ascii_lowercase byte) wanted ≡ t → CasedAt word text → CasedAt (wanted ∷ word) (byte ∷ text)
unfolding strip_either_case
cased_byte wanted byte word text true is (cased_taken there later small parts) =
    let same : to_ascii_lowercase byte ≡ wanted = eqb-true (to_ascii_lowercase byte) wanted is in
    cased_taken (byte ∷ there) later (rw (same, small) refl) (ap (λ (s : List ℕ). byte ∷ s) parts)
cased_byte wanted byte word text true is (cased_not never) = cased_not (λ more. rw is (never more))
cased_byte wanted byte word text false is at = cased_not (λ more. rw is refl)

pub cased_at : (word text : List ℕ) → length word ≤ length text → CasedAt word text
cased_at [] text le = cased_taken [] text refl refl
cased_at (wanted ∷ word) [] le = absurd (omega (arith, le))
cased_at (wanted ∷ word) (byte ∷ text) le = cased_byte wanted byte word text (eqb (to_ascii_lowercase byte) wanted) refl (cased_at word text (omega (arith, le)))

cased_on : (word text there later more : List ℕ) → map to_ascii_lowercase there ≡ word → text ≡ there ++ later → strip_either_case word (text ++ more) ≡ Ok (tt, later ++ more)
cased_on word text there later more small parts =
    ap (λ (s : List ℕ). strip_either_case word (s ++ more)) parts ∙ ap (strip_either_case word) (append_assoc there later more)
    ∙ rw (← small) (cased_again there (later ++ more))

-- ---- runs before a byte that ends them

pub record RunAt (test : ℕ → Bool) (front ending : List ℕ) : Type 0 where
  pub run : List ℕ
  pub later : List ℕ
  pub is : (more : List ℕ) → run_of test ((front ++ ending) ++ more) ≡ Ok (run, (later ++ ending) ++ more)

run_byte : (test : ℕ → Bool) (byte : ℕ) (front ending : List ℕ) (t : Bool) → test byte ≡ t → RunAt test front ending → RunAt test (byte ∷ front) ending
unfolding run_of
run_byte test byte front ending true is at = record { run = byte ∷ at.run; later = at.later; is = λ more. rw (is, at.is more) refl }
run_byte test byte front ending false is at = record { run = []; later = byte ∷ front; is = λ more. rw is refl }

run_none : (test : ℕ → Bool) (last : ℕ) (behind : List ℕ) → test last ≡ false → RunAt test [] (last ∷ behind)
unfolding run_of
run_none test last behind ends = record { run = []; later = []; is = λ more. rw ends refl }

pub run_at : (test : ℕ → Bool) (front : List ℕ) (last : ℕ) (behind : List ℕ) → test last ≡ false → RunAt test front (last ∷ behind)
run_at test [] last behind ends = run_none test last behind ends
run_at test (byte ∷ front) last behind ends = run_byte test byte front (last ∷ behind) (test byte) refl (run_at test front last behind ends)

-- ---- closings

run_decided : (test : ℕ → Bool) (front : List ℕ) (last : ℕ) (behind : List ℕ) → test last ≡ false → Decided (follow (run_of test) (λ _. strip (last ∷ behind))) (front ++ last ∷ behind)
run_decided test front last behind ends =
    let at = run_at test front last behind ends in
    decided_on (run_of test) (λ run. strip (last ∷ behind)) (front ++ last ∷ behind) at.run (at.later ++ last ∷ behind) at.is (strip_decided (last ∷ behind) (at.later ++ last ∷ behind) (omega (arith, length-append at.later (last ∷ behind))))

word_decided_by : (word : List ℕ) (test : ℕ → Bool) (front : List ℕ) (last : ℕ) (behind : List ℕ) → test last ≡ false → CasedAt word front
    → Decided (follow (strip_either_case word) (λ _. follow (run_of test) (λ _. strip (last ∷ behind)))) (front ++ last ∷ behind)
word_decided_by word test front last behind ends (cased_taken there later small parts) =
    let whole : front ++ last ∷ behind ≡ there ++ (later ++ last ∷ behind) = ap (λ (s : List ℕ). s ++ last ∷ behind) parts ∙ append_assoc there later (last ∷ behind) in
    decided_on (strip_either_case word) (λ u. follow (run_of test) (λ run. strip (last ∷ behind))) (front ++ last ∷ behind) tt (later ++ last ∷ behind) (λ more. cased_on word (front ++ last ∷ behind) there (later ++ last ∷ behind) more small whole) (run_decided test later last behind ends)
word_decided_by word test front last behind ends (cased_not never) =
    decided_first (strip_either_case word) (λ u. follow (run_of test) (λ run. strip (last ∷ behind))) (front ++ last ∷ behind) (λ more. ap (can_read (strip_either_case word)) (append_assoc front (last ∷ behind) more) ∙ never (last ∷ behind ++ more))

closing_decided_by : (opening word : List ℕ) (test : ℕ → Bool) (front : List ℕ) (last : ℕ) (behind : List ℕ) → test last ≡ false → length opening + length word ≤ length front → StripAt opening front
    → Decided (closing opening word test (last ∷ behind)) (front ++ last ∷ behind)
closing_decided_by opening word test front last behind ends le (taken later parts) =
    let whole : front ++ last ∷ behind ≡ opening ++ (later ++ last ∷ behind) = ap (λ (s : List ℕ). s ++ last ∷ behind) parts ∙ append_assoc opening later (last ∷ behind) in
    let size : length front ≡ length (opening ++ later) = ap (λ (s : List ℕ). length s) parts in
    let fits : length word ≤ length later = omega (arith, le, size, length-append opening later) in
    decided_on (strip opening) (λ u. follow (strip_either_case word) (λ v. follow (run_of test) (λ run. strip (last ∷ behind)))) (front ++ last ∷ behind) tt (later ++ last ∷ behind) (λ more. strip_on opening (front ++ last ∷ behind) (later ++ last ∷ behind) more whole)
    (word_decided_by word test later last behind ends (cased_at word later fits))
closing_decided_by opening word test front last behind ends le (not_taken never) =
    decided_first (strip opening) (λ u. follow (strip_either_case word) (λ v. follow (run_of test) (λ run. strip (last ∷ behind)))) (front ++ last ∷ behind) (λ more. ap (can_read (strip opening)) (append_assoc front (last ∷ behind) more) ∙ never (last ∷ behind ++ more))

pub closing_decided : (opening word : List ℕ) (test : ℕ → Bool) (front : List ℕ) (last : ℕ) (behind : List ℕ) → test last ≡ false → length opening + length word ≤ length front
    → Decided (closing opening word test (last ∷ behind)) (front ++ last ∷ behind)
closing_decided opening word test front last behind ends le =
    closing_decided_by opening word test front last behind ends le (strip_at opening front (omega (arith, le)))

pub closing_spells : (opening word : List ℕ) (test : ℕ → Bool) (last : ℕ) (behind : List ℕ) → test last ≡ false
    → Spells (closing opening word test (last ∷ behind)) (Closing opening word test (last ∷ behind)) Anything
closing_spells opening word test last behind ends =
    follow_spells (strip_spells opening)
    (λ u. follow_spells (either_case_spells word)
    (λ v. follow_spells (run_of_spells test) (λ run. strip_spells (last ∷ behind)) (λ run y back rest is any. rw is ends))
    (λ v y back rest is any. tt))
    (λ u y back rest is any. tt)

-- what a closing holds before its last text
before_last : (opening word : List ℕ) (test : ℕ → Bool) (last : List ℕ) (text : List ℕ) (x : ⊤) → Closing opening word test last text x → (front : List ℕ) × (length opening + length word ≤ length front) × (text ≡ front ++ last)
before_last opening word test last text x r =
    let inner = r.4 in
    let run = inner.4 in
    let opened : length r.1 ≡ length opening = ap (λ (s : List ℕ). length s) r.3 in
    let small : length (map to_ascii_lowercase inner.1) ≡ length word = ap (λ (s : List ℕ). length s) inner.3 in
    let parts : text ≡ r.1 ++ (inner.1 ++ (run.1 ++ last)) =
    r.5 ∙ ap (λ (s : List ℕ). r.1 ++ s) (inner.5 ∙ ap (λ (s : List ℕ). inner.1 ++ s) (run.5 ∙ ap (λ (s : List ℕ). run.1 ++ s) run.4)) in (
      r.1 ++ (inner.1 ++ run.1),
      omega (arith, opened, small, length-map inner.1 to_ascii_lowercase, length-append r.1 (inner.1 ++ run.1), length-append inner.1 run.1),
      parts ∙ ap (λ (s : List ℕ). r.1 ++ s) (sym (append_assoc inner.1 run.1 last)) ∙ sym (append_assoc r.1 (inner.1 ++ run.1) last),
    )

pub closing_sees : (opening word : List ℕ) (test : ℕ → Bool) (last : ℕ) (behind : List ℕ) → test last ≡ false
    → SeesWithin (closing opening word test (last ∷ behind)) (Closing opening word test (last ∷ behind))
closing_sees opening word test last behind ends = decided_sees (λ before end_ x is.
    let b = before_last opening word test (last ∷ behind) end_ x is in
    let whole : before ++ end_ ≡ (before ++ b.0) ++ last ∷ behind = ap (λ (s : List ℕ). before ++ s) b.2 ∙ sym (append_assoc before b.0 (last ∷ behind)) in
    subst (λ (s : List ℕ). Decided (closing opening word test (last ∷ behind)) s) (sym whole)
    (closing_decided opening word test (before ++ b.0) last behind ends (omega (arith, b.1, length-append before b.0))))
