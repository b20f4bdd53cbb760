-- What is read as often as a test of the next bytes says.
use Rattle.std.proofs.Common.{◌≡◌, ℕ, suc, Bool, true, List, [], ◌∷◌, ◌++◌, ◌<◌, length, refl, sym, ap, subst, ◌∙◌, append_assoc, length-append, arith}
use Rattle.std.specs.List.{concat, fold}
use Rattle.std.proofs.lemmas.List.{append-nil}
use Rattle.reading.specs.Readers.{ReadOr, ReaderOr, ◌>>=◌, give, mapped, repeat, many, joined}
use Rattle.reading.specs.Grammars.{Grammar, Each, Joined}
use Rattle.reading.specs.Spelling.{Spells, IsTestOf}
use Rattle.reading.proofs.SpellLaws.{ok, bind_ok, same_answer, spells_as}
use Rattle.reading.proofs.Turns.{Leads, leads_nowhere, leads_on, one_turn, leads_to_end, turns_back}

-- one item more
abbrev pub push_one : {E A S : Type 0} → (S → A → S) → ReaderOr E A → S → ReaderOr E S
push_one push f state = mapped (push state) f

-- items one after the other, and all of them put into a state
abbrev pub Gathered : {A S : Type 0} → (S → A → S) → S → Grammar A → Grammar S
Gathered {A} push start R text state = (items : List A) × Each R text items × (state ≡ fold push start items)

-- what is left is a list of items behind those so far, and then this rest
pub record IsLeft {A S : Type 0} (R : Grammar A) (push : S → A → S) (end_ : S) (rest : List ℕ) (state : S) (bytes : List ℕ) : Type 0 where
  pub more : List A
  pub text : List ℕ
  pub each : Each R text more
  pub all : end_ ≡ fold push state more
  pub parts : bytes ≡ text ++ rest

item_back : {E A S : Type 0} (push : S → A → S) (f : ReaderOr E A) (R : Grammar A) (Ends : List ℕ → Type 0) (end_ : S) (rest : List ℕ) (state later : S) (x y : List ℕ) → Spells f R Ends
    → push_one push f state x ≡ ok (later, y) → IsLeft R push end_ rest later y → IsLeft R push end_ rest state x
item_back {E = E} {A = A} {S = S} push f R Ends end_ rest state later x y p e l =
    let a = bind_ok (f x) (λ (v : A × List ℕ). give (push state v.0) v.1) (later, y) e in
    let same = same_answer {E = E} (push state a.0.0) later a.0.1 y a.2 in
    let t = p.takes x a.0.0 a.0.1 a.1 in
    record {
      more = a.0.0 ∷ l.more;
      text = t.0 ++ l.text;
      each = (t.0, l.text, t.1, l.each, refl);
      all = l.all ∙ ap (λ (s : S). fold push s l.more) (sym same.0);
      parts = t.2 ∙ ap (λ (s : List ℕ). t.0 ++ s) (same.1 ∙ l.parts) ∙ sym (append_assoc t.0 l.text rest);
    }

pub item_shortens : {E A S : Type 0} (push : S → A → S) (f : ReaderOr E A) (R : Grammar A) (Ends More : List ℕ → Type 0) (test : List ℕ → Bool) (state later : S) (x y : List ℕ)
    → Spells f R Ends → IsTestOf test R Ends More → push_one push f state x ≡ ok (later, y) → length y < length x
item_shortens {E = E} {A = A} push f R Ends More test state later x y p t e =
    let a = bind_ok (f x) (λ (v : A × List ℕ). give (push state v.0) v.1) (later, y) e in
    let same = same_answer {E = E} (push state a.0.0) later a.0.1 y a.2 in
    let r = p.takes x a.0.0 a.0.1 a.1 in
    let some = t.some r.0 a.0.0 r.1 in
    let whole : length x ≡ length (r.0 ++ a.0.1) = ap (λ (s : List ℕ). length s) r.2 in
    let there : length a.0.1 ≡ length y = ap (λ (s : List ℕ). length s) same.1 in
    omega (arith, whole, there, length-append r.0 a.0.1, some)

-- an item may end before the items behind it
may_end : {A : Type 0} (test : List ℕ → Bool) (R : Grammar A) (Ends More : List ℕ → Type 0) (text : List ℕ) (xs : List A) (rest : List ℕ)
    → IsTestOf test R Ends More → Each R text xs → More rest → Ends (text ++ rest)
may_end test R Ends More text [] rest t each ends = rw each (t.last rest ends)
may_end test R Ends More text (x ∷ xs) rest t each ends =
    let later = may_end test R Ends More each.1 xs rest t each.3 ends in
    let whole : each.0 ++ (each.1 ++ rest) ≡ text ++ rest = sym (append_assoc each.0 each.1 rest) ∙ ap (λ (s : List ℕ). s ++ rest) (sym each.4) in
    t.next (text ++ rest) (subst (λ (s : List ℕ). test s ≡ true) whole (t.begins each.0 x (each.1 ++ rest) each.2 later))

items_read : {E A S : Type 0} (push : S → A → S) (test : List ℕ → Bool) (f : ReaderOr E A) (R : Grammar A) (Ends More : List ℕ → Type 0) (xs : List A) (state : S) (text rest : List ℕ)
    → Spells f R Ends → IsTestOf test R Ends More → Each R text xs → More rest
    → Leads (λ (s : S) bytes. test bytes) (push_one push f) state (text ++ rest) (fold push state xs) rest
items_read {E = E} {A = A} {S = S} push test f R Ends More [] state text rest p t each ends =
    rw each (leads_nowhere (λ (s : S) bytes. test bytes) (push_one push f) state rest)
items_read {E = E} {A = A} {S = S} push test f R Ends More (x ∷ xs) state text rest p t each ends =
    let later = may_end test R Ends More each.1 xs rest t each.3 ends in
    let here = p.again each.0 x (each.1 ++ rest) each.2 later in
    let one = one_turn (λ (s : S) bytes. test bytes) (push_one push f) state (push state x) (each.0 ++ (each.1 ++ rest)) (each.1 ++ rest)
    (t.begins each.0 x (each.1 ++ rest) each.2 later)
    (ap (λ (r : ReadOr E A). r >>= λ (v : A × List ℕ). give (push state v.0) v.1) here)
    (omega (arith, length-append each.0 (each.1 ++ rest), t.some each.0 x each.2)) in
    let others = items_read push test f R Ends More xs (push state x) each.1 rest p t each.3 ends in
    let whole : each.0 ++ (each.1 ++ rest) ≡ text ++ rest = sym (append_assoc each.0 each.1 rest) ∙ ap (λ (s : List ℕ). s ++ rest) (sym each.4) in
    subst (λ (b : List ℕ). Leads (λ (s : S) bytes. test bytes) (push_one push f) state b (fold push (push state x) xs) rest) whole (leads_on one others)

-- items that are put into a state one after the other
pub gathered_spells : {E A S : Type 0} (push : S → A → S) (start : S) {test : List ℕ → Bool} {f : ReaderOr E A} {R : Grammar A} {Ends More : List ℕ → Type 0}
    → Spells f R Ends → IsTestOf test R Ends More → Spells (repeat (λ s bytes. test bytes) (push_one push f) start) (Gathered push start R) More
unfolding repeat
gathered_spells {E = E} {A = A} {S = S} push start {test = test} {f = f} {R = R} {Ends = Ends} {More = More} p t = record {
  takes = λ bytes end_ rest e.
      let l = turns_back (λ (s : S) b. test b) (push_one push f) (IsLeft R push end_ rest) end_ rest
      (λ g. record { more = []; text = []; each = refl; all = refl; parts = refl })
      (λ s later x y g turned left. item_back push f R Ends end_ rest s later x y p turned left)
      (λ s later x y g turned. item_shortens push f R Ends More test s later x y p t turned)
      (suc (length bytes)) start bytes (omega arith) e in
      (l.text, (l.more, l.each, l.all), l.parts);
  again = λ text end_ rest g ends.
      rw g.2 (leads_to_end (λ (s : S) b. test b) (push_one push f) start (fold push start g.0) (text ++ rest) rest (items_read push test f R Ends More g.0 start text rest p t g.1 ends) (t.ends rest ends));
}

-- ---- lists

pub all_pushed : {A : Type 0} (items xs : List A) → fold (λ (l : List A) x. l ++ x ∷ []) items xs ≡ items ++ xs
all_pushed items [] = sym (append-nil items)
all_pushed items (x ∷ xs) = all_pushed (items ++ x ∷ []) xs ∙ append_assoc items (x ∷ []) xs

pub many_spells : {E A : Type 0} {test : List ℕ → Bool} {f : ReaderOr E A} {R : Grammar A} {Ends More : List ℕ → Type 0}
    → Spells f R Ends → IsTestOf test R Ends More → Spells (many test f) (Each R) More
unfolding many
many_spells {E = E} {A = A} {R = R} p t =
    spells_as (gathered_spells (λ (l : List A) x. l ++ x ∷ []) [] p t)
    (λ text xs g. subst (λ (z : List A). Each R text z) (sym (g.2 ∙ all_pushed [] g.0)) g.1)
    (λ text xs each. (xs, each, sym (all_pushed [] xs)))

-- ---- pieces joined

pub all_joined : (text : List ℕ) (pieces : List (List ℕ)) → fold (λ (t : List ℕ) piece. t ++ piece) text pieces ≡ text ++ concat pieces
all_joined text [] = sym (append-nil text)
all_joined text (piece ∷ pieces) = all_joined (text ++ piece) pieces ∙ append_assoc text piece (concat pieces)

pub joined_spells : {E : Type 0} {test : List ℕ → Bool} {f : ReaderOr E (List ℕ)} {R : Grammar (List ℕ)} {Ends More : List ℕ → Type 0}
    → Spells f R Ends → IsTestOf test R Ends More → Spells (joined test f) (Joined R) More
unfolding joined
joined_spells {E = E} {R = R} p t =
    spells_as (gathered_spells (λ (t : List ℕ) piece. t ++ piece) [] p t)
    (λ text y g. (g.0, g.1, g.2 ∙ all_joined [] g.0))
    (λ text y j. (j.0, j.1, j.2 ∙ sym (all_joined [] j.0)))
