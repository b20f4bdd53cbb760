-- Turns that read alike, and where turns end.
use Rattle.std.proofs.Common.{◌≡◌, ℕ, zero, suc, ◌<◌, Bool, true, false, cond, List, length, Ok, Err, refl, ap, ◌∙◌, arith}
use Rattle.reading.specs.Readers.{ReadOr, ReaderOr, ◌>>=◌, turns, repeat}
use Rattle.reading.proofs.SpellLaws.{ok}
use Rattle.reading.proofs.Turns.{turns_back}

bind_same : {E A B : Type 0} (r : ReadOr E A) (f g : A × List ℕ → ReadOr E B) → ((x : A × List ℕ) → f x ≡ g x) → (r >>= f) ≡ (r >>= g)
bind_same (Ok x) f g same = same x
bind_same (Err told) f g same = refl

turn_by : {E S : Type 0} (goes : S → List ℕ → Bool) (turn other : S → ReaderOr E S) (fuel : ℕ) (s : S) (bytes : List ℕ) (t : Bool) → goes s bytes ≡ t
    → (goes s bytes ≡ true → turn s bytes ≡ other s bytes)
    → ((x : S × List ℕ) → turns goes turn fuel x.0 x.1 ≡ turns goes other fuel x.0 x.1)
    → cond t (turn s bytes >>= λ (x : S × List ℕ). turns goes turn fuel x.0 x.1) (ok (s, bytes)) ≡ cond t (other s bytes >>= λ (x : S × List ℕ). turns goes other fuel x.0 x.1) (ok (s, bytes))
turn_by {E = E} {S = S} goes turn other fuel s bytes true is same later =
    ap (λ (r : ReadOr E S). r >>= λ (x : S × List ℕ). turns goes turn fuel x.0 x.1) (same is)
    ∙ bind_same (other s bytes) (λ (x : S × List ℕ). turns goes turn fuel x.0 x.1) (λ (x : S × List ℕ). turns goes other fuel x.0 x.1) later
turn_by goes turn other fuel s bytes false is same later = refl

turns_same : {E S : Type 0} (goes : S → List ℕ → Bool) (turn other : S → ReaderOr E S) → ((s : S) (bytes : List ℕ) → goes s bytes ≡ true → turn s bytes ≡ other s bytes)
    → (fuel : ℕ) (s : S) (bytes : List ℕ) → turns goes turn fuel s bytes ≡ turns goes other fuel s bytes
unfolding turns
turns_same goes turn other same zero s bytes = refl
turns_same goes turn other same (suc fuel) s bytes =
    turn_by goes turn other fuel s bytes (goes s bytes) refl (same s bytes) (λ x. turns_same goes turn other same fuel x.0 x.1)

-- turns that read alike wherever they are taken
pub repeat_same : {E S : Type 0} (goes : S → List ℕ → Bool) (turn other : S → ReaderOr E S) → ((s : S) (bytes : List ℕ) → goes s bytes ≡ true → turn s bytes ≡ other s bytes)
    → (s : S) (bytes : List ℕ) → repeat goes turn s bytes ≡ repeat goes other s bytes
unfolding repeat
repeat_same goes turn other same s bytes = turns_same goes turn other same (suc (length bytes)) s bytes

-- where turns that each take a byte are at their end, the test says no
pub repeat_ends : {E S : Type 0} (goes : S → List ℕ → Bool) (turn : S → ReaderOr E S) → ((s later : S) (x y : List ℕ) → goes s x ≡ true → turn s x ≡ ok (later, y) → length y < length x)
    → (s end_ : S) (bytes rest : List ℕ) → repeat goes turn s bytes ≡ ok (end_, rest) → goes end_ rest ≡ false
unfolding repeat
repeat_ends goes turn shorter s end_ bytes rest e =
    turns_back goes turn (λ state left. goes end_ rest ≡ false) end_ rest (λ is. is) (λ a b x y g turned is. is) shorter (suc (length bytes)) s bytes (omega arith) e
