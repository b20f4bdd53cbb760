-- Turns one after the other, where each stands in a grammar of the state before it.
use Rattle.std.proofs.Common.{◌≡◌, ℕ, suc, ◌<◌, Bool, true, false, List, [], ◌∷◌, ◌++◌, length, refl, sym, ap, subst, ◌∙◌, append_assoc, arith}
use Rattle.reading.specs.Readers.{ReaderOr, repeat}
use Rattle.reading.specs.Placed.{PlacedGrammar, SpellsPlaced}
use Rattle.reading.specs.Spelling.{Anything}
use Rattle.reading.proofs.SpellLaws.{ok}
use Rattle.reading.proofs.Turns.{Leads, leads_nowhere, leads_on, one_turn, leads_to_end, turns_back}

-- the states behind the first, each behind its turn
abbrev pub Chain : {S : Type 0} → (S → List ℕ → Bool) → (S → PlacedGrammar S) → List S → S → PlacedGrammar S
Chain goes Step [] s text behind end_ = (text ≡ []) × (end_ ≡ s)
Chain goes Step (later ∷ others) s text behind end_ = (here more : List ℕ) × (goes s (here ++ (more ++ behind)) ≡ true) × Step s here (more ++ behind) later
    × Chain goes Step others later more behind end_ × (text ≡ here ++ more)

-- all turns
abbrev pub AreTurns : {S : Type 0} → (S → List ℕ → Bool) → (S → PlacedGrammar S) → S → PlacedGrammar S
AreTurns {S} goes Step s text behind end_ = (states : List S) × Chain goes Step states s text behind end_ × (goes end_ behind ≡ false)

-- a turn and its grammar
pub record IsTurn {E S : Type 0} (turn : S → ReaderOr E S) (Step : S → PlacedGrammar S) : Type 0 where
  pub spells : (s : S) → SpellsPlaced (turn s) (Step s) Anything
  pub shortens : (s later : S) (x y : List ℕ) → turn s x ≡ ok (later, y) → length y < length x

-- what is left is a chain of turns, and then this rest
record IsLeft {S : Type 0} (goes : S → List ℕ → Bool) (Step : S → PlacedGrammar S) (end_ : S) (rest : List ℕ) (s : S) (bytes : List ℕ) : Type 0 where
  states : List S
  text : List ℕ
  chain : Chain goes Step states s text rest end_
  parts : bytes ≡ text ++ rest

turn_back : {E S : Type 0} (goes : S → List ℕ → Bool) (turn : S → ReaderOr E S) (Step : S → PlacedGrammar S) (end_ : S) (rest : List ℕ) (s later : S) (x y : List ℕ) → IsTurn turn Step
    → goes s x ≡ true → turn s x ≡ ok (later, y) → IsLeft goes Step end_ rest later y → IsLeft goes Step end_ rest s x
turn_back goes turn Step end_ rest s later x y p g e l =
    let t = (p.spells s).takes x later y e in
    let whole : x ≡ t.0 ++ (l.text ++ rest) = t.2 ∙ ap (λ (b : List ℕ). t.0 ++ b) l.parts in
    record {
      states = later ∷ l.states;
      text = t.0 ++ l.text;
      chain = (t.0, l.text, subst (λ (b : List ℕ). goes s b ≡ true) whole g, subst (λ (b : List ℕ). Step s t.0 b later) l.parts t.1, l.chain, refl);
      parts = whole ∙ sym (append_assoc t.0 l.text rest);
    }

chain_read : {E S : Type 0} (goes : S → List ℕ → Bool) (turn : S → ReaderOr E S) (Step : S → PlacedGrammar S) (states : List S) (s : S) (text behind : List ℕ) (end_ : S) → IsTurn turn Step
    → Chain goes Step states s text behind end_ → Leads goes turn s (text ++ behind) end_ behind
chain_read goes turn Step [] s text behind end_ p c = rw (c.0, c.1) (leads_nowhere goes turn s behind)
chain_read goes turn Step (later ∷ others) s text behind end_ p (here, more, g, step, chain, whole) =
    let read = (p.spells s).again here later (more ++ behind) step tt in
    let one = one_turn goes turn s later (here ++ (more ++ behind)) (more ++ behind) g read (p.shortens s later (here ++ (more ++ behind)) (more ++ behind) read) in
    let all : here ++ (more ++ behind) ≡ text ++ behind = sym (append_assoc here more behind) ∙ ap (λ (b : List ℕ). b ++ behind) (sym whole) in
    subst (λ (b : List ℕ). Leads goes turn s b end_ behind) all (leads_on one (chain_read goes turn Step others later more behind end_ p chain))

pub turns_spell : {E S : Type 0} {goes : S → List ℕ → Bool} {turn : S → ReaderOr E S} {Step : S → PlacedGrammar S} (s : S) → IsTurn turn Step → SpellsPlaced (repeat goes turn s) (AreTurns goes Step s) Anything
unfolding repeat
turns_spell {E = E} {S = S} {goes = goes} {turn = turn} {Step = Step} s p = record {
  takes = λ bytes end_ rest e.
      let l = turns_back goes turn (λ (z : S) (x : List ℕ). (goes end_ rest ≡ false) × IsLeft goes Step end_ rest z x) end_ rest
      (λ g. (g, record { states = []; text = []; chain = (refl, refl); parts = refl }))
      (λ z later x y g turned left. (left.0, turn_back goes turn Step end_ rest z later x y p g turned left.1))
      (λ z later x y g turned. p.shortens z later x y turned)
      (suc (length bytes)) s bytes (omega arith) e in
      (l.1.text, (l.1.states, l.1.chain, l.0), l.1.parts);
  again = λ text end_ rest r any. leads_to_end goes turn s end_ (text ++ rest) rest (chain_read goes turn Step r.0 s text rest end_ p r.1) r.2;
}
