-- The generated input is short.
use Rattle.std.proofs.Common.{arith, ℕ, zero, suc, ◌+◌, ◌*◌, ◌/◌, ◌%◌, ◌≤◌, ◌<◌, ◌^◌, ◌==◌, Bool, true, false, cond, List, ◌++◌, length, codes, decimal, length-append}
use Rattle.std.proofs.lemmas.Fmt.{length-decimal-le}
use Rattle.generator.specs.Generator.{pieces, paragraph, text_node, words, edit, gen_input}

-- pieces of at most `most` bytes each
pieces_short : (piece : ℕ → List ℕ) (most n : ℕ) → ((k : ℕ) → k < n → length (piece k) ≤ most) → length (pieces piece n) ≤ n * most
pieces_short piece most zero short = omega arith
pieces_short piece most (suc n) short =
    let rest = pieces_short piece most n (λ k below. short k (omega arith)) in
    let one = short n (omega arith) in
    let both = length-append (pieces piece n) (piece n) in
    grind (arith)

paragraph_short : (k : ℕ) → length (paragraph k) ≤ 60
paragraph_short k = go (k % 4 == 3) where
  go : (b : Bool) → length (cond b (codes "<div style=\"writing-mode:vertical-rl\"><p>a b</p></div>") (codes "<p>a</p>")) ≤ 60
  go true = omega arith
  go false = omega arith

node_small : (k : ℕ) → k < 1000 → text_node k < 10 ^ 5
node_small k small = go (k % 4 == 3) where
  go : (b : Bool) → cond b (9 * (k / 4) + 10) (9 * (k / 4) + 2 * (k % 4) + 3) < 10 ^ 5
  go true = omega arith
  go false = omega arith

edit_short : (k : ℕ) → k < 1000 → length (edit k) ≤ 60
edit_short k small =
    let node = length-decimal-le 5 (text_node k) (omega arith) (node_small k small) (omega (arith, node_small k small)) in
    let text = pieces_short (λ _. codes " a") 2 (k % 7 + 1) (λ _ _. omega arith) in
    let front = length-append (decimal (text_node k)) (words (k % 7 + 1)) in
    let whole = length-append (decimal (text_node k) ++ words (k % 7 + 1)) (codes "\n") in
    omega (arith, node, text, front, whole)

pub is_short : (count : ℕ) → count ≤ 1000 → length (gen_input count) ≤ 1048576
unfolding gen_input
is_short count few =
    let paragraphs = pieces_short paragraph 60 count (λ k _. paragraph_short k) in
    let edits = pieces_short edit 60 count (λ k below. edit_short k (omega arith)) in
    let body = length-append (pieces paragraph count) (codes "</body></html>\nshow\n") in
    let script = length-append (pieces paragraph count ++ codes "</body></html>\nshow\n") (pieces edit count) in
    let whole = length-append (pieces paragraph count ++ codes "</body></html>\nshow\n" ++ pieces edit count) (codes "show\n") in
    omega (arith, paragraphs, edits, body, script, whole)
