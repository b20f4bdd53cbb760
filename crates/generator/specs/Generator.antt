-- The generated input: a document of paragraphs, then a script that lists it, sets the text of each and
-- lists it again. Every fourth paragraph stands in a box of vertical text.
use Rattle.std.specs.Prelude.{ℕ, zero, suc, ◌+◌, ◌*◌, ◌/◌, ◌%◌, ◌==◌, if◌then◌else◌, List, [], ◌++◌, codes, decimal}

-- the pieces of 0 to n - 1, one behind the other
abbrev pub pieces : (ℕ → List ℕ) → ℕ → List ℕ
pieces piece zero = []
pieces piece (suc n) = pieces piece n ++ piece n

-- the paragraph of this number
abbrev pub paragraph : ℕ → List ℕ
paragraph k = if k % 4 == 3 then codes "<div style=\"writing-mode:vertical-rl\"><p>a b</p></div>" else codes "<p>a</p>"

-- its text node: three paragraphs have two nodes each, and a fourth has three
abbrev pub text_node : ℕ → ℕ
text_node k = if k % 4 == 3 then 9 * (k / 4) + 10 else 9 * (k / 4) + 2 * (k % 4) + 3

-- a space and a letter, so many times
abbrev pub words : ℕ → List ℕ
words count = pieces (λ k. codes " a") count

-- the line that sets its text
abbrev pub edit : ℕ → List ℕ
edit k = codes "text " ++ decimal (text_node k) ++ words (k % 7 + 1) ++ codes "\n"

unfoldable pub gen_input : ℕ → List ℕ
gen_input count = codes "<html><body>" ++ pieces paragraph count ++ codes "</body></html>\nshow\n"
    ++ pieces edit count ++ codes "show\n"
