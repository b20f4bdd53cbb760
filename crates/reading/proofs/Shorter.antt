-- What is left behind a text that was read is shorter.
use Rattle.std.proofs.Common.{◌≡◌, ℕ, ◌<◌, ◌+◌, List, ◌++◌, length, Ok, Err, ap, ◌∙◌, arith, length-append}
use Rattle.std.specs.Prelude.{IfOk, Result}
use denote.Bor.{Bor}
use Rattle.reading.specs.Readers.{Answers, strip}
use Rattle.reading.proofs.SpellLaws.{strip_spells}

pub strip_shortens : (word text rest : List ℕ) → strip word text ≡ Ok (tt, rest) → length text ≡ length word + length rest
strip_shortens word text rest e =
    let t = (strip_spells word).takes text tt rest e in
    ap length (t.2 ∙ ap (λ (w : List ℕ). w ++ rest) t.1) ∙ length-append word rest

pub strip_strict : (word text : List ℕ) (result : Result (Bor (List ℕ)) (Bor (List ℕ))) → 0 < length word → Answers (λ rest. (tt, rest.now)) result (strip word text)
    → IfOk result (λ rest. length rest.now < length text)
strip_strict word text (Ok rest) some e = omega (arith, some, strip_shortens word text rest.now e)
strip_strict word text (Err left) some e = tt
