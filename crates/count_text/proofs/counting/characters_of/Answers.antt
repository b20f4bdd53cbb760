use Rattle.std.proofs.Common.{◌∙◌, ◌∷◌, [], ◌++◌, List, ℕ, ap, sym, append_assoc, append-nil}
use Rattle.std.specs.Str.{chars}
use Rattle.std.specs.Str.Iter.{chars_rest}
use Rattle.std.proofs.lemmas.Str.{IsUtf8-past_char, chars_past_char}
use Rattle.std.proofs.StrCases.{chars_of_empty}
use Rattle.count_text.proofs.counting.characters_of.Goals as goal

pub loop-c-preserved : goal.loop-c-preserved
loop-c-preserved c =
    let parts = c.in-Some.ensures.steps.0 in
    let step = chars_past_char _ _ c.in-Some.c c.loop-c.invariant.0 parts in
    let old = c.loop-c.characters.items in (
      IsUtf8-past_char _ _ c.in-Some.c c.loop-c.invariant.0 parts,
      ap (λ (l : List ℕ). l ++ chars (chars_rest c.next.new.self)) c.in_ok-push.ensures.items
          ∙ append_assoc old (c.in-Some.c ∷ []) (chars (chars_rest c.next.new.self)) ∙ ap (λ (l : List ℕ). old ++ l) (sym step) ∙ c.loop-c.invariant.1,
    )

pub returns : goal.returns
returns c = sym (append-nil c.loop-c.characters.items) ∙ ap (λ (l : List ℕ). c.loop-c.characters.items ++ l) (sym (chars_of_empty _ c.in-None.ensures.steps.0.0)) ∙ c.loop-c.invariant.1
