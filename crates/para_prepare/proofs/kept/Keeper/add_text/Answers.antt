use Rattle.std.proofs.Common.{◌≡◌, ◌∙◌, ◌∷◌, ◌++◌, [], length, ap, map, sym, arith}
use Rattle.std.specs.Str.{chars}
use Rattle.std.specs.Str.Iter.{chars_rest}
use Rattle.std.proofs.lemmas.Str.{IsUtf8-past_char, chars_past_char}
use Rattle.std.proofs.StrCases.{chars_of_empty}
use Rattle.para_prepare.proofs.KeptLaws.{chosen_more, follows_more, none_chosen}
use Rattle.fragment_types.specs.Item.{entries_of}
use Rattle.para_prepare.specs.Marks.{follows_all, is_kept_with}
use Rattle.para_prepare.specs.White.{chosen, leads, sign_of, signs}
use Rattle.para_prepare.proofs.kept.Keeper.add_text.Goals as goal

pub loop-c-preserved : goal.loop-c-preserved
loop-c-preserved c =
    let held = c.loop-c.invariant in
    let parts = c.in-Some.ensures.steps.0 in
    let step = chars_past_char _ _ c.in-Some.c held.0 parts in
    let fewer : length (chars (chars_rest c.loop-c.rest)) ≡ length (c.in-Some.c ∷ chars (chars_rest c.next.new.self)) = ap length step in
    let more = c.in_ok-add_character.ensures.letters
    ∙ ap (λ rest. c.loop-c.self.letters.items ++ chosen c.loop-c.place (c.in-Some.c ∷ []) (is_kept_with (sign_of c.in-Some.c) c.loop-c.self.follows (leads (map sign_of (chars rest) ++ signs (entries_of c.args.behind.now))) ∷ [])) c.as_str.ensures in
    let count = held.1 in (
      IsUtf8-past_char _ _ c.in-Some.c held.0 parts,
      omega arith,
      chosen_more _ _ _ _ c.loop-c.place c.in-Some.c _ _ c.loop-c.self.follows _ held.2 step more c.in_ok-add_character.ensures.follows,
      follows_more c.in-Some.c _ _ c.loop-c.self.follows _ _ held.3 step c.in_ok-add_character.ensures.follows,
    )

pub returns-clause-letters : goal.returns-clause-letters
returns-clause-letters c = none_chosen _ _ _ _ _ _ c.loop-c.invariant.2 (chars_of_empty _ c.in_default.ensures.steps.0.0)

pub returns-clause-follows : goal.returns-clause-follows
returns-clause-follows c =
    sym (ap (λ left. follows_all (map sign_of left) c.loop-c.self.follows) (chars_of_empty _ c.in_default.ensures.steps.0.0)) ∙ c.loop-c.invariant.3
