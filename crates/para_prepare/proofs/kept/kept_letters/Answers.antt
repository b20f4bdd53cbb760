use Rattle.std.proofs.Common.{◌≡◌, ◌∙◌, [], ◌∷◌, ◌+◌, ◌++◌, length, ap, sym, drop, rules}
use Rattle.std.proofs.lemmas.List.{drop_all}
use Rattle.fragment_types.specs.Item.{entries_of, entry_of}
use Rattle.para_prepare.proofs.KeptLaws.{ends_more, kept_first, letters_more, no_end_left, none_left}
use Rattle.para_prepare.proofs.PlacedLaws.{few_signs}
use Rattle.para_prepare.proofs.WhiteLaws.{all_marks}
use Rattle.para_prepare.specs.Kept.{ends_from, joined, kept, kept_from, kept_in}
use Rattle.para_prepare.specs.Marks.{marks_with}
use Rattle.para_prepare.specs.White.{marks, signs, signs_in}
use Rattle.para_prepare.proofs.kept.kept_letters.Goals as goal

pub add_item-requires : goal.add_item-requires
add_item-requires c = record { few = few_signs c.args.items.now c.loop-i.i c.index-items-i.result c.loop-i-test.true c.index-items-i.is c.requires.bytes }

pub loop-i-preserved : goal.loop-i-preserved
loop-i-preserved c =
    let items = c.args.items.now in
    let own = c.index-items-i.result in
    let before = c.loop-i.keeper.follows in
    let left = entries_of (drop (c.loop-i.i + 1) items) in
    let step = kept_first items c.loop-i.i own before c.loop-i-test.true c.index-items-i.is in
    let more : c.add_item.new.self.letters.items ≡ c.loop-i.keeper.letters.items ++ kept_in (entry_of own) (marks_with (signs_in (entry_of own) ++ signs left) before) =
    c.in_ok-add_item.ensures.letters
    ∙ ap (λ behind. c.loop-i.keeper.letters.items ++ kept_in (entry_of own) (marks_with (signs_in (entry_of own) ++ signs (entries_of behind)) before)) c.split_at.ensures.back in
    let pushed : c.push.new.self.items ≡ c.loop-i.ends.items ++ length c.add_item.new.self.letters.items ∷ [] = search rules in (
      ap (λ follows. c.add_item.new.self.letters.items ++ joined (kept_from left (marks_with (signs left) follows))) c.in_ok-add_item.ensures.follows
          ∙ letters_more _ _ _ _ _ _ c.loop-i.invariant.0 step more,
      ap (λ follows. c.push.new.self.items ++ ends_from (length c.add_item.new.self.letters.items) (kept_from left (marks_with (signs left) follows))) c.in_ok-add_item.ensures.follows
          ∙ ends_more _ _ _ _ _ _ _ _ c.loop-i.invariant.1 step more pushed,
    )

pub invariant_of-result-clause-letters_are : goal.invariant_of-result-clause-letters_are
unfolding kept marks
invariant_of-result-clause-letters_are c =
    let all = entries_of c.args.items.now in
    none_left _ _ _ c.loop-i.invariant.0
    (ap (λ items. kept_from (entries_of items) (marks_with (signs (entries_of items)) c.loop-i.keeper.follows)) (drop_all c.loop-i.i c.args.items.now c.loop-i-test.false))
    ∙ ap (λ marks. joined (kept_from all marks)) (sym (all_marks (signs all)))

pub invariant_of-result-clause-ends_are : goal.invariant_of-result-clause-ends_are
unfolding kept marks
invariant_of-result-clause-ends_are c =
    let all = entries_of c.args.items.now in
    no_end_left _ _ _ _ c.loop-i.invariant.1
    (ap (λ items. kept_from (entries_of items) (marks_with (signs (entries_of items)) c.loop-i.keeper.follows)) (drop_all c.loop-i.i c.args.items.now c.loop-i-test.false))
    ∙ ap (λ marks. ends_from 0 (kept_from all marks)) (sym (all_marks (signs all)))
