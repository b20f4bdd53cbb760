use Rattle.std.specs.Prelude.{◌≡◌, ◌+◌, ◌++◌, length, map}
use Rattle.std.specs.Str.{chars, IsUtf8}
use Rattle.std.specs.Str.Iter.{chars_rest}
use Rattle.fragment_types.specs.Item.{entries_of}
use Rattle.para_prepare.specs.Marks.{follows_all, marks_with}
use Rattle.para_prepare.specs.White.{chosen, sign_of, signs}
use Rattle.para_prepare.proofs.kept.Keeper.add_text.Given as goal

abbrev pub invariant-loop-c : goal.invariant-loop-c
invariant-loop-c l =
    let left = chars (chars_rest l.rest) in
    let after = signs (entries_of l.behind) in
    IsUtf8 (chars_rest l.rest)
    × (l.place + length left ≡ length (chars l.fn.text))
    × (l.self.letters.items ++ chosen l.place left (marks_with (map sign_of left ++ after) l.self.follows)
    ≡ l.fn.self.letters.items ++ chosen 0 (chars l.fn.text) (marks_with (map sign_of (chars l.fn.text) ++ after) l.fn.self.follows))
    × (follows_all (map sign_of left) l.self.follows ≡ follows_all (map sign_of (chars l.fn.text)) l.fn.self.follows)
