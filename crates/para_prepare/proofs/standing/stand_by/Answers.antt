use Rattle.std.proofs.Common.{rules, ◌≡◌, ◌++◌, [], drop, length, false, None, ℕ, List}
use Rattle.std.proofs.lemmas.List.{drop_all}
use Rattle.para_prepare.specs.Standing.{standings_by}
use Rattle.para_prepare.specs.declared.bidi_text.Character.{Character}
use Rattle.para_prepare.proofs.Standings.{stood_whole}
use Rattle.para_prepare.proofs.standing.stand_by.Goals as goal

-- nothing is left of the text and of the levels
pub returns-clause-whole : goal.returns-clause-whole
returns-clause-whole c =
    let same : length c.args.text.now ≡ length c.args.levels.now = c.requires.levels in
    let text : drop c.loop-k.k c.args.text.now ≡ [] = drop_all c.loop-k.k c.args.text.now (search rules) in
    let levels : drop c.loop-k.k c.args.levels.now ≡ [] = drop_all c.loop-k.k c.args.levels.now (search rules) in
    let left : (more : List Character) (further : List ℕ) → c.loop-k.standings.items ++ standings_by c.args.base c.loop-k.before.begun c.loop-k.before.apart (drop c.loop-k.k c.args.text.now ++ more) (drop c.loop-k.k c.args.levels.now ++ further) ≡ c.args.standings.now.items ++ standings_by c.args.base false None (c.args.text.now ++ more) (c.args.levels.now ++ further) = c.loop-k.invariant.stood in
    stood_whole c.args.standings.now.items c.loop-k.standings.items c.args.base c.loop-k.before.begun c.loop-k.before.apart c.args.text.now c.args.levels.now
    (λ more further. (rw levels at (rw text at left more further)))
