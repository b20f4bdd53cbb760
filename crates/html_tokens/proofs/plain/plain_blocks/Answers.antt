use Rattle.std.proofs.Common.{◌≡◌, ◌∙◌, ◌+◌, ◌-◌, ◌≤◌, ℕ, ap, arith, drop, length, sym, take}
use Rattle.std.specs.List.{list_all}
use Rattle.html_tokens.specs.Pieces.{is_plain_letter}
use Rattle.html_tokens.proofs.PlainRuns.{plain_both}
use Rattle.html_tokens.proofs.plain.plain_blocks.Goals as goal

pub loop-start-preserved : goal.loop-start-preserved
loop-start-preserved c =
    let more = c.loop-start-test.true in
    let before = c.loop-start.invariant.within in
    let within : c.loop-start.start + 8 ≤ length c.args.bytes.now = omega (arith, more, before) in
    let many : c.loop-start.start + 8 - c.loop-start.start ≡ 8 = omega arith in
    record {
      within = within;
      plain = plain_both c.loop-start.start 8 c.args.bytes.now c.loop-start.invariant.plain (ap (λ (n : ℕ). list_all is_plain_letter (take n (drop c.loop-start.start c.args.bytes.now))) (sym many) ∙ sym c.are_plain.ensures ∙ c.if-not-are_plain.false);
    }
