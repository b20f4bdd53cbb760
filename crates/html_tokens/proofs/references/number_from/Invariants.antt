use Rattle.std.proofs.Common.{◌≡◌, ◌≤◌, ◌-◌, length}
use denote.Text.{Utf8}
use denote.Shadow.{shadow}
use Rattle.html_tokens.specs.Lexing as readers
use Rattle.html_tokens.proofs.references.number_from.Given as goal

abbrev pub invariant-loop-read : goal.invariant-loop-read
invariant-loop-read l = shadow (Utf8 l.rest) × (l.value ≤ 0x10FFFF) × (length l.rest ≤ length l.text)
    × (readers.number_from l.base (l.most - l.read) l.value l.rest ≡ readers.number_from l.fn.base l.fn.most l.fn.value l.fn.text)
