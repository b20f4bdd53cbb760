use Rattle.std.proofs.Common.{◌≡◌, ◌+◌, ◌^◌, ◌<◌, ◌-◌}
use denote.Shadow.{shadow}
use denote.Text.{Utf8}
use Rattle.reading.specs.Decimals.{more_digits}
use Rattle.hit_caret.proofs.probe_line.more_digits.Given as goal

-- the digits so far, and how many they are
abbrev pub invariant-loop : goal.invariant-loop
invariant-loop l = record { same : more_digits (9 - l.counter) l.value l.rest ≡ more_digits 9 l.first l.text; few : l.value < 10 ^ (l.counter + 1); utf8 : shadow (Utf8 l.rest) }
