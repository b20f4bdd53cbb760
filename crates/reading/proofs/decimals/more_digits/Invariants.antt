use Rattle.std.proofs.Common.{◌≡◌, ◌+◌, ◌^◌, ◌<◌, ◌≤◌, ◌-◌, length}
use denote.Shadow.{shadow}
use denote.Text.{Utf8}
use Rattle.reading.specs.Decimals.{more_digits}
use Rattle.reading.proofs.decimals.more_digits.Given as goal

-- the digits so far, and how many they are
abbrev pub invariant-loop : goal.invariant-loop
invariant-loop l = record { same : more_digits (l.most - l.counter) l.value l.rest ≡ more_digits l.most l.first l.text; few : l.value < 10 ^ (l.counter + 1); shorter : length l.rest ≤ length l.text; utf8 : shadow (Utf8 l.rest) }
