-- A source or a sink in memory, which fails at calls that were named beforehand.
use Rattle.std.specs.Prelude.{◌≡◌, ◌↔◌, ◌+◌, ℕ, List, Contains, Result, IsErrOf}
use Rattle.std.specs.Io.Iter.{u64_saturate}
use Rattle.io_edge.specs.Edge.{CountsFaults}
use Rattle.io_edge.specs.declared.edge.IoFail.{IoFail}
use Rattle.io_edge.specs.declared.edge.IoFail.TheVariants.{Failed}

-- such a source or sink at one moment
pub record InMemory : Type 0 where
  -- the bytes left in a source, or held by a sink
  pub bytes : List ℕ
  -- the numbers of the calls that fail, from 0
  pub failing : List ℕ
  -- how many bytes a call moves at most
  pub most : ℕ
  -- how many calls were made, and how many of them failed; each stops at the last value of 64 bits
  pub calls : ℕ
  pub faults : ℕ

-- what every call does: it fails exactly where its number was named, and is counted
pub record IsCall (old new : InMemory) (result : Result ℕ IoFail) : Type 0 where
  pub fails : IsErrOf result Failed ↔ Contains old.failing old.calls
  pub counted : new.calls ≡ u64_saturate (old.calls + 1)
  pub faulted : CountsFaults old.faults new.faults result
  pub same_failing : new.failing ≡ old.failing
  pub same_most : new.most ≡ old.most

-- before its first call
abbrev pub at_start : (bytes failing : List ℕ) → ℕ → InMemory
at_start bytes failing most = record { bytes = bytes; failing = failing; most = most; calls = 0; faults = 0 }
