-- The line that is kept while a document is gone through.
use Rattle.std.specs.Prelude.{◌≡◌, ℕ, ◌≤◌, List, length, drop}
use Rattle.dom_store.specs.State.{State, What, state_of}
use Rattle.cascade.specs.declared.kept.KeptLine.{KeptLine}
use Rattle.cascade.specs.Chain.{IsChain}
use Rattle.cascade.specs.ClassSets.{AreOf}
use Rattle.cascade.specs.Line.{whats_of}

-- the state of the document that is gone through
abbrev pub kept_state : KeptLine → State
kept_state kept = state_of kept.document.now

-- the line that is kept
abbrev pub kept_whats : KeptLine → List What
kept_whats kept = whats_of (drop kept.start kept.nodes)

abbrev pub kept_numbers : KeptLine → List ℕ
kept_numbers kept = drop kept.start kept.numbers

-- its nodes live under their numbers, each above the one before it, and the sets that are kept are of their classes
abbrev pub IsKept : KeptLine → Type 0
IsKept kept = (kept.start ≤ 64) × (length kept.nodes ≡ 64) × IsChain (kept_state kept) (drop kept.start kept.nodes) (drop kept.start kept.numbers) × AreOf kept.sets (drop kept.start kept.nodes)
