-- The sets of bidi classes that the rules of UAX 9 speak of.
use Rattle.std.specs.Prelude.{Bool, true, false}
use Rattle.wm_chars.specs.declared.classes.BidiClass.{BidiClass}
use Rattle.wm_chars.specs.declared.classes.BidiClass.TheVariants.{L, R, AL, B, S, WS, ON, LRE, LRO, RLE, RLO, PDF, LRI, RLI, FSI, PDI}

-- table 4: strong
abbrev pub is_strong : BidiClass → Bool
is_strong L = true
is_strong R = true
is_strong AL = true
is_strong c = false

-- BD10: what begins an embedding or an override
abbrev pub is_embedding_initiator : BidiClass → Bool
is_embedding_initiator LRE = true
is_embedding_initiator LRO = true
is_embedding_initiator RLE = true
is_embedding_initiator RLO = true
is_embedding_initiator c = false

-- X9: what is removed
abbrev pub is_removed : BidiClass → Bool
is_removed PDF = true
is_removed c = is_embedding_initiator c

-- BD8: what begins an isolate
abbrev pub is_isolate_initiator : BidiClass → Bool
is_isolate_initiator LRI = true
is_isolate_initiator RLI = true
is_isolate_initiator FSI = true
is_isolate_initiator c = false

-- table 4: isolate formatting characters
abbrev pub is_isolate_formatting : BidiClass → Bool
is_isolate_formatting PDI = true
is_isolate_formatting c = is_isolate_initiator c

-- N1 and N2: the set NI
abbrev pub is_neutral : BidiClass → Bool
is_neutral B = true
is_neutral S = true
is_neutral WS = true
is_neutral ON = true
is_neutral c = is_isolate_formatting c
