-- Isolates as brackets (UAX 9, BD9).
use Rattle.std.specs.Prelude.{ℕ, zero, suc, cond, List, [], ◌∷◌, take, Option, Some, None}
use Rattle.std.specs.Option.{option_map}
use Rattle.wm_chars.specs.declared.classes.BidiClass.{BidiClass}
use Rattle.wm_chars.specs.declared.classes.BidiClass.TheVariants.{L, R, AL, PDI}
use Rattle.wm_chars.specs.Classes.{is_isolate_initiator}
use Rattle.bidi_explicit.specs.declared.isolates.Kind.{Kind}
use Rattle.bidi_explicit.specs.declared.isolates.Kind.TheVariants.{Strong, Opens, Closes, Other}

-- what a class is to these rules; a strong character has the level that P3 gives for it
abbrev pub kind_of : BidiClass → Kind
kind_of L = Strong 0
kind_of R = Strong 1
kind_of AL = Strong 1
kind_of PDI = Closes
kind_of c = cond (is_isolate_initiator c) Opens Other

-- one step of `closing`: `rest` looks on in the text that follows
abbrev pub closing_at : Kind → (ℕ → Option ℕ) → ℕ → Option ℕ
closing_at Closes rest zero = Some 0
closing_at Closes rest (suc depth) = option_map suc (rest depth)
closing_at Opens rest depth = option_map suc (rest (suc depth))
closing_at (Strong level) rest depth = option_map suc (rest depth)
closing_at Other rest depth = option_map suc (rest depth)

-- BD9: how many characters stand before the first PDI that closes what was open before them, where `depth`
-- isolates have been opened since and are still open
abbrev pub closing : List BidiClass → ℕ → Option ℕ
closing [] depth = None
closing (c ∷ after) depth = closing_at (kind_of c) (closing after) depth

-- the front of that length, or the whole list where there is none
abbrev pub up_to : {X : Type 0} → Option ℕ → List X → List X
up_to None xs = xs
up_to (Some n) xs = take n xs

-- BD9: what an isolate holds, if this follows its initiator: all up to the matching PDI, or to the end
abbrev pub inside : List BidiClass → List BidiClass
inside after = up_to (closing after 0) after
