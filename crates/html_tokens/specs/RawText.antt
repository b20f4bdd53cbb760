-- The ends of characters that may be any: none is there where another byte than its first one stands, or none at all.
use Rattle.std.specs.Prelude.{◌≡◌, ℕ, ◌<◌, ◌==◌, false, is_ok, List, [], ◌∷◌, codes, Err, if◌then◌else◌, refl}
use Rattle.std.proofs.Common.{ap}
use Rattle.std.proofs.lemmas.Bool.{ltb-true}
use Rattle.reading.specs.Readers.{◌>>=◌, can_read, follow, strip, strip_either_case}
use Rattle.reading.specs.White.{spaces}
use Rattle.html_tokens.specs.declared.raw_text.RawEnd.{RawEnd}
use Rattle.html_tokens.specs.declared.raw_text.RawEnd.TheVariants as ends
use Rattle.html_tokens.specs.Lexing.{raw_end, raw_mark, end_of}

end_tag_begins : (word : List ℕ) (byte : ℕ) (after : List ℕ) → (byte == 60) ≡ false → can_read (end_of word) (byte ∷ after) ≡ false
unfolding end_of strip
end_tag_begins word byte after other =
    ap (λ same. is_ok ((if same then strip (codes "/") after else Err (byte ∷ after)) >>= λ x.
    follow (strip_either_case word) (λ u. follow spaces (λ u. strip (codes ">"))) x.1)) other

pub begins_with_its_mark : (end_ : RawEnd) (byte : ℕ) (after : List ℕ) → (byte == raw_mark end_) ≡ false → can_read (raw_end end_) (byte ∷ after) ≡ false
unfolding strip
begins_with_its_mark ends.Comment byte after other = ap (λ same. is_ok (if same then strip (codes "->") after else Err (byte ∷ after))) other
begins_with_its_mark ends.Title byte after other = end_tag_begins (codes "title") byte after other
begins_with_its_mark ends.Style byte after other = end_tag_begins (codes "style") byte after other

pub is_some : (end_ : RawEnd) → can_read (raw_end end_) [] ≡ false
unfolding end_of strip
is_some ends.Comment = refl
is_some ends.Title = refl
is_some ends.Style = refl

pub mark_is_ascii : (end_ : RawEnd) → raw_mark end_ < 128
mark_is_ascii ends.Comment = ltb-true 45 128 refl
mark_is_ascii ends.Title = ltb-true 60 128 refl
mark_is_ascii ends.Style = ltb-true 60 128 refl
