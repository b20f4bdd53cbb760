-- Answers, by computation.
use Rattle.std.specs.Prelude.{◌≡◌, refl, codes, Some, None, pos, negsuc}
use Rattle.std.specs.Fmt.{digits}
use Rattle.probe_job.specs.Lines.{caret_line, count, hit_line, word}

a_hit : hit_line (Some (record { node = 3; first = 0; end = 1; place = 1 })) ≡ codes "hit 3 0 1 1\n"
unfolding hit_line count digits
a_hit = refl

a_miss : hit_line None ≡ codes "miss\n"
unfolding hit_line
a_miss = refl

a_caret : caret_line (Some (record { x = negsuc 99; y = pos 5888; w = pos 1024; h = pos 0 })) ≡ codes "caret -100 5888 1024 0\n"
unfolding caret_line word digits
a_caret = refl

no_caret : caret_line None ≡ codes "nocaret\n"
unfolding caret_line
no_caret = refl
