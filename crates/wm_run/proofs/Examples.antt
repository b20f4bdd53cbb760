-- What a run writes beside listings, by computation.
use Rattle.std.specs.Prelude.{◌≡◌, refl, codes}
use Rattle.std.specs.Fmt.{digits}
use Rattle.wm_run.specs.Job.{counted, usage_line}

-- what ends no line is counted in bytes alone
the_counts : counted 3 (codes "ab\nc\nde") ≡ codes "gen 3 bytes 7 lines 2\n"
unfolding counted digits
the_counts = refl

the_usage : usage_line ≡ codes "usage: wm_layout layout|edit|modes|gen|probe [--view-inline N] [--view-block N] [--count N]\n"
unfolding usage_line
the_usage = refl
