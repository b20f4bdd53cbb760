-- Answers that are put one by one behind what waits for a sink.
use Rattle.std.proofs.Common.{◌≡◌, sym, ap, subst, ◌∙◌, ℕ, ◌+◌, ◌<◌, List, [], ◌++◌, length, drop, get_or, append_assoc, append-nil}
use Rattle.std.proofs.lemmas.List.{drop_all, drop_more}
use Rattle.std.specs.Prelude.{◌≤◌, Option}
use Rattle.std.specs.Io.KnownBytes.{Appends}
use Rattle.io_edge.proofs.Growth.{put_partly, put_whole, starts, waits_on}
use Rattle.io_edge.specs.Edge.{AppendsFront, AppendsUpTo}
use Rattle.place_map.specs.Placed.{Page}
use Rattle.hit_caret.specs.declared.probes.Probe.{Probe}
use Rattle.probe_job.specs.Answers.{answer, answers}

module _ (page : Page) (probes : List Probe) (old : Option (List ℕ)) where
  -- the answers so far are put, and those to the lines from this one on are left
  abbrev pub ArePut : (now : Option (List ℕ)) (waiting : List ℕ) (k : ℕ) → Type 0
  ArePut now waiting k = AppendsUpTo old now (answers page probes) (waiting ++ answers page (drop k probes))

  pub none_put : (waiting : List ℕ) → waiting ≡ [] → ArePut old waiting 0
  none_put waiting none = subst (λ (w : List ℕ). AppendsUpTo old old (answers page probes) (w ++ answers page probes)) (sym none) (starts old (answers page probes))

  module _ (mid new : Option (List ℕ)) (waiting line : List ℕ) (k : ℕ) (other : Probe) (lt : k < length probes) (told : line ≡ answer page (get_or probes k other)) where
    cut : answers page (drop k probes) ≡ line ++ answers page (drop (k + 1) probes)
    cut =
        ap (answers page) (drop_more probes k other lt) ∙ ap (λ (p : List ℕ). p ++ answers page (drop (k + 1) probes)) (sym told)

    here : ArePut mid waiting k → AppendsUpTo old mid (answers page probes) ((waiting ++ line) ++ answers page (drop (k + 1) probes))
    here put =
        subst (λ (l : List ℕ). AppendsUpTo old mid (answers page probes) l)
        (ap (λ (l : List ℕ). waiting ++ l) cut ∙ sym (append_assoc waiting line (answers page (drop (k + 1) probes)))) put

    -- an answer more
    pub one_put : (left : List ℕ) → ArePut mid waiting k → AppendsUpTo mid new (waiting ++ line) left → ArePut new left (k + 1)
    one_put left put more = waits_on old mid new (answers page probes) (waiting ++ line) left (answers page (drop (k + 1) probes)) (here put) more

    -- a front of them all is written where putting one broke off
    pub one_broken : ArePut mid waiting k → AppendsFront mid new (waiting ++ line) → AppendsFront old new (answers page probes)
    one_broken put broken = (broken.0 ++ answers page (drop (k + 1) probes), one_put broken.0 put broken.1)

  module _ (mid new : Option (List ℕ)) (waiting : List ℕ) (k : ℕ) (over : length probes ≤ k) (put : ArePut mid waiting k) where
    -- all are put
    all_put : AppendsUpTo old mid (answers page probes) waiting
    all_put =
        subst (λ (l : List ℕ). AppendsUpTo old mid (answers page probes) l)
        (ap (λ (ps : List Probe). waiting ++ answers page ps) (drop_all k probes over) ∙ append-nil waiting) put

    pub all_broken : AppendsFront mid new waiting → AppendsFront old new (answers page probes)
    all_broken last = put_partly old mid new (answers page probes) waiting all_put last

    pub all_written : Appends mid new waiting → Appends old new (answers page probes)
    all_written last = put_whole old mid new (answers page probes) waiting all_put last
