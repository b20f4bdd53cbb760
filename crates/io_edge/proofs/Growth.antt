-- What a sink holds after several writes.
use Rattle.std.proofs.Common.{ℕ, List, [], ◌++◌, refl, sym, ap, subst, ◌∙◌, append_assoc, append-nil, take, drop, take-append-drop}
use Rattle.std.specs.declared.option.Option.{Option}
use Rattle.std.specs.Io.KnownBytes.{Appends, Keeps}
use Rattle.std.proofs.KnownBytes.{Appends-nil, Appends-trans, Appends-kept}
use Rattle.io_edge.specs.Edge.{AppendsUpTo, AppendsFront}

-- ---- one piece, written bit by bit

-- at the start nothing is written
pub starts : (sink : Option (List ℕ)) (bytes : List ℕ) → AppendsUpTo sink sink bytes bytes
starts sink bytes = record { front = []; appended = Appends-nil sink; whole = refl }

pub nothing_yet : (sink : Option (List ℕ)) (bytes : List ℕ) → AppendsFront sink sink bytes
nothing_yet sink bytes = (bytes, starts sink bytes)

-- a write takes a front of what is left
pub goes_on : {old mid : Option (List ℕ)} {bytes rest : List ℕ} (new : Option (List ℕ)) (count : ℕ)
    → AppendsUpTo old mid bytes rest → Appends mid new (take count rest) → AppendsUpTo old new bytes (drop count rest)
goes_on {old} {mid} {bytes} {rest} new count so_far more = record {
  front = so_far.front ++ take count rest;
  appended = Appends-trans old mid new _ _ so_far.appended more;
  whole = so_far.whole ∙ ap (λ l. so_far.front ++ l) (sym (take-append-drop count rest)) ∙ sym (append_assoc so_far.front (take count rest) (drop count rest));
}

-- a call that moves nothing leaves a front
pub stops : {old mid : Option (List ℕ)} {bytes rest : List ℕ} (new : Option (List ℕ))
    → AppendsUpTo old mid bytes rest → Keeps mid new → AppendsFront old new bytes
stops {old} {mid} {bytes} {rest} new so_far kept =
    (rest, record { front = so_far.front; appended = Appends-kept old mid new _ so_far.appended kept; whole = so_far.whole })

-- where nothing is left, all is written
pub ends : {old new : Option (List ℕ)} {bytes : List ℕ} → AppendsUpTo old new bytes [] → Appends old new bytes
ends {old} {new} {bytes} so_far = subst (Appends old new) (sym (so_far.whole ∙ append-nil so_far.front)) so_far.appended

-- the next piece is written whole
pub next_whole : (old mid new : Option (List ℕ)) (bytes piece rest : List ℕ) → AppendsUpTo old mid bytes (piece ++ rest) → Appends mid new piece → AppendsUpTo old new bytes rest
next_whole old mid new bytes piece rest so_far more = record {
  front = so_far.front ++ piece;
  appended = Appends-trans old mid new _ _ so_far.appended more;
  whole = so_far.whole ∙ sym (append_assoc so_far.front piece rest);
}

-- a front of the next piece is written
pub next_front : (old mid new : Option (List ℕ)) (bytes piece rest : List ℕ) → AppendsUpTo old mid bytes (piece ++ rest) → AppendsFront mid new piece → AppendsFront old new bytes
next_front old mid new bytes piece rest so_far written =
    let more = written.1 in (
      written.0 ++ rest,
      record {
        front = so_far.front ++ more.front;
        appended = Appends-trans old mid new _ _ so_far.appended more.appended;
        whole =
            so_far.whole
            ∙ ap (λ (p : List ℕ). so_far.front ++ (p ++ rest)) more.whole
            ∙ ap (λ (p : List ℕ). so_far.front ++ p) (append_assoc more.front written.0 rest)
            ∙ sym (append_assoc so_far.front more.front (written.0 ++ rest));
      },
    )

-- some of what is left is written, where more may stand behind it
pub waits_on : (old mid new : Option (List ℕ)) (bytes waiting left rest : List ℕ) → AppendsUpTo old mid bytes (waiting ++ rest) → AppendsUpTo mid new waiting left → AppendsUpTo old new bytes (left ++ rest)
waits_on old mid new bytes waiting left rest so_far more = record {
  front = so_far.front ++ more.front;
  appended = Appends-trans old mid new _ _ so_far.appended more.appended;
  whole =
      so_far.whole
      ∙ ap (λ (w : List ℕ). so_far.front ++ (w ++ rest)) more.whole
      ∙ ap (λ (w : List ℕ). so_far.front ++ w) (append_assoc more.front left rest)
      ∙ sym (append_assoc so_far.front more.front (left ++ rest));
}

-- ---- one piece after another

-- a sink that holds what it held has a front of any piece, the empty one
pub front_of_kept : (old new : Option (List ℕ)) (piece : List ℕ) → Keeps old new → AppendsFront old new piece
front_of_kept old new piece kept = stops new (starts old piece) kept

-- a front of a piece is a front of all that begins with the piece
pub front_of_longer : (old new : Option (List ℕ)) (piece after : List ℕ) → AppendsFront old new piece → AppendsFront old new (piece ++ after)
front_of_longer old new piece after written =
    let so_far = written.1 in (
      written.0 ++ after,
      record {
        front = so_far.front;
        appended = so_far.appended;
        whole = ap (λ l. l ++ after) so_far.whole ∙ append_assoc so_far.front written.0 after;
      },
    )

-- ---- pieces that wait

-- more is put behind what waits
pub put_more : (old mid new : Option (List ℕ)) (bytes waiting more left : List ℕ) → AppendsUpTo old mid bytes waiting → AppendsUpTo mid new (waiting ++ more) left → AppendsUpTo old new (bytes ++ more) left
put_more old mid new bytes waiting more left so_far next = record {
  front = so_far.front ++ next.front;
  appended = Appends-trans old mid new _ _ so_far.appended next.appended;
  whole =
      ap (λ (l : List ℕ). l ++ more) so_far.whole
      ∙ append_assoc so_far.front waiting more
      ∙ ap (λ (l : List ℕ). so_far.front ++ l) next.whole
      ∙ sym (append_assoc so_far.front next.front left);
}

-- a front of it all is written where putting more broke off
pub put_front : (old mid new : Option (List ℕ)) (bytes waiting more : List ℕ) → AppendsUpTo old mid bytes waiting → AppendsFront mid new (waiting ++ more) → AppendsFront old new (bytes ++ more)
put_front old mid new bytes waiting more so_far broken = (broken.0, put_more old mid new bytes waiting more broken.0 so_far broken.1)

-- what waits is written
pub put_whole : (old mid new : Option (List ℕ)) (bytes waiting : List ℕ) → AppendsUpTo old mid bytes waiting → Appends mid new waiting → Appends old new bytes
put_whole old mid new bytes waiting so_far last =
    ends (next_whole old mid new bytes waiting [] (subst (λ (l : List ℕ). AppendsUpTo old mid bytes l) (sym (append-nil waiting)) so_far) last)

-- a front of what waits is written
pub put_partly : (old mid new : Option (List ℕ)) (bytes waiting : List ℕ) → AppendsUpTo old mid bytes waiting → AppendsFront mid new waiting → AppendsFront old new bytes
put_partly old mid new bytes waiting so_far last =
    next_front old mid new bytes waiting [] (subst (λ (l : List ℕ). AppendsUpTo old mid bytes l) (sym (append-nil waiting)) so_far) last
