-- Stacks, taken apart at the children that aren't collapsed through.
use Rattle.std.proofs.Common.{◌≡◌, ◌∙◌, refl, ap, arith, ◌⊎◌, inl, inr, Bool, true, false, ◌&&◌, cond, List, [], ◌∷◌, ◌++◌, append_assoc, append-nil, ℤ, pos, ◌+ℤ◌, length}
use Rattle.std.specs.Prelude.{fold, slice_index_or}
use Rattle.std.specs.List.{list_all}
use Rattle.std.specs.Int.{int_max}
use Rattle.std.proofs.lemmas.Int.{ints, clamps}
use Rattle.std.proofs.lemmas.List.Sums.{fold-append}
use Rattle.block_flow.specs.Children.{Child}
use Rattle.block_flow.specs.Stacking.{Progress, begin, margins_of, place_in, joined_margins, adjoin, after, stacked, places_from}
use Rattle.block_flow.specs.Laws.{AllThrough, all_margins, before_first, behind_last, StandByAdjoining, AdjoinOutside, EndByAdjoining, HasFirst, HasLast, AreTakenApart}

both_true : (a b : Bool) → a && b ≡ true → (a ≡ true) × (b ≡ true)
both_true true b e = (refl, e)
both_true false b e = absurd (cc)

adjoin_none : (s : Progress) → s ≡ adjoin s []
adjoin_none s = go s.joined refl where
  go : (j : Bool) → s.joined ≡ j → s ≡ adjoin s []
  go true e = rw (append-nil s.pending, append-nil s.start_margins, e) refl
  go false e = rw (append-nil s.pending, e) refl

adjoin_twice : (s : Progress) (a b : List ℤ) → adjoin (adjoin s a) b ≡ adjoin s (a ++ b)
adjoin_twice s a b = go s.joined refl where
  go : (j : Bool) → s.joined ≡ j → adjoin (adjoin s a) b ≡ adjoin s (a ++ b)
  go true e = rw (e, append_assoc s.pending a b, append_assoc s.start_margins a b) refl
  go false e = rw (e, append_assoc s.pending a b) refl

-- all margins of children that are collapsed through adjoin those that are pending
pub thin_run : (thin : List Child) (s : Progress) → AllThrough thin → fold after s thin ≡ adjoin s (all_margins thin)
thin_run [] s t = adjoin_none s
thin_run (c ∷ cs) s t =
    let both = both_true c.through (list_all (λ d. d.through) cs) t in
    let one : after s c ≡ adjoin s (margins_of c) = rw both.0 refl in
    rw one (thin_run cs (adjoin s (margins_of c)) both.1 ∙ adjoin_twice s (margins_of c) (all_margins cs))

-- behind a child that isn't collapsed through, with such children behind it
abbrev stopped : Progress → Child → List Child → Progress
stopped s last thin = record {
  y = place_in s last +ℤ last.size;
  pending = behind_last last thin;
  joined = false;
  start_margins = joined_margins s last.start_margins;
}

pub last_run : (before : List Child) (last : Child) (thin : List Child) (s : Progress) → last.through ≡ false → AllThrough thin
    → fold after s (before ++ last ∷ thin) ≡ stopped (fold after s before) last thin
last_run before last thin s solid t =
    fold-append after s before (last ∷ thin) ∙ thin_run thin (after (fold after s before) last) t ∙ rw solid refl

one_stays : (s : Progress) (c : Child) → s.joined ≡ false → ((after s c).joined ≡ false) × ((after s c).start_margins ≡ s.start_margins)
one_stays s c e = go c.through refl where
  go : (b : Bool) → c.through ≡ b → ((after s c).joined ≡ false) × ((after s c).start_margins ≡ s.start_margins)
  go true t = (rw t e, rw (t, e) refl)
  go false t = (rw t refl, rw (t, e) refl)

-- once such a child has come, the margins at the container's start stay
pub start_stays : (cs : List Child) (s : Progress) → s.joined ≡ false → (fold after s cs).start_margins ≡ s.start_margins
start_stays [] s e = refl
start_stays (c ∷ cs) s e = let one = one_stays s c e in start_stays cs (after s c) one.0 ∙ one.1

pub placed_at : (before : List Child) (s : Progress) (child : Child) (others : List Child) → slice_index_or (places_from s (before ++ child ∷ others)) (length before) (pos 0) ≡ place_in (fold after s before) child
placed_at [] s child others = refl
placed_at (c ∷ cs) s child others = placed_at cs (after s c) child others

pub stand_by_adjoining : StandByAdjoining
stand_by_adjoining = record {
  joined = λ thin child others t. placed_at thin (begin true) child others ∙ rw (thin_run thin (begin true) t) refl;
  apart = λ thin child others t. placed_at thin (begin false) child others ∙ rw (thin_run thin (begin false) t) (omega (arith, ints));
  behind = λ joins before last thin child others solid t.
      placed_at (before ++ last ∷ thin) (begin joins) child others
      ∙ rw (last_run before last thin (begin joins) solid t, placed_at before (begin joins) last (thin ++ child ∷ others)) refl;
}

pub adjoin_outside : AdjoinOutside
adjoin_outside = record {
  start = λ thin child others t solid. start_is thin child others t solid;
  start_through = λ thin t. rw (thin_run thin (begin true) t) refl;
  start_apart = λ children. start_stays children (begin false) refl;
  end_ = λ joins before last thin solid t. rw (last_run before last thin (begin joins) solid t) refl;
  end_through = λ joins thin t. rw (thin_run thin (begin joins) t) refl;
  end_apart = λ joins children. refl;
} where
  start_is : (thin : List Child) (child : Child) (others : List Child) → AllThrough thin → child.through ≡ false → (stacked true (thin ++ child ∷ others)).start_margins ≡ before_first thin child
  start_is thin child others t solid =
      rw fold-append (start_stays others (after (fold after (begin true) thin) child) (rw solid refl) ∙ rw solid (rw (thin_run thin (begin true) t) refl))

pub end_by_adjoining : EndByAdjoining
end_by_adjoining = record {
  handed_on = λ joins before last thin solid t. rw (last_run before last thin (begin joins) solid t, placed_at before (begin joins) last thin) refl;
  kept = λ joins before last thin solid t. rw (last_run before last thin (begin joins) solid t, placed_at before (begin joins) last thin) refl;
  through_joined = λ ends thin t. rw (thin_run thin (begin true) t) (nothing ends);
  through_handed_on = λ thin t. rw (thin_run thin (begin false) t) refl;
  through_kept = λ thin t. rw (thin_run thin (begin false) t) (omega (arith, ints, clamps));
} where
  nothing : (b : Bool) → int_max (pos 0) (cond b (pos 0) (pos 0)) ≡ pos 0
  nothing true = refl
  nothing false = refl

pub first_apart : (children : List Child) → AllThrough children ⊎ HasFirst children
first_apart [] = inl refl
first_apart (c ∷ cs) = go c.through refl (first_apart cs) where
  go : (b : Bool) → c.through ≡ b → AllThrough cs ⊎ HasFirst cs → AllThrough (c ∷ cs) ⊎ HasFirst (c ∷ cs)
  go false e rest = inr (record { thin = []; first = c; others = cs; are = refl; not_through = e; through = refl })
  go true e (inl t) = inl (rw (e, t) refl)
  go true e (inr f) = inr (record { thin = c ∷ f.thin; first = f.first; others = f.others; are = ap (λ l. c ∷ l) f.are; not_through = f.not_through; through = rw e f.through })

pub last_apart : (children : List Child) → AllThrough children ⊎ HasLast children
last_apart [] = inl refl
last_apart (c ∷ cs) = go c.through refl (last_apart cs) where
  go : (b : Bool) → c.through ≡ b → AllThrough cs ⊎ HasLast cs → AllThrough (c ∷ cs) ⊎ HasLast (c ∷ cs)
  go true e (inl t) = inl (rw (e, t) refl)
  go false e (inl t) = inr (record { before = []; last = c; thin = cs; are = refl; not_through = e; through = t })
  go b e (inr f) = inr (record { before = c ∷ f.before; last = f.last; thin = f.thin; are = ap (λ l. c ∷ l) f.are; not_through = f.not_through; through = f.through })

pub taken_apart : AreTakenApart
taken_apart = record { first = first_apart; last = last_apart }
