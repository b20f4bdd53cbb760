-- From a write of what is kept for a box to what the call does.
use Rattle.std.proofs.Common.{◌≡◌, ◌∙◌, ◌≢◌, ℕ, Bool, true, false, cond, [], ◌∷◌, Option, Some, None, option_map, IsSome, refl, sym, ap, subst, inl, inr}
use Rattle.std.specs.Prelude.{if◌then◌else◌}
use Rattle.std.proofs.lemmas.Bool.{cases_eq}
use Rattle.std.proofs.lemmas.Option.{none-some}
use Rattle.slab.specs.Slab.{Slab, get, ContainsKey, with_value}
use Rattle.slab.proofs.SlabLemmas.{Updates-with_value}
use Rattle.fragment_types.specs.declared.constraint.Constraint.{Constraint}
use Rattle.fragment_types.specs.Fragment.{Pieces, piece_of}
use Rattle.box_arena.specs.declared.entry.Entry.{Entry}
use Rattle.box_arena.specs.declared.entry.Held.{Held}
use Rattle.box_arena.specs.At.{IsSound, links_at, mark_at, held_at, node_of, kept_at, marked_at}
use Rattle.box_arena.specs.Arena.{LosesText, PutsResults}
use Rattle.box_arena.specs.Marks.{is_marked, is_seen}
use Rattle.box_arena.specs.Results.{Results, result_for}
use Rattle.box_arena.specs.Write.{ReplacesResults, TakesResults, WritesHeld}
use Rattle.box_arena.proofs.CallLemmas.{kept_in, node_in, puts_same, sound_moved, text_in}
use Rattle.box_arena.proofs.Climbs.{lives_on}
use Rattle.box_arena.proofs.Sizes.{sizes_tied}
use Rattle.box_arena.proofs.Writes.{field_stays, same_room}

-- where a box that isn't marked has results, one is kept
first_kept : (results : Results) → results ≢ [] → ((c : Constraint) → option_map piece_of (result_for results c) ≡ None) → ⊥
first_kept [] some absent = some refl
first_kept (((a, b), fragment) ∷ others) some absent =
    none-some (piece_of fragment)
    (sym (absent (record { inline = a; block = b })) ∙ ap (λ (is : Bool). option_map piece_of (cond is (Some fragment) (result_for others (record { inline = a; block = b })))) (sizes_tied a b))

module _ {T : Type 0} where
  -- a text that is taken
  pub loses_text : (old new : Slab (Entry T)) (key : ℕ) (held : Held T) → held_at old.slots key ≡ Some held → WritesHeld old new key (record held { text = None }) → LosesText old new key
  loses_text old new key held is writes = record {
    put = record {
      here = ap text_in writes.held.here;
      elsewhere = λ k apart. ap text_in (writes.held.others k apart);
      nodes = puts_same node_in (held_at old.slots) (held_at new.slots) key held (record held { text = None }) is writes.held refl;
      links = writes.links;
      live = lives_on old new writes.links;
      room = writes.room;
    };
    marks = λ k. ap is_marked (writes.marks k);
    kept = λ k c.
        ap (λ m. kept_in c m (held_at new.slots k)) (ap is_marked (writes.marks k))
        ∙ puts_same (kept_in c (marked_at old.slots k)) (held_at old.slots) (held_at new.slots) key held (record held { text = None }) is writes.held refl k;
  }

  -- what is kept of an entry
  abbrev kept_of : Constraint → Option (Entry T) → Option Pieces
  kept_of c o = kept_in c (is_marked (option_map (λ entry. entry.mark) o)) (option_map (λ entry. entry.held) o)

  -- an entry whose box, text and links stay
  module _ (old : Slab (Entry T)) (key : ℕ) (entry put : Entry T) (was : get old key ≡ Some entry) (links : put.links ≡ entry.links) (node : put.held.node ≡ entry.held.node) (text : put.held.text ≡ entry.held.text) where
    abbrev after : Slab (Entry T)
    after = with_value old key put

    live : ContainsKey old key
    live = let P : Option (Entry T) → Type 0 = λ o. IsSome o in subst P (sym was) refl

    here : get after key ≡ Some put
    here = (Updates-with_value old key put live).changed

    elsewhere : (k : ℕ) → k ≢ key → get after k ≡ get old k
    elsewhere = (Updates-with_value old key put live).others

    same_part : {Y : Type 0} (f : Option (Held T) → Y) → f (Some put.held) ≡ f (Some entry.held) → (k : ℕ) → f (held_at after.slots k) ≡ f (held_at old.slots k)
    same_part f same k = elim (cases_eq k key) [
      | inl at ↦
          ap (λ j. f (held_at after.slots j)) at ∙ ap (λ (o : Option (Entry T)). f (option_map (λ entry. entry.held) o)) here ∙ same
          ∙ sym (ap (λ (o : Option (Entry T)). f (option_map (λ entry. entry.held) o)) was) ∙ ap (λ j. f (held_at old.slots j)) (sym at)
      | inr apart ↦ ap (λ (o : Option (Entry T)). f (option_map (λ entry. entry.held) o)) (elsewhere k apart)
    ]

    same_links : (k : ℕ) → links_at after.slots k ≡ links_at old.slots k
    same_links = field_stays (λ entry. entry.links) old key entry put was links

    pub puts_results : (results : Constraint → Option Pieces) → ((c : Constraint) → kept_of c (Some put) ≡ results c) → PutsResults old after key results
    puts_results results gives = record {
      here = λ c. ap (kept_of c) here ∙ gives c;
      elsewhere = λ k apart c. ap (kept_of c) (elsewhere k apart);
      nodes = same_part node_in (ap (λ n. Some (node_of n)) node);
      texts = same_part text_in text;
      links = same_links;
      live = lives_on old after same_links;
      room = same_room old key entry put was;
    }

    pub sound_put : put.mark.seen ≡ entry.mark.seen → IsSound old.slots → IsSound after.slots
    sound_put same sound = sound_moved old.slots after.slots same_links (λ k. seen k) sound
      where
        seen : (k : ℕ) → is_seen (mark_at after.slots k) ≡ is_seen (mark_at old.slots k)
        seen k = elim (cases_eq k key) [
          | inl at ↦
              ap (λ j. is_seen (mark_at after.slots j)) at ∙ ap (λ (o : Option (Entry T)). is_seen (option_map (λ entry. entry.mark) o)) here ∙ same
              ∙ sym (ap (λ (o : Option (Entry T)). is_seen (option_map (λ entry. entry.mark) o)) was) ∙ ap (λ j. is_seen (mark_at old.slots j)) (sym at)
          | inr apart ↦ ap (λ (o : Option (Entry T)). is_seen (option_map (λ entry. entry.mark) o)) (elsewhere k apart)
        ]

  nothing_there : (c : Constraint) (marked : Bool) (held : Held T) → kept_in c marked (Some (record held { results = [] })) ≡ None
  nothing_there c true held = refl
  nothing_there c false held = refl

  -- what is kept goes
  pub gives_results : (old new : Slab (Entry T)) (key : ℕ) (taken : Results) → TakesResults old new key taken → PutsResults old new key (λ c. None)
  gives_results old new key taken takes =
      let P : Slab (Entry T) → Type 0 = λ s. PutsResults old s key (λ c. None) in
      subst P (sym takes.is) (puts_results old key takes.entry (record takes.entry { held = record takes.entry.held { results = [] } }) takes.was refl refl refl (λ c. None) (λ c. nothing_there c takes.entry.mark.marked takes.entry.held))

  pub sound_given : (old new : Slab (Entry T)) (key : ℕ) (taken : Results) → TakesResults old new key taken → IsSound old.slots → IsSound new.slots
  sound_given old new key taken takes sound =
      let P : Slab (Entry T) → Type 0 = λ s. IsSound s.slots in
      subst P (sym takes.is) (sound_put old key takes.entry (record takes.entry { held = record takes.entry.held { results = [] } }) takes.was refl refl refl refl sound)

  -- what is taken is what was kept
  taken_is : (c : Constraint) (entry : Entry T) → option_map piece_of (result_for (if entry.mark.marked then [] else entry.held.results) c) ≡ kept_of c (Some entry)
  taken_is c entry = by_mark entry.mark.marked
    where
      by_mark : (m : Bool) → option_map piece_of (result_for (if m then [] else entry.held.results) c) ≡ kept_in c m (Some entry.held)
      by_mark true = refl
      by_mark false = refl

  pub kept_is_taken : (old new : Slab (Entry T)) (key : ℕ) (taken : Results) → TakesResults old new key taken → (c : Constraint) → option_map piece_of (result_for taken c) ≡ kept_at old.slots key c
  kept_is_taken old new key taken takes c =
      ap (λ results. option_map piece_of (result_for results c)) takes.gives ∙ taken_is c takes.entry ∙ sym (ap (kept_of c) takes.was)

  -- and put elsewhere
  pub replaces_results : (old new : Slab (Entry T)) (key : ℕ) (results : Results) → ReplacesResults old new key results → PutsResults old new key (λ c. option_map piece_of (result_for results c))
  replaces_results old new key results puts =
      let P : Slab (Entry T) → Type 0 = λ s. PutsResults old s key (λ c. option_map piece_of (result_for results c)) in
      subst P (sym puts.is)
      (puts_results old key puts.entry (record puts.entry { mark = record puts.entry.mark { marked = false }; held = record puts.entry.held { results = results } }) puts.was refl refl refl (λ c. option_map piece_of (result_for results c)) (λ c. refl))

  pub sound_replaced : (old new : Slab (Entry T)) (key : ℕ) (results : Results) → ReplacesResults old new key results → IsSound old.slots → IsSound new.slots
  sound_replaced old new key results puts sound =
      let P : Slab (Entry T) → Type 0 = λ s. IsSound s.slots in
      subst P (sym puts.is) (sound_put old key puts.entry (record puts.entry { mark = record puts.entry.mark { marked = false }; held = record puts.entry.held { results = results } }) puts.was refl refl refl refl sound)

  pub some_kept : (boxes : Slab (Entry T)) (key : ℕ) (entry : Entry T) → get boxes key ≡ Some entry → entry.mark.marked ≡ false → entry.held.results ≢ [] → ((c : Constraint) → kept_at boxes.slots key c ≡ None) → ⊥
  some_kept boxes key entry is fresh some absent =
      first_kept entry.held.results some (λ c. sym (ap (λ m. kept_in c m (Some entry.held)) fresh) ∙ sym (ap (kept_of c) is) ∙ absent c)
