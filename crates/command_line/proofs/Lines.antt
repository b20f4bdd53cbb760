-- The words in which `clap` finds no fault are the words of a line, and the other way round.
use Rattle.std.proofs.Common.{◌≡◌, refl, sym, ap, ap₂, ◌∙◌, subst, arith, inl, inr, ℕ, Bool, true, false, List, [], ◌∷◌, ◌++◌, map, length, length-append, append-nil, Option, Some, None, codes}
use Rattle.std.specs.Prelude.{⊤}
use Rattle.std.proofs.lemmas.List.{append_assoc}
use Rattle.clap.specs.Walk.{Row, Text, idle}
use Rattle.clap.specs.Faults.{use_fault}
use Rattle.command_line.specs.Command.{Kind, the_command, view_inline, view_block, count, Part, IsLine, IsOption, IsPart, given}
use Rattle.command_line.proofs.Walking.{Once, all, given_append, given_own, once_front, part, pend, row, rule, settled_to, settles, settles_once, uses, uses_once}
use Rattle.command_line.proofs.Looking.{Class, Looks, Name, Says, Seen, ending, named, bad, bare, dashes, inline, block, number, kind_of, looks_ending, looks_named, seen, word}
use Rattle.command_line.proofs.Turns.{at, end_fault, fault_command, fault_end, fault_from, fault_name, fault_value, goes_fault, goes_rows, or_both, or_parts, rows_from, stuck_bad, stuck_end, stuck_ending, stuck_named, turn_bad, turn_command, turn_ending, turn_name, turn_stray, turn_text, turn_value, waits_for}

-- one part more
pub one_more : (us ps : List Part) (q : Part) → (us ++ q ∷ []) ++ ps ≡ us ++ (q ∷ ps)
one_more us ps q = append_assoc us (q ∷ []) ps

-- ---- from no fault to a line

-- the words are a line of parts, which are what is found behind `us` and `p`
abbrev pub Found : List Part → List (List ℕ) → (rows : List Row) → Type 0
Found us words rows = (ps : List Part) × IsLine words ps × (rows ≡ map row (us ++ ps)) × Once (us ++ ps)

abbrev pub Sound : List (List ℕ) → Type 0
Sound words = (us : List Part) (p : Option Part) (placed : Bool) → Once us → fault_from (at us p placed false) words ≡ []
    → Found (all us p) words (rows_from (at us p placed false) words)

-- the same with a value before them
abbrev pub FoundWaiting : List Part → Name → List (List ℕ) → (rows : List Row) → Type 0
FoundWaiting us n words rows = (text : Text) × (rest : List (List ℕ)) × (words ≡ text ∷ rest) × Found (us ++ part (kind_of n) text ∷ []) rest rows

-- the same where an option waits for its value
abbrev pub SoundWaiting : List (List ℕ) → Type 0
SoundWaiting words = (us : List Part) (n : Name) (placed : Bool) → Once us → fault_from (waits_for us n placed) words ≡ []
    → FoundWaiting us n words (rows_from (waits_for us n placed) words)

-- the end, with nothing but `--` before it
found_end : (us : List Part) (p : Option Part) (placed ended : Bool) → Once us → fault_from (at us p placed ended) [] ≡ []
    → (rows_from (at us p placed ended) [] ≡ map row (all us p ++ [])) × Once (all us p ++ [])
found_end us p placed ended once e =
    let later = settles_once us once p (fault_end (at us p placed ended) e) in (
      ap (λ h. h.rows) (settled_to us once p later) ∙ ap (map row) (sym (append-nil (all us p))),
      subst Once (sym (append-nil (all us p))) later,
    )

-- one more part in front
found_more : (us : List Part) (q : Part) (words rest : List (List ℕ)) (rows : List Row)
    → IsPart q.kind q.text words rest → Found (us ++ q ∷ []) rest rows → Found us words rows
found_more us q words rest rows is found = (
  q ∷ found.0,
  inl (rest, is, found.1),
  found.2 ∙ ap (map row) (one_more us found.0 q),
  subst Once (one_more us found.0 q) found.3,
)

moved : (us : List Part) (words : List (List ℕ)) (rows others : List Row) → others ≡ rows → Found us words rows → Found us words others
moved us words rows others e found = (found.0, found.1, e ∙ found.2, found.3)

in_two : (n : Name) (w text : Text) (words rest : List (List ℕ)) → w ≡ word n → words ≡ text ∷ rest → IsPart (kind_of n) text (w ∷ words) rest
in_two inline w text words rest a b = inl (ap₂ (λ v vs. v ∷ vs) a b)
in_two block w text words rest a b = inl (ap₂ (λ v vs. v ∷ vs) a b)
in_two number w text words rest a b = inl (ap₂ (λ v vs. v ∷ vs) a b)

in_one : (n : Name) (w text : Text) (rest : List (List ℕ)) → w ≡ word n ++ codes "=" ++ text → IsPart (kind_of n) text (w ∷ rest) rest
in_one inline w text rest a = inr (ap (λ v. v ∷ rest) a)
in_one block w text rest a = inr (ap (λ v. v ∷ rest) a)
in_one number w text rest a = inr (ap (λ v. v ∷ rest) a)

-- behind `--`
found_ended : (ws : List (List ℕ)) (us : List Part) (p : Option Part) (placed : Bool) → Once us → fault_from (at us p placed true) ws ≡ []
    → (w : Text) → w ≡ dashes → Found (all us p) (w ∷ ws) (rows_from (at us p placed true) ws)
found_ended [] us p placed once e w is =
    let end = found_end us p placed true once e in
    ([], inr (ap (λ v. v ∷ []) is), end.0, end.1)
found_ended (t ∷ ts) us p true once e w is = absurd (turn_stray us p true t true refl ts e)
found_ended (t ∷ ts) us p false once e w is =
    let later = settles_once us once p (fault_command us p t true refl ts e) in
    let goes = turn_command us p false t true once later refl refl in
    rest ts (or_parts _ _ (sym (goes_fault _ _ t _ ts goes) ∙ e)).1 later (goes_rows _ _ t _ ts goes)
  where
    rest : (ts : List (List ℕ)) → fault_from (at (all us p) (Some (part the_command t)) true true) ts ≡ [] → Once (all us p)
        → rows_from (at us p false true) (t ∷ ts) ≡ rows_from (at (all us p) (Some (part the_command t)) true true) ts
        → Found (all us p) (w ∷ t ∷ ts) (rows_from (at us p false true) (t ∷ ts))
    rest [] f later same =
        let end = found_end (all us p) (Some (part the_command t)) true true later f in (
          part the_command t ∷ [],
          inr (ap (λ v. v ∷ t ∷ []) is, refl, refl),
          same ∙ end.0 ∙ ap (map row) (append-nil (all us p ++ part the_command t ∷ [])),
          subst Once (append-nil (all us p ++ part the_command t ∷ [])) end.1,
        )
    rest (x ∷ xs) f later same = absurd (turn_stray (all us p) (Some (part the_command t)) true x true refl xs f)

sound_word : (w : Text) (ws : List (List ℕ)) → Seen w → Sound ws → SoundWaiting ws → Sound (w ∷ ws)
sound_word w ws look sound waiting us p placed once e = go look.0 look.1 look.2 placed e
  where
    go : (c : Class) → Looks c w → Says c w → (placed : Bool) → fault_from (at us p placed false) (w ∷ ws) ≡ [] → Found (all us p) (w ∷ ws) (rows_from (at us p placed false) (w ∷ ws))
    go ending looks says placed e =
        let goes = turn_ending us p placed w looks in
        moved (all us p) (w ∷ ws) _ _ (goes_rows _ _ w _ ws goes) (found_ended ws us p placed once (sym (goes_fault _ _ w _ ws goes) ∙ e) w says)
    go bad looks says placed e = absurd (turn_bad us p placed w looks ws e)
    go (named n None) looks says placed e =
        let later = settles_once us once p (fault_name us p placed w n looks ws e) in
        let goes = turn_name us p placed w n looks once later in
        let behind = waiting (all us p) n placed later (or_parts _ _ (sym (goes_fault _ _ w _ ws goes) ∙ e)).1 in
        found_more (all us p) (part (kind_of n) behind.0) (w ∷ ws) behind.1 _ (in_two n w behind.0 ws behind.1 says behind.2)
        (moved _ behind.1 _ _ (goes_rows _ _ w _ ws goes) behind.3)
    go (named n (Some t)) looks says placed e =
        let faults = or_parts _ _ (fault_value us p placed w t n looks ws e) in
        let later = settles_once us once p faults.0 in
        let settled_rows = ap (λ h. h.rows) (settled_to us once p later) in
        let last = uses_once (all us p) later (part (kind_of n) t) (sym (ap (use_fault false (rule (kind_of n)) (t ∷ [])) settled_rows) ∙ faults.1) in
        let goes = turn_value us p placed w t n looks once later last in
        found_more (all us p) (part (kind_of n) t) (w ∷ ws) ws _ (in_one n w t ws says)
        (moved _ ws _ _ (goes_rows _ _ w _ ws goes) (sound (all us p ++ part (kind_of n) t ∷ []) None placed last (or_parts _ _ (sym (goes_fault _ _ w _ ws goes) ∙ e)).1))
    go bare looks says true e = absurd (turn_stray us p true w false (looks.0 idle 2 (map row us) (pend p)) ws e)
    go bare looks says false e =
        let met = looks.0 idle 1 (map row us) (pend p) in
        let later = settles_once us once p (fault_command us p w false met ws e) in
        let goes = turn_command us p false w false once later met (looks.1 idle (map row us) (pend p)) in
        found_more (all us p) (part the_command w) (w ∷ ws) ws _ refl
        (moved _ ws _ _ (goes_rows _ _ w _ ws goes) (sound (all us p) (Some (part the_command w)) true later (or_parts _ _ (sym (goes_fault _ _ w _ ws goes) ∙ e)).1))

sound_waiting : (w : Text) (ws : List (List ℕ)) → Seen w → Sound ws → SoundWaiting (w ∷ ws)
sound_waiting w ws look sound us n placed once e = go look.0 look.1
  where
    go : (c : Class) → Looks c w → FoundWaiting us n (w ∷ ws) (rows_from (waits_for us n placed) (w ∷ ws))
    go ending looks = absurd (stuck_ending us n placed w looks ws e)
    go bad looks = absurd (stuck_bad us n placed w looks ws e)
    go (named m v) looks = absurd (stuck_named us n placed w m v looks ws e)
    go bare looks =
        let goes = turn_text us n placed w looks in
        (w, ws, refl, moved _ ws _ _ (goes_rows _ _ w _ ws goes) (sound us (Some (part (kind_of n) w)) placed once (sym (goes_fault _ _ w _ ws goes) ∙ e)))

sound_both : (words : List (List ℕ)) → Sound words × SoundWaiting words
sound_both [] = (
  λ us p placed once e. let end = found_end us p placed false once e in ([], inl refl, end.0, end.1),
  λ us n placed once e. absurd (stuck_end us n placed e),
)
sound_both (w ∷ ws) =
    let before = sound_both ws in
    (sound_word w ws (seen w) before.0 before.1, sound_waiting w ws (seen w) before.0)

pub sound : (words : List (List ℕ)) → Sound words
sound words = (sound_both words).0

-- ---- from a line to no fault

-- no text of a part looks like an option
abbrev pub AllBare : List Part → Type 0
AllBare [] = ⊤
AllBare (p ∷ ps) = Looks bare p.text × AllBare ps

abbrev Passes : List Part → List (List ℕ) → List Part → Option Part → (placed ended : Bool) → Type 0
Passes ps words us p placed ended = (fault_from (at us p placed ended) words ≡ []) × (rows_from (at us p placed ended) words ≡ map row (all us p ++ ps))

-- the command stands where none was before it
abbrev HasRoom : Bool → List Part → Type 0
HasRoom placed ps = placed ≡ true → given the_command ps ≡ []

passes_end : (us : List Part) (p : Option Part) (placed ended : Bool) → Once us → Once (all us p ++ []) → Passes [] [] us p placed ended
passes_end us p placed ended once all_once =
    let later : Once (all us p) = subst Once (append-nil (all us p)) all_once in (
      end_fault (at us p placed ended) (settles us once p later),
      ap (λ h. h.rows) (settled_to us once p later) ∙ ap (map row) (sym (append-nil (all us p))),
    )

none_after : (us qs : List Part) (q : Part) → Once (us ++ q ∷ qs) → given q.kind qs ≡ []
none_after us qs q once = go (given q.kind qs) (ap length (given_append q.kind us (q ∷ qs) ∙ ap (λ ts. given q.kind us ++ ts) (given_own q qs)))
  where
    go : (ts : List Text) → length (given q.kind (us ++ q ∷ qs)) ≡ length (given q.kind us ++ q.text ∷ ts) → ts ≡ []
    go [] e = refl
    go (t ∷ ts) e =
        let most = once q.kind in
        let sum = length-append (given q.kind us) (q.text ∷ t ∷ ts) in
        absurd (omega (arith, e, most, sum))

looks_name : (n : Name) → Looks (named n None) (word n)
looks_name inline = looks_named (word inline) refl inline None refl
looks_name block = looks_named (word block) refl block None refl
looks_name number = looks_named (word number) refl number None refl

looks_pair : (n : Name) (t : Text) → Looks (named n (Some t)) (word n ++ codes "=" ++ t)
looks_pair inline t = looks_named (word inline ++ codes "=" ++ t) refl inline (Some t) refl
looks_pair block t = looks_named (word block ++ codes "=" ++ t) refl block (Some t) refl
looks_pair number t = looks_named (word number ++ codes "=" ++ t) refl number (Some t) refl

abbrev pub Complete : List Part → Type 0
Complete ps = (words : List (List ℕ)) (us : List Part) (p : Option Part) (placed : Bool) → IsLine words ps → AllBare ps → Once us
    → Once (all us p ++ ps) → HasRoom placed ps → Passes ps words us p placed false

-- a part in front
module _ (qs : List Part) (before : Complete qs) (rest : List (List ℕ)) (us : List Part) (p : Option Part) (line : IsLine rest qs) (bares : AllBare qs) (once : Once us) where
  command_case : (t : Text) (words : List (List ℕ)) (placed : Bool) → words ≡ t ∷ rest → Looks bare t → Once (all us p ++ part the_command t ∷ qs)
      → HasRoom placed (part the_command t ∷ qs) → Passes (part the_command t ∷ qs) words us p placed false
  command_case t words true is looks all_once room =
      let none : t ∷ given the_command qs ≡ [] = room refl in
      absurd (cc)
  command_case t words false is looks all_once room =
      let later = once_front (all us p) (part the_command t ∷ qs) all_once in
      let goes = turn_command us p false t false once later (looks.0 idle 1 (map row us) (pend p)) (looks.1 idle (map row us) (pend p)) in
      let behind = before rest (all us p) (Some (part the_command t)) true line bares later (subst Once (sym (one_more (all us p) qs (part the_command t))) all_once)
      (λ _. none_after (all us p) qs (part the_command t) all_once) in
      subst (λ ws. Passes (part the_command t ∷ qs) ws us p false false) (sym is) (
        goes_fault _ _ t _ rest goes ∙ or_both _ _ (settles us once p later) behind.0,
        goes_rows _ _ t _ rest goes ∙ behind.1 ∙ ap (map row) (one_more (all us p) qs (part the_command t)),
      )

  no_command : (n : Name) (t : Text) (placed : Bool) → HasRoom placed (part (kind_of n) t ∷ qs) → HasRoom placed qs
  no_command inline t placed room = room
  no_command block t placed room = room
  no_command number t placed room = room

  option_case : (n : Name) (t : Text) (words : List (List ℕ)) (placed : Bool) → IsOption (word n) t words rest → Looks bare t → Once (all us p ++ part (kind_of n) t ∷ qs)
      → HasRoom placed (part (kind_of n) t ∷ qs) → Passes (part (kind_of n) t ∷ qs) words us p placed false
  option_case n t words placed (inl is) looks all_once room =
      let later = once_front (all us p) (part (kind_of n) t ∷ qs) all_once in
      let first = turn_name us p placed (word n) n (looks_name n) once later in
      let second = turn_text (all us p) n placed t looks in
      let behind = before rest (all us p) (Some (part (kind_of n) t)) placed line bares later (subst Once (sym (one_more (all us p) qs (part (kind_of n) t))) all_once) (no_command n t placed room) in
      subst (λ ws. Passes (part (kind_of n) t ∷ qs) ws us p placed false) (sym is) (
        goes_fault _ _ (word n) _ (t ∷ rest) first ∙ or_both _ _ (or_both _ _ (settles us once p later) refl) (goes_fault _ _ t _ rest second ∙ behind.0),
        goes_rows _ _ (word n) _ (t ∷ rest) first ∙ goes_rows _ _ t _ rest second ∙ behind.1 ∙ ap (map row) (one_more (all us p) qs (part (kind_of n) t)),
      )
  option_case n t words placed (inr is) looks all_once room =
      let later = once_front (all us p) (part (kind_of n) t ∷ qs) all_once in
      let more = subst Once (sym (one_more (all us p) qs (part (kind_of n) t))) all_once in
      let last = once_front (all us p ++ part (kind_of n) t ∷ []) qs more in
      let goes = turn_value us p placed (word n ++ codes "=" ++ t) t n (looks_pair n t) once later last in
      let settled_rows = ap (λ h. h.rows) (settled_to us once p later) in
      let new = ap (use_fault false (rule (kind_of n)) (t ∷ [])) settled_rows ∙ uses (all us p) later (part (kind_of n) t) last in
      let behind = before rest (all us p ++ part (kind_of n) t ∷ []) None placed line bares last more (no_command n t placed room) in
      subst (λ ws. Passes (part (kind_of n) t ∷ qs) ws us p placed false) (sym is) (
        goes_fault _ _ (word n ++ codes "=" ++ t) _ rest goes ∙ or_both _ _ (or_both _ _ (or_both _ _ (settles us once p later) new) refl) behind.0,
        goes_rows _ _ (word n ++ codes "=" ++ t) _ rest goes ∙ behind.1 ∙ ap (map row) (one_more (all us p) qs (part (kind_of n) t)),
      )

  part_case : (k : Kind) (t : Text) (words : List (List ℕ)) (placed : Bool) → IsPart k t words rest → Looks bare t → Once (all us p ++ part k t ∷ qs)
      → HasRoom placed (part k t ∷ qs) → Passes (part k t ∷ qs) words us p placed false
  part_case the_command t words placed is looks all_once room = command_case t words placed is looks all_once room
  part_case view_inline t words placed is looks all_once room = option_case inline t words placed is looks all_once room
  part_case view_block t words placed is looks all_once room = option_case block t words placed is looks all_once room
  part_case count t words placed is looks all_once room = option_case number t words placed is looks all_once room

-- the command behind `--`
last_case : (t : Text) (us : List Part) (p : Option Part) (placed : Bool) → Once us → Once (all us p ++ part the_command t ∷ [])
    → HasRoom placed (part the_command t ∷ []) → Passes (part the_command t ∷ []) (dashes ∷ t ∷ []) us p placed false
last_case t us p true once all_once room =
    let none : t ∷ [] ≡ [] = room refl in
    absurd (cc)
last_case t us p false once all_once room =
    let later = once_front (all us p) (part the_command t ∷ []) all_once in
    let first = turn_ending us p false dashes looks_ending in
    let second = turn_command us p false t true once later refl refl in
    let end = passes_end (all us p) (Some (part the_command t)) true true later (subst Once (sym (append-nil (all us p ++ part the_command t ∷ []))) all_once) in (
      goes_fault _ _ dashes _ (t ∷ []) first ∙ or_both _ _ refl (goes_fault _ _ t _ [] second ∙ or_both _ _ (settles us once p later) end.0),
      goes_rows _ _ dashes _ (t ∷ []) first ∙ goes_rows _ _ t _ [] second ∙ end.1 ∙ ap (map row) (append-nil (all us p ++ part the_command t ∷ [])),
    )

pub complete : (ps : List Part) → Complete ps
complete [] words us p placed (inl is) bares once all_once room =
    subst (λ ws. Passes [] ws us p placed false) (sym is) (passes_end us p placed false once all_once)
complete [] words us p placed (inr is) bares once all_once room =
    let goes = turn_ending us p placed dashes looks_ending in
    let end = passes_end us p placed true once all_once in
    subst (λ ws. Passes [] ws us p placed false) (sym is) (
      goes_fault _ _ dashes _ [] goes ∙ or_both _ _ refl end.0,
      goes_rows _ _ dashes _ [] goes ∙ end.1,
    )
complete (q ∷ qs) words us p placed (inl is) bares once all_once room =
    part_case qs (complete qs) is.0 us p is.2 bares.1 once q.kind q.text words placed is.1 bares.0 all_once room
complete (q ∷ qs) words us p placed (inr is) bares once all_once room =
    let same : q ∷ qs ≡ part the_command q.text ∷ [] = ap₂ (λ k rest. part k q.text ∷ rest) is.1 is.2 in
    subst (λ ws. Passes (q ∷ qs) ws us p placed false) (sym is.0)
    (subst (λ ps. Passes ps (dashes ∷ q.text ∷ []) us p placed false) (sym same)
    (last_case q.text us p placed once (subst (λ ps. Once (all us p ++ ps)) same all_once) (subst (HasRoom placed) same room)))
