-- A sequence that is read by its links.
use Rattle.std.proofs.Common.{◌≡◌, ◌∙◌, sym, refl, ap, subst, ℕ, ◌<◌, List, [], ◌∷◌, ◌++◌, append_assoc, append-nil, length, Some, None}
use Rattle.bidi_explicit.specs.declared.links.Link.{Link}
use Rattle.bidi_explicit.specs.Sequences.{last_of}
use Rattle.bidi_explicit.specs.Links.{next_at, Follows, HasChain}

module _ (links : List Link) where
  -- the links lead through one list of places
  pub one_way : (xs ys : List ℕ) (p : ℕ) → Follows links p xs → Follows links p ys → xs ≡ ys
  one_way [] [] p f g = refl
  one_way [] (y ∷ ys) p f g = let bad : None ≡ Some y = sym f.1 ∙ g.1 in absurd (cc)
  one_way (x ∷ xs) [] p f g = let bad : None ≡ Some x = sym g.1 ∙ f.1 in absurd (cc)
  one_way (x ∷ xs) (y ∷ ys) p f g =
      let same : Some x ≡ Some y = sym f.1 ∙ g.1 in
      let e : x ≡ y = cc in
      let P : ℕ → Type 0 = λ q. Follows links q xs in
      rw e (ap (λ l. y ∷ l) (one_way xs ys y (subst P e f.3) g.3))

  pub last_within : (xs : List ℕ) (p : ℕ) → Follows links p xs → last_of p xs < length links
  last_within [] p f = f.0
  last_within (x ∷ xs) p f = last_within xs x f.3

  -- the places so far, of which `now` is the last one, behind those that were there before
  pub record Reading (front : List ℕ) (first now : ℕ) (out : List ℕ) : Type 0 where
    pub whole : List ℕ
    pub chain : Follows links first whole
    pub rest : List ℕ
    pub follows : Follows links now rest
    pub joined : out ++ rest ≡ front ++ first ∷ whole
    pub last : last_of now rest ≡ last_of first whole

  pub begins_reading : (front : List ℕ) (first : ℕ) → HasChain links first → Reading front first first (front ++ first ∷ [])
  begins_reading front first h = record { whole = h.places; chain = h.follows; rest = h.places; follows = h.follows; joined = append_assoc front (first ∷ []) h.places; last = refl }

  pub reads_within : (front : List ℕ) (first last : ℕ) (out : List ℕ) → Reading front first last out → last < length links
  reads_within front first last out r = go r.rest r.follows
    where
      go : (rest : List ℕ) → Follows links last rest → last < length links
      go [] f = f.0
      go (q ∷ rest) f = f.0

  pub record Goes (front : List ℕ) (first last next : ℕ) (out : List ℕ) : Type 0 where
    pub reading : Reading front first next (out ++ next ∷ [])
    pub rises : last < next

  pub reads_on : (front : List ℕ) (first last next : ℕ) (out : List ℕ) → Reading front first last out → next_at links last ≡ Some next → Goes front first last next out
  reads_on front first last next out r e = go r.rest r.follows r.joined r.last
    where
      go : (rest : List ℕ) → Follows links last rest → out ++ rest ≡ front ++ first ∷ r.whole → last_of last rest ≡ last_of first r.whole → Goes front first last next out
      go [] f j l = let bad : Some next ≡ None = sym e ∙ f.1 in absurd (cc)
      go (q ∷ rest) f j l =
          let same : Some q ≡ Some next = sym f.1 ∙ e in
          let is : q ≡ next = cc in
          let P : ℕ → Type 0 = λ p. Follows links p rest in
          let Q : ℕ → Type 0 = λ p. last < p in
          record {
            reading = record {
              whole = r.whole;
              chain = r.chain;
              rest = rest;
              follows = subst P is f.3;
              joined = append_assoc out (next ∷ []) rest ∙ ap (λ p. out ++ p ∷ rest) (sym is) ∙ j;
              last = ap (λ p. last_of p rest) (sym is) ∙ l;
            };
            rises = subst Q is f.2;
          }

  pub record IsRead (front : List ℕ) (first now : ℕ) (out chain : List ℕ) : Type 0 where
    pub places : out ≡ front ++ first ∷ chain
    pub last : now ≡ last_of first chain

  pub ends_reading : (front : List ℕ) (first last : ℕ) (out : List ℕ) → Reading front first last out → next_at links last ≡ None → (places : List ℕ) → Follows links first places → IsRead front first last out places
  ends_reading front first last out r e places f = go r.rest r.follows r.joined r.last (one_way r.whole places first r.chain f)
    where
      go : (rest : List ℕ) → Follows links last rest → out ++ rest ≡ front ++ first ∷ r.whole → last_of last rest ≡ last_of first r.whole → r.whole ≡ places → IsRead front first last out places
      go [] g j l w = record { places = sym (append-nil out) ∙ j ∙ ap (λ l. front ++ first ∷ l) w; last = l ∙ ap (λ l. last_of first l) w }
      go (q ∷ rest) g j l w = let bad : None ≡ Some q = sym e ∙ g.1 in absurd (cc)
