-- Nodes with their numbers, one by one.
use Rattle.std.proofs.Common.{◌≡◌, ◌∙◌, ℕ, ◌+◌, ◌<◌, ◌++◌, List, [], ◌∷◌, drop, get_or, get_or-drop, length, take, refl, ap, sym, arith, Some}
use Rattle.std.specs.Prelude.{filter_map, unwrap_or}
use Rattle.std.specs.List.{slice_get}
use Rattle.std.proofs.lemmas.List.{drop-drop, take_more}
use Rattle.std.proofs.lemmas.List.Elements.{filter_map-append}
use Rattle.css_types.specs.declared.value.Declaration.{Declaration}
use Rattle.html_read.specs.Values.{Node}
use Rattle.dom_store.specs.State.{State}
use Rattle.dom_store.specs.Exact.{NumberedOf}
use Rattle.dom_store.specs.Opening.{what_of}
use Rattle.dom_store.specs.Steps.{numbered_from, numbered_of}
use Rattle.dom_store.proofs.Places.{drop_at}

-- inserted nodes from a place on begin with the one there
pub numbered_more : (first place : ℕ) (placed : List Node) (own : List (List Declaration)) (node : Node) → slice_get placed place ≡ Some node
    → numbered_from (first + place) (drop place placed) (drop place own)
    ≡ record { number = first + place; parent = unwrap_or node.parent 0; what = what_of node.kind (get_or own place []) } ∷ numbered_from (first + (place + 1)) (drop (place + 1) placed) (drop (place + 1) own)
unfolding numbered_from
numbered_more first place placed own node is =
    let first_own : get_or (drop place own) 0 [] ≡ get_or own place [] = get_or-drop place own 0 [] ∙ ap (λ (n : ℕ). get_or own n []) (omega arith) in
    let its : List Declaration → NumberedOf = λ d. record { number = first + place; parent = unwrap_or node.parent 0; what = what_of node.kind d } in
    let later = drop (place + 1) placed in
    let onward : first + place + 1 ≡ first + (place + 1) = omega arith in
    ap (λ (l : List Node). numbered_from (first + place) l (drop place own)) (drop_at placed place node is)
    ∙ (ap (λ (d : List Declaration). its d ∷ numbered_from (first + place + 1) later (drop 1 (drop place own))) first_own
    ∙ (ap (λ (n : ℕ). its (get_or own place []) ∷ numbered_from n later (drop 1 (drop place own))) onward
    ∙ ap (λ (o : List (List Declaration)). its (get_or own place []) ∷ numbered_from (first + (place + 1)) later o) (drop-drop 1 place own)))

pub none_numbered : (number : ℕ) (own : List (List Declaration)) → numbered_from number [] own ≡ []
unfolding numbered_from
none_numbered number own = refl

-- one more of a list
pub next_numbered : (state : State) (numbers : List ℕ) (at : ℕ) → at < length numbers
    → filter_map (numbered_of state) (take at numbers) ++ filter_map (numbered_of state) (get_or numbers at 0 ∷ []) ≡ filter_map (numbered_of state) (take (at + 1) numbers)
next_numbered state numbers at within = sym (ap (filter_map (numbered_of state)) (take_more numbers at 0 within) ∙ filter_map-append (numbered_of state) (take at numbers) (get_or numbers at 0 ∷ []))
