use Rattle.std.proofs.Common.{◌≡◌, ◌∙◌, ◌+◌, ◌<◌, ◌^◌, ◌++◌, IfSome, List, [], ◌∷◌, append_assoc, drop, get_or, map, option_map, Some, ap, arith, subst, sym}
use Rattle.std.specs.Global.{Vec}
use Rattle.std.specs.List.{slice_get}
use Rattle.std.proofs.lemmas.List.{append-nil, drop_all, get_or-map, length-map, map_push}
use Rattle.std.proofs.lemmas.Option.{slice_get-map}
use Rattle.css_types.specs.declared.value.Declaration.{Declaration}
use Rattle.html_read.specs.declared.node.ReadNode.{ReadNode}
use Rattle.html_read.specs.Values.{Node, kind_of, node_of, nodes_of}
use Rattle.dom_store.specs.declared.exact.Numbered.{Numbered}
use Rattle.dom_store.specs.Edits.{parent_under, under}
use Rattle.dom_store.specs.Exact.{NumberedOf, numbered_as}
use Rattle.dom_store.specs.Opening.{what_of}
use Rattle.dom_store.specs.State as state
use Rattle.dom_store.specs.Steps.{numbered_from}
use Rattle.dom_store.proofs.InsertLaws.{number_fits}
use Rattle.dom_store.proofs.Places.{read_at}
use Rattle.dom_store.proofs.StepLaws.{none_numbered, numbered_more}
use Rattle.dom_store.proofs.document.Document.numbered_new.Goals as goal

pub parent_under-requires : goal.parent_under-requires
parent_under-requires c =
    subst (λ (r : ReadNode). IfSome r.parent (λ p. c.args.self.now.next + p < 2 ^ 32)) (sym c.index-nodes-place.is)
    (number_fits c.args.nodes.now c.loop-place.place c.args.self.now.next c.index-nodes-place.result c.requires.follow (omega (arith, c.loop-place-test.true)) c.requires.room)

pub loop-place-preserved : goal.loop-place-preserved
loop-place-preserved c =
    let first = c.args.self.now.next in
    let place = c.loop-place.place in
    let read = c.index-nodes-place.result in
    let placed = under c.args.parent first (nodes_of c.args.nodes.now) in
    let owns = λ (own : Vec Declaration). own.items in
    let own = map owns c.args.styles.now in
    let comes : Node → Node = λ node. record { parent = Some (parent_under c.args.parent first node.parent); kind = node.kind } in
    let here = read_at c.args.nodes.now place read c.loop-place-test.true c.index-nodes-place.is in
    let there : slice_get placed place ≡ Some (comes (node_of read)) = slice_get-map comes (nodes_of c.args.nodes.now) place ∙ ap (option_map comes) here in
    let its_own : get_or own place [] ≡ c.index-styles-place.result.items =
    get_or-map owns c.args.styles.now place c.index-styles-place.result [] (omega (arith, c.requires.styles, c.loop-place-test.true)) ∙ ap owns (sym c.index-styles-place.is) in
    let before = map numbered_as c.loop-place.numbered.items in
    let later = numbered_from (first + (place + 1)) (drop (place + 1) placed) (drop (place + 1) own) in
    let its : NumberedOf = record { number = first + place; parent = c.parent_under.result; what = state.what_of c.in_ok-kind.kind } in
    let what_is : state.what_of c.in_ok-kind.kind ≡ what_of (kind_of read.kind) (get_or own place []) = c.in_ok-kind.ensures ∙ ap (what_of (kind_of read.kind)) (c.deref.ensures.value ∙ sym its_own) in
    let same : its ≡ record { number = first + place; parent = parent_under c.args.parent first read.parent; what = what_of (kind_of read.kind) (get_or own place []) } =
    λ k. record { number = first + place; parent = c.parent_under.ensures k; what = what_is k } in
    ap (λ (l : List Numbered). map numbered_as l ++ later) c.in_ok-push.ensures.items
    ∙ (ap (λ (l : List NumberedOf). l ++ later) (map_push numbered_as c.loop-place.numbered.items _)
    ∙ (append_assoc before (its ∷ []) later
    ∙ (ap (λ (l : List NumberedOf). before ++ l) (ap (λ (n : NumberedOf). n ∷ later) same ∙ sym (numbered_more first place placed own (comes (node_of read)) there)) ∙ c.loop-place.invariant)))

pub returns : goal.returns
returns c =
    let first = c.args.self.now.next in
    let place = c.loop-place.place in
    let placed = under c.args.parent first (nodes_of c.args.nodes.now) in
    let own = map (λ (own : Vec Declaration). own.items) c.args.styles.now in
    let before = map numbered_as c.loop-place.numbered.items in
    let comes : Node → Node = λ node. record { parent = Some (parent_under c.args.parent first node.parent); kind = node.kind } in
    let all : drop place placed ≡ [] = drop_all place placed (omega (arith, c.loop-place-test.false, length-map (nodes_of c.args.nodes.now) comes, length-map c.args.nodes.now node_of)) in
    sym (append-nil before)
    ∙ (ap (λ (l : List NumberedOf). before ++ l) (sym (none_numbered (first + place) (drop place own)) ∙ ap (λ (l : List Node). numbered_from (first + place) l (drop place own)) (sym all)) ∙ c.loop-place.invariant)
