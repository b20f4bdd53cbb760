-- What is kept in an arena stays right.
use Rattle.std.proofs.Common.{◌≡◌, ◌∙◌, ◌≢◌, ◌⊎◌, ℕ, Bool, true, false, Option, Some, None, ℤ, refl, sym, ap, ap₂, subst, inl, inr}
use Rattle.std.specs.Prelude.{option_and_then, if◌then◌else◌}
use Rattle.std.specs.Bool.{Decides}
use Rattle.std.specs.Ordering.{int_eq}
use Rattle.std.proofs.lemmas.Bool.{cases_eq}
use Rattle.std.proofs.lemmas.Bool.Decides.{Decides-int_eq}
use Rattle.std.proofs.lemmas.Option.{none-some, same_Some}
use Rattle.fragment_types.specs.declared.constraint.Constraint.{Constraint}
use Rattle.style_types.specs.declared.style.Style.{Style}
use Rattle.fragment_types.specs.Fragment.{Pieces}
use Rattle.box_gen.specs.Tree.{Boxes, box, none}
use Rattle.box_arena.specs.Arena.{SameLinks, SameNodes}
use Rattle.box_arena.specs.At.{IsAbove, Node, Slots, kept_at, marked_at, node_at, parent_at, result_at, text_at}
use Rattle.box_arena.specs.Boxes.{Stands}
use Rattle.box_arena.specs.Links.{parent_of}
use Rattle.box_arena.proofs.Handovers.{stood}
use Rattle.box_arena.proofs.Survival.{survive_attach, survive_detach, survive_restyle}
use Rattle.para_prepare.specs.Preparation.{Preparation}
use Rattle.relayout.specs.declared.sizes.Containing.{Containing}
use Rattle.relayout.specs.Inline.{Outside}
use Rattle.relayout.specs.Kept.{HasRightResults, HasRightText, IsResultAt, IsResultOf, IsTextAt, SameContaining, containing_by}
use Rattle.relayout.specs.Laws.{AttachedIsRight, BareIsRight, DetachedIsRight, DroppedIsRight, ForgottenIsRight, KeptIsRight, KeptTextIsRight, MarkedIsRight, RestyledAlikeIsRight, RestyledIsRight}

-- ---- where links and nodes stay

module _ (old new : Slots Preparation) (links : SameLinks old new) (nodes : SameNodes old new) where
  same_parent : (parent : Option ℕ) → option_and_then (node_at new) parent ≡ option_and_then (node_at old) parent
  same_parent None = refl
  same_parent (Some p) = nodes p

  pub same_containing : (k : ℕ) → SameContaining old new k
  same_containing k style =
      ap (λ (parent : Option ℕ). containing_by (option_and_then (node_at new) parent) style) (ap parent_of (links k))
      ∙ ap (λ (node : Option Node). containing_by node style) (same_parent (parent_at old k))

-- ---- one result, one text

-- what the box comes to, where the same trees stand
pub result_stays : (outside : Outside) (old new : Slots Preparation) (k : ℕ) (c : Constraint) (result : Pieces) → ((tree : Boxes) → Stands new k tree → Stands old k tree) → SameContaining old new k
    → IsResultAt outside old k c result → IsResultAt outside new k c result
result_stays outside old new k c result back same is name style content inner stands =
    let P : Containing → Type 0 = λ containing. IsResultOf outside containing name style content inner c result in
    subst P (sym (same style)) (is name style content inner (back (box name style content inner none) stands))

none_kept : (slots : Slots Preparation) (k : ℕ) (c : Constraint) → marked_at slots k ≡ true → kept_at slots k c ≡ None
none_kept slots k c is = ap (λ (marked : Bool). if marked then None else result_at slots k c) is

-- results at a box that is either marked or as it was
results_stay : (outside : Outside) (old new : Slots Preparation) (k : ℕ) (Marked : Type 0) → (Marked → marked_at new k ≡ true)
    → ((Marked → ⊥) → (tree : Boxes) → Stands new k tree → Stands old k tree) → ((Marked → ⊥) → (c : Constraint) → kept_at new k c ≡ kept_at old k c)
    → ((Marked → ⊥) → HasRightResults outside old k) → SameContaining old new k → HasRightResults outside new k
results_stay outside old new k Marked marked back kept was same c result is =
    let free : Marked → ⊥ = λ m. none-some result (sym (none_kept new k c (marked m)) ∙ is) in
    result_stays outside old new k c result (back free) same (was free c result (sym (kept free c) ∙ is))

text_stays : (outside : Outside) (old new : Slots Preparation) (k : ℕ) → text_at new k ≡ text_at old k → node_at new k ≡ node_at old k → HasRightText outside old k → HasRightText outside new k
text_stays outside old new k text node was t is n at = was t (sym text ∙ is) n (sym node ∙ at)

no_text : (outside : Outside) (slots : Slots Preparation) (k : ℕ) → text_at slots k ≡ None → HasRightText outside slots k
no_text outside slots k gone t is = absurd (none-some t (sym gone ∙ is))

-- ---- nothing is kept

pub bare_is_right : BareIsRight
bare_is_right outside slots bare key =
    record { results = λ c result is. absurd (none-some result (sym (bare.kept key c) ∙ is)); text = no_text outside slots key (bare.texts key) }

pub forgotten_is_right : ForgottenIsRight
forgotten_is_right outside old new forgets = bare_is_right outside new.slots (record { kept = forgets.kept; texts = forgets.texts })

-- ---- results and texts are kept

size_cases : (one other : Option ℤ) → (one ≡ other) ⊎ (one ≢ other)
size_cases None None = inl refl
size_cases None (Some y) = inr (none-some y)
size_cases (Some x) None = inr (λ is. none-some x (sym is))
size_cases (Some x) (Some y) = by (int_eq x y) (Decides-int_eq x y) where
  by : (test : Bool) → Decides test (x ≡ y) → (Some x ≡ Some y) ⊎ (Some x ≢ Some y)
  by true tells = inl (ap Some (tells.0 refl))
  by false tells = inr (λ is. let p : false ≡ true = tells.1 (same_Some x y is) in absurd (cc))

abbrev the : Option ℤ → Option ℤ → Constraint
the inline block = record { inline = inline; block = block }

pub constraint_cases : (one other : Constraint) → (one ≡ other) ⊎ (one ≢ other)
constraint_cases one other = elim (size_cases one.inline other.inline) [
  | inl inline ↦ elim (size_cases one.block other.block) [
    | inl block ↦ inl (ap₂ the inline block)
    | inr apart ↦ inr (λ is. apart (ap (λ (c : Constraint). c.block) is))
  ]
  | inr apart ↦ inr (λ is. apart (ap (λ (c : Constraint). c.inline) is))
]

pub kept_is_right : KeptIsRight
kept_is_right outside old new key c result right is keeps k = record { results = results; text = text_stays outside old.slots new.slots k (keeps.texts k) (keeps.nodes k) (right k).text } where
  moves : (j : ℕ) (d : Constraint) (r : Pieces) → IsResultAt outside old.slots j d r → IsResultAt outside new.slots j d r
  moves j d r = result_stays outside old.slots new.slots j d r (stood old.slots new.slots keeps.links keeps.nodes j) (same_containing old.slots new.slots keeps.links keeps.nodes j)

  here : (d : Constraint) (r : Pieces) → kept_at new.slots key d ≡ Some r → IsResultAt outside new.slots key d r
  here d r at = elim (constraint_cases d c) [
    | inl same ↦
        let again : kept_at new.slots key d ≡ Some result = ap (kept_at new.slots key) same ∙ keeps.here in
        let one : result ≡ r = same_Some result r (sym again ∙ at) in
        let P : Constraint → Type 0 = λ e. IsResultAt outside new.slots key e r in
        let Q : Pieces → Type 0 = λ p. IsResultAt outside new.slots key c p in
        subst P (sym same) (subst Q one (moves key c result is))
    | inr apart ↦ moves key d r ((right key).results d r (sym (keeps.beside d apart) ∙ at))
  ]

  results : HasRightResults outside new.slots k
  results d r at = elim (cases_eq k key) [
    | inl same ↦
        let P : ℕ → Type 0 = λ j. kept_at new.slots j d ≡ Some r in
        let Q : ℕ → Type 0 = λ j. IsResultAt outside new.slots j d r in
        subst Q (sym same) (here d r (subst P same at))
    | inr apart ↦ moves k d r ((right k).results d r (sym (keeps.elsewhere k apart d) ∙ at))
  ]

pub kept_text_is_right : KeptTextIsRight
kept_text_is_right outside old new key text right is keeps k = record { results = results; text = texts } where
  results : HasRightResults outside new.slots k
  results c r at =
      result_stays outside old.slots new.slots k c r (stood old.slots new.slots keeps.put.links keeps.put.nodes k) (same_containing old.slots new.slots keeps.put.links keeps.put.nodes k)
      ((right k).results c r (sym (keeps.kept k c) ∙ at))

  here : HasRightText outside new.slots key
  here t at node there =
      let one : text ≡ t = same_Some text t (sym keeps.put.here ∙ at) in
      let P : Preparation → Type 0 = λ p. IsTextAt outside new.slots key p in
      subst P one (λ n its. is n (sym (keeps.put.nodes key) ∙ its)) node there

  texts : HasRightText outside new.slots k
  texts = elim (cases_eq k key) [
    | inl same ↦ let P : ℕ → Type 0 = λ j. HasRightText outside new.slots j in subst P (sym same) here
    | inr apart ↦ text_stays outside old.slots new.slots k (keeps.put.elsewhere k apart) (keeps.put.nodes k) (right k).text
  ]

-- ---- boxes are marked

pub marked_is_right : MarkedIsRight
marked_is_right outside old new key marks k results text = record {
  results = results_stay outside old.slots new.slots k (IsAbove old.slots k key) (marks.marked.above k) (λ free. stood old.slots new.slots marks.links marks.nodes k) (marks.kept k) results (same_containing old.slots new.slots marks.links marks.nodes k);
  text = text_stays outside old.slots new.slots k (marks.texts k) (marks.nodes k) text;
}

pub dropped_is_right : DroppedIsRight
dropped_is_right outside old new key right drops k = record { results = results; text = texts } where
  results : HasRightResults outside new.slots k
  results = results_stay outside old.slots new.slots k (IsAbove old.slots k key) (drops.marked.above k) (λ free. stood old.slots new.slots drops.put.links drops.put.nodes k) (drops.kept k)
      (λ free. (right k).results) (same_containing old.slots new.slots drops.put.links drops.put.nodes k)

  texts : HasRightText outside new.slots k
  texts = elim (cases_eq k key) [
    | inl same ↦ let P : ℕ → Type 0 = λ j. HasRightText outside new.slots j in subst P (sym same) (no_text outside new.slots key drops.put.here)
    | inr apart ↦ text_stays outside old.slots new.slots k (drops.put.elsewhere k apart) (drops.put.nodes k) (right k).text
  ]

-- ---- boxes are put anew, attached and detached

pub restyled_is_right : RestyledIsRight
restyled_is_right outside old new key node linked right restyles k = (texts, results) where
  results : SameContaining old.slots new.slots k → HasRightResults outside new.slots k
  results same = results_stay outside old.slots new.slots k (IsAbove old.slots k key) (restyles.marked.above k) (λ free. (survive_restyle old new key node linked restyles k free).back) (restyles.kept k)
      (λ free. (right k).results) same

  texts : HasRightText outside new.slots k
  texts = elim (cases_eq k key) [
    | inl at ↦ let P : ℕ → Type 0 = λ j. HasRightText outside new.slots j in subst P (sym at) (no_text outside new.slots key restyles.text)
    | inr apart ↦ text_stays outside old.slots new.slots k (restyles.texts k apart) (restyles.elsewhere k apart) (right k).text
  ]

pub restyled_alike_is_right : RestyledAlikeIsRight
restyled_alike_is_right outside old new key was node linked right here alike restyles k = record { results = all.1 same; text = all.0 } where
  all : HasRightText outside new.slots k × (SameContaining old.slots new.slots k → HasRightResults outside new.slots k)
  all = restyled_is_right outside old new key node linked right restyles k

  by : (parent : Option ℕ) (style : Style) → containing_by (option_and_then (node_at new.slots) parent) style ≡ containing_by (option_and_then (node_at old.slots) parent) style
  by None style = refl
  by (Some p) style = elim (cases_eq p key) [
    | inl is ↦
        let P : ℕ → Type 0 = λ j. containing_by (node_at new.slots j) style ≡ containing_by (node_at old.slots j) style in
        subst P (sym is) (ap (λ (n : Option Node). containing_by n style) restyles.here ∙ alike ∙ ap (λ (n : Option Node). containing_by n style) (sym here))
    | inr apart ↦ ap (λ (n : Option Node). containing_by n style) (restyles.elsewhere p apart)
  ]

  same : SameContaining old.slots new.slots k
  same style =
      ap (λ (parent : Option ℕ). containing_by (option_and_then (node_at new.slots) parent) style) (ap parent_of (restyles.links k))
      ∙ by (parent_at old.slots k) style

pub attached_is_right : AttachedIsRight
attached_is_right outside old new parent before child linked right attaches k = (
  text_stays outside old.slots new.slots k (attaches.texts k) (attaches.nodes k) (right k).text,
  λ same. results_stay outside old.slots new.slots k (IsAbove old.slots k parent) (attaches.marked.above k) (λ free. (survive_attach old new parent before child linked attaches k free).back) (attaches.kept k) (λ free. (right k).results) same,
)

pub detached_is_right : DetachedIsRight
detached_is_right outside old new parent key linked right detaches k = (
  text_stays outside old.slots new.slots k (detaches.texts k) (detaches.nodes k) (right k).text,
  λ same. results_stay outside old.slots new.slots k (IsAbove old.slots k parent) (detaches.marked.above k) (λ free. (survive_detach old new parent key linked detaches k free).back) (detaches.kept k) (λ free. (right k).results) same,
)
