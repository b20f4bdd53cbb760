-- Members of lists.
use Rattle.std.proofs.Common.{◌≡◌, inl, inr, Bool, true, false, List, [], ◌∷◌, ap, ◌∙◌, subst}
use Rattle.std.specs.Prelude.{cond, filter}
use Rattle.std.specs.List.{Contains}
use Rattle.std.proofs.lemmas.List.Elements.{All-contains, All-filter, All-contains_itself, filter_passes}
use Rattle.basic_laws.proofs.Lists.{contains_cases, contains_first, contains_none, contains_other}

-- ---- of those that are kept

pub kept_passes : {X : Type 0} (keeps : X → Bool) (list : List X) (x : X) → Contains (filter keeps list) x → keeps x ≡ true
kept_passes {X} keeps list x at = All-contains (λ (y : X). keeps y ≡ true) (filter keeps list) x (filter_passes keeps list) at

pub kept_was : {X : Type 0} (keeps : X → Bool) (list : List X) (x : X) → Contains (filter keeps list) x → Contains list x
kept_was {X} keeps list x at = All-contains (Contains list) (filter keeps list) x (All-filter keeps (Contains list) list (All-contains_itself list)) at

first_is_kept : {X : Type 0} (kept : Bool) (x : X) (others : List X) → kept ≡ true → Contains (cond kept (x ∷ others) others) x
first_is_kept true x others is = contains_first x others
first_is_kept false x others is = absurd cc

others_stay : {X : Type 0} (kept : Bool) (x y : X) (others : List X) → Contains others y → Contains (cond kept (x ∷ others) others) y
others_stay true x y others at = contains_other x y others at
others_stay false x y others at = at

pub passing_is_kept : {X : Type 0} (keeps : X → Bool) (list : List X) (x : X) → keeps x ≡ true → Contains list x → Contains (filter keeps list) x
passing_is_kept keeps [] x passes at = absurd (contains_none x at)
passing_is_kept {X} keeps (y ∷ others) x passes at = elim (contains_cases y x others at) [
  | inl here ↦ subst (λ (z : X). Contains (filter keeps (y ∷ others)) z) here (first_is_kept (keeps y) y (filter keeps others) (ap keeps here ∙ passes))
  | inr there ↦ others_stay (keeps y) y x (filter keeps others) (passing_is_kept keeps others x passes there)
]

-- ---- lists that have the same members

abbrev pub HaveSame : {X : Type 0} → (one other : List X) → Type 0
HaveSame {X} one other = (x : X) → (Contains one x → Contains other x) × (Contains other x → Contains one x)

pub same_kept : {X : Type 0} (keeps : X → Bool) (one other : List X) → HaveSame one other → HaveSame (filter keeps one) (filter keeps other)
same_kept keeps one other same x = (
  λ at. passing_is_kept keeps other x (kept_passes keeps one x at) ((same x).0 (kept_was keeps one x at)),
  λ at. passing_is_kept keeps one x (kept_passes keeps other x at) ((same x).1 (kept_was keeps other x at)),
)
