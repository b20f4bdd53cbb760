-- The numbers of a document, and the keys under which their nodes lie.
use Rattle.std.specs.Prelude.{◌≡◌, ℕ, zero, suc, ◌+◌, ◌<◌, Option, Some, None, IsSome}
use Rattle.dom_store.specs.declared.node.Node as code_node

-- Each number has a key of its own, under which a node lies, and is below the next number.
pub record IsKeyed (key_of : ℕ → Option ℕ) (node_under : ℕ → Option code_node.Node) (next : ℕ) : Type 0 where
  pub live : (number key : ℕ) → key_of number ≡ Some key → IsSome (node_under key)
  pub apart : (one other key : ℕ) → key_of one ≡ Some key → key_of other ≡ Some key → one ≡ other
  pub below : (number key : ℕ) → key_of number ≡ Some key → number < next

abbrev pub one_if : {X : Type 0} → Option X → ℕ
one_if None = 0
one_if (Some value) = 1

-- how many numbers below this one have something
unfoldable pub count_below : {X : Type 0} → (ℕ → Option X) → (number : ℕ) → ℕ
count_below at zero = 0
count_below at (suc number) = count_below at number + one_if (at number)
