use Rattle.std.proofs.Common.{◌≡◌, ℕ, ◌||◌, List, bytes_eq, drop, map}
use Rattle.std.specs.BTreeSet.{contains_text}
use Rattle.std.specs.String.{string_bytes}
use Rattle.cascade.specs.Matching.{some, has_class}
use Rattle.cascade.proofs.class_sets.ClassSet.of.Given as goal

abbrev pub invariant-loop-class : goal.invariant-loop-class
invariant-loop-class l = (class : List ℕ) → (contains_text l.all class || some (bytes_eq class) (map (λ c. string_bytes c) (drop l.class-index l.classes))) ≡ has_class (map (λ c. string_bytes c) l.classes) class
