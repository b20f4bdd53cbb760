use Rattle.std.proofs.Common.{◌≡◌, ℕ, ◌+◌, ◌<◌, List, [], ◌++◌, length, min, take, drop, ap, sym, ◌∙◌, arith, take-append-drop, drop-drop}
use Rattle.std.proofs.lemmas.List.{drop_all}
use Rattle.io_edge.specs.Memory.{InMemory}
use Rattle.io_edge.proofs.memory.MemorySourceSource.read.Goals as goal

-- what goes to the buffer is the front of what was left, and it is nothing only where nothing was left
gives : (rest bytes buf : List ℕ) (taken count most : ℕ) → rest ≡ drop taken bytes → take count buf ≡ take count rest
    → count ≡ min most (min (length buf) (length rest)) → 0 < most
    → (rest ≡ take count buf ++ drop (taken + count) bytes) × (count ≡ 0 → 0 < length buf → drop (taken + count) bytes ≡ [])
gives rest bytes buf taken count most left copied moved some =
    let after : drop count rest ≡ drop (taken + count) bytes = ap (drop count) left ∙ drop-drop count taken bytes in (
      sym (take-append-drop count rest) ∙ ap (λ l. l ++ drop count rest) (sym copied) ∙ ap (λ l. take count buf ++ l) after,
      λ none room. sym after ∙ drop_all count rest (omega arith),
    )

pub returns-clause-bytes : goal.returns-clause-bytes
returns-clause-bytes c =
    let bytes = c.self.inside.bytes.items in
    let left : c.split_at.result.1.now ≡ drop c.self.inside.taken bytes = cc in
    let before : c.args.self.now.bytes ≡ drop c.self.inside.taken bytes = ap (λ (s : InMemory). s.bytes) (sym c.self.view_is) in
    let count = c.copy_front-count in
    let given = gives _ bytes count.new.to c.self.inside.taken count.result c.self.inside.most left count.ensures.bytes (rw count.ensures.room count.ensures.count) c.self.invariant.1 in
    (before ∙ sym left ∙ given.0, given.1)
