-- One line after the other.
use Rattle.std.proofs.Common.{◌≡◌, ◌∙◌, refl, sym, ap, arith, List, [], ◌∷◌, ◌++◌, append_assoc, ℕ, zero, suc, ◌+◌, ◌-◌, ◌≤◌, ◌<◌, ℤ, length, drop}
use Rattle.std.proofs.lemmas.List.{drop_more, drop_all}
use Rattle.line_fill.specs.declared.item.FillItem.{FillItem}
use Rattle.line_fill.specs.Filling.{lines, lines_by, line_end, Divide}

-- the items of a line are passed over
covers : (ending : ℕ → ℕ) (place covered : ℕ) (items : List FillItem) → lines_by ending place covered items ≡ lines_by ending (place + covered) 0 (drop covered items)
covers ending place zero items = ap (λ n. lines_by ending n 0 items) (omega arith)
covers ending place (suc covered) [] = refl
covers ending place (suc covered) (item ∷ items) = covers ending (place + 1) covered items ∙ ap (λ n. lines_by ending n 0 (drop covered items)) (omega arith)

drop_drop : (n m : ℕ) (items : List FillItem) → drop m (drop n items) ≡ drop (n + m) items
drop_drop zero m items =
    let e : m ≡ zero + m = omega arith in
    ap (λ k. drop k items) e
drop_drop (suc n) m [] = drop_all m nothing (omega arith) ∙ sym (drop_all (suc n + m) nothing (omega arith)) where
  nothing : List FillItem
  nothing = []
drop_drop (suc n) m (item ∷ items) =
    let e : suc (n + m) ≡ suc n + m = omega arith in
    drop_drop n m items ∙ ap (λ k. drop k (item ∷ items)) e

-- one line, and those behind it
lines_more : (ending : ℕ → ℕ) (items : List FillItem) (from : ℕ) (d : FillItem) → from < length items → from < ending from
    → lines_by ending from 0 (drop from items) ≡ ending from ∷ lines_by ending (ending from) 0 (drop (ending from) items)
lines_more ending items from d inside later =
    let more = drop_more items from d inside in
    let e : from + 1 + (ending from - (from + 1)) ≡ ending from = omega arith in
    ap (lines_by ending from 0) more ∙ ap (λ rest. ending from ∷ rest)
    (covers ending (from + 1) (ending from - (from + 1)) (drop (from + 1) items)
    ∙ (ap (lines_by ending (from + 1 + (ending from - (from + 1))) 0) (drop_drop (from + 1) (ending from - (from + 1)) items)
    ∙ ap (λ n. lines_by ending n 0 (drop n items)) e))

divide_more : (a b c : ℕ) (ends : List ℕ) → Divide a b ends → b < c → Divide a c (ends ++ c ∷ [])
divide_more a b c [] e later = (rw e later, refl)
divide_more a b c (end ∷ ends) divide later = (divide.0, divide_more end b c ends divide.1 later)

-- the loop has filled the lines up to a place
pub record Filled (available : ℤ) (items : List FillItem) (ends : List ℕ) (from : ℕ) : Type 0 where
  pub within : from ≤ length items
  pub lines : ends ++ lines_by (line_end available items) from 0 (drop from items) ≡ lines available items
  pub divide : Divide 0 from ends

pub filled_first : (available : ℤ) (items : List FillItem) → Filled available items [] 0
filled_first available items = record { within = omega arith; lines = refl; divide = refl }

pub filled_on : (available : ℤ) (items : List FillItem) (ends more : List ℕ) (from end : ℕ) (d : FillItem) → from < length items → end ≡ line_end available items from → from < end → end ≤ length items
    → more ≡ ends ++ end ∷ [] → Filled available items ends from → Filled available items more end
filled_on available items ends more from end d inside is later within pushed filled =
    let m = lines_more (line_end available items) items from d inside (rw is at later) in
    rw pushed (record {
      within = within;
      lines = append_assoc ends (end ∷ []) (lines_by (line_end available items) end 0 (drop end items))
          ∙ (ap (λ n. ends ++ n ∷ lines_by (line_end available items) n 0 (drop n items)) is ∙ (ap (λ rest. ends ++ rest) (sym m) ∙ filled.lines));
      divide = divide_more 0 from end ends filled.divide later;
    })
