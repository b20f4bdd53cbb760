use Rattle.std.proofs.Common.{◌≡◌, arith, inl, inr}
use Rattle.std.proofs.lemmas.Int.{ints}
use Rattle.wm_modes.specs.Map.{along_line, from_other_end, map_of}
use Rattle.wm_modes.specs.declared.mode.WritingMode.TheVariants.{HorizontalTb, VerticalRl, VerticalLr, SidewaysRl, SidewaysLr}
use Rattle.wm_modes.proofs.MapLaws.{rect_is, along_line_same}
use Rattle.wm_modes.proofs.map.to_physical.Goals as goal

-- Each row: the calls' clauses over the plain numbers, then the four equations of the rectangle.

pub returns-in-HorizontalTb : goal.returns-in-HorizontalTb
returns-in-HorizontalTb c =
    let left : c.along_line.result ≡ along_line c.args.dir c.args.area.w c.args.r.i c.args.r.inline
    = along_line_same c.args.dir _ _ _ _ _ _ _ c.along_line.ensures.value (omega (arith, ints)) (omega (arith, ints)) (omega (arith, ints)) in
    rw c.in-HorizontalTb.is (rect_is _ _ _ _ (map_of HorizontalTb c.args.dir c.args.area c.args.r) (omega (arith, ints)) (omega (arith, ints)) (omega (arith, ints)) (omega (arith, ints)))

pub returns-in-VerticalRl : goal.returns-in-VerticalRl
returns-in-VerticalRl c =
    let left : c.along_line-in-VerticalRl.result ≡ along_line c.args.dir c.args.area.h c.args.r.i c.args.r.inline
    = along_line_same c.args.dir _ _ _ _ _ _ _ c.along_line-in-VerticalRl.ensures.value (omega (arith, ints)) (omega (arith, ints)) (omega (arith, ints)) in
    let from_left : c.from_other_end.result ≡ from_other_end c.args.area.w c.args.r.b c.args.r.block
    = omega (arith, ints) in
    elim c.in-VerticalRl.is [ inl is ↦ rw is (rect_is _ _ _ _ (map_of VerticalRl c.args.dir c.args.area c.args.r) (omega (arith, ints)) (omega (arith, ints)) (omega (arith, ints)) (omega (arith, ints))) | inr is ↦ rw is (rect_is _ _ _ _ (map_of SidewaysRl c.args.dir c.args.area c.args.r) (omega (arith, ints)) (omega (arith, ints)) (omega (arith, ints)) (omega (arith, ints))) ]

pub returns-in-VerticalLr : goal.returns-in-VerticalLr
returns-in-VerticalLr c =
    let left : c.along_line-in-VerticalLr.result ≡ along_line c.args.dir c.args.area.h c.args.r.i c.args.r.inline
    = along_line_same c.args.dir _ _ _ _ _ _ _ c.along_line-in-VerticalLr.ensures.value (omega (arith, ints)) (omega (arith, ints)) (omega (arith, ints)) in
    rw c.in-VerticalLr.is (rect_is _ _ _ _ (map_of VerticalLr c.args.dir c.args.area c.args.r) (omega (arith, ints)) (omega (arith, ints)) (omega (arith, ints)) (omega (arith, ints)))

pub returns-in-SidewaysLr : goal.returns-in-SidewaysLr
returns-in-SidewaysLr c =
    let left : c.along_line-left.result ≡ along_line c.args.dir c.args.area.h c.args.r.i c.args.r.inline
    = along_line_same c.args.dir _ _ _ _ _ _ _ c.along_line-left.ensures.value (omega (arith, ints)) (omega (arith, ints)) (omega (arith, ints)) in
    let top : c.from_other_end-top.result ≡ from_other_end c.args.area.h (along_line c.args.dir c.args.area.h c.args.r.i c.args.r.inline) c.args.r.inline
    = omega (arith, ints) in
    rw c.in-SidewaysLr.is (rect_is _ _ _ _ (map_of SidewaysLr c.args.dir c.args.area c.args.r) (omega (arith, ints)) (omega (arith, ints)) (omega (arith, ints)) (omega (arith, ints)))
