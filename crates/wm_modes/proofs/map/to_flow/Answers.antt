use Rattle.std.proofs.Common.{◌≡◌, ◌≤◌, ◌*◌, ◌^◌, unsigned_abs, ◌-ℤ◌, arith, inl, inr}
use Rattle.std.proofs.lemmas.Int.{ints}
use Rattle.wm_modes.specs.Map.{along_line, from_other_end, unmap_of}
use Rattle.wm_modes.specs.declared.mode.WritingMode.TheVariants.{HorizontalTb, VerticalRl, VerticalLr, SidewaysRl, SidewaysLr}
use Rattle.wm_modes.proofs.MapLaws.{flow_is, along_line_same, end_is_near}
use Rattle.wm_modes.proofs.map.to_flow.Goals as goal

-- Each row: the calls' clauses over the plain numbers, then the four equations of the flow rectangle.

pub along_line-requires-in-SidewaysLr-clause-start : goal.along_line-requires-in-SidewaysLr-clause-start
along_line-requires-in-SidewaysLr-clause-start c =
    let left : c.from_other_end-left.result ≡ from_other_end c.args.area.h (c.args.r.y -ℤ c.args.area.y) c.args.r.h
    = omega (arith, ints) in
    let near : unsigned_abs c.from_other_end-left.result ≤ 4 * 2 ^ 60
    = rw left (end_is_near c.args.area.h c.args.area.y c.args.r.y c.args.r.h c.requires.area.h c.requires.area.y c.requires.rect.y c.requires.rect.h) in
    omega (arith, ints)

pub returns-in-HorizontalTb : goal.returns-in-HorizontalTb
returns-in-HorizontalTb c =
    let start : c.along_line.result ≡ along_line c.args.dir c.args.area.w (c.args.r.x -ℤ c.args.area.x) c.args.r.w
    = along_line_same c.args.dir _ _ _ _ _ _ _ c.along_line.ensures.value (omega (arith, ints)) (omega (arith, ints)) (omega (arith, ints)) in
    rw c.in-HorizontalTb.is (flow_is _ _ _ _ (unmap_of HorizontalTb c.args.dir c.args.area c.args.r) (omega (arith, ints)) (omega (arith, ints)) (omega (arith, ints)) (omega (arith, ints)))

pub returns-in-VerticalRl : goal.returns-in-VerticalRl
returns-in-VerticalRl c =
    let start : c.along_line-in-VerticalRl.result ≡ along_line c.args.dir c.args.area.h (c.args.r.y -ℤ c.args.area.y) c.args.r.h
    = along_line_same c.args.dir _ _ _ _ _ _ _ c.along_line-in-VerticalRl.ensures.value (omega (arith, ints)) (omega (arith, ints)) (omega (arith, ints)) in
    let end : c.from_other_end.result ≡ from_other_end c.args.area.w (c.args.r.x -ℤ c.args.area.x) c.args.r.w
    = omega (arith, ints) in
    elim c.in-VerticalRl.is [ inl is ↦ rw is (flow_is _ _ _ _ (unmap_of VerticalRl c.args.dir c.args.area c.args.r) (omega (arith, ints)) (omega (arith, ints)) (omega (arith, ints)) (omega (arith, ints))) | inr is ↦ rw is (flow_is _ _ _ _ (unmap_of SidewaysRl c.args.dir c.args.area c.args.r) (omega (arith, ints)) (omega (arith, ints)) (omega (arith, ints)) (omega (arith, ints))) ]

pub returns-in-VerticalLr : goal.returns-in-VerticalLr
returns-in-VerticalLr c =
    let start : c.along_line-in-VerticalLr.result ≡ along_line c.args.dir c.args.area.h (c.args.r.y -ℤ c.args.area.y) c.args.r.h
    = along_line_same c.args.dir _ _ _ _ _ _ _ c.along_line-in-VerticalLr.ensures.value (omega (arith, ints)) (omega (arith, ints)) (omega (arith, ints)) in
    rw c.in-VerticalLr.is (flow_is _ _ _ _ (unmap_of VerticalLr c.args.dir c.args.area c.args.r) (omega (arith, ints)) (omega (arith, ints)) (omega (arith, ints)) (omega (arith, ints)))

pub returns-in-SidewaysLr : goal.returns-in-SidewaysLr
returns-in-SidewaysLr c =
    let left : c.from_other_end-left.result ≡ from_other_end c.args.area.h (c.args.r.y -ℤ c.args.area.y) c.args.r.h
    = omega (arith, ints) in
    let start : c.along_line-in-SidewaysLr.result ≡ along_line c.args.dir c.args.area.h (from_other_end c.args.area.h (c.args.r.y -ℤ c.args.area.y) c.args.r.h) c.args.r.h
    = along_line_same c.args.dir _ _ _ _ _ _ _ c.along_line-in-SidewaysLr.ensures.value (omega (arith, ints)) (omega (arith, ints)) (omega (arith, ints)) in
    rw c.in-SidewaysLr.is (flow_is _ _ _ _ (unmap_of SidewaysLr c.args.dir c.args.area c.args.r) (omega (arith, ints)) (omega (arith, ints)) (omega (arith, ints)) (omega (arith, ints)))
