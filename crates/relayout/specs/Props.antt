-- Facts that hold in one way at most, as a fact that a type carries must.
use Rattle.std.specs.Prelude.{ℕ, List, [], ◌∷◌, All, IfSome, Option, Some, None}
use Rattle.std.specs.Coded.{Π_prop, ×_prop}
use Rattle.fragment_types.specs.Fragment.{Kind, block, line, measure, run, span}
use Rattle.fragment_types.specs.Item.{Entry}
use Rattle.box_gen.specs.Tree.{Content, blocks, inline}
use Rattle.para_lines.specs.Bounded.{IsBounded-prop}
use Rattle.para_lines.specs.Conditions.{HasBounds-prop}
use Rattle.para_prepare.specs.declared.item.PreparedItem.{PreparedItem}
use Rattle.para_prepare.specs.Facts.{HasFontSize-prop, HasBounds-prop as HasTextBounds-prop}
use Rattle.para_prepare.specs.Preparation.{AreFrom, Preparation}
use Rattle.relayout.specs.declared.flowed.LaidBox.{LaidBox}
use Rattle.relayout.specs.Near.{IsNearKind, IsNearLaid}
use Rattle.relayout.specs.Paragraph.{IsParagraph, IsReady, IsReadyIn}
use denote.Struct.Props.{props}

-- ---- what has been laid out

IsNearKind-prop : (kind : Kind) → IsProp (IsNearKind kind)
IsNearKind-prop (block mode dir content definite start end_ through) = hlevel props
IsNearKind-prop (measure min max) = hlevel props
IsNearKind-prop (line index base mode baseline) = hlevel props
IsNearKind-prop span = hlevel props
IsNearKind-prop (run form level natural units) = hlevel props

pub IsNearLaid-prop : (laid : LaidBox) → IsProp (IsNearLaid laid)
IsNearLaid-prop laid = hlevel (props, IsBounded-prop, IsNearKind-prop)

pub AreNear-prop : (laid : List LaidBox) → IsProp (All IsNearLaid laid)
AreNear-prop laid = Π_prop λ k. Π_prop λ d. Π_prop λ below. IsNearLaid-prop _

-- ---- paragraphs and their prepared text

pub IsParagraph-prop : (entries : List Entry) → IsProp (IsParagraph entries)
IsParagraph-prop entries = hlevel (props, HasFontSize-prop, HasBounds-prop)

AreFrom-prop : (first many : ℕ) (items : List PreparedItem) → IsProp (AreFrom first many items)
AreFrom-prop first many [] = hlevel props
AreFrom-prop first many (item ∷ items) = let others : IsProp (AreFrom item.source many items) = AreFrom-prop item.source many items in hlevel (props, others)

pub IsReady-prop : (entries : List Entry) (ready : Preparation) → IsProp (IsReady entries ready)
IsReady-prop entries ready = hlevel (props, AreFrom-prop, HasTextBounds-prop)

IfReady-prop : (entries : List Entry) (ready : Option Preparation) → IsProp (IfSome ready (IsReady entries))
IfReady-prop entries None = hlevel props
IfReady-prop entries (Some ready) = IsReady-prop entries ready

pub IsReadyIn-prop : (content : Content) (ready : Option Preparation) → IsProp (IsReadyIn content ready)
IsReadyIn-prop blocks ready = hlevel props
IsReadyIn-prop (inline entries) ready = ×_prop (IsParagraph-prop entries) (IfReady-prop entries ready)
