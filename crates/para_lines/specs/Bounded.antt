-- A computed style is within bounds in one way at most.
use Rattle.style_types.specs.declared.style.Combine.{Combine}
use Rattle.style_types.specs.declared.style.Combine.TheVariants.{Never, All, Digits}
use Rattle.style_types.specs.declared.style.LineHeight.{LineHeight}
use Rattle.style_types.specs.declared.style.LineHeight.TheVariants as line_heights
use Rattle.style_types.specs.declared.style.Size.{Size}
use Rattle.style_types.specs.declared.style.Size.TheVariants.{Auto, Length, Percent}
use Rattle.style_types.specs.declared.style.Style.{Style}
use Rattle.style_types.specs.Style.{IsBounded, IsCombine, IsLineHeight, IsMargin, IsPadding, IsSize}
use denote.Struct.Props.{props}

IsSize-prop : (size : Size) → IsProp (IsSize size)
IsSize-prop Auto = hlevel props
IsSize-prop (Length length) = hlevel props
IsSize-prop (Percent hundredths) = hlevel props

IsMargin-prop : (size : Size) → IsProp (IsMargin size)
IsMargin-prop Auto = hlevel props
IsMargin-prop (Length length) = hlevel props
IsMargin-prop (Percent hundredths) = hlevel props

IsPadding-prop : (size : Size) → IsProp (IsPadding size)
IsPadding-prop Auto = hlevel props
IsPadding-prop (Length length) = hlevel props
IsPadding-prop (Percent hundredths) = hlevel props

IsLineHeight-prop : (height : LineHeight) → IsProp (IsLineHeight height)
IsLineHeight-prop line_heights.Normal = hlevel props
IsLineHeight-prop (line_heights.Number hundredths) = hlevel props
IsLineHeight-prop (line_heights.Length length) = hlevel props

IsCombine-prop : (combine : Combine) → IsProp (IsCombine combine)
IsCombine-prop Never = hlevel props
IsCombine-prop All = hlevel props
IsCombine-prop (Digits most) = hlevel props

pub IsBounded-prop : (style : Style) → IsProp (IsBounded style)
IsBounded-prop style = hlevel (props, IsSize-prop, IsMargin-prop, IsPadding-prop, IsLineHeight-prop, IsCombine-prop)
