mod Listed
mod PageRows
mod PairLaws
mod PropertyRows
mod RefusalRows
mod ShorthandRows
mod ValueExamples
mod WordRows
