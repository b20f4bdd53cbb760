mod Pieces
mod TurnLaws
