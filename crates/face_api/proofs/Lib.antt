pub mod Advances
pub mod Examples
pub mod RowLaws
pub mod SeatLaws
