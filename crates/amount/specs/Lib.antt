pub mod Column
pub mod Decimal
