pub mod Beginning
pub mod Book
pub mod BookLedgers
pub mod Lending
pub mod PlainTables
pub mod Prefixes
