mod Bytes
mod Columns
mod Decimals
mod Digits
