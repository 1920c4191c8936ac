mod Columns
mod Order
mod Texts
mod Chains
mod Machines
