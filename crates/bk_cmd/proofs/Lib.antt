pub mod Ends
pub mod Decimals
mod Budgets
mod Completes
mod Finishes
mod Statuses
mod Parts
mod SideBySide
mod Protocols
