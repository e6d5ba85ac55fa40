-- What recovery, repair and opening find on a disk: blocks end to end, all of them or up to a cut, and what stands behind them.
pub mod Blocks
pub mod Full
pub mod Scans
pub mod Stores
pub mod Disk
pub mod InFull
pub mod Dictionary
pub mod Recovers
pub mod Opens
pub mod Readings
pub mod Repairs
