-- Rows: what the definitions give on concrete files and calls, each proved by computing it, so that no definition is left free.
-- Proved in proofs/Starred.antt, proofs/Rows.antt and proofs/Instance.antt. Assumes nothing.
pub mod Starred
pub mod Started
pub mod Flagged
pub mod Ordered
pub mod Instance
pub mod Faults
pub mod Parts
pub mod Raised
pub mod Looked
pub mod Conflicts
pub mod Single
pub mod Table
pub mod Lent
pub mod Printed
pub mod Beyond
pub mod Joined
pub mod Reversed
