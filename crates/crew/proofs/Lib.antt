-- Values in their queues, the printed line, and all that may be relied on.
pub mod Following
pub mod Printing
pub mod Fixing
pub mod Only
pub mod Relying
pub mod Refuted
