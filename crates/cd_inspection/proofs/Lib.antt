pub mod Taking
pub mod Beginning
pub mod Ending
pub mod CountsTold
pub mod CapturesRebuilt
pub mod RebuiltParts
pub mod RebuiltCounts
