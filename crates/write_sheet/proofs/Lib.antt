pub mod Clamped
pub mod ClampedHead
pub mod HeadParts
pub mod SheetParts
pub mod TouchLines
