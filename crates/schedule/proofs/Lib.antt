pub mod Copying
pub mod Filling
pub mod Marks
pub mod Masks
pub mod Segments
pub mod StartMasks
pub mod StepBytes
pub mod Steps
