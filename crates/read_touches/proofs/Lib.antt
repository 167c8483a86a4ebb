pub mod ReadTouches
pub mod ShortTouches
pub mod TouchValues
