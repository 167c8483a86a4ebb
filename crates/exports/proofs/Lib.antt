pub mod Found
pub mod RecorderCalls
pub mod Rewriting
pub mod Told
