pub mod Bytes
pub mod Refusing
pub mod Finding
pub mod Taking
