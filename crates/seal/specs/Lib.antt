pub mod Signature
pub mod Hmac
pub mod MacKey
pub mod KeyBook
pub mod BookLaws
