-- The definitions: UTF-8, its grammar, and what the private functions answer.
pub mod Utf8
pub mod Grammar
pub mod Steps
