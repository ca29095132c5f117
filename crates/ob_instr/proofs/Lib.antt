pub mod Steps
pub mod Goes
pub mod Try
