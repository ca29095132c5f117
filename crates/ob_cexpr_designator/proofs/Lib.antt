pub mod FrontLaws
pub mod ThroughLaws
