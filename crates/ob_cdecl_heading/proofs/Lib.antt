pub mod Growing
pub mod KeyLaws
pub mod HeadLaws
pub mod ForwardLaws
pub mod Behind
pub mod There
