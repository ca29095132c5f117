pub mod BasicLaws
pub mod MemberLaws
