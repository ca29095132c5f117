pub mod Forms
pub mod FormLaws
pub mod Grammar
pub mod Laws
