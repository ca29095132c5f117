pub use Rattle.ob_cdecl_field.specs.Makes
pub mod Nested
