-- The types that the code of the crates below declares. The constructors of an enum stand under its name in small letters, as `name.Up`.
-- Assumes nothing.
pub use Rattle.forms.specs.declared.names.Name.{Name}
pub use Rattle.forms.specs.declared.names.Name.TheVariants as name
pub use Rattle.forms.specs.declared.form.Asked.{Asked}
