-- The words of this crate, from one place: the names of reply codes, the codes for the conditions
-- of AMQP 1.0, and back. Its types and constants can't be passed on: they are taken from
-- specs.declared.
pub use Rattle.close_translate.specs.Codes.{name_of}
pub use Rattle.close_translate.specs.Conditions.{code_by, condition_of}
