-- Byte strings whose memory was taken when they were made.
use Rattle.std.specs.Prelude.{ℕ, List}

-- the bytes, and how many there may be
pub record Reserved : Type 0 where
  pub text : List ℕ
  pub room : ℕ
