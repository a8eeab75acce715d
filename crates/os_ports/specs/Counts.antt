-- What contracts see of the system's files: how many of their calls failed.
use Rattle.std.specs.Prelude.{ℕ}

-- the failed calls that read, and those that write
pub record FileFaults : Type 0 where
  pub read : ℕ
  pub write : ℕ
