-- Where a fault is.
use Rattle.std.specs.Prelude.{ℕ}
use Rattle.sql_lex.specs.declared.fault.LexFault.TheVariants as lex
use Rattle.ddl_scripts.specs.{declared.fault.DdlFault.DdlFault, declared.fault.DdlFault.TheVariants.Lex, declared.fault.DdlFault.TheVariants.Unknown, declared.fault.DdlFault.TheVariants.LongName, declared.fault.DdlFault.TheVariants.Incomplete}

-- the place of a fault
abbrev pub fault_place : DdlFault → ℕ
fault_place (Lex (lex.Unclosed at)) = at
fault_place (Lex (lex.BadByte at)) = at
fault_place (Unknown at) = at
fault_place (LongName at) = at
fault_place (Incomplete at) = at
