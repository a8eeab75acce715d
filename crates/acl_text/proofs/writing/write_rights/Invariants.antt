use Rattle.std.proofs.Common.{◌≡◌, ◌++◌, take}
use Rattle.std.specs.List.{flat_map}
use Rattle.acl_text.specs.Acls.{spell_right}
use Rattle.acl_text.proofs.writing.write_rights.Given as goal

abbrev pub invariant-loop-right : goal.invariant-loop-right
invariant-loop-right l = l.out.items ≡ l.initial.out.items ++ flat_map spell_right (take l.right-index l.rights)
