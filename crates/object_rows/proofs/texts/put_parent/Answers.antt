use Rattle.std.proofs.Common.{append_assoc}
use Rattle.object_rows.proofs.texts.put_parent.Goals as goal

pub returns : goal.returns
returns c =
    rw (c.in_ok-put_rest.ensures, c.in_ok-put_names.ensures, c.as_slice.ensures, c.in_ok-put_path.ensures) (simp append_assoc)
