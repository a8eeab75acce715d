use Rattle.fmt_text.specs.Script.{script_head}
use Rattle.fmt_text.proofs.Joining.{three_joined}
use Rattle.fmt_text.proofs.script.put_head.Goals as goal

pub returns-clause-ok : goal.returns-clause-ok
unfolding script_head
returns-clause-ok c = three_joined _ _ _ _ _ _ _ c.in_ok-put_title.ensures.ok c.in_ok-put_versions.ensures.ok c.in_ok-put_session.ensures.ok
