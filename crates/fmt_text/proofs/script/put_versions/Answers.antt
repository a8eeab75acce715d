use Rattle.std.proofs.Common.{◌++◌, List, ℕ, ap, ◌∙◌}
use Rattle.std.specs.Prelude.{codes}
use Rattle.fmt_text.specs.Lines.{line, shown}
use Rattle.fmt_text.specs.Script.{versions}
use Rattle.fmt_text.proofs.Joining.{three_joined}
use Rattle.fmt_text.proofs.script.put_versions.Goals as goal

pub returns-clause-ok : goal.returns-clause-ok
unfolding versions
returns-clause-ok c =
    three_joined _ _ _ _ _ _ _
    (c.in_ok-put_version.ensures.ok ∙ ap (λ (v : List ℕ). c.args.out.now.items ++ line (codes "-- Dumped from database version " ++ shown v)) c.as_bytes.ensures.value)
    (c.in_ok-put_version-2.ensures.ok ∙ ap (λ (v : List ℕ). c.put_version.new.out.items ++ line (codes "-- Dumped by pg_dump version " ++ shown v)) c.as_bytes-2.ensures.value)
    c.in_ok-push.ensures.items
