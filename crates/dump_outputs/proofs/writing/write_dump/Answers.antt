use Rattle.dump_outputs.specs.Forms.{dump_put, IsClear}
use Rattle.dump_outputs.proofs.writing.write_dump.Goals as goal

pub returns-in-Script-clause-err : goal.returns-in-Script-clause-err
unfolding dump_put IsClear
returns-in-Script-clause-err g c = λ tree known clear. rw (c.in-Script.is) (c.write_script.ensures.err tree known (rw (c.in-Script.is) at clear))

pub returns-in-Custom-clause-err : goal.returns-in-Custom-clause-err
unfolding dump_put IsClear
returns-in-Custom-clause-err g c = λ tree known clear. rw (c.in-Custom.is) (c.write_custom.ensures.err tree known (rw (c.in-Custom.is) at clear))

pub returns-in-Directory-clause-err : goal.returns-in-Directory-clause-err
unfolding dump_put IsClear
returns-in-Directory-clause-err g c = λ tree known clear. rw (c.in-Directory.is) (c.write_directory.ensures.err tree known (rw (c.in-Directory.is) at clear))
