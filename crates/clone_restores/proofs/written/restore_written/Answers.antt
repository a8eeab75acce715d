use Rattle.clone_restores.proofs.written.restore_written.Goals as goal

pub returns-in-Plain-clause-done : goal.returns-in-Plain-clause-done
returns-in-Plain-clause-done g c = rw c.in-Plain.is c.restore_script.ensures.done

pub returns-in-Custom-clause-done : goal.returns-in-Custom-clause-done
returns-in-Custom-clause-done g c = rw c.in-Custom.is c.restore_archive.ensures.done

pub returns-in-Directory-clause-done : goal.returns-in-Directory-clause-done
returns-in-Directory-clause-done g c = rw c.in-Directory.is c.restore_archive-in-Directory.ensures.done
