-- What the code holds of a restore's work.
use Rattle.restore_folders.specs.declared.work.RestoreWork.{RestoreWork}
use Rattle.restore_folders.specs.Works.{Work}

abbrev pub work_seen : RestoreWork → Work
work_seen w = record { boot = w.boot; opening = w.opening; entries = w.entries.items; wanted = w.wanted.items }
