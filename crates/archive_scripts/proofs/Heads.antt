-- The head of a script, and the part of an entry at a place.
use Rattle.std.proofs.Common.{◌≡◌, ℕ, Bool, List, [], Option, Some, None, ap}
use Rattle.std.specs.List.{slice_get}
use Rattle.std.specs.Option.{option_map_or}
use Rattle.toc_entry.specs.declared.entry.Entry.{Entry}
use Rattle.toc_entry.specs.declared.head.Head.{Head}
use Rattle.toc_layout.specs.Heads.{HeadFields, head_seen}
use Rattle.fmt_text.specs.Parts.{part}
use Rattle.fmt_text.specs.Script.{script_head}
use Rattle.archive_scripts.specs.Scripts.{head_text, part_at}

pub head_is : (h : Head) (f : HeadFields) → head_seen h ≡ f → script_head h ≡ head_text f
unfolding script_head head_text
head_is h f e = ap head_text e

pub part_none : (owners : Bool) (es : List Entry) (rows : ℕ → Option (List ℕ)) (i : ℕ) → None ≡ slice_get es i → [] ≡ part_at owners es rows i
part_none owners es rows i none = ap (λ (o : Option Entry). option_map_or (λ (e : Entry). part owners e (rows e.dump_id)) o []) none

pub part_some : (owners : Bool) (es : List Entry) (rows : ℕ → Option (List ℕ)) (i : ℕ) (e : Entry) → Some e ≡ slice_get es i → part owners e (rows e.dump_id) ≡ part_at owners es rows i
part_some owners es rows i e found = ap (λ (o : Option Entry). option_map_or (λ (x : Entry). part owners x (rows x.dump_id)) o []) found
