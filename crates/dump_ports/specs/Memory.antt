-- What objects in memory hold: their content, what they have counted, and which of their calls are to fail.
-- Calls are numbered from 1.
use Rattle.std.specs.Prelude.{ℕ, ◌+◌, ◌/◌, ◌==◌, Bool, List, ◌++◌, map, length, take, drop, min, Result, Ok, Err, if◌then◌else◌, string_bytes, String, Vec, refl}
use Rattle.std.specs.BTreeMap.{BTreeMap}
use Rattle.std.specs.List.{list_any}
use Rattle.std.specs.FinMap.{from_entries, code}
use Rattle.std.specs.Coded.{Coded, code_by, coded×, coded_ℕ, coded_list}
use Rattle.dump_ports.specs.Tree.{Tree}
use Rattle.dump_ports.specs.Faults.{greatest_count}

-- a count after one more, as far as it can show it
abbrev pub one_more : ℕ → ℕ
one_more count = min (count + 1) greatest_count

-- the calls of an object: the numbers of those that are to fail, and how many there were
pub record CallPlan : Type 0 where
  pub fail : List ℕ
  pub made : ℕ

-- the calls with one more
abbrev pub next_call : CallPlan → CallPlan
next_call calls = record calls { made = one_more calls.made }

-- whether the next call is to fail
abbrev pub next_fails : CallPlan → Bool
next_fails calls = list_any (λ number. number == one_more calls.made) calls.fail

-- the first half of the bytes, rounded down
abbrev pub half : List ℕ → List ℕ
half bytes = take (length bytes / 2) bytes

-- files in memory: their texts, their calls, the counts of faults, and how many writes failed for want of memory
-- alone
pub record MemoryFiles : Type 0 where
  pub tree : Tree
  pub calls : CallPlan
  pub read_faults : ℕ
  pub write_faults : ℕ
  pub starved : ℕ

-- the files after a call that reads
abbrev pub after_read : {X E : Type 0} → Result X E → MemoryFiles → MemoryFiles
after_read (Ok x) files = record files { calls = next_call files.calls }
after_read (Err e) files = record files { calls = next_call files.calls; read_faults = one_more files.read_faults }

-- the files after a call that writes and leaves this tree: where it failed and wasn't to, memory was wanting
abbrev pub after_write : {X E : Type 0} → Result X E → Tree → MemoryFiles → MemoryFiles
after_write (Ok x) tree files = record files { tree = tree; calls = next_call files.calls }
after_write (Err e) tree files = record files {
  tree = tree;
  calls = next_call files.calls;
  write_faults = one_more files.write_faults;
  starved = if next_fails files.calls then files.starved else one_more files.starved;
}

-- a stream in memory that is read: the bytes left, the most that one call gives, the calls and the count of faults
pub record MemorySource : Type 0 where
  pub left : List ℕ
  pub step : ℕ
  pub calls : CallPlan
  pub faults : ℕ

-- the stream after a call that gave so many bytes, or failed
abbrev pub after_given : {E : Type 0} → Result ℕ E → MemorySource → MemorySource
after_given (Ok n) source = record source { left = drop n source.left; calls = next_call source.calls }
after_given (Err e) source = record source { calls = next_call source.calls; faults = one_more source.faults }

-- a stream in memory that is written: the bytes written, the calls, the count of faults, and how many came for
-- want of memory alone
pub record MemorySink : Type 0 where
  pub written : List ℕ
  pub calls : CallPlan
  pub faults : ℕ
  pub starved : ℕ

-- the stream after a call that took all of the bytes, or failed
abbrev pub after_taken : {X E : Type 0} → Result X E → List ℕ → MemorySink → MemorySink
after_taken (Ok x) bytes sink = record sink { written = sink.written ++ bytes; calls = next_call sink.calls }
after_taken (Err e) bytes sink = record sink {
  calls = next_call sink.calls;
  faults = one_more sink.faults;
  starved = if next_fails sink.calls then sink.starved else one_more sink.starved;
}

-- the tree that a map of texts stands for
abbrev pub seen : {Y Z : Type 0} → BTreeMap (String Y) (Vec ℕ Z) → Tree
seen texts = from_entries (map (λ e. (string_bytes e.0, e.1.items)) texts.entries)

-- each is stored as the tuple of its parts
abbrev pub coded_plan : Coded CallPlan
coded_plan = code_by ((List ℕ) × ℕ) (coded× (coded_list coded_ℕ) coded_ℕ) (λ c. (c.fail, c.made)) (λ p. record { fail = p.0; made = p.1 }) (λ _. refl)

abbrev pub coded_files : Coded MemoryFiles
coded_files =
    code_by (Tree × (CallPlan × (ℕ × (ℕ × ℕ)))) (coded× (code (coded_list coded_ℕ) (coded_list coded_ℕ)) (coded× coded_plan (coded× coded_ℕ (coded× coded_ℕ coded_ℕ))))
    (λ m. (m.tree, (m.calls, (m.read_faults, (m.write_faults, m.starved)))))
    (λ p. record { tree = p.0; calls = p.1.0; read_faults = p.1.1.0; write_faults = p.1.1.1.0; starved = p.1.1.1.1 })
    (λ _. refl)
