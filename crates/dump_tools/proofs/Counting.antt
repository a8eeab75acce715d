-- Counts of faults: how those of the steps make those of the whole, and what they leave as the answer.
use Rattle.std.proofs.Common.{◌≡◌, ℕ, ◌≤◌, Result, Ok, Err, IfErr, refl, subst, ◌⊎◌, inl, inr, arith}
use Rattle.dump_ports.specs.Faults.{HasRisen, HasNotRisen}
use Rattle.tool_words.specs.declared.outcome.Outcome.{Outcome}
use Rattle.tool_words.specs.declared.outcome.Outcome.TheVariants.{Done, Usage, ReadFault, WriteFault, Missing, BadExport, BadScript, OutOfProfile, TooLarge, Differs, ScriptStopped, BadArchive, BadList, BadDefn, WithErrors, RestoreStopped, Loop, NoMatch, Memory}
use Rattle.tool_words.specs.Answers.{CountsRead}
use Rattle.dump_tools.specs.Due.{Counts, counts, NoneRose, NoneFell, Counted, CountsStep, CountsWrites, IsUnread}

pub alike : (r r' i i' w w' p p' l l' : ℕ) → r' ≡ r → i' ≡ i → w' ≡ w → p' ≡ p → l' ≡ l → counts r' i' w' p' l' ≡ counts r i w p l
alike r r' i i' w w' p p' l l' a e b d c = rw (a, e, b, d, c) refl

-- a step that only reads files
pub counted_reading : (X : Type 0) (o : Outcome) (r r' i i' w w' p p' l l' : ℕ) → CountsRead {X = X} (Err o) r r' → i' ≡ i → w' ≡ w → p' ≡ p → l' ≡ l → Counted o (counts r i w p l) (counts r' i' w' p' l')
counted_reading X Done r r' i i' w w' p p' l l' c e a d b = alike r r' i i' w w' p p' l l' c e a d b
counted_reading X (Usage word kind) r r' i i' w w' p p' l l' c e a d b = alike r r' i i' w w' p p' l l' c e a d b
counted_reading X ReadFault r r' i i' w w' p p' l l' c e a d b = (record { reads = c.0; inputs = omega arith; writes = omega arith; prints = omega arith; lines = omega arith }, inl c.1)
counted_reading X WriteFault r r' i i' w w' p p' l l' c e a d b = elim c [ ]
counted_reading X (Missing name) r r' i i' w w' p p' l l' c e a d b = alike r r' i i' w w' p p' l l' c e a d b
counted_reading X (BadExport file line kind) r r' i i' w w' p p' l l' c e a d b = alike r r' i i' w w' p p' l l' c e a d b
counted_reading X (BadScript fault) r r' i i' w w' p p' l l' c e a d b = alike r r' i i' w w' p p' l l' c e a d b
counted_reading X (OutOfProfile what) r r' i i' w w' p p' l l' c e a d b = alike r r' i i' w w' p p' l l' c e a d b
counted_reading X (TooLarge what most) r r' i i' w w' p p' l l' c e a d b = alike r r' i i' w w' p p' l l' c e a d b
counted_reading X (Differs key) r r' i i' w w' p p' l l' c e a d b = alike r r' i i' w w' p p' l l' c e a d b
counted_reading X (ScriptStopped stop) r r' i i' w w' p p' l l' c e a d b = alike r r' i i' w w' p p' l l' c e a d b
counted_reading X (BadArchive fault) r r' i i' w w' p p' l l' c e a d b = alike r r' i i' w w' p p' l l' c e a d b
counted_reading X (BadList fault) r r' i i' w w' p p' l l' c e a d b = alike r r' i i' w w' p p' l l' c e a d b
counted_reading X (BadDefn entry fault) r r' i i' w w' p p' l l' c e a d b = alike r r' i i' w w' p p' l l' c e a d b
counted_reading X (WithErrors errors) r r' i i' w w' p p' l l' c e a d b = alike r r' i i' w w' p p' l l' c e a d b
counted_reading X (RestoreStopped stop) r r' i i' w w' p p' l l' c e a d b = alike r r' i i' w w' p p' l l' c e a d b
counted_reading X (Loop path) r r' i i' w w' p p' l l' c e a d b = alike r r' i i' w w' p p' l l' c e a d b
counted_reading X (NoMatch pattern) r r' i i' w w' p p' l l' c e a d b = alike r r' i i' w w' p p' l l' c e a d b
counted_reading X Memory r r' i i' w w' p p' l l' c e a d b = alike r r' i i' w w' p p' l l' c e a d b

-- the same of a step that read nothing and failed
pub reading_failed : {X : Type 0} (r : Result X Outcome) (o : Outcome) (n i w p l : ℕ) → r ≡ Err o → CountsRead r n n → Counted o (counts n i w p l) (counts n i w p l)
reading_failed {X = X} r o n i w p l e c = counted_reading X o n n i i w w p p l l (subst (λ (s : Result X Outcome). CountsRead s n n) e c) refl refl refl refl

-- a step that only reads standard input
pub counted_input : (X : Type 0) (o : Outcome) (r r' i i' w w' p p' l l' : ℕ) → r' ≡ r → CountsRead {X = X} (Err o) i i' → w' ≡ w → p' ≡ p → l' ≡ l → Counted o (counts r i w p l) (counts r' i' w' p' l')
counted_input X Done r r' i i' w w' p p' l l' e c a d b = alike r r' i i' w w' p p' l l' e c a d b
counted_input X (Usage word kind) r r' i i' w w' p p' l l' e c a d b = alike r r' i i' w w' p p' l l' e c a d b
counted_input X ReadFault r r' i i' w w' p p' l l' e c a d b = (record { reads = omega arith; inputs = c.0; writes = omega arith; prints = omega arith; lines = omega arith }, inr c.1)
counted_input X WriteFault r r' i i' w w' p p' l l' e c a d b = elim c [ ]
counted_input X (Missing name) r r' i i' w w' p p' l l' e c a d b = alike r r' i i' w w' p p' l l' e c a d b
counted_input X (BadExport file line kind) r r' i i' w w' p p' l l' e c a d b = alike r r' i i' w w' p p' l l' e c a d b
counted_input X (BadScript fault) r r' i i' w w' p p' l l' e c a d b = alike r r' i i' w w' p p' l l' e c a d b
counted_input X (OutOfProfile what) r r' i i' w w' p p' l l' e c a d b = alike r r' i i' w w' p p' l l' e c a d b
counted_input X (TooLarge what most) r r' i i' w w' p p' l l' e c a d b = alike r r' i i' w w' p p' l l' e c a d b
counted_input X (Differs key) r r' i i' w w' p p' l l' e c a d b = alike r r' i i' w w' p p' l l' e c a d b
counted_input X (ScriptStopped stop) r r' i i' w w' p p' l l' e c a d b = alike r r' i i' w w' p p' l l' e c a d b
counted_input X (BadArchive fault) r r' i i' w w' p p' l l' e c a d b = alike r r' i i' w w' p p' l l' e c a d b
counted_input X (BadList fault) r r' i i' w w' p p' l l' e c a d b = alike r r' i i' w w' p p' l l' e c a d b
counted_input X (BadDefn entry fault) r r' i i' w w' p p' l l' e c a d b = alike r r' i i' w w' p p' l l' e c a d b
counted_input X (WithErrors errors) r r' i i' w w' p p' l l' e c a d b = alike r r' i i' w w' p p' l l' e c a d b
counted_input X (RestoreStopped stop) r r' i i' w w' p p' l l' e c a d b = alike r r' i i' w w' p p' l l' e c a d b
counted_input X (Loop path) r r' i i' w w' p p' l l' e c a d b = alike r r' i i' w w' p p' l l' e c a d b
counted_input X (NoMatch pattern) r r' i i' w w' p p' l l' e c a d b = alike r r' i i' w w' p p' l l' e c a d b
counted_input X Memory r r' i i' w w' p p' l l' e c a d b = alike r r' i i' w w' p p' l l' e c a d b

-- a step that writes files and to standard error
pub counted_writing : (X : Type 0) (o : Outcome) (r r' i w w' p l l' : ℕ) → IsUnread o → r' ≡ r → CountsWrites {X = X} (Err o) w w' l l' → Counted o (counts r i w p l) (counts r' i w' p l')
counted_writing X Done r r' i w w' p l l' late e c = alike r r' i i w w' p p l l' e refl c.0 refl c.1
counted_writing X (Usage word kind) r r' i w w' p l l' late e c = alike r r' i i w w' p p l l' e refl c.0 refl c.1
counted_writing X ReadFault r r' i w w' p l l' late e c = elim late [ ]
counted_writing X WriteFault r r' i w w' p l l' late e c = (record { reads = omega arith; inputs = omega arith; writes = c.0; prints = omega arith; lines = c.1 }, either c.2)
  where
    either : HasRisen w w' ⊎ HasRisen l l' → HasRisen w w' ⊎ HasRisen p p ⊎ HasRisen l l'
    either (inl h) = inl h
    either (inr h) = inr (inr h)
counted_writing X (Missing name) r r' i w w' p l l' late e c = alike r r' i i w w' p p l l' e refl c.0 refl c.1
counted_writing X (BadExport file line kind) r r' i w w' p l l' late e c = alike r r' i i w w' p p l l' e refl c.0 refl c.1
counted_writing X (BadScript fault) r r' i w w' p l l' late e c = alike r r' i i w w' p p l l' e refl c.0 refl c.1
counted_writing X (OutOfProfile what) r r' i w w' p l l' late e c = alike r r' i i w w' p p l l' e refl c.0 refl c.1
counted_writing X (TooLarge what most) r r' i w w' p l l' late e c = alike r r' i i w w' p p l l' e refl c.0 refl c.1
counted_writing X (Differs key) r r' i w w' p l l' late e c = alike r r' i i w w' p p l l' e refl c.0 refl c.1
counted_writing X (ScriptStopped stop) r r' i w w' p l l' late e c = alike r r' i i w w' p p l l' e refl c.0 refl c.1
counted_writing X (BadArchive fault) r r' i w w' p l l' late e c = alike r r' i i w w' p p l l' e refl c.0 refl c.1
counted_writing X (BadList fault) r r' i w w' p l l' late e c = alike r r' i i w w' p p l l' e refl c.0 refl c.1
counted_writing X (BadDefn entry fault) r r' i w w' p l l' late e c = alike r r' i i w w' p p l l' e refl c.0 refl c.1
counted_writing X (WithErrors errors) r r' i w w' p l l' late e c = alike r r' i i w w' p p l l' e refl c.0 refl c.1
counted_writing X (RestoreStopped stop) r r' i w w' p l l' late e c = alike r r' i i w w' p p l l' e refl c.0 refl c.1
counted_writing X (Loop path) r r' i w w' p l l' late e c = alike r r' i i w w' p p l l' e refl c.0 refl c.1
counted_writing X (NoMatch pattern) r r' i w w' p l l' late e c = alike r r' i i w w' p p l l' e refl c.0 refl c.1
counted_writing X Memory r r' i w w' p l l' late e c = alike r r' i i w w' p p l l' e refl c.0 refl c.1

-- the same of the step itself
pub step_writing : {X : Type 0} (o : Result X Outcome) (r r' i w w' p l l' : ℕ) → IfErr o IsUnread → r' ≡ r → CountsWrites o w w' l l' → CountsStep o (counts r i w p l) (counts r' i w' p l')
step_writing (Ok x) r r' i w w' p l l' unread e c = alike r r' i i w w' p p l l' e refl c.0 refl c.1
step_writing {X = X} (Err o) r r' i w w' p l l' unread e c = counted_writing X o r r' i w w' p l l' unread e c

-- a step that only prints
pub counted_printing : (r r' i w w' p p' l : ℕ) → r' ≡ r → w' ≡ w → (p ≤ p') × HasRisen p p' → Counted WriteFault (counts r i w p l) (counts r' i w' p' l)
counted_printing r r' i w w' p p' l a b h = (record { reads = omega arith; inputs = omega arith; writes = omega arith; prints = h.0; lines = omega arith }, inr (inl h.1))

-- a step behind one that raised no count
pub step_behind : {X : Type 0} (r : Result X Outcome) (a b d : Counts) → b ≡ a → CountsStep r b d → CountsStep r a d
step_behind r a b d e h = subst (λ c. CountsStep r c d) e h

-- the counts of an answer, one after another
fell : (o : Outcome) (a b : Counts) → Counted o a b → NoneFell a b
fell Done a b c = rw c (record { reads = omega arith; inputs = omega arith; writes = omega arith; prints = omega arith; lines = omega arith })
fell (Usage word kind) a b c = rw c (record { reads = omega arith; inputs = omega arith; writes = omega arith; prints = omega arith; lines = omega arith })
fell ReadFault a b c = c.0
fell WriteFault a b c = c.0
fell (Missing name) a b c = rw c (record { reads = omega arith; inputs = omega arith; writes = omega arith; prints = omega arith; lines = omega arith })
fell (BadExport file line kind) a b c = rw c (record { reads = omega arith; inputs = omega arith; writes = omega arith; prints = omega arith; lines = omega arith })
fell (BadScript fault) a b c = rw c (record { reads = omega arith; inputs = omega arith; writes = omega arith; prints = omega arith; lines = omega arith })
fell (OutOfProfile what) a b c = rw c (record { reads = omega arith; inputs = omega arith; writes = omega arith; prints = omega arith; lines = omega arith })
fell (TooLarge what most) a b c = rw c (record { reads = omega arith; inputs = omega arith; writes = omega arith; prints = omega arith; lines = omega arith })
fell (Differs key) a b c = rw c (record { reads = omega arith; inputs = omega arith; writes = omega arith; prints = omega arith; lines = omega arith })
fell (ScriptStopped stop) a b c = rw c (record { reads = omega arith; inputs = omega arith; writes = omega arith; prints = omega arith; lines = omega arith })
fell (BadArchive fault) a b c = rw c (record { reads = omega arith; inputs = omega arith; writes = omega arith; prints = omega arith; lines = omega arith })
fell (BadList fault) a b c = rw c (record { reads = omega arith; inputs = omega arith; writes = omega arith; prints = omega arith; lines = omega arith })
fell (BadDefn entry fault) a b c = rw c (record { reads = omega arith; inputs = omega arith; writes = omega arith; prints = omega arith; lines = omega arith })
fell (WithErrors errors) a b c = rw c (record { reads = omega arith; inputs = omega arith; writes = omega arith; prints = omega arith; lines = omega arith })
fell (RestoreStopped stop) a b c = rw c (record { reads = omega arith; inputs = omega arith; writes = omega arith; prints = omega arith; lines = omega arith })
fell (Loop path) a b c = rw c (record { reads = omega arith; inputs = omega arith; writes = omega arith; prints = omega arith; lines = omega arith })
fell (NoMatch pattern) a b c = rw c (record { reads = omega arith; inputs = omega arith; writes = omega arith; prints = omega arith; lines = omega arith })
fell Memory a b c = rw c (record { reads = omega arith; inputs = omega arith; writes = omega arith; prints = omega arith; lines = omega arith })

-- its line was told, and no count rose by that
pub counted_told : (o : Outcome) (a : Counts) (r i w p l l' : ℕ) → Counted o a (counts r i w p l) → l' ≡ l → Counted o a (counts r i w p l')
counted_told o a r i w p l l' c e = rw e c

-- its line couldn't be told
pub counted_untold : (o : Outcome) (a : Counts) (r i w p l l' : ℕ) → Counted o a (counts r i w p l) → (l ≤ l') × HasRisen l l' → Counted WriteFault a (counts r i w p l')
counted_untold o a r i w p l l' c h =
    let f = fell o a (counts r i w p l) c in
    (record { reads = f.reads; inputs = f.inputs; writes = f.writes; prints = f.prints; lines = earlier a.lines l l' f.lines h.0 }, inr (inr (risen a.lines l l' f.lines h.1)))
  where
    earlier : (a b c : ℕ) → a ≤ b → b ≤ c → a ≤ c
    earlier a b c p q = omega arith

    risen : (a b c : ℕ) → a ≤ b → HasRisen b c → HasRisen a c
    risen a b c p q = omega arith

-- then the count of writes to standard error rose over the whole
pub lines_risen : (o : Outcome) (a : Counts) (r i w p l l' : ℕ) → Counted o a (counts r i w p l) → (l ≤ l') × HasRisen l l' → HasRisen a.lines l'
lines_risen o a r i w p l l' c h = risen a.lines l l' (fell o a (counts r i w p l) c).lines h.1
  where
    risen : (a b c : ℕ) → a ≤ b → HasRisen b c → HasRisen a c
    risen a b c p q = omega arith

-- ---- what is left where no count rose

not_both : (a b : ℕ) → HasNotRisen a b → HasRisen a b → ⊥
not_both a b n h = omega arith

-- a failed read and a failed write raise a count
pub none_early : (o : Outcome) (a b : Counts) → NoneRose a b → Counted o a b → (o ≡ ReadFault) ⊎ (o ≡ WriteFault) → ⊥
none_early o a b none c (inl e) = read (subst (λ o. Counted o a b) e c)
  where
    either : HasRisen a.reads b.reads ⊎ HasRisen a.inputs b.inputs → ⊥
    either (inl h) = not_both a.reads b.reads none.reads h
    either (inr h) = not_both a.inputs b.inputs none.inputs h

    read : Counted ReadFault a b → ⊥
    read h = either h.1
none_early o a b none c (inr e) = write (subst (λ o. Counted o a b) e c)
  where
    either : HasRisen a.writes b.writes ⊎ HasRisen a.prints b.prints ⊎ HasRisen a.lines b.lines → ⊥
    either (inl h) = not_both a.writes b.writes none.writes h
    either (inr (inl h)) = not_both a.prints b.prints none.prints h
    either (inr (inr h)) = not_both a.lines b.lines none.lines h

    write : Counted WriteFault a b → ⊥
    write h = either h.1
