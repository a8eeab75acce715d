-- Chains of dependencies among entries that have ended.
use Rattle.std.specs.Prelude.{◌≡◌, ℕ, Bool, true, false, ◌&&◌, ◌⊎◌, not, List, [], ◌∷◌, map}
use Rattle.cat_model.specs.declared.cause.Cause.{Cause}
use Rattle.restore_plan.specs.declared.status.EntryStatus.{EntryStatus}
use Rattle.restore_plan.specs.declared.status.EntryStatus.TheVariants.{Done, Refused, Skipped}
use Rattle.restore_plan.specs.declared.entry.Entry.{Entry}
use Rattle.restore_plan.specs.Entries.{is_among}
use Rattle.restore_plan.specs.declared.planned.Planned.{Planned}

abbrev pub is_skipped : EntryStatus → Bool
is_skipped (Skipped by) = true
is_skipped _ = false

-- entries with what came of them
abbrev pub Outcomes : Type 0
Outcomes = List (Planned × EntryStatus)

abbrev pub outcomes : List Planned → List EntryStatus → Outcomes
outcomes [] statuses = []
outcomes (p ∷ ps) [] = []
outcomes (p ∷ ps) (s ∷ ss) = (p, s) ∷ outcomes ps ss

-- the entry is one of them, with this status
abbrev pub IsOne : Planned × EntryStatus → Outcomes → Type 0
IsOne o [] = ⊥
IsOne o (x ∷ xs) = (x ≡ o) ⊎ IsOne o xs

-- A chain of one or more steps, each from an entry to one that it depends on, leads to a refused entry.
pub data Leads (all : Outcomes) : Planned → Type 0 where
  to_refused : {p : Planned} (q : Planned) (n : ℕ) (cause : Cause) → IsOne (q, Refused n cause) all → is_among q.id p.deps ≡ true → Leads all p
  further : {p : Planned} (q : Planned) (s : EntryStatus) → IsOne (q, s) all → is_among q.id p.deps ≡ true → Leads all q → Leads all p

-- no two of these dump ids are the same
abbrev pub are_distinct : List ℕ → Bool
are_distinct [] = true
are_distinct (x ∷ xs) = not (is_among x xs) && are_distinct xs

abbrev pub ids_of : List Entry → List ℕ
ids_of es = map (λ e. e.id) es
