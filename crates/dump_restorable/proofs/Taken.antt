-- Options that leave nothing out take each entry of a dump but that of the database.
use Rattle.std.proofs.Common.{◌≡◌, ◌⊎◌, ℕ, ◌+◌, ◌<◌, ◌≤◌, ◌==◌, Bool, true, false, cond, List, [], ◌∷◌, ◌++◌, All, reverse, take, Option, Some, None, unwrap_or, refl, sym, ap, subst, ◌∙◌, arith, inl, inr, codes}
use Rattle.std.specs.Prelude.{◌&&◌, ◌||◌, not, if◌then◌else◌}
use Rattle.std.specs.List.{AllByRecursion, slice_get}
use Rattle.std.specs.Option.{option_and_then, option_map_or}
use Rattle.std.proofs.lemmas.Bool.{cases_Bool, cases_lt, eqb-true, eqb-false, false≢true}
use Rattle.std.proofs.lemmas.List.{reverse-append, take_more}
use Rattle.std.proofs.lemmas.List.Elements.{recursion_from_All}
use Rattle.std.proofs.lemmas.Option.{slice_get_within, unwrap_or-slice_get}
use Rattle.std.specs.Str.{bytes_eq}
use Rattle.toc_entry.specs.declared.entry.Entry.{Entry}
use Rattle.toc_layout.specs.Writable.{EntryCanBeWritten}
use Rattle.entry_choices.specs.Kinds.{is_one_of, session_kinds, database_kinds, is_comment}
use Rattle.entry_choices.specs.Choices.{first_dependency, section_by, section_among, section_behind, takes_section, is_data, passes, is_beside, takes, is_taken_among, is_taken_behind, is_first_taken, wanted}
use Rattle.fmt_text.specs.Parts.{is_of_session}
use Rattle.archive_laws.specs.Restored.{LeavesNone}
use Rattle.dump_restorable.specs.Dumped.{all_taken}
use Rattle.toc_kinds.proofs.Lists.{Known, at_place, turned, first_ones, two}
use Rattle.toc_kinds.specs.Kinds.{IsOfDump}

abbrev pub IsFine : Entry → Type 0
IsFine e = IsOfDump e × EntryCanBeWritten e

-- ---- sections

abbrev IsSection : ℕ → Type 0
IsSection section = (2 ≤ section) × (section ≤ 4)

section_is : (first : Option ℕ) (e : Entry) → Known IsSection first → EntryCanBeWritten e → IsSection (section_by first e)
section_is first e known can = by (e.section == 1) refl
  where
    first_is : (o : Option ℕ) → Known IsSection o → IsSection (unwrap_or o 2)
    first_is None k = (omega arith, omega arith)
    first_is (Some s) k = k

    by : (b : Bool) → (e.section == 1) ≡ b → IsSection (cond b (unwrap_or first 2) e.section)
    by true is = first_is first known
    by false is = let other = eqb-false e.section 1 is in (omega (arith, other, can.section.0), can.section.1)

section_then : (f : ℕ → Option ℕ) → ((id : ℕ) → Known IsSection (f id)) → (o : Option ℕ) → Known IsSection (option_and_then f o)
section_then f h None = tt
section_then f h (Some id) = h id

section_first : (before : List Entry) (e : Entry) (id : ℕ) (b : Bool) → IsSection (section_behind before e) → Known IsSection (section_among before id)
    → Known IsSection (elim b as (λ _. Option ℕ) [ true ↦ Some (section_behind before e) | false ↦ section_among before id ])
section_first before e id true here later = here
section_first before e id false here later = later

sections_are : (before : List Entry) → AllByRecursion IsFine before → (id : ℕ) → Known IsSection (section_among before id)
unfolding section_among
sections_are [] fine id = tt
sections_are (e ∷ before) fine id =
    section_first before e id (e.dump_id == id)
    (section_is (option_and_then (section_among before) (first_dependency e)) e (section_then (section_among before) (sections_are before fine.1) (first_dependency e)) fine.0.1)
    (sections_are before fine.1 id)

-- ---- one entry

one_of : (section : ℕ) → IsSection section → (section ≡ 2) ⊎ ((section ≡ 3) ⊎ (section ≡ 4))
one_of section is = by (cases_lt section 3) (cases_lt section 4)
  where
    by : (section < 3) ⊎ (3 ≤ section) → (section < 4) ⊎ (4 ≤ section) → (section ≡ 2) ⊎ ((section ≡ 3) ⊎ (section ≡ 4))
    by (inl low) second = inl (omega (arith, low, is.0))
    by (inr high) (inl low) = inr (inl (omega (arith, low, high)))
    by (inr high) (inr top) = inr (inr (omega (arith, top, is.1)))

takes_it : (owners : Bool) (section : ℕ) → IsSection section → takes_section (all_taken owners).sections section ≡ true
takes_it owners section is = elim (one_of section is) [ inl e ↦ rw e refl | inr more ↦ elim more [ inl e ↦ rw e refl | inr e ↦ rw e refl ] ]

both_true : (b : Bool) → cond b true true ≡ true
both_true true = refl
both_true false = refl

in_none : (o : Option (List ℕ)) → not (option_map_or (is_one_of []) o false) ≡ true
in_none None = refl
in_none (Some schema) = refl

and_true : (a b : Bool) → a ≡ true → b ≡ true → (a && b) ≡ true
and_true a b p q = rw (p, q) refl

passes_it : (owners : Bool) (section : ℕ) (e : Entry) → IsSection section → passes (all_taken owners) section e ≡ true
passes_it owners section e is =
    and_true _ _ (and_true _ _ (and_true _ _ (both_true (is_data e)) (in_none e.namespace)) refl) (takes_it owners section is)

pick : (session beside comment other : Bool) (first : Option Bool) → Known (λ b. b ≡ true) first → other ≡ true
    → (if session then true else (if false then false else (if beside then (if comment then true else true) && unwrap_or first other else other))) ≡ true
pick true beside comment other first k is = refl
pick false false comment other first k is = is
pick false true comment other None k is = and_true _ _ (both_true comment) is
pick false true comment other (Some b) k is = and_true _ _ (both_true comment) k

takes_one : (owners : Bool) (section : ℕ) (first : Option Bool) (e : Entry) → IsSection section → Known (λ b. b ≡ true) first → is_one_of database_kinds e.desc ≡ false → takes (all_taken owners) section first e ≡ true
takes_one owners section first e is known object =
    ap (λ (d : Bool). if is_one_of session_kinds e.desc then true else (if d then false else (if is_beside e then (if is_comment e.desc then true else true) && unwrap_or first (passes (all_taken owners) section e) else passes (all_taken owners) section e))) object
    ∙ pick (is_one_of session_kinds e.desc) (is_beside e) (is_comment e.desc) (passes (all_taken owners) section e) first known (passes_it owners section e is)

-- ---- behind others

first_of : (owners : Bool) (before : List Entry) → ((id : ℕ) → 5 ≤ id → Known (λ b. b ≡ true) (is_taken_among (all_taken owners) before id)) → (needs : List ℕ) → AllByRecursion (λ id. 5 ≤ id) needs
    → Known (λ b. b ≡ true) (option_and_then (is_taken_among (all_taken owners) before) (slice_get needs 0))
first_of owners before h [] high = tt
first_of owners before h (id ∷ needs) high = h id high.0

-- one whose number is that of no database
no_database : (e : Entry) (id : ℕ) → IsOfDump e → e.dump_id ≡ id → 5 ≤ id → is_one_of database_kinds e.desc ≡ false
no_database e id is same high = elim (cases_Bool (is_one_of database_kinds e.desc)) [
  | inl database ↦ absurd (omega (arith, is.database database, same, high))
  | inr object ↦ object
]

among_first : (owners : Bool) (before : List Entry) (e : Entry) (id : ℕ) (b : Bool) → (e.dump_id == id) ≡ b → ((e.dump_id == id) ≡ true → is_taken_behind (all_taken owners) before e ≡ true) → Known (λ b. b ≡ true) (is_taken_among (all_taken owners) before id)
    → Known (λ b. b ≡ true) (elim b as (λ _. Option Bool) [ true ↦ Some (is_taken_behind (all_taken owners) before e) | false ↦ is_taken_among (all_taken owners) before id ])
among_first owners before e id true is here later = here is
among_first owners before e id false is here later = later

among : (owners : Bool) (before : List Entry) → AllByRecursion IsFine before → (id : ℕ) → 5 ≤ id → Known (λ b. b ≡ true) (is_taken_among (all_taken owners) before id)
unfolding is_taken_among
among owners [] fine id high = tt
among owners (e ∷ before) fine id high =
    among_first owners before e id (e.dump_id == id) refl
    (λ is. takes_one owners (section_behind before e) (option_and_then (is_taken_among (all_taken owners) before) (first_dependency e)) e
    (section_is (option_and_then (section_among before) (first_dependency e)) e (section_then (section_among before) (sections_are before fine.1) (first_dependency e)) fine.0.1)
    (first_of owners before (among owners before fine.1) e.depends fine.0.0.needs)
    (no_database e id fine.0.0 (eqb-true e.dump_id id is) high))
    (among owners before fine.1 id high)

pub taken : (owners : Bool) (before : List Entry) (e : Entry) → AllByRecursion IsFine before → IsFine e → is_one_of database_kinds e.desc ≡ false → is_taken_behind (all_taken owners) before e ≡ true
taken owners before e fine is object =
    takes_one owners (section_behind before e) (option_and_then (is_taken_among (all_taken owners) before) (first_dependency e)) e
    (section_is (option_and_then (section_among before) (first_dependency e)) e (section_then (section_among before) (sections_are before fine) (first_dependency e)) is.1)
    (first_of owners before (among owners before fine) e.depends is.0.needs)
    object

-- ---- all of them

or_true : (a b : Bool) → b ≡ true → (a || b) ≡ true
or_true true b e = refl
or_true false b e = e

-- the database has no part of its own
of_session : (desc : List ℕ) → is_one_of database_kinds desc ≡ true → is_of_session desc ≡ true
of_session desc is =
    let last = is_one_of database_kinds desc in
    let path = bytes_eq (codes "SEARCHPATH") desc in
    let strings = bytes_eq (codes "STDSTRINGS") desc in
    or_true (bytes_eq (codes "ENCODING") desc) (strings || (path || last)) (or_true strings (path || last) (or_true path last is))

at : (es : List Entry) (i : ℕ) (e : Entry) → slice_get es i ≡ Some e → reverse (take (i + 1) es) ≡ e ∷ reverse (take i es)
at es i e found =
    ap reverse (take_more es i e (slice_get_within es i e found) ∙ ap (λ (x : Entry). take i es ++ x ∷ []) (sym (unwrap_or-slice_get es i e) ∙ ap (λ (o : Option Entry). unwrap_or o e) found))
    ∙ reverse-append (take i es) (e ∷ [])

known_at : (P : Entry → Type 0) (es : List Entry) (i : ℕ) (e : Entry) → Known P (slice_get es i) → slice_get es i ≡ Some e → P e
known_at P es i e known found = subst (Known P) found known

pub leaves_none : (owners : Bool) (es : List Entry) → AllByRecursion IsOfDump es → All EntryCanBeWritten es → LeavesNone (all_taken owners) es
unfolding wanted
leaves_none owners es are can i e left found =
    let fine = two IsOfDump EntryCanBeWritten IsFine (λ x p q. (p, q)) es are (recursion_from_All EntryCanBeWritten es can) in
    let here = known_at IsFine es i e (at_place IsFine es fine i) found in
    elim (cases_Bool (is_one_of database_kinds e.desc)) [
      | inl database ↦ of_session e.desc database
      | inr object ↦ absurd (false≢true (sym left ∙ ap (is_first_taken (all_taken owners)) (at es i e found) ∙ taken owners (reverse (take i es)) e (turned IsFine (take i es) (first_ones IsFine es i fine)) here object))
    ]
