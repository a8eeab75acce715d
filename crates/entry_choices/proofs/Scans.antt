-- Going back over entries in search of an id, which changes where an entry leads on to another one.
use Rattle.std.proofs.Common.{◌≡◌, ℕ, nat_eq, ◌==◌, ◌&&◌, ◌||◌, Bool, cond, true, false, List, [], ◌∷◌, ◌++◌, Option, Some, None, unwrap_or, reverse, length, refl, ap, ◌∙◌, sym}
use Rattle.std.proofs.lemmas.Bool.{ne_eqb, eq-eqb}
use Rattle.std.specs.Option.{option_and_then, option_or}
use Rattle.std.proofs.lemmas.List.{nil_from_length}
use Rattle.toc_entry.specs.declared.entry.Entry.{Entry}
use Rattle.entry_choices.specs.declared.options.Options.{Options}
use Rattle.entry_choices.specs.Kinds.{is_one_of, session_kinds, database_kinds}
use Rattle.entry_choices.specs.Choices.{section_among, is_taken_among, section_behind, section_by, is_taken_behind, first_dependency, takes, is_beside, is_allowed, passes}
use Rattle.entry_choices.specs.Asking.{asked_of}
use Rattle.entry_choices.proofs.Behind.{last_first}

-- ---- sections

pub section_other : (es before : List Entry) (e : Entry) (id : ℕ) → es ≡ before ++ e ∷ [] → (e.dump_id ≡ id → ⊥) → section_among (reverse es) id ≡ section_among (reverse before) id
unfolding section_among
section_other es before e id are other =
    ap (λ (xs : List Entry). section_among (reverse xs) id) are
    ∙ ap (λ (xs : List Entry). section_among xs id) (last_first before e)
    ∙ ap (λ (b : Bool). elim b as (λ _. Option ℕ) [ true ↦ Some (section_behind (reverse before) e) | false ↦ section_among (reverse before) id ]) (ne_eqb e.dump_id id other)

pub section_here : (es before : List Entry) (e : Entry) (id : ℕ) → es ≡ before ++ e ∷ [] → e.dump_id ≡ id → section_among (reverse es) id ≡ Some (section_behind (reverse before) e)
unfolding section_among
section_here es before e id are same =
    ap (λ (xs : List Entry). section_among (reverse xs) id) are
    ∙ ap (λ (xs : List Entry). section_among xs id) (last_first before e)
    ∙ ap (λ (b : Bool). elim b as (λ _. Option ℕ) [ true ↦ Some (section_behind (reverse before) e) | false ↦ section_among (reverse before) id ]) (eq-eqb e.dump_id id same)

-- an entry of a section, or without dependencies, has it by itself
own_section : (first : Option ℕ) (e : Entry) → (e.section ≡ 1 → ⊥) → section_by first e ≡ section_by None e
own_section first e h =
    let no : (e.section == 1) ≡ false = ne_eqb e.section 1 h in
    ap (λ (b : Bool). cond b (unwrap_or first 2) e.section) no ∙ sym (ap (λ (b : Bool). cond b 2 e.section) no)

pub section_own : (es before : List Entry) (e : Entry) (id : ℕ) → es ≡ before ++ e ∷ [] → e.dump_id ≡ id → (e.section ≡ 1 → ⊥) → section_among (reverse es) id ≡ Some (section_by None e)
section_own es before e id are same own = section_here es before e id are same ∙ ap Some (own_section (option_and_then (section_among (reverse before)) (first_dependency e)) e own)

pub section_alone : (es before : List Entry) (e : Entry) (id : ℕ) → es ≡ before ++ e ∷ [] → e.dump_id ≡ id → None ≡ first_dependency e → section_among (reverse es) id ≡ Some (section_by None e)
section_alone es before e id are same alone = section_here es before e id are same ∙ ap (λ (d : Option ℕ). Some (section_by (option_and_then (section_among (reverse before)) d) e)) (sym alone)

led : (found : Option ℕ) (e : Entry) → e.section ≡ 1 → Some (section_by found e) ≡ option_or found (Some (section_by None e))
led (Some s) e h = ap (λ (b : Bool). Some (cond b s e.section)) (eq-eqb e.section 1 h)
led None e h = refl

pub section_led : (es before : List Entry) (e : Entry) (id first : ℕ) → es ≡ before ++ e ∷ [] → e.dump_id ≡ id → e.section ≡ 1 → Some first ≡ first_dependency e →
    section_among (reverse es) id ≡ option_or (section_among (reverse before) first) (Some (section_by None e))
section_led es before e id first are same none leads =
    section_here es before e id are same
    ∙ ap (λ (d : Option ℕ). Some (section_by (option_and_then (section_among (reverse before)) d) e)) (sym leads)
    ∙ led (section_among (reverse before) first) e none

-- ---- whether one is taken

pub taken_other : (o : Options) (es before : List Entry) (e : Entry) (id : ℕ) → es ≡ before ++ e ∷ [] → (e.dump_id ≡ id → ⊥) → is_taken_among o (reverse es) id ≡ is_taken_among o (reverse before) id
unfolding is_taken_among
taken_other o es before e id are other =
    ap (λ (xs : List Entry). is_taken_among o (reverse xs) id) are
    ∙ ap (λ (xs : List Entry). is_taken_among o xs id) (last_first before e)
    ∙ ap (λ (b : Bool). elim b as (λ _. Option Bool) [ true ↦ Some (is_taken_behind o (reverse before) e) | false ↦ is_taken_among o (reverse before) id ]) (ne_eqb e.dump_id id other)

taken_here : (o : Options) (es before : List Entry) (e : Entry) (id : ℕ) → es ≡ before ++ e ∷ [] → e.dump_id ≡ id → is_taken_among o (reverse es) id ≡ Some (is_taken_behind o (reverse before) e)
unfolding is_taken_among
taken_here o es before e id are same =
    ap (λ (xs : List Entry). is_taken_among o (reverse xs) id) are
    ∙ ap (λ (xs : List Entry). is_taken_among o xs id) (last_first before e)
    ∙ ap (λ (b : Bool). elim b as (λ _. Option Bool) [ true ↦ Some (is_taken_behind o (reverse before) e) | false ↦ is_taken_among o (reverse before) id ]) (eq-eqb e.dump_id id same)

-- by the tests: of the session, of the database, beside another, allowed
by_tests : (s d b a p : Bool) (first : Option ℕ) (among : ℕ → Option Bool) →
    cond s true (cond d false (cond b (a && unwrap_or (option_and_then among first) p) p))
    ≡ unwrap_or (option_and_then among (cond s None (cond d None (cond b (cond a first None) None)))) (cond s true (cond d false (cond b (a && unwrap_or None p) p)))
by_tests true d b a p first among = refl
by_tests false true b a p first among = refl
by_tests false false false a p first among = refl
by_tests false false true false p first among = refl
by_tests false false true true p None among = refl
by_tests false false true true p (Some id) among = refl

pub taken_by_asked : (o : Options) (section : ℕ) (among : ℕ → Option Bool) (e : Entry) →
    takes o section (option_and_then among (first_dependency e)) e ≡ unwrap_or (option_and_then among (asked_of o e)) (takes o section None e)
taken_by_asked o section among e =
    by_tests (is_one_of session_kinds e.desc) (is_one_of database_kinds e.desc) (is_beside e) (is_allowed o e) (passes o section e) (first_dependency e) among

pub taken_alone : (o : Options) (es before : List Entry) (e : Entry) (id : ℕ) → es ≡ before ++ e ∷ [] → e.dump_id ≡ id → None ≡ asked_of o e →
    is_taken_among o (reverse es) id ≡ Some (takes o (section_behind (reverse before) e) None e)
taken_alone o es before e id are same alone =
    taken_here o es before e id are same
    ∙ ap Some (taken_by_asked o (section_behind (reverse before) e) (is_taken_among o (reverse before)) e)
    ∙ ap (λ (d : Option ℕ). Some (unwrap_or (option_and_then (is_taken_among o (reverse before)) d) (takes o (section_behind (reverse before) e) None e))) (sym alone)

or_else : (found : Option Bool) (b : Bool) → Some (unwrap_or found b) ≡ option_or found (Some b)
or_else (Some a) b = refl
or_else None b = refl

pub taken_led : (o : Options) (es before : List Entry) (e : Entry) (id first : ℕ) → es ≡ before ++ e ∷ [] → e.dump_id ≡ id → Some first ≡ asked_of o e →
    is_taken_among o (reverse es) id ≡ option_or (is_taken_among o (reverse before) first) (Some (takes o (section_behind (reverse before) e) None e))
taken_led o es before e id first are same leads =
    taken_here o es before e id are same
    ∙ ap Some (taken_by_asked o (section_behind (reverse before) e) (is_taken_among o (reverse before)) e)
    ∙ ap (λ (d : Option ℕ). Some (unwrap_or (option_and_then (is_taken_among o (reverse before)) d) (takes o (section_behind (reverse before) e) None e))) (sym leads)
    ∙ or_else (is_taken_among o (reverse before) first) (takes o (section_behind (reverse before) e) None e)

-- ---- what was found so far

pub or_stays : {X : Type 0} (a c : Option X) (b : X) → option_or (option_or a (Some b)) c ≡ option_or a (Some b)
or_stays None c b = refl
or_stays (Some x) c b = refl

pub section_of_none : (es : List Entry) (id : ℕ) → length es ≡ 0 → section_among (reverse es) id ≡ None
unfolding section_among
section_of_none es id none = ap (λ (xs : List Entry). section_among (reverse xs) id) (nil_from_length es none)

pub taken_of_none : (o : Options) (es : List Entry) (id : ℕ) → length es ≡ 0 → is_taken_among o (reverse es) id ≡ None
unfolding is_taken_among
taken_of_none o es id none = ap (λ (xs : List Entry). is_taken_among o (reverse xs) id) (nil_from_length es none)
