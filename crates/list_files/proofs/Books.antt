-- A book of places with one more, and the entry at a place.
use Rattle.std.proofs.Common.{◌≡◌, ℕ, zero, suc, nat_eq, ◌<◌, Bool, cond, false, List, [], ◌∷◌, length, get_or, Option, Some, ap, ◌∙◌, sym, arith}
use Rattle.std.specs.HashMap.{HashMap, get}
use Rattle.std.specs.List.{slice_get}
use Rattle.std.specs.Option.{option_map_or}
use Rattle.toc_entry.specs.declared.entry.Entry.{Entry}
use Rattle.list_files.specs.Books.{LeadsTo}
use Rattle.list_files.specs.Edits.{is_session_at}
use Rattle.entry_choices.specs.Kinds.{is_one_of, session_kinds}

pub leads_more : {S : Type 0} (before : List Entry) (e : Entry) (place : ℕ) (m n : HashMap ℕ ℕ S) →
    ((id : ℕ) → get nat_eq n id ≡ cond (nat_eq e.dump_id id) (Some place) (get nat_eq m id)) → LeadsTo before m → place ≡ length before → LeadsTo (e ∷ before) n
leads_more before e place m n updated leads at = λ id. updated id ∙ (λ i. cond (nat_eq e.dump_id id) (Some (at i)) (leads id i))

found_at : (es : List Entry) (i : ℕ) (e : Entry) → i < length es → e ≡ get_or es i e → slice_get es i ≡ Some e
found_at [] i e below is = absurd (omega arith)
found_at (x ∷ xs) zero e below is = ap (λ (y : Entry). Some y) (sym is)
found_at (x ∷ xs) (suc i) e below is = let b : i < length xs = omega arith in found_at xs i e b is

pub session_here : (es : List Entry) (i : ℕ) (e : Entry) (b : Bool) → i < length es → e ≡ get_or es i e → b ≡ is_one_of session_kinds e.desc → b ≡ is_session_at es i
session_here es i e b below is told = told ∙ sym (ap (λ (o : Option Entry). option_map_or (λ (x : Entry). is_one_of session_kinds x.desc) o false) (found_at es i e below is))
