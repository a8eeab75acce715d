-- The fault that is found among tables is the first one, and where none is found no table has one.
use Rattle.std.proofs.Common.{◌≡◌, List, [], ◌∷◌, Option, Some, None, unwrap_or, refl, sym, ap, subst}
use Rattle.std.proofs.lemmas.Option.{none-some}
use Rattle.cat_rows.specs.declared.catalogue.Catalogue.{Catalogue}
use Rattle.cat_rows.specs.declared.table.SysTable.{SysTable}
use Rattle.cat_rows.specs.declared.table.SysTable.TheVariants.{PgAuthid, PgAuthMembers, PgDatabase, PgNamespace, PgType, PgEnum, PgClass, PgAttribute, PgAttrdef, PgConstraint, PgIndex, PgSequence, PgRewrite, PgDescription, PgDepend}
use Rattle.cat_names.specs.declared.fault.CatFault.{CatFault}
use Rattle.cat_names.specs.declared.fault.LineFault.{LineFault}
use Rattle.cat_names.specs.Findings.{in_table, fault_before}
use Rattle.well_formed.specs.Catalogues.{table_fault, first_in, all_tables}
use Rattle.well_formed.specs.Firsts.{AreClean, IsFirstAmong}

inside : {A : Type 0} (x y : A) → Some x ≡ Some y → x ≡ y
inside x y e = ap (λ o. unwrap_or o x) e

-- the first table of several has a fault, or those behind it
step : (cat : Catalogue) (table : SysTable) (tables : List SysTable) (fault : CatFault) (found : Option LineFault)
    → table_fault cat table ≡ found
    → fault_before (in_table table found) (first_in cat tables) ≡ Some fault
    → (first_in cat tables ≡ Some fault → IsFirstAmong cat tables fault)
    → IsFirstAmong cat (table ∷ tables) fault
step cat table tables fault (Some f) is e more =
    let own : CatFault = record { table = table; line = f.line; kind = f.kind } in
    let P : CatFault → Type 0 = λ it. IsFirstAmong cat (table ∷ tables) it in
    subst P (inside own fault e) (record { before = []; behind = tables; order = refl; earlier = tt; first = is })
step cat table tables fault None is e more =
    let among = more e in
    record {
      before = table ∷ among.before;
      behind = among.behind;
      order = ap (λ ts. table ∷ ts) among.order;
      earlier = (is, among.earlier);
      first = among.first;
    }

pub told : (cat : Catalogue) (tables : List SysTable) (fault : CatFault) → first_in cat tables ≡ Some fault → IsFirstAmong cat tables fault
unfolding first_in
told cat [] fault e = absurd (none-some fault e)
told cat (table ∷ tables) fault e = step cat table tables fault (table_fault cat table) refl e (told cat tables fault)

-- none is found
clean_step : (cat : Catalogue) (table : SysTable) (tables : List SysTable) (found : Option LineFault)
    → table_fault cat table ≡ found
    → fault_before (in_table table found) (first_in cat tables) ≡ None
    → (first_in cat tables ≡ None → AreClean cat tables)
    → AreClean cat (table ∷ tables)
clean_step cat table tables (Some f) is e more = absurd (none-some _ (sym e))
clean_step cat table tables None is e more = (is, more e)

pub clean : (cat : Catalogue) (tables : List SysTable) → first_in cat tables ≡ None → AreClean cat tables
unfolding first_in
clean cat [] e = tt
clean cat (table ∷ tables) e = clean_step cat table tables (table_fault cat table) refl e (clean cat tables)

pub none_found : (cat : Catalogue) → ((table : SysTable) → table_fault cat table ≡ None) → (tables : List SysTable) → first_in cat tables ≡ None
unfolding first_in
none_found cat none [] = refl
none_found cat none (table ∷ tables) =
    let Q : Option LineFault → Type 0 = λ found. fault_before (in_table table found) (first_in cat tables) ≡ None in
    subst Q (sym (none table)) (none_found cat none tables)

-- each of the tables is one of all
pub each_clean : (cat : Catalogue) → AreClean cat all_tables → (table : SysTable) → table_fault cat table ≡ None
each_clean cat all PgAuthid = all.0
each_clean cat all PgAuthMembers = all.1.0
each_clean cat all PgDatabase = all.1.1.0
each_clean cat all PgNamespace = all.1.1.1.0
each_clean cat all PgType = all.1.1.1.1.0
each_clean cat all PgEnum = all.1.1.1.1.1.0
each_clean cat all PgClass = all.1.1.1.1.1.1.0
each_clean cat all PgAttribute = all.1.1.1.1.1.1.1.0
each_clean cat all PgAttrdef = all.1.1.1.1.1.1.1.1.0
each_clean cat all PgConstraint = all.1.1.1.1.1.1.1.1.1.0
each_clean cat all PgIndex = all.1.1.1.1.1.1.1.1.1.1.0
each_clean cat all PgSequence = all.1.1.1.1.1.1.1.1.1.1.1.0
each_clean cat all PgRewrite = all.1.1.1.1.1.1.1.1.1.1.1.1.0
each_clean cat all PgDescription = all.1.1.1.1.1.1.1.1.1.1.1.1.1.0
each_clean cat all PgDepend = all.1.1.1.1.1.1.1.1.1.1.1.1.1.1.0
