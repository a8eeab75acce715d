-- A part more was seen of a text, and what follows of a text that was seen whole.
use Rattle.std.proofs.Common.{◌≡◌, ℕ, ◌<◌, Bool, true, false, cond, List, [], ◌∷◌, ◌++◌, length, map, drop, get_or, append_assoc, ◌+◌, Option, Some, None, Result, Ok, Err, refl, sym, ap, subst, ◌∙◌, add-one, drop-cons}
use Rattle.std.specs.Cmp.{first_so, second_so}
use Rattle.std.specs.FinMap.{get}
use Rattle.std.specs.List.{AllByRecursion, list_any}
use Rattle.std.specs.Option.{IfSome}
use Rattle.std.specs.Prelude.{IfOk}
use Rattle.std.proofs.lemmas.Bool.{and_from}
use Rattle.std.proofs.lemmas.List.{map-append}
use Rattle.copy_text.specs.Lines.{before_end_mark, data_lines}
use Rattle.copy_text.proofs.LineLemmas.{lines_nil}
use Rattle.cat_rows.specs.declared.catalogue.Catalogue.{Catalogue}
use Rattle.cat_model.specs.declared.key.Key.TheVariants as key
use Rattle.cat_model.specs.declared.object.QName.{QName}
use Rattle.cat_model.specs.declared.value.Column.{Column}
use Rattle.cat_model.specs.declared.value.Value.TheVariants as value
use Rattle.cat_model.specs.Values.{Bytes, Named}
use Rattle.cat_model.specs.KeyEffects.{columns_of}
use Rattle.cat_model.specs.RowTexts.{rows_held}
use Rattle.cat_model.specs.Tables.{orphan}
use Rattle.cat_model.specs.Trees.{same_path}
use Rattle.cat_names.specs.DataSets.{TextsByOid}
use Rattle.cat_book.specs.Paths.{class_path_of}
use Rattle.table_rows.specs.Tables.{column_count}
use Rattle.table_rows.specs.Values.{text_of}
use Rattle.rows_named.specs.Tables.{first_table}
use Rattle.row_keys.specs.ByPlaces.{place_in}
use Rattle.key_sets.specs.declared.key_set.KeySet.{KeySet}
use Rattle.key_sets.specs.Holding.{holds}
use Rattle.plain_rows.specs.Lines.{AreAmong, LineFits, all_among, line_key, line_keys, none_again, same_some}
use Rattle.plain_rows.specs.Parts.{AreApart, EndsLine}
use Rattle.plain_loads.specs.declared.trying.KnownKeys.{KnownKeys}
use Rattle.plain_loads.specs.declared.trying.Link.{Link}
use Rattle.plain_loads.specs.declared.trying.TableTrial.{TableTrial}
use Rattle.plain_loads.specs.Meeting.{parent_text, text_at}
use Rattle.plain_loads.specs.Trying.{IsKnown, Judges, LinkHolds, Seen, Tries}
use Rattle.plain_loads.proofs.Holding.{takes}
use Rattle.plain_loads.proofs.Steps.{parents_at}
use Rattle.plain_loads.proofs.Without.{all_append}

-- ---- lists

pub all_last : {A : Type 0} (P : A → Type 0) (xs : List A) (y : A) → AllByRecursion P (xs ++ y ∷ []) → AllByRecursion P xs × P y
all_last P [] y all = (tt, all.0)
all_last P (x ∷ xs) y all =
    let rest = all_last P xs y all.1 in
    ((all.0, rest.0), rest.1)

pub all_from : {A : Type 0} (P : A → Type 0) (xs : List A) (i : ℕ) (x : A) → i < length xs → x ≡ get_or xs i x → P x → AllByRecursion P (drop (i + 1) xs) → AllByRecursion P (drop i xs)
all_from {A} P xs i x below is one all =
    let split : drop i xs ≡ x ∷ drop (i + 1) xs = rw add-one (drop-cons xs i x below) ∙ ap (λ (y : A). y ∷ drop (i + 1) xs) (sym is) in
    subst (AllByRecursion P) (sym split) (one, all)

among_append : (all xs ys : List (Option Bytes)) → all_among all xs ≡ true → all_among all ys ≡ true → all_among all (xs ++ ys) ≡ true
among_append all [] ys one other = other
among_append all (None ∷ xs) ys one other = among_append all xs ys one other
among_append all (Some key ∷ xs) ys one other =
    and_from _ _ (first_so (list_any (same_some key) all) (all_among all xs) one) (among_append all xs ys (second_so (list_any (same_some key) all) (all_among all xs) one) other)

-- ---- a part more

module _ (columns : List Column) (text part : Bytes) (ends : EndsLine text) where
  keys_more : (place : ℕ) → line_keys columns place (text ++ part) ≡ line_keys columns place text ++ line_keys columns place part
  keys_more place = ap (map (line_key columns place)) (ends part) ∙ map-append (line_key columns place) (data_lines text) (data_lines part)

  ends_more : EndsLine part → EndsLine (text ++ part)
  ends_more other more =
      ap data_lines (append_assoc text part more)
      ∙ ends (part ++ more)
      ∙ ap (λ (ls : List Bytes). data_lines text ++ ls) (other more)
      ∙ sym (append_assoc (data_lines text) (data_lines part) (data_lines more))
      ∙ ap (λ (ls : List Bytes). ls ++ data_lines more) (sym (ends part))

  links_more : (links : List Link) → AllByRecursion (LinkHolds columns text) links → AllByRecursion (LinkHolds columns part) links → AllByRecursion (LinkHolds columns (text ++ part)) links
  links_more [] one other = tt
  links_more (link ∷ links) one other = (
    λ all among. ap (all_among all) (keys_more link.place) ∙ among_append all (line_keys columns link.place text) (line_keys columns link.place part) (one.0 all among) (other.0 all among),
    links_more links one.1 other.1,
  )

  apart_more : (own : Option ℕ) (old new : KeySet) → IfSome own (λ place. AreApart (line_keys columns place text) old)
      → IfSome own (λ place. (before : List (Option Bytes)) → AreApart before old → AreApart (before ++ line_keys columns place part) new) → IfSome own (λ place. AreApart (line_keys columns place (text ++ part)) new)
  apart_more None old new one more = tt
  apart_more (Some place) old new one more = subst (λ (ks : List (Option Bytes)). AreApart ks new) (sym (keys_more place)) (more (line_keys columns place text) one)

pub seen_more : (trial : TableTrial) (old new : KeySet) (text part : Bytes) → Seen trial old text → EndsLine part → AllByRecursion (LineFits trial.columns trial.primary.now) (data_lines part)
    → IfSome trial.own (λ place. (before : List (Option Bytes)) → AreApart before old → AreApart (before ++ line_keys trial.columns place part) new)
    → AllByRecursion (LinkHolds trial.columns part) trial.links.items → Seen trial new (text ++ part)
seen_more trial old new text part seen ends fit apart linked = record {
  ends = ends_more trial.columns text part seen.ends ends;
  fit = subst (AllByRecursion (LineFits trial.columns trial.primary.now)) (sym (seen.ends part)) (all_append (LineFits trial.columns trial.primary.now) (data_lines text) (data_lines part) seen.fit fit);
  apart = apart_more trial.columns text part seen.ends trial.own old new seen.apart apart;
  linked = links_more trial.columns text part seen.ends trial.links.items seen.linked linked;
}

-- ---- before the first part

no_lines : data_lines [] ≡ []
no_lines = ap before_end_mark lines_nil

pub seen_nothing : (trial : TableTrial) (keys : KeySet) → ((key : Bytes) → holds keys key ≡ false) → Seen trial keys []
seen_nothing trial keys none = record {
  ends = λ more. ap (λ (ls : List Bytes). ls ++ data_lines more) (sym no_lines);
  fit = subst (AllByRecursion (LineFits trial.columns trial.primary.now)) (sym no_lines) tt;
  apart = by trial.own;
  linked = links trial.links.items;
}
  where
    nothing : (place : ℕ) → line_keys trial.columns place [] ≡ []
    nothing place = ap (map (line_key trial.columns place)) no_lines

    by : (own : Option ℕ) → IfSome own (λ place. AreApart (line_keys trial.columns place []) keys)
    by None = tt
    by (Some place) = subst (λ (ks : List (Option Bytes)). AreApart ks keys) (sym (nothing place)) (record { exact = none; apart = refl })

    links : (ls : List Link) → AllByRecursion (LinkHolds trial.columns []) ls
    links [] = tt
    links (link ∷ ls) = (λ all among. ap (all_among all) (nothing link.place), links ls)

-- ---- a text that was seen whole

pub none_twice : (columns : List Column) (own : Option ℕ) (keys : KeySet) (text : Bytes) → IfSome own (λ place. AreApart (line_keys columns place text) keys) → IfSome own (λ place. none_again [] (line_keys columns place text) ≡ true)
none_twice columns None keys text apart = tt
none_twice columns (Some place) keys text apart = apart.apart

pub are_among : (keys : List (Option Bytes)) (set : KeySet) → AreApart keys set → AreAmong keys set
are_among keys set are key there = sym (are.exact key) ∙ there

-- the keys of a parent other than the table itself
pub link_has_parents : (named : Named) (cat : Catalogue) (texts : TextsByOid) (q : QName) (columns : List Column) (names : List Bytes) (place : ℕ) (text : Bytes) (parent : QName) (parent_names : List Bytes) (link : Link) (k : KnownKeys)
    → same_path q parent ≡ false → map (place_in columns) names ≡ Some place ∷ [] → map (place_in (columns_of (get named (key.Rel parent)))) parent_names ≡ Some k.place ∷ []
    → k.path ≡ parent → first_table cat parent cat.pg_class ≡ Some k.table → link.place ≡ place → link.parents.now ≡ k.keys → IsKnown named texts k → LinkHolds columns text link
    → orphan columns names (rows_held text) (columns_of (get named (key.Rel parent))) parent_names (rows_held (parent_text cat texts q text parent)) ≡ None
link_has_parents named cat texts q columns names place text parent parent_names link k other is parent_is path table at keys known holds =
    let under = columns_of (get named (key.Rel parent)) in
    let behind : parent_text cat texts q text parent ≡ text_of texts k.table =
    ap (λ (b : Bool). cond b text (text_at texts (first_table cat parent cat.pg_class))) other ∙ ap (text_at texts) table in
    let parents : AreAmong (line_keys under k.place (text_of texts k.table)) k.keys = subst (λ (p : QName). AreAmong (line_keys (columns_of (get named (key.Rel p))) k.place (text_of texts k.table)) k.keys) path known in
    let among = holds (line_keys under k.place (text_of texts k.table)) (subst (AreAmong (line_keys under k.place (text_of texts k.table))) (sym keys) parents) in
    ap (λ (xs : Bytes). orphan columns names (rows_held text) under parent_names (rows_held xs)) behind
    ∙ parents_at columns names place text under parent_names k.place (text_of texts k.table) is parent_is (subst (λ (n : ℕ). all_among (line_keys under k.place (text_of texts k.table)) (line_keys columns n text) ≡ true) at among)

-- ---- a trial and its table

pub both_ok : {X E : Type 0} (r : Result X E) (P Q R : X → Type 0) → ((x : X) → P x → Q x → R x) → IfOk r P → IfOk r Q → IfOk r R
both_ok (Ok x) P Q R f p q = f x p q
both_ok (Err e) P Q R f p q = tt

pub if_some : {A : Type 0} (o : Option A) (P Q : A → Type 0) → ((a : A) → P a → Q a) → IfSome o P → IfSome o Q
if_some None P Q weaker p = p
if_some (Some a) P Q weaker p = weaker a p

pub judges : (named : Named) (cat : Catalogue) (known : List KnownKeys) (table : ℕ) (path : QName) (trial : TableTrial) → Some path ≡ class_path_of cat table
    → ((columns : List Column) → get named (key.Rel path) ≡ Some (value.Table columns) → length columns ≡ column_count cat table)
    → Tries named cat known table path trial → Judges named cat known table trial
judges named cat known table path trial is many tries = record {
  takes = λ texts are keys seen. takes named cat texts table path is many (tries.meets texts are (text_of texts table) keys seen);
  columns = tries.columns;
  oid = tries.oid;
}

pub known_from : (named : Named) (cat : Catalogue) (before : List KnownKeys) (table : ℕ) (trial : TableTrial) (place : ℕ) (keys : KeySet) (texts : TextsByOid) → trial.own ≡ Some place
    → Judges named cat before table trial → Seen trial keys (text_of texts table) → AreAmong (line_keys (columns_of (get named (key.Rel trial.path))) place (text_of texts trial.table)) keys
known_from named cat before table trial place keys texts own judge seen =
    let apart : AreApart (line_keys trial.columns place (text_of texts table)) keys = subst (λ (o : Option ℕ). IfSome o (λ n. AreApart (line_keys trial.columns n (text_of texts table)) keys)) own seen.apart in
    let among : AreAmong (line_keys trial.columns place (text_of texts table)) keys = are_among _ keys apart in
    subst (λ (columns : List Column). AreAmong (line_keys columns place (text_of texts trial.table)) keys) (sym judge.columns)
    (subst (λ (oid : ℕ). AreAmong (line_keys trial.columns place (text_of texts oid)) keys) (sym judge.oid) among)
