-- The numbers of the columns of each table rise from 1 up, whichever they had, and numbers that rose are kept.
use Rattle.std.proofs.Common.{◌≡◌, ◌⊎◌, inl, inr, ℕ, zero, suc, ◌+◌, ◌<◌, ◌≤◌, ℤ, pos, Bool, true, false, cond, not, ◌&&◌, ◌||◌, true≢false, List, [], ◌∷◌, map, length, Option, Some, None, unwrap_or, refl, sym, ap, ap₂, subst, ◌∙◌, arith}
use Rattle.std.proofs.lemmas.Bool.Decides.{nat_tests}
use Rattle.std.specs.Cmp.{tied_itself, first_so, second_so}
use Rattle.std.specs.FinMap.{empty, get, insert, entries, get-insert}
use Rattle.std.specs.List.{slice_get, list_any}
use Rattle.std.specs.Ordering.{eq_by_cmp, is_eq}
use Rattle.cat_model.specs.declared.object.QName.{QName}
use Rattle.cat_model.specs.declared.key.Key.{Key}
use Rattle.cat_model.specs.declared.key.Key.TheVariants as key
use Rattle.cat_model.specs.declared.value.Value.{Value}
use Rattle.cat_model.specs.declared.value.Value.TheVariants as value
use Rattle.cat_model.specs.declared.value.Column.{Column}
use Rattle.cat_model.specs.KeyLaws.{key_cmp_total, key_cmp-IsAntisymmetric, key_eq-same}
use Rattle.cat_model.specs.Keys.{key_cmp}
use Rattle.cat_model.specs.Lexemes.{same_text}
use Rattle.cat_model.specs.Tables.{distinct}
use Rattle.cat_model.specs.Values.{Bytes, Named}
use Rattle.cat_model.proofs.MarkLaws.{same_text-self}
use Rattle.cat_sound.proofs.Lists.{IsIn}
use Rattle.cat_sound.proofs.Maps.{entry_of, of_entry}
use Rattle.column_numbers.specs.Numbers.{NumbersOf, number_of}
use Rattle.column_numbers.specs.Rising.{HaveApartNames, AreRising, HadRising}
use Rattle.column_numbers.specs.Rule.{last, natural, next_number, number_after, with_columns, with_entry, with_entries}

same_thing : {T : Type 0} (t u : T) → Some t ≡ Some u → t ≡ u
same_thing t u e = cc

same_of_none : (b : Bool) → not b ≡ true → b ≡ true → ⊥
same_of_none true isnt is = true≢false (sym isnt)
same_of_none false isnt is = true≢false (sym is)

-- a name that no further column has
named_again : (name : Bytes) (cs : List Column) (c : Column) → IsIn c cs → name ≡ c.name → list_any (same_text name) (map (λ c. c.name) cs) ≡ true
named_again name [] c among same = absurd among
named_again name (d ∷ cs) c (inl is) same =
    let here : same_text name d.name ≡ true = ap (same_text name) (ap (λ (x : Column). x.name) is ∙ sym same) ∙ same_text-self name in
    rw here refl
named_again name (d ∷ cs) c (inr later) same = by (same_text name d.name) (list_any (same_text name) (map (λ c. c.name) cs)) (named_again name cs c later same)
  where
    by : (a b : Bool) → b ≡ true → a || b ≡ true
    by true b so = refl
    by false b so = so

next_above : (before left had : ℕ) → before < next_number before left had
next_above before left had = grind (arith, nat_tests)

next_had : (before left n : ℕ) → before < n → n + left ≤ last → next_number before left n ≡ n
next_had before left n above room = grind (arith, nat_tests)

-- ---- one key among the numbers

module _ (numbers : NumbersOf) (k j : Key) (n : ℤ) where
  put_other : (k ≡ j → ⊥) → get (insert numbers j n) k ≡ get numbers k
  put_other apart = get-insert key_cmp_total numbers j n k ∙ ap (λ (b : Bool). cond b (Some n) (get numbers k)) (by (eq_by_cmp key_cmp k j) refl)
    where
      by : (b : Bool) → eq_by_cmp key_cmp k j ≡ b → eq_by_cmp key_cmp k j ≡ false
      by true is = absurd (apart (key_eq-same k j is))
      by false is = is

itself : (k : Key) → eq_by_cmp key_cmp k k ≡ true
itself k = ap is_eq (tied_itself key_cmp_total k)

put_same : (numbers : NumbersOf) (k : Key) (n : ℤ) → get (insert numbers k n) k ≡ Some n
put_same numbers k n = get-insert key_cmp_total numbers k n k ∙ ap (λ (b : Bool). cond b (Some n) (get numbers k)) (itself k)

module _ (had : NumbersOf) where
  -- ---- the numbers of one table

  abbrev numbers_from : QName → ℕ → List Column → List ℕ
  numbers_from q before [] = []
  numbers_from q before (c ∷ cs) = number_after had q before c cs ∷ numbers_from q (number_after had q before c cs) cs

  number_there : (q : QName) (before : ℕ) (cs : List Column) (i : ℕ) (c : Column) → slice_get cs i ≡ Some c → (n : ℕ) × (slice_get (numbers_from q before cs) i ≡ Some n)
  number_there q before [] i c at = absurd cc
  number_there q before (d ∷ cs) zero c at = (number_after had q before d cs, refl)
  number_there q before (d ∷ cs) (suc i) c at = number_there q (number_after had q before d cs) cs i c at

  above : (q : QName) (before : ℕ) (cs : List Column) (i n : ℕ) → slice_get (numbers_from q before cs) i ≡ Some n → before < n
  above q before [] i n at = absurd cc
  above q before (c ∷ cs) zero n at = subst (λ (m : ℕ). before < m) (same_thing (number_after had q before c cs) n at) (next_above before (length cs) _)
  above q before (c ∷ cs) (suc i) n at =
      let later : number_after had q before c cs < n = above q (number_after had q before c cs) cs i n at in
      let first : before < number_after had q before c cs = next_above before (length cs) _ in
      after before (number_after had q before c cs) n first later
    where
      after : (a b c : ℕ) → a < b → b < c → a < c
      after a b c one two = omega arith

  rising : (q : QName) (before : ℕ) (cs : List Column) (i j m n : ℕ) → i < j → slice_get (numbers_from q before cs) i ≡ Some m → slice_get (numbers_from q before cs) j ≡ Some n → m < n
  rising q before [] i j m n less at_i at_j = absurd cc
  rising q before (c ∷ cs) zero zero m n less at_i at_j = absurd (omega arith)
  rising q before (c ∷ cs) zero (suc j) m n less at_i at_j =
      subst (λ (k : ℕ). k < n) (same_thing (number_after had q before c cs) m at_i) (above q (number_after had q before c cs) cs j n at_j)
  rising q before (c ∷ cs) (suc i) zero m n less at_i at_j = absurd (omega arith)
  rising q before (c ∷ cs) (suc i) (suc j) m n less at_i at_j = rising q (number_after had q before c cs) cs i j m n (omega arith) at_i at_j

  columns_other : (q : QName) (before : ℕ) (cs : List Column) (numbers : NumbersOf) (k : Key) → ((c : Column) → IsIn c cs → k ≡ key.Default q c.name → ⊥) → get (with_columns had q before cs numbers) k ≡ get numbers k
  columns_other q before [] numbers k apart = refl
  columns_other q before (c ∷ cs) numbers k apart =
      columns_other q (number_after had q before c cs) cs (insert numbers (key.Default q c.name) (pos (number_after had q before c cs))) k (λ d among. apart d (inr among))
      ∙ put_other numbers k (key.Default q c.name) (pos (number_after had q before c cs)) (apart c (inl refl))

  columns_put : (q : QName) (before : ℕ) (cs : List Column) (numbers : NumbersOf) (i : ℕ) (c : Column) (n : ℕ) → distinct (map (λ c. c.name) cs) ≡ true → slice_get cs i ≡ Some c → slice_get (numbers_from q before cs) i ≡ Some n → get (with_columns had q before cs numbers) (key.Default q c.name) ≡ Some (pos n)
  columns_put q before [] numbers i c n once at is = absurd cc
  columns_put q before (d ∷ cs) numbers zero c n once at is =
      let first = number_after had q before d cs in
      let more = insert numbers (key.Default q d.name) (pos first) in
      ap (λ (x : Column). get (with_columns had q first cs more) (key.Default q x.name)) (sym (same_thing d c at))
      ∙ columns_other q first cs more (key.Default q d.name) (λ e among same. absurd (same_of_none (list_any (same_text d.name) (map (λ c. c.name) cs)) (first_so (not (list_any (same_text d.name) (map (λ c. c.name) cs))) (distinct (map (λ c. c.name) cs)) once) (named_again d.name cs e among (name_of d.name e.name same))))
      ∙ put_same numbers (key.Default q d.name) (pos first)
      ∙ ap (λ (m : ℕ). Some (pos m)) (same_thing first n is)
    where
      name_of : (a b : Bytes) → key.Default q a ≡ key.Default q b → a ≡ b
      name_of a b same = cc
  columns_put q before (d ∷ cs) numbers (suc i) c n once at is =
      columns_put q (number_after had q before d cs) cs (insert numbers (key.Default q d.name) (pos (number_after had q before d cs))) i c n
      (second_so (not (list_any (same_text d.name) (map (λ c. c.name) cs))) (distinct (map (λ c. c.name) cs)) once) at is

  kept_there : (q : QName) (before : ℕ) (cs : List Column) (i : ℕ) (c : Column) → HadRising had q before cs → slice_get cs i ≡ Some c → (n : ℕ) × (slice_get (numbers_from q before cs) i ≡ Some n) × (number_of had q c.name ≡ pos n)
  kept_there q before [] i c rose at = absurd cc
  kept_there q before (d ∷ cs) zero c rose at =
      let same : number_after had q before d cs ≡ rose.0 = ap (λ (z : ℤ). next_number before (length cs) (natural z)) rose.1 ∙ next_had before (length cs) rose.0 rose.2 rose.3 in
      (rose.0, ap Some same, ap (λ (x : Column). number_of had q x.name) (sym (same_thing d c at)) ∙ rose.1)
  kept_there q before (d ∷ cs) (suc i) c rose at =
      let same : number_after had q before d cs ≡ rose.0 = ap (λ (z : ℤ). next_number before (length cs) (natural z)) rose.1 ∙ next_had before (length cs) rose.0 rose.2 rose.3 in
      kept_there q (number_after had q before d cs) cs i c (subst (λ (n : ℕ). HadRising had q n cs) (sym same) rose.4) at

  -- ---- a table among entries

  module _ (q : QName) (columns : List Column) (once : distinct (map (λ c. c.name) columns) ≡ true) (i : ℕ) (c : Column) (at : slice_get columns i ≡ Some c) (n : ℕ) (is_n : slice_get (numbers_from q 0 columns) i ≡ Some n) where
    keeps : (e : Key × Value) (numbers : NumbersOf) → (e.0 ≡ key.Rel q → e.1 ≡ value.Table columns) → get numbers (key.Default q c.name) ≡ Some (pos n) → get (with_entry had e numbers) (key.Default q c.name) ≡ Some (pos n)
    keeps (key.Rel p, value.Table cs) numbers only there = by (eq_by_cmp key_cmp (key.Rel p) (key.Rel q)) refl
      where
        path_of : key.Default q c.name ≡ key.Default p c.name → q ≡ p
        path_of same = cc

        by : (b : Bool) → eq_by_cmp key_cmp (key.Rel p) (key.Rel q) ≡ b → get (with_columns had p 0 cs numbers) (key.Default q c.name) ≡ Some (pos n)
        by true is =
            let keys : key.Rel p ≡ key.Rel q = key_eq-same (key.Rel p) (key.Rel q) is in
            let values : value.Table cs ≡ value.Table columns = only keys in
            let paths : p ≡ q = cc in
            let lists : cs ≡ columns = cc in
            ap₂ (λ (x : QName) (y : List Column). get (with_columns had x 0 y numbers) (key.Default q c.name)) paths lists
            ∙ columns_put q 0 columns numbers i c n once at is_n
        by false is = columns_other p 0 cs numbers (key.Default q c.name) (λ d among same. apart d.name same) ∙ there
          where
            apart : (name : Bytes) → key.Default q c.name ≡ key.Default p name → ⊥
            apart name same =
                let paths : q ≡ p = cc in
                let so : eq_by_cmp key_cmp (key.Rel p) (key.Rel q) ≡ true = ap (λ (x : QName). eq_by_cmp key_cmp (key.Rel p) (key.Rel x)) paths ∙ itself (key.Rel p) in
                true≢false (sym so ∙ is)
    keeps e numbers only there = there

    through : (es : List (Key × Value)) (numbers : NumbersOf) → ((v : Value) → IsIn (key.Rel q, v) es → v ≡ value.Table columns) → IsIn (key.Rel q, value.Table columns) es ⊎ (get numbers (key.Default q c.name) ≡ Some (pos n)) → get (with_entries had es numbers) (key.Default q c.name) ≡ Some (pos n)
    through [] numbers only (inl among) = absurd among
    through [] numbers only (inr there) = there
    through (e ∷ es) numbers only (inl (inl is)) =
        through es (with_entry had e numbers) (λ v among. only v (inr among))
        (inr (subst (λ (f : Key × Value). get (with_entry had f numbers) (key.Default q c.name) ≡ Some (pos n)) (sym is) (columns_put q 0 columns numbers i c n once at is_n)))
    through (e ∷ es) numbers only (inl (inr later)) = through es (with_entry had e numbers) (λ v among. only v (inr among)) (inl later)
    through (e ∷ es) numbers only (inr there) =
        through es (with_entry had e numbers) (λ v among. only v (inr among))
        (inr (keeps e numbers (λ keys. only e.1 (inl (λ k. (keys k, e.1)))) there))

  module _ (named : Named) where
    numbered : (q : QName) (columns : List Column) (i : ℕ) (c : Column) (n : ℕ) → get named (key.Rel q) ≡ Some (value.Table columns) → distinct (map (λ c. c.name) columns) ≡ true → slice_get columns i ≡ Some c → slice_get (numbers_from q 0 columns) i ≡ Some n → number_of (with_entries had (entries named) empty) q c.name ≡ pos n
    numbered q columns i c n there once at is =
        ap (λ (o : Option ℤ). unwrap_or o (pos 0))
        (through q columns once i c at n is (entries named) empty
        (λ v among. same_thing v (value.Table columns) (sym (of_entry key_cmp_total key_cmp-IsAntisymmetric named (key.Rel q) v among) ∙ there))
        (inl (entry_of key_cmp_total key_cmp-IsAntisymmetric named (key.Rel q) (value.Table columns) there)))

    pub rise : HaveApartNames named → AreRising named (number_of (with_entries had (entries named) empty))
    rise apart = record {
      rises = λ q columns i j c d there less at_i at_j.
          let m = number_there q 0 columns i c at_i in
          let n = number_there q 0 columns j d at_j in
          (m.0, n.0, numbered q columns i c m.0 there (apart q columns there) at_i m.1, numbered q columns j d n.0 there (apart q columns there) at_j n.1, rising q 0 columns i j m.0 n.0 less m.1 n.1);
      from_one = λ q columns i c there at.
          let n = number_there q 0 columns i c at in
          (n.0, numbered q columns i c n.0 there (apart q columns there) at n.1, above q 0 columns i n.0 n.1);
    }

    pub keep : HaveApartNames named → (q : QName) (columns : List Column) (i : ℕ) (c : Column) → get named (key.Rel q) ≡ Some (value.Table columns) → HadRising had q 0 columns → slice_get columns i ≡ Some c → number_of (with_entries had (entries named) empty) q c.name ≡ number_of had q c.name
    keep apart q columns i c there rose at =
        let n = kept_there q 0 columns i c rose at in
        numbered q columns i c n.0 there (apart q columns there) at n.1 ∙ sym n.2
