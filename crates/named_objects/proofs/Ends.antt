-- What types come to by rows: the labels of an enum, and the end of a chain of domains.
use Rattle.std.proofs.Common.{◌≡◌, ◌⊎◌, ℕ, zero, suc, ◌+◌, ◌<◌, ◌≤◌, pos, Bool, true, false, true≢false, cond, ◌||◌, ◌++◌, List, length, Option, Some, None, option_map, option_and_then, refl, ap, sym, subst, ◌∙◌, inl, inr, if◌then◌else◌, arith}
use Rattle.std.proofs.Math.Dec.{ltb}
use Rattle.std.proofs.lemmas.Bool.{lt-ltb}
use Rattle.std.proofs.lemmas.List.{map-id}
use Rattle.std.specs.declared.cmp.Ordering.TheVariants.{Less, Equal, Greater}
use Rattle.std.specs.Ordering.{int_cmp}
use Rattle.std.specs.FinMap.{get, nat_cmp-IsAntisymmetric}
use Rattle.std.specs.List.{AllByRecursion, filter, slice_get}
use Rattle.cat_rows.specs.declared.catalogue.Catalogue.{Catalogue}
use Rattle.cat_rows.specs.declared.types.EnumRow.{EnumRow}
use Rattle.cat_model.specs.declared.object.QName.{QName}
use Rattle.cat_model.specs.declared.key.Key.TheVariants as key
use Rattle.cat_model.specs.declared.type_name.TypeName.{TypeName}
use Rattle.cat_model.specs.declared.type_name.TypeName.TheVariants.{Words, Path}
use Rattle.cat_model.specs.declared.value.Value.{Value}
use Rattle.cat_model.specs.declared.value.Value.TheVariants as value
use Rattle.cat_model.specs.declared.value.Resolved.{Resolved}
use Rattle.cat_model.specs.declared.value.Domain.{Domain}
use Rattle.cat_model.specs.References.{is_system}
use Rattle.cat_model.specs.TypeEffects.{as_it_is, default_references}
use Rattle.cat_model.specs.Values.{Bytes, Named}
use Rattle.cat_names.specs.Lookups.{same_oid}
use Rattle.cat_book.specs.Chains.{is_domain_letter}
use Rattle.row_texts.specs.TypeTexts.{type_named}
use Rattle.cat_naming.specs.Ends.{labels_of, enum_resolved, over, resolved_within, resolved}
use Rattle.cat_naming.proofs.Reached.{settled_within}
use Rattle.cat_naming.specs.Types.{typed}
use Rattle.cat_sound.specs.Asked.{Asked, Passes}
use Rattle.cat_sound.specs.Asks.{type_asks, all_there}
use Rattle.cat_sound.specs.Beside.{base_of, EndsBehind, EndsWithin, Ends}
use Rattle.cat_sound.specs.Itself.{EndsItself}
use Rattle.cat_sound.specs.Texts.{Texts}
use Rattle.cat_sound.specs.Sound.{IsMet, IsSound}
use Rattle.cat_sound.proofs.Checks.{checks_asks}
use Rattle.cat_sound.proofs.Lists.{IsIn, all-front}
use Rattle.named_tables.specs.Oids.{AreOids}
use Rattle.named_tables.specs.Standing.{AreRowsOf}
use Rattle.named_tables.proofs.Ties.{tie}
use Rattle.named_tables.proofs.Rows.{in_place, among_in}
use Rattle.named_objects.specs.Oids.{ObjectOids, type_oid}
use Rattle.named_objects.specs.Types.{NamedLabel, IsLabel, label_row}
use Rattle.named_objects.proofs.Counting.{pairs_of, pairs_filter}
use Rattle.named_objects.proofs.Found.{in_filter, from_filter}
use Rattle.named_objects.proofs.Lookups.{AreLedTo, has_tie, type_found}
use Rattle.named_objects.proofs.Ordered.{AreLined, lined_up, mapped_up}

module _ (texts : Texts) (named : Named) (sound : IsSound texts named) (oids : ObjectOids) (own : AreOids named oids.of) (cat : Catalogue) (led : AreLedTo named oids.of cat) (are : AreRowsOf (IsLabel named) (λ l row. row ≡ label_row oids l) cat.pg_enum) where
  -- ---- labels

  abbrev label_at : QName → List Bytes → ℕ → Bytes → NamedLabel
  label_at q labels i label = record { path = q; labels = labels; place = i; label = label }

  abbrev of_type : QName → EnumRow → Bool
  of_type q e = same_oid (oids.of (key.UserType q)) e.enumtypid

  labels_lined : (q : QName) (labels : List Bytes) → get named (key.UserType q) ≡ Some (value.Enum labels) → AreLined (λ (e : EnumRow). e.enumpos) (λ i label row. row ≡ label_row oids (label_at q labels i label)) labels (filter (of_type q) cat.pg_enum)
  labels_lined q labels is = record {
    each = λ i label at.
        let one = are.each (label_at q labels i label) (record { there = is; at = at }) in
        (one.0, in_filter (of_type q) cat.pg_enum one.0 (among_in cat.pg_enum one.0 one.1) (has_tie (oids.of (key.UserType q)) one.0.enumtypid (sym (ap (λ (e : EnumRow). e.enumtypid) one.2))), one.2);
    only = only;
    once = pairs_filter (λ (a b : EnumRow). (i : ℕ) (label : Bytes) → a ≡ label_row oids (label_at q labels i label) → b ≡ label_row oids (label_at q labels i label) → ⊥) (of_type q) cat.pg_enum
        (pairs_of (λ (a b : EnumRow). of_type q a ≡ true → of_type q b ≡ true → (i : ℕ) (label : Bytes) → a ≡ label_row oids (label_at q labels i label) → b ≡ label_row oids (label_at q labels i label) → ⊥) cat.pg_enum (λ m n a b below at_a at_b of_a of_b i label one two. are.once m n a b (label_at q labels i label) below at_a at_b one two));
    rises = λ i j x y a b below at_i at_j one two. (λ k. int_cmp (one k).enumpos (two k).enumpos) ∙ rising i j below;
  }
    where
      rising : (i j : ℕ) → i < j → int_cmp (pos (i + 1)) (pos (j + 1)) ≡ Less
      rising i j below = ap (λ (b : Bool). cond b Less (cond (ltb (j + 1) (i + 1)) Greater Equal)) (lt-ltb (i + 1) (j + 1) (omega (arith, below)))

      only : (r : EnumRow) → IsIn r (filter (of_type q) cat.pg_enum) → (i : ℕ) × (label : Bytes) × (slice_get labels i ≡ Some label) × (r ≡ label_row oids (label_at q labels i label))
      only r among =
          let inside = from_filter (of_type q) cat.pg_enum r among in
          let one = are.only r (in_place cat.pg_enum r inside.0) in
          let equal : oids.of (key.UserType one.0.path) ≡ oids.of (key.UserType q) = sym (tie nat_cmp-IsAntisymmetric (oids.of (key.UserType q)) r.enumtypid inside.1 ∙ ap (λ (e : EnumRow). e.enumtypid) one.2) in
          let keys : key.UserType one.0.path ≡ key.UserType q = own.apart (key.UserType one.0.path) (key.UserType q) (value.Enum one.0.labels) (value.Enum labels) one.1.there is refl refl refl equal in
          let paths : one.0.path ≡ q = cc in
          let values : Some (value.Enum one.0.labels) ≡ Some (value.Enum labels) = sym one.1.there ∙ ap (get named) keys ∙ is in
          let lists : one.0.labels ≡ labels = cc in
          (one.0.place, one.0.label, ap (λ (ls : List Bytes). slice_get ls one.0.place) (sym lists) ∙ one.1.at, one.2 ∙ (λ k. label_row oids (label_at (paths k) (lists k) one.0.place one.0.label)))

  pub labels_found : (q : QName) (labels : List Bytes) → get named (key.UserType q) ≡ Some (value.Enum labels) → labels_of cat (oids.of (key.UserType q)) ≡ labels
  labels_found q labels is =
      mapped_up (λ i label row. row ≡ label_row oids (label_at q labels i label)) (λ (e : EnumRow). e.enumlabel) (λ (l : Bytes). l) (λ i label row at. ap (λ (e : EnumRow). e.enumlabel) at) labels _ (lined_up (λ (e : EnumRow). e.enumpos) (λ i label row. row ≡ label_row oids (label_at q labels i label)) labels (filter (of_type q) cat.pg_enum) (labels_lined q labels is))
      ∙ map-id labels

  -- ---- ends

  -- a type that has no row is what it is
  plain : (m : ℕ) (type : TypeName) (end : Resolved) (text : Bytes) → type_named text ≡ Some type → end ≡ as_it_is type → resolved_within (suc m) cat 0 text ≡ Some end
  unfolding resolved_within
  plain m type end text said itself = ap (option_map as_it_is) said ∙ ap Some (sym itself)

  enum_end : (m : ℕ) (q : QName) (labels : List Bytes) (text : Bytes) → get named (key.UserType q) ≡ Some (value.Enum labels) → resolved_within (suc m) cat (oids.of (key.UserType q)) text ≡ Some (enum_resolved q labels)
  unfolding resolved_within
  enum_end m q labels text is =
      let found = type_found texts named sound oids.of own cat led q (value.Enum labels) is in
      rw (own.some (key.UserType q) (value.Enum labels) is refl, found.found)
      (
      rw (ap is_domain_letter found.kind.letter, found.path)
      (ap (λ (n : ℕ). Some (enum_resolved q (labels_of cat n))) found.oid ∙ ap (λ (ls : List Bytes). Some (enum_resolved q ls)) (labels_found q labels is))
      )

  domain_end : (m : ℕ) (q : QName) (d : Domain) (text : Bytes) → get named (key.UserType q) ≡ Some (value.Domain d) → ((said : Bytes) → type_named said ≡ Some d.base → resolved_within m cat (type_oid oids.of d.base) said ≡ Some d.resolved) → resolved_within (suc m) cat (oids.of (key.UserType q)) text ≡ Some (record d.resolved { not_null = d.resolved.not_null || d.not_null })
  unfolding resolved_within
  domain_end m q d text is base =
      let found = type_found texts named sound oids.of own cat led q (value.Domain d) is in
      let its : resolved_within m cat found.row.typbasetype found.row.basetext ≡ Some d.resolved = ap (λ (n : ℕ). resolved_within m cat n found.row.basetext) found.kind.base ∙ base found.row.basetext found.kind.base_text in
      rw (own.some (key.UserType q) (value.Domain d) is refl, found.found)
      (
      rw (ap is_domain_letter found.kind.letter)
      (ap (option_map (over found.row)) its ∙ ap (λ (b : Bool). Some (record d.resolved { not_null = d.resolved.not_null || b })) found.kind.not_null)
      )

  -- what is kept of a type is in order
  pub record IsKept (type : TypeName) (end : Resolved) : Type 0 where
    pub itself : EndsItself type end
    pub met : AllByRecursion (IsMet named) (type_asks type end)

  pub base_kept : (q : QName) (d : Domain) → get named (key.UserType q) ≡ Some (value.Domain d) → IsKept d.base d.resolved
  base_kept q d is =
      let at = sound.each (key.UserType q) (value.Domain d) is in
      let front = all-front (IsMet named) (type_asks d.base d.resolved ++ all_there (default_references d.default)) (checks_asks d.checks) at.others.1.1.1 in
      record { itself = at.own.base.ends; met = all-front (IsMet named) (type_asks d.base d.resolved) (all_there (default_references d.default)) front }

  -- the type of a path that isn't the system's
  asked_of : (q : QName) (end : Resolved) (system : Bool) → is_system q.schema ≡ system → system ≡ false → AllByRecursion (IsMet named) (type_asks (Path q) end) → IsMet named (key.UserType q, Asked.comes_to q end)
  asked_of q end true e other met = cc
  asked_of q end false e other met = (rw e at met).0

  abbrev Step : ℕ → Type 0
  Step n = (type : TypeName) (end : Resolved) (text : Bytes) → type_named text ≡ Some type → IsKept type end → EndsWithin n named type → (m : ℕ) → n ≤ m → resolved_within (suc m) cat (type_oid oids.of type) text ≡ Some end

  behind_value : (n m : ℕ) (q : QName) (end : Resolved) (text : Bytes) → Step n → n ≤ m → (o : Option Value) → get named (key.UserType q) ≡ o → Passes o (Asked.comes_to q end) → EndsBehind (EndsWithin n named) (base_of o) → resolved_within (suc (suc m)) cat (oids.of (key.UserType q)) text ≡ Some end
  behind_value n m q end text step below (Some (value.Enum labels)) is comes ends = enum_end (suc m) q labels text is ∙ comes
  behind_value n m q end text step below (Some (value.Domain d)) is comes ends =
      domain_end (suc m) q d text is (λ said names. step d.base d.resolved said names (base_kept q d is) ends m below) ∙ comes
  behind_value n m q end text step below (Some v) is comes ends = elim ends [ ]
  behind_value n m q end text step below None is comes ends = elim comes [ ]

  path_end : (n : ℕ) (q : QName) (end : Resolved) (text : Bytes) → Step n → type_named text ≡ Some (Path q) → IsKept (Path q) end → (is_system q.schema ≡ true) ⊎ EndsBehind (EndsWithin n named) (base_of (get named (key.UserType q))) → (m : ℕ) → suc n ≤ m → (system : Bool) → is_system q.schema ≡ system → resolved_within (suc m) cat (type_oid oids.of (Path q)) text ≡ Some end
  path_end n q end text step said kept ends m below true e =
      ap (λ (b : Bool). resolved_within (suc m) cat (if b then 0 else oids.of (key.UserType q)) text) e ∙ plain m (Path q) end text said (kept.itself e)
  path_end n q end text step said kept (inl system) m below false e = absurd (true≢false (sym system ∙ e))
  path_end n q end text step said kept (inr behind) zero below false e = absurd (omega (arith, below))
  path_end n q end text step said kept (inr behind) (suc m) below false e =
      ap (λ (b : Bool). resolved_within (suc (suc m)) cat (if b then 0 else oids.of (key.UserType q)) text) e
      ∙ behind_value n m q end text step (omega (arith, below)) (get named (key.UserType q)) refl (asked_of q end (is_system q.schema) refl e kept.met) behind

  end_within : (n : ℕ) → Step n
  end_within zero (Words words) end text said kept ends m below = plain m (Words words) end text said kept.itself
  end_within zero (Path q) end text said kept ends m below =
      ap (λ (b : Bool). resolved_within (suc m) cat (if b then 0 else oids.of (key.UserType q)) text) ends ∙ plain m (Path q) end text said (kept.itself ends)
  end_within (suc n) (Words words) end text said kept ends m below = plain m (Words words) end text said kept.itself
  end_within (suc n) (Path q) end text said kept ends m below = path_end n q end text (end_within n) said kept ends m below (is_system q.schema) refl

  -- chains end
  ends_at : (q : QName) (end : Resolved) (o : Option Value) → get named (key.UserType q) ≡ o → Passes o (Asked.comes_to q end) → Ends named (Path q)
  ends_at q end (Some (value.Enum labels)) is comes = (suc zero, inr (subst (λ (x : Option Value). EndsBehind (EndsWithin zero named) (base_of x)) (sym is) tt))
  ends_at q end (Some (value.Domain d)) is comes =
      let chain = sound.beside.chains q d is in
      (suc chain.0, inr (subst (λ (x : Option Value). EndsBehind (EndsWithin chain.0 named) (base_of x)) (sym is) chain.1))
  ends_at q end (Some v) is comes = cc
  ends_at q end None is comes = elim comes [ ]

  pub chain_ends : (type : TypeName) (end : Resolved) → IsKept type end → Ends named type
  chain_ends (Words words) end kept = (zero, tt)
  chain_ends (Path q) end kept = by (is_system q.schema) refl
    where
      by : (b : Bool) → is_system q.schema ≡ b → Ends named (Path q)
      by true e = (zero, e)
      by false e = ends_at q end (get named (key.UserType q)) refl (asked_of q end (is_system q.schema) refl e kept.met)

  pub typed_found : (type : TypeName) (end : Resolved) (text : Bytes) → type_named text ≡ Some type → IsKept type end → typed cat (type_oid oids.of type) text ≡ Some (type, end)
  typed_found type end text said kept =
      let chain = chain_ends type end kept in
      let m : ℕ = chain.0 + length cat.pg_type in
      let its : resolved cat (type_oid oids.of type) text ≡ Some end = sym (settled_within cat (type_oid oids.of type) text m (omega arith)) ∙ end_within chain.0 type end text said kept chain.1 m (omega arith) in
      ap (λ (o : Option TypeName). option_and_then (λ name. option_map (λ e. (name, e)) (resolved cat (type_oid oids.of type) text)) o) said
      ∙ ap (option_map (λ (e : Resolved). (type, e))) its
