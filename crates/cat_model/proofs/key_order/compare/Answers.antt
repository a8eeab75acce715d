-- Keys of two kinds compare as their kinds do.
use Rattle.std.proofs.Common.{◌≡◌, ℕ, ap, sym, ◌∙◌}
use Rattle.std.specs.Ordering.{nat_cmp}
use Rattle.cat_model.specs.Keys.{key_kind}
use Rattle.cat_model.proofs.KeyOrder.{kinds_decide, not-Role, not-Schema, not-Database, not-Member, not-UserType, not-Rel, not-Rows, not-SeqVal, not-OwnedBy, not-Body, not-Owner, not-Acl, not-Comment, not-Default, not-Con, not-Index}
use Rattle.cat_model.proofs.key_order.compare.Goals as goal
use Rattle.cat_model.proofs.key_order.compare.Goals.{in_default-via-in-Role+in_default, in_default-via-in-Schema+in_default, in_default-via-in-Database+in_default, in_default-via-in-Member+in_default, in_default-via-in-UserType+in_default, in_default-via-in-Rel+in_default, in_default-via-in-Rows+in_default, in_default-via-in-SeqVal+in_default, in_default-via-in-OwnedBy+in_default, in_default-via-in-Body+in_default, in_default-via-in-Owner+in_default, in_default-via-in-Acl+in_default, in_default-via-in-Comment+in_default, in_default-via-in-Default+in_default, in_default-via-in-Con+in_default, in_default-via-in-Index+in_default}

pub returns-in_default : goal.returns-in_default
returns-in_default c =
    let told = λ (n : ℕ) (is : key_kind c.args.a.now ≡ n) (apart : key_kind c.args.b.now ≡ n → ⊥).
    c.cmp-in_default.ensures ∙ ap (λ (m : ℕ). nat_cmp m c.kind-in_default.result) c.kind.ensures ∙ ap (nat_cmp (key_kind c.args.a.now)) c.kind-in_default.ensures ∙ kinds_decide c.args.a.now c.args.b.now n is apart in
    elim c.in_default.branch [
      | in_default-via-in-Role+in_default w ↦ told 0 (ap key_kind w.in_default.is-0) (not-Role _ w.in_default.not-Role-1)
      | in_default-via-in-Schema+in_default w ↦ told 2 (ap key_kind w.in_default.is-0) (not-Schema _ w.in_default.not-Schema-1)
      | in_default-via-in-Database+in_default w ↦ told 15 (ap key_kind w.in_default.is-0) (not-Database _ w.in_default.not-Database-1)
      | in_default-via-in-Member+in_default w ↦ told 1 (ap key_kind w.in_default.is-0) (not-Member _ w.in_default.not-Member-1)
      | in_default-via-in-UserType+in_default w ↦ told 3 (ap key_kind w.in_default.is-0) (not-UserType _ w.in_default.not-UserType-1)
      | in_default-via-in-Rel+in_default w ↦ told 4 (ap key_kind w.in_default.is-0) (not-Rel _ w.in_default.not-Rel-1)
      | in_default-via-in-Rows+in_default w ↦ told 9 (ap key_kind w.in_default.is-0) (not-Rows _ w.in_default.not-Rows-1)
      | in_default-via-in-SeqVal+in_default w ↦ told 10 (ap key_kind w.in_default.is-0) (not-SeqVal _ w.in_default.not-SeqVal-1)
      | in_default-via-in-OwnedBy+in_default w ↦ told 11 (ap key_kind w.in_default.is-0) (not-OwnedBy _ w.in_default.not-OwnedBy-1)
      | in_default-via-in-Body+in_default w ↦ told 14 (ap key_kind w.in_default.is-0) (not-Body _ w.in_default.not-Body-1)
      | in_default-via-in-Owner+in_default w ↦ told 5 (ap key_kind w.in_default.is-0) (not-Owner _ w.in_default.not-Owner-1)
      | in_default-via-in-Acl+in_default w ↦ told 12 (ap key_kind w.in_default.is-0) (not-Acl _ w.in_default.not-Acl-1)
      | in_default-via-in-Comment+in_default w ↦ told 13 (ap key_kind w.in_default.is-0) (not-Comment _ w.in_default.not-Comment-1)
      | in_default-via-in-Default+in_default w ↦ told 6 (ap key_kind w.in_default.is-0) (not-Default _ w.in_default.not-Default-1)
      | in_default-via-in-Con+in_default w ↦ told 7 (ap key_kind w.in_default.is-0) (not-Con _ w.in_default.not-Con-1)
      | in_default-via-in-Index+in_default w ↦ told 8 (ap key_kind w.in_default.is-0) (not-Index _ w.in_default.not-Index-1)
    ]
