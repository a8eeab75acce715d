-- Who has rights, and which: `==` decides whether they are the same.
use Rattle.std.proofs.Common.{◌≡◌, ◌&&◌, sym, ap, ◌∙◌}
use Rattle.std.proofs.lemmas.Bool.Decides.{Decides-and, Decides-like}
use Rattle.std.specs.Bool.{Decides, beq}
use Rattle.std.specs.Cmp.{Equal-is}
use Rattle.std.specs.Ordering.{eq_by_cmp}
use Rattle.cat_model.specs.declared.grant.Rights.{Rights}
use Rattle.cat_model.specs.declared.holder.Holder.{Holder}
use Rattle.cat_model.specs.declared.holder.Item.{Item}
use Rattle.cat_model.specs.contracts.holder.ItemPartialEq.TheImpl as item_eq
use Rattle.cat_model.specs.Holders.{holder_cmp}
use Rattle.cat_model.specs.HolderLaws.{holder_cmp-IsAntisymmetric, holder-self}
use Rattle.cluster_rows.proofs.Flags.{same_bool}

pub same_holder : (a b : Holder) → Decides (eq_by_cmp holder_cmp a b) (a ≡ b)
same_holder a b = (
  λ tied. holder_cmp-IsAntisymmetric a b ((Equal-is (holder_cmp a b)).0 tied),
  λ same. ap (λ (h : Holder). eq_by_cmp holder_cmp a h) (sym same) ∙ holder-self a,
)

same_rights : (a b : Rights) → Decides ((beq a.select b.select && (beq a.usage b.usage && (beq a.insert b.insert && (beq a.references b.references && (beq a.delete b.delete && (beq a.trigger b.trigger && (beq a.truncate b.truncate && (beq a.update b.update && beq a.create b.create))))))))) (a ≡ b)
same_rights a b =
    Decides-like _
    (λ p i. record { select = p.0 i; usage = p.1.0 i; insert = p.1.1.0 i; references = p.1.1.1.0 i; delete = p.1.1.1.1.0 i; trigger = p.1.1.1.1.1.0 i; truncate = p.1.1.1.1.1.1.0 i; update = p.1.1.1.1.1.1.1.0 i; create = p.1.1.1.1.1.1.1.1 i })
    (λ e. (ap (λ (r : Rights). r.select) e, (ap (λ (r : Rights). r.usage) e, (ap (λ (r : Rights). r.insert) e, (ap (λ (r : Rights). r.references) e, (ap (λ (r : Rights). r.delete) e, (ap (λ (r : Rights). r.trigger) e, (ap (λ (r : Rights). r.truncate) e, (ap (λ (r : Rights). r.update) e, ap (λ (r : Rights). r.create) e)))))))))
    (Decides-and _ _ (same_bool a.select b.select) (Decides-and _ _ (same_bool a.usage b.usage) (Decides-and _ _ (same_bool a.insert b.insert) (Decides-and _ _ (same_bool a.references b.references) (Decides-and _ _ (same_bool a.delete b.delete) (Decides-and _ _ (same_bool a.trigger b.trigger) (Decides-and _ _ (same_bool a.truncate b.truncate) (Decides-and _ _ (same_bool a.update b.update) (same_bool a.create b.create)))))))))

pub same_item : (a b : Item) → Decides ((item_eq.ghosts).eq a b) (a ≡ b)
same_item a b =
    Decides-like _
    (λ p i. record { rights = p.0 i; options = p.1 i })
    (λ e. (ap (λ (x : Item). x.rights) e, ap (λ (x : Item). x.options) e))
    (Decides-and _ _ (same_rights a.rights b.rights) (same_rights a.options b.options))
