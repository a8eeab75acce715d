-- Rights within rights, right by right.
use Rattle.std.proofs.Common.{◌≡◌, Bool, true, false, not, ◌&&◌, ◌||◌, refl}
use Rattle.std.specs.Cmp.{first_so, second_so}
use Rattle.cat_model.specs.declared.grant.Rights.{Rights}
use Rattle.cat_model.specs.Grants.{both_rights, rights_less, has_rights}
use Rattle.cat_sound.specs.Rights.{implies, is_within}

-- ---- one right

imply_same : (a : Bool) → implies a a ≡ true
imply_same true = refl
imply_same false = refl

imply_left : (a b : Bool) → implies a (a || b) ≡ true
imply_left true b = refl
imply_left false b = refl

imply_right : (a b : Bool) → implies b (a || b) ≡ true
imply_right true true = refl
imply_right true false = refl
imply_right false b = imply_same b

imply_either : (a b c : Bool) → implies a c ≡ true → implies b c ≡ true → implies (a || b) c ≡ true
imply_either true b c h k = h
imply_either false b c h k = k

imply_less : (a b c : Bool) → implies a c ≡ true → implies (a && not b) c ≡ true
imply_less true true c h = refl
imply_less true false c h = h
imply_less false b c h = refl

imply_both : (a b c : Bool) → implies a b ≡ true → implies (a && not c) (b && not c) ≡ true
imply_both true true true h = refl
imply_both true true false h = refl
imply_both true false c h = cc
imply_both false b c h = refl

imply_then : (a b c : Bool) → implies a b ≡ true → implies b c ≡ true → implies a c ≡ true
imply_then true true c h k = k
imply_then true false c h k = cc
imply_then false b c h k = refl

join : (a b : Bool) → a ≡ true → b ≡ true → a && b ≡ true
join true b h k = k
join false b h k = cc

-- ---- all nine

-- the rights one by one
record Each (a b : Rights) : Type 0 where
  select : implies a.select b.select ≡ true
  usage : implies a.usage b.usage ≡ true
  insert : implies a.insert b.insert ≡ true
  references : implies a.references b.references ≡ true
  delete : implies a.delete b.delete ≡ true
  trigger : implies a.trigger b.trigger ≡ true
  truncate : implies a.truncate b.truncate ≡ true
  update : implies a.update b.update ≡ true
  create : implies a.create b.create ≡ true

each_of : (a b : Rights) → is_within a b ≡ true → Each a b
each_of a b h0 =
    let h1 : (implies a.usage b.usage && (implies a.insert b.insert && (implies a.references b.references && (implies a.delete b.delete && (implies a.trigger b.trigger && (implies a.truncate b.truncate && (implies a.update b.update && (implies a.create b.create)))))))) ≡ true = second_so (implies a.select b.select) (implies a.usage b.usage && (implies a.insert b.insert && (implies a.references b.references && (implies a.delete b.delete && (implies a.trigger b.trigger && (implies a.truncate b.truncate && (implies a.update b.update && (implies a.create b.create)))))))) h0 in
    let h2 : (implies a.insert b.insert && (implies a.references b.references && (implies a.delete b.delete && (implies a.trigger b.trigger && (implies a.truncate b.truncate && (implies a.update b.update && (implies a.create b.create))))))) ≡ true = second_so (implies a.usage b.usage) (implies a.insert b.insert && (implies a.references b.references && (implies a.delete b.delete && (implies a.trigger b.trigger && (implies a.truncate b.truncate && (implies a.update b.update && (implies a.create b.create))))))) h1 in
    let h3 : (implies a.references b.references && (implies a.delete b.delete && (implies a.trigger b.trigger && (implies a.truncate b.truncate && (implies a.update b.update && (implies a.create b.create)))))) ≡ true = second_so (implies a.insert b.insert) (implies a.references b.references && (implies a.delete b.delete && (implies a.trigger b.trigger && (implies a.truncate b.truncate && (implies a.update b.update && (implies a.create b.create)))))) h2 in
    let h4 : (implies a.delete b.delete && (implies a.trigger b.trigger && (implies a.truncate b.truncate && (implies a.update b.update && (implies a.create b.create))))) ≡ true = second_so (implies a.references b.references) (implies a.delete b.delete && (implies a.trigger b.trigger && (implies a.truncate b.truncate && (implies a.update b.update && (implies a.create b.create))))) h3 in
    let h5 : (implies a.trigger b.trigger && (implies a.truncate b.truncate && (implies a.update b.update && (implies a.create b.create)))) ≡ true = second_so (implies a.delete b.delete) (implies a.trigger b.trigger && (implies a.truncate b.truncate && (implies a.update b.update && (implies a.create b.create)))) h4 in
    let h6 : (implies a.truncate b.truncate && (implies a.update b.update && (implies a.create b.create))) ≡ true = second_so (implies a.trigger b.trigger) (implies a.truncate b.truncate && (implies a.update b.update && (implies a.create b.create))) h5 in
    let h7 : (implies a.update b.update && (implies a.create b.create)) ≡ true = second_so (implies a.truncate b.truncate) (implies a.update b.update && (implies a.create b.create)) h6 in
    let h8 : (implies a.create b.create) ≡ true = second_so (implies a.update b.update) (implies a.create b.create) h7 in
    record {
      select = first_so (implies a.select b.select) (implies a.usage b.usage && (implies a.insert b.insert && (implies a.references b.references && (implies a.delete b.delete && (implies a.trigger b.trigger && (implies a.truncate b.truncate && (implies a.update b.update && (implies a.create b.create)))))))) h0;
      usage = first_so (implies a.usage b.usage) (implies a.insert b.insert && (implies a.references b.references && (implies a.delete b.delete && (implies a.trigger b.trigger && (implies a.truncate b.truncate && (implies a.update b.update && (implies a.create b.create))))))) h1;
      insert = first_so (implies a.insert b.insert) (implies a.references b.references && (implies a.delete b.delete && (implies a.trigger b.trigger && (implies a.truncate b.truncate && (implies a.update b.update && (implies a.create b.create)))))) h2;
      references = first_so (implies a.references b.references) (implies a.delete b.delete && (implies a.trigger b.trigger && (implies a.truncate b.truncate && (implies a.update b.update && (implies a.create b.create))))) h3;
      delete = first_so (implies a.delete b.delete) (implies a.trigger b.trigger && (implies a.truncate b.truncate && (implies a.update b.update && (implies a.create b.create)))) h4;
      trigger = first_so (implies a.trigger b.trigger) (implies a.truncate b.truncate && (implies a.update b.update && (implies a.create b.create))) h5;
      truncate = first_so (implies a.truncate b.truncate) (implies a.update b.update && (implies a.create b.create)) h6;
      update = first_so (implies a.update b.update) (implies a.create b.create) h7;
      create = h8;
    }

of_each_right : (a b : Rights) → Each a b → is_within a b ≡ true
of_each_right a b e =
    join _ _ e.select (join _ _ e.usage (join _ _ e.insert (join _ _ e.references (join _ _ e.delete (join _ _ e.trigger (join _ _ e.truncate (join _ _ e.update (e.create))))))))

pub within_same : (a : Rights) → is_within a a ≡ true
within_same a = of_each_right a a (record {
  select = imply_same a.select;
  usage = imply_same a.usage;
  insert = imply_same a.insert;
  references = imply_same a.references;
  delete = imply_same a.delete;
  trigger = imply_same a.trigger;
  truncate = imply_same a.truncate;
  update = imply_same a.update;
  create = imply_same a.create;
})

pub within_left : (a b : Rights) → is_within a (both_rights a b) ≡ true
within_left a b = of_each_right a (both_rights a b) (record {
  select = imply_left a.select b.select;
  usage = imply_left a.usage b.usage;
  insert = imply_left a.insert b.insert;
  references = imply_left a.references b.references;
  delete = imply_left a.delete b.delete;
  trigger = imply_left a.trigger b.trigger;
  truncate = imply_left a.truncate b.truncate;
  update = imply_left a.update b.update;
  create = imply_left a.create b.create;
})

pub within_right : (a b : Rights) → is_within b (both_rights a b) ≡ true
within_right a b = of_each_right b (both_rights a b) (record {
  select = imply_right a.select b.select;
  usage = imply_right a.usage b.usage;
  insert = imply_right a.insert b.insert;
  references = imply_right a.references b.references;
  delete = imply_right a.delete b.delete;
  trigger = imply_right a.trigger b.trigger;
  truncate = imply_right a.truncate b.truncate;
  update = imply_right a.update b.update;
  create = imply_right a.create b.create;
})

pub within_either : (a b c : Rights) → is_within a c ≡ true → is_within b c ≡ true → is_within (both_rights a b) c ≡ true
within_either a b c h k =
    let x = each_of a c h in
    let y = each_of b c k in
    of_each_right (both_rights a b) c (record {
      select = imply_either a.select b.select c.select x.select y.select;
      usage = imply_either a.usage b.usage c.usage x.usage y.usage;
      insert = imply_either a.insert b.insert c.insert x.insert y.insert;
      references = imply_either a.references b.references c.references x.references y.references;
      delete = imply_either a.delete b.delete c.delete x.delete y.delete;
      trigger = imply_either a.trigger b.trigger c.trigger x.trigger y.trigger;
      truncate = imply_either a.truncate b.truncate c.truncate x.truncate y.truncate;
      update = imply_either a.update b.update c.update x.update y.update;
      create = imply_either a.create b.create c.create x.create y.create;
    })

pub within_less : (a b c : Rights) → is_within a c ≡ true → is_within (rights_less a b) c ≡ true
within_less a b c h =
    let x = each_of a c h in
    of_each_right (rights_less a b) c (record {
      select = imply_less a.select b.select c.select x.select;
      usage = imply_less a.usage b.usage c.usage x.usage;
      insert = imply_less a.insert b.insert c.insert x.insert;
      references = imply_less a.references b.references c.references x.references;
      delete = imply_less a.delete b.delete c.delete x.delete;
      trigger = imply_less a.trigger b.trigger c.trigger x.trigger;
      truncate = imply_less a.truncate b.truncate c.truncate x.truncate;
      update = imply_less a.update b.update c.update x.update;
      create = imply_less a.create b.create c.create x.create;
    })

pub less_within : (a b c : Rights) → is_within a b ≡ true → is_within (rights_less a c) (rights_less b c) ≡ true
less_within a b c h =
    let x = each_of a b h in
    of_each_right (rights_less a c) (rights_less b c) (record {
      select = imply_both a.select b.select c.select x.select;
      usage = imply_both a.usage b.usage c.usage x.usage;
      insert = imply_both a.insert b.insert c.insert x.insert;
      references = imply_both a.references b.references c.references x.references;
      delete = imply_both a.delete b.delete c.delete x.delete;
      trigger = imply_both a.trigger b.trigger c.trigger x.trigger;
      truncate = imply_both a.truncate b.truncate c.truncate x.truncate;
      update = imply_both a.update b.update c.update x.update;
      create = imply_both a.create b.create c.create x.create;
    })

pub within_then : (a b c : Rights) → is_within a b ≡ true → is_within b c ≡ true → is_within a c ≡ true
within_then a b c h k =
    let x = each_of a b h in
    let y = each_of b c k in
    of_each_right a c (record {
      select = imply_then a.select b.select c.select x.select y.select;
      usage = imply_then a.usage b.usage c.usage x.usage y.usage;
      insert = imply_then a.insert b.insert c.insert x.insert y.insert;
      references = imply_then a.references b.references c.references x.references y.references;
      delete = imply_then a.delete b.delete c.delete x.delete y.delete;
      trigger = imply_then a.trigger b.trigger c.trigger x.trigger y.trigger;
      truncate = imply_then a.truncate b.truncate c.truncate x.truncate y.truncate;
      update = imply_then a.update b.update c.update x.update y.update;
      create = imply_then a.create b.create c.create x.create y.create;
    })

pub within_both : (a b c d : Rights) → is_within a b ≡ true → is_within c d ≡ true → is_within (both_rights a c) (both_rights b d) ≡ true
within_both a b c d h k =
    within_either a c (both_rights b d)
    (within_then a b (both_rights b d) h (within_left b d))
    (within_then c d (both_rights b d) k (within_right b d))

-- ---- having rights

or_more : (a b c d : Bool) → (a ≡ true → c ≡ true) → (b ≡ true → d ≡ true) → a || b ≡ true → c || d ≡ true
or_more true b true d one two e = refl
or_more true b false d one two e = let wrong = one refl in cc
or_more false b true d one two e = refl
or_more false b false d one two e = two e

so : (a b : Bool) → implies a b ≡ true → a ≡ true → b ≡ true
so true b h e = h
so false b h e = cc

-- who has some of the rights has some of those that they are among
pub has_more : (a b : Rights) → is_within a b ≡ true → has_rights a ≡ true → has_rights b ≡ true
has_more a b h e =
    let x = each_of a b h in
    let s0 : a.select ≡ true → b.select ≡ true = so a.select b.select x.select in
    let s1 : a.select || a.usage ≡ true → b.select || b.usage ≡ true = or_more a.select a.usage b.select b.usage s0 (so a.usage b.usage x.usage) in
    let s2 : (a.select || a.usage) || a.insert ≡ true → (b.select || b.usage) || b.insert ≡ true = or_more (a.select || a.usage) a.insert (b.select || b.usage) b.insert s1 (so a.insert b.insert x.insert) in
    let s3 : ((a.select || a.usage) || a.insert) || a.references ≡ true → ((b.select || b.usage) || b.insert) || b.references ≡ true = or_more ((a.select || a.usage) || a.insert) a.references ((b.select || b.usage) || b.insert) b.references s2 (so a.references b.references x.references) in
    let s4 : (((a.select || a.usage) || a.insert) || a.references) || a.delete ≡ true → (((b.select || b.usage) || b.insert) || b.references) || b.delete ≡ true = or_more (((a.select || a.usage) || a.insert) || a.references) a.delete (((b.select || b.usage) || b.insert) || b.references) b.delete s3 (so a.delete b.delete x.delete) in
    let s5 : ((((a.select || a.usage) || a.insert) || a.references) || a.delete) || a.trigger ≡ true → ((((b.select || b.usage) || b.insert) || b.references) || b.delete) || b.trigger ≡ true = or_more ((((a.select || a.usage) || a.insert) || a.references) || a.delete) a.trigger ((((b.select || b.usage) || b.insert) || b.references) || b.delete) b.trigger s4 (so a.trigger b.trigger x.trigger) in
    let s6 : (((((a.select || a.usage) || a.insert) || a.references) || a.delete) || a.trigger) || a.truncate ≡ true → (((((b.select || b.usage) || b.insert) || b.references) || b.delete) || b.trigger) || b.truncate ≡ true = or_more (((((a.select || a.usage) || a.insert) || a.references) || a.delete) || a.trigger) a.truncate (((((b.select || b.usage) || b.insert) || b.references) || b.delete) || b.trigger) b.truncate s5 (so a.truncate b.truncate x.truncate) in
    let s7 : ((((((a.select || a.usage) || a.insert) || a.references) || a.delete) || a.trigger) || a.truncate) || a.update ≡ true → ((((((b.select || b.usage) || b.insert) || b.references) || b.delete) || b.trigger) || b.truncate) || b.update ≡ true = or_more ((((((a.select || a.usage) || a.insert) || a.references) || a.delete) || a.trigger) || a.truncate) a.update ((((((b.select || b.usage) || b.insert) || b.references) || b.delete) || b.trigger) || b.truncate) b.update s6 (so a.update b.update x.update) in
    or_more (((((((a.select || a.usage) || a.insert) || a.references) || a.delete) || a.trigger) || a.truncate) || a.update) a.create (((((((b.select || b.usage) || b.insert) || b.references) || b.delete) || b.trigger) || b.truncate) || b.update) b.create s7 (so a.create b.create x.create) e
