-- A catalogue in order grows as statements that are fit are carried out.
use Rattle.std.proofs.Common.{List, [], ◌∷◌, refl}
use Rattle.std.specs.List.{AllByRecursion}
use Rattle.cat_model.specs.declared.key.Key.TheVariants as key
use Rattle.cat_model.specs.declared.stmt.Stmt.{Stmt}
use Rattle.cat_model.specs.Effects.{effect}
use Rattle.cat_model.specs.Trees.{next}
use Rattle.cat_model.specs.Values.{Bytes, Named}
use Rattle.model_laws.specs.Examples.{catalogue_after}
use Rattle.cat_sound.specs.Asked.{Asked}
use Rattle.cat_sound.specs.Fit.{IsFit}
use Rattle.cat_sound.specs.Sound.{IsMet, IsSound}
use Rattle.cat_sound.specs.Texts.{Texts}
use Rattle.cat_sound.proofs.Statements.{statement-keeps}
use Rattle.opening_laws.specs.Growing.{Grows}
use Rattle.opening_laws.proofs.Leaving.{statement_leaves}

pub statement_grows : (texts : Texts) (boot : Bytes) (s : Stmt) (named : Named) → IsSound texts named → IsFit texts s → IsMet named (key.Role boot, Asked.there) → Grows named (next (effect boot s) named)
statement_grows texts boot s named sound fit there = record {
  there = (statement-keeps texts boot s named sound fit there).stays;
  relations = (statement_leaves boot s named).relations;
}

grows_on : (a b c : Named) → Grows a b → Grows b c → Grows a c
grows_on a b c first later = record {
  there = λ k apart met. later.there k apart (first.there k apart met);
  relations = λ q v at. later.relations q v (first.relations q v at);
}

pub run_grows : (texts : Texts) (boot : Bytes) (ss : List Stmt) (named : Named) → IsSound texts named → AllByRecursion (IsFit texts) ss → IsMet named (key.Role boot, Asked.there) → Grows named (catalogue_after boot ss named)
run_grows texts boot [] named sound fit there = record { there = λ k apart met. met; relations = λ q v at. at }
run_grows texts boot (s ∷ ss) named sound fit there =
    let one = statement-keeps texts boot s named sound fit.0 there in
    let after : Named = next (effect boot s) named in
    grows_on named after (catalogue_after boot ss after) (statement_grows texts boot s named sound fit.0 there)
    (run_grows texts boot ss after one.is fit.1 (one.stays (key.Role boot) refl there))
