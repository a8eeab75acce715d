-- A well-formed opening stands for a catalogue in order, and each fit statement leaves it so.
use Rattle.std.proofs.Common.{◌≡◌, List, [], ◌∷◌, Some, Result, Ok, Err, refl, sym, subst, ◌∙◌}
use Rattle.std.specs.List.{AllByRecursion}
use Rattle.cat_rows.specs.declared.catalogue.Catalogue.{Catalogue}
use Rattle.cat_model.specs.declared.cause.Cause.{Cause}
use Rattle.cat_model.specs.declared.key.Key.TheVariants as key
use Rattle.cat_model.specs.declared.stmt.Stmt.{Stmt}
use Rattle.cat_model.specs.Effects.{effect}
use Rattle.cat_model.specs.Trees.{Change, outcome, seen, after, after_or_same, next, run}
use Rattle.cat_model.specs.Values.{Bytes, Named}
use Rattle.cat_names.specs.DataSets.{TextsByOid}
use Rattle.cat_names.specs.Naming.{boot}
use Rattle.opening_laws.specs.Entries.{catalogue_named}
use Rattle.opening_laws.specs.Texts.{rows_by_oid}
use Rattle.cat_sound.specs.Asked.{Asked}
use Rattle.cat_sound.specs.Fit.{IsFit}
use Rattle.cat_sound.specs.Sound.{IsMet, IsSound}
use Rattle.cat_sound.proofs.Statements.{statement-keeps}
use Rattle.model_laws.specs.Examples.{catalogue_after}
use Rattle.opening_laws.proofs.Grown.{statement_grows}
use Rattle.opening_laws.proofs.Whole.{boot_there}
use Rattle.opening_laws.specs.Grammar.{grammar}
use Rattle.named_objects.specs.Formed.{IsWellFormed}
use Rattle.opening_sound.specs.Left.{IsLeft}

pub opened : (opening : Catalogue) (texts : TextsByOid) (role : Bytes) → IsWellFormed opening → IsSound grammar (catalogue_named opening (rows_by_oid texts)) → boot opening ≡ Some role → IsLeft opening texts role (catalogue_named opening (rows_by_oid texts))
opened opening texts role well sound e =
    let at = boot_there opening (rows_by_oid texts) well in
    let same : at.0 ≡ role = let both = sym at.1 ∙ e in cc in
    record {
      sound = sound;
      grown = record { there = λ k apart met. met; relations = λ q v there. there };
      owner = subst (λ (n : Bytes). IsMet (catalogue_named opening (rows_by_oid texts)) (key.Role n, Asked.there)) same at.2;
    }

-- a statement that isn't refused leaves what it is said to
same_after : (named later : Named) (said : Result (List Change) Cause) → after said named ≡ Ok later → after_or_same said named ≡ later
same_after named later (Ok changes) e = cc
same_after named later (Err because) e = absurd cc

module _ (opening : Catalogue) (texts : TextsByOid) (role : Bytes) where
  pub stepped : (s : Stmt) (named : Named) → IsLeft opening texts role named → IsFit grammar s → IsLeft opening texts role (next (effect role s) named)
  stepped s named is fit =
      let one = statement-keeps grammar role s named is.sound fit is.owner in
      let more = statement_grows grammar role s named is.sound fit is.owner in
      record {
        sound = one.is;
        grown = record {
          there = λ k apart met. more.there k apart (is.grown.there k apart met);
          relations = λ q v there. more.relations q v (is.grown.relations q v there);
        };
        owner = one.stays (key.Role role) refl is.owner;
      }

  pub carried : (s : Stmt) (named later : Named) → IsLeft opening texts role named → IsFit grammar s → run (effect role s) named ≡ Ok later → IsLeft opening texts role later
  carried s named later is fit e = subst (IsLeft opening texts role) (same_after named later (outcome (effect role s) (seen named)) e) (stepped s named is fit)

  pub ran : (ss : List Stmt) (named : Named) → IsLeft opening texts role named → AllByRecursion (IsFit grammar) ss → IsLeft opening texts role (catalogue_after role ss named)
  ran [] named is fit = is
  ran (s ∷ ss) named is fit = ran ss (next (effect role s) named) (stepped s named is fit.0) fit.1
