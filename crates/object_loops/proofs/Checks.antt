-- The checks of a domain that is in order are good.
use Rattle.std.proofs.Common.{◌≡◌, true}
use Rattle.std.specs.Cmp.Lexicographic.{nat_list_cmp_total}
use Rattle.std.specs.FinMap.{entries}
use Rattle.std.specs.List.{AllByRecursion}
use Rattle.cat_model.specs.declared.object.QName.{QName}
use Rattle.cat_model.specs.declared.value.Domain.{Domain}
use Rattle.cat_model.specs.HolderLaws.{bytes_cmp-IsAntisymmetric}
use Rattle.cat_model.specs.Values.{Bytes}
use Rattle.cat_sound.specs.Itself.{check_of, IsDomain}
use Rattle.cat_sound.proofs.Lists.{of_each}
use Rattle.cat_sound.proofs.Maps.{of_entry}
use Rattle.sound_texts.specs.Grammar.{grammar}

pub checks_good : (q : QName) (d : Domain) → IsDomain grammar q d → AllByRecursion (λ (e : Bytes × Bytes). grammar.constraint (check_of e.1) ≡ true) (entries d.checks)
checks_good q d is =
    of_each (λ (e : Bytes × Bytes). grammar.constraint (check_of e.1) ≡ true) (entries d.checks)
    (λ e among. is.checks e.0 e.1 (of_entry nat_list_cmp_total bytes_cmp-IsAntisymmetric d.checks e.0 e.1 among))
