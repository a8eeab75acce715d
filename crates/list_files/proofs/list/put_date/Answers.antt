use Rattle.std.proofs.Common.{◌≡◌, ◌++◌, ℕ, List, pos, ◌+ℤ◌, w64, FitsSigned, OnOk, subst, rules, arith}
use Rattle.std.proofs.lemmas.Int.{ints}
use Rattle.list_files.proofs.Dates.{passed_on}
use Rattle.list_files.proofs.list.put_date.Goals as goal

pub returns : goal.returns
returns c =
    let moment = c.args.moment.now in
    let year : FitsSigned w64 moment.year = search rules in
    let month : FitsSigned w64 moment.mon = search rules in
    let day : FitsSigned w64 moment.mday = search rules in
    let later : FitsSigned w64 (moment.year +ℤ pos 1900) = first_of (search rules, grind (arith, ints)) in
    let next : FitsSigned w64 (moment.mon +ℤ pos 1) = first_of (search rules, grind (arith, ints)) in
    let P : List ℕ → Type 0 = λ (t : List ℕ). OnOk c.put_day.result (c.put_day.new.out.items ≡ c.args.out.now.items ++ t) in
    subst P (passed_on moment.year moment.mon moment.mday year month day later next) c.put_day.ensures
