use Rattle.std.proofs.Common.{◌≡◌, true, rules}
use Rattle.copy_text.specs.Texts.{IsName}
use Rattle.copy_text.proofs.TextLemmas.{same_test}
use Rattle.copy_text.proofs.name.is_name.Goals as goal

pub returns-then-not-contains-clause-value : goal.returns-then-not-contains-clause-value
returns-then-not-contains-clause-value c =
    let holds : (c.is_ok.result ≡ true → IsName c.args.bytes.now) × (IsName c.args.bytes.now → c.is_ok.result ≡ true) = search rules in
    same_test c.is_ok.result c.args.bytes.now holds
