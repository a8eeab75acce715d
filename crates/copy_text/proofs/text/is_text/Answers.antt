use Rattle.std.proofs.Common.{◌≡◌, true, rules}
use Rattle.copy_text.specs.Texts.{IsText}
use Rattle.copy_text.proofs.TextLemmas.{same_text_test}
use Rattle.copy_text.proofs.text.is_text.Goals as goal

pub returns-clause-value : goal.returns-clause-value
returns-clause-value c =
    let holds : (c.is_ok.result ≡ true → IsText c.args.bytes.now) × (IsText c.args.bytes.now → c.is_ok.result ≡ true) = search rules in
    same_text_test c.is_ok.result c.args.bytes.now holds
