use Rattle.line_fields.proofs.walk.is_clear_text.Goals as goal

pub returns-in-None : goal.returns-in-None
returns-in-None c = λ yes. record { utf8 = c.is_utf8.ensures yes; clear = c.in-None.ensures }
