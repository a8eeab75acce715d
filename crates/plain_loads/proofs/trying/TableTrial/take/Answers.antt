use Rattle.plain_loads.proofs.PartsSeen.{both_ok, seen_more}
use Rattle.plain_loads.proofs.trying.TableTrial.take.Goals as goal

pub returns : goal.returns
returns c =
    let clear = c.is_part.ensures.clear c.if-not-is_part.false in
    both_ok c.lines_fit.result _ _ _ (λ taken fit apart yes text seen.
    seen_more c.args.self.now c.args.keys.now c.lines_fit.new.keys text c.args.part.now seen (c.is_part.ensures.ends c.if-not-is_part.false) (fit yes clear) (apart yes clear) (c.links_hold.ensures c.if-not-links_hold.false clear))
    c.lines_fit.ensures.fit c.lines_fit.ensures.apart
