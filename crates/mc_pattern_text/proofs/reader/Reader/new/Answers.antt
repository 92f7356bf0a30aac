use Rattle.std.proofs.Common.{refl}
use Rattle.mc_pattern_text.proofs.Starting.{starts}
use Rattle.mc_pattern_text.proofs.reader.Reader.new.Goals as goal

pub returns-clause-kept : goal.returns-clause-kept
returns-clause-kept g c =
    starts _ c.new.ensures refl refl c.new-2.ensures.items c.new-3.ensures.items c.new-4.ensures.s
    c.new-4.ensures.t
