use Rattle.std.proofs.Common.{refl}
use Rattle.mc_standard.specs.Uses.{plain_rule}
use Rattle.mc_trace_text.proofs.Keeping.{word_kept}
use Rattle.mc_trace_text.proofs.section.TraceReaderSection.word.Goals as goal

pub returns-in-Ok-clause-ok : goal.returns-in-Ok-clause-ok
returns-in-Ok-clause-ok c =
    let kept = c.args.self.now in
    let ok = c.in-Ok.ensures.ok in
    record {
      same_rules = refl;
      taken = λ before here h e.
          word_kept kept.uses kept.place c.take.new.place (plain_rule kept.rule)
          (plain_rule c.take.new.rule) before here c.args.point c.args.word.now h e
          (rw c.len-uses.ensures at ok);
    }
