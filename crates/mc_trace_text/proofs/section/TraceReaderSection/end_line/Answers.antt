use Rattle.std.proofs.Common.{refl}
use Rattle.mc_standard.specs.Uses.{plain_rule}
use Rattle.mc_trace_text.proofs.Keeping.{line_kept}
use Rattle.mc_trace_text.proofs.section.TraceReaderSection.end_line.Goals as goal

pub returns-in-Ok-clause-ok : goal.returns-in-Ok-clause-ok
returns-in-Ok-clause-ok c =
    let kept = c.args.self.now in
    record {
      same_rules = refl;
      taken = λ before here h e.
          line_kept kept.uses c.end_use.new.uses kept.place (plain_rule kept.rule) before here
          c.args.point h e c.in-Ok.ensures.ok;
    }
