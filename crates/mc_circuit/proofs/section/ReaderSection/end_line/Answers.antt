use Rattle.std.proofs.Common.{refl, sym, ◌∙◌}
use Rattle.mc_circuit.proofs.Keeping.{same_lacks}
use Rattle.mc_circuit.proofs.KeepingLine.{line_kept}
use Rattle.mc_circuit.proofs.section.ReaderSection.end_line.Goals as goal

pub returns-in-Ok-clause-ok : goal.returns-in-Ok-clause-ok
returns-in-Ok-clause-ok g c = record {
  same_rules = refl;
  taken = λ before here h e.
      let k = c.args.self.now in
      let kept = line_kept k c.end_gate.new.kept before here c.args.point h e c.in-Ok.ensures.ok in
      (sym (same_lacks k before here c.args.point h e) ∙ kept.0, kept.1);
}
