use Rattle.std.proofs.Common.{refl, sym, ◌∙◌}
use Rattle.mc_gates_text.specs.Kept.{state_of}
use Rattle.mc_gates_text.proofs.Keeping.{same_lacks}
use Rattle.mc_gates_text.proofs.KeepingLine.{line_kept}
use Rattle.mc_gates_text.proofs.section.ReaderSection.end_line.Goals as goal

pub returns-in-Ok-clause-ok : goal.returns-in-Ok-clause-ok
returns-in-Ok-clause-ok c = record {
  same_rules = refl;
  taken = λ before here h e.
      let k = state_of c.args.self.now in
      let clean = c.in-Ok.ensures.clean _ h.outputs in (
        sym (same_lacks k before here c.args.point h e) ∙ clean,
        line_kept k (state_of c.end_op.new.kept) before here c.args.point h e clean
            c.in-Ok.ensures.ok,
      );
}
