use Rattle.std.proofs.Common.{ℕ, List, refl, sym, subst, ◌∙◌}
use Rattle.mc_text.specs.Rules.{AreNumbers}
use Rattle.mc_graph_text.specs.Value.{spelled_at}
use Rattle.mc_graph_text.proofs.KeepingWord.{same_lacks}
use Rattle.mc_graph_text.proofs.KeepingLine.{line_kept, kept_again}
use Rattle.mc_graph_text.proofs.section.ReaderSection.end_line.Goals as goal

pub returns-in-Ok-clause-ok : goal.returns-in-Ok-clause-ok
returns-in-Ok-clause-ok g c = record {
  same_rules = refl;
  taken = λ before here h e.
      let k = c.args.self.now in
      let s = spelled_at before here in
      let are = subst (λ (os : List ℕ). AreNumbers s.names s.outputs os)
      (sym c.as_slice.ensures.value) h.outputs in
      let clean = c.in-Ok.ensures.clean s h.graph are in (
        sym (same_lacks k.fixes before here c.args.point e) ∙ clean,
        kept_again k _ _ _ refl refl refl refl refl
            (line_kept k before here c.args.point h e clean),
      );
}

pub returns-in-Err-clause-err : goal.returns-in-Err-clause-err
returns-in-Err-clause-err g c = λ before here h e.
    let k = c.args.self.now in
    let s = spelled_at before here in
    let are = subst (λ (os : List ℕ). AreNumbers s.names s.outputs os)
    (sym c.as_slice.ensures.value) h.outputs in
    rw (← same_lacks k.fixes before here c.args.point e) (c.in-Err.ensures.err s h.graph are)
