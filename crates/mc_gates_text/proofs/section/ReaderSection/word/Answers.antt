use Rattle.std.proofs.Common.{◌≡◌, None, length, refl, sym, ◌∙◌}
use Rattle.std.proofs.lemmas.List.{length-map}
use Rattle.mc_text.specs.Lists.{names_in, names_at}
use Rattle.mc_circuit.specs.Roles.{is_output}
use Rattle.mc_gates.specs.Ops.{plain_op}
use Rattle.mc_gates_text.specs.Words.{is_gate}
use Rattle.mc_gates_text.specs.Roles.{role_of}
use Rattle.mc_gates_text.specs.Judge.{judge_by}
use Rattle.mc_gates_text.specs.Kept.{state_of}
use Rattle.mc_gates_text.proofs.Keeping.{same_judge, stands_at}
use Rattle.mc_gates_text.proofs.KeepingWord.{word_kept}
use Rattle.mc_gates_text.proofs.section.ReaderSection.word.Goals as goal

pub returns-in-Ok-clause-ok : goal.returns-in-Ok-clause-ok
returns-in-Ok-clause-ok c = record {
  same_rules = refl;
  taken = λ before here h e.
      let k = state_of c.args.self.now in
      let word = c.args.word.now in
      let point = c.args.point in
      let clean : judge_by k.names (names_at is_output before here) (names_in is_gate here)
      (length k.ops) point.last (role_of point) word ≡ None =
      rw (length-map c.args.self.now.ops.items plain_op)
      (c.in-Ok.ensures.clean _ _ (stands_at k before here h)) in (
        sym (same_judge k before here c.args.point word h e) ∙ clean,
        word_kept k (state_of c.take.new.kept) before here c.args.point word h e clean
            c.in-Ok.ensures.ok,
      );
}

pub returns-in-Err-clause-err : goal.returns-in-Err-clause-err
returns-in-Err-clause-err c = λ before here h e.
    let k = state_of c.args.self.now in
    rw (
      ← same_judge k before here c.args.point c.args.word.now h e,
      length-map c.args.self.now.ops.items plain_op,
    )
    (c.in-Err.ensures.err _ _ (stands_at k before here h))
