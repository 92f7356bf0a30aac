use Rattle.mc_model.specs.Amplitude.{branch_map, pattern_scale}
use Rattle.mc_model.specs.Ring.{ring}
use Rattle.mc_run.specs.Limits.{all_limit}
use Rattle.mc_run_text.specs.Runs.{all_runs, branch_entries}
use Rattle.mc_top.proofs.ShiftedForms.{if_ok}
use Rattle.mc_top.proofs.AllBranches.{well_printed, all_branches, alike_all}
use Rattle.mc_top.proofs.run.answer_branches.Goals as goal

pub returns-clause-meaning : goal.returns-clause-meaning
returns-clause-meaning g c =
    let p = c.args.pattern.now in
    let law = c.amplitudes_are_reduced.ensures in
    record {
      all = all_branches p c.names-names.ensures.valid.valid;
      entries = λ o y b. well_printed g.row.H law.value law.least
          (branch_map (ring g.row.H) p o y b) (pattern_scale p);
      phases = λ i below. c.phases_are_least.ensures (branch_entries g.row.H p i)
          (branch_entries g.row.H p 0);
      alike = alike_all g.row.H p c.phases_are_least.ensures;
    }

pub returns-clause-due : goal.returns-clause-due
returns-clause-due g c =
    let p = c.args.pattern.now in
    c.ran.ensures.due (all_limit p) (all_runs g.row.H p) c.run_all_text.ensures.text
    (if_ok c.run_all_text.result _ c.run_all_text.ensures.within)
    (λ which found e. let (to, from) = c.run_all_text.ensures.limit which found in to e)
