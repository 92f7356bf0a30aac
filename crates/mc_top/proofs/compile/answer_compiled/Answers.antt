use Rattle.std.proofs.Common.{◌∙◌, ap, refl, Err}
use Rattle.mc_pattern_text.specs.Canonical.{pattern_text}
use Rattle.mc_top.specs.Compile.{IsCompiledText}
use Rattle.mc_top.specs.Source.{translation_limit}
use Rattle.mc_top.proofs.Compilations.{gives_text, limit_is_due}
use Rattle.mc_top.proofs.Dues.{limit_past, no_limit}
use Rattle.mc_top.proofs.ShiftedForms.{on_ok}
use Rattle.mc_top.proofs.Serving.{gives_unless}
use Rattle.mc_top.proofs.compile.answer_compiled.Goals as goal

pub returns-in-Ok-clause-due : goal.returns-in-Ok-clause-due
returns-in-Ok-clause-due g c =
    let circuit = c.args.circuit.now in
    let compiled = c.in-Ok.compiled in
    gives_unless (translation_limit circuit) (IsCompiledText g.row.H circuit) c.told.result
    (no_limit circuit c.in-Ok.ensures.few)
    (gives_text (IsCompiledText g.row.H circuit) c.told.result (pattern_text g.row.H compiled.pattern)
    (c.told.ensures.due (pattern_text g.row.H compiled.pattern) c.print_pattern.ensures)
    (record {
      compiled = compiled.pattern;
      edges = compiled.edges;
      depth = compiled.depth;
      compilation = c.in-Ok.ensures.made;
      text = refl;
    }))

pub returns-in-Ok-clause-few : goal.returns-in-Ok-clause-few
returns-in-Ok-clause-few g c = on_ok c.told.result _ c.in-Ok.ensures.few

pub returns-in-Err-Limit-clause-due : goal.returns-in-Err-Limit-clause-due
returns-in-Err-Limit-clause-due g c =
    let passed = c.in-Err-Limit in
    let (to, from) = passed.ensures.limit passed.qubits in
    limit_is_due (translation_limit c.args.circuit.now) _ _
    (limit_past c.args.circuit.now passed.qubits c.into.result (to (ap Err passed.field-0-is))
    (c.into.ensures ∙ passed.qubits-is))
