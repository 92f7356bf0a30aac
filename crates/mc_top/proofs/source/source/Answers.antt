use Rattle.std.proofs.Common.{◌∙◌, sym, arith}
use Rattle.mc_document.specs.Documents.{plain_document}
use Rattle.mc_top.proofs.Dues.{circuit_err, circuit_few, circuit_source, limit_of_pattern}
use Rattle.mc_top.proofs.Dues.{some_pattern, some_source, source_of_pattern}
use Rattle.mc_top.proofs.source.source.Goals as goal

pub into_pattern-requires : goal.into_pattern-requires
into_pattern-requires g c = (
  omega arith,
  (
    omega arith,
    c.taken_documents_are_seen.ensures.other (plain_document c.args.document) c.requires.taken
        (sym c.is_circuit.ensures ∙ c.if-is_circuit.false),
  ),
)

pub returns-then-is_circuit-clause-pattern : goal.returns-then-is_circuit-clause-pattern
returns-then-is_circuit-clause-pattern g c =
    circuit_source g.row.H (plain_document c.args.document) c.into_circuit-circuit.result
    c.translated.result c.into_circuit-circuit.ensures c.translated.ensures.pattern

pub returns-then-is_circuit-clause-few : goal.returns-then-is_circuit-clause-few
returns-then-is_circuit-clause-few g c =
    circuit_few (plain_document c.args.document) c.into_circuit-circuit.result c.translated.result
    c.into_circuit-circuit.ensures c.translated.ensures.few

pub returns-then-is_circuit-clause-some : goal.returns-then-is_circuit-clause-some
returns-then-is_circuit-clause-some g c =
    some_source g.row.H (plain_document c.args.document) c.into_circuit-circuit.result
    c.into_circuit-circuit.ensures

pub returns-then-is_circuit-clause-err : goal.returns-then-is_circuit-clause-err
returns-then-is_circuit-clause-err g c =
    circuit_err (plain_document c.args.document) c.into_circuit-circuit.result c.translated.result
    c.into_circuit-circuit.ensures c.translated.ensures.err

pub returns-else-is_circuit-clause-pattern : goal.returns-else-is_circuit-clause-pattern
returns-else-is_circuit-clause-pattern g c =
    source_of_pattern g.row.H (plain_document c.args.document) c.into_pattern.result
    (sym c.is_circuit.ensures ∙ c.if-is_circuit.false) c.into_pattern.ensures

pub returns-else-is_circuit-clause-few : goal.returns-else-is_circuit-clause-few
returns-else-is_circuit-clause-few g c =
    limit_of_pattern (plain_document c.args.document)
    (sym c.is_circuit.ensures ∙ c.if-is_circuit.false)

pub returns-else-is_circuit-clause-some : goal.returns-else-is_circuit-clause-some
returns-else-is_circuit-clause-some g c =
    some_pattern g.row.H (plain_document c.args.document) c.into_pattern.result
    (sym c.is_circuit.ensures ∙ c.if-is_circuit.false) c.into_pattern.ensures
