use Rattle.std.proofs.Common.{sym, ◌∙◌, arith}
use Rattle.std.proofs.lemmas.Bool.{and_from, not_from_false}
use Rattle.mc_model.specs.Bits.{bits_of}
use Rattle.mc_pattern.proofs.Members.{some_number, no_number}
use Rattle.mc_pattern.specs.Rules.{is_missing}
use Rattle.mc_pattern.proofs.outputs.has_missing.Goals as goal

pub returns-then-not-lists : goal.returns-then-not-lists
returns-then-not-lists c =
    let p = is_missing (bits_of c.args.marks.now) c.args.qubits.now in
    let unmarked = not_from_false _ (sym c.is_marked.ensures ∙ c.if-not-is_marked.true) in
    let unlisted = not_from_false _ (sym c.lists.ensures ∙ c.if-not-lists.true) in
    sym (some_number p c.args.count c.qubits.q c.qubits-test.true (and_from _ _ unmarked unlisted))

pub returns : goal.returns
returns c =
    let p = is_missing (bits_of c.args.marks.now) c.args.qubits.now in
    let all = c.qubits-test.false in
    sym (no_number p c.args.count (λ k lt. c.qubits.invariant k (omega arith)))
