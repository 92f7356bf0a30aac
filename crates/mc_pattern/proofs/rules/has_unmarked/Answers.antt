use Rattle.std.proofs.Common.{sym, ◌∙◌}
use Rattle.std.proofs.lemmas.Bool.{not_from_true, not_from_false}
use Rattle.mc_model.specs.Bits.{bits_of}
use Rattle.mc_pattern.proofs.Members.{any_there, none_more}
use Rattle.mc_pattern.specs.Rules.{is_undone}
use Rattle.mc_pattern.proofs.rules.has_unmarked.Goals as goal

pub returns-then-not-is_marked-clause-unmarked : goal.returns-then-not-is_marked-clause-unmarked
returns-then-not-is_marked-clause-unmarked c =
    let undone = is_undone (bits_of c.args.marks.now) in
    let members = c.members-members.result.now in
    sym (rw (← c.members-members.ensures.members)
    (any_there undone members c.members.i c.get.result c.get.ensures.member
    (not_from_false _ (sym c.is_marked.ensures ∙ c.if-not-is_marked.true))))

pub members-preserved : goal.members-preserved
members-preserved c =
    let undone = is_undone (bits_of c.args.marks.now) in
    let members = c.members-members.result.now in
    none_more undone members c.members.i c.get.result c.get.ensures.member
    c.members.invariant (not_from_true _ (sym c.is_marked.ensures ∙ c.if-not-is_marked.false))
