use Rattle.std.proofs.Common.{◌≡◌, ◌∙◌, ℕ, List, Bool, true, false, length, refl, ap}
use Rattle.std.proofs.Common.{subst, sym, ◌≤◌}
use Rattle.std.proofs.lemmas.List.{length-replicate}
use Rattle.mc_model.specs.Numbers.{is_member}
use Rattle.mc_bits.specs.Rows.{bit_of}
use Rattle.mc_bits.proofs.RowsByBits.{past_end}
use Rattle.mc_elim.specs.Basis.{count_of, columns_of}
use Rattle.mc_elim.specs.Systems.{Solves, Refutes}
use Rattle.mc_elim.proofs.UnitsByBasis.{least_by_members, members_below, not_false}
use Rattle.mc_elim.proofs.units.answer_of.Goals as goal

pub returns-then-single : goal.returns-then-single
returns-then-single c = (
  least_by_members (count_of c.args.basis.now)
      (Solves c.args.basis.now.rows (count_of c.args.basis.now) (columns_of c.args.basis.now)
      c.args.u)
      (bit_of c.single.new.out) (is_member c.in_ok-members_of.field-0) c.in_ok-members_of.ensures
      (c.if-single.ensures.yes refl),
  members_below (is_member c.in_ok-members_of.field-0) (bit_of c.single.new.out)
      (count_of c.args.basis.now) c.in_ok-members_of.ensures (c.if-single.ensures.others refl),
)

pub returns : goal.returns
returns c =
    let unsolved = (c.if-single.ensures.no refl).0 in
    let refuted : c.refuter.result ≡ true =
    not_false c.refuter.result λ e.
    let solved = c.refuter.ensures.solved e in unsolved solved.0 solved.1 in
    let wide : length c.refuter.new.out ≡ c.args.basis.now.rows =
    c.refuter.ensures.length ∙ ap (λ (row : List Bool). length row) c.new-y.ensures
    ∙ length-replicate c.args.rows false ∙ sym c.requires.sizes.0 in (
      least_by_members c.args.basis.now.rows
          (Refutes c.args.basis.now.rows (count_of c.args.basis.now) (columns_of c.args.basis.now)
          c.args.u)
          (bit_of c.refuter.new.out) (is_member c.in_ok-members_of-2.field-0)
          c.in_ok-members_of-2.ensures (c.refuter.ensures.yes refuted),
      members_below (is_member c.in_ok-members_of-2.field-0) (bit_of c.refuter.new.out)
          c.args.basis.now.rows c.in_ok-members_of-2.ensures
          (λ j l. past_end c.refuter.new.out j (subst (λ (n : ℕ). n ≤ j) (sym wide) l)),
      unsolved,
    )
