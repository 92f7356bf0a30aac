use Rattle.std.proofs.Common.{◌≡◌, ℕ, ◌<◌, ◌≤◌, sym, ◌∙◌, true, false, arith}
use Rattle.mc_model.specs.Names.{is_held, numbered}
use Rattle.mc_names.proofs.Numbered.{held_few, held_more, fresh_name-least}
use Rattle.mc_names.proofs.names.Names.fresh.Goals as goal

held_now : (c : goal.In-numbers) (j : ℕ) → 0 < j → j ≤ c.numbers.number
    → is_held c.args.self.now (numbered j) ≡ true
held_now c =
    let k = c.numbers.number in
    let names = c.args.self.now in
    let here : is_held names (numbered k) ≡ true =
    rw (← c.numbered.ensures)
    (sym c.find.ensures.held ∙ sym c.is_some.ensures ∙ c.numbers-test.true) in
    held_more names k c.numbers.invariant.held here

pub numbers-smaller : goal.numbers-smaller
numbers-smaller c =
    let few = held_few c.args.self.now c.numbers.number (omega arith) (held_now c) in
    omega arith

pub numbers-preserved : goal.numbers-preserved
numbers-preserved c =
    let few = held_few c.args.self.now c.numbers.number (omega arith) (held_now c) in
    record {
      positive = omega arith;
      most = omega arith;
      held = λ j p l. held_now c j p (omega arith);
    }

pub returns : goal.returns
returns c =
    let names = c.args.self.now in
    let free : is_held names (numbered c.numbers.number) ≡ false =
    rw (← c.numbered.ensures)
    (sym c.find.ensures.held ∙ sym c.is_some.ensures ∙ c.numbers-test.false) in
    let found = c.numbers.invariant in
    c.numbered-2.ensures
    ∙ fresh_name-least names c.numbers.number found.positive found.most found.held free
