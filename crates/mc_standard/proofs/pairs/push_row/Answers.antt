use Rattle.std.proofs.Common.{◌≡◌, ◌-◌, ◌*◌, ◌++◌, [], ◌∷◌, List, ℕ, map, sym, ◌∙◌, ap, arith}
use Rattle.std.proofs.Common.{append-nil, append_assoc}
use Rattle.std.proofs.lemmas.List.{map-append}
use Rattle.mc_model.specs.Numbers.{pairs_at}
use Rattle.mc_model.specs.Pattern.{Command, Ent}
use Rattle.mc_standard.specs.OddPairs.{is_odd}
use Rattle.mc_standard.specs.Plain.{plain_edge}
use Rattle.mc_standard.proofs.OddPairs.{row_begun, row_more}
use Rattle.mc_standard.proofs.pairs.push_row.Goals as goal

pub higher-init : goal.higher-init
higher-init c =
    let before : List Command = map plain_edge c.args.edges.now.items in
    let next = c.next_one-place.ensures in
    record {
      from = next.order;
      within = next.within;
      one = next.one;
      edges =
          sym (ap (λ (xs : List Command). before ++ xs)
          (row_begun Ent c.args.odd.now c.args.i _ c.next_one-place.result next)
          ∙ append-nil before);
    }

pub higher-preserved : goal.higher-preserved
higher-preserved c =
    let before : List Command = map plain_edge c.args.edges.now.items in
    let i = c.args.i in
    let j = c.higher.place - i * 256 in
    let row : List Command = pairs_at Ent (is_odd c.args.odd.now) i j in
    let from = c.higher.invariant.from in
    let next = c.next_one-place-in-higher.ensures in
    let order = next.order in
    record {
      from = omega arith;
      within = next.within;
      one = next.one;
      edges =
          ap (map plain_edge) c.in_ok-append.ensures
          ∙ map-append plain_edge c.higher.edges.items ((i, j) ∷ [])
          ∙ ap (λ (xs : List Command). xs ++ (Ent i j ∷ [])) c.higher.invariant.edges
          ∙ append_assoc before row (Ent i j ∷ [])
          ∙ sym (ap (λ (xs : List Command). before ++ xs)
          (row_more Ent c.args.odd.now i _ c.higher.place c.next_one-place-in-higher.result from
          (c.higher.invariant.one c.higher-test.true) next));
    }

pub returns : goal.returns
returns c =
    let before : List Command = map plain_edge c.args.edges.now.items in
    let within = c.higher.invariant.within in
    let over = c.higher-test.false in
    let whole : c.higher.place - c.args.i * 256 ≡ c.args.qubits = omega arith in
    c.higher.invariant.edges
    ∙ ap (λ (n : ℕ). before ++ pairs_at Ent (is_odd c.args.odd.now) c.args.i n) whole
