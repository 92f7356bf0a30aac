-- The amplitudes after the lowered gates are those after the gates, doubled.
use Rattle.std.proofs.Common.{◌≡◌, ℕ, zero, suc, ◌+◌, ◌<◌, Bool, true, false, cond, not, ◌&&◌}
use Rattle.std.proofs.Common.{length, List, [], ◌∷◌, ◌++◌, refl, ◌∙◌, ap, ap₂, arith}
use Rattle.std.proofs.lemmas.List.Elements.{recursion_from_All}
use Rattle.mc_model.specs.Phase.{PhaseOps, PhaseLaws, turn, sign}
use Rattle.mc_model.specs.Bits.{◌⊻◌, Bits, replaced}
use Rattle.mc_model.specs.Pattern.{Gate, J, CZ}
use Rattle.mc_model.specs.Amplitude.{Amps, start, agrees, act_gate, after_gates, circuit_table}
use Rattle.mc_gates.specs.Gates.{Op, H, X, Z, S, Sdg, T, Tdg, Cx, Cz, Swap, Ccx, GateList, act_op}
use Rattle.mc_gates.specs.Gates.{after_ops, gate_table, exchanged, OpFits, OpsFit, IsValidGateList}
use Rattle.mc_gates.specs.Lowering.{toffoli, gates_of, wires_behind, lowered_gates, last_wires}
use Rattle.mc_gates.specs.Lowering.{lowered, doublings, doubling_count}
use Rattle.mc_model.specs.Phase.{doubled}
use Rattle.mc_gates.proofs.Doubled.{doubled-sign, doubled-sum, doubled-doubled}
use Rattle.mc_gates.proofs.Pairs.{turn_pair, flip_pair, turned_flip}
use Rattle.mc_gates.proofs.Toffoli.{once_more, no_turns, toffoli_acts}
use Rattle.mc_gates.proofs.Wires.{IsReordering, Agree, agree_replaced, agree_traded, agree_placed}
use Rattle.mc_gates.proofs.Wires.{in_order, behind_reorders, last_reorders}

agrees_same : (b x z : Bits) (n : ℕ) → ((k : ℕ) → k < n → x k ≡ z k) → agrees n b x ≡ agrees n b z
agrees_same b x z zero same = refl
agrees_same b x z (suc n) same =
    ap₂ (λ (s t : Bool). not (b n ⊻ s) && t)
    (same n (omega arith))
    (agrees_same b x z n (λ k lt. same k (omega arith)))

module _ {E : Type 0} (ops : PhaseOps E) (laws : PhaseLaws ops) (eighth : ops.half ≡ 4) where
  -- the amplitudes `f` of wires are `2 ^ n` times those `g` of names, where the wire `at v` stands
  -- for the name `v`
  pub record SameDoubled (wires : ℕ) (at : ℕ → ℕ) (n : ℕ) (f g : Amps E) : Type 0 where
    pub same : (x y : Bits) → Agree wires at x y → f x ≡ doubled ops n (g y)

  after_gates-append : (gs hs : List Gate) (f : Amps E) →
      after_gates ops (gs ++ hs) f ≡ after_gates ops hs (after_gates ops gs f)
  unfolding after_gates
  after_gates-append [] hs f = refl
  after_gates-append (g ∷ gs) hs f = after_gates-append gs hs (act_gate ops g f)

  no_doubling : (n : ℕ) (x : E) → doubled ops n x ≡ doubled ops (0 + n) x
  no_doubling n x = let e : n ≡ 0 + n = omega arith in ap (λ (k : ℕ). doubled ops k x) e

  -- the phase gates
  turn_keeps : (wires : ℕ) (at : ℕ → ℕ) (n q k : ℕ) (f g : Amps E) → q < wires →
      SameDoubled wires at n f g →
      SameDoubled wires at (1 + n) (act_gate ops (J (at q) 0) (act_gate ops (J (at q) k) f))
      (λ y. turn ops (cond (y q) k 0) (g y))
  turn_keeps wires at n q k f g lq s = record {
    same = λ x y agree.
        turn_pair ops laws (at q) k f x
        ∙ ap₂ (λ (b : Bool) (a : E). doubled ops 1 (turn ops (cond b k 0) a))
        (agree q lq)
        (s.same x y agree)
        ∙ once_more ops laws 1 n (cond (y q) k 0) (g y);
  }

  h_keeps : (wires : ℕ) (at : ℕ → ℕ) (n q : ℕ) (f g : Amps E) → q < wires → IsReordering wires at →
      SameDoubled wires at n f g →
      SameDoubled wires at (0 + n) (act_gate ops (J (at q) 0) f) (act_op ops (H q) g)
  unfolding act_gate act_op turn
  h_keeps wires at n q f g lq order s = record {
    same = λ x y agree.
        let g0 : E = g (replaced y q false) in
        let g1 : E = g (replaced y q true) in
        ap₂ (λ (a b : E). ops.add a (sign ops (x (at q)) b))
        (s.same _ _ (agree_replaced wires at x y q false order lq agree))
        (s.same _ _ (agree_replaced wires at x y q true order lq agree))
        ∙ ap (λ (b : Bool). ops.add (doubled ops n g0) (sign ops b (doubled ops n g1)))
        (agree q lq)
        ∙ ap (ops.add (doubled ops n g0)) (doubled-sign ops laws n (y q) g1)
        ∙ doubled-sum ops laws n g0 (sign ops (y q) g1)
        ∙ no_doubling n (ops.add g0 (sign ops (y q) g1));
  }

  x_keeps : (wires : ℕ) (at : ℕ → ℕ) (n q : ℕ) (f g : Amps E) → q < wires → IsReordering wires at →
      SameDoubled wires at n f g →
      SameDoubled wires at (1 + n) (act_gate ops (J (at q) 4) (act_gate ops (J (at q) 0) f))
      (act_op ops (X q) g)
  unfolding act_op
  x_keeps wires at n q f g lq order s = record {
    same = λ x y agree.
        flip_pair ops laws eighth (at q) f x
        ∙ ap (λ (b : Bool). doubled ops 1 (f (replaced x (at q) (not b)))) (agree q lq)
        ∙ ap (doubled ops 1)
        (s.same _ _ (agree_replaced wires at x y q (not (y q)) order lq agree))
        ∙ doubled-doubled ops laws 1 n (g (replaced y q (not (y q))));
  }

  cx_keeps : (wires : ℕ) (at : ℕ → ℕ) (n p q : ℕ) (f g : Amps E) → p < wires → q < wires →
      (p ≡ q → ⊥) → IsReordering wires at → SameDoubled wires at n f g →
      SameDoubled wires at (1 + n)
      (act_gate ops (J (at q) 0) (act_gate ops (CZ (at p) (at q)) (act_gate ops (J (at q) 0) f)))
      (act_op ops (Cx p q) g)
  unfolding act_op
  cx_keeps wires at n p q f g lp lq ne order s = record {
    same = λ x y agree.
        ap (λ (h : Amps E). h x)
        (turned_flip ops laws 0 (at p) (at q) f (λ e. ne (order.apart p q lp lq e)))
        ∙ ap (doubled ops 1) (no_turns ops laws (x (at q) ⊻ x (at p)) _)
        ∙ ap₂ (λ (b c : Bool). doubled ops 1 (f (replaced x (at q) (b ⊻ c))))
        (agree q lq)
        (agree p lp)
        ∙ ap (doubled ops 1)
        (s.same _ _ (agree_replaced wires at x y q (y q ⊻ y p) order lq agree))
        ∙ doubled-doubled ops laws 1 n (g (replaced y q (y q ⊻ y p)));
  }

  cz_keeps : (wires : ℕ) (at : ℕ → ℕ) (n p q : ℕ) (f g : Amps E) → p < wires → q < wires →
      SameDoubled wires at n f g →
      SameDoubled wires at (0 + n) (act_gate ops (CZ (at p) (at q)) f) (act_op ops (Cz p q) g)
  unfolding act_gate act_op
  cz_keeps wires at n p q f g lp lq s = record {
    same = λ x y agree.
        ap₂ (λ (b : Bool) (a : E). sign ops b a)
        (ap₂ (λ (b c : Bool). b && c) (agree p lp) (agree q lq))
        (s.same x y agree)
        ∙ doubled-sign ops laws n (y p && y q) (g y)
        ∙ no_doubling n (sign ops (y p && y q) (g y));
  }

  ccx_keeps : (wires : ℕ) (at : ℕ → ℕ) (n p q r : ℕ) (f g : Amps E) → OpFits wires (Ccx p q r) →
      IsReordering wires at → SameDoubled wires at n f g →
      SameDoubled wires at (7 + n) (after_gates ops (toffoli (at p) (at q) (at r)) f)
      (act_op ops (Ccx p q r) g)
  unfolding act_op OpFits
  ccx_keeps wires at n p q r f g fit order s = record {
    same = λ x y agree.
        toffoli_acts ops laws eighth (at p) (at q) (at r)
        (λ e. fit.3 (order.apart p q fit.0 fit.1 e))
        (λ e. fit.4 (order.apart p r fit.0 fit.2 e))
        (λ e. fit.5 (order.apart q r fit.1 fit.2 e)) f x
        ∙ ap₂ (λ (b c : Bool). doubled ops 7 (f (replaced x (at r) (b ⊻ c))))
        (agree r fit.2)
        (ap₂ (λ (b c : Bool). b && c) (agree p fit.0) (agree q fit.1))
        ∙ ap (doubled ops 7)
        (s.same _ _
        (agree_replaced wires at x y r (y r ⊻ (y p && y q)) order fit.2 agree))
        ∙ doubled-doubled ops laws 7 n (g (replaced y r (y r ⊻ (y p && y q))));
  }

  op_keeps : (wires : ℕ) (at : ℕ → ℕ) (n : ℕ) (f g : Amps E) (op : Op) → OpFits wires op →
      IsReordering wires at → SameDoubled wires at n f g →
      SameDoubled wires (wires_behind at op) (doublings op + n)
      (after_gates ops (gates_of at op) f) (act_op ops op g)
  unfolding after_gates gates_of wires_behind doublings act_op OpFits
  op_keeps wires at n f g (H q) fit order s = h_keeps wires at n q f g fit order s
  op_keeps wires at n f g (X q) fit order s = x_keeps wires at n q f g fit order s
  op_keeps wires at n f g (Z q) fit order s = turn_keeps wires at n q 4 f g fit s
  op_keeps wires at n f g (S q) fit order s = turn_keeps wires at n q 2 f g fit s
  op_keeps wires at n f g (Sdg q) fit order s = turn_keeps wires at n q 6 f g fit s
  op_keeps wires at n f g (T q) fit order s = turn_keeps wires at n q 1 f g fit s
  op_keeps wires at n f g (Tdg q) fit order s = turn_keeps wires at n q 7 f g fit s
  op_keeps wires at n f g (Cx p q) fit order s =
      cx_keeps wires at n p q f g fit.0 fit.1 fit.2 order s
  op_keeps wires at n f g (Cz p q) fit order s = cz_keeps wires at n p q f g fit.0 fit.1 s
  op_keeps wires at n f g (Swap p q) fit order s = record {
    same = λ x y agree.
        s.same x (exchanged y p q)
        (agree_traded wires at x y p q fit.0 fit.1 fit.2 agree)
        ∙ no_doubling n (g (exchanged y p q));
  }
  op_keeps wires at n f g (Ccx p q r) fit order s = ccx_keeps wires at n p q r f g fit order s

  recounted : (wires : ℕ) (at : ℕ → ℕ) (n m : ℕ) (f g : Amps E) → n ≡ m →
      SameDoubled wires at n f g → SameDoubled wires at m f g
  recounted wires at n m f g e s = record {
    same = λ x y agree. s.same x y agree ∙ ap (λ (k : ℕ). doubled ops k (g y)) e;
  }

  pub lowered_keeps : (wires : ℕ) (gs : List Op) (at : ℕ → ℕ) (n : ℕ) (f g : Amps E) →
      OpsFit wires gs → IsReordering wires at → SameDoubled wires at n f g →
      SameDoubled wires (last_wires gs at) (doubling_count gs + n)
      (after_gates ops (lowered_gates gs at) f) (after_ops ops gs g)
  unfolding after_gates lowered_gates last_wires after_ops
  lowered_keeps wires [] at n f g fit order s =
      recounted wires at n (0 + n) f g (omega arith) s
  lowered_keeps wires (op ∷ gs) at n f g fit order s =
      let gates : List Gate = gates_of at op in
      let rest : List Gate = lowered_gates gs (wires_behind at op) in
      let done =
      lowered_keeps wires gs (wires_behind at op) (doublings op + n) (after_gates ops gates f)
      (act_op ops op g) fit.1 (behind_reorders wires at op fit.0 order)
      (op_keeps wires at n f g op fit.0 order s) in
      let count :
      doubling_count gs + (doublings op + n) ≡ doublings op + doubling_count gs + n =
      omega arith in
      record {
        same = λ x y agree.
            ap (λ (h : Amps E). h x) (after_gates-append gates rest f)
            ∙ done.same x y agree
            ∙ ap (λ (k : ℕ). doubled ops k (after_ops ops gs (act_op ops op g) y)) count;
      }

  pub lowering_keeps_table : (g : GateList) → IsValidGateList g → (y : List Bool) (b : Bits) →
      circuit_table ops (lowered g) y b
      ≡ doubled ops (doubling_count g.ops) (gate_table ops g y b)
  unfolding circuit_table lowered gate_table start doubled
  lowering_keeps_table g v y b =
      let wires : ℕ = length g.names in
      let le = v.inputs in
      let first : Amps E = start ops g.inputs b in
      let begun : SameDoubled wires (λ u. u) 0 first first = record {
        same = λ x z agree.
            ap (λ (t : Bool). cond t ops.one ops.nought)
            (agrees_same b x z g.inputs (λ k lt. agree k (omega arith)));
      } in
      let done = lowered_keeps wires g.ops (λ u. u) 0 first first v.ops (in_order wires) begun in
      let below = recursion_from_All (λ (q : ℕ). q < wires) g.outputs v.outputs.below in
      let count : doubling_count g.ops + 0 ≡ doubling_count g.ops = omega arith in
      done.same _ _
      (agree_placed wires (last_wires g.ops (λ u. u))
      (last_reorders wires (λ u. u) g.ops v.ops (in_order wires)) g.outputs y below)
      ∙ ap (λ (k : ℕ). doubled ops k (gate_table ops g y b)) count
