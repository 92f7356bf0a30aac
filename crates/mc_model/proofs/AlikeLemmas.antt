-- Commands that do alike may be put for one another anywhere in a list.
use Rattle.std.proofs.Common.{◌≡◌, ℕ, ◌+◌, ◌*◌, ◌%◌, true, false, ◌&&◌, ◌++◌, List, [], ◌∷◌}
use Rattle.std.proofs.Common.{refl}
use Rattle.std.proofs.Common.{sym, ◌∙◌, ap, arith}
use mathlib.Core.Path.{fun_ext}
use Rattle.mc_model.specs.Phase.{PhaseOps, PhaseLaws, turn, negated}
use Rattle.mc_model.specs.Bits.{Bits, replaced}
use Rattle.mc_model.specs.Signals.{value}
use Rattle.mc_model.specs.Pattern.{Command, Prep, Ent, Meas, FixX, FixZ, Pattern}
use Rattle.mc_model.specs.Amplitude.{Amps, act, after, start, placed, amp, branch_map}
use Rattle.mc_model.specs.Alike.{AlikeCommands, AlikeBranches}
use Rattle.mc_model.proofs.PhaseLemmas.{turn-add, turn_comm, turn-sum, turn-negated, sign-turn}
use Rattle.mc_model.proofs.PhaseLemmas.{turn-modulo}
use Rattle.mc_model.proofs.AmplitudeLemmas.{after-append}

module _ {E : Type 0} (ops : PhaseOps E) (laws : PhaseLaws ops) where
  pub act-turn : (o : Bits) (c : Command) (k : ℕ) (f : Amps E) (x : Bits) →
      act ops o c (λ y. turn ops k (f y)) x ≡ turn ops k (act ops o c f x)
  unfolding act
  act-turn o (Prep i) k f x = refl
  act-turn o (Ent i j) k f x = sign-turn ops laws (x i && x j) k (f x)
  act-turn o (FixX i s) k f x = refl
  act-turn o (FixZ i s) k f x = sign-turn ops laws (x i && value s o) k (f x)
  act-turn o (Meas i a s t) k f x =
      ap (λ (e : E). ops.add (turn ops k (f (replaced x i false))) e)
      (ap (turn ops _) (sign-turn ops laws (o i) k (f (replaced x i true)))
      ∙ turn_comm ops laws _ k _)
      ∙ sym (turn-sum ops laws k _ _)

  pub after-turn : (o : Bits) (cs : List Command) (k : ℕ) (f : Amps E) (x : Bits) →
      after ops o cs (λ y. turn ops k (f y)) x ≡ turn ops k (after ops o cs f x)
  unfolding after
  after-turn o [] k f x = refl
  after-turn o (c ∷ cs) k f x =
      ap (λ (g : Amps E). after ops o cs g x) (fun_ext (act-turn o c k f))
      ∙ after-turn o cs k (act ops o c f) x

  pub alike_itself : (o : Bits) (cs : List Command) → AlikeCommands ops o cs cs
  unfolding turn
  alike_itself o cs = record { phase = 0; same = λ f x. refl }

  pub alike_back : (o : Bits) (cs ds : List Command) → AlikeCommands ops o cs ds →
      AlikeCommands ops o ds cs
  alike_back o cs ds h = record {
    phase = negated ops.half h.phase;
    same = λ f x. sym (turn-negated ops laws h.phase _)
        ∙ ap (turn ops (negated ops.half h.phase)) (sym (h.same f x));
  }

  pub alike_on : (o : Bits) (cs ds es : List Command) → AlikeCommands ops o cs ds →
      AlikeCommands ops o ds es → AlikeCommands ops o cs es
  alike_on o cs ds es h k = record {
    phase = h.phase + k.phase;
    same = λ f x. h.same f x ∙ ap (turn ops h.phase) (k.same f x)
        ∙ sym (turn-add ops laws h.phase k.phase _);
  }

  -- in the middle of a list
  pub alike_within : (o : Bits) (before cs ds behind : List Command) → AlikeCommands ops o cs ds →
      AlikeCommands ops o (before ++ (cs ++ behind)) (before ++ (ds ++ behind))
  alike_within o before cs ds behind h = record {
    phase = h.phase;
    same = λ f x.
        let g : Amps E = after ops o before f in
        ap (λ (p : Amps E). p x)
        (after-append ops laws o before (cs ++ behind) f ∙ after-append ops laws o cs behind g)
        ∙ ap (λ (p : Amps E). after ops o behind p x) (fun_ext (h.same g))
        ∙ after-turn o behind h.phase (after ops o ds g) x
        ∙ ap (λ (p : Amps E). turn ops h.phase (p x))
        (sym (after-append ops laws o before (ds ++ behind) f
        ∙ after-append ops laws o ds behind g));
  }

  -- one phase for all entries of a branch map
  pub alike_branches : (names ms : List (List ℕ)) (inputs : ℕ) (outputs : List ℕ) (o : Bits)
      (cs ds : List Command) → AlikeCommands ops o cs ds →
      AlikeBranches ops
      (record { names = names; inputs = inputs; outputs = outputs; commands = cs }) o
      (record { names = ms; inputs = inputs; outputs = outputs; commands = ds }) o
  unfolding branch_map amp
  alike_branches names ms inputs outputs o cs ds h =
      let p = laws.half_positive in
      record {
        phase = h.phase % (2 * ops.half);
        within = omega arith;
        same = λ y b.
            h.same (start ops inputs b) (placed outputs y) ∙ sym (turn-modulo ops laws h.phase _);
      }

  pub branches_on : (p q r : Pattern) (o o' o'' : Bits) → AlikeBranches ops p o q o' →
      AlikeBranches ops q o' r o'' → AlikeBranches ops p o r o''
  branches_on p q r o o' o'' h k =
      let positive = laws.half_positive in
      record {
        phase = (h.phase + k.phase) % (2 * ops.half);
        within = omega arith;
        same = λ y b.
            h.same y b ∙ ap (turn ops h.phase) (k.same y b)
            ∙ sym (turn-add ops laws h.phase k.phase _)
            ∙ sym (turn-modulo ops laws (h.phase + k.phase) _);
      }

  pub branches_back : (p q : Pattern) (o o' : Bits) → AlikeBranches ops p o q o' →
      AlikeBranches ops q o' p o
  unfolding negated
  branches_back p q o o' h =
      let positive = laws.half_positive in
      record {
        phase = negated ops.half h.phase;
        within = omega arith;
        same = λ y b.
            sym (turn-negated ops laws h.phase _) ∙ ap (turn ops _) (sym (h.same y b));
      }
