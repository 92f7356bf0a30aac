use Rattle.std.proofs.Common.{◌≡◌, List, ℤ, [], ◌∷◌, ◌++◌, length, map, sym, ap, ◌∙◌, subst, arith}
use Rattle.std.proofs.lemmas.List.{map-append, length-map}
use Rattle.mc_run.specs.Exact.{Exact, exact}
use Rattle.mc_run.specs.Sources.{taken, source, IsStepped}
use Rattle.mc_run.proofs.Vectors.{length-more, stepped_more}
use Rattle.mc_run.proofs.vector.stepped.Goals as goal

pub entries-preserved : goal.entries-preserved
entries-preserved g c =
    let seen = g.R.Ring.seen in
    let ring : Exact =
    exact g.R.Ring.nought g.R.Ring.unit g.R.Ring.sum_of g.R.Ring.negative_of
    g.R.PhaseRing.turned_by g.R.PhaseRing.HALF g.R.PhaseRing.height_of in
    let v : List (List ℤ) = map seen c.args.entries.now in
    let ys : List (List ℤ) = map seen c.entries.next.items in
    let a : List ℤ = seen c.take-entry.result in
    let items : c.push.new.self.items ≡ c.entries.next.items ++ c.take-entry.result ∷ [] =
    c.in-Ok.ensures.items in
    let e : map seen c.push.new.self.items ≡ ys ++ a ∷ [] =
    ap (map seen) items ∙ map-append seen c.entries.next.items (c.take-entry.result ∷ []) in
    let n : length ys ≡ c.entries.i =
    length-map c.entries.next.items seen ∙ c.entries.invariant.long in
    let s : c.source.result ≡ source g.R.PhaseRing.HALF c.args.step c.entries.i =
    c.source.ensures ∙ ap (λ h. source h c.args.step c.entries.i) c.HALF.ensures in
    record {
      long = ap length items ∙ length-more c.entries.next.items c.take-entry.result
          ∙ omega (arith, c.entries.invariant.long);
      stepped =
          subst (IsStepped ring g.R.Ring.IsElement c.args.step v) (sym e)
          (stepped_more ring g.R.Ring.IsElement c.args.step v ys a c.entries.invariant.stepped
          (c.take-entry.ensures
          ∙ ap (taken ring v) (s ∙ ap (source g.R.PhaseRing.HALF c.args.step) (sym n)))
          c.known.ensures.element);
    }
