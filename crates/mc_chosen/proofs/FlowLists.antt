-- The rows of a flow by its layers and sets, and those of a refuter.
use Rattle.std.proofs.Common.{◌≡◌, ℕ, zero, suc, ◌+◌, ◌<◌, ◌≤◌, Bool, true, false, ◌&&◌}
use Rattle.std.proofs.Common.{List, [], ◌∷◌, ◌++◌, refl, arith, subst, inl, inr, ap, ◌∙◌}
use Rattle.std.specs.Prelude.{All, nat_lt}
use Rattle.std.proofs.lemmas.Bool.{cases_eq, lt-ltb}
use Rattle.std.proofs.lemmas.List.Elements.{All-nil, All-cons, All-append}
use Rattle.mc_model.specs.Bits.{Bits}
use Rattle.mc_model.specs.Numbers.{numbers_where, is_member}
use Rattle.mc_model.specs.Signals.{IsRising}
use Rattle.mc_elim.proofs.BitSums.{not_true}
use Rattle.mc_graph.specs.RowLists.{has_row, HaveOwnVertices}
use Rattle.mc_graph.specs.Flows.{FlowLine}
use Rattle.mc_graph.specs.Refuters.{RefuterLine}
use Rattle.mc_graph.proofs.ListedNumbers.{member-where, numbers_where-rise, numbers_where-below}
use Rattle.mc_graph.proofs.OwnVertices.{no_vertices, own_more}
use Rattle.mc_gflow.specs.Layers.{IsBefore}
use Rattle.mc_gflow.specs.Rows.{IsFlowRow, HoldsRows, IsRefuterRow, HoldsRefuters}
use Rattle.mc_gflow.proofs.ListedRows.{found}
use Rattle.mc_gflow.proofs.RowsPushed.{no_rows, row_skipped, row_pushed, layer_ended}
use Rattle.mc_gflow.proofs.RowsPushed.{no_refuters, refuter_skipped, refuter_pushed}

-- the rising list of a set of numbers below a bound
listed : (p : Bits) (n : ℕ) → ((j : ℕ) → p j ≡ true → j < n) → (j : ℕ) →
    is_member (numbers_where p n) j ≡ p j
listed p n below j = member-where p n j ∙ by (p j) refl
  where
    by : (b : Bool) → p j ≡ b → (nat_lt j n && p j) ≡ p j
    by true e = rw (lt-ltb j n (below j e), e) refl
    by false e = rw e (none (nat_lt j n))
      where
        none : (t : Bool) → (t && false) ≡ false
        none true = refl
        none false = refl

one_rising : {A : Type 0} (set : A → List ℕ) (rows : List A) (r : A) →
    All (λ s. IsRising (set s)) rows → IsRising (set r) →
    All (λ s. IsRising (set s)) (rows ++ r ∷ [])
one_rising set rows r all one =
    All-append (λ s. IsRising (set s)) rows (r ∷ []) all
    (All-cons (λ s. IsRising (set s)) r [] one (All-nil (λ s. IsRising (set s))))

module _ (n : ℕ) (layer : ℕ → ℕ) (sets : ℕ → Bits) where
  -- ---- flows

  -- the rows of the vertices of a layer below `k`, or of the layer `k` and below `x`
  pub record AreListed (k x : ℕ) : Type 0 where
    pub rows : List FlowLine
    pub holds : HoldsRows n layer sets k x rows
    pub own : HaveOwnVertices (λ (r : FlowLine). r.vertex) rows
    pub rising : All (λ (r : FlowLine). IsRising r.set) rows

  module _ (inside : (v : ℕ) → v < n → 1 ≤ layer v → (j : ℕ) → sets v j ≡ true → j < n) where
    none_listed : AreListed 1 0
    none_listed = record {
      rows = [];
      holds = no_rows n layer sets;
      own = no_vertices (λ (r : FlowLine). r.vertex);
      rising = All-nil (λ (r : FlowLine). IsRising r.set);
    }

    new_vertex : (k x : ℕ) → layer x ≡ k → (a : AreListed k x) →
        has_row (λ (r : FlowLine). r.vertex) a.rows x ≡ false
    new_vertex k x due a = not_true (has_row (λ (r : FlowLine). r.vertex) a.rows x) λ has.
        let r = found (λ (r : FlowLine). r.vertex) (IsFlowRow n layer sets k x) a.rows x
        a.holds.each has in
        not_before r.row.vertex r.of_vertex r.holds.before
      where
        not_before : (v : ℕ) → v ≡ x → IsBefore layer k x v → ⊥
        not_before v e (inl lt) = let same = ap layer e in absurd (omega arith)
        not_before v e (inr both) = let lt = both.1 in absurd (omega arith)

    list_next : (k x : ℕ) → 1 ≤ k → x < n → AreListed k x → AreListed k (x + 1)
    list_next k x some xn a = elim (cases_eq (layer x) k) [
      | inr ne ↦ record {
        rows = a.rows;
        holds = row_skipped n layer sets k x a.rows a.holds ne;
        own = a.own;
        rising = a.rising;
      }
      | inl due ↦
          let set = numbers_where (sets x) n in
          let r : FlowLine = record { vertex = x; layer = k; set = set } in
          let rise = numbers_where-rise (sets x) n in
          let new = new_vertex k x due a in
          record {
            rows = a.rows ++ r ∷ [];
            holds = row_pushed n layer sets k x a.rows a.holds r refl refl due xn some rise
                (listed (sets x) n (inside x xn (omega arith))) new;
            own = own_more (λ (s : FlowLine). s.vertex) a.rows r a.own new;
            rising = one_rising (λ (s : FlowLine). s.set) a.rows r a.rising rise;
          }
    ]

    list_to : (k x : ℕ) → 1 ≤ k → x ≤ n → AreListed k 0 → AreListed k x
    list_to k zero some le a = a
    list_to k (suc x) some le a =
        let next : x + 1 ≡ suc x = omega arith in
        subst (AreListed k) next
        (list_next k x some (omega arith) (list_to k x some (omega arith) a))

    -- all rows of layers up to `k`
    pub all_listed : (k : ℕ) → AreListed (k + 1) 0
    all_listed zero = none_listed
    all_listed (suc k) =
        let next : (k + 1) + 1 ≡ suc k + 1 = omega arith in
        let a = list_to (k + 1) n (omega arith) (omega arith) (all_listed k) in
        subst (λ (l : ℕ). AreListed l 0) next (record {
          rows = a.rows;
          holds = layer_ended n (k + 1) layer sets a.rows a.holds;
          own = a.own;
          rising = a.rising;
        })

  -- ---- refuters

  module _ (none : ℕ) where
    -- the rows of the vertices below `x` that are in no layer
    pub record AreRefuters (x : ℕ) : Type 0 where
      pub rows : List RefuterLine
      pub holds : HoldsRefuters n none layer sets x rows
      pub own : HaveOwnVertices (λ (r : RefuterLine). r.vertex) rows
      pub rising : All (λ (r : RefuterLine). IsRising r.set) rows

    module _ (within : (v : ℕ) → v < n → layer v ≡ none → (j : ℕ) → sets v j ≡ true → j < n) where
      new_refuter : (x : ℕ) (a : AreRefuters x) →
          has_row (λ (r : RefuterLine). r.vertex) a.rows x ≡ false
      new_refuter x a = not_true (has_row (λ (r : RefuterLine). r.vertex) a.rows x) λ has.
          let r = found (λ (r : RefuterLine). r.vertex) (IsRefuterRow n none layer sets x) a.rows x
          a.holds.each has in
          let lt = r.holds.vertex in
          let same = r.of_vertex in
          absurd (omega arith)

      refute_next : (x : ℕ) → x < n → AreRefuters x → AreRefuters (x + 1)
      refute_next x xn a = elim (cases_eq (layer x) none) [
        | inr ne ↦ record {
          rows = a.rows;
          holds = refuter_skipped n none layer sets x a.rows a.holds ne;
          own = a.own;
          rising = a.rising;
        }
        | inl due ↦
            let set = numbers_where (sets x) n in
            let r : RefuterLine = record { vertex = x; set = set } in
            let new = new_refuter x a in
            record {
              rows = a.rows ++ r ∷ [];
              holds = refuter_pushed n none layer sets x a.rows a.holds r refl due
                  (listed (sets x) n (within x xn due)) (numbers_where-below (sets x) n);
              own = own_more (λ (s : RefuterLine). s.vertex) a.rows r a.own new;
              rising = one_rising (λ (s : RefuterLine). s.set) a.rows r a.rising
                  (numbers_where-rise (sets x) n);
            }
      ]

      pub all_refuters : (x : ℕ) → x ≤ n → AreRefuters x
      all_refuters zero le = record {
        rows = [];
        holds = no_refuters n none layer sets;
        own = no_vertices (λ (r : RefuterLine). r.vertex);
        rising = All-nil (λ (r : RefuterLine). IsRising r.set);
      }
      all_refuters (suc x) le =
          let next : x + 1 ≡ suc x = omega arith in
          subst AreRefuters next (refute_next x (omega arith) (all_refuters x (omega arith)))
