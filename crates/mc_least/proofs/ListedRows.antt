-- Rows that are listed by layer and number.
use Rattle.std.specs.Prelude.{◌≡◌, ◌≢◌, ℕ, ◌+◌, ◌<◌, ◌≤◌, Bool, true, false, ◌&&◌, ◌||◌, List}
use Rattle.std.specs.Prelude.{[], ◌∷◌, ◌++◌, All}
use Rattle.std.specs.List.{list_any}
use Rattle.std.proofs.Common.{arith, sym, ap₂, subst, ◌∙◌, inl, inr}
use Rattle.std.proofs.lemmas.Bool.{eq-eqb, cases_eq}
use Rattle.std.proofs.lemmas.List.Elements.{All-nil, All-head, All-tail}
use Rattle.std.proofs.lemmas.List.Elements.{All-weaker, All-push}
use Rattle.std.proofs.lemmas.List.Folds.{list_any-append}
use Rattle.mc_least.specs.Listed.{ComesBefore, Rises, is_at, Lists}

either : (a b : Bool) → (a ≡ true) → a || b ≡ true
either a b e = grind arith

or_last : (a b : Bool) → (b ≡ true) → a || (b || false) ≡ true
or_last a b e = grind arith

wider : (j v k x : ℕ) → ComesBefore j v k x → ComesBefore j v k (x + 1)
wider j v k x (inl lt) = inl lt
wider j v k x (inr e) = let lt = e.1 in inr (e.0, omega arith)

narrow : (j v k x : ℕ) → v ≢ x → ComesBefore j v k (x + 1) → ComesBefore j v k x
narrow j v k x ne (inl lt) = inl lt
narrow j v k x ne (inr e) = let lt = e.1 in inr (e.0, omega arith)

module _ {A : Type 0} (level vertex : A → ℕ) (IsDue : ℕ → ℕ → Type 0) (P : A → Type 0) where
  -- the rows are those before this layer and vertex
  abbrev IsBefore : ℕ → ℕ → A → Type 0
  IsBefore k x r = ComesBefore (level r) (vertex r) k x

  -- no rows yet: all layers that are due are at least 1
  pub none_listed : ((j v : ℕ) → IsDue j v → 1 ≤ j) → Lists level vertex IsDue P 1 0 []
  none_listed positive = record {
    each = All-nil P;
    before = All-nil (IsBefore 1 0);
    complete = λ j v due b. absurd (none j v (positive j v due) b);
    rises = tt;
  }
    where
      none : (j v : ℕ) → 1 ≤ j → ComesBefore j v 1 0 → ⊥
      none j v one (inl lt) = absurd (omega arith)
      none j v one (inr e) = let lt = e.1 in absurd (omega arith)

  all_wider : (k x : ℕ) (rows : List A) → All (IsBefore k x) rows → All (IsBefore k (x + 1)) rows
  all_wider k x rows h =
      All-weaker (IsBefore k x) (IsBefore k (x + 1)) (λ r b. wider (level r) (vertex r) k x b)
      rows h

  -- nothing is due for the next vertex
  pub row_skipped : (k x : ℕ) (rows : List A) → Lists level vertex IsDue P k x rows →
      (IsDue k x → ⊥) → Lists level vertex IsDue P k (x + 1) rows
  row_skipped k x rows h other = record {
    each = h.each;
    before = all_wider k x rows h.before;
    complete = λ j v due b. h.complete j v due (kept j v due b);
    rises = h.rises;
  }
    where
      kept : (j v : ℕ) → IsDue j v → ComesBefore j v k (x + 1) → ComesBefore j v k x
      kept j v due (inl lt) = inl lt
      kept j v due (inr e) = elim (cases_eq v x) [
        | inl same ↦
            absurd (other (subst (λ (i : ℕ). IsDue i x) e.0 (subst (IsDue j) same due)))
        | inr ne ↦ let lt = e.1 in inr (e.0, omega arith)
      ]

  rises_more : (rows : List A) (r : A) → Rises level vertex rows →
      All (IsBefore (level r) (vertex r)) rows → Rises level vertex (rows ++ r ∷ [])
  rises_more [] r h before = (All-nil (λ s. IsBefore (level s) (vertex s) r), tt)
  rises_more (s ∷ rows) r h before = (
    All-push (λ t. IsBefore (level t) (vertex t) s) rows r h.0
        (All-head (IsBefore (level r) (vertex r)) s rows before),
    rises_more rows r h.1 (All-tail (IsBefore (level r) (vertex r)) s rows before),
  )

  -- the next vertex gets its row
  pub row_pushed : (k x : ℕ) (rows : List A) (r : A) → Lists level vertex IsDue P k x rows → P r →
      level r ≡ k → vertex r ≡ x → Lists level vertex IsDue P k (x + 1) (rows ++ r ∷ [])
  row_pushed k x rows r h p at_level at_vertex = record {
    each = All-push P rows r h.each p;
    before = All-push (IsBefore k (x + 1)) rows r (all_wider k x rows h.before)
        (inr (at_level, let e : vertex r ≡ x = at_vertex in omega arith));
    complete = λ j v due b.
        list_any-append (is_at level vertex j v) rows (r ∷ [])
        ∙ found j v due b;
    rises = rises_more rows r h.rises
        (All-weaker (IsBefore k x) (IsBefore (level r) (vertex r))
        (λ s b. subst (λ (y : ℕ). ComesBefore (level s) (vertex s) (level r) y) (sym at_vertex)
        (subst (λ (i : ℕ). ComesBefore (level s) (vertex s) i x) (sym at_level) b)) rows h.before);
  }
    where
      here : (j v : ℕ) → j ≡ k → v ≡ x → is_at level vertex j v r ≡ true
      here j v e f =
          ap₂ (λ (a b : Bool). a && b) (eq-eqb j (level r) (e ∙ sym at_level))
          (eq-eqb v (vertex r) (f ∙ sym at_vertex))

      found : (j v : ℕ) → IsDue j v → ComesBefore j v k (x + 1) →
          list_any (is_at level vertex j v) rows || (is_at level vertex j v r || false) ≡ true
      found j v due (inl lt) =
          either (list_any (is_at level vertex j v) rows) _ (h.complete j v due (inl lt))
      found j v due (inr e) = elim (cases_eq v x) [
        | inl same ↦
            or_last (list_any (is_at level vertex j v) rows) (is_at level vertex j v r)
            (here j v e.0 same)
        | inr ne ↦
            either (list_any (is_at level vertex j v) rows) _
            (h.complete j v due (narrow j v k x ne (inr e)))
      ]

  -- a layer has ended
  pub layer_ended : (n k : ℕ) (rows : List A) → ((j v : ℕ) → IsDue j v → v < n) →
      Lists level vertex IsDue P k n rows → Lists level vertex IsDue P (k + 1) 0 rows
  layer_ended n k rows within h = record {
    each = h.each;
    before = All-weaker (IsBefore k n) (IsBefore (k + 1) 0)
        (λ r b. into (level r) (vertex r) b) rows h.before;
    complete = λ j v due b. h.complete j v due (back j v (within j v due) b);
    rises = h.rises;
  }
    where
      into : (j v : ℕ) → ComesBefore j v k n → ComesBefore j v (k + 1) 0
      into j v (inl lt) = inl (omega arith)
      into j v (inr e) = let same = e.0 in inl (omega arith)

      back : (j v : ℕ) → v < n → ComesBefore j v (k + 1) 0 → ComesBefore j v k n
      back j v vn (inl lt) = elim (cases_eq j k) [
        | inl e ↦ inr (e, vn)
        | inr ne ↦ inl (omega arith)
      ]
      back j v vn (inr e) = let lt = e.1 in absurd (omega arith)
