-- The rows of a bound that fits a graph are sound, and say the bound.
use Rattle.std.proofs.Common.{◌≡◌, ℕ, ◌≤◌, ◌<◌, All, true}
use Rattle.std.proofs.Common.{List, [], ◌∷◌, ◌++◌, map, length, refl, sym}
use Rattle.std.proofs.Common.{ap, ap₂, subst, ◌∙◌, append_assoc, Option, Some}
use Rattle.std.proofs.lemmas.List.{map-append, append-nil}
use Rattle.std.proofs.lemmas.List.Elements.{All-nil, All-head, All-tail}
use Rattle.mc_model.specs.Names.{Name}
use Rattle.mc_model.specs.Signals.{IsRising}
use Rattle.mc_model.specs.Graph.{OpenGraph}
use Rattle.mc_graph.specs.RowLists.{AreRowsOf, HaveOwnVertices}
use Rattle.mc_cert.specs.BoundRecords.{LayerRow, BoundRow}
use Rattle.mc_cert.specs.BoundRules.{AreApart}
use Rattle.mc_cert.specs.Bounds.{BoundRows, AreOwn, IsBoundIn}
use Rattle.mc_text.specs.declared.head.Head.{Head}
use Rattle.mc_text.specs.declared.head.Head.TheVariants.{Depth, L, Y, End}
use Rattle.mc_rows.specs.declared.row.Row.{Row}
use Rattle.mc_rows.specs.Written.{AreSound}
use Rattle.mc_cert_text.specs.Certs.{HasShortBound}
use Rattle.mc_cert_text.specs.Tables.{follows_in_least}
use Rattle.mc_cert_text.specs.Value.{least_in, layer_lines_in, bound_lines_in}
use Rattle.mc_cert_text.specs.Kinds.{least_kind}
use Rattle.mc_cert_text.specs.Canonical.{depth_row, layer_row, bound_row}
use Rattle.mc_cert_text.proofs.OwnRows.{not_twice, set_not_twice}

-- the rows say the bound
no_layers : (rows : List BoundRow) → layer_lines_in (map bound_row rows) ≡ []
no_layers [] = refl
no_layers (r ∷ rows) = no_layers rows

layers_back : (layers : List LayerRow) (rows : List BoundRow)
    → layer_lines_in (map layer_row layers ++ map bound_row rows) ≡ layers
layers_back [] rows = no_layers rows
layers_back (r ∷ layers) rows = ap (λ (rs : List LayerRow). r ∷ rs) (layers_back layers rows)

sets_back : (layers : List LayerRow) (rows : List BoundRow)
    → bound_lines_in (map layer_row layers ++ map bound_row rows) ≡ rows
sets_back [] [] = refl
sets_back [] (r ∷ rows) = ap (λ (rs : List BoundRow). r ∷ rs) (sets_back [] rows)
sets_back (r ∷ layers) rows = sets_back layers rows

bound_of : ℕ → List LayerRow → List BoundRow → BoundRows
bound_of depth layers rows = record { depth = depth; layers = layers; rows = rows }

pub bound_back : (b : BoundRows)
    → least_in (depth_row b.depth ∷ (map layer_row b.layers ++ map bound_row b.rows)) ≡ b
unfolding bound_of
bound_back b = ap₂ (bound_of b.depth) (layers_back b.layers b.rows) (sets_back b.layers b.rows)

-- sets behind layers and others
sets_sound : (names : List Name) (last : Option Head) (depth : ℕ) (layers : List LayerRow)
    (before rows : List BoundRow)
    → follows_in_least last (Some Y) ≡ true → follows_in_least last (Some End) ≡ true
    → AreRowsOf (length names) (λ r. r.vertex) (λ r. r.set) rows
    → All (λ r. r.k ≤ 9999) rows → All (λ r. IsRising r.set) rows → AreApart (before ++ rows)
    → AreSound least_kind names last
    (depth_row depth ∷ (map layer_row layers ++ map bound_row before)) (map bound_row rows)
sets_sound names last depth layers before [] next ends sets numbers rising apart = (ends, refl)
sets_sound names last depth layers before (r ∷ rows) next ends sets numbers rising apart =
    let n = length names in
    let same = append_assoc before (r ∷ []) rows in
    let behind = sets_sound names (Some Y) depth layers (before ++ r ∷ []) rows refl refl
    (record {
      vertices = All-tail (λ (s : BoundRow). s.vertex < n) r rows sets.vertices;
      members = All-tail (λ (s : BoundRow). All (λ k. k < n) s.set) r rows sets.members;
    })
    (All-tail (λ (s : BoundRow). s.k ≤ 9999) r rows numbers)
    (All-tail (λ (s : BoundRow). IsRising s.set) r rows rising) (rw same apart) in (
      record {
        head = Y;
        head_is = refl;
        goes = refl;
        follows = next;
        opens = refl;
        number = All-head (λ (s : BoundRow). s.k ≤ 9999) r rows numbers;
        is_named = record {
          name = λ e. All-head (λ (s : BoundRow). s.vertex < n) r rows sets.vertices;
          members = All-head (λ (s : BoundRow). All (λ k. k < n) s.set) r rows sets.members;
        };
        named = λ e. set_not_twice _ before r rows (sets_back layers before) apart;
        listed = λ q e. refl;
        rising = All-head (λ (s : BoundRow). IsRising s.set) r rows rising;
        constant = λ e. absurd (cc e);
        plain = tt;
      },
      subst (λ (done : List Row). AreSound least_kind names (Some Y) done (map bound_row rows))
          (ap (λ (rs : List Row). depth_row depth ∷ (map layer_row layers ++ rs))
          (map-append bound_row before (r ∷ []))
          ∙ ap (λ (rs : List Row). depth_row depth ∷ rs)
          (sym (append_assoc (map layer_row layers) (map bound_row before) (bound_row r ∷ []))))
          behind,
    )

-- layers behind others, and behind them the sets
layers_sound : (names : List Name) (last : Option Head) (depth : ℕ)
    (before layers : List LayerRow) (rows : List BoundRow)
    → follows_in_least last (Some L) ≡ true → follows_in_least last (Some Y) ≡ true
    → follows_in_least last (Some End) ≡ true
    → All (λ r. r.vertex < length names) layers → All (λ r. r.layer ≤ 9999) layers
    → HaveOwnVertices (λ r. r.vertex) (before ++ layers)
    → AreRowsOf (length names) (λ r. r.vertex) (λ r. r.set) rows
    → All (λ r. r.k ≤ 9999) rows → All (λ r. IsRising r.set) rows → AreApart rows
    → AreSound least_kind names last (depth_row depth ∷ map layer_row before)
    (map layer_row layers ++ map bound_row rows)
layers_sound names last depth before [] rows next sets_next ends low short own sets numbers rising
    apart =
    let behind = sets_sound names last depth before [] rows sets_next ends sets numbers rising
    apart in
    subst (λ (done : List Row). AreSound least_kind names last (depth_row depth ∷ done)
    (map bound_row rows)) (append-nil (map layer_row before)) behind
layers_sound names last depth before (r ∷ layers) rows next sets_next ends low short own sets
    numbers rising apart =
    let n = length names in
    let same = append_assoc before (r ∷ []) layers in
    let behind = layers_sound names (Some L) depth (before ++ r ∷ []) layers rows refl refl refl
    (All-tail (λ (s : LayerRow). s.vertex < n) r layers low)
    (All-tail (λ (s : LayerRow). s.layer ≤ 9999) r layers short) (rw same own) sets numbers rising
    apart in
    let alone : layer_lines_in (map layer_row before) ≡ before =
    ap layer_lines_in (sym (append-nil (map layer_row before))) ∙ layers_back before [] in (
      record {
        head = L;
        head_is = refl;
        goes = refl;
        follows = next;
        opens = refl;
        number = All-head (λ (s : LayerRow). s.layer ≤ 9999) r layers short;
        is_named = record {
          name = λ e. All-head (λ (s : LayerRow). s.vertex < n) r layers low;
          members = All-nil (λ (k : ℕ). k < n);
        };
        named = λ e. not_twice (λ (s : LayerRow). s.vertex) _ before r layers alone own;
        listed = λ q e. refl;
        rising = tt;
        constant = λ e. absurd (cc e);
        plain = (refl, refl);
      },
      rw (map-append layer_row before (r ∷ [])) at behind,
    )

pub bound_sound : (g : OpenGraph) (b : BoundRows) → IsBoundIn g b → HasShortBound b
    → AreOwn b.layers b.rows → All (λ r. IsRising r.set) b.rows
    → AreSound least_kind g.names (Some Depth) (depth_row b.depth ∷ [])
    (map layer_row b.layers ++ map bound_row b.rows)
bound_sound g b inside short own rising =
    layers_sound g.names (Some Depth) b.depth [] b.layers b.rows refl refl refl inside.layers
    short.layers own.own inside.rows short.rows rising own.apart
