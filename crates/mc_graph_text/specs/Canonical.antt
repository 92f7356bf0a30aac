-- The canonical text of an open graph.
use Rattle.std.specs.Prelude.{ℕ, List, [], ◌∷◌, ◌++◌, Bool, ◌||◌, map, codes, take, drop, Option}
use Rattle.std.specs.Prelude.{None, Some, if◌then◌else◌}
use Rattle.std.specs.Fmt.{decimal}
use Rattle.std.specs.List.{flat_map, list_any}
use Rattle.mc_lex.specs.declared.kind.Kind.TheVariants as kind
use Rattle.mc_lex.specs.Lines as lex
use Rattle.mc_model.specs.Names.{Name}
use Rattle.mc_model.specs.Numbers.{numbers_from}
use Rattle.mc_model.specs.Graph.{OpenGraph, Edge, Fixed, size, base_angle, fixed_at, where_fixed}
use Rattle.mc_text.specs.Headers.{header_words}
use Rattle.mc_write.specs.Text.{Line, text_of}
use Rattle.mc_write.specs.Named.{name_at}

-- whether a vertex has a fixed correction
abbrev pub has_fixed : OpenGraph → Bool
has_fixed g = list_any (λ v. (fixed_at g v).x || (fixed_at g v).z) (numbers_from 0 (size g))

-- a fixed correction asks for the second version
abbrev pub graph_version : OpenGraph → ℕ
graph_version g = if has_fixed g then 2 else 1

abbrev pub vertex_line : Name → Line
vertex_line name = codes "n" ∷ name ∷ []

abbrev pub edge_line : List Name → Edge → Line
edge_line names e = codes "e" ∷ name_at names e.one ∷ name_at names e.other ∷ []

-- there is a line for a vertex with a base angle
abbrev pub angle_lines : List Name → ℕ → Option ℕ → List Line
angle_lines names v None = []
angle_lines names v (Some a) = (codes "m" ∷ name_at names v ∷ decimal a ∷ []) ∷ []

-- there is a line for each fixed correction of a vertex, `X` before `Z`
abbrev pub fixed_lines : List Name → ℕ → Fixed → List Line
fixed_lines names v fixed =
    where_fixed fixed ((codes "x" ∷ name_at names v ∷ []) ∷ [])
    ((codes "z" ∷ name_at names v ∷ []) ∷ [])

-- the lines behind the header
abbrev pub graph_lines : OpenGraph → List Line
graph_lines g =
    let vertices = numbers_from 0 (size g) in
    (codes "in" ∷ take g.inputs g.names)
    ∷ (map vertex_line (drop g.inputs g.names)
    ++ (map (edge_line g.names) g.edges
    ++ (flat_map (λ v. angle_lines g.names v (base_angle g v)) vertices
    ++ (codes "out" ∷ map (name_at g.names) g.outputs)
    ∷ (flat_map (λ v. fixed_lines g.names v (fixed_at g v)) vertices ++ (codes "end" ∷ []) ∷ []))))

-- the text, with its header, where half a turn has so many steps
abbrev pub graph_text : ℕ → OpenGraph → List ℕ
graph_text half g = text_of (header_words kind.Graph (graph_version g) half ∷ graph_lines g)

-- the lines of a text behind its header
abbrev pub behind_header : List ℕ → List lex.Line
behind_header text = drop 1 (lex.lines_of text)
