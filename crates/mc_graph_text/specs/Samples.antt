-- The definitions, computed on small texts: what they spell, and each fault that a graph can meet,
-- with its place.
use Rattle.std.specs.Prelude.{◌≡◌, ℕ, List, [], ◌∷◌, codes, replicate, true, Option, None}
use Rattle.std.specs.Prelude.{Some, refl}
use Rattle.mc_lex.specs.Lines.{lines_of, end_of}
use Rattle.mc_model.specs.Numbers.{pairs_below, pairs_at}
use Rattle.mc_model.specs.Graph.{OpenGraph, edge, not_fixed}
use Rattle.mc_text.specs.declared.fault.Fault.{Fault}
use Rattle.mc_text.specs.declared.fault.Fault.TheVariants.{StrayByte, NotFixed, LineEnds, Surplus}
use Rattle.mc_text.specs.declared.fault.Fault.TheVariants.{NotName, NotAngle, DefinedTwice}
use Rattle.mc_text.specs.declared.fault.Fault.TheVariants.{NotDefined, Measured, SameOperand}
use Rattle.mc_text.specs.declared.fault.Fault.TheVariants.{EdgeTwice, ListedTwice, OutputsLack}
use Rattle.mc_text.specs.declared.fault.Fault.TheVariants.{FixedTwice, TextEnds}
use Rattle.mc_text.specs.Judged.{Judgement, fault, limit, Place, first_in_section, section_lines}
use Rattle.mc_graph_text.specs.Value.{graph_in}
use Rattle.mc_graph_text.specs.Judge.{graph_rules}

-- the first fault or limit of a section that is the whole text
abbrev pub first : ℕ → List ℕ → Option (Judgement × Place)
first version text = first_in_section (graph_rules version) [] (lines_of text) (end_of text)

abbrev pub Breaks : List ℕ → Fault → ℕ → ℕ → Type 0
Breaks text broken line column = first 2 text ≡ Some (fault broken, (line, column))

abbrev pub Spells : List ℕ → OpenGraph → Type 0
Spells text graph = graph_in 4 (section_lines (lines_of text)) ≡ graph

-- a graph whose lines stand in disorder
abbrev pub disorder : List ℕ
disorder = codes "in a b\nm a 03\ne b a\nn c # a comment\ne c a\nm c -1\n\nout b\nz b\nx b\nend\n"

pub disorder_passes : first 2 disorder ≡ None
disorder_passes = refl

pub disorder_spells : Spells disorder (record {
  names = codes "a" ∷ codes "b" ∷ codes "c" ∷ [];
  inputs = 2;
  outputs = 1 ∷ [];
  edges = edge 0 1 ∷ edge 0 2 ∷ [];
  angles = Some 3 ∷ None ∷ Some 7 ∷ [];
  fixed = not_fixed ∷ record { x = true; z = true } ∷ not_fixed ∷ [];
})
unfolding pairs_below pairs_at
disorder_spells = refl

pub no_corrections_in_version_1 : first 1 disorder ≡ Some (fault NotFixed, (9, 1))
no_corrections_in_version_1 = refl

pub without_vertices : first 1 (codes "in\nout\nend") ≡ None
without_vertices = refl

pub stray_byte : Breaks (codes "in a \u{7f}\nout a\nend\n") StrayByte 1 6
stray_byte = refl

pub begins_otherwise : Breaks (codes "n a\nout a\nend\n") NotFixed 1 1
begins_otherwise = refl

pub edge_behind_outputs : Breaks (codes "in a b\nout a b\ne a b\nend\n") NotFixed 3 1
edge_behind_outputs = refl

pub correction_before_outputs : Breaks (codes "in a\nx a\nout a\nend\n") NotFixed 2 1
correction_before_outputs = refl

pub end_without_outputs : Breaks (codes "in a\nend\n") NotFixed 2 1
end_without_outputs = refl

pub lacks_vertex : Breaks (codes "in a\nn \nout a\nend\n") LineEnds 2 2
lacks_vertex = refl

pub lacks_end : Breaks (codes "in a b\ne a\nout a b\nend\n") LineEnds 2 4
lacks_end = refl

pub lacks_angle : Breaks (codes "in a\nm a\nout\nend\n") LineEnds 2 4
lacks_angle = refl

pub lacks_fixed : Breaks (codes "in a\nout a\nz\nend\n") LineEnds 3 2
lacks_fixed = refl

pub second_vertex : Breaks (codes "in\nn a b\nout a\nend\n") Surplus 2 5
second_vertex = refl

pub third_end : Breaks (codes "in a b\ne a b a\nout a b\nend\n") Surplus 2 7
third_end = refl

pub second_fixed : Breaks (codes "in a\nout a\nx a a\nend\n") Surplus 3 5
second_fixed = refl

pub no_name : Breaks (codes "in a-b\nout\nend\n") NotName 1 4
no_name = refl

pub no_angle : Breaks (codes "in a\nm a b\nout\nend\n") NotAngle 2 5
no_angle = refl

pub defined_twice : Breaks (codes "in a\nn a\nout a\nend\n") DefinedTwice 2 3
defined_twice = refl

pub undefined_end : Breaks (codes "in a\ne a b\nout a\nend\n") NotDefined 2 5
undefined_end = refl

pub second_angle : Breaks (codes "in a\nm a 1\nm a 2\nout\nend\n") Measured 3 3
second_angle = refl

pub output_with_an_angle : Breaks (codes "in a\nm a 1\nout a\nend\n") Measured 3 5
output_with_an_angle = refl

pub fixed_inside : Breaks (codes "in a b\nm a 1\nout b\nx a\nend\n") Measured 4 3
fixed_inside = refl

pub equal_ends : Breaks (codes "in a\ne a a\nout a\nend\n") SameOperand 2 5
equal_ends = refl

pub edge_twice : Breaks (codes "in a b\ne a b\ne b a\nout a b\nend\n") EdgeTwice 3 5
edge_twice = refl

pub listed_twice : Breaks (codes "in a b\nout a b a\nend\n") ListedTwice 2 9
listed_twice = refl

pub output_lacks : Breaks (codes "in a b\nm a 0\nout \nend") OutputsLack 3 4
output_lacks = refl

pub fixed_twice : Breaks (codes "in a\nout a\nx a\nz a\nx a\nend\n") FixedTwice 5 3
fixed_twice = refl

pub cut : Breaks (codes "in a\nout a\n") TextEnds 3 1
cut = refl

-- the words behind `in`, 256 of them
abbrev pub many : List (List ℕ)
many = codes "in" ∷ replicate 256 (codes "a")

pub names_pass : (graph_rules 1).judge [] many (codes "b") ≡ Some (limit 2 257)
names_pass = refl
