use Rattle.std.proofs.Common.{◌∙◌, List, ap, length}
use Rattle.std.proofs.Common.{length-append, arith}
use Rattle.mc_model.specs.Names.{Name}
use Rattle.mc_compose.specs.Composed.{free_names}
use Rattle.mc_compose.proofs.FreeNames.{length-free_names}
use Rattle.mc_compose.proofs.NewNames.{heads_first, heads_second, tails_first, tails_second}
use Rattle.mc_compose.proofs.OrderedNames.{one_names, two_names, three_names, four_names}
use Rattle.mc_compose.proofs.OrderedNames.{four_are_ordered}
use Rattle.mc_compose.proofs.naming.inputs_first.Goals as goal

pub add_range-requires-clause-names : goal.add_range-requires-clause-names
add_range-requires-clause-names c =
    let first : List Name = c.args.first.now in
    let second : List Name = c.args.second.now in
    rw (
      c.new-names.ensures,
      c.in_ok-all.ensures,
      heads_first first (free_names first second) c.args.heads c.requires.first,
    )
    (one_names c.args.heads c.args.more_heads first second c.requires.few
    c.len-count.ensures.names c.len-more.ensures.names)

pub add_range-requires-2-clause-range : goal.add_range-requires-2-clause-range
add_range-requires-2-clause-range c =
    let first : List Name = c.args.first.now in
    let second : List Name = c.args.second.now in
    let count = c.len-count.ensures.len in
    let long =
    ap length c.in_ok-all.ensures ∙ length-append first (free_names first second) in
    let same = length-free_names first second in
    let few = c.requires.second in
    omega arith

pub add_range-requires-2-clause-names : goal.add_range-requires-2-clause-names
add_range-requires-2-clause-names c =
    let first : List Name = c.args.first.now in
    let second : List Name = c.args.second.now in
    rw (
      c.in_ok-add_range.ensures,
      c.new-names.ensures,
      c.in_ok-all.ensures,
      c.len-count.ensures.len,
      heads_first first (free_names first second) c.args.heads c.requires.first,
      heads_second first (free_names first second) c.args.more_heads,
    )
    (two_names c.args.heads c.args.more_heads first second c.requires.few
    c.len-count.ensures.names c.len-more.ensures.names)

pub add_range-requires-3-clause-names : goal.add_range-requires-3-clause-names
add_range-requires-3-clause-names c =
    let first : List Name = c.args.first.now in
    let second : List Name = c.args.second.now in
    rw (
      c.in_ok-add_range-2.ensures,
      c.in_ok-add_range.ensures,
      c.new-names.ensures,
      c.in_ok-all.ensures,
      c.len-count.ensures.len,
      heads_first first (free_names first second) c.args.heads c.requires.first,
      heads_second first (free_names first second) c.args.more_heads,
      tails_first first (free_names first second) c.args.heads c.requires.first,
    )
    (three_names c.args.heads c.args.more_heads first second c.requires.few
    c.len-count.ensures.names c.len-more.ensures.names)

pub overflow_sub-len : goal.overflow_sub-len
overflow_sub-len c =
    let first : List Name = c.args.first.now in
    let second : List Name = c.args.second.now in
    let count = c.len-count.ensures.len in
    let all = c.len.ensures.len in
    let long =
    ap length c.in_ok-all.ensures ∙ length-append first (free_names first second) in
    let same = length-free_names first second in
    let few = c.requires.second in
    omega arith

pub add_range-requires-4-clause-range : goal.add_range-requires-4-clause-range
add_range-requires-4-clause-range c =
    let first : List Name = c.args.first.now in
    let second : List Name = c.args.second.now in
    let count = c.len-count.ensures.len in
    let all = c.len.ensures.len in
    let long =
    ap length c.in_ok-all.ensures ∙ length-append first (free_names first second) in
    let same = length-free_names first second in
    let few = c.requires.second in
    omega arith

pub add_range-requires-4-clause-names : goal.add_range-requires-4-clause-names
add_range-requires-4-clause-names c =
    let first : List Name = c.args.first.now in
    let second : List Name = c.args.second.now in
    let same = length-free_names first second in
    let few = c.requires.second in
    rw (
      c.in_ok-add_range-3.ensures,
      c.in_ok-add_range-2.ensures,
      c.in_ok-add_range.ensures,
      c.new-names.ensures,
      c.len.ensures.len,
      c.in_ok-all.ensures,
      c.len-count.ensures.len,
      heads_first first (free_names first second) c.args.heads c.requires.first,
      heads_second first (free_names first second) c.args.more_heads,
      tails_first first (free_names first second) c.args.heads c.requires.first,
      tails_second first (free_names first second) c.args.more_heads (omega arith),
    )
    (four_names c.args.heads c.args.more_heads first second c.requires.few
    c.len-count.ensures.names c.len-more.ensures.names)

pub returns : goal.returns
returns c =
    let first : List Name = c.args.first.now in
    let second : List Name = c.args.second.now in
    let same = length-free_names first second in
    let few = c.requires.second in
    rw (
      c.in_ok-add_range-4.ensures,
      c.in_ok-add_range-3.ensures,
      c.in_ok-add_range-2.ensures,
      c.in_ok-add_range.ensures,
      c.new-names.ensures,
      c.len.ensures.len,
      c.in_ok-all.ensures,
      c.len-count.ensures.len,
      heads_first first (free_names first second) c.args.heads c.requires.first,
      heads_second first (free_names first second) c.args.more_heads,
      tails_first first (free_names first second) c.args.heads c.requires.first,
      tails_second first (free_names first second) c.args.more_heads (omega arith),
    )
    (four_are_ordered c.args.heads c.args.more_heads first second c.requires.few
    c.len-count.ensures.names c.len-more.ensures.names)
