use Rattle.std.proofs.Common.{refl}
use Rattle.mc_rows.specs.declared.row.Role.TheVariants as role
use Rattle.mc_rows.proofs.Keeping.{role_is, took_head, took_number, took_name, took_colon}
use Rattle.mc_rows.proofs.Keeping.{took_member, stops_member, members_of}
use Rattle.mc_rows.proofs.reader.RowReaderSection.word.Goals as goal

pub returns-in-Ok-clause-ok : goal.returns-in-Ok-clause-ok
returns-in-Ok-clause-ok g c = record {
  same_rules = refl;
  taken = λ before here m e.
      took_head (g.K.Rows.kind c.args.self.now.kind) c.args.self.now.names.now
      (g.K.Rows.holds c.args.self.now.kind) c.args.self.now.row c.take_head.new.row before here c.args.point c.args.word.now
      (role_is (g.K.Rows.kind c.args.self.now.kind).shape c.args.point
      c.shape.result c.role.result role.Record c.shape.ensures c.role.ensures c.in-Record.is)
      c.in-Ok.ensures.clean c.in-Ok.ensures.row m e;
}

pub returns-in-Ok-take_number-clause-ok : goal.returns-in-Ok-take_number-clause-ok
returns-in-Ok-take_number-clause-ok g c = record {
  same_rules = refl;
  taken = λ before here m e.
      took_number (g.K.Rows.kind c.args.self.now.kind) c.args.self.now.names.now
      (g.K.Rows.holds c.args.self.now.kind) c.args.self.now.row c.take_number.new.row before here c.args.point c.args.word.now
      (role_is (g.K.Rows.kind c.args.self.now.kind).shape c.args.point
      c.shape.result c.role.result role.Number c.shape.ensures c.role.ensures c.in-Number.is)
      c.in-Ok-take_number.ensures.clean c.in-Ok-take_number.ensures.row m e;
}

pub returns-in-Ok-take_name-clause-ok : goal.returns-in-Ok-take_name-clause-ok
returns-in-Ok-take_name-clause-ok g c = record {
  same_rules = refl;
  taken = λ before here m e.
      took_name (g.K.Rows.kind c.args.self.now.kind) c.args.self.now.names.now
      (g.K.Rows.holds c.args.self.now.kind) c.args.self.now.row c.take_name.new.row before here c.args.point c.args.word.now
      (role_is (g.K.Rows.kind c.args.self.now.kind).shape c.args.point
      c.shape.result c.role.result role.Name c.shape.ensures c.role.ensures c.in-Name.is)
      c.in-Ok-take_name.ensures.clean c.in-Ok-take_name.ensures.row m e;
}

pub returns-in-Ok-fixed-clause-ok : goal.returns-in-Ok-fixed-clause-ok
returns-in-Ok-fixed-clause-ok g c = record {
  same_rules = refl;
  taken = λ before here m e.
      took_colon (g.K.Rows.kind c.args.self.now.kind) c.args.self.now.names.now
      (g.K.Rows.holds c.args.self.now.kind) c.args.self.now.row before here c.args.point c.args.word.now
      (role_is (g.K.Rows.kind c.args.self.now.kind).shape c.args.point
      c.shape.result c.role.result role.Colon c.shape.ensures c.role.ensures c.in-Colon.is)
      c.in-Ok-fixed.ensures.clean m e;
}

pub returns-in-Ok-take_member-clause-ok : goal.returns-in-Ok-take_member-clause-ok
returns-in-Ok-take_member-clause-ok g c = record {
  same_rules = refl;
  taken = λ before here m e.
      took_member (g.K.Rows.kind c.args.self.now.kind) c.args.self.now.names.now
      (g.K.Rows.holds c.args.self.now.kind) c.args.self.now.row _ before here c.args.point c.args.word.now
      (role_is (g.K.Rows.kind c.args.self.now.kind).shape c.args.point
      c.shape.result c.role.result role.Member c.shape.ensures c.role.ensures c.in-Member.is)
      c.in-Ok-take_member.ensures.clean c.in-Ok-take_member.ensures.joins
      c.in-Ok-take_member.ensures.listed refl m e;
}

pub returns-in-Err-take_member-clause-err : goal.returns-in-Err-take_member-clause-err
returns-in-Err-take_member-clause-err g c = λ before here m e.
    let same = stops_member (g.K.Rows.kind c.args.self.now.kind) c.args.self.now.names.now
    (g.K.Rows.holds c.args.self.now.kind) c.args.self.now.row before here c.args.point c.args.word.now
    (role_is (g.K.Rows.kind c.args.self.now.kind).shape c.args.point
    c.shape.result c.role.result role.Member c.shape.ensures c.role.ensures c.in-Member.is) m e in
    rw same (c.in-Err-take_member.ensures.err _ _ m.held_rows
    (members_of (g.K.Rows.kind c.args.self.now.kind) c.args.self.now.names.now
    (g.K.Rows.holds c.args.self.now.kind)
    c.args.self.now.row before here m))
