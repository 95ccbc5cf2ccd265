use Rattle.std.proofs.Common.{rules, ◌-◌, length}
use Rattle.rmat_source.proofs.Giving.{more_given}
use Rattle.rmat_source.proofs.text.RmatTextSource.read.Goals as goal

pub lines-preserved : goal.lines-preserved
lines-preserved c = record {
  within = search rules;
  given = more_given c.lines.count (length c.lines.into - c.lines.count) c.give-given.result c.lines.into c.give-given.new.into c.lines.self c.give-given.new.self c.args.self.now c.lines.invariant.within (search rules) c.lines.invariant.given c.give-given.ensures.front;
}
