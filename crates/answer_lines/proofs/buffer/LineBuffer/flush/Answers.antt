use Rattle.std.proofs.Common.{◌≡◌, List, ℕ, take, OnOk, ◌∙◌, ap, subst}
use Rattle.ports.specs.Sink.{Appends, AppendsFront}
use Rattle.ports.specs.Told.{AsTold}
use Rattle.ports.proofs.Rising.{on_err}
use Rattle.answer_lines.proofs.buffer.LineBuffer.flush.Goals as goal

pub returns-clause-whole : goal.returns-clause-whole
returns-clause-whole g c =
    let piece : take c.self.inside.used c.deref.result.now ≡ c.args.self.now = ap (take c.self.inside.used) c.deref.ensures.value ∙ c.self.view_is in
    subst (λ (bytes : List ℕ). OnOk c.write_all.result (AsTold (Appends bytes) (g.K.Sink.written c.args.out.now) (g.K.Sink.written c.write_all.new.out))) piece c.write_all.ensures.whole

pub returns-clause-front : goal.returns-clause-front
returns-clause-front g c =
    let piece : take c.self.inside.used c.deref.result.now ≡ c.args.self.now = ap (take c.self.inside.used) c.deref.ensures.value ∙ c.self.view_is in
    on_err c.write_all.result (subst (λ (bytes : List ℕ). AsTold (AppendsFront bytes) (g.K.Sink.written c.args.out.now) (g.K.Sink.written c.write_all.new.out)) piece c.write_all.ensures.front)
