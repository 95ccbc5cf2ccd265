use Rattle.std.proofs.Common.{◌∙◌, List, ℕ, length, take, drop, arith, subst, ◌≤◌, length-drop}
use Rattle.std.proofs.lemmas.List.{take_rest}
use Rattle.ports.specs.Told.{AsTold}
use Rattle.ports.specs.Sink.{Appends}
use Rattle.ports.proofs.Streams.{appends_more}
use Rattle.ports.proofs.sink.write_all.Goals as goal

pub loop-done-preserved : goal.loop-done-preserved
loop-done-preserved g c =
    let piece = c.args.piece.now in
    let done = c.loop-done.done in
    let count = c.in_ok-done.field-0 in
    let within : count ≤ length (drop done piece) =
    subst (λ (s : List ℕ). count ≤ length s) (take_rest piece done) c.in_ok-done.ensures.within in
    let more : AsTold (Appends (take count (drop done piece))) (g.K.Sink.written c.loop-done.out) (g.K.Sink.written c.write.new.self) =
    subst (λ (s : List ℕ). AsTold (Appends (take count s)) (g.K.Sink.written c.loop-done.out) (g.K.Sink.written c.write.new.self)) (take_rest piece done) c.in_ok-done.ensures.appended in
    record {
      within = omega (arith, length-drop done piece);
      appended = appends_more piece done count _ _ _ c.loop-done.invariant.appended more;
      calm = c.in_ok-done.ensures.cause.calm ∙ c.loop-done.invariant.calm;
    }
