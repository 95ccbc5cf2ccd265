-- One edge more, and what was sent where a lane fails.
use Rattle.std.proofs.Common.{◌≡◌, ◌+◌, ◌≤◌, [], ◌∷◌, ◌++◌, length, take, get_or, sym, ◌∙◌, ap, subst, arith, length-take}
use Rattle.graph_model.specs.declared.edge.Edge.{Edge}
use Rattle.graph_model.specs.declared.value.Update.{Update}
use Rattle.graph_model.specs.Programs.{Rules}
use Rattle.phase_model.specs.Sends.{Sending, update_to, sent_along, sent_by}
use Rattle.update_lanes.specs.Outgoing.{SendsOn}
use Rattle.update_lanes.specs.Sending.{sending_all}
use Rattle.ports.proofs.Rising.{on_err}
use Rattle.update_lanes.proofs.GoingOn.{rose_since, err_cause}
use Rattle.update_lanes.proofs.Sends.{sent_by-next, sends_then, stops_then, length-sent_by}
use Rattle.update_lanes.proofs.sending.send_all.Goals as goal

pub edges-preserved : goal.edges-preserved
edges-preserved g c =
    let i = c.edges.edge-index in
    let none : Edge = record { src = 0; dst = 0; weight = 0 } in
    let edge : Edge = get_or c.args.edges.now i none in
    let rules_of : Rules = g.P.VertexProgram.rules c.args.program.now in
    let s : Sending = sending_all (g.P.VertexProgram.rules c.args.program.now) c.args.first c.args.now.now in
    let update : Update = record { dst = edge.dst; value = c.in-Some.number } in
    let along : sent_along s edge ≡ update ∷ [] = ap (update_to edge.dst) (sym c.send.ensures ∙ c.in-Some.is) in
    let one : SendsOn g.D.Disk.state c.args.beat.now c.edges.out c.put.new.out c.edges.lanes c.put.new.lanes c.edges.places.items c.put.new.places.items (update ∷ []) = record {
      same = c.put.ensures.same;
      room = c.put.ensures.room;
      open_still = c.in_ok-put.ensures.open;
      go_on = c.put.ensures.lanes;
      ready = c.in_ok-put.ensures.ready;
      within = c.put.ensures.within;
      sent = c.in_ok-put.ensures.sent;
    } in
    let whole : sent_by s (take i c.args.edges.now) ++ update ∷ [] ≡ sent_by s (take (i + 1) c.args.edges.now) =
    sym (sent_by-next s c.args.edges.now i none c.edges-test.true ∙ ap (λ us. sent_by s (take i c.args.edges.now) ++ us) along) in
    record {
      sends = subst (λ us. SendsOn g.D.Disk.state c.args.beat.now c.args.out.now c.put.new.out c.args.lanes.now c.put.new.lanes c.args.places.now.items c.put.new.places.items us) whole
          (sends_then g.D.Disk.state c.args.beat.now c.args.out.now c.edges.out c.put.new.out c.args.lanes.now c.edges.lanes c.put.new.lanes c.args.places.now.items c.edges.places.items c.put.new.places.items (sent_by s (take i c.args.edges.now)) (update ∷ []) c.edges.invariant.sends one);
      calm = c.in_ok-put.ensures.calm ∙ c.edges.invariant.calm;
    }

pub returns-in_err-put-clause-stops : goal.returns-in_err-put-clause-stops
returns-in_err-put-clause-stops g c =
    let i = c.edges.edge-index in
    let s : Sending = sending_all (g.P.VertexProgram.rules c.args.program.now) c.args.first c.args.now.now in
    let few : length (sent_by s (take i c.args.edges.now)) ≤ length c.args.edges.now = omega (arith, length-sent_by s (take i c.args.edges.now), length-take i c.args.edges.now) in
    on_err c.from_residual.result
    (stops_then g.D.Disk.state c.args.beat.now c.args.out.now c.edges.out c.put.new.out c.args.lanes.now c.edges.lanes c.put.new.lanes c.args.places.now.items c.edges.places.items c.put.new.places.items (sent_by s (take i c.args.edges.now)) (length c.args.edges.now)
    c.edges.invariant.sends c.put.ensures.same c.put.ensures.room c.put.ensures.lanes c.in_err-put.ensures.kept few)

pub returns-in_err-put-clause-cause : goal.returns-in_err-put-clause-cause
returns-in_err-put-clause-cause g c =
    err_cause c.from_residual.result _ _
    (λ fault same is. rose_since g.D.Disk.state c.args.beat.now c.args.lanes.now c.edges.lanes c.put.new.lanes c.edges.invariant.sends.go_on (c.in_err-put.ensures.cause (sym same ∙ is)))
    c.from_residual.ensures.1
