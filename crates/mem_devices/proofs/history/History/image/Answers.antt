use Rattle.std.proofs.Common.{◌≡◌, min, take, drop, length, arith, ◌∙◌, ap}
use Rattle.std.proofs.lemmas.List.{take_min}
use Rattle.mem_devices.specs.History.{after_calls, covered_calls, uncovered_calls}
use Rattle.mem_devices.proofs.Picking.{picked_image_of}
use Rattle.mem_devices.proofs.history.History.image.Goals as goal

pub returns : goal.returns
returns c =
    let calls = c.args.self.now.calls.items in
    let before = c.args.before in
    let earlier = c.split_at.result.0.now in
    let rest = c.split_at.result.1.now in
    let earlier_is : earlier ≡ take before calls = c.split_at.ensures.front ∙ ap (λ all. take before all) c.deref.ensures.value in
    let rest_is : rest ≡ drop before calls = c.split_at.ensures.back ∙ ap (λ all. drop before all) c.deref.ensures.value in
    let one : c.min.result ≡ min 1 (length rest) = omega arith in
    picked_image_of c.args.pick c.args.self.now.first.items calls before c.split_covered.result.0.now c.split_covered.result.1.now (take c.min.result rest) c.replay.new.bytes.items c.take_each.new.bytes.items c.take_each-2.new.bytes.items
    (c.split_covered.ensures.covered ∙ ap covered_calls earlier_is)
    (c.split_covered.ensures.uncovered ∙ ap uncovered_calls earlier_is)
    (ap (λ n. take n rest) one ∙ take_min 1 rest ∙ ap (λ all. take 1 all) rest_is)
    (c.in_ok-replay.ensures ∙ ap (λ bytes. after_calls c.split_covered.result.0.now bytes) (c.in_ok-bytes.ensures.items ∙ c.deref-2.ensures.value))
    c.in_ok-take_each.ensures
    c.in_ok-take_each-2.ensures
