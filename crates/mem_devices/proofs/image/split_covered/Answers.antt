use Rattle.std.proofs.Common.{take, drop, ◌∙◌, ap}
use Rattle.mem_devices.proofs.Picking.{take-covered, drop-covered}
use Rattle.mem_devices.proofs.image.split_covered.Goals as goal

pub returns-clause-covered : goal.returns-clause-covered
returns-clause-covered c =
    let calls = c.args.calls.now in
    c.split_at.ensures.front ∙ ap (λ n. take n calls) c.covered_count.ensures.count ∙ take-covered calls

pub returns-clause-uncovered : goal.returns-clause-uncovered
returns-clause-uncovered c =
    let calls = c.args.calls.now in
    c.split_at.ensures.back ∙ ap (λ n. drop n calls) c.covered_count.ensures.count ∙ drop-covered calls
